-- What calls have left as it was, and what survives a crash since a sync.
use Rattle.std.proofs.Common.{◌≡◌, ℕ, ◌+◌, ◌/◌, ◌≤◌, ◌<◌, true, false, List, [], ◌∷◌, length, drop, min, ◌-◌, arith, refl, sym, ◌∙◌, ap, subst, inl, inr}
use mathlib.Core.Bool.{true≢false}
use Rattle.std.specs.Prelude.{slice_index}
use Rattle.std.proofs.lemmas.List.{get_or_past, get_or-take, get_or-drop, length-take, length-drop}
use Rattle.std.proofs.lemmas.Grind.{same_number_lists}
use Rattle.era_base.specs.Bytes.{part}
use Rattle.std.proofs.lemmas.Bool.{cases_lt}
use Rattle.era_base.specs.CrashModel.{State, History, Stepped, Went, SameBut, Wrote, Synced, IsWhole, IsClean, clock, is_pending}
use Rattle.era_base.specs.CrashLaws.{IsImageBetween, ByteRange, range_of, IsOutside, SameOutside}
use Rattle.era_base.proofs.Moments.{went-none, went-step, went-join}

pub failed-leaves : (range : ByteRange) (before after : State) → SameBut range.from range.to before after → SameOutside (range ∷ []) before after
failed-leaves range before after same = record {
  bytes = same.bytes;
  flags = same.flags;
  seen = λ offset outside. same.seen offset outside.0;
  clean = λ offset outside was. same.clean offset outside.0 was;
}

pub write-leaves : (first : ℕ) (bytes : List ℕ) (before after : State) → Wrote first bytes before after → SameOutside (range_of first bytes ∷ []) before after
write-leaves first bytes before after wrote = failed-leaves (range_of first bytes) before after wrote.same

pub outside-none : (before after : State) → after ≡ before → SameOutside [] before after
outside-none before after same = subst (λ state. SameOutside [] before state) (sym same)
    (record { bytes = refl; flags = refl; seen = λ offset outside. refl; clean = λ offset outside was. was })

pub same-join : (ranges : List ByteRange) (range : ByteRange) (before mid after : State)
    → SameOutside ranges before mid → SameOutside (range ∷ []) mid after → SameOutside (range ∷ ranges) before after
same-join ranges range before mid after one two = record {
  bytes = two.bytes ∙ one.bytes;
  flags = two.flags ∙ one.flags;
  seen = λ offset outside. two.seen offset (outside.0, tt) ∙ one.seen offset outside.1;
  clean = λ offset outside was. two.clean offset (outside.0, tt) (one.clean offset outside.1 was);
}

-- a sync leaves everything: past the end each sector counts as pending
clean-again : (sectors : ℕ) (before after : State) → IsWhole sectors before → Synced before after
    → (offset : ℕ) → is_pending before offset ≡ false → is_pending after offset ≡ false
clean-again sectors before after whole synced offset was =
    elim (cases_lt offset (length after.seen)) [
      | inl inside ↦ synced.clean offset inside
      | inr past ↦
          let none : length before.pending ≤ offset / 512 = omega (arith, past, ap length synced.seen, whole.bytes, whole.flags) in
          absurd (true≢false (sym (get_or_past before.pending (offset / 512) true none) ∙ was))
    ]

pub sync-leaves : (sectors : ℕ) (before after : State) → IsWhole sectors before → Synced before after → SameOutside [] before after
sync-leaves sectors before after whole synced = record {
  bytes = ap length synced.seen;
  flags = synced.flags;
  seen = λ offset outside. ap (λ seen. slice_index seen offset) synced.seen;
  clean = λ offset outside was. clean-again sectors before after whole synced offset was;
}

quiet-join : (ranges : List ByteRange) (before mid after : State)
    → SameOutside ranges before mid → SameOutside [] mid after → SameOutside ranges before after
quiet-join ranges before mid after one two = record {
  bytes = two.bytes ∙ one.bytes;
  flags = two.flags ∙ one.flags;
  seen = λ offset outside. two.seen offset tt ∙ one.seen offset outside;
  clean = λ offset outside was. two.clean offset tt (one.clean offset outside was);
}

wider : (ranges : List ByteRange) (range : ByteRange) (before after : State) → SameOutside ranges before after → SameOutside (range ∷ ranges) before after
wider ranges range before after same = record {
  bytes = same.bytes;
  flags = same.flags;
  seen = λ offset outside. same.seen offset outside.1;
  clean = λ offset outside was. same.clean offset outside.1 was;
}

-- calls, and more calls
pub went-outside_none : (history : History) → Went (SameOutside []) history history
went-outside_none history = went-none (SameOutside []) history (outside-none history.now history.now refl)

pub went-calls : (old mid new : History) (ranges : List ByteRange) (range : ByteRange)
    → Went (SameOutside ranges) old mid → Went (SameBut range.from range.to) mid new → Went (SameOutside (range ∷ ranges)) old new
went-calls old mid new ranges range one two =
    went-join (SameOutside ranges) (SameBut range.from range.to) (SameOutside (range ∷ ranges)) old mid new one two
    (λ state same. wider ranges range old.now state same)
    (λ state same but. same-join ranges range old.now mid.now state same (failed-leaves range mid.now state but))

pub went-call : (old mid new : History) (ranges : List ByteRange) (range : ByteRange)
    → Went (SameOutside ranges) old mid → Stepped mid new → SameOutside (range ∷ []) mid.now new.now → Went (SameOutside (range ∷ ranges)) old new
went-call old mid new ranges range one step same =
    went-join (SameOutside ranges) (SameOutside (range ∷ [])) (SameOutside (range ∷ ranges)) old mid new one
    (went-step (SameOutside (range ∷ [])) mid new step (wider [] range mid.now mid.now (outside-none mid.now mid.now refl)) same)
    (λ state was. wider ranges range old.now state was)
    (λ state was but. same-join ranges range old.now mid.now state was but)

pub went-quiet : (old mid new : History) (ranges : List ByteRange)
    → Went (SameOutside ranges) old mid → Stepped mid new → SameOutside [] mid.now new.now → Went (SameOutside ranges) old new
went-quiet old mid new ranges one step same =
    went-join (SameOutside ranges) (SameOutside []) (SameOutside ranges) old mid new one
    (went-step (SameOutside []) mid new step (outside-none mid.now mid.now refl) same)
    (λ state was. was)
    (λ state was but. quiet-join ranges old.now mid.now state was but)

-- since a sync
pub image-size : (synced new : History) (ranges : List ByteRange) (image : List ℕ)
    → Went (SameOutside ranges) synced new → IsImageBetween new (clock synced) (clock new) image → length image ≡ length synced.now.seen
image-size synced new ranges image went is = is.left.size ∙ (went.moments is.moment is.begun is.ended).bytes

pub image-kept : (synced new : History) (ranges : List ByteRange) (image : List ℕ) (offset : ℕ)
    → IsClean synced.now → Went (SameOutside ranges) synced new → IsImageBetween new (clock synced) (clock new) image
    → IsOutside ranges offset → slice_index image offset ≡ slice_index synced.now.seen offset
image-kept synced new ranges image offset clean went is outside =
    let same = went.moments is.moment is.begun is.ended in
    elim (cases_lt offset (length synced.now.seen)) [
      | inl inside ↦ is.left.kept offset (same.clean offset outside (clean offset inside)) ∙ same.seen offset outside
      | inr past ↦
          let size = image-size synced new ranges image went is in
          get_or_past image offset 0 (omega (arith, size, past)) ∙ sym (get_or_past synced.now.seen offset 0 past)
    ]

part-same : (xs ys : List ℕ) (at count : ℕ) → length xs ≡ length ys
    → ((offset : ℕ) → at ≤ offset → offset < at + count → slice_index xs offset ≡ slice_index ys offset) → part at count xs ≡ part at count ys
part-same xs ys at count size same =
    same_number_lists (part at count xs) (part at count ys)
    (length-take count (drop at xs) ∙ ap (min count) (length-drop at xs ∙ ap (λ n. n - at) size ∙ sym (length-drop at ys)) ∙ sym (length-take count (drop at ys)))
    (λ k below.
    let inside : k < count = omega (arith, below, length-take count (drop at xs)) in
    get_or-take count (drop at xs) k 0 inside ∙ get_or-drop at xs k 0
    ∙ same (at + k) (omega arith) (omega (arith, inside))
    ∙ sym (get_or-take count (drop at ys) k 0 inside ∙ get_or-drop at ys k 0))

pub part-kept : (synced new : History) (ranges : List ByteRange) (image : List ℕ) (at count : ℕ)
    → IsClean synced.now → Went (SameOutside ranges) synced new → IsImageBetween new (clock synced) (clock new) image
    → ((offset : ℕ) → at ≤ offset → offset < at + count → IsOutside ranges offset) → part at count image ≡ part at count synced.now.seen
part-kept synced new ranges image at count clean went is outside =
    part-same image synced.now.seen at count (image-size synced new ranges image went is)
    (λ offset low high. image-kept synced new ranges image offset clean went is (outside offset low high))
