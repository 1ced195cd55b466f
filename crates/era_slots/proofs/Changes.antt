-- Which bytes a crash leaves, and which bytes and flags stay across calls, by ranges of offsets.
use Rattle.std.proofs.Common.{◌≡◌, ℕ, ◌+◌, ◌*◌, ◌/◌, ◌<◌, ◌≤◌, true, List, length, get_or, drop, refl, sym, ap, ◌∙◌, subst, arith, inl, inr}
use Rattle.std.proofs.lemmas.Bool.{cases_lt, false≢true}
use Rattle.std.proofs.lemmas.List.{ext_get_or, get_or-take, get_or-drop, length-drop, length-take, get_or_past}
use Rattle.era_base.specs.Bytes.{part}
use Rattle.era_base.specs.CrashModel.{State, IsCrashImage, SameBut, Synced, is_pending}
use Rattle.era_slots.specs.Standing.{IsCleanIn}

-- two lists of bytes are the same from one offset up to another
pub record AgreeIn (from to : ℕ) (one two : List ℕ) : Type 0 where
  pub size : length one ≡ length two
  pub same : (offset : ℕ) → from ≤ offset → offset < to → get_or one offset 0 ≡ get_or two offset 0

pub agree-image : (from to : ℕ) (state : State) (image : List ℕ) → IsCleanIn from to state → IsCrashImage state image
    → AgreeIn from to image state.seen
agree-image from to state image clean is = record { size = is.size; same = λ offset above below. is.kept offset (clean offset above below) }

-- the offsets of one range lie outside of another one
abbrev pub Apart : ℕ → ℕ → ℕ → ℕ → Type 0
Apart from to first last = (offset : ℕ) → from ≤ offset → offset < to → first ≤ offset → last ≤ offset

pub agree-same : (from to first last : ℕ) (before after : State) → Apart from to first last → SameBut first last before after
    → AgreeIn from to after.seen before.seen
agree-same from to first last before after apart s = record { size = s.bytes; same = λ offset above below. s.seen offset (apart offset above below) }

pub clean-same : (from to first last : ℕ) (before after : State) → Apart from to first last → SameBut first last before after
    → IsCleanIn from to before → IsCleanIn from to after
clean-same from to first last before after apart s clean = λ offset above below. s.clean offset (apart offset above below) (clean offset above below)

pub agree-join : (from to : ℕ) (one two three : List ℕ) → AgreeIn from to one two → AgreeIn from to two three → AgreeIn from to one three
agree-join from to one two three a b = record { size = a.size ∙ b.size; same = λ offset above below. a.same offset above below ∙ b.same offset above below }

pub agree-narrow : (from to first last : ℕ) (one two : List ℕ) → from ≤ first → last ≤ to → AgreeIn from to one two → AgreeIn first last one two
agree-narrow from to first last one two le ge a = record { size = a.size; same = λ offset above below. a.same offset (omega arith) (omega arith) }

pub clean-narrow : (from to first last : ℕ) (state : State) → from ≤ first → last ≤ to → IsCleanIn from to state → IsCleanIn first last state
clean-narrow from to first last state le ge clean = λ offset above below. clean offset (omega arith) (omega arith)

pub part-agree : (at count from to : ℕ) (one two : List ℕ) → from ≤ at → at + count ≤ to → AgreeIn from to one two
    → part at count one ≡ part at count two
part-agree at count from to one two above below a =
    let size : length (part at count one) ≡ length (part at count two)
    = omega (arith, length-take count (drop at one), length-take count (drop at two), length-drop at one, length-drop at two, a.size) in
    ext_get_or 0 (part at count one) (part at count two) size
    (λ i lt. let inside : i < count = omega (arith, length-take count (drop at one)) in
    get_or-take count (drop at one) i 0 inside ∙ get_or-drop at one i 0
    ∙ a.same (at + i) (omega arith) (omega arith)
    ∙ sym (get_or-take count (drop at two) i 0 inside ∙ get_or-drop at two i 0))

-- a part of a part
pub part-part : (at count inner size : ℕ) (bytes : List ℕ) → inner + size ≤ count → part inner size (part at count bytes) ≡ part (at + inner) size bytes
part-part at count inner size bytes fits =
    let len : length (part inner size (part at count bytes)) ≡ length (part (at + inner) size bytes)
    = omega (
      arith,
      length-take size (drop inner (part at count bytes)),
      length-drop inner (part at count bytes),
      length-take count (drop at bytes),
      length-drop at bytes,
      length-take size (drop (at + inner) bytes),
      length-drop (at + inner) bytes,
    ) in
    ext_get_or 0 _ _ len
    (λ i lt. let inside : i < size = omega (arith, length-take size (drop inner (part at count bytes))) in
    get_or-take size (drop inner (part at count bytes)) i 0 inside ∙ get_or-drop inner (part at count bytes) i 0
    ∙ get_or-take count (drop at bytes) (inner + i) 0 (omega arith) ∙ get_or-drop at bytes (inner + i) 0
    ∙ ap (λ (k : ℕ). get_or bytes k 0) (let e : at + (inner + i) ≡ at + inner + i = omega arith in e)
    ∙ sym (get_or-take size (drop (at + inner) bytes) i 0 inside ∙ get_or-drop (at + inner) bytes i 0))

-- changes one after another
pub same_but-none : (from to : ℕ) (state : State) → SameBut from to state state
same_but-none from to state = record { bytes = refl; flags = refl; seen = λ offset out. refl; clean = λ offset out is. is }

pub same_but-same : (from to : ℕ) (before after : State) → after ≡ before → SameBut from to before after
same_but-same from to before after same = subst (SameBut from to before) (sym same) (same_but-none from to before)

pub same_but-join : (from to : ℕ) (one two three : State) → SameBut from to one two → SameBut from to two three → SameBut from to one three
same_but-join from to one two three a b = record {
  bytes = b.bytes ∙ a.bytes;
  flags = b.flags ∙ a.flags;
  seen = λ offset out. b.seen offset out ∙ a.seen offset out;
  clean = λ offset out is. b.clean offset out (a.clean offset out is);
}

pub same_but-wider : (from to first last : ℕ) (one two : State) → first ≤ from → to ≤ last → SameBut from to one two → SameBut first last one two
same_but-wider from to first last one two le ge s = record {
  bytes = s.bytes;
  flags = s.flags;
  seen = λ offset out. s.seen offset (λ above. let behind = out (omega arith) in omega arith);
  clean = λ offset out is. s.clean offset (λ above. let behind = out (omega arith) in omega arith) is;
}

-- past the end all counts as pending
past-pending : (state : State) (offset : ℕ) → length state.pending * 512 ≡ length state.seen → length state.seen ≤ offset → is_pending state offset ≡ true
past-pending state offset whole le = get_or_past state.pending (offset / 512) true (omega arith)

-- a sync changes nothing; past the end all counts as pending before and after it
pub synced-same : (from to : ℕ) (before after : State) → length before.pending * 512 ≡ length before.seen → Synced before after → SameBut from to before after
synced-same from to before after whole s = record {
  bytes = ap length s.seen;
  flags = s.flags;
  seen = λ offset out. ap (λ (xs : List ℕ). get_or xs offset 0) s.seen;
  clean = λ offset out is. elim (cases_lt offset (length after.seen)) [
    | inl lt ↦ s.clean offset lt
    | inr ge ↦ absurd (false≢true (sym is ∙ past-pending before offset whole (omega (arith, ap length s.seen))))
  ];
}
