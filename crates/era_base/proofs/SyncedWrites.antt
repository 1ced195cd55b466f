-- A write and the sync behind it: what each moment and the last state are to the state before.
use Rattle.std.proofs.Common.{◌≡◌, ℕ, ◌+◌, ◌*◌, ◌/◌, ◌≤◌, true, List, ◌++◌, length, get_or, take, drop, refl, sym, ap, ◌∙◌, subst, arith, inl, inr}
use Rattle.std.specs.Prelude.{Result, Ok, Err}
use Rattle.std.proofs.lemmas.Bool.{cases_lt, false≢true}
use Rattle.std.proofs.lemmas.List.{get_or_past, length-take-le, append_assoc}
use Rattle.std.proofs.Math.Seq.{drop-append_seam, take-append_seam}
use Rattle.era_base.specs.Bytes.{part, splice}
use Rattle.era_base.specs.CrashModel.{State, History, Stepped, IsWhole, SameBut, Synced, Went, is_pending, clock}
use Rattle.era_base.specs.Disk.{Syncs}
use Rattle.era_base.specs.Calls.{IsOnDisk}
use Rattle.era_base.proofs.CrashImages.{stepped-clock}
use Rattle.era_base.proofs.Moments.{went-step, went-join}

same_but-none : (from to : ℕ) (state : State) → SameBut from to state state
same_but-none from to state = record { bytes = refl; flags = refl; seen = λ offset out. refl; clean = λ offset out is. is }

same_but-join : (from to : ℕ) (one two three : State) → SameBut from to one two → SameBut from to two three → SameBut from to one three
same_but-join from to one two three a b = record {
  bytes = b.bytes ∙ a.bytes;
  flags = b.flags ∙ a.flags;
  seen = λ offset out. b.seen offset out ∙ a.seen offset out;
  clean = λ offset out is. b.clean offset out (a.clean offset out is);
}

past-pending : (state : State) (offset : ℕ) → length state.pending * 512 ≡ length state.seen → length state.seen ≤ offset → is_pending state offset ≡ true
past-pending state offset whole le = get_or_past state.pending (offset / 512) true (omega arith)

same_but-synced : (from to sectors : ℕ) (before after : State) → IsWhole sectors before → Synced before after → SameBut from to before after
same_but-synced from to sectors before after whole s = record {
  bytes = ap length s.seen;
  flags = s.flags;
  seen = λ offset out. ap (λ (xs : List ℕ). get_or xs offset 0) s.seen;
  clean = λ offset out is. elim (cases_lt offset (length after.seen)) [
    | inl lt ↦ s.clean offset lt
    | inr ge ↦ absurd (false≢true (sym is ∙ past-pending before offset (omega (arith, whole.bytes, whole.flags)) (omega (arith, ap length s.seen))))
  ];
}

same_but-syncs : {T E : Type 0} (from to sectors : ℕ) (result : Result T E) (old new : History) → IsWhole sectors old.now → Syncs result old new
    → SameBut from to old.now new.now
same_but-syncs from to sectors (Ok value) old new whole s = same_but-synced from to sectors old.now new.now whole s.outcome
same_but-syncs from to sectors (Err error) old new whole s = subst (SameBut from to old.now) (sym s.outcome) (same_but-none from to old.now)

-- the write failed
pub went-failed : (from to : ℕ) (old new : History) → Stepped old new → SameBut from to old.now new.now → Went (SameBut from to) old new
went-failed from to old new step same = went-step (SameBut from to) old new step (same_but-none from to old.now) same

-- the write answered Ok, and a sync came behind it
pub went-synced : {T E : Type 0} (from to sectors : ℕ) (result : Result T E) (old mid new : History) → Stepped old mid → SameBut from to old.now mid.now
    → IsWhole sectors mid.now → Syncs result mid new → Went (SameBut from to) old new
went-synced from to sectors result old mid new step same whole synced =
    went-join (SameBut from to) (SameBut from to) (SameBut from to) old mid new
    (went-step (SameBut from to) old mid step (same_but-none from to old.now) same)
    (went-step (SameBut from to) mid new synced.time (same_but-none from to mid.now) (same_but-syncs from to sectors result mid new whole synced))
    (λ state one. one)
    (λ state one two. same_but-join from to old.now mid.now state one two)

pub clock-synced : {T E : Type 0} (result : Result T E) (old mid new : History) → Stepped old mid → Syncs result mid new → clock new ≡ clock old + 2
clock-synced result old mid new step synced = omega (arith, stepped-clock old mid step, stepped-clock mid new synced.time)

part-splice : (old bytes : List ℕ) (at : ℕ) → at ≤ length old → part at (length bytes) (splice old at bytes) ≡ bytes
part-splice old bytes at le =
    let rest = drop (at + length bytes) old in
    ap (λ (k : ℕ). take (length bytes) (drop k (splice old at bytes))) (sym (length-take-le at old le))
    ∙ ap (λ (xs : List ℕ). take (length bytes) (drop (length (take at old)) xs)) (append_assoc (take at old) bytes rest)
    ∙ ap (take (length bytes)) (drop-append_seam (take at old) (bytes ++ rest))
    ∙ take-append_seam bytes rest

-- both answered Ok
pub on_disk-synced : (at : ℕ) (bytes : List ℕ) (before mid after : State) → at ≤ length before.seen → mid.seen ≡ splice before.seen at bytes
    → Synced mid after → IsOnDisk at bytes after
on_disk-synced at bytes before mid after le wrote synced = record {
  holds = ap (part at (length bytes)) (synced.seen ∙ wrote) ∙ part-splice before.seen bytes at le;
  clean = synced.clean;
}
