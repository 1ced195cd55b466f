-- Parts that are synced one after the other.
use Rattle.std.proofs.Common.{◌≡◌, ℕ, ◌+◌, ◌*◌, ◌/◌, ◌≤◌, true, List, length, get_or, Option, Some, slice_get, slice_set, refl, sym, ap, ◌∙◌, subst, arith, inl, inr}
use Rattle.std.specs.Prelude.{Result, Ok, Err, unwrap_or}
use Rattle.std.proofs.lemmas.Bool.{cases_lt, false≢true}
use Rattle.std.proofs.lemmas.List.{get_or_past, length-set}
use Rattle.era_base.specs.Calls.{SameDisk}
use Rattle.era_base.specs.CrashModel.{State, History, IsWhole, SameBut, Synced, Went, is_pending}
use Rattle.era_base.specs.Disk.{Syncs}
use Rattle.era_base.specs.Faults.{Rose}
use Rattle.era_base.specs.declared.disk.Disk.{Ghosts}
use Rattle.era_base.proofs.CrashImages.{stepped-clock}
use Rattle.era_base.proofs.Moments.{went-step}
use Rattle.era_session.specs.Openings.{AreSyncedBelow, FailsAtPart, FailsToSync, IsSynced}
use Rattle.era_session.proofs.ListsInOrder.{set-other, set-same}

quiet-none : (state : State) → SameBut 0 0 state state
quiet-none state = record { bytes = refl; flags = refl; seen = λ offset out. refl; clean = λ offset out is. is }

past-pending : (state : State) (offset : ℕ) → length state.pending * 512 ≡ length state.seen → length state.seen ≤ offset → is_pending state offset ≡ true
past-pending state offset whole le = get_or_past state.pending (offset / 512) true (omega arith)

quiet-synced : (sectors : ℕ) (before after : State) → IsWhole sectors before → Synced before after → SameBut 0 0 before after
quiet-synced sectors before after whole s = record {
  bytes = ap length s.seen;
  flags = s.flags;
  seen = λ offset out. ap (λ (xs : List ℕ). get_or xs offset 0) s.seen;
  clean = λ offset out is. elim (cases_lt offset (length after.seen)) [
    | inl low ↦ s.clean offset low
    | inr past ↦ absurd (false≢true (sym is ∙ past-pending before offset (omega (arith, whole.bytes, whole.flags)) (omega (arith, ap length s.seen))))
  ];
}

quiet-syncs : {T E : Type 0} (sectors : ℕ) (result : Result T E) (old new : History) → IsWhole sectors old.now → Syncs result old new → SameBut 0 0 old.now new.now
quiet-syncs sectors (Ok value) old new whole s = quiet-synced sectors old.now new.now whole s.outcome
quiet-syncs sectors (Err error) old new whole s = subst (SameBut 0 0 old.now) (sym s.outcome) (quiet-none old.now)

went-syncs : {T E : Type 0} (sectors : ℕ) (result : Result T E) (old new : History) → IsWhole sectors old.now → Syncs result old new → Went (SameBut 0 0) old new
went-syncs sectors result old new whole s = went-step (SameBut 0 0) old new s.time (quiet-none old.now) (quiet-syncs sectors result old new whole s)

abbrev pub IsWholeDisk : {D : Type 0} → Ghosts D → D → Type 0
IsWholeDisk disk part = disk.tells ≡ true → IsWhole (disk.sectors part) (disk.history part).now

-- one part
pub part-synced : {D E : Type 0} (disk : Ghosts D) (old new : D) → IsWholeDisk disk old → (disk.tells ≡ true → Syncs {T = Unit} {E = E} (Ok tt) (disk.history old) (disk.history new))
    → SameDisk disk old new → disk.faults new ≡ disk.faults old → IsSynced disk old new
part-synced {D} {E} disk old new whole told same none = record {
  quiet = λ tells. went-syncs {T = Unit} {E = E} (disk.sectors old) (Ok tt) (disk.history old) (disk.history new) (whole tells) (told tells);
  clean = λ tells. (told tells).outcome.clean;
  calls = λ tells. stepped-clock (disk.history old) (disk.history new) (told tells).time;
  same = same;
  none = none;
}

pub part-failed : {D E : Type 0} (disk : Ghosts D) (old new : D) (error : E) (count : ℕ) → IsWholeDisk disk old → (disk.tells ≡ true → Syncs {T = Unit} {E = E} (Err error) (disk.history old) (disk.history new))
    → SameDisk disk old new → count ≡ disk.faults new → Rose (disk.faults old) (disk.faults new) → FailsToSync disk count old new
part-failed {D} {E} disk old new error count whole told same is rose = record {
  quiet = λ tells. went-syncs {T = Unit} {E = E} (disk.sectors old) (Err error) (disk.history old) (disk.history new) (whole tells) (told tells);
  calls = λ tells. stepped-clock (disk.history old) (disk.history new) (told tells).time;
  same = same;
  told = is;
  rose = rose;
}

-- none so far
pub synced-none : {D : Type 0} (disk : Ghosts D) (parts : List D) → AreSyncedBelow disk 0 parts parts
synced-none disk parts = record { count = refl; synced = λ k before after low. absurd (omega (arith, low)); others = λ k low. refl }

-- one more
pub synced-next : {D : Type 0} (disk : Ghosts D) (k : ℕ) (old mid : List D) (before after : D) → AreSyncedBelow disk k old mid → slice_get mid k ≡ Some before → IsSynced disk before after
    → AreSyncedBelow disk (k + 1) old (slice_set mid k after)
synced-next {D} disk k old mid before after below found synced = record {
  count = length-set mid k after ∙ below.count;
  synced = λ j one two low at at'. elim (cases_lt j k) [
    | inl earlier ↦ below.synced j one two earlier at (sym (set-other mid k j after (λ same. absurd (omega (arith, same, earlier)))) ∙ at')
    | inr here ↦
        let same : j ≡ k = omega (arith, low, here) in
        let last : two ≡ after = set-same mid k after two (subst (λ (n : ℕ). slice_get (slice_set mid k after) n ≡ Some two) same at') in
        let first : one ≡ before = some-same one before (sym (subst (λ (n : ℕ). slice_get old n ≡ Some one) same at) ∙ sym (below.others k (omega arith)) ∙ found) in
        subst (λ (d : D). IsSynced disk d two) (sym first) (subst (λ (d : D). IsSynced disk before d) (sym last) synced)
  ];
  others = λ j low. set-other mid k j after (λ same. absurd (omega (arith, same, low))) ∙ below.others j (omega (arith, low));
}
  where
    some-same : {A : Type 0} (x z : A) → ◌≡◌ {A = Option A} (Some x) (Some z) → x ≡ z
    some-same {A} x z at = ap (λ (o : Option A). unwrap_or o x) at

-- the next one failed
pub failed-at : {D : Type 0} (disk : Ghosts D) (k count : ℕ) (old mid : List D) (before after : D) → AreSyncedBelow disk k old mid → slice_get mid k ≡ Some before → FailsToSync disk count before after
    → FailsAtPart disk k count old (slice_set mid k after)
failed-at disk k count old mid before after below found failed =
    record { reached = mid; below = below; before = before; after = after; found = sym (below.others k (omega arith)) ∙ found; failed = failed; left = refl }
