-- From a disk that keeps a root to one on which the next root may be committed.
use Rattle.std.proofs.Common.{◌≡◌, ℕ, ◌*◌, ◌≤◌, ◌⊎◌, Bool, true, false, List, Option, Some, None, length, refl, sym, ap, ◌∙◌, subst, arith, inl}
use Rattle.std.specs.List.{AllByRecursion}
use Rattle.std.specs.Option.{option_map}
use Rattle.era_base.specs.CrashModel.{State, History, Went, Leaves}
use Rattle.era_base.specs.Geometry.{need_of}
use Rattle.era_base.proofs.Moments.{went-join, went-wider}
use Rattle.era_layout.specs.Root.{RootFields, pages_of, IsValidRoot}
use Rattle.era_model.specs.Marks.{BlockMarks}
use Rattle.era_slots.specs.Standing.{Stands}
use Rattle.era_slots.specs.Promise.{Begins}
use Rattle.era_meta.specs.Content.{blocks_of_root, content_of, marks_in, IsWholeContent}
use Rattle.era_meta.specs.Meaning.{Meaning, pages_in, marks_on, reached, IsHeld, IsImageOf}
use Rattle.era_meta.specs.Keeping.{HasRoom, stored_in, Keeps, IsOfLeft}
use Rattle.era_meta.specs.Putting.{IsNone, PutsAmong, ArePagesFresh, MayCommit}
use Rattle.era_meta.specs.StoredMarks.{with_marks}
use Rattle.era_meta.proofs.LawsBelow.{LeftPages, EitherBody, OpenBodies}
use Rattle.era_meta.proofs.Kept.{meaning-stays}
use Rattle.era_meta.proofs.Begun.{begins-keeps, begins-says, begins-leave, keeps-closed, closed-leave, among-stay, among-keeps}

pub true-unless : (flag : Bool) → (flag ≡ false → ⊥) → flag ≡ true
true-unless true not = refl
true-unless false not = absurd (not refl)

-- what each crash image stands for until the commit
abbrev pub Prepares : ℕ → ℕ → Bool → RootFields → Option RootFields → State → State → Type 0
Prepares target number may_be_open root held before now =
    Leaves (λ image. IsImageOf (stored_in before root held) image ⊎ IsOfLeft target number may_be_open before image) now

pub went-begun : LeftPages → EitherBody → OpenBodies → (target number : ℕ) (may_be_open : Bool) (root : RootFields) (held : Option RootFields) (old new : History)
    → Keeps target number may_be_open root held old.now → Went (Begins target number may_be_open) old new
    → Went (Prepares target number may_be_open root held) old new
went-begun left either bodies target number may_be_open root held old new keeps went =
    went-wider (Begins target number may_be_open) (Prepares target number may_be_open root held) old new
    (λ state begins. begins-leave left either bodies target number may_be_open root held old.now state keeps begins) went

-- the committed root once the gate is closed, and once pages are put
pub put-keeps : (puts : List ℕ) (target number : ℕ) (may_be_open : Bool) (root : RootFields) (held : Option RootFields) (before mid now : State)
    → Keeps target number may_be_open root held before → AllByRecursion (IsNone puts) (reached root held) → Begins target number may_be_open before mid
    → Stands target number false mid → PutsAmong puts target number mid now → Keeps target number false root held now
put-keeps puts target number may_be_open root held before mid now keeps apart begins stands among =
    among-keeps puts target number root held mid now
    (keeps-closed target number may_be_open root held mid (begins-keeps target number may_be_open root held before mid keeps begins) stands) apart among

pub put-says : (puts : List ℕ) (target number : ℕ) (may_be_open : Bool) (root : RootFields) (held : Option RootFields) (before mid now : State)
    → Keeps target number may_be_open root held before → AllByRecursion (IsNone puts) (reached root held) → Begins target number may_be_open before mid
    → PutsAmong puts target number mid now → stored_in now root held ≡ stored_in before root held
put-says puts target number may_be_open root held before mid now keeps apart begins among =
    meaning-stays root held mid now
    (among-stay puts target number (pages_in mid.seen) root held mid now (begins-keeps target number may_be_open root held before mid keeps begins).kept.whole apart among)
    ∙ begins-says target number may_be_open root held before mid keeps begins

pub went-prepared : LeftPages → EitherBody → OpenBodies → (puts : List ℕ) (target number : ℕ) (may_be_open : Bool) (root : RootFields) (held : Option RootFields)
    (old mid new : History) → Keeps target number may_be_open root held old.now → AllByRecursion (IsNone puts) (reached root held)
    → Stands target number false mid.now → Went (Begins target number may_be_open) old mid → Went (PutsAmong puts target number) mid new
    → Went (Prepares target number may_be_open root held) old new
went-prepared left either bodies puts target number may_be_open root held old mid new keeps apart stands one two =
    went-join (Begins target number may_be_open) (PutsAmong puts target number) (Prepares target number may_be_open root held) old mid new one two
    (λ state begins. begins-leave left either bodies target number may_be_open root held old.now state keeps begins)
    (λ state begins among image is. inl (subst (λ (meaning : Meaning). IsImageOf meaning image)
    (put-says puts target number may_be_open root held old.now mid.now state keeps apart begins among)
    (closed-leave left either bodies target number root held state
    (put-keeps puts target number may_be_open root held old.now mid.now state keeps apart begins stands among) image is)))

held-same : (page : ℕ → List ℕ) (root next : RootFields) (held : Option RootFields) → next.held ≡ root.held → next.sectors ≡ root.sectors
    → next.block_sectors ≡ root.block_sectors → IsHeld page root held → IsHeld page next held
held-same page root next None flag sectors size holds = flag ∙ holds
held-same page root next (Some held) flag sectors size holds = record {
  flag = flag ∙ holds.flag;
  valid = holds.valid;
  none = holds.none;
  spelled = holds.spelled;
  length_same = holds.length_same ∙ sym sectors;
  size_same = holds.size_same ∙ sym size;
  whole = holds.whole;
}

-- the next root may be committed
pub prepared-may : (target number : ℕ) (root next : RootFields) (held : Option RootFields) (now : State)
    → Keeps target number false root held now → ArePagesFresh (pages_of next) root next held → IsValidRoot next
    → IsWholeContent next (content_of (pages_in now.seen) next) → HasRoom next now → MayCommit target number root next held held now
prepared-may target number root next held now keeps fresh valid whole room = record {
  keeps = keeps;
  whole = record {
    valid = valid;
    whole = whole;
    snapshot = held-same (pages_in now.seen) root next held fresh.flag fresh.sectors fresh.block_sectors keeps.kept.whole.snapshot;
  };
  room = room;
}

pub next-says-marks : (root next : RootFields) (held : Option RootFields) (m : BlockMarks) (old : Meaning) (now : State)
    → marks_in next (content_of (pages_in now.seen) next) ≡ m → stored_in now root held ≡ old → stored_in now next held ≡ with_marks old m
next-says-marks root next held m old now said says =
    ap (λ (marks : BlockMarks). record { marks = marks; held = option_map (marks_on (pages_in now.seen)) held }) said
    ∙ ap (λ (meaning : Meaning). with_marks meaning m) says

pub room-in : (root : RootFields) (sectors : ℕ) (now : State) → need_of (blocks_of_root root) * 8 ≤ sectors → length now.seen ≡ sectors * 512
    → HasRoom root now
room-in root sectors now room size = fits (need_of (blocks_of_root root)) sectors (length now.seen) room size
  where
    fits : (need sectors bytes : ℕ) → need * 8 ≤ sectors → bytes ≡ sectors * 512 → 4096 * need ≤ bytes
    fits need sectors bytes room size = omega arith
