-- A root that is committed again with another snapshot flag: what it asks, and what it says then.
use Rattle.std.proofs.Common.{◌≡◌, ℕ, suc, ◌<◌, ◌≤◌, Bool, true, false, List, [], ◌∷◌, Option, None, length, drop, refl, sym, ap, subst, arith}
use Rattle.std.specs.Prelude.{slice_index}
use Rattle.std.specs.List.{AllByRecursion}
use Rattle.era_base.specs.CrashModel.{State}
use Rattle.era_layout.specs.Root.{RootFields, pages_of, root_bytes, IsValidRoot}
use Rattle.era_slots.specs.Slot.{page_of}
use Rattle.era_meta.specs.Content.{content_of, IsWholeContent}
use Rattle.era_meta.specs.HeldCalls.{blocks_put, held_by_taking, with_flag, with_snapshot}
use Rattle.era_meta.specs.Keeping.{stored_in, Keeps}
use Rattle.era_meta.specs.Meaning.{Meaning, pages_in, reached, IsHeld, IsWholeRoot}
use Rattle.era_meta.specs.Putting.{IsNone, MayCommit}

none-put : (blocks : List ℕ) → AllByRecursion (IsNone []) blocks
none-put [] = tt
none-put (block ∷ blocks) = (tt, none-put blocks)

two-apart : (pages : List ℕ) → ((index : ℕ) → index < length pages → 3 ≤ slice_index pages index) → AllByRecursion (IsNone (2 ∷ [])) pages
two-apart [] range = tt
two-apart (page ∷ pages) range = (
  ((λ same. let least = range 0 (omega arith) in omega arith), tt),
  two-apart pages (λ index lt. range (suc index) (omega arith)),
)

-- what is put is none of what the root reaches
pub apart-put : (taken : Bool) (root : RootFields) (held : Option RootFields) → IsValidRoot root → (taken ≡ true → held ≡ None)
    → AllByRecursion (IsNone (blocks_put taken)) (reached root held)
apart-put false root held valid none = none-put (reached root held)
apart-put true root held valid none =
    subst (λ (h : Option RootFields). AllByRecursion (IsNone (2 ∷ [])) (reached root h)) (sym (none refl))
    (two-apart (pages_of root) (λ index lt. (valid.range index lt).0))

-- a root is valid whatever its flag
pub flag-valid : (root : RootFields) (taken : Bool) → IsValidRoot root → IsValidRoot (with_flag root taken)
flag-valid root taken valid = record {
  length_fits = valid.length_fits;
  geometry = valid.geometry;
  era = valid.era;
  era_fits = valid.era_fits;
  array = valid.array;
  current = valid.current;
  count = valid.count;
  sets = valid.sets;
  order = valid.order;
  range = valid.range;
  different = valid.different;
}

flag-whole : (page : ℕ → List ℕ) (root : RootFields) (taken : Bool) → IsWholeContent root (content_of page root) → IsWholeContent (with_flag root taken) (content_of page (with_flag root taken))
flag-whole page root taken whole = record { entries = whole.entries; sets = whole.sets; current_set = whole.current_set }

flag-held : (page : ℕ → List ℕ) (root : RootFields) (taken : Bool) (held : Option RootFields) → IsWholeRoot page root held → (taken ≡ true → held ≡ None)
    → (taken ≡ true → drop 520 (page 2) ≡ root_bytes root) → IsHeld page (with_flag root taken) (held_by_taking taken root)
flag-held page root false held whole none put = refl
flag-held page root true held whole none put = record {
  flag = refl;
  valid = whole.valid;
  none = subst (IsHeld page root) (none refl) whole.snapshot;
  spelled = put refl;
  length_same = refl;
  size_same = refl;
  whole = whole.whole;
}

-- the root may be committed with its new flag
pub held-may : (target number : ℕ) (taken : Bool) (root : RootFields) (held : Option RootFields) (now : State) → Keeps target number false root held now
    → (taken ≡ true → held ≡ None) → (taken ≡ true → drop 520 (page_of 2 now.seen) ≡ root_bytes root)
    → MayCommit target number root (with_flag root taken) held (held_by_taking taken root) now
held-may target number taken root held now keeps none put = record {
  keeps = keeps;
  whole = record {
    valid = flag-valid root taken keeps.kept.whole.valid;
    whole = flag-whole (pages_in now.seen) root taken keeps.kept.whole.whole;
    snapshot = flag-held (pages_in now.seen) root taken held keeps.kept.whole none put;
  };
  room = keeps.kept.room;
}

-- and says its own marks then, with them as the snapshot or with none
pub held-says : (taken : Bool) (root : RootFields) (held : Option RootFields) (now : State) (old : Meaning) → stored_in now root held ≡ old
    → stored_in now (with_flag root taken) (held_by_taking taken root) ≡ with_snapshot taken old
held-says false root held now old says = ap (with_snapshot false) says
held-says true root held now old says = ap (with_snapshot true) says
