-- What an opening that wasn't finished leaves: marks of before, which may be found as before, or those of the next era, which may be found in a session that has just opened.
use Rattle.std.proofs.Common.{◌≡◌, ℕ, ◌+◌, ◌<◌, Bool, true, false, List, [], ◌∷◌, length, Option, Some, None, refl, ap, sym, ◌∙◌, subst, lit≤, inl, if◌then◌else◌}
use Rattle.std.specs.Prelude.{nat_lt}
use Rattle.std.proofs.lemmas.Option.{same_Some}
use Rattle.era_base.specs.declared.geometry.Geometry.{Geometry}
use Rattle.era_base.specs.declared.limits.TheConstants.{LAST_ERA, MOST_SETS}
use Rattle.era_model.specs.declared.history.Happening.{Happening}
use Rattle.era_model.specs.declared.history.Happening.TheVariants.{Opened, Happened, Crashed}
use Rattle.era_model.specs.Crashes.{geometry_now}
use Rattle.era_model.specs.History.{at_opening}
use Rattle.era_model.specs.Legal.{IsLegal}
use Rattle.era_model.specs.Marks.{ArchivedSet, BlockMarks, marks_last_era, rolled, with_current_archived, with_oldest_merged}
use Rattle.era_model.specs.Promises.{KeepsLastEras}
use Rattle.era_model.specs.Recovered.{HaveJournalLasts, MayHaveEra, MayHold}
use Rattle.era_model.specs.Validity.{IsValidSnapshot}
use Rattle.era_promise.proofs.Left.{MayBeFound, found_images}
use Rattle.era_promise.specs.Openings.{opening_of}

-- what is read off the present opening, where its geometry is known
pub at-geometry : {T : Type 0} (none : T) (of : Geometry → T) (h : List Happening) (g : Geometry) → geometry_now h ≡ Some g → at_opening none (λ opening. of opening.geometry) h ≡ of g
at-geometry none of [] g is = absurd (cc)
at-geometry none of (Opened opening ∷ h) g is = ap of (same_Some opening.geometry g is)
at-geometry none of (Happened event ∷ h) g is = at-geometry none of h g is
at-geometry none of (Crashed images ∷ h) g is = at-geometry none of h g is

-- marks with the same last eras
lasts-kept : (h : List Happening) (before m : BlockMarks) (exception : Option ℕ) → ((block : ℕ) → marks_last_era m block ≡ marks_last_era before block) → HaveJournalLasts h before exception → HaveJournalLasts h m exception
lasts-kept h before m None kept lasts = λ block inside. kept block ∙ lasts block inside
lasts-kept h before m (Some exception) kept lasts = (
  record { later = rw (kept exception) lasts.0.later; tried = rw (kept exception) lasts.0.tried },
  λ block inside apart. kept block ∙ lasts.1 block inside apart,
)

-- marks of the era of before may be found as before
pub found-before : (g : Geometry) (total : ℕ) (h : List Happening) (origin : List ℕ) (before m : BlockMarks) (held found : Option BlockMarks)
    → MayBeFound g total h origin before held → KeepsLastEras before m → found ≡ held → m.era ≡ before.era → MayBeFound g total h origin m found
found-before g total h origin before m held found left keeps same era =
    let may = left.crash.metadata in
    record {
      ongoing = left.ongoing;
      crash = record {
        origin = record { size = left.crash.origin.size; blocks = left.crash.origin.blocks };
        metadata = record {
          valid = keeps.valid;
          sectors = keeps.sectors ∙ may.sectors;
          block_sectors = keeps.block_sectors ∙ may.block_sectors;
          exception = may.exception;
          lasts = lasts-kept h before m may.exception keeps.lasts may.lasts;
          era = subst (MayHaveEra h) (sym era) may.era;
          valid_snapshot = subst IsValidSnapshot (sym same) may.valid_snapshot;
          snapshot = subst (MayHold h _) (sym same) may.snapshot;
        };
      };
      geometry = left.geometry;
      total = left.total;
    }

-- an era switch moves the era by one
merged-era : (m : BlockMarks) (sets : List ArchivedSet) → (with_oldest_merged m sets).era ≡ m.era
merged-era m [] = refl
merged-era m (oldest ∷ sets) = refl

rolled-by : (m : BlockMarks) (room : Bool) → (with_current_archived (if room then m else with_oldest_merged m m.archive)).era ≡ m.era + 1
rolled-by m true = refl
rolled-by m false = ap (λ era. era + 1) (merged-era m m.archive)

pub rolled-era : (m : BlockMarks) → (rolled m).era ≡ m.era + 1
rolled-era m = rolled-by m (nat_lt (length m.archive) MOST_SETS)

-- the snapshot that is held may be found
held-found : (h : List Happening) (held : Option BlockMarks) → MayHold h held held
held-found h None = inl refl
held-found h (Some m) = inl refl

-- a session that opens on what was found, over its marks after one switch
abbrev pub next_history : Geometry → ℕ → List Happening → List ℕ → BlockMarks → Option BlockMarks → List Happening
next_history g total h origin before held = Opened (opening_of g (rolled before) held total 1 origin) ∷ Crashed (found_images origin before held) ∷ h

-- it is legal
pub next-legal : (g : Geometry) (total : ℕ) (h : List Happening) (origin : List ℕ) (before : BlockMarks) (held : Option BlockMarks)
    → IsLegal h → MayBeFound g total h origin before held → before.era < LAST_ERA → IsLegal (next_history g total h origin before held)
next-legal g total h origin before held legal left below = (
  record {
    below_last = below;
    era = rolled-era before;
    marks = refl;
    held = refl;
    geometry = left.geometry;
    total = sym left.total;
    contents = refl;
    some_stripe = lit≤ tt;
    few_stripes = lit≤ tt;
  },
  (left.ongoing, left.crash, legal),
)

-- marks of the next era may be found in it
pub found-next : (g : Geometry) (total : ℕ) (h : List Happening) (origin : List ℕ) (before m : BlockMarks) (held found : Option BlockMarks)
    → KeepsLastEras before (rolled before) → MayBeFound g total h origin before held → KeepsLastEras before m → found ≡ held → m.era ≡ before.era + 1
    → MayBeFound g total (next_history g total h origin before held) origin m found
found-next g total h origin before m held found switched left keeps same era =
    let may = left.crash.metadata in
    record {
      ongoing = refl;
      crash = record {
        origin = record { size = refl; blocks = λ block inside. record { size = refl; same = λ offset clear. refl } };
        metadata = record {
          valid = keeps.valid;
          sectors = keeps.sectors ∙ may.sectors ∙ at-geometry 0 (λ one. one.sectors) h g left.geometry;
          block_sectors = keeps.block_sectors ∙ may.block_sectors ∙ at-geometry 0 (λ one. one.block_sectors) h g left.geometry;
          exception = None;
          lasts = λ block inside. keeps.lasts block ∙ sym (switched.lasts block);
          era = inl (era ∙ sym (rolled-era before));
          valid_snapshot = subst IsValidSnapshot (sym same) may.valid_snapshot;
          snapshot = subst (MayHold (next_history g total h origin before held) held) (sym same) (held-found (next_history g total h origin before held) held);
        };
      };
      geometry = refl;
      total = refl;
    }
