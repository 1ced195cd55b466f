-- What an event leaves of what a history says of marks, and what may be recovered behind it.
use Rattle.std.proofs.Common.{◌≡◌, ◌<◌, ℕ, Bool, true, List, ◌∷◌, Option, Some, None, refl, sym, ◌∙◌, subst, inl, inr}
use Rattle.std.proofs.lemmas.Bool.{or_right}
use Rattle.era_model.specs.declared.event.Event.{Event}
use Rattle.era_model.specs.declared.event.Event.TheVariants.{Tried, Kept, List as ListEvent, Roll, Status, Refused}
use Rattle.era_model.specs.declared.history.Happening.{Happening}
use Rattle.era_model.specs.declared.history.Happening.TheVariants.{Happened}
use Rattle.era_model.specs.History.{era_of}
use Rattle.era_model.specs.Marking.{journal_last_era, marks_of, held_of, is_marked_in, is_tried_in}
use Rattle.era_model.specs.Marks.{BlockMarks, marks_last_era}
use Rattle.era_model.specs.Recovered.{HaveJournalLasts, IsRecoveredFrom, IsSnapshotTaken, MayHaveEra, MayHold, WereMarks}
use Rattle.era_keeper.specs.Steps.{IsQuiet}

-- last marked eras, requests and the snapshot stay
pub record KeepsLasts (event : Event) (h : List Happening) : Type 0 where
  pub held : held_of (Happened event ∷ h) ≡ held_of h
  pub lasts : (block : ℕ) → journal_last_era (Happened event ∷ h) block ≡ journal_last_era h block
  pub marked : (block era : ℕ) → is_marked_in (Happened event ∷ h) block era ≡ is_marked_in h block era
  pub tried : (block era : ℕ) → is_tried_in h block era ≡ true → is_tried_in (Happened event ∷ h) block era ≡ true

-- and so do the marks and the era
pub record SameWords (event : Event) (h : List Happening) : Type 0 where
  pub keeps : KeepsLasts event h
  pub marks : marks_of (Happened event ∷ h) ≡ marks_of h
  pub era : era_of (Happened event ∷ h) ≡ era_of h

pub quiet-words : (unstored : Bool) (event : Event) (h : List Happening) → IsQuiet unstored event → SameWords event h
quiet-words unstored (Tried id block era) h is = record {
  keeps = record { held = refl; lasts = λ b. refl; marked = λ b e. refl; tried = λ b e was. or_right _ _ was };
  marks = refl;
  era = refl;
}
quiet-words unstored (Kept id inside) h is = record { keeps = record { held = refl; lasts = λ b. refl; marked = λ b e. refl; tried = λ b e was. was }; marks = refl; era = refl }
quiet-words unstored (ListEvent id since snap blocks) h is = record { keeps = record { held = refl; lasts = λ b. refl; marked = λ b e. refl; tried = λ b e was. was }; marks = refl; era = refl }
quiet-words unstored (Status id used total era held) h is = record { keeps = record { held = refl; lasts = λ b. refl; marked = λ b e. refl; tried = λ b e was. was }; marks = refl; era = refl }
quiet-words unstored (Refused id kind why) h is = record { keeps = record { held = refl; lasts = λ b. refl; marked = λ b e. refl; tried = λ b e was. was }; marks = refl; era = refl }
quiet-words unstored event h is = absurd is

-- a switch leaves all but the marks and the era
pub switch-words : (h : List Happening) (id : _) (era : ℕ) → KeepsLasts (Roll id era) h
switch-words h id era = record { held = refl; lasts = λ b. refl; marked = λ b e. refl; tried = λ b e was. was }

-- what was found may be found
taken-again : (event : Event) (h : List Happening) (found : Option BlockMarks) → IsSnapshotTaken h found → IsSnapshotTaken (Happened event ∷ h) found
taken-again event h None taken = taken
taken-again event h (Some m) taken = inr taken

hold-again : (event : Event) (h : List Happening) (held found : Option BlockMarks) → MayHold h held found → MayHold (Happened event ∷ h) held found
hold-again event h None found may = elim may [ inl none ↦ inl none | inr taken ↦ inr (taken-again event h found taken) ]
hold-again event h (Some held) found may = may

lasts-again : (event : Event) (h : List Happening) (m : BlockMarks) (exception : Option ℕ) → KeepsLasts event h → HaveJournalLasts h m exception → HaveJournalLasts (Happened event ∷ h) m exception
lasts-again event h m None keeps have = λ block below. have block below ∙ sym (keeps.lasts block)
lasts-again event h m (Some exception) keeps have = (
  record {
    later = subst (λ (last : ℕ). last < marks_last_era m exception) (sym (keeps.lasts exception)) have.0.later;
    tried = keeps.tried exception (marks_last_era m exception) have.0.tried;
  },
  λ block below differs. have.1 block below differs ∙ sym (keeps.lasts block),
)

pub lasts-none : (event : Event) (h : List Happening) (m : BlockMarks) → KeepsLasts event h → HaveJournalLasts h m None → HaveJournalLasts (Happened event ∷ h) m None
lasts-none event h m keeps have = lasts-again event h m None keeps have

-- what may be recovered may be recovered, where it has an era that may be found
pub recovered-again : (event : Event) (h : List Happening) (m : BlockMarks) (found : Option BlockMarks) → KeepsLasts event h → MayHaveEra (Happened event ∷ h) m.era
    → IsRecoveredFrom h m found → IsRecoveredFrom (Happened event ∷ h) m found
recovered-again event h m found keeps era is = record {
  valid = is.valid;
  sectors = is.sectors;
  block_sectors = is.block_sectors;
  exception = is.exception;
  lasts = lasts-again event h m is.exception keeps is.lasts;
  era = era;
  valid_snapshot = is.valid_snapshot;
  snapshot = subst (λ held. MayHold (Happened event ∷ h) held found) (sym keeps.held) (hold-again event h (held_of h) found is.snapshot);
}

-- the marks of the moment before were the session's
pub were-now : (event : Event) (h : List Happening) (m : BlockMarks) → m ≡ marks_of (Happened event ∷ h) → WereMarks (Happened event ∷ h) m
were-now event h m is = inl is
