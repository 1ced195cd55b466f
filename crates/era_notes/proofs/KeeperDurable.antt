-- What is durable by the keeper's own draws is durable by the whole log.
use Rattle.std.proofs.Common.{◌≡◌, ℕ, ◌==◌, ◌||◌, not, Bool, true, false, List, [], ◌∷◌, Option, None, refl, sym, ap, ◌∙◌}
use Rattle.std.specs.Prelude.{if◌then◌else◌}
use Rattle.std.proofs.lemmas.Bool.{cond_both, false≢true}
use Rattle.era_base.specs.declared.ids.CmdId.{CmdId}
use Rattle.era_model.specs.declared.event.Event.{Event}
use Rattle.era_model.specs.declared.event.Event.TheVariants.{Mark, Roll, Snap, Dropped, Digest, Refused}
use Rattle.era_model.specs.declared.event.Kind.{Kind}
use Rattle.era_model.specs.declared.event.Why.TheVariants.{MetaFault}
use Rattle.era_model.specs.declared.history.Happening.{Happening}
use Rattle.era_model.specs.declared.history.Happening.TheVariants.{Happened}
use Rattle.era_model.specs.declared.opening.Opening.{Opening}
use Rattle.era_model.specs.Events.{is_metadata_fault_of}
use Rattle.era_model.specs.History.{at_opening, blocks_at, era_of}
use Rattle.era_model.specs.Marking.{journal_last_era, is_tried_in, some_event}
use Rattle.era_model.specs.Marks.{BlockMarks}
use Rattle.era_model.specs.Recovered.{IsDurableFrom, changes_snapshot, fails_after_commits, is_committed, is_metadata_fault, is_switch, is_write}
use Rattle.era_notes.specs.Logs.{Draw, logged_history, own_draws, drawer_history}
use Rattle.era_notes.specs.OwnDraws.{is_of_stripes, StripesDraw}
use Rattle.era_notes.proofs.KeeperRecovers.{have-lasts, recovered-whole}
use Rattle.era_notes.proofs.KeeperWords.{IsKeepers, projects, keepers-opening, keepers-era, keepers-last, keepers-tried, keepers-held, marks_and_held}

-- no stripe draws that the metadata disk failed
fault-left : (id : CmdId) (event : Event) → is_of_stripes event ≡ true → is_metadata_fault_of id event ≡ false
fault-left id (Refused other kind (MetaFault count)) is = absurd (false≢true is)
fault-left id event is = refl

keepers-fault : (id : CmdId) → IsKeepers (λ h. some_event h (is_metadata_fault_of id))
keepers-fault id = record {
  alike = λ event h other same. ap (λ b. is_metadata_fault_of id event || b) same;
  left = λ event h is. ap (λ b. b || some_event h (is_metadata_fault_of id)) (fault-left id event is);
}

-- what is committed by one journal is committed by another with the same faults
same-commits : (journal other : List Happening) → ((id : CmdId) → some_event journal (is_metadata_fault_of id) ≡ some_event other (is_metadata_fault_of id))
    → (event : Event) → is_committed journal event ≡ is_committed other event
same-commits journal other faults (Roll id era) = ap not (faults id)
same-commits journal other faults event = refl

-- a stripe's event is no commit and no fault
stripes-commit : (journal : List Happening) (event : Event) → is_of_stripes event ≡ true → is_committed journal event ≡ false
stripes-commit journal (Mark id block era) is = absurd (false≢true is)
stripes-commit journal (Snap id block) is = absurd (false≢true is)
stripes-commit journal (Dropped id) is = absurd (false≢true is)
stripes-commit journal (Digest id era page) is = absurd (false≢true is)
stripes-commit journal (Roll id era) is = absurd (false≢true is)
stripes-commit journal event is = refl

stripes-fail : (test : Kind → Bool) (event : Event) → is_of_stripes event ≡ true → is_metadata_fault test event ≡ false
stripes-fail test (Refused other kind (MetaFault count)) is = absurd (false≢true is)
stripes-fail test event is = refl

-- whether a fault stands behind the last commit
fails-whole : (test : Kind → Bool) (journal other : List Happening) (opening : Opening) (keeper : ℕ) (log : List Draw) → ((event : Event) → is_committed journal event ≡ is_committed other event) → StripesDraw keeper log
    → fails_after_commits test journal (logged_history opening log) ≡ fails_after_commits test other (drawer_history opening keeper log)
fails-whole test journal other opening keeper [] commits draws = refl
fails-whole test journal other opening keeper (draw ∷ earlier) commits draws =
    let before = fails-whole test journal other opening keeper earlier commits draws.1 in
    let rest : Bool = fails_after_commits test journal (logged_history opening earlier) in
    cond_both (draw.drawer == keeper) (draw ∷ own_draws keeper earlier) (own_draws keeper earlier)
    (λ ds. fails_after_commits test journal (Happened draw.event ∷ logged_history opening earlier) ≡ fails_after_commits test other (logged_history opening ds))
    (λ mine. ap (λ b. if b then false else (is_metadata_fault test draw.event || rest)) (commits draw.event)
    ∙ ap (λ b. if is_committed other draw.event then false else (is_metadata_fault test draw.event || b)) before)
    (λ else_. ap (λ b. if b then false else (is_metadata_fault test draw.event || rest)) (stripes-commit journal draw.event (draws.0 else_))
    ∙ (ap (λ b. b || rest) (stripes-fail test draw.event (draws.0 else_)) ∙ before))

pub durable-whole : (opening : Opening) (keeper : ℕ) (log : List Draw) (m : BlockMarks) (found : Option BlockMarks) → StripesDraw keeper log
    → IsDurableFrom (drawer_history opening keeper log) m found → IsDurableFrom (logged_history opening log) m found
durable-whole opening keeper log m found draws is = record {
  recovered = recovered-whole opening keeper log m found draws is.recovered;
  lasts = λ kept. have-lasts own whole m None (projects (λ h. at_opening 0 blocks_at h) opening keeper log (keepers-opening 0 blocks_at) draws)
      (λ block. projects (λ h. journal_last_era h block) opening keeper log (keepers-last block) draws)
      (λ block era. projects (λ h. is_tried_in h block era) opening keeper log (keepers-tried block era) draws) (is.lasts (sym (fails is_write) ∙ kept));
  era = λ kept. is.era (sym (fails is_switch) ∙ kept) ∙ sym (projects era_of opening keeper log keepers-era draws);
  snapshot = λ kept. is.snapshot (sym (fails changes_snapshot) ∙ kept)
      ∙ sym (ap (λ (word : BlockMarks × Option BlockMarks). word.1) (projects marks_and_held opening keeper log keepers-held draws));
} where
  whole : List Happening
  whole = logged_history opening log

  own : List Happening
  own = drawer_history opening keeper log

  fails : (test : Kind → Bool) → fails_after_commits test whole whole ≡ fails_after_commits test own own
  fails test = fails-whole test whole own opening keeper log (same-commits whole own (λ id. projects (λ h. some_event h (is_metadata_fault_of id)) opening keeper log (keepers-fault id) draws)) draws
