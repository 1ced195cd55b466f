-- What may be recovered by the keeper's own draws may be recovered by the whole log.
use Rattle.std.proofs.Common.{◌≡◌, ℕ, ◌<◌, ◌==◌, List, [], ◌∷◌, Option, Some, None, inl, inr, sym, ap, ◌∙◌, subst}
use Rattle.std.specs.Prelude.{is_some}
use Rattle.std.proofs.lemmas.Bool.{cond_both}
use Rattle.era_model.specs.declared.history.Happening.{Happening}
use Rattle.era_model.specs.declared.opening.Opening.{Opening}
use Rattle.era_model.specs.History.{at_opening, blocks_at, era_of}
use Rattle.era_model.specs.Marking.{journal_last_era, marks_of, held_of, is_tried_in, switch_before_refusals}
use Rattle.era_model.specs.Marks.{BlockMarks, marks_last_era}
use Rattle.era_model.specs.Recovered.{HaveJournalLasts, IsRecoveredFrom, MayHaveEra, MayHold, IsSnapshotTaken, WereMarks}
use Rattle.era_notes.specs.Logs.{Draw, logged_history, own_draws, drawer_history}
use Rattle.era_notes.specs.OwnDraws.{StripesDraw}
use Rattle.era_notes.proofs.KeeperWords.{projects, keepers-opening, keepers-era, keepers-last, keepers-tried, keepers-switch, keepers-held, marks_and_held}

-- the marks of a moment of the keeper are those of a moment of the session
were-marks : (opening : Opening) (keeper : ℕ) (log : List Draw) (m : BlockMarks) → StripesDraw keeper log → WereMarks (drawer_history opening keeper log) m → WereMarks (logged_history opening log) m
were-marks opening keeper [] m draws were = were
were-marks opening keeper (draw ∷ earlier) m draws were =
    let now = ap (λ (word : BlockMarks × Option BlockMarks). word.0) (projects marks_and_held opening keeper (draw ∷ earlier) keepers-held draws) in
    cond_both (draw.drawer == keeper) (draw ∷ own_draws keeper earlier) (own_draws keeper earlier)
    (λ ds. marks_of (logged_history opening (draw ∷ earlier)) ≡ marks_of (logged_history opening ds) → WereMarks (logged_history opening ds) m → WereMarks (logged_history opening (draw ∷ earlier)) m)
    (λ mine now were. elim were [
      | inl present ↦ inl (present ∙ sym now)
      | inr before ↦ inr (were-marks opening keeper earlier m draws.1 before)
    ])
    (λ other now were. inr (were-marks opening keeper earlier m draws.1 were))
    now were

were-held : (opening : Opening) (keeper : ℕ) (log : List Draw) (found : Option BlockMarks) → StripesDraw keeper log → IsSnapshotTaken (drawer_history opening keeper log) found → IsSnapshotTaken (logged_history opening log) found
were-held opening keeper log None draws taken = taken
were-held opening keeper log (Some m) draws taken = were-marks opening keeper log m draws taken

may-hold : (opening : Opening) (keeper : ℕ) (log : List Draw) (held found : Option BlockMarks) → StripesDraw keeper log → MayHold (drawer_history opening keeper log) held found → MayHold (logged_history opening log) held found
may-hold opening keeper log None found draws may = elim may [
  | inl none ↦ inl none
  | inr taken ↦ inr (were-held opening keeper log found draws taken)
]
may-hold opening keeper log (Some held) found draws may = may

pub have-lasts : (h other : List Happening) (m : BlockMarks) (exception : Option ℕ) → at_opening 0 blocks_at other ≡ at_opening 0 blocks_at h → ((block : ℕ) → journal_last_era other block ≡ journal_last_era h block)
    → ((block era : ℕ) → is_tried_in other block era ≡ is_tried_in h block era) → HaveJournalLasts h m exception → HaveJournalLasts other m exception
have-lasts h other m None blocks lasts tried have = λ block below. have block (subst (λ n. block < n) blocks below) ∙ sym (lasts block)
have-lasts h other m (Some exception) blocks lasts tried have = (
  record {
    later = subst (λ last. last < marks_last_era m exception) (sym (lasts exception)) have.0.later;
    tried = tried exception (marks_last_era m exception) ∙ have.0.tried;
  },
  λ block below differs. have.1 block (subst (λ n. block < n) blocks below) differs ∙ sym (lasts block),
)

have-era : (h other : List Happening) (era : ℕ) → era_of other ≡ era_of h → switch_before_refusals other ≡ switch_before_refusals h → MayHaveEra h era → MayHaveEra other era
have-era h other era same switch may = elim may [
  | inl present ↦ inl (present ∙ sym same)
  | inr before ↦ inr (before.0 ∙ sym same, ap is_some switch ∙ before.1)
]

pub recovered-whole : (opening : Opening) (keeper : ℕ) (log : List Draw) (m : BlockMarks) (found : Option BlockMarks) → StripesDraw keeper log
    → IsRecoveredFrom (drawer_history opening keeper log) m found → IsRecoveredFrom (logged_history opening log) m found
recovered-whole opening keeper log m found draws is =
    let whole = logged_history opening log in
    let own = drawer_history opening keeper log in
    let held = ap (λ (word : BlockMarks × Option BlockMarks). word.1) (projects marks_and_held opening keeper log keepers-held draws) in
    record {
      valid = is.valid;
      sectors = is.sectors ∙ sym (projects (λ h. at_opening 0 (λ o. o.geometry.sectors) h) opening keeper log (keepers-opening 0 (λ o. o.geometry.sectors)) draws);
      block_sectors = is.block_sectors ∙ sym (projects (λ h. at_opening 0 (λ o. o.geometry.block_sectors) h) opening keeper log (keepers-opening 0 (λ o. o.geometry.block_sectors)) draws);
      exception = is.exception;
      lasts = have-lasts own whole m is.exception (projects (λ h. at_opening 0 blocks_at h) opening keeper log (keepers-opening 0 blocks_at) draws)
          (λ block. projects (λ h. journal_last_era h block) opening keeper log (keepers-last block) draws)
          (λ block era. projects (λ h. is_tried_in h block era) opening keeper log (keepers-tried block era) draws) is.lasts;
      era = have-era own whole m.era (projects era_of opening keeper log keepers-era draws) (projects switch_before_refusals opening keeper log keepers-switch draws) is.era;
      valid_snapshot = is.valid_snapshot;
      snapshot = subst (λ now. MayHold whole now found) (sym held) (may-hold opening keeper log (held_of own) found draws is.snapshot);
    }
