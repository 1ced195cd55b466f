-- What a crash and an end may leave of the metadata of small sessions, and that it is one exceptional block at most.
use Rattle.std.proofs.Common.{◌≡◌, ◌≢◌, ℕ, zero, suc, List, [], ◌∷◌, Option, None, Some, refl, sym, ◌∙◌, lit<, inl, inr}
use Rattle.std.proofs.lemmas.Bool.{ne_eqb}
use Rattle.era_model.specs.declared.event.Event.{Event}
use Rattle.era_model.specs.Crashes.{AreOriginImages, MayCrash, MayEnd}
use Rattle.era_model.specs.MarkLaws.{MarkGivesEra}
use Rattle.era_model.specs.Marks.{BlockMarks}
use Rattle.era_model.specs.Recovered.{HasJournalLast, HaveJournalLasts, IsRecoveredFrom}
use Rattle.era_model.specs.RowsOfRecoveries.{both_marked, both_tried_events, failed_mark_after_snap_events, failed_switch_events, first_marked, history_with, left_with, snapped_events, switched_events, tried_events, unmarked}
use Rattle.era_model.proofs.SmallOpening.{valid-no_marks}
use Rattle.era_model.proofs.SwitchLasts.{mark-gives}

-- the marks of block 0 are valid, and change that block alone
first-gives : MarkGivesEra unmarked 0
first-gives = mark-gives unmarked 0 valid-no_marks (lit< tt)

-- the era before a switch that isn't stored
pub crash-switched : MayCrash (history_with switched_events) (left_with unmarked None)
crash-switched = record {
  origin = record { size = refl; blocks = λ block within. record { size = refl; same = λ offset outside. refl } };
  metadata = record {
    valid = valid-no_marks;
    sectors = refl;
    block_sectors = refl;
    exception = None;
    lasts = λ block within. refl;
    era = inr (refl, refl);
    valid_snapshot = tt;
    snapshot = inl refl;
  };
}

-- but for block 0 they have the last marked eras of the session that tried it
lasts-tried : (block : ℕ) → block ≢ 0 → HasJournalLast (history_with tried_events) first_marked block
lasts-tried block apart = first-gives.lasts block ∙ rw (ne_eqb 0 block (λ same. apart (sym same))) refl

-- a mark that was tried
pub crash-tried : MayCrash (history_with tried_events) (left_with first_marked None)
crash-tried = record {
  origin = record { size = refl; blocks = λ block within. record { size = refl; same = λ offset outside. refl } };
  metadata = record {
    valid = first-gives.valid;
    sectors = refl;
    block_sectors = refl;
    exception = Some 0;
    lasts = (record { later = lit< tt; tried = refl }, λ block within apart. lasts-tried block apart);
    era = inl refl;
    valid_snapshot = tt;
    snapshot = inl refl;
  };
}

-- the snapshot is lost
pub crash-snapped : MayCrash (history_with snapped_events) (left_with unmarked None)
crash-snapped = record {
  origin = record { size = refl; blocks = λ block within. record { size = refl; same = λ offset outside. refl } };
  metadata = record {
    valid = valid-no_marks;
    sectors = refl;
    block_sectors = refl;
    exception = None;
    lasts = λ block within. refl;
    era = inl refl;
    valid_snapshot = tt;
    snapshot = inr refl;
  };
}

-- a snapshot is found
pub crash-found : MayCrash (history_with []) (left_with unmarked (Some unmarked))
crash-found = record {
  origin = record { size = refl; blocks = λ block within. record { size = refl; same = λ offset outside. refl } };
  metadata = record {
    valid = valid-no_marks;
    sectors = refl;
    block_sectors = refl;
    exception = None;
    lasts = λ block within. refl;
    era = inl refl;
    valid_snapshot = valid-no_marks;
    snapshot = inr refl;
  };
}

-- two blocks beyond the journal are too many
two-beyond : (exception : Option ℕ) → HaveJournalLasts (history_with both_tried_events) both_marked exception → ⊥
two-beyond None lasts = let first = lasts 0 (lit< tt) in cc
two-beyond (Some zero) lasts = let second = lasts.1 1 (lit< tt) (λ same. cc) in cc
two-beyond (Some (suc block)) lasts = let first = lasts.1 0 (lit< tt) (λ same. cc) in cc

pub second-beyond : IsRecoveredFrom (history_with both_tried_events) both_marked None → ⊥
second-beyond recovered = two-beyond recovered.exception recovered.lasts

-- a mark that failed is found at the end, and the snapshot with it
pub end-failed_mark : MayEnd (history_with failed_mark_after_snap_events) (left_with first_marked (Some unmarked))
end-failed_mark = record {
  origin = record { size = refl; blocks = λ block within. record { size = refl; same = λ offset outside. refl } };
  metadata = record {
    recovered = record {
      valid = first-gives.valid;
      sectors = refl;
      block_sectors = refl;
      exception = Some 0;
      lasts = (record { later = lit< tt; tried = refl }, λ block within apart. lasts-tried block apart);
      era = inl refl;
      valid_snapshot = valid-no_marks;
      snapshot = inl refl;
    };
    lasts = λ unfailed. absurd (cc);
    era = λ unfailed. refl;
    snapshot = λ unfailed. refl;
  };
}

-- a switch that failed is lost at the end
pub end-failed_switch : MayEnd (history_with failed_switch_events) (left_with unmarked None)
end-failed_switch = record {
  origin = record { size = refl; blocks = λ block within. record { size = refl; same = λ offset outside. refl } };
  metadata = record {
    recovered = record {
      valid = valid-no_marks;
      sectors = refl;
      block_sectors = refl;
      exception = None;
      lasts = λ block within. refl;
      era = inr (refl, refl);
      valid_snapshot = tt;
      snapshot = inl refl;
    };
    lasts = λ unfailed block within. refl;
    era = λ unfailed. absurd (cc);
    snapshot = λ unfailed. refl;
  };
}
