-- Small sessions run their commands: each command has events that it may have, in the order of its lane.
use Rattle.std.proofs.Common.{[], ◌∷◌, Some, None, inl, inr, refl, lit<}
use Rattle.era_model.specs.declared.event.Event.TheVariants.{Tried, Mark, Done, Settle, Unsettled, Roll, Kept, Cut}
use Rattle.era_model.specs.Commands.{one_round}
use Rattle.era_model.specs.Rows.{first_lane, history_of, sector_of, small_opening, zeros}
use Rattle.era_model.specs.RowsOfFaults.{resolved_commands, resolved_events, snapshot_commands, snapshot_events}
use Rattle.era_model.specs.RowsOfWrites.{kept_events, kept_rounds, read_back_commands, read_back_events, second_lane}
use Rattle.era_model.specs.RowsOfDigests.{digested_commands, digested_events}
use Rattle.era_model.specs.SessionRun.{IsRun}

-- two writes and a read are a run of their commands
pub run-read_back : IsRun (history_of (small_opening 4 zeros) read_back_events) (one_round read_back_commands)
run-read_back = record {
  drawn = (refl, (refl, (refl, (refl, (refl, (refl, (refl, tt)))))));
  events = (
    inr (record {
      before = [];
      settled = inl refl;
      rest = _;
      outcome = inr (inr (record {
        era = 1;
        mark = Tried (first_lane 0) 0 1 ∷ Mark (first_lane 0) 0 1 ∷ [];
        marking = inr refl;
        ended = Done (first_lane 0);
        outcome = inl refl;
        joined = refl;
      }));
      joined = refl;
    }),
    (
      inr (record {
        before = [];
        settled = inl refl;
        rest = _;
        outcome = inr (inr (record {
          era = 1;
          mark = [];
          marking = inl refl;
          ended = Done (first_lane 1);
          outcome = inl refl;
          joined = refl;
        }));
        joined = refl;
      }),
      (inr (_, refl, refl), tt),
    ),
  );
  lanes = (
    (
      λ same. ((lit< tt, (lit< tt, tt)), ((lit< tt, (lit< tt, tt)), ((lit< tt, (lit< tt, tt)), ((lit< tt, (lit< tt, tt)), tt)))),
      (λ same. ((lit< tt, tt), ((lit< tt, tt), ((lit< tt, tt), ((lit< tt, tt), tt)))), tt),
    ),
    (((λ same. ((lit< tt, tt), ((lit< tt, tt), tt))), tt), (tt, tt)),
  );
  borders = (tt, tt);
}

-- a write that is cut, and two checkpoints, are a run of their commands
pub run-resolved : IsRun (history_of (small_opening 1 zeros) resolved_events) (one_round resolved_commands)
run-resolved = record {
  drawn = (refl, (refl, (refl, (refl, (refl, (refl, (refl, (refl, tt))))))));
  events = (
    inr (record {
      before = [];
      settled = inl refl;
      rest = _;
      outcome = inr (inr (record {
        era = 1;
        mark = Tried (first_lane 0) 0 1 ∷ Mark (first_lane 0) 0 1 ∷ [];
        marking = inr refl;
        ended = Cut (first_lane 0) 1;
        outcome = inr (1, refl);
        joined = refl;
      }));
      joined = refl;
    }),
    (
      record {
        before = Unsettled (first_lane 1) (first_lane 0) 2 ∷ [];
        resolutions = (refl, tt, tt);
        rest = Kept (first_lane 1) 1 ∷ [];
        outcome = inr (inr (inl (1, refl)));
        joined = refl;
      },
      (
        record {
          before = Settle (first_lane 2) (first_lane 0) (sector_of 170) ∷ [];
          resolutions = (refl, tt, tt);
          rest = Roll (first_lane 2) 2 ∷ [];
          outcome = inl (2, refl);
          joined = refl;
        },
        tt,
      ),
    ),
  );
  lanes = (
    (
      λ same. ((lit< tt, (lit< tt, tt)), ((lit< tt, (lit< tt, tt)), ((lit< tt, (lit< tt, tt)), ((lit< tt, (lit< tt, tt)), tt)))),
      (λ same. ((lit< tt, (lit< tt, tt)), ((lit< tt, (lit< tt, tt)), ((lit< tt, (lit< tt, tt)), ((lit< tt, (lit< tt, tt)), tt)))), tt),
    ),
    (((λ same. ((lit< tt, (lit< tt, tt)), ((lit< tt, (lit< tt, tt)), tt))), tt), (tt, tt)),
  );
  borders = (tt, tt);
}

-- a session that takes, lists and drops a snapshot is a run of its commands
pub run-snapshots : IsRun (history_of (small_opening 4 []) snapshot_events) (one_round snapshot_commands)
run-snapshots = record {
  drawn = (refl, (refl, (refl, (refl, (refl, (refl, (refl, (refl, (refl, (refl, (refl, (refl, tt))))))))))));
  events = (
    inl (2, refl),
    (
      inr (inl (2, refl)),
      (
        inl (5, 57, 1, Some 2, refl),
        (
          inr (record {
            before = [];
            settled = inl refl;
            rest = _;
            outcome = inr (inr (record {
              era = 1;
              mark = Tried (first_lane 3) 0 1 ∷ Mark (first_lane 3) 0 1 ∷ [];
              marking = inr refl;
              ended = Done (first_lane 3);
              outcome = inl refl;
              joined = refl;
            }));
            joined = refl;
          }),
          (
            inl ([], refl),
            (
              inl ((0, 0) ∷ [], refl),
              (
                inl refl,
                (
                  inr (inl refl),
                  (
                    inr (inl (refl, refl)),
                    tt,
                  ),
                ),
              ),
            ),
          ),
        ),
      ),
    ),
  );
  lanes = ((λ same. ((lit< tt, tt), tt), (λ same. ((lit< tt, tt), tt), (λ same. ((lit< tt, (lit< tt, (lit< tt, (lit< tt, tt)))), tt), (λ same. ((lit< tt, tt), tt), (λ same. ((lit< tt, tt), tt), (λ same. ((lit< tt, tt), tt), (λ same. ((lit< tt, tt), tt), (λ same. ((lit< tt, tt), tt), tt)))))))), ((λ same. ((lit< tt, tt), tt), (λ same. ((lit< tt, (lit< tt, (lit< tt, (lit< tt, tt)))), tt), (λ same. ((lit< tt, tt), tt), (λ same. ((lit< tt, tt), tt), (λ same. ((lit< tt, tt), tt), (λ same. ((lit< tt, tt), tt), (λ same. ((lit< tt, tt), tt), tt))))))), ((λ same. ((lit< tt, (lit< tt, (lit< tt, (lit< tt, tt)))), tt), (λ same. ((lit< tt, tt), tt), (λ same. ((lit< tt, tt), tt), (λ same. ((lit< tt, tt), tt), (λ same. ((lit< tt, tt), tt), (λ same. ((lit< tt, tt), tt), tt)))))), ((λ same. ((lit< tt, tt), ((lit< tt, tt), ((lit< tt, tt), ((lit< tt, tt), tt)))), (λ same. ((lit< tt, tt), ((lit< tt, tt), ((lit< tt, tt), ((lit< tt, tt), tt)))), (λ same. ((lit< tt, tt), ((lit< tt, tt), ((lit< tt, tt), ((lit< tt, tt), tt)))), (λ same. ((lit< tt, tt), ((lit< tt, tt), ((lit< tt, tt), ((lit< tt, tt), tt)))), (λ same. ((lit< tt, tt), ((lit< tt, tt), ((lit< tt, tt), ((lit< tt, tt), tt)))), tt))))), ((λ same. ((lit< tt, tt), tt), (λ same. ((lit< tt, tt), tt), (λ same. ((lit< tt, tt), tt), (λ same. ((lit< tt, tt), tt), tt)))), ((λ same. ((lit< tt, tt), tt), (λ same. ((lit< tt, tt), tt), (λ same. ((lit< tt, tt), tt), tt))), ((λ same. ((lit< tt, tt), tt), (λ same. ((lit< tt, tt), tt), tt)), ((λ same. ((lit< tt, tt), tt), tt), (tt, tt)))))))));
  borders = (tt, tt);
}

-- a checkpoint of another lane that a write under way makes keep the era is of a run
pub run-kept : IsRun (history_of (small_opening 1 []) kept_events) (kept_rounds)
run-kept = record {
  drawn = (refl, (refl, (refl, (refl, (refl, (refl, (refl, (refl, tt))))))));
  events = (
    inr (record {
      before = [];
      settled = inl refl;
      rest = _;
      outcome = inr (inr (record {
        era = 1;
        mark = Tried (first_lane 0) 0 1 ∷ Mark (first_lane 0) 0 1 ∷ [];
        marking = inr refl;
        ended = Done (first_lane 0);
        outcome = inl refl;
        joined = refl;
      }));
      joined = refl;
    }),
    (
      inr (record {
        before = [];
        settled = inl refl;
        rest = _;
        outcome = inr (inr (record {
          era = 1;
          mark = [];
          marking = inl refl;
          ended = Done (first_lane 1);
          outcome = inl refl;
          joined = refl;
        }));
        joined = refl;
      }),
      (
        record { before = []; resolutions = tt; rest = Kept second_lane 1 ∷ []; outcome = inr (inr (inl (1, refl))); joined = refl },
        (
          record { before = []; resolutions = tt; rest = Roll (first_lane 2) 2 ∷ []; outcome = inl (2, refl); joined = refl },
          tt,
        ),
      ),
    ),
  );
  lanes = ((λ same. ((lit< tt, (lit< tt, tt)), ((lit< tt, (lit< tt, tt)), ((lit< tt, (lit< tt, tt)), ((lit< tt, (lit< tt, tt)), tt)))), (λ same. absurd (cc), (λ same. ((lit< tt, tt), ((lit< tt, tt), ((lit< tt, tt), ((lit< tt, tt), tt)))), tt))), ((λ same. absurd (cc), (λ same. ((lit< tt, tt), ((lit< tt, tt), tt)), tt)), ((λ same. absurd (cc), tt), (tt, tt))));
  borders = (
    ((((lit< tt, (lit< tt, tt)), ((lit< tt, (lit< tt, tt)), ((lit< tt, (lit< tt, tt)), ((lit< tt, (lit< tt, tt)), tt)))), tt), ((((lit< tt, tt), ((lit< tt, tt), ((lit< tt, tt), ((lit< tt, tt), tt)))), tt), ((((lit< tt, tt), ((lit< tt, tt), ((lit< tt, tt), ((lit< tt, tt), tt)))), tt), tt))),
    (((((lit< tt, tt), ((lit< tt, tt), tt)), (((lit< tt, tt), tt), tt)), tt), (tt, tt)),
  );
}

-- digests are of a run
pub run-digested : IsRun (history_of (small_opening 4 []) digested_events) (one_round digested_commands)
run-digested = record {
  drawn = (refl, (refl, (refl, (refl, (refl, (refl, (refl, (refl, tt))))))));
  events = (
    inr (record {
      before = [];
      settled = inl refl;
      rest = _;
      outcome = inr (inr (record {
        era = 1;
        mark = Tried (first_lane 0) 5 1 ∷ Mark (first_lane 0) 5 1 ∷ [];
        marking = inr refl;
        ended = Done (first_lane 0);
        outcome = inl refl;
        joined = refl;
      }));
      joined = refl;
    }),
    (
      record { before = []; resolutions = tt; rest = Roll (first_lane 1) 2 ∷ []; outcome = inl (2, refl); joined = refl },
      (
        inl (1, Some 0, refl),
        (
          inl (1, None, refl),
          (
            inr (inl refl),
            tt,
          ),
        ),
      ),
    ),
  );
  lanes = ((λ same. ((lit< tt, tt), ((lit< tt, tt), ((lit< tt, tt), ((lit< tt, tt), tt)))), (λ same. ((lit< tt, tt), ((lit< tt, tt), ((lit< tt, tt), ((lit< tt, tt), tt)))), (λ same. ((lit< tt, tt), ((lit< tt, tt), ((lit< tt, tt), ((lit< tt, tt), tt)))), (λ same. ((lit< tt, tt), ((lit< tt, tt), ((lit< tt, tt), ((lit< tt, tt), tt)))), tt)))), ((λ same. ((lit< tt, tt), tt), (λ same. ((lit< tt, tt), tt), (λ same. ((lit< tt, tt), tt), tt))), ((λ same. ((lit< tt, tt), tt), (λ same. ((lit< tt, tt), tt), tt)), ((λ same. ((lit< tt, tt), tt), tt), (tt, tt)))));
  borders = (tt, tt);
}
