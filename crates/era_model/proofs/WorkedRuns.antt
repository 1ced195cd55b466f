-- A small session with a digest worker runs its rounds, and a checkpoint resolves a stripe once at most.
use Rattle.std.proofs.Common.{◌≡◌, ℕ, List, [], ◌∷◌, ◌++◌, Some, None, inl, inr, refl, sym, subst, lit<}
use Rattle.era_model.specs.declared.event.Event.{Event}
use Rattle.era_model.specs.declared.event.Event.TheVariants.{Tried, Mark, Done, Settle, Unsettled, Roll, Kept}
use Rattle.era_model.specs.declared.history.Happening.{Happening}
use Rattle.era_model.specs.CommandEvents.{AreResolutions, IsCheckpointEnd}
use Rattle.era_model.specs.Commands.{one_round}
use Rattle.era_model.specs.Rows.{first_lane, sector_of}
use Rattle.era_model.specs.RowsOfRuns.{checkpoint_commands, resolved_twice_history, unresolved_twice_history, worked_history, worked_rounds}
use Rattle.era_model.specs.SessionRun.{IsRun}

-- rounds with steps of the digest worker are a run
pub run-worked : IsRun worked_history worked_rounds
run-worked = record {
  drawn = (refl, (refl, (refl, (refl, (refl, (refl, (refl, (refl, (refl, tt)))))))));
  events = (
    inr (record {
      before = [];
      settled = inl refl;
      rest = _;
      outcome = inr (inr (record {
        era = 1;
        mark = Tried (first_lane 0) 5 1 ∷ Mark (first_lane 0) 5 1 ∷ [];
        marking = inr refl;
        ended = Done (first_lane 0);
        outcome = inl refl;
        joined = refl;
      }));
      joined = refl;
    }),
    (
      record { before = []; resolutions = tt; rest = Roll (first_lane 1) 2 ∷ []; outcome = inl (2, refl); joined = refl },
      (inl (1, Some 0, refl), (inl (1, None, refl), (inl ((5, 5) ∷ [], refl), (inr (inl refl), tt)))),
    ),
  );
  lanes = ((λ same. ((lit< tt, tt), ((lit< tt, tt), ((lit< tt, tt), ((lit< tt, tt), tt)))), (λ same. absurd (cc), (λ same. absurd (cc), (λ same. ((lit< tt, tt), ((lit< tt, tt), ((lit< tt, tt), ((lit< tt, tt), tt)))), (λ same. absurd (cc), tt))))), ((λ same. absurd (cc), (λ same. absurd (cc), (λ same. ((lit< tt, tt), tt), (λ same. absurd (cc), tt)))), ((λ same. ((lit< tt, tt), tt), (λ same. absurd (cc), (λ same. ((lit< tt, tt), tt), tt))), ((λ same. absurd (cc), (λ same. ((lit< tt, tt), tt), tt)), ((λ same. absurd (cc), tt), (tt, tt))))));
  borders = (
    ((((lit< tt, tt), ((lit< tt, tt), ((lit< tt, tt), ((lit< tt, tt), tt)))), (((lit< tt, tt), tt), (((lit< tt, tt), tt), (((lit< tt, tt), tt), tt)))), ((((lit< tt, tt), ((lit< tt, tt), ((lit< tt, tt), ((lit< tt, tt), tt)))), (((lit< tt, tt), tt), (((lit< tt, tt), tt), (((lit< tt, tt), tt), tt)))), tt)),
    (tt, tt),
  );
}

-- a checkpoint's end isn't a resolution
not-settled : (bytes : List ℕ) (more rest : List Event) → IsCheckpointEnd (first_lane 1) rest → rest ≡ Settle (first_lane 1) (first_lane 0) bytes ∷ more → ⊥
not-settled bytes more rest (inl moved) same = let end = moved.1 in cc
not-settled bytes more rest (inr (inl failed)) same = let end = failed.2 in cc
not-settled bytes more rest (inr (inr (inl kept))) same = let end = kept.1 in cc
not-settled bytes more rest (inr (inr (inr (inl last)))) same = cc
not-settled bytes more rest (inr (inr (inr (inr fault)))) same = let end = fault.1 in cc

-- nor is it a failed one
not-unsettled : (count : ℕ) (more rest : List Event) → IsCheckpointEnd (first_lane 1) rest → rest ≡ Unsettled (first_lane 1) (first_lane 0) count ∷ more → ⊥
not-unsettled count more rest (inl moved) same = let end = moved.1 in cc
not-unsettled count more rest (inr (inl failed)) same = let end = failed.2 in cc
not-unsettled count more rest (inr (inr (inl kept))) same = let end = kept.1 in cc
not-unsettled count more rest (inr (inr (inr (inl last)))) same = cc
not-unsettled count more rest (inr (inr (inr (inr fault)))) same = let end = fault.1 in cc

-- what stands first of resolutions stands first of all events
resolved-twice : (before rest : List Event) → AreResolutions resolved_twice_history (first_lane 1) before → IsCheckpointEnd (first_lane 1) rest
    → Settle (first_lane 1) (first_lane 0) (sector_of 170) ∷ Settle (first_lane 1) (first_lane 0) (sector_of 170) ∷ Roll (first_lane 1) 2 ∷ [] ≡ before ++ rest → ⊥
resolved-twice [] rest settled end joined = not-settled (sector_of 170) _ rest end (sym joined)
resolved-twice (first ∷ []) rest settled end joined = not-settled (sector_of 170) (Roll (first_lane 1) 2 ∷ []) rest end (cc)
resolved-twice (first ∷ second ∷ more) rest settled end joined =
    let one : first ≡ Settle (first_lane 1) (first_lane 0) (sector_of 170) = cc in
    let two : second ≡ Settle (first_lane 1) (first_lane 0) (sector_of 170) = cc in
    let both = subst (λ event. AreResolutions resolved_twice_history (first_lane 1) (event ∷ second ∷ more)) one settled in
    let seen : AreResolutions resolved_twice_history (first_lane 1) (Settle (first_lane 1) (first_lane 0) (sector_of 170) ∷ Settle (first_lane 1) (first_lane 0) (sector_of 170) ∷ more) =
    subst (λ event. AreResolutions resolved_twice_history (first_lane 1) (Settle (first_lane 1) (first_lane 0) (sector_of 170) ∷ event ∷ more)) two both in
    seen.1.0 refl

-- the checkpoint may not resolve the stripe twice
pub not-resolved_twice : IsRun resolved_twice_history (one_round checkpoint_commands) → ⊥
not-resolved_twice run =
    let checkpoint = run.events.1.0 in resolved-twice checkpoint.before checkpoint.rest checkpoint.resolutions checkpoint.outcome checkpoint.joined

unresolved-twice : (before rest : List Event) → AreResolutions unresolved_twice_history (first_lane 1) before → IsCheckpointEnd (first_lane 1) rest
    → Unsettled (first_lane 1) (first_lane 0) 2 ∷ Unsettled (first_lane 1) (first_lane 0) 3 ∷ Kept (first_lane 1) 1 ∷ [] ≡ before ++ rest → ⊥
unresolved-twice [] rest failed end joined = not-unsettled 2 _ rest end (sym joined)
unresolved-twice (first ∷ []) rest failed end joined = not-unsettled 3 (Kept (first_lane 1) 1 ∷ []) rest end (cc)
unresolved-twice (first ∷ second ∷ more) rest failed end joined =
    let one : first ≡ Unsettled (first_lane 1) (first_lane 0) 2 = cc in
    let two : second ≡ Unsettled (first_lane 1) (first_lane 0) 3 = cc in
    let both = subst (λ event. AreResolutions unresolved_twice_history (first_lane 1) (event ∷ second ∷ more)) one failed in
    let seen : AreResolutions unresolved_twice_history (first_lane 1) (Unsettled (first_lane 1) (first_lane 0) 2 ∷ Unsettled (first_lane 1) (first_lane 0) 3 ∷ more) =
    subst (λ event. AreResolutions unresolved_twice_history (first_lane 1) (Unsettled (first_lane 1) (first_lane 0) 2 ∷ event ∷ more)) two both in
    seen.1.0 refl

-- nor fail to twice
pub not-unresolved_twice : IsRun unresolved_twice_history (one_round checkpoint_commands) → ⊥
not-unresolved_twice run =
    let checkpoint = run.events.1.0 in unresolved-twice checkpoint.before checkpoint.rest checkpoint.resolutions checkpoint.outcome checkpoint.joined
