-- Faults of the metadata behind the last commit, and eras that stand in memory alone, as events are added.
use Rattle.std.proofs.Common.{◌≡◌, ◌||◌, not, ℕ, Bool, true, false, List, [], ◌∷◌, Option, Some, None, refl, sym, ◌∙◌}
use Rattle.std.specs.Prelude.{if◌then◌else◌}
use Rattle.std.proofs.lemmas.Bool.{and_from, or_left, or_right, or_parts, not_from_true, not_from_false, false≢true, true_from_ne_false, eq-eqb}
use Rattle.era_base.specs.declared.ids.CmdId.{CmdId}
use Rattle.era_model.specs.declared.event.Event.{Event}
use Rattle.era_model.specs.declared.event.Event.TheVariants.{Roll, Refused}
use Rattle.era_model.specs.declared.event.Kind.{Kind}
use Rattle.era_model.specs.declared.event.Kind.TheVariants.{Checkpoint as CheckpointKind}
use Rattle.era_model.specs.declared.event.Why.{Why}
use Rattle.era_model.specs.declared.event.Why.TheVariants.{MetaFault}
use Rattle.era_model.specs.declared.history.Happening.{Happening}
use Rattle.era_model.specs.declared.history.Happening.TheVariants.{Opened, Happened, Crashed}
use Rattle.era_model.specs.Events.{is_metadata_fault_of, same_id}
use Rattle.era_model.specs.Marking.{failed_after_switch, some_event, switch_before_refusals}
use Rattle.era_model.specs.Recovered.{fails_after_commits, is_committed, is_metadata_fault, is_switch}
use Rattle.era_keeper.specs.Recovery.{HasFailedSwitch}

-- what isn't committed in a journal isn't in a longer one
not-committed : (event : Event) (h : List Happening) (e : Event) → is_committed h e ≡ false → is_committed (Happened event ∷ h) e ≡ false
not-committed event h (Roll id era) is =
    not_from_true (some_event (Happened event ∷ h) (is_metadata_fault_of id))
    (or_right (is_metadata_fault_of id event) (some_event h (is_metadata_fault_of id))
    (true_from_ne_false (some_event h (is_metadata_fault_of id)) (λ none. false≢true (sym is ∙ not_from_false _ none))))
not-committed event h e is = is

fails-step : (c c' x r r' : Bool) → (c ≡ false → c' ≡ false) → (r' ≡ false → r ≡ false) → (if c' then false else (x || r')) ≡ false → (if c then false else (x || r)) ≡ false
fails-step true c' x r r' less rest none = refl
fails-step false true x r r' less rest none = absurd (false≢true (sym (less refl)))
fails-step false false true r r' less rest none = none
fails-step false false false r r' less rest none = rest none

-- without a fault behind the commits of a longer journal there is none behind those of a shorter one
pub fails-less : (test : Kind → Bool) (event : Event) (h l : List Happening) → fails_after_commits test (Happened event ∷ h) l ≡ false → fails_after_commits test h l ≡ false
fails-less test event h [] none = refl
fails-less test event h (Opened opening ∷ l) none = refl
fails-less test event h (Happened e ∷ l) none =
    fails-step (is_committed h e) (is_committed (Happened event ∷ h) e) (is_metadata_fault test e) (fails_after_commits test h l) (fails_after_commits test (Happened event ∷ h) l)
    (not-committed event h e) (fails-less test event h l) none
fails-less test event h (Crashed images ∷ l) none = refl

pub fails-more : (test : Kind → Bool) (event : Event) (h l : List Happening) → fails_after_commits test h l ≡ true → fails_after_commits test (Happened event ∷ h) l ≡ true
fails-more test event h l some = true_from_ne_false _ (λ none. false≢true (sym (fails-less test event h l none) ∙ some))

-- an event that isn't committed, behind which there is no fault
pub fails-before : (test : Kind → Bool) (event : Event) (h : List Happening) → is_committed (Happened event ∷ h) event ≡ false
    → fails_after_commits test (Happened event ∷ h) (Happened event ∷ h) ≡ false → fails_after_commits test h h ≡ false
fails-before test event h not none =
    fails-less test event h h (or_parts (is_metadata_fault test event) (fails_after_commits test (Happened event ∷ h) h) (rw not at none)).1

-- a refused command's fault behind the commits
pub refused-fails : (test : Kind → Bool) (id : CmdId) (kind : Kind) (count : ℕ) (h : List Happening) → test kind ≡ true
    → fails_after_commits test (Happened (Refused id kind (MetaFault count)) ∷ h) (Happened (Refused id kind (MetaFault count)) ∷ h) ≡ true
refused-fails test id kind count h is = or_left (test kind) _ is

pub same-itself : (id : CmdId) → same_id id id ≡ true
same-itself id = and_from _ _ (eq-eqb id.lane id.lane refl) (eq-eqb id.number id.number refl)

-- behind a switch whose command was told of a fault
pub switch-failed : (id : CmdId) (era count : ℕ) (h : List Happening)
    → HasFailedSwitch (Happened (Refused id CheckpointKind (MetaFault count)) ∷ Happened (Roll id era) ∷ h)
switch-failed id era count h = record { volatile = or_left (same_id id id) _ (same-itself id); failed = refl }

-- there is none by the journal before the switch
pub switch-before : (test : Kind → Bool) (id : CmdId) (era count : ℕ) (h : List Happening) → test CheckpointKind ≡ false
    → fails_after_commits test (Happened (Refused id CheckpointKind (MetaFault count)) ∷ Happened (Roll id era) ∷ h) (Happened (Refused id CheckpointKind (MetaFault count)) ∷ Happened (Roll id era) ∷ h) ≡ false
    → fails_after_commits test h h ≡ false
switch-before test id era count h other none =
    let refused : Event = Refused id CheckpointKind (MetaFault count) in
    let later : List Happening = Happened refused ∷ Happened (Roll id era) ∷ h in
    let rolled_none : fails_after_commits test later (Happened (Roll id era) ∷ h) ≡ false = (or_parts (test CheckpointKind) _ none).1 in
    let uncommitted : is_committed later (Roll id era) ≡ false = not_from_true _ (or_left (same_id id id) _ (same-itself id)) in
    let rest : fails_after_commits test later h ≡ false = rw uncommitted at rolled_none in
    fails-less test (Roll id era) h h (fails-less test refused (Happened (Roll id era) ∷ h) h rest)

-- a refusal keeps it
failed-more : (event : Event) (h : List Happening) (switch : Option CmdId) → failed_after_switch h switch ≡ true → failed_after_switch (Happened event ∷ h) switch ≡ true
failed-more event h None is = is
failed-more event h (Some id) is = or_right (is_metadata_fault_of id event) _ is

pub switch-still-failed : (id : CmdId) (kind : Kind) (why : Why) (h : List Happening) → HasFailedSwitch h → HasFailedSwitch (Happened (Refused id kind why) ∷ h)
switch-still-failed id kind why h is = record {
  volatile = failed-more (Refused id kind why) h (switch_before_refusals h) is.volatile;
  failed = or_right _ _ (fails-more is_switch (Refused id kind why) h h is.failed);
}
