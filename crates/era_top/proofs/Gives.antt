-- What is gathered and given of a text: of replies, of runs, and of its last bytes.
use Rattle.std.proofs.Common.{◌≡◌, ℕ, ◌+◌, ◌<◌, List, [], ◌∷◌, ◌++◌, length, get_or, take, drop, ◌≤◌, ap, ap₂, sym, ◌∙◌, subst, append_assoc, length-append, inl, inr, arith}
use Rattle.std.specs.Prelude.{Option, Some}
use Rattle.std.proofs.Math.Seq.{take-append-add}
use Rattle.std.proofs.lemmas.List.{take-append-le, drop_more, drop_all, append-nil}
use Rattle.era_model.specs.declared.command.Command.{Command}
use Rattle.era_top.specs.declared.outcome.Outcome.{Outcome}
use Rattle.era_top.specs.Outcomes.{answers_text, event_count, outcome_line}
use Rattle.era_base.specs.Streams.{GivesFront}
use Rattle.era_line.specs.declared.text_buffer.TextBuffer.{TextBuffer}
use Rattle.era_line.specs.TextBuffer.{IsEmpty}
use Rattle.era_line.proofs.PartSteps.{HasAdded, added-then}
use Rattle.era_tools.specs.declared.status.Status.{Status}
use Rattle.era_top.specs.Gathered.{PrintsBehind}
use Rattle.era_tools.specs.Printing.{Prints}

-- a front of a piece, given behind what was done, is a front of all
pub gives_front-within : (before done piece rest : List ℕ) (after : Option (List ℕ)) → GivesFront (before ++ done) piece after → GivesFront before (done ++ (piece ++ rest)) after
gives_front-within before done piece rest after front = record {
  count = length done + front.count;
  enough = simp length-append (omega (arith, front.enough));
  given = front.given ∙ ap (λ bytes. Some bytes) (append_assoc before done (take front.count piece)
      ∙ ap (λ bytes. before ++ bytes) (sym (take-append-add done (piece ++ rest) front.count
      ∙ ap (λ bytes. done ++ bytes) (take-append-le front.count piece rest front.enough))));
}

-- the replies from an index on: the one there, and the rest
pub answers_text-next : (commands : List Command) (outcomes : List Outcome) (i place : ℕ) (command : Command) (outcome : Outcome) → i < length outcomes → i < length commands
    → outcome ≡ get_or outcomes i outcome → command ≡ get_or commands i command
    → answers_text place (drop i commands) (drop i outcomes)
    ≡ outcome_line command.line place outcome ++ answers_text (place + event_count outcome) (drop (i + 1) commands) (drop (i + 1) outcomes)
answers_text-next commands outcomes i place command outcome h k is at =
    ap₂ (answers_text place)
    (drop_more commands i command k ∙ ap (λ (c : Command). c ∷ drop (i + 1) commands) (sym at))
    (drop_more outcomes i outcome h ∙ ap (λ (o : Outcome). o ∷ drop (i + 1) outcomes) (sym is))

-- the only bytes of a text
pub prints-fresh : (given given' : Option (List ℕ)) (buffer : TextBuffer) (bytes : List ℕ) (ended result : Status) → IsEmpty buffer
    → PrintsBehind given buffer given' bytes ended result → Prints given given' bytes ended result
prints-fresh given given' buffer bytes ended result empty printed = elim printed [
  | inl all ↦ inl (all.0, (λ before is. all.1 before [] (empty before given is)))
  | inr some ↦ inr (some.0, (λ before is. some.1 before [] (empty before given is)))
]

-- the last bytes of a text behind its first ones
pub prints-added : (given given' given'' : Option (List ℕ)) (buffer buffer' : TextBuffer) (first rest : List ℕ) (ended result : Status) → IsEmpty buffer
    → HasAdded given buffer given' buffer' first → PrintsBehind given' buffer' given'' rest ended result → Prints given given'' (first ++ rest) ended result
prints-added given given' given'' buffer buffer' first rest ended result empty added printed = elim printed [
  | inl all ↦ inl (all.0, (λ before is. all.1 before first (added before [] (empty before given is))))
  | inr some ↦ inr (some.0, (λ before is. some.1 before first (added before [] (empty before given is))))
]

-- replies of which some were added, and with those that are left they are all
abbrev pub StandBefore : ℕ → List Command → List Outcome → ℕ → ℕ → (List ℕ → Type 0) → Type 0
StandBefore start commands outcomes i place IsAdded =
    (done : List ℕ) × (answers_text start commands outcomes ≡ done ++ answers_text place (drop i commands) (drop i outcomes)) × IsAdded done

-- one reply more was added
pub stand_before-next : (start : ℕ) (commands : List Command) (outcomes : List Outcome) (i place count : ℕ) (command : Command) (outcome : Outcome) (first old new : Option (List ℕ)) (first' old' new' : TextBuffer)
    → i < length outcomes → i < length commands → outcome ≡ get_or outcomes i outcome → command ≡ get_or commands i command
    → StandBefore start commands outcomes i place (HasAdded first first' old old')
    → HasAdded old old' new new' (outcome_line command.line place outcome)
    → count ≡ event_count outcome
    → StandBefore start commands outcomes (i + 1) (place + count) (HasAdded first first' new new')
stand_before-next start commands outcomes i place count command outcome first old new first' old' new' here there is at stand adds counted =
    let reply = outcome_line command.line place outcome in (
      stand.0 ++ reply,
      stand.1
          ∙ ap (λ bytes. stand.0 ++ bytes) (answers_text-next commands outcomes i place command outcome here there is at)
          ∙ sym (append_assoc stand.0 reply _)
          ∙ ap (λ n. (stand.0 ++ reply) ++ answers_text (place + n) (drop (i + 1) commands) (drop (i + 1) outcomes)) (sym counted),
      added-then first old new first' old' new' stand.0 reply stand.2 adds,
    )

-- all replies were added once none is left
pub stand_before-end : (start : ℕ) (commands : List Command) (outcomes : List Outcome) (i place : ℕ) (IsAdded : List ℕ → Type 0)
    → length outcomes ≤ i → StandBefore start commands outcomes i place IsAdded → IsAdded (answers_text start commands outcomes)
stand_before-end start commands outcomes i place IsAdded past stand =
    subst IsAdded
    (sym (stand.1 ∙ ap (λ rest. stand.0 ++ answers_text place (drop i commands) rest) (drop_all i outcomes past) ∙ append-nil stand.0)) stand.2
