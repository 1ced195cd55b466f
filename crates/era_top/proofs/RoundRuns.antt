-- The commands of rounds, one round behind the other.
use Rattle.std.proofs.Common.{◌≡◌, ℕ, ◌+◌, List, [], ◌∷◌, ◌++◌, refl, ap, ap₂, sym, ◌∙◌, subst, append_assoc}
use Rattle.std.proofs.lemmas.List.{append-nil}
use Rattle.era_model.specs.declared.command.Command.{Command}
use Rattle.era_model.specs.declared.history.Happening.{Happening}
use Rattle.era_model.specs.Commands.{commands_of, events_of}
use Rattle.era_model.specs.SessionRun.{AllBefore, AllStandBefore, AreParted, KeepsLanes, KeepsRounds, StandsBefore}
use Rattle.era_model.specs.Transcript.{reply_line, replies_text, rounds_text}
use Rattle.era_top.specs.Runs.{AreNumbered}
use Rattle.era_top.specs.Sessions.{joined, rounds_of}

-- the commands of rounds without a digest worker
pub commands-joined : (rounds : List (List Command)) → commands_of (rounds_of rounds) ≡ joined rounds
commands-joined [] = refl
commands-joined (round ∷ rounds) = ap₂ (λ first rest. first ++ rest) (append-nil round) (commands-joined rounds)

-- one round more
pub joined-push : (rounds : List (List Command)) (round : List Command) → joined (rounds ++ round ∷ []) ≡ joined rounds ++ round
joined-push [] round = append-nil round
joined-push (first ∷ rounds) round = ap (λ rest. first ++ rest) (joined-push rounds round) ∙ sym (append_assoc first (joined rounds) round)

-- replies to more commands
pub replies-append : (h : List Happening) (first second : List Command) → replies_text h (first ++ second) ≡ replies_text h first ++ replies_text h second
replies-append h [] second = refl
replies-append h (command ∷ first) second =
    let reply = reply_line command.line (events_of h command.id) in
    ap (λ rest. reply ++ rest) (replies-append h first second) ∙ sym (append_assoc reply (replies_text h first) (replies_text h second))

-- the lines of rounds are the replies to their commands
pub rounds-replies : (h : List Happening) (rounds : List (List Command)) → rounds_text h (rounds_of rounds) ≡ replies_text h (joined rounds)
rounds-replies h [] = refl
rounds-replies h (round ∷ rounds) =
    ap₂ (λ first rest. first ++ rest) (append-nil (replies_text h round)) (rounds-replies h rounds)
    ∙ sym (replies-append h round (joined rounds))

-- Commands are all of lane 0.
abbrev AreOfLane : List Command → Type 0
AreOfLane [] = Unit {0}
AreOfLane (command ∷ commands) = (command.id.lane ≡ 0) × AreOfLane commands

numbered-lane : (number : ℕ) (commands : List Command) → AreNumbered number commands → AreOfLane commands
numbered-lane number [] numbered = tt
numbered-lane number (command ∷ commands) numbered = (ap (λ id. id.lane) numbered.0, numbered-lane (number + 1) commands numbered.1)

-- of commands in a lane, those behind a front
lane-behind : (first second : List Command) → AreOfLane (first ++ second) → AreOfLane second
lane-behind [] second all = all
lane-behind (command ∷ first) second all = lane-behind first second all.1

keeps-behind : (h : List Happening) (first second : List Command) → KeepsLanes h (first ++ second) → KeepsLanes h second
keeps-behind h [] second keeps = keeps
keeps-behind h (command ∷ first) second keeps = keeps-behind h first second keeps.1

-- a command stands before one that comes later in its lane
stands-at : (h : List Happening) (command : Command) (between : List Command) (later : Command) (after : List Command) → command.id.lane ≡ later.id.lane
    → StandsBefore h command (between ++ later ∷ after) → AllBefore (events_of h command.id) (events_of h later.id)
stands-at h command [] later after same stands = stands.0 same
stands-at h command (other ∷ between) later after same stands = stands-at h command between later after same stands.1

-- and so do all commands before it
all-stand : (h : List Happening) (first between : List Command) (later : Command) (after : List Command) → AreOfLane (first ++ (between ++ later ∷ after))
    → KeepsLanes h (first ++ (between ++ later ∷ after)) → AllStandBefore h first later
all-stand h [] between later after all keeps = tt
all-stand h (command ∷ first) between later after all keeps = (
  stands-at h command (first ++ between) later after (all.0 ∙ sym (lane-behind between (later ∷ after) (lane-behind first (between ++ later ∷ after) all.1)).0)
      (subst (StandsBefore h command) (sym (append_assoc first between (later ∷ after))) keeps.0),
  all-stand h first between later after all.1 keeps.1,
)

-- commands of a lane are parted anywhere
parted : (h : List Happening) (first between later : List Command) → AreOfLane (first ++ (between ++ later)) → KeepsLanes h (first ++ (between ++ later)) → AreParted h first later
parted h first between [] all keeps = tt
parted h first between (command ∷ later) all keeps =
    let same : first ++ (between ++ command ∷ later) ≡ first ++ ((between ++ command ∷ []) ++ later) = ap (λ (l : List Command). first ++ l) (sym (append_assoc between (command ∷ []) later)) in (
      all-stand h first between command later all keeps,
      parted h first (between ++ command ∷ []) later (subst AreOfLane same all) (subst (KeepsLanes h) same keeps),
    )

keeps-rounds : (h : List Happening) (rounds : List (List Command)) → AreOfLane (joined rounds) → KeepsLanes h (joined rounds) → KeepsRounds h (rounds_of rounds)
keeps-rounds h [] all keeps = tt
keeps-rounds h (round ∷ rounds) all keeps = (
  subst (λ (later : List Command). AreParted h (round ++ []) later) (sym (commands-joined rounds))
      (subst (λ (first : List Command). AreParted h first (joined rounds)) (sym (append-nil round)) (parted h round [] (joined rounds) all keeps)),
  keeps-rounds h rounds (lane-behind round (joined rounds) all) (keeps-behind h round (joined rounds) keeps),
)

-- the rounds of one lane keep their borders
pub numbered-rounds : (h : List Happening) (rounds : List (List Command)) → AreNumbered 0 (joined rounds) → KeepsLanes h (joined rounds) → KeepsRounds h (rounds_of rounds)
numbered-rounds h rounds numbered keeps = keeps-rounds h rounds (numbered-lane 0 (joined rounds) numbered) keeps
