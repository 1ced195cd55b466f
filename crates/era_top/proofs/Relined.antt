-- What holds of commands holds of the same ones in other lines.
use Rattle.std.proofs.Common.{◌≡◌, ℕ, ◌+◌, ◌||◌, List, [], ◌∷◌, ◌++◌, refl, ap, ap₂, sym, ◌∙◌, subst}
use Rattle.std.specs.Prelude.{if◌then◌else◌, sum_by}
use Rattle.std.proofs.lemmas.List.Sums.{sum_by-cons}
use Rattle.era_base.specs.declared.geometry.Geometry.{Geometry}
use Rattle.era_base.specs.declared.ids.CmdId.{CmdId}
use Rattle.era_model.specs.declared.command.Command.{Command}
use Rattle.era_model.specs.declared.command.Task.{Task}
use Rattle.era_model.specs.declared.history.Happening.{Happening}
use Rattle.era_model.specs.declared.history.Happening.TheVariants.{Opened, Happened, Crashed}
use Rattle.era_model.specs.declared.reply.Answer.{Answer}
use Rattle.era_model.specs.declared.reply.Answer.TheVariants.{Blocks, Memory}
use Rattle.era_model.specs.Commands.{events_of, answer_of}
use Rattle.era_model.specs.Events.{drawn_by, same_id}
use Rattle.era_model.specs.SessionRun.{AllBefore, AreAllDrawnBy, AreTaskEvents, HaveTheirEvents, KeepsLanes, StandsBefore, is_among, without_places}
use Rattle.era_model.specs.StreamLists.{block_written, era_behind, is_checkpoint, IsListAnswer, IsWrittenSince, ListsNameWritten}
use Rattle.era_top.specs.Runs.{commands_from, tasks_of, AreNumbered}

-- Commands have the same names and tasks, each as the one in its place.
abbrev pub Relined : List Command → List Command → Type 0
Relined [] [] = Unit {0}
Relined (one ∷ ones) (other ∷ others) = (one.id ≡ other.id) × (one.task ≡ other.task) × Relined ones others
Relined ones others = ⊥

-- numbered commands are those of their tasks, in other lines
pub numbered-relined : (number : ℕ) (commands : List Command) → AreNumbered number commands → Relined (commands_from number (tasks_of commands)) commands
numbered-relined number [] numbered = tt
numbered-relined number (command ∷ commands) numbered = (sym numbered.0, refl, numbered-relined (number + 1) commands numbered.1)

pub relined-back : (ones others : List Command) → Relined ones others → Relined others ones
relined-back [] [] same = tt
relined-back [] (other ∷ others) same = absurd same
relined-back (one ∷ ones) [] same = absurd same
relined-back (one ∷ ones) (other ∷ others) same = (sym same.0, sym same.1, relined-back ones others same.2)

-- the same names are among them
among-relined : (id : CmdId) (ones others : List Command) → Relined ones others → is_among id ones ≡ is_among id others
among-relined id [] [] same = refl
among-relined id [] (other ∷ others) same = absurd same
among-relined id (one ∷ ones) [] same = absurd same
among-relined id (one ∷ ones) (other ∷ others) same = ap₂ (λ first rest. first || rest) (ap (λ name. same_id name id) same.0) (among-relined id ones others same.2)

-- they draw the same events
pub drawn-relined : (ones others : List Command) (h : List Happening) → Relined ones others → AreAllDrawnBy ones h → AreAllDrawnBy others h
drawn-relined ones others [] same drawn = tt
drawn-relined ones others (Opened opening ∷ h) same drawn = tt
drawn-relined ones others (Happened event ∷ h) same drawn = (sym (among-relined (drawn_by event) ones others same) ∙ drawn.0, drawn-relined ones others h same drawn.1)
drawn-relined ones others (Crashed images ∷ h) same drawn = tt

-- each has events that it may have
pub events-relined : (h : List Happening) (ones others : List Command) → Relined ones others → HaveTheirEvents h ones → HaveTheirEvents h others
events-relined h [] [] same events = tt
events-relined h [] (other ∷ others) same events = absurd same
events-relined h (one ∷ ones) [] same events = absurd same
events-relined h (one ∷ ones) (other ∷ others) same events = (
  subst (λ (id : CmdId). AreTaskEvents h id other.task (without_places (events_of h id))) same.0
      (subst (λ (task : Task). AreTaskEvents h one.id task (without_places (events_of h one.id))) same.1 events.0),
  events-relined h ones others same.2 events.1,
)

before-relined : (h : List Happening) (one other : Command) (ones others : List Command) → one.id ≡ other.id → Relined ones others → StandsBefore h one ones → StandsBefore h other others
before-relined h one other [] [] is same before = tt
before-relined h one other [] (second ∷ others) is same before = absurd same
before-relined h one other (first ∷ ones) [] is same before = absurd same
before-relined h one other (first ∷ ones) (second ∷ others) is same before = (
  (λ lane.
      subst (λ (id : CmdId). AllBefore (events_of h id) (events_of h second.id)) is
      (subst (λ (id : CmdId). AllBefore (events_of h one.id) (events_of h id)) same.0
      (before.0 (ap (λ (id : CmdId). id.lane) is ∙ lane ∙ ap (λ (id : CmdId). id.lane) (sym same.0))))),
  before-relined h one other ones others is same.2 before.1,
)

-- they keep their lanes
pub lanes-relined : (h : List Happening) (ones others : List Command) → Relined ones others → KeepsLanes h ones → KeepsLanes h others
lanes-relined h [] [] same keeps = tt
lanes-relined h [] (other ∷ others) same keeps = absurd same
lanes-relined h (one ∷ ones) [] same keeps = absurd same
lanes-relined h (one ∷ ones) (other ∷ others) same keeps = (before-relined h one other ones others same.0 same.2 keeps.0, lanes-relined h ones others same.2 keeps.1)

-- Commands are split where the same ones in other lines are.
record SplitSame (ones before : List Command) (at : Command) (after : List Command) : Type 0 where
  front : List Command
  middle : Command
  back : List Command
  joined : ones ≡ front ++ middle ∷ back
  same : Relined front before
  id : middle.id ≡ at.id
  task : middle.task ≡ at.task

split-same : (ones before : List Command) (at : Command) (after : List Command) → Relined ones (before ++ at ∷ after) → SplitSame ones before at after
split-same [] [] at after same = absurd same
split-same [] (first ∷ before) at after same = absurd same
split-same (one ∷ ones) [] at after same = record { front = []; middle = one; back = ones; joined = refl; same = tt; id = same.0; task = same.1 }
split-same (one ∷ ones) (first ∷ before) at after same =
    let rest = split-same ones before at after same.2 in
    record {
      front = one ∷ rest.front;
      middle = rest.middle;
      back = rest.back;
      joined = ap (λ l. one ∷ l) rest.joined;
      same = (same.0, same.1, rest.same);
      id = rest.id;
      task = rest.task;
    }

-- How many checkpoints a command is.
abbrev checkpoints : Command → ℕ
checkpoints command = if is_checkpoint command.task then 1 else 0

sums-relined : (ones others : List Command) → Relined ones others → sum_by checkpoints ones ≡ sum_by checkpoints others
sums-relined [] [] same = refl
sums-relined [] (other ∷ others) same = absurd same
sums-relined (one ∷ ones) [] same = absurd same
sums-relined (one ∷ ones) (other ∷ others) same =
    sum_by-cons checkpoints one ones
    ∙ ap₂ (λ a b. a + b) (ap (λ task. if is_checkpoint task then 1 else 0) same.1) (sums-relined ones others same.2)
    ∙ sym (sum_by-cons checkpoints other others)

-- the era behind them is the same
pub era-relined : (ones others : List Command) → Relined ones others → era_behind ones ≡ era_behind others
era-relined ones others same = ap (λ n. n + 1) (sums-relined ones others same)

-- they wrote the same blocks
pub written-relined : (g : Geometry) (ones others : List Command) (since block : ℕ) → Relined ones others → IsWrittenSince g ones since block → IsWrittenSince g others since block
written-relined g ones others since block same written =
    let back = relined-back ones others same in
    let split = split-same others written.before written.write written.after (subst (Relined others) written.among back) in
    record {
      before = split.front;
      write = split.middle;
      after = split.back;
      among = split.joined;
      in_range = ap (λ task. block_written g task) split.task ∙ written.in_range;
      era = rw (era-relined split.front written.before split.same) written.era;
    }

answer-relined : (g : Geometry) (ones others : List Command) (since : ℕ) (answer : Answer) → Relined ones others → IsListAnswer g ones since answer → IsListAnswer g others since answer
answer-relined g ones others since (Blocks runs) same names = record {
  maximal = names.maximal;
  exact = λ block. (
    (λ covers. written-relined g ones others since block same ((names.exact block).0 covers)),
    (λ written. (names.exact block).1 (written-relined g others ones since block (relined-back ones others same) written)),
  );
}
answer-relined g ones others since Memory same names = tt
answer-relined g ones others since answer same names = absurd names

-- and their lists name the same
pub lists-relined : (g : Geometry) (h : List Happening) (ones others : List Command) → Relined ones others → ListsNameWritten g h ones → ListsNameWritten g h others
lists-relined g h ones others same lists before after list since among asks =
    let split = split-same ones before list after (subst (Relined ones) among same) in
    answer-relined g split.front before since (answer_of (events_of h list.id)) split.same
    (subst (λ (id : CmdId). IsListAnswer g split.front since (answer_of (events_of h id))) split.id
    (lists split.front split.back split.middle since split.joined (split.task ∙ asks)))
