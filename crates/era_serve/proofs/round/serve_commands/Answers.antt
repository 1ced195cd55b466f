use Rattle.std.proofs.Common.{◌≡◌, ℕ, ◌+◌, ◌<◌, get_or, List, [], ◌∷◌, ◌++◌, length, take, drop, ap, sym, ◌∙◌, subst}
use Rattle.std.proofs.lemmas.List.{drop_more, take_all, take_more}
use Rattle.era_model.specs.declared.command.Command.{Command}
use Rattle.era_serve.specs.Memories.{AreMemoriesFor, IsMemoryFor}
use Rattle.era_serve.specs.Replying.{HasReplied, MayServe, told_at}
use Rattle.era_serve.specs.declared.memory.CommandMemory.{CommandMemory}
use Rattle.era_serve.proofs.MayServe.{may-first, may-later}
use Rattle.era_serve.proofs.ServedSteps.{last-same, replied-none, replied-then, served-count}
use Rattle.era_serve.proofs.round.serve_commands.Goals as goal

-- the command at an index, and those behind it
here : (commands : List Command) (i : ℕ) (command : Command) → i < length commands → command ≡ get_or commands i command → drop i commands ≡ command ∷ drop (i + 1) commands
here commands i command less is = drop_more commands i command less ∙ ap (λ (one : Command). one ∷ drop (i + 1) commands) (sym is)

-- those up to it
up-to : (commands : List Command) (i : ℕ) (command : Command) → i < length commands → command ≡ get_or commands i command → take i commands ++ command ∷ [] ≡ take (i + 1) commands
up-to commands i command less is = sym (take_more commands i command less ∙ ap (λ (one : Command). take i commands ++ one ∷ []) (sym is))

-- the last memory is that of the first command
popped : (stripes : ℕ) (command : Command) (later : List Command) (memories front : List CommandMemory) (last : CommandMemory) → AreMemoriesFor stripes (command ∷ later) memories → memories ≡ front ++ last ∷ []
    → IsMemoryFor stripes command.task last × AreMemoriesFor stripes later front
popped stripes command later memories front last (others, own, is, for, rest) split =
    let same = last-same others front own last (sym is ∙ split) in
    (subst (IsMemoryFor stripes command.task) same.1 for, subst (AreMemoriesFor stripes later) same.0 rest)

-- none was served yet
pub loop-command-init : goal.loop-command-init
loop-command-init g c = record {
  may = c.requires.may;
  memories = c.requires.memories;
  replied = replied-none g.D.Disk c.args.session.now (told_at g.K.Sink c.args.replies.now c.args.sink.now) c.requires.may.fits;
}

pub serve_command-requires-clause-may : goal.serve_command-requires-clause-may
serve_command-requires-clause-may g c =
    let commands = c.args.commands.now in
    let i = c.loop-command.command-index in
    may-first g.D.Disk c.loop-command.session c.command-item.result (drop (i + 1) commands)
    (subst (MayServe g.D.Disk c.loop-command.session) (here commands i c.command-item.result c.loop-command-test.true c.command-item.is) c.loop-command.invariant.may)

pub serve_command-requires-clause-memory : goal.serve_command-requires-clause-memory
serve_command-requires-clause-memory g c =
    let commands = c.args.commands.now in
    let i = c.loop-command.command-index in
    let stripes = length c.loop-command.session.stripes.items in
    (popped stripes c.command-item.result (drop (i + 1) commands) c.loop-command.memories.items c.pop.new.self.items c.in-Some.memory
    (subst (λ l. AreMemoriesFor stripes l c.loop-command.memories.items) (here commands i c.command-item.result c.loop-command-test.true c.command-item.is) c.loop-command.invariant.memories)
    c.in-Some.ensures.items).0

-- one more was served
pub loop-command-preserved : goal.loop-command-preserved
loop-command-preserved g c =
    let commands = c.args.commands.now in
    let i = c.loop-command.command-index in
    let old = c.loop-command.session in
    let new = c.serve_command.new.session in
    let stripes = length old.stripes.items in
    let command = c.command-item.result in
    let later = drop (i + 1) commands in
    let is = here commands i command c.loop-command-test.true c.command-item.is in
    let first = told_at g.K.Sink c.args.replies.now c.args.sink.now in
    let told = told_at g.K.Sink c.loop-command.replies c.loop-command.sink in
    let told' = told_at g.K.Sink c.serve_command.new.replies c.serve_command.new.sink in
    record {
      may = may-later g.D.Disk old new command later told told' (subst (MayServe g.D.Disk old) is c.loop-command.invariant.may) c.serve_command.ensures;
      memories = subst (λ n. AreMemoriesFor n later c.pop.new.self.items) (sym (served-count g.D.Disk c.serve_command.ensures.served old new c.serve_command.ensures.all))
          (popped stripes command later c.loop-command.memories.items c.pop.new.self.items c.in-Some.memory
          (subst (λ l. AreMemoriesFor stripes l c.loop-command.memories.items) is c.loop-command.invariant.memories) c.in-Some.ensures.items).1;
      replied = subst (λ l. HasReplied g.D.Disk l c.args.session.now new first told') (up-to commands i command c.loop-command-test.true c.command-item.is)
          (replied-then g.D.Disk (take i commands) (command ∷ []) c.args.session.now old new first told told' c.loop-command.invariant.replied c.serve_command.ensures);
    }

-- all were served
pub returns : goal.returns
returns g c =
    subst (λ l. HasReplied g.D.Disk l c.args.session.now c.loop-command.session (told_at g.K.Sink c.args.replies.now c.args.sink.now) (told_at g.K.Sink c.loop-command.replies c.loop-command.sink))
    (take_all c.loop-command.command-index c.args.commands.now c.loop-command-test.false) c.loop-command.invariant.replied
