use Rattle.std.proofs.Common.{◌≡◌, ◌+◌, ◌-◌, ◌<◌, ◌∷◌, drop, length, ap, sym, ◌∙◌, subst, arith}
use Rattle.std.proofs.lemmas.List.{drop_more}
use Rattle.era_model.specs.declared.command.Command.{Command}
use Rattle.era_serve.specs.Memories.{AreMemoriesFor, IsMemoryFor}
use Rattle.era_serve.proofs.memory.make_memories.Goals as goal

-- one memory more
pub loop-index-preserved : goal.loop-index-preserved
loop-index-preserved c =
    let commands = c.args.commands.now in
    let i = c.loop-index.index - 1 in
    let command = c.index-commands-index.result in
    let next : i + 1 ≡ c.loop-index.index = omega (arith, c.loop-index-test.true) in
    let less : i < length commands = omega (arith, c.loop-index-test.true, c.loop-index.invariant.within) in
    let is : drop i commands ≡ command ∷ drop c.loop-index.index commands =
    drop_more commands i command less ∙ ap (λ (one : Command). one ∷ drop (i + 1) commands) (sym c.index-commands-index.is) ∙ ap (λ n. command ∷ drop n commands) next in
    record {
      within = omega (arith, c.loop-index.invariant.within);
      made = subst (λ l. AreMemoriesFor c.args.stripes l c.push.new.self.items) (sym is) (
        c.loop-index.memories.items,
        c.in_ok-make_memory.field-0,
        c.in_ok-push.ensures.items,
        subst (λ (one : Command). IsMemoryFor c.args.stripes one.task c.in_ok-make_memory.field-0) (sym c.index-commands-index.is) c.in_ok-make_memory.ensures,
        c.loop-index.invariant.made,
      );
    }
