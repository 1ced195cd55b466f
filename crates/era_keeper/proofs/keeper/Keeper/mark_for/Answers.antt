use Rattle.std.proofs.Common.{◌≡◌, ℕ, Bool, Ok, refl, sym, ap, ◌∙◌, subst}
use Rattle.std.proofs.lemmas.Bool.{eq-eqb}
use Rattle.era_model.specs.Marks.{BlockMarks, marks_last_era}
use Rattle.era_keeper.specs.declared.keeper.Keeper.{Keeper}
use Rattle.era_keeper.specs.Keepers.{KeeperStands}
use Rattle.era_keeper.specs.Results.{MarkDid}
use Rattle.era_keeper.proofs.Drawn.{drew-none}
use Rattle.era_keeper.proofs.keeper.Keeper.mark_for.Goals as goal

pub returns-then-marked-clause-stands : goal.returns-then-marked-clause-stands
returns-then-marked-clause-stands g c = λ opening stands. subst (KeeperStands g.D.Disk opening) (sym c.set_bit.ensures.same) stands

pub returns-then-marked-clause-did : goal.returns-then-marked-clause-did
returns-then-marked-clause-did g c =
    let old = c.args.self.now in
    let is = sym c.marked.ensures ∙ c.if-marked.true in
    subst (λ (flag : Bool). MarkDid g.D.Disk flag c.args.id c.args.block (Ok tt) old c.set_bit.new.self c.args.pass.now c.args.pass.now) (sym is)
    (ap (λ (k : Keeper g.row.D.Denot). k.meta) c.set_bit.ensures.same, drew-none old c.set_bit.new.self c.args.pass.now (ap (λ (k : Keeper g.row.D.Denot). k.entries) c.set_bit.ensures.same))

pub set_bit-requires-in-Ok-clause-marked : goal.set_bit-requires-in-Ok-clause-marked
set_bit-requires-in-Ok-clause-marked g c =
    let m : BlockMarks = c.args.self.now.meta.marks in
    let block : ℕ = c.args.block in
    let itself = eq-eqb block block refl in
    subst (λ (m : BlockMarks). marks_last_era m block ≡ m.era) (sym c.in-Ok.ensures.did.stored.memory.marks)
    ((c.mark_gives_last_era.ensures m block c.are_valid.ensures c.requires.block.1).lasts block ∙ rw itself refl)

pub returns-in-Ok-clause-stands : goal.returns-in-Ok-clause-stands
returns-in-Ok-clause-stands g c = λ opening stands. subst (KeeperStands g.D.Disk opening) (sym c.set_bit-in-Ok.ensures.same) (c.mark_unmarked.ensures.stands opening stands)
