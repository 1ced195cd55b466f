use Rattle.era_keeper.specs.Keepers.{comes_back, view_of}
use Rattle.era_keeper.proofs.Quiet.{owes-quiet, stands-drawn}
use Rattle.era_keeper.proofs.keeper.Keeper.tell.Goals as goal

pub returns-clause-stands : goal.returns-clause-stands
returns-clause-stands g c = λ opening may told stands.
    stands-drawn g.D.Disk opening c.args.self.now c.note.new.self c.args.event c.note.result c.note.ensures.same c.note.ensures.view c.note.ensures.drew.ascend stands.own
    (owes-quiet g.D.Disk.tells opening (comes_back g.D.Disk c.args.self.now.meta) (view_of g.D.Disk c.args.self.now) c.args.event c.requires.quiet may told
    c.crashes_now.ensures stands)
