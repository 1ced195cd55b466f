use Rattle.std.proofs.Common.{length, sym, subst}
use Rattle.era_base.specs.Bay.{EndsLoan, IsOut}
use Rattle.era_tools.proofs.LastLoan.{is_out-last, ends_last}
use Rattle.era_top.proofs.top.serve_lent.Goals as goal

-- the disk is the one that was lent last
pub put_back-requires : goal.put_back-requires
put_back-requires g c =
    let before = c.requires.lent.0 in (
      length before,
      subst (λ loans. IsOut g.B.D.Disk.place g.B.D.Disk.sectors loans (g.B.D.Disk.place c.serve-status.new.disk) (g.B.D.Disk.sectors c.serve-status.new.disk) (length before))
          (sym c.requires.lent.1)
          (is_out-last g.B.D.Disk.place g.B.D.Disk.sectors before c.args.disk c.serve-status.new.disk c.serve-status.ensures.place c.serve-status.ensures.size),
    )

-- the session went, and the disk was put back
pub returns-clause-served : goal.returns-clause-served
returns-clause-served g c = λ contents before lent. record {
  back = c.serve-status.new.disk;
  loans = ends_last g.B.D.Disk.place g.B.D.Disk.sectors before (g.B.Bay.loans c.put_back.new.self) c.args.disk c.serve-status.new.disk
      c.serve-status.ensures.place c.serve-status.ensures.size
      (subst (λ loans. EndsLoan g.B.D.Disk.place g.B.D.Disk.sectors c.serve-status.new.disk loans (g.B.Bay.loans c.put_back.new.self)) lent c.put_back.ensures.loans);
  goes = c.serve-status.ensures.goes contents;
  rose = c.serve-status.ensures.rose;
  content = λ tells. rw (← c.serve-status.ensures.place, ← c.serve-status.ensures.size) (c.put_back.ensures.content tells);
  was_whole = λ tells. (g.met.B.D.Disk g.world.𝓛 g.world.𝓜 g.world.𝓡 ((λ s x. x), (λ x. x), (λ x. x), λ x. x)).whole c.args.disk tells;
  whole = λ tells. rw (← c.serve-status.ensures.size) ((g.met.B.D.Disk g.world.𝓛 g.world.𝓜 g.world.𝓡 ((λ s x. x), (λ x. x), (λ x. x), λ x. x)).whole c.serve-status.new.disk tells);
  others = rw (← c.serve-status.ensures.place, ← c.serve-status.ensures.size) c.put_back.ensures.others;
  faults = c.put_back.ensures.same;
}
