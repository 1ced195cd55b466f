use Rattle.std.proofs.Common.{sym}
use Rattle.era_base.specs.CrashModel.{SameBut}
use Rattle.era_base.proofs.Moments.{went-now, went-join, went-wider}
use Rattle.era_meta.specs.Openings.{opened_disk, refusal_of}
use Rattle.era_meta.specs.Starting.{LeavesOpening}
use Rattle.era_meta.specs.Trials.{begin_trials, opened_trials}
use Rattle.era_meta.proofs.EraBegins.{begun-map, leaves-as, still-leaves}
use Rattle.era_meta.proofs.Looked.{looked-as}
use Rattle.era_meta.proofs.Looks.{seen-same}
use Rattle.era_meta.proofs.Starts.{started-ends, started-read}
use Rattle.era_meta.proofs.starting.start_whole.Goals as goal

pub begin_era-requires : goal.begin_era-requires
begin_era-requires g c =
    let old = c.args.slots.disk in
    let meta = c.in-Ok.meta in
    record {
      looked = looked-as g.D.Disk old meta.slots.disk meta
          (λ told. sym (seen-same (g.D.Disk.history old).now (g.D.Disk.history meta.slots.disk).now
          (went-now (SameBut 0 0) (g.D.Disk.history old) (g.D.Disk.history meta.slots.disk) (c.in-Ok.ensures.tried.told told).went)))
          c.in-Ok.ensures.looked;
    }

pub returns-in-Ok-clause-started : goal.returns-in-Ok-clause-started
returns-in-Ok-clause-started g c =
    started-read g.D.Disk opened_trials (λ seen. begin_trials c.args.asked.now) c.args.slots.disk c.in-Ok.meta.slots.disk (opened_disk c.begin_era.result) (refusal_of c.begin_era.result)
    c.in-Ok.ensures.tried c.begin_era.ensures.started

pub returns-in-Ok-clause-moments : goal.returns-in-Ok-clause-moments
returns-in-Ok-clause-moments g c = λ told.
    let old = g.D.Disk.history c.args.slots.disk in
    let mid = g.D.Disk.history c.in-Ok.meta.slots.disk in
    let asked = c.args.asked.now in
    went-join (SameBut 0 0) (LeavesOpening asked) (LeavesOpening asked) old mid (g.D.Disk.history (opened_disk c.begin_era.result))
    (c.in-Ok.ensures.tried.told told).went (c.begin_era.ensures.moments told)
    (λ state same. still-leaves asked old.now state (c.requires.opened told).0 same)
    (λ state same leaves. leaves-as asked old.now mid.now state (seen-same old.now mid.now same) leaves)

pub returns-in-Ok-clause-begun : goal.returns-in-Ok-clause-begun
returns-in-Ok-clause-begun g c =
    let old = c.args.slots.disk in
    let mid = c.in-Ok.meta.slots.disk in
    begun-map g.D.Disk c.args.asked.now mid old c.begin_era.result
    (λ told. seen-same (g.D.Disk.history old).now (g.D.Disk.history mid).now
    (went-now (SameBut 0 0) (g.D.Disk.history old) (g.D.Disk.history mid) (c.in-Ok.ensures.tried.told told).went))
    c.begin_era.ensures.begun

pub returns-in-Err-clause-started : goal.returns-in-Err-clause-started
returns-in-Err-clause-started g c =
    started-ends g.D.Disk opened_trials (λ seen. begin_trials c.args.asked.now) c.args.slots.disk c.in-Err.refusal.disk c.in-Err.refusal.error c.in-Err.ensures.tried

pub returns-in-Err-clause-moments : goal.returns-in-Err-clause-moments
returns-in-Err-clause-moments g c = λ told.
    let old = g.D.Disk.history c.args.slots.disk in
    went-wider (SameBut 0 0) (LeavesOpening c.args.asked.now) old (g.D.Disk.history c.in-Err.refusal.disk)
    (λ state same. still-leaves c.args.asked.now old.now state (c.requires.opened told).0 same) (c.in-Err.ensures.tried.told told).went
