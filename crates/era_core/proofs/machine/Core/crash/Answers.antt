use Rattle.std.proofs.Common.{sym, ap, subst}
use Rattle.std.specs.Prelude.{reverse}
use Rattle.era_core.specs.Machine.{MayLeaveImages}
use Rattle.era_model.specs.declared.history.Happening.TheVariants.{Crashed}
use Rattle.era_core.proofs.Latest.{latest-pushed}
use Rattle.era_core.proofs.machine.Core.crash.Goals as goal

-- the crash is the latest one
pub invariant_of-self-2 : goal.invariant_of-self-2
invariant_of-self-2 c =
    let before = c.self.inside.happenings.items in
    let images = c.args.images.now in
    let may = subst (λ core. MayLeaveImages core images) (sym c.self.view_is) c.requires in
    let latest = latest-pushed before c.push.new.self.items (Crashed images) (Crashed c.in_ok-left.left) c.in_ok-push.ensures.items (ap (λ i. Crashed i) c.in_ok-left.ensures) in
    rw latest (record {
      legal = (may.open_session, may.possible, c.self.invariant.legal);
      keeps = c.crash.ensures (reverse before) images c.self.invariant.keeps;
      few_stripes = c.self.invariant.few_stripes;
    })
