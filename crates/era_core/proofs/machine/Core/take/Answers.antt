use Rattle.std.proofs.Common.{◌≡◌, ◌∙◌, [], ◌∷◌, refl, sym, ap, subst}
use Rattle.std.specs.Prelude.{reverse, if◌then◌else◌}
use Rattle.era_core.specs.AfterSteps.{is_metadata_event}
use Rattle.era_core.specs.Machine.{MayTake, count_inside}
use Rattle.era_model.specs.declared.history.Happening.TheVariants.{Happened}
use Rattle.era_core.proofs.Latest.{latest-pushed}
use Rattle.era_core.proofs.machine.Core.take.Goals as goal

-- the event is the latest one
pub invariant_of-self-2 : goal.invariant_of-self-2
invariant_of-self-2 c =
    let before = c.self.inside.happenings.items in
    let event = c.args.event.now in
    let may = subst (λ core. MayTake core event) (sym c.self.view_is) c.requires in
    let latest = latest-pushed before c.push.new.self.items (Happened event) (Happened c.in_ok-drawn.drawn) (rw c.reserve.ensures.items at c.in-Ok.ensures.items) (ap (λ e. Happened e) c.in_ok-drawn.ensures) in
    rw latest (record {
      legal = (may.open_session, may.happens, c.self.invariant.legal);
      keeps = c.in_ok-follow.ensures.ok (reverse before) may.open_session c.self.invariant.keeps;
      few_stripes = c.self.invariant.few_stripes;
    })

-- and the numbers are kept as it says
pub returns-clause-ok : goal.returns-clause-ok
returns-clause-ok c =
    let before = c.self.inside.happenings.items in
    let event = c.args.event.now in
    let latest = latest-pushed before c.push.new.self.items (Happened event) (Happened c.in_ok-drawn.drawn) (rw c.reserve.ensures.items at c.in-Ok.ensures.items) (ap (λ e. Happened e) c.in_ok-drawn.ensures) in
    let count : c.in_ok-count.count.items ≡ count_inside c.self.inside.inside.items ∷ [] =
    rw (c.in_ok-count.ensures.items_if_clones_equal (λ y same. same), c.inside_count.ensures.value, c.as_slice.ensures.value) refl in
    let kept = c.follow_kept.ensures ∙ ap (λ items. if is_metadata_event event then items else c.self.inside.kept.items) count in
    rw (latest, ← c.self.view_is, kept) refl
