use Rattle.std.proofs.Common.{◌≡◌, ◌∙◌, [], ◌∷◌, Some, None, false, replicate, refl, sym, subst, arith}
use Rattle.std.specs.Prelude.{reverse}
use Rattle.era_core.specs.KeptState.{core_of, next_opening}
use Rattle.era_core.specs.AfterSteps.{reopened}
use Rattle.era_core.specs.Machine.{MayReopen}
use Rattle.era_model.specs.declared.history.Happening.TheVariants.{Opened}
use Rattle.era_core.proofs.Latest.{latest-pushed}
use Rattle.era_core.proofs.NextSession.{few-stripes, reopened-is, reopened-none, sound-next}
use Rattle.era_core.proofs.machine.Core.reopen.Goals as goal

-- without a crash nothing changes
pub returns-in-None-clause-ok : goal.returns-in-None-clause-ok
returns-in-None-clause-ok c =
    let before = c.self.inside.happenings.items in
    let core = core_of (reverse before) c.self.inside.inside.items c.self.inside.kept.items in
    let found = rw c.as_slice.ensures.value at c.in_ok-opening.ensures in
    let is = c.in-None.is in
    let next : None ≡ next_opening (reverse before) c.args.stripes = cc in
    subst (λ core. core ≡ reopened core core.history c.args.stripes) c.self.view_is (sym (reopened-none core c.args.stripes next))

-- the opening is sound
pub at_opening-requires-clause-sets : goal.at_opening-requires-clause-sets
at_opening-requires-clause-sets c =
    let before = c.self.inside.happenings.items in
    let core = core_of (reverse before) c.self.inside.inside.items c.self.inside.kept.items in
    let found = rw c.as_slice.ensures.value at c.in_ok-opening.ensures in
    let is = c.in-Some.is in
    let opening = c.in-Some.opening in
    let next : Some opening ≡ next_opening (reverse before) c.args.stripes = cc in
    let may = subst (λ core. MayReopen core.history c.args.stripes) (sym c.self.view_is) c.requires in
    let sound = sound-next core c.args.stripes opening c.every_schedule_is_legal.ensures.step c.marks_follow_journal.ensures.journal c.self.invariant.legal may next in
    sound.few_sets

pub at_opening-requires-clause-held : goal.at_opening-requires-clause-held
at_opening-requires-clause-held c =
    let before = c.self.inside.happenings.items in
    let core = core_of (reverse before) c.self.inside.inside.items c.self.inside.kept.items in
    let found = rw c.as_slice.ensures.value at c.in_ok-opening.ensures in
    let is = c.in-Some.is in
    let opening = c.in-Some.opening in
    let next : Some opening ≡ next_opening (reverse before) c.args.stripes = cc in
    let may = subst (λ core. MayReopen core.history c.args.stripes) (sym c.self.view_is) c.requires in
    let sound = sound-next core c.args.stripes opening c.every_schedule_is_legal.ensures.step c.marks_follow_journal.ensures.journal c.self.invariant.legal may next in
    sound.few_held

pub at_opening-requires-clause-stripes : goal.at_opening-requires-clause-stripes
at_opening-requires-clause-stripes c =
    let before = c.self.inside.happenings.items in
    let core = core_of (reverse before) c.self.inside.inside.items c.self.inside.kept.items in
    let found = rw c.as_slice.ensures.value at c.in_ok-opening.ensures in
    let is = c.in-Some.is in
    let opening = c.in-Some.opening in
    let next : Some opening ≡ next_opening (reverse before) c.args.stripes = cc in
    let may = subst (λ core. MayReopen core.history c.args.stripes) (sym c.self.view_is) c.requires in
    let sound = sound-next core c.args.stripes opening c.every_schedule_is_legal.ensures.step c.marks_follow_journal.ensures.journal c.self.invariant.legal may next in
    sound.some_stripe

-- the opening is the latest one
pub invariant_of-self-2 : goal.invariant_of-self-2
invariant_of-self-2 c =
    let before = c.self.inside.happenings.items in
    let core = core_of (reverse before) c.self.inside.inside.items c.self.inside.kept.items in
    let found = rw c.as_slice.ensures.value at c.in_ok-opening.ensures in
    let is = c.in-Some.is in
    let opening = c.in-Some.opening in
    let next : Some opening ≡ next_opening (reverse before) c.args.stripes = cc in
    let may = subst (λ core. MayReopen core.history c.args.stripes) (sym c.self.view_is) c.requires in
    let sound = sound-next core c.args.stripes opening c.every_schedule_is_legal.ensures.step c.marks_follow_journal.ensures.journal c.self.invariant.legal may next in
    let latest = latest-pushed before c.push.new.self.items (Opened opening) (Opened opening) c.in_ok-push.ensures.items refl in
    let few = few-stripes (reverse before) c.args.stripes may in
    rw latest (record {
      legal = sound.legal;
      keeps = c.in_ok-upkeep.ensures (reverse before) c.self.invariant.keeps.stripes;
      few_stripes = omega (arith, c.in_ok-inside.ensures.len, c.in_ok-inside.inside.ok.0, few);
    })

-- no stripe is inside
pub returns-clause-ok : goal.returns-clause-ok
returns-clause-ok c =
    let before = c.self.inside.happenings.items in
    let core = core_of (reverse before) c.self.inside.inside.items c.self.inside.kept.items in
    let found = rw c.as_slice.ensures.value at c.in_ok-opening.ensures in
    let is = c.in-Some.is in
    let opening = c.in-Some.opening in
    let next : Some opening ≡ next_opening (reverse before) c.args.stripes = cc in
    let latest = latest-pushed before c.push.new.self.items (Opened opening) (Opened opening) c.in_ok-push.ensures.items refl in
    let made : core_of (reverse c.push.new.self.items) c.in_ok-inside.inside.items c.in_ok-kept.kept.items ≡ core_of (Opened opening ∷ reverse before) (replicate c.args.stripes false) (0 ∷ []) =
    rw (latest, c.in_ok-inside.ensures.items_if_clones_equal (λ y same. same), c.in_ok-kept.ensures.items_if_clones_equal (λ y same. same)) refl in
    subst (λ core. core_of (reverse c.push.new.self.items) c.in_ok-inside.inside.items c.in_ok-kept.kept.items ≡ reopened core core.history c.args.stripes) c.self.view_is
    (made ∙ sym (reopened-is core c.args.stripes opening next))
