use Rattle.std.proofs.Common.{Ok, sym, ap, ◌∙◌, subst}
use Rattle.era_base.specs.Flags.{has}
use Rattle.era_gate.specs.Calls.{KeeperToken, StripeToken}
use Rattle.era_keeper.specs.Calls.{SameKeeper}
use Rattle.era_keeper.specs.Keepers.{KeeperStands}
use Rattle.era_keeper.specs.Results.{MarkDid}
use Rattle.era_keeper.specs.declared.keeper.Keeper.{Keeper}
use Rattle.era_session.proofs.Marking.{entered, entered-drew, failed-drew, failed-left, fits-left, inside-for, left-drew, marked-drew, may-be-shown, may-enter, may-leave, may-mark-for, stay-same, stay-then, with-seat, within-marks}
use Rattle.era_session.proofs.writing.mark_block.Goals as goal

pub enter-requires : goal.enter-requires
enter-requires g c = record { may = may-enter g.D.Disk c.args.gate.now c.args.stripe.now c.args.keeper.now c.args.pass.now c.args.id c.args.block c.requires.may }

pub mark_for-requires : goal.mark_for-requires
mark_for-requires g c = record {
  may = may-mark-for g.D.Disk c.args.gate.now c.args.stripe.now c.args.keeper.now c.args.pass.now c.enter.new.pass c.args.id c.args.block c.requires.may c.enter.ensures.keeps;
  block = (c.requires.may.of_origin, within-marks g.D.Disk c.args.gate.now c.args.stripe.now c.args.keeper.now c.args.pass.now c.args.id c.args.block c.requires.may);
}

pub be_shown-requires : goal.be_shown-requires
be_shown-requires g c =
    let old = c.args.stripe.now in
    let between = c.enter.new.self in
    let keeper = c.args.keeper.now in
    let marked = c.mark_for.new.self in
    let pass = c.args.pass.now in
    let in' = entered g.D.Disk old between pass c.enter.new.pass _ c.enter.result c.enter.ensures.fits c.enter.ensures.seat c.enter.ensures.pass c.enter.ensures.keeps c.enter.ensures.same in
    record { may = may-be-shown g.D.Disk c.args.gate.now old between keeper marked pass c.enter.new.pass c.args.id c.args.block c.requires.may in' c.mark_for.ensures.same c.in-Ok.ensures.marked }

pub leave-requires : goal.leave-requires
leave-requires g c =
    let old = c.args.stripe.now in
    let between = c.enter.new.self in
    let keeper = c.args.keeper.now in
    let marked = c.mark_for.new.self in
    let pass = c.args.pass.now in
    let in' = entered g.D.Disk old between pass c.enter.new.pass _ c.enter.result c.enter.ensures.fits c.enter.ensures.seat c.enter.ensures.pass c.enter.ensures.keeps c.enter.ensures.same in
    let failed = failed-drew g.D.Disk (has keeper.meta.marks.current c.args.block) c.args.id c.args.block c.in-Err.count keeper marked c.enter.new.pass c.mark_for.new.pass c.in-Err.ensures.did in
    record { may = may-leave g.D.Disk c.args.gate.now old between keeper pass c.enter.new.pass c.mark_for.new.pass c.args.id c.args.block failed.events c.requires.may in' failed.drew.drew }

pub returns-in-Ok-clause-after : goal.returns-in-Ok-clause-after
returns-in-Ok-clause-after g c =
    let old = c.args.stripe.now in
    let between = c.enter.new.self in
    let keeper = c.args.keeper.now in
    let marked = c.mark_for.new.self in
    let pass = c.args.pass.now in
    let in' = entered g.D.Disk old between pass c.enter.new.pass _ c.enter.result c.enter.ensures.fits c.enter.ensures.seat c.enter.ensures.pass c.enter.ensures.keeps c.enter.ensures.same in
    let is = ap (λ (seat : KeeperToken). with-seat marked seat) c.be_shown.ensures.keeper in
    inside-for g.D.Disk c.args.gate.now old between c.be_shown.new.self keeper marked _ pass c.enter.new.pass c.mark_for.new.pass c.args.id c.args.block _ c.requires.may in' c.mark_for.ensures.fits c.mark_for.ensures.same
    (marked-drew g.D.Disk (has keeper.meta.marks.current c.args.block) c.args.id c.args.block keeper marked c.enter.new.pass c.mark_for.new.pass c.in-Ok.ensures.did).drew
    c.be_shown.ensures.fits c.be_shown.ensures.seat c.be_shown.ensures.same.1 is

pub returns-in-Ok-clause-stands : goal.returns-in-Ok-clause-stands
returns-in-Ok-clause-stands g c = λ opening stands.
    let is = ap (λ (seat : KeeperToken). with-seat c.mark_for.new.self seat) c.be_shown.ensures.keeper in
    record {
      stripe = c.be_shown.ensures.stands opening (c.enter.ensures.stands opening stands.stripe);
      keeper = subst (λ (k : Keeper g.row.D.Denot). KeeperStands g.D.Disk opening k) (sym is) (c.mark_for.ensures.stands opening stands.keeper);
    }

pub returns-in-Ok-clause-asked : goal.returns-in-Ok-clause-asked
returns-in-Ok-clause-asked g c =
    let keeper = c.args.keeper.now in
    let in' = entered g.D.Disk c.args.stripe.now c.enter.new.self c.args.pass.now c.enter.new.pass _ c.enter.result c.enter.ensures.fits c.enter.ensures.seat c.enter.ensures.pass c.enter.ensures.keeps c.enter.ensures.same in
    let is = ap (λ (seat : KeeperToken). with-seat c.mark_for.new.self seat) c.be_shown.ensures.keeper in
    record {
      entered = c.enter.new.pass;
      entering = in'.drew;
      did = subst (λ (k : Keeper g.row.D.Denot). MarkDid g.D.Disk (has keeper.meta.marks.current c.args.block) c.args.id c.args.block (Ok tt) keeper k c.enter.new.pass c.mark_for.new.pass) (sym is) c.in-Ok.ensures.did;
      stripe = stay-then c.args.stripe.now c.enter.new.self c.be_shown.new.self c.enter.ensures.same c.be_shown.ensures.same.1;
    }

pub returns-in-Ok-clause-drew : goal.returns-in-Ok-clause-drew
returns-in-Ok-clause-drew g c =
    let old = c.args.stripe.now in
    let keeper = c.args.keeper.now in
    let pass = c.args.pass.now in
    let in' = entered g.D.Disk old c.enter.new.self pass c.enter.new.pass _ c.enter.result c.enter.ensures.fits c.enter.ensures.seat c.enter.ensures.pass c.enter.ensures.keeps c.enter.ensures.same in
    entered-drew _ keeper.entries c.mark_for.new.self.entries pass c.enter.new.pass c.mark_for.new.pass in'.drew
    (marked-drew g.D.Disk (has keeper.meta.marks.current c.args.block) c.args.id c.args.block keeper c.mark_for.new.self c.enter.new.pass c.mark_for.new.pass c.in-Ok.ensures.did)

pub returns-in-Ok-clause-same : goal.returns-in-Ok-clause-same
returns-in-Ok-clause-same g c =
    let old = c.args.stripe.now in
    let is = ap (λ (seat : KeeperToken). with-seat c.mark_for.new.self seat) c.be_shown.ensures.keeper in
    record {
      stripe = stay-same g.D.Disk old c.be_shown.new.self (stay-then old c.enter.new.self c.be_shown.new.self c.enter.ensures.same c.be_shown.ensures.same.1)
          (ap (λ (s : StripeToken). s.table) c.be_shown.ensures.seat ∙ ap (λ (s : StripeToken). s.table) c.enter.ensures.seat);
      keeper = subst (λ (k : Keeper g.row.D.Denot). SameKeeper g.D.Disk c.args.keeper.now k) (sym is) c.mark_for.ensures.same;
    }

pub returns-in-Err-clause-after : goal.returns-in-Err-clause-after
returns-in-Err-clause-after g c =
    let old = c.args.stripe.now in
    let between = c.enter.new.self in
    let keeper = c.args.keeper.now in
    let marked = c.mark_for.new.self in
    let pass = c.args.pass.now in
    let in' = entered g.D.Disk old between pass c.enter.new.pass _ c.enter.result c.enter.ensures.fits c.enter.ensures.seat c.enter.ensures.pass c.enter.ensures.keeps c.enter.ensures.same in
    let failed = failed-drew g.D.Disk (has keeper.meta.marks.current c.args.block) c.args.id c.args.block c.in-Err.count keeper marked c.enter.new.pass c.mark_for.new.pass c.in-Err.ensures.did in
    fits-left g.D.Disk c.args.gate.now old between c.leave.new.self keeper marked pass c.enter.new.pass c.mark_for.new.pass c.leave.new.pass c.args.id c.args.block failed.events c.requires.may in'
    c.mark_for.ensures.fits c.mark_for.ensures.same failed.drew.drew c.leave.ensures.pass.keeps c.leave.ensures.fits c.leave.ensures.rest (ap (λ (s : StripeToken). s.table) c.leave.ensures.seat)

pub returns-in-Err-clause-stands : goal.returns-in-Err-clause-stands
returns-in-Err-clause-stands g c = λ opening stands. record {
  stripe = c.leave.ensures.stands opening (c.enter.ensures.stands opening stands.stripe);
  keeper = c.mark_for.ensures.stands opening stands.keeper;
}

pub returns-in-Err-clause-asked : goal.returns-in-Err-clause-asked
returns-in-Err-clause-asked g c =
    let keeper = c.args.keeper.now in
    let in' = entered g.D.Disk c.args.stripe.now c.enter.new.self c.args.pass.now c.enter.new.pass _ c.enter.result c.enter.ensures.fits c.enter.ensures.seat c.enter.ensures.pass c.enter.ensures.keeps c.enter.ensures.same in
    record {
      entered = c.enter.new.pass;
      entering = in'.drew;
      did = failed-left g.D.Disk (has keeper.meta.marks.current c.args.block) c.args.id c.args.block c.in-Err.count keeper c.mark_for.new.self c.enter.new.pass c.mark_for.new.pass c.leave.new.pass
          c.leave.ensures.pass.lanes c.leave.ensures.pass.keeps c.in-Err.ensures.did;
      stripe = stay-then c.args.stripe.now c.enter.new.self c.leave.new.self c.enter.ensures.same c.leave.ensures.same;
    }

pub returns-in-Err-clause-drew : goal.returns-in-Err-clause-drew
returns-in-Err-clause-drew g c =
    let old = c.args.stripe.now in
    let keeper = c.args.keeper.now in
    let pass = c.args.pass.now in
    let in' = entered g.D.Disk old c.enter.new.self pass c.enter.new.pass _ c.enter.result c.enter.ensures.fits c.enter.ensures.seat c.enter.ensures.pass c.enter.ensures.keeps c.enter.ensures.same in
    let failed = failed-drew g.D.Disk (has keeper.meta.marks.current c.args.block) c.args.id c.args.block c.in-Err.count keeper c.mark_for.new.self c.enter.new.pass c.mark_for.new.pass c.in-Err.ensures.did in
    record {
      unmarked = failed.unmarked;
      events = failed.events;
      failed = failed.failed;
      drew = left-drew failed.events keeper.entries c.mark_for.new.self.entries pass c.mark_for.new.pass c.leave.new.pass
          (entered-drew failed.events keeper.entries c.mark_for.new.self.entries pass c.enter.new.pass c.mark_for.new.pass in'.drew failed.drew) c.leave.ensures.pass.lanes c.leave.ensures.pass.keeps;
    }

pub returns-in-Err-clause-same : goal.returns-in-Err-clause-same
returns-in-Err-clause-same g c =
    let old = c.args.stripe.now in
    record {
      stripe = stay-same g.D.Disk old c.leave.new.self (stay-then old c.enter.new.self c.leave.new.self c.enter.ensures.same c.leave.ensures.same)
          (ap (λ (s : StripeToken). s.table) c.leave.ensures.seat ∙ ap (λ (s : StripeToken). s.table) c.enter.ensures.seat);
      keeper = c.mark_for.ensures.same;
    }
