use Rattle.std.proofs.Common.{List, [], ◌++◌, Option, Ok, Err, refl, sym, ap, ◌∙◌, subst}
use Rattle.era_gate.specs.Passes.{no_write}
use Rattle.era_model.specs.declared.entry.Entry.{Entry}
use Rattle.era_stripe.specs.Results.{SettleDid}
use Rattle.era_stripe.specs.Stripes.{ViewStands}
use Rattle.era_stripe.specs.declared.cut_write.CutWrite.{CutWrite}
use Rattle.era_session.specs.Checkpoints.{settling_events}
use Rattle.era_session.proofs.Receipts.{last-first, stripe-trail, trail-both}
use Rattle.era_session.proofs.Settled.{cause-over, err-left, ok-drew, passed-drew}
use Rattle.era_session.proofs.checkpoints.settle_stripe.Goals as goal

pub returns-in-Err-clause-stands : goal.returns-in-Err-clause-stands
returns-in-Err-clause-stands g c = λ opening stands.
    let before = c.admit.new.self in
    let admitted = subst (ViewStands g.D.Disk.tells opening) (sym c.admit.ensures.view) stands in
    let left = err-left g.D.Disk before.cut c.args.by c.in-Err.count before c.settle.new.self c.args.pass.now c.settle.new.pass c.in-Err.ensures.did in
    c.pass_over.ensures.stands opening (left.risen opening admitted) (c.in-Err.ensures.stands opening admitted)

pub returns-in-Err-clause-did : goal.returns-in-Err-clause-did
returns-in-Err-clause-did g c =
    let old = c.args.stripe.now in
    let before = c.admit.new.self in
    let settled = c.settle.new.self in
    let pass = c.args.pass.now in
    let count = c.in-Err.count in
    let cut = c.admit.ensures.same.2 in
    let did = subst (λ (found : Option CutWrite). SettleDid g.D.Disk found c.args.by (Err count) before settled pass c.settle.new.pass) cut c.in-Err.ensures.did in
    let left = err-left g.D.Disk old.cut c.args.by count before settled pass c.settle.new.pass did in
    let passed = passed-drew g.D.Disk old.cut c.args.by count before settled c.pass_over.new.self pass c.settle.new.pass c.pass_over.new.pass did c.pass_over.ensures.drew in
    let all = trail-both [] (settling_events old.cut c.args.by [] (Err count)) left.drew.kept.entries passed.kept.entries no_write no_write no_write pass c.settle.new.pass c.pass_over.new.pass (λ id none. (none, none))
    (stripe-trail [] no_write before settled pass c.settle.new.pass left.drew)
    (stripe-trail (settling_events old.cut c.args.by [] (Err count)) no_write settled c.pass_over.new.self c.settle.new.pass c.pass_over.new.pass passed) in (
      settling_events old.cut c.args.by [] (Err count),
      record {
        before = before;
        settled = settled;
        between = c.settle.new.pass;
        result = Err count;
        bytes = [];
        admitted = record {
          view = c.admit.ensures.view;
          device = c.admit.ensures.same.0;
          seat = c.admit.ensures.same.1;
          cut = cut;
          notes = c.admit.ensures.same.4;
          last = c.admit.ensures.last;
        };
        settling = did;
        events_are = refl;
        left = (c.pass_over.ensures.same.disk, c.pass_over.ensures.same.cut);
        drew = all.drew;
        trail = all.are ∙ sym (passed.kept.last ∙ ap (λ (es : List Entry). es ++ passed.kept.entries) (last-first before.entries settled.entries left.drew.kept.entries c.admit.ensures.last left.drew.kept.last));
        cause = cause-over g.D.Disk old before settled c.pass_over.new.self (Err count) c.admit.ensures.same.0 c.pass_over.ensures.same.disk c.in-Err.ensures.cause;
      },
    )

pub returns-in_default-clause-did : goal.returns-in_default-clause-did
returns-in_default-clause-did g c =
    let old = c.args.stripe.now in
    let before = c.admit.new.self in
    let settled = c.settle.new.self in
    let pass = c.args.pass.now in
    let cut = c.admit.ensures.same.2 in
    let did = subst (λ (found : Option CutWrite). SettleDid g.D.Disk found c.args.by (Ok tt) before settled pass c.settle.new.pass) cut c.in_default.ensures.did in
    let drew = ok-drew g.D.Disk old.cut c.args.by before settled pass c.settle.new.pass did in
    let all = stripe-trail (settling_events old.cut c.args.by drew.bytes (Ok tt)) no_write before settled pass c.settle.new.pass drew.drew in (
      settling_events old.cut c.args.by drew.bytes (Ok tt),
      record {
        before = before;
        settled = settled;
        between = c.settle.new.pass;
        result = Ok tt;
        bytes = drew.bytes;
        admitted = record {
          view = c.admit.ensures.view;
          device = c.admit.ensures.same.0;
          seat = c.admit.ensures.same.1;
          cut = cut;
          notes = c.admit.ensures.same.4;
          last = c.admit.ensures.last;
        };
        settling = did;
        events_are = refl;
        left = (refl, refl);
        drew = all.drew;
        trail = all.are ∙ sym (last-first before.entries settled.entries drew.drew.kept.entries c.admit.ensures.last drew.drew.kept.last);
        cause = cause-over g.D.Disk old before settled settled (Ok tt) c.admit.ensures.same.0 refl c.in_default.ensures.cause;
      },
    )
