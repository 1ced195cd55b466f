use Rattle.std.proofs.Common.{◌≡◌, ℕ, ◌*◌, List, length, vec_len, sym, ◌∙◌, subst, arith}
use Rattle.era_model.specs.declared.reply.Answer.TheVariants.{Found}
use Rattle.era_session.specs.Reads.{BlockWasRead}
use Rattle.era_session.proofs.ReadAt.{read-failed, read-found, refilled}
use Rattle.era_stripe.specs.Stripes.{ViewStands}
use Rattle.era_session.proofs.reading.read_block.Goals as goal

pub returns-in-Ok-clause-did : goal.returns-in-Ok-clause-did
returns-in-Ok-clause-did g c =
    let size : length c.read.new.into ≡ vec_len c.truncate.new.self = c.read.auto.into ∙ c.as_mut_slice.ensures.len in
    let whole : vec_len c.truncate.new.self ≡ c.args.count * 512 = omega (arith, c.truncate.ensures.len, c.requires.memory.0) in
    let same : c.from_vec.result ≡ c.read.new.into = c.from_vec.ensures ∙ refilled c.truncate.new.self.len c.read.new.into _ size in
    subst (λ (bytes : List ℕ). BlockWasRead g.D.Disk c.args.id c.args.sector c.args.count (Found bytes) c.args.stripe.now c.read.new.self c.args.pass.now c.read.new.pass) (sym same) (record {
      before = c.admit.new.self;
      admitted = record {
        view = c.admit.ensures.view;
        device = c.admit.ensures.same.0;
        seat = c.admit.ensures.same.1;
        cut = c.admit.ensures.same.2;
        notes = c.admit.ensures.same.4;
        last = c.admit.ensures.last;
      };
      read = λ keeper.
          read-found g.D.Disk c.args.id c.args.sector c.args.count c.read.new.into c.admit.new.self c.read.new.self c.args.pass.now c.read.new.pass keeper (size ∙ whole) c.admit.ensures.last
          c.in-Ok.ensures.drew c.in-Ok.ensures.told c.in-Ok.ensures.stay.cut c.in-Ok.ensures.same c.in-Ok.ensures.cause;
    })

pub returns-in-Err-clause-stands : goal.returns-in-Err-clause-stands
returns-in-Err-clause-stands g c = λ opening stands.
    c.in-Err.ensures.stands opening (subst (ViewStands g.D.Disk.tells opening) (sym c.admit.ensures.view) stands)

pub returns-in-Err-clause-did : goal.returns-in-Err-clause-did
returns-in-Err-clause-did g c = record {
  before = c.admit.new.self;
  admitted = record {
    view = c.admit.ensures.view;
    device = c.admit.ensures.same.0;
    seat = c.admit.ensures.same.1;
    cut = c.admit.ensures.same.2;
    notes = c.admit.ensures.same.4;
    last = c.admit.ensures.last;
  };
  read = λ keeper.
      read-failed g.D.Disk c.args.id c.args.sector c.args.count c.in-Err.faults c.read.new.into c.admit.new.self c.read.new.self c.args.pass.now c.read.new.pass keeper c.admit.ensures.last
      c.in-Err.ensures.drew c.in-Err.ensures.told c.in-Err.ensures.stay.cut c.in-Err.ensures.same c.in-Err.ensures.cause;
}
