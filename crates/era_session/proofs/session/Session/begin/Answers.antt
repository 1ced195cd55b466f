use Rattle.std.proofs.Common.{◌≡◌, ℕ, length, refl, sym, ap, ◌∙◌, subst, arith}
use Rattle.std.specs.Int.{div_ceil}
use Rattle.era_gate.specs.Calls.{AreStripeSeats, KeeperToken, PassToken, plan_of}
use Rattle.era_keeper.specs.Keepers.{IsOpenedOver}
use Rattle.era_meta.specs.Starting.{IsBegun}
use Rattle.era_meta.specs.declared.metadata.Meta.{Meta}
use Rattle.era_model.specs.Validity.{AreValidMarks}
use Rattle.era_session.specs.Openings.{IsBegunOver, opening_of, origin_blocks}
use Rattle.era_session.specs.declared.session.Session.{Session}
use Rattle.era_session.proofs.SessionBegun.{WasBegun, begun-fits, begun-opened, begun-opening, begun-over, begun-stands, count-seats, new-seats}
use Rattle.era_session.proofs.session.Session.begin.Goals as goal

pub start_stripes-requires-clause-parts : goal.start_stripes-requires-clause-parts
start_stripes-requires-clause-parts g c =
    let is : c.len-count.result ≡ length c.args.parts.items = omega arith in
    let blocks : c.blocks-2.result ≡ origin_blocks c.args.geometry = c.blocks-2.ensures.value in (
      c.requires.parts,
      c.div_ceil-each.ensures ∙ ap (λ (n : ℕ). div_ceil n c.len-count.result) blocks ∙ ap (λ (n : ℕ). div_ceil (origin_blocks c.args.geometry) n) is,
    )

pub start_stripes-requires-clause-seats : goal.start_stripes-requires-clause-seats
start_stripes-requires-clause-seats g c =
    let is : c.len-count.result ≡ length c.args.parts.items = omega arith in
    let made = subst (λ (n : ℕ). AreStripeSeats c.in-Ok.gate.table c.in-Ok.seats.items n) is c.in-Ok.ensures.stripes in
    (count-seats c.in-Ok.gate.table c.in-Ok.seats.items (length c.args.parts.items) made, new-seats c.in-Ok.gate.table c.in-Ok.seats.items (length c.args.parts.items) made)

pub start-requires : goal.start-requires
start-requires g c =
    let begun = c.requires.begun.1 in
    let made = c.in-Ok.ensures in
    record {
      meta = record { standing = begun.standing; stored = begun.stored; fresh = begun.fresh; below = begun.numbered.1 };
      seat = record { present = ap (λ (s : KeeperToken). s.part.state.era) made.keeper ∙ c.era.ensures; drawn = ap (λ (s : KeeperToken). s.part.state.switched) made.keeper; none = ap (λ (s : KeeperToken). s.part.state.entries) made.keeper };
    }

pub returns-clause-fits : goal.returns-clause-fits
returns-clause-fits g c =
    let is : c.len-count.result ≡ length c.args.parts.items = omega arith in
    let blocks : c.blocks-2.result ≡ origin_blocks c.args.geometry = c.blocks-2.ensures.value in
    let made = c.in-Ok.ensures in
    let parts = c.args.parts.items in
    let own = c.start.ensures.parts in
    let session : Session g.row.D.Denot = record {
      gate = c.in-Ok.gate;
      keeper = c.start.result;
      stripes = c.start_stripes.new.stripes;
      pass = c.in-Ok.pass;
      geometry = c.args.geometry;
      each = c.div_ceil-each.result;
      seats = c.start_stripes.new.seats;
      parts = c.start_stripes.new.parts;
    } in
    let gated = subst (λ (n : ℕ). AreStripeSeats c.in-Ok.gate.table c.in-Ok.seats.items n) is made.stripes in
    let count = count-seats c.in-Ok.gate.table c.in-Ok.seats.items (length parts) gated in
    let over = c.start_stripes.ensures.stripes in
    let was : WasBegun g.D.Disk c.args.geometry parts session = record {
      are = c.requires.parts;
      old = c.requires.begun.0;
      begun = subst (λ (m : Meta g.row.D.Denot). IsBegun g.D.Disk c.args.geometry c.requires.begun.0 m) (sym own.0) c.requires.begun.1;
      geometry = refl;
      each = c.div_ceil-each.ensures ∙ ap (λ (n : ℕ). div_ceil n c.len-count.result) blocks ∙ ap (λ (n : ℕ). div_ceil (origin_blocks c.args.geometry) n) is;
      plan = made.plan ∙ ap (λ (n : ℕ). plan_of c.args.geometry c.era.result n) is
          ∙ ap (λ (n : ℕ). plan_of c.args.geometry n (length parts)) (c.era.ensures ∙ ap (λ (m : Meta g.row.D.Denot). m.marks.era) (sym own.0));
      keeper = c.start.ensures.fits;
      tables = (ap (λ (s : KeeperToken). s.table) own.1 ∙ ap (λ (s : KeeperToken). s.table) made.keeper, ap (λ (t : PassToken). t.table) made.pass);
      pass = ap (λ (t : PassToken). t.part) made.pass;
      lanes = made.lanes;
      seats = c.in-Ok.seats.items;
      gated = gated;
      over = over;
      ending = record {
        no_seats = c.start_stripes.ensures.seats.0;
        no_parts = c.start_stripes.ensures.parts.0;
        seats = omega (arith, over.count, count, c.start_stripes.ensures.seats.1, c.in-Ok.seats.ok.0, c.in-Ok.seats.ok.1);
        parts = omega (arith, over.count, c.start_stripes.ensures.parts.1, c.args.parts.ok.0, c.args.parts.ok.1);
      };
    } in
    begun-fits g.D.Disk c.args.geometry parts session was

pub returns-clause-over : goal.returns-clause-over
returns-clause-over g c =
    let is : c.len-count.result ≡ length c.args.parts.items = omega arith in
    let blocks : c.blocks-2.result ≡ origin_blocks c.args.geometry = c.blocks-2.ensures.value in
    let made = c.in-Ok.ensures in
    let parts = c.args.parts.items in
    let own = c.start.ensures.parts in
    let session : Session g.row.D.Denot = record {
      gate = c.in-Ok.gate;
      keeper = c.start.result;
      stripes = c.start_stripes.new.stripes;
      pass = c.in-Ok.pass;
      geometry = c.args.geometry;
      each = c.div_ceil-each.result;
      seats = c.start_stripes.new.seats;
      parts = c.start_stripes.new.parts;
    } in
    let gated = subst (λ (n : ℕ). AreStripeSeats c.in-Ok.gate.table c.in-Ok.seats.items n) is made.stripes in
    let count = count-seats c.in-Ok.gate.table c.in-Ok.seats.items (length parts) gated in
    let over = c.start_stripes.ensures.stripes in
    let was : WasBegun g.D.Disk c.args.geometry parts session = record {
      are = c.requires.parts;
      old = c.requires.begun.0;
      begun = subst (λ (m : Meta g.row.D.Denot). IsBegun g.D.Disk c.args.geometry c.requires.begun.0 m) (sym own.0) c.requires.begun.1;
      geometry = refl;
      each = c.div_ceil-each.ensures ∙ ap (λ (n : ℕ). div_ceil n c.len-count.result) blocks ∙ ap (λ (n : ℕ). div_ceil (origin_blocks c.args.geometry) n) is;
      plan = made.plan ∙ ap (λ (n : ℕ). plan_of c.args.geometry c.era.result n) is
          ∙ ap (λ (n : ℕ). plan_of c.args.geometry n (length parts)) (c.era.ensures ∙ ap (λ (m : Meta g.row.D.Denot). m.marks.era) (sym own.0));
      keeper = c.start.ensures.fits;
      tables = (ap (λ (s : KeeperToken). s.table) own.1 ∙ ap (λ (s : KeeperToken). s.table) made.keeper, ap (λ (t : PassToken). t.table) made.pass);
      pass = ap (λ (t : PassToken). t.part) made.pass;
      lanes = made.lanes;
      seats = c.in-Ok.seats.items;
      gated = gated;
      over = over;
      ending = record {
        no_seats = c.start_stripes.ensures.seats.0;
        no_parts = c.start_stripes.ensures.parts.0;
        seats = omega (arith, over.count, count, c.start_stripes.ensures.seats.1, c.in-Ok.seats.ok.0, c.in-Ok.seats.ok.1);
        parts = omega (arith, over.count, c.start_stripes.ensures.parts.1, c.args.parts.ok.0, c.args.parts.ok.1);
      };
    } in
    subst (λ (m : Meta g.row.D.Denot). IsBegunOver c.args.geometry m parts session) own.0 (begun-over g.D.Disk c.args.geometry parts session was)

pub returns-clause-stands : goal.returns-clause-stands
returns-clause-stands g c =
    let is : c.len-count.result ≡ length c.args.parts.items = omega arith in
    let blocks : c.blocks-2.result ≡ origin_blocks c.args.geometry = c.blocks-2.ensures.value in
    let made = c.in-Ok.ensures in
    let parts = c.args.parts.items in
    let own = c.start.ensures.parts in
    let session : Session g.row.D.Denot = record {
      gate = c.in-Ok.gate;
      keeper = c.start.result;
      stripes = c.start_stripes.new.stripes;
      pass = c.in-Ok.pass;
      geometry = c.args.geometry;
      each = c.div_ceil-each.result;
      seats = c.start_stripes.new.seats;
      parts = c.start_stripes.new.parts;
    } in
    let gated = subst (λ (n : ℕ). AreStripeSeats c.in-Ok.gate.table c.in-Ok.seats.items n) is made.stripes in
    let count = count-seats c.in-Ok.gate.table c.in-Ok.seats.items (length parts) gated in
    let over = c.start_stripes.ensures.stripes in
    let was : WasBegun g.D.Disk c.args.geometry parts session = record {
      are = c.requires.parts;
      old = c.requires.begun.0;
      begun = subst (λ (m : Meta g.row.D.Denot). IsBegun g.D.Disk c.args.geometry c.requires.begun.0 m) (sym own.0) c.requires.begun.1;
      geometry = refl;
      each = c.div_ceil-each.ensures ∙ ap (λ (n : ℕ). div_ceil n c.len-count.result) blocks ∙ ap (λ (n : ℕ). div_ceil (origin_blocks c.args.geometry) n) is;
      plan = made.plan ∙ ap (λ (n : ℕ). plan_of c.args.geometry c.era.result n) is
          ∙ ap (λ (n : ℕ). plan_of c.args.geometry n (length parts)) (c.era.ensures ∙ ap (λ (m : Meta g.row.D.Denot). m.marks.era) (sym own.0));
      keeper = c.start.ensures.fits;
      tables = (ap (λ (s : KeeperToken). s.table) own.1 ∙ ap (λ (s : KeeperToken). s.table) made.keeper, ap (λ (t : PassToken). t.table) made.pass);
      pass = ap (λ (t : PassToken). t.part) made.pass;
      lanes = made.lanes;
      seats = c.in-Ok.seats.items;
      gated = gated;
      over = over;
      ending = record {
        no_seats = c.start_stripes.ensures.seats.0;
        no_parts = c.start_stripes.ensures.parts.0;
        seats = omega (arith, over.count, count, c.start_stripes.ensures.seats.1, c.in-Ok.seats.ok.0, c.in-Ok.seats.ok.1);
        parts = omega (arith, over.count, c.start_stripes.ensures.parts.1, c.args.parts.ok.0, c.args.parts.ok.1);
      };
    } in
    let opens = begun-opening g.D.Disk c.args.geometry parts session was
    (subst (λ (m : Meta g.row.D.Denot). AreValidMarks m.marks) (sym own.0) c.are_valid.ensures)
    (subst (λ (m : Meta g.row.D.Denot). AreValidMarks m.snapshot.marks) (sym own.0) c.are_valid-2.ensures) in
    let opened = subst (λ (m : Meta g.row.D.Denot). IsOpenedOver g.D.Disk (opening_of g.D.Disk parts session) m) own.0 (begun-opened g.D.Disk c.args.geometry parts session was opens) in
    begun-stands g.D.Disk c.args.geometry parts session was opens (c.start.ensures.stands (opening_of g.D.Disk parts session) opened) g.met.D.Disk.whole c.requires.clean
