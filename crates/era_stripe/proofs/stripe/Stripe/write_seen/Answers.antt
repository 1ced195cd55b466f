use Rattle.std.proofs.Common.{ℕ, ◌+◌, ◌*◌, ◌≤◌, length, None, arith, refl, sym, ap, ◌∙◌, subst}
use Rattle.std.proofs.lemmas.Bool.{false≢true}
use Rattle.std.specs.Prelude.{Ok, Err}
use Rattle.era_base.specs.Calls.{EachMoment, WritesThenSyncs}
use Rattle.era_base.specs.CrashModel.{LiesOn, SameBut}
use Rattle.era_base.specs.Faults.{HasCount, Rose}
use Rattle.era_gate.specs.Calls.{PassToken, StripeToken}
use Rattle.era_gate.specs.StateAfter.{cut_flight, flights}
use Rattle.era_model.specs.declared.event.Event.TheVariants.{Go, Done, Cut}
use Rattle.era_model.specs.Writes.{is_writing}
use Rattle.era_model.proofs.CommandReplies.{same_id-refl}
use Rattle.era_notes.specs.Parts.{IsPlace}
use Rattle.era_notes.proofs.Drawn.{writing-own}
use Rattle.era_stripe.specs.Results.{only}
use Rattle.era_stripe.specs.Stripes.{StripeView, CutFits, part_of}
use Rattle.era_stripe.proofs.Issued.{issued}
use Rattle.era_stripe.proofs.StripeDraws.{drew-two}
use Rattle.era_stripe.proofs.StripeSteps.{over-equal, place-lies, same-drawn, same-cut, fits-again}
use Rattle.era_stripe.proofs.WriteStands.{IsWrite, WentWrite, write-stands-done, write-stands-cut}
use Rattle.era_stripe.proofs.stripe.Stripe.write_seen.Goals as goal

pub sector_of-sector-requires : goal.sector_of-sector-requires
sector_of-sector-requires g c = c.requires.may.hold.of_part

pub issue-spare-requires : goal.issue-spare-requires
issue-spare-requires g c = record { may = c.requires.may }

pub write_synced-requires : goal.write_synced-requires
write_synced-requires g c =
    let count : ℕ = length c.args.bytes.now in
    let lies = place-lies g.D.Disk c.args.self.now c.args.block c.args.first count c.requires.may.fits c.requires.may.hold.of_part c.requires.may.hold.place in
    subst (λ d. LiesOn (g.D.Disk.sectors d) c.sector_of-sector.result count) (sym c.issue-spare.ensures.same.disk)
    (subst (λ s. LiesOn (g.D.Disk.sectors c.args.self.now.disk) s count) (sym c.sector_of-sector.ensures) lies)

-- the write may end
pub finish-requires-clause-may : goal.finish-requires-clause-may
finish-requires-clause-may g c =
    let call = c.requires.may.call in
    let did = c.issue-spare.ensures in
    record {
      table = ap (λ (s : StripeToken). s.table) did.seat ∙ call.table;
      pass_table = did.drew.keeps.table ∙ call.pass_table;
      may = ap (λ (s : StripeToken). is_writing (flights s.part.state.flight) c.args.id) did.seat
          ∙ writing-own (issued c.args.id c.args.block c.args.first c.args.bytes.now) c.args.id (same_id-refl c.args.id) refl;
      asks = (did.drew.keeps.lanes c.args.id.lane ∙ call.lane, omega (arith, did.drew.keeps.budget, call.budget));
      room = omega (arith, did.drew.room, call.room);
    }

pub finish-requires-clause-inside : goal.finish-requires-clause-inside
finish-requires-clause-inside g c = ap (λ (s : StripeToken). s.part.state.inside) c.issue-spare.ensures.seat ∙ c.requires.may.issue.inside

pub finish-requires-clause-ends : goal.finish-requires-clause-ends
finish-requires-clause-ends g c = refl

pub note-requires : goal.note-requires
note-requires g c =
    let call = c.requires.may.call in
    let did = c.issue-spare.ensures in
    record {
      may = record {
        table = ap (λ (s : StripeToken). s.table) did.seat ∙ call.table;
        pass_table = did.drew.keeps.table ∙ call.pass_table;
        may = ap (λ (s : StripeToken). is_writing (flights s.part.state.flight) c.args.id) did.seat
            ∙ writing-own (issued c.args.id c.args.block c.args.first c.args.bytes.now) c.args.id (same_id-refl c.args.id) refl;
        asks = (did.drew.keeps.lanes c.args.id.lane ∙ call.lane, omega (arith, did.drew.keeps.budget, call.budget));
        room = omega (arith, did.drew.room, call.room);
      };
    }

-- it was acknowledged
pub returns-in-Ok-clause-same : goal.returns-in-Ok-clause-same
returns-in-Ok-clause-same g c =
    let table = ap (λ (s : StripeToken). s.table) c.finish.ensures.seat ∙ ap (λ (s : StripeToken). s.table) c.issue-spare.ensures.seat in
    same-drawn g.D.Disk c.args.self.now c.issue-spare.new.self c.finish.new.self None c.write_synced.new.disk c.issue-spare.ensures.same c.write_synced.ensures.disk c.finish.ensures.same table

pub returns-in-Ok-clause-fits : goal.returns-in-Ok-clause-fits
returns-in-Ok-clause-fits g c =
    let table = ap (λ (s : StripeToken). s.table) c.finish.ensures.seat ∙ ap (λ (s : StripeToken). s.table) c.issue-spare.ensures.seat in
    let same = same-drawn g.D.Disk c.args.self.now c.issue-spare.new.self c.finish.new.self None c.write_synced.new.disk c.issue-spare.ensures.same c.write_synced.ensures.disk c.finish.ensures.same table in
    let number = ap (λ (s : StripeToken). s.part.stripe) c.finish.ensures.seat ∙ ap (λ (s : StripeToken). s.part.stripe) c.issue-spare.ensures.seat in
    let outside = ap (λ (s : StripeToken). s.part.state.inside) c.finish.ensures.seat in
    let uncut = c.finish.ensures.same.cut ∙ c.issue-spare.ensures.same.cut ∙ c.requires.may.issue.uncut in
    fits-again g.D.Disk c.args.self.now c.finish.new.self same c.requires.may.fits number (λ inside. absurd (false≢true (sym outside ∙ inside)))
    (subst (λ cut. CutFits c.args.self.now.geometry (part_of c.args.self.now) cut c.finish.new.self.seat.part) (sym uncut) (ap (λ (s : StripeToken). s.part.state.flight) c.finish.ensures.seat))

pub returns-in-Ok-clause-stands : goal.returns-in-Ok-clause-stands
returns-in-Ok-clause-stands g c = λ opening stands.
    let may = c.requires.may in
    let idle = subst (λ cut. CutFits c.args.self.now.geometry (part_of c.args.self.now) cut c.args.self.now.seat.part) may.issue.uncut may.fits.cut in
    let write : IsWrite c.args.self.now c.args.block c.args.first c.args.bytes.now c.sector_of-sector.result =
    record { idle = idle; of_part = may.hold.of_part; place = may.hold.place; at = c.sector_of-sector.ensures } in
    let went : WentWrite g.D.Disk c.args.bytes.now c.sector_of-sector.result c.args.self.now.disk c.write_synced.new.disk = record {
      moments = subst (λ d. EachMoment g.D.Disk (SameBut (c.sector_of-sector.result * 512) (c.sector_of-sector.result * 512 + length c.args.bytes.now)) d c.write_synced.new.disk)
          c.issue-spare.ensures.same.disk c.write_synced.ensures.moments;
      later = subst (λ d. g.D.Disk.faults d ≤ g.D.Disk.faults c.write_synced.new.disk) c.issue-spare.ensures.same.disk c.write_synced.ensures.cause.cause.later;
    } in
    write-stands-done g.D.Disk opening c.args.self.now c.issue-spare.new.self c.finish.new.self c.write_synced.new.disk c.args.id c.args.block c.args.self.now.era c.args.first c.args.bytes.now
    c.sector_of-sector.result c.issue-spare.result.0 c.finish.result write went c.in-Ok.ensures.written c.issue-spare.ensures.drew.next.ascend c.finish.ensures.drew.next.ascend c.issue-spare.ensures.view c.finish.ensures.view stands

pub returns-in-Ok-clause-drew : goal.returns-in-Ok-clause-drew
returns-in-Ok-clause-drew g c =
    let go = Go c.args.id c.args.block c.args.self.now.era c.args.first c.args.bytes.now in
    let did = c.issue-spare.ensures in
    let ended = c.finish.ensures in
    let kept = ap (λ (v : StripeView). v.entries) did.view in
    drew-two c.args.self.now c.issue-spare.new.self c.finish.new.self c.args.pass.now c.issue-spare.new.pass c.finish.new.pass go (Done c.args.id) c.issue-spare.result.0 c.finish.result (only c.args.id)
    kept did.drew (ap (λ (t : PassToken). t.part) did.pass) (ap (λ (v : StripeView). v.entries) ended.view) ended.drew

pub returns-in-Ok-clause-told : goal.returns-in-Ok-clause-told
returns-in-Ok-clause-told g c = λ told.
    subst (λ s. WritesThenSyncs s c.args.bytes.now (Ok tt) (g.D.Disk.history c.args.self.now.disk) (g.D.Disk.history c.finish.new.self.disk)) c.sector_of-sector.ensures
    (over-equal (λ a b. WritesThenSyncs c.sector_of-sector.result c.args.bytes.now (Ok tt) (g.D.Disk.history a) (g.D.Disk.history b)) c.args.self.now.disk c.issue-spare.new.self.disk c.write_synced.new.disk c.finish.new.self.disk
    c.issue-spare.ensures.same.disk c.finish.ensures.same.disk (c.in-Ok.ensures.told told))

pub returns-in-Ok-clause-after : goal.returns-in-Ok-clause-after
returns-in-Ok-clause-after g c =
    (c.finish.ensures.same.cut ∙ c.issue-spare.ensures.same.cut ∙ c.requires.may.issue.uncut, ap (λ (s : StripeToken). s.part.state.inside) c.finish.ensures.seat)

pub returns-in-Ok-clause-cause : goal.returns-in-Ok-clause-cause
returns-in-Ok-clause-cause g c =
    over-equal (λ a b. HasCount (g.D.Disk.faults a) (g.D.Disk.faults b) (Ok tt)) c.args.self.now.disk c.issue-spare.new.self.disk c.write_synced.new.disk c.finish.new.self.disk
    c.issue-spare.ensures.same.disk c.finish.ensures.same.disk c.in-Ok.ensures.cause

-- it was cut
pub returns-in-Err-clause-same : goal.returns-in-Err-clause-same
returns-in-Err-clause-same g c =
    let table = ap (λ (s : StripeToken). s.table) c.note.ensures.seat ∙ ap (λ (s : StripeToken). s.table) c.issue-spare.ensures.seat in
    same-cut g.D.Disk c.args.self.now c.note.new.self _
    (same-drawn g.D.Disk c.args.self.now c.issue-spare.new.self c.note.new.self None c.write_synced.new.disk c.issue-spare.ensures.same c.write_synced.ensures.disk c.note.ensures.same table)

pub returns-in-Err-clause-fits : goal.returns-in-Err-clause-fits
returns-in-Err-clause-fits g c =
    let may = c.requires.may in
    let table = ap (λ (s : StripeToken). s.table) c.note.ensures.seat ∙ ap (λ (s : StripeToken). s.table) c.issue-spare.ensures.seat in
    let same = same-drawn g.D.Disk c.args.self.now c.issue-spare.new.self c.note.new.self None c.write_synced.new.disk c.issue-spare.ensures.same c.write_synced.ensures.disk c.note.ensures.same table in
    let number = ap (λ (s : StripeToken). s.part.stripe) c.note.ensures.seat ∙ ap (λ (s : StripeToken). s.part.stripe) c.issue-spare.ensures.seat in
    let inside = ap (λ (s : StripeToken). s.part.state.inside) c.note.ensures.seat ∙ ap (λ (s : StripeToken). s.part.state.inside) c.issue-spare.ensures.seat ∙ may.issue.inside in
    let era = ap (λ (s : StripeToken). s.part.era) c.note.ensures.seat ∙ ap (λ (s : StripeToken). s.part.era) c.issue-spare.ensures.seat in
    let flight = ap (λ (s : StripeToken). s.part.state.flight) c.note.ensures.seat ∙ ap (λ (s : StripeToken). cut_flight s.part.state.flight) c.issue-spare.ensures.seat in
    fits-again g.D.Disk c.args.self.now _ (same-cut g.D.Disk c.args.self.now c.note.new.self _ same) may.fits number
    (λ _. c.note.ensures.same.era ∙ c.issue-spare.ensures.same.era ∙ may.fits.era may.issue.inside ∙ sym era)
    (record {
      inside = inside;
      bytes = c.args.bytes.now;
      flight = flight;
      size = sym c.issue-spare.ensures.spare;
      of_part = may.hold.of_part;
      place = subst (λ n. IsPlace c.args.self.now.geometry c.args.block c.args.first n) (sym c.issue-spare.ensures.spare) may.hold.place;
    })

pub returns-in-Err-clause-stands : goal.returns-in-Err-clause-stands
returns-in-Err-clause-stands g c = λ opening stands.
    let may = c.requires.may in
    let idle = subst (λ cut. CutFits c.args.self.now.geometry (part_of c.args.self.now) cut c.args.self.now.seat.part) may.issue.uncut may.fits.cut in
    let write : IsWrite c.args.self.now c.args.block c.args.first c.args.bytes.now c.sector_of-sector.result =
    record { idle = idle; of_part = may.hold.of_part; place = may.hold.place; at = c.sector_of-sector.ensures } in
    let went : WentWrite g.D.Disk c.args.bytes.now c.sector_of-sector.result c.args.self.now.disk c.write_synced.new.disk = record {
      moments = subst (λ d. EachMoment g.D.Disk (SameBut (c.sector_of-sector.result * 512) (c.sector_of-sector.result * 512 + length c.args.bytes.now)) d c.write_synced.new.disk)
          c.issue-spare.ensures.same.disk c.write_synced.ensures.moments;
      later = subst (λ d. g.D.Disk.faults d ≤ g.D.Disk.faults c.write_synced.new.disk) c.issue-spare.ensures.same.disk c.write_synced.ensures.cause.cause.later;
    } in
    let count = c.in-Err.ensures.cause.count in
    let rose = subst (λ n. Rose (g.D.Disk.faults c.args.self.now.disk) n) (sym count)
    (subst (λ d. Rose (g.D.Disk.faults d) (g.D.Disk.faults c.write_synced.new.disk)) c.issue-spare.ensures.same.disk c.in-Err.ensures.cause.cause.failed) in
    write-stands-cut g.D.Disk opening c.args.self.now c.issue-spare.new.self c.note.new.self c.write_synced.new.disk c.args.id c.args.block c.args.self.now.era c.args.first c.args.bytes.now
    c.sector_of-sector.result c.issue-spare.result.0 c.note.result c.in-Err.count write went count rose c.issue-spare.ensures.drew.next.ascend c.note.ensures.drew.next.ascend c.issue-spare.ensures.view c.note.ensures.view stands

pub returns-in-Err-clause-drew : goal.returns-in-Err-clause-drew
returns-in-Err-clause-drew g c =
    let go = Go c.args.id c.args.block c.args.self.now.era c.args.first c.args.bytes.now in
    let did = c.issue-spare.ensures in
    let ended = c.note.ensures in
    let kept = ap (λ (v : StripeView). v.entries) did.view in
    drew-two c.args.self.now c.issue-spare.new.self _ c.args.pass.now c.issue-spare.new.pass c.note.new.pass go (Cut c.args.id c.in-Err.count) c.issue-spare.result.0 c.note.result (only c.args.id)
    kept did.drew (ap (λ (t : PassToken). t.part) did.pass) (ap (λ (v : StripeView). v.entries) ended.view) ended.drew

pub returns-in-Err-clause-told : goal.returns-in-Err-clause-told
returns-in-Err-clause-told g c = λ told.
    subst (λ s. WritesThenSyncs s c.args.bytes.now (Err c.in-Err.count) (g.D.Disk.history c.args.self.now.disk) (g.D.Disk.history c.note.new.self.disk)) c.sector_of-sector.ensures
    (over-equal (λ a b. WritesThenSyncs c.sector_of-sector.result c.args.bytes.now (Err c.in-Err.count) (g.D.Disk.history a) (g.D.Disk.history b)) c.args.self.now.disk c.issue-spare.new.self.disk c.write_synced.new.disk c.note.new.self.disk
    c.issue-spare.ensures.same.disk c.note.ensures.same.disk (c.in-Err.ensures.told told))

pub returns-in-Err-clause-after : goal.returns-in-Err-clause-after
returns-in-Err-clause-after g c = (
  record { of = refl; at = refl; from = refl; size = c.issue-spare.ensures.spare },
  ap (λ (s : StripeToken). s.part.state.inside) c.note.ensures.seat ∙ ap (λ (s : StripeToken). s.part.state.inside) c.issue-spare.ensures.seat ∙ c.requires.may.issue.inside,
)

pub returns-in-Err-clause-cause : goal.returns-in-Err-clause-cause
returns-in-Err-clause-cause g c =
    over-equal (λ a b. HasCount (g.D.Disk.faults a) (g.D.Disk.faults b) (Err c.in-Err.count)) c.args.self.now.disk c.issue-spare.new.self.disk c.write_synced.new.disk c.note.new.self.disk
    c.issue-spare.ensures.same.disk c.note.ensures.same.disk c.in-Err.ensures.cause
