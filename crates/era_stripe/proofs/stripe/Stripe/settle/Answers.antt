use Rattle.std.proofs.Common.{◌≡◌, ℕ, ◌*◌, true, List, length, vec_len, arith, refl, sym, ap, ◌∙◌, subst}
use Rattle.std.proofs.lemmas.Bool.{false≢true}
use Rattle.std.specs.Prelude.{Ok, Err, is_some}
use Rattle.era_base.specs.CrashModel.{LiesOn}
use Rattle.era_base.specs.Calls.{IsOnDisk}
use Rattle.era_base.specs.Faults.{HasCount, Rose}
use Rattle.era_gate.specs.Calls.{PassToken, StripeToken}
use Rattle.era_gate.specs.Passes.{no_write}
use Rattle.era_gate.specs.StateAfter.{flights}
use Rattle.era_model.specs.declared.event.Event.TheVariants.{Settle}
use Rattle.era_model.specs.Writes.{is_cut}
use Rattle.era_model.proofs.CommandReplies.{same_id-refl}
use Rattle.era_notes.specs.Notes.{last_faults}
use Rattle.era_notes.specs.Parts.{IsPlace, sector_in}
use Rattle.era_notes.proofs.Drawn.{cut-own}
use Rattle.era_stripe.specs.Results.{SyncsAndReads}
use Rattle.era_stripe.specs.Stripes.{StripeView, CutFits, called, cut_flight_of, part_of, view_of}
use Rattle.era_stripe.proofs.SettleStands.{SettledRead, settle-stands}
use Rattle.era_stripe.proofs.Issued.{stands-quiet}
use Rattle.era_stripe.proofs.StripeDraws.{drew-none, drew-one}
use Rattle.era_stripe.proofs.StripeSteps.{cut-there, did-fail, did-none, did-resolve, fits-again, place-lies}
use Rattle.era_stripe.proofs.Views.{last_faults-le, rose-since, stands-stay}
use Rattle.era_stripe.proofs.stripe.Stripe.settle.Goals as goal

-- no write is cut
pub learn-requires : goal.learn-requires
learn-requires g c = record { tables = (c.requires.may.call.table, c.requires.may.call.pass_table) }

pub returns-in_default-clause-same : goal.returns-in_default-clause-same
returns-in_default-clause-same g c = record {
  index = refl;
  geometry = refl;
  first_block = refl;
  blocks = refl;
  place = refl;
  sectors = refl;
  began = refl;
  table = ap (λ (s : StripeToken). s.table) c.learn.ensures.seat;
}

pub returns-in_default-clause-fits : goal.returns-in_default-clause-fits
returns-in_default-clause-fits g c =
    let seat = c.learn.ensures.seat in
    let fits = c.requires.may.fits in
    let none = sym c.take.ensures.value ∙ c.in_default.is in
    let idle = subst (λ cut. CutFits c.args.self.now.geometry (part_of c.args.self.now) cut c.args.self.now.seat.part) none fits.cut in
    fits-again g.D.Disk c.args.self.now _ (returns-in_default-clause-same g c) fits (ap (λ (s : StripeToken). s.part.stripe) seat)
    (λ is. fits.era (sym (ap (λ (s : StripeToken). s.part.state.inside) seat) ∙ is) ∙ sym (ap (λ (s : StripeToken). s.part.era) seat))
    (subst (λ cut. CutFits c.args.self.now.geometry (part_of c.args.self.now) cut c.learn.new.seat.part) (sym c.take.ensures.after)
    (ap (λ (s : StripeToken). s.part.state.flight) seat ∙ idle))

pub returns-in_default-clause-stands : goal.returns-in_default-clause-stands
returns-in_default-clause-stands g c = λ opening stands.
    let seat = c.learn.ensures.seat in
    stands-stay g.D.Disk.tells opening (view_of g.D.Disk c.args.self.now) c.learn.new.seat.part.state (ap (λ (s : StripeToken). s.part.state.flight) seat)
    (ap (λ (s : StripeToken). s.part.state.entries) seat) stands

pub returns-in_default-clause-did : goal.returns-in_default-clause-did
returns-in_default-clause-did g c =
    let none = sym c.take.ensures.value ∙ c.in_default.is in
    did-none g.D.Disk c.args.self.now.cut c.args.by c.args.self.now _ c.args.pass.now c.learn.new.pass none
    (record {
      drew = drew-none c.args.self.now _ c.args.pass.now c.learn.new.pass refl (ap (λ (t : PassToken). t.part.lanes) c.learn.ensures.pass) c.learn.ensures.keeps;
      disk = refl;
      seat = c.learn.ensures.seat;
      uncut = c.take.ensures.after;
      notes = refl;
      room = refl;
    })

pub returns-in_default-clause-rest : goal.returns-in_default-clause-rest
returns-in_default-clause-rest g c =
    let none = sym c.take.ensures.value ∙ c.in_default.is in
    ap (λ (s : StripeToken). s.part.state.inside) c.learn.ensures.seat ∙ c.requires.may.rest ∙ ap is_some (none ∙ sym c.take.ensures.after)

pub returns-in_default-clause-knows : goal.returns-in_default-clause-knows
returns-in_default-clause-knows g c = c.learn.ensures.ended

pub returns-in_default-clause-cause : goal.returns-in_default-clause-cause
returns-in_default-clause-cause g c = record { cause = record { later = omega arith; failed = tt; kept = refl }; count = tt }

-- a write is cut
pub sector_of-sector-requires : goal.sector_of-sector-requires
sector_of-sector-requires g c = (cut-there c.args.self.now c.in-Some.cut (sym c.take.ensures.value ∙ c.in-Some.is) c.requires.may.fits.cut).of_part

pub read_back_into-requires : goal.read_back_into-requires
read_back_into-requires g c =
    let cut = c.in-Some.cut in
    let there = cut-there c.args.self.now cut (sym c.take.ensures.value ∙ c.in-Some.is) c.requires.may.fits.cut in
    subst (λ s. LiesOn (g.D.Disk.sectors c.args.self.now.disk) s (vec_len cut.buffer)) (sym c.sector_of-sector.ensures)
    (place-lies g.D.Disk c.args.self.now cut.block cut.first (vec_len cut.buffer) c.requires.may.fits there.of_part there.place)

pub finish-requires-clause-may : goal.finish-requires-clause-may
finish-requires-clause-may g c =
    let call = c.requires.may.call in
    let cut = c.in-Some.cut in
    let there = cut-there c.args.self.now cut (sym c.take.ensures.value ∙ c.in-Some.is) c.requires.may.fits.cut in
    record {
      table = call.table;
      pass_table = call.pass_table;
      may = ap (λ flight. is_cut (flights flight) cut.id) there.flight ∙ cut-own (cut_flight_of cut there.bytes) cut.id (same_id-refl cut.id) refl;
      asks = (call.lane, omega (arith, call.budget));
      room = omega (arith, call.room);
    }

pub finish-requires-clause-inside : goal.finish-requires-clause-inside
finish-requires-clause-inside g c = (cut-there c.args.self.now c.in-Some.cut (sym c.take.ensures.value ∙ c.in-Some.is) c.requires.may.fits.cut).inside

pub finish-requires-clause-ends : goal.finish-requires-clause-ends
finish-requires-clause-ends g c = refl

pub learn-requires-in-Err : goal.learn-requires-in-Err
learn-requires-in-Err g c = record { tables = (c.requires.may.call.table, c.requires.may.call.pass_table) }

-- it was resolved
pub returns-in-Ok-clause-same : goal.returns-in-Ok-clause-same
returns-in-Ok-clause-same g c =
    let same = c.finish.ensures.same in
    record {
      index = same.index;
      geometry = same.geometry;
      first_block = same.first_block;
      blocks = same.blocks;
      place = ap g.D.Disk.place same.disk ∙ c.read_back_into.ensures.disk.place;
      sectors = ap g.D.Disk.sectors same.disk ∙ c.read_back_into.ensures.disk.size;
      began = same.began;
      table = ap (λ (s : StripeToken). s.table) c.finish.ensures.seat;
    }

pub returns-in-Ok-clause-fits : goal.returns-in-Ok-clause-fits
returns-in-Ok-clause-fits g c =
    let same = c.finish.ensures.same in
    let seat = c.finish.ensures.seat in
    let uncut = same.cut ∙ c.take.ensures.after in
    fits-again g.D.Disk c.args.self.now c.finish.new.self (returns-in-Ok-clause-same g c) c.requires.may.fits (ap (λ (s : StripeToken). s.part.stripe) seat)
    (λ is. absurd (false≢true (sym (ap (λ (s : StripeToken). s.part.state.inside) seat) ∙ is)))
    (subst (λ cut. CutFits c.args.self.now.geometry (part_of c.args.self.now) cut c.finish.new.self.seat.part) (sym uncut) (ap (λ (s : StripeToken). s.part.state.flight) seat))

pub returns-in-Ok-clause-stands : goal.returns-in-Ok-clause-stands
returns-in-Ok-clause-stands g c = λ opening stands.
    let cut = c.in-Some.cut in
    let there = cut-there c.args.self.now cut (sym c.take.ensures.value ∙ c.in-Some.is) c.requires.may.fits.cut in
    let read : SettledRead g.D.Disk cut c.from_vec-bytes.result c.sector_of-sector.result c.args.self.now c.read_back_into.new.disk = record {
      moments = c.read_back_into.ensures.moments;
      rises = c.read_back_into.ensures.cause.cause.later;
      on_disk = subst (λ (bytes : List ℕ). (told : g.D.Disk.tells ≡ true) → IsOnDisk (c.sector_of-sector.result * 512) bytes (g.D.Disk.history c.read_back_into.new.disk).now) (sym c.from_vec-bytes.ensures) c.in-Ok.ensures.read;
      size = ap length c.from_vec-bytes.ensures ∙ c.read_back_into.ensures.size.1;
      at = c.sector_of-sector.ensures;
    } in
    settle-stands g.D.Disk opening c.args.self.now c.finish.new.self c.read_back_into.new.disk cut c.args.by c.from_vec-bytes.result c.sector_of-sector.result c.finish.result there read c.finish.ensures.drew.next.ascend c.finish.ensures.view stands

pub returns-in-Ok-clause-did : goal.returns-in-Ok-clause-did
returns-in-Ok-clause-did g c =
    let cut = c.in-Some.cut in
    let is = sym c.take.ensures.value ∙ c.in-Some.is in
    let ended = c.finish.ensures in
    did-resolve g.D.Disk c.args.self.now.cut cut c.args.by c.args.self.now c.finish.new.self c.args.pass.now c.finish.new.pass is
    (record {
      bytes = c.from_vec-bytes.result;
      size = ap length c.from_vec-bytes.ensures ∙ c.read_back_into.ensures.size.1;
      drew = drew-one c.args.self.now c.finish.new.self c.args.pass.now c.finish.new.pass (Settle c.args.by cut.id c.from_vec-bytes.result) c.finish.result no_write
          (ap (λ (v : StripeView). v.entries) ended.view) ended.drew;
      told = λ told.
          subst (λ d. SyncsAndReads (sector_in (part_of c.args.self.now) cut.block cut.first) c.from_vec-bytes.result (Ok tt) (g.D.Disk.history c.args.self.now.disk) (g.D.Disk.history d)) (sym ended.same.disk)
          (subst (λ (bytes : List ℕ). SyncsAndReads (sector_in (part_of c.args.self.now) cut.block cut.first) bytes (Ok tt) (g.D.Disk.history c.args.self.now.disk) (g.D.Disk.history c.read_back_into.new.disk)) (sym c.from_vec-bytes.ensures)
          (subst (λ s. SyncsAndReads s c.read_back_into.new.into.items (Ok tt) (g.D.Disk.history c.args.self.now.disk) (g.D.Disk.history c.read_back_into.new.disk)) c.sector_of-sector.ensures (c.in-Ok.ensures.told told)));
      uncut = ended.same.cut ∙ c.take.ensures.after;
      outside = ap (λ (s : StripeToken). s.part.state.inside) ended.seat;
      room = ended.same.room;
    })

pub returns-in-Ok-clause-rest : goal.returns-in-Ok-clause-rest
returns-in-Ok-clause-rest g c = ap (λ (s : StripeToken). s.part.state.inside) c.finish.ensures.seat ∙ sym (ap is_some (c.finish.ensures.same.cut ∙ c.take.ensures.after))

pub returns-in-Ok-clause-knows : goal.returns-in-Ok-clause-knows
returns-in-Ok-clause-knows g c = c.finish.ensures.knows

pub returns-in-Ok-clause-cause : goal.returns-in-Ok-clause-cause
returns-in-Ok-clause-cause g c =
    subst (λ d. HasCount (g.D.Disk.faults c.args.self.now.disk) (g.D.Disk.faults d) (Ok tt)) (sym c.finish.ensures.same.disk) c.in-Ok.ensures.cause

-- it is still cut
pub returns-in-Err-clause-same : goal.returns-in-Err-clause-same
returns-in-Err-clause-same g c = record {
  index = refl;
  geometry = refl;
  first_block = refl;
  blocks = refl;
  place = c.read_back_into.ensures.disk.place;
  sectors = c.read_back_into.ensures.disk.size;
  began = refl;
  table = ap (λ (s : StripeToken). s.table) c.learn-in-Err.ensures.seat;
}

pub returns-in-Err-clause-fits : goal.returns-in-Err-clause-fits
returns-in-Err-clause-fits g c =
    let seat = c.learn-in-Err.ensures.seat in
    let fits = c.requires.may.fits in
    let cut = c.in-Some.cut in
    let there = cut-there c.args.self.now cut (sym c.take.ensures.value ∙ c.in-Some.is) fits.cut in
    let size = c.read_back_into.ensures.size.0 in
    fits-again g.D.Disk c.args.self.now _ (returns-in-Err-clause-same g c) fits (ap (λ (s : StripeToken). s.part.stripe) seat)
    (λ is. fits.era (sym (ap (λ (s : StripeToken). s.part.state.inside) seat) ∙ is) ∙ sym (ap (λ (s : StripeToken). s.part.era) seat))
    (record {
      inside = ap (λ (s : StripeToken). s.part.state.inside) seat ∙ there.inside;
      bytes = there.bytes;
      flight = ap (λ (s : StripeToken). s.part.state.flight) seat ∙ there.flight;
      size = there.size ∙ sym size;
      of_part = there.of_part;
      place = subst (λ n. IsPlace c.args.self.now.geometry cut.block cut.first n) (sym size) there.place;
    })

pub returns-in-Err-clause-stands : goal.returns-in-Err-clause-stands
returns-in-Err-clause-stands g c = λ opening stands.
    let seat = c.learn-in-Err.ensures.seat in
    let view = view_of g.D.Disk c.args.self.now in
    let later = stands-quiet g.D.Disk.tells opening view (g.D.Disk.history c.read_back_into.new.disk) (g.D.Disk.faults c.read_back_into.new.disk) 0 c.read_back_into.ensures.cause.cause.later
    c.read_back_into.ensures.moments stands in
    stands-stay g.D.Disk.tells opening (called view (g.D.Disk.history c.read_back_into.new.disk) (g.D.Disk.faults c.read_back_into.new.disk)) c.learn-in-Err.new.seat.part.state
    (ap (λ (s : StripeToken). s.part.state.flight) seat) (ap (λ (s : StripeToken). s.part.state.entries) seat) later

pub returns-in-Err-clause-did : goal.returns-in-Err-clause-did
returns-in-Err-clause-did g c =
    let cut = c.in-Some.cut in
    let is = sym c.take.ensures.value ∙ c.in-Some.is in
    did-fail g.D.Disk c.args.self.now.cut cut c.args.by c.in-Err.count c.args.self.now _ c.args.pass.now c.learn-in-Err.new.pass is
    (record {
      drew = drew-none c.args.self.now _ c.args.pass.now c.learn-in-Err.new.pass refl (ap (λ (t : PassToken). t.part.lanes) c.learn-in-Err.ensures.pass) c.learn-in-Err.ensures.keeps;
      buffer = c.read_back_into.new.into.items;
      told = λ told.
          subst (λ s. SyncsAndReads s c.read_back_into.new.into.items (Err c.in-Err.count) (g.D.Disk.history c.args.self.now.disk) (g.D.Disk.history c.read_back_into.new.disk)) c.sector_of-sector.ensures (c.in-Err.ensures.told told);
      still_cut = record { of = refl; at = refl; from = refl; size = c.read_back_into.ensures.size.0 };
      seat = c.learn-in-Err.ensures.seat;
      notes = refl;
      room = refl;
      risen = λ opening stands.
          let view = view_of g.D.Disk c.args.self.now in
          let cause = c.in-Err.ensures.cause in
          let rose = rose-since (last_faults view.least view.notes) view.faults (g.D.Disk.faults c.read_back_into.new.disk) (last_faults-le view.least view.faults view.notes stands.counts) cause.cause.failed in
          record { present = cause.count; rose = subst (λ n. Rose (last_faults view.least view.notes) n) (sym cause.count) rose };
    })

pub returns-in-Err-clause-rest : goal.returns-in-Err-clause-rest
returns-in-Err-clause-rest g c =
    ap (λ (s : StripeToken). s.part.state.inside) c.learn-in-Err.ensures.seat ∙ (cut-there c.args.self.now c.in-Some.cut (sym c.take.ensures.value ∙ c.in-Some.is) c.requires.may.fits.cut).inside

pub returns-in-Err-clause-knows : goal.returns-in-Err-clause-knows
returns-in-Err-clause-knows g c = c.learn-in-Err.ensures.ended

pub returns-in-Err-clause-cause : goal.returns-in-Err-clause-cause
returns-in-Err-clause-cause g c = c.in-Err.ensures.cause
