use Rattle.std.proofs.Common.{◌≡◌, ℕ, ◌-◌, ◌*◌, ◌/◌, ◌%◌, List, [], ◌∷◌, length, arith, refl, sym, ap, ◌∙◌, subst}
use Rattle.std.specs.Prelude.{Ok, Err}
use Rattle.std.proofs.lemmas.Nat.{div-add-mod'}
use Rattle.era_base.specs.Bytes.{part as bytes_at}
use Rattle.era_base.specs.CrashModel.{LiesOn, State}
use Rattle.era_base.specs.Disk.{Reads}
use Rattle.era_base.specs.Faults.{HasCount, Rose}
use Rattle.era_gate.specs.Calls.{StripeToken}
use Rattle.era_gate.specs.Passes.{no_write}
use Rattle.era_model.specs.declared.event.Event.TheVariants.{Read}
use Rattle.era_notes.specs.Notes.{last_faults}
use Rattle.era_notes.specs.Parts.{IsPlace, sector_in}
use Rattle.era_notes.specs.Rooms.{HoldBytes}
use Rattle.era_stripe.specs.Calls.{Drew}
use Rattle.era_stripe.specs.Stripes.{StripeView, ViewStands, called, view_of, part_of}
use Rattle.era_stripe.proofs.Issued.{stands-quiet}
use Rattle.era_stripe.proofs.ReadBack.{owes-read, all_cut-fits}
use Rattle.era_stripe.proofs.ReadCalls.{went-read}
use Rattle.era_stripe.proofs.StripeDraws.{drew-from, drew-one}
use Rattle.era_stripe.proofs.StripeSteps.{place-lies, read-sector, fits-called, may-called, same-called, stay-called, stay-noted, fits-noted}
use Rattle.era_stripe.proofs.Views.{OwesDraw, last_faults-le, rose-since, stands-noted}
use Rattle.era_stripe.proofs.stripe.Stripe.read.Goals as goal

pub overflow_sub-first : goal.overflow_sub-first
overflow_sub-first g c =
    rw (c.from.ensures, c.from-size.ensures, c.block_sectors.ensures)
    (read-sector c.args.sector c.args.self.now.geometry.block_sectors c.args.self.now.first_block c.requires.may.hold.of_part.low).0

pub read-requires : goal.read-requires
read-requires g c =
    let size : ℕ = c.args.self.now.geometry.block_sectors in
    let hold = c.requires.may.hold in
    rw (c.from.ensures, c.from-size.ensures, c.block_sectors.ensures)
    (subst (λ s. LiesOn (g.D.Disk.sectors c.args.self.now.disk) s (length c.args.into.now)) (sym (read-sector c.args.sector size c.args.self.now.first_block hold.of_part.low).1)
    (place-lies g.D.Disk c.args.self.now (c.args.sector / size) (c.args.sector % size) (length c.args.into.now) c.requires.may.fits hold.of_part hold.place))

pub refuse_as-requires-clause-fits : goal.refuse_as-requires-clause-fits
refuse_as-requires-clause-fits g c = fits-called g.D.Disk c.args.self.now c.read.new.self c.args.self.now.room c.read.ensures.size c.requires.may.fits

pub refuse_as-requires-clause-call : goal.refuse_as-requires-clause-call
refuse_as-requires-clause-call g c = may-called c.args.gate.now c.args.self.now c.read.new.self c.args.self.now.room c.args.pass.now c.args.id 1 c.requires.may.call

-- the read failed
pub returns-in_default-clause-fits : goal.returns-in_default-clause-fits
returns-in_default-clause-fits g c = c.refuse_as.ensures.fits

pub returns-in_default-clause-stands : goal.returns-in_default-clause-stands
returns-in_default-clause-stands g c = λ opening stands.
    let view = view_of g.D.Disk c.args.self.now in
    let cause = c.in_default.ensures.cause in
    let stands_later = stands-quiet g.D.Disk.tells opening view (g.D.Disk.history c.read.new.self) (g.D.Disk.faults c.read.new.self) 0 cause.later
    (λ told. let read = c.in_default.ensures.told told in went-read (g.D.Disk.history c.args.self.now.disk) (g.D.Disk.history c.read.new.self) read.time read.same) stands in
    let rose = rose-since (last_faults view.least view.notes) view.faults (g.D.Disk.faults c.read.new.self) (last_faults-le view.least view.faults view.notes stands.counts) cause.failed in
    c.refuse_as.ensures.stands opening
    (record { present = c.faults-count.ensures; rose = subst (λ n. Rose (last_faults view.least view.notes) n) (sym c.faults-count.ensures) rose }) stands_later

pub returns-in_default-clause-drew : goal.returns-in_default-clause-drew
returns-in_default-clause-drew g c = drew-from c.args.self.now _ c.refuse_as.new.self c.args.pass.now c.refuse_as.new.pass _ _ refl c.refuse_as.ensures.drew

pub returns-in_default-clause-told : goal.returns-in_default-clause-told
returns-in_default-clause-told g c = λ told.
    let read = c.in_default.ensures.told told in
    subst (λ d. Reads (c.args.sector - c.args.self.now.first_block * c.args.self.now.geometry.block_sectors) c.read.new.into (Err c.faults-count.result) (g.D.Disk.history c.args.self.now.disk) (g.D.Disk.history d)) (sym c.refuse_as.ensures.same.disk)
    (record { time = read.time; same = read.same; bytes = tt })

pub returns-in_default-clause-stay : goal.returns-in_default-clause-stay
returns-in_default-clause-stay g c = stay-called c.args.self.now c.refuse_as.new.self c.read.new.self c.args.self.now.room c.refuse_as.ensures.stay

pub returns-in_default-clause-same : goal.returns-in_default-clause-same
returns-in_default-clause-same g c =
    same-called g.D.Disk c.args.self.now c.refuse_as.new.self c.read.new.self c.args.self.now.room c.read.ensures.place c.read.ensures.size c.refuse_as.ensures.same c.refuse_as.ensures.stay.table

pub returns-in_default-clause-cause : goal.returns-in_default-clause-cause
returns-in_default-clause-cause g c =
    let cause = c.in_default.ensures.cause in
    subst (λ d. HasCount (g.D.Disk.faults c.args.self.now.disk) (g.D.Disk.faults d) (Err c.faults-count.result)) (sym c.refuse_as.ensures.same.disk)
    (record { cause = record { later = cause.later; failed = cause.failed; kept = tt }; count = c.faults-count.ensures })

-- the read answered Ok
pub fill-bytes-requires : goal.fill-bytes-requires
fill-bytes-requires g c =
    let room = sym c.take.ensures.value ∙ c.in-Some.is in
    let hold = subst (λ r. HoldBytes (length c.args.into.now) r) room c.requires.may.hold.buffers in
    (omega (arith, hold.0, c.read.auto.into), omega (arith, hold.1, c.read.auto.into))

pub note-requires : goal.note-requires
note-requires g c =
    let call = c.requires.may.call in
    record { may = record { table = call.table; pass_table = call.pass_table; may = tt; asks = (call.lane, omega (arith, call.budget)); room = omega (arith, call.room) } }

pub returns-clause-fits : goal.returns-clause-fits
returns-clause-fits g c =
    fits-noted g.D.Disk _ c.note.new.self (Read c.args.id c.args.sector c.fill-bytes.result.0) c.note.result c.note.ensures.same c.note.ensures.seat refl
    (fits-called g.D.Disk c.args.self.now c.read.new.self _ c.read.ensures.size c.requires.may.fits)

pub returns-clause-stands : goal.returns-clause-stands
returns-clause-stands g c = λ opening stands.
    let size : ℕ = c.args.self.now.geometry.block_sectors in
    let block : ℕ = c.args.sector / size in
    let first : ℕ = c.args.sector % size in
    let hold = c.requires.may.hold in
    let view = view_of g.D.Disk c.args.self.now in
    let history = g.D.Disk.history c.read.new.self in
    let faults : ℕ = g.D.Disk.faults c.read.new.self in
    let later = called view history faults in
    let stands_later = stands-quiet g.D.Disk.tells opening view history faults 0 c.read.ensures.cause.later
    (λ told. let read = c.in-Ok.ensures.told told in went-read (g.D.Disk.history c.args.self.now.disk) history read.time read.same) stands in
    let same_size : length c.read.new.into ≡ length c.args.into.now = omega (arith, c.read.auto.into) in
    let place = subst (λ n. IsPlace c.args.self.now.geometry block first n) (sym same_size) hold.place in
    let at : c.args.sector - c.from.result * c.from-size.result ≡ sector_in (part_of c.args.self.now) block first =
    rw (c.from.ensures, c.from-size.ensures, c.block_sectors.ensures) (read-sector c.args.sector size c.args.self.now.first_block hold.of_part.low).1 in
    let owes = owes-read g.D.Disk.tells opening later c.args.id c.args.sector block first c.read.new.into
    (all_cut-fits c.args.self.now.geometry (part_of c.args.self.now) c.args.self.now.cut c.args.self.now.seat.part c.requires.may.fits.cut) hold.of_part place (div-add-mod' c.args.sector size)
    (λ told.
    let read = c.in-Ok.ensures.told told in
    subst (λ (s : ℕ). bytes_at (s * 512) (length c.read.new.into) history.now.seen ≡ c.read.new.into) at
    (ap (λ (state : State). bytes_at ((c.args.sector - c.from.result * c.from-size.result) * 512) (length c.read.new.into) state.seen) read.same ∙ sym read.bytes))
    stands_later in
    subst (ViewStands g.D.Disk.tells opening) (sym c.note.ensures.view)
    (stands-noted g.D.Disk.tells opening later (Read c.args.id c.args.sector c.fill-bytes.result.0) c.note.result c.note.ensures.drew.next.ascend
    (subst (λ (bytes : List ℕ). OwesDraw g.D.Disk.tells opening later (Read c.args.id c.args.sector bytes)) (sym c.fill-bytes.ensures.bytes) owes) stands_later)

pub returns-clause-drew : goal.returns-clause-drew
returns-clause-drew g c =
    subst (λ (bytes : List ℕ). Drew (Read c.args.id c.args.sector bytes ∷ []) no_write c.args.self.now c.note.new.self c.args.pass.now c.note.new.pass) c.fill-bytes.ensures.bytes
    (drew-one c.args.self.now c.note.new.self c.args.pass.now c.note.new.pass (Read c.args.id c.args.sector c.fill-bytes.result.0) c.note.result no_write
    (ap (λ (v : StripeView). v.entries) c.note.ensures.view) c.note.ensures.drew)

pub returns-clause-told : goal.returns-clause-told
returns-clause-told g c = λ told.
    let read = c.in-Ok.ensures.told told in
    let first : ℕ = c.args.sector - c.args.self.now.first_block * c.args.self.now.geometry.block_sectors in
    let at : c.args.sector - c.from.result * c.from-size.result ≡ first = rw (c.from.ensures, c.from-size.ensures, c.block_sectors.ensures) refl in
    subst (λ d. Reads first c.read.new.into (Ok tt) (g.D.Disk.history c.args.self.now.disk) (g.D.Disk.history d)) (sym c.note.ensures.same.disk)
    (record {
      time = read.time;
      same = read.same;
      bytes = subst (λ (s : ℕ). c.read.new.into ≡ bytes_at (s * 512) (length c.read.new.into) (g.D.Disk.history c.args.self.now.disk).now.seen) at read.bytes;
    })

pub returns-clause-stay : goal.returns-clause-stay
returns-clause-stay g c =
    stay-called c.args.self.now c.note.new.self c.read.new.self _
    (stay-noted _ c.note.new.self (Read c.args.id c.args.sector c.fill-bytes.result.0) c.note.result c.note.ensures.same c.note.ensures.seat refl)

pub returns-clause-same : goal.returns-clause-same
returns-clause-same g c =
    same-called g.D.Disk c.args.self.now c.note.new.self c.read.new.self _ c.read.ensures.place c.read.ensures.size c.note.ensures.same (ap (λ (s : StripeToken). s.table) c.note.ensures.seat)

pub returns-clause-cause : goal.returns-clause-cause
returns-clause-cause g c =
    let cause = c.in-Ok.ensures.cause in
    subst (λ d. HasCount (g.D.Disk.faults c.args.self.now.disk) (g.D.Disk.faults d) (Ok tt)) (sym c.note.ensures.same.disk)
    (record { cause = record { later = cause.later; failed = tt; kept = cause.kept }; count = tt })
