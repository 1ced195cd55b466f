use Rattle.std.proofs.Common.{ℕ, [], ◌∷◌, length, Ok, Err, refl, subst, inl, inr}
use Rattle.era_base.specs.Flags.{has}
use Rattle.era_gate.specs.Passes.{no_write}
use Rattle.era_model.specs.declared.event.Event.TheVariants.{Refused}
use Rattle.era_model.specs.declared.event.Kind.TheVariants.{Write as WriteKind}
use Rattle.era_model.specs.declared.event.Why.TheVariants.{DataFault}
use Rattle.era_session.specs.Desks.{desk}
use Rattle.era_session.specs.Writes.{marking_events}
use Rattle.era_session.proofs.AtStripes.{stripe-then}
use Rattle.era_session.proofs.Settled.{err-left}
use Rattle.era_session.proofs.WriteAt.{few-marking}
use Rattle.era_session.proofs.WriteEnds.{cut-cause, desk-by-stripe, desk-then, refused-same, unmarked-cause, unmarked-drew, unsettled-cause, unsettled-drew, unsettled-fits, wrote-cause, wrote-drew, wrote-fits}
use Rattle.era_session.proofs.WriteSteps.{may-refuse, may-settle, may-write-seen, ready}
use Rattle.era_stripe.specs.Calls.{Drew}
use Rattle.era_stripe.specs.Results.{only}
use Rattle.era_session.proofs.writing.write_block.Goals as goal

pub settle-requires : goal.settle-requires
settle-requires g c =
    let old = desk c.args.stripe.now c.args.keeper.now c.args.pass.now in
    record { may = may-settle g.D.Disk c.args.gate.now old c.args.id c.args.block c.args.first (length c.args.bytes.now) c.requires.may }

pub refuse-requires : goal.refuse-requires
refuse-requires g c =
    let old = desk c.args.stripe.now c.args.keeper.now c.args.pass.now in
    let left = err-left g.D.Disk c.args.stripe.now.cut c.args.id c.in-Err.count c.args.stripe.now c.settle.new.self c.args.pass.now c.settle.new.pass c.in-Err.ensures.did in
    record { may = may-refuse g.D.Disk c.args.gate.now old c.settle.new.self c.settle.new.pass c.args.id c.args.block c.args.first (length c.args.bytes.now) c.requires.may c.settle.ensures.fits left.inside left.drew }

pub returns-in-Err-clause-fits : goal.returns-in-Err-clause-fits
returns-in-Err-clause-fits g c =
    let old = desk c.args.stripe.now c.args.keeper.now c.args.pass.now in
    let left = err-left g.D.Disk c.args.stripe.now.cut c.args.id c.in-Err.count c.args.stripe.now c.settle.new.self c.args.pass.now c.settle.new.pass c.in-Err.ensures.did in
    unsettled-fits g.D.Disk c.args.gate.now old c.settle.new.self c.refuse.new.self c.settle.new.pass c.refuse.new.pass [] _ c.requires.may.fits c.settle.ensures.same c.settle.ensures.rest left.drew c.refuse.ensures.drew c.refuse.ensures.fits c.refuse.ensures.stay

pub returns-in-Err-clause-stands : goal.returns-in-Err-clause-stands
returns-in-Err-clause-stands g c =
    let left = err-left g.D.Disk c.args.stripe.now.cut c.args.id c.in-Err.count c.args.stripe.now c.settle.new.self c.args.pass.now c.settle.new.pass c.in-Err.ensures.did in
    λ opening stands. record {
      stripe = c.refuse.ensures.stands opening (left.risen opening stands.stripe) (c.settle.ensures.stands opening stands.stripe);
      keeper = stands.keeper;
    }

pub returns-in-Err-clause-went : goal.returns-in-Err-clause-went
returns-in-Err-clause-went g c =
    let refused = subst (λ n. Drew (Refused c.args.id WriteKind (DataFault n c.in-Err.count) ∷ []) no_write c.settle.new.self c.refuse.new.self c.settle.new.pass c.refuse.new.pass) c.settle.ensures.same.index c.refuse.ensures.drew in
    inl (record {
      settled = desk c.settle.new.self c.args.keeper.now c.settle.new.pass;
      settling = record { did = c.in-Err.ensures.did; keeper = refl };
      refused = refused;
      device = c.refuse.ensures.same.disk;
      cut = c.refuse.ensures.same.cut;
      keeper = refl;
    })

pub returns-in-Err-clause-drew : goal.returns-in-Err-clause-drew
returns-in-Err-clause-drew g c =
    let old = desk c.args.stripe.now c.args.keeper.now c.args.pass.now in
    let left = err-left g.D.Disk c.args.stripe.now.cut c.args.id c.in-Err.count c.args.stripe.now c.settle.new.self c.args.pass.now c.settle.new.pass c.in-Err.ensures.did in
    let refused = subst (λ n. Drew (Refused c.args.id WriteKind (DataFault n c.in-Err.count) ∷ []) no_write c.settle.new.self c.refuse.new.self c.settle.new.pass c.refuse.new.pass) c.settle.ensures.same.index c.refuse.ensures.drew in
    unsettled-drew g.D.Disk c.args.id c.args.block c.args.first c.in-Err.count c.args.bytes.now old c.settle.new.self c.refuse.new.self c.settle.new.pass c.refuse.new.pass c.requires.may.undrawn c.in-Err.ensures.did left.drew refused

pub returns-in-Err-clause-same : goal.returns-in-Err-clause-same
returns-in-Err-clause-same g c =
    let old = desk c.args.stripe.now c.args.keeper.now c.args.pass.now in
    desk-by-stripe g.D.Disk old (desk c.refuse.new.self c.args.keeper.now c.refuse.new.pass) (stripe-then g.D.Disk c.args.stripe.now c.settle.new.self c.refuse.new.self c.settle.ensures.same (refused-same g.D.Disk c.settle.new.self c.refuse.new.self c.refuse.ensures.same c.refuse.ensures.stay)) refl

pub returns-in-Err-clause-cause : goal.returns-in-Err-clause-cause
returns-in-Err-clause-cause g c =
    let old = desk c.args.stripe.now c.args.keeper.now c.args.pass.now in
    unsettled-cause g.D.Disk c.in-Err.count old c.settle.new.self c.refuse.new.self c.refuse.new.pass c.in-Err.ensures.cause c.refuse.ensures.same.disk

pub mark_block-requires : goal.mark_block-requires
mark_block-requires g c =
    let old = desk c.args.stripe.now c.args.keeper.now c.args.pass.now in
    let settled = desk c.settle.new.self c.args.keeper.now c.settle.new.pass in
    let is = ready g.D.Disk c.args.gate.now c.args.stripe.now.cut c.args.id c.args.block c.args.first (length c.args.bytes.now) old c.settle.new.self c.settle.new.pass c.requires.may c.settle.ensures.fits c.settle.ensures.rest c.settle.ensures.same c.in_default.ensures.did in
    record { may = is.may }

pub returns-in-Err-mark_block-clause-fits : goal.returns-in-Err-mark_block-clause-fits
returns-in-Err-mark_block-clause-fits g c =
    c.in-Err-mark_block.ensures.after

pub returns-in-Err-mark_block-clause-stands : goal.returns-in-Err-mark_block-clause-stands
returns-in-Err-mark_block-clause-stands g c =
    λ opening stands. c.mark_block.ensures.stands opening (record { stripe = c.settle.ensures.stands opening stands.stripe; keeper = stands.keeper })

pub returns-in-Err-mark_block-clause-went : goal.returns-in-Err-mark_block-clause-went
returns-in-Err-mark_block-clause-went g c =
    let settled = desk c.settle.new.self c.args.keeper.now c.settle.new.pass in
    record {
      settled = settled;
      settling = record { did = c.in_default.ensures.did; keeper = refl };
      marking = c.in-Err-mark_block.ensures.asked;
    }

pub returns-in-Err-mark_block-clause-drew : goal.returns-in-Err-mark_block-clause-drew
returns-in-Err-mark_block-clause-drew g c =
    let old = desk c.args.stripe.now c.args.keeper.now c.args.pass.now in
    let settled = desk c.settle.new.self c.args.keeper.now c.settle.new.pass in
    let is = ready g.D.Disk c.args.gate.now c.args.stripe.now.cut c.args.id c.args.block c.args.first (length c.args.bytes.now) old c.settle.new.self c.settle.new.pass c.requires.may c.settle.ensures.fits c.settle.ensures.rest c.settle.ensures.same c.in_default.ensures.did in
    let marked = desk c.mark_block.new.stripe c.mark_block.new.keeper c.mark_block.new.pass in
    unmarked-drew c.args.id c.args.block c.args.first c.in-Err-mark_block.count c.args.bytes.now old settled marked is.before c.requires.may.undrawn refl c.mark_block.ensures.asked.stripe.entries is.settling is.drew c.in-Err-mark_block.ensures.drew

pub returns-in-Err-mark_block-clause-same : goal.returns-in-Err-mark_block-clause-same
returns-in-Err-mark_block-clause-same g c =
    let old = desk c.args.stripe.now c.args.keeper.now c.args.pass.now in
    let settled = desk c.settle.new.self c.args.keeper.now c.settle.new.pass in
    let marked = desk c.mark_block.new.stripe c.mark_block.new.keeper c.mark_block.new.pass in
    let first = desk-by-stripe g.D.Disk old settled c.settle.ensures.same refl in
    desk-then g.D.Disk old settled marked first c.mark_block.ensures.same

pub returns-in-Err-mark_block-clause-cause : goal.returns-in-Err-mark_block-clause-cause
returns-in-Err-mark_block-clause-cause g c =
    let old = desk c.args.stripe.now c.args.keeper.now c.args.pass.now in
    let marked = desk c.mark_block.new.stripe c.mark_block.new.keeper c.mark_block.new.pass in
    unmarked-cause g.D.Disk c.in-Err-mark_block.count old c.settle.new.self marked c.in_default.ensures.cause c.mark_block.ensures.asked.stripe.disk c.in-Err-mark_block.ensures.cause

pub write_seen-requires : goal.write_seen-requires
write_seen-requires g c =
    let old = desk c.args.stripe.now c.args.keeper.now c.args.pass.now in
    let settled = desk c.settle.new.self c.args.keeper.now c.settle.new.pass in
    let is = ready g.D.Disk c.args.gate.now c.args.stripe.now.cut c.args.id c.args.block c.args.first (length c.args.bytes.now) old c.settle.new.self c.settle.new.pass c.requires.may c.settle.ensures.fits c.settle.ensures.rest c.settle.ensures.same c.in_default.ensures.did in
    let marked = desk c.mark_block.new.stripe c.mark_block.new.keeper c.mark_block.new.pass in
    let flag = has c.args.keeper.now.meta.marks.current c.args.block in
    let era : ℕ = c.args.keeper.now.meta.marks.era in
    record {
      may = may-write-seen g.D.Disk c.args.gate.now settled marked c.args.id c.args.block c.args.first (length c.args.bytes.now) (marking_events flag c.args.id c.args.block era) is.once is.budget is.may.lane is.room is.hold
          c.in_default-mark_block.ensures.after c.mark_block.ensures.asked.stripe (few-marking flag c.args.id c.args.block era) c.in_default-mark_block.ensures.drew.drew;
    }

pub returns-in-Ok-clause-fits : goal.returns-in-Ok-clause-fits
returns-in-Ok-clause-fits g c =
    let marked = desk c.mark_block.new.stripe c.mark_block.new.keeper c.mark_block.new.pass in
    wrote-fits g.D.Disk c.args.gate.now c.args.id c.args.block c.args.first (length c.args.bytes.now) (Ok tt) marked c.write_seen.new.self c.write_seen.new.pass _ (only c.args.id) c.in_default-mark_block.ensures.after c.write_seen.ensures.fits c.in-Ok.ensures.after c.write_seen.ensures.same c.in-Ok.ensures.drew

pub returns-in-Ok-clause-stands : goal.returns-in-Ok-clause-stands
returns-in-Ok-clause-stands g c =
    λ opening stands.
    let between = c.mark_block.ensures.stands opening (record { stripe = c.settle.ensures.stands opening stands.stripe; keeper = stands.keeper }) in
    record { stripe = c.write_seen.ensures.stands opening between.stripe; keeper = between.keeper }

pub returns-in-Ok-clause-went : goal.returns-in-Ok-clause-went
returns-in-Ok-clause-went g c =
    let settled = desk c.settle.new.self c.args.keeper.now c.settle.new.pass in
    let marked = desk c.mark_block.new.stripe c.mark_block.new.keeper c.mark_block.new.pass in
    record {
      settled = settled;
      marked = marked;
      settling = record { did = c.in_default.ensures.did; keeper = refl };
      marking = c.in_default-mark_block.ensures.asked;
      writing = record { drew = c.in-Ok.ensures.drew; told = c.in-Ok.ensures.told; after = c.in-Ok.ensures.after; keeper = refl };
    }

pub returns-in-Ok-clause-drew : goal.returns-in-Ok-clause-drew
returns-in-Ok-clause-drew g c =
    let old = desk c.args.stripe.now c.args.keeper.now c.args.pass.now in
    let settled = desk c.settle.new.self c.args.keeper.now c.settle.new.pass in
    let is = ready g.D.Disk c.args.gate.now c.args.stripe.now.cut c.args.id c.args.block c.args.first (length c.args.bytes.now) old c.settle.new.self c.settle.new.pass c.requires.may c.settle.ensures.fits c.settle.ensures.rest c.settle.ensures.same c.in_default.ensures.did in
    let marked = desk c.mark_block.new.stripe c.mark_block.new.keeper c.mark_block.new.pass in
    let drew = wrote-drew c.args.id c.args.block c.args.first c.args.bytes.now (Ok tt) old settled marked c.write_seen.new.self c.write_seen.new.pass is.before c.requires.may.undrawn refl c.mark_block.ensures.asked.stripe.entries is.settling is.drew c.in_default-mark_block.ensures.drew c.in-Ok.ensures.drew in
    record { events = drew.events; are = drew.are; drew = drew.drew; trail = drew.trail }

pub returns-in-Ok-clause-same : goal.returns-in-Ok-clause-same
returns-in-Ok-clause-same g c =
    let old = desk c.args.stripe.now c.args.keeper.now c.args.pass.now in
    let settled = desk c.settle.new.self c.args.keeper.now c.settle.new.pass in
    let marked = desk c.mark_block.new.stripe c.mark_block.new.keeper c.mark_block.new.pass in
    let first = desk-by-stripe g.D.Disk old settled c.settle.ensures.same refl in
    let new = desk c.write_seen.new.self c.mark_block.new.keeper c.write_seen.new.pass in
    desk-then g.D.Disk old marked new (desk-then g.D.Disk old settled marked first c.mark_block.ensures.same) (desk-by-stripe g.D.Disk marked new c.write_seen.ensures.same refl)

pub returns-in-Ok-clause-cause : goal.returns-in-Ok-clause-cause
returns-in-Ok-clause-cause g c =
    let old = desk c.args.stripe.now c.args.keeper.now c.args.pass.now in
    let marked = desk c.mark_block.new.stripe c.mark_block.new.keeper c.mark_block.new.pass in
    wrote-cause g.D.Disk old c.settle.new.self marked c.write_seen.new.self c.write_seen.new.pass c.in_default.ensures.cause c.mark_block.ensures.asked.stripe.disk c.in_default-mark_block.ensures.cause c.in-Ok.ensures.cause

pub returns-in-Err-write_seen-clause-fits : goal.returns-in-Err-write_seen-clause-fits
returns-in-Err-write_seen-clause-fits g c =
    let marked = desk c.mark_block.new.stripe c.mark_block.new.keeper c.mark_block.new.pass in
    wrote-fits g.D.Disk c.args.gate.now c.args.id c.args.block c.args.first (length c.args.bytes.now) (Err c.in-Err-write_seen.count) marked c.write_seen.new.self c.write_seen.new.pass _ (only c.args.id) c.in_default-mark_block.ensures.after c.write_seen.ensures.fits c.in-Err-write_seen.ensures.after c.write_seen.ensures.same c.in-Err-write_seen.ensures.drew

pub returns-in-Err-write_seen-clause-stands : goal.returns-in-Err-write_seen-clause-stands
returns-in-Err-write_seen-clause-stands g c =
    λ opening stands.
    let between = c.mark_block.ensures.stands opening (record { stripe = c.settle.ensures.stands opening stands.stripe; keeper = stands.keeper }) in
    record { stripe = c.write_seen.ensures.stands opening between.stripe; keeper = between.keeper }

pub returns-in-Err-write_seen-clause-went : goal.returns-in-Err-write_seen-clause-went
returns-in-Err-write_seen-clause-went g c =
    let settled = desk c.settle.new.self c.args.keeper.now c.settle.new.pass in
    let marked = desk c.mark_block.new.stripe c.mark_block.new.keeper c.mark_block.new.pass in
    inr (record {
      settled = settled;
      marked = marked;
      settling = record { did = c.in_default.ensures.did; keeper = refl };
      marking = c.in_default-mark_block.ensures.asked;
      writing = record { drew = c.in-Err-write_seen.ensures.drew; told = c.in-Err-write_seen.ensures.told; after = c.in-Err-write_seen.ensures.after; keeper = refl };
    })

pub returns-in-Err-write_seen-clause-drew : goal.returns-in-Err-write_seen-clause-drew
returns-in-Err-write_seen-clause-drew g c =
    let old = desk c.args.stripe.now c.args.keeper.now c.args.pass.now in
    let settled = desk c.settle.new.self c.args.keeper.now c.settle.new.pass in
    let is = ready g.D.Disk c.args.gate.now c.args.stripe.now.cut c.args.id c.args.block c.args.first (length c.args.bytes.now) old c.settle.new.self c.settle.new.pass c.requires.may c.settle.ensures.fits c.settle.ensures.rest c.settle.ensures.same c.in_default.ensures.did in
    let marked = desk c.mark_block.new.stripe c.mark_block.new.keeper c.mark_block.new.pass in
    let drew = wrote-drew c.args.id c.args.block c.args.first c.args.bytes.now (Err c.in-Err-write_seen.count) old settled marked c.write_seen.new.self c.write_seen.new.pass is.before c.requires.may.undrawn refl c.mark_block.ensures.asked.stripe.entries is.settling is.drew c.in_default-mark_block.ensures.drew c.in-Err-write_seen.ensures.drew in
    record { events = drew.events; are = inr drew.are; drew = drew.drew; trail = drew.trail }

pub returns-in-Err-write_seen-clause-same : goal.returns-in-Err-write_seen-clause-same
returns-in-Err-write_seen-clause-same g c =
    let old = desk c.args.stripe.now c.args.keeper.now c.args.pass.now in
    let settled = desk c.settle.new.self c.args.keeper.now c.settle.new.pass in
    let marked = desk c.mark_block.new.stripe c.mark_block.new.keeper c.mark_block.new.pass in
    let first = desk-by-stripe g.D.Disk old settled c.settle.ensures.same refl in
    let new = desk c.write_seen.new.self c.mark_block.new.keeper c.write_seen.new.pass in
    desk-then g.D.Disk old marked new (desk-then g.D.Disk old settled marked first c.mark_block.ensures.same) (desk-by-stripe g.D.Disk marked new c.write_seen.ensures.same refl)

pub returns-in-Err-write_seen-clause-cause : goal.returns-in-Err-write_seen-clause-cause
returns-in-Err-write_seen-clause-cause g c =
    let old = desk c.args.stripe.now c.args.keeper.now c.args.pass.now in
    let marked = desk c.mark_block.new.stripe c.mark_block.new.keeper c.mark_block.new.pass in
    cut-cause g.D.Disk c.in-Err-write_seen.count old c.settle.new.self marked c.write_seen.new.self c.write_seen.new.pass c.in_default.ensures.cause c.mark_block.ensures.asked.stripe.disk c.in_default-mark_block.ensures.cause c.in-Err-write_seen.ensures.cause
