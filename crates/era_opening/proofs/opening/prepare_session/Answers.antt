use Rattle.std.proofs.Common.{◌∷◌, refl, sym, subst}
use Rattle.era_opening.specs.Openings.{IsUnprepared}
use Rattle.era_opening.proofs.BackForLent.{later-back}
use Rattle.era_opening.proofs.LeftSafe.{was-safe}
use Rattle.era_tools.specs.declared.refusal.Refusal.{Refusal}
use Rattle.era_opening.proofs.opening.prepare_session.Goals as goal

-- the devices may go back
pub put_back_lent-requires-clause-may : goal.put_back_lent-requires-clause-may
put_back_lent-requires-clause-may g c κs within =
    let disk = g.B.D.Disk in
    let refused = c.in-Err.refused in
    let said = was-safe disk c.args.geometry c.args.metadata c.args.parts.items refused.error refused c.in-Err.ensures.refused c.in-Err.ensures.safely in
    later-back disk (c.args.metadata ∷ c.args.parts.items) (refused.metadata ∷ refused.parts.items) (g.B.Bay.loans c.args.bay.now) c.requires.may said.safe.lie

-- a session is ready
pub returns-in-Ok-clause-prepared : goal.returns-in-Ok-clause-prepared
returns-in-Ok-clause-prepared g c =
    let is = c.in-Ok.ensures in (
      record { prepared = is.prepared; safely = is.safely; fits = is.fits; stands = is.stands },
      record { loans = refl; reads = λ device sector. refl },
      refl,
    )

-- or all went back
pub returns-in-Err-clause-prepared : goal.returns-in-Err-clause-prepared
returns-in-Err-clause-prepared g c =
    let disk = g.B.D.Disk in
    let refused = c.in-Err.refused in
    let said = was-safe disk c.args.geometry c.args.metadata c.args.parts.items refused.error refused c.in-Err.ensures.refused c.in-Err.ensures.safely in (
      refused.metadata,
      refused.parts.items,
      subst (λ (refusal : Refusal). IsUnprepared disk c.args.geometry c.args.metadata c.args.parts.items refused.metadata refused.parts.items refusal) (sym c.refusal_of.ensures) said,
      c.put_back_lent.ensures.back,
    )
