use Rattle.std.proofs.Common.{[], ◌∷◌, refl, sym, ◌∙◌, subst, inl, inr}
use Rattle.std.proofs.lemmas.Bool.{false≢true}
use Rattle.era_layout.specs.Damage.{HeldPasses}
use Rattle.era_layout.specs.Root.{RootFields, fields_of}
use Rattle.era_meta.specs.Damage.{HeldSize, HasSize}
use Rattle.era_meta.proofs.RootFindings.{root-found, held-found, held-passes, held-says}
use Rattle.era_meta.proofs.roots_reading.decode_held.Goals as goal

-- the held root is of another geometry
pub returns-then-not-same_size-clause-found : goal.returns-then-not-same_size-clause-found
returns-then-not-same_size-clause-found c = λ seen is.
    let held = fields_of c.in-Ok.held in
    let ok = c.in-Ok.ensures.ok in
    let says = held-says c.root_is_read_back.ensures.fields seen c.args.body.now held is ok.0 ok.2 in (
      inr (
        held-passes seen c.args.body.now held is ok.0 ok.1 ok.2,
        inl (
          (λ same. false≢true (c.if-not-same_size.ensures.1
              (subst (λ (root : RootFields). HasSize root c.args.root.now.geometry.sectors c.args.root.now.geometry.block_sectors) says same))),
          refl,
        ),
      ),
      tt,
    )

-- it is of the same
pub returns-else-not-same_size-clause-found : goal.returns-else-not-same_size-clause-found
returns-else-not-same_size-clause-found c = λ seen is.
    let held = fields_of c.in-Ok.held in
    let ok = c.in-Ok.ensures.ok in
    let says = held-says c.root_is_read_back.ensures.fields seen c.args.body.now held is ok.0 ok.2 in
    let size : HasSize held c.args.root.now.geometry.sectors c.args.root.now.geometry.block_sectors = c.if-not-same_size.ensures.0 refl in (
      (
        held-passes seen c.args.body.now held is ok.0 ok.1 ok.2,
        (subst (λ (root : RootFields). HasSize root c.args.root.now.geometry.sectors c.args.root.now.geometry.block_sectors) (sym says) size, tt),
      ),
      sym is ∙ sym ok.2,
    )

pub returns-in-Err-clause-found : goal.returns-in-Err-clause-found
returns-in-Err-clause-found c = λ seen is. (
  held-found seen c.args.body.now (HeldSize c.args.root.now.geometry.sectors c.args.root.now.geometry.block_sectors ∷ []) c.root_finding.result is
      (root-found (HeldPasses c.args.body.now) c.in-Err.error 2 c.root_finding.result
      (λ differs. (c.in-Err.ensures.refused c.in-Err.error differs).0 refl) c.root_finding.ensures),
  tt,
)
