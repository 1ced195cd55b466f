use Rattle.std.proofs.Common.{◌≡◌, ◌+◌, ℕ, [], ◌∷◌, refl, ap, ◌∙◌, subst}
use Rattle.era_gate.specs.Calls.{KeeperToken, PassToken}
use Rattle.era_model.specs.declared.event.Event.{Event}
use Rattle.era_model.specs.declared.event.Event.TheVariants.{Kept, Refused, Roll}
use Rattle.era_model.specs.declared.event.Kind.TheVariants.{Checkpoint as CheckpointKind}
use Rattle.era_model.specs.declared.event.Why.TheVariants.{MetaFault}
use Rattle.era_keeper.specs.declared.keeper.Keeper.{Keeper}
use Rattle.era_keeper.specs.Calls.{Drew}
use Rattle.era_keeper.proofs.Drawn.{drew-from, drew-one}
use Rattle.era_keeper.proofs.keeper.Keeper.checkpoint_stored.Goals as goal

pub returns-in-Ok-clause-went : goal.returns-in-Ok-clause-went
returns-in-Ok-clause-went g c =
    let old = c.args.self.now in
    let mid : Keeper g.row.D.Denot = record { meta = old.meta; seat = c.roll.new.seat; entries = old.entries; notes = old.notes } in
    let next : c.in-Moved.era ≡ old.meta.marks.era + 1
    = c.in-Moved.ensures.answer ∙ ap (λ (s : KeeperToken). s.part.state.era + 1) c.clear_spare.ensures.seat ∙ ap (λ (n : ℕ). n + 1) c.requires.may.fits.era in (
      next,
      (
        c.in-Ok.ensures.went.0,
        subst (λ (era : ℕ). Drew (Roll c.args.id era ∷ []) old c.switch.new.self c.args.pass.now c.switch.new.pass) next
            (drew-from old mid c.switch.new.self c.args.pass.now c.switch.new.pass (Roll c.args.id c.in-Moved.era ∷ []) refl
            (subst (λ (p : PassToken). Drew (Roll c.args.id c.in-Moved.era ∷ []) mid c.switch.new.self p c.switch.new.pass) c.in-Moved.ensures.pass c.in-Ok.ensures.went.1)),
      ),
    )

pub returns-in-Err-clause-went : goal.returns-in-Err-clause-went
returns-in-Err-clause-went g c =
    let old = c.args.self.now in
    let mid : Keeper g.row.D.Denot = record { meta = old.meta; seat = c.roll.new.seat; entries = old.entries; notes = old.notes } in
    let next : c.in-Moved.era ≡ old.meta.marks.era + 1
    = c.in-Moved.ensures.answer ∙ ap (λ (s : KeeperToken). s.part.state.era + 1) c.clear_spare.ensures.seat ∙ ap (λ (n : ℕ). n + 1) c.requires.may.fits.era in
    let refused : Event = Refused c.args.id CheckpointKind (MetaFault c.in-Err.count) in (
      c.in-Err.ensures.went.0,
      c.in-Err.ensures.went.1,
      subst (λ (era : ℕ). Drew (Roll c.args.id era ∷ refused ∷ []) old c.switch.new.self c.args.pass.now c.switch.new.pass) next
          (drew-from old mid c.switch.new.self c.args.pass.now c.switch.new.pass (Roll c.args.id c.in-Moved.era ∷ refused ∷ []) refl
          (subst (λ (p : PassToken). Drew (Roll c.args.id c.in-Moved.era ∷ refused ∷ []) mid c.switch.new.self p c.switch.new.pass) c.in-Moved.ensures.pass c.in-Err.ensures.went.2)),
    )

pub returns-in-Kept-clause-went : goal.returns-in-Kept-clause-went
returns-in-Kept-clause-went g c =
    let old = c.args.self.now in
    let mid : Keeper g.row.D.Denot = record { meta = old.meta; seat = c.roll.new.seat; entries = old.entries; notes = old.notes } in
    let kept : Event = Kept c.args.id c.in-Kept.inside in (
      c.tell.ensures.same.meta,
      drew-from old mid c.tell.new.self c.args.pass.now c.tell.new.pass (kept ∷ []) refl
          (subst (λ (p : PassToken). Drew (kept ∷ []) mid c.tell.new.self p c.tell.new.pass) c.in-Kept.ensures.pass
          (drew-one mid c.tell.new.self c.roll.new.pass c.tell.new.pass kept c.tell.ensures.drew.0 c.tell.ensures.drew.1)),
    )
