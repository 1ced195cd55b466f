-- What a command did behind its beginning is what it did.
use Rattle.std.proofs.Common.{ℕ, ◌+◌, ◌<◌, true, false, List, [], ◌∷◌, sym, ap, ◌∙◌, subst, inr}
use Rattle.std.specs.Prelude.{Result, Ok, Err}
use Rattle.era_base.specs.declared.disk.Disk.{Ghosts}
use Rattle.era_base.specs.declared.ids.CmdId.{CmdId}
use Rattle.era_gate.specs.Calls.{GateToken, KeeperToken, PassToken}
use Rattle.era_base.specs.declared.limits.TheConstants.{LAST_ERA}
use Rattle.era_meta.specs.MetaCalls.{FailsToCommitMarks, IsInMemory}
use Rattle.era_model.specs.declared.reply.Answer.{Answer}
use Rattle.era_model.specs.declared.reply.Answer.TheVariants.{EraIs, Fault, Kept as KeptAnswer}
use Rattle.era_meta.specs.Digested.{HasMarks, StillHasMarks}
use Rattle.era_model.specs.declared.event.Event.{Event}
use Rattle.era_model.specs.declared.event.Event.TheVariants.{Kept, Mark, Refused, Roll, Tried}
use Rattle.era_model.specs.declared.event.Kind.TheVariants.{Checkpoint as CheckpointKind, Write as WriteKind}
use Rattle.era_model.specs.declared.event.Why.TheVariants.{MetaFault}
use Rattle.era_model.specs.Marks.{BlockMarks, rolled, with_block}
use Rattle.era_keeper.specs.declared.keeper.Keeper.{Keeper}
use Rattle.era_keeper.specs.Calls.{Drew, MayCall, MayDraw}
use Rattle.era_keeper.specs.Results.{CheckpointDid, CheckpointWent, MarkDid, MarkWent}
use Rattle.era_keeper.specs.Storing.{HasBegun, HasStoredEra}
use Rattle.era_keeper.proofs.Drawn.{drew-from}

-- the command may go on
pub may-begun : {D : Type 0} (disk : Ghosts D) (gate : GateToken) (old new : Keeper D) (pass pass' : PassToken) (id : CmdId) (draws : ℕ) → HasBegun disk old new pass pass'
    → MayCall disk gate old pass id draws → MayDraw disk 1 gate new pass' id draws
may-begun disk gate old new pass pass' id draws begun may =
    subst (λ (p : PassToken). MayDraw disk 1 gate new p id draws) (sym begun.undrawn)
    (record {
      fits = begun.fits;
      table = ap (λ (s : KeeperToken). s.table) begun.memory.seat ∙ may.table;
      pass_table = may.pass_table;
      lane = may.lane;
      budget = may.budget;
      room = rw begun.memory.entries may.room;
    })

-- what was drawn
pub drew-begun : {D : Type 0} (disk : Ghosts D) (old mid new : Keeper D) (pass between pass' : PassToken) (events : List Event) → HasBegun disk old mid pass between → Drew events mid new between pass'
    → Drew events old new pass pass'
drew-begun disk old mid new pass between pass' events begun drew =
    drew-from old mid new pass pass' events begun.memory.entries (subst (λ (p : PassToken). Drew events mid new p pass') begun.undrawn drew)

-- the marking
pub mark-did : {D : Type 0} (disk : Ghosts D) (id : CmdId) (block : ℕ) (result : Result Unit ℕ) (old mid new : Keeper D) (pass between pass' : PassToken) → HasBegun disk old mid pass between
    → MarkWent disk id block result mid new between pass' → MarkDid disk false id block result old new pass pass'
mark-did disk id block (Ok value) old mid new pass between pass' begun went = record {
  between = mid.meta;
  first = begun.stored;
  stored = subst (λ (m : BlockMarks). HasMarks disk mid.meta (with_block m block) new.meta) begun.memory.marks went.0;
  drew = subst (λ (m : BlockMarks). Drew (Tried id block m.era ∷ Mark id block m.era ∷ []) old new pass pass') begun.memory.marks (drew-begun disk old mid new pass between pass' _ begun went.1);
}
mark-did disk id block (Err count) old mid new pass between pass' begun went = inr (record {
  between = mid.meta;
  first = begun.stored;
  failed = subst (λ (m : BlockMarks). StillHasMarks disk mid.meta (with_block m block) new.meta) begun.memory.marks went.0;
  drew = subst (λ (m : BlockMarks). Drew (Tried id block m.era ∷ Refused id WriteKind (MetaFault count) ∷ []) old new pass pass') begun.memory.marks
      (drew-begun disk old mid new pass between pass' _ begun went.1);
})

-- the checkpoint
pub checkpoint-did : {D : Type 0} (disk : Ghosts D) (id : CmdId) (answer : Answer) (old mid new : Keeper D) (pass between pass' : PassToken) → HasBegun disk old mid pass between → old.meta.marks.era < LAST_ERA
    → CheckpointWent disk id answer mid new between pass' → CheckpointDid disk id answer old new pass pass'
checkpoint-did disk id (KeptAnswer inside) old mid new pass between pass' begun below went = record {
  below = below;
  first = subst (HasStoredEra disk old.meta) (sym went.0) begun.stored;
  drew = drew-begun disk old mid new pass between pass' (Kept id inside ∷ []) begun went.1;
}
checkpoint-did disk id (EraIs era) old mid new pass between pass' begun below went = record {
  next = went.0 ∙ ap (λ (m : BlockMarks). m.era + 1) begun.memory.marks;
  between = mid.meta;
  first = begun.stored;
  stored = subst (λ (m : BlockMarks). HasMarks disk mid.meta (rolled m) new.meta) begun.memory.marks went.1.0;
  drew = drew-begun disk old mid new pass between pass' (Roll id era ∷ []) begun (subst (λ (n : ℕ). Drew (Roll id n ∷ []) mid new between pass') (sym went.0) went.1.1);
}
checkpoint-did disk id (Fault device count) old mid new pass between pass' begun below went = (
  below,
  inr (record {
    between = mid.meta;
    first = begun.stored;
    failed = subst (λ (m : BlockMarks). FailsToCommitMarks disk mid.meta (rolled m) new.meta) begun.memory.marks went.0;
    memory = subst (λ (m : BlockMarks). IsInMemory new.meta (rolled m) true) begun.memory.marks went.1;
    drew = subst (λ (m : BlockMarks). Drew (Roll id (m.era + 1) ∷ Refused id CheckpointKind (MetaFault count) ∷ []) old new pass pass') begun.memory.marks
        (drew-begun disk old mid new pass between pass' (Roll id (mid.meta.marks.era + 1) ∷ Refused id CheckpointKind (MetaFault count) ∷ []) begun went.2);
  }),
)
checkpoint-did disk id answer old mid new pass between pass' begun below went = absurd went
