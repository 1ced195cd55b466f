-- How a checkpoint ends at the keeper: what was drawn, by the answer.
use Rattle.std.proofs.Common.{ℕ, ◌+◌, ◌≤◌, List, [], ◌∷◌, length, inl, inr, refl, arith}
use Rattle.era_base.specs.declared.disk.Disk.{Ghosts}
use Rattle.era_base.specs.declared.ids.CmdId.{CmdId}
use Rattle.era_gate.specs.Calls.{PassToken}
use Rattle.era_keeper.specs.Calls.{Drew}
use Rattle.era_keeper.specs.Results.{CheckpointDid}
use Rattle.era_keeper.specs.declared.keeper.Keeper.{Keeper}
use Rattle.era_model.specs.declared.event.Event.{Event}
use Rattle.era_model.specs.declared.event.Event.TheVariants.{Kept, Refused, Roll}
use Rattle.era_model.specs.declared.event.Kind.TheVariants.{Checkpoint as CheckpointKind}
use Rattle.era_model.specs.declared.event.Why.TheVariants.{End as EndWhy, MetaFault}
use Rattle.era_model.specs.declared.reply.Answer.{Answer}
use Rattle.era_model.specs.declared.reply.Answer.TheVariants.{Fine, Range, Fault, Found, EraIs, Kept as KeptAnswer, End, Snap, Held, NoSnap, Digest, Idle, Status, Blocks, Memory}
use Rattle.era_session.specs.Checkpoints.{AreCheckpointsEnd}

-- the keeper drew these events, one or two of them
pub record EndDrew {D : Type 0} (id : CmdId) (answer : Answer) (old new : Keeper D) (pass pass' : PassToken) : Type 0 where
  pub end : List Event
  pub ends : AreCheckpointsEnd id old.meta.marks.era answer end
  pub drew : Drew end old new pass pass'
  pub few : length end ≤ 2

pub end-drew : {D : Type 0} (disk : Ghosts D) (id : CmdId) (answer : Answer) (old new : Keeper D) (pass pass' : PassToken) → CheckpointDid disk id answer old new pass pass' → EndDrew id answer old new pass pass'
end-drew disk id End old new pass pass' did = record { end = Refused id CheckpointKind EndWhy ∷ []; ends = refl; drew = did.drew; few = omega arith }
end-drew disk id (KeptAnswer inside) old new pass pass' did = record { end = Kept id inside ∷ []; ends = refl; drew = did.drew; few = omega arith }
end-drew disk id (EraIs era) old new pass pass' did = record { end = Roll id era ∷ []; ends = refl; drew = did.drew; few = omega arith }
end-drew disk id (Fault device count) old new pass pass' did = elim did.1 [
  | inl first ↦ record {
    end = Refused id CheckpointKind (MetaFault count) ∷ [];
    ends = inl refl;
    drew = first.drew;
    few = omega arith;
  }
  | inr failed ↦ record {
    end = Roll id (old.meta.marks.era + 1) ∷ Refused id CheckpointKind (MetaFault count) ∷ [];
    ends = inr refl;
    drew = failed.drew;
    few = omega arith;
  }
]
end-drew disk id Fine old new pass pass' did = absurd did
end-drew disk id Range old new pass pass' did = absurd did
end-drew disk id (Found bytes) old new pass pass' did = absurd did
end-drew disk id (Snap block) old new pass pass' did = absurd did
end-drew disk id (Held block) old new pass pass' did = absurd did
end-drew disk id NoSnap old new pass pass' did = absurd did
end-drew disk id (Digest era page) old new pass pass' did = absurd did
end-drew disk id Idle old new pass pass' did = absurd did
end-drew disk id (Status used total era held) old new pass pass' did = absurd did
end-drew disk id (Blocks runs) old new pass pass' did = absurd did
end-drew disk id Memory old new pass pass' did = absurd did
