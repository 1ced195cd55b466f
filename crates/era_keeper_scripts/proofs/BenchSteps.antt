-- A bench from call to call.
use Rattle.std.proofs.Common.{◌≡◌, ℕ, ◌+◌, ◌≤◌, Bool, true, false, arith, ap, ◌∙◌, inl, inr}
use Rattle.std.specs.Prelude.{Result, Ok, Err}
use Rattle.era_base.specs.declared.disk.Disk.{Ghosts}
use Rattle.era_base.specs.declared.ids.CmdId.{CmdId}
use Rattle.era_gate.specs.Calls.{GateToken, KeeperToken, PassToken}
use Rattle.era_gate.specs.Passes.{KeepsPass, no_write}
use Rattle.era_meta.specs.declared.metadata.Meta.{Meta}
use Rattle.era_model.specs.declared.reply.Answer.{Answer}
use Rattle.era_model.specs.declared.reply.Answer.TheVariants.{Blocks, Digest, End, EraIs, Fault, Fine, Held, Idle, Kept, Memory, NoSnap, Snap, Status}
use Rattle.era_keeper.specs.declared.keeper.Keeper.{Keeper}
use Rattle.era_keeper.specs.Answers.{ListDid, StatusDid}
use Rattle.era_keeper.specs.Calls.{SameKeeper}
use Rattle.era_keeper.specs.Keepers.{KeeperFits}
use Rattle.era_keeper.specs.Results.{CheckpointDid, DigestDid, MarkDid}
use Rattle.era_keeper.specs.SnapshotResults.{SnapDid, UnsnapDid}
use Rattle.era_keeper_scripts.specs.Benches.{IsBench}

-- a call draws two events at most
pub record Keeps (old new : PassToken) : Type 0 where
  pub drawn : ℕ
  pub few : drawn ≤ 2
  pub keeps : KeepsPass drawn no_write old new

-- a room is admitted
pub bench-admitted : {D : Type 0} (disk : Ghosts D) (drawn : ℕ) (gate : GateToken) (old new : Keeper D) (pass : PassToken) → IsBench disk drawn gate old pass → new.meta ≡ old.meta → new.seat ≡ old.seat
    → KeeperFits disk new → IsBench disk drawn gate new pass
bench-admitted {D} disk drawn gate old new pass bench meta seat fits = record {
  table = ap (λ (s : KeeperToken). s.table) seat ∙ bench.table;
  pass_table = bench.pass_table;
  covers = bench.covers;
  blocks = record { sectors = ap (λ (m : Meta D). m.marks.sectors) meta ∙ bench.blocks.sectors; size = ap (λ (m : Meta D). m.marks.block_sectors) meta ∙ bench.blocks.size };
  fits = fits;
  lane = bench.lane;
  budget = bench.budget;
}

-- a call
pub bench-next : {D : Type 0} (disk : Ghosts D) (drawn : ℕ) (gate : GateToken) (old new : Keeper D) (pass pass' : PassToken) → IsBench disk drawn gate old pass → SameKeeper disk old new → KeeperFits disk new
    → Keeps pass pass' → IsBench disk (drawn + 2) gate new pass'
bench-next disk drawn gate old new pass pass' bench same fits keeps = record {
  table = same.table ∙ bench.table;
  pass_table = keeps.keeps.table ∙ bench.pass_table;
  covers = bench.covers;
  blocks = record { sectors = same.sectors ∙ bench.blocks.sectors; size = same.block_sectors ∙ bench.blocks.size };
  fits = fits;
  lane = keeps.keeps.lanes 0 ∙ bench.lane;
  budget = omega (arith, keeps.few, keeps.keeps.budget, bench.budget);
}

none-drawn : (old new : PassToken) → KeepsPass 0 no_write old new → Keeps old new
none-drawn old new keeps = record { drawn = 0; few = omega arith; keeps = keeps }

one-drawn : (old new : PassToken) → KeepsPass 1 no_write old new → Keeps old new
one-drawn old new keeps = record { drawn = 1; few = omega arith; keeps = keeps }

two-drawn : (old new : PassToken) → KeepsPass 2 no_write old new → Keeps old new
two-drawn old new keeps = record { drawn = 2; few = omega arith; keeps = keeps }

-- what each call drew
pub mark-keeps : {D : Type 0} (disk : Ghosts D) (marked : Bool) (id : CmdId) (block : ℕ) (result : Result Unit ℕ) (old new : Keeper D) (pass pass' : PassToken) → MarkDid disk marked id block result old new pass pass'
    → Keeps pass pass'
mark-keeps disk true id block (Ok value) old new pass pass' did = none-drawn pass pass' did.1.keeps
mark-keeps disk true id block (Err count) old new pass pass' did = absurd did
mark-keeps disk false id block (Ok value) old new pass pass' did = two-drawn pass pass' did.drew.keeps
mark-keeps disk false id block (Err count) old new pass pass' did = elim did [
  | inl first ↦ one-drawn pass pass' first.drew.keeps
  | inr failed ↦ two-drawn pass pass' failed.drew.keeps
]

pub checkpoint-keeps : {D : Type 0} (disk : Ghosts D) (id : CmdId) (answer : Answer) (old new : Keeper D) (pass pass' : PassToken) → CheckpointDid disk id answer old new pass pass' → Keeps pass pass'
checkpoint-keeps disk id End old new pass pass' did = one-drawn pass pass' did.drew.keeps
checkpoint-keeps disk id (Kept inside) old new pass pass' did = one-drawn pass pass' did.drew.keeps
checkpoint-keeps disk id (EraIs era) old new pass pass' did = one-drawn pass pass' did.drew.keeps
checkpoint-keeps disk id (Fault device count) old new pass pass' did = elim did.1 [
  | inl first ↦ one-drawn pass pass' first.drew.keeps
  | inr failed ↦ two-drawn pass pass' failed.drew.keeps
]
checkpoint-keeps disk id answer old new pass pass' did = absurd did

pub snap-keeps : {D : Type 0} (disk : Ghosts D) (id : CmdId) (answer : Answer) (old new : Keeper D) (pass pass' : PassToken) → SnapDid disk id answer old new pass pass' → Keeps pass pass'
snap-keeps disk id (Held block) old new pass pass' did = one-drawn pass pass' did.drew.keeps
snap-keeps disk id (Snap block) old new pass pass' did = one-drawn pass pass' did.drew.keeps
snap-keeps disk id (Fault device count) old new pass pass' did = elim did.1 [
  | inl first ↦ one-drawn pass pass' first.drew.keeps
  | inr failed ↦ one-drawn pass pass' failed.drew.keeps
]
snap-keeps disk id answer old new pass pass' did = absurd did

pub unsnap-keeps : {D : Type 0} (disk : Ghosts D) (id : CmdId) (answer : Answer) (old new : Keeper D) (pass pass' : PassToken) → UnsnapDid disk id answer old new pass pass' → Keeps pass pass'
unsnap-keeps disk id NoSnap old new pass pass' did = one-drawn pass pass' did.drew.keeps
unsnap-keeps disk id Fine old new pass pass' did = one-drawn pass pass' did.drew.keeps
unsnap-keeps disk id (Fault device count) old new pass pass' did = elim did.1 [
  | inl first ↦ one-drawn pass pass' first.drew.keeps
  | inr failed ↦ one-drawn pass pass' failed.drew.keeps
]
unsnap-keeps disk id answer old new pass pass' did = absurd did

pub digest-keeps : {D : Type 0} (disk : Ghosts D) (id : CmdId) (answer : Answer) (old new : Keeper D) (pass pass' : PassToken) → DigestDid disk id answer old new pass pass' → Keeps pass pass'
digest-keeps disk id (Digest era page) old new pass pass' did = one-drawn pass pass' did.drew.keeps
digest-keeps disk id Idle old new pass pass' did = one-drawn pass pass' did.drew.keeps
digest-keeps disk id (Fault device count) old new pass pass' did = elim did.1 [
  | inl first ↦ one-drawn pass pass' first.drew.keeps
  | inr failed ↦ one-drawn pass pass' failed.drew.keeps
]
digest-keeps disk id answer old new pass pass' did = absurd did

pub status-keeps : {D : Type 0} (disk : Ghosts D) (id : CmdId) (answer : Answer) (old new : Keeper D) (pass pass' : PassToken) → StatusDid disk id answer old new pass pass' → Keeps pass pass'
status-keeps disk id (Status used total era held) old new pass pass' did = one-drawn pass pass' did.drew.keeps
status-keeps disk id (Fault device count) old new pass pass' did = one-drawn pass pass' did.drew.keeps
status-keeps disk id answer old new pass pass' did = absurd did

pub list-keeps : {D : Type 0} (disk : Ghosts D) (id : CmdId) (since : ℕ) (snap : Bool) (answer : Answer) (old new : Keeper D) (pass pass' : PassToken) → ListDid disk id since snap answer old new pass pass' → Keeps pass pass'
list-keeps disk id since snap (Blocks runs) old new pass pass' did = one-drawn pass pass' did.1.drew.keeps
list-keeps disk id since snap NoSnap old new pass pass' did = one-drawn pass pass' did.drew.keeps
list-keeps disk id since snap Memory old new pass pass' did = one-drawn pass pass' did.1.drew.keeps
list-keeps disk id since snap (Fault device count) old new pass pass' did = one-drawn pass pass' did.1.drew.keeps
list-keeps disk id since snap answer old new pass pass' did = absurd did
