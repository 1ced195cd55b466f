-- The metadata stands through the taking and the dropping of a snapshot.
use Rattle.std.proofs.Common.{◌≡◌, ℕ, ◌*◌, ◌≤◌, Bool, false, sym, ap, ◌∙◌, subst}
use Rattle.era_base.specs.CrashModel.{State}
use Rattle.era_base.specs.Geometry.{need_of}
use Rattle.era_base.specs.declared.disk.Disk.{Ghosts}
use Rattle.era_layout.specs.Root.{fields_of}
use Rattle.era_model.specs.Marks.{BlockMarks}
use Rattle.era_slots.specs.declared.slots.Slots.{Slots}
use Rattle.era_meta.specs.declared.metadata.Meta.{Meta}
use Rattle.era_meta.specs.Content.{blocks_of_root}
use Rattle.era_meta.specs.Held.{snapshot_marks}
use Rattle.era_meta.specs.HeldCalls.{with_snapshot}
use Rattle.era_meta.specs.InMemory.{meaning_in, FitTogether, IsAheadOf, MetaStands}
use Rattle.era_meta.specs.Meaning.{Meaning}
use Rattle.era_meta.specs.SnapshotCalls.{HasHeld, StillHolds}
use Rattle.era_meta.proofs.HeldPut.{flag-valid}

-- a snapshot that is dropped is room for the next one
pub dropped-fit : {D : Type 0} (disk : Ghosts D) (old : Meta D) (slots : Slots D) → disk.sectors slots.disk ≡ disk.sectors old.slots.disk → FitTogether disk old
    → FitTogether disk (record old { slots = slots; root = record old.root { held = false }; snapshot = record old.snapshot { is_held = false } })
dropped-fit disk old slots size fit = record {
  valid = flag-valid (fields_of old.root) false fit.valid;
  sectors = fit.sectors;
  block_sectors = fit.block_sectors;
  lists = fit.lists;
  total = fit.total;
  snapshot = record { lists = fit.snapshot.lists; count = fit.snapshot.count; sectors = fit.snapshot.sectors; block_sectors = fit.snapshot.block_sectors };
  room = subst (λ (n : ℕ). need_of (blocks_of_root (fields_of old.root)) * 8 ≤ n) (sym size) fit.room;
}

-- where nothing was stored the parts are as before
pub same-fit : {D : Type 0} (disk : Ghosts D) (old : Meta D) (slots : Slots D) → disk.sectors slots.disk ≡ disk.sectors old.slots.disk → FitTogether disk old
    → FitTogether disk (record old { slots = slots })
same-fit disk old slots size fit = record {
  valid = fit.valid;
  sectors = fit.sectors;
  block_sectors = fit.block_sectors;
  lists = fit.lists;
  total = fit.total;
  snapshot = fit.snapshot;
  room = subst (λ (n : ℕ). need_of (blocks_of_root (fields_of old.root)) * 8 ≤ n) (sym size) fit.room;
}

-- the metadata stands with the new snapshot
pub held-stands : {D : Type 0} (old new : Meta D) (taken : Bool) (before now : State) → HasHeld old taken new before now
    → new.marks ≡ old.marks → new.unstored ≡ old.unstored → IsAheadOf old.unstored old.marks (meaning_in before old).marks
    → (with_snapshot taken (meaning_in before old)).held ≡ snapshot_marks new.snapshot → MetaStands new now
held-stands old new taken before now stored same flag ahead snapshot = record {
  keeps = stored.keeps;
  says = subst (λ (unstored : Bool). IsAheadOf unstored new.marks (meaning_in now new).marks) (sym flag)
      (subst (λ (m : BlockMarks). IsAheadOf old.unstored m (meaning_in now new).marks) (sym same)
      (subst (λ (m : BlockMarks). IsAheadOf old.unstored old.marks m) (sym (ap (λ (meaning : Meaning). meaning.marks) stored.says)) ahead));
  held = ap (λ (meaning : Meaning). meaning.held) stored.says ∙ snapshot;
}

-- and with the old one
pub still-holds : {D : Type 0} (old new : Meta D) (taken : Bool) (before now : State) → StillHolds old taken new before now → new.marks ≡ old.marks
    → new.unstored ≡ old.unstored → new.snapshot ≡ old.snapshot → MetaStands old before → MetaStands new now
still-holds old new taken before now still same flag snapshot stands = record {
  keeps = still.keeps;
  says = subst (λ (unstored : Bool). IsAheadOf unstored new.marks (meaning_in now new).marks) (sym flag)
      (subst (λ (m : BlockMarks). IsAheadOf old.unstored m (meaning_in now new).marks) (sym same)
      (subst (λ (m : BlockMarks). IsAheadOf old.unstored old.marks m) (sym (ap (λ (meaning : Meaning). meaning.marks) still.says)) stands.says));
  held = ap (λ (meaning : Meaning). meaning.held) still.says ∙ stands.held ∙ ap snapshot_marks (sym snapshot);
}
