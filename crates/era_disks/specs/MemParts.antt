-- Parts of the sectors of a device in memory, as they are lent and put back.
use Rattle.std.specs.Prelude.{◌≡◌, ℕ, length, take, drop}
use borrow.Rule.Slice.PartMut.{put_mid}
use Rattle.era_disks.specs.declared.mem_state.MemState.{MemState}

-- A part has so many sectors of the whole from a sector on, and knows of each what the whole does: whether it is pending, and what was kept of it.
pub record IsPartOf (first count : ℕ) (whole part : MemState) : Type 0 where
  pub rows : part.rows.items ≡ take count (drop first whole.rows.items)
  pub pending : part.pending.items ≡ take count (drop first whole.pending.items)
  pub kept : part.kept.items ≡ take count (drop first whole.kept.items)

-- The whole has the sectors of a part from a sector on, and knows of each what the part does; of the other sectors it has and knows what it did.
pub record TakesPart (first : ℕ) (part before after : MemState) : Type 0 where
  pub rows : after.rows.items ≡ put_mid first (length part.rows.items) before.rows.items part.rows.items
  pub pending : after.pending.items ≡ put_mid first (length part.rows.items) before.pending.items part.pending.items
  pub kept : after.kept.items ≡ put_mid first (length part.rows.items) before.kept.items part.kept.items
