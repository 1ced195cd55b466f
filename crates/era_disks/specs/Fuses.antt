-- Fuses of a bay: the write at which all of its disks stop.
use Rattle.std.specs.Prelude.{⊤, ◌≡◌, ℕ, max, true, false, ◌||◌, List, Option, Some, None}
use Rattle.era_disks.specs.Calls.{one_more}
use Rattle.era_disks.specs.declared.fuse.Fuse.{Fuse}
use Rattle.era_disks.specs.declared.fuse.FuseEnd.{FuseEnd}

-- A sector of a device is the fuse's.
pub record IsAtFuse (device : List ℕ) (sector : ℕ) (end : FuseEnd) : Type 0 where
  pub same_device : end.fuse.device ≡ device
  pub same_sector : end.fuse.sector ≡ sector

-- A write that begins now, from a sector of a device, is the one that burns.
pub record IsFuseWrite (device : List ℕ) (sector : ℕ) (end : FuseEnd) : Type 0 where
  pub here : IsAtFuse device sector end
  pub number : end.writes ≡ end.fuse.number

-- An end of a fuse at whose sector no write has begun.
pub record IsUnburnt (fuse : Fuse) (end : FuseEnd) : Type 0 where
  pub same : end.fuse ≡ fuse
  pub none : end.writes ≡ 0
  pub whole : end.burnt ≡ false

-- Two ends of one fuse know the same of it.
pub record KnowsAlike (one other : FuseEnd) : Type 0 where
  pub fuse : other.fuse ≡ one.fuse
  pub writes : other.writes ≡ one.writes
  pub burnt : other.burnt ≡ one.burnt

-- It is known at this end, if there is one, that the fuse has burnt.
abbrev pub IsBurnt : Option FuseEnd → Type 0
IsBurnt None = ⊥
IsBurnt (Some end) = end.burnt ≡ true

-- An end of a fuse later, where no write has begun: it may have become known that the fuse has burnt, and nothing else has changed.
pub record KeepsEnd (old new : FuseEnd) : Type 0 where
  pub fuse : new.fuse ≡ old.fuse
  pub writes : new.writes ≡ old.writes
  pub burnt : old.burnt ≡ true → new.burnt ≡ true

-- An end of a fuse after a write has begun from a sector of a device: it is counted at the fuse's sector alone, and the fuse's write has burnt it.
pub record PassesEnd (device : List ℕ) (sector : ℕ) (old new : FuseEnd) : Type 0 where
  pub fuse : new.fuse ≡ old.fuse
  pub here : IsAtFuse device sector old → new.writes ≡ one_more old.writes
  pub elsewhere : (IsAtFuse device sector old → ⊥) → new.writes ≡ old.writes
  pub burns : IsFuseWrite device sector old → new.burnt ≡ true
  pub burnt : old.burnt ≡ true → new.burnt ≡ true

-- An end that has learned what another one knows: the greater number of writes, and that the fuse has burnt.
pub record Learns (other old new : FuseEnd) : Type 0 where
  pub fuse : new.fuse ≡ old.fuse
  pub writes : new.writes ≡ max old.writes other.writes
  pub burnt : new.burnt ≡ (old.burnt || other.burnt)

-- No fuse in both, or the end of one and what has become of it.
abbrev pub Both : (FuseEnd → FuseEnd → Type 0) → Option FuseEnd → Option FuseEnd → Type 0
Both Relates None None = ⊤
Both Relates None (Some new) = ⊥
Both Relates (Some old) None = ⊥
Both Relates (Some old) (Some new) = Relates old new

-- No fuse in both, or the same one, of which the same is known.
abbrev pub SameFuse : Option FuseEnd → Option FuseEnd → Type 0
SameFuse one other = Both KnowsAlike one other

-- No fuse in both, or the same one, of which it may have become known that it has burnt.
abbrev pub KeepsFuse : Option FuseEnd → Option FuseEnd → Type 0
KeepsFuse old new = Both KeepsEnd old new

-- No fuse in both, or the same one after a write has begun from a sector of a device.
abbrev pub PassesFuse : List ℕ → ℕ → Option FuseEnd → Option FuseEnd → Type 0
PassesFuse device sector old new = Both (PassesEnd device sector) old new

-- What is known of a fuse once the end that a disk had, if there was one, is back: the fuse is the same, or there is none.
abbrev pub LearnsFuse : Option FuseEnd → Option FuseEnd → Option FuseEnd → Type 0
LearnsFuse None old new = new ≡ old
LearnsFuse (Some other) old new = Both (Learns other) old new
