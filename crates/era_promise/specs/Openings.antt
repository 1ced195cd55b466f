-- What the opening of a session may leave of a metadata disk, and what a session opens on.
use Rattle.std.specs.Prelude.{◌≡◌, ◌⊎◌, ℕ, ◌+◌, ◌*◌, ◌<◌, List, length, Option, Some, None}
use Rattle.era_base.specs.declared.geometry.Geometry.{Geometry}
use Rattle.era_base.specs.declared.limits.TheConstants.{LAST_ERA}
use Rattle.era_model.specs.declared.opening.Opening.{Opening}
use Rattle.era_model.specs.Marks.{BlockMarks, no_marks, rolled}
use Rattle.era_model.specs.Promises.{KeepsLastEras}

-- An image stands for one meaning at most, and a blank one for none.
pub record HasOneMeaning (StandsFor : List ℕ → BlockMarks → Option BlockMarks → Type 0) (IsBlank : List ℕ → Type 0) : Type 0 where
  pub marks : (image : List ℕ) (m other : BlockMarks) (held found : Option BlockMarks) → StandsFor image m held → StandsFor image other found → m ≡ other
  pub held : (image : List ℕ) (m other : BlockMarks) (held found : Option BlockMarks) → StandsFor image m held → StandsFor image other found → held ≡ found
  pub blank : (image : List ℕ) (m : BlockMarks) (held : Option BlockMarks) → IsBlank image → ¬ StandsFor image m held

-- Marks and a snapshot are those of before, or those after one era switch, however they are stored: each block has its last marked era of before.
pub record IsBeforeOrNextOf (before : BlockMarks) (held : Option BlockMarks) (m : BlockMarks) (found : Option BlockMarks) : Type 0 where
  pub keeps : KeepsLastEras before m
  pub snapshot : found ≡ held
  pub era : (m.era ≡ before.era) ⊎ ((before.era < LAST_ERA) × (m.era ≡ before.era + 1))

-- The marks of a disk that was formatted: of no block, in era 1.
abbrev pub formatted : Geometry → BlockMarks
formatted g = no_marks g.sectors g.block_sectors 1

-- An image of a metadata disk that a session has read so, while it opens on it: that of a disk with marks stands for those of before or next; that of a blank disk is blank or formatted; any other disk isn't written.
pub record IsImageOfOpening (StandsFor : List ℕ → BlockMarks → Option BlockMarks → Type 0) (IsBlank : List ℕ → Type 0) (g : Geometry) (seen image : List ℕ) : Type 0 where
  pub marks : (before : BlockMarks) (held : Option BlockMarks) → StandsFor seen before held
      → (m : BlockMarks) × (found : Option BlockMarks) × StandsFor image m found × IsBeforeOrNextOf before held m found
  pub blank : IsBlank seen → IsBlank image ⊎ StandsFor image (formatted g) None
  pub other : ((before : BlockMarks) (held : Option BlockMarks) → ¬ StandsFor seen before held) → ¬ IsBlank seen → image ≡ seen

-- The opening of a session over marks, a snapshot, and contents of the origin.
abbrev pub opening_of : Geometry → BlockMarks → Option BlockMarks → ℕ → ℕ → List ℕ → Opening
opening_of g marks held total stripes bytes = record {
  geometry = g;
  era = marks.era;
  marks = marks;
  held = held;
  total = total;
  stripes = stripes;
  contents = record { bytes = Some bytes };
}

-- A session opened on a metadata disk that read so, and on contents: over the marks after one era switch and the snapshot, or over a formatted disk. The era that ended wasn't the last one.
pub record IsOpenedOn (StandsFor : List ℕ → BlockMarks → Option BlockMarks → Type 0) (IsBlank : List ℕ → Type 0) (g : Geometry) (seen bytes : List ℕ) (total stripes : ℕ) (opening : Opening) : Type 0 where
  pub size : length bytes ≡ g.sectors * 512
  pub some : ((before : BlockMarks) × (held : Option BlockMarks) × StandsFor seen before held) ⊎ IsBlank seen
  pub marks : (before : BlockMarks) (held : Option BlockMarks) → StandsFor seen before held
      → (before.era < LAST_ERA) × (opening ≡ opening_of g (rolled before) held total stripes bytes)
  pub blank : IsBlank seen → opening ≡ opening_of g (formatted g) None total stripes bytes
