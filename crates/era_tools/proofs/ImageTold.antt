-- What a look gives is what the image stands for.
use Rattle.std.proofs.Common.{◌≡◌, ℕ, List, Bool, true, false, ap₂, sym, subst}
use Rattle.std.specs.Prelude.{Option, None, if◌then◌else◌}
use Rattle.era_base.specs.declared.disk.Disk.{Ghosts}
use Rattle.era_model.specs.Marks.{BlockMarks, rolled}
use Rattle.era_meta.specs.declared.metadata.Meta.{Meta}
use Rattle.era_meta.specs.Held.{snapshot_marks}
use Rattle.era_meta.specs.InMemory.{meaning_in}
use Rattle.era_meta.specs.Meaning.{Meaning, IsImageOf}
use Rattle.era_meta.specs.Openings.{IsLooked}
use Rattle.era_tools.specs.Around.{BayAround}
use Rattle.era_tools.specs.ClosedImages.{HasOpened, TellsOfImage}
use Rattle.era_tools.proofs.PutBack.{Between, PutsBack, has-tried, lending}

-- What the metadata says in memory.
abbrev pub meaning_of_meta : {D : Type 0} → Meta D → Meaning
meaning_of_meta meta = record { marks = meta.marks; held = snapshot_marks meta.snapshot }

-- what is stored and nothing ahead of it
stored-marks : (unstored : Bool) (marks stored : BlockMarks) → marks ≡ (if unstored then rolled stored else stored) → unstored ≡ false → marks ≡ stored
stored-marks true marks stored is none = absurd cc
stored-marks false marks stored is none = is

module _ (D : Type 0) (disk : Ghosts D) (lent : D) (meta : Meta D) where
  pub image-of : IsLooked disk lent meta → disk.tells ≡ true → IsImageOf (meaning_of_meta meta) (disk.history lent).now.seen
  image-of looked tells =
      let now = (disk.history meta.slots.disk).now in
      let stands = looked.standing.stands tells in
      let marks = stored-marks meta.unstored meta.marks (meaning_in now meta).marks stands.says looked.stored in
      let same : meaning_in now meta ≡ meaning_of_meta meta = ap₂ (λ (m : BlockMarks) (h : Option BlockMarks). record { marks = m; held = h }) (sym marks) stands.held in
      subst (λ meaning. IsImageOf meaning (disk.history lent).now.seen) same (looked.told tells).stored

-- something was told of it, and its device was put back
module _ (D : Type 0) (disk : Ghosts D) (bay : BayAround D) (between : Between D) (name : List ℕ) (meta : Meta D) (Tells : Meaning → Type 0) where
  pub tells-of-image : HasOpened disk (lending bay between) name meta → PutsBack disk between bay meta.slots.disk → Tells (meaning_of_meta meta)
      → TellsOfImage disk bay name Tells
  tells-of-image opened puts told = record {
    meaning = meaning_of_meta meta;
    lent = opened.lent;
    tried = has-tried D disk bay between name opened.lent meta.slots.disk None opened.has_lent opened.tried puts;
    stands = image-of D disk opened.lent meta opened.looked;
    told = told;
  }
