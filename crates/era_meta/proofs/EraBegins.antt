-- An era that begins on a disk that was looked at: the images of its moments, and what it comes to.
use Rattle.std.proofs.Common.{◌≡◌, ℕ, ◌+◌, ◌*◌, ◌/◌, ◌<◌, ◌≤◌, Bool, true, List, Result, Ok, Err, refl, sym, ap, ◌∙◌, subst, arith, inl, inr}
use Rattle.std.specs.Prelude.{IfOk}
use Rattle.std.proofs.lemmas.List.{ext_get_or}
use Rattle.era_base.specs.CrashModel.{State, SameBut, IsClean, IsCrashImage, Leaves}
use Rattle.era_base.specs.Geometry.{blocks_of, need_of}
use Rattle.era_base.specs.declared.disk.Disk.{Ghosts}
use Rattle.era_base.specs.declared.geometry.Geometry.{Geometry}
use Rattle.era_base.specs.declared.limits.TheConstants.{LAST_ERA}
use Rattle.era_layout.specs.Root.{RootFields}
use Rattle.era_model.specs.Marks.{BlockMarks, no_marks, rolled}
use Rattle.era_slots.specs.Slot.{IsBlank}
use Rattle.era_meta.specs.declared.metadata.Meta.{Meta}
use Rattle.era_meta.specs.declared.refusal.MetaRefusal.{MetaRefusal}
use Rattle.era_meta.specs.Damage.{root_in}
use Rattle.era_meta.specs.FormatCalls.{StoresMeaning}
use Rattle.era_meta.specs.Formatting.{LeavesBlankOr, marks_alone}
use Rattle.era_meta.specs.InMemory.{HasStored, IsAheadOf, MetaStores, meaning_in}
use Rattle.era_meta.specs.Meaning.{Meaning, IsImageOf}
use Rattle.era_meta.specs.Openings.{IsLooked, IsReadOf}
use Rattle.era_meta.specs.SaysMarks.{IsRootFor}
use Rattle.era_meta.specs.Starting.{HasBegun, IsBegun, IsImageWhileOpening, LeavesOpening, next_era}
use Rattle.era_meta.specs.Stored.{HasBlocks}
use Rattle.era_meta.specs.StoredMarks.{with_marks}
use Rattle.era_meta.specs.Trials.{metadata_blocks}
use Rattle.era_meta.proofs.Looks.{seen-same}

abbrev pub OneMeaning : Type 0
OneMeaning = (one two : Meaning) (image : List ℕ) → IsImageOf one image → IsImageOf two image → one ≡ two

abbrev pub NotBlank : Type 0
NotBlank = (meaning : Meaning) (image : List ℕ) → IsImageOf meaning image → ¬ IsBlank image

clean-image : (state : State) (image : List ℕ) → IsClean state → IsCrashImage state image → image ≡ state.seen
clean-image state image clean is = ext_get_or 0 image state.seen is.size (λ i lt. is.kept i (clean i (omega (arith, lt, is.size))))

as-it-is : (asked : Geometry) (seen : List ℕ) → IsImageWhileOpening asked seen seen
as-it-is asked seen = record { marks = λ before is. inl is; blank = λ none. inl none; other = λ none some. refl }

-- nothing has changed, and nothing was pending
pub still-leaves : (asked : Geometry) (before now : State) → IsClean before → SameBut 0 0 before now → LeavesOpening asked before now
still-leaves asked before now clean same image is =
    let clean-now : IsClean now = λ offset lt. same.clean offset (λ above. above) (clean offset (omega (arith, lt, same.bytes))) in
    subst (λ (bytes : List ℕ). IsImageWhileOpening asked before.seen bytes) (sym (clean-image now image clean-now is ∙ seen-same before now same)) (as-it-is asked before.seen)

-- the images of another state that reads so are of the same opening
pub leaves-as : (asked : Geometry) (before mid now : State) → mid.seen ≡ before.seen → LeavesOpening asked mid now → LeavesOpening asked before now
leaves-as asked before mid now same leaves image is = subst (λ (seen : List ℕ). IsImageWhileOpening asked seen image) same (leaves image is)

next-is : (stored before : Meaning) (marks : BlockMarks) → marks ≡ stored.marks → stored ≡ before → with_marks stored (rolled marks) ≡ next_era before
next-is stored before marks is same = ap (λ (m : BlockMarks). with_marks stored (rolled m)) is ∙ ap (λ (meaning : Meaning). next_era meaning) same

-- a moment of the era switch
pub roll-leaves : {D : Type 0} → OneMeaning → NotBlank → (asked : Geometry) (meta : Meta D) (before now : State) → IsReadOf meta before.seen before
    → meta.marks ≡ (meaning_in before meta).marks → MetaStores meta (rolled meta.marks) before now → LeavesOpening asked before now
roll-leaves one not-blank asked meta before now read is stores image crash = elim (stores image crash) [
  | inl either ↦ elim either [
    | inl old ↦ record {
      marks = λ b of. inl (subst (λ (m : Meaning). IsImageOf m image) (one (meaning_in before meta) b before.seen read.stored of) old);
      blank = λ none. absurd (not-blank (meaning_in before meta) before.seen read.stored none);
      other = λ none some. absurd (none (meaning_in before meta) read.stored);
    }
    | inr new ↦ record {
      marks = λ b of. inr (subst (λ (m : Meaning). IsImageOf m image)
          (next-is (meaning_in before meta) b meta.marks is (one (meaning_in before meta) b before.seen read.stored of)) new);
      blank = λ none. absurd (not-blank (meaning_in before meta) before.seen read.stored none);
      other = λ none some. absurd (none (meaning_in before meta) read.stored);
    }
  ]
  | inr left ↦ absurd (read.none_left left.0 left.1.0 left.1.1)
]

-- what it stores
pub roll-begins : {D : Type 0} → OneMeaning → NotBlank → (asked : Geometry) (old new : Meta D) (before now : State) → IsReadOf old before.seen before
    → old.marks ≡ (meaning_in before old).marks → old.marks.era < LAST_ERA → HasStored old (rolled old.marks) new before now → new.slots.number ≡ old.slots.number + 1
    → HasBegun asked before.seen new now
roll-begins one not-blank asked old new before now read is below stored number = record {
  some = inl (meaning_in before old, read.stored);
  marks = λ b of.
      let same = one (meaning_in before old) b before.seen read.stored of in
      let next = next-is (meaning_in before old) b old.marks is same in (
        subst (λ (n : ℕ). n < LAST_ERA) (ap (λ (m : BlockMarks). m.era) is ∙ ap (λ (m : Meaning). m.marks.era) same) below,
        record {
          is = stored.says ∙ next;
          images = subst (λ (m : Meaning). Leaves (IsImageOf m) now) next stored.images;
          numbered = number ∙ ap (λ (n : ℕ). n + 1) (sym read.number);
        },
      );
  blank = λ none. absurd (not-blank (meaning_in before old) before.seen read.stored none);
}

-- what is in memory is what is stored
pub marks-are : {D : Type 0} (disk : Ghosts D) (meta : Meta D) → IsLooked disk meta.slots.disk meta → disk.tells ≡ true
    → meta.marks ≡ (meaning_in (disk.history meta.slots.disk).now meta).marks
marks-are disk meta looked told =
    subst (λ (flag : Bool). IsAheadOf flag meta.marks (meaning_in (disk.history meta.slots.disk).now meta).marks) looked.stored (looked.standing.stands told).says

pub era-is : {D : Type 0} (meta : Meta D) (seen : List ℕ) (now : State) → IsReadOf meta seen now → meta.marks ≡ (meaning_in now meta).marks → (root_in seen).era ≡ meta.marks.era
era-is meta seen now read is = ap (λ (root : RootFields). root.era) read.root ∙ sym (ap (λ (m : BlockMarks). m.era) is)

-- a start from another state that reads so
pub begun-as : {D : Type 0} (disk : Ghosts D) (asked : Geometry) (mid old : D) (meta : Meta D) → (disk.tells ≡ true → (disk.history mid).now.seen ≡ (disk.history old).now.seen)
    → IsBegun disk asked mid meta → IsBegun disk asked old meta
begun-as disk asked mid old meta same begun = record {
  standing = begun.standing;
  stored = begun.stored;
  fresh = begun.fresh;
  numbered = begun.numbered;
  geometry = begun.geometry;
  told = λ told. subst (λ (seen : List ℕ). HasBegun asked seen meta (disk.history meta.slots.disk).now) (same told) (begun.told told);
  alone = begun.alone;
}

pub begun-map : {D : Type 0} (disk : Ghosts D) (asked : Geometry) (mid old : D) (result : Result (Meta D) (MetaRefusal D))
    → (disk.tells ≡ true → (disk.history mid).now.seen ≡ (disk.history old).now.seen) → IfOk result (IsBegun disk asked mid) → IfOk result (IsBegun disk asked old)
begun-map disk asked mid old (Ok meta) same begun = begun-as disk asked mid old meta same begun
begun-map disk asked mid old (Err refusal) same begun = tt

-- a moment of formatting
pub blank-leaves : NotBlank → (asked : Geometry) (before now : State) (m : BlockMarks) → IsBlank before.seen → m ≡ no_marks asked.sectors asked.block_sectors 1
    → LeavesBlankOr (marks_alone m) now → LeavesOpening asked before now
blank-leaves not-blank asked before now m none is leaves image crash = record {
  marks = λ b of. absurd (not-blank b before.seen of none);
  blank = λ blank. elim (leaves image crash) [
    | inl still ↦ inl still
    | inr new ↦ inr (subst (λ (marks : BlockMarks). IsImageOf (marks_alone marks) image) is new)
  ];
  other = λ other some. absurd (some none);
}

pub blank-begins : {D : Type 0} → NotBlank → (asked : Geometry) (seen : List ℕ) (meta : Meta D) (now : State) (m : BlockMarks) → IsBlank seen
    → m ≡ no_marks asked.sectors asked.block_sectors 1 → StoresMeaning meta (marks_alone m) now → meta.slots.number ≡ 1 → HasBegun asked seen meta now
blank-begins not-blank asked seen meta now m none is stored number = record {
  some = inr none;
  marks = λ b of. absurd (not-blank b seen of none);
  blank = λ blank. record {
    is = stored.says ∙ ap (λ (marks : BlockMarks). marks_alone marks) is;
    images = subst (λ (marks : BlockMarks). Leaves (IsImageOf (marks_alone marks)) now) is stored.images;
    numbered = number;
  };
}

-- a geometry's blocks are there for its first root
pub first-room : (sectors : ℕ) (asked : Geometry) (root : RootFields) (m : BlockMarks) → IsRootFor root m → m ≡ no_marks asked.sectors asked.block_sectors 1
    → need_of (blocks_of asked.sectors asked.block_sectors) ≤ metadata_blocks sectors → HasBlocks root sectors
first-room sectors asked root m for is room =
    let own : blocks_of root.sectors root.block_sectors ≡ blocks_of asked.sectors asked.block_sectors
    = ap (λ (n : ℕ). blocks_of n root.block_sectors) (for.sectors ∙ ap (λ (marks : BlockMarks). marks.sectors) is)
    ∙ ap (λ (n : ℕ). blocks_of asked.sectors n) (for.block_sectors ∙ ap (λ (marks : BlockMarks). marks.block_sectors) is) in
    subst (λ (n : ℕ). need_of n * 8 ≤ sectors) (sym own) (fits (need_of (blocks_of asked.sectors asked.block_sectors)) sectors room)
  where
    fits : (need sectors : ℕ) → need ≤ sectors / 8 → need * 8 ≤ sectors
    fits need sectors room = omega arith
