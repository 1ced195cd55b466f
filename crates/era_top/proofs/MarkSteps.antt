-- What a mark and an era switch do to marks that follow a journal.
use Rattle.std.proofs.Common.{◌≡◌, ℕ, ◌+◌, ◌<◌, Bool, true, false, ◌&&◌, ◌||◌, ◌==◌, List, [], ◌∷◌, length, get_or, replicate, refl, ap, sym, ◌∙◌, subst, arith, inl, inr}
use Rattle.std.specs.Prelude.{nat_lt, slice_set, if◌then◌else◌}
use Rattle.std.proofs.lemmas.Bool.{cases_lt}
use Rattle.std.proofs.lemmas.Bool.Decides.{eqb_tells}
use Rattle.std.proofs.lemmas.List.{get_or-replicate, get_or_past, get_or-set_same, get_or-set_other, length-replicate}
use Rattle.era_base.specs.Flags.{has}
use Rattle.era_base.specs.declared.geometry.Geometry.{Geometry}
use Rattle.era_base.specs.declared.ids.CmdId.{CmdId}
use Rattle.era_base.specs.Geometry.{blocks_of}
use Rattle.era_model.specs.declared.event.Event.TheVariants.{Mark, Roll}
use Rattle.era_model.specs.declared.history.Happening.{Happening}
use Rattle.era_model.specs.declared.history.Happening.TheVariants.{Happened}
use Rattle.era_model.specs.MarkLaws.{LastsAreBounded, MarkGivesEra, SwitchKeepsMarks}
use Rattle.era_model.specs.Marking.{is_marked_in, journal_last_era}
use Rattle.era_model.specs.Marks.{ArchivedSet, BlockMarks, blocks_of_marks, entry_of, marks_last_era, no_marks, rolled, with_block, with_oldest_merged}
use Rattle.era_top.specs.Runs.{FollowJournal}
use Rattle.era_top.proofs.Journals.{same_number, other_number}

-- the flag of a block, once another block or it was flagged
pub flag-set : (flags : List Bool) (at block : ℕ) → at < length flags → get_or (slice_set flags at true) block false ≡ (((at == block) && true) || get_or flags block false)
flag-set flags at block within = elim (eqb_tells at block) [
  | inl same ↦ rw same.0 (rw (← same.1) (get_or-set_same flags at true false within))
  | inr apart ↦ rw apart.0 (get_or-set_other flags at block true false (λ e. apart.1 (sym e)))
]

-- marks of an origin are of its blocks
pub blocks-same : (g : Geometry) (m : BlockMarks) (era : ℕ) (h : List Happening) → FollowJournal g m era h → blocks_of_marks m ≡ blocks_of g.sectors g.block_sectors
blocks-same g m era h follow = ap (λ n. blocks_of n m.block_sectors) follow.sectors ∙ ap (blocks_of g.sectors) follow.block_sectors

within-flags : (g : Geometry) (m : BlockMarks) (era at : ℕ) (h : List Happening) → FollowJournal g m era h → at < blocks_of g.sectors g.block_sectors → at < length m.current
within-flags g m era at h follow inside = let e = blocks-same g m era h follow in let s = follow.valid.current_size in omega arith

-- a block that is marked already is marked again, which changes nothing
pub follow-marked : (g : Geometry) (m : BlockMarks) (era at : ℕ) (h : List Happening) → FollowJournal g m era h → at < blocks_of g.sectors g.block_sectors
    → has m.current at ≡ true → MarkGivesEra m at → LastsAreBounded m → FollowJournal g (with_block m at) era h
follow-marked g m era at h follow inside is gives bounded = record {
  sectors = follow.sectors;
  block_sectors = follow.block_sectors;
  valid = gives.valid;
  present = follow.present;
  current = λ block. flag-set m.current at block (within-flags g m era at h follow inside) ∙ elim (eqb_tells at block) [
    | inl same ↦ rw same.0 (sym (subst (λ b. has m.current b ≡ true) same.1 is) ∙ follow.current block)
    | inr apart ↦ rw apart.0 (follow.current block)
  ];
  lasts = λ block. gives.lasts block ∙ elim (eqb_tells at block) [
    | inl same ↦ rw same.0 (sym (bounded.current block (subst (λ b. has m.current b ≡ true) same.1 is)) ∙ follow.lasts block)
    | inr apart ↦ rw apart.0 (follow.lasts block)
  ];
  none_later = follow.none_later;
}

-- a block that is marked already has the present era as its last one
pub marked-last : (g : Geometry) (m : BlockMarks) (era at : ℕ) (h : List Happening) → FollowJournal g m era h → has m.current at ≡ true → LastsAreBounded m
    → (block : ℕ) → journal_last_era h block ≡ (if at == block then era else journal_last_era h block)
marked-last g m era at h follow is bounded block = elim (eqb_tells at block) [
  | inl same ↦ rw same.0 (sym (follow.lasts block) ∙ bounded.current block (subst (λ b. has m.current b ≡ true) same.1 is) ∙ follow.present)
  | inr apart ↦ rw apart.0 refl
]

-- a block is marked
pub follow-mark : (g : Geometry) (m : BlockMarks) (era at : ℕ) (id : CmdId) (h : List Happening) → FollowJournal g m era h → at < blocks_of g.sectors g.block_sectors
    → MarkGivesEra m at → FollowJournal g (with_block m at) era (Happened (Mark id at era) ∷ h)
follow-mark g m era at id h follow inside gives = record {
  sectors = follow.sectors;
  block_sectors = follow.block_sectors;
  valid = gives.valid;
  present = follow.present;
  current = λ block. flag-set m.current at block (within-flags g m era at h follow inside)
      ∙ ap (λ flag. ((at == block) && true) || flag) (follow.current block)
      ∙ ap (λ flag. ((at == block) && flag) || is_marked_in h block era) (sym (same_number era));
  lasts = λ block. gives.lasts block ∙ elim (eqb_tells at block) [
    | inl same ↦ rw same.0 follow.present
    | inr apart ↦ rw apart.0 (follow.lasts block)
  ];
  none_later = λ block later past. rw (other_number era later past, follow.none_later block later past) (nothing (at == block));
}
  where
    nothing : (b : Bool) → ((b && false) || false) ≡ false
    nothing true = refl
    nothing false = refl

-- no block is in an empty set
pub none-has : (count block : ℕ) → has (replicate count false) block ≡ false
none-has count block = elim (cases_lt block count) [
  | inl within ↦ get_or-replicate count block false false within
  | inr past ↦ get_or_past _ block false (simp length-replicate past)
]

-- Marks that differ in the array and the archive alone.
record SameBase (m before : BlockMarks) : Type 0 where
  pub sectors : before.sectors ≡ m.sectors
  pub block_sectors : before.block_sectors ≡ m.block_sectors
  pub era : before.era ≡ m.era
  pub current : before.current ≡ m.current

merged-base : (m : BlockMarks) (sets : List ArchivedSet) → SameBase m (with_oldest_merged m sets)
merged-base m [] = record { sectors = refl; block_sectors = refl; era = refl; current = refl }
merged-base m (oldest ∷ sets) = record { sectors = refl; block_sectors = refl; era = refl; current = refl }

ready-base : (m : BlockMarks) (flag : Bool) → SameBase m (if flag then m else with_oldest_merged m m.archive)
ready-base m true = record { sectors = refl; block_sectors = refl; era = refl; current = refl }
ready-base m false = merged-base m m.archive

-- the era moves to the next one
pub follow-roll : (g : Geometry) (m : BlockMarks) (era : ℕ) (id : CmdId) (h : List Happening) → FollowJournal g m era h → SwitchKeepsMarks m
    → FollowJournal g (rolled m) (era + 1) (Happened (Roll id (era + 1)) ∷ h)
follow-roll g m era id h follow keeps =
    let base = ready-base m (nat_lt (length m.archive) 16) in
    record {
      sectors = base.sectors ∙ follow.sectors;
      block_sectors = base.block_sectors ∙ follow.block_sectors;
      valid = keeps.valid;
      present = ap (λ n. n + 1) (base.era ∙ follow.present);
      current = λ block. ap (λ flags. has (replicate (length flags) false) block) base.current ∙ none-has (length m.current) block ∙ sym (follow.none_later block (era + 1) (omega arith));
      lasts = λ block. keeps.lasts block ∙ follow.lasts block;
      none_later = λ block later past. follow.none_later block later (omega arith);
    }

zero-entry : (count block : ℕ) → entry_of (replicate count 0) block ≡ 0
zero-entry count block = elim (cases_lt block count) [
  | inl within ↦ get_or-replicate count block 0 0 within
  | inr past ↦ get_or_past _ block 0 (simp length-replicate past)
]

-- without marks no block was ever marked
pub no_marks-last : (sectors block_sectors era block : ℕ) → marks_last_era (no_marks sectors block_sectors era) block ≡ 0
no_marks-last sectors block_sectors era block = rw (zero-entry (blocks_of sectors block_sectors) block, none-has (blocks_of sectors block_sectors) block) (omega arith)
