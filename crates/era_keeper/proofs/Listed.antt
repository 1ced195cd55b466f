-- What a list says, by the keeper's own entries.
use Rattle.std.proofs.Common.{◌≡◌, ◌&&◌, ℕ, Bool, true, false, List, Option, Some, None, nat_lt, nat_le, sym, ap, ◌∙◌, subst}
use Rattle.std.specs.Prelude.{if◌then◌else◌, max}
use Rattle.era_base.specs.declared.disk.Disk.{Ghosts}
use Rattle.era_meta.specs.Held.{snapshot_marks}
use Rattle.era_meta.specs.declared.snapshot.Snapshot.{Snapshot}
use Rattle.era_model.specs.declared.opening.Opening.{Opening}
use Rattle.era_model.specs.Conditions.{ListsExactly, ListsSnapshot, MayList}
use Rattle.era_model.specs.History.{blocks_now}
use Rattle.era_model.specs.Marking.{journal_last_era, marks_of}
use Rattle.era_model.specs.Marks.{BlockMarks, blocks_of_marks, marks_last_era, written_since}
use Rattle.era_notes.specs.Notes.{notes_of}
use Rattle.era_keeper.specs.declared.keeper.Keeper.{Keeper}
use Rattle.era_keeper.specs.Answers.{ListsSince}
use Rattle.era_keeper.specs.Keepers.{KeeperStands}
use Rattle.era_keeper.proofs.Commits.{blocks-own}
use Rattle.era_keeper.proofs.Stores.{own}

-- the snapshot's marks, by its flag
pub marks-held : (snapshot : Snapshot) → snapshot.is_held ≡ true → snapshot_marks snapshot ≡ Some snapshot.marks
marks-held snapshot held = ap (λ (flag : Bool). if flag then Some snapshot.marks else None) held

pub marks-none : (snapshot : Snapshot) → snapshot.is_held ≡ false → snapshot_marks snapshot ≡ None
marks-none snapshot none = ap (λ (flag : Bool). if flag then Some snapshot.marks else None) none

pub lists-held : (snapshot : Snapshot) (since : ℕ) (runs : List (ℕ × ℕ)) → snapshot.is_held ≡ true
    → ListsExactly (blocks_of_marks snapshot.marks) (written_since snapshot.marks since) runs → ListsSnapshot (snapshot_marks snapshot) since runs
lists-held snapshot since runs held lists = subst (λ (found : Option BlockMarks). ListsSnapshot found since runs) (sym (marks-held snapshot held)) lists

-- a list by the marks, and one by the snapshot
pub may-list : {D : Type 0} (disk : Ghosts D) (opening : Opening) (keeper : Keeper D) (since : ℕ) (snap : Bool) (runs : List (ℕ × ℕ)) → ListsSince keeper since snap runs
    → KeeperStands disk opening keeper → MayList (own disk opening keeper) since snap runs
may-list disk opening keeper since false runs lists stands =
    let h = own disk opening keeper in
    let f = stands.own.follows in
    let marks : keeper.meta.marks ≡ marks_of h = stands.marks in
    let blocks : blocks_of_marks keeper.meta.marks ≡ blocks_now h = ap blocks_of_marks marks ∙ blocks-own opening (notes_of disk keeper.notes) (marks_of h) f.sectors f.block_sectors in
    record {
      maximal = lists.maximal;
      exact = λ block.
          let last : marks_last_era keeper.meta.marks block ≡ journal_last_era h block = ap (λ (m : BlockMarks). marks_last_era m block) marks ∙ f.lasts block in
          lists.exact block ∙ ap (λ (n : ℕ). nat_lt block n && written_since keeper.meta.marks since block) blocks
          ∙ ap (λ (era : ℕ). nat_lt block (blocks_now h) && nat_le (max since 1) era) last;
    }
may-list disk opening keeper since true runs lists stands = subst (λ (found : Option BlockMarks). ListsSnapshot found since runs) stands.held lists
