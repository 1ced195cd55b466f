-- A block whose mark is asked for: what its request owes, and what the keeper is once the mark is drawn.
use Rattle.std.proofs.Common.{◌≡◌, ◌==◌, ◌&&◌, ◌||◌, ℕ, ◌+◌, ◌<◌, true, false, sym, ap, ◌∙◌, subst, arith}
use Rattle.std.proofs.lemmas.Bool.{and_from, cond_both, eq-eqb, or_left, or_right}
use Rattle.era_base.specs.Flags.{has}
use Rattle.era_base.specs.declared.disk.Disk.{Ghosts}
use Rattle.era_base.specs.declared.ids.CmdId.{CmdId}
use Rattle.era_gate.specs.Calls.{has_mark}
use Rattle.era_meta.specs.declared.metadata.Meta.{Meta}
use Rattle.era_meta.specs.MetaCalls.{IsStanding}
use Rattle.era_model.specs.declared.event.Event.TheVariants.{Mark}
use Rattle.era_model.specs.declared.opening.Opening.{Opening}
use Rattle.era_model.specs.Conditions.{MayTry}
use Rattle.era_model.specs.History.{era_of}
use Rattle.era_model.specs.MarkLaws.{LastsAreBounded, MarkGivesEra}
use Rattle.era_model.specs.Marking.{is_marked_in, marks_of}
use Rattle.era_model.specs.Marks.{BlockMarks, blocks_of_marks, marks_last_era, with_block}
use Rattle.era_model.specs.Validity.{AreValidMarks}
use Rattle.era_notes.specs.Notes.{notes_of}
use Rattle.era_keeper.specs.declared.keeper.Keeper.{Keeper}
use Rattle.era_keeper.specs.Keepers.{FitsAfter, KeeperStands}
use Rattle.era_keeper.proofs.Commits.{blocks-own}
use Rattle.era_keeper.proofs.Fits.{FitsOnce}
use Rattle.era_keeper.proofs.Follows.{unmarked, unset-last}
use Rattle.era_keeper.proofs.Marks.{IsUnset}
use Rattle.era_keeper.proofs.Stores.{over, own}

pub is-unset : (m : BlockMarks) (block : ℕ) → AreValidMarks m → block < blocks_of_marks m → has m.current block ≡ false → MarkGivesEra m block → LastsAreBounded m → IsUnset m block
is-unset m block valid within unset gives bounded = record { within = within; unset = unset-last m block valid unset; gives = gives; bounded = bounded }

pub unset-over : {D : Type 0} (old new : Meta D) (block : ℕ) → new ≡ old → AreValidMarks old.marks → block < blocks_of_marks old.marks → has old.marks.current block ≡ false
    → ((m : BlockMarks) (block : ℕ) → AreValidMarks m → block < blocks_of_marks m → MarkGivesEra m block) → ((m : BlockMarks) → AreValidMarks m → LastsAreBounded m) → IsUnset new.marks block
unset-over {D} old new block same valid within unset gives bounded =
    subst (λ (meta : Meta D). IsUnset meta.marks block) (sym same) (is-unset old.marks block valid within unset (gives old.marks block valid within) (bounded old.marks valid))

-- the request
pub may-try : {D : Type 0} (disk : Ghosts D) (opening : Opening) (keeper : Keeper D) (block era : ℕ) → era ≡ keeper.meta.marks.era → block < blocks_of_marks keeper.meta.marks
    → has keeper.meta.marks.current block ≡ false → KeeperStands disk opening keeper → MayTry (own disk opening keeper) block era
may-try disk opening keeper block era is within unset stands =
    let h = own disk opening keeper in
    let f = stands.own.follows in
    let marks : keeper.meta.marks ≡ marks_of h = stands.marks in
    let present : era ≡ era_of h = is ∙ ap (λ (m : BlockMarks). m.era) marks ∙ f.era in
    record {
      of_origin = subst (λ (n : ℕ). block < n) (ap blocks_of_marks marks ∙ blocks-own opening (notes_of disk keeper.notes) (marks_of h) f.sectors f.block_sectors) within;
      present = present;
      unmarked = ap (λ (e : ℕ). is_marked_in h block e) present ∙ unmarked h block f stands.own.marked (subst (λ (m : BlockMarks). has m.current block ≡ false) marks unset);
    }

-- the mark
pub once-marked : {D : Type 0} (disk : Ghosts D) (keeper : Keeper D) (new : Meta D) (id : CmdId) (block era : ℕ) → FitsAfter disk 0 keeper → IsStanding disk new → era ≡ keeper.meta.marks.era
    → new.marks ≡ with_block keeper.meta.marks block → new.slots.number ≡ keeper.meta.slots.number + 1 → MarkGivesEra keeper.meta.marks block → FitsOnce disk (Mark id block era) (over keeper new)
once-marked disk keeper new id block era fits standing is marks number gives =
    let before = fits.numbers in
    record {
      standing = standing;
      era = fits.era ∙ sym (ap (λ (m : BlockMarks). m.era) marks);
      switched = fits.switched;
      drawn = rw marks (λ other last.
          cond_both (block == other) keeper.meta.marks.era (marks_last_era keeper.meta.marks other)
          (λ (l : ℕ). l ≡ keeper.meta.marks.era → ((block == other && era == keeper.meta.marks.era) || has_mark other keeper.meta.marks.era keeper.seat.part.state.entries) ≡ true)
          (λ same l. or_left _ _ (and_from _ _ same (eq-eqb era keeper.meta.marks.era is)))
          (λ apart l. or_right _ _ (fits.drawn other l))
          (sym (gives.lasts other) ∙ last));
      numbers = omega (arith, before, number);
    }
