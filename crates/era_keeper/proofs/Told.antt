-- What a status owes.
use Rattle.std.proofs.Common.{ℕ, Option, sym, ap, ◌∙◌, subst}
use Rattle.era_base.specs.declared.disk.Disk.{Ghosts}
use Rattle.era_model.specs.declared.opening.Opening.{Opening}
use Rattle.era_model.specs.Conditions.{MayTell}
use Rattle.era_model.specs.Marking.{held_of}
use Rattle.era_model.specs.Marks.{BlockMarks}
use Rattle.era_model.specs.Usage.{IsUsage, held_block}
use Rattle.era_notes.specs.Notes.{notes_of}
use Rattle.era_keeper.specs.declared.keeper.Keeper.{Keeper}
use Rattle.era_keeper.specs.Answers.{IsStatus}
use Rattle.era_keeper.specs.Keepers.{KeeperStands}
use Rattle.era_keeper.proofs.Commits.{at-own}
use Rattle.era_keeper.proofs.Stores.{own}

pub may-tell : {D : Type 0} (disk : Ghosts D) (opening : Opening) (keeper : Keeper D) (used total era : ℕ) (held : Option ℕ) → IsStatus disk keeper.meta used total era held
    → KeeperStands disk opening keeper → MayTell (own disk opening keeper) used total era held
may-tell disk opening keeper used total era held is stands =
    let h = own disk opening keeper in
    record {
      usage = subst (λ (m : BlockMarks). IsUsage m (held_of h) used) stands.marks
          (subst (λ (found : Option BlockMarks). IsUsage keeper.meta.marks found used) stands.held is.usage);
      size = is.size ∙ stands.own.total ∙ sym (at-own 0 (λ o. o.total) opening (notes_of disk keeper.notes));
      present = is.present ∙ ap (λ (m : BlockMarks). m.era) stands.marks ∙ stands.own.follows.era;
      snapshot = is.block ∙ ap held_block stands.held;
    }
