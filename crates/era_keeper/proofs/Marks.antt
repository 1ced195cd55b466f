-- A keeper stands where a block's mark is stored, and where that fails.
use Rattle.std.proofs.Common.{◌≡◌, ◌==◌, ◌&&◌, ℕ, ◌<◌, true, false, List, ◌∷◌, Some, refl, sym, ap, ◌∙◌, subst, inl, inr, arith}
use Rattle.std.proofs.lemmas.Bool.{and_from, or_left, eq-eqb, ne_eqb, false≢true}
use Rattle.era_base.specs.Calls.{Now}
use Rattle.era_base.specs.Faults.{Rose}
use Rattle.era_base.specs.declared.disk.Disk.{Ghosts}
use Rattle.era_base.specs.declared.ids.CmdId.{CmdId}
use Rattle.era_meta.specs.declared.metadata.Meta.{Meta}
use Rattle.era_meta.specs.Held.{snapshot_marks}
use Rattle.era_meta.specs.InMemory.{LeavesMeanings}
use Rattle.era_meta.specs.MetaCalls.{CommitsMarks, FailsToCommitMarks, IsInMemory, IsStanding, KeepsSnapshot}
use Rattle.era_model.specs.declared.event.Event.{Event}
use Rattle.era_model.specs.declared.event.Event.TheVariants.{Mark, Refused, Tried}
use Rattle.era_model.specs.declared.event.Kind.TheVariants.{Write as WriteKind}
use Rattle.era_model.specs.declared.event.Why.TheVariants.{MetaFault}
use Rattle.era_model.specs.declared.history.Happening.{Happening}
use Rattle.era_model.specs.declared.history.Happening.TheVariants.{Happened}
use Rattle.era_model.specs.declared.opening.Opening.{Opening}
use Rattle.era_model.specs.History.{era_of}
use Rattle.era_model.specs.MarkLaws.{LastsAreBounded, MarkGivesEra}
use Rattle.era_model.specs.Marking.{held_of, is_tried_in, last_drawn, marks_of}
use Rattle.era_model.specs.Marks.{BlockMarks, blocks_of_marks, marks_last_era, with_block}
use Rattle.era_model.specs.Promises.{MarksFollowJournal}
use Rattle.era_model.specs.Recovered.{HaveJournalLasts, is_write}
use Rattle.era_notes.specs.Notes.{notes_of}
use Rattle.era_keeper.specs.declared.keeper.Keeper.{Keeper}
use Rattle.era_keeper.specs.Keepers.{KeeperStands, comes_back, view_of}
use Rattle.era_keeper.specs.Recovery.{ComesBack}
use Rattle.era_keeper.specs.Steps.{last_count_of}
use Rattle.era_keeper.proofs.Backs.{Recovers, back-still, back-stored, meant}
use Rattle.era_keeper.proofs.Commits.{blocks-own, owes-failed, owes-stored}
use Rattle.era_keeper.proofs.Counts.{ascends-since}
use Rattle.era_keeper.proofs.Fails.{refused-fails, same-itself}
use Rattle.era_keeper.proofs.Follows.{follows-mark, hold-own, kept-mark}
use Rattle.era_keeper.proofs.Quiet.{OwesDraw}
use Rattle.era_keeper.proofs.Stores.{over, own, stored-beside}
use Rattle.era_keeper.proofs.Words.{quiet-words, recovered-again}

-- marks with a block that was asked for and had no mark in the present era
marked-lasts : (h : List Happening) (block : ℕ) → MarksFollowJournal h → MarkGivesEra (marks_of h) block → marks_last_era (marks_of h) block < (marks_of h).era
    → is_tried_in h block (marks_of h).era ≡ true → HaveJournalLasts h (with_block (marks_of h) block) (Some block)
marked-lasts h block f gives unset tried =
    let itself : (block == block) ≡ true = eq-eqb block block refl in
    let last : marks_last_era (with_block (marks_of h) block) block ≡ (marks_of h).era = gives.lasts block ∙ rw itself refl in
    let before = f.lasts block in (
      record { later = omega (arith, last, before, unset); tried = ap (λ (era : ℕ). is_tried_in h block era) last ∙ tried },
      λ other below differs.
          let apart : (block == other) ≡ false = ne_eqb block other (λ same. differs (sym same)) in
          gives.lasts other ∙ rw apart (f.lasts other),
    )

pub recover-marked : (h : List Happening) (block : ℕ) → MarksFollowJournal h → MarkGivesEra (marks_of h) block → marks_last_era (marks_of h) block < (marks_of h).era
    → is_tried_in h block (marks_of h).era ≡ true → Recovers h (meant (with_block (marks_of h) block) (held_of h))
recover-marked h block f gives unset tried = record {
  valid = gives.valid;
  sectors = f.sectors;
  block_sectors = f.block_sectors;
  exception = Some block;
  lasts = marked-lasts h block f gives unset tried;
  era = inl f.era;
  valid_snapshot = f.snapshot;
  snapshot = hold-own h (held_of h);
}

-- such marks come back where their commit failed
comes-marked : (h : List Happening) (id : CmdId) (count block : ℕ) → MarksFollowJournal h → Recovers h (meant (with_block (marks_of h) block) (held_of h))
    → ComesBack (Happened (Refused id WriteKind (MetaFault count)) ∷ h) false (meant (with_block (marks_of h) block) (held_of h))
comes-marked h id count block f recovers =
    let event : Event = Refused id WriteKind (MetaFault count) in
    record {
      durable = record {
        recovered = recovered-again event h (with_block (marks_of h) block) (held_of h) (quiet-words false event h tt).keeps recovers.era recovers;
        lasts = λ none. absurd (false≢true (sym none ∙ refused-fails is_write id WriteKind count h refl));
        era = λ none. f.era;
        snapshot = λ none. refl;
      };
      era = λ is. f.era;
    }

-- the request was drawn last
pub asked-last : (h before : List Happening) (id : CmdId) (block era : ℕ) → h ≡ Happened (Tried id block era) ∷ before → last_drawn h id ≡ Some (Tried id block era)
asked-last h before id block era is = rw is (rw (same-itself id) refl)

pub asked-tried : (h before : List Happening) (id : CmdId) (block era : ℕ) → h ≡ Happened (Tried id block era) ∷ before → is_tried_in h block era ≡ true
asked-tried h before id block era is = rw is (or_left (block == block && era == era) _ (and_from _ _ (eq-eqb block block refl) (eq-eqb era era refl)))

-- what is known of a block that has no mark in the present era
pub record IsUnset (m : BlockMarks) (block : ℕ) : Type 0 where
  pub within : block < blocks_of_marks m
  pub unset : marks_last_era m block < m.era
  pub gives : MarkGivesEra m block
  pub bounded : LastsAreBounded m

-- and of one whose mark was asked for
pub record IsAsked {D : Type 0} (disk : Ghosts D) (opening : Opening) (keeper : Keeper D) (id : CmdId) (block era : ℕ) : Type 0 where
  pub before : List Happening
  pub asked : own disk opening keeper ≡ Happened (Tried id block era) ∷ before
  pub present : era ≡ keeper.meta.marks.era
  pub of : IsUnset keeper.meta.marks block

pub recovers-asked : {D : Type 0} (disk : Ghosts D) (opening : Opening) (keeper : Keeper D) (id : CmdId) (block era : ℕ) → IsAsked disk opening keeper id block era → KeeperStands disk opening keeper
    → Recovers (own disk opening keeper) (meant (with_block keeper.meta.marks block) (held_of (own disk opening keeper)))
recovers-asked disk opening keeper id block era asked stands =
    let h = own disk opening keeper in
    let marks : keeper.meta.marks ≡ marks_of h = stands.marks in
    let tried = subst (λ (e : ℕ). is_tried_in h block e ≡ true) asked.present (asked-tried h asked.before id block era asked.asked) in
    subst (λ (m : BlockMarks). MarkGivesEra m block → marks_last_era m block < m.era → is_tried_in h block m.era ≡ true → Recovers h (meant (with_block m block) (held_of h))) (sym marks)
    (λ gives unset tried. recover-marked h block stands.own.follows gives unset tried) asked.of.gives asked.of.unset tried

-- the mark is drawn
pub owes-mark : {D : Type 0} (disk : Ghosts D) (opening : Opening) (keeper : Keeper D) (new : Meta D) (id : CmdId) (block era : ℕ) → IsStanding disk keeper.meta → IsAsked disk opening keeper id block era
    → CommitsMarks disk keeper.meta (with_block keeper.meta.marks block) new → IsInMemory new (with_block keeper.meta.marks block) false → KeepsSnapshot disk keeper.meta new
    → Now disk (LeavesMeanings new) new.slots.disk → KeeperStands disk opening keeper
    → OwesDraw disk.tells opening (comes_back disk new) (view_of disk (over keeper new)) (Mark id block era)
owes-mark disk opening keeper new id block era standing asked commits memory same images stands =
    let h = own disk opening keeper in
    let f = stands.own.follows in
    let marks : keeper.meta.marks ≡ marks_of h = stands.marks in
    let present : era ≡ era_of h = asked.present ∙ ap (λ (m : BlockMarks). m.era) marks ∙ f.era in
    let next : with_block keeper.meta.marks block ≡ with_block (marks_of h) block = ap (λ (m : BlockMarks). with_block m block) marks in
    owes-stored disk opening keeper new (Mark id block era)
    (record {
      of_origin = subst (λ (n : ℕ). block < n) (ap blocks_of_marks marks ∙ blocks-own opening (notes_of disk keeper.notes) (marks_of h) f.sectors f.block_sectors) asked.of.within;
      tried = asked-last h asked.before id block era asked.asked;
      present = present;
    }) tt
    (follows-mark h id block era present (subst (λ (m : BlockMarks). MarkGivesEra m block) marks asked.of.gives) f)
    (kept-mark h id block era present (subst LastsAreBounded marks asked.of.bounded) f stands.own.marked)
    (memory.marks ∙ next) (ap snapshot_marks same.snapshot ∙ stands.held) memory.unstored
    (λ told meaning back.
    back-stored keeper.meta new (with_block keeper.meta.marks block) (disk.history keeper.meta.slots.disk).now (disk.history new.slots.disk).now meaning (commits.stored told) back
    ∙ stored-beside disk opening keeper (with_block keeper.meta.marks block) standing stands told ∙ ap (λ (m : BlockMarks). meant m (held_of h)) next)
    images

-- the refusal is drawn
pub owes-unmarked : {D : Type 0} (disk : Ghosts D) (opening : Opening) (keeper : Keeper D) (new : Meta D) (id : CmdId) (block era count : ℕ) → IsStanding disk keeper.meta → IsAsked disk opening keeper id block era
    → keeper.meta.unstored ≡ false → FailsToCommitMarks disk keeper.meta (with_block keeper.meta.marks block) new → IsInMemory new keeper.meta.marks false → KeepsSnapshot disk keeper.meta new
    → count ≡ disk.faults new.slots.disk → Rose (last_count_of disk keeper) count → Now disk (LeavesMeanings new) new.slots.disk → KeeperStands disk opening keeper
    → OwesDraw disk.tells opening (comes_back disk new) (view_of disk (over keeper new)) (Refused id WriteKind (MetaFault count))
owes-unmarked disk opening keeper new id block era count standing asked stored fails memory same present rose images stands =
    let h = own disk opening keeper in
    let f = stands.own.follows in
    let marks : keeper.meta.marks ≡ marks_of h = stands.marks in
    let next = meant (with_block keeper.meta.marks block) (held_of h) in
    let view = view_of disk keeper in
    let recovers = recovers-asked disk opening keeper id block era asked stands in
    owes-failed disk opening keeper new id WriteKind count next
    (record {
      rose = ascends-since opening view.notes view.least view.faults count stands.own.legal stands.own.counts rose;
      cause = rw asked.asked (λ none. absurd (false≢true (sym none ∙ or_left _ _ (same-itself id))));
    }) present rose memory.marks (ap snapshot_marks same.snapshot) stored memory.unstored
    (λ told meaning back. elim (back-still keeper.meta new (with_block keeper.meta.marks block) (disk.history keeper.meta.slots.disk).now (disk.history new.slots.disk).now meaning (fails.still told) back) [
      | inl old ↦ inl old
      | inr is ↦ inr (is ∙ stored-beside disk opening keeper (with_block keeper.meta.marks block) standing stands told)
    ])
    (subst (λ (m : BlockMarks). Recovers h (meant (with_block m block) (held_of h)) → ComesBack (Happened (Refused id WriteKind (MetaFault count)) ∷ h) false (meant (with_block m block) (held_of h))) (sym marks)
    (λ recovers. comes-marked h id count block f recovers) recovers)
    images stands
