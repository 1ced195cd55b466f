-- A keeper fits together behind a draw.
use Rattle.std.proofs.Common.{◌≡◌, ◌||◌, ℕ, ◌+◌, ◌*◌, ◌^◌, ◌≤◌, true, length, arith, sym, ap, ◌∙◌, subst}
use Rattle.std.proofs.lemmas.List.{length_push}
use Rattle.std.proofs.lemmas.Bool.{or_right}
use Rattle.era_base.specs.declared.disk.Disk.{Ghosts}
use Rattle.era_base.specs.declared.ids.CmdId.{CmdId}
use Rattle.era_gate.specs.Calls.{KeeperToken, PassToken, has_mark, is_mark}
use Rattle.era_gate.specs.StateAfter.{entry, switched_after}
use Rattle.era_meta.specs.declared.metadata.Meta.{Meta}
use Rattle.era_meta.specs.MetaCalls.{IsStanding}
use Rattle.era_model.specs.declared.event.Event.{Event}
use Rattle.era_model.specs.declared.event.Event.TheVariants.{Roll}
use Rattle.era_model.specs.MarkLaws.{LastsAreBounded, SwitchKeepsMarks}
use Rattle.era_model.specs.Marks.{BlockMarks, marks_last_era, rolled}
use Rattle.era_keeper.specs.declared.keeper.Keeper.{Keeper}
use Rattle.era_keeper.specs.Calls.{DrewAt, SameRest}
use Rattle.era_keeper.specs.Keepers.{FitsAfter, KeeperFits}
use Rattle.era_keeper.proofs.Follows.{rolled-switches}

-- a keeper fits together once an event is drawn
pub record FitsOnce {D : Type 0} (disk : Ghosts D) (event : Event) (keeper : Keeper D) : Type 0 where
  pub standing : IsStanding disk keeper.meta
  pub era : keeper.seat.part.state.era ≡ keeper.meta.marks.era
  pub switched : switched_after event keeper.seat.part.state.switched ≡ true
  pub drawn : (block : ℕ) → marks_last_era keeper.meta.marks block ≡ keeper.meta.marks.era
      → (is_mark block keeper.meta.marks.era event || has_mark block keeper.meta.marks.era keeper.seat.part.state.entries) ≡ true
  pub numbers : keeper.meta.slots.number ≤ 2 ^ 62 + 2 * length keeper.seat.part.state.entries + 2

pub fits-drawn : {D : Type 0} (disk : Ghosts D) (keeper new : Keeper D) (event : Event) (place : ℕ) (pass pass' : PassToken) → SameRest keeper new → DrewAt event place keeper new pass pass'
    → FitsOnce disk event keeper → KeeperFits disk new
fits-drawn {D} disk keeper new event place pass pass' same drew once =
    let size : length new.seat.part.state.entries ≡ length keeper.seat.part.state.entries + 1
    = ap (λ (s : KeeperToken). length s.part.state.entries) drew.seat ∙ length_push keeper.seat.part.state.entries (entry place event) in
    let number : new.meta.slots.number ≡ keeper.meta.slots.number = ap (λ (m : Meta D). m.slots.number) same.meta in
    let numbers = once.numbers in
    record {
      standing = subst (IsStanding disk) (sym same.meta) once.standing;
      era = ap (λ (s : KeeperToken). s.part.state.era) drew.seat ∙ once.era ∙ sym (ap (λ (m : Meta D). m.marks.era) same.meta);
      switched = ap (λ (s : KeeperToken). s.part.state.switched) drew.seat ∙ once.switched;
      drawn = λ block last.
          subst (λ (m : Meta D). has_mark block m.marks.era new.seat.part.state.entries ≡ true) (sym same.meta)
          (drew.marks.all block keeper.meta.marks.era ∙ once.drawn block (subst (λ (m : Meta D). marks_last_era m.marks block ≡ m.marks.era) same.meta last));
      numbers = omega (arith, size, number, numbers);
      few = drew.few;
    }

-- an event that is no mark, of a keeper with its marks in memory as they were
pub once-again : {D : Type 0} (disk : Ghosts D) (event : Event) (commits : ℕ) (keeper : Keeper D) (new : Meta D) → FitsAfter disk commits keeper → IsStanding disk new → new.marks ≡ keeper.meta.marks
    → new.slots.number + commits ≤ keeper.meta.slots.number + 2 → switched_after event keeper.seat.part.state.switched ≡ true
    → FitsOnce disk event (record { meta = new; seat = keeper.seat; entries = keeper.entries; notes = keeper.notes })
once-again disk event commits keeper new fits standing same numbers switched =
    let before = fits.numbers in
    record {
      standing = standing;
      era = fits.era ∙ sym (ap (λ m. m.era) same);
      switched = switched;
      drawn = rw same (λ block last. or_right (is_mark block keeper.meta.marks.era event) _ (fits.drawn block last));
      numbers = omega (arith, before, numbers);
    }

-- a keeper whose switch is drawn, and stored or not
pub fits-rolled : {D : Type 0} (disk : Ghosts D) (keeper rolled_keeper : Keeper D) (new : Meta D) (id : CmdId) (era place : ℕ) (pass pass' : PassToken) → keeper.seat.part.state.era ≡ era
    → era ≡ keeper.meta.marks.era + 1 → keeper.meta.slots.number ≤ 2 ^ 62 + 2 * length keeper.seat.part.state.entries + 1 → DrewAt (Roll id era) place keeper rolled_keeper pass pass' → IsStanding disk new
    → new.marks ≡ rolled keeper.meta.marks → SwitchKeepsMarks keeper.meta.marks → LastsAreBounded keeper.meta.marks → new.slots.number ≤ keeper.meta.slots.number + 1
    → KeeperFits disk (record { meta = new; seat = rolled_keeper.seat; entries = rolled_keeper.entries; notes = rolled_keeper.notes })
fits-rolled disk keeper rolled_keeper new id era place pass pass' word next numbers drew standing marks keeps bounded number =
    let m : BlockMarks = keeper.meta.marks in
    let size : length rolled_keeper.seat.part.state.entries ≡ length keeper.seat.part.state.entries + 1
    = ap (λ (s : KeeperToken). length s.part.state.entries) drew.seat ∙ length_push keeper.seat.part.state.entries (entry place (Roll id era)) in
    let moved : new.marks.era ≡ m.era + 1 = ap (λ (n : BlockMarks). n.era) marks ∙ (rolled-switches m).era in
    record {
      standing = standing;
      era = ap (λ (s : KeeperToken). s.part.state.era) drew.seat ∙ word ∙ next ∙ sym moved;
      switched = ap (λ (s : KeeperToken). s.part.state.switched) drew.seat;
      drawn = λ block last.
          let same : marks_last_era new.marks block ≡ marks_last_era m block = ap (λ (n : BlockMarks). marks_last_era n block) marks ∙ keeps.lasts block in
          let low = bounded.bounded block in
          absurd (omega (arith, last, same, low, moved));
      numbers = omega (arith, size, numbers, number);
      few = drew.few;
    }
