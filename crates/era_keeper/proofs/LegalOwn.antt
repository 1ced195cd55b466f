-- The entries of a keeper are a legal history by themselves.
use Rattle.std.proofs.Common.{◌≡◌, ℕ, ◌≤◌, Bool, true, List, [], ◌∷◌, refl, sym, subst}
use Rattle.era_model.specs.declared.event.Event.{Event}
use Rattle.era_model.specs.declared.event.Event.TheVariants.{Tried, Mark, Go, Done, Cut, Settle, Unsettled, Read, Roll, Kept, Snap, Dropped, Digest, List as ListEvent, Status, Refused}
use Rattle.era_model.specs.declared.event.Kind.{Kind}
use Rattle.era_model.specs.declared.event.Why.{Why}
use Rattle.era_model.specs.declared.event.Why.TheVariants.{DataFault, MetaFault, End, Held, NoSnap, Idle, Memory}
use Rattle.era_base.specs.declared.ids.CmdId.{CmdId}
use Rattle.era_model.specs.declared.history.Happening.{Happening}
use Rattle.era_model.specs.declared.opening.Opening.{Opening}
use Rattle.era_model.specs.History.{at_opening, is_open}
use Rattle.era_model.specs.Legal.{IsLegal, IsOpening, MayHappen}
use Rattle.era_notes.specs.Notes.{Note, own_history}
use Rattle.era_keeper.specs.Keepers.{EntriesStand, KeeperView}
use Rattle.era_keeper.specs.OwnEntries.{AllKeepWithin, AreKeepersLegal, KeeperMay, KeepsWithin}
use Rattle.era_keeper.proofs.Commits.{at-own}

-- a refusal
may-refuse : (h : List Happening) (id : CmdId) (kind : Kind) (why : Why) → KeeperMay h (Refused id kind why) → MayHappen h (Refused id kind why)
may-refuse h id kind (DataFault stripe count) may = absurd may
may-refuse h id kind (MetaFault count) may = may
may-refuse h id kind End may = may
may-refuse h id kind (Held block) may = may
may-refuse h id kind NoSnap may = may
may-refuse h id kind Idle may = may
may-refuse h id kind Memory may = may

-- an entry, where the session has so many stripes
may-happen : (h : List Happening) (stripes : ℕ) (event : Event) → at_opening 0 (λ o. o.stripes) h ≡ stripes → KeeperMay h event → KeepsWithin stripes event → MayHappen h event
may-happen h stripes (Tried id block era) is may within = may
may-happen h stripes (Mark id block era) is may within = may
may-happen h stripes (Go id block era first bytes) is may within = absurd may
may-happen h stripes (Done id) is may within = absurd may
may-happen h stripes (Cut id faults) is may within = absurd may
may-happen h stripes (Settle by cut bytes) is may within = absurd may
may-happen h stripes (Unsettled by cut faults) is may within = absurd may
may-happen h stripes (Read id sector bytes) is may within = absurd may
may-happen h stripes (Roll id era) is may within = may
may-happen h stripes (Kept id inside) is may within = record { some = may; stripes = subst (λ (n : ℕ). inside ≤ n) (sym is) within }
may-happen h stripes (Snap id block) is may within = may
may-happen h stripes (Dropped id) is may within = may
may-happen h stripes (Digest id era page) is may within = may
may-happen h stripes (ListEvent id since snap blocks) is may within = may
may-happen h stripes (Status id used total era held) is may within = may
may-happen h stripes (Refused id kind why) is may within = may-refuse h id kind why may

-- a session that opened and hasn't crashed is open
open-own : (opening : Opening) (notes : List Note) → is_open (own_history opening notes) ≡ true
open-own opening [] = refl
open-own opening (note ∷ earlier) = open-own opening earlier

pub legal-own : (opening : Opening) (notes : List Note) → IsOpening opening → AreKeepersLegal opening notes → AllKeepWithin opening.stripes notes → IsLegal (own_history opening notes)
legal-own opening [] opens legal within = (opens, tt)
legal-own opening (note ∷ earlier) opens legal within = (
  open-own opening earlier,
  may-happen (own_history opening earlier) opening.stripes note.entry.event (at-own 0 (λ o. o.stripes) opening earlier) legal.0 within.0,
  legal-own opening earlier opens legal.1 within.1,
)

-- the entries of a keeper that stands
pub legal-stands : (tells : Bool) (opening : Opening) (view : KeeperView) → EntriesStand tells opening view → AllKeepWithin opening.stripes view.notes → IsLegal (own_history opening view.notes)
legal-stands tells opening view stands within =
    legal-own opening view.notes stands.opens stands.legal within
