-- A log of which each draw meets what its owner tells and what is told beside is a legal journal.
use Rattle.std.proofs.Common.{◌≡◌, ℕ, ◌+◌, ◌*◌, ◌/◌, ◌<◌, ◌==◌, Bool, true, false, List, [], ◌∷◌, ◌++◌, length, refl, ap, sym, ◌∙◌, subst, arith}
use Rattle.std.proofs.Math.Seq.{take-length}
use Rattle.std.proofs.lemmas.Bool.{eqb-true, false≢true}
use Rattle.era_model.specs.declared.entry.Entry.{Entry}
use Rattle.era_model.specs.declared.event.Event.{Event}
use Rattle.era_model.specs.declared.event.Event.TheVariants.{Tried, Mark, Go, Done, Cut, Settle, Unsettled, Read, Roll, Kept, Snap, Dropped, Digest, List as ListEvent, Status, Refused}
use Rattle.era_model.specs.declared.event.Why.TheVariants.{DataFault, MetaFault, End, Held, NoSnap, Idle, Memory}
use Rattle.era_model.specs.declared.history.Happening.{Happening}
use Rattle.era_model.specs.declared.history.Happening.TheVariants.{Opened}
use Rattle.era_model.specs.declared.journal.Journal.{Journal}
use Rattle.era_model.specs.declared.opening.Opening.{Opening}
use Rattle.era_model.specs.History.{blocks_at, is_open}
use Rattle.era_model.specs.Journal.{AreNumberedFrom, history_after}
use Rattle.era_model.specs.Legal.{IsLegal, IsLegalJournal, IsOpening, MayHappen}
use Rattle.era_model.specs.SessionRun.{place_now}
use Rattle.era_notes.specs.Logs.{Draw, drawer_history, logged_history}
use Rattle.era_notes.specs.OwnDraws.{AreOwnDraws, is_of_stripes}
use Rattle.era_promise.specs.OwnConditions.{AreToldDraws, IsToldBeside, OwnerTells}
use Rattle.era_promise.specs.Owners.{AreOwnersDraws, IsOwnersDraw, is_told_by_keeper, logged_entries, stripe_at}
use Rattle.era_promise.proofs.KeepersConditions.{Laws as KeepersLaws, keepers-may}
use Rattle.era_promise.proofs.LogPlaces.{logged-length, whole-log}
use Rattle.era_promise.proofs.OwnersDraws.{owners-stripes, stripe-event}
use Rattle.era_promise.proofs.StripesConditions.{Laws as StripesLaws, cut-whole, done-whole, opening-same, read-whole, settled-whole, unsettled-whole}

-- the laws that this takes
pub record Laws : Type 0 where
  pub keepers : KeepersLaws
  pub stripes : StripesLaws

-- an event of the keeper alone is the keeper's draw
keepers-own : (keeper : ℕ) (opening : Opening) (drawer : ℕ) (own : List Happening) (event : Event) (b : Bool) → (drawer == keeper) ≡ b → is_of_stripes event ≡ false → IsOwnersDraw keeper opening drawer own event → drawer ≡ keeper
keepers-own keeper opening drawer own event true is none may = eqb-true drawer keeper is
keepers-own keeper opening drawer own event false is none may = absurd (false≢true (sym none ∙ stripe-event opening drawer own event (may.stripes is)))

keepers-event : Laws → (keeper : ℕ) (opening : Opening) (log : List Draw) (drawer : ℕ) (event : Event) → AreOwnersDraws keeper opening log → IsOwnersDraw keeper opening drawer (drawer_history opening drawer log) event
    → is_of_stripes event ≡ false → is_told_by_keeper event ≡ true → MayHappen (drawer_history opening drawer log) event → MayHappen (logged_history opening log) event
keepers-event laws keeper opening log drawer event draws owner none told may =
    keepers-may laws.keepers opening keeper log event (owners-stripes keeper opening log draws) told
    (subst (λ d. MayHappen (drawer_history opening d log) event) (keepers-own keeper opening drawer (drawer_history opening drawer log) event (drawer == keeper) refl none owner) may)

-- each event may happen
may-happen : Laws → (keeper : ℕ) (opening : Opening) (log : List Draw) (drawer : ℕ) (event : Event) → AreOwnDraws opening (stripe_at opening) log → AreOwnersDraws keeper opening log
    → IsOwnersDraw keeper opening drawer (drawer_history opening drawer log) event → OwnerTells opening drawer (drawer_history opening drawer log) (logged_history opening log) event → IsToldBeside (logged_history opening log) event
    → MayHappen (logged_history opening log) event
may-happen laws keeper opening log drawer (Mark id block era) owns draws owner told beside = record {
  of_origin = subst (λ blocks. block < blocks) (sym (opening-same 0 blocks_at opening drawer log)) told;
  tried = beside.tried;
  present = beside.present;
}
may-happen laws keeper opening log drawer (Go id block era first bytes) owns draws owner told beside = record {
  of_origin = subst (λ blocks. block < blocks) (sym (opening-same 0 blocks_at opening drawer log)) told.of_origin;
  whole = told.whole;
  place = ap (λ sector. place_now (logged_history opening log) sector (length bytes / 512)) (opening-same 0 (λ o. block * o.geometry.block_sectors + first) opening drawer log)
      ∙ opening-same _ _ opening drawer log ∙ told.place;
  marked = beside.marked;
  present = beside.present;
  alone = beside.alone;
  once = beside.once;
}
may-happen laws keeper opening log drawer (Done id) owns draws owner told beside = done-whole laws.stripes opening log drawer id owns told.writing
may-happen laws keeper opening log drawer (Cut id faults) owns draws owner told beside = cut-whole laws.stripes opening log drawer id faults owns told.0.writing told.1
may-happen laws keeper opening log drawer (Settle by cut bytes) owns draws owner told beside = settled-whole laws.stripes opening log drawer cut bytes owns told
may-happen laws keeper opening log drawer (Unsettled by cut faults) owns draws owner told beside = unsettled-whole laws.stripes opening log drawer cut faults owns told.0 told.1
may-happen laws keeper opening log drawer (Read id sector bytes) owns draws owner told beside = read-whole laws.stripes opening log drawer sector bytes owns told.may told.of
may-happen laws keeper opening log drawer (Roll id era) owns draws owner told beside = beside
may-happen laws keeper opening log drawer (Kept id inside) owns draws owner told beside = beside
may-happen laws keeper opening log drawer (Refused id kind (DataFault stripe count)) owns draws owner told beside = told
may-happen laws keeper opening log drawer (Refused id kind (MetaFault count)) owns draws owner told beside = keepers-event laws keeper opening log drawer (Refused id kind (MetaFault count)) draws owner refl refl told
may-happen laws keeper opening log drawer (Refused id kind End) owns draws owner told beside = keepers-event laws keeper opening log drawer (Refused id kind End) draws owner refl refl told
may-happen laws keeper opening log drawer (Refused id kind (Held block)) owns draws owner told beside = keepers-event laws keeper opening log drawer (Refused id kind (Held block)) draws owner refl refl told
may-happen laws keeper opening log drawer (Refused id kind NoSnap) owns draws owner told beside = keepers-event laws keeper opening log drawer (Refused id kind NoSnap) draws owner refl refl told
may-happen laws keeper opening log drawer (Refused id kind Idle) owns draws owner told beside = keepers-event laws keeper opening log drawer (Refused id kind Idle) draws owner refl refl told
may-happen laws keeper opening log drawer (Refused id kind Memory) owns draws owner told beside = keepers-event laws keeper opening log drawer (Refused id kind Memory) draws owner refl refl told
may-happen laws keeper opening log drawer (Tried id block era) owns draws owner told beside = keepers-event laws keeper opening log drawer (Tried id block era) draws owner refl refl told
may-happen laws keeper opening log drawer (Snap id block) owns draws owner told beside = keepers-event laws keeper opening log drawer (Snap id block) draws owner refl refl told
may-happen laws keeper opening log drawer (Dropped id) owns draws owner told beside = keepers-event laws keeper opening log drawer (Dropped id) draws owner refl refl told
may-happen laws keeper opening log drawer (Digest id era page) owns draws owner told beside = keepers-event laws keeper opening log drawer (Digest id era page) draws owner refl refl told
may-happen laws keeper opening log drawer (ListEvent id since snap blocks) owns draws owner told beside = keepers-event laws keeper opening log drawer (ListEvent id since snap blocks) draws owner refl refl told
may-happen laws keeper opening log drawer (Status id used total era held) owns draws owner told beside = keepers-event laws keeper opening log drawer (Status id used total era held) draws owner refl refl told

-- the log
open-log : (opening : Opening) (log : List Draw) → is_open (logged_history opening log) ≡ true
open-log opening [] = refl
open-log opening (draw ∷ earlier) = open-log opening earlier

legal-log : Laws → (keeper : ℕ) (opening : Opening) (log : List Draw) → IsOpening opening → AreOwnDraws opening (stripe_at opening) log → AreOwnersDraws keeper opening log → AreToldDraws opening log → IsLegal (logged_history opening log)
legal-log laws keeper opening [] opens owns draws told = (opens, tt)
legal-log laws keeper opening (draw ∷ earlier) opens owns draws told = (
  open-log opening earlier,
  may-happen laws keeper opening earlier draw.drawer draw.event owns.1 draws.1 draws.0 told.0 told.1,
  legal-log laws keeper opening earlier opens owns.1 draws.1 told.2,
)

-- its entries have their places
numbered-more : (place : ℕ) (entries : List Entry) (entry : Entry) → AreNumberedFrom place entries → entry.place ≡ place + length entries → AreNumberedFrom place (entries ++ entry ∷ [])
numbered-more place [] entry are at = (omega (arith, at), tt)
numbered-more place (first ∷ entries) entry are at = (are.0, numbered-more (place + 1) entries entry are.1 (omega (arith, at)))

numbered-log : (log : List Draw) → AreNumberedFrom 0 (logged_entries log)
numbered-log [] = tt
numbered-log (draw ∷ earlier) =
    numbered-more 0 (logged_entries earlier) (record { place = length earlier; event = draw.event }) (numbered-log earlier) (let size = logged-length earlier in omega (arith, size))

pub legal-journal : Laws → (journal : Journal) (keeper : ℕ) (log : List Draw) → IsOpening journal.opening → journal.entries ≡ logged_entries log → AreOwnDraws journal.opening (stripe_at journal.opening) log
    → AreOwnersDraws keeper journal.opening log → AreToldDraws journal.opening log → IsLegalJournal journal
legal-journal laws journal keeper log opens entries owns draws told = record {
  numbered = subst (AreNumberedFrom 0) (sym entries) (numbered-log log);
  legal = subst IsLegal (sym (ap (λ es. history_after (Opened journal.opening ∷ []) es) (take-length journal.entries ∙ entries) ∙ whole-log journal.opening log)) (legal-log laws keeper journal.opening log opens owns draws told);
}
