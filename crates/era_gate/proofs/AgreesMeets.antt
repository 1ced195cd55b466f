-- Each event of legal acts meets what the gate answers for.
use Rattle.std.proofs.Common.{◌≡◌, ℕ, ◌+◌, ◌<◌, ◌≤◌, ◌==◌, true, false, List, [], ◌∷◌, Option, Some, None, inl, inr, refl, sym, ap, ◌∙◌, subst, arith}
use Rattle.std.specs.Prelude.{IfSome}
use Rattle.std.proofs.lemmas.Bool.{cases_lt}
use Rattle.era_base.specs.declared.ids.CmdId.{CmdId}
use Rattle.era_model.specs.declared.event.Event.{Event}
use Rattle.era_model.specs.declared.event.Event.TheVariants.{Tried, Mark, Go, Done, Cut, Settle, Unsettled, Roll, Kept}
use Rattle.era_model.specs.declared.history.Happening.{Happening}
use Rattle.era_model.specs.declared.history.Happening.TheVariants.{Opened, Happened}
use Rattle.era_model.specs.declared.opening.Opening.{Opening}
use Rattle.era_model.specs.Conditions.{MayKeep, stripe_is_writing}
use Rattle.era_model.specs.History.{at_opening, stripe_now, in_flight}
use Rattle.era_model.specs.Journal.{AreNumberedFrom}
use Rattle.era_model.specs.Writes.{is_writing, is_cut}
use Rattle.era_gate.specs.declared.stays.Miss.{Miss}
use Rattle.era_gate.specs.Acts.{Act, Account, stripe_drew, keeper_drew, stay_began, stay_ended, era_moved, exchange_failed, after, opened, flights, found_of, StripeMayDraw, KeeperMayDraw, IsLegalFrom}
use Rattle.era_gate.specs.Drawn.{drawn}
use Rattle.era_gate.specs.ModelLaw.{MeetsGate, AllMeetGate, IsOwnWrite}
use Rattle.era_gate.proofs.AgreesWrites.{is_writing-all, is_cut-all, none-to_blocks, none-anywhere}
use Rattle.era_gate.proofs.AgreesOnce.{KeepsWrites, act-keeps_writes, opened-keeps_writes}
use Rattle.era_gate.proofs.Agrees.{Agrees, writes_of, drew-agrees, kept-agrees, began-agrees, ended-agrees}

-- the command is writing, or is cut, among all writes in flight
all-writing : (n : ℕ) (h : List Happening) (a : Account) (d : ℕ) (id : CmdId) → Agrees n h a → is_writing (flights (a.stripe d).flight) id ≡ true → is_writing (in_flight h) id ≡ true
all-writing n h a d id agrees is = is_writing-all (λ block. stripe_now h block == d) (in_flight h) id (ap (λ ws. is_writing ws id) (agrees.writes d) ∙ is)

all-cut : (n : ℕ) (h : List Happening) (a : Account) (d : ℕ) (id : CmdId) → Agrees n h a → is_cut (flights (a.stripe d).flight) id ≡ true → is_cut (in_flight h) id ≡ true
all-cut n h a d id agrees is = is_cut-all (λ block. stripe_now h block == d) (in_flight h) id (ap (λ ws. is_cut ws id) (agrees.writes d) ∙ is)

-- no write of the stripe is in flight where it has no open write
all-alone : (n : ℕ) (h : List Happening) (a : Account) (d block : ℕ) → Agrees n h a → stripe_now h block ≡ d → (a.stripe d).flight ≡ None → stripe_is_writing h block ≡ false
all-alone n h a d block agrees own none = none-to_blocks (λ written. stripe_now h written == stripe_now h block) (in_flight h)
    (subst (λ (e : ℕ). writes_of h e ≡ []) (sym own) (agrees.writes d ∙ ap flights none))

-- no write at all is in flight where none of n stripes has an open write
all-quiet : (n : ℕ) (h : List Happening) (a : Account) → KeepsWrites n a → Agrees n h a → ((d : ℕ) → d < n → (a.stripe d).flight ≡ None) → in_flight h ≡ []
all-quiet n h a keeps agrees quiet = none-anywhere (stripe_now h) (in_flight h) (λ d. agrees.writes d ∙ ap flights (none d)) where
  none : (d : ℕ) → (a.stripe d).flight ≡ None
  none d = elim (cases_lt d n) [ inl within ↦ quiet d within | inr high ↦ keeps.low d high ]

-- a failed exchange found from 1 to n stripes inside
kept-found : (n : ℕ) (h : List Happening) (inside : ℕ) (pending : Option Miss) → at_opening 0 (λ (o : Opening). o.stripes) h ≡ n → IfSome pending (λ miss. (0 < miss.found) × (miss.found ≤ n))
    → found_of pending ≡ Some inside → MayKeep h inside
kept-found n h inside None stripes within is = absurd (cc)
kept-found n h inside (Some miss) stripes within is =
    let found : miss.found ≡ inside = cc in
    let some : 0 < miss.found = within.0 in
    let most : miss.found ≤ n = within.1 in
    record { some = omega arith; stripes = omega (arith, stripes) }

-- a stripe's event
pub drew-meets : (n : ℕ) (h : List Happening) (a : Account) (d : ℕ) (event : Event) → Agrees n h a → IsOwnWrite (stripe_now h) d event → StripeMayDraw a d event → MeetsGate h event
drew-meets n h a d (Tried id block era) agrees own may = absurd may
drew-meets n h a d (Mark id block era) agrees own may = absurd may
drew-meets n h a d (Go id block era first bytes) agrees own may = record {
  marked = agrees.marks block era ∙ may.marked;
  present = may.present ∙ sym agrees.era;
  alone = all-alone n h a d block agrees own may.alone;
  once = agrees.once id ∙ may.once;
}
drew-meets n h a d (Done id) agrees own may = all-writing n h a d id agrees may
drew-meets n h a d (Cut id faults) agrees own may = all-writing n h a d id agrees may
drew-meets n h a d (Settle by cut bytes) agrees own may = all-cut n h a d cut agrees may
drew-meets n h a d (Unsettled by cut faults) agrees own may = all-cut n h a d cut agrees may
drew-meets n h a d (Roll id era) agrees own may = absurd may
drew-meets n h a d (Kept id inside) agrees own may = absurd may
drew-meets n h a d event agrees own may = tt

-- the keeper's event
pub kept-meets : (n : ℕ) (h : List Happening) (a : Account) (event : Event) → KeepsWrites n a → Agrees n h a → KeeperMayDraw n a event → MeetsGate h event
kept-meets n h a (Tried id block era) keeps agrees may = may.0 ∙ sym agrees.era
kept-meets n h a (Mark id block era) keeps agrees may = may.0 ∙ sym agrees.era
kept-meets n h a (Go id block era first bytes) keeps agrees may = absurd may
kept-meets n h a (Done id) keeps agrees may = absurd may
kept-meets n h a (Cut id faults) keeps agrees may = absurd may
kept-meets n h a (Settle by cut bytes) keeps agrees may = absurd may
kept-meets n h a (Unsettled by cut faults) keeps agrees may = absurd may
kept-meets n h a (Roll id era) keeps agrees may = record { next = may.next ∙ ap (λ e. e + 1) (sym agrees.era); quiet = all-quiet n h a keeps agrees may.quiet }
kept-meets n h a (Kept id inside) keeps agrees may = kept-found n h inside a.keeper.pending agrees.stripes keeps.pending may
kept-meets n h a event keeps agrees may = tt

-- each stripe issues writes to its own blocks alone
abbrev pub AreOwnActs : (ℕ → ℕ) → List Act → Type 0
AreOwnActs of_block [] = Unit {0}
AreOwnActs of_block (stripe_drew d event ∷ acts) = IsOwnWrite of_block d event × AreOwnActs of_block acts
AreOwnActs of_block (act ∷ acts) = AreOwnActs of_block acts

-- all that legal acts draw, from a history that agrees
all-meet : (n : ℕ) (h : List Happening) (a : Account) (place : ℕ) (acts : List Act) → KeepsWrites n a → Agrees n h a → IsLegalFrom n a acts → AreOwnActs (stripe_now h) acts → AllMeetGate h (drawn place acts)
all-meet n h a place [] keeps agrees legal own = tt
all-meet n h a place (stripe_drew d event ∷ acts) keeps agrees legal own = (
  drew-meets n h a d event agrees own.0 legal.0.1.0,
  all-meet n (Happened event ∷ h) (after a (stripe_drew d event)) (place + 1) acts (act-keeps_writes n a (stripe_drew d event) keeps legal.0)
      (drew-agrees n h a d event keeps agrees own.0 legal.0.1.0) legal.1 own.1,
)
all-meet n h a place (keeper_drew event ∷ acts) keeps agrees legal own = (
  kept-meets n h a event keeps agrees legal.0.0,
  all-meet n (Happened event ∷ h) (after a (keeper_drew event)) (place + 1) acts (act-keeps_writes n a (keeper_drew event) keeps legal.0) (kept-agrees n h a event agrees legal.0.0) legal.1 own,
)
all-meet n h a place (stay_began stay ∷ acts) keeps agrees legal own =
    all-meet n h (after a (stay_began stay)) place acts (act-keeps_writes n a (stay_began stay) keeps legal.0) (began-agrees n h a stay agrees) legal.1 own
all-meet n h a place (stay_ended k begun ∷ acts) keeps agrees legal own =
    all-meet n h (after a (stay_ended k begun)) place acts (act-keeps_writes n a (stay_ended k begun) keeps legal.0) (ended-agrees n h a k begun agrees) legal.1 own
all-meet n h a place (era_moved ∷ acts) keeps agrees legal own =
    all-meet n h (after a era_moved) place acts (act-keeps_writes n a era_moved keeps legal.0)
    (record { stripes = agrees.stripes; era = agrees.era; marks = agrees.marks; once = agrees.once; writes = agrees.writes }) legal.1 own
all-meet n h a place (exchange_failed miss ∷ acts) keeps agrees legal own =
    all-meet n h (after a (exchange_failed miss)) place acts (act-keeps_writes n a (exchange_failed miss) keeps legal.0)
    (record { stripes = agrees.stripes; era = agrees.era; marks = agrees.marks; once = agrees.once; writes = agrees.writes }) legal.1 own

-- from an opening on
pub opened-meet : (opening : Opening) (earlier : List Happening) (acts : List Act) → IsLegalFrom opening.stripes (opened opening.era) acts → AreOwnActs (stripe_now (Opened opening ∷ earlier)) acts
    → AllMeetGate (Opened opening ∷ earlier) (drawn 0 acts)
opened-meet opening earlier acts legal own = all-meet opening.stripes (Opened opening ∷ earlier) (opened opening.era) 0 acts (opened-keeps_writes opening.stripes opening.era)
    (record { stripes = refl; era = refl; marks = λ block era. refl; once = λ id. refl; writes = λ d. refl }) legal own

-- what acts draw is numbered
pub drawn-numbered : (place : ℕ) (acts : List Act) → AreNumberedFrom place (drawn place acts)
drawn-numbered place [] = tt
drawn-numbered place (stripe_drew d event ∷ acts) = (refl, drawn-numbered (place + 1) acts)
drawn-numbered place (keeper_drew event ∷ acts) = (refl, drawn-numbered (place + 1) acts)
drawn-numbered place (act ∷ acts) = drawn-numbered place acts
