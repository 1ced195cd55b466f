-- The cut writes of a session: of which command's write to which stripe each is, before and behind a command.
use Rattle.std.proofs.Common.{◌≡◌, ◌⊎◌, ℕ, zero, suc, ◌+◌, ◌≤◌, Bool, true, false, List, ◌∷◌, ◌++◌, length, slice_get, slice_set, Option, Some, None, Result, Ok, Err, refl, sym, ap, ◌∙◌, subst, arith, inl, inr, []}
use Rattle.std.specs.Prelude.{if◌then◌else◌, option_map, unwrap_or, vec_len}
use Rattle.std.proofs.lemmas.List.{length-append, length-map}
use Rattle.std.proofs.lemmas.Option.{none-some}
use Rattle.era_base.specs.declared.disk.Disk.{Ghosts}
use Rattle.era_base.specs.declared.ids.CmdId.{CmdId}
use Rattle.era_gate.specs.Calls.{PassToken}
use Rattle.era_gate.specs.Receipts.{entries_in}
use Rattle.era_model.specs.CommandEvents.{written_block, written_stripe}
use Rattle.era_model.specs.History.{stripe_now}
use Rattle.era_model.specs.declared.entry.Entry.{Entry}
use Rattle.era_model.specs.declared.event.Event.{Event}
use Rattle.era_model.specs.declared.history.Happening.{Happening}
use Rattle.era_model.specs.declared.reply.Answer.{Answer}
use Rattle.era_model.specs.declared.reply.Answer.TheVariants.{Fault, Fine}
use Rattle.era_model.specs.declared.reply.Device.TheVariants.{Data as DataDevice, Meta as MetaDevice}
use Rattle.era_notes.specs.Rooms.{last_in}
use Rattle.era_served.proofs.runs.Histories.{go-both, go_after}
use Rattle.era_session.specs.AtStripes.{FoundAt}
use Rattle.era_session.specs.Chunks.{resolves, write_trail}
use Rattle.era_session.specs.Desks.{Desk}
use Rattle.era_session.specs.Writes.{AreWriteEvents, HasWritten, WriteDrew, WriteWent, WroteEvents, marking_events}
use Rattle.era_session.specs.declared.session.Session.{Session}
use Rattle.era_base.specs.Flags.{has}
use Rattle.era_stripe.specs.Results.{CutIs, SettleDid, write_events}
use Rattle.era_stripe.specs.declared.cut_write.CutWrite.{CutWrite}
use Rattle.era_stripe.specs.declared.stripe.Stripe.{Stripe}

-- each cut write was issued to the stripe that has it
abbrev pub KnowsCuts : {D : Type 0} → List Happening → Session D → Type 0
KnowsCuts {D} h session = (k : ℕ) (stripe : Stripe D) → slice_get session.stripes.items k ≡ Some stripe → (cut : CutWrite) → stripe.cut ≡ Some cut → written_stripe h cut.id ≡ Some k

-- one element was put in another's place
set-cases : {A : Type 0} (xs : List A) (k j : ℕ) (y z : A) → slice_get (slice_set xs k y) j ≡ Some z → ((j ≡ k) × (z ≡ y)) ⊎ (slice_get xs j ≡ Some z)
set-cases [] k j y z at = inr at
set-cases {A} (x ∷ xs) zero zero y z at = inl (refl, ap (λ (o : Option A). unwrap_or o z) (sym at))
set-cases (x ∷ xs) zero (suc j) y z at = inr at
set-cases (x ∷ xs) (suc k) zero y z at = inr at
set-cases (x ∷ xs) (suc k) (suc j) y z at = elim (set-cases xs k j y z at) [
  | inl is ↦ inl (ap suc is.0, is.1)
  | inr old ↦ inr old
]

-- a command at one stripe leaves the cut writes of the others
pub cuts-left : {D : Type 0} (h : List Happening) (k : ℕ) (after : Stripe D) (old new : Session D) → KnowsCuts h old → new.stripes.items ≡ slice_set old.stripes.items k after
    → ((cut : CutWrite) → after.cut ≡ Some cut → written_stripe h cut.id ≡ Some k) → KnowsCuts h new
cuts-left {D} h k after old new knows is own j stripe at cut has =
    elim (set-cases old.stripes.items k j after stripe (subst (λ (all : List (Stripe D)). slice_get all j ≡ Some stripe) is at)) [
      | inl there ↦ own cut (ap (λ (s : Stripe D). s.cut) (sym there.1) ∙ has) ∙ ap (λ n. Some n) (sym there.0)
      | inr other ↦ knows j stripe other cut has
    ]

-- a cut write that was cut before
abbrev pub WasCut : Option CutWrite → CutWrite → Type 0
WasCut before cut = (one : CutWrite) × (before ≡ Some one) × (cut.id ≡ one.id)

pub settle-left : {D : Type 0} (disk : Ghosts D) (before : Option CutWrite) (by : CmdId) (result : Result Unit ℕ) (old new : Stripe D) (pass pass' : PassToken) (cut : CutWrite) → SettleDid disk before by result old new pass pass'
    → new.cut ≡ Some cut → WasCut before cut
settle-left disk None by (Ok value) old new pass pass' cut did is = absurd (none-some cut (sym did.uncut ∙ is))
settle-left disk None by (Err count) old new pass pass' cut did is = absurd did
settle-left disk (Some one) by (Ok value) old new pass pass' cut did is = absurd (none-some cut (sym did.uncut ∙ is))
settle-left disk (Some one) by (Err count) old new pass pass' cut did is =
    (one, refl, (subst (λ (o : Option CutWrite). CutIs o one.id one.block one.first (vec_len one.buffer)) is did.still_cut).of)

-- the write that a write's events issue
pub go-wrote : {D : Type 0} (id : CmdId) (block first : ℕ) (bytes : List ℕ) (result : Result Unit ℕ) (old : Desk D) (events : List Event) → WroteEvents id block first bytes result old events → go_after None events ≡ Some block
go-wrote id block first bytes (Ok value) old events are =
    ap (go_after None) are.joined ∙ go-both None (are.before ++ marking_events (has old.keeper.meta.marks.current block) id block old.keeper.meta.marks.era) (write_events id block are.era first bytes (Ok value))
go-wrote id block first bytes (Err count) old events are =
    ap (go_after None) are.joined ∙ go-both None (are.before ++ marking_events (has old.keeper.meta.marks.current block) id block old.keeper.meta.marks.era) (write_events id block are.era first bytes (Err count))

go-cut : {D : Type 0} (id : CmdId) (block first count : ℕ) (bytes : List ℕ) (old : Desk D) (events : List Event) → AreWriteEvents id block first bytes (Fault DataDevice count) old events → 2 ≤ length events
    → go_after None events ≡ Some block
go-cut id block first count bytes old events (inl are) two = (let one : length events ≡ 1 = ap (λ (l : List Event). length l) are.refused in absurd (omega (arith, one, two)))
go-cut id block first count bytes old events (inr are) two = go-wrote id block first bytes (Err count) old events are

length-trail : (a b : List Entry) → length (write_trail a b) ≡ length a + length b
length-trail [] b = omega arith
length-trail (e ∷ a) b = on (resolves e.event)
  where
    on : (first : Bool) → length (if first then e ∷ (b ++ a) else b ++ e ∷ a) ≡ length (e ∷ a) + length b
    on true = let both = length-append b a in omega (arith, both)
    on false = let both = length-append b (e ∷ a) in omega (arith, both)

-- a write that was issued draws two events at least
length-written : {D : Type 0} (disk : Ghosts D) (id : CmdId) (block first count : ℕ) (bytes : List ℕ) (answer : Answer) (old marked new : Desk D) → HasWritten disk id block first bytes (Err count) marked new
    → (drew : WriteDrew id block first bytes answer old new) → 2 ≤ length drew.events
length-written disk id block first count bytes answer old marked new wrote drew =
    let kept = wrote.drew.kept in
    let own : length kept.entries ≡ 2 = sym (length-map kept.entries (λ (e : Entry). e.event)) ∙ ap (λ (l : List Event). length l) kept.are in
    let last : length (last_in new.stripe.entries) ≡ length (last_in marked.stripe.entries) + length kept.entries =
    ap (λ (l : List Entry). length l) kept.last ∙ length-append (last_in marked.stripe.entries) kept.entries in
    let whole : length drew.events ≡ length (last_in new.stripe.entries) + length (last_in new.keeper.entries) =
    ap (λ (l : List Event). length l) (sym drew.drew.are) ∙ length-map (entries_in drew.drew.receipts) (λ (e : Entry). e.event)
    ∙ ap (λ (l : List Entry). length l) drew.trail ∙ length-trail (last_in new.stripe.entries) (last_in new.keeper.entries) in
    omega (arith, own, last, whole)

-- behind a write the cut write of its stripe is its own, or the one of before
pub write-left : {D : Type 0} (disk : Ghosts D) (id : CmdId) (block first : ℕ) (bytes : List ℕ) (answer : Answer) (old new : Desk D) (cut : CutWrite) (drew : WriteDrew id block first bytes answer old new)
    → WriteWent disk id block first bytes answer old new → new.stripe.cut ≡ Some cut → ((cut.id ≡ id) × (go_after None drew.events ≡ Some block)) ⊎ WasCut old.stripe.cut cut
write-left disk id block first bytes Fine old new cut drew went is = absurd (none-some cut (sym went.writing.after.0 ∙ is))
write-left disk id block first bytes (Fault DataDevice count) old new cut drew (inl failed) is =
    inr (settle-left disk old.stripe.cut id (Err count) old.stripe failed.settled.stripe old.pass failed.settled.pass cut failed.settling.did (sym failed.cut ∙ is))
write-left disk id block first bytes (Fault DataDevice count) old new cut drew (inr wrote) is =
    inl (
      (subst (λ (o : Option CutWrite). CutIs o id block first (length bytes)) is wrote.writing.after.0).of,
      go-cut id block first count bytes old drew.events drew.are (length-written disk id block first count bytes (Fault DataDevice count) old wrote.marked new wrote.writing drew),
    )
write-left disk id block first bytes (Fault MetaDevice count) old new cut drew failed is =
    inr (settle-left disk old.stripe.cut id (Ok tt) old.stripe failed.settled.stripe old.pass failed.settled.pass cut failed.settling.did (sym failed.marking.stripe.cut ∙ is))
write-left disk id block first bytes answer old new cut drew went is = absurd went

-- a cut write of before is known
pub was-known : {D : Type 0} (disk : Ghosts D) (h : List Happening) (k : ℕ) (session : Session D) (desk : Desk D) (cut : CutWrite) → FoundAt disk k session desk → KnowsCuts h session → WasCut desk.stripe.cut cut → written_stripe h cut.id ≡ Some k
was-known disk h k session desk cut found knows was =
    ap (λ (id : CmdId). written_stripe h id) was.2 ∙ knows k found.stripe found.found was.0 (sym found.admitted.cut ∙ was.1)

-- a write that was issued to a block of the stripe
pub go-known : (h : List Happening) (k block : ℕ) (id : CmdId) (events : List Event) → written_block h id ≡ go_after None events → go_after None events ≡ Some block → stripe_now h block ≡ k → written_stripe h id ≡ Some k
go-known h k block id events written went stripe =
    ap (λ (o : Option ℕ). option_map (stripe_now h) o) (written ∙ went) ∙ ap (λ n. Some n) stripe
