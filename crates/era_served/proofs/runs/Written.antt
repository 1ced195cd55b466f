-- The events of a write are some that it may have.
use Rattle.std.proofs.Common.{◌≡◌, ◌⊎◌, ℕ, Bool, true, false, List, ◌∷◌, ◌++◌, Option, Some, None, Result, Ok, Err, refl, sym, ap, ◌∙◌, subst, append_assoc, inl, inr, []}
use Rattle.std.proofs.lemmas.Bool.{true≢false}
use Rattle.era_base.specs.Flags.{has}
use Rattle.era_base.specs.declared.ids.CmdId.{CmdId}
use Rattle.era_model.specs.CommandEvents.{AreWriteEvents as MayWriteEvents, IsFailedRequest, IsIssuedWrite, IsMetaFault, IsOptionalMark, IsOptionalSettle, written_stripe}
use Rattle.era_model.specs.History.{stripe_now}
use Rattle.era_model.specs.Journal.{history_after}
use Rattle.era_model.specs.Legal.{IsLegal}
use Rattle.era_model.specs.declared.entry.Entry.{Entry}
use Rattle.era_model.specs.declared.event.Event.{Event}
use Rattle.era_model.specs.declared.event.Event.TheVariants.{Cut, Done, Mark, Refused, Tried}
use Rattle.era_model.specs.declared.event.Kind.TheVariants.{Write as WriteKind}
use Rattle.era_model.specs.declared.event.Why.TheVariants.{DataFault}
use Rattle.era_model.specs.declared.history.Happening.{Happening}
use Rattle.era_model.specs.declared.history.Happening.TheVariants.{Happened}
use Rattle.era_model.specs.declared.reply.Answer.{Answer}
use Rattle.era_model.specs.declared.reply.Answer.TheVariants.{Fault, Fine}
use Rattle.era_model.specs.declared.reply.Device.TheVariants.{Data as DataDevice, Meta as MetaDevice}
use Rattle.era_session.specs.Desks.{Desk}
use Rattle.era_session.specs.Receipts.{events_in}
use Rattle.era_session.specs.Writes.{AreWriteEvents, IsFailedMarking, IsSettling, WroteEvents, marking_events}
use Rattle.era_stripe.specs.Results.{write_events}
use Rattle.era_stripe.specs.declared.cut_write.CutWrite.{CutWrite}

-- the history that events leave
abbrev pub after_events : List Happening → List Event → List Happening
after_events h [] = h
after_events h (event ∷ events) = after_events (Happened event ∷ h) events

pub after-entries : (h : List Happening) (entries : List Entry) → history_after h entries ≡ after_events h (events_in entries)
after-entries h [] = refl
after-entries h (e ∷ entries) = after-entries (Happened e.event ∷ h) entries

after-both : (h : List Happening) (a b : List Event) → after_events h (a ++ b) ≡ after_events (after_events h a) b
after-both h [] b = refl
after-both h (event ∷ a) b = after-both (Happened event ∷ h) a b

-- a write is issued in the era of the mark before it
marked-era : (h : List Happening) (id : CmdId) (block era go first : ℕ) (bytes : List ℕ) (result : Result Unit ℕ)
    → IsLegal (after_events h (Tried id block era ∷ Mark id block era ∷ write_events id block go first bytes result)) → era ≡ go
marked-era h id block era go first bytes (Ok value) legal = legal.2.2.1.present ∙ sym legal.2.1.present
marked-era h id block era go first bytes (Err count) legal = legal.2.2.1.present ∙ sym legal.2.1.present

unmarked-era : (h : List Happening) (before : List Event) (marked : Bool) (id : CmdId) (block era go first : ℕ) (bytes : List ℕ) (result : Result Unit ℕ)
    → IsLegal (after_events h (before ++ marking_events marked id block era ++ write_events id block go first bytes result)) → marked ≡ false → era ≡ go
unmarked-era h before true id block era go first bytes result legal is = absurd (true≢false is)
unmarked-era h before false id block era go first bytes result legal is =
    marked-era (after_events h before) id block era go first bytes result
    (subst IsLegal
    (ap (after_events h) (append_assoc before (Tried id block era ∷ Mark id block era ∷ []) (write_events id block go first bytes result))
    ∙ after-both h before (Tried id block era ∷ Mark id block era ∷ write_events id block go first bytes result))
    legal)

-- each part of a write's events
optional-settle : (h : List Happening) (id : CmdId) (k : ℕ) (cut : Option CutWrite) (events : List Event) → ((one : CutWrite) → cut ≡ Some one → written_stripe h one.id ≡ Some k) → IsSettling cut id events → IsOptionalSettle h id k events
optional-settle h id k None events known is = inl is
optional-settle h id k (Some cut) events known is = inr (cut.id, is.0, is.2, known cut refl)

optional-mark : (marked : Bool) (id : CmdId) (block era go : ℕ) → (marked ≡ false → era ≡ go) → IsOptionalMark id block go (marking_events marked id block era)
optional-mark true id block era go same = inl refl
optional-mark false id block era go same = inr (ap (λ n. Tried id block n ∷ Mark id block n ∷ []) (same refl))

issued : (marked : Bool) (id : CmdId) (block era go first : ℕ) (bytes : List ℕ) (result : Result Unit ℕ) → (marked ≡ false → era ≡ go)
    → IsIssuedWrite id block first bytes (marking_events marked id block era ++ write_events id block go first bytes result)
issued marked id block era go first bytes (Ok value) same =
    record { era = go; mark = marking_events marked id block era; marking = optional-mark marked id block era go same; ended = Done id; outcome = inl refl; joined = refl }
issued marked id block era go first bytes (Err count) same =
    record { era = go; mark = marking_events marked id block era; marking = optional-mark marked id block era go same; ended = Cut id count; outcome = inr (count, refl); joined = refl }

failed : (id : CmdId) (block first era count : ℕ) (bytes : List ℕ) (events : List Event) → IsFailedMarking id block era count events
    → IsMetaFault id WriteKind events ⊎ (IsFailedRequest id block events ⊎ IsIssuedWrite id block first bytes events)
failed id block first era count bytes events (inl is) = inl (count, is)
failed id block first era count bytes events (inr is) = inr (inl (era, count, is))

wrote : {D : Type 0} (h h0 : List Happening) (id : CmdId) (block first : ℕ) (bytes : List ℕ) (result : Result Unit ℕ) (old : Desk D) (events : List Event) → ((one : CutWrite) → old.stripe.cut ≡ Some one → written_stripe h one.id ≡ Some (stripe_now h block))
    → IsLegal (after_events h0 events) → WroteEvents id block first bytes result old events → MayWriteEvents h id bytes (Some (block, first)) events
wrote h h0 id block first bytes result old events known legal are =
    let marked = has old.keeper.meta.marks.current block in
    let era : ℕ = old.keeper.meta.marks.era in
    let marks : List Event = marking_events marked id block era in
    let own : List Event = write_events id block are.era first bytes result in
    inr (record {
      before = are.before;
      settled = optional-settle h id (stripe_now h block) old.stripe.cut are.before known are.settling;
      rest = marks ++ own;
      outcome = inr (inr (issued marked id block era are.era first bytes result
          (unmarked-era h0 are.before marked id block era are.era first bytes result (subst (λ (l : List Event). IsLegal (after_events h0 l)) are.joined legal))));
      joined = are.joined ∙ append_assoc are.before marks own;
    })

-- the events of a write to a block, where the cut writes are known
pub write-events : {D : Type 0} (h h0 : List Happening) (id : CmdId) (block first : ℕ) (bytes : List ℕ) (answer : Answer) (old : Desk D) (events : List Event) → old.stripe.index ≡ stripe_now h block
    → ((one : CutWrite) → old.stripe.cut ≡ Some one → written_stripe h one.id ≡ Some (stripe_now h block)) → IsLegal (after_events h0 events) → AreWriteEvents id block first bytes answer old events
    → MayWriteEvents h id bytes (Some (block, first)) events
write-events h h0 id block first bytes Fine old events index known legal are = wrote h h0 id block first bytes (Ok tt) old events known legal are
write-events h h0 id block first bytes (Fault DataDevice count) old events index known legal (inl are) = inl (count, are.refused ∙ ap (λ n. Refused id WriteKind (DataFault n count) ∷ []) index)
write-events h h0 id block first bytes (Fault DataDevice count) old events index known legal (inr are) = wrote h h0 id block first bytes (Err count) old events known legal are
write-events h h0 id block first bytes (Fault MetaDevice count) old events index known legal are = inr (record {
  before = are.before;
  settled = optional-settle h id (stripe_now h block) old.stripe.cut are.before known are.settling;
  rest = are.rest;
  outcome = failed id block first old.keeper.meta.marks.era count bytes are.rest are.failed;
  joined = are.joined;
})
write-events h h0 id block first bytes answer old events index known legal are = absurd are
