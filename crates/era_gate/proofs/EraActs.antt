-- Legal acts keep what is said of marks, switches and writes among entries.
use Rattle.std.proofs.Common.{◌≡◌, ℕ, ◌==◌, Bool, true, List, [], ◌∷◌, Option, refl, sym, ◌∙◌, subst, arith}
use Rattle.std.specs.Prelude.{Contains}
use Rattle.std.proofs.lemmas.Bool.{cond_both, false≢true}
use Rattle.era_base.specs.declared.ids.CmdId.{CmdId}
use Rattle.era_model.specs.declared.entry.Entry.{Entry}
use Rattle.era_model.specs.declared.event.Event.TheVariants.{Go, Roll}
use Rattle.era_model.specs.declared.flight.FlightWrite.{FlightWrite}
use Rattle.era_gate.specs.declared.states.StripeState.{StripeState}
use Rattle.era_gate.specs.declared.stays.Receipt.TheVariants.{OfStay}
use Rattle.era_gate.specs.Acts.{Act, Account, stripe_drew, keeper_drew, stay_began, stay_ended, era_moved, exchange_failed, after, reach, opened, entry, stripe_in, stripe_out, has_go, MayAct, IsLegalFrom}
use Rattle.era_gate.proofs.AgreesWrites.{flies}
use Rattle.era_gate.proofs.AgreesOnce.{KeepsWrites, act-keeps_writes, opened-keeps_writes, has_go-begun}
use Rattle.era_gate.proofs.EraEntries.{KeepsEras}
use Rattle.era_gate.proofs.EraSteps.{drew-keeps, kept-keeps}

-- an act of one stripe that draws nothing and changes no open write
stay-keeps : (a b : Account) → b.places ≡ a.places → b.era ≡ a.era → b.marked ≡ a.marked → b.keeper.entries ≡ a.keeper.entries
    → ((d : ℕ) → (b.stripe d).entries ≡ (a.stripe d).entries) → ((d : ℕ) → (b.stripe d).flight ≡ (a.stripe d).flight) → ((id : CmdId) → has_go id (a.lane id.lane) ≡ true → has_go id (b.lane id.lane) ≡ true)
    → KeepsEras a → KeepsEras b
stay-keeps a b places era marked kept entries flight receipts keeps = record {
  drawn = λ d e is. rw places (keeps.drawn d e (was d e is));
  kept = λ e is. rw places (keeps.kept e (had e is));
  marks = λ block e is. let mark = keeps.marks block e (subst (λ (m : ℕ → ℕ → Bool). m block e ≡ true) marked is) in (mark.0, mark.1, rw kept mark.2);
  rolls = λ place by next is. rw era (keeps.rolls place by next (had (entry place (Roll by next)) is));
  gone = λ d place id block e first bytes is. receipts id (keeps.gone d place id block e first bytes (was d (entry place (Go id block e first bytes)) is));
  eras = λ d place id block e first bytes is. rw era (keeps.eras d place id block e first bytes (was d (entry place (Go id block e first bytes)) is));
  present = λ d place id block e first bytes is open'.
      keeps.present d place id block e first bytes (was d (entry place (Go id block e first bytes)) is) (subst (λ (f : Option FlightWrite). flies f id ≡ true) (flight d) open') ∙ sym era;
  precede = λ d place id block e first bytes is. let mark = keeps.precede d place id block e first bytes (was d (entry place (Go id block e first bytes)) is) in (mark.0, mark.1, mark.2, rw kept mark.3);
  ends = λ d go place switch id by block e first next bytes other has is of switched later.
      keeps.ends d go place switch id by block e first next bytes other (was d (entry go (Go id block e first bytes)) has) (was d (entry place other) is) of (had (entry switch (Roll by next)) switched) later;
  begins = λ d go switch id by block e first next bytes has switched early.
      keeps.begins d go switch id by block e first next bytes (was d (entry go (Go id block e first bytes)) has) (had (entry switch (Roll by next)) switched) early;
} where
  was : (d : ℕ) (e : Entry) → Contains (b.stripe d).entries e → Contains (a.stripe d).entries e
  was d e is = subst (λ (es : List Entry). Contains es e) (entries d) is

  had : (e : Entry) → Contains b.keeper.entries e → Contains a.keeper.entries e
  had e is = subst (λ (es : List Entry). Contains es e) kept is

-- each act keeps all this
act-keeps_eras : (n : ℕ) (a : Account) (x : Act) → KeepsWrites n a → KeepsEras a → MayAct n a x → KeepsEras (after a x)
act-keeps_eras n a (stripe_drew k event) writes keeps may = drew-keeps a k event keeps may.1.0
act-keeps_eras n a (keeper_drew event) writes keeps may = kept-keeps n a event writes keeps may.0
act-keeps_eras n a (stay_began stay) writes keeps may = stay-keeps a (after a (stay_began stay)) refl refl refl refl
    (λ d. cond_both (d == stay.stripe) (stripe_in stay (a.stripe d)) (a.stripe d) (λ (s : StripeState). s.entries ≡ (a.stripe d).entries) (λ on. refl) (λ off. refl))
    (λ d. cond_both (d == stay.stripe) (stripe_in stay (a.stripe d)) (a.stripe d) (λ (s : StripeState). s.flight ≡ (a.stripe d).flight) (λ on. refl) (λ off. refl))
    (λ id had. has_go-begun id (id.lane == stay.id.lane) (a.lane id.lane) (OfStay stay) refl ∙ had) keeps
act-keeps_eras n a (stay_ended k begun) writes keeps may = stay-keeps a (after a (stay_ended k begun)) refl refl refl refl
    (λ d. cond_both (d == k) (stripe_out (a.stripe d)) (a.stripe d) (λ (s : StripeState). s.entries ≡ (a.stripe d).entries) (λ on. refl) (λ off. refl))
    (λ d. cond_both (d == k) (stripe_out (a.stripe d)) (a.stripe d) (λ (s : StripeState). s.flight ≡ (a.stripe d).flight) (λ on. refl) (λ off. refl))
    (λ id had. had) keeps
act-keeps_eras n a era_moved writes keeps may = stay-keeps a (after a era_moved) refl refl refl refl (λ d. refl) (λ d. refl) (λ id had. had) keeps
act-keeps_eras n a (exchange_failed miss) writes keeps may = stay-keeps a (after a (exchange_failed miss)) refl refl refl refl (λ d. refl) (λ d. refl) (λ id had. had) keeps

-- legal acts keep it
reach-keeps_eras : (n : ℕ) (a : Account) (acts : List Act) → KeepsWrites n a → KeepsEras a → IsLegalFrom n a acts → KeepsEras (reach a acts)
reach-keeps_eras n a [] writes keeps legal = keeps
reach-keeps_eras n a (x ∷ acts) writes keeps legal = reach-keeps_eras n (after a x) acts (act-keeps_writes n a x writes legal.0) (act-keeps_eras n a x writes keeps legal.0) legal.1

-- nothing is among no entries
none : {P : Type 0} (e : Entry) → Contains [] e → P
none e is = absurd (omega (arith, is.1))

-- from an opening on
pub legal-keeps_eras : (n era : ℕ) (acts : List Act) → IsLegalFrom n (opened era) acts → KeepsEras (reach (opened era) acts)
legal-keeps_eras n era acts legal = reach-keeps_eras n (opened era) acts (opened-keeps_writes n era) (record {
  drawn = λ d e is. none e is;
  kept = λ e is. none e is;
  marks = λ block e never. absurd (false≢true never);
  rolls = λ place by next is. none (entry place (Roll by next)) is;
  gone = λ d place id block e first bytes is. none (entry place (Go id block e first bytes)) is;
  eras = λ d place id block e first bytes is. none (entry place (Go id block e first bytes)) is;
  present = λ d place id block e first bytes is open'. none (entry place (Go id block e first bytes)) is;
  precede = λ d place id block e first bytes is. none (entry place (Go id block e first bytes)) is;
  ends = λ d go place switch id by block e first next bytes other has is of switched later. none (entry place other) is;
  begins = λ d go switch id by block e first next bytes has switched early. none (entry go (Go id block e first bytes)) has;
}) legal
