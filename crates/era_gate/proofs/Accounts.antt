-- What legal acts keep of their account.
use Rattle.std.proofs.Common.{◌≡◌, ℕ, ◌+◌, ◌<◌, ◌≤◌, ◌==◌, ◌&&◌, ◌||◌, Bool, true, false, MatchBool, List, [], ◌∷◌, ◌++◌, None, refl, sym, ap, ◌∙◌, subst, inl, inr, arith, eqb-true}
use Rattle.std.proofs.lemmas.Bool.{or_cases, and_parts, cases_Bool, MatchBool-at_true, MatchBool-at_false}
use Rattle.era_base.specs.declared.ids.CmdId.{CmdId}
use Rattle.era_model.specs.declared.entry.Entry.{Entry}
use Rattle.era_model.specs.declared.event.Event.{Event}
use Rattle.era_model.specs.declared.event.Event.TheVariants.{Mark, Go, Done, Cut, Settle, Roll}
use Rattle.era_gate.specs.declared.states.StripeState.{StripeState}
use Rattle.era_gate.specs.declared.stays.Stay.{Stay}
use Rattle.era_gate.specs.Acts.{Act, Account, stripe_drew, keeper_drew, stay_began, stay_ended, era_moved, exchange_failed, after, reach, opened, stripe_after, flight_after, cut_flight, switched_after, era_after_event, marked_after, stripe_with, stripe_in, stripe_out, entry, inside_of, GateMayGo, StripeMayDraw, KeeperMayDraw, MayAct, IsLegalFrom}
use Rattle.era_gate.specs.Calls.{is_mark, has_mark}
use Rattle.era_gate.proofs.Choices.{at_cond, clash, count_none}

-- the keeper's word and the switches that are drawn
abbrev pub KeepsEra : ℕ → Account → Bool → Type 0
KeepsEra n a switched = MatchBool switched (a.era ≡ a.keeper.era) ((a.era + 1 ≡ a.keeper.era) × ((d : ℕ) → d < n → (a.stripe d).flight ≡ None))

-- the marks are those among the keeper's entries, none of a later era; the word's era is the present one, or the next while nothing is in flight; a stripe outside has no open write
pub record IsSound (n : ℕ) (a : Account) : Type 0 where
  pub marks : (block era : ℕ) → a.marked block era ≡ has_mark block era a.keeper.entries
  pub past : (block era : ℕ) → a.marked block era ≡ true → era ≤ a.era
  pub switch : KeepsEra n a a.keeper.switched
  pub idle : (d : ℕ) → (a.stripe d).inside ≡ false → (a.stripe d).flight ≡ None

-- a mark behind other entries
pub has_mark-behind : (block era : ℕ) (es : List Entry) (e : Entry) → has_mark block era (es ++ e ∷ []) ≡ (is_mark block era e.event || has_mark block era es)
has_mark-behind block era [] e = refl
has_mark-behind block era (x ∷ es) e = rw (has_mark-behind block era es e) (swapped (is_mark block era x.event) (is_mark block era e.event) (has_mark block era es)) where
  swapped : (a b c : Bool) → (a || (b || c)) ≡ (b || (a || c))
  swapped true true c = refl
  swapped true false c = refl
  swapped false b c = refl

-- a stripe that may not issue a write has no open write after its event, if it had none
flight_none : (a : Account) (k : ℕ) (event : Event) → ((id : CmdId) (block era : ℕ) → GateMayGo a k id block era → ⊥) → (a.stripe k).flight ≡ None → StripeMayDraw a k event → flight_after event (a.stripe k).flight ≡ None
flight_none a k (Go id block era first bytes) never none may = absurd (never id block era may)
flight_none a k (Done id) never none may = refl
flight_none a k (Cut id faults) never none may = ap cut_flight none
flight_none a k (Settle by cut bytes) never none may = refl
flight_none a k event never none may = none

-- the same of each stripe, after a stripe's event
drawn_none : (a : Account) (k : ℕ) (event : Event) (d : ℕ) → ((id : CmdId) (block era : ℕ) → d ≡ k → GateMayGo a k id block era → ⊥) → (a.stripe d).flight ≡ None → StripeMayDraw a k event → (stripe_after (stripe_drew k event) a.places d (a.stripe d)).flight ≡ None
drawn_none a k event d never none may = at_cond (λ (s : StripeState). s.flight ≡ None) (d == k) (stripe_with event a.places (a.stripe d)) (a.stripe d)
    (λ on. let same : d ≡ k = eqb-true d k on in subst (λ (j : ℕ). flight_after event (a.stripe j).flight ≡ None) (sym same) (flight_none a k event (λ id block era. never id block era same) (subst (λ (j : ℕ). (a.stripe j).flight ≡ None) same none) may))
    (λ other. none)

-- an event keeps whether a stripe is inside
pub inside_same : (k : ℕ) (event : Event) (place d : ℕ) (s : StripeState) → (stripe_after (stripe_drew k event) place d s).inside ≡ s.inside
inside_same k event place d s = at_cond (λ (t : StripeState). t.inside ≡ s.inside) (d == k) (stripe_with event place s) s (λ on. refl) (λ never. refl)

-- a stay's begin and end keep the open write
pub begin_keeps : (stay : Stay) (place d : ℕ) (s : StripeState) → (stripe_after (stay_began stay) place d s).flight ≡ s.flight
begin_keeps stay place d s = at_cond (λ (t : StripeState). t.flight ≡ s.flight) (d == stay.stripe) (stripe_in stay s) s (λ on. refl) (λ never. refl)

pub end_keeps : (k begun place d : ℕ) (s : StripeState) → (stripe_after (stay_ended k begun) place d s).flight ≡ s.flight
end_keeps k begun place d s = at_cond (λ (t : StripeState). t.flight ≡ s.flight) (d == k) (stripe_out s) s (λ on. refl) (λ never. refl)

-- each event of the keeper keeps the marks
marks_kept : (n : ℕ) (a : Account) (event : Event) → IsSound n a → (block era : ℕ) → marked_after event a.marked block era ≡ (is_mark block era event || has_mark block era a.keeper.entries)
marks_kept n a (Mark id marked stored) sound block era = ap (λ b. (marked == block && stored == era) || b) (sound.marks block era)
marks_kept n a event sound block era = sound.marks block era

past_kept : (n : ℕ) (a : Account) (event : Event) → IsSound n a → KeeperMayDraw n a event → (block era : ℕ) → marked_after event a.marked block era ≡ true → era ≤ era_after_event event a.era
past_kept n a (Mark id marked stored) sound may block era is = elim (or_cases (marked == block && stored == era) (a.marked block era) is) [
  | inl new ↦ let both = and_parts (marked == block) (stored == era) new in let same : stored ≡ era = eqb-true stored era both.1 in let now : stored ≡ a.era = may.0 in omega arith
  | inr old ↦ sound.past block era old
]
past_kept n a (Roll id next) sound may block era is = let before = sound.past block era is in let one : next ≡ a.era + 1 = may.next in omega arith
past_kept n a event sound may block era is = sound.past block era is

switch_kept : (n : ℕ) (a : Account) (event : Event) → IsSound n a → KeeperMayDraw n a event → KeepsEra n (after a (keeper_drew event)) (switched_after event a.keeper.switched)
switch_kept n a (Roll id next) sound may = may.word
switch_kept n a event sound may = sound.switch

-- the era's word after an act that keeps the keeper, where stripes that had no open write have none
same_switch : (n : ℕ) (a b : Account) (switched : Bool) → b.era ≡ a.era → b.keeper.era ≡ a.keeper.era → (switched ≡ false → (d : ℕ) → d < n → (a.stripe d).flight ≡ None → (b.stripe d).flight ≡ None) → KeepsEra n a switched → KeepsEra n b switched
same_switch n a b true era word flights kept = era ∙ kept ∙ sym word
same_switch n a b false era word flights kept = (ap (λ k. k + 1) era ∙ kept.0 ∙ sym word, λ d lt. flights refl d lt (kept.1 d lt))

-- each act keeps a sound account
pub act_sound : (n : ℕ) (a : Account) (x : Act) → IsSound n a → MayAct n a x → IsSound n (after a x)
act_sound n a (stripe_drew k event) sound may = record {
  marks = sound.marks;
  past = sound.past;
  switch = same_switch n a (after a (stripe_drew k event)) a.keeper.switched refl refl (λ off d lt none. drawn_none a k event d (λ id block era same go. clash go.switched off) none may.1.0) sound.switch;
  idle = λ d out.
      let was : (a.stripe d).inside ≡ false = sym (inside_same k event a.places d (a.stripe d)) ∙ out in
      drawn_none a k event d (λ id block era same go. clash go.inside (subst (λ (j : ℕ). (a.stripe j).inside ≡ false) same was)) (sound.idle d was) may.1.0;
}
act_sound n a (keeper_drew event) sound may = record {
  marks = λ block era. marks_kept n a event sound block era ∙ sym (has_mark-behind block era a.keeper.entries (entry a.places event));
  past = past_kept n a event sound may.0;
  switch = switch_kept n a event sound may.0;
  idle = sound.idle;
}
act_sound n a (stay_began stay) sound may = record {
  marks = sound.marks;
  past = sound.past;
  switch = same_switch n a (after a (stay_began stay)) a.keeper.switched refl refl (λ off d lt none. begin_keeps stay a.places d (a.stripe d) ∙ none) sound.switch;
  idle = λ d out. at_cond (λ (s : StripeState). s.inside ≡ false → s.flight ≡ None) (d == stay.stripe) (stripe_in stay (a.stripe d)) (a.stripe d) (λ on never. absurd (clash refl never)) (λ never. sound.idle d) out;
}
act_sound n a (stay_ended k begun) sound may = record {
  marks = sound.marks;
  past = sound.past;
  switch = same_switch n a (after a (stay_ended k begun)) a.keeper.switched refl refl (λ off d lt none. end_keeps k begun a.places d (a.stripe d) ∙ none) sound.switch;
  idle = λ d out. at_cond (λ (s : StripeState). s.inside ≡ false → s.flight ≡ None) (d == k) (stripe_out (a.stripe d)) (a.stripe d) (λ on never. subst (λ (j : ℕ). (a.stripe j).flight ≡ None) (sym (eqb-true d k on)) may.idle) (λ never. sound.idle d) out;
}
act_sound n a era_moved sound may = record {
  marks = sound.marks;
  past = sound.past;
  switch = (ap (λ k. k + 1) (MatchBool-at_true (a.era ≡ a.keeper.era) ((a.era + 1 ≡ a.keeper.era) × ((d : ℕ) → d < n → (a.stripe d).flight ≡ None)) may.switched sound.switch), λ d lt. sound.idle d (count_none n (inside_of a) may.nobody d lt));
  idle = sound.idle;
}
act_sound n a (exchange_failed miss) sound may = record { marks = sound.marks; past = sound.past; switch = sound.switch; idle = sound.idle }

-- the opening is sound
pub opened_sound : (n era : ℕ) → IsSound n (opened era)
opened_sound n era = record { marks = λ block e. refl; past = λ block e never. absurd (clash never refl); switch = refl; idle = λ d out. refl }

-- legal acts keep a sound account
pub reach_sound : (n : ℕ) (a : Account) (xs : List Act) → IsSound n a → IsLegalFrom n a xs → IsSound n (reach a xs)
reach_sound n a [] sound legal = sound
reach_sound n a (x ∷ xs) sound legal = reach_sound n (after a x) xs (act_sound n a x sound legal.0) legal.1

-- acts, and one more
pub reach_more : (a : Account) (xs : List Act) (x : Act) → reach a (xs ++ x ∷ []) ≡ after (reach a xs) x
reach_more a [] x = refl
reach_more a (y ∷ xs) x = reach_more (after a y) xs x

pub legal_more : (n : ℕ) (a : Account) (xs : List Act) (x : Act) → IsLegalFrom n a xs → MayAct n (reach a xs) x → IsLegalFrom n a (xs ++ x ∷ [])
legal_more n a [] x legal may = (may, tt)
legal_more n a (y ∷ xs) x legal may = (legal.0, legal_more n (after a y) xs x legal.1 may)

-- where a block is marked in the word's era, the switch to that era is drawn
pub marked_switched : (n : ℕ) (a : Account) → IsSound n a → (block : ℕ) → a.marked block a.keeper.era ≡ true → (a.keeper.switched ≡ true) × (a.era ≡ a.keeper.era)
marked_switched n a sound block marked = elim (cases_Bool a.keeper.switched) [
  | inl on ↦ (on, MatchBool-at_true (a.era ≡ a.keeper.era) ((a.era + 1 ≡ a.keeper.era) × ((d : ℕ) → d < n → (a.stripe d).flight ≡ None)) on sound.switch)
  | inr never ↦
      let behind = MatchBool-at_false (a.era ≡ a.keeper.era) ((a.era + 1 ≡ a.keeper.era) × ((d : ℕ) → d < n → (a.stripe d).flight ≡ None)) never sound.switch in
      let next = behind.0 in
      let old = sound.past block a.keeper.era marked in
      absurd (omega arith)
]
