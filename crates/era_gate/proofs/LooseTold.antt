-- What legal acts keep of failed exchanges: stays account for each, and refused switches tell of them.
use Rattle.std.proofs.Common.{◌≡◌, ℕ, ◌+◌, ◌≤◌, ◌==◌, List, [], ◌∷◌, ◌++◌, append_assoc, length, Option, Some, None, refl, sym, ap, ◌∙◌, arith, eqb-true}
use Rattle.std.specs.Prelude.{All, IfSome, map}
use Rattle.std.proofs.lemmas.Bool.{cond_both}
use Rattle.std.proofs.lemmas.List.{append-nil, map-append}
use Rattle.std.proofs.lemmas.List.Elements.{All-nil, All-cons, All-append, All-weaker}
use Rattle.std.proofs.lemmas.Option.{IfSome_then}
use Rattle.era_model.specs.declared.entry.Entry.{Entry}
use Rattle.era_model.specs.declared.event.Event.{Event}
use Rattle.era_model.specs.declared.event.Event.TheVariants.{Kept}
use Rattle.era_gate.specs.declared.states.StripeState.{StripeState}
use Rattle.era_gate.specs.declared.stays.Miss.{Miss}
use Rattle.era_gate.specs.declared.stays.Stay.{Stay}
use Rattle.era_gate.specs.declared.stays.Told.{Told}
use Rattle.era_gate.specs.Acts.{Act, Account, stripe_drew, keeper_drew, stay_began, stay_ended, era_moved, exchange_failed, after, reach, opened, entry, stripe_with, stripe_in, stripe_out, pending_after, told_of, told_by, found_of, inside_of, KeeperMayDraw, MayFail, MayBegin, MayAct, IsLegalFrom}
use Rattle.era_gate.specs.Loose.{AreStaysOf, loose_in, stays_of, kept_by, kept_in, place_and_count}
use Rattle.era_gate.proofs.LooseStays.{AreStaysOf-later, AreStaysOf-more, loose-more, last-loose, count-loose}

-- as many stays are loose by a place as an exchange found inside
abbrev pub IsBounded : ℕ → (ℕ → List Stay) → ℕ → Miss → Type 0
IsBounded n stays place miss = miss.found ≤ loose_in n place miss.ended stays

-- stays are numbered, account for the pending failed exchange and for those that were told, and these are the refused switches
pub record KeepsStays (n : ℕ) (a : Account) : Type 0 where
  pub stays : (d : ℕ) → AreStaysOf d a.places 0 (stays_of a d)
  pub pending : IfSome a.keeper.pending (IsBounded n (stays_of a) a.places)
  pub told : All (λ (told : Told). IsBounded n (stays_of a) told.place told.miss) a.keeper.told
  pub kept : map place_and_count a.keeper.told ≡ kept_in a.keeper.entries

-- each stripe's stays are the earlier ones and further ones
abbrev Grows : (ℕ → List Stay) → (ℕ → List Stay) → Type 0
Grows stays longer = (d : ℕ) → (extra : List Stay) × (longer d ≡ stays d ++ extra)

-- the same stays
same-grow : (stays longer : ℕ → List Stay) → ((d : ℕ) → longer d ≡ stays d) → Grows stays longer
same-grow stays longer same = λ d. ([], same d ∙ sym (append-nil (stays d)))

-- what is pending and what was told stays bounded
pending-later : (n place later : ℕ) (stays longer : ℕ → List Stay) (pending : Option Miss) → place ≤ later → Grows stays longer → IfSome pending (IsBounded n stays place) → IfSome pending (IsBounded n longer later)
pending-later n place later stays longer pending le grown is = IfSome_then pending is (λ miss bounded. let more = loose-more n place later miss.ended stays longer le grown in omega (arith, bounded, more))

told-later : (n : ℕ) (stays longer : ℕ → List Stay) (told : List Told) → Grows stays longer → All (λ (t : Told). IsBounded n stays t.place t.miss) told → All (λ (t : Told). IsBounded n longer t.place t.miss) told
told-later n stays longer told grown are = All-weaker (λ (t : Told). IsBounded n stays t.place t.miss) (λ (t : Told). IsBounded n longer t.place t.miss)
    (λ t bounded. let more = loose-more n t.place t.place t.miss.ended stays longer (omega arith) grown in omega (arith, bounded, more)) told are

-- an act that leaves the keeper alone
other-keeps : (n : ℕ) (a b : Account) → a.places ≤ b.places → Grows (stays_of a) (stays_of b) → ((d : ℕ) → AreStaysOf d b.places 0 (stays_of b d))
    → b.keeper.pending ≡ a.keeper.pending → b.keeper.told ≡ a.keeper.told → b.keeper.entries ≡ a.keeper.entries → KeepsStays n a → KeepsStays n b
other-keeps n a b le grown stays pending told entries keeps = record {
  stays = stays;
  pending = rw pending (pending-later n a.places b.places (stays_of a) (stays_of b) a.keeper.pending le grown keeps.pending);
  told = rw told (told-later n (stays_of a) (stays_of b) a.keeper.told grown keeps.told);
  kept = rw (told, entries) keeps.kept;
}

-- refused switches among entries, and in one more
kept_in-behind : (es : List Entry) (place : ℕ) (event : Event) → kept_in (es ++ entry place event ∷ []) ≡ kept_in es ++ kept_by place event
kept_in-behind [] place event = append-nil (kept_by place event)
kept_in-behind (e ∷ es) place event = ap (λ ks. kept_by e.place e.event ++ ks) (kept_in-behind es place event) ∙ sym (append_assoc (kept_by e.place e.event) (kept_in es) (kept_by place event))

-- a refused switch tells of what is pending
told-kept : (n place inside : ℕ) (stays : ℕ → List Stay) (pending : Option Miss) → IfSome pending (IsBounded n stays place) → found_of pending ≡ Some inside
    → All (λ (t : Told). IsBounded n stays t.place t.miss) (told_of pending place) × (map place_and_count (told_of pending place) ≡ (place, inside) ∷ [])
told-kept n place inside stays None bounded is = absurd (cc)
told-kept n place inside stays (Some miss) bounded is =
    let found : miss.found ≡ inside = cc in (
      All-cons (λ (t : Told). IsBounded n stays t.place t.miss) (record { miss = miss; place = place }) [] bounded (All-nil (λ (t : Told). IsBounded n stays t.place t.miss)),
      ap (λ (k : ℕ). (place, k) ∷ []) found,
    )

-- what an event of the keeper tells
told-drawn : (n : ℕ) (a : Account) (event : Event) → KeepsStays n a → KeeperMayDraw n a event
    → All (λ (t : Told). IsBounded n (stays_of a) t.place t.miss) (told_by event a.places a.keeper.pending) × (map place_and_count (told_by event a.places a.keeper.pending) ≡ kept_by a.places event)
told-drawn n a (Kept id inside) keeps may = told-kept n a.places inside (stays_of a) a.keeper.pending keeps.pending may
told-drawn n a event keeps may = (All-nil (λ (t : Told). IsBounded n (stays_of a) t.place t.miss), refl)

-- what is pending after it
pending-drawn : (n : ℕ) (stays : ℕ → List Stay) (place : ℕ) (event : Event) (pending : Option Miss) → IfSome pending (IsBounded n stays place) → IfSome (pending_after event pending) (IsBounded n stays place)
pending-drawn n stays place (Kept id inside) pending is = tt
pending-drawn n stays place event pending is = is

-- the keeper's event keeps it
keeper-keeps : (n : ℕ) (a : Account) (event : Event) → KeepsStays n a → KeeperMayDraw n a event → KeepsStays n (after a (keeper_drew event))
keeper-keeps n a event keeps may =
    let new = told-drawn n a event keeps may in
    record {
      stays = λ d. AreStaysOf-later d a.places (a.places + 1) 0 (stays_of a d) (omega arith) (keeps.stays d);
      pending = pending-later n a.places (a.places + 1) (stays_of a) (stays_of a) (pending_after event a.keeper.pending) (omega arith) (same-grow (stays_of a) (stays_of a) (λ d. refl))
          (pending-drawn n (stays_of a) a.places event a.keeper.pending keeps.pending);
      told = All-append (λ (t : Told). IsBounded n (stays_of a) t.place t.miss) a.keeper.told (told_by event a.places a.keeper.pending) keeps.told new.0;
      kept = map-append place_and_count a.keeper.told (told_by event a.places a.keeper.pending)
          ∙ (ap (λ ks. ks ++ map place_and_count (told_by event a.places a.keeper.pending)) keeps.kept
          ∙ (ap (λ ks. kept_in a.keeper.entries ++ ks) new.1 ∙ sym (kept_in-behind a.keeper.entries a.places event)));
    }

-- the begin of a stay gives its stripe one more
begun-stays : (n : ℕ) (a : Account) (stay : Stay) → KeepsStays n a → MayBegin n a stay → (d : ℕ) → AreStaysOf d a.places 0 (stays_of (after a (stay_began stay)) d)
begun-stays n a stay keeps may d = cond_both (d == stay.stripe) (stripe_in stay (a.stripe d)) (a.stripe d) (λ (s : StripeState). AreStaysOf d a.places 0 s.stays)
    (λ on.
    let same : d ≡ stay.stripe = eqb-true d stay.stripe on in
    let number : stay.number ≡ length (a.stripe d).stays = may.number ∙ ap (λ (k : ℕ). length (a.stripe k).stays) (sym same) in
    AreStaysOf-more d a.places 0 (stays_of a d) stay (sym same) (omega arith) may.floor (keeps.stays d))
    (λ off. keeps.stays d)

begun-grow : (a : Account) (stay : Stay) → Grows (stays_of a) (stays_of (after a (stay_began stay)))
begun-grow a stay d = cond_both (d == stay.stripe) (stripe_in stay (a.stripe d)) (a.stripe d) (λ (s : StripeState). (extra : List Stay) × (s.stays ≡ stays_of a d ++ extra))
    (λ on. (stay ∷ [], refl)) (λ off. ([], sym (append-nil (stays_of a d))))

-- a failed exchange is accounted for by the last stays of those inside
failed-bounded : (n : ℕ) (a : Account) (miss : Miss) → KeepsStays n a → MayFail n a miss → IsBounded n (stays_of a) a.places miss
failed-bounded n a miss keeps may =
    let all = count-loose n a.places miss.ended (inside_of a) (stays_of a) (λ d lt on. let few = may.loose d lt on in last-loose d a.places 0 miss.ended (stays_of a d) (keeps.stays d) (omega (arith, few)) (omega (arith, few))) in
    omega (arith, all, may.found)

-- each act keeps it
act-keeps_stays : (n : ℕ) (a : Account) (x : Act) → KeepsStays n a → MayAct n a x → KeepsStays n (after a x)
act-keeps_stays n a (stripe_drew k event) keeps may =
    let same = λ (d : ℕ). cond_both (d == k) (stripe_with event a.places (a.stripe d)) (a.stripe d) (λ (s : StripeState). s.stays ≡ stays_of a d) (λ on. refl) (λ off. refl) in
    other-keeps n a (after a (stripe_drew k event)) (omega arith) (same-grow (stays_of a) (stays_of (after a (stripe_drew k event))) same)
    (λ d. rw (same d) (AreStaysOf-later d a.places (a.places + 1) 0 (stays_of a d) (omega arith) (keeps.stays d))) refl refl refl keeps
act-keeps_stays n a (keeper_drew event) keeps may = keeper-keeps n a event keeps may.0
act-keeps_stays n a (stay_began stay) keeps may = other-keeps n a (after a (stay_began stay)) (omega arith) (begun-grow a stay) (begun-stays n a stay keeps may) refl refl refl keeps
act-keeps_stays n a (stay_ended k begun) keeps may =
    let same = λ (d : ℕ). cond_both (d == k) (stripe_out (a.stripe d)) (a.stripe d) (λ (s : StripeState). s.stays ≡ stays_of a d) (λ on. refl) (λ off. refl) in
    other-keeps n a (after a (stay_ended k begun)) (omega arith) (same-grow (stays_of a) (stays_of (after a (stay_ended k begun))) same) (λ d. rw (same d) (keeps.stays d)) refl refl refl keeps
act-keeps_stays n a era_moved keeps may = record { stays = keeps.stays; pending = keeps.pending; told = keeps.told; kept = keeps.kept }
act-keeps_stays n a (exchange_failed miss) keeps may = record { stays = keeps.stays; pending = failed-bounded n a miss keeps may; told = keeps.told; kept = keeps.kept }

-- legal acts keep it
reach-keeps_stays : (n : ℕ) (a : Account) (acts : List Act) → KeepsStays n a → IsLegalFrom n a acts → KeepsStays n (reach a acts)
reach-keeps_stays n a [] keeps legal = keeps
reach-keeps_stays n a (x ∷ acts) keeps legal = reach-keeps_stays n (after a x) acts (act-keeps_stays n a x keeps legal.0) legal.1

-- from an opening on
pub legal-keeps_stays : (n era : ℕ) (acts : List Act) → IsLegalFrom n (opened era) acts → KeepsStays n (reach (opened era) acts)
legal-keeps_stays n era acts legal = reach-keeps_stays n (opened era) acts (record { stays = λ d. tt; pending = tt; told = All-nil (λ (t : Told). IsBounded n (λ d. []) t.place t.miss); kept = refl }) legal
