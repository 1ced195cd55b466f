-- Receipts from call to call: those of one draw, of several, and of calls one after the other.
use Rattle.std.proofs.Common.{◌≡◌, ℕ, ◌+◌, ◌==◌, Bool, true, false, cond, List, [], ◌∷◌, ◌++◌, length, map, filter, refl, sym, ap, ap₂, ◌∙◌, subst, arith}
use Rattle.std.proofs.lemmas.List.{append_assoc, append-nil, length-append}
use Rattle.std.proofs.lemmas.List.Elements.{filter-append}
use Rattle.era_base.specs.declared.ids.CmdId.{CmdId}
use Rattle.era_gate.specs.Calls.{PassToken, pass_draws, pass_enters, receives}
use Rattle.era_gate.specs.Passes.{KeepsPass, no_write}
use Rattle.era_gate.specs.Receipts.{entries_in}
use Rattle.era_gate.specs.declared.parts.LanePart.{LanePart}
use Rattle.era_gate.specs.declared.parts.PassPart.{PassPart}
use Rattle.era_gate.specs.declared.stays.Receipt.{Receipt}
use Rattle.era_gate.specs.declared.stays.Receipt.TheVariants.{OfEvent, OfStay}
use Rattle.era_gate.specs.declared.stays.Stay.{Stay}
use Rattle.era_keeper.specs.Calls.{Drew as KeeperDrew, after_draws as keeper_draws}
use Rattle.era_keeper.specs.declared.keeper.Keeper.{Keeper}
use Rattle.era_model.specs.declared.entry.Entry.{Entry}
use Rattle.era_model.specs.declared.event.Event.{Event}
use Rattle.era_notes.specs.Rooms.{last_in}
use Rattle.era_notes.specs.declared.chunks.Chunks.{Chunks}
use Rattle.era_session.specs.Chunks.{ChunkDrew}
use Rattle.era_session.specs.Receipts.{PassDrew, events_in, gets, receipt_lane}
use Rattle.era_stripe.specs.Calls.{Drew as StripeDrew, after_draws as stripe_draws}
use Rattle.era_stripe.specs.declared.stripe.Stripe.{Stripe}

-- a lane that gets some receipts and then others gets all of them
gets-both : (a b : List Receipt) (part : LanePart) → gets b (gets a part) ≡ gets (a ++ b) part
gets-both a b part =
    let mine : Receipt → Bool = λ receipt. part.lane == receipt_lane receipt in
    ap (λ (all : List Receipt). record { lane = part.lane; receipts = all })
    (append_assoc part.receipts (filter mine a) (filter mine b) ∙ ap (λ l. part.receipts ++ l) (sym (filter-append mine a b)))

lanes-both : (a b : List Receipt) (lanes : List LanePart) → map (gets b) (map (gets a) lanes) ≡ map (gets (a ++ b)) lanes
lanes-both a b [] = refl
lanes-both a b (part ∷ lanes) = ap₂ (λ (x : LanePart) (l : List LanePart). x ∷ l) (gets-both a b part) (lanes-both a b lanes)

-- lanes that get nothing stay
lanes-none : (lanes : List LanePart) → lanes ≡ map (gets []) lanes
lanes-none [] = refl
lanes-none (part ∷ lanes) = ap₂ (λ (x : LanePart) (l : List LanePart). x ∷ l) (ap (λ (all : List Receipt). record { lane = part.lane; receipts = all }) (sym (append-nil part.receipts))) (lanes-none lanes)

-- one receipt
gets-one : (receipt : Receipt) (part : LanePart) → receives (receipt_lane receipt) receipt part ≡ gets (receipt ∷ []) part
gets-one receipt part = on (part.lane == receipt_lane receipt)
  where
    on : (mine : Bool) → ◌≡◌ {A = LanePart} (record { lane = part.lane; receipts = cond mine (part.receipts ++ receipt ∷ []) part.receipts })
        (record { lane = part.lane; receipts = part.receipts ++ cond mine (receipt ∷ []) [] })
    on true = refl
    on false = ap (λ (all : List Receipt). record { lane = part.lane; receipts = all }) (sym (append-nil part.receipts))

lanes-one : (receipt : Receipt) (lanes : List LanePart) → map (receives (receipt_lane receipt) receipt) lanes ≡ map (gets (receipt ∷ [])) lanes
lanes-one receipt [] = refl
lanes-one receipt (part ∷ lanes) = ap₂ (λ (x : LanePart) (l : List LanePart). x ∷ l) (gets-one receipt part) (lanes-one receipt lanes)

-- the receipts of entries
abbrev of-entries : List Entry → List Receipt
of-entries [] = []
of-entries (e ∷ entries) = OfEvent e ∷ of-entries entries

of-entries-are : (entries : List Entry) → entries_in (of-entries entries) ≡ entries
of-entries-are [] = refl
of-entries-are (e ∷ entries) = ap (λ l. e ∷ l) (of-entries-are entries)

pub entries-both : (a b : List Receipt) → entries_in (a ++ b) ≡ entries_in a ++ entries_in b
entries-both [] b = refl
entries-both (OfEvent e ∷ a) b = ap (λ l. e ∷ l) (entries-both a b)
entries-both (OfStay stay ∷ a) b = entries-both a b

events-both : (a b : List Entry) → events_in (a ++ b) ≡ events_in a ++ events_in b
events-both [] b = refl
events-both (e ∷ a) b = ap (λ l. e.event ∷ l) (events-both a b)

stripe-lanes : (entries : List Entry) (pass : PassPart) → (stripe_draws pass entries).lanes ≡ map (gets (of-entries entries)) pass.lanes
stripe-lanes [] pass = lanes-none pass.lanes
stripe-lanes (e ∷ entries) pass =
    stripe-lanes entries (pass_draws pass e.event e.place)
    ∙ ap (map (gets (of-entries entries))) (lanes-one (OfEvent e) pass.lanes)
    ∙ lanes-both (OfEvent e ∷ []) (of-entries entries) pass.lanes

keeper-lanes : (entries : List Entry) (pass : PassPart) → (keeper_draws pass entries).lanes ≡ map (gets (of-entries entries)) pass.lanes
keeper-lanes [] pass = lanes-none pass.lanes
keeper-lanes (e ∷ entries) pass =
    keeper-lanes entries (pass_draws pass e.event e.place)
    ∙ ap (map (gets (of-entries entries))) (lanes-one (OfEvent e) pass.lanes)
    ∙ lanes-both (OfEvent e ∷ []) (of-entries entries) pass.lanes

-- what a pass drew, with its entries
pub record DrewTrail (events : List Event) (trail : List Entry) (issued : CmdId → Bool) (a b : PassToken) : Type 0 where
  pub drew : PassDrew events issued a b
  pub are : entries_in drew.receipts ≡ trail

pub own-trail : (events : List Event) (issued : CmdId → Bool) (a b : PassToken) (drew : PassDrew events issued a b) → DrewTrail events (entries_in drew.receipts) issued a b
own-trail events issued a b drew = record { drew = drew; are = refl }

-- chunks that had no entries of the command have just those that it drew
pub last-first : (old new : Chunks) (own : List Entry) → last_in old ≡ [] → last_in new ≡ last_in old ++ own → last_in new ≡ own
last-first old new own none last = last ∙ ap (λ (es : List Entry). es ++ own) none

-- what a stripe drew, by its receipts
pub stripe-trail : {D : Type 0} (events : List Event) (issued : CmdId → Bool) (old new : Stripe D) (pass pass' : PassToken) (drew : StripeDrew events issued old new pass pass') → DrewTrail events drew.kept.entries issued pass pass'
stripe-trail events issued old new pass pass' drew = record {
  drew = record {
    receipts = of-entries drew.kept.entries;
    are = ap events_in (of-entries-are drew.kept.entries) ∙ drew.kept.are;
    lanes = drew.receipts ∙ stripe-lanes drew.kept.entries pass.part;
    keeps = drew.keeps;
  };
  are = of-entries-are drew.kept.entries;
}

pub stripe-drew : {D : Type 0} (events : List Event) (issued : CmdId → Bool) (old new : Stripe D) (pass pass' : PassToken) → StripeDrew events issued old new pass pass'
    → ChunkDrew events issued pass pass' old.entries new.entries
stripe-drew events issued old new pass pass' drew =
    let trail = stripe-trail events issued old new pass pass' drew in
    record { drew = trail.drew; last = drew.kept.last ∙ ap (λ (es : List Entry). last_in old.entries ++ es) (sym trail.are) }

-- what the keeper drew, by its receipts
pub keeper-trail : {D : Type 0} (events : List Event) (old new : Keeper D) (pass pass' : PassToken) (drew : KeeperDrew events old new pass pass') → DrewTrail events drew.kept.entries no_write pass pass'
keeper-trail events old new pass pass' drew = record {
  drew = record {
    receipts = of-entries drew.kept.entries;
    are = ap events_in (of-entries-are drew.kept.entries) ∙ drew.kept.are;
    lanes = drew.receipts ∙ keeper-lanes drew.kept.entries pass.part;
    keeps = drew.keeps;
  };
  are = of-entries-are drew.kept.entries;
}

pub keeper-drew : {D : Type 0} (events : List Event) (old new : Keeper D) (pass pass' : PassToken) → KeeperDrew events old new pass pass' → ChunkDrew events no_write pass pass' old.entries new.entries
keeper-drew events old new pass pass' drew =
    let trail = keeper-trail events old new pass pass' drew in
    record { drew = trail.drew; last = drew.kept.last ∙ ap (λ (es : List Entry). last_in old.entries ++ es) (sym trail.are) }

-- whoever kept a pass twice kept it, but for the writes of both
pub keeps-both : (m n : ℕ) (one other issued : CmdId → Bool) (a b c : PassToken) → ((id : CmdId) → issued id ≡ false → (one id ≡ false) × (other id ≡ false)) → KeepsPass m one a b → KeepsPass n other b c → KeepsPass (m + n) issued a c
keeps-both m n one other issued a b c covers first second = record {
  table = second.table ∙ first.table;
  lanes = λ l. second.lanes l ∙ first.lanes l;
  gone = λ id none. let both = covers id none in second.gone id both.1 ∙ first.gone id both.0;
  budget = let x = first.budget in let y = second.budget in omega (arith, x, y);
  floor = let x = first.floor in let y = second.floor in omega (arith, x, y);
  begun = λ d. let x = first.begun d in let y = second.begun d in omega (arith, x, y);
  ended = λ d. let x = first.ended d in let y = second.ended d in omega (arith, x, y);
}

-- a pass that drew some events and then others drew all of them
pub trail-both : (first second : List Event) (before after : List Entry) (one other issued : CmdId → Bool) (a b c : PassToken) → ((id : CmdId) → issued id ≡ false → (one id ≡ false) × (other id ≡ false)) → DrewTrail first before one a b
    → DrewTrail second after other b c → DrewTrail (first ++ second) (before ++ after) issued a c
trail-both first second before after one other issued a b c covers x y = record {
  drew = record {
    receipts = x.drew.receipts ++ y.drew.receipts;
    are = ap events_in (entries-both x.drew.receipts y.drew.receipts) ∙ events-both (entries_in x.drew.receipts) (entries_in y.drew.receipts)
        ∙ ap₂ (λ (one two : List Event). one ++ two) x.drew.are y.drew.are;
    lanes = y.drew.lanes ∙ ap (map (gets y.drew.receipts)) x.drew.lanes ∙ lanes-both x.drew.receipts y.drew.receipts a.part.lanes;
    keeps = subst (λ n. KeepsPass n issued a c) (sym (length-append first second)) (keeps-both (length first) (length second) one other issued a b c covers x.drew.keeps y.drew.keeps);
  };
  are = entries-both x.drew.receipts y.drew.receipts ∙ ap₂ (λ (one two : List Entry). one ++ two) x.are y.are;
}

-- what issued no write, or one of these alone, issued no others
pub trail-wider : (events : List Event) (trail : List Entry) (one issued : CmdId → Bool) (a b : PassToken) → ((id : CmdId) → issued id ≡ false → one id ≡ false) → DrewTrail events trail one a b → DrewTrail events trail issued a b
trail-wider events trail one issued a b covers x = record {
  drew = record {
    receipts = x.drew.receipts;
    are = x.drew.are;
    lanes = x.drew.lanes;
    keeps = record {
      table = x.drew.keeps.table;
      lanes = x.drew.keeps.lanes;
      gone = λ id none. x.drew.keeps.gone id (covers id none);
      budget = x.drew.keeps.budget;
      floor = x.drew.keeps.floor;
      begun = x.drew.keeps.begun;
      ended = x.drew.keeps.ended;
    };
  };
  are = x.are;
}

-- no event is of no entry
pub no-entries : (entries : List Entry) → events_in entries ≡ [] → entries ≡ []
no-entries [] is = refl
no-entries (e ∷ entries) is = absurd (let none = ap (λ (es : List Event). length es) is in omega (arith, none))

-- a pass whose lanes stay drew nothing
pub trail-nothing : (issued : CmdId → Bool) (a b : PassToken) → b.part.lanes ≡ a.part.lanes → KeepsPass 0 issued a b → DrewTrail [] [] issued a b
trail-nothing issued a b same keeps = record { drew = record { receipts = []; are = refl; lanes = same ∙ lanes-none a.part.lanes; keeps = keeps }; are = refl }

-- a pass by which a stripe entered has the receipt of the stay, and drew nothing
pub drew-entering : (stay : Stay) (a b : PassToken) → b ≡ record { table = a.table; part = pass_enters a.part stay } → KeepsPass 0 no_write a b → PassDrew [] no_write a b
drew-entering stay a b entered keeps = record {
  receipts = OfStay stay ∷ [];
  are = refl;
  lanes = ap (λ (pass : PassToken). pass.part.lanes) entered ∙ lanes-one (OfStay stay) a.part.lanes;
  keeps = keeps;
}
