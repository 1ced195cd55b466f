-- What a stripe drew: one event, two, or none.
use Rattle.std.proofs.Common.{◌≡◌, ℕ, ◌+◌, Bool, List, [], ◌∷◌, ◌++◌, arith, refl, sym, ap, ◌∙◌, append_assoc}
use Rattle.era_base.specs.declared.ids.CmdId.{CmdId}
use Rattle.era_gate.specs.Calls.{PassToken, pass_draws}
use Rattle.era_gate.specs.Passes.{KeepsPass, no_write}
use Rattle.era_gate.specs.StateAfter.{entry}
use Rattle.era_model.specs.declared.entry.Entry.{Entry}
use Rattle.era_model.specs.declared.event.Event.{Event}
use Rattle.era_notes.specs.Rooms.{entries_in, free_in, last_in}
use Rattle.era_stripe.specs.declared.stripe.Stripe.{Stripe}
use Rattle.era_stripe.specs.Calls.{Drew, DrewOne}

-- a pass is kept over a call that issues no write
keeps-then : (drawn more : ℕ) (issued : CmdId → Bool) (a b c : PassToken) → KeepsPass drawn issued a b → KeepsPass more no_write b c → KeepsPass (drawn + more) issued a c
keeps-then drawn more issued a b c one two = record {
  table = two.table ∙ one.table;
  lanes = λ l. two.lanes l ∙ one.lanes l;
  gone = λ id not_issued. two.gone id refl ∙ one.gone id not_issued;
  budget = omega (arith, one.budget, two.budget);
  floor = omega (arith, one.floor, two.floor);
  begun = λ d. omega (arith, one.begun d, two.begun d);
  ended = λ d. omega (arith, one.ended d, two.ended d);
}

-- one draw
pub drew-one : {D : Type 0} (old new : Stripe D) (pass pass' : PassToken) (event : Event) (place : ℕ) (issued : CmdId → Bool) → entries_in new.entries ≡ entries_in old.entries ++ entry place event ∷ []
    → DrewOne event place issued old.seat.part old.entries new.entries pass pass' → Drew (event ∷ []) issued old new pass pass'
drew-one old new pass pass' event place issued kept did = record {
  kept = record { entries = entry place event ∷ []; are = refl; kept = kept; last = did.last; ascend = (did.next.floor, tt); room = sym did.room };
  receipts = did.lanes;
  keeps = did.keeps;
}

-- two draws
pub drew-two : {D : Type 0} (old one new : Stripe D) (pass mid pass' : PassToken) (first second : Event) (p q : ℕ) (issued : CmdId → Bool)
    → entries_in one.entries ≡ entries_in old.entries ++ entry p first ∷ [] → DrewOne first p issued old.seat.part old.entries one.entries pass mid → mid.part ≡ pass_draws pass.part first p
    → entries_in new.entries ≡ entries_in one.entries ++ entry q second ∷ [] → DrewOne second q no_write one.seat.part one.entries new.entries mid pass' → Drew (first ∷ second ∷ []) issued old new pass pass'
drew-two old one new pass mid pass' first second p q issued kept did is kept' did' = record {
  kept = record {
    entries = entry p first ∷ entry q second ∷ [];
    are = refl;
    kept = kept' ∙ ap (λ entries. entries ++ entry q second ∷ []) kept ∙ append_assoc (entries_in old.entries) (entry p first ∷ []) (entry q second ∷ []);
    last = did'.last ∙ ap (λ entries. entries ++ entry q second ∷ []) did.last ∙ append_assoc (last_in old.entries) (entry p first ∷ []) (entry q second ∷ []);
    ascend = (did.next.floor, (omega (arith, did'.next.floor, ap (λ part. part.floor) is), tt));
    room = omega (arith, did'.room, did.room);
  };
  receipts = did'.lanes ∙ ap (λ part. (pass_draws part second q).lanes) is;
  keeps = keeps-then 1 1 issued pass mid pass' did.keeps did'.keeps;
}

-- what was drawn by a stripe with the same entries
pub drew-from : {D : Type 0} (old mid new : Stripe D) (pass pass' : PassToken) (events : List Event) (issued : CmdId → Bool) → mid.entries ≡ old.entries
    → Drew events issued mid new pass pass' → Drew events issued old new pass pass'
drew-from old mid new pass pass' events issued same drew = record {
  kept = record {
    entries = drew.kept.entries;
    are = drew.kept.are;
    kept = drew.kept.kept ∙ ap (λ entries. entries_in entries ++ drew.kept.entries) same;
    last = drew.kept.last ∙ ap (λ entries. last_in entries ++ drew.kept.entries) same;
    ascend = drew.kept.ascend;
    room = sym (ap free_in same) ∙ drew.kept.room;
  };
  receipts = drew.receipts;
  keeps = drew.keeps;
}

-- nothing is drawn
append-none : (entries : List Entry) → entries ≡ entries ++ []
append-none [] = refl
append-none (entry ∷ entries) = ap (λ es. entry ∷ es) (append-none entries)

pub drew-none : {D : Type 0} (old new : Stripe D) (pass pass' : PassToken) → new.entries ≡ old.entries → pass'.part.lanes ≡ pass.part.lanes → KeepsPass 0 no_write pass pass' → Drew [] no_write old new pass pass'
drew-none old new pass pass' same lanes keeps = record {
  kept = record { entries = []; are = refl; kept = ap entries_in same ∙ append-none (entries_in old.entries); last = ap last_in same ∙ append-none (last_in old.entries); ascend = tt; room = omega (arith, ap free_in same) };
  receipts = lanes;
  keeps = keeps;
}
