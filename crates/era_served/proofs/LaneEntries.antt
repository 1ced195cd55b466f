-- The entries of lanes of which one alone got receipts.
use Rattle.std.proofs.Common.{◌≡◌, ℕ, zero, suc, ◌+◌, ◌<◌, ◌==◌, cond, Bool, true, false, List, [], ◌∷◌, ◌++◌, map, filter, refl, sym, ap, ap₂, ◌∙◌, inl, inr, eqb-true}
use Rattle.std.proofs.lemmas.Bool.{eq-eqb, false≢true, or_cases}
use Rattle.std.specs.Prelude.{All}
use Rattle.std.proofs.lemmas.List.Elements.{All-head, All-tail}
use Rattle.era_base.specs.Flags.{tabulate}
use Rattle.era_base.specs.declared.ids.CmdId.{CmdId}
use Rattle.era_gate.specs.Acts.{lane_of}
use Rattle.era_gate.specs.Parts.{has_lane, new_lane}
use Rattle.era_gate.specs.Receipts.{entries_for, entries_in}
use Rattle.era_gate.specs.Rule.{Each}
use Rattle.era_gate.specs.declared.parts.LanePart.{LanePart}
use Rattle.era_gate.specs.declared.stays.Receipt.{Receipt}
use Rattle.era_gate.specs.declared.stays.Receipt.TheVariants.{OfEvent, OfStay}
use Rattle.era_model.specs.Events.{drawn_by}
use Rattle.era_model.specs.declared.entry.Entry.{Entry}
use Rattle.era_session.specs.Receipts.{gets, receipt_lane}

-- An entry is of a lane.
abbrev pub IsOf : ℕ → Entry → Type 0
IsOf lane e = lane_of e.event ≡ lane

-- what a command drew is of its lane
pub of-lane : (lane number : ℕ) (es : List Entry) → Each (λ (e : Entry). drawn_by e.event ≡ record { lane = lane; number = number }) es → Each (IsOf lane) es
of-lane lane number [] own = tt
of-lane lane number (e ∷ es) own = (ap (λ (id : CmdId). id.lane) own.0, of-lane lane number es own.1)

-- the entries of receipts in a row
entries-append : (rs ss : List Receipt) → entries_in (rs ++ ss) ≡ entries_in rs ++ entries_in ss
entries-append [] ss = refl
entries-append (OfEvent e ∷ rs) ss = ap (λ es. e ∷ es) (entries-append rs ss)
entries-append (OfStay stay ∷ rs) ss = entries-append rs ss

event-chosen : (b : Bool) (e : Entry) (rs : List Receipt) (es : List Entry) → entries_in rs ≡ es → entries_in (cond b (OfEvent e ∷ rs) rs) ≡ cond b (e ∷ es) es
event-chosen true e rs es is = ap (λ x. e ∷ x) is
event-chosen false e rs es is = is

stay-chosen : (b : Bool) (r : Receipt) (rs : List Receipt) → entries_in (r ∷ rs) ≡ entries_in rs → entries_in (cond b (r ∷ rs) rs) ≡ entries_in rs
stay-chosen true r rs none = none
stay-chosen false r rs none = refl

-- the entries of the receipts that are for a lane
entries-got : (l : ℕ) (receipts : List Receipt) → entries_in (filter (λ receipt. l == receipt_lane receipt) receipts) ≡ entries_for l (entries_in receipts)
entries-got l [] = refl
entries-got l (OfEvent e ∷ rs) = event-chosen (l == lane_of e.event) e (filter (λ receipt. l == receipt_lane receipt) rs) (entries_for l (entries_in rs)) (entries-got l rs)
entries-got l (OfStay stay ∷ rs) = stay-chosen (l == stay.id.lane) (OfStay stay) (filter (λ receipt. l == receipt_lane receipt) rs) refl ∙ entries-got l rs

-- of entries of one lane that lane has all, and another none
for-lane : (l lane : ℕ) (b : Bool) (es : List Entry) → (l == lane) ≡ b → Each (IsOf lane) es → entries_for l es ≡ cond b es []
for-lane l lane true [] is own = refl
for-lane l lane false [] is own = refl
for-lane l lane true (e ∷ es) is own = rw (own.0, is) (ap (λ x. e ∷ x) (for-lane l lane true es is own.1))
for-lane l lane false (e ∷ es) is own = rw (own.0, is) (for-lane l lane false es is own.1)

-- A lane has just these entries if it is the one, and none if it is another.
abbrev pub HasOnly : ℕ → List Entry → LanePart → Type 0
HasOnly lane es part = entries_in part.receipts ≡ cond (part.lane == lane) es []

-- new lanes have none
none-chosen : (b : Bool) (none : List Entry) → none ≡ cond b none none
none-chosen true none = refl
none-chosen false none = refl

pub new-lanes : (lane first count : ℕ) → Each (HasOnly lane []) (tabulate first count new_lane)
new-lanes lane first zero = tt
new-lanes lane first (suc count) = (none-chosen (first == lane) [], new-lanes lane (first + 1) count)

-- lanes that got receipts of entries of the one
joined-choice : (b : Bool) (es more : List Entry) → cond b es [] ++ cond b more [] ≡ cond b (es ++ more) []
joined-choice true es more = refl
joined-choice false es more = refl

got-lane : (lane : ℕ) (es more : List Entry) (receipts : List Receipt) (part : LanePart) → entries_in receipts ≡ more → Each (IsOf lane) more → HasOnly lane es part → HasOnly lane (es ++ more) (gets receipts part)
got-lane lane es more receipts part are own has =
    let new : entries_in (filter (λ receipt. part.lane == receipt_lane receipt) receipts) ≡ cond (part.lane == lane) more [] =
    entries-got part.lane receipts ∙ ap (entries_for part.lane) are ∙ for-lane part.lane lane (part.lane == lane) more refl own in
    entries-append part.receipts (filter (λ receipt. part.lane == receipt_lane receipt) receipts) ∙ ap₂ (λ xs ys. xs ++ ys) has new ∙ joined-choice (part.lane == lane) es more

pub got-lanes : (lane : ℕ) (es more : List Entry) (receipts : List Receipt) (lanes : List LanePart) → entries_in receipts ≡ more → Each (IsOf lane) more → Each (HasOnly lane es) lanes → Each (HasOnly lane (es ++ more)) (map (gets receipts) lanes)
got-lanes lane es more receipts [] are own has = tt
got-lanes lane es more receipts (part ∷ lanes) are own has =
    (got-lane lane es more receipts part are own has.0, got-lanes lane es more receipts lanes are own has.1)

-- the lane of a number among lanes whose receipts are told
pub told-lane : (told : ℕ → List Receipt) (lane : ℕ) (es : List Entry) (lanes : List LanePart) (l : ℕ) → has_lane l lanes ≡ true → Each (λ (part : LanePart). told part.lane ≡ part.receipts) lanes → Each (HasOnly lane es) lanes
    → entries_in (told l) ≡ cond (l == lane) es []
told-lane told lane es [] l there are has = absurd (false≢true there)
told-lane told lane es (part ∷ lanes) l there are has = elim (or_cases (l == part.lane) (has_lane l lanes) there) [
  | inl here ↦ rw (eqb-true l part.lane here) (ap entries_in are.0 ∙ has.0)
  | inr rest ↦ told-lane told lane es lanes l rest are.1 has.1
]

-- An entry is of one of 65 lanes.
abbrev pub IsLow : Entry → Type 0
IsLow e = lane_of e.event < 65

-- entries of which each lane but one has none are of that one
cons-none : {P : Type 0} (b : Bool) (e : Entry) (es : List Entry) → b ≡ true → cond b (e ∷ es) es ≡ [] → P
cons-none true e es is none = absurd (cc)
cons-none false e es is none = absurd (false≢true is)

rest-none : (b : Bool) (e : Entry) (es : List Entry) → cond b (e ∷ es) es ≡ [] → es ≡ []
rest-none true e es none = absurd (cc)
rest-none false e es none = none

first-of-lane : (lane : ℕ) (b : Bool) (e : Entry) (es : List Entry) → (lane_of e.event == lane) ≡ b → lane_of e.event < 65 → ((l : ℕ) → l < 65 → (l == lane) ≡ false → entries_for l (e ∷ es) ≡ []) → entries_for lane es ≡ es
    → entries_for lane (e ∷ es) ≡ e ∷ es
first-of-lane lane true e es is low none rest = rw (eq-eqb lane (lane_of e.event) (sym (eqb-true (lane_of e.event) lane is))) (ap (λ xs. e ∷ xs) rest)
first-of-lane lane false e es is low none rest =
    cons-none (lane_of e.event == lane_of e.event) e (entries_for (lane_of e.event) es) (eq-eqb (lane_of e.event) (lane_of e.event) refl) (none (lane_of e.event) low is)

all-of-lane : (lane : ℕ) (es : List Entry) → All IsLow es → ((l : ℕ) → l < 65 → (l == lane) ≡ false → entries_for l es ≡ []) → entries_for lane es ≡ es
all-of-lane lane [] low none = refl
all-of-lane lane (e ∷ es) low none =
    first-of-lane lane (lane_of e.event == lane) e es refl (All-head IsLow e es low) none
    (all-of-lane lane es (All-tail IsLow e es low) (λ l below other. rest-none (l == lane_of e.event) e (entries_for l es) (none l below other)))

-- So all that was drawn is what the lanes have for the one.
pub all-drawn : (lane : ℕ) (es drawn : List Entry) → lane < 65 → All IsLow drawn → ((l : ℕ) → l < 65 → entries_for l drawn ≡ cond (l == lane) es []) → drawn ≡ es
all-drawn lane es drawn low all has =
    sym (all-of-lane lane drawn all (λ l below other. has l below ∙ ap (λ b. cond b es []) other)) ∙ has lane low ∙ ap (λ b. cond b es []) (eq-eqb lane lane refl)
