-- Eras ascend over a legal history, and where a block's last marked era is below the present one, no write of it is in flight.
use Rattle.std.proofs.Common.{◌≡◌, ◌⊎◌, ℕ, ◌+◌, ◌<◌, ◌≤◌, Bool, true, false, ◌==◌, ◌&&◌, List, [], ◌∷◌, Some, None, refl, ap, sym, ◌∙◌, subst, arith, inl, inr}
use Rattle.std.specs.Prelude.{max, nat_le, if◌then◌else◌}
use Rattle.std.proofs.lemmas.Bool.{or_from, or_cases, and_parts, cond_both, eqb-true, leb-true}
use Rattle.std.proofs.lemmas.Bool.Decides.{eqb_tells}
use Rattle.era_model.specs.declared.event.Event.{Event}
use Rattle.era_model.specs.declared.event.Event.TheVariants.{Mark, Go, Done, Cut, Settle, Roll}
use Rattle.era_model.specs.declared.history.Happening.{Happening}
use Rattle.era_model.specs.declared.history.Happening.TheVariants.{Opened, Happened, Crashed}
use Rattle.era_model.specs.Chains.{IsMoment}
use Rattle.era_model.specs.History.{era_of, in_flight}
use Rattle.era_model.specs.Legal.{IsLegal}
use Rattle.era_model.specs.Marking.{era_start, first_some, journal_last_era, is_marked_in}
use Rattle.era_model.proofs.Flights.{touches, touches-without, touches-with_cut}

-- an event leaves the era, or moves it up
era-after_event : (h : List Happening) (event : Event) → IsLegal (Happened event ∷ h) → era_of h ≤ era_of (Happened event ∷ h)
era-after_event h (Roll id era) legal = let next = legal.1.next in omega arith
era-after_event h event legal = omega arith

-- marks that may be recovered are of the present era, or of the one before
era-recovered : (now era : ℕ) (P : Type 0) → (era ≡ now) ⊎ ((era + 1 ≡ now) × P) → now ≤ era + 1
era-recovered now era P (inl same) = omega arith
era-recovered now era P (inr before) = let e = before.0 in omega arith

-- so eras ascend
pub eras-ascend : (happening : Happening) (h : List Happening) → IsLegal (happening ∷ h) → era_of h ≤ era_of (happening ∷ h)
eras-ascend (Opened opening) [] legal = omega arith
eras-ascend (Opened opening) (Opened before ∷ h) legal = absurd legal.0
eras-ascend (Opened opening) (Happened event ∷ h) legal = absurd legal.0
eras-ascend (Opened opening) (Crashed images ∷ h) legal =
    let up = era-recovered (era_of h) images.marks.era _ legal.1.1.metadata.era in let e = legal.0.era in omega arith
eras-ascend (Happened event) h legal = era-after_event h event legal
eras-ascend (Crashed images) h legal = omega arith

-- what is legal was legal before
pub legal-before : (happening : Happening) (h : List Happening) → IsLegal (happening ∷ h) → IsLegal h
legal-before (Opened opening) h legal = legal.1
legal-before (Happened event) h legal = legal.2
legal-before (Crashed images) h legal = legal.2

-- each moment of a legal history is legal
pub legal-moment : (h moment : List Happening) → IsLegal h → IsMoment h moment → IsLegal moment
legal-moment [] moment legal is = subst IsLegal (sym is) legal
legal-moment (happening ∷ h) moment legal (inl same) = subst IsLegal (sym same) legal
legal-moment (happening ∷ h) moment legal (inr is) = legal-moment h moment (legal-before happening h legal) is

-- a mark's era isn't above the present one
marked-below : (h : List Happening) (block era : ℕ) → IsLegal h → is_marked_in h block era ≡ true → era ≤ era_of h
marked-below [] block era legal marked = absurd (cc)
marked-below (Opened opening ∷ h) block era legal marked = absurd (cc)
marked-below (Happened (Mark id other stored) ∷ h) block era legal marked = elim (or_cases (other == block && stored == era) (is_marked_in h block era) marked) [
  | inl here ↦
      let same = eqb-true stored era (and_parts (other == block) (stored == era) here).1 in let present = legal.1.present in omega arith
  | inr before ↦ marked-below h block era legal.2 before
]
marked-below (Happened event ∷ h) block era legal marked =
    let below = marked-below h block era legal.2 marked in let up = eras-ascend (Happened event) h legal in omega arith
marked-below (Crashed images ∷ h) block era legal marked = marked-below h block era legal.2 marked

-- a block that has a mark in an era has that era or a later one as its last
pub marked-last : (h : List Happening) (block era : ℕ) → IsLegal h → is_marked_in h block era ≡ true → era ≤ journal_last_era h block
marked-last [] block era legal marked = absurd (cc)
marked-last (Opened opening ∷ h) block era legal marked = absurd (cc)
marked-last (Happened (Mark id other stored) ∷ h) block era legal marked =
    let below = marked-below (Happened (Mark id other stored) ∷ h) block era legal marked in let present = legal.1.present in
    cond_both (other == block) stored (journal_last_era h block) (λ last. era ≤ last)
    (λ same. omega arith)
    (λ apart. marked-last h block era legal.2 (rw apart at marked))
marked-last (Happened event ∷ h) block era legal marked = marked-last h block era legal.2 marked
marked-last (Crashed images ∷ h) block era legal marked = marked-last h block era legal.2 marked

-- no write is in flight of a block whose last marked era is below the present one
pub quiet-below : (h : List Happening) (block : ℕ) → IsLegal h → journal_last_era h block < era_of h → touches (in_flight h) block ≡ false
quiet-below [] block legal below = refl
quiet-below (Opened opening ∷ h) block legal below = refl
quiet-below (Happened (Mark id other era) ∷ h) block legal below =
    let present = legal.1.present in
    cond_both (other == block) era (journal_last_era h block) (λ last. last < era_of h → touches (in_flight h) block ≡ false)
    (λ same less. absurd (omega arith))
    (λ apart less. quiet-below h block legal.2 less) below
quiet-below (Happened (Go id other era first bytes) ∷ h) block legal below =
    elim (eqb_tells other block) [
      | inl same ↦
          let last = marked-last h other era legal.2 legal.1.marked in let present = legal.1.present in
          absurd (let low : journal_last_era h other < era_of h = subst (λ b. journal_last_era h b < era_of h) (sym same.1) below in omega arith)
      | inr apart ↦ or_from (other == block) (touches (in_flight h) block) apart.0 (quiet-below h block legal.2 below)
    ]
quiet-below (Happened (Done id) ∷ h) block legal below = touches-without (in_flight h) id block (quiet-below h block legal.2 below)
quiet-below (Happened (Cut id faults) ∷ h) block legal below = touches-with_cut (in_flight h) id block ∙ quiet-below h block legal.2 below
quiet-below (Happened (Settle by cut bytes) ∷ h) block legal below = touches-without (in_flight h) cut block (quiet-below h block legal.2 below)
quiet-below (Happened (Roll id era) ∷ h) block legal below = ap (λ writes. touches writes block) legal.1.quiet
quiet-below (Happened event ∷ h) block legal below = quiet-below h block legal.2 below
quiet-below (Crashed images ∷ h) block legal below = quiet-below h block legal.2 below

-- eras don't descend from a moment on
pub era-moment : (h moment : List Happening) → IsLegal h → IsMoment h moment → era_of moment ≤ era_of h
era-moment [] moment legal is = rw is (omega arith)
era-moment (happening ∷ h) moment legal (inl same) = rw same (omega arith)
era-moment (happening ∷ h) moment legal (inr is) =
    let before = era-moment h moment (legal-before happening h legal) is in let up = eras-ascend happening h legal in omega arith

-- Where an era began: a moment whose era is at least that one.
pub record IsBegun (h : List Happening) (era : ℕ) (start : List Happening) : Type 0 where
  pub moment : IsMoment h start
  pub reached : max era 1 ≤ era_of start

-- an era began at a moment of the history
pub start-begun : (h : List Happening) (era : ℕ) (start : List Happening) → era_start era h ≡ Some start → IsBegun h era start
start-begun [] era start begun = absurd (cc)
start-begun (happening ∷ h) era start begun =
    elim (era_start era h) as (λ found. era_start era h ≡ found → first_some found (if nat_le (max era 1) (era_of (happening ∷ h)) then Some (happening ∷ h) else None) ≡ Some start → IsBegun (happening ∷ h) era start) [
      | None ↦ λ none first. here (nat_le (max era 1) (era_of (happening ∷ h))) refl first
      | Some moment ↦ λ some first. let before = start-begun h era start (some ∙ first) in record { moment = inr before.moment; reached = before.reached }
    ] refl begun
  where
    here : (reached : Bool) → nat_le (max era 1) (era_of (happening ∷ h)) ≡ reached → (if reached then Some (happening ∷ h) else None) ≡ Some start → IsBegun (happening ∷ h) era start
    here true reached first =
        let same : start ≡ happening ∷ h = cc in
        record { moment = inl same; reached = rw same (leb-true (max era 1) (era_of (happening ∷ h)) reached) }
    here false reached first = absurd (cc)
