-- Entries that are gathered from stripes and keeper are what was drawn, and each that was drawn is of one of them.
use Rattle.std.proofs.Common.{◌≡◌, ℕ, ◌+◌, ◌≤◌, ◌⊎◌, ◌==◌, List, [], ◌∷◌, length, get_or, inl, inr, refl, sym, ap, ◌∙◌, subst, arith}
use Rattle.std.specs.Prelude.{All, Contains}
use Rattle.std.proofs.lemmas.Bool.{cond_both}
use Rattle.std.proofs.lemmas.List.Elements.{All-head, All-tail, All-contains_itself, Contains-append_right, Contains-append_left, Contains-append_cases, Contains-push, Contains-push_cases}
use Rattle.era_model.specs.declared.entry.Entry.{Entry}
use Rattle.era_model.specs.Journal.{AreNumberedFrom}
use Rattle.era_gate.specs.Acts.{Act, stripe_drew, keeper_drew, entry}
use Rattle.era_gate.specs.Drawn.{drawn, drawn_by_stripe, drawn_by_keeper}

-- an entry at the front, and one behind it
pub at-front : (e : Entry) (es : List Entry) → Contains (e ∷ es) e
at-front e es = Contains-append_left (e ∷ []) es e (Contains-push [] e)

pub behind : (first : Entry) (es : List Entry) (e : Entry) → Contains es e → Contains (first ∷ es) e
behind first es e is = Contains-append_right (first ∷ []) es e is

pub not-in_none : (e : Entry) → Contains [] e → ⊥
not-in_none e is = absurd (omega (arith, is.1))

pub front-cases : (first : Entry) (es : List Entry) (e : Entry) → Contains (first ∷ es) e → (first ≡ e) ⊎ Contains es e
front-cases first es e is = elim (Contains-append_cases (first ∷ []) es e is) [
  | inl front ↦ elim (Contains-push_cases [] first e front) [ inl never ↦ absurd (not-in_none e never) | inr same ↦ inl same ]
  | inr later ↦ inr later
]

-- with one more in front, what is in the one is in the other
both-front : (first : Entry) (es fs : List Entry) (e : Entry) → (Contains es e → Contains fs e) → Contains (first ∷ es) e → Contains (first ∷ fs) e
both-front first es fs e rest is = elim (front-cases first es e is) [
  | inl same ↦ subst (λ (x : Entry). Contains (first ∷ fs) x) same (at-front first fs)
  | inr later ↦ behind first fs e (rest later)
]

-- a stripe's entries are among all that were drawn
pub stripe-in_drawn : (d place : ℕ) (acts : List Act) (e : Entry) → Contains (drawn_by_stripe d place acts) e → Contains (drawn place acts) e
stripe-in_drawn d place [] e is = is
stripe-in_drawn d place (stripe_drew k event ∷ acts) e is =
    cond_both (d == k) (entry place event ∷ drawn_by_stripe d (place + 1) acts) (drawn_by_stripe d (place + 1) acts) (λ es. Contains es e → Contains (entry place event ∷ drawn (place + 1) acts) e)
    (λ on. both-front (entry place event) (drawn_by_stripe d (place + 1) acts) (drawn (place + 1) acts) e (stripe-in_drawn d (place + 1) acts e))
    (λ off later. behind (entry place event) (drawn (place + 1) acts) e (stripe-in_drawn d (place + 1) acts e later)) is
stripe-in_drawn d place (keeper_drew event ∷ acts) e is = behind (entry place event) (drawn (place + 1) acts) e (stripe-in_drawn d (place + 1) acts e is)
stripe-in_drawn d place (act ∷ acts) e is = stripe-in_drawn d place acts e is

-- so are the keeper's
pub keeper-in_drawn : (place : ℕ) (acts : List Act) (e : Entry) → Contains (drawn_by_keeper place acts) e → Contains (drawn place acts) e
keeper-in_drawn place [] e is = is
keeper-in_drawn place (stripe_drew k event ∷ acts) e is = behind (entry place event) (drawn (place + 1) acts) e (keeper-in_drawn (place + 1) acts e is)
keeper-in_drawn place (keeper_drew event ∷ acts) e is = both-front (entry place event) (drawn_by_keeper (place + 1) acts) (drawn (place + 1) acts) e (keeper-in_drawn (place + 1) acts e) is
keeper-in_drawn place (act ∷ acts) e is = keeper-in_drawn place acts e is

-- numbered entries have no smaller place
numbered-above : (place : ℕ) (es : List Entry) (e : Entry) → AreNumberedFrom place es → Contains es e → place ≤ e.place
numbered-above place [] e numbered is = absurd (not-in_none e is)
numbered-above place (first ∷ es) e numbered is = elim (front-cases first es e is) [
  | inl same ↦ let at = ap (λ (x : Entry). x.place) same in omega (arith, at, numbered.0)
  | inr later ↦ let above = numbered-above (place + 1) es e numbered.1 later in omega (arith, above)
]

-- as many numbered entries out of numbered ones are all of them
pub same-numbered : (place : ℕ) (all es : List Entry) → AreNumberedFrom place all → AreNumberedFrom place es → length es ≡ length all → All (Contains all) es → es ≡ all
same-numbered place [] [] numbered are size in' = refl
same-numbered place [] (e ∷ es) numbered are size in' = absurd (omega arith)
same-numbered place (first ∷ all) [] numbered are size in' = absurd (omega arith)
same-numbered place (first ∷ all) (e ∷ es) numbered are size in' =
    let rest : es ≡ all = same-numbered (place + 1) all es numbered.1 are.1 (omega arith) later in
    let front : first ≡ e = elim (front-cases first all e (All-head (Contains (first ∷ all)) e es in')) [
      | inl same ↦ same
      | inr behind' ↦ let above = numbered-above (place + 1) all e numbered.1 behind' in absurd (omega (arith, above, are.0))
    ] in
    ap (λ x. x ∷ es) (sym front) ∙ ap (λ xs. first ∷ xs) rest where
      later : All (Contains all) es
      later k d lt = elim (front-cases first all (get_or es k d) (All-tail (Contains (first ∷ all)) e es in' k d lt)) [
        | inl same ↦
            let above = numbered-above (place + 1) es (get_or es k d) are.1 (All-contains_itself es k d lt) in
            let at = ap (λ (x : Entry). x.place) same in
            absurd (omega (arith, above, at, numbered.0))
        | inr behind' ↦ behind'
      ]
