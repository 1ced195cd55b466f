-- Writes in flight, of which no two are of one command: those of one drawer's blocks among them.
use Rattle.std.proofs.Common.{◌≡◌, ℕ, ◌==◌, ◌&&◌, ◌||◌, Bool, true, false, List, [], ◌∷◌, Option, Some, inl, inr, refl, sym, ap, ◌∙◌, subst, eqb-true}
use Rattle.std.specs.Prelude.{not, filter}
use Rattle.std.proofs.lemmas.Bool.{and_parts, or_parts, or_left, or_right, or_cases, or_from, cond_both, false≢true}
use Rattle.era_base.specs.declared.ids.CmdId.{CmdId}
use Rattle.era_model.specs.declared.flight.FlightWrite.{FlightWrite}
use Rattle.era_model.specs.Events.{same_id}
use Rattle.era_model.specs.Writes.{without, with_cut, write_of, is_writing, is_cut, content_after_write}

-- whether the command's write is among them
abbrev pub has_write : List FlightWrite → CmdId → Bool
has_write [] id = false
has_write (write ∷ writes) id = same_id write.id id || has_write writes id

-- no two are of one command
abbrev pub AreApart : List FlightWrite → Type 0
AreApart [] = Unit {0}
AreApart (write ∷ writes) = (has_write writes write.id ≡ false) × AreApart writes

pub same_id-is : (first second : CmdId) → same_id first second ≡ true → first ≡ second
same_id-is first second same =
    let parts = and_parts (first.lane == second.lane) (first.number == second.number) same in
    let lane : first.lane ≡ second.lane = eqb-true first.lane second.lane parts.0 in
    let number : first.number ≡ second.number = eqb-true first.number second.number parts.1 in
    let half : first ≡ record { lane = second.lane; number = first.number } = subst (λ l. first ≡ record { lane = l; number = first.number }) lane refl in
    subst (λ n. first ≡ record { lane = second.lane; number = n }) number half

-- what is writing, or cut, is among them
pub writing-has : (writes : List FlightWrite) (id : CmdId) → is_writing writes id ≡ true → has_write writes id ≡ true
writing-has [] id is = is
writing-has (write ∷ writes) id is = elim (or_cases (same_id write.id id && not write.cut) (is_writing writes id) is) [
  | inl here ↦ or_left (same_id write.id id) (has_write writes id) (and_parts (same_id write.id id) (not write.cut) here).0
  | inr later ↦ or_right (same_id write.id id) (has_write writes id) (writing-has writes id later)
]

pub cut-has : (writes : List FlightWrite) (id : CmdId) → is_cut writes id ≡ true → has_write writes id ≡ true
cut-has [] id is = is
cut-has (write ∷ writes) id is = elim (or_cases (same_id write.id id && write.cut) (is_cut writes id) is) [
  | inl here ↦ or_left (same_id write.id id) (has_write writes id) (and_parts (same_id write.id id) write.cut here).0
  | inr later ↦ or_right (same_id write.id id) (has_write writes id) (cut-has writes id later)
]

-- fewer writes
pub has-filter : (test : FlightWrite → Bool) (writes : List FlightWrite) (id : CmdId) → has_write (filter test writes) id ≡ true → has_write writes id ≡ true
has-filter test [] id is = is
has-filter test (write ∷ writes) id is = cond_both (test write) (write ∷ filter test writes) (filter test writes) (λ ws. has_write ws id ≡ true → has_write (write ∷ writes) id ≡ true)
    (λ on here. elim (or_cases (same_id write.id id) (has_write (filter test writes) id) here) [
      | inl first ↦ or_left (same_id write.id id) (has_write writes id) first
      | inr later ↦ or_right (same_id write.id id) (has_write writes id) (has-filter test writes id later)
    ])
    (λ off later. or_right (same_id write.id id) (has_write writes id) (has-filter test writes id later)) is

pub none-filter : (test : FlightWrite → Bool) (writes : List FlightWrite) (id : CmdId) → has_write writes id ≡ false → has_write (filter test writes) id ≡ false
none-filter test [] id none = none
none-filter test (write ∷ writes) id none =
    let parts = or_parts (same_id write.id id) (has_write writes id) none in
    let rest = none-filter test writes id parts.1 in
    cond_both (test write) (write ∷ filter test writes) (filter test writes) (λ ws. has_write ws id ≡ false)
    (λ on. or_from (same_id write.id id) (has_write (filter test writes) id) parts.0 rest) (λ off. rest)

pub apart-filter : (test : FlightWrite → Bool) (writes : List FlightWrite) → AreApart writes → AreApart (filter test writes)
apart-filter test [] apart = tt
apart-filter test (write ∷ writes) apart =
    let rest = apart-filter test writes apart.1 in
    cond_both (test write) (write ∷ filter test writes) (filter test writes) AreApart
    (λ on. (none-filter test writes write.id apart.0, rest)) (λ off. rest)

-- a write that is cut is of the same command
pub has-with_cut : (writes : List FlightWrite) (cut id : CmdId) → has_write (with_cut writes cut) id ≡ has_write writes id
has-with_cut [] cut id = refl
has-with_cut (write ∷ writes) cut id =
    cond_both (same_id write.id cut) (record write { cut = true }) write (λ (w : FlightWrite). (same_id w.id id || has_write (with_cut writes cut) id) ≡ (same_id write.id id || has_write writes id))
    (λ on. ap (λ b. same_id write.id id || b) (has-with_cut writes cut id)) (λ off. ap (λ b. same_id write.id id || b) (has-with_cut writes cut id))

pub apart-with_cut : (writes : List FlightWrite) (cut : CmdId) → AreApart writes → AreApart (with_cut writes cut)
apart-with_cut [] cut apart = tt
apart-with_cut (write ∷ writes) cut apart =
    let rest = apart-with_cut writes cut apart.1 in
    let none = has-with_cut writes cut write.id ∙ apart.0 in
    cond_both (same_id write.id cut) (record write { cut = true }) write (λ (w : FlightWrite). (has_write (with_cut writes cut) w.id ≡ false) × AreApart (with_cut writes cut))
    (λ on. (none, rest)) (λ off. (none, rest))

-- a command that has none of them
pub without-none : (writes : List FlightWrite) (id : CmdId) → has_write writes id ≡ false → without writes id ≡ writes
without-none [] id none = refl
without-none (write ∷ writes) id none =
    let parts = or_parts (same_id write.id id) (has_write writes id) none in
    rw parts.0 (ap (λ ws. write ∷ ws) (without-none writes id parts.1))

pub with_cut-none : (writes : List FlightWrite) (id : CmdId) → has_write writes id ≡ false → with_cut writes id ≡ writes
with_cut-none [] id none = refl
with_cut-none (write ∷ writes) id none =
    let parts = or_parts (same_id write.id id) (has_write writes id) none in
    rw parts.0 (ap (λ ws. write ∷ ws) (with_cut-none writes id parts.1))

-- the command of the first isn't another's
first-only : (write : FlightWrite) (writes : List FlightWrite) (id : CmdId) → AreApart (write ∷ writes) → same_id write.id id ≡ true → has_write writes id ≡ false
first-only write writes id apart same = subst (λ i. has_write writes i ≡ false) (same_id-is write.id id same) apart.0

not-first : (write : FlightWrite) (writes : List FlightWrite) (id : CmdId) → AreApart (write ∷ writes) → has_write writes id ≡ true → (b : Bool) → same_id write.id id ≡ b → same_id write.id id ≡ false
not-first write writes id apart has false is = is
not-first write writes id apart has true is = absurd (false≢true (sym (first-only write writes id apart is) ∙ has))

-- the one write of a command isn't among those of another test
pub other-none : (mine other : FlightWrite → Bool) (writes : List FlightWrite) (id : CmdId) → ((write : FlightWrite) → mine write ≡ true → other write ≡ false) → AreApart writes
    → has_write (filter mine writes) id ≡ true → has_write (filter other writes) id ≡ false
other-none mine other [] id apart_tests apart has = absurd (false≢true has)
other-none mine other (write ∷ writes) id apart_tests apart has = step (mine write) (other write) refl refl (other-none mine other writes id apart_tests apart.1) where
  step : (b c : Bool) → mine write ≡ b → other write ≡ c → (has_write (filter mine writes) id ≡ true → has_write (filter other writes) id ≡ false)
      → has_write (filter other (write ∷ writes)) id ≡ false
  step true true is_b is_c rest = absurd (false≢true (sym (apart_tests write is_b) ∙ is_c))
  step true false is_b is_c rest = rw is_c (elim (or_cases (same_id write.id id) (has_write (filter mine writes) id) (rw is_b at has)) [
    | inl first ↦ none-filter other writes id (first-only write writes id apart first)
    | inr later ↦ rest later
  ])
  step false true is_b is_c rest =
      let here : has_write (filter mine writes) id ≡ true = rw is_b at has in
      let not_first = not-first write writes id apart (has-filter mine writes id here) (same_id write.id id) refl in
      rw is_c (or_from (same_id write.id id) (has_write (filter other writes) id) not_first (rest here))
  step false false is_b is_c rest = rw is_c (rest (rw is_b at has))

-- a command's write is found among its own
pub found-among : (mine : FlightWrite → Bool) (writes : List FlightWrite) (id : CmdId) → AreApart writes → has_write (filter mine writes) id ≡ true
    → write_of writes id ≡ write_of (filter mine writes) id
found-among mine [] id apart has = refl
found-among mine (write ∷ writes) id apart has = step (mine write) (same_id write.id id) refl refl (found-among mine writes id apart.1) where
  step : (b c : Bool) → mine write ≡ b → same_id write.id id ≡ c → (has_write (filter mine writes) id ≡ true → write_of writes id ≡ write_of (filter mine writes) id)
      → write_of (write ∷ writes) id ≡ write_of (filter mine (write ∷ writes)) id
  step true true is_b is_c rest = simp (is_b, is_c) refl
  step true false is_b is_c rest = simp (is_b, is_c) (rest (simp (is_b, is_c) at has))
  step false true is_b is_c rest =
      let here : has_write (filter mine writes) id ≡ true = rw is_b at has in
      absurd (false≢true (sym (first-only write writes id apart is_c) ∙ has-filter mine writes id here))
  step false false is_b is_c rest = simp (is_b, is_c) (rest (rw is_b at has))

-- what is written to the range of one of them leaves a block that none of them is of
pub content-elsewhere : (mine : FlightWrite → Bool) (writes : List FlightWrite) (id : CmdId) (before : List ℕ) (block : ℕ) (bytes : Option FlightWrite → List ℕ)
    → ((write : FlightWrite) → mine write ≡ true → (write.block == block) ≡ false)
    → content_after_write before block (write_of (filter mine writes) id) (bytes (write_of (filter mine writes) id)) ≡ before
content-elsewhere mine [] id before block bytes apart = refl
content-elsewhere mine (write ∷ writes) id before block bytes apart =
    let rest = content-elsewhere mine writes id before block bytes apart in
    cond_both (mine write) (write ∷ filter mine writes) (filter mine writes) (λ ws. content_after_write before block (write_of ws id) (bytes (write_of ws id)) ≡ before)
    (λ on. cond_both (same_id write.id id) (Some write) (write_of (filter mine writes) id) (λ found. content_after_write before block found (bytes found) ≡ before)
    (λ same. rw (apart write on) refl) (λ off. rest))
    (λ off. rest)
