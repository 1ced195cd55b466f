-- Writes in flight: those to some blocks among them, without a command's and with a command's cut; and the open write of one stripe.
use Rattle.std.proofs.Common.{◌≡◌, ℕ, ◌==◌, ◌&&◌, Bool, true, false, List, [], ◌∷◌, Option, Some, None, inl, inr, refl, ap, eq-eqb}
use Rattle.std.specs.Prelude.{not, filter}
use Rattle.std.proofs.lemmas.Bool.{and_parts, or_left, or_right, or_cases, or_from, cond_both, false≢true}
use Rattle.era_base.specs.declared.ids.CmdId.{CmdId}
use Rattle.era_model.specs.declared.flight.FlightWrite.{FlightWrite}
use Rattle.era_model.specs.Events.{same_id}
use Rattle.era_model.specs.Writes.{without, with_cut, is_writing, is_cut, some_block}
use Rattle.era_gate.specs.Acts.{cut_flight, flights}

-- whether an open write is the command's
abbrev pub flies : Option FlightWrite → CmdId → Bool
flies None id = false
flies (Some write) id = same_id write.id id

-- the writes to blocks that pass the test
abbrev pub to_blocks : (ℕ → Bool) → List FlightWrite → List FlightWrite
to_blocks test writes = filter (λ (write : FlightWrite). test write.block) writes

-- those to some blocks, without the command's
pub to_blocks-without : (test : ℕ → Bool) (writes : List FlightWrite) (id : CmdId) → to_blocks test (without writes id) ≡ without (to_blocks test writes) id
to_blocks-without test [] id = refl
to_blocks-without test (write ∷ writes) id = step (test write.block) (same_id write.id id) refl refl (to_blocks-without test writes id) where
  step : (b c : Bool) → test write.block ≡ b → same_id write.id id ≡ c → to_blocks test (without writes id) ≡ without (to_blocks test writes) id
      → to_blocks test (without (write ∷ writes) id) ≡ without (to_blocks test (write ∷ writes)) id
  step true true is_b is_c rest = simp (is_b, is_c) rest
  step true false is_b is_c rest = simp (is_b, is_c) (ap (λ ws. write ∷ ws) rest)
  step false true is_b is_c rest = simp (is_b, is_c) rest
  step false false is_b is_c rest = simp (is_b, is_c) rest

-- those to some blocks, with the command's cut
pub to_blocks-with_cut : (test : ℕ → Bool) (writes : List FlightWrite) (id : CmdId) → to_blocks test (with_cut writes id) ≡ with_cut (to_blocks test writes) id
to_blocks-with_cut test [] id = refl
to_blocks-with_cut test (write ∷ writes) id = step (test write.block) (same_id write.id id) refl refl (to_blocks-with_cut test writes id) where
  step : (b c : Bool) → test write.block ≡ b → same_id write.id id ≡ c → to_blocks test (with_cut writes id) ≡ with_cut (to_blocks test writes) id
      → to_blocks test (with_cut (write ∷ writes) id) ≡ with_cut (to_blocks test (write ∷ writes)) id
  step true true is_b is_c rest = simp (is_b, is_c) (ap (λ ws. record write { cut = true } ∷ ws) rest)
  step true false is_b is_c rest = simp (is_b, is_c) (ap (λ ws. write ∷ ws) rest)
  step false true is_b is_c rest = simp (is_b, is_c) rest
  step false false is_b is_c rest = simp (is_b, is_c) rest

-- what is being written, or cut, to some blocks is so among all
pub is_writing-all : (test : ℕ → Bool) (writes : List FlightWrite) (id : CmdId) → is_writing (to_blocks test writes) id ≡ true → is_writing writes id ≡ true
is_writing-all test [] id is = is
is_writing-all test (write ∷ writes) id is = cond_both (test write.block) (write ∷ to_blocks test writes) (to_blocks test writes) (λ ws. is_writing ws id ≡ true → is_writing (write ∷ writes) id ≡ true)
    (λ on here. elim (or_cases (same_id write.id id && not write.cut) (is_writing (to_blocks test writes) id) here) [
      | inl first ↦ or_left (same_id write.id id && not write.cut) (is_writing writes id) first
      | inr later ↦ or_right (same_id write.id id && not write.cut) (is_writing writes id) (is_writing-all test writes id later)
    ])
    (λ off later. or_right (same_id write.id id && not write.cut) (is_writing writes id) (is_writing-all test writes id later)) is

pub is_cut-all : (test : ℕ → Bool) (writes : List FlightWrite) (id : CmdId) → is_cut (to_blocks test writes) id ≡ true → is_cut writes id ≡ true
is_cut-all test [] id is = is
is_cut-all test (write ∷ writes) id is = cond_both (test write.block) (write ∷ to_blocks test writes) (to_blocks test writes) (λ ws. is_cut ws id ≡ true → is_cut (write ∷ writes) id ≡ true)
    (λ on here. elim (or_cases (same_id write.id id && write.cut) (is_cut (to_blocks test writes) id) here) [
      | inl first ↦ or_left (same_id write.id id && write.cut) (is_cut writes id) first
      | inr later ↦ or_right (same_id write.id id && write.cut) (is_cut writes id) (is_cut-all test writes id later)
    ])
    (λ off later. or_right (same_id write.id id && write.cut) (is_cut writes id) (is_cut-all test writes id later)) is

-- a list with a write isn't empty
cons-none : (write : FlightWrite) (writes : List FlightWrite) → (write ∷ writes) ≡ [] → ⊥
cons-none write writes never = cc

-- where no write is to these blocks, none of the writes is
pub none-to_blocks : (test : ℕ → Bool) (writes : List FlightWrite) → to_blocks test writes ≡ [] → some_block writes test ≡ false
none-to_blocks test [] none = refl
none-to_blocks test (write ∷ writes) none = cond_both (test write.block) (write ∷ to_blocks test writes) (to_blocks test writes) (λ ws. ws ≡ [] → some_block (write ∷ writes) test ≡ false)
    (λ on empty. absurd (cons-none write (to_blocks test writes) empty))
    (λ off empty. or_from (test write.block) (some_block writes test) off (none-to_blocks test writes empty)) none

-- where no stripe has a write, there is none
pub none-anywhere : (of_block : ℕ → ℕ) (writes : List FlightWrite) → ((d : ℕ) → to_blocks (λ block. of_block block == d) writes ≡ []) → writes ≡ []
none-anywhere of_block [] none = refl
none-anywhere of_block (write ∷ writes) none =
    let here : (of_block write.block == of_block write.block) ≡ true = eq-eqb (of_block write.block) (of_block write.block) refl in
    let empty = rw here at (none (of_block write.block)) in
    absurd (cons-none write (to_blocks (λ block. of_block block == of_block write.block) writes) empty)

-- the open write without the command that is writing, or is cut
pub flights-without_writing : (flight : Option FlightWrite) (id : CmdId) → is_writing (flights flight) id ≡ true → without (flights flight) id ≡ []
flights-without_writing None id is = absurd (false≢true is)
flights-without_writing (Some write) id is = elim (or_cases (same_id write.id id && not write.cut) false is) [
  | inl both ↦ let same = (and_parts (same_id write.id id) (not write.cut) both).0 in rw same refl
  | inr never ↦ absurd (false≢true never)
]

pub flights-without_cut : (flight : Option FlightWrite) (id : CmdId) → is_cut (flights flight) id ≡ true → without (flights flight) id ≡ []
flights-without_cut None id is = absurd (false≢true is)
flights-without_cut (Some write) id is = elim (or_cases (same_id write.id id && write.cut) false is) [
  | inl both ↦ let same = (and_parts (same_id write.id id) write.cut both).0 in rw same refl
  | inr never ↦ absurd (false≢true never)
]

-- the open write with that of its command cut
pub flights-with_cut : (flight : Option FlightWrite) (id : CmdId) → is_writing (flights flight) id ≡ true → with_cut (flights flight) id ≡ flights (cut_flight flight)
flights-with_cut None id is = refl
flights-with_cut (Some write) id is = elim (or_cases (same_id write.id id && not write.cut) false is) [
  | inl both ↦ let same = (and_parts (same_id write.id id) (not write.cut) both).0 in rw same refl
  | inr never ↦ absurd (false≢true never)
]

-- who is writing, or is cut, has the open write
pub flies-writing : (flight : Option FlightWrite) (id : CmdId) → is_writing (flights flight) id ≡ true → flies flight id ≡ true
flies-writing None id is = is
flies-writing (Some write) id is = elim (or_cases (same_id write.id id && not write.cut) false is) [
  | inl both ↦ (and_parts (same_id write.id id) (not write.cut) both).0
  | inr never ↦ absurd (false≢true never)
]

pub flies-cut : (flight : Option FlightWrite) (id : CmdId) → is_cut (flights flight) id ≡ true → flies flight id ≡ true
flies-cut None id is = is
flies-cut (Some write) id is = elim (or_cases (same_id write.id id && write.cut) false is) [
  | inl both ↦ (and_parts (same_id write.id id) write.cut both).0
  | inr never ↦ absurd (false≢true never)
]

-- another command changes nothing of the open write
pub flights-without_other : (flight : Option FlightWrite) (id : CmdId) → flies flight id ≡ false → without (flights flight) id ≡ flights flight
flights-without_other None id other = refl
flights-without_other (Some write) id other = rw other refl

pub flights-cut_other : (flight : Option FlightWrite) (id : CmdId) → flies flight id ≡ false → with_cut (flights flight) id ≡ flights flight
flights-cut_other None id other = refl
flights-cut_other (Some write) id other = rw other refl
