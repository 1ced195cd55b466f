use Rattle.std.proofs.Common.{◌≡◌, ◌<◌, ℕ, zero, suc, [], ◌∷◌, slice_index_or, arith, refl, ap}
use Rattle.era_base.specs.Bits.{bit_of}
use Rattle.era_base.specs.declared.ids.CmdId.{CmdId}
use Rattle.era_model.specs.declared.entry.Entry.{Entry}
use Rattle.era_model.specs.declared.event.Event.{Event}
use Rattle.era_model.specs.declared.event.Event.TheVariants.{Tried, Mark}
use Rattle.era_gate.specs.Acts.{entry}
use Rattle.era_gate.specs.RowsOfActs.{command}
use Rattle.era_gate.proofs.state_laws.other_words_break_the_invariant.Goals as goal

-- the block of a mark
abbrev marked_block : Event → ℕ
marked_block (Mark id block era) = block
marked_block event = 0

-- block 1 has no mark among the keeper's entries
no_mark : (place : ℕ) (by : CmdId) (k : ℕ) → k < 2
    → slice_index_or (entry 0 (Tried (command 0) 0 1) ∷ entry 1 (Mark (command 0) 0 1) ∷ []) k (entry place (Mark by 1 1)) ≡ entry place (Mark by 1 1) → ⊥
no_mark place by zero low is = let same : Tried (command 0) 0 1 ≡ Mark by 1 1 = ap (λ (e : Entry). e.event) is in cc
no_mark place by (suc zero) low is = absurd (omega (arith, ap (λ (e : Entry). marked_block e.event) is))
no_mark place by (suc (suc k)) low is = absurd (omega arith)

pub returns-clause-bit : goal.returns-clause-bit
unfolding bit_of
returns-clause-bit c broken =
    let marked = broken 1 (omega arith) refl in
    no_mark marked.0 marked.1.0 marked.1.1.0 marked.1.1.1 marked.1.1.2
