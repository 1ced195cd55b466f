-- The promise of a wiping: what each moment of it is to the state before it.
use Rattle.std.specs.Prelude.{◌≡◌, ℕ, ◌+◌, ◌*◌, ◌<◌, ◌≤◌, ◌⊎◌, ◌↔◌, Bool, true, false, List, eqb, length, slice_index}
use Rattle.era_base.specs.CrashModel.{State, SameBut, Leaves, IsClean, is_pending}
use Rattle.era_base.specs.Faults.{Rose}
use Rattle.era_slots.specs.declared.opened.SlotError.{SlotError}
use Rattle.era_slots.specs.declared.opened.SlotError.TheVariants.{Fault, BadSequence, SequenceTie, Memory}
use Rattle.era_slots.specs.Slot.{other, gate_of, SlotIsOpen, SlotIsClosed, IsBlank, closed_gate}

-- A slot's gate is open in the image exactly where it was.
abbrev pub IsSameGate : ℕ → List ℕ → List ℕ → Type 0
IsSameGate slot seen image = SlotIsOpen slot image ↔ SlotIsOpen slot seen

-- The open gates of the image are those that were, or those without the first, or none.
abbrev pub HasGates : ℕ → List ℕ → List ℕ → Type 0
HasGates first seen image = (IsSameGate first seen image × IsSameGate (other first) seen image)
    ⊎ (SlotIsClosed first image × (IsSameGate (other first) seen image ⊎ SlotIsClosed (other first) image))

-- A byte lies outside of the gates that were open.
abbrev pub IsOutsideOpenGates : List ℕ → ℕ → Type 0
IsOutsideOpenGates seen offset = (slot : ℕ) → slot < 2 → SlotIsOpen slot seen → 4096 * slot ≤ offset → 4096 * slot + 512 ≤ offset

-- Nothing has changed outside of the gates that were open, and no sector outside has become pending.
pub record SameButOpenGates (before after : State) : Type 0 where
  pub bytes : length after.seen ≡ length before.seen
  pub seen : (offset : ℕ) → IsOutsideOpenGates before.seen offset → slice_index after.seen offset ≡ slice_index before.seen offset
  pub clean : (offset : ℕ) → IsOutsideOpenGates before.seen offset → is_pending before offset ≡ false → is_pending after offset ≡ false

-- A moment of `wipe`. Until its first sync has answered Ok the crash images are among those of before.
pub record Wipes (first : ℕ) (before now : State) : Type 0 where
  pub images : SameBut 0 0 before now ⊎ Leaves (HasGates first before.seen) now
  pub unpending : IsClean before → Leaves (HasGates first before.seen) now
  pub same : SameButOpenGates before now

-- The state after a wiping that answered Ok: no gate is open, nothing is pending, and each gate that was open is a sector of zeros.
pub record IsWiped (before now : State) : Type 0 where
  pub blank : IsBlank now.seen
  pub clean : IsClean now
  pub gates : (slot : ℕ) → slot < 2 → SlotIsOpen slot before.seen → gate_of slot now.seen ≡ closed_gate

-- Nothing is pending, and two flags say whether the gate of a slot and that of the other one are open.
pub record HasFlags (first : ℕ) (first_is_open other_is_open : Bool) (now : State) : Type 0 where
  pub clean : IsClean now
  pub gate : (first_is_open ≡ true) ↔ SlotIsOpen first now.seen
  pub beside : (other_is_open ≡ true) ↔ SlotIsOpen (other first) now.seen

-- Where nothing was pending, and the gate was closed unless the flag is set: nothing is pending and the gate is closed, by zeros where the flag is set.
pub record Shuts (slot : ℕ) (is_open : Bool) (before now : State) : Type 0 where
  pub closed : IsClean before → (is_open ≡ false → SlotIsClosed slot before.seen) → IsClean now × SlotIsClosed slot now.seen
  pub gate : is_open ≡ true → gate_of slot now.seen ≡ closed_gate

-- Where the bytes of a gate end that is closed where it is open.
abbrev pub gate_end : ℕ → Bool → ℕ
gate_end slot true = 4096 * slot + 512
gate_end slot false = 4096 * slot

-- How many gates of one slot are open by its flag: 0 or 1.
abbrev pub flag_count : Bool → ℕ
flag_count true = 1
flag_count false = 0

-- How many of the two gates are open: 0 to 2.
abbrev pub open_gates : List ℕ → ℕ
open_gates seen = flag_count (eqb (slice_index seen 0) 1) + flag_count (eqb (slice_index seen 4096) 1)

-- The only refusal of a wiping that takes no memory is a fault, which is the disk's count, which rose.
abbrev pub IsFault : ℕ → ℕ → SlotError → Type 0
IsFault before now (Fault count) = (count ≡ now) × Rose before now
IsFault before now (BadSequence slot) = ⊥
IsFault before now SequenceTie = ⊥
IsFault before now Memory = ⊥
