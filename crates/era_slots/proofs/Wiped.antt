-- What a wiping that answered Ok has left: both gates closed, by zeros where they were open.
use Rattle.std.proofs.Common.{◌≡◌, ℕ, zero, suc, ◌+◌, ◌*◌, ◌<◌, ◌↔◌, Bool, true, false, List, length, get_or, drop, refl, sym, ap, ◌∙◌, subst, arith, inl, inr}
use Rattle.std.proofs.lemmas.Bool.{cases_lt, cases_eq, false≢true}
use Rattle.std.proofs.lemmas.List.{get_or-take, get_or-drop}
use Rattle.era_base.specs.Bytes.{part}
use Rattle.era_base.specs.CrashModel.{State, SameBut}
use Rattle.era_slots.specs.Slot.{other, gate_of, SlotIsOpen, SlotIsClosed, IsBlank, closed_gate}
use Rattle.era_slots.specs.Calls.{HasFronts, HasGate}
use Rattle.era_slots.specs.Wiping.{IsWiped, HasFlags, Shuts, gate_end}
use Rattle.era_slots.proofs.Bytes.{written-closed}
use Rattle.era_slots.proofs.Changes.{agree-same, part-agree}
use Rattle.era_slots.proofs.Reading.{front-read}
use Rattle.era_slots.proofs.Gates.{end-apart, apart-gates, gates-apart}

-- a gate that was read
pub gate-read : (at : ℕ) (seen sector : List ℕ) (flag : Bool) → sector ≡ part at 512 seen → (flag ≡ true) ↔ (get_or sector 0 0 ≡ 1)
    → (flag ≡ true) ↔ (get_or seen at 0 ≡ 1)
gate-read at seen sector flag is gate =
    let same : get_or sector 0 0 ≡ get_or seen at 0
    = ap (λ (xs : List ℕ). get_or xs 0 0) is ∙ get_or-take 512 (drop at seen) 0 0 (omega arith) ∙ get_or-drop at seen 0 0
    ∙ ap (λ (k : ℕ). get_or seen k 0) (let e : at + 0 ≡ at = omega arith in e) in
    (λ opened. sym same ∙ gate.0 opened, λ opened. gate.1 (same ∙ opened))

-- the flags of both gates, in both orders
pub flags-read : (low high : List ℕ) (flag flag' : Bool) (now : State) → length low ≡ 512 → length high ≡ 512 → HasFronts low high now
    → (flag ≡ true) ↔ (get_or low 0 0 ≡ 1) → (flag' ≡ true) ↔ (get_or high 0 0 ≡ 1) → HasFlags 0 flag flag' now × HasFlags 1 flag' flag now
flags-read low high flag flag' now size size' read gate gate' =
    let first : (flag ≡ true) ↔ SlotIsOpen 0 now.seen = gate-read 0 now.seen low flag (front-read 0 512 now.seen low size read.first) gate in
    let second : (flag' ≡ true) ↔ SlotIsOpen 1 now.seen = gate-read 4096 now.seen high flag' (front-read 4096 512 now.seen high size' read.second) gate' in
    (record { clean = read.clean; gate = first; beside = second }, record { clean = read.clean; gate = second; beside = first })

-- a gate that was written closed, and one that was left as it was
pub shuts-written : (slot : ℕ) (before now : State) → HasGate slot closed_gate now → Shuts slot true before now
shuts-written slot before now put = record {
  closed = λ clean was. (put.clean, λ opened. omega (arith, opened, written-closed slot now.seen put.written));
  gate = λ flag. put.written;
}

pub shuts-none : (slot : ℕ) (state : State) → Shuts slot false state state
shuts-none slot state = record { closed = λ clean was. (clean, was refl); gate = λ flag. absurd (false≢true flag) }

-- the first gate stays closed while the other one is closed
pub closed-stays : (first : ℕ) (is_open : Bool) (mid now : State) → first < 2 → SlotIsClosed first mid.seen
    → SameBut (4096 * other first) (gate_end (other first) is_open) mid now → SlotIsClosed first now.seen
closed-stays first is_open mid now slot closed s = λ opened.
    closed (sym (s.seen (4096 * first) (end-apart (other first) is_open (4096 * first) (gates-apart first slot))) ∙ opened)

pub blank-both : (first : ℕ) (seen : List ℕ) → first < 2 → SlotIsClosed first seen → SlotIsClosed (other first) seen → IsBlank seen
blank-both zero seen lt one two = (one, two)
blank-both (suc zero) seen lt one two = (two, one)
blank-both (suc (suc n)) seen lt one two = absurd (omega arith)

-- the gate of the first one stays as it is written while the other one is closed
gate-stays : (first : ℕ) (is_open : Bool) (mid now : State) → first < 2 → SameBut (4096 * other first) (gate_end (other first) is_open) mid now
    → gate_of first now.seen ≡ gate_of first mid.seen
gate-stays first is_open mid now slot s =
    part-agree (4096 * first) 512 (4096 * first) (4096 * first + 512) now.seen mid.seen (omega arith) (omega arith)
    (agree-same (4096 * first) (4096 * first + 512) (4096 * other first) (gate_end (other first) is_open) mid now
    (λ offset above below. end-apart (other first) is_open offset (elim (cases_lt first 1) [ inl none ↦ inl (omega arith) | inr one ↦ inr (omega arith) ])) s)

-- both gates are closed
pub wiped-both : (first : ℕ) (is_open is_open' : Bool) (before mid now : State) → first < 2 → HasFlags first is_open is_open' before
    → SameBut (4096 * first) (gate_end first is_open) before mid → SameBut (4096 * other first) (gate_end (other first) is_open') mid now
    → Shuts first is_open before mid → Shuts (other first) is_open' mid now → IsWiped before now
wiped-both first is_open is_open' before mid now slot flags s s' shut shut' =
    let one = shut.closed flags.clean (λ flag opened. false≢true (sym flag ∙ flags.gate.1 opened)) in
    let kept : get_or mid.seen (4096 * other first) 0 ≡ get_or before.seen (4096 * other first) 0
    = s.seen (4096 * other first) (end-apart first is_open (4096 * other first) (apart-gates first slot)) in
    let two = shut'.closed one.0 (λ flag opened. false≢true (sym flag ∙ flags.beside.1 (sym kept ∙ opened))) in
    record {
      blank = blank-both first now.seen slot (closed-stays first is_open' mid now slot one.1 s') two.1;
      clean = two.0;
      gates = λ named lt opened. elim (cases_eq named first) [
        | inl same ↦ subst (λ k. gate_of k now.seen ≡ closed_gate) (sym same)
            (gate-stays first is_open' mid now slot s' ∙ shut.gate (flags.gate.1 (subst (λ k. SlotIsOpen k before.seen) same opened)))
        | inr differs ↦
            let beside : named ≡ other first = omega (arith, differs) in
            subst (λ k. gate_of k now.seen ≡ closed_gate) (sym beside)
            (shut'.gate (flags.beside.1 (subst (λ k. SlotIsOpen k before.seen) beside opened)))
      ];
    }

-- a wiping behind the first sync
pub wiped-synced : (before mid now : State) → SameBut 0 0 before mid → IsWiped mid now → IsWiped before now
wiped-synced before mid now s wiped = record {
  blank = wiped.blank;
  clean = wiped.clean;
  gates = λ slot lt opened. wiped.gates slot lt (s.seen (4096 * slot) (λ above. above) ∙ opened);
}
