-- The gate, and the number and the body, of a slot once they were written and synced.
use Rattle.std.proofs.Common.{◌≡◌, ℕ, ◌+◌, ◌*◌, ◌^◌, ◌<◌, List, length, take, drop, arith, sym, ap, ◌∙◌, subst}
use Rattle.std.specs.Prelude.{Result, Ok, Err, OnOk, MatchResult}
use Rattle.std.specs.Int.{w64, to_le_bytes}
use Rattle.era_base.specs.Bytes.{part}
use Rattle.era_base.specs.CrashModel.{State}
use Rattle.era_base.specs.Calls.{IsOnDisk}
use Rattle.era_slots.specs.Calls.{HasBody, HasGate}
use Rattle.era_slots.proofs.Bytes.{written-number, written-body}

-- a fact at Ok that follows from another one
pub on_ok : {T E : Type 0} (result : Result T E) {One Two : Type 0} → (One → Two) → OnOk result One → OnOk result Two
on_ok (Ok value) more holds = more holds
on_ok (Err error) more holds = holds

-- facts at Ok and at Err that follow from others
pub on_either : {T E : Type 0} (result : Result T E) {One Two Three Four : Type 0} → (One → Two) → (Three → Four)
    → MatchResult result (λ _. One) (λ _. Three) → MatchResult result (λ _. Two) (λ _. Four)
on_either (Ok value) more less holds = more holds
on_either (Err error) more less holds = less holds

pub body-put : (slot first number : ℕ) (body sectors : List ℕ) (now : State) → first ≡ slot * 8 + 1 → number < 2 ^ 64 → length body ≡ 3576
    → length sectors ≡ 3584 → take 8 sectors ≡ to_le_bytes w64 number → drop 8 sectors ≡ body → IsOnDisk (first * 512) sectors now → HasBody slot number body now
body-put slot first number body sectors now starts below whole size numbered is put =
    let at : first * 512 ≡ 4096 * slot + 512 = omega arith in
    let stands : IsOnDisk (4096 * slot + 512) sectors now = subst (λ k. IsOnDisk k sectors now) at put in
    record {
      numbered = written-number slot number now.seen sectors below size numbered stands.holds;
      holds = written-body slot now.seen sectors body size whole is stands.holds;
      clean = stands.clean;
    }

pub gate-put : (slot first : ℕ) (gate sector : List ℕ) (now : State) → first ≡ slot * 8 → length sector ≡ 512 → sector ≡ gate
    → IsOnDisk (first * 512) sector now → HasGate slot gate now
gate-put slot first gate sector now starts size is put = record {
  written = ap (λ (k : ℕ). part k 512 now.seen) (let e : 4096 * slot ≡ first * 512 = omega arith in e)
      ∙ ap (λ (k : ℕ). part (first * 512) k now.seen) (sym size)
      ∙ put.holds ∙ is;
  clean = put.clean;
}
