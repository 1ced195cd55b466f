-- The ends of calls: what holds at Ok or at an error, and fields of the slots that are as they were.
use Rattle.std.proofs.Common.{◌≡◌, ℕ, ◌+◌, Bool, true, false, Result, Ok, Err, OnOk, OnErr, refl, sym, subst, arith}
use Rattle.std.specs.Prelude.{if◌then◌else◌}

pub ok_map : {T E : Type 0} {P Q : Type 0} (result : Result T E) → (P → Q) → OnOk result P → OnOk result Q
ok_map (Ok value) more holds = more holds
ok_map (Err error) more holds = tt

pub ok_map2 : {T E : Type 0} {P Q R : Type 0} (result : Result T E) → (P → Q → R) → OnOk result P → OnOk result Q → OnOk result R
ok_map2 (Ok value) more one two = more one two
ok_map2 (Err error) more one two = tt

pub err_map : {T E : Type 0} {P Q : Type 0} (result : Result T E) → (P → Q) → OnErr result P → OnErr result Q
err_map (Ok value) more holds = tt
err_map (Err error) more holds = more holds

pub on_ok : {T E : Type 0} {P : Type 0} (result : Result T E) → P → OnOk result P
on_ok (Ok value) holds = holds
on_ok (Err error) holds = tt

pub on_err : {T E : Type 0} {P : Type 0} (result : Result T E) → P → OnErr result P
on_err (Ok value) holds = tt
on_err (Err error) holds = holds

pub at-fields : (P : ℕ → ℕ → Bool → Type 0) (target target' number number' : ℕ) (flag flag' : Bool) → target' ≡ target → number' ≡ number → flag' ≡ flag
    → P target number flag → P target' number' flag'
at-fields P target target' number number' flag flag' one two three holds =
    subst (λ (k : ℕ). P k number' flag') (sym one) (subst (λ (k : ℕ). P target k flag') (sym two) (subst (λ (k : Bool). P target number k) (sym three) holds))

-- two calls where the gate may be open, and so many behind them
pub count-calls : (flag : Bool) (old mid new count : ℕ) → (flag ≡ true → mid ≡ old + 2) → (flag ≡ false → mid ≡ old) → new ≡ mid + count
    → new ≡ old + ((if flag then 2 else 0) + count)
count-calls true old mid new count closed quiet more = let two = closed refl in omega arith
count-calls false old mid new count closed quiet more = let none = quiet refl in omega arith
