-- Tables of a function's values, by index.
use Rattle.std.proofs.Common.{◌≡◌, ℕ, zero, suc, ◌+◌, ◌<◌, List, length, get_or, refl, ap, sym, ◌∙◌, arith}
use Rattle.std.proofs.lemmas.List.{ext_get_or}
use Rattle.era_base.specs.Flags.{tabulate}

-- a table has a value for each number
pub length-tabulate : {A : Type 0} (first count : ℕ) (value : ℕ → A) → length (tabulate first count value) ≡ count
length-tabulate first zero value = refl
length-tabulate first (suc count) value = ap suc (length-tabulate (first + 1) count value)

-- the value at an index of a table
pub get_or-tabulate : {A : Type 0} (first count : ℕ) (value : ℕ → A) (index : ℕ) (d : A) → index < count → get_or (tabulate first count value) index d ≡ value (first + index)
get_or-tabulate first zero value index d lt = absurd (omega arith)
get_or-tabulate first (suc count) value zero d lt = ap value (let e : first ≡ first + zero = omega arith in e)
get_or-tabulate first (suc count) value (suc index) d lt =
    get_or-tabulate (first + 1) count value index d (omega arith) ∙ ap value (let e : first + 1 + index ≡ first + suc index = omega arith in e)

-- a list is the table of a function that has its values
pub table-is : {A : Type 0} (d : A) (value : ℕ → A) (items : List A) (count : ℕ) → length items ≡ count → ((index : ℕ) → index < count → value index ≡ get_or items index d) → tabulate 0 count value ≡ items
table-is d value items count size same =
    ext_get_or d (tabulate 0 count value) items (length-tabulate 0 count value ∙ sym size) (λ index lt.
    let within : index < count = let n = length-tabulate 0 count value in omega arith in
    get_or-tabulate 0 count value index d within ∙ ap value (let e : 0 + index ≡ index = omega arith in e) ∙ same index within)
