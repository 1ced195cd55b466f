-- Lists that are the same part by part.
use Rattle.std.proofs.Common.{◌≡◌, ℕ, zero, suc, ◌+◌, ◌*◌, ◌<◌, List, ◌++◌, length, take, drop, ap, sym, ◌∙◌, subst, arith, length-drop}
use Rattle.std.specs.Prelude.{Option, Some}
use Rattle.std.proofs.Math.Nat.{suc-mul, zero-mul}
use Rattle.std.proofs.lemmas.List.{take-append-drop, nil_from_length, drop-drop}
use Rattle.era_base.specs.Bytes.{part}
use Rattle.era_base.specs.Bay.{HasContent, ReadsAs}
use Rattle.era_base.specs.CrashModel.{State, IsWhole}

-- a part behind the first bytes
pub part-drop : (at more width : ℕ) (bytes : List ℕ) → part at width (drop more bytes) ≡ part (more + at) width bytes
part-drop at more width bytes = ap (take width) (drop-drop at more bytes)

-- bytes that have the same parts are the same
pub same_by_parts : (width count : ℕ) (a b : List ℕ) → length a ≡ count * width → length b ≡ count * width
    → ((index : ℕ) → index < count → part (index * width) width a ≡ part (index * width) width b) → a ≡ b
same_by_parts width zero a b la lb same =
    let na : length a ≡ 0 = omega arith in let nb : length b ≡ 0 = omega arith in
    nil_from_length a na ∙ sym (nil_from_length b nb)
same_by_parts width (suc count) a b la lb same =
    let first : take width a ≡ take width b = simp zero-mul at (same 0 (omega arith)) in
    let rest : drop width a ≡ drop width b = same_by_parts width count (drop width a) (drop width b)
    (omega (arith, length-drop width a, suc-mul count width)) (omega (arith, length-drop width b, suc-mul count width)) (λ index below.
    let e : width + index * width ≡ suc index * width = omega (arith, suc-mul index width) in
    part-drop (index * width) width width a ∙ ap (λ at. part at width a) e
    ∙ same (suc index) (omega arith)
    ∙ sym (part-drop (index * width) width width b ∙ ap (λ at. part at width b) e)) in
    sym (take-append-drop width a) ∙ ap (λ front. front ++ drop width a) first ∙ ap (λ back. take width b ++ back) rest ∙ take-append-drop width b

-- a lent disk reads as the device's content
pub seen-is : (reads : List ℕ → ℕ → Option (List ℕ)) (device : List ℕ) (sectors : ℕ) (contents : List ℕ) (state : State)
    → HasContent reads device sectors contents → ReadsAs reads device 0 sectors state → IsWhole sectors state → contents ≡ state.seen
seen-is reads device sectors contents state has reads_as whole =
    same_by_parts 512 sectors contents state.seen has.size whole.bytes
    (λ index below. sym (reads_as index below (part (index * 512) 512 contents)
    (subst (λ (n : ℕ). reads device n ≡ Some (part (index * 512) 512 contents)) (omega arith) (has.bytes index below))))
