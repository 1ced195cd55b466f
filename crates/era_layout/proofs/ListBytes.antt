-- Lists that are read stand in the bytes, and lists that stand in the bytes are read.
use Rattle.std.proofs.Common.{◌≡◌, ℕ, zero, suc, ◌+◌, ◌*◌, ◌^◌, ◌<◌, ◌≤◌, List, [], ◌∷◌, ◌++◌, length, drop, refl, sym, ap, ◌∙◌, append_assoc, arith}
use Rattle.std.specs.List.{AllByRecursion}
use Rattle.std.proofs.lemmas.List.{drop-drop, drop_at}
use Rattle.era_layout.specs.declared.archive.Archived.{Archived}
use Rattle.era_layout.specs.Numbers.{AreBytes, u32_bytes, u64_bytes, u32s_bytes, u32_at, u64_at, u32s_at}
use Rattle.era_layout.specs.Root.{archive_bytes}
use Rattle.era_layout.specs.Damage.{set_size, sets_at}
use Rattle.era_layout.proofs.NumberBytes.{u32_split, u32_at-front, u64_at-front, length-u32_bytes, length-u32s_bytes}

-- four pieces, joined from the right or the first two and the third first
regrouped : (a b c d : List ℕ) → a ++ (b ++ (c ++ d)) ≡ a ++ b ++ c ++ d
regrouped a b c d = simp append_assoc

-- ---- what is read stands there

pub u32s_split : (bytes : List ℕ) (offset count next : ℕ) → AreBytes bytes → offset + 4 * count ≡ next → next ≤ length bytes → drop offset bytes ≡ u32s_bytes (u32s_at bytes offset count) ++ drop next bytes
u32s_split bytes offset zero next fits is le =
    let here : offset ≡ next = omega arith in ap (λ (k : ℕ). drop k bytes) here
u32s_split bytes offset (suc count) next fits is le =
    u32_split bytes offset (offset + 4) fits refl (omega arith)
    ∙ ap (λ (rest : List ℕ). u32_bytes (u32_at bytes offset) ++ rest) (u32s_split bytes (offset + 4) count next fits (omega arith) le)
    ∙ sym (append_assoc (u32_bytes (u32_at bytes offset)) (u32s_bytes (u32s_at bytes (offset + 4) count)) (drop next bytes))

pub sets_split : (bytes : List ℕ) (width offset count next : ℕ) → AreBytes bytes → offset + count * set_size width ≡ next → next ≤ length bytes → drop offset bytes ≡ archive_bytes (sets_at bytes width offset count) ++ drop next bytes
sets_split bytes width offset zero next fits is le =
    let here : offset ≡ next = omega arith in ap (λ (k : ℕ). drop k bytes) here
sets_split bytes width offset (suc count) next fits is le =
    let behind : offset + set_size width + count * set_size width ≡ next = omega arith in
    let within : offset + set_size width ≤ next = omega arith in
    u32_split bytes offset (offset + 4) fits refl (omega arith)
    ∙ ap (λ (rest : List ℕ). u32_bytes (u32_at bytes offset) ++ rest) (u32s_split bytes (offset + 4) width (offset + set_size width) fits (omega arith) (omega arith))
    ∙ ap (λ (rest : List ℕ). u32_bytes (u32_at bytes offset) ++ (u32s_bytes (u32s_at bytes (offset + 4) width) ++ rest)) (sets_split bytes width (offset + set_size width) count next fits behind le)
    ∙ regrouped (u32_bytes (u32_at bytes offset)) (u32s_bytes (u32s_at bytes (offset + 4) width)) (archive_bytes (sets_at bytes width (offset + set_size width) count)) (drop next bytes)

-- ---- what stands there is read

-- behind a piece stands the rest
pub behind : (bytes piece rest : List ℕ) (offset size next : ℕ) → drop offset bytes ≡ piece ++ rest → length piece ≡ size → offset + size ≡ next → drop next bytes ≡ rest
behind bytes piece rest offset size next stands len is =
    ap (λ (k : ℕ). drop k bytes) (sym is) ∙ sym (drop-drop size offset bytes) ∙ ap (λ (front : List ℕ). drop size front) stands ∙ drop_at piece rest size len

from_front : (bytes : List ℕ) (offset : ℕ) → u32_at bytes offset ≡ u32_at (drop offset bytes) 0
unfolding u32_at
from_front bytes offset = refl

from_front_64 : (bytes : List ℕ) (offset : ℕ) → u64_at bytes offset ≡ u64_at (drop offset bytes) 0
unfolding u64_at
from_front_64 bytes offset = refl

-- a number that stands at an offset is read there
pub u32_stands : (bytes rest : List ℕ) (offset number : ℕ) → drop offset bytes ≡ u32_bytes number ++ rest → number < 2 ^ 32 → u32_at bytes offset ≡ number
u32_stands bytes rest offset number stands lt = from_front bytes offset ∙ ap (λ (front : List ℕ). u32_at front 0) stands ∙ u32_at-front number rest lt

pub u64_stands : (bytes rest : List ℕ) (offset number : ℕ) → drop offset bytes ≡ u64_bytes number ++ rest → number < 2 ^ 64 → u64_at bytes offset ≡ number
u64_stands bytes rest offset number stands lt = from_front_64 bytes offset ∙ ap (λ (front : List ℕ). u64_at front 0) stands ∙ u64_at-front number rest lt

pub u32s_stand : (bytes rest : List ℕ) (offset : ℕ) (numbers : List ℕ) → drop offset bytes ≡ u32s_bytes numbers ++ rest → AllByRecursion (λ number. number < 2 ^ 32) numbers → u32s_at bytes offset (length numbers) ≡ numbers
u32s_stand bytes rest offset [] stands fits = refl
u32s_stand bytes rest offset (number ∷ numbers) stands fits =
    let first : drop offset bytes ≡ u32_bytes number ++ (u32s_bytes numbers ++ rest) = stands ∙ append_assoc (u32_bytes number) (u32s_bytes numbers) rest in
    let others : drop (offset + 4) bytes ≡ u32s_bytes numbers ++ rest = behind bytes (u32_bytes number) (u32s_bytes numbers ++ rest) offset 4 (offset + 4) first (length-u32_bytes number) refl in
    rw (u32_stands bytes (u32s_bytes numbers ++ rest) offset number first fits.0, u32s_stand bytes rest (offset + 4) numbers others fits.1) refl

-- an archived set of so many pages whose numbers fit
pub record SetFits (width : ℕ) (set : Archived) : Type 0 where
  pub era : set.era < 2 ^ 32
  pub size : length set.pages ≡ width
  pub pages : AllByRecursion (λ number. number < 2 ^ 32) set.pages

pub sets_stand : (bytes rest : List ℕ) (width offset : ℕ) (sets : List Archived) → drop offset bytes ≡ archive_bytes sets ++ rest → AllByRecursion (SetFits width) sets → sets_at bytes width offset (length sets) ≡ sets
sets_stand bytes rest width offset [] stands fits = refl
sets_stand bytes rest width offset (set ∷ sets) stands fits =
    let tail = archive_bytes sets ++ rest in
    let first : drop offset bytes ≡ u32_bytes set.era ++ (u32s_bytes set.pages ++ tail) = stands ∙ sym (regrouped (u32_bytes set.era) (u32s_bytes set.pages) (archive_bytes sets) rest) in
    let second : drop (offset + 4) bytes ≡ u32s_bytes set.pages ++ tail = behind bytes (u32_bytes set.era) (u32s_bytes set.pages ++ tail) offset 4 (offset + 4) first (length-u32_bytes set.era) refl in
    let size : length (u32s_bytes set.pages) ≡ 4 * width = length-u32s_bytes set.pages ∙ ap (λ (n : ℕ). 4 * n) fits.0.size in
    let others : drop (offset + set_size width) bytes ≡ tail = behind bytes (u32s_bytes set.pages) tail (offset + 4) (4 * width) (offset + set_size width) second size (omega arith) in
    let era : u32_at bytes offset ≡ set.era = u32_stands bytes (u32s_bytes set.pages ++ tail) offset set.era first fits.0.era in
    let pages : u32s_at bytes (offset + 4) width ≡ set.pages = ap (λ (n : ℕ). u32s_at bytes (offset + 4) n) (sym fits.0.size) ∙ u32s_stand bytes tail (offset + 4) set.pages second fits.0.pages in
    rw (era, pages, sets_stand bytes rest width (offset + set_size width) sets others fits.1) refl
