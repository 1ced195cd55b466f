-- What is read as a root is valid, and has these bytes.
use Rattle.std.proofs.Common.{◌≡◌, ◌⊎◌, ℕ, zero, suc, ◌+◌, ◌*◌, ◌≤◌, eqb, List, ◌++◌, length, drop, refl, sym, ap, ◌∙◌, arith, inl, inr}
use Rattle.std.specs.List.{AllByRecursion}
use Rattle.std.proofs.lemmas.List.{take-append-drop}
use Rattle.era_base.specs.Bytes.{part}
use Rattle.era_base.specs.Geometry.{array_pages_of, bit_pages_of}
use Rattle.era_layout.specs.Numbers.{AreBytes, u32_bytes, u64_bytes, u32s_bytes, u32_at}
use Rattle.era_layout.specs.Root.{magic, held_number, head_bytes, lists_bytes, archive_bytes, root_bytes, IsValidRoot}
use Rattle.era_layout.specs.Damage.{set_size, sets_at, archive_offset, blocks_of_bytes, fields_with, fields_at, AreZeros, Passes, root_kinds, NoneApplies}
use Rattle.era_layout.proofs.NumberBytes.{u32_split, u64_split, u32_at_below, u64_at_below}
use Rattle.era_layout.proofs.ListFields.{length-u32s_at, length-sets_at}
use Rattle.era_layout.proofs.ListBytes.{u32s_split, sets_split}
use Rattle.era_layout.proofs.RootParts.{chained, padded_is, array_is_small, width_is_small, lists_fit}

-- the held field is that of its value
held_is : (held : ℕ) → (held ≡ 0) ⊎ (held ≡ 2) → held ≡ held_number (eqb held 2)
held_is held (inl none) = rw none refl
held_is held (inr some) = rw some refl

-- the values of the fields that say nothing else
pub record Fixed (bytes : List ℕ) : Type 0 where
  pub magic : part 0 8 bytes ≡ magic
  pub version : u32_at bytes 8 ≡ 1
  pub held : (u32_at bytes 28 ≡ 0) ⊎ (u32_at bytes 28 ≡ 2)
  pub gap : u32_at bytes 36 ≡ 0

-- a number that is known stands in front of the rest
known : (bytes : List ℕ) (offset next number : ℕ) → AreBytes bytes → offset + 4 ≡ next → next ≤ length bytes → u32_at bytes offset ≡ number → drop offset bytes ≡ u32_bytes number ++ drop next bytes
known bytes offset next number fits is le value = u32_split bytes offset next fits is le ∙ ap (λ (n : ℕ). u32_bytes n ++ drop next bytes) value

pub root_read : (bytes : List ℕ) (array width : ℕ) → length bytes ≡ 3576 → AreBytes bytes → array ≤ 64 → width ≤ 2 → u32_at bytes 32 ≤ 16 → Fixed bytes
    → AreZeros (drop (archive_offset array width + u32_at bytes 32 * set_size width) bytes) → root_bytes (fields_with bytes array width) ≡ bytes
root_read bytes array width size fits a w c fixed zeros =
    let root = fields_with bytes array width in
    let count = u32_at bytes 32 in
    let end = archive_offset array width + count * set_size width in
    let within : end ≤ 3576 = lists_fit array width count a w c in
    let m : bytes ≡ magic ++ drop 8 bytes = sym (take-append-drop 8 bytes) ∙ ap (λ (front : List ℕ). front ++ drop 8 bytes) fixed.magic in
    let v = known bytes 8 12 1 fits refl (omega arith) fixed.version in
    let b = u32_split bytes 12 16 fits refl (omega arith) in
    let s = u64_split bytes 16 24 fits refl (omega arith) in
    let e = u32_split bytes 24 28 fits refl (omega arith) in
    let h = known bytes 28 32 (held_number root.held) fits refl (omega arith) (held_is (u32_at bytes 28) fixed.held) in
    let n = known bytes 32 36 (length root.archive) fits refl (omega arith) (sym (length-sets_at bytes width (archive_offset array width) count)) in
    let z = known bytes 36 40 0 fits refl (omega arith) fixed.gap in
    let x = u32s_split bytes 40 array (40 + 4 * array) fits refl (omega arith) in
    let y = u32s_split bytes (40 + 4 * array) width (archive_offset array width) fits refl (omega arith) in
    let k = sets_split bytes width (archive_offset array width) count end fits refl (omega arith) in
    let whole : bytes ≡ head_bytes root ++ lists_bytes root ++ drop end bytes = chained magic (u32_bytes 1) (u32_bytes root.block_sectors) (u64_bytes root.sectors) (u32_bytes root.era) (u32_bytes (held_number root.held)) (u32_bytes (length root.archive)) (u32_bytes 0)
    (u32s_bytes root.array) (u32s_bytes root.current) (archive_bytes root.archive) (drop end bytes)
    bytes (drop 8 bytes) (drop 12 bytes) (drop 16 bytes) (drop 24 bytes) (drop 28 bytes) (drop 32 bytes) (drop 36 bytes) (drop 40 bytes) (drop (40 + 4 * array) bytes) (drop (archive_offset array width) bytes)
    m v b s e h n z x y k in
    padded_is bytes (head_bytes root ++ lists_bytes root) (drop end bytes) 3576 size whole zeros

sets_have_width : (bytes : List ℕ) (width offset count : ℕ) → AllByRecursion (λ set. length set.pages ≡ width) (sets_at bytes width offset count)
sets_have_width bytes width offset zero = tt
sets_have_width bytes width offset (suc count) = (length-u32s_at bytes (offset + 4) width, sets_have_width bytes width (offset + set_size width) count)

-- bytes without damage are those of the root that they say
pub bytes_again : (bytes : List ℕ) → length bytes ≡ 3576 → AreBytes bytes → NoneApplies bytes root_kinds → root_bytes (fields_at bytes) ≡ bytes
unfolding Passes
bytes_again bytes size fits none =
    let geometry = none.1.1.0 in
    let order = none.1.1.1.1.1.0 in
    let tail = none.1.1.1.1.1.1.1.1.0 in
    root_read bytes (array_pages_of (blocks_of_bytes bytes)) (bit_pages_of (blocks_of_bytes bytes)) size fits (array_is_small (blocks_of_bytes bytes) geometry.limited) (width_is_small (blocks_of_bytes bytes) geometry.limited) order.count
    (record { magic = none.0; version = none.1.0; held = none.1.1.1.1.0; gap = tail.gap }) tail.rest

-- bytes without damage say a valid root
pub is_valid : (bytes : List ℕ) → AreBytes bytes → NoneApplies bytes root_kinds → IsValidRoot (fields_at bytes)
unfolding Passes
is_valid bytes fits none =
    let geometry = none.1.1.0 in
    let order = none.1.1.1.1.1.0 in
    let width = bit_pages_of (blocks_of_bytes bytes) in
    let offset = archive_offset (array_pages_of (blocks_of_bytes bytes)) width in
    record {
      length_fits = u64_at_below bytes 16 fits;
      geometry = geometry;
      era = none.1.1.1.0;
      era_fits = u32_at_below bytes 24 fits;
      array = length-u32s_at bytes 40 (array_pages_of (blocks_of_bytes bytes));
      current = length-u32s_at bytes (40 + 4 * array_pages_of (blocks_of_bytes bytes)) width;
      count = rw (length-sets_at bytes width offset (u32_at bytes 32)) order.count;
      sets = sets_have_width bytes width offset (u32_at bytes 32);
      order = order.order;
      range = none.1.1.1.1.1.1.0;
      different = none.1.1.1.1.1.1.1.0;
    }
