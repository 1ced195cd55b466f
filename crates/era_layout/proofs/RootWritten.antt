-- What is written as a root is read as that root, and no kind of damage applies to it.
use Rattle.std.proofs.Common.{◌≡◌, ◌⊎◌, ℕ, suc, ◌+◌, ◌-◌, ◌*◌, ◌^◌, ◌<◌, ◌≤◌, Bool, true, false, eqb, List, [], ◌∷◌, ◌++◌, length, get_or, take, drop, replicate, refl, sym, ap, subst, ◌∙◌, length-append, arith, inl, inr}
use Rattle.std.specs.List.{AllByRecursion}
use Rattle.std.proofs.lemmas.List.{take_at, length-replicate, get_or-replicate}
use Rattle.std.proofs.lemmas.Nat.{mul-le}
use Rattle.era_base.specs.Bytes.{part}
use Rattle.era_base.specs.Geometry.{blocks_of, array_pages_of, bit_pages_of, need_of}
use Rattle.era_layout.specs.declared.archive.Archived.{Archived}
use Rattle.era_layout.specs.Numbers.{u32_bytes, u64_bytes, u32s_bytes, u32_at, u64_at, u32s_at}
use Rattle.era_layout.specs.Root.{RootFields, magic, held_number, head_bytes, lists_bytes, archive_bytes, root_bytes, EraOrder, archive_pages, pages_of, AreInImage, AreDifferent, IsGeometry, IsValidRoot}
use Rattle.era_layout.specs.Damage.{set_size, sets_at, archive_offset, blocks_of_bytes, fields_with, fields_at, AreZeros, Passes, root_kinds, NoneApplies}
use Rattle.era_layout.proofs.NumberBytes.{length-u32_bytes, length-u64_bytes, length-u32s_bytes}
use Rattle.era_layout.proofs.ListBytes.{behind, u32_stands, u64_stands, u32s_stand, SetFits, sets_stand}
use Rattle.era_layout.proofs.RootParts.{regrouped, array_is_small, width_is_small}

-- roots that say the same are one
same_fields : (a b : RootFields) → a.sectors ≡ b.sectors → a.block_sectors ≡ b.block_sectors → a.era ≡ b.era → a.held ≡ b.held → a.array ≡ b.array → a.current ≡ b.current → a.archive ≡ b.archive → a ≡ b
same_fields a b s bs e h x y k = λ i. record { sectors = s i; block_sectors = bs i; era = e i; held = h i; array = x i; current = y i; archive = k i }

-- ---- the numbers of a valid root fit their fields

below_limit : (numbers : List ℕ) (limit : ℕ) → ((index : ℕ) → index < length numbers → get_or numbers index 0 < limit) → AllByRecursion (λ number. number < limit) numbers
below_limit [] limit each = tt
below_limit (number ∷ numbers) limit each = (each 0 (omega arith), below_limit numbers limit (λ index lt. each (suc index) (omega arith)))

all_first : (P : ℕ → Type 0) (xs ys : List ℕ) → AllByRecursion P (xs ++ ys) → AllByRecursion P xs
all_first P [] ys all = tt
all_first P (x ∷ xs) ys all = (all.0, all_first P xs ys all.1)

all_second : (P : ℕ → Type 0) (xs ys : List ℕ) → AllByRecursion P (xs ++ ys) → AllByRecursion P ys
all_second P [] ys all = all
all_second P (x ∷ xs) ys all = all_second P xs ys all.1

sets_fit : (width floor era : ℕ) (sets : List Archived) → era < 2 ^ 32 → EraOrder floor era sets → AllByRecursion (λ set. length set.pages ≡ width) sets → AllByRecursion (λ number. number < 2 ^ 32) (archive_pages sets) → AllByRecursion (SetFits width) sets
sets_fit width floor era [] lt order sizes pages = tt
sets_fit width floor era (set ∷ sets) lt order sizes pages = (
  record { era = omega (arith, order.1); size = sizes.0; pages = all_first (λ number. number < 2 ^ 32) set.pages (archive_pages sets) pages },
  sets_fit width set.era era sets lt order.2 sizes.1 (all_second (λ number. number < 2 ^ 32) set.pages (archive_pages sets) pages),
)

-- the fields of a root that stands in bytes
pub record Stands (root : RootFields) (bytes : List ℕ) : Type 0 where
  pub magic : part 0 8 bytes ≡ magic
  pub version : u32_at bytes 8 ≡ 1
  pub block_sectors : u32_at bytes 12 ≡ root.block_sectors
  pub sectors : u64_at bytes 16 ≡ root.sectors
  pub era : u32_at bytes 24 ≡ root.era
  pub held : u32_at bytes 28 ≡ held_number root.held
  pub count : u32_at bytes 32 ≡ length root.archive
  pub gap : u32_at bytes 36 ≡ 0
  pub array : u32s_at bytes 40 (length root.array) ≡ root.array
  pub current : u32s_at bytes (40 + 4 * length root.array) (length root.current) ≡ root.current
  pub archive : sets_at bytes (length root.current) (archive_offset (length root.array) (length root.current)) (length root.archive) ≡ root.archive
  pub tail : AreZeros (drop (archive_offset (length root.array) (length root.current) + length root.archive * set_size (length root.current)) bytes)

length-magic : length magic ≡ 8
unfolding magic
length-magic = refl

length-archive : (width : ℕ) (sets : List Archived) → AllByRecursion (λ set. length set.pages ≡ width) sets → length (archive_bytes sets) ≡ length sets * set_size width
length-archive width [] sizes = omega arith
length-archive width (set ∷ sets) sizes =
    let one : length (u32_bytes set.era ++ u32s_bytes set.pages) ≡ set_size width = omega (arith, length-append (u32_bytes set.era) (u32s_bytes set.pages), length-u32_bytes set.era, length-u32s_bytes set.pages, sizes.0) in
    omega (arith, length-append (u32_bytes set.era ++ u32s_bytes set.pages) (archive_bytes sets), one, length-archive width sets sizes.1)

zeros_are_zeros : (count : ℕ) → AreZeros (replicate count 0)
zeros_are_zeros count index lt = get_or-replicate count index 0 0 (omega (arith, length-replicate {A = ℕ} count 0))

held_fits : (held : Bool) → held_number held < 2 ^ 32
held_fits true = omega arith
held_fits false = omega arith

-- each number of a valid root's pages fits four bytes
pages_fit : (root : RootFields) → IsValidRoot root → AllByRecursion (λ number. number < 2 ^ 32) (pages_of root)
pages_fit root valid =
    let blocks = blocks_of root.sectors root.block_sectors in
    let a : array_pages_of blocks ≤ 64 = array_is_small blocks valid.geometry.limited in
    let w : bit_pages_of blocks ≤ 2 = width_is_small blocks valid.geometry.limited in
    let need : need_of blocks < 2 ^ 32 = omega arith in
    below_limit (pages_of root) (2 ^ 32) (λ index lt. let r = valid.range index lt in omega (arith, r.1))

pub stands : (root : RootFields) (bytes : List ℕ) (count : ℕ) → IsValidRoot root → bytes ≡ head_bytes root ++ lists_bytes root ++ replicate count 0 → Stands root bytes
stands root bytes count valid is =
    let zeros : List ℕ = replicate count 0 in
    let pages = pages_fit root valid in
    let fits = λ (number : ℕ). number < 2 ^ 32 in
    let front = all_first fits (root.array ++ root.current) (archive_pages root.archive) pages in
    let k = archive_bytes root.archive in
    let y = u32s_bytes root.current in
    let x = u32s_bytes root.array in
    let n = u32_bytes (length root.archive) in
    let h = u32_bytes (held_number root.held) in
    let r10 = k ++ zeros in
    let r9 = y ++ r10 in
    let r8 = x ++ r9 in
    let r7 = u32_bytes 0 ++ r8 in
    let r6 = n ++ r7 in
    let r5 = h ++ r6 in
    let r4 = u32_bytes root.era ++ r5 in
    let r3 = u64_bytes root.sectors ++ r4 in
    let r2 = u32_bytes root.block_sectors ++ r3 in
    let r1 = u32_bytes 1 ++ r2 in
    let d0 : drop 0 bytes ≡ magic ++ r1 = is ∙ sym (regrouped magic (u32_bytes 1) (u32_bytes root.block_sectors) (u64_bytes root.sectors) (u32_bytes root.era) h n (u32_bytes 0) x y k zeros) in
    let d1 : drop 8 bytes ≡ r1 = behind bytes magic r1 0 8 8 d0 length-magic refl in
    let d2 : drop 12 bytes ≡ r2 = behind bytes (u32_bytes 1) r2 8 4 12 d1 (length-u32_bytes 1) refl in
    let d3 : drop 16 bytes ≡ r3 = behind bytes (u32_bytes root.block_sectors) r3 12 4 16 d2 (length-u32_bytes root.block_sectors) refl in
    let d4 : drop 24 bytes ≡ r4 = behind bytes (u64_bytes root.sectors) r4 16 8 24 d3 (length-u64_bytes root.sectors) refl in
    let d5 : drop 28 bytes ≡ r5 = behind bytes (u32_bytes root.era) r5 24 4 28 d4 (length-u32_bytes root.era) refl in
    let d6 : drop 32 bytes ≡ r6 = behind bytes h r6 28 4 32 d5 (length-u32_bytes (held_number root.held)) refl in
    let d7 : drop 36 bytes ≡ r7 = behind bytes n r7 32 4 36 d6 (length-u32_bytes (length root.archive)) refl in
    let d8 : drop 40 bytes ≡ r8 = behind bytes (u32_bytes 0) r8 36 4 40 d7 (length-u32_bytes 0) refl in
    let d9 : drop (40 + 4 * length root.array) bytes ≡ r9 = behind bytes x r9 40 (4 * length root.array) (40 + 4 * length root.array) d8 (length-u32s_bytes root.array) refl in
    let offset = archive_offset (length root.array) (length root.current) in
    let d10 : drop offset bytes ≡ r10 = behind bytes y r10 (40 + 4 * length root.array) (4 * length root.current) offset d9 (length-u32s_bytes root.current) refl in
    let size = length root.archive * set_size (length root.current) in
    let sizes = subst (λ (w : ℕ). AllByRecursion (λ set. length set.pages ≡ w) root.archive) (sym valid.current) valid.sets in
    let d11 : drop (offset + size) bytes ≡ zeros = behind bytes k zeros offset size (offset + size) d10 (length-archive (length root.current) root.archive sizes) refl in
    record {
      magic = ap (λ (all : List ℕ). take 8 all) d0 ∙ take_at magic r1 8 length-magic;
      version = u32_stands bytes r2 8 1 d1 (omega arith);
      block_sectors = u32_stands bytes r3 12 root.block_sectors d2 (omega (arith, valid.geometry.block_size.greatest));
      sectors = u64_stands bytes r4 16 root.sectors d3 valid.length_fits;
      era = u32_stands bytes r5 24 root.era d4 valid.era_fits;
      held = u32_stands bytes r6 28 (held_number root.held) d5 (held_fits root.held);
      count = u32_stands bytes r7 32 (length root.archive) d6 (omega (arith, valid.count));
      gap = u32_stands bytes r8 36 0 d7 (omega arith);
      array = u32s_stand bytes r9 40 root.array d8 (all_first fits root.array root.current front);
      current = u32s_stand bytes r10 (40 + 4 * length root.array) root.current d9 (all_second fits root.array root.current front);
      archive = sets_stand bytes zeros (length root.current) offset root.archive d10 (sets_fit (length root.current) 0 root.era root.archive valid.era_fits valid.order sizes (all_second fits (root.array ++ root.current) (archive_pages root.archive) pages));
      tail = subst AreZeros (sym d11) (zeros_are_zeros count);
    }

held_back : (held : Bool) → eqb (held_number held) 2 ≡ held
held_back true = refl
held_back false = refl

held_values : (held : Bool) → (held_number held ≡ 0) ⊎ (held_number held ≡ 2)
held_values true = inr refl
held_values false = inl refl

-- where a root stands, just that root is read
pub read_back : (root : RootFields) (bytes : List ℕ) → IsValidRoot root → Stands root bytes → fields_at bytes ≡ root
read_back root bytes valid s =
    let blocks : blocks_of_bytes bytes ≡ blocks_of root.sectors root.block_sectors = rw (s.sectors, s.block_sectors) refl in
    let array : array_pages_of (blocks_of_bytes bytes) ≡ length root.array = ap array_pages_of blocks ∙ sym valid.array in
    let width : bit_pages_of (blocks_of_bytes bytes) ≡ length root.current = ap bit_pages_of blocks ∙ sym valid.current in
    let here = length root.array in
    let wide = length root.current in
    let with_lengths : fields_with bytes here wide ≡ root = same_fields (fields_with bytes here wide) root s.sectors s.block_sectors s.era (ap (λ (n : ℕ). eqb n 2) s.held ∙ held_back root.held) s.array s.current
    (ap (λ (n : ℕ). sets_at bytes wide (archive_offset here wide) n) s.count ∙ s.archive) in
    ap (λ (n : ℕ). fields_with bytes n (bit_pages_of (blocks_of_bytes bytes))) array ∙ ap (λ (n : ℕ). fields_with bytes here n) width ∙ with_lengths

-- where a valid root stands, no kind of damage applies
pub none_applies : (root : RootFields) (bytes : List ℕ) → IsValidRoot root → Stands root bytes → NoneApplies bytes root_kinds
unfolding Passes
none_applies root bytes valid s =
    let blocks : blocks_of_bytes bytes ≡ blocks_of root.sectors root.block_sectors = rw (s.sectors, s.block_sectors) refl in
    let array : array_pages_of (blocks_of_bytes bytes) ≡ length root.array = ap array_pages_of blocks ∙ sym valid.array in
    let width : bit_pages_of (blocks_of_bytes bytes) ≡ length root.current = ap bit_pages_of blocks ∙ sym valid.current in
    let same : fields_at bytes ≡ root = read_back root bytes valid s in
    let pages : pages_of (fields_at bytes) ≡ pages_of root = ap pages_of same in
    let sets : (fields_at bytes).archive ≡ root.archive = ap (λ (r : RootFields). r.archive) same in
    let geometry : IsGeometry (u64_at bytes 16) (u32_at bytes 12) = rw (s.sectors, s.block_sectors) valid.geometry in
    let tail : AreZeros (drop (archive_offset (array_pages_of (blocks_of_bytes bytes)) (bit_pages_of (blocks_of_bytes bytes)) + u32_at bytes 32 * set_size (bit_pages_of (blocks_of_bytes bytes))) bytes) = rw (array, width, s.count) s.tail in (
      s.magic,
      (
        s.version,
        (
          geometry,
          (
            rw s.era valid.era,
            (
              rw s.held (held_values root.held),
              (
                record { count = rw s.count valid.count; order = subst (λ (list : List Archived). EraOrder 0 (u32_at bytes 24) list) (sym sets) (rw s.era valid.order) },
                (
                  subst (λ (list : List ℕ). AreInImage (blocks_of_bytes bytes) list) (sym pages) (subst (λ (n : ℕ). AreInImage n (pages_of root)) (sym blocks) valid.range),
                  (subst (λ (list : List ℕ). AreDifferent list) (sym pages) valid.different, (record { gap = s.gap; rest = tail }, tt)),
                ),
              ),
            ),
          ),
        ),
      ),
    )

-- a valid root's fields take at most 496 bytes
pub length-fields : (root : RootFields) → IsValidRoot root → length (head_bytes root ++ lists_bytes root) ≤ 496
length-fields root valid =
    let blocks = blocks_of root.sectors root.block_sectors in
    let a : array_pages_of blocks ≤ 64 = array_is_small blocks valid.geometry.limited in
    let w : bit_pages_of blocks ≤ 2 = width_is_small blocks valid.geometry.limited in
    let x = length-u32s_bytes root.array in
    let y = length-u32s_bytes root.current in
    let k = length-archive (bit_pages_of blocks) root.archive valid.sets in
    let sets = mul-le (length root.archive) (set_size (bit_pages_of blocks)) 16 12 valid.count (omega arith) in
    simp (length-append, length-magic, length-u32_bytes, length-u64_bytes) (omega (arith, x, y, k, sets, valid.array, valid.current))

pub length-root : (root : RootFields) → IsValidRoot root → length (root_bytes root) ≡ 3576
length-root root valid =
    let front = head_bytes root ++ lists_bytes root in
    omega (arith, length-append front (replicate (3576 - length front) 0), length-replicate {A = ℕ} (3576 - length front) 0, length-fields root valid)
