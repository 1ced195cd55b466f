-- From pages that say marks, page by page, to the marks that they say, and to pages without damage.
use Rattle.std.proofs.Common.{◌≡◌, ℕ, ◌+◌, ◌-◌, ◌*◌, ◌/◌, ◌%◌, ◌≤◌, Bool, false, List, [], ◌∷◌, length, get_or, map, refl, ap, sym, ◌∙◌, arith}
use Rattle.std.specs.List.{AllByRecursion}
use Rattle.std.proofs.lemmas.List.{get_or_past, length-map}
use Rattle.era_base.specs.Flags.{has, tabulate}
use Rattle.era_base.specs.Geometry.{array_pages_of, bit_pages_of}
use Rattle.era_layout.specs.declared.archive.Archived.{Archived}
use Rattle.era_layout.specs.Root.{RootFields, IsValidRoot}
use Rattle.era_model.specs.Marks.{ArchivedSet, BlockMarks, blocks_of_marks, entry_of}
use Rattle.era_model.specs.Validity.{AreArchivedBetween, entry_limit, AreValidMarks}
use Rattle.era_meta.specs.Content.{archived_content, content_of, blocks_of_root, entry_in, flag_in, set_in, marks_in, root_limit, AreArrayPages, AreBitsPages, IsWholeContent}
use Rattle.era_meta.specs.SaysMarks.{SayEntries, SayFlags, SaySets, SaysMarks, HasSets, IsRootFor}
use Rattle.era_meta.proofs.SaysMarksTables.{table-is}

-- the entries that pages say
entries-of-pages : (blocks : ℕ) (eras : List ℕ) (pages : List (List ℕ)) → length eras ≡ blocks → length pages ≡ array_pages_of blocks → SayEntries eras pages
    → tabulate 0 blocks (entry_in pages) ≡ eras
entries-of-pages blocks eras pages size count say = table-is 0 (entry_in pages) eras blocks size (λ block lt.
    say (block / 1024) (omega (arith, count)) (block % 1024) (omega arith)
    ∙ ap (λ (index : ℕ). get_or eras index 0) (let e : 1024 * (block / 1024) + block % 1024 ≡ block = omega arith in e))

-- the flags that pages say
flags-of-pages : (blocks : ℕ) (flags : List Bool) (pages : List (List ℕ)) → length flags ≡ blocks → length pages ≡ bit_pages_of blocks → SayFlags flags pages
    → tabulate 0 blocks (flag_in pages) ≡ flags
flags-of-pages blocks flags pages size count say = table-is false (flag_in pages) flags blocks size (λ block lt.
    say (block / 32768) (omega (arith, count)) (block % 32768) (omega arith)
    ∙ ap (has flags) (let e : 32768 * (block / 32768) + block % 32768 ≡ block = omega arith in e))

-- pages of an era array have no entry past the last block, and none above the limit
whole-entries : (blocks limit : ℕ) (eras : List ℕ) (pages : List (List ℕ)) → length eras ≡ blocks → ((block : ℕ) → entry_of eras block ≤ limit) → SayEntries eras pages
    → AreArrayPages blocks limit pages
whole-entries blocks limit eras pages size limited say = λ index lt. record {
  end = λ entry from below. let none = get_or_past eras (1024 * index + entry) 0 (omega (arith, size)) in rw (say index lt entry below ∙ none) (omega arith);
  limited = λ entry from below. rw (say index lt entry below) (limited (1024 * index + entry));
}

-- pages of a set have no bit past the last block
whole-flags : (blocks : ℕ) (flags : List Bool) (pages : List (List ℕ)) → length flags ≡ blocks → SayFlags flags pages → AreBitsPages blocks pages
whole-flags blocks flags pages size say = λ index lt bit from below.
    say index lt bit below ∙ get_or_past flags (32768 * index + bit) false (omega (arith, size))

-- the archived sets that pages say
sets-of-pages : (page : ℕ → List ℕ) (blocks above below : ℕ) (sets : List ArchivedSet) (archive : List Archived) → AreArchivedBetween blocks above below sets
    → SaySets sets (map (archived_content page) archive) → AllByRecursion (λ set. length set.pages ≡ bit_pages_of blocks) archive
    → map (set_in blocks) (map (archived_content page) archive) ≡ sets
sets-of-pages page blocks above below [] [] are say counts = refl
sets-of-pages page blocks above below [] (archived ∷ archive) are say counts = absurd say
sets-of-pages page blocks above below (set ∷ sets) [] are say counts = absurd say
sets-of-pages page blocks above below (set ∷ sets) (archived ∷ archive) are say counts =
    let era : archived.era ≡ set.era = say.0 in
    let flags : tabulate 0 blocks (flag_in (map page archived.pages)) ≡ set.blocks =
    flags-of-pages blocks set.blocks (map page archived.pages) are.2 (length-map archived.pages page ∙ counts.0) say.1 in
    let others = sets-of-pages page blocks set.era below sets archive are.3 say.2 counts.1 in
    rw (others, flags, era) refl

-- pages of archived sets have no bit past the last block
whole-sets : (page : ℕ → List ℕ) (blocks above below : ℕ) (sets : List ArchivedSet) (archive : List Archived) → AreArchivedBetween blocks above below sets
    → SaySets sets (map (archived_content page) archive) → AllByRecursion (λ set. AreBitsPages blocks set.pages) (map (archived_content page) archive)
whole-sets page blocks above below [] [] are say = tt
whole-sets page blocks above below [] (archived ∷ archive) are say = absurd say
whole-sets page blocks above below (set ∷ sets) [] are say = absurd say
whole-sets page blocks above below (set ∷ sets) (archived ∷ archive) are say =
    (whole-flags blocks set.blocks (map page archived.pages) are.2 say.1, whole-sets page blocks set.era below sets archive are.3 say.2)

-- a root of marks has their limit of entries
pub same-limit : (sets : List ArchivedSet) (archive : List Archived) (era era' : ℕ) → HasSets sets archive → era ≡ era' → entry_limit sets era' ≡ root_limit archive era
same-limit [] [] era era' has same = ap (λ (n : ℕ). n - 1) (sym same)
same-limit [] (archived ∷ archive) era era' has same = absurd has
same-limit (set ∷ sets) [] era era' has same = absurd has
same-limit (set ∷ sets) (archived ∷ archive) era era' has same = sym has.0

-- a root of marks is over their blocks
same-blocks : (root : RootFields) (m : BlockMarks) → IsRootFor root m → blocks_of_marks m ≡ blocks_of_root root
same-blocks root m for = rw (for.sectors, for.block_sectors) refl

-- a root whose pages say marks says them
pub said-marks : (page : ℕ → List ℕ) (root : RootFields) (m : BlockMarks) → IsValidRoot root → AreValidMarks m → IsRootFor root m → SaysMarks m (content_of page root)
    → marks_in root (content_of page root) ≡ m
said-marks page root m valid are for says =
    let blocks = same-blocks root m for in
    let array : tabulate 0 (blocks_of_root root) (entry_in (map page root.array)) ≡ m.array =
    entries-of-pages (blocks_of_root root) m.array (map page root.array) (are.array_size ∙ blocks) (length-map root.array page ∙ valid.array) says.array in
    let current : tabulate 0 (blocks_of_root root) (flag_in (map page root.current)) ≡ m.current =
    flags-of-pages (blocks_of_root root) m.current (map page root.current) (are.current_size ∙ blocks) (length-map root.current page ∙ valid.current) says.current in
    let archive : map (set_in (blocks_of_root root)) (map (archived_content page) root.archive) ≡ m.archive =
    sets-of-pages page (blocks_of_root root) 0 m.era m.archive root.archive (rw blocks at are.archive) says.archive valid.sets in
    rw (array, current, archive, for.sectors, for.block_sectors, for.era) refl

-- a root whose pages say valid marks has no damage of a page
pub whole-pages : (page : ℕ → List ℕ) (root : RootFields) (m : BlockMarks) → IsValidRoot root → AreValidMarks m → IsRootFor root m → SaysMarks m (content_of page root)
    → IsWholeContent root (content_of page root)
whole-pages page root m valid are for says =
    let blocks = same-blocks root m for in
    record {
      entries = whole-entries (blocks_of_root root) (root_limit root.archive root.era) m.array (map page root.array) (are.array_size ∙ blocks)
          (λ block. rw (← same-limit m.archive root.archive root.era m.era for.archive for.era) (are.entries block)) says.array;
      sets = whole-sets page (blocks_of_root root) 0 m.era m.archive root.archive (rw blocks at are.archive) says.archive;
      current_set = whole-flags (blocks_of_root root) m.current (map page root.current) (are.current_size ∙ blocks) says.current;
    }
