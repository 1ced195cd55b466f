-- What the tests of a root's pages mean together: its content is whole exactly where all pass.
use Rattle.std.proofs.Common.{◌≡◌, ℕ, zero, suc, ◌+◌, ◌-◌, ◌*◌, ◌<◌, min, List, [], ◌∷◌, ◌++◌, length, get_or, map, sym, subst, arith}
use Rattle.std.proofs.lemmas.List.{get_or-map, length-map}
use Rattle.std.specs.List.{AllByRecursion}
use Rattle.era_layout.specs.declared.archive.Archived.{Archived}
use Rattle.era_layout.specs.Pages.{IsArrayPage, FlagsEndAt}
use Rattle.era_layout.specs.Root.{RootFields}
use Rattle.era_slots.specs.Slot.{page_of}
use Rattle.era_meta.specs.Content.{archived_content, content_of, blocks_of_root, root_limit, AreArrayPages, AreBitsPages, IsWholeContent}
use Rattle.era_meta.specs.Damage.{Passes, PassAll, array_tests, set_tests, archive_tests, page_tests}
use Rattle.era_meta.specs.Meaning.{pages_in}
use Rattle.era_meta.proofs.Agree.{all_front, all_back, all_both}

array-pass : (seen : List ℕ) (blocks limit first : ℕ) (numbers : List ℕ) → PassAll seen (array_tests blocks limit first numbers)
    → (index : ℕ) → index < length numbers → IsArrayPage (page_of (get_or numbers index 0) seen) (min 1024 (blocks - 1024 * (first + index))) limit
array-pass seen blocks limit first [] pass index lt = absurd (omega arith)
array-pass seen blocks limit first (page ∷ pages) pass zero lt =
    subst (λ (n : ℕ). IsArrayPage (page_of page seen) (min 1024 (blocks - 1024 * n)) limit) (let e : first ≡ first + zero = omega arith in e) pass.0
array-pass seen blocks limit first (page ∷ pages) pass (suc index) lt =
    subst (λ (n : ℕ). IsArrayPage (page_of (get_or pages index 0) seen) (min 1024 (blocks - 1024 * n)) limit)
    (let e : first + 1 + index ≡ first + suc index = omega arith in e) (array-pass seen blocks limit (first + 1) pages pass.1 index (omega arith))

bits-pass : (seen : List ℕ) (blocks first : ℕ) (numbers : List ℕ) → PassAll seen (set_tests blocks first numbers)
    → (index : ℕ) → index < length numbers → FlagsEndAt (page_of (get_or numbers index 0) seen) (min 32768 (blocks - 32768 * (first + index)))
bits-pass seen blocks first [] pass index lt = absurd (omega arith)
bits-pass seen blocks first (page ∷ pages) pass zero lt =
    subst (λ (n : ℕ). FlagsEndAt (page_of page seen) (min 32768 (blocks - 32768 * n))) (let e : first ≡ first + zero = omega arith in e) pass.0
bits-pass seen blocks first (page ∷ pages) pass (suc index) lt =
    subst (λ (n : ℕ). FlagsEndAt (page_of (get_or pages index 0) seen) (min 32768 (blocks - 32768 * n)))
    (let e : first + 1 + index ≡ first + suc index = omega arith in e) (bits-pass seen blocks (first + 1) pages pass.1 index (omega arith))

array-whole : (seen : List ℕ) (blocks limit : ℕ) (numbers : List ℕ) → PassAll seen (array_tests blocks limit 0 numbers)
    → AreArrayPages blocks limit (map (pages_in seen) numbers)
array-whole seen blocks limit numbers pass index lt =
    let within : index < length numbers = omega (arith, length-map numbers (pages_in seen)) in
    let at : 0 + index ≡ index = omega arith in
    subst (λ (page : List ℕ). IsArrayPage page (min 1024 (blocks - 1024 * index)) limit) (sym (get_or-map (pages_in seen) numbers index 0 [] within))
    (subst (λ (n : ℕ). IsArrayPage (page_of (get_or numbers index 0) seen) (min 1024 (blocks - 1024 * n)) limit) at (array-pass seen blocks limit 0 numbers pass index within))

bits-whole : (seen : List ℕ) (blocks : ℕ) (numbers : List ℕ) → PassAll seen (set_tests blocks 0 numbers) → AreBitsPages blocks (map (pages_in seen) numbers)
bits-whole seen blocks numbers pass index lt =
    let within : index < length numbers = omega (arith, length-map numbers (pages_in seen)) in
    let at : 0 + index ≡ index = omega arith in
    subst (λ (page : List ℕ). FlagsEndAt page (min 32768 (blocks - 32768 * index))) (sym (get_or-map (pages_in seen) numbers index 0 [] within))
    (subst (λ (n : ℕ). FlagsEndAt (page_of (get_or numbers index 0) seen) (min 32768 (blocks - 32768 * n))) at (bits-pass seen blocks 0 numbers pass index within))

archive-whole : (seen : List ℕ) (blocks : ℕ) (sets : List Archived) → PassAll seen (archive_tests blocks sets)
    → AllByRecursion (λ set. AreBitsPages blocks set.pages) (map (archived_content (pages_in seen)) sets)
archive-whole seen blocks [] pass = tt
archive-whole seen blocks (set ∷ sets) pass = (
  bits-whole seen blocks set.pages (all_front (Passes seen) (set_tests blocks 0 set.pages) (archive_tests blocks sets) pass),
  archive-whole seen blocks sets (all_back (Passes seen) (set_tests blocks 0 set.pages) (archive_tests blocks sets) pass),
)

pub passed-whole : (seen : List ℕ) (root : RootFields) → PassAll seen (page_tests root) → IsWholeContent root (content_of (pages_in seen) root)
passed-whole seen root pass =
    let blocks = blocks_of_root root in
    let array = array_tests blocks (root_limit root.archive root.era) 0 root.array in
    let front = all_front (Passes seen) (array ++ archive_tests blocks root.archive) (set_tests blocks 0 root.current) pass in
    record {
      entries = array-whole seen blocks (root_limit root.archive root.era) root.array (all_front (Passes seen) array (archive_tests blocks root.archive) front);
      sets = archive-whole seen blocks root.archive (all_back (Passes seen) array (archive_tests blocks root.archive) front);
      current_set = bits-whole seen blocks root.current (all_back (Passes seen) (array ++ archive_tests blocks root.archive) (set_tests blocks 0 root.current) pass);
    }

-- and the other way round
array-tested : (seen : List ℕ) (blocks limit first : ℕ) (numbers : List ℕ)
    → ((index : ℕ) → index < length numbers → IsArrayPage (page_of (get_or numbers index 0) seen) (min 1024 (blocks - 1024 * (first + index))) limit)
    → PassAll seen (array_tests blocks limit first numbers)
array-tested seen blocks limit first [] are = tt
array-tested seen blocks limit first (page ∷ pages) are = (
  subst (λ (n : ℕ). IsArrayPage (page_of page seen) (min 1024 (blocks - 1024 * n)) limit) (let e : first + 0 ≡ first = omega arith in e) (are 0 (omega arith)),
  array-tested seen blocks limit (first + 1) pages (λ index lt.
      subst (λ (n : ℕ). IsArrayPage (page_of (get_or pages index 0) seen) (min 1024 (blocks - 1024 * n)) limit)
      (let e : first + suc index ≡ first + 1 + index = omega arith in e) (are (suc index) (omega arith))),
)

bits-tested : (seen : List ℕ) (blocks first : ℕ) (numbers : List ℕ)
    → ((index : ℕ) → index < length numbers → FlagsEndAt (page_of (get_or numbers index 0) seen) (min 32768 (blocks - 32768 * (first + index))))
    → PassAll seen (set_tests blocks first numbers)
bits-tested seen blocks first [] are = tt
bits-tested seen blocks first (page ∷ pages) are = (
  subst (λ (n : ℕ). FlagsEndAt (page_of page seen) (min 32768 (blocks - 32768 * n))) (let e : first + 0 ≡ first = omega arith in e) (are 0 (omega arith)),
  bits-tested seen blocks (first + 1) pages (λ index lt.
      subst (λ (n : ℕ). FlagsEndAt (page_of (get_or pages index 0) seen) (min 32768 (blocks - 32768 * n)))
      (let e : first + suc index ≡ first + 1 + index = omega arith in e) (are (suc index) (omega arith))),
)

bits-again : (seen : List ℕ) (blocks : ℕ) (numbers : List ℕ) → AreBitsPages blocks (map (pages_in seen) numbers) → PassAll seen (set_tests blocks 0 numbers)
bits-again seen blocks numbers are = bits-tested seen blocks 0 numbers (λ index lt.
    let at : index ≡ 0 + index = omega arith in
    subst (λ (n : ℕ). FlagsEndAt (page_of (get_or numbers index 0) seen) (min 32768 (blocks - 32768 * n))) at
    (subst (λ (page : List ℕ). FlagsEndAt page (min 32768 (blocks - 32768 * index))) (get_or-map (pages_in seen) numbers index 0 [] lt)
    (are index (omega (arith, length-map numbers (pages_in seen))))))

archive-again : (seen : List ℕ) (blocks : ℕ) (sets : List Archived) → AllByRecursion (λ set. AreBitsPages blocks set.pages) (map (archived_content (pages_in seen)) sets)
    → PassAll seen (archive_tests blocks sets)
archive-again seen blocks [] are = tt
archive-again seen blocks (set ∷ sets) are =
    all_both (Passes seen) (set_tests blocks 0 set.pages) (archive_tests blocks sets) (bits-again seen blocks set.pages are.0) (archive-again seen blocks sets are.1)

pub whole-passes : (seen : List ℕ) (root : RootFields) → IsWholeContent root (content_of (pages_in seen) root) → PassAll seen (page_tests root)
whole-passes seen root whole =
    let blocks = blocks_of_root root in
    let limit = root_limit root.archive root.era in
    let array = array_tests blocks limit 0 root.array in
    all_both (Passes seen) (array ++ archive_tests blocks root.archive) (set_tests blocks 0 root.current)
    (all_both (Passes seen) array (archive_tests blocks root.archive)
    (array-tested seen blocks limit 0 root.array (λ index lt.
    let at : index ≡ 0 + index = omega arith in
    subst (λ (n : ℕ). IsArrayPage (page_of (get_or root.array index 0) seen) (min 1024 (blocks - 1024 * n)) limit) at
    (subst (λ (page : List ℕ). IsArrayPage page (min 1024 (blocks - 1024 * index)) limit) (get_or-map (pages_in seen) root.array index 0 [] lt)
    (whole.entries index (omega (arith, length-map root.array (pages_in seen)))))))
    (archive-again seen blocks root.archive whole.sets))
    (bits-again seen blocks root.current whole.current_set)
