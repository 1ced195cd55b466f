-- The pages of a whole root: that each part of them can be put, and what they say once all are put.
use Rattle.std.proofs.Common.{◌≡◌, ◌≢◌, ℕ, ◌*◌, ◌^◌, ◌<◌, ◌≤◌, List, ◌++◌, length, map, sym, ◌∙◌, subst, arith}
use Rattle.std.specs.List.{AllByRecursion}
use Rattle.era_base.specs.CrashModel.{State, History, Went}
use Rattle.era_base.specs.Geometry.{need_of, bit_pages_of}
use Rattle.era_base.proofs.Moments.{went-wider}
use Rattle.era_layout.specs.Root.{RootFields, archive_pages, pages_of, AreDifferent, IsValidRoot}
use Rattle.era_model.specs.Marks.{BlockMarks}
use Rattle.era_meta.specs.Content.{archived_content, blocks_of_root, content_of}
use Rattle.era_meta.specs.Meaning.{pages_in}
use Rattle.era_meta.specs.Putting.{IsNone, PutsAmong}
use Rattle.era_meta.specs.SaysMarks.{SayEntries, SayFlags, SaySets, SaysMarks}
use Rattle.era_meta.specs.Stored.{CanHold, HasBlocks}
use Rattle.era_meta.proofs.Agree.{all_front, all_back, all_weaker, map-agree}
use Rattle.era_meta.proofs.Kept.{lies-all}
use Rattle.era_meta.proofs.PutSets.{distinct-from, different-from, distinct-front, distinct-back, distinct-apart, agree-among, among-wider}

can-hold : (need sectors block : ℕ) → need * 8 ≤ sectors → (2 ≤ block) × (block < need) → CanHold sectors block
can-hold need sectors block room lies = record { behind = lies.0; within = let below = lies.1 in omega arith }

pub record RootParts (root : RootFields) (sectors : ℕ) : Type 0 where
  pub array : AllByRecursion (CanHold sectors) root.array
  pub current : AllByRecursion (CanHold sectors) root.current
  pub archive : AllByRecursion (CanHold sectors) (archive_pages root.archive)
  pub array_differ : AreDifferent root.array
  pub current_differ : AreDifferent root.current
  pub archive_differ : AreDifferent (archive_pages root.archive)
  pub array_current : AllByRecursion (IsNone root.current) root.array
  pub front_archive : AllByRecursion (IsNone (archive_pages root.archive)) (root.array ++ root.current)

pub root-parts : (root : RootFields) (sectors : ℕ) → IsValidRoot root → HasBlocks root sectors → RootParts root sectors
root-parts root sectors valid room =
    let all = all_weaker (λ block. (2 ≤ block) × (block < need_of (blocks_of_root root))) (CanHold sectors) (pages_of root)
    (λ block lies. can-hold (need_of (blocks_of_root root)) sectors block room lies) (lies-all (blocks_of_root root) (pages_of root) valid.range) in
    let front = all_front (CanHold sectors) (root.array ++ root.current) (archive_pages root.archive) all in
    let distinct = distinct-from (pages_of root) valid.different in
    let distinct_front = distinct-front (root.array ++ root.current) (archive_pages root.archive) distinct in
    record {
      array = all_front (CanHold sectors) root.array root.current front;
      current = all_back (CanHold sectors) root.array root.current front;
      archive = all_back (CanHold sectors) (root.array ++ root.current) (archive_pages root.archive) all;
      array_differ = different-from root.array (distinct-front root.array root.current distinct_front);
      current_differ = different-from root.current (distinct-back root.array root.current distinct_front);
      archive_differ = different-from (archive_pages root.archive) (distinct-back (root.array ++ root.current) (archive_pages root.archive) distinct);
      array_current = distinct-apart root.array root.current distinct_front;
      front_archive = distinct-apart (root.array ++ root.current) (archive_pages root.archive) distinct;
    }

few-bits : (blocks : ℕ) → blocks ≤ 65536 → bit_pages_of blocks ≤ 2 ^ 32
few-bits blocks limited = omega arith

pub root-sizes : (root : RootFields) → IsValidRoot root → AllByRecursion (λ set. length set.pages ≤ 2 ^ 32) root.archive
root-sizes root valid =
    all_weaker (λ set. length set.pages ≡ bit_pages_of (blocks_of_root root)) (λ set. length set.pages ≤ 2 ^ 32) root.archive
    (λ set size. let few = few-bits (blocks_of_root root) valid.geometry.limited in subst (λ (n : ℕ). n ≤ 2 ^ 32) (sym size) few) valid.sets

-- puts into one part are puts into the root's pages
pub went-array : (root : RootFields) (target number : ℕ) (old new : History) → Went (PutsAmong root.array target number) old new
    → Went (PutsAmong (pages_of root) target number) old new
went-array root target number old new went =
    went-wider (PutsAmong root.array target number) (PutsAmong (pages_of root) target number) old new
    (λ state among. among-wider root.array (pages_of root) target number old.now state
    (λ block none. all_front (λ put. block ≢ put) root.array root.current
    (all_front (λ put. block ≢ put) (root.array ++ root.current) (archive_pages root.archive) none)) among) went

pub went-current : (root : RootFields) (target number : ℕ) (old new : History) → Went (PutsAmong root.current target number) old new
    → Went (PutsAmong (pages_of root) target number) old new
went-current root target number old new went =
    went-wider (PutsAmong root.current target number) (PutsAmong (pages_of root) target number) old new
    (λ state among. among-wider root.current (pages_of root) target number old.now state
    (λ block none. all_back (λ put. block ≢ put) root.array root.current
    (all_front (λ put. block ≢ put) (root.array ++ root.current) (archive_pages root.archive) none)) among) went

pub went-archive : (root : RootFields) (target number : ℕ) (old new : History) → Went (PutsAmong (archive_pages root.archive) target number) old new
    → Went (PutsAmong (pages_of root) target number) old new
went-archive root target number old new went =
    went-wider (PutsAmong (archive_pages root.archive) target number) (PutsAmong (pages_of root) target number) old new
    (λ state among. among-wider (archive_pages root.archive) (pages_of root) target number old.now state
    (λ block none. all_back (λ put. block ≢ put) (root.array ++ root.current) (archive_pages root.archive) none) among) went

-- what all pages say, once the last ones are put
pub root-says : (root : RootFields) (m : BlockMarks) (sectors target number : ℕ) (one two now : State) → RootParts root sectors
    → PutsAmong root.current target number one two → PutsAmong (archive_pages root.archive) target number two now
    → SayEntries m.array (map (pages_in one.seen) root.array) → SayFlags m.current (map (pages_in two.seen) root.current)
    → SaySets m.archive (map (archived_content (pages_in now.seen)) root.archive) → SaysMarks m (content_of (pages_in now.seen) root)
root-says root m sectors target number one two now parts first second array current archive =
    let behind = λ (blocks : List ℕ) (can : AllByRecursion (CanHold sectors) blocks). all_weaker (CanHold sectors) (λ block. 2 ≤ block) blocks (λ block holds. holds.behind) can in
    let array_apart = all_front (IsNone (archive_pages root.archive)) root.array root.current parts.front_archive in
    let current_apart = all_back (IsNone (archive_pages root.archive)) root.array root.current parts.front_archive in
    let array_two = map-agree (pages_in one.seen) (pages_in two.seen) root.array
    (agree-among root.current root.array target number one two (behind root.array parts.array) parts.array_current first) in
    let array_now = map-agree (pages_in two.seen) (pages_in now.seen) root.array
    (agree-among (archive_pages root.archive) root.array target number two now (behind root.array parts.array) array_apart second) in
    let current_now = map-agree (pages_in two.seen) (pages_in now.seen) root.current
    (agree-among (archive_pages root.archive) root.current target number two now (behind root.current parts.current) current_apart second) in
    record {
      array = subst (SayEntries m.array) (array_two ∙ array_now) array;
      current = subst (SayFlags m.current) current_now current;
      archive = archive;
    }
