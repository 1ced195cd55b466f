-- When lists of pages, and roots, can be copied into memory that was taken before.
use Rattle.std.specs.Prelude.{◌≡◌, ℕ, ◌+◌, ◌*◌, ◌≤◌, true, false, List, length}
use Rattle.std.specs.List.{AllByRecursion}
use Rattle.era_base.specs.declared.limits.TheConstants.{MOST_SETS}
use Rattle.era_layout.specs.declared.archive.Archived.{Archived}
use Rattle.era_layout.specs.Root.{RootFields, fields_of}
use Rattle.era_model.specs.Marks.{BlockMarks}
use Rattle.era_meta.specs.declared.snapshot.Snapshot.{Snapshot}
use Rattle.era_meta.specs.HeldCalls.{with_flag}

-- Lists are of one length, and there is one for each of some sets, whose own lists are of that length too.
pub record CanCopyLists (sets : List Archived) (spare : List (List ℕ)) : Type 0 where
  pub width : ℕ
  pub sizes : AllByRecursion (λ set. length set.pages ≡ width) sets
  pub lists : AllByRecursion (λ pages. length pages ≡ width) spare
  pub enough : length sets ≤ length spare
  pub count : length sets ≤ MOST_SETS

-- A root can be copied over another one: the lists of both, and the spare ones, are of the same lengths, and with those of the other one's sets there are enough.
pub record CanCopyRoot (root : RootFields) (spare : List (List ℕ)) (other : RootFields) : Type 0 where
  pub array : length root.array ≡ length other.array
  pub current : length root.current ≡ length other.current
  pub width : ℕ
  pub own : AllByRecursion (λ set. length set.pages ≡ width) root.archive
  pub sizes : AllByRecursion (λ set. length set.pages ≡ width) other.archive
  pub lists : AllByRecursion (λ pages. length pages ≡ width) spare
  pub enough : length other.archive ≤ length root.archive + length spare
  pub room : length root.archive + length spare ≤ 3 * MOST_SETS
  pub count : length other.archive ≤ MOST_SETS

-- A snapshot in memory is held, of this root, but for its flag, and of these marks.
pub record IsSnapshotOf (snapshot : Snapshot) (root : RootFields) (marks : BlockMarks) : Type 0 where
  pub held : snapshot.is_held ≡ true
  pub root_same : fields_of snapshot.root ≡ with_flag root false
  pub marks_same : snapshot.marks ≡ marks
