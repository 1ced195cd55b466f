-- Loops over pages that are read and tested: what is left of the tests.
use Rattle.std.proofs.Common.{◌≡◌, ℕ, ◌+◌, ◌-◌, ◌*◌, ◌<◌, ◌≤◌, min, List, [], ◌∷◌, ◌++◌, length, get_or, drop, Ok, Err, sym, ap, ◌∙◌, subst, add-one}
use Rattle.std.proofs.Math.Seq.{drop-cons}
use Rattle.std.proofs.lemmas.List.{drop_all}
use Rattle.era_base.specs.declared.disk.Disk.{Ghosts}
use Rattle.era_layout.specs.declared.archive.Archived.{Archived}
use Rattle.era_slots.specs.declared.slots.Slots.{Slots}
use Rattle.era_meta.specs.declared.finding.Finding.{Finding}
use Rattle.era_meta.specs.Damage.{Test, ArrayPage, BitsPage, array_tests, set_tests, archive_tests}
use Rattle.era_meta.specs.Walks.{Walked}
use Rattle.era_meta.proofs.Walking.{Leads, walked-stop, walked-then, walked-none}

-- a turn, an exit, and the end
pub leads-on : {D T U : Type 0} (disk : Ghosts D) (rest xs later all : List Test) (old here next : Slots D) (value : U) → rest ≡ xs ++ later
    → Leads disk T rest all old here → Walked disk xs here next (Ok value) → Leads disk T later all old next
leads-on disk rest xs later all old here next value is leads walked new result last =
    leads new result (subst (λ (tests : List Test). Walked disk tests here new result) (sym is) (walked-then disk xs later here next new value result walked last))

pub leads-out : {D T U : Type 0} (disk : Ghosts D) (rest xs later all : List Test) (old here new : Slots D) (f : Finding) → rest ≡ xs ++ later
    → Leads disk T rest all old here → Walked {T = U} disk xs here new (Err f) → Walked {T = T} disk all old new (Err f)
leads-out {T = T} disk rest xs later all old here new f is leads walked =
    leads new (Err f) (subst (λ (tests : List Test). Walked {T = T} disk tests here new (Err f)) (sym is) (walked-stop disk xs later here new f walked))

pub leads-end : {D T : Type 0} (disk : Ghosts D) (rest all : List Test) (old here : Slots D) (value : T) → rest ≡ []
    → Leads disk T rest all old here → Walked disk all old here (Ok value)
leads-end disk rest all old here value is leads =
    leads here (Ok value) (subst (λ (tests : List Test). Walked disk tests here here (Ok value)) (sym is) (walked-none disk here value))

drop-more : {A : Type 0} (xs : List A) (index : ℕ) (d : A) → index < length xs → drop index xs ≡ get_or xs index d ∷ drop (index + 1) xs
drop-more xs index d lt = rw add-one (drop-cons xs index d lt)

-- the tests of the pages from an index on
pub array-more : (blocks limit : ℕ) (numbers : List ℕ) (index : ℕ) → index < length numbers
    → array_tests blocks limit index (drop index numbers)
    ≡ (ArrayPage (get_or numbers index 0) (min 1024 (blocks - 1024 * index)) limit ∷ []) ++ array_tests blocks limit (index + 1) (drop (index + 1) numbers)
array-more blocks limit numbers index lt = ap (array_tests blocks limit index) (drop-more numbers index 0 lt)

pub array-past : (blocks limit : ℕ) (numbers : List ℕ) (index : ℕ) → length numbers ≤ index → array_tests blocks limit index (drop index numbers) ≡ []
array-past blocks limit numbers index le = ap (array_tests blocks limit index) (drop_all index numbers le)

pub set-more : (blocks : ℕ) (numbers : List ℕ) (index : ℕ) → index < length numbers
    → set_tests blocks index (drop index numbers)
    ≡ (BitsPage (get_or numbers index 0) (min 32768 (blocks - 32768 * index)) ∷ []) ++ set_tests blocks (index + 1) (drop (index + 1) numbers)
set-more blocks numbers index lt = ap (set_tests blocks index) (drop-more numbers index 0 lt)

pub set-past : (blocks : ℕ) (numbers : List ℕ) (index : ℕ) → length numbers ≤ index → set_tests blocks index (drop index numbers) ≡ []
set-past blocks numbers index le = ap (set_tests blocks index) (drop_all index numbers le)

pub archive-more : (blocks : ℕ) (sets : List Archived) (index : ℕ) (x : Archived) → index < length sets → x ≡ get_or sets index x
    → archive_tests blocks (drop index sets) ≡ set_tests blocks 0 x.pages ++ archive_tests blocks (drop (index + 1) sets)
archive-more blocks sets index x lt is =
    ap (archive_tests blocks) (drop-more sets index x lt)
    ∙ ap (λ (set : Archived). set_tests blocks 0 set.pages ++ archive_tests blocks (drop (index + 1) sets)) (sym is)

pub archive-past : (blocks : ℕ) (sets : List Archived) (index : ℕ) → length sets ≤ index → archive_tests blocks (drop index sets) ≡ []
archive-past blocks sets index le = ap (archive_tests blocks) (drop_all index sets le)
