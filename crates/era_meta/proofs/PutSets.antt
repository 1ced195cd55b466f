-- Pages that stay while others are put, where no block stands twice; and what the pages say that were put.
use Rattle.std.proofs.Common.{◌≡◌, ◌≢◌, ℕ, zero, suc, ◌+◌, ◌^◌, ◌<◌, ◌≤◌, Bool, List, [], ◌∷◌, ◌++◌, length, get_or, take, map, refl, sym, ap, ◌∙◌, subst, arith}
use Rattle.std.specs.List.{AllByRecursion}
use Rattle.std.proofs.lemmas.List.{append-nil, append_assoc, get_or-map, length-append, length-map, take_more, map-append}
use Rattle.era_base.specs.CrashModel.{State, History, Went}
use Rattle.era_base.proofs.Moments.{went-wider}
use Rattle.era_layout.specs.declared.archive.Archived.{Archived}
use Rattle.era_layout.specs.Root.{archive_pages, AreDifferent}
use Rattle.era_slots.specs.Slot.{page_of}
use Rattle.era_model.specs.Marks.{ArchivedSet}
use Rattle.era_meta.specs.PageParts.{IsArrayPageOf, IsBitsPageOf}
use Rattle.era_meta.specs.Content.{ArchivedPages, archived_content}
use Rattle.era_meta.specs.Meaning.{pages_in}
use Rattle.era_meta.specs.Putting.{IsNone, PutsAmong}
use Rattle.era_meta.specs.SaysMarks.{HasSets, SayEntries, SayFlags, SaySets}
use Rattle.era_meta.specs.Stored.{HavePages}
use Rattle.era_meta.proofs.Agree.{Agree, all_front, all_back, all_both, all_weaker, all_with, sets-agree}
use Rattle.era_meta.proofs.Puts.{went-among}

-- no block stands twice: each is none of those behind it
abbrev pub Distinct : List ℕ → Type 0
Distinct [] = Unit {0}
Distinct (block ∷ blocks) = IsNone blocks block × Distinct blocks

none-from : (block : ℕ) (blocks : List ℕ) → ((index : ℕ) → index < length blocks → block ≢ get_or blocks index 0) → IsNone blocks block
none-from block [] differs = tt
none-from block (first ∷ blocks) differs = (differs 0 (omega arith), none-from block blocks (λ index lt. differs (suc index) (omega arith)))

pub distinct-from : (blocks : List ℕ) → AreDifferent blocks → Distinct blocks
distinct-from [] differ = tt
distinct-from (block ∷ blocks) differ = (
  none-from block blocks (λ index lt. differ 0 (suc index) (omega arith) (omega arith)),
  distinct-from blocks (λ first second order within. differ (suc first) (suc second) (omega arith) (omega arith)),
)

none-get : (blocks : List ℕ) (block index : ℕ) → index < length blocks → IsNone blocks block → block ≢ get_or blocks index 0
none-get [] block index lt none same = omega arith
none-get (first ∷ blocks) block zero lt none same = none.0 same
none-get (first ∷ blocks) block (suc index) lt none same = none-get blocks block index (omega arith) none.1 same

pub different-from : (blocks : List ℕ) → Distinct blocks → AreDifferent blocks
different-from [] distinct first second order within = absurd (omega arith)
different-from (block ∷ blocks) distinct zero zero order within = absurd (omega arith)
different-from (block ∷ blocks) distinct zero (suc second) order within = none-get blocks block second (omega arith) distinct.0
different-from (block ∷ blocks) distinct (suc first) zero order within = absurd (omega arith)
different-from (block ∷ blocks) distinct (suc first) (suc second) order within = different-from blocks distinct.1 first second (omega arith) (omega arith)

pub distinct-front : (xs ys : List ℕ) → Distinct (xs ++ ys) → Distinct xs
distinct-front [] ys distinct = tt
distinct-front (x ∷ xs) ys distinct = (all_front (λ put. x ≢ put) xs ys distinct.0, distinct-front xs ys distinct.1)

pub distinct-back : (xs ys : List ℕ) → Distinct (xs ++ ys) → Distinct ys
distinct-back [] ys distinct = distinct
distinct-back (x ∷ xs) ys distinct = distinct-back xs ys distinct.1

pub distinct-apart : (xs ys : List ℕ) → Distinct (xs ++ ys) → AllByRecursion (IsNone ys) xs
distinct-apart [] ys distinct = tt
distinct-apart (x ∷ xs) ys distinct = (all_back (λ put. x ≢ put) xs ys distinct.0, distinct-apart xs ys distinct.1)

-- pages that are none of those put read as before
pub agree-among : (puts blocks : List ℕ) (target number : ℕ) (before now : State) → AllByRecursion (λ block. 2 ≤ block) blocks
    → AllByRecursion (IsNone puts) blocks → PutsAmong puts target number before now → Agree (pages_in before.seen) (pages_in now.seen) blocks
agree-among puts blocks target number before now behind apart went =
    all_with (λ block. 2 ≤ block) (IsNone puts) (λ block. page_of block before.seen ≡ page_of block now.seen) blocks
    (λ block past none. sym (went.pages.seen block past none)) behind apart

-- puts into some of more blocks
pub among-wider : (puts all : List ℕ) (target number : ℕ) (before now : State) → ((block : ℕ) → IsNone all block → IsNone puts block)
    → PutsAmong puts target number before now → PutsAmong all target number before now
among-wider puts all target number before now more went = record {
  size = went.size;
  kept = went.kept;
  pages = record {
    seen = λ block behind none. went.pages.seen block behind (more block none);
    durable = λ block behind none. went.pages.durable block behind (more block none);
  };
  stands = went.stands;
}

-- what pages say that were put
pub entries-put : (eras blocks : List ℕ) (now : State) → HavePages IsArrayPageOf eras blocks now → SayEntries eras (map (pages_in now.seen) blocks)
entries-put eras blocks now have index lt =
    let within : index < length blocks = omega (arith, length-map blocks (pages_in now.seen)) in
    subst (IsArrayPageOf eras index) (sym (get_or-map (pages_in now.seen) blocks index 0 [] within)) (have index within)

pub flags-put : (flags : List Bool) (blocks : List ℕ) (now : State) → HavePages IsBitsPageOf flags blocks now → SayFlags flags (map (pages_in now.seen) blocks)
flags-put flags blocks now have index lt =
    let within : index < length blocks = omega (arith, length-map blocks (pages_in now.seen)) in
    subst (IsBitsPageOf flags index) (sym (get_or-map (pages_in now.seen) blocks index 0 [] within)) (have index within)

-- the pages of the archived set at an index, and those of the sets before it
set-all : (P : ℕ → Type 0) (archive : List Archived) (index : ℕ) (d : Archived) → index < length archive → AllByRecursion P (archive_pages archive)
    → AllByRecursion P (get_or archive index d).pages
set-all P [] index d lt all = absurd (omega arith)
set-all P (set ∷ sets) zero d lt all = all_front P set.pages (archive_pages sets) all
set-all P (set ∷ sets) (suc index) d lt all = set-all P sets index d (omega arith) (all_back P set.pages (archive_pages sets) all)

front-all : (P : ℕ → Type 0) (archive : List Archived) (index : ℕ) → AllByRecursion P (archive_pages archive)
    → AllByRecursion P (archive_pages (take index archive))
front-all P archive zero all = tt
front-all P [] (suc index) all = tt
front-all P (set ∷ sets) (suc index) all =
    all_both P set.pages (archive_pages (take index sets)) (all_front P set.pages (archive_pages sets) all)
    (front-all P sets index (all_back P set.pages (archive_pages sets) all))

set-distinct : (archive : List Archived) (index : ℕ) (d : Archived) → index < length archive → Distinct (archive_pages archive)
    → Distinct (get_or archive index d).pages
set-distinct [] index d lt distinct = absurd (omega arith)
set-distinct (set ∷ sets) zero d lt distinct = distinct-front set.pages (archive_pages sets) distinct
set-distinct (set ∷ sets) (suc index) d lt distinct = set-distinct sets index d (omega arith) (distinct-back set.pages (archive_pages sets) distinct)

set-apart : (archive : List Archived) (index : ℕ) (d : Archived) → index < length archive → Distinct (archive_pages archive)
    → AllByRecursion (IsNone (get_or archive index d).pages) (archive_pages (take index archive))
set-apart [] index d lt distinct = absurd (omega arith)
set-apart (set ∷ sets) zero d lt distinct = tt
set-apart (set ∷ sets) (suc index) d lt distinct =
    all_both (IsNone (get_or sets index d).pages) set.pages (archive_pages (take index sets))
    (all_weaker (IsNone (archive_pages sets)) (IsNone (get_or sets index d).pages) set.pages
    (λ block none. set-all (λ put. block ≢ put) sets index d (omega arith) none) (distinct-apart set.pages (archive_pages sets) distinct))
    (set-apart sets index d (omega arith) (distinct-back set.pages (archive_pages sets) distinct))

set-size : (archive : List Archived) (index : ℕ) (d : Archived) → index < length archive
    → AllByRecursion (λ set. length set.pages ≤ 2 ^ 32) archive → length (get_or archive index d).pages ≤ 2 ^ 32
set-size [] index d lt all = absurd (omega arith)
set-size (set ∷ sets) zero d lt all = all.0
set-size (set ∷ sets) (suc index) d lt all = set-size sets index d (omega arith) all.1

pub sets-length : (sets : List ArchivedSet) (archive : List Archived) → HasSets sets archive → length sets ≡ length archive
sets-length [] [] has = refl
sets-length [] (archived ∷ archive) has = absurd has
sets-length (set ∷ sets) [] has = absurd has
sets-length (set ∷ sets) (archived ∷ archive) has = ap suc (sets-length sets archive has.1)

set-era : (sets : List ArchivedSet) (archive : List Archived) (index : ℕ) (s : ArchivedSet) (d : Archived) → index < length archive → HasSets sets archive
    → (get_or archive index d).era ≡ (get_or sets index s).era
set-era [] [] index s d lt has = absurd (omega arith)
set-era [] (archived ∷ archive) index s d lt has = absurd has
set-era (set ∷ sets) [] index s d lt has = absurd has
set-era (set ∷ sets) (archived ∷ archive) zero s d lt has = has.0
set-era (set ∷ sets) (archived ∷ archive) (suc index) s d lt has = set-era sets archive index s d (omega arith) has.1

pub say-push : (sets : List ArchivedSet) (said : List ArchivedPages) (set : ArchivedSet) (one : ArchivedPages) → SaySets sets said → one.era ≡ set.era
    → SayFlags set.blocks one.pages → SaySets (sets ++ set ∷ []) (said ++ one ∷ [])
say-push [] [] set one says era flags = (era, flags, tt)
say-push [] (other ∷ said) set one says era flags = absurd says
say-push (first ∷ sets) [] set one says era flags = absurd says
say-push (first ∷ sets) (other ∷ said) set one says era flags = (says.0, says.1, say-push sets said set one says.2 era flags)

-- one set more is put
pub sets-put : (archive : List Archived) (sets : List ArchivedSet) (index : ℕ) (x : Archived) (s : ArchivedSet) (target number : ℕ) (mid now : State)
    → index < length archive → x ≡ get_or archive index x → s ≡ get_or sets index s → HasSets sets archive
    → AllByRecursion (λ block. 2 ≤ block) (archive_pages archive) → AreDifferent (archive_pages archive) → PutsAmong x.pages target number mid now
    → SayFlags s.blocks (map (pages_in now.seen) x.pages)
    → SaySets (take index sets) (map (archived_content (pages_in mid.seen)) (take index archive))
    → SaySets (take (index + 1) sets) (map (archived_content (pages_in now.seen)) (take (index + 1) archive))
sets-put archive sets index x s target number mid now lt is is' has behind differ went flags says =
    let size = sets-length sets archive has in
    let within : index < length sets = omega arith in
    let distinct = distinct-from (archive_pages archive) differ in
    let apart = subst (λ (set : Archived). AllByRecursion (IsNone set.pages) (archive_pages (take index archive))) (sym is) (set-apart archive index x lt distinct) in
    let agree = agree-among x.pages (archive_pages (take index archive)) target number mid now
    (front-all (λ block. 2 ≤ block) archive index behind) apart went in
    let same = sets-agree (pages_in mid.seen) (pages_in now.seen) (take index archive) agree in
    let era : x.era ≡ s.era = ap (λ (set : Archived). set.era) is ∙ (set-era sets archive index s x lt has ∙ sym (ap (λ (set : ArchivedSet). set.era) is')) in
    let pushed = say-push (take index sets) (map (archived_content (pages_in now.seen)) (take index archive)) s (archived_content (pages_in now.seen) x)
    (subst (SaySets (take index sets)) same says) era flags in
    let more : take (index + 1) sets ≡ take index sets ++ s ∷ [] = take_more sets index s within ∙ ap (λ (set : ArchivedSet). take index sets ++ set ∷ []) (sym is') in
    let rest : map (archived_content (pages_in now.seen)) (take (index + 1) archive)
    ≡ map (archived_content (pages_in now.seen)) (take index archive) ++ archived_content (pages_in now.seen) x ∷ []
    = ap (map (archived_content (pages_in now.seen))) (take_more archive index x lt ∙ ap (λ (set : Archived). take index archive ++ set ∷ []) (sym is))
    ∙ map-append (archived_content (pages_in now.seen)) (take index archive) (x ∷ []) in
    subst (λ (front : List ArchivedSet). SaySets front (map (archived_content (pages_in now.seen)) (take (index + 1) archive))) (sym more)
    (subst (SaySets (take index sets ++ s ∷ [])) (sym rest) pushed)

-- how many pages the first sets have, with one more
pages-append : (one two : List Archived) → archive_pages (one ++ two) ≡ archive_pages one ++ archive_pages two
pages-append [] two = refl
pages-append (set ∷ one) two = ap (λ (rest : List ℕ). set.pages ++ rest) (pages-append one two) ∙ sym (append_assoc set.pages (archive_pages one) (archive_pages two))

pub pages-more : (archive : List Archived) (index : ℕ) (x : Archived) → index < length archive → x ≡ get_or archive index x
    → length (archive_pages (take (index + 1) archive)) ≡ length (archive_pages (take index archive)) + length x.pages
pages-more archive index x lt is =
    ap (λ (sets : List Archived). length (archive_pages sets)) (take_more archive index x lt ∙ ap (λ (set : Archived). take index archive ++ set ∷ []) (sym is))
    ∙ (ap length (pages-append (take index archive) (x ∷ []))
    ∙ (length-append (archive_pages (take index archive)) (x.pages ++ []) ∙ ap (λ (pages : List ℕ). length (archive_pages (take index archive)) + length pages) (append-nil x.pages)))

-- what a put of the set at an index asks, and what it is of all sets
pub set-holds : (P : ℕ → Type 0) (archive : List Archived) (index : ℕ) (x : Archived) → index < length archive → x ≡ get_or archive index x
    → AllByRecursion P (archive_pages archive) → AllByRecursion P x.pages
set-holds P archive index x lt is all = subst (λ (set : Archived). AllByRecursion P set.pages) (sym is) (set-all P archive index x lt all)

pub set-fits : (archive : List Archived) (index : ℕ) (x : Archived) → index < length archive → x ≡ get_or archive index x
    → AllByRecursion (λ set. length set.pages ≤ 2 ^ 32) archive → length x.pages ≤ 2 ^ 32
set-fits archive index x lt is all = subst (λ (set : Archived). length set.pages ≤ 2 ^ 32) (sym is) (set-size archive index x lt all)

pub set-differs : (archive : List Archived) (index : ℕ) (x : Archived) → index < length archive → x ≡ get_or archive index x
    → AreDifferent (archive_pages archive) → AreDifferent x.pages
set-differs archive index x lt is differ =
    different-from x.pages (subst (λ (set : Archived). Distinct set.pages) (sym is) (set-distinct archive index x lt (distinct-from (archive_pages archive) differ)))

-- puts of one set's pages behind others
pub went-set : (archive : List Archived) (index : ℕ) (x : Archived) (target number : ℕ) (old mid new : History) → index < length archive
    → x ≡ get_or archive index x → Went (PutsAmong (archive_pages archive) target number) old mid → Went (PutsAmong x.pages target number) mid new
    → Went (PutsAmong (archive_pages archive) target number) old new
went-set archive index x target number old mid new lt is one two =
    went-among (archive_pages archive) target number old mid new one
    (went-wider (PutsAmong x.pages target number) (PutsAmong (archive_pages archive) target number) mid new
    (λ state among. among-wider x.pages (archive_pages archive) target number mid.now state
    (λ block none. set-holds (λ put. block ≢ put) archive index x lt is none) among) two)
