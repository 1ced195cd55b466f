-- Functions from metadata blocks to bytes that agree on all that a root reaches: the same pages, still whole, with the same meaning.
use Rattle.std.proofs.Common.{◌≡◌, ℕ, List, [], ◌∷◌, ◌++◌, Option, Some, None, map, drop, refl, sym, ap, ◌∙◌, subst}
use Rattle.std.specs.List.{AllByRecursion}
use Rattle.era_layout.specs.declared.archive.Archived.{Archived}
use Rattle.era_layout.specs.Root.{RootFields, pages_of, archive_pages}
use Rattle.era_meta.specs.Content.{Content, ArchivedPages, archived_content, content_of, marks_in, IsWholeContent}
use Rattle.era_meta.specs.Meaning.{meaning_of, marks_on, reached, IsWholeRoot}

pub all_front : {A : Type 0} (P : A → Type 0) (xs ys : List A) → AllByRecursion P (xs ++ ys) → AllByRecursion P xs
all_front P [] ys all = tt
all_front P (x ∷ xs) ys all = (all.0, all_front P xs ys all.1)

pub all_back : {A : Type 0} (P : A → Type 0) (xs ys : List A) → AllByRecursion P (xs ++ ys) → AllByRecursion P ys
all_back P [] ys all = all
all_back P (x ∷ xs) ys all = all_back P xs ys all.1

pub all_both : {A : Type 0} (P : A → Type 0) (xs ys : List A) → AllByRecursion P xs → AllByRecursion P ys → AllByRecursion P (xs ++ ys)
all_both P [] ys one two = two
all_both P (x ∷ xs) ys one two = (one.0, all_both P xs ys one.1 two)

pub all_weaker : {A : Type 0} (P Q : A → Type 0) (xs : List A) → ((x : A) → P x → Q x) → AllByRecursion P xs → AllByRecursion Q xs
all_weaker P Q [] more all = tt
all_weaker P Q (x ∷ xs) more all = (more x all.0, all_weaker P Q xs more all.1)

pub all_with : {A : Type 0} (P Q R : A → Type 0) (xs : List A) → ((x : A) → P x → Q x → R x) → AllByRecursion P xs → AllByRecursion Q xs → AllByRecursion R xs
all_with P Q R [] more one two = tt
all_with P Q R (x ∷ xs) more one two = (more x one.0 two.0, all_with P Q R xs more one.1 two.1)

-- the two functions agree on these blocks
abbrev pub Agree : (ℕ → List ℕ) → (ℕ → List ℕ) → List ℕ → Type 0
Agree one two blocks = AllByRecursion (λ block. one block ≡ two block) blocks

pub map-agree : (one two : ℕ → List ℕ) (blocks : List ℕ) → Agree one two blocks → map one blocks ≡ map two blocks
map-agree one two [] same = refl
map-agree one two (block ∷ blocks) same =
    ap (λ (page : List ℕ). page ∷ map one blocks) same.0 ∙ ap (λ (pages : List (List ℕ)). two block ∷ pages) (map-agree one two blocks same.1)

pub sets-agree : (one two : ℕ → List ℕ) (sets : List Archived) → Agree one two (archive_pages sets)
    → map (archived_content one) sets ≡ map (archived_content two) sets
sets-agree one two [] same = refl
sets-agree one two (set ∷ sets) same =
    let own = map-agree one two set.pages (all_front (λ block. one block ≡ two block) set.pages (archive_pages sets) same) in
    ap (λ (pages : List (List ℕ)). record { era = set.era; pages = pages } ∷ map (archived_content one) sets) own
    ∙ ap (λ (rest : List ArchivedPages). archived_content two set ∷ rest)
    (sets-agree one two sets (all_back (λ block. one block ≡ two block) set.pages (archive_pages sets) same))

pub content-agree : (one two : ℕ → List ℕ) (root : RootFields) → Agree one two (pages_of root) → content_of one root ≡ content_of two root
content-agree one two root same =
    let front = all_front (λ block. one block ≡ two block) (root.array ++ root.current) (archive_pages root.archive) same in
    let back = all_back (λ block. one block ≡ two block) (root.array ++ root.current) (archive_pages root.archive) same in
    let array = map-agree one two root.array (all_front (λ block. one block ≡ two block) root.array root.current front) in
    let current = map-agree one two root.current (all_back (λ block. one block ≡ two block) root.array root.current front) in
    let archive = sets-agree one two root.archive back in
    ap (λ (pages : List (List ℕ)). record { array = pages; current = map one root.current; archive = map (archived_content one) root.archive }) array
    ∙ (ap (λ (pages : List (List ℕ)). record { array = map two root.array; current = pages; archive = map (archived_content one) root.archive }) current
    ∙ ap (λ (sets : List ArchivedPages). record { array = map two root.array; current = map two root.current; archive = sets }) archive)

pub whole-agree : (one two : ℕ → List ℕ) (root : RootFields) (held : Option RootFields) → Agree one two (reached root held)
    → IsWholeRoot one root held → IsWholeRoot two root held
whole-agree one two root None same w = record {
  valid = w.valid;
  whole = subst (IsWholeContent root) (content-agree one two root same) w.whole;
  snapshot = w.snapshot;
}
whole-agree one two root (Some held) same w =
    let s = w.snapshot in
    let own = all_front (λ block. one block ≡ two block) (pages_of root) (2 ∷ pages_of held) same in
    let rest = all_back (λ block. one block ≡ two block) (pages_of root) (2 ∷ pages_of held) same in
    record {
      valid = w.valid;
      whole = subst (IsWholeContent root) (content-agree one two root own) w.whole;
      snapshot = record {
        flag = s.flag;
        valid = s.valid;
        none = s.none;
        spelled = ap (drop 520) (sym rest.0) ∙ s.spelled;
        length_same = s.length_same;
        size_same = s.size_same;
        whole = subst (IsWholeContent held) (content-agree one two held rest.1) s.whole;
      };
    }

pub meaning-agree : (one two : ℕ → List ℕ) (root : RootFields) (held : Option RootFields) → Agree one two (reached root held)
    → meaning_of one root held ≡ meaning_of two root held
meaning-agree one two root None same = ap (λ (content : Content). record { marks = marks_in root content; held = None }) (content-agree one two root same)
meaning-agree one two root (Some held) same =
    let own = all_front (λ block. one block ≡ two block) (pages_of root) (2 ∷ pages_of held) same in
    let rest = all_back (λ block. one block ≡ two block) (pages_of root) (2 ∷ pages_of held) same in
    ap (λ (content : Content). record { marks = marks_in root content; held = Some (marks_on one held) }) (content-agree one two root own)
    ∙ ap (λ (content : Content). record { marks = marks_on two root; held = Some (marks_in held content) }) (content-agree one two held rest.1)
