-- A disk stands for valid marks.
use Rattle.std.proofs.Common.{◌≡◌, ℕ, ◌+◌, ◌/◌, ◌%◌, ◌<◌, ◌≤◌, List, [], ◌∷◌, length, get_or, map, Option, Some, None, refl, sym, ap, ◌∙◌, subst, arith, inl, inr}
use Rattle.std.proofs.lemmas.Bool.{cases_lt}
use Rattle.std.proofs.lemmas.List.{get_or_past, length-map}
use Rattle.std.specs.Option.{option_map}
use Rattle.era_base.specs.Flags.{tabulate}
use Rattle.era_base.specs.Geometry.{array_pages_of}
use Rattle.era_layout.specs.declared.archive.Archived.{Archived}
use Rattle.era_layout.specs.Root.{RootFields, EraOrder, IsValidRoot}
use Rattle.era_model.specs.Validity.{AreArchivedBetween, AreValidMarks, IsValidSnapshot, entry_limit}
use Rattle.era_meta.specs.Content.{archived_content, blocks_of_root, content_of, entry_in, flag_in, root_limit, set_in, IsWholeContent}
use Rattle.era_meta.specs.Meaning.{Meaning, IsHeld, IsImageOf, marks_on, pages_in}
use Rattle.era_meta.proofs.SaysMarksTables.{length-tabulate, get_or-tabulate}

sets-between : (page : ℕ → List ℕ) (blocks above era : ℕ) (archive : List Archived) → EraOrder above era archive
    → AreArchivedBetween blocks above era (map (set_in blocks) (map (archived_content page) archive))
sets-between page blocks above era [] order = tt
sets-between page blocks above era (set ∷ archive) order =
    (order.0, order.1, length-tabulate 0 blocks (flag_in (map page set.pages)), sets-between page blocks set.era era archive order.2)

limit-is : (page : ℕ → List ℕ) (blocks era : ℕ) (archive : List Archived) → entry_limit (map (set_in blocks) (map (archived_content page) archive)) era ≡ root_limit archive era
limit-is page blocks era [] = refl
limit-is page blocks era (set ∷ archive) = refl

entry-limited : (page : ℕ → List ℕ) (root : RootFields) → IsValidRoot root → IsWholeContent root (content_of page root) → (block : ℕ)
    → get_or (tabulate 0 (blocks_of_root root) (entry_in (map page root.array))) block 0 ≤ root_limit root.archive root.era
entry-limited page root valid whole block = elim (cases_lt block (blocks_of_root root)) [
  | inl within ↦
      let pages = map page root.array in
      let index : block / 1024 < length (map page root.array)
      = in-pages block (blocks_of_root root) (length (map page root.array)) within (length-map root.array page ∙ valid.array) in
      let same : 0 + block ≡ block = omega arith in
      subst (λ (entry : ℕ). entry ≤ root_limit root.archive root.era)
      (sym (get_or-tabulate 0 (blocks_of_root root) (entry_in pages) block 0 within ∙ ap (entry_in pages) same))
      ((whole.entries (block / 1024) index).limited (block % 1024) (omega arith) (omega arith))
  | inr past ↦
      subst (λ (entry : ℕ). entry ≤ root_limit root.archive root.era)
      (sym (get_or_past (tabulate 0 (blocks_of_root root) (entry_in (map page root.array))) block 0
      (omega (arith, past, length-tabulate 0 (blocks_of_root root) (entry_in (map page root.array)))))) (omega arith)
]
  where
    in-pages : (block blocks count : ℕ) → block < blocks → count ≡ array_pages_of blocks → block / 1024 < count
    in-pages block blocks count within is = omega arith

valid-on : (page : ℕ → List ℕ) (root : RootFields) → IsValidRoot root → IsWholeContent root (content_of page root) → AreValidMarks (marks_on page root)
valid-on page root valid whole = record {
  begun = valid.era;
  array_size = length-tabulate 0 (blocks_of_root root) (entry_in (map page root.array));
  current_size = length-tabulate 0 (blocks_of_root root) (flag_in (map page root.current));
  archive = sets-between page (blocks_of_root root) 0 root.era root.archive valid.order;
  few_sets = few (length (map (set_in (blocks_of_root root)) (map (archived_content page) root.archive))) (length (map (archived_content page) root.archive)) (length root.archive)
      (length-map (map (archived_content page) root.archive) (set_in (blocks_of_root root))) (length-map root.archive (archived_content page)) valid.count;
  entries = λ block. subst (λ (limit : ℕ). get_or (tabulate 0 (blocks_of_root root) (entry_in (map page root.array))) block 0 ≤ limit)
      (sym (limit-is page (blocks_of_root root) root.era root.archive)) (entry-limited page root valid whole block);
}
  where
    few : (one two three : ℕ) → one ≡ two → two ≡ three → three ≤ 16 → one ≤ 16
    few one two three is is' le = omega arith

pub image-valid : (meaning : Meaning) (image : List ℕ) → IsImageOf meaning image → AreValidMarks meaning.marks
image-valid meaning image of =
    subst (λ (m : Meaning). AreValidMarks m.marks) (sym of.says) (valid-on (pages_in image) of.root of.whole.valid of.whole.whole)

valid-held : (page : ℕ → List ℕ) (root : RootFields) (held : Option RootFields) → IsHeld page root held → IsValidSnapshot (option_map (marks_on page) held)
valid-held page root None holds = tt
valid-held page root (Some held) holds = valid-on page held holds.valid holds.whole

pub image-held-valid : (meaning : Meaning) (image : List ℕ) → IsImageOf meaning image → IsValidSnapshot meaning.held
image-held-valid meaning image of =
    subst (λ (m : Meaning). IsValidSnapshot m.held) (sym of.says) (valid-held (pages_in image) of.root of.held of.whole.snapshot)
