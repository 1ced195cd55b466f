-- A set that is dropped and put back: its bits in another set, and its place among the archived ones.
use Rattle.std.proofs.Common.{◌≡◌, ◌≢◌, ℕ, zero, suc, ◌+◌, ◌-◌, ◌<◌, ◌≤◌, Bool, true, false, inl, inr, List, [], ◌∷◌, ◌++◌, None, length, get_or, take, drop, replicate, refl, sym, ap, ◌∙◌, append_assoc, arith}
use Rattle.std.specs.Prelude.{slice_set}
use Rattle.std.proofs.lemmas.Bool.{cases_eq}
use Rattle.std.proofs.lemmas.List.{drop_more, take_more, ext_get_or, get_or-set_other, get_or-set_same, length-append, length-set, take-append-drop}
use Rattle.era_base.specs.Bits.{bit_of_words}
use Rattle.era_base.specs.Flags.{has}
use Rattle.era_model.specs.Digest.{digested}
use Rattle.era_model.specs.Marks.{ArchivedSet, BlockMarks, blocks_of_marks}
use Rattle.era_meta.specs.Digesting.{WasDropped}
use Rattle.era_meta.specs.LiveParts.{AreLiveParts}
use Rattle.era_meta.proofs.LiveDigests.{has-oldest, oldest-size}

-- the bits of the first blocks are those of words, and no other block is in the set
pub record IsRefilled (words : List ℕ) (size : ℕ) (set : List Bool) (upto : ℕ) : Type 0 where
  pub length_same : length set ≡ size
  pub done : (block : ℕ) → block < upto → has set block ≡ bit_of_words words block
  pub rest : (block : ℕ) → upto ≤ block → has set block ≡ false

none-has : (count block : ℕ) → has (replicate count false) block ≡ false
none-has zero block = refl
none-has (suc count) zero = refl
none-has (suc count) (suc block) = none-has count block

pub length-none : (count : ℕ) → length {A = Bool} (replicate count false) ≡ count
length-none zero = refl
length-none (suc count) = ap suc (length-none count)

pub refill-init : (words : List ℕ) (size : ℕ) (set : List Bool) → set ≡ replicate size false → IsRefilled words size set 0
refill-init words size set is = rw is (record {
  length_same = length-none size;
  done = λ block lt. absurd (omega arith);
  rest = λ block from. none-has size block;
})

pub refill-marked : (words : List ℕ) (size at : ℕ) (set : List Bool) → at < size → bit_of_words words at ≡ true → IsRefilled words size set at
    → IsRefilled words size (slice_set set at true) (at + 1)
refill-marked words size at set lt marked so_far = record {
  length_same = length-set set at true ∙ so_far.length_same;
  done = λ block below. elim (cases_eq block at) [
    | inl same ↦
        let within : at < length set = let size' = so_far.length_same in omega arith in
        ap (λ (k : ℕ). has (slice_set set at true) k) same ∙ get_or-set_same set at true false within ∙ sym (ap (bit_of_words words) same ∙ marked)
    | inr other ↦ get_or-set_other set at block true false other ∙ so_far.done block (omega (arith, other))
  ];
  rest = λ block from. let other : block ≢ at = omega arith in get_or-set_other set at block true false other ∙ so_far.rest block (omega arith);
}

pub refill-passed : (words : List ℕ) (size at : ℕ) (set : List Bool) → bit_of_words words at ≡ false → IsRefilled words size set at → IsRefilled words size set (at + 1)
refill-passed words size at set passed so_far = record {
  length_same = so_far.length_same;
  done = λ block below. elim (cases_eq block at) [
    | inl same ↦ so_far.rest block (omega (arith, same)) ∙ sym (ap (bit_of_words words) same ∙ passed)
    | inr other ↦ so_far.done block (omega (arith, other))
  ];
  rest = λ block from. so_far.rest block (omega arith);
}

pub refill-end : (words : List ℕ) (size at : ℕ) (set flags : List Bool) → size ≤ at → IsRefilled words size set at → length flags ≡ size
    → ((block : ℕ) → bit_of_words words block ≡ has flags block) → set ≡ flags
refill-end words size at set flags past filled size' bits =
    ext_get_or false set flags (filled.length_same ∙ sym size') (λ block lt.
    let within : block < at = let same = filled.length_same in omega arith in
    filled.done block within ∙ bits block)

-- sets whose first ones were moved behind the others, one more at a time
pub rotated-step : (old sets rest : List ArchivedSet) (first : ArchivedSet) (count : ℕ) → count < length old → sets ≡ drop count old ++ take count old → sets ≡ first ∷ rest
    → rest ++ first ∷ [] ≡ drop (count + 1) old ++ take (count + 1) old
rotated-step old sets rest first count lt rotated taken =
    let item = get_or old count first in
    let split : drop count old ≡ item ∷ drop (count + 1) old = drop_more old count first lt in
    let both : first ∷ rest ≡ item ∷ (drop (count + 1) old ++ take count old) = sym taken ∙ rotated ∙ ap (λ (back : List ArchivedSet). back ++ take count old) split in
    let head : first ≡ item = cc in
    let tail : rest ≡ drop (count + 1) old ++ take count old = cc in
    ap (λ (front : List ArchivedSet). front ++ first ∷ []) tail ∙ append_assoc (drop (count + 1) old) (take count old) (first ∷ [])
    ∙ ap (λ (last : ArchivedSet). drop (count + 1) old ++ (take count old ++ last ∷ [])) head
    ∙ ap (λ (front : List ArchivedSet). drop (count + 1) old ++ front) (sym (take_more old count first lt))

pub rotated-length : (old sets : List ArchivedSet) (count : ℕ) → sets ≡ drop count old ++ take count old → length sets ≡ length old
rotated-length old sets count rotated =
    let split = ap length (take-append-drop count old) in
    let one = length-append (take count old) (drop count old) in let two = length-append (drop count old) (take count old) in
    ap length rotated ∙ omega arith

drop-front : (front : List ArchivedSet) (last : ArchivedSet) → (drop (length front) (front ++ last ∷ []) ≡ last ∷ []) × (take (length front) (front ++ last ∷ []) ≡ front)
drop-front [] last = (refl, refl)
drop-front (set ∷ front) last = let rest = drop-front front last in (rest.0, ap (λ (sets : List ArchivedSet). set ∷ sets) rest.1)

pub rotated-end : (old sets : List ArchivedSet) (count : ℕ) (front : List ArchivedSet) (last : ArchivedSet) → sets ≡ drop count old ++ take count old
    → old ≡ front ++ last ∷ [] → count ≡ length old - 1 → sets ≡ last ∷ front
rotated-end old sets count front last rotated is end =
    let size = length-append front (last ∷ []) in let whole = ap length is in
    let at : count ≡ length front = omega arith in
    let ends = drop-front front last in
    rotated ∙ ap (λ (list : List ArchivedSet). drop count list ++ take count list) is ∙ ap (λ (n : ℕ). drop n (front ++ last ∷ []) ++ take n (front ++ last ∷ [])) at
    ∙ rw (ends.0, ends.1) refl

-- the marks before a set was dropped
pub record WasOldest (m before : BlockMarks) (era : ℕ) : Type 0 where
  pub oldest : ArchivedSet
  pub archive : before.archive ≡ oldest ∷ m.archive
  pub era_is : oldest.era ≡ era
  pub size : length oldest.blocks ≡ blocks_of_marks m
  pub rest : before ≡ record m { archive = before.archive }

dropped-is : (m : BlockMarks) (archive : List ArchivedSet) (oldest : ArchivedSet) (sets : List ArchivedSet) → m.archive ≡ oldest ∷ sets → digested m None ≡ record m { archive = sets }
dropped-is m archive oldest sets is = rw is refl

pub was-oldest : (m now before : BlockMarks) (era : ℕ) (words : List ℕ) → m ≡ now → WasDropped era words before now → WasOldest m before era
was-oldest m now before era words is was =
    let has = has-oldest before era None was.step in
    let after : m ≡ record before { archive = has.sets } = is ∙ was.is ∙ dropped-is before before.archive has.oldest has.sets has.archive in
    let sets : m.archive ≡ has.sets = ap (λ (n : BlockMarks). n.archive) after in
    record {
      oldest = has.oldest;
      archive = has.archive ∙ ap (λ (list : List ArchivedSet). has.oldest ∷ list) (sym sets);
      era_is = has.era_is;
      size = oldest-size before has.oldest has.sets was.valid has.archive ∙ sym (ap blocks_of_marks after);
      rest = ap (λ (n : BlockMarks). let x : BlockMarks = record n { archive = before.archive } in x) (sym after);
    }

abbrev pub a_set : ℕ → List Bool → ArchivedSet
a_set era blocks = record { era = era; blocks = blocks }

-- once the set is back, the marks are as before
pub back-whole : (m now before : BlockMarks) (era : ℕ) (words : List ℕ) (archive : List ArchivedSet) (blocks : List Bool) → m ≡ now → (was : WasDropped era words before now)
    → archive ≡ record { era = era; blocks = blocks } ∷ m.archive
    → ((flags : List Bool) → length flags ≡ blocks_of_marks m → ((block : ℕ) → bit_of_words words block ≡ has flags block) → blocks ≡ flags)
    → record m { archive = archive } ≡ before
back-whole m now before era words archive blocks is was front filled =
    let old = was-oldest m now before era words is was in
    let same : blocks ≡ old.oldest.blocks = filled old.oldest.blocks old.size (was.bits old.oldest m.archive old.archive) in
    let set : a_set era blocks ≡ old.oldest = ap (λ (e : ℕ). a_set e blocks) (sym old.era_is) ∙ ap (a_set old.oldest.era) same in
    let list : archive ≡ before.archive = front ∙ ap (λ (one : ArchivedSet). one ∷ m.archive) set ∙ sym old.archive in
    ap (λ (sets : List ArchivedSet). let x : BlockMarks = record m { archive = sets } in x) list ∙ sym old.rest

-- there is a spare set for it, and room among the archived ones
pub spare-left : (m now before : BlockMarks) (era : ℕ) (words : List ℕ) (spare : List ArchivedSet) → m ≡ now → WasDropped era words before now → AreLiveParts m spare
    → (0 < length spare) × (length m.archive < 16)
spare-left m now before era words spare is was parts =
    let old = was-oldest m now before era words is was in
    let size = ap length old.archive in let few = was.valid.few_sets in let sets = parts.sets in
    (omega arith, omega arith)
