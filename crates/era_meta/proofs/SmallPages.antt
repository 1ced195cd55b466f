-- What small pages say.
use Rattle.std.proofs.Common.{◌≡◌, true, false, refl, ap, sym, ◌∙◌, arith}
use Rattle.std.specs.Prelude.{slice_index_or}
use Rattle.std.proofs.lemmas.Bool.{false≢true}
use Rattle.era_base.specs.Bits.{bit_of}
use Rattle.era_layout.specs.Numbers.{u32_at}
use Rattle.era_layout.specs.Pages.{entry_at, flag_at}
use Rattle.era_model.specs.Marks.{BlockMarks, no_marks, with_block}
use Rattle.era_meta.specs.Content.{marks_in, page_at, IsWholeContent}
use Rattle.era_meta.specs.Examples.{one_block, pages_beginning}

pub marked : marks_in one_block (pages_beginning 0 1) ≡ with_block (no_marks 8 8 1) 0
unfolding bit_of u32_at
marked = refl

pub unmarked : marks_in one_block (pages_beginning 0 0) ≡ no_marks 8 8 1
unfolding bit_of u32_at
unmarked = refl

pub other-one : ¬ (marks_in one_block (pages_beginning 0 0) ≡ with_block (no_marks 8 8 1) 0)
other-one is = false≢true (ap (λ (m : BlockMarks). slice_index_or m.current 0 false) (sym unmarked ∙ is))

second-bit : flag_at (page_at (pages_beginning 0 2).current 0) 1 ≡ true
unfolding bit_of
second-bit = refl

pub past-end : ¬ IsWholeContent one_block (pages_beginning 0 2)
past-end whole = false≢true (sym (whole.current_set 0 (omega arith) 1 (omega arith) (omega arith)) ∙ second-bit)

first-entry : entry_at (page_at (pages_beginning 1 0).array 0) 0 ≡ 1
unfolding u32_at
first-entry = refl

pub too-late : ¬ IsWholeContent one_block (pages_beginning 1 0)
too-late whole = let le = (whole.entries 0 (omega arith)).limited 0 (omega arith) (omega arith) in let is = first-entry in omega (arith, le, is)
