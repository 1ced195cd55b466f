-- What was read of a dump text after each line that was taken, and what that makes of the answer.
use Rattle.std.proofs.Common.{◌≡◌, ℕ, ◌+◌, ◌-◌, ◌<◌, ◌≤◌, List, [], ◌++◌, refl, ap, sym, subst, ◌∙◌, inr, append_assoc, arith}
use Rattle.std.specs.Prelude.{Option, Some}
use Rattle.era_line.specs.Lines.{lines_of}
use Rattle.era_line.specs.Reading.{IsAhead, LeavesRest}
use Rattle.era_text.specs.FirstLine.{Head, Tells, blocks_in, start}
use Rattle.era_text.specs.Grammar.{Whole, dump_end, line_step, rest_end}
use Rattle.era_text.specs.ReadDumps.{FailsDump, FailsRest, IsHead, ReadsHead, ReadsRest, RunsAreWithin, TakesLine}
use Rattle.era_text.specs.declared.reading.Reading.{Reading}
use Rattle.era_text.specs.DumpLaws.{AreReadable}
use Rattle.era_text.specs.Dumps.{marks_read}
use Rattle.era_text.specs.declared.section.Section.TheVariants.{Done}
use Rattle.era_text.specs.declared.text_end.TextEnd.{TextEnd}
use Rattle.era_text.specs.declared.text_end.TextEnd.TheVariants.{Line, Source, Sink, Memory}
use Rattle.era_text.proofs.Places.{line-grows, place-limit, place_of}
use Rattle.era_text.proofs.ReadMarks.{IsRead, ReadNext}
use Rattle.era_text.proofs.ReadValid.{line-read, marks-valid}
use Rattle.era_text.proofs.ValidDumps.{fit-geometry}

-- the bytes that are left are a rest of themselves
pub leaves-none : (left : Option (List ℕ)) → LeavesRest left left
leaves-none left = λ bytes told. record { front = []; rest = bytes; told = told; joined = refl }

-- a rest of a rest
pub leaves-then : (before left after : Option (List ℕ)) → LeavesRest before left → LeavesRest left after → LeavesRest before after
leaves-then before left after one more = λ bytes told.
    let first = one bytes told in
    let second = more first.rest first.told in record {
      front = first.front ++ second.front;
      rest = second.rest;
      told = second.told;
      joined = append_assoc first.front second.front second.rest ∙ ap (λ back. first.front ++ back) second.joined ∙ first.joined;
    }

-- the text is ahead where nothing of it was taken
pub ahead-first : (taken : List ℕ) (left : Option (List ℕ)) (text : List ℕ) → taken ≡ [] → left ≡ Some text → IsAhead taken left text
ahead-first taken left text none told = record { rest = text; told = told; joined = rw none refl }

-- so many lines were read, and the rest is still to be read: as it goes on from here, so the text ends
pub record ComesTo (head : Head) (text : List ℕ) (number : ℕ) (now : Reading) (taken : List ℕ) (left : Option (List ℕ)) : Type 0 where
  pub rest : List ℕ
  pub ahead : IsAhead taken left rest
  pub goes : rest_end head (lines_of text) 1 start ≡ rest_end head (lines_of rest) number now

-- what holds of a reading whatever the text is
pub record IsUnderway (head : Head) (number : ℕ) (now : Reading) : Type 0 where
  pub read : ReadNext head now
  pub within : RunsAreWithin head now
  pub placed : number ≤ place_of now + 1

few : (head : Head) → IsHead head → blocks_in head ≤ 65536
few head is = (fit-geometry head.sectors head.block_sectors is.geometry).few

-- the first line alone was read
pub comes-first : (head : Head) (text taken : List ℕ) (left : Option (List ℕ)) → IsAhead taken left text → ComesTo head text 1 start taken left
comes-first head text taken left ahead = record { rest = text; ahead = ahead; goes = refl }

pub underway-first : (head : Head) → IsUnderway head 1 start
underway-first head = record { read = (refl, refl); within = record { array_within = tt; archive_within = tt; current_within = tt }; placed = omega arith }

-- a line more was taken
pub comes-line : (head : Head) (text : List ℕ) (number : ℕ) (before now : Reading) (taken taken' : List ℕ) (left left' : Option (List ℕ))
    → ComesTo head text number before taken left → ((rest : List ℕ) → IsAhead taken left rest → TakesLine head number rest before now taken' left')
    → ComesTo head text (number + 1) now taken' left'
comes-line head text number before now taken taken' left left' comes takes =
    let line = takes comes.rest comes.ahead in record { rest = line.rest; ahead = line.ahead; goes = comes.goes ∙ line.goes }

pub underway-line : (head : Head) (number : ℕ) (before now : Reading) (line : List ℕ) → IsHead head → IsUnderway head number before
    → line_step head before line ≡ Tells now → IsUnderway head (number + 1) now
underway-line head number before now line is underway told =
    let grows = line-grows head before now line (few head is) underway.read underway.within told in
    let later = grows.later in
    let placed = underway.placed in record {
      read = line-read head before now line underway.read told;
      within = grows.within;
      placed = omega arith;
    }

-- the lines that are taken have an end
pub underway-limit : (head : Head) (number : ℕ) (now : Reading) → IsHead head → IsUnderway head number now → number ≤ 1245223
underway-limit head number now is underway =
    let limit = place-limit head now (few head is) underway.read underway.within in
    let placed = underway.placed in
    omega arith

pub underway-smaller : (head : Head) (number : ℕ) (before now : Reading) (line : List ℕ) → IsHead head → IsUnderway head number before
    → line_step head before line ≡ Tells now → 1245223 - place_of now < 1245223 - place_of before
underway-smaller head number before now line is underway told =
    let grows = line-grows head before now line (few head is) underway.read underway.within told in
    let later = grows.later in
    let limit = place-limit head before (few head is) underway.read underway.within in
    omega arith

-- what was read of a whole text are valid marks
pub underway-valid : (head : Head) (number : ℕ) (before now : Reading) → IsHead head → IsUnderway head number before → now ≡ before → now.section ≡ Done
    → AreReadable (marks_read head now)
underway-valid head number before now is underway same done =
    let read : ReadNext head now = subst (ReadNext head) (sym same) underway.read in
    marks-valid head now is (subst (λ section. IsRead section head now) done read)

-- the text has ended
pub comes-whole : (head : Head) (text : List ℕ) (number : ℕ) (before now : Reading) (taken : List ℕ) (left left' : Option (List ℕ))
    → ComesTo head text number before taken left → ((rest : List ℕ) → IsAhead taken left rest → ReadsRest head number rest before now left')
    → ReadsRest head 1 text start now left'
comes-whole head text number before now taken left left' comes reads =
    let whole = reads comes.rest comes.ahead in record { whole = comes.goes ∙ whole.whole; none = whole.none }

-- a line wasn't taken
pub comes-fails : (head : Head) (text : List ℕ) (number : ℕ) (before : Reading) (taken : List ℕ) (left left' : Option (List ℕ)) (end : TextEnd)
    → ComesTo head text number before taken left → ((rest : List ℕ) → IsAhead taken left rest → FailsRest head number rest before left' end)
    → FailsRest head 1 text start left' end
comes-fails head text number before taken left left' (Line line kind) comes fails = comes.goes ∙ fails comes.rest comes.ahead
comes-fails head text number before taken left left' (Source count) comes fails =
    let later = fails comes.rest comes.ahead in record {
      now = later.now;
      reading = later.reading;
      rest = later.rest;
      goes = comes.goes ∙ later.goes;
      inside = later.inside;
    }
comes-fails head text number before taken left left' (Sink count) comes fails = fails comes.rest comes.ahead
comes-fails head text number before taken left left' Memory comes fails = tt

-- the lines behind a first line that was read weren't read to their end
pub fails-behind : (text : List ℕ) (head : Head) (taken : List ℕ) (left left' : Option (List ℕ)) (end : TextEnd) → ReadsHead text head taken left
    → ((rest : List ℕ) → IsAhead taken left rest → FailsRest head 1 rest start left' end) → FailsDump text left' end
fails-behind text head taken left left' (Line line kind) reads fails = reads.goes ∙ fails reads.rest reads.ahead
fails-behind text head taken left left' (Source count) reads fails =
    let later = fails reads.rest reads.ahead in inr (record {
      head = head;
      number = later.now;
      reading = later.reading;
      rest = later.rest;
      goes = reads.goes ∙ later.goes;
      inside = later.inside;
    })
fails-behind text head taken left left' (Sink count) reads fails = fails reads.rest reads.ahead
fails-behind text head taken left left' Memory reads fails = tt

-- they were, so the text is a whole dump
pub whole-behind : (text : List ℕ) (head : Head) (now : Reading) (taken : List ℕ) (left left' : Option (List ℕ)) → ReadsHead text head taken left
    → ((rest : List ℕ) → IsAhead taken left rest → ReadsRest head 1 rest start now left') → (dump_end (lines_of text) ≡ Whole head now) × (left' ≡ Some [])
whole-behind text head now taken left left' reads whole = let rest = whole reads.rest reads.ahead in (reads.goes ∙ rest.whole, rest.none)
