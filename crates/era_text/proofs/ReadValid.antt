-- What the lines of a dump are read as are valid marks.
use Rattle.std.proofs.Common.{◌≡◌, ℕ, zero, suc, ◌+◌, ◌-◌, ◌<◌, ◌≤◌, ◌^◌, ◌==◌, ◌&&◌, List, [], ◌∷◌, length, refl, ap, sym, subst, inl, inr, arith}
use Rattle.std.specs.Prelude.{Bool, true, false, not, nat_le, nat_lt, codes, bytes_eq, if◌then◌else◌}
use Rattle.std.proofs.lemmas.Bool.{cases_lt}
use Rattle.era_line.specs.Words.{words_of}
use Rattle.era_model.specs.MarkRuns.{era_in_runs, sets_of_runs}
use Rattle.era_model.specs.Validity.{entry_limit}
use Rattle.era_model.specs.declared.marked_set.MarkedSet.{MarkedSet}
use Rattle.era_model.proofs.FlagsOfRuns.{entry-beyond, entry_of_runs}
use Rattle.era_text.specs.DumpLaws.{AreReadable, ReadMarksAreValid}
use Rattle.era_text.specs.Dumps.{marks_read}
use Rattle.era_text.specs.FirstLine.{Head, Refuses, Tells, blocks_in, first_step, head_step, head_words_step, is_geometry, start, with_current_begun, with_number, with_set_ended}
use Rattle.era_text.specs.Grammar.{Whole, after_step, array_words_step, dump_end, input_end, line_step, next_set_step, rest_end, run_words_step, section_step, set_words_step}
use Rattle.era_text.specs.Numbers.{number_of}
use Rattle.era_text.specs.ReadDumps.{IsHead}
use Rattle.era_text.specs.declared.dump_kind.DumpKind.TheVariants.{BadEra, BadGeometry, LongLine, Unknown}
use Rattle.era_text.specs.declared.reading.Reading.{Reading}
use Rattle.era_text.specs.declared.section.Section.{Section}
use Rattle.era_text.specs.declared.section.Section.TheVariants.{Heading, Array, Set, Current, Done}
use Rattle.era_text.proofs.Raises.{length-eras}
use Rattle.era_text.proofs.ReadMarks.{AreEras, IsRead, ReadNext, array-words-read, ended-read, length-flags, next-set-read, number-tells, run-words-read, told-same, unless-tells}
use Rattle.era_text.proofs.RunsLead.{AreUpTo}
use Rattle.era_text.proofs.WordsOfLines.{number-some}

-- the words of a line of an archived set
set-words-read : (head : Head) (reading next : Reading) (words : List (List ℕ)) → reading.section ≡ Set → IsRead Set head reading
    → set_words_step head reading words ≡ Tells next → ReadNext head next
set-words-read head reading next [] here read told = cc
set-words-read head reading next (a ∷ []) here read told = cc
set-words-read head reading next (a ∷ b ∷ []) here read told =
    elim (bytes_eq a (codes "set")) as (λ set. (if set then with_number (number_of (2 ^ 32) b) (λ era. next_set_step head reading era) else run_words_step head reading (a ∷ b ∷ [])) ≡ Tells next → ReadNext head next) [
      | true ↦ λ is. let era = number-tells (number_of (2 ^ 32) b) (λ era. next_set_step head reading era) next is in next-set-read head reading next era.number read era.told
      | false ↦ λ is. run-words-read head reading next (a ∷ b ∷ []) is (λ blocks.
          subst (λ section. IsRead section head (record reading { blocks = blocks })) (sym here) read)
    ] told
set-words-read head reading next (a ∷ b ∷ c ∷ words) here read told = cc

-- a line that tells something, by the section
section-read : (section : Section) (head : Head) (reading next : Reading) (line : List ℕ) → reading.section ≡ section → IsRead section head reading
    → section_step section head reading line ≡ Tells next → ReadNext head next
section-read Heading head reading next line here read told =
    elim (bytes_eq line (codes "array")) as (λ word. (if word then Tells (record reading { section = Array }) else Refuses Unknown) ≡ Tells next → ReadNext head next) [
      | true ↦ λ is. subst (ReadNext head) (told-same (record reading { section = Array }) next is)
          (subst (λ runs. AreUpTo (head.era - 1) runs) (sym read.0) tt, read.1)
      | false ↦ λ is. cc
    ] told
section-read Array head reading next line here read told =
    elim (bytes_eq line (codes "current")) as (λ word. (if word then Tells (with_current_begun reading) else array_words_step head reading (words_of line)) ≡ Tells next → ReadNext head next) [
      | true ↦ λ is. subst (ReadNext head) (told-same (with_current_begun reading) next is)
          (subst (λ sets. AreEras head reading.array sets) (sym read.1) (record { between = tt; few = omega arith; upto = read.0 }))
      | false ↦ λ is. array-words-read head reading next (words_of line) here read is
    ] told
section-read Set head reading next line here read told =
    elim (bytes_eq line (codes "current")) as (λ word. (if word then Tells (with_current_begun (with_set_ended reading)) else set_words_step head reading (words_of line)) ≡ Tells next → ReadNext head next) [
      | true ↦ λ is. subst (ReadNext head) (told-same (with_current_begun (with_set_ended reading)) next is) (ended-read head reading read)
      | false ↦ λ is. set-words-read head reading next (words_of line) here read is
    ] told
section-read Current head reading next line here read told =
    elim (bytes_eq line (codes "end")) as (λ word. (if word then Tells (record reading { section = Done }) else run_words_step head reading (words_of line)) ≡ Tells next → ReadNext head next) [
      | true ↦ λ is. subst (ReadNext head) (told-same (record reading { section = Done }) next is) read
      | false ↦ λ is. run-words-read head reading next (words_of line) is (λ blocks.
          subst (λ section. IsRead section head (record reading { blocks = blocks })) (sym here) read)
    ] told
section-read Done head reading next line here read told = cc

-- a line that is taken keeps what is promised
pub line-read : (head : Head) (reading next : Reading) (line : List ℕ) → ReadNext head reading → line_step head reading line ≡ Tells next → ReadNext head next
line-read head reading next line read told =
    let short = unless-tells (nat_lt 128 (length line)) LongLine (section_step reading.section head reading line) next told in
    section-read reading.section head reading next line refl read short.told

-- what was read once the dump is whole
record ReadsWhole (head other : Head) (reading : Reading) : Type 0 where
  same : other ≡ head
  read : AreEras head reading.array reading.archive

-- the end of the input
end-read : (section : Section) (number : ℕ) (head other : Head) (reading last : Reading) → IsRead section head reading
    → input_end section number head reading ≡ Whole other last → ReadsWhole head other last
end-read Heading number head other reading last read is = cc
end-read Array number head other reading last read is = cc
end-read Set number head other reading last read is = cc
end-read Current number head other reading last read is = cc
end-read Done number head other reading last read is =
    let heads : other ≡ head = cc in
    let readings : reading ≡ last = cc in
    record { same = heads; read = subst (λ (r : Reading). AreEras head r.array r.archive) readings read }

-- the lines behind the first one
rest-read : (lines : List (List ℕ)) (number : ℕ) (head other : Head) (reading last : Reading) → ReadNext head reading
    → rest_end head lines number reading ≡ Whole other last → ReadsWhole head other last
rest-read [] number head other reading last read is = end-read reading.section (number + 1) head other reading last read is
rest-read (line ∷ lines) number head other reading last read is =
    elim (line_step head reading line) as (λ step. line_step head reading line ≡ step
    → after_step (number + 1) (λ next. rest_end head lines (number + 1) next) step ≡ Whole other last → ReadsWhole head other last) [
      | Tells next ↦ λ told ends. rest-read lines (number + 1) head other next last (line-read head reading next line read told) ends
      | Refuses kind ↦ λ told ends. cc
    ] refl is

not-false : (b : Bool) → not b ≡ false → b ≡ true
not-false true e = refl
not-false false e = cc

positive : (era : ℕ) → (era == 0) ≡ false → 0 < era
positive zero is = cc
positive (suc era) is = omega arith

head-words-read : (words : List (List ℕ)) (head : Head) → head_words_step words ≡ Tells head → IsHead head
head-words-read [] head told = cc
head-words-read (a ∷ []) head told = cc
head-words-read (a ∷ b ∷ []) head told = cc
head-words-read (a ∷ b ∷ c ∷ []) head told = cc
head-words-read (a ∷ b ∷ c ∷ d ∷ []) head told = cc
head-words-read (a ∷ b ∷ c ∷ d ∷ e ∷ []) head told =
    let one = unless-tells (not (bytes_eq a (codes "eradump") && bytes_eq b (codes "1"))) Unknown _ head told in
    let sectors = number-tells (number_of (2 ^ 64) c) (λ sectors. with_number (number_of (2 ^ 64) d) (λ size.
    with_number (number_of (2 ^ 32) e) (λ era. head_step sectors size era))) head one.told in
    let size = number-tells (number_of (2 ^ 64) d) (λ size. with_number (number_of (2 ^ 32) e) (λ era. head_step sectors.number size era)) head sectors.told in
    let era = number-tells (number_of (2 ^ 32) e) (λ era. head_step sectors.number size.number era) head size.told in
    let two = unless-tells (not (is_geometry sectors.number size.number)) BadGeometry _ head era.told in
    let three = unless-tells (era.number == 0) BadEra _ head two.told in
    let mine : Head = record { sectors = sectors.number; block_sectors = size.number; era = era.number } in
    subst IsHead (told-same mine head three.told) (record {
      begun = positive era.number three.clear;
      geometry = not-false (is_geometry sectors.number size.number) two.clear;
      sectors_fit = (number-some (2 ^ 64) sectors.number c sectors.is).1;
      era_fits = (number-some (2 ^ 32) era.number e era.is).1;
    })
head-words-read (a ∷ b ∷ c ∷ d ∷ e ∷ f ∷ words) head told = cc

pub first-read : (line : List ℕ) (head : Head) → first_step line ≡ Tells head → IsHead head
first-read line head told =
    let short = unless-tells (nat_lt 128 (length line)) LongLine (head_words_step (words_of line)) head told in
    head-words-read (words_of line) head short.told

-- an entry by runs with eras up to a limit
entry-upto : (limit : ℕ) (runs : List (ℕ × ℕ × ℕ)) (block : ℕ) → AreUpTo limit runs → era_in_runs runs block ≤ limit
entry-upto limit [] block upto = omega arith
entry-upto limit (run ∷ runs) block upto =
    let rest = entry-upto limit runs block upto.1 in
    let mine = upto.0 in
    elim (nat_le run.0 block && nat_le block run.1) as (λ here. (if here then run.2 else era_in_runs runs block) ≤ limit) [
      | true ↦ mine
      | false ↦ rest
    ]

length-sets : (blocks : ℕ) (sets : List MarkedSet) → length (sets_of_runs blocks sets) ≡ length sets
length-sets blocks [] = refl
length-sets blocks (set ∷ sets) = ap suc (length-sets blocks sets)

-- the marks of a whole dump
pub marks-valid : (head : Head) (reading : Reading) → IsHead head → AreEras head reading.array reading.archive → AreReadable (marks_read head reading)
marks-valid head reading is eras =
    let blocks = blocks_in head in
    let limit = entry_limit (sets_of_runs blocks reading.archive) head.era in record {
      valid = record {
        begun = is.begun;
        array_size = length-eras 0 blocks reading.array;
        current_size = length-flags 0 blocks reading.blocks;
        archive = eras.between;
        few_sets = subst (λ count. count ≤ 16) (sym (length-sets blocks reading.archive)) eras.few;
        entries = λ block. elim (cases_lt block blocks) [
          | inl lt ↦ subst (λ era. era ≤ limit) (sym (entry_of_runs blocks reading.array block lt)) (entry-upto limit reading.array block eras.upto)
          | inr past ↦ subst (λ era. era ≤ limit) (sym (entry-beyond 0 blocks reading.array block past)) (omega arith)
        ];
      };
      image = record { geometry = is.geometry; sectors_fit = is.sectors_fit; era_fits = is.era_fits };
    }

-- the lines of a whole dump
lines-valid : (lines : List (List ℕ)) (head : Head) (reading : Reading) → dump_end lines ≡ Whole head reading → AreReadable (marks_read head reading)
lines-valid [] head reading whole = cc
lines-valid (line ∷ lines) head reading whole =
    elim (first_step line) as (λ step. first_step line ≡ step → after_step 1 (λ told. rest_end told lines 1 start) step ≡ Whole head reading
    → AreReadable (marks_read head reading)) [
      | Tells first ↦ λ told ends.
          let is = first-read line first told in
          let all = rest-read lines 1 first head start reading (refl, refl) ends in
          subst (λ (h : Head). AreReadable (marks_read h reading)) (sym all.same) (marks-valid first reading is all.read)
      | Refuses kind ↦ λ told ends. cc
    ] refl whole

pub read-valid : ReadMarksAreValid
read-valid lines m read = subst AreReadable (sym read.same) (lines-valid lines read.head read.reading read.whole)
