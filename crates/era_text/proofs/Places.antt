-- Each line that is taken raises a place, and leaves all runs within the blocks.
use Rattle.std.proofs.Common.{◌≡◌, ℕ, ◌+◌, ◌*◌, ◌<◌, ◌≤◌, ◌^◌, List, [], ◌∷◌, ◌++◌, length, refl, sym, subst, length-append, arith}
use Rattle.std.specs.Prelude.{true, false, not, ◌||◌, nat_le, nat_lt, codes, bytes_eq, if◌then◌else◌}
use Rattle.std.proofs.lemmas.Bool.{leb-false, ltb-false}
use Rattle.era_base.specs.declared.limits.TheConstants.{MOST_SETS}
use Rattle.era_line.specs.Words.{words_of}
use Rattle.era_model.specs.MarkRuns.{SetsEndWithin}
use Rattle.era_text.specs.FirstLine.{Head, Refuses, Tells, blocks_in, greatest_era, is_apart, is_behind, is_past_era, last_of, with_current_begun, with_number, with_set_begun, with_set_ended}
use Rattle.era_text.specs.Grammar.{array_run_step, array_words_step, first_set_step, line_step, next_set_step, run_step, run_words_step, section_step, set_words_step}
use Rattle.era_text.specs.Numbers.{number_of}
use Rattle.era_text.specs.ReadDumps.{RunsAreWithin}
use Rattle.era_text.specs.declared.dump_kind.DumpKind.TheVariants.{BadEra, LongLine, Order, PastEnd, TooManySets, Unknown}
use Rattle.era_text.specs.declared.reading.Reading.{Reading}
use Rattle.era_text.specs.declared.section.Section.{Section}
use Rattle.era_text.specs.declared.section.Section.TheVariants.{Heading, Array, Set, Current, Done}
use Rattle.era_text.proofs.PushedRuns.{last-pushed}
use Rattle.era_text.proofs.RunEnds.{apart-end, behind-end, end_of_entry, end_of_run, entries-push, entry-end, not-false, run-end, sets-push, within-push}
use Rattle.era_text.proofs.ReadMarks.{IsRead, ReadNext, number-tells, or-parts, told-same, unless-tells}

-- how far a dump has come, by the section of its next line: each set has a window of its own, and in it its runs ascend
abbrev pub place_in : Section → Reading → ℕ
place_in Heading reading = 0
place_in Array reading = end_of_entry (last_of reading.array) + 1
place_in Set reading = 65538 * (length reading.archive + 1) + end_of_run (last_of reading.blocks)
place_in Current reading = 65538 * 18 + end_of_run (last_of reading.blocks)
place_in Done reading = 65538 * 19

-- a line that is taken raises the place, and keeps the runs within the blocks
pub record Grows (head : Head) (section : Section) (before now : Reading) : Type 0 where
  pub within : RunsAreWithin head now
  pub later : place_in section before < place_in now.section now

-- a run of the array
array-run-grows : (head : Head) (reading next : Reading) (first last era : ℕ) → reading.section ≡ Array → RunsAreWithin head reading
    → array_run_step head reading first last era ≡ Tells next → Grows head Array reading next
array-run-grows head reading next first last era here within told =
    let one = unless-tells (nat_le (blocks_in head) last) PastEnd _ next told in
    let two = unless-tells (nat_lt last first || not (is_behind (last_of reading.array) first era)) Order _ next one.told in
    let three = unless-tells (not (is_past_era head era)) BadEra _ next two.told in
    let faults = or-parts (nat_lt last first) (not (is_behind (last_of reading.array) first era)) two.clear in
    let run : ℕ × ℕ × ℕ = (first, last, era) in
    let new : Reading = record reading { array = reading.array ++ run ∷ [] } in
    let behind = behind-end (last_of reading.array) first last era (ltb-false last first faults.0) (not-false _ faults.1) in
    let raised : end_of_entry (last_of reading.array) + 1 < end_of_entry (last_of (reading.array ++ run ∷ [])) + 1
    = subst (λ end. end_of_entry (last_of reading.array) + 1 < end_of_entry end + 1) (sym (last-pushed reading.array run)) (omega arith) in
    subst (Grows head Array reading) (told-same new next three.told) (record {
      within = record {
        array_within = entries-push (blocks_in head) reading.array run within.array_within (leb-false (blocks_in head) last one.clear);
        archive_within = within.archive_within;
        current_within = within.current_within;
      };
      later = subst (λ section. place_in Array reading < place_in section new) (sym here) raised;
    })

-- a run of a set
run-grows : (section : Section) (head : Head) (reading next : Reading) (first last : ℕ) → reading.section ≡ section → RunsAreWithin head reading
    → ((blocks : List (ℕ × ℕ)) → end_of_run (last_of reading.blocks) < end_of_run (last_of blocks) → place_in section reading < place_in section (record reading { blocks = blocks }))
    → run_step head reading first last ≡ Tells next → Grows head section reading next
run-grows section head reading next first last here within raises told =
    let one = unless-tells (nat_le (blocks_in head) last) PastEnd _ next told in
    let two = unless-tells (nat_lt last first || not (is_apart (last_of reading.blocks) first)) Order _ next one.told in
    let faults = or-parts (nat_lt last first) (not (is_apart (last_of reading.blocks) first)) two.clear in
    let run : ℕ × ℕ = (first, last) in
    let blocks = reading.blocks ++ run ∷ [] in
    let new : Reading = record reading { blocks = blocks } in
    let apart = apart-end (last_of reading.blocks) first last (ltb-false last first faults.0) (not-false _ faults.1) in
    let raised : end_of_run (last_of reading.blocks) < end_of_run (last_of blocks)
    = subst (λ end. end_of_run (last_of reading.blocks) < end_of_run end) (sym (last-pushed reading.blocks run)) apart in
    subst (Grows head section reading) (told-same new next two.told) (record {
      within = record {
        array_within = within.array_within;
        archive_within = within.archive_within;
        current_within = within-push (blocks_in head) reading.blocks run within.current_within (leb-false (blocks_in head) last one.clear);
      };
      later = subst (λ now. place_in section reading < place_in now new) (sym here) (raises blocks raised);
    })

run-words-grow : (section : Section) (head : Head) (reading next : Reading) (words : List (List ℕ)) → reading.section ≡ section → RunsAreWithin head reading
    → ((blocks : List (ℕ × ℕ)) → end_of_run (last_of reading.blocks) < end_of_run (last_of blocks) → place_in section reading < place_in section (record reading { blocks = blocks }))
    → run_words_step head reading words ≡ Tells next → Grows head section reading next
run-words-grow section head reading next [] here within raises told = cc
run-words-grow section head reading next (a ∷ []) here within raises told = cc
run-words-grow section head reading next (a ∷ b ∷ []) here within raises told =
    let first = number-tells (number_of (2 ^ 32) a) (λ first. with_number (number_of (2 ^ 32) b) (λ last. run_step head reading first last)) next told in
    let last = number-tells (number_of (2 ^ 32) b) (λ last. run_step head reading first.number last) next first.told in
    run-grows section head reading next first.number last.number here within raises last.told
run-words-grow section head reading next (a ∷ b ∷ c ∷ words) here within raises told = cc

-- the set that was read is put away, and the blocks of another begin
put-away : (head : Head) (reading : Reading) → RunsAreWithin head reading → SetsEndWithin (blocks_in head) (with_set_ended reading).archive
put-away head reading within =
    sets-push (blocks_in head) reading.archive (record { era = reading.set_era; blocks = reading.blocks }) within.archive_within within.current_within

-- the first archived set
first-set-grows : (head : Head) (reading next : Reading) (era : ℕ) → blocks_in head ≤ 65536 → RunsAreWithin head reading
    → first_set_step head reading era ≡ Tells next → Grows head Array reading next
first-set-grows head reading next era few within told =
    let one = unless-tells (not (is_past_era head era) || nat_lt era (greatest_era reading.array)) BadEra _ next told in
    let end = entry-end (blocks_in head) reading.array within.array_within in
    subst (Grows head Array reading) (told-same (with_set_begun era reading) next one.told) (record {
      within = record { array_within = within.array_within; archive_within = within.archive_within; current_within = tt };
      later = omega arith;
    })

-- a further archived set
next-set-grows : (head : Head) (reading next : Reading) (era : ℕ) → blocks_in head ≤ 65536 → RunsAreWithin head reading
    → next_set_step head reading era ≡ Tells next → Grows head Set reading next
next-set-grows head reading next era few within told =
    let one = unless-tells (nat_le era reading.set_era) Order _ next told in
    let two = unless-tells (not (is_past_era head era)) BadEra _ next one.told in
    let three = unless-tells (nat_le MOST_SETS (length reading.archive + 1)) TooManySets _ next two.told in
    let end = run-end (blocks_in head) reading.blocks within.current_within in
    subst (Grows head Set reading) (told-same (with_set_begun era (with_set_ended reading)) next three.told) (record {
      within = record { array_within = within.array_within; archive_within = put-away head reading within; current_within = tt };
      later = simp length-append (omega arith);
    })

-- the words of a line of the array
array-words-grow : (head : Head) (reading next : Reading) (words : List (List ℕ)) → reading.section ≡ Array → blocks_in head ≤ 65536 → RunsAreWithin head reading
    → array_words_step head reading words ≡ Tells next → Grows head Array reading next
array-words-grow head reading next [] here few within told = cc
array-words-grow head reading next (a ∷ []) here few within told = cc
array-words-grow head reading next (a ∷ b ∷ []) here few within told =
    let one = unless-tells (not (bytes_eq a (codes "set"))) Unknown _ next told in
    let era = number-tells (number_of (2 ^ 32) b) (λ era. first_set_step head reading era) next one.told in
    first-set-grows head reading next era.number few within era.told
array-words-grow head reading next (a ∷ b ∷ c ∷ []) here few within told =
    let first = number-tells (number_of (2 ^ 32) a) (λ first. with_number (number_of (2 ^ 32) b) (λ last.
    with_number (number_of (2 ^ 32) c) (λ era. array_run_step head reading first last era))) next told in
    let last = number-tells (number_of (2 ^ 32) b) (λ last. with_number (number_of (2 ^ 32) c) (λ era. array_run_step head reading first.number last era)) next first.told in
    let era = number-tells (number_of (2 ^ 32) c) (λ era. array_run_step head reading first.number last.number era) next last.told in
    array-run-grows head reading next first.number last.number era.number here within era.told
array-words-grow head reading next (a ∷ b ∷ c ∷ d ∷ words) here few within told = cc

-- the words of a line of an archived set
set-words-grow : (head : Head) (reading next : Reading) (words : List (List ℕ)) → reading.section ≡ Set → blocks_in head ≤ 65536 → RunsAreWithin head reading
    → set_words_step head reading words ≡ Tells next → Grows head Set reading next
set-words-grow head reading next [] here few within told = cc
set-words-grow head reading next (a ∷ []) here few within told = cc
set-words-grow head reading next (a ∷ b ∷ []) here few within told =
    elim (bytes_eq a (codes "set")) as (λ set. (if set then with_number (number_of (2 ^ 32) b) (λ era. next_set_step head reading era) else run_words_step head reading (a ∷ b ∷ [])) ≡ Tells next → Grows head Set reading next) [
      | true ↦ λ is. let era = number-tells (number_of (2 ^ 32) b) (λ era. next_set_step head reading era) next is in next-set-grows head reading next era.number few within era.told
      | false ↦ λ is. run-words-grow Set head reading next (a ∷ b ∷ []) here within (λ blocks raised. omega arith) is
    ] told
set-words-grow head reading next (a ∷ b ∷ c ∷ words) here few within told = cc

-- a line that is taken, by the section
section-grows : (section : Section) (head : Head) (reading next : Reading) (line : List ℕ) → reading.section ≡ section → blocks_in head ≤ 65536
    → RunsAreWithin head reading → (section ≡ Set → length reading.archive + 1 ≤ 16)
    → section_step section head reading line ≡ Tells next → Grows head section reading next
section-grows Heading head reading next line here few within sets told =
    elim (bytes_eq line (codes "array")) as (λ word. (if word then Tells (record reading { section = Array }) else Refuses Unknown) ≡ Tells next → Grows head Heading reading next) [
      | true ↦ λ is. subst (Grows head Heading reading) (told-same (record reading { section = Array }) next is)
          (record { within = within; later = omega arith })
      | false ↦ λ is. cc
    ] told
section-grows Array head reading next line here few within sets told =
    let end = entry-end (blocks_in head) reading.array within.array_within in
    elim (bytes_eq line (codes "current")) as (λ word. (if word then Tells (with_current_begun reading) else array_words_step head reading (words_of line)) ≡ Tells next → Grows head Array reading next) [
      | true ↦ λ is. subst (Grows head Array reading) (told-same (with_current_begun reading) next is) (record {
        within = record { array_within = within.array_within; archive_within = within.archive_within; current_within = tt };
        later = omega arith;
      })
      | false ↦ λ is. array-words-grow head reading next (words_of line) here few within is
    ] told
section-grows Set head reading next line here few within sets told =
    let end = run-end (blocks_in head) reading.blocks within.current_within in
    let room = sets refl in
    elim (bytes_eq line (codes "current")) as (λ word. (if word then Tells (with_current_begun (with_set_ended reading)) else set_words_step head reading (words_of line)) ≡ Tells next → Grows head Set reading next) [
      | true ↦ λ is. subst (Grows head Set reading) (told-same (with_current_begun (with_set_ended reading)) next is) (record {
        within = record { array_within = within.array_within; archive_within = put-away head reading within; current_within = tt };
        later = omega arith;
      })
      | false ↦ λ is. set-words-grow head reading next (words_of line) here few within is
    ] told
section-grows Current head reading next line here few within sets told =
    let end = run-end (blocks_in head) reading.blocks within.current_within in
    elim (bytes_eq line (codes "end")) as (λ word. (if word then Tells (record reading { section = Done }) else run_words_step head reading (words_of line)) ≡ Tells next → Grows head Current reading next) [
      | true ↦ λ is. subst (Grows head Current reading) (told-same (record reading { section = Done }) next is)
          (record { within = within; later = omega arith })
      | false ↦ λ is. run-words-grow Current head reading next (words_of line) here within (λ blocks raised. omega arith) is
    ] told
section-grows Done head reading next line here few within sets told = cc

-- how far a dump has come
abbrev pub place_of : Reading → ℕ
place_of reading = place_in reading.section reading

few-sets : (section : Section) (head : Head) (reading : Reading) → IsRead section head reading → section ≡ Set → length reading.archive + 1 ≤ 16
few-sets Heading head reading read is = cc
few-sets Array head reading read is = cc
few-sets Set head reading read is = read.few
few-sets Current head reading read is = cc
few-sets Done head reading read is = cc

-- a line that is taken
pub line-grows : (head : Head) (reading next : Reading) (line : List ℕ) → blocks_in head ≤ 65536 → ReadNext head reading → RunsAreWithin head reading
    → line_step head reading line ≡ Tells next → Grows head reading.section reading next
line-grows head reading next line few read within told =
    let short = unless-tells (nat_lt 128 (length line)) LongLine (section_step reading.section head reading line) next told in
    section-grows reading.section head reading next line refl few within (few-sets reading.section head reading read) short.told

-- no place is above that of a whole dump
section-place : (section : Section) (head : Head) (reading : Reading) → blocks_in head ≤ 65536 → IsRead section head reading → RunsAreWithin head reading
    → place_in section reading ≤ 1245222
section-place Heading head reading few read within = omega arith
section-place Array head reading few read within = let end = entry-end (blocks_in head) reading.array within.array_within in omega arith
section-place Set head reading few read within =
    let end = run-end (blocks_in head) reading.blocks within.current_within in
    let room = read.few in
    omega arith
section-place Current head reading few read within = let end = run-end (blocks_in head) reading.blocks within.current_within in omega arith
section-place Done head reading few read within = omega arith

pub place-limit : (head : Head) (reading : Reading) → blocks_in head ≤ 65536 → ReadNext head reading → RunsAreWithin head reading → place_of reading ≤ 1245222
place-limit head reading few read within = section-place reading.section head reading few read within
