-- What lines are read as are valid marks: each line that is taken keeps what is promised of those before it.
use Rattle.std.proofs.Common.{◌≡◌, ℕ, zero, suc, ◌+◌, ◌-◌, ◌<◌, ◌≤◌, ◌^◌, List, [], ◌∷◌, ◌++◌, length, refl, ap, sym, subst, length-append, arith}
use Rattle.std.specs.Prelude.{Option, Some, None, Bool, true, false, not, ◌||◌, nat_le, nat_lt, codes, bytes_eq}
use Rattle.std.proofs.lemmas.Bool.{and_parts, ltb-true, leb-false, ltb-false}
use Rattle.era_base.specs.declared.limits.TheConstants.{MOST_SETS}
use Rattle.era_model.specs.MarkRuns.{flags_of_runs, sets_of_runs}
use Rattle.era_model.specs.Validity.{AreArchivedBetween, entry_limit}
use Rattle.era_model.specs.declared.marked_set.MarkedSet.{MarkedSet}
use Rattle.era_text.specs.FirstLine.{Head, Step, Tells, blocks_in, greatest_era, is_apart, is_behind, is_past_era, last_of, unless, with_number, with_set_begun, with_set_ended}
use Rattle.era_text.specs.Grammar.{array_run_step, array_words_step, first_set_step, next_set_step, run_step, run_words_step}
use Rattle.era_text.specs.Numbers.{number_of}
use Rattle.era_text.specs.declared.dump_kind.DumpKind.{DumpKind}
use Rattle.era_text.specs.declared.dump_kind.DumpKind.TheVariants.{BadEra, Order, PastEnd, TooManySets, Unknown}
use Rattle.era_text.specs.declared.reading.Reading.{Reading}
use Rattle.era_text.specs.declared.section.Section.{Section}
use Rattle.era_text.specs.declared.section.Section.TheVariants.{Heading, Array, Set, Current, Done}
use Rattle.era_text.proofs.RunsLead.{AreUpTo}

-- a step that tells something has no fault
pub record Passes {A : Type 0} (fault : Bool) (step : Step A) (value : A) : Type 0 where
  pub clear : fault ≡ false
  pub told : step ≡ Tells value

pub unless-tells : {A : Type 0} (fault : Bool) (kind : DumpKind) (step : Step A) (value : A) → unless fault kind step ≡ Tells value → Passes fault step value
unless-tells true kind step value is = cc
unless-tells false kind step value is = record { clear = refl; told = is }

-- a number that a step needed was there
pub record TakesNumber {A : Type 0} (found : Option ℕ) (next : ℕ → Step A) (value : A) : Type 0 where
  pub number : ℕ
  pub is : found ≡ Some number
  pub told : next number ≡ Tells value

pub number-tells : {A : Type 0} (found : Option ℕ) (next : ℕ → Step A) (value : A) → with_number found next ≡ Tells value → TakesNumber found next value
number-tells None next value is = cc
number-tells (Some number) next value is = record { number = number; is = refl; told = is }

-- the eras of the array and of archived sets are those of valid marks
pub record AreEras (head : Head) (array : List (ℕ × ℕ × ℕ)) (sets : List MarkedSet) : Type 0 where
  pub between : AreArchivedBetween (blocks_in head) 0 head.era (sets_of_runs (blocks_in head) sets)
  pub few : length sets ≤ 16
  pub upto : AreUpTo (entry_limit (sets_of_runs (blocks_in head) sets) head.era) array

-- the limit of the entries: the era of the oldest of some sets and of one behind them
abbrev pub limit_before : List MarkedSet → ℕ → ℕ
limit_before [] era = era
limit_before (set ∷ sets) era = set.era

-- the eras of the array, of archived sets, and of the one that is being read
pub record AreErasSoFar (head : Head) (array : List (ℕ × ℕ × ℕ)) (sets : List MarkedSet) (era : ℕ) : Type 0 where
  pub between : AreArchivedBetween (blocks_in head) 0 era (sets_of_runs (blocks_in head) sets)
  pub begun : 0 < era
  pub past : era < head.era
  pub few : length sets + 1 ≤ 16
  pub upto : AreUpTo (limit_before sets era) array

-- what is promised of what was read, by the section of the next line
abbrev pub IsRead : Section → Head → Reading → Type 0
IsRead Heading head reading = (reading.array ≡ []) × (reading.archive ≡ [])
IsRead Array head reading = AreUpTo (head.era - 1) reading.array × (reading.archive ≡ [])
IsRead Set head reading = AreErasSoFar head reading.array reading.archive reading.set_era
IsRead Current head reading = AreEras head reading.array reading.archive
IsRead Done head reading = AreEras head reading.array reading.archive

-- an era of the past
past-parts : (head : Head) (era : ℕ) → not (is_past_era head era) ≡ false → (0 < era) × (era < head.era)
past-parts head era is =
    let both = and_parts (nat_lt 0 era) (nat_lt era head.era) (not-false (is_past_era head era) is) in
    (ltb-true 0 era both.0, ltb-true era head.era both.1)
  where
    not-false : (b : Bool) → not b ≡ false → b ≡ true
    not-false true e = refl
    not-false false e = cc

pub or-parts : (a b : Bool) → (a || b) ≡ false → (a ≡ false) × (b ≡ false)
or-parts true b is = cc
or-parts false b is = (refl, is)

-- one entry more up to the limit
upto-push : (limit : ℕ) (runs : List (ℕ × ℕ × ℕ)) (run : ℕ × ℕ × ℕ) → AreUpTo limit runs → run.2 ≤ limit → AreUpTo limit (runs ++ run ∷ [])
upto-push limit [] run upto le = (le, tt)
upto-push limit (first ∷ runs) run upto le = (upto.0, upto-push limit runs run upto.1 le)

upto-greatest : (limit : ℕ) (runs : List (ℕ × ℕ × ℕ)) → greatest_era runs ≤ limit → AreUpTo limit runs
upto-greatest limit [] le = tt
upto-greatest limit (run ∷ runs) le = (omega arith, upto-greatest limit runs (omega arith))

-- as many flags as blocks
pub length-flags : (first count : ℕ) (runs : List (ℕ × ℕ)) → length (flags_of_runs first count runs) ≡ count
length-flags first zero runs = refl
length-flags first (suc count) runs = ap suc (length-flags (first + 1) count runs)

-- the set that was read is archived behind the others
between-end : (blocks above era later : ℕ) (sets : List MarkedSet) (runs : List (ℕ × ℕ)) → AreArchivedBetween blocks above era (sets_of_runs blocks sets)
    → above < era → era < later
    → let set : MarkedSet = record { era = era; blocks = runs } in AreArchivedBetween blocks above later (sets_of_runs blocks (sets ++ set ∷ []))
between-end blocks above era later [] runs between lt lt' = (lt, lt', length-flags 0 blocks runs, tt)
between-end blocks above era later (first ∷ sets) runs between lt lt' =
    let below : first.era < era = between.1 in
    (between.0, omega arith, between.2, between-end blocks first.era era later sets runs between.3 below lt')

-- it doesn't change the limit
limit-end : (sets : List MarkedSet) (set : MarkedSet) (era : ℕ) → limit_before (sets ++ set ∷ []) era ≡ limit_before sets set.era
limit-end [] set era = refl
limit-end (first ∷ sets) set era = refl

entry_limit-end : (blocks : ℕ) (sets : List MarkedSet) (set : MarkedSet) (era : ℕ) → entry_limit (sets_of_runs blocks (sets ++ set ∷ [])) era ≡ limit_before sets set.era
entry_limit-end blocks [] set era = refl
entry_limit-end blocks (first ∷ sets) set era = refl

-- the property of what is told
abbrev pub ReadNext : Head → Reading → Type 0
ReadNext head next = IsRead next.section head next

pub told-same : {A : Type 0} (a b : A) → Tells a ≡ Tells b → a ≡ b
told-same a b is = cc

-- a run of the array
array-run-read : (head : Head) (reading next : Reading) (first last era : ℕ) → reading.section ≡ Array → IsRead Array head reading
    → array_run_step head reading first last era ≡ Tells next → ReadNext head next
array-run-read head reading next first last era here read told =
    let one = unless-tells (nat_le (blocks_in head) last) PastEnd _ next told in
    let two = unless-tells (nat_lt last first || not (is_behind (last_of reading.array) first era)) Order _ next one.told in
    let three = unless-tells (not (is_past_era head era)) BadEra _ next two.told in
    let past = past-parts head era three.clear in
    let run : ℕ × ℕ × ℕ = (first, last, era) in
    let new : Reading = record reading { array = reading.array ++ run ∷ [] } in
    let small : run.2 ≤ head.era - 1 = let p = past.1 in omega arith in
    let all : IsRead Array head new = (upto-push (head.era - 1) reading.array run read.0 small, read.1) in
    subst (ReadNext head) (told-same new next three.told) (subst (λ section. IsRead section head new) (sym here) all)

-- a run of a set
run-read : (head : Head) (reading next : Reading) (first last : ℕ) → run_step head reading first last ≡ Tells next
    → ((blocks : List (ℕ × ℕ)) → ReadNext head (record reading { blocks = blocks })) → ReadNext head next
run-read head reading next first last told read =
    let one = unless-tells (nat_le (blocks_in head) last) PastEnd _ next told in
    let two = unless-tells (nat_lt last first || not (is_apart (last_of reading.blocks) first)) Order _ next one.told in
    subst (ReadNext head) (told-same (record reading { blocks = reading.blocks ++ (first, last) ∷ [] }) next two.told) (read (reading.blocks ++ (first, last) ∷ []))

pub run-words-read : (head : Head) (reading next : Reading) (words : List (List ℕ)) → run_words_step head reading words ≡ Tells next
    → ((blocks : List (ℕ × ℕ)) → ReadNext head (record reading { blocks = blocks })) → ReadNext head next
run-words-read head reading next [] told read = cc
run-words-read head reading next (a ∷ []) told read = cc
run-words-read head reading next (a ∷ b ∷ []) told read =
    let first = number-tells (number_of (2 ^ 32) a) (λ first. with_number (number_of (2 ^ 32) b) (λ last. run_step head reading first last)) next told in
    let last = number-tells (number_of (2 ^ 32) b) (λ last. run_step head reading first.number last) next first.told in
    run-read head reading next first.number last.number last.told read
run-words-read head reading next (a ∷ b ∷ c ∷ words) told read = cc

-- the first archived set
first-set-read : (head : Head) (reading next : Reading) (era : ℕ) → IsRead Array head reading → first_set_step head reading era ≡ Tells next → ReadNext head next
first-set-read head reading next era read told =
    let one = unless-tells (not (is_past_era head era) || nat_lt era (greatest_era reading.array)) BadEra _ next told in
    let faults = or-parts (not (is_past_era head era)) (nat_lt era (greatest_era reading.array)) one.clear in
    let past = past-parts head era faults.0 in
    let least = ltb-false era (greatest_era reading.array) faults.1 in
    subst (ReadNext head) (told-same (with_set_begun era reading) next one.told)
    (subst (λ sets. AreErasSoFar head reading.array sets era) (sym read.1)
    (record { between = tt; begun = past.0; past = past.1; few = omega arith; upto = upto-greatest era reading.array least }))

-- a further archived set
pub next-set-read : (head : Head) (reading next : Reading) (era : ℕ) → IsRead Set head reading → next_set_step head reading era ≡ Tells next → ReadNext head next
next-set-read head reading next era read told =
    let one = unless-tells (nat_le era reading.set_era) Order _ next told in
    let two = unless-tells (not (is_past_era head era)) BadEra _ next one.told in
    let three = unless-tells (nat_le MOST_SETS (length reading.archive + 1)) TooManySets _ next two.told in
    let above = leb-false era reading.set_era one.clear in
    let past = past-parts head era two.clear in
    let room = leb-false 16 (length reading.archive + 1) three.clear in
    let set : MarkedSet = record { era = reading.set_era; blocks = reading.blocks } in
    subst (ReadNext head) (told-same (with_set_begun era (with_set_ended reading)) next three.told)
    (record {
      between = between-end (blocks_in head) 0 reading.set_era era reading.archive reading.blocks read.between read.begun above;
      begun = past.0;
      past = past.1;
      few = simp length-append (omega arith);
      upto = subst (λ limit. AreUpTo limit reading.array) (sym (limit-end reading.archive set era)) read.upto;
    })

-- the current set behind an archived one
pub ended-read : (head : Head) (reading : Reading) → IsRead Set head reading → AreEras head reading.array (with_set_ended reading).archive
ended-read head reading read =
    let set : MarkedSet = record { era = reading.set_era; blocks = reading.blocks } in record {
      between = between-end (blocks_in head) 0 reading.set_era head.era reading.archive reading.blocks read.between read.begun read.past;
      few = let few = read.few in simp length-append (omega arith);
      upto = subst (λ limit. AreUpTo limit reading.array) (sym (entry_limit-end (blocks_in head) reading.archive set head.era)) read.upto;
    }

-- the words of a line of the array
pub array-words-read : (head : Head) (reading next : Reading) (words : List (List ℕ)) → reading.section ≡ Array → IsRead Array head reading
    → array_words_step head reading words ≡ Tells next → ReadNext head next
array-words-read head reading next [] here read told = cc
array-words-read head reading next (a ∷ []) here read told = cc
array-words-read head reading next (a ∷ b ∷ []) here read told =
    let one = unless-tells (not (bytes_eq a (codes "set"))) Unknown _ next told in
    let era = number-tells (number_of (2 ^ 32) b) (λ era. first_set_step head reading era) next one.told in
    first-set-read head reading next era.number read era.told
array-words-read head reading next (a ∷ b ∷ c ∷ []) here read told =
    let first = number-tells (number_of (2 ^ 32) a) (λ first. with_number (number_of (2 ^ 32) b) (λ last.
    with_number (number_of (2 ^ 32) c) (λ era. array_run_step head reading first last era))) next told in
    let last = number-tells (number_of (2 ^ 32) b) (λ last. with_number (number_of (2 ^ 32) c) (λ era. array_run_step head reading first.number last era)) next first.told in
    let era = number-tells (number_of (2 ^ 32) c) (λ era. array_run_step head reading first.number last.number era) next last.told in
    array-run-read head reading next first.number last.number era.number here read era.told
array-words-read head reading next (a ∷ b ∷ c ∷ d ∷ words) here read told = cc
