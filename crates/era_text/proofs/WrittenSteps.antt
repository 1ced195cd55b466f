-- What a line that was written makes of what was read before it.
use Rattle.std.proofs.Common.{◌≡◌, ◌≢◌, ℕ, ◌+◌, ◌<◌, ◌≤◌, ◌^◌, ◌==◌, ◌&&◌, List, [], ◌∷◌, ◌++◌, length, All, refl, ap, sym, ◌∙◌, subst, length-append, arith}
use Rattle.std.specs.Prelude.{Some, true, false, not, codes, decimal, bytes_eq, nat_lt}
use Rattle.std.proofs.lemmas.Bool.{lt-ltb, le-ltb, lt-leb, ne_eqb, eqb-true}
use Rattle.std.proofs.lemmas.List.Elements.{All-nil, All-cons, All-head, All-push}
use Rattle.std.proofs.lemmas.Fmt.{decimal_by_steps}
use Rattle.std.proofs.lemmas.Slice.Eq.{bytes_eq-Decides}
use Rattle.era_base.specs.Runs.{AreRuns}
use Rattle.era_model.specs.EraRuns.{AreEraRuns, StandsBehind}
use Rattle.era_text.specs.DumpLines.{era_run_line, head_line, run_line, set_line}
use Rattle.era_text.specs.FirstLine.{Head, Tells, blocks_in, first_step, is_apart, is_behind, is_geometry, last_of}
use Rattle.era_text.specs.Grammar.{first_set_step, line_step, next_set_step, run_words_step}
use Rattle.era_line.specs.Lines.{HasNo}
use Rattle.era_line.specs.Words.{words_of}
use Rattle.era_line.proofs.WordSteps.{words_of-cut, words_of-whole}
use Rattle.era_text.specs.declared.reading.Reading.{Reading}
use Rattle.era_text.specs.declared.section.Section.{Section}
use Rattle.era_text.specs.declared.section.Section.TheVariants.{Array, Set, Current}
use Rattle.era_text.proofs.WordsOfLines.{HasNo-decimal, length-double, length-word, none-written, number-decimal, words-three, words-two}

-- different bytes don't pass the test
pub bytes_eq-other : (a b : List ℕ) → a ≢ b → bytes_eq a b ≡ false
bytes_eq-other a b other = elim (bytes_eq a b) as (λ same. bytes_eq a b ≡ same → bytes_eq a b ≡ false) [
  | true ↦ λ same. absurd (other ((bytes_eq-Decides a b).0 same))
  | false ↦ λ same. same
] refl

-- digits are below the letters
digits-below : (n : ℕ) → n < 2 ^ 64 → All (λ byte. byte < 58) (decimal n)
digits-below n fits =
    let Below : ℕ → Type 0 = λ byte. byte < 58 in
    decimal_by_steps
    (λ _ word. All Below word)
    (λ (m : ℕ) small. All-cons Below (48 + m) [] (omega arith) (All-nil Below))
    (λ (m : ℕ) (word : List ℕ) large p. All-push Below word _ p (omega arith))
    n fits

-- a number isn't a word that begins with a letter
pub decimal-no_word : (n byte : ℕ) (word : List ℕ) → n < 2 ^ 64 → 58 ≤ byte → bytes_eq (decimal n) (byte ∷ word) ≡ false
decimal-no_word n byte word fits letter =
    let Below : ℕ → Type 0 = λ digit. digit < 58 in
    bytes_eq-other (decimal n) (byte ∷ word) (λ same.
    let first : byte < 58 = All-head Below byte word (subst (λ bytes. All Below bytes) same (digits-below n fits)) in absurd (omega arith))

-- a line of several words isn't a line of one
pub line-no_word : (line word first second : List ℕ) (words : List (List ℕ)) → HasNo 32 word → words_of line ≡ first ∷ second ∷ words
    → bytes_eq line word ≡ false
line-no_word line word first second words none several = bytes_eq-other line word (λ same.
    let one : first ∷ second ∷ words ≡ word ∷ [] = sym several ∙ ap words_of same ∙ words_of-whole word none in cc)

-- the runs before one that belongs to maximal runs end with one that it doesn't touch
pub apart-last : (done : List (ℕ × ℕ)) (run : ℕ × ℕ) (runs : List (ℕ × ℕ)) → AreRuns (done ++ run ∷ runs) → is_apart (last_of done) run.0 ≡ true
apart-last [] run runs are = refl
apart-last (before ∷ []) run runs are = lt-ltb (before.1 + 1) run.0 are.1
apart-last (before ∷ next ∷ done) run runs are = apart-last (next ∷ done) run runs are.2

-- a run that stands behind another one passes the test
pub behind-stands : (before run : ℕ × ℕ × ℕ) → StandsBehind before run → is_behind (Some before) run.0 run.2 ≡ true
behind-stands before run stands =
    let later = lt-ltb before.1 run.0 stands.later in
    elim (before.1 + 1 == run.0) as (λ touches. (before.1 + 1 == run.0) ≡ touches
    → (nat_lt before.1 run.0 && not (touches && before.2 == run.2)) ≡ true) [
      | true ↦ λ touches. let other = ne_eqb before.2 run.2 (stands.maximal (eqb-true (before.1 + 1) run.0 touches)) in rw (later, other) refl
      | false ↦ λ touches. rw later refl
    ] refl

pub behind-last : (done : List (ℕ × ℕ × ℕ)) (run : ℕ × ℕ × ℕ) (runs : List (ℕ × ℕ × ℕ)) → AreEraRuns (done ++ run ∷ runs)
    → is_behind (last_of done) run.0 run.2 ≡ true
behind-last [] run runs are = refl
behind-last (before ∷ []) run runs are = behind-stands before run are.2
behind-last (before ∷ next ∷ done) run runs are = behind-last (next ∷ done) run runs are.3

-- a short line isn't too long
short-two : (a b : ℕ) → a < 2 ^ 32 → b < 2 ^ 32 → nat_lt 128 (length (decimal a ++ 32 ∷ decimal b)) ≡ false
short-two a b fits fits' =
    le-ltb 128 (length (decimal a ++ 32 ∷ decimal b)) (simp length-append (omega (arith, length-word a fits, length-word b fits')))

short-three : (a b c : ℕ) → a < 2 ^ 32 → b < 2 ^ 32 → c < 2 ^ 32
    → nat_lt 128 (length (decimal a ++ 32 ∷ (decimal b ++ 32 ∷ decimal c))) ≡ false
short-three a b c fits fits' fits'' =
    le-ltb 128 (length (decimal a ++ 32 ∷ (decimal b ++ 32 ∷ decimal c)))
    (simp length-append (omega (arith, length-word a fits, length-word b fits', length-word c fits'')))

-- a run of a set is read
pub run-told : (head : Head) (reading : Reading) (run : ℕ × ℕ) → blocks_in head ≤ 65536 → run.0 ≤ run.1 → run.1 < blocks_in head
    → is_apart (last_of reading.blocks) run.0 ≡ true
    → run_words_step head reading (words_of (run_line run)) ≡ Tells (record reading { blocks = reading.blocks ++ run ∷ [] })
run-told head reading run few some within apart =
    rw (
      words-two run.0 run.1 (omega arith) (omega arith),
      number-decimal (2 ^ 32) run.0 (omega arith) (omega arith),
      number-decimal (2 ^ 32) run.1 (omega arith) (omega arith),
      lt-leb (blocks_in head) run.1 within,
      le-ltb run.1 run.0 some,
      apart,
    ) refl

-- a line of a run is no word
run-no_word : (run : ℕ × ℕ) (word : List ℕ) → run.0 < 2 ^ 32 → run.1 < 2 ^ 32 → HasNo 32 word → bytes_eq (run_line run) word ≡ false
run-no_word run word fits fits' none =
    line-no_word (run_line run) word (decimal run.0) (decimal run.1) [] none (words-two run.0 run.1 (omega arith) (omega arith))

-- the letters of the words have no space
none-current : HasNo 32 (codes "current")
none-current = none-written 32 (codes "current") refl

none-end : HasNo 32 (codes "end")
none-end = none-written 32 (codes "end") refl

-- what was read, with the next line in this section
abbrev pub at_section : Section → Reading → Reading
at_section section reading = record reading { section = section }

-- a run of an archived set, and one of the current set
pub set-run-told : (head : Head) (reading : Reading) (run : ℕ × ℕ) → blocks_in head ≤ 65536 → run.0 ≤ run.1 → run.1 < blocks_in head
    → is_apart (last_of reading.blocks) run.0 ≡ true
    → line_step head (at_section Set reading) (run_line run) ≡ Tells (at_section Set (record reading { blocks = reading.blocks ++ run ∷ [] }))
set-run-told head reading run few some within apart =
    let words = words-two run.0 run.1 (omega arith) (omega arith) in
    rw (
      short-two run.0 run.1 (omega arith) (omega arith),
      run-no_word run (codes "current") (omega arith) (omega arith) none-current,
      words,
      decimal-no_word run.0 115 (101 ∷ 116 ∷ []) (omega arith) (omega arith),
    )
    (rw words at (run-told head (at_section Set reading) run few some within apart))

pub current-run-told : (head : Head) (reading : Reading) (run : ℕ × ℕ) → blocks_in head ≤ 65536 → run.0 ≤ run.1 → run.1 < blocks_in head
    → is_apart (last_of reading.blocks) run.0 ≡ true
    → line_step head (at_section Current reading) (run_line run) ≡ Tells (at_section Current (record reading { blocks = reading.blocks ++ run ∷ [] }))
current-run-told head reading run few some within apart =
    rw (short-two run.0 run.1 (omega arith) (omega arith), run-no_word run (codes "end") (omega arith) (omega arith) none-end)
    (run-told head (at_section Current reading) run few some within apart)

-- a run of the array is read
pub array-run-told : (head : Head) (reading : Reading) (run : ℕ × ℕ × ℕ) → reading.section ≡ Array → blocks_in head ≤ 65536 → head.era < 2 ^ 32
    → run.0 ≤ run.1 → run.1 < blocks_in head → 0 < run.2 → run.2 < head.era → is_behind (last_of reading.array) run.0 run.2 ≡ true
    → line_step head reading (era_run_line run) ≡ Tells (record reading { array = reading.array ++ run ∷ [] })
array-run-told head reading run here few fits some within begun past behind =
    let words = words-three run.0 run.1 run.2 (omega arith) (omega arith) (omega arith) in
    rw (
      here,
      short-three run.0 run.1 run.2 (omega arith) (omega arith) (omega arith),
      line-no_word (era_run_line run) (codes "current") (decimal run.0) (decimal run.1) (decimal run.2 ∷ []) none-current words,
      words,
      number-decimal (2 ^ 32) run.0 (omega arith) (omega arith),
      number-decimal (2 ^ 32) run.1 (omega arith) (omega arith),
      number-decimal (2 ^ 32) run.2 (omega arith) (omega arith),
      lt-leb (blocks_in head) run.1 within,
      le-ltb run.1 run.0 some,
      behind,
      lt-ltb 0 run.2 begun,
      lt-ltb run.2 head.era past,
    ) refl

-- the words of a set's line
none-set : HasNo 32 (codes "set")
none-set = none-written 32 (codes "set") refl

words-set : (era : ℕ) → era < 2 ^ 64 → words_of (set_line era) ≡ codes "set" ∷ decimal era ∷ []
words-set era fits = words_of-cut (codes "set") (decimal era) none-set
    ∙ ap (λ words. codes "set" ∷ words) (words_of-whole (decimal era) (HasNo-decimal 32 era (omega arith) fits))

short-set : (era : ℕ) → era < 2 ^ 32 → nat_lt 128 (length (set_line era)) ≡ false
short-set era fits = le-ltb 128 (length (set_line era)) (simp length-append (omega (arith, length-word era fits)))

-- the line of the first archived set, and of a further one
pub first-set-told : (head : Head) (reading : Reading) (era : ℕ) → reading.section ≡ Array → era < 2 ^ 32
    → line_step head reading (set_line era) ≡ first_set_step head reading era
first-set-told head reading era here fits =
    let words = words-set era (omega arith) in
    rw (
      here,
      short-set era fits,
      line-no_word (set_line era) (codes "current") (codes "set") (decimal era) [] none-current words,
      words,
      number-decimal (2 ^ 32) era (omega arith) fits,
    ) refl

pub next-set-told : (head : Head) (reading : Reading) (era : ℕ) → reading.section ≡ Set → era < 2 ^ 32
    → line_step head reading (set_line era) ≡ next_set_step head reading era
next-set-told head reading era here fits =
    let words = words-set era (omega arith) in
    rw (
      here,
      short-set era fits,
      line-no_word (set_line era) (codes "current") (codes "set") (decimal era) [] none-current words,
      words,
      number-decimal (2 ^ 32) era (omega arith) fits,
    ) refl

-- the words of the first line
none-name : HasNo 32 (codes "eradump")
none-name = none-written 32 (codes "eradump") refl

none-version : HasNo 32 (codes "1")
none-version = none-written 32 (codes "1") refl

words-head : (sectors size era : ℕ) → sectors < 2 ^ 64 → size < 2 ^ 64 → era < 2 ^ 64
    → words_of (head_line sectors size era) ≡ codes "eradump" ∷ codes "1" ∷ decimal sectors ∷ decimal size ∷ decimal era ∷ []
words-head sectors size era fits fits' fits'' =
    words_of-cut (codes "eradump") (codes "1 " ++ (decimal sectors ++ 32 ∷ (decimal size ++ 32 ∷ decimal era))) none-name
    ∙ ap (λ words. codes "eradump" ∷ words)
    (words_of-cut (codes "1") (decimal sectors ++ 32 ∷ (decimal size ++ 32 ∷ decimal era)) none-version
    ∙ ap (λ words. codes "1" ∷ words) (words-three sectors size era fits fits' fits''))

short-head : (sectors size era : ℕ) → sectors < 2 ^ 64 → size < 2 ^ 32 → era < 2 ^ 32 → nat_lt 128 (length (head_line sectors size era)) ≡ false
short-head sectors size era fits fits' fits'' =
    le-ltb 128 (length (head_line sectors size era))
    (simp length-append (omega (arith, length-double sectors fits, length-word size fits', length-word era fits'')))

-- the first line is read
pub head-told : (sectors size era : ℕ) → sectors < 2 ^ 64 → size < 2 ^ 32 → era < 2 ^ 32 → is_geometry sectors size ≡ true → 0 < era
    → first_step (head_line sectors size era) ≡ Tells (record { sectors = sectors; block_sectors = size; era = era })
head-told sectors size era fits fits' fits'' geometry begun =
    rw (
      short-head sectors size era fits fits' fits'',
      words-head sectors size era fits (omega arith) (omega arith),
      number-decimal (2 ^ 64) sectors (omega arith) fits,
      number-decimal (2 ^ 64) size (omega arith) (omega arith),
      number-decimal (2 ^ 32) era (omega arith) fits'',
      geometry,
      ne_eqb era 0 (λ none. omega arith),
    ) refl
