-- Words that the keeper's events alone change: the keeper's own draws say of them what the whole log says.
use Rattle.std.proofs.Common.{◌≡◌, ℕ, ◌==◌, ◌&&◌, ◌||◌, true, List, [], ◌∷◌, Option, Some, None, refl, ap, ◌∙◌}
use Rattle.std.specs.Prelude.{if◌then◌else◌}
use Rattle.std.proofs.lemmas.Bool.{cond_both, false≢true}
use Rattle.era_model.specs.declared.event.Event.{Event}
use Rattle.era_model.specs.declared.event.Event.TheVariants.{Tried, Mark, Roll, Kept, Snap, Dropped, Digest, List as ListEvent, Status}
use Rattle.era_model.specs.declared.history.Happening.{Happening}
use Rattle.era_model.specs.declared.history.Happening.TheVariants.{Happened}
use Rattle.era_model.specs.declared.opening.Opening.{Opening}
use Rattle.era_model.specs.Digest.{digested}
use Rattle.era_model.specs.History.{at_opening, era_of}
use Rattle.era_model.specs.Marking.{journal_last_era, marks_of, held_of, is_tried_in, is_marked_in, switch_before_refusals}
use Rattle.era_model.specs.Marks.{BlockMarks, rolled, with_block}
use Rattle.era_notes.specs.Logs.{Draw, logged_history, own_draws, drawer_history}
use Rattle.era_notes.specs.OwnDraws.{is_of_stripes, StripesDraw}

-- a word that events change alike, and that a stripe's event leaves
pub record IsKeepers {W : Type 0} (word : List Happening → W) : Type 0 where
  pub alike : (event : Event) (h other : List Happening) → word h ≡ word other → word (Happened event ∷ h) ≡ word (Happened event ∷ other)
  pub left : (event : Event) (h : List Happening) → is_of_stripes event ≡ true → word (Happened event ∷ h) ≡ word h

pub projects : {W : Type 0} (word : List Happening → W) (opening : Opening) (keeper : ℕ) (log : List Draw) → IsKeepers word → StripesDraw keeper log
    → word (logged_history opening log) ≡ word (drawer_history opening keeper log)
projects word opening keeper [] keepers draws = refl
projects word opening keeper (draw ∷ earlier) keepers draws =
    let before = projects word opening keeper earlier keepers draws.1 in
    cond_both (draw.drawer == keeper) (draw ∷ own_draws keeper earlier) (own_draws keeper earlier) (λ ds. word (Happened draw.event ∷ logged_history opening earlier) ≡ word (logged_history opening ds))
    (λ mine. keepers.alike draw.event (logged_history opening earlier) (drawer_history opening keeper earlier) before)
    (λ other. keepers.left draw.event (logged_history opening earlier) (draws.0 other) ∙ before)

-- what the opening says
pub keepers-opening : {T : Type 0} (none : T) (of : Opening → T) → IsKeepers (λ h. at_opening none of h)
keepers-opening none of = record { alike = λ event h other same. same; left = λ event h is. refl }

-- the era
era-alike : (event : Event) (h other : List Happening) → era_of h ≡ era_of other → era_of (Happened event ∷ h) ≡ era_of (Happened event ∷ other)
era-alike (Roll id era) h other same = refl
era-alike event h other same = same

era-left : (event : Event) (h : List Happening) → is_of_stripes event ≡ true → era_of (Happened event ∷ h) ≡ era_of h
era-left (Roll id era) h is = absurd (false≢true is)
era-left event h is = refl

pub keepers-era : IsKeepers era_of
keepers-era = record { alike = era-alike; left = era-left }

-- the last era of a block
last-alike : (block : ℕ) (event : Event) (h other : List Happening) → journal_last_era h block ≡ journal_last_era other block → journal_last_era (Happened event ∷ h) block ≡ journal_last_era (Happened event ∷ other) block
last-alike block (Mark id marked era) h other same = ap (λ (last : ℕ). if marked == block then era else last) same
last-alike block event h other same = same

last-left : (block : ℕ) (event : Event) (h : List Happening) → is_of_stripes event ≡ true → journal_last_era (Happened event ∷ h) block ≡ journal_last_era h block
last-left block (Mark id marked era) h is = absurd (false≢true is)
last-left block event h is = refl

pub keepers-last : (block : ℕ) → IsKeepers (λ h. journal_last_era h block)
keepers-last block = record { alike = last-alike block; left = last-left block }

-- requests and marks
tried-alike : (block era : ℕ) (event : Event) (h other : List Happening) → is_tried_in h block era ≡ is_tried_in other block era → is_tried_in (Happened event ∷ h) block era ≡ is_tried_in (Happened event ∷ other) block era
tried-alike block era (Tried id tried asked) h other same = ap (λ b. (tried == block && asked == era) || b) same
tried-alike block era event h other same = same

tried-left : (block era : ℕ) (event : Event) (h : List Happening) → is_of_stripes event ≡ true → is_tried_in (Happened event ∷ h) block era ≡ is_tried_in h block era
tried-left block era (Tried id tried asked) h is = absurd (false≢true is)
tried-left block era event h is = refl

pub keepers-tried : (block era : ℕ) → IsKeepers (λ h. is_tried_in h block era)
keepers-tried block era = record { alike = tried-alike block era; left = tried-left block era }

marked-alike : (block era : ℕ) (event : Event) (h other : List Happening) → is_marked_in h block era ≡ is_marked_in other block era → is_marked_in (Happened event ∷ h) block era ≡ is_marked_in (Happened event ∷ other) block era
marked-alike block era (Mark id marked stored) h other same = ap (λ b. (marked == block && stored == era) || b) same
marked-alike block era event h other same = same

marked-left : (block era : ℕ) (event : Event) (h : List Happening) → is_of_stripes event ≡ true → is_marked_in (Happened event ∷ h) block era ≡ is_marked_in h block era
marked-left block era (Mark id marked stored) h is = absurd (false≢true is)
marked-left block era event h is = refl

pub keepers-marked : (block era : ℕ) → IsKeepers (λ h. is_marked_in h block era)
keepers-marked block era = record { alike = marked-alike block era; left = marked-left block era }

-- the last switch, where only refusals came behind it
switch-alike : (event : Event) (h other : List Happening) → switch_before_refusals h ≡ switch_before_refusals other → switch_before_refusals (Happened event ∷ h) ≡ switch_before_refusals (Happened event ∷ other)
switch-alike (Roll id era) h other same = refl
switch-alike (Tried id block era) h other same = refl
switch-alike (Mark id block era) h other same = refl
switch-alike (Kept id inside) h other same = refl
switch-alike (Snap id block) h other same = refl
switch-alike (Dropped id) h other same = refl
switch-alike (Digest id era page) h other same = refl
switch-alike (ListEvent id since snap blocks) h other same = refl
switch-alike (Status id used total era held) h other same = refl
switch-alike event h other same = same

switch-left : (event : Event) (h : List Happening) → is_of_stripes event ≡ true → switch_before_refusals (Happened event ∷ h) ≡ switch_before_refusals h
switch-left (Roll id era) h is = absurd (false≢true is)
switch-left (Tried id block era) h is = absurd (false≢true is)
switch-left (Mark id block era) h is = absurd (false≢true is)
switch-left (Kept id inside) h is = absurd (false≢true is)
switch-left (Snap id block) h is = absurd (false≢true is)
switch-left (Dropped id) h is = absurd (false≢true is)
switch-left (Digest id era page) h is = absurd (false≢true is)
switch-left (ListEvent id since snap blocks) h is = absurd (false≢true is)
switch-left (Status id used total era held) h is = absurd (false≢true is)
switch-left event h is = refl

pub keepers-switch : IsKeepers switch_before_refusals
keepers-switch = record { alike = switch-alike; left = switch-left }

-- the marks and the snapshot, as one word
abbrev pub marks_and_held : List Happening → BlockMarks × Option BlockMarks
marks_and_held h = (marks_of h, held_of h)

held-alike : (event : Event) (h other : List Happening) → marks_and_held h ≡ marks_and_held other → marks_and_held (Happened event ∷ h) ≡ marks_and_held (Happened event ∷ other)
held-alike (Mark id block era) h other same = ap (λ (word : BlockMarks × Option BlockMarks). (with_block word.0 block, word.1)) same
held-alike (Roll id era) h other same = ap (λ (word : BlockMarks × Option BlockMarks). (rolled word.0, word.1)) same
held-alike (Digest id era page) h other same = ap (λ (word : BlockMarks × Option BlockMarks). (digested word.0 page, word.1)) same
held-alike (Snap id block) h other same = ap (λ (word : BlockMarks × Option BlockMarks). (word.0, Some word.0)) same
held-alike (Dropped id) h other same = ap (λ (word : BlockMarks × Option BlockMarks). (word.0, None)) same
held-alike event h other same = same

held-left : (event : Event) (h : List Happening) → is_of_stripes event ≡ true → marks_and_held (Happened event ∷ h) ≡ marks_and_held h
held-left (Mark id block era) h is = absurd (false≢true is)
held-left (Roll id era) h is = absurd (false≢true is)
held-left (Digest id era page) h is = absurd (false≢true is)
held-left (Snap id block) h is = absurd (false≢true is)
held-left (Dropped id) h is = absurd (false≢true is)
held-left event h is = refl

pub keepers-held : IsKeepers marks_and_held
keepers-held = record { alike = held-alike; left = held-left }
