-- What holds through all moments between entries: more calls, one more entry, the present state, and the window of a place. A clause can't speak of all properties of states, so these are lemmas.
use Rattle.std.proofs.Common.{◌≡◌, ℕ, ◌≤◌, Bool, true, false, nat_lt, List, [], ◌∷◌, if◌then◌else◌, arith, sym, subst, inl, inr}
use Rattle.std.proofs.lemmas.Bool.{cases_lt, lt-ltb, le-ltb}
use Rattle.era_base.specs.CrashModel.{State, History, Continues, AllBetween, clock, state_at}
use Rattle.era_base.proofs.CrashImages.{state-now}
use Rattle.era_base.proofs.Moments.{all_between-later, all_between-joined}
use Rattle.era_notes.specs.Notes.{Note, PlacesBelow}
use Rattle.era_notes.specs.Windows.{HoldsThrough, notes_below, moment_of, window_start, window_end, AreOrdered, NotedDevice, IsInWindow}

-- no past moment changes
through-later : (Holds : List Note → State → Type 0) (old new : History) (begun last : ℕ) (notes : List Note) → Continues old new → last ≤ clock old
    → HoldsThrough Holds old begun last notes → HoldsThrough Holds new begun last notes
through-later Holds old new begun last [] goes le through = (through.0, all_between-later (Holds []) old new begun last goes le through.1)
through-later Holds old new begun last (note ∷ earlier) goes le through =
    (through.0, all_between-later (Holds (note ∷ earlier)) old new note.moment last goes le through.1, through-later Holds old new begun note.moment earlier goes (omega (arith, through.0, le)) through.2)

-- more calls, at whose moments the notes' property holds
pub through-calls : (Holds : List Note → State → Type 0) (old new : History) (begun : ℕ) (notes : List Note) → Continues old new
    → AllBetween new (clock old) (clock new) (Holds notes) → HoldsThrough Holds old begun (clock old) notes → HoldsThrough Holds new begun (clock new) notes
through-calls Holds old new begun [] goes all through =
    let before = all_between-later (Holds []) old new begun (clock old) goes (omega arith) through.1 in
    (omega (arith, through.0, goes.later), all_between-joined (Holds []) new begun (clock old) (clock new) before all)
through-calls Holds old new begun (note ∷ earlier) goes all through =
    let before = all_between-later (Holds (note ∷ earlier)) old new note.moment (clock old) goes (omega arith) through.1 in
    (omega (arith, through.0, goes.later), all_between-joined (Holds (note ∷ earlier)) new note.moment (clock old) (clock new) before all, through-later Holds old new begun note.moment earlier goes through.0 through.2)

-- one more entry, drawn now
pub through-note : (Holds : List Note → State → Type 0) (history : History) (begun : ℕ) (note : Note) (notes : List Note) → note.moment ≡ clock history
    → Holds (note ∷ notes) history.now → HoldsThrough Holds history begun (clock history) notes → HoldsThrough Holds history begun (clock history) (note ∷ notes)
through-note Holds history begun note notes now holds through = (
  omega (arith, now),
  (λ moment begins ends.
      let present : clock history ≡ moment = omega (arith, now, begins, ends) in
      subst (λ m. Holds (note ∷ notes) (state_at history m)) present (subst (Holds (note ∷ notes)) (sym (state-now history)) holds)),
  subst (λ last. HoldsThrough Holds history begun last notes) (sym now) through,
)

-- the present state
pub through-now : (Holds : List Note → State → Type 0) (history : History) (begun : ℕ) (notes : List Note)
    → HoldsThrough Holds history begun (clock history) notes → Holds notes history.now
through-now Holds history begun [] through = subst (Holds []) (state-now history) (through.1 (clock history) through.0 (omega arith))
through-now Holds history begun (note ∷ earlier) through = subst (Holds (note ∷ earlier)) (state-now history) (through.1 (clock history) through.0 (omega arith))

-- the window of a place
pub in-window : (Holds : List Note → State → Type 0) (history : History) (begun last : ℕ) (notes : List Note) (place moment : ℕ)
    → HoldsThrough Holds history begun last notes → window_start begun place notes ≤ moment → moment ≤ window_end last place notes
    → Holds (notes_below place notes) (state_at history moment)
in-window Holds history begun last [] place moment through = λ begins ends. through.1 moment begins ends
in-window Holds history begun last (note ∷ earlier) place moment through =
    elim (nat_lt note.entry.place place) as (λ (b : Bool). moment_of begun (if b then note ∷ earlier else notes_below place earlier) ≤ moment
    → moment ≤ (if b then last else window_end note.moment place earlier)
    → Holds (if b then note ∷ earlier else notes_below place earlier) (state_at history moment)) [
      | true ↦ λ begins ends. through.1 moment begins ends
      | false ↦ in-window Holds history begun note.moment earlier place moment through.2
    ]

-- moments are in order where something holds through them, and places where they descend
pub through-ordered : (Holds : List Note → State → Type 0) (history : History) (begun last bound : ℕ) (notes : List Note)
    → HoldsThrough Holds history begun last notes → PlacesBelow bound notes → AreOrdered begun last bound notes
through-ordered Holds history begun last bound [] through below = through.0
through-ordered Holds history begun last bound (note ∷ earlier) through below =
    (through.0, omega (arith, below.0), through-ordered Holds history begun note.moment note.entry.place earlier through.2 below.1)

-- no window is empty
pub window-some : (begun last bound place : ℕ) (notes : List Note) → AreOrdered begun last bound notes → window_start begun place notes ≤ window_end last place notes
window-some begun last bound place [] ordered = ordered
window-some begun last bound place (note ∷ earlier) ordered =
    elim (nat_lt note.entry.place place) as (λ (b : Bool). moment_of begun (if b then note ∷ earlier else notes_below place earlier) ≤ (if b then last else window_end note.moment place earlier)) [
      | true ↦ ordered.0
      | false ↦ window-some begun note.moment note.entry.place place earlier ordered.2
    ]

-- each moment is in the window of some place
pub window-all : (begun last bound moment : ℕ) (notes : List Note) → AreOrdered begun last bound notes → begun ≤ moment → moment ≤ last
    → (place : ℕ) × (place ≤ bound) × (window_start begun place notes ≤ moment) × (moment ≤ window_end last place notes)
window-all begun last bound moment [] ordered begins ends = (0, omega arith, begins, ends)
window-all begun last bound moment (note ∷ earlier) ordered begins ends = elim (cases_lt moment note.moment) [
  | inl early ↦
      let rest = window-all begun note.moment note.entry.place moment earlier ordered.2 begins (omega (arith, early)) in
      let out = le-ltb note.entry.place rest.0 rest.1 in
      (rest.0, omega (arith, rest.1, ordered.1), rw out rest.2, rw out rest.3)
  | inr late ↦
      let inside = lt-ltb note.entry.place bound (omega (arith, ordered.1)) in
      (bound, omega arith, rw inside late, rw inside ends)
]

pub window-each : (device : NotedDevice) (bound moment : ℕ) → AreOrdered device.begun (clock device.history) bound device.notes
    → device.begun ≤ moment → moment ≤ clock device.history → (place : ℕ) × (place ≤ bound) × IsInWindow device place moment
window-each device bound moment ordered begins ends =
    let found = window-all device.begun (clock device.history) bound moment device.notes ordered begins ends in
    (found.0, found.1, record { begun = found.2; ended = found.3 })

-- a property that follows from another one
pub through-wider : (Holds Gives : List Note → State → Type 0) (history : History) (begun last : ℕ) (notes : List Note) → ((notes : List Note) (state : State) → Holds notes state → Gives notes state)
    → HoldsThrough Holds history begun last notes → HoldsThrough Gives history begun last notes
through-wider Holds Gives history begun last [] more through = (through.0, λ moment begins ends. more [] (state_at history moment) (through.1 moment begins ends))
through-wider Holds Gives history begun last (note ∷ earlier) more through =
    (through.0, λ moment begins ends. more (note ∷ earlier) (state_at history moment) (through.1 moment begins ends), through-wider Holds Gives history begun note.moment earlier more through.2)
