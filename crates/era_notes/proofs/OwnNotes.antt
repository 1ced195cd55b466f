-- Notes of a drawer and the log of a session: the same entries, the same history, at each place.
use Rattle.std.proofs.Common.{◌≡◌, ℕ, ◌<◌, ◌≤◌, ◌==◌, Bool, true, false, List, [], ◌∷◌, length, nat_lt, arith, refl, sym, ap, ◌∙◌, subst}
use Rattle.std.proofs.lemmas.Bool.{cond_both, lt-ltb, ltb-true}
use Rattle.era_base.specs.CrashModel.{clock, state_at}
use Rattle.era_model.specs.declared.entry.Entry.{Entry}
use Rattle.era_model.specs.declared.history.Happening.TheVariants.{Happened}
use Rattle.era_model.specs.declared.opening.Opening.{Opening}
use Rattle.era_model.specs.Changed.{IsCrashContent}
use Rattle.era_notes.specs.Logs.{Draw, logged_history, own_entries, drawer_history, log_below, noted_entries}
use Rattle.era_notes.specs.Notes.{Note, own_history}
use Rattle.era_notes.specs.OwnDraws.{AreOwnDraws}
use Rattle.era_notes.specs.Parts.{Part, IsIn, HoldsContent, bytes_in}
use Rattle.era_notes.specs.Windows.{HoldsThrough, NotedDevice, IsLeftAt, notes_below}
use Rattle.era_notes.proofs.Held.{holds-leaves}
use Rattle.era_notes.proofs.OwnFlights.{crash-whole}
use Rattle.era_notes.proofs.Windows.{in-window}

-- the first entry of a list, and the others
abbrev first_entry : Entry → List Entry → Entry
first_entry entry [] = entry
first_entry entry (first ∷ entries) = first

abbrev other_entries : List Entry → List Entry
other_entries [] = []
other_entries (first ∷ entries) = entries

abbrev entry_of : Draw → List Draw → Entry
entry_of draw earlier = record { place = length earlier; event = draw.event }

some-none : (entry : Entry) (entries : List Entry) → [] ≡ entry ∷ entries → ⊥
some-none entry entries never = cc

none-some : (entry : Entry) (entries : List Entry) → entry ∷ entries ≡ [] → ⊥
none-some entry entries never = cc

-- the same history
history-mine : (opening : Opening) (drawer : ℕ) (draw : Draw) (earlier : List Draw) (notes : List Note) → noted_entries notes ≡ entry_of draw earlier ∷ own_entries drawer earlier
    → ((notes : List Note) → noted_entries notes ≡ own_entries drawer earlier → own_history opening notes ≡ drawer_history opening drawer earlier)
    → own_history opening notes ≡ Happened draw.event ∷ drawer_history opening drawer earlier
history-mine opening drawer draw earlier [] are rest = absurd (some-none (entry_of draw earlier) (own_entries drawer earlier) are)
history-mine opening drawer draw earlier (note ∷ notes) are rest =
    let first : note.entry ≡ entry_of draw earlier = ap (first_entry note.entry) are in
    ap (λ (e : Entry). Happened e.event ∷ own_history opening notes) first ∙ ap (λ h. Happened draw.event ∷ h) (rest notes (ap other_entries are))

history-step : (opening : Opening) (drawer : ℕ) (draw : Draw) (earlier : List Draw) (notes : List Note) (mine : Bool) → (draw.drawer == drawer) ≡ mine
    → noted_entries notes ≡ own_entries drawer (draw ∷ earlier)
    → ((notes : List Note) → noted_entries notes ≡ own_entries drawer earlier → own_history opening notes ≡ drawer_history opening drawer earlier)
    → own_history opening notes ≡ drawer_history opening drawer (draw ∷ earlier)
history-step opening drawer draw earlier notes true is are rest = rw is (history-mine opening drawer draw earlier notes (rw is at are) rest)
history-step opening drawer draw earlier notes false is are rest = rw is (rest notes (rw is at are))

pub same-history : (opening : Opening) (drawer : ℕ) (log : List Draw) (notes : List Note) → noted_entries notes ≡ own_entries drawer log → own_history opening notes ≡ drawer_history opening drawer log
same-history opening drawer [] [] are = refl
same-history opening drawer [] (note ∷ notes) are = absurd (none-some note.entry (noted_entries notes) are)
same-history opening drawer (draw ∷ earlier) notes are =
    history-step opening drawer draw earlier notes (draw.drawer == drawer) refl are (λ ns h. same-history opening drawer earlier ns h)

-- places are below the number of draws
first-below : (drawer : ℕ) (log : List Draw) (entry : Entry) (entries : List Entry) → own_entries drawer log ≡ entry ∷ entries → entry.place < length log
first-below drawer [] entry entries are = absurd (some-none entry entries are)
first-below drawer (draw ∷ earlier) entry entries are =
    cond_both (draw.drawer == drawer) (entry_of draw earlier ∷ own_entries drawer earlier) (own_entries drawer earlier) (λ es. es ≡ entry ∷ entries → entry.place < length (draw ∷ earlier))
    (λ mine same. let place : length earlier ≡ entry.place = ap (λ es. (first_entry entry es).place) same in omega (arith, place))
    (λ other same. let below = first-below drawer earlier entry entries same in omega (arith, below))
    are

all-below : (drawer : ℕ) (log : List Draw) (notes : List Note) (place : ℕ) → length log ≤ place → noted_entries notes ≡ own_entries drawer log → noted_entries (notes_below place notes) ≡ own_entries drawer log
all-below drawer log [] place le are = are
all-below drawer log (note ∷ notes) place le are =
    let below = first-below drawer log note.entry (noted_entries notes) (sym are) in
    let inside = lt-ltb note.entry.place place (omega (arith, below, le)) in
    rw inside are

-- the same entries below a place
below-mine : (drawer : ℕ) (draw : Draw) (earlier : List Draw) (notes : List Note) (place : ℕ) → noted_entries notes ≡ entry_of draw earlier ∷ own_entries drawer earlier
    → ((notes : List Note) → noted_entries notes ≡ own_entries drawer earlier → noted_entries (notes_below place notes) ≡ own_entries drawer (log_below place earlier))
    → nat_lt (length earlier) place ≡ false → noted_entries (notes_below place notes) ≡ own_entries drawer (log_below place earlier)
below-mine drawer draw earlier [] place are rest out = absurd (some-none (entry_of draw earlier) (own_entries drawer earlier) are)
below-mine drawer draw earlier (note ∷ notes) place are rest out =
    let at : note.entry.place ≡ length earlier = ap (λ es. (first_entry note.entry es).place) are in
    let out : nat_lt note.entry.place place ≡ false = ap (λ p. nat_lt p place) at ∙ out in
    rw out (rest notes (ap other_entries are))

below-out : (drawer : ℕ) (draw : Draw) (earlier : List Draw) (notes : List Note) (place : ℕ) (mine : Bool) → (draw.drawer == drawer) ≡ mine → noted_entries notes ≡ own_entries drawer (draw ∷ earlier)
    → ((notes : List Note) → noted_entries notes ≡ own_entries drawer earlier → noted_entries (notes_below place notes) ≡ own_entries drawer (log_below place earlier))
    → nat_lt (length earlier) place ≡ false → noted_entries (notes_below place notes) ≡ own_entries drawer (log_below place earlier)
below-out drawer draw earlier notes place true is are rest out = below-mine drawer draw earlier notes place (rw is at are) rest out
below-out drawer draw earlier notes place false is are rest out = rest notes (rw is at are)

pub same-below : (drawer : ℕ) (log : List Draw) (notes : List Note) (place : ℕ) → noted_entries notes ≡ own_entries drawer log
    → noted_entries (notes_below place notes) ≡ own_entries drawer (log_below place log)
same-below drawer [] [] place are = refl
same-below drawer [] (note ∷ notes) place are = absurd (none-some note.entry (noted_entries notes) are)
same-below drawer (draw ∷ earlier) notes place are =
    cond_both (nat_lt (length earlier) place) (draw ∷ earlier) (log_below place earlier) (λ log. noted_entries (notes_below place notes) ≡ own_entries drawer log)
    (λ inside. let less = ltb-true (length earlier) place inside in all-below drawer (draw ∷ earlier) notes place (omega (arith, less)) are)
    (λ out. below-out drawer draw earlier notes place (draw.drawer == drawer) refl are (λ ns h. same-below drawer earlier ns place h) out)

-- the draws below a place are own draws as well
pub draws-below : (opening : Opening) (drawer_of : ℕ → ℕ) (log : List Draw) (place : ℕ) → AreOwnDraws opening drawer_of log → AreOwnDraws opening drawer_of (log_below place log)
draws-below opening drawer_of [] place owns = tt
draws-below opening drawer_of (draw ∷ earlier) place owns =
    cond_both (nat_lt (length earlier) place) (draw ∷ earlier) (log_below place earlier) (AreOwnDraws opening drawer_of)
    (λ inside. owns) (λ out. draws-below opening drawer_of earlier place owns.1)

-- in the window of a place each image of a part is, block by block, one that a crash may leave by the whole log
pub part-left : (opening : Opening) (drawer_of : ℕ → ℕ) (drawer : ℕ) (log : List Draw) (part : Part) (device : NotedDevice) (place : ℕ) (image : List ℕ)
    → AreOwnDraws opening drawer_of log → ((block : ℕ) → IsIn part block → drawer_of block ≡ drawer) → noted_entries device.notes ≡ own_entries drawer log
    → HoldsThrough (λ notes. HoldsContent part (own_history opening notes)) device.history device.begun (clock device.history) device.notes
    → IsLeftAt device place image → (block : ℕ) → IsIn part block → IsCrashContent (logged_history opening (log_below place log)) block (bytes_in part image block)
part-left opening drawer_of drawer log part device place image owns of are through left block is =
    let holds = in-window (λ notes. HoldsContent part (own_history opening notes)) device.history device.begun (clock device.history) device.notes place left.moment through left.inside.begun left.inside.ended in
    let own = holds-leaves part (own_history opening (notes_below place device.notes)) (state_at device.history left.moment) holds image left.left block is in
    let same = same-history opening drawer (log_below place log) (notes_below place device.notes) (same-below drawer log device.notes place are) in
    (crash-whole opening drawer_of (log_below place log) drawer block (bytes_in part image block) (draws-below opening drawer_of log place owns) (of block is)).0
    (subst (λ h. IsCrashContent h block (bytes_in part image block)) same own)
