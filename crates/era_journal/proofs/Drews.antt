-- Each draw of a log as the notes of its owner have it: with the condition that its own entries tell, and the counts of its device.
use Rattle.std.proofs.Common.{◌≡◌, ℕ, ◌<◌, ◌≤◌, ◌⊎◌, Bool, List, [], ◌∷◌, length, refl, ap, sym, subst, inl, inr, arith}
use Rattle.std.proofs.lemmas.Bool.{eq-eqb, ne_eqb}
use Rattle.std.proofs.lemmas.Bool.Decides.{eqb_tells}
use Rattle.era_journal.specs.Ranges.{IsRangeOf}
use Rattle.era_keeper.specs.OwnEntries.{AreKeepersLegal, KeeperMay}
use Rattle.era_model.specs.declared.entry.Entry.{Entry}
use Rattle.era_model.specs.declared.event.Event.{Event}
use Rattle.era_model.specs.declared.opening.Opening.{Opening}
use Rattle.era_notes.specs.Logs.{Draw, drawer_history, noted_entries, own_entries}
use Rattle.era_notes.specs.Notes.{CountsRise, Note, TellsRisen, last_faults, own_history, told_count}
use Rattle.era_notes.specs.Parts.{Part}
use Rattle.era_stripe.specs.OwnEntries.{AreOwnLegal, OwnMay}

-- What a stripe's notes say, where they have its draws of a log.
pub record StripeNotes (tells : Bool) (opening : Opening) (stripe : ℕ) (log : List Draw) : Type 0 where
  pub part : Part
  pub range : IsRangeOf opening stripe part
  pub notes : List Note
  pub own : noted_entries notes ≡ own_entries stripe log
  pub legal : AreOwnLegal tells part stripe opening notes
  pub least : ℕ
  pub faults : ℕ
  pub counts : CountsRise least faults notes

-- What the keeper's notes say, where they have its draws of a log.
pub record KeeperNotes (opening : Opening) (keeper : ℕ) (log : List Draw) : Type 0 where
  pub notes : List Note
  pub own : noted_entries notes ≡ own_entries keeper log
  pub legal : AreKeepersLegal opening notes

-- The notes of all owners.
pub record OwnersNotes (tells : Bool) (opening : Opening) (log : List Draw) : Type 0 where
  pub stripes : (stripe : ℕ) → stripe < opening.stripes → StripeNotes tells opening stripe log
  pub keeper : KeeperNotes opening opening.stripes log

-- What a stripe's notes say of its draw.
pub record StripeDrew (tells : Bool) (opening : Opening) (stripe : ℕ) (earlier : List Draw) (event : Event) : Type 0 where
  pub low : stripe < opening.stripes
  pub part : Part
  pub range : IsRangeOf opening stripe part
  pub may : OwnMay tells part stripe (drawer_history opening stripe earlier) event
  pub notes : List Note
  pub own : noted_entries notes ≡ own_entries stripe earlier
  pub least : ℕ
  pub faults : ℕ
  pub told : TellsRisen (told_count event) (last_faults least notes) faults
  pub counts : CountsRise least faults notes

-- What the keeper's notes say of its draw.
pub record KeeperDrew (opening : Opening) (drawer : ℕ) (earlier : List Draw) (event : Event) : Type 0 where
  pub last : drawer ≡ opening.stripes
  pub may : KeeperMay (drawer_history opening drawer earlier) event

-- A draw is a stripe's or the keeper's.
abbrev pub Drew : Bool → Opening → ℕ → List Draw → Event → Type 0
Drew tells opening drawer earlier event = StripeDrew tells opening drawer earlier event ⊎ KeeperDrew opening drawer earlier event

-- Each draw of a log.
abbrev pub AllDrew : Bool → Opening → List Draw → Type 0
AllDrew tells opening [] = Unit {0}
AllDrew tells opening (draw ∷ earlier) = Drew tells opening draw.drawer earlier draw.event × AllDrew tells opening earlier

-- No drawer is above the keeper.
abbrev pub AreWithin : ℕ → List Draw → Type 0
AreWithin keeper [] = Unit {0}
AreWithin keeper (draw ∷ earlier) = (draw.drawer ≤ keeper) × AreWithin keeper earlier

-- Own notes give the history of own draws.
abbrev pub HistoriesAgree : Type 0
HistoriesAgree = (opening : Opening) (drawer : ℕ) (log : List Draw) (notes : List Note) → noted_entries notes ≡ own_entries drawer log → own_history opening notes ≡ drawer_history opening drawer log

-- The notes of a drawer up to its draw: one note of it, and those before.
pub record NotesOfDraw (drawer : ℕ) (draw : Draw) (earlier : List Draw) (notes : List Note) : Type 0 where
  pub note : Note
  pub before : List Note
  pub all : notes ≡ note ∷ before
  pub event : note.entry.event ≡ draw.event
  pub own : noted_entries before ≡ own_entries drawer earlier

abbrev entry_of : Draw → List Draw → Entry
entry_of draw earlier = record { place = length earlier; event = draw.event }

first-note : (drawer : ℕ) (draw : Draw) (earlier : List Draw) (notes : List Note) → noted_entries notes ≡ entry_of draw earlier ∷ own_entries drawer earlier → NotesOfDraw drawer draw earlier notes
first-note drawer draw earlier [] are = absurd (cc)
first-note drawer draw earlier (note ∷ before) are =
    let first : note.entry ≡ entry_of draw earlier = cc in
    record { note = note; before = before; all = refl; event = ap (λ (e : Entry). e.event) first; own = cc }

own-draw : (drawer : ℕ) (draw : Draw) (earlier : List Draw) (notes : List Note) → draw.drawer ≡ drawer → noted_entries notes ≡ own_entries drawer (draw ∷ earlier) → NotesOfDraw drawer draw earlier notes
own-draw drawer draw earlier notes same are = first-note drawer draw earlier notes (rw (eq-eqb draw.drawer drawer same) at are)

other-draw : (drawer : ℕ) (draw : Draw) (earlier : List Draw) (notes : List Note) → (draw.drawer ≡ drawer → ⊥) → noted_entries notes ≡ own_entries drawer (draw ∷ earlier) → noted_entries notes ≡ own_entries drawer earlier
other-draw drawer draw earlier notes apart are = rw (ne_eqb draw.drawer drawer apart) at are

-- the notes before the latest draw
stripe-before : (tells : Bool) (opening : Opening) (stripe : ℕ) (draw : Draw) (earlier : List Draw) → StripeNotes tells opening stripe (draw ∷ earlier) → StripeNotes tells opening stripe earlier
stripe-before tells opening stripe draw earlier has = elim (eqb_tells draw.drawer stripe) [
  | inl same ↦
      let of = own-draw stripe draw earlier has.notes same.1 has.own in
      let legal : AreOwnLegal tells has.part stripe opening (of.note ∷ of.before) = subst (AreOwnLegal tells has.part stripe opening) of.all has.legal in
      let counts : CountsRise has.least has.faults (of.note ∷ of.before) = subst (CountsRise has.least has.faults) of.all has.counts in
      record {
        part = has.part;
        range = has.range;
        notes = of.before;
        own = of.own;
        legal = legal.1;
        least = has.least;
        faults = of.note.faults;
        counts = counts.2;
      }
  | inr apart ↦ record {
    part = has.part;
    range = has.range;
    notes = has.notes;
    own = other-draw stripe draw earlier has.notes apart.1 has.own;
    legal = has.legal;
    least = has.least;
    faults = has.faults;
    counts = has.counts;
  }
]

keeper-before : (opening : Opening) (keeper : ℕ) (draw : Draw) (earlier : List Draw) → KeeperNotes opening keeper (draw ∷ earlier) → KeeperNotes opening keeper earlier
keeper-before opening keeper draw earlier has = elim (eqb_tells draw.drawer keeper) [
  | inl same ↦
      let of = own-draw keeper draw earlier has.notes same.1 has.own in
      let legal : AreKeepersLegal opening (of.note ∷ of.before) = subst (AreKeepersLegal opening) of.all has.legal in
      record {
        notes = of.before;
        own = of.own;
        legal = legal.1;
      }
  | inr apart ↦ record {
    notes = has.notes;
    own = other-draw keeper draw earlier has.notes apart.1 has.own;
    legal = has.legal;
  }
]

-- the latest draw
stripe-drew : HistoriesAgree → (tells : Bool) (opening : Opening) (stripe : ℕ) (draw : Draw) (earlier : List Draw) → stripe < opening.stripes → draw.drawer ≡ stripe → StripeNotes tells opening stripe (draw ∷ earlier)
    → StripeDrew tells opening stripe earlier draw.event
stripe-drew agree tells opening stripe draw earlier low same has =
    let of = own-draw stripe draw earlier has.notes same has.own in
    let legal : AreOwnLegal tells has.part stripe opening (of.note ∷ of.before) = subst (AreOwnLegal tells has.part stripe opening) of.all has.legal in
    let counts : CountsRise has.least has.faults (of.note ∷ of.before) = subst (CountsRise has.least has.faults) of.all has.counts in
    record {
      low = low;
      part = has.part;
      range = has.range;
      may = subst (OwnMay tells has.part stripe (drawer_history opening stripe earlier)) of.event
          (subst (λ h. OwnMay tells has.part stripe h of.note.entry.event) (agree opening stripe earlier of.before of.own) legal.0);
      notes = of.before;
      own = of.own;
      least = has.least;
      faults = of.note.faults;
      told = subst (λ event. TellsRisen (told_count event) (last_faults has.least of.before) of.note.faults) of.event counts.1;
      counts = counts.2;
    }

keeper-drew : HistoriesAgree → (opening : Opening) (draw : Draw) (earlier : List Draw) → draw.drawer ≡ opening.stripes → KeeperNotes opening draw.drawer (draw ∷ earlier)
    → KeeperDrew opening draw.drawer earlier draw.event
keeper-drew agree opening draw earlier last has =
    let of = own-draw draw.drawer draw earlier has.notes refl has.own in
    let legal : AreKeepersLegal opening (of.note ∷ of.before) = subst (AreKeepersLegal opening) of.all has.legal in
    let history = agree opening draw.drawer earlier of.before of.own in
    record {
      last = last;
      may = subst (KeeperMay (drawer_history opening draw.drawer earlier)) of.event (subst (λ h. KeeperMay h of.note.entry.event) history legal.0);
    }

below-or-last : (drawer keeper : ℕ) → drawer ≤ keeper → (drawer < keeper) ⊎ (drawer ≡ keeper)
below-or-last drawer keeper le = elim (eqb_tells drawer keeper) [
  | inl same ↦ inr same.1
  | inr apart ↦ inl (let not = apart.1 in omega (arith, le, not))
]

drew : HistoriesAgree → (tells : Bool) (opening : Opening) (draw : Draw) (earlier : List Draw) → draw.drawer ≤ opening.stripes → OwnersNotes tells opening (draw ∷ earlier) → Drew tells opening draw.drawer earlier draw.event
drew agree tells opening draw earlier within have = elim (below-or-last draw.drawer opening.stripes within) [
  | inl low ↦ inl (stripe-drew agree tells opening draw.drawer draw earlier low refl (have.stripes draw.drawer low))
  | inr last ↦ inr (keeper-drew agree opening draw earlier last (subst (λ d. KeeperNotes opening d (draw ∷ earlier)) (sym last) have.keeper))
]

-- each draw
pub all-drew : HistoriesAgree → (tells : Bool) (opening : Opening) (log : List Draw) → AreWithin opening.stripes log → OwnersNotes tells opening log → AllDrew tells opening log
all-drew agree tells opening [] within have = tt
all-drew agree tells opening (draw ∷ earlier) within have = (
  drew agree tells opening draw earlier within.0 have,
  all-drew agree tells opening earlier within.1 (record {
    stripes = λ stripe low. stripe-before tells opening stripe draw earlier (have.stripes stripe low);
    keeper = keeper-before opening opening.stripes draw earlier have.keeper;
  }),
)
