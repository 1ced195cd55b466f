-- Journals that are gathered from the entries of stripes and of the keeper.
use Rattle.std.specs.Prelude.{◌≡◌, ◌⊎◌, ℕ, ◌<◌, List, [], ◌∷◌, length, All, Contains}
use Rattle.era_model.specs.declared.entry.Entry.{Entry}
use Rattle.era_model.specs.declared.history.Happening.{Happening}
use Rattle.era_model.specs.declared.history.Happening.TheVariants.{Happened}
use Rattle.era_model.specs.Journal.{AreNumberedFrom}
use Rattle.era_model.specs.declared.opening.Opening.{Opening}
use Rattle.era_gate.specs.Acts.{Act, Account, IsLegalFrom, opened, reach}
use Rattle.era_gate.specs.ModelLaw.{IsLeft, IsOwnWrite, stripe_at}
pub use Rattle.era_gate.specs.Places.{AscendFrom}

-- An entry is among those of one of n stripes, or of the keeper.
abbrev pub IsOfDrawer : ℕ → Account → Entry → Type 0
IsOfDrawer n a entry = ((d : ℕ) × (d < n) × Contains (a.stripe d).entries entry) ⊎ Contains a.keeper.entries entry

-- Entries are gathered: they are numbered from 0, as many as were drawn, and each is of a stripe or of the keeper.
pub record AreGathered (n : ℕ) (a : Account) (entries : List Entry) : Type 0 where
  pub numbered : AreNumberedFrom 0 entries
  pub size : length entries ≡ a.places
  pub drawn : All (IsOfDrawer n a) entries

-- Each of n stripes issued writes to its own blocks alone, by the stripe of each block.
abbrev pub AreOwnWrites : (ℕ → ℕ) → ℕ → Account → Type 0
AreOwnWrites of_block n a = (d : ℕ) → d < n → All (λ (entry : Entry). IsOwnWrite of_block d entry.event) (a.stripe d).entries

-- The account of acts in a session that opens so.
abbrev pub account_of : Opening → List Act → Account
account_of opening acts = reach (opened opening.era) acts

-- Acts are of a session that opens so: they are legal from its era, in a gate of its stripes, and each stripe issues writes to its own blocks.
pub record AreActsOf (opening : Opening) (acts : List Act) : Type 0 where
  pub legal : IsLegalFrom opening.stripes (opened opening.era) acts
  pub own : AreOwnWrites (stripe_at opening) opening.stripes (account_of opening acts)

-- Each entry, at its own place of the history, meets what is left to who gathers the journal.
abbrev pub AllMeetRest : List Happening → List Entry → Type 0
AllMeetRest h [] = Unit {0}
AllMeetRest h (entry ∷ entries) = IsLeft h entry.event × AllMeetRest (Happened entry.event ∷ h) entries
