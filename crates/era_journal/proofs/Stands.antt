-- Where the owners of a session's devices stand: their notes are those of the log, and its draws are as their notes have them.
use Rattle.std.proofs.Common.{◌≡◌, ℕ, ◌<◌, Bool, List, [], ◌∷◌, length, Some, ap, ◌∙◌, subst, inl, inr, arith}
use Rattle.std.specs.Prelude.{All, slice_get}
use Rattle.std.proofs.lemmas.Option.{slice_get_cases}
use Rattle.era_model.specs.declared.entry.Entry.{Entry}
use Rattle.era_model.specs.declared.history.Happening.{Happening}
use Rattle.era_model.specs.declared.history.Happening.TheVariants.{Opened}
use Rattle.era_model.specs.declared.opening.Opening.{Opening}
use Rattle.era_gate.specs.Acts.{Act, IsLegalFrom, opened, reach}
use Rattle.era_gate.specs.Drawn.{drawn}
use Rattle.era_gate.specs.Gathered.{AreActsOf}
use Rattle.era_gate.specs.ModelLaw.{AllMeetGate, IsOwnWrite, stripe_at as gate_stripe}
use Rattle.era_gate.specs.declared.states.KeeperState.{KeeperState}
use Rattle.era_gate.specs.declared.states.StripeState.{StripeState}
use Rattle.era_journal.specs.ActsLog.{log_of}
use Rattle.era_journal.specs.OwnersStand.{OwnersStand, StandsAt}
use Rattle.era_journal.proofs.Drews.{AllDrew, HistoriesAgree, OwnersNotes, StripeNotes, all-drew}
use Rattle.era_journal.proofs.Meets.{AllMeet, acts-within, all-meet}
use Rattle.era_journal.proofs.OwnReadings.{own-writes}
use Rattle.era_keeper.specs.Keepers.{KeeperView}
use Rattle.era_notes.specs.Logs.{noted_entries, own_entries}
use Rattle.era_notes.specs.Notes.{Note, entries_of}
use Rattle.era_promise.specs.Owners.{logged_entries}
use Rattle.era_stripe.specs.OwnEntries.{AreOwnLegal}
use Rattle.era_stripe.specs.Stripes.{StripeView}

-- The laws that this takes.
pub record Laws : Type 0 where
  pub entries : (keeper : ℕ) (acts : List Act) → drawn 0 acts ≡ logged_entries (log_of keeper acts)
  pub stripe : (d n era : ℕ) (acts : List Act) (notes : List Note) → d < n → entries_of notes ≡ ((reach (opened era) acts).stripe d).entries → noted_entries notes ≡ own_entries d (log_of n acts)
  pub keeper : (n era : ℕ) (acts : List Act) (notes : List Note) → IsLegalFrom n (opened era) acts → entries_of notes ≡ (reach (opened era) acts).keeper.entries → noted_entries notes ≡ own_entries n (log_of n acts)
  pub histories : HistoriesAgree
  pub meet : (opening : Opening) (earlier : List Happening) (acts : List Act) → AreActsOf opening acts → AllMeetGate (Opened opening ∷ earlier) (drawn 0 acts)

-- what is seen of a stripe
pub view-at : (views : List StripeView) (n stripe : ℕ) → length views ≡ n → stripe < n → (view : StripeView) × (slice_get views stripe ≡ Some view)
view-at views n stripe size low = elim ((slice_get_cases views stripe).1) [
  | inl found ↦ (found.0, found.2)
  | inr past ↦ absurd (let out = past.0 in omega (arith, size, low, out))
]

pub stripe-own : Laws → (tells : Bool) (opening : Opening) (acts : List Act) (stripe : ℕ) (view : StripeView) → stripe < opening.stripes → StandsAt tells opening acts stripe view
    → noted_entries view.notes ≡ own_entries stripe (log_of opening.stripes acts)
stripe-own laws tells opening acts stripe view low at =
    laws.stripe stripe opening.stripes opening.era acts view.notes low (at.stands.entries ∙ ap (λ (s : StripeState). s.entries) at.state)

stripe-notes : Laws → (tells : Bool) (opening : Opening) (acts : List Act) (stripe : ℕ) (view : StripeView) → stripe < opening.stripes → StandsAt tells opening acts stripe view
    → StripeNotes tells opening stripe (log_of opening.stripes acts)
stripe-notes laws tells opening acts stripe view low at = record {
  part = view.part;
  range = at.range;
  notes = view.notes;
  own = stripe-own laws tells opening acts stripe view low at;
  legal = subst (λ index. AreOwnLegal tells view.part index opening view.notes) at.index at.stands.legal;
  least = view.least;
  faults = view.faults;
  counts = at.stands.counts;
}

pub keeper-own : Laws → (tells : Bool) (opening : Opening) (acts : List Act) (views : List StripeView) (keeper : KeeperView) → OwnersStand tells opening acts views keeper
    → noted_entries keeper.notes ≡ own_entries opening.stripes (log_of opening.stripes acts)
keeper-own laws tells opening acts views keeper stand =
    laws.keeper opening.stripes opening.era acts keeper.notes stand.legal (stand.keeper.entries ∙ ap (λ (s : KeeperState). s.entries) stand.state)

owners-notes : Laws → (tells : Bool) (opening : Opening) (acts : List Act) (views : List StripeView) (keeper : KeeperView) → OwnersStand tells opening acts views keeper → OwnersNotes tells opening (log_of opening.stripes acts)
owners-notes laws tells opening acts views keeper stand = record {
  stripes = λ stripe low.
      let found = view-at views opening.stripes stripe stand.size low in
      stripe-notes laws tells opening acts stripe found.0 low (stand.stripes stripe found.0 found.1);
  keeper = record { notes = keeper.notes; own = keeper-own laws tells opening acts views keeper stand; legal = stand.keeper.legal };
}

pub stand-drew : Laws → (tells : Bool) (opening : Opening) (acts : List Act) (views : List StripeView) (keeper : KeeperView) → OwnersStand tells opening acts views keeper → AllDrew tells opening (log_of opening.stripes acts)
stand-drew laws tells opening acts views keeper stand =
    all-drew laws.histories tells opening (log_of opening.stripes acts) (acts-within opening.stripes (opened opening.era) [] acts stand.legal tt) (owners-notes laws tells opening acts views keeper stand)

-- the acts are of the session
acts-of : (tells : Bool) (opening : Opening) (acts : List Act) (views : List StripeView) (keeper : KeeperView) → OwnersStand tells opening acts views keeper → AreActsOf opening acts
acts-of tells opening acts views keeper stand = record {
  legal = stand.legal;
  own = λ stripe low.
      let found = view-at views opening.stripes stripe stand.size low in
      let at = stand.stripes stripe found.0 found.1 in
      subst (All (λ (entry : Entry). IsOwnWrite (gate_stripe opening) stripe entry.event)) (at.stands.entries ∙ ap (λ (s : StripeState). s.entries) at.state)
      (own-writes tells opening stripe found.0.part found.0.notes at.range (subst (λ index. AreOwnLegal tells found.0.part index opening found.0.notes) at.index at.stands.legal));
}

pub stand-meet : Laws → (tells : Bool) (opening : Opening) (acts : List Act) (views : List StripeView) (keeper : KeeperView) → OwnersStand tells opening acts views keeper → AllMeet opening (log_of opening.stripes acts)
stand-meet laws tells opening acts views keeper stand =
    all-meet opening (log_of opening.stripes acts)
    (subst (AllMeetGate (Opened opening ∷ [])) (laws.entries opening.stripes acts) (laws.meet opening [] acts (acts-of tells opening acts views keeper stand)))
