-- What seats tell of at the close makes a legal journal.
use Rattle.std.proofs.Common.{◌≡◌, ℕ, ◌<◌, ◌==◌, ◌||◌, Bool, true, false, List, [], ◌∷◌, inl, inr, refl, sym, ◌∙◌, subst, eqb-true}
use Rattle.std.specs.Prelude.{All, Contains}
use Rattle.std.proofs.lemmas.List.Elements.{All-append, All-contains, All-nil, All-push, All-weaker}
use Rattle.era_model.specs.declared.entry.Entry.{Entry}
use Rattle.era_model.specs.declared.journal.Journal.{Journal}
use Rattle.era_model.specs.declared.opening.Opening.{Opening}
use Rattle.era_model.specs.declared.history.Happening.TheVariants.{Opened}
use Rattle.era_model.specs.Legal.{IsLegalJournal, IsOpening}
use Rattle.era_gate.specs.declared.parts.StripePart.{StripePart}
use Rattle.era_gate.specs.declared.parts.KeeperPart.{KeeperPart}
use Rattle.era_gate.specs.declared.parts.LanePart.{LanePart}
use Rattle.era_gate.specs.declared.plan.Plan.{Plan}
use Rattle.era_gate.specs.declared.states.StripeState.{StripeState}
use Rattle.era_gate.specs.declared.states.KeeperState.{KeeperState}
use Rattle.era_gate.specs.Acts.{Act, IsLegalFrom, opened, reach}
use Rattle.era_gate.specs.Drawn.{drawn}
use Rattle.era_gate.specs.Gathered.{AllMeetRest, AreGathered, AreOwnWrites, IsOfDrawer}
use Rattle.era_gate.specs.ModelLaw.{IsOwnWrite, stripe_at}
use Rattle.era_gate.specs.Parts.{has_stripe}
use Rattle.era_gate.specs.Rule.{Each}
use Rattle.era_gate.specs.Tells.{Tells, AreCollected, IsOfSeat, WriteOwnBlocks, reached}
use Rattle.era_gate.proofs.Choices.{clash}
use Rattle.era_gate.proofs.GatheredDrawers.{gathered-drawn}
use Rattle.era_gate.proofs.GatheredLegal.{journal-legal}
use Rattle.era_gate.proofs.Splitting.{both_of}

-- a part that is among them, by itself and by its number
each-all : (P : StripePart → Type 0) (parts : List StripePart) → Each P parts → All P parts
each-all P [] all = All-nil P
each-all P (part ∷ parts) all = All-append P (part ∷ []) parts (All-push P [] part (All-nil P) all.0) (each-all P parts all.1)

among : (P : StripePart → Type 0) (parts : List StripePart) (part : StripePart) → Each P parts → Contains parts part → P part
among P parts part all is = All-contains P parts part (each-all P parts all) is

by_number : (P : StripePart → Type 0) (d : ℕ) (parts : List StripePart) → Each P parts → has_stripe d parts ≡ true → (part : StripePart) × (part.stripe ≡ d) × P part
by_number P d [] all is = absurd (clash is refl)
by_number P d (part ∷ parts) all is = chosen (d == part.stripe) refl is (by_number P d parts all.1) where
  chosen : (b : Bool) → (d == part.stripe) ≡ b → (b || has_stripe d parts) ≡ true → (has_stripe d parts ≡ true → (found : StripePart) × (found.stripe ≡ d) × P found) → (found : StripePart) × (found.stripe ≡ d) × P found
  chosen true same on rest = (part, sym (eqb-true d part.stripe same), all.0)
  chosen false other on rest = rest on

module _ (plan : Plan) (places : ℕ) (parts : List StripePart) (kept : KeeperPart) (lanes : List LanePart) (acts : List Act) (tells : Tells plan places parts kept lanes acts) where
  -- an entry of a seat is of a drawer
  of_drawer : (e : Entry) → IsOfSeat parts kept e → IsOfDrawer plan.stripes (reached plan acts) e
  of_drawer e is = elim is [
    | inl of_keeper ↦ inr (subst (λ (k : KeeperState). Contains k.entries e) (sym tells.keeper) of_keeper)
    | inr of_stripe ↦
        let told = among (λ (part : StripePart). (part.stripe < plan.stripes) × ((reached plan acts).stripe part.stripe ≡ part.state)) parts of_stripe.0 tells.stripes of_stripe.1 in
        inl (of_stripe.0.stripe, told.0, subst (λ (s : StripeState). Contains s.entries e) (sym told.1) of_stripe.2)
  ]

  -- what is collected from the seats is gathered
  gathered : (entries : List Entry) → AreCollected places parts kept entries → AreGathered plan.stripes (reached plan acts) entries
  gathered entries are = record {
    numbered = are.numbered;
    size = are.size ∙ sym tells.drawn;
    drawn = All-weaker (IsOfSeat parts kept) (IsOfDrawer plan.stripes (reached plan acts)) of_drawer entries are.seats;
  }

  -- and is what the acts drew
  pub collected-drawn : (entries : List Entry) → AreCollected places parts kept entries → entries ≡ drawn 0 acts
  collected-drawn entries are = gathered-drawn plan.stripes plan.era acts entries (gathered entries are)

  -- the stripes' writes are to their own blocks
  own-writes : (opening : Opening) → WriteOwnBlocks opening parts → AreOwnWrites (stripe_at opening) plan.stripes (reached plan acts)
  own-writes opening own d low =
      let Q : StripePart → Type 0 = λ part. ((part.stripe < plan.stripes) × ((reached plan acts).stripe part.stripe ≡ part.state)) × All (λ (e : Entry). IsOwnWrite (stripe_at opening) part.stripe e.event) part.state.entries in
      let found = by_number Q d parts (both_of (λ part. (part.stripe < plan.stripes) × ((reached plan acts).stripe part.stripe ≡ part.state)) (λ part. All (λ (e : Entry). IsOwnWrite (stripe_at opening) part.stripe e.event) part.state.entries) parts tells.stripes own) (tells.whole d low) in
      let here = subst (λ (s : StripeState). All (λ (e : Entry). IsOwnWrite (stripe_at opening) found.0.stripe e.event) s.entries) (sym found.2.0.1) found.2.1 in
      subst (λ (k : ℕ). All (λ (e : Entry). IsOwnWrite (stripe_at opening) k e.event) ((reached plan acts).stripe k).entries) found.1 here

  pub collected-legal : (journal : Journal) → IsOpening journal.opening → journal.opening.stripes ≡ plan.stripes → journal.opening.era ≡ plan.era → WriteOwnBlocks journal.opening parts → AreCollected places parts kept journal.entries → AllMeetRest (Opened journal.opening ∷ []) journal.entries
      → IsLegalJournal journal
  collected-legal journal opens stripes era own are rest = journal-legal journal acts opens
      (record {
        legal = subst (λ (n : ℕ). IsLegalFrom n (opened journal.opening.era) acts) (sym stripes) (subst (λ (e : ℕ). IsLegalFrom plan.stripes (opened e) acts) (sym era) tells.legal);
        own = subst (λ (n : ℕ). AreOwnWrites (stripe_at journal.opening) n (reach (opened journal.opening.era) acts)) (sym stripes)
            (subst (λ (e : ℕ). AreOwnWrites (stripe_at journal.opening) plan.stripes (reach (opened e) acts)) (sym era) (own-writes journal.opening own));
      })
      (subst (λ (n : ℕ). AreGathered n (reach (opened journal.opening.era) acts) journal.entries) (sym stripes)
      (subst (λ (e : ℕ). AreGathered plan.stripes (reach (opened e) acts) journal.entries) (sym era) (gathered journal.entries are)))
      rest
