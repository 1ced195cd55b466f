-- The owners of a session's devices at its end stand, from what stands of the session.
use Rattle.std.proofs.Common.{◌≡◌, ℕ, zero, suc, ◌+◌, ◌-◌, ◌*◌, ◌<◌, ◌≤◌, ◌==◌, Bool, true, false, List, [], ◌∷◌, length, map, min, Option, Some, None, slice_get, refl, sym, ap, ap₂, ◌∙◌, subst, inl, inr, eqb-true, arith}
use Rattle.std.proofs.lemmas.Bool.{false≢true, or_cases}
use Rattle.std.specs.Prelude.{unwrap_or}
use Rattle.std.proofs.lemmas.List.{length-map}
use Rattle.std.proofs.lemmas.Option.{none-some, slice_get_within}
use Rattle.era_base.specs.Geometry.{blocks_of, stripe_blocks}
use Rattle.era_base.specs.declared.disk.Disk.{Ghosts}
use Rattle.era_gate.specs.Acts.{Act, IsLegalFrom, opened, reach}
use Rattle.era_gate.specs.Rule.{Each}
use Rattle.era_gate.specs.Gathered.{account_of}
use Rattle.era_gate.specs.Parts.{has_lane}
use Rattle.era_gate.specs.Receipts.{entries_in}
use Rattle.era_gate.specs.Requests.{LanesAskForMarks, MarksStandBehindRequests}
use Rattle.era_gate.specs.Tells.{parts_of}
use Rattle.era_gate.specs.declared.parts.LanePart.{LanePart}
use Rattle.era_gate.specs.declared.stays.Receipt.{Receipt}
use Rattle.era_gate.specs.declared.parts.StripePart.{StripePart}
use Rattle.era_account.specs.Account.{HasEnded}
use Rattle.era_journal.specs.ActsLog.{log_of}
use Rattle.era_journal.specs.OwnersStand.{OwnersStand, StandsAt}
use Rattle.era_journal.specs.Ranges.{IsRangeOf, blocks_each}
use Rattle.era_journal.specs.Requests.{MarksFollowRequests}
use Rattle.era_keeper.specs.Keepers.{view_of as keeper_view}
use Rattle.era_model.specs.History.{blocks_at}
use Rattle.era_model.specs.declared.journal.Journal.{Journal}
use Rattle.era_model.specs.declared.opening.Opening.{Opening}
use Rattle.era_session.specs.Ends.{DrewActs, seats_of, stripe_views}
use Rattle.era_session.specs.Sessions.{IsStripeOf, SessionFits, SessionStands, session_blocks}
use Rattle.era_session.specs.declared.session.Session.{Session}
use Rattle.era_stripe.specs.Stripes.{StripeView, part_of, view_of as stripe_view}
use Rattle.era_stripe.specs.declared.stripe.Stripe.{Stripe}

get-mapped : {A B : Type 0} (f : A → B) (xs : List A) (k : ℕ) (y : B) → slice_get (map f xs) k ≡ Some y → (x : A) × (slice_get xs k ≡ Some x) × (f x ≡ y)
get-mapped f [] k y at = absurd (none-some y at)
get-mapped {A} {B} f (x ∷ xs) zero y at = (x, refl, ap (λ (o : Option B). unwrap_or o y) at)
get-mapped f (x ∷ xs) (suc k) y at = get-mapped f xs k y at

-- what seats tell of each stripe
told-at : {D : Type 0} (P : StripePart → Type 0) (stripes : List (Stripe D)) (k : ℕ) (stripe : Stripe D) → Each P (parts_of (seats_of stripes)) → slice_get stripes k ≡ Some stripe → P stripe.seat.part
told-at P [] k stripe each at = absurd (none-some stripe at)
told-at {D} P (other ∷ stripes) zero stripe each at = subst (λ (s : Stripe D). P s.seat.part) (ap (λ (o : Option (Stripe D)). unwrap_or o stripe) at) each.0
told-at P (other ∷ stripes) (suc k) stripe each at = told-at P stripes k stripe each.1 at

range-first : (start blocks first : ℕ) → first ≡ start → start < blocks → first ≡ min start blocks
range-first start blocks first is below = omega (arith, is, below)

-- the blocks of a session are those of its opening, and so is how many each stripe has
same-blocks : {D : Type 0} (disk : Ghosts D) (opening : Opening) (session : Session D) → SessionStands disk opening session → session_blocks session ≡ blocks_at opening
same-blocks disk opening session stands = ap₂ blocks_of (sym stands.sectors) (sym stands.block_sectors)

same-each : {D : Type 0} (disk : Ghosts D) (opening : Opening) (session : Session D) → SessionFits disk session → SessionStands disk opening session → session.each ≡ blocks_each opening
same-each disk opening session fits stands = fits.shared.each ∙ ap₂ stripe_blocks (same-blocks disk opening session stands) (sym stands.count)

-- the range of a stripe
range-of : {D : Type 0} (disk : Ghosts D) (opening : Opening) (session : Session D) (k : ℕ) (stripe : Stripe D) → SessionFits disk session → SessionStands disk opening session → slice_get session.stripes.items k ≡ Some stripe
    → IsRangeOf opening k (part_of stripe)
range-of disk opening session k stripe fits stands found =
    let is = fits.stripes k stripe found in
    let blocks = same-blocks disk opening session stands in
    let each = same-each disk opening session fits stands in
    let below : k < session.gate.plan.stripes = subst (λ n. k < n) fits.shared.stripes (slice_get_within session.stripes.items k stripe found) in
    let first = range-first (k * session.each) (session_blocks session) stripe.first_block is.first (fits.shared.some k below) in
    record {
      first = first ∙ ap₂ (λ e n. min (k * e) n) each blocks;
      blocks = is.blocks ∙ ap (λ start. min session.each (session_blocks session - start)) (sym is.first)
          ∙ ap₂ (λ e n. min e (n - stripe.first_block)) each blocks;
    }

-- a stripe stands at its place among the acts
stands-at : {D : Type 0} (disk : Ghosts D) (opening : Opening) (session : Session D) (places : ℕ) (acts : List Act) (k : ℕ) (stripe : Stripe D) → SessionFits disk session → SessionStands disk opening session → DrewActs session places acts
    → slice_get session.stripes.items k ≡ Some stripe → StandsAt disk.tells opening acts k (stripe_view disk stripe)
stands-at disk opening session places acts k stripe fits stands drew found =
    let is = fits.stripes k stripe found in
    let told = told-at (λ part. (part.stripe < session.gate.plan.stripes) × ((reach (opened session.gate.plan.era) acts).stripe part.stripe ≡ part.state)) session.stripes.items k stripe drew.stripes found in
    record {
      stands = stands.stripes k stripe found;
      index = is.index;
      range = range-of disk opening session k stripe fits stands found;
      state = sym told.1 ∙ ap₂ (λ era d. (reach (opened era) acts).stripe d) (sym stands.era) (is.fits.seat ∙ is.index);
    }

-- the receipts of a lane of the session are those of the acts, and in them marks stand behind their requests
lane-asks : (own : ℕ → List Receipt) (lanes : List LanePart) (l : ℕ) → has_lane l lanes ≡ true → Each (λ (part : LanePart). own part.lane ≡ part.receipts) lanes → LanesAskForMarks lanes
    → MarksStandBehindRequests None (entries_in (own l))
lane-asks own [] l has are asked = absurd (false≢true has)
lane-asks own (part ∷ lanes) l has are asked = elim (or_cases (l == part.lane) (has_lane l lanes) has) [
  | inl here ↦
      let same : l ≡ part.lane = eqb-true l part.lane here in
      subst (λ (rs : List Receipt). MarksStandBehindRequests None (entries_in rs)) (sym (ap own same ∙ are.0)) asked.0
  | inr there ↦ lane-asks own lanes l there are.1 asked.1
]

-- Marks follow their requests in the log where the receipts of each lane tell so.
abbrev pub ReceiptsTell : Type 0
ReceiptsTell =
    (opening : Opening) (acts : List Act) → IsLegalFrom opening.stripes (opened opening.era) acts
    → ((l : ℕ) → l < 65 → MarksStandBehindRequests None (entries_in ((account_of opening acts).lane l)))
    → MarksFollowRequests opening (log_of opening.stripes acts)

-- all of them do
pub owners-stand : ReceiptsTell → {D : Type 0} (disk : Ghosts D) (journal : Journal) (session : Session D) (places : ℕ) (acts : List Act) → HasEnded disk journal session places acts
    → OwnersStand disk.tells journal.opening acts (stripe_views disk session.stripes.items) (keeper_view disk session.keeper)
owners-stand tell {D} disk journal session places acts ended =
    let opening = journal.opening in
    let fits = ended.fits in
    let stands = ended.stands in
    let drew = ended.drew in
    let legal : IsLegalFrom opening.stripes (opened opening.era) acts =
    subst (λ n. IsLegalFrom n (opened opening.era) acts) (sym stands.count) (subst (λ era. IsLegalFrom session.gate.plan.stripes (opened era) acts) (sym stands.era) drew.legal) in
    let receipts = subst (λ era. Each (λ (part : LanePart). (reach (opened era) acts).lane part.lane ≡ part.receipts) session.pass.part.lanes) (sym stands.era) drew.receipts in
    record {
      legal = legal;
      size = length-map session.stripes.items (stripe_view disk) ∙ fits.shared.stripes ∙ sym stands.count;
      stripes = λ k view at.
          let found = get-mapped (stripe_view disk) session.stripes.items k view at in
          subst (λ (v : StripeView). StandsAt disk.tells opening acts k v) found.2 (stands-at disk opening session places acts k found.0 fits stands drew found.1);
      keeper = stands.keeper.own;
      state = sym drew.keeper ∙ ap (λ era. (reach (opened era) acts).keeper) (sym stands.era);
      marks = tell opening acts legal (λ l low. lane-asks (account_of opening acts).lane session.pass.part.lanes l (drew.every_lane l low) receipts fits.asked);
      contents = stands.contents;
    }
