-- What stands of the owners of a session's devices beside the acts of their gate.
use Rattle.std.specs.Prelude.{◌≡◌, ℕ, Bool, false, List, length, slice_get, None, Some}
use Rattle.era_gate.specs.Acts.{Act, IsLegalFrom, opened}
use Rattle.era_gate.specs.Gathered.{account_of}
use Rattle.era_journal.specs.ActsLog.{log_of}
use Rattle.era_journal.specs.Ranges.{IsRangeOf}
use Rattle.era_journal.specs.Requests.{MarksFollowRequests}
use Rattle.era_keeper.specs.Keepers.{EntriesStand, KeeperView}
use Rattle.era_model.specs.declared.opening.Opening.{Opening}
use Rattle.era_stripe.specs.Stripes.{StripeView, ViewStands}

-- A stripe stands under a gate: what is seen of it stands, with its number and the range of that stripe, and its state is that of the acts.
pub record StandsAt (tells : Bool) (opening : Opening) (acts : List Act) (stripe : ℕ) (view : StripeView) : Type 0 where
  pub stands : ViewStands tells opening view
  pub index : view.index ≡ stripe
  pub range : IsRangeOf opening stripe view.part
  pub state : view.state ≡ (account_of opening acts).stripe stripe

-- The owners of a session's devices stand: the acts of their gate are legal from the opening's era and stripes; each stripe stands, in the order of their numbers; the keeper's entries do, and its state is that of the acts; each mark follows its request. Where disks don't tell their contents, the opening has none.
pub record OwnersStand (tells : Bool) (opening : Opening) (acts : List Act) (views : List StripeView) (kept : KeeperView) : Type 0 where
  pub legal : IsLegalFrom opening.stripes (opened opening.era) acts
  pub size : length views ≡ opening.stripes
  pub stripes : (stripe : ℕ) (view : StripeView) → slice_get views stripe ≡ Some view → StandsAt tells opening acts stripe view
  pub keeper : EntriesStand tells opening kept
  pub state : kept.state ≡ (account_of opening acts).keeper
  pub marks : MarksFollowRequests opening (log_of opening.stripes acts)
  pub contents : tells ≡ false → opening.contents.bytes ≡ None
