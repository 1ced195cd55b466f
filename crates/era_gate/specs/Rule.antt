-- The rule of a gate: what holds of its words and of all views between any two steps.
-- Word 0 is the era times 2^32 with the number of stripes inside, word 1 the number of places drawn. Two bitmaps follow, used in turn by the era's parity.
use Rattle.std.specs.Prelude.{◌≡◌, ℕ, ◌+◌, ◌*◌, ◌/◌, ◌%◌, ◌<◌, ◌≤◌, Bool, true, false, List, [], ◌∷◌, length, slice_index}
use mathlib.Core.Option.{some}
use lib.ListN.{get_elem?}
use Rattle.atomic_table.specs.Table.{State}
use Rattle.era_base.specs.Bits.{bit_of}
use Rattle.era_gate.specs.declared.parts.StripePart.{StripePart}
use Rattle.era_gate.specs.declared.parts.KeeperPart.{KeeperPart}
use Rattle.era_gate.specs.declared.parts.LanePart.{LanePart}
use Rattle.era_gate.specs.declared.parts.View.{View}
use Rattle.era_gate.specs.declared.plan.Plan.{Plan}
use Rattle.era_gate.specs.Acts.{Act, Account, reach, opened, IsLegalFrom, count, inside_of}
use Rattle.era_gate.specs.Parts.{has_stripe, has_keeper, has_lane}

-- What only the rule knows: the acts, the account of them, how many words of the spare bitmap are cleared, and which view has each stripe, the keeper and each lane.
pub record Hidden : Type 0 where
  pub acts : List Act
  pub account : Account
  pub cleared : ℕ
  pub stripe_owner : ℕ → ℕ
  pub keeper_owner : ℕ
  pub lane_owner : ℕ → ℕ

-- The first word of the bitmap of an era.
abbrev pub bitmap_at : Plan → ℕ → ℕ
bitmap_at plan era = 2 + era % 2 * plan.words

-- Whether the bit of a block is set in the bitmap of an era.
abbrev pub block_bit : Plan → List ℕ → ℕ → ℕ → Bool
block_bit plan words era block = bit_of (slice_index words (bitmap_at plan era + block / 64)) (block % 64)

-- 1 for a stripe that is inside.
abbrev pub weight : Bool → ℕ
weight true = 1
weight false = 0

-- How much all views together may still draw.
abbrev pub budgets : List View → ℕ
budgets [] = 0
budgets (view ∷ views) = view.pass.budget + budgets views

-- A fact holds of each item.
abbrev pub Each : {A : Type 0} → (A → Type 0) → List A → Type 0
Each P [] = Unit {0}
Each P (x ∷ xs) = P x × Each P xs

-- All numbers differ.
abbrev pub AreDistinct : List StripePart → Type 0
AreDistinct [] = Unit {0}
AreDistinct (part ∷ parts) = (has_stripe part.stripe parts ≡ false) × AreDistinct parts

-- A stripe's part in a view is the account's: it stands in this view alone; its era is the word's while it is inside; and what it saw is marked in that era.
pub record StripeFits (plan : Plan) (m : Hidden) (id : ℕ) (part : StripePart) : Type 0 where
  pub own : m.stripe_owner part.stripe ≡ id
  pub low : part.stripe < plan.stripes
  pub state : m.account.stripe part.stripe ≡ part.state
  pub era : part.state.inside ≡ true → part.era ≡ m.account.keeper.era
  pub seen : Each (λ block. (part.state.inside ≡ true) × (m.account.marked block part.era ≡ true)) part.seen

-- The keeper's part in a view is the account's, and stands in this view alone.
pub record KeeperFits (m : Hidden) (id : ℕ) (part : KeeperPart) : Type 0 where
  pub own : m.keeper_owner ≡ id
  pub state : m.account.keeper ≡ part.state
  pub cleared : m.cleared ≡ part.cleared

-- A lane in a view is one of 65, has the account's receipts, and stands in this view alone.
pub record LaneFits (m : Hidden) (id : ℕ) (part : LanePart) : Type 0 where
  pub own : m.lane_owner part.lane ≡ id
  pub low : part.lane < 65
  pub receipts : m.account.lane part.lane ≡ part.receipts

-- A view fits: each of its parts does, no stripe stands in it twice, its floor is past, and the stays that it knows have begun, or ended.
pub record Fits (plan : Plan) (m : Hidden) (id : ℕ) (view : View) : Type 0 where
  pub stripes : Each (StripeFits plan m id) view.stripes
  pub keepers : Each (KeeperFits m id) view.keepers
  pub lanes : Each (LaneFits m id) view.pass.lanes
  pub floor : view.pass.floor ≤ m.account.places
  pub apart : AreDistinct view.stripes
  pub begun : (d : ℕ) → slice_index view.pass.begun d ≤ length (m.account.stripe d).stays
  pub ended : (d : ℕ) → slice_index view.pass.ended d + weight (inside_of m.account d) ≤ length (m.account.stripe d).stays

-- The view of that number passes the test.
abbrev pub IsThere : List View → ℕ → (View → Bool) → Type 0
IsThere views owner test = (view : View) × (get_elem? views owner ≡ some view) × (test view ≡ true)

-- Each stripe, the keeper and each lane stand in the view of their owner.
pub record AreThere (plan : Plan) (views : List View) (m : Hidden) : Type 0 where
  pub stripes : (d : ℕ) → d < plan.stripes → IsThere views (m.stripe_owner d) (λ view. has_stripe d view.stripes)
  pub keeper : IsThere views m.keeper_owner (λ view. has_keeper view.keepers)
  pub lanes : (l : ℕ) → l < 65 → IsThere views (m.lane_owner l) (λ view. has_lane l view.pass.lanes)

-- The numbers of a plan are within their limits.
pub record IsPlan (plan : Plan) : Type 0 where
  pub stripes : plan.stripes ≤ 16
  pub some_words : 0 < plan.words
  pub few_words : plan.words < 4294967296
  pub blocks : plan.blocks ≤ 64 * plan.words

-- The words and the views tell of the account of legal acts.
pub record Standing (plan : Plan) (words : List ℕ) (views : List View) (m : Hidden) : Type 0 where
  pub plan_fits : IsPlan plan
  pub size : length words ≡ 2 + 2 * plan.words
  pub era_fits : m.account.keeper.era < 4294967296
  pub account_is : reach (opened plan.era) m.acts ≡ m.account
  pub legal : IsLegalFrom plan.stripes (opened plan.era) m.acts
  pub gate : slice_index words 0 ≡ m.account.keeper.era * 4294967296 + count plan.stripes (inside_of m.account)
  pub order : slice_index words 1 ≡ m.account.places
  pub budget : budgets views + m.account.places ≡ 1152921504606846976
  pub bits : (block : ℕ) → block < plan.blocks → block_bit plan words m.account.keeper.era block ≡ true
      → m.account.marked block m.account.keeper.era ≡ true
  pub spare : (i : ℕ) → i < m.cleared → slice_index words (bitmap_at plan (m.account.keeper.era + 1) + i) ≡ 0
  pub spare_low : m.cleared ≤ plan.words
  pub views_fit : (id : ℕ) (view : View) → get_elem? views id ≡ some view → Fits plan m id view
  pub there : AreThere plan views m

-- Between any two steps there are acts of which words and views tell.
abbrev pub Ruled : Plan → State (Unit {0}) View → Type 0
Ruled plan s = (m : Hidden) × Standing plan s.words s.views m
