-- What each atomic step tells the thread that made it: the seat's view after it.
use Rattle.std.specs.Prelude.{◌≡◌, ◌≢◌, ℕ, ◌+◌, ◌-◌, ◌*◌, ◌/◌, ◌%◌, ◌<◌, ◌≤◌, ◌==◌, cond, true, List, [], ◌∷◌, replicate, slice_set}
use Rattle.atomic_table.specs.Table.{Me, Step}
use Rattle.atomic_table.specs.Seated.{TableId}
use Rattle.era_base.specs.Bits.{bit_of}
use Rattle.era_base.specs.declared.ids.CmdId.{CmdId}
use Rattle.era_model.specs.declared.event.Event.{Event}
use Rattle.era_model.specs.declared.event.Event.TheVariants.{Done}
use Rattle.era_gate.specs.declared.stays.Stay.{Stay}
use Rattle.era_gate.specs.declared.parts.StripePart.{StripePart}
use Rattle.era_gate.specs.declared.parts.KeeperPart.{KeeperPart}
use Rattle.era_gate.specs.declared.parts.View.{View}
use Rattle.era_base.specs.Flags.{tabulate}
use Rattle.era_gate.specs.Parts.{new_stripe, new_keeper, stripe_with_pass, keeper_with_pass, stripe_in_view, keeper_in_view, no_pass}
use Rattle.era_gate.specs.declared.plan.Plan.{Plan}
use Rattle.era_gate.specs.Places.{IsNextPlace}
use Rattle.era_gate.specs.Rule.{IsPlan}
use Rattle.era_gate.specs.Calls.{stay_of, enters, pass_enters, sees, leaves, pass_leaves, draws, keeper_draws, pass_draws, clears, moves, fails}

-- A seat's view; no seat holds a slot.
abbrev pub Sat : Type 0
Sat = Me (Unit {0}) View

-- A command for steps that have none.
abbrev pub no_command : CmdId
no_command = record { lane = 0; number = 0 }

-- An event for steps that draw none.
abbrev pub no_event : Event
no_event = Done no_command

-- The stripe's part in a view.
abbrev pub part_of : View → StripePart
part_of view = stripe_in_view view.stripes

-- The keeper's part in a view.
abbrev pub keeper_of : View → KeeperPart
keeper_of view = keeper_in_view view.keepers

-- The stay that a command begins with a view.
abbrev pub stay_in : View → CmdId → Stay
stay_in view id = stay_of (part_of view) view.pass id

-- The view after a stripe entered under a gate word.
abbrev pub entered : CmdId → ℕ → View → View
entered id found view =
    stripe_with_pass (enters (part_of view) (stay_in view id) (found / 4294967296)) (pass_enters view.pass (stay_in view id))

-- The view after a stripe left.
abbrev pub left : View → View
left view = stripe_with_pass (leaves (part_of view)) (pass_leaves view.pass (part_of view))

-- The view after a stripe drew a place for an event.
abbrev pub drew : Event → ℕ → View → View
drew event place view = stripe_with_pass (draws (part_of view) event place) (pass_draws view.pass event place)

-- The view after the keeper drew a place for an event.
abbrev pub keeper_drawn : Event → ℕ → View → View
keeper_drawn event place view = keeper_with_pass (keeper_draws (keeper_of view) event place) (pass_draws view.pass event place)

-- The view after a stripe looked at a block's bit in a word.
abbrev pub looked : ℕ → ℕ → View → View
looked block found view = stripe_with_pass (sees (part_of view) (bit_of found (block % 64)) block) view.pass

-- The view after the keeper cleared the spare words up to one.
abbrev pub cleared_to : ℕ → View → View
cleared_to words view = keeper_with_pass (clears (keeper_of view) words) view.pass

-- The keeper after an exchange that was to find a word and found another, or that one.
abbrev pub exchanged_part : ℕ → ℕ → View → KeeperPart
exchanged_part wanted found view =
    cond (found == wanted) (moves (keeper_of view)) (fails (keeper_of view) (found % 4294967296) view.pass.ended)

-- An enter: the stripe is inside in the era of the word that was found.
abbrev pub Enters : CmdId → Step (Unit {0}) → Sat → ℕ → Sat → Type 0
Enters id s me found me' = me' ≡ (entered id found me.0, me.1)

-- A leave.
abbrev pub Leaves : Step (Unit {0}) → Sat → ℕ → Sat → Type 0
Leaves s me found me' = me' ≡ (left me.0, me.1)

-- A draw: the place is the number found, and the next one for the stripe.
abbrev pub Draws : Event → Step (Unit {0}) → Sat → ℕ → Sat → Type 0
Draws event s me found me' =
    (me' ≡ (drew event found me.0, me.1)) × IsNextPlace found me.0.pass.floor (part_of me.0).state.entries (part_of (drew event found me.0)).state.entries

-- A draw of the keeper.
abbrev pub KeeperDraws : Event → Step (Unit {0}) → Sat → ℕ → Sat → Type 0
KeeperDraws event s me found me' =
    (me' ≡ (keeper_drawn event found me.0, me.1)) × IsNextPlace found me.0.pass.floor (keeper_of me.0).state.entries (keeper_of (keeper_drawn event found me.0)).state.entries

-- A look at the word of a block's bit.
abbrev pub Looks : ℕ → Step (Unit {0}) → Sat → ℕ → Sat → Type 0
Looks block s me found me' = me' ≡ (looked block found me.0, me.1)

-- A step that tells nothing.
abbrev pub Stays : Step (Unit {0}) → Sat → ℕ → Sat → Type 0
Stays s me found me' = me' ≡ me

-- A store into the spare word of an index: the words up to it are 0.
abbrev pub Clears : ℕ → Step (Unit {0}) → Sat → ℕ → Sat → Type 0
Clears index s me found me' = me' ≡ (cleared_to (index + 1) me.0, me.1)

-- An exchange of the gate word: where it found another word than asked for, that counts from 1 to 16 stripes.
abbrev pub Exchanges : Step (Unit {0}) → Sat → ℕ → Sat → Type 0
Exchanges s me found me' =
    (me' ≡ (keeper_with_pass (exchanged_part s.first found me.0) me.0.pass, me.1)) × (found ≢ s.first → (0 < found % 4294967296) × (found % 4294967296 ≤ 16))

-- The keeper may exchange the gate word of an era: the whole spare bitmap is cleared, the switch to the era is drawn, and it isn't the last one.
pub record MayExchange (plan : Plan) (era : ℕ) (part : KeeperPart) : Type 0 where
  pub cleared : part.cleared ≡ plan.words
  pub switched : part.state.switched ≡ true
  pub present : era ≡ part.state.era
  pub next : era + 1 < 4294967296

-- The parts behind the first.
abbrev pub other_stripes : List StripePart → List StripePart
other_stripes [] = []
other_stripes (part ∷ parts) = parts

-- A view without its first stripe.
abbrev pub without_stripe : View → View
without_stripe view = record { stripes = other_stripes view.stripes; keepers = view.keepers; pass = view.pass }

-- A view without the keeper.
abbrev pub without_keeper : View → View
without_keeper view = record { stripes = view.stripes; keepers = []; pass = view.pass }

-- A view without its pass.
abbrev pub without_pass : View → View
without_pass view = record { stripes = view.stripes; keepers = view.keepers; pass = no_pass }

-- A view with the pass of another.
abbrev pub with_pass_of : View → View → View
with_pass_of view other = record { stripes = view.stripes; keepers = view.keepers; pass = other.pass }

-- A stripe's seat, maybe with a pass in it.
abbrev pub IsStripeAt : Sat → Type 0
IsStripeAt me = me ≡ (stripe_with_pass (part_of me.0) me.0.pass, [])

-- The keeper's seat, maybe with a pass in it.
abbrev pub IsKeeperAt : Sat → Type 0
IsKeeperAt me = me ≡ (keeper_with_pass (keeper_of me.0) me.0.pass, [])

-- The view of a keeper's seat that has these stripes' parts too.
abbrev pub with_stripes : List StripePart → View → View
with_stripes parts view = record { stripes = parts; keepers = keeper_of view ∷ []; pass = view.pass }

-- The keeper's seat, maybe with stripes' parts and a pass in it.
abbrev pub IsGathered : Sat → Type 0
IsGathered me = me ≡ (with_stripes me.0.stripes me.0, [])

-- The keeper's seat with one stripe's part in it, and maybe a pass.
abbrev pub IsKeeperWithStripe : Sat → Type 0
IsKeeperWithStripe me = me ≡ (with_stripes (part_of me.0 ∷ []) me.0, [])

-- The view of a seat that takes in a stripe: the stripe's part in front.
abbrev pub with_stripe : View → View → View
with_stripe view other = record { stripes = part_of other ∷ view.stripes; keepers = view.keepers; pass = view.pass }

-- The table has the words of the plan and no slot.
abbrev pub IsBoard : TableId → Plan → Type 0
IsBoard table plan = IsPlan plan × (table.words ≡ 2 + 2 * plan.words) × (table.slots ≡ 0)

-- The words of a gate that was just made: the era and nobody, no place, and clear bitmaps.
abbrev pub first_words : Plan → List ℕ
first_words plan = slice_set (replicate (2 + 2 * plan.words) 0) 0 (plan.era * 4294967296)

-- A seat whose view's first stripe is that one, before any act.
abbrev pub IsFirstStripe : ℕ → Sat → Type 0
IsFirstStripe d me =
    me ≡ (record { stripes = new_stripe d ∷ other_stripes me.0.stripes; keepers = me.0.keepers; pass = me.0.pass }, [])

-- A seat whose view has the stripes from one number to another, before any act, and all else of a view.
abbrev pub IsRow : ℕ → ℕ → View → Sat → Type 0
IsRow first stripes view me =
    me ≡ (record { stripes = tabulate first (stripes - first) new_stripe; keepers = view.keepers; pass = view.pass }, [])

-- A seat whose view's one keeper is that of an era, before any act.
abbrev pub IsLastKeeper : ℕ → Sat → Type 0
IsLastKeeper era me = me ≡ (record { stripes = me.0.stripes; keepers = new_keeper era ∷ []; pass = me.0.pass }, [])
