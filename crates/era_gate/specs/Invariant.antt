-- The invariant of a gate in eleven clauses: what its words and the views of all seats and passes show between any two steps.
use Rattle.std.specs.Prelude.{◌≡◌, ℕ, ◌+◌, ◌*◌, ◌/◌, ◌<◌, ◌≤◌, Bool, true, false, List, [], map, filter, length, slice_index, Option, Some, None, Contains}
use mathlib.Core.Option.{some}
use lib.ListN.{get_elem?}
use Rattle.era_base.specs.declared.ids.CmdId.{CmdId}
use Rattle.era_model.specs.declared.entry.Entry.{Entry}
use Rattle.era_model.specs.declared.event.Event.{Event}
use Rattle.era_model.specs.declared.event.Event.TheVariants.{Mark, Go, Roll}
use Rattle.era_model.specs.declared.flight.FlightWrite.{FlightWrite}
use Rattle.era_model.specs.Events.{is_go_of}
use Rattle.era_gate.specs.declared.stays.Miss.{Miss}
use Rattle.era_gate.specs.declared.stays.Told.{Told}
use Rattle.era_gate.specs.declared.parts.StripePart.{StripePart}
use Rattle.era_gate.specs.declared.parts.KeeperPart.{KeeperPart}
use Rattle.era_gate.specs.declared.parts.LanePart.{LanePart}
use Rattle.era_gate.specs.declared.parts.View.{View}
use Rattle.era_gate.specs.declared.plan.Plan.{Plan}
use Rattle.era_gate.specs.Acts.{entry, lane_of}
use Rattle.era_gate.specs.Eras.{write_of_event}
use Rattle.era_gate.specs.Gathered.{AscendFrom}
use Rattle.era_gate.specs.Loose.{AreStaysOf, is_loose, kept_in, place_and_count}
use Rattle.era_gate.specs.Parts.{has_stripe, has_keeper, has_lane}
use Rattle.era_gate.specs.Receipts.{entries_in, stays_in, stays_at, stays_for}
pub use Rattle.era_gate.specs.Together.{all_stripes, all_keepers, all_lanes, stripe_entries, keeper_entries, stripe_stays, entries_of}
use Rattle.era_gate.specs.Rule.{AreDistinct, Each, IsThere, bitmap_at, block_bit, budgets, weight}

-- The era of the gate word.
abbrev pub gate_era : List ℕ → ℕ
gate_era words = slice_index words 0 / 4294967296

-- Whether a stripe's seat is inside.
abbrev pub is_inside : StripePart → Bool
is_inside part = part.state.inside

-- Just one of the views passes the test.
abbrev pub InOneView : List View → (View → Bool) → Type 0
InOneView views test = (id : ℕ) × IsThere views id test × ((other : ℕ) → IsThere views other test → other ≡ id)

-- An entry stands in the view of that number.
abbrev pub StandsIn : List View → ℕ → Entry → Type 0
StandsIn views id e = (view : View) × (get_elem? views id ≡ some view) × Contains (entries_of view) e

-- The keeper's view has a drawn mark of the block in the era, at that place.
abbrev pub IsMarkedAt : List View → ℕ → ℕ → ℕ → Type 0
IsMarkedAt views block era place = (by : CmdId) × Contains (keeper_entries (all_keepers views)) (entry place (Mark by block era))

-- The keeper's view has a drawn mark of the block in the era.
abbrev pub IsMarked : List View → ℕ → ℕ → Type 0
IsMarked views block era = (place : ℕ) × IsMarkedAt views block era place

-- The gate word is its era times 2^32 plus the number of seats inside; each of them, and the keeper's view, has this era. Each stripe has one seat, and the keeper one view.
pub record GateWordCountsInside (plan : Plan) (words : List ℕ) (views : List View) : Type 0 where
  pub word : slice_index words 0 ≡ gate_era words * 4294967296 + length (filter is_inside (all_stripes views))
  pub stripes : Each (λ (part : StripePart). is_inside part ≡ true → part.era ≡ gate_era words) (all_stripes views)
  pub keepers : Each (λ (part : KeeperPart). part.state.era ≡ gate_era words) (all_keepers views)
  pub low : Each (λ (part : StripePart). part.stripe < plan.stripes) (all_stripes views)
  pub seats : (d : ℕ) → d < plan.stripes → has_stripe d (all_stripes views) ≡ true
  pub once : AreDistinct (all_stripes views)
  pub keeper : InOneView views (λ view. has_keeper view.keepers)

-- The order word is above every drawn place. Each place below it stands among the entries of exactly one view.
pub record NumbersDenseAndUnique (words : List ℕ) (views : List View) : Type 0 where
  pub below : (id : ℕ) (e : Entry) → StandsIn views id e → e.place < slice_index words 1
  pub dense : (place : ℕ) → place < slice_index words 1 → (id : ℕ) × (e : Entry) × StandsIn views id e × (e.place ≡ place)
  pub unique : (id other : ℕ) (x y : Entry) → StandsIn views id x → StandsIn views other y → x.place ≡ y.place → id ≡ other

-- Each set bit of the bitmap of the era's parity has a drawn mark of this block and era in the keeper's view.
abbrev pub SetBitsHaveMarks : Plan → List ℕ → List View → Type 0
SetBitsHaveMarks plan words views = (block : ℕ) → block < plan.blocks → block_bit plan words (gate_era words) block ≡ true → IsMarked views block (gate_era words)

-- Each block that a seat inside has seen has such a mark of its era, and so has each write that was issued, with a smaller place.
pub record MarksPrecedeWrites (views : List View) : Type 0 where
  pub seen : Each (λ (part : StripePart). is_inside part ≡ true → Each (λ block. IsMarked views block part.era) part.seen) (all_stripes views)
  pub issued : (place : ℕ) (id : CmdId) (block era first : ℕ) (bytes : List ℕ)
      → Contains (stripe_entries (all_stripes views)) (entry place (Go id block era first bytes))
      → (mark : ℕ) × (mark < place) × IsMarkedAt views block era mark

-- A stripe's open write is among its entries as issued in the seat's era.
abbrev pub OpenWriteIsOf : StripePart → Option FlightWrite → Type 0
OpenWriteIsOf part None = Unit {0}
OpenWriteIsOf part (Some write) = (place : ℕ) × Contains part.state.entries (entry place (Go write.id write.block part.era write.first write.bytes))

-- Each event of a stripe's write stands before any switch to a later era than that in which the write was issued, and the write itself behind any other switch.
pub record StaysInEra (views : List View) (part : StripePart) : Type 0 where
  pub ends : (go place switch : ℕ) (id by : CmdId) (block era first next : ℕ) (bytes : List ℕ) (event : Event)
      → Contains part.state.entries (entry go (Go id block era first bytes))
      → Contains part.state.entries (entry place event) → write_of_event event ≡ Some id
      → Contains (keeper_entries (all_keepers views)) (entry switch (Roll by next)) → era < next → place < switch
  pub begins : (go switch : ℕ) (id by : CmdId) (block era first next : ℕ) (bytes : List ℕ)
      → Contains part.state.entries (entry go (Go id block era first bytes))
      → Contains (keeper_entries (all_keepers views)) (entry switch (Roll by next)) → next ≤ era → switch < go

-- The keeper's view has switches only up to the word's era. An open write is of its seat's era, and all events of a write stand before the switch that ends its era.
pub record WritesStayInEra (words : List ℕ) (views : List View) : Type 0 where
  pub switches : (place : ℕ) (by : CmdId) (next : ℕ) → Contains (keeper_entries (all_keepers views)) (entry place (Roll by next)) → next ≤ gate_era words
  pub present : Each (λ (part : StripePart). OpenWriteIsOf part part.state.flight) (all_stripes views)
  pub eras : Each (StaysInEra views) (all_stripes views)

-- A seat outside has seen nothing and has no open write.
abbrev pub OutsideHoldsNothing : List View → Type 0
OutsideHoldsNothing views = Each (λ (part : StripePart). is_inside part ≡ false → (part.seen ≡ []) × (part.state.flight ≡ None)) (all_stripes views)

-- The words of the other bitmap that the keeper's view counts as cleared are 0, and it counts no more than a bitmap has.
pub record SpareIsClear (plan : Plan) (words : List ℕ) (part : KeeperPart) : Type 0 where
  pub clear : (i : ℕ) → i < part.cleared → slice_index words (bitmap_at plan (gate_era words + 1) + i) ≡ 0
  pub low : part.cleared ≤ plan.words

-- The refused switches among the keeper's entries are, in order, those told of failed exchanges: each has the place and the count of one of them.
abbrev pub KeptHaveFailedExchanges : List View → Type 0
KeptHaveFailedExchanges views = Each (λ (part : KeeperPart). map place_and_count part.state.told ≡ kept_in part.state.entries) (all_keepers views)

-- Each lane stands in one view alone. Two issues of writes of one command are one. A lane's receipts are exactly its entries in all views, by place, and its stays at each stripe, in order. What all views may draw and what was drawn add up to 2^60.
pub record ReceiptsAreConserved (words : List ℕ) (views : List View) : Type 0 where
  pub lanes : (l : ℕ) → l < 65 → InOneView views (λ view. has_lane l view.pass.lanes)
  pub once : (id : CmdId) (x y : Entry) → Contains (stripe_entries (all_stripes views)) x → Contains (stripe_entries (all_stripes views)) y
      → is_go_of id x.event ≡ true → is_go_of id y.event ≡ true → x ≡ y
  pub ascend : Each (λ (part : LanePart). AscendFrom 0 (entries_in part.receipts)) (all_lanes views)
  pub entries : Each (λ (part : LanePart). (e : Entry) → Contains (entries_in part.receipts) e → (lane_of e.event ≡ part.lane) × ((id : ℕ) × StandsIn views id e)) (all_lanes views)
  pub receipts : Each (λ (part : LanePart). (id : ℕ) (e : Entry) → StandsIn views id e → lane_of e.event ≡ part.lane → Contains (entries_in part.receipts) e) (all_lanes views)
  pub stays : Each (λ (part : LanePart). (d : ℕ) → stays_at d (stays_in part.receipts) ≡ stays_for part.lane (stays_at d (stripe_stays (all_stripes views)))) (all_lanes views)
  pub budget : slice_index words 1 + budgets views ≡ 1152921504606846976

-- A stripe's stays are numbered from 0 with floors up to the order word. Each stay that some view knows is among them, and the seat isn't inside by one that some view knows as ended.
pub record StaysAreKnown (words : List ℕ) (views : List View) (part : StripePart) : Type 0 where
  pub own : AreStaysOf part.stripe (slice_index words 1) 0 part.state.stays
  pub begun : Each (λ (view : View). slice_index view.pass.begun part.stripe ≤ length part.state.stays) views
  pub ended : Each (λ (view : View). slice_index view.pass.ended part.stripe + weight part.state.inside ≤ length part.state.stays) views

-- A failed exchange found at most as many stripes as there are stays that its pass didn't know as ended, with a floor up to the place.
abbrev pub IsAccounted : List View → ℕ → Miss → Type 0
IsAccounted views place miss = miss.found ≤ length (filter (is_loose place miss.ended) (stripe_stays (all_stripes views)))

-- The failed exchange whose refusal isn't drawn yet is accounted for by the order word.
abbrev pub IsAccountedNow : List ℕ → List View → Option Miss → Type 0
IsAccountedNow words views None = Unit {0}
IsAccountedNow words views (Some miss) = IsAccounted views (slice_index words 1) miss

-- Stays are known as they are, and account for each refused switch by its place, and for the one that isn't drawn yet by the order word.
pub record StaysAccountForKept (words : List ℕ) (views : List View) : Type 0 where
  pub known : Each (StaysAreKnown words views) (all_stripes views)
  pub told : Each (λ (part : KeeperPart). Each (λ (told : Told). IsAccounted views told.place told.miss) part.state.told) (all_keepers views)
  pub pending : Each (λ (part : KeeperPart). IsAccountedNow words views part.state.pending) (all_keepers views)

-- The gate's invariant.
pub record GateInvariant (plan : Plan) (words : List ℕ) (views : List View) : Type 0 where
  pub gate_word_counts_inside : GateWordCountsInside plan words views
  pub numbers_dense_and_unique : NumbersDenseAndUnique words views
  pub set_bit_has_mark : SetBitsHaveMarks plan words views
  pub mark_precedes_write : MarksPrecedeWrites views
  pub write_stays_in_era : WritesStayInEra words views
  pub outside_holds_nothing : OutsideHoldsNothing views
  pub spare_bitmap_is_clear : Each (SpareIsClear plan words) (all_keepers views)
  pub kept_has_failed_exchange : KeptHaveFailedExchanges views
  pub floor_is_past : Each (λ (view : View). view.pass.floor ≤ slice_index words 1) views
  pub receipts_are_conserved : ReceiptsAreConserved words views
  pub stays_account_for_kept : StaysAccountForKept words views
