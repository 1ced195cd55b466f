-- What each event asks of the history before it: a record of conditions for each of them.
use Rattle.std.specs.Prelude.{◌≡◌, ℕ, ◌+◌, ◌*◌, ◌/◌, ◌%◌, ◌<◌, ◌≤◌, ◌==◌, ◌&&◌, max, nat_lt, nat_le, Bool, true, false, List, [], length, slice_index, Option, Some, None, is_some}
use Rattle.era_base.specs.Runs.{AreRuns, runs_cover}
use Rattle.era_base.specs.declared.ids.CmdId.{CmdId}
use Rattle.era_model.specs.declared.event.Event.TheVariants.{Tried}
use Rattle.era_model.specs.declared.history.Happening.{Happening}
use Rattle.era_model.specs.Events.{is_go_of}
use Rattle.era_model.specs.Marks.{BlockMarks, blocks_of_marks, written_since}
use Rattle.era_model.specs.Digest.{digest_of}
use Rattle.era_model.specs.Usage.{IsUsage, held_block}
use Rattle.era_model.specs.Writes.{is_writing, is_cut, is_cut_at, some_block, write_of, bytes_of}
use Rattle.era_model.specs.History.{at_opening, blocks_now, stripe_now, knows_contents, era_of, in_flight, content}
use Rattle.era_model.specs.Marking.{journal_last_era, marks_of, held_of, is_marked_in, some_event, last_drawn}
use Rattle.era_model.specs.CommandEvents.{written_stripe}
use Rattle.era_model.specs.SessionRun.{place_now}
use Rattle.era_model.specs.Counts.{PartCountAscends}

-- A write may ask for its block's mark in the present era, where it has none yet.
pub record MayTry (h : List Happening) (block era : ℕ) : Type 0 where
  pub of_origin : block < blocks_now h
  pub present : era ≡ era_of h
  pub unmarked : is_marked_in h block era ≡ false

-- A mark may be stored where asking for it is the last that its command did.
pub record MayMark (h : List Happening) (id : CmdId) (block era : ℕ) : Type 0 where
  pub of_origin : block < blocks_now h
  pub tried : last_drawn h id ≡ Some (Tried id block era)
  pub present : era ≡ era_of h

-- Whether a write of the block's stripe is in flight.
abbrev pub stripe_is_writing : List Happening → ℕ → Bool
stripe_is_writing h block = some_block (in_flight h) (λ written. stripe_now h written == stripe_now h block)

-- A write may be issued to a block that is marked in the present era, while no other write of its stripe is in flight, once for each command.
pub record MayGo (h : List Happening) (id : CmdId) (block era first : ℕ) (bytes : List ℕ) : Type 0 where
  pub of_origin : block < blocks_now h
  pub whole : length bytes % 512 ≡ 0
  pub place : place_now h (at_opening 0 (λ o. block * o.geometry.block_sectors + first) h) (length bytes / 512) ≡ Some (block, first)
  pub marked : is_marked_in h block era ≡ true
  pub present : era ≡ era_of h
  pub alone : stripe_is_writing h block ≡ false
  pub once : some_event h (is_go_of id) ≡ false

-- A write may be acknowledged where it is in flight and not cut.
pub record MayFinish (h : List Happening) (id : CmdId) : Type 0 where
  pub writing : is_writing (in_flight h) id ≡ true

-- A write may be cut where it is in flight and not cut; the count of its part rose.
pub record MayBeCut (h : List Happening) (id : CmdId) (faults : ℕ) : Type 0 where
  pub writing : is_writing (in_flight h) id ≡ true
  pub rose : PartCountAscends h (written_stripe h id) faults

-- A cut write may be resolved by as many bytes as it wrote.
pub record MaySettle (h : List Happening) (cut : CmdId) (bytes : List ℕ) : Type 0 where
  pub pending : is_cut (in_flight h) cut ≡ true
  pub size : length bytes ≡ length (bytes_of (write_of (in_flight h) cut))

-- A cut write may stay cut; the count of its part rose.
pub record MayStayCut (h : List Happening) (cut : CmdId) (faults : ℕ) : Type 0 where
  pub pending : is_cut (in_flight h) cut ≡ true
  pub rose : PartCountAscends h (written_stripe h cut) faults

-- A read may give the content of its block, and any bytes in the ranges of cut writes. Where the opening doesn't tell the contents of the origin, it may give any bytes.
pub record MayRead (h : List Happening) (sector : ℕ) (bytes : List ℕ) : Type 0 where
  pub whole : length bytes % 512 ≡ 0
  pub block : ℕ
  pub first : ℕ
  pub place : place_now h sector (length bytes / 512) ≡ Some (block, first)
  pub same : knows_contents h ≡ true → (offset : ℕ) → offset < length bytes → is_cut_at (in_flight h) block (first * 512 + offset) ≡ false
      → slice_index bytes offset ≡ slice_index (content h block) (first * 512 + offset)

-- The era may move to the next one while no write is in flight.
pub record MaySwitch (h : List Happening) (era : ℕ) : Type 0 where
  pub next : era ≡ era_of h + 1
  pub quiet : in_flight h ≡ []

-- The era may stay where from one stripe to all were inside.
pub record MayKeep (h : List Happening) (inside : ℕ) : Type 0 where
  pub some : 1 ≤ inside
  pub stripes : inside ≤ at_opening 0 (λ o. o.stripes) h

-- A snapshot may be taken, at metadata block 2, where none is held.
pub record MaySnap (h : List Happening) (block : ℕ) : Type 0 where
  pub block_two : block ≡ 2
  pub none : held_of h ≡ None

-- The snapshot may be dropped where one is held.
pub record MayDrop (h : List Happening) : Type 0 where
  pub held : is_some (held_of h) ≡ true

-- A digest does just what the archived sets and the array ask for.
pub record MayDigest (h : List Happening) (era : ℕ) (page : Option ℕ) : Type 0 where
  pub step : digest_of (marks_of h).archive (marks_of h).array ≡ Some (era, page)

-- Runs are exactly those of so many blocks that pass the test.
pub record ListsExactly (blocks : ℕ) (test : ℕ → Bool) (runs : List (ℕ × ℕ)) : Type 0 where
  pub maximal : AreRuns runs
  pub exact : (block : ℕ) → runs_cover runs block ≡ (nat_lt block blocks && test block)

-- A list by the snapshot may give exactly the blocks that its marks have since the era.
abbrev pub ListsSnapshot : Option BlockMarks → ℕ → List (ℕ × ℕ) → Type 0
ListsSnapshot None since runs = ⊥
ListsSnapshot (Some held) since runs = ListsExactly (blocks_of_marks held) (written_since held since) runs

-- A list may give exactly the blocks whose last marked era is at least that era, by the journal or by the snapshot.
abbrev pub MayList : List Happening → ℕ → Bool → List (ℕ × ℕ) → Type 0
MayList h since false runs = ListsExactly (blocks_now h) (λ block. nat_le (max since 1) (journal_last_era h block)) runs
MayList h since true runs = ListsSnapshot (held_of h) since runs

-- A status may tell the usage, the metadata blocks, the present era and the snapshot's block.
pub record MayTell (h : List Happening) (used total era : ℕ) (held : Option ℕ) : Type 0 where
  pub usage : IsUsage (marks_of h) (held_of h) used
  pub size : total ≡ at_opening 0 (λ o. o.total) h
  pub present : era ≡ era_of h
  pub snapshot : held ≡ held_block (held_of h)
