-- What a history says of its last moment. A history is a list of happenings, the latest first; the words here stop where the session opened.
use Rattle.std.specs.Prelude.{ℕ, ◌+◌, Bool, true, false, List, [], ◌∷◌, Option, Some, None, is_some}
use Rattle.era_base.specs.Geometry.{blocks_of, stripe_of}
use Rattle.era_model.specs.declared.event.Event.TheVariants.{Go, Done, Cut, Settle, Roll}
use Rattle.era_model.specs.declared.opening.Opening.{Opening}
use Rattle.era_model.specs.declared.history.Happening.{Happening}
use Rattle.era_model.specs.declared.history.Happening.TheVariants.{Opened, Happened, Crashed}
use Rattle.era_model.specs.declared.flight.FlightWrite.{FlightWrite}
use Rattle.era_model.specs.Writes.{without, with_cut, write_of, bytes_of, content_after_write, block_bytes}

-- Something of the session's opening, or else what stands for none.
abbrev pub at_opening : {T : Type 0} → T → (Opening → T) → List Happening → T
at_opening none of [] = none
at_opening none of (Opened opening ∷ earlier) = of opening
at_opening none of (happening ∷ earlier) = at_opening none of earlier

-- How many blocks the opening's origin has.
abbrev pub blocks_at : Opening → ℕ
blocks_at opening = blocks_of opening.geometry.sectors opening.geometry.block_sectors

-- How many blocks the origin has.
abbrev pub blocks_now : List Happening → ℕ
blocks_now h = at_opening 0 blocks_at h

-- The stripe of a block.
abbrev pub stripe_now : List Happening → ℕ → ℕ
stripe_now h block = at_opening 0 (λ opening. stripe_of (blocks_at opening) opening.stripes block) h

-- The contents of the origin at an opening, none where they aren't known.
abbrev pub known_bytes : Option (List ℕ) → List ℕ
known_bytes None = []
known_bytes (Some bytes) = bytes

-- The contents of the origin at the opening, no bytes where they aren't known.
abbrev pub contents_of : Opening → List ℕ
contents_of opening = known_bytes opening.contents.bytes

-- Whether the opening tells the contents of the origin.
abbrev pub knows_contents : List Happening → Bool
knows_contents h = at_opening false (λ opening. is_some opening.contents.bytes) h

-- Whether a session is open.
abbrev pub is_open : List Happening → Bool
is_open [] = false
is_open (Opened opening ∷ earlier) = true
is_open (Happened event ∷ earlier) = is_open earlier
is_open (Crashed images ∷ earlier) = false

-- The place that the next event of the session draws: how many events there were since its opening.
abbrev pub next_place : List Happening → ℕ
next_place [] = 0
next_place (Happened event ∷ earlier) = next_place earlier + 1
next_place (happening ∷ earlier) = 0

-- The present era: that of the last switch, else the opening's.
abbrev pub era_of : List Happening → ℕ
era_of [] = 0
era_of (Opened opening ∷ earlier) = opening.era
era_of (Happened (Roll id era) ∷ earlier) = era
era_of (happening ∷ earlier) = era_of earlier

-- The writes in flight: those that were issued and neither acknowledged nor resolved.
abbrev pub in_flight : List Happening → List FlightWrite
in_flight [] = []
in_flight (Opened opening ∷ earlier) = []
in_flight (Happened (Go id block era first bytes) ∷ earlier) =
    record { id = id; block = block; first = first; bytes = bytes; cut = false } ∷ in_flight earlier
in_flight (Happened (Done id) ∷ earlier) = without (in_flight earlier) id
in_flight (Happened (Cut id faults) ∷ earlier) = with_cut (in_flight earlier) id
in_flight (Happened (Settle by cut bytes) ∷ earlier) = without (in_flight earlier) cut
in_flight (happening ∷ earlier) = in_flight earlier

-- The content of a block: that of the opening, with each write that was acknowledged or resolved.
abbrev pub content : List Happening → ℕ → List ℕ
content [] block = []
content (Opened opening ∷ earlier) block = block_bytes opening.geometry.block_sectors (contents_of opening) block
content (Happened (Done id) ∷ earlier) block =
    content_after_write (content earlier block) block (write_of (in_flight earlier) id) (bytes_of (write_of (in_flight earlier) id))
content (Happened (Settle by cut bytes) ∷ earlier) block =
    content_after_write (content earlier block) block (write_of (in_flight earlier) cut) bytes
content (happening ∷ earlier) block = content earlier block
