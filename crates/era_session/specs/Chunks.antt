-- The entries in the last chunks of a session's owners: those of the command that the owners were given their rooms for.
use Rattle.std.specs.Prelude.{◌≡◌, Bool, true, false, List, [], ◌∷◌, ◌++◌, Option, Some, None, if◌then◌else◌}
use Rattle.era_base.specs.declared.ids.CmdId.{CmdId}
use Rattle.era_gate.specs.Calls.{PassToken}
use Rattle.era_gate.specs.Receipts.{entries_in}
use Rattle.era_model.specs.declared.entry.Entry.{Entry}
use Rattle.era_model.specs.declared.event.Event.{Event}
use Rattle.era_model.specs.declared.event.Event.TheVariants.{Settle}
use Rattle.era_notes.specs.Rooms.{last_in}
use Rattle.era_notes.specs.declared.chunks.Chunks.{Chunks}
use Rattle.era_session.specs.Receipts.{PassDrew}
use Rattle.era_stripe.specs.declared.stripe.Stripe.{Stripe}

-- A pass was given the receipts of these events, in order, and of no others: their entries are the latest of an owner's last chunk.
pub record ChunkDrew (events : List Event) (issued : CmdId → Bool) (old new : PassToken) (chunks chunks' : Chunks) : Type 0 where
  pub drew : PassDrew events issued old new
  pub last : last_in chunks' ≡ last_in chunks ++ entries_in drew.receipts

-- Whether an event resolves a cut write.
abbrev pub resolves : Event → Bool
resolves (Settle by cut bytes) = true
resolves event = false

-- The entries of a write in the order in which they were drawn, from those at its stripe and those at the keeper: the resolution of an earlier write, those of the mark, and the others of the stripe.
abbrev pub write_trail : List Entry → List Entry → List Entry
write_trail [] marks = marks
write_trail (e ∷ rest) marks = if resolves e.event then e ∷ (marks ++ rest) else marks ++ e ∷ rest

-- The entries in the last chunk of a stripe, if it is there.
abbrev pub stripe_trail : {D : Type 0} → Option (Stripe D) → List Entry
stripe_trail None = []
stripe_trail (Some stripe) = last_in stripe.entries

-- The entries in the last chunks of stripes, one stripe after the other.
abbrev pub stripes_trail : {D : Type 0} → List (Stripe D) → List Entry
stripes_trail [] = []
stripes_trail (stripe ∷ stripes) = last_in stripe.entries ++ stripes_trail stripes
