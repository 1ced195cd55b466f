-- What a pass keeps through a call, and seats between calls.
use Rattle.std.proofs.Common.{◌≡◌, ℕ, ◌==◌, ◌||◌, cond, false, List, [], ◌∷◌, ◌++◌, map, refl, sym, ap, ◌∙◌}
use Rattle.era_base.specs.declared.ids.CmdId.{CmdId}
use Rattle.era_model.specs.declared.entry.Entry.{Entry}
use Rattle.era_model.specs.Events.{is_go_of}
use Rattle.era_gate.specs.declared.stays.Receipt.{Receipt}
use Rattle.era_gate.specs.declared.stays.Receipt.TheVariants.{OfEvent, OfStay}
use Rattle.era_gate.specs.declared.parts.LanePart.{LanePart}
use Rattle.era_gate.specs.Acts.{has_go}
use Rattle.era_gate.specs.Parts.{has_lane, stripe_view, keeper_view, stripe_with_pass, keeper_with_pass}
use Rattle.era_gate.specs.Calls.{has_gone, receives}
use Rattle.era_gate.specs.Plays.{Sat, part_of, keeper_of, IsStripeAt, IsKeeperAt}
use Rattle.era_gate.proofs.Choices.{cond_keeps}

-- a receipt changes no lane's number
pub receives_lanes : (l lane : ℕ) (receipt : Receipt) (parts : List LanePart) → has_lane l (map (receives lane receipt) parts) ≡ has_lane l parts
receives_lanes l lane receipt [] = refl
receives_lanes l lane receipt (part ∷ parts) = ap (λ b. (l == part.lane) || b) (receives_lanes l lane receipt parts)

-- receipts with one more, that isn't of a command's write

go_behind : (i : CmdId) (rs : List Receipt) (r : Receipt) → has_go i (r ∷ []) ≡ false → has_go i (rs ++ r ∷ []) ≡ has_go i rs
go_behind i [] r other = other
go_behind i (OfEvent e ∷ rs) r other = ap (λ b. is_go_of i e.event || b) (go_behind i rs r other)
go_behind i (OfStay stay ∷ rs) r other = go_behind i rs r other

pub receives_gone : (i : CmdId) (lane : ℕ) (receipt : Receipt) (parts : List LanePart) → has_go i (receipt ∷ []) ≡ false → has_gone i (map (receives lane receipt) parts) ≡ has_gone i parts
receives_gone i lane receipt [] other = refl
receives_gone i lane receipt (part ∷ parts) other =
    let here : has_go i (cond (part.lane == lane) (part.receipts ++ receipt ∷ []) part.receipts) ≡ has_go i part.receipts = cond_keeps (has_go i) (part.lane == lane) (part.receipts ++ receipt ∷ []) part.receipts (go_behind i part.receipts receipt other) in
    rw (here, receives_gone i lane receipt parts other) refl

-- an event that is no write of a command has no receipt of one
pub event_gone : (i : CmdId) (e : Entry) → is_go_of i e.event ≡ false → has_go i (OfEvent e ∷ []) ≡ false
event_gone i e other = rw other refl

-- a seat between calls has no pass
pub stripe_idle : (me : Sat) → me ≡ (stripe_view (part_of me.0), []) → IsStripeAt me
stripe_idle me is = is ∙ ap (λ (z : Sat). (stripe_with_pass (part_of me.0) z.0.pass, [])) (sym is)

pub keeper_idle : (me : Sat) → me ≡ (keeper_view (keeper_of me.0), []) → IsKeeperAt me
keeper_idle me is = is ∙ ap (λ (z : Sat). (keeper_with_pass (keeper_of me.0) z.0.pass, [])) (sym is)
