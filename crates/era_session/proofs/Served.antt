-- What a request to the metadata did, whatever it asks.
use Rattle.std.proofs.Common.{◌≢◌, ◌≤◌, length, refl, arith}
use Rattle.std.specs.Prelude.{Option, Some, None, option_to_list}
use Rattle.era_base.specs.declared.disk.Disk.{Ghosts}
use Rattle.era_base.specs.declared.ids.CmdId.{CmdId}
use Rattle.era_gate.specs.Calls.{PassToken}
use Rattle.era_gate.specs.Passes.{no_write}
use Rattle.era_model.specs.declared.command.Request.{Request}
use Rattle.era_model.specs.declared.command.Request.TheVariants.{Checkpoint, TakeSnap, DropSnap, Digest, Status, List as ListRequest}
use Rattle.era_model.specs.declared.event.Event.{Event}
use Rattle.era_model.specs.declared.reply.Answer.{Answer}
use Rattle.era_session.specs.Receipts.{PassDrew}
use Rattle.era_session.specs.Requests.{KeeperCalled, RequestDrew, RequestWent, request_event, request_events}
use Rattle.era_session.specs.Serving.{RequestDid}
use Rattle.era_session.specs.Sessions.{DrawsAtMost}
use Rattle.era_session.specs.declared.session.Session.{Session}
use Rattle.era_session.proofs.Receipts.{own-trail, trail-wider}
use Rattle.era_stripe.specs.Results.{only}

-- what the keeper's call did and drew is what the request did
pub request-did : {D : Type 0} (disk : Ghosts D) (id : CmdId) (request : Request) (answer : Answer) (old new : Session D) → request ≢ Checkpoint → KeeperCalled disk (RequestWent disk id request answer) answer old new
    → RequestDrew (request_events id request answer) old new → RequestDid disk id request answer old new
request-did disk id Checkpoint answer old new other called drew = absurd (other refl)
request-did disk id TakeSnap answer old new other called drew = (called, drew)
request-did disk id DropSnap answer old new other called drew = (called, drew)
request-did disk id Digest answer old new other called drew = (called, drew)
request-did disk id Status answer old new other called drew = (called, drew)
request-did disk id (ListRequest since snap) answer old new other called drew = (called, drew)

pub at-most-one : (event : Option Event) → length (option_to_list event) ≤ 24
at-most-one None = omega arith
at-most-one (Some event) = omega arith

-- it drew an event at most, and issued no write
pub request-draws : (id : CmdId) (request : Request) (answer : Answer) (a b : PassToken) → PassDrew (request_events id request answer) no_write a b → DrawsAtMost 24 (only id) a b
request-draws id request answer a b drew = record {
  drawn = length (request_events id request answer);
  few = at-most-one (request_event id request answer);
  keeps = (trail-wider (request_events id request answer) _ no_write (only id) a b (λ other none. refl) (own-trail (request_events id request answer) no_write a b drew)).drew.keeps;
}
