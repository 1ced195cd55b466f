-- What the commands that a session served leave in its pass: each its own trail in its lane, and no write of another command.
use Rattle.std.proofs.Common.{◌≡◌, ℕ, zero, suc, ◌+◌, ◌*◌, ◌≤◌, ◌||◌, Bool, true, false, List, [], ◌∷◌, ◌++◌, length, append_assoc, append-nil, refl, sym, ap, ◌∙◌, subst, arith}
use Rattle.std.proofs.lemmas.Bool.{true≢false}
use Rattle.era_base.specs.Flags.{tabulate}
use Rattle.era_base.specs.declared.disk.Disk.{Ghosts}
use Rattle.era_base.specs.declared.ids.CmdId.{CmdId}
use Rattle.era_gate.specs.Calls.{has_gone}
use Rattle.era_gate.specs.Parts.{new_lane}
use Rattle.era_gate.specs.Rule.{Each}
use Rattle.era_gate.specs.declared.parts.PassPart.{PassPart}
use Rattle.era_model.specs.Commands.{answer_of}
use Rattle.era_model.specs.Events.{drawn_by, same_id}
use Rattle.era_model.specs.SessionRun.{is_among}
use Rattle.era_model.specs.declared.command.Task.{Task}
use Rattle.era_model.specs.declared.entry.Entry.{Entry}
use Rattle.era_model.specs.declared.reply.Answer.{Answer}
use Rattle.era_served.specs.Served.{AreOfLane, HasServed, HasServedAll, IsNew, Served, commands_of, entries_of}
use Rattle.era_served.proofs.LaneEntries.{HasOnly, got-lanes, new-lanes, of-lane}
use Rattle.era_served.proofs.TrailEvents.{OwnsTrail}
use Rattle.era_session.specs.Serving.{TaskDid}
use Rattle.era_session.specs.Sessions.{SessionFits}
use Rattle.era_session.specs.Trails.{LeavesTrail, with_places}
use Rattle.era_session.specs.declared.session.Session.{Session}

-- Each command that does its task leaves its trail.
abbrev pub LeaveTrails : {D : Type 0} → Ghosts D → Type 0
LeaveTrails {D} disk =
    (id : CmdId) (task : Task) (answer : Answer) (old new : Session D) → SessionFits disk old → TaskDid disk id task answer old new → LeavesTrail id task answer old new

-- A trail fixes the answer.
abbrev pub FixesAnswer : Served → Type 0
FixesAnswer one = answer_of (with_places one.trail) ≡ one.answer

module _ {D : Type 0} (disk : Ghosts D) (leave : LeaveTrails disk) where
  left : (one : Served) (old new : Session D) → HasServed disk one old new → LeavesTrail one.command.id one.command.task one.answer old new
  left one old new has = leave one.command.id one.command.task one.answer old new has.fits has.did

  owns : (one : Served) (old new : Session D) → HasServed disk one old new → OwnsTrail one
  owns one old new has = subst (Each (λ (e : Entry). drawn_by e.event ≡ one.command.id)) has.trail (left one old new has).own

  pub all-own : (served : List Served) (old new : Session D) → HasServedAll disk served old new → Each OwnsTrail served
  all-own [] old new has = tt
  all-own (one ∷ more) old new has = (owns one old has.0 has.1, all-own more has.0 new has.2)

  pub all-answer : (served : List Served) (old new : Session D) → HasServedAll disk served old new → Each FixesAnswer served
  all-answer [] old new has = tt
  all-answer (one ∷ more) old new has =
      (subst (λ es. answer_of (with_places es) ≡ one.answer) has.1.trail (left one old has.0 has.1).answers, all-answer more has.0 new has.2)

  -- the lanes after one command of a lane, and after more of them
  one-lanes : (lane number : ℕ) (one : Served) (old new : Session D) (es : List Entry) → HasServed disk one old new → one.command.id ≡ record { lane = lane; number = number } → Each (HasOnly lane es) old.pass.part.lanes
      → Each (HasOnly lane (es ++ one.trail)) new.pass.part.lanes
  one-lanes lane number one old new es has is only =
      let drew = (left one old new has).drew in
      let trail = sym (left one old new has).trail ∙ has.trail in
      let own = of-lane lane number one.trail (subst (λ id. Each (λ (e : Entry). drawn_by e.event ≡ id) one.trail) is (owns one old new has)) in
      subst (Each (HasOnly lane (es ++ one.trail))) (sym drew.lanes) (got-lanes lane es one.trail drew.receipts old.pass.part.lanes trail own only)

  pub all-lanes : (lane number : ℕ) (served : List Served) (old new : Session D) (es : List Entry) → HasServedAll disk served old new → AreOfLane lane number (commands_of served) → Each (HasOnly lane es) old.pass.part.lanes
      → Each (HasOnly lane (es ++ entries_of served)) new.pass.part.lanes
  all-lanes lane number [] old new es has are only =
      subst (λ (s : Session D). Each (HasOnly lane (es ++ [])) s.pass.part.lanes) (sym has) (subst (λ xs. Each (HasOnly lane xs) old.pass.part.lanes) (sym (append-nil es)) only)
  all-lanes lane number (one ∷ more) old new es has are only =
      subst (λ xs. Each (HasOnly lane xs) new.pass.part.lanes) (append_assoc es one.trail (entries_of more))
      (all-lanes lane (number + 1) more has.0 new (es ++ one.trail) has.2 are.1 (one-lanes lane number one old has.0 es has.1 are.0 only))

-- a session in which nothing was drawn
pub new-only : {D : Type 0} (lane : ℕ) (session : Session D) → IsNew session → Each (HasOnly lane []) session.pass.part.lanes
new-only lane session new = subst (λ (pass : PassPart). Each (HasOnly lane []) pass.lanes) (sym new) (new-lanes lane 0 65)

none-gone : (id : CmdId) (first count : ℕ) → has_gone id (tabulate first count new_lane) ≡ false
none-gone id first zero = refl
none-gone id first (suc count) = none-gone id (first + 1) count

new-gone : {D : Type 0} (id : CmdId) (session : Session D) → IsNew session → has_gone id session.pass.part.lanes ≡ false
new-gone id session new = ap (λ (pass : PassPart). has_gone id pass.lanes) new ∙ none-gone id 0 65

-- where a command is none of some
first-other : (b rest : Bool) → (b || rest) ≡ false → b ≡ false
first-other true rest none = absurd (true≢false none)
first-other false rest none = refl

more-other : (b rest : Bool) → (b || rest) ≡ false → rest ≡ false
more-other true rest none = absurd (true≢false none)
more-other false rest none = none

others-kept : {D : Type 0} (disk : Ghosts D) (served : List Served) (old new : Session D) (id : CmdId) → HasServedAll disk served old new → is_among id (commands_of served) ≡ false
    → has_gone id new.pass.part.lanes ≡ has_gone id old.pass.part.lanes
others-kept {D} disk [] old new id has none = ap (λ (s : Session D). has_gone id s.pass.part.lanes) has
others-kept disk (one ∷ more) old new id has none =
    others-kept disk more has.0 new id has.2 (more-other (same_id one.command.id id) (is_among id (commands_of more)) none)
    ∙ has.1.draws.keeps.gone id (first-other (same_id one.command.id id) (is_among id (commands_of more)) none)

pub others-gone : {D : Type 0} (disk : Ghosts D) (served : List Served) (first last : Session D) (id : CmdId) → IsNew first → HasServedAll disk served first last → is_among id (commands_of served) ≡ false
    → has_gone id last.pass.part.lanes ≡ false
others-gone disk served first last id new has none = others-kept disk served first last id has none ∙ new-gone id first new

-- how many places are left
budget-step : (old between new drawn more : ℕ) → between + drawn ≡ old → drawn ≤ 24 → between ≤ new + 24 * more → old ≤ new + 24 * suc more
budget-step old between new drawn more is few rest = omega (arith, is, few, rest)

pub budget-left : {D : Type 0} (disk : Ghosts D) (served : List Served) (old new : Session D) → HasServedAll disk served old new → old.pass.part.budget ≤ new.pass.part.budget + 24 * length served
budget-left {D} disk [] old new has = let same = ap (λ (s : Session D). s.pass.part.budget) has in omega (arith, same)
budget-left disk (one ∷ more) old new has =
    let draws = has.1.draws in
    budget-step old.pass.part.budget has.0.pass.part.budget new.pass.part.budget draws.drawn (length more) draws.keeps.budget draws.few (budget-left disk more has.0 new has.2)
