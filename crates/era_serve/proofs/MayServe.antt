-- Which commands may be served behind others of their lane.
use Rattle.std.proofs.Common.{◌≡◌, ℕ, suc, inl, inr, ◌+◌, ◌<◌, ◌==◌, ◌&&◌, Bool, true, false, List, [], ◌∷◌, All, refl, ap, ◌∙◌, arith}
use Rattle.std.proofs.lemmas.Bool.Decides.{eqb_tells}
use Rattle.era_base.specs.declared.disk.Disk.{Ghosts}
use Rattle.era_base.specs.declared.ids.CmdId.{CmdId}
use Rattle.era_gate.specs.Calls.{has_gone}
use Rattle.era_model.specs.Events.{same_id}
use Rattle.era_model.specs.Tasks.{IsTask}
use Rattle.era_model.specs.declared.command.Command.{Command}
use Rattle.era_serve.specs.Replying.{HasReplied, MayServe, Told}
use Rattle.era_served.specs.Served.{HasServedAll, Served, commands_of}
use Rattle.era_session.specs.Sessions.{MayCommand}
use Rattle.era_session.specs.declared.session.Session.{Session}

abbrev Tasks : List Command → Type 0
Tasks commands = All (λ (command : Command). IsTask command.task) commands

and-false : (b : Bool) → (b && false) ≡ false
and-false true = refl
and-false false = refl

-- another number
pub others : (lane first number : ℕ) → first < number → same_id (record { lane = lane; number = first }) (record { lane = lane; number = number }) ≡ false
others lane first number less = elim (eqb_tells first number) [
  | inl same ↦ absurd (let is = same.1 in omega (arith, is, less))
  | inr other ↦ rw other.0 (and-false (lane == lane))
]

-- the first of the commands
pub may-first : {D : Type 0} (disk : Ghosts D) (session : Session D) (command : Command) (later : List Command) → MayServe disk session (command ∷ later) → MayServe disk session (command ∷ [])
may-first disk session command later may = record {
  fits = may.fits;
  lane = may.lane;
  lane_is = may.lane_is;
  first = may.first;
  numbered = (may.numbered.0, tt);
  fresh = may.fresh;
  tasks = λ k d less. let zero : k ≡ 0 = omega (arith, less) in rw zero (may.tasks 0 d (omega arith));
  budget = let b = may.budget in omega (arith, b);
}

-- it may begin
pub may-begin : {D : Type 0} (disk : Ghosts D) (session : Session D) (command : Command) (later : List Command) → MayServe disk session (command ∷ later) → MayCommand disk session command.id
may-begin disk session command later may = record {
  fits = may.fits;
  lane = let lane = ap (λ (id : CmdId). id.lane) may.numbered.0 in let less = may.lane_is in omega (arith, lane, less);
  budget = let b = may.budget in omega (arith, b);
}

pub may-once : {D : Type 0} (disk : Ghosts D) (session : Session D) (command : Command) (later : List Command) → MayServe disk session (command ∷ later) → has_gone command.id session.pass.part.lanes ≡ false
may-once disk session command later may = rw may.numbered.0 (may.fresh may.first (omega arith))

-- the others behind it
pub may-later : {D : Type 0} (disk : Ghosts D) (session new : Session D) (command : Command) (later : List Command) (told told' : Told) → MayServe disk session (command ∷ later)
    → HasReplied disk (command ∷ []) session new told told' → MayServe disk new later
may-later disk session new command later told told' may replied = by replied.served replied.are replied.all
  where
    by : (served : List Served) → commands_of served ≡ command ∷ [] → HasServedAll disk served session new → MayServe disk new later
    by [] are all = absurd (cc)
    by (one ∷ two ∷ more) are all = absurd (cc)
    by (one ∷ []) are (next, has, is) =
        let own : one.command ≡ command = cc in
        record {
          fits = replied.fits;
          lane = may.lane;
          lane_is = may.lane_is;
          first = may.first + 1;
          numbered = may.numbered.1;
          fresh = λ number after.
              ap (λ (s : Session _). has_gone (record { lane = may.lane; number = number }) s.pass.part.lanes) is
              ∙ has.draws.keeps.gone (record { lane = may.lane; number = number })
              (rw own (rw may.numbered.0 (others may.lane may.first number (omega (arith, after)))))
              ∙ may.fresh number (omega (arith, after));
          tasks = λ k d less. may.tasks (suc k) d (omega (arith, less));
          budget = let same = ap (λ (s : Session _). s.pass.part.budget) is in let b = may.budget in omega (arith, b, same, has.draws.few, has.draws.keeps.budget);
        }
