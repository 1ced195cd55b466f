use Rattle.std.proofs.Common.{◌≡◌, true, List, ℕ, ◌++◌, refl, sym, subst}
use Rattle.era_line.proofs.Gathering.{front-longer}
use Rattle.era_serve.specs.Replying.{IsToldBy, Tells, Told, told_at}
use Rattle.era_serve.proofs.ServedSteps.{loses-none}
use Rattle.era_serve.proofs.replies.give_unless_lost.Goals as goal

-- the sink has failed, and a front of the text is one of more of it
tells-longer : (told : Told) (before text more : List ℕ) → told.replies.lost ≡ true → Tells before text told → Tells before (text ++ more) told
tells-longer told before text more lost is =
    subst (λ b. IsToldBy b before (text ++ more) told.given told.replies.text) (sym lost)
    (front-longer before text more told.given (subst (λ b. IsToldBy b before text told.given told.replies.text) lost is))

pub returns-then-replies : goal.returns-then-replies
returns-then-replies g c =
    let told = told_at g.K.Sink c.args.replies.now c.args.sink.now in
    record {
      text = λ before text is. tells-longer told before text _ c.if-replies.true is;
      loses = loses-none told;
      fault = refl;
      memory = refl;
    }
