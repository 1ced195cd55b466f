-- The text of a session from its pieces: its first line, the replies to the commands that were served, and its last lines.
use Rattle.std.proofs.Common.{◌≡◌, ℕ, ◌+◌, List, [], ◌∷◌, ◌++◌, length, take, refl, ap, ap₂, sym, suc, ◌∙◌, append_assoc, length-append, arith}
use Rattle.std.specs.Prelude.{Option, Some, Contains}
use Rattle.std.proofs.Math.Seq.{take-append-add}
use Rattle.std.proofs.lemmas.List.{take-append-le, append-nil}
use Rattle.era_base.specs.Streams.{GivesFront}
use Rattle.era_model.specs.Commands.{events_of}
use Rattle.era_model.specs.Transcript.{reply_line, replies_text, rounds_text}
use Rattle.era_model.specs.declared.history.Happening.{Happening}
use Rattle.era_served.specs.Served.{Served, commands_of, joined, rounds_of, served_text}
use Rattle.era_session.specs.Trails.{with_places}

-- a front of a piece, given behind what was done, is a front of all
pub front-within : (before done piece rest : List ℕ) (after : Option (List ℕ)) → GivesFront (before ++ done) piece after → GivesFront before (done ++ (piece ++ rest)) after
front-within before done piece rest after front = record {
  count = length done + front.count;
  enough = simp length-append (omega (arith, front.enough));
  given = front.given ∙ ap (λ bytes. Some bytes) (append_assoc before done (take front.count piece)
      ∙ ap (λ bytes. before ++ bytes) (sym (take-append-add done (piece ++ rest) front.count
      ∙ ap (λ bytes. done ++ bytes) (take-append-le front.count piece rest front.enough))));
}

-- a front of a text is one of a longer one
pub front-longer : (before first rest : List ℕ) (given : Option (List ℕ)) → GivesFront before first given → GivesFront before (first ++ rest) given
front-longer before first rest given front = record {
  count = front.count;
  enough = simp length-append (omega (arith, front.enough));
  given = front.given ∙ ap (λ (bytes : List ℕ). Some (before ++ bytes)) (sym (take-append-le front.count first rest front.enough));
}

-- the text of commands, and of more
pub served-more : (one other : List Served) → served_text (one ++ other) ≡ served_text one ++ served_text other
served-more [] other = refl
served-more (served ∷ one) other = ap (λ text. reply_line served.command.line (with_places served.trail) ++ text) (served-more one other)
    ∙ sym (append_assoc (reply_line served.command.line (with_places served.trail)) (served_text one) (served_text other))

-- all commands of rounds, and of more
pub joined-more : (rounds more : List (List Served)) → joined (rounds ++ more) ≡ joined rounds ++ joined more
joined-more [] more = refl
joined-more (round ∷ rounds) more = ap (λ served. round ++ served) (joined-more rounds more) ∙ sym (append_assoc round (joined rounds) (joined more))

-- Each of these commands has its trail as its events.
abbrev pub HaveTrails : List Happening → List Served → Type 0
HaveTrails h [] = Unit {0}
HaveTrails h (one ∷ served) = (events_of h one.command.id ≡ with_places one.trail) × HaveTrails h served

pub have-trails : (h : List Happening) (served : List Served) → ((one : Served) → Contains served one → events_of h one.command.id ≡ with_places one.trail) → HaveTrails h served
have-trails h [] have = tt
have-trails h (one ∷ served) have = (
  have one (0, omega arith, refl),
  have-trails h served (λ other among. have other (suc among.0, omega (arith, among.1), among.2)),
)

pub have-parts : (h : List Happening) (one other : List Served) → HaveTrails h (one ++ other) → HaveTrails h one × HaveTrails h other
have-parts h [] other have = (tt, have)
have-parts h (served ∷ one) other have = let rest = have-parts h one other have.1 in ((have.0, rest.0), rest.1)

-- the replies by the journal are those by the trails
pub replies-by-trails : (h : List Happening) (served : List Served) → HaveTrails h served → replies_text h (commands_of served) ≡ served_text served
replies-by-trails h [] have = refl
replies-by-trails h (one ∷ served) have =
    ap₂ (λ (line rest : List ℕ). line ++ rest) (ap (reply_line one.command.line) have.0) (replies-by-trails h served have.1)

-- and those of rounds
pub rounds-by-trails : (h : List Happening) (rounds : List (List Served)) → HaveTrails h (joined rounds) → rounds_text h (rounds_of rounds) ≡ served_text (joined rounds)
rounds-by-trails h [] have = refl
rounds-by-trails h (round ∷ rounds) have =
    let parts = have-parts h round (joined rounds) have in
    ap₂ (λ (one rest : List ℕ). (one ++ []) ++ rest) (replies-by-trails h round parts.0) (rounds-by-trails h rounds parts.1)
    ∙ ap (λ (text : List ℕ). text ++ served_text (joined rounds)) (append-nil (served_text round))
    ∙ sym (served-more round (joined rounds))
