-- A session's journal, its text and its status, from what it served.
use Rattle.std.proofs.Common.{◌≡◌, ℕ, ◌||◌, Bool, List, [], ◌∷◌, ◌++◌, refl, ap, ap₂, sym, suc, ◌∙◌, subst, append_assoc, inl, inr, arith}
use Rattle.std.specs.Prelude.{Contains, Option, Some, map}
use Rattle.std.specs.List.{flat_map, list_any}
use Rattle.era_model.specs.Commands.{Round, answer_of, events_of, round_of}
use Rattle.era_model.specs.History.{at_opening, era_of, next_place}
use Rattle.era_model.specs.Journal.{history_after}
use Rattle.era_model.specs.Transcript.{end_line, open_line, rounds_text, stop_line}
use Rattle.era_model.specs.declared.command.Command.{Command}
use Rattle.era_model.specs.declared.entry.Entry.{Entry}
use Rattle.era_model.specs.declared.history.Happening.{Happening}
use Rattle.era_model.specs.declared.history.Happening.TheVariants.{Opened}
use Rattle.era_model.specs.declared.opening.Opening.{Opening}
use Rattle.era_model.specs.declared.reply.Answer.{Answer}
use Rattle.era_run.specs.Accounts.{Told, rounds_of as told_rounds, some_answer, text_of}
use Rattle.era_run.specs.Endings.{told_stop}
use Rattle.era_run.specs.Reports.{PrintsSession, text_up_to}
use Rattle.era_run.proofs.Pieces.{PrintsPieces, replies_of}
use Rattle.era_run.proofs.Texts.{HaveTrails, joined-more, rounds-by-trails}
use Rattle.era_serve.specs.Stops.{commands_in}
use Rattle.era_served.specs.Served.{Served, commands_of, history_of, joined, rounds_of}
use Rattle.era_tools.specs.declared.status.Status.{Status}

-- the opening of a history
at-after : {T : Type 0} (none : T) (of : Opening → T) (h : List Happening) (entries : List Entry) → at_opening none of (history_after h entries) ≡ at_opening none of h
at-after none of h [] = refl
at-after none of h (entry ∷ entries) = at-after none of _ entries

-- the rounds that are told are those that were served
pub rounds-told : (rounds : List (List Served)) → map round_of (commands_in rounds) ≡ rounds_of rounds
rounds-told [] = refl
rounds-told (round ∷ rounds) = ap (λ (rest : List Round). round_of (commands_of round) ∷ rest) (rounds-told rounds)

commands-more : (one other : List Served) → commands_of (one ++ other) ≡ commands_of one ++ commands_of other
commands-more [] other = refl
commands-more (served ∷ one) other = ap (λ (rest : List Command). served.command ∷ rest) (commands-more one other)

commands-told : (rounds : List (List Served)) → flat_map (λ (round : List Command). round) (commands_in rounds) ≡ commands_of (joined rounds)
commands-told [] = refl
commands-told (round ∷ rounds) = ap (λ (rest : List Command). commands_of round ++ rest) (commands-told rounds) ∙ sym (commands-more round (joined rounds))

rounds-more : (earlier : List (List Served)) (last : List Served) → commands_in (earlier ++ last ∷ []) ≡ commands_in earlier ++ commands_of last ∷ []
rounds-more [] last = refl
rounds-more (round ∷ earlier) last = ap (λ (rest : List (List Command)). commands_of round ∷ rest) (rounds-more earlier last)

-- the answers by the journal are those that were given
some-told : (h : List Happening) (is : Answer → Bool) (served : List Served)
    → ((one : Served) → Contains served one → answer_of (events_of h one.command.id) ≡ one.answer)
    → list_any (λ (command : Command). is (answer_of (events_of h command.id))) (commands_of served) ≡ list_any (λ (one : Served). is one.answer) served
some-told h is [] answers = refl
some-told h is (one ∷ served) answers =
    ap₂ (λ (own rest : Bool). own || rest) (ap is (answers one (0, omega arith, refl)))
    (some-told h is served (λ other among. answers other (suc among.0, omega (arith, among.1), among.2)))

pub some-answer-told : (told : Told) (is : Answer → Bool) (rounds : List (List Served)) → told.rounds ≡ commands_in rounds
    → ((one : Served) → Contains (joined rounds) one → answer_of (events_of (history_of told.journal) one.command.id) ≡ one.answer)
    → some_answer is told ≡ list_any (λ (one : Served). is one.answer) (joined rounds)
some-answer-told told is rounds are answers =
    ap (λ (commands : List Command). list_any (λ (command : Command). is (answer_of (events_of (history_of told.journal) command.id))) commands)
    (ap (λ (rounds : List (List Command)). flat_map (λ (round : List Command). round) rounds) are ∙ commands-told rounds)
    ∙ some-told (history_of told.journal) is (joined rounds) answers

module _ (told : Told) (rounds : List (List Served)) (are : told.rounds ≡ commands_in rounds) (trails : HaveTrails (history_of told.journal) (joined rounds))
    (first : List ℕ) (opens : open_line told.journal.opening.geometry told.journal.opening.era ≡ first) where
  open-is : at_opening [] (λ opening. open_line opening.geometry opening.era) (history_of told.journal) ≡ first
  open-is = at-after [] (λ (opening : Opening). open_line opening.geometry opening.era) (Opened told.journal.opening ∷ []) told.journal.entries ∙ opens

  replies-is : rounds_text (history_of told.journal) (told_rounds told) ≡ replies_of rounds
  replies-is = ap (λ (all : List (List Command)). rounds_text (history_of told.journal) (map round_of all)) are
      ∙ ap (rounds_text (history_of told.journal)) (rounds-told rounds) ∙ rounds-by-trails (history_of told.journal) rounds trails

  -- its whole text
  text-is : (era places : ℕ) → era_of (history_of told.journal) ≡ era → next_place (history_of told.journal) ≡ places
      → text_of told ≡ first ++ (replies_of rounds ++ (stop_line (told_stop told.stop) ++ end_line era places))
  text-is era places in_era at =
      four _ _ _ _ _ _ (stop_line (told_stop told.stop)) open-is replies-is (ap₂ end_line in_era at)
    where
      four : (line line' replies replies' last last' stop : List ℕ) → line ≡ line' → replies ≡ replies' → last ≡ last'
          → ((line ++ replies) ++ stop) ++ last ≡ line' ++ (replies' ++ (stop ++ last'))
      four line line' replies replies' last last' stop a b d = rw (a, b, d) (simp append_assoc)

  -- and what was given of it
  pub prints-told : (era places : ℕ) (given given' : Option (List ℕ)) (ended result : Status) → era_of (history_of told.journal) ≡ era → next_place (history_of told.journal) ≡ places
      → PrintsPieces given given' first rounds (stop_line (told_stop told.stop) ++ end_line era places) ended result → PrintsSession told given given' ended result
  prints-told era places given given' ended result in_era at (inl all) = inl (
    all.0,
    (λ before is. all.1 before is ∙ ap (λ (text : List ℕ). Some (before ++ text)) (sym (text-is era places in_era at))),
  )
  prints-told era places given given' ended result in_era at (inr some) = inr (
    some.0,
    (λ before is.
        let front = some.1 before is in record {
          front = rw (text-is era places in_era at) front.front;
          reached = elim front.reached [
            | inl none ↦ inl (are ∙ ap commands_in none)
            | inr reached ↦ inr (record {
              earlier = commands_in reached.earlier;
              last = commands_of reached.last;
              split = are ∙ ap commands_in reached.split ∙ rounds-more reached.earlier reached.last;
              more = reached.more;
              given = reached.given ∙ ap (λ (text : List ℕ). Some (before ++ (text ++ reached.more))) (sym (up-to reached.earlier reached.last reached.split));
            })
          ];
        }),
  )
    where
      parts : (one other : List Served) → HaveTrails (history_of told.journal) (one ++ other) → HaveTrails (history_of told.journal) one
      parts [] other have = tt
      parts (served ∷ one) other have = (have.0, parts one other have.1)

      up-to : (earlier : List (List Served)) (last : List Served) → rounds ≡ earlier ++ last ∷ [] → text_up_to told (commands_in earlier) ≡ first ++ replies_of earlier
      up-to earlier last split =
          ap₂ (λ (line replies : List ℕ). line ++ replies) open-is
          (ap (rounds_text (history_of told.journal)) (rounds-told earlier)
          ∙ rounds-by-trails (history_of told.journal) earlier
          (parts (joined earlier) (joined (last ∷ [])) (subst (HaveTrails (history_of told.journal)) (ap joined split ∙ joined-more earlier (last ∷ [])) trails)))
