-- Sessions in a row, each opened on what the one before left, as one history.
use Rattle.std.specs.Prelude.{◌≡◌, ◌⊎◌, ℕ, ◌≤◌, List, [], ◌∷◌, length, take}
use Rattle.era_model.specs.declared.history.Happening.{Happening}
use Rattle.era_model.specs.declared.history.Happening.TheVariants.{Opened, Crashed}
use Rattle.era_model.specs.declared.history.Images.{Images}
use Rattle.era_model.specs.declared.journal.Journal.{Journal}
use Rattle.era_model.specs.Journal.{AreNumberedFrom, history_after}
use Rattle.era_model.specs.Legal.{IsLegal}

-- A moment of a history: its last one, or a moment of what happened before.
abbrev pub IsMoment : List Happening → List Happening → Type 0
IsMoment [] moment = moment ≡ []
IsMoment (happening ∷ earlier) moment = (moment ≡ happening ∷ earlier) ⊎ IsMoment earlier moment

-- A session that crashed or ended: its journal, the place from which its entries are left out, and the images that were left.
pub record EndedSession : Type 0 where
  pub journal : Journal
  pub place : ℕ
  pub images : Images

-- The history with so many more sessions that ended, the first of them the earliest.
abbrev pub history_after_sessions : List Happening → List EndedSession → List Happening
history_after_sessions h [] = h
history_after_sessions h (session ∷ sessions) =
    history_after_sessions
    (Crashed session.images ∷ history_after (Opened session.journal.opening ∷ h) (take session.place session.journal.entries))
    sessions

-- The history of a chain: sessions that ended, and the journal of the last session.
abbrev pub history_of_chain : List EndedSession → Journal → List Happening
history_of_chain sessions journal = history_after (Opened journal.opening ∷ history_after_sessions [] sessions) journal.entries

-- The journals of the sessions that ended have their entries numbered from 0, and their places aren't past the end.
abbrev pub AreEndedSessions : List EndedSession → Type 0
AreEndedSessions [] = Unit {0}
AreEndedSessions (session ∷ sessions) =
    AreNumberedFrom 0 session.journal.entries × (session.place ≤ length session.journal.entries) × AreEndedSessions sessions

-- Journals in a row are a chain of sessions: each is numbered from 0, and each opened on what a crash or the end of the one before left.
pub record IsSessionChain (sessions : List EndedSession) (journal : Journal) : Type 0 where
  pub ended : AreEndedSessions sessions
  pub numbered : AreNumberedFrom 0 journal.entries
  pub legal : IsLegal (history_of_chain sessions journal)
