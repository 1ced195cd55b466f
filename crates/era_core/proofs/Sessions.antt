-- Each session of a legal history is legal by itself.
use Rattle.std.proofs.Common.{◌≡◌, true, List, [], ◌∷◌, refl, sym, ◌∙◌}
use Rattle.era_model.specs.declared.entry.Entry.{Entry}
use Rattle.era_model.specs.declared.history.Happening.{Happening}
use Rattle.era_model.specs.declared.history.Happening.TheVariants.{Opened, Happened, Crashed}
use Rattle.era_model.specs.declared.history.Images.{Images}
use Rattle.era_model.specs.declared.opening.Opening.{Opening}
use Rattle.era_model.specs.Crashes.{MayCrash}
use Rattle.era_model.specs.History.{is_open}
use Rattle.era_model.specs.Journal.{history_after}
use Rattle.era_model.specs.Legal.{IsLegal, IsOpening}
use Rattle.era_model.specs.Promises.{MarksFollowJournal}
use Rattle.era_core.specs.Schedules.{session_of}
use Rattle.era_core.proofs.Numbers.{crash-same, may-same}
use Rattle.era_core.proofs.Words.{SaysSame, same-event, same-opened}

-- the session says the same by itself
alone-same : (h : List Happening) → is_open h ≡ true → SaysSame h (session_of h)
alone-same [] open_now = absurd (cc)
alone-same (Opened opening ∷ h) open_now = same-opened opening h []
alone-same (Happened event ∷ h) open_now = same-event event h (session_of h) (alone-same h open_now)
alone-same (Crashed images ∷ h) open_now = absurd (cc)

-- what marks promise of a journal
abbrev pub Follow : Type 0
Follow = (h : List Happening) → IsLegal h → is_open h ≡ true → MarksFollowJournal h

-- an opening that is legal is that of a first session as well
opens-alone : Follow → (opening : Opening) (h : List Happening) → IsLegal (Opened opening ∷ h) → IsOpening opening
opens-alone follow opening [] legal = legal.0
opens-alone follow opening (Opened before ∷ h) legal = absurd legal.0
opens-alone follow opening (Happened event ∷ h) legal = absurd legal.0
opens-alone follow opening (Crashed images ∷ h) legal =
    let marks = follow (Opened opening ∷ Crashed images ∷ h) legal refl in
    record {
      valid = marks.valid;
      sectors = marks.sectors;
      block_sectors = marks.block_sectors;
      era = sym marks.era;
      held = marks.snapshot;
      some_stripe = legal.0.some_stripe;
      few_stripes = legal.0.few_stripes;
    }

-- the session is legal by itself
pub alone-legal : Follow → (h : List Happening) → IsLegal h → is_open h ≡ true → IsLegal (session_of h)
alone-legal follow [] legal open_now = tt
alone-legal follow (Opened opening ∷ h) legal open_now = (opens-alone follow opening h legal, tt)
alone-legal follow (Happened event ∷ h) legal open_now = (
  sym (alone-same h legal.0).ongoing ∙ legal.0,
  may-same h (session_of h) event (alone-same h legal.0) legal.1,
  alone-legal follow h legal.2 legal.0,
)
alone-legal follow (Crashed images ∷ h) legal open_now = absurd (cc)

-- entries go on from a legal history
legal-begun : (h : List Happening) (entries : List Entry) → IsLegal (history_after h entries) → IsLegal h
legal-begun h [] legal = legal
legal-begun h (entry ∷ entries) legal = (legal-begun (Happened entry.event ∷ h) entries legal).2

-- entries that are legal behind one history are legal behind another one that says the same
behind-same : (h h' : List Happening) (entries : List Entry) → SaysSame h h' → IsLegal h' → IsLegal (history_after h entries) → IsLegal (history_after h' entries)
behind-same h h' [] same here legal = here
behind-same h h' (entry ∷ entries) same here legal =
    let first = legal-begun (Happened entry.event ∷ h) entries legal in
    behind-same (Happened entry.event ∷ h) (Happened entry.event ∷ h') entries (same-event entry.event h h' same)
    (sym same.ongoing ∙ first.0, may-same h h' entry.event same first.1, here) legal

same-after : (h h' : List Happening) (entries : List Entry) → SaysSame h h' → SaysSame (history_after h entries) (history_after h' entries)
same-after h h' [] same = same
same-after h h' (entry ∷ entries) same = same-after (Happened entry.event ∷ h) (Happened entry.event ∷ h') entries (same-event entry.event h h' same)

-- a session behind others
pub legal-behind : (opening : Opening) (earlier : List Happening) (entries : List Entry) → IsLegal (Opened opening ∷ earlier) → IsLegal (history_after (Opened opening ∷ []) entries)
    → IsLegal (history_after (Opened opening ∷ earlier) entries)
legal-behind opening earlier entries here legal = behind-same (Opened opening ∷ []) (Opened opening ∷ earlier) entries (same-opened opening [] earlier) here legal

pub crash-behind : (opening : Opening) (earlier : List Happening) (entries : List Entry) (images : Images) → MayCrash (history_after (Opened opening ∷ []) entries) images
    → MayCrash (history_after (Opened opening ∷ earlier) entries) images
crash-behind opening earlier entries images may =
    crash-same (history_after (Opened opening ∷ []) entries) (history_after (Opened opening ∷ earlier) entries) images
    (same-after (Opened opening ∷ []) (Opened opening ∷ earlier) entries (same-opened opening [] earlier)) may
