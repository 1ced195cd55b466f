-- The journal of a session that served the commands of one lane: its entries, the events of each command, its era and its places.
use Rattle.std.proofs.Common.{◌≡◌, ℕ, ◌+◌, ◌<◌, List, [], ◌∷◌, length, filter, slice_index_or, refl, sym, ap, ◌∙◌, arith}
use Rattle.std.specs.Prelude.{All}
use Rattle.era_account.specs.Account.{HasEnded}
use Rattle.era_base.specs.declared.disk.Disk.{Ghosts}
use Rattle.era_gate.specs.Acts.{Act, IsLegalFrom, lane_of, opened, reach}
use Rattle.era_gate.specs.Drawn.{drawn}
use Rattle.era_gate.specs.Receipts.{entries_for, entries_in}
use Rattle.era_gate.specs.declared.states.KeeperState.{KeeperState}
use Rattle.era_journal.specs.ActsLog.{log_of}
use Rattle.era_keeper.specs.Keepers.{view_of as keeper_view}
use Rattle.era_model.specs.History.{era_of, next_place}
use Rattle.era_model.specs.Journal.{AreNumberedFrom, history_after}
use Rattle.era_model.specs.Marks.{BlockMarks}
use Rattle.era_model.specs.declared.entry.Entry.{Entry}
use Rattle.era_model.specs.declared.history.Happening.TheVariants.{Opened}
use Rattle.era_model.specs.declared.journal.Journal.{Journal}
use Rattle.era_model.specs.declared.opening.Opening.{Opening}
use Rattle.era_notes.specs.Logs.{Draw, drawer_history, logged_history, noted_entries, own_entries}
use Rattle.era_notes.specs.Notes.{Note, entries_of as noted, own_history}
use Rattle.era_notes.specs.OwnDraws.{StripesDraw}
use Rattle.era_promise.specs.Owners.{logged_entries}
use Rattle.era_promise.proofs.LogPlaces.{whole-log}
use Rattle.era_served.specs.Served.{HasRun, Served, entries_of, history_of}
use Rattle.era_served.proofs.LaneEntries.{all-drawn, told-lane}
use Rattle.era_served.proofs.ServedPasses.{LeaveTrails, all-lanes, all-own, new-only}
use Rattle.era_served.proofs.TrailEvents.{HasEvents, events-after, have-trails, is_by, place-after}
use Rattle.era_session.specs.Trails.{with_places}
use Rattle.era_session.specs.declared.session.Session.{Session}

-- What acts drew are the entries of their log, and the receipts of each lane are those of its commands, which are of 65 lanes.
pub record LaneLaws : Type 0 where
  pub entries : (keeper : ℕ) (acts : List Act) → drawn 0 acts ≡ logged_entries (log_of keeper acts)
  pub lanes : (l era : ℕ) (acts : List Act) → entries_in ((reach (opened era) acts).lane l) ≡ entries_for l (drawn 0 acts)
  pub few : (n era : ℕ) (acts : List Act) → IsLegalFrom n (opened era) acts → All (λ (entry : Entry). lane_of entry.event < 65) (drawn 0 acts)

lane-below : (lane : ℕ) → lane < 64 → lane < 65
lane-below lane low = omega (arith, low)

pub journal-entries : LaneLaws → {D : Type 0} (disk : Ghosts D) → LeaveTrails disk → (journal : Journal) (lane : ℕ) (served : List Served) (first last : Session D) (places : ℕ) (acts : List Act)
    → HasRun disk journal lane served first last places acts → journal.entries ≡ entries_of served
journal-entries laws disk leave journal lane served first last places acts run =
    let drew = run.ended.drew in
    let plan = last.gate.plan in
    let told = (reach (opened plan.era) acts).lane in
    let only = all-lanes disk leave lane 0 served first last [] run.all run.of_lane (new-only lane first run.begun) in
    run.ended.entries ∙ sym (laws.entries journal.opening.stripes acts)
    ∙ all-drawn lane (entries_of served) (drawn 0 acts) (lane-below lane run.lane_is) (laws.few plan.stripes plan.era acts drew.legal)
    (λ l below. sym (laws.lanes l plan.era acts) ∙ told-lane told lane (entries_of served) last.pass.part.lanes l (drew.every_lane l below) drew.receipts only)

-- the events of each command
pub command-events : {D : Type 0} (disk : Ghosts D) → LeaveTrails disk → (journal : Journal) (lane : ℕ) (served : List Served) (first last : Session D) (places : ℕ) (acts : List Act)
    → HasRun disk journal lane served first last places acts → AreNumberedFrom 0 journal.entries → journal.entries ≡ entries_of served → All (HasEvents (history_of journal)) served
command-events disk leave journal lane served first last places acts run numbered are k d below =
    let one = slice_index_or served k d in
    let has = have-trails lane 0 served run.of_lane (all-own disk leave served first last run.all) in
    events-after (Opened journal.opening ∷ []) one.command.id journal.entries numbered
    ∙ ap (λ es. with_places (filter (is_by one.command.id) es)) are ∙ ap with_places (has k d below)

-- What the keeper's own draws say of the era.
pub record EraLaws : Type 0 where
  pub keeper : (n era : ℕ) (acts : List Act) (notes : List Note) → IsLegalFrom n (opened era) acts → noted notes ≡ (reach (opened era) acts).keeper.entries → noted_entries notes ≡ own_entries n (log_of n acts)
  pub history : (opening : Opening) (drawer : ℕ) (log : List Draw) (notes : List Note) → noted_entries notes ≡ own_entries drawer log → own_history opening notes ≡ drawer_history opening drawer log
  pub era : (opening : Opening) (keeper : ℕ) (log : List Draw) → StripesDraw keeper log → era_of (logged_history opening log) ≡ era_of (drawer_history opening keeper log)

pub journal-era : EraLaws → {D : Type 0} (disk : Ghosts D) (journal : Journal) (session : Session D) (places : ℕ) (acts : List Act) → HasEnded disk journal session places acts
    → IsLegalFrom journal.opening.stripes (opened journal.opening.era) acts → (keeper_view disk session.keeper).state ≡ (reach (opened journal.opening.era) acts).keeper
    → StripesDraw journal.opening.stripes (log_of journal.opening.stripes acts) → era_of (history_of journal) ≡ session.keeper.meta.marks.era
journal-era laws disk journal session places acts ended legal state draw =
    let opening = journal.opening in
    let log = log_of opening.stripes acts in
    let keeper = ended.stands.keeper in
    let notes = (keeper_view disk session.keeper).notes in
    let own = laws.keeper opening.stripes opening.era acts notes legal (keeper.own.entries ∙ ap (λ (s : KeeperState). s.entries) state) in
    ap (λ es. era_of (history_after (Opened opening ∷ []) es)) ended.entries
    ∙ ap era_of (whole-log opening log)
    ∙ laws.era opening opening.stripes log draw
    ∙ ap era_of (sym (laws.history opening opening.stripes log notes own))
    ∙ sym keeper.own.follows.era
    ∙ ap (λ (m : BlockMarks). m.era) (sym keeper.marks)

-- the next place
pub journal-places : {D : Type 0} (disk : Ghosts D) (journal : Journal) (session : Session D) (places : ℕ) (acts : List Act) → HasEnded disk journal session places acts
    → drawn 0 acts ≡ logged_entries (log_of journal.opening.stripes acts) → (reach (opened session.gate.plan.era) acts).places ≡ length (drawn 0 acts) → next_place (history_of journal) ≡ places
journal-places disk journal session places acts ended log count =
    let at : next_place (history_of journal) ≡ next_place (Opened journal.opening ∷ []) + length journal.entries = place-after (Opened journal.opening ∷ []) journal.entries in
    let none : next_place (Opened journal.opening ∷ []) ≡ 0 = refl in
    let same : length journal.entries ≡ length (drawn 0 acts) = ap (length {A = Entry}) (ended.entries ∙ sym log) in
    let all = ended.drew.drawn in
    omega (arith, at, none, same, count, all)
