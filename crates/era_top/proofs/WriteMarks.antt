-- A write that is about to be issued: its block is marked, where it needs a mark.
use Rattle.std.proofs.Common.{◌≡◌, ℕ, ◌+◌, ◌<◌, Bool, true, false, ◌==◌, List, [], ◌∷◌, ◌++◌, length, Some, None, refl, sym, ◌∙◌, subst, arith}
use Rattle.std.specs.Prelude.{if◌then◌else◌}
use Rattle.era_base.specs.Flags.{has}
use Rattle.era_base.specs.declared.geometry.Geometry.{Geometry}
use Rattle.era_base.specs.Geometry.{blocks_of}
use Rattle.era_model.specs.declared.event.Event.{Event}
use Rattle.era_model.specs.declared.event.Event.TheVariants.{Tried, Mark}
use Rattle.era_model.specs.declared.history.Happening.{Happening}
use Rattle.era_model.specs.declared.history.Happening.TheVariants.{Happened}
use Rattle.era_model.specs.Commands.{events_of}
use Rattle.era_model.specs.Counts.{FaultyDisk, CountsAreWithin, last_count}
use Rattle.era_model.specs.Events.{drawn_by, is_go_of}
use Rattle.era_model.specs.History.{at_opening, blocks_at, is_open, era_of, in_flight, next_place, content}
use Rattle.era_model.specs.Journal.{session_opening}
use Rattle.era_model.specs.Legal.{IsLegal}
use Rattle.era_model.specs.MarkLaws.{LastsAreBounded, MarkGivesEra}
use Rattle.era_model.specs.Marking.{is_marked_in, journal_last_era, some_event}
use Rattle.era_model.specs.Marks.{BlockMarks, with_block}
use Rattle.era_model.specs.SessionRun.{AreAllDrawnBy}
use Rattle.era_model.specs.declared.command.Task.{Task}
use Rattle.era_top.specs.declared.outcome.Outcome.{Outcome}
use Rattle.era_top.specs.Outcomes.{EventSubject, era_after_all}
use Rattle.era_top.specs.Runs.{lane_zero, commands_from, place_of_write, task_of_write, FollowJournal, IsJournalOf, IsBetween, HasDrawnNothing, Write}
use Rattle.era_top.proofs.Journals.{same_number, same_command, other_number, other_number_back, at_opening-known, own-event, other-event, drawn-more, drawn-last}
use Rattle.era_top.proofs.MarkSteps.{follow-mark, follow-marked, marked-last}

-- a command stays fresh at an event of another one
pub fresh-after : (h : List Happening) (event : Event) (n m : ℕ) → drawn_by event ≡ lane_zero n → n < m → is_go_of (lane_zero m) event ≡ false → HasDrawnNothing h m → HasDrawnNothing (Happened event ∷ h) m
fresh-after h event n m drawn later go fresh = record {
  no_event = other-event h event n m drawn (other_number n m later) ∙ fresh.no_event;
  no_go = rw go fresh.no_go;
}

-- The write that is about to be issued.
pub record Issue : Type 0 where
  pub write : Write
  pub place : ℕ × ℕ
  pub era : ℕ
  pub marks : Bool
  pub start : ℕ

-- What its events name.
abbrev pub issue_at : ℕ → Issue → EventSubject
issue_at n issue =
    record { id = lane_zero n; era = issue.era; block = issue.place.0; first = issue.place.1; bytes = issue.write.bytes; since = 0 }

-- The events of its mark.
abbrev pub mark_events : Bool → EventSubject → ℕ → List (ℕ × Event)
mark_events true subject start = (start, Tried subject.id subject.block subject.era) ∷ (start + 1, Mark subject.id subject.block subject.era) ∷ []
mark_events false subject start = []

-- The place of the write itself.
abbrev pub go_place : Bool → ℕ → ℕ
go_place true start = start + 2
go_place false start = start

-- The journal is ready for the write: its block is marked in the era, and nothing is in flight.
pub record IsReady (g : Geometry) (contents : List ℕ) (tasks : List Task) (outcomes : List Outcome) (issue : Issue) (marks : BlockMarks) (before h : List Happening) : Type 0 where
  pub placed : place_of_write g issue.write ≡ Some issue.place
  pub opened : at_opening None (λ o. Some o) h ≡ Some (session_opening g contents)
  pub ongoing : is_open h ≡ true
  pub legal : IsLegal h
  pub era : era_of h ≡ issue.era
  pub quiet : in_flight h ≡ []
  pub own : events_of h (lane_zero (length tasks)) ≡ mark_events issue.marks (issue_at (length tasks) issue) issue.start
  pub next : next_place h ≡ go_place issue.marks issue.start
  pub no_go : some_event h (is_go_of (lane_zero (length tasks))) ≡ false
  pub kept : (m : ℕ) → m < length tasks → events_of h (lane_zero m) ≡ events_of before (lane_zero m)
  pub drawn : AreAllDrawnBy (commands_from 0 (tasks ++ task_of_write issue.write ∷ [])) h
  pub fresh : (m : ℕ) → length tasks < m → HasDrawnNothing h m
  pub follow : FollowJournal g marks issue.era h
  pub lasts : (block : ℕ) → journal_last_era h block ≡ (if issue.place.0 == block then issue.era else journal_last_era before block)
  pub has_mark : is_marked_in h issue.place.0 issue.era ≡ true
  pub no_fault : (at_opening now : FaultyDisk → ℕ) → CountsAreWithin at_opening now h
  pub untold : (disk : FaultyDisk) → last_count h disk ≡ None
  pub same : (block : ℕ) → content h block ≡ content before block

-- a block that is marked needs no mark
pub ready-marked : (g : Geometry) (contents : List ℕ) (tasks : List Task) (outcomes : List Outcome) (marks : BlockMarks) (h : List Happening) (write : Write) (place : ℕ × ℕ)
    → IsJournalOf g contents tasks outcomes h → IsBetween g tasks marks (era_after_all 1 outcomes) h → place_of_write g write ≡ Some place → place.0 < blocks_of g.sectors g.block_sectors
    → has marks.current place.0 ≡ true → MarkGivesEra marks place.0 → LastsAreBounded marks
    → IsReady g contents tasks outcomes (record { write = write; place = place; era = era_after_all 1 outcomes; marks = false; start = next_place h }) (with_block marks place.0) h h
ready-marked g contents tasks outcomes marks h write place journal between placed within is gives bounded =
    let era = era_after_all 1 outcomes in
    record {
      placed = placed;
      opened = journal.opened;
      ongoing = journal.ongoing;
      legal = journal.legal;
      era = journal.era;
      quiet = between.quiet;
      own = (between.fresh (length tasks) (omega arith)).no_event;
      next = refl;
      no_go = (between.fresh (length tasks) (omega arith)).no_go;
      kept = λ m less. refl;
      drawn = drawn-more tasks (task_of_write write) h journal.drawn;
      fresh = λ m later. between.fresh m (omega arith);
      follow = follow-marked g marks era place.0 h between.follow within is gives bounded;
      lasts = marked-last g marks era place.0 h between.follow is bounded;
      has_mark = sym (between.follow.current place.0) ∙ is;
      no_fault = between.no_fault;
      untold = between.untold;
      same = λ block. refl;
    }

-- a block that has no mark is marked first
pub ready-unmarked : (g : Geometry) (contents : List ℕ) (tasks : List Task) (outcomes : List Outcome) (marks : BlockMarks) (h : List Happening) (write : Write) (place : ℕ × ℕ)
    → IsJournalOf g contents tasks outcomes h → IsBetween g tasks marks (era_after_all 1 outcomes) h → place_of_write g write ≡ Some place → place.0 < blocks_of g.sectors g.block_sectors
    → has marks.current place.0 ≡ false → MarkGivesEra marks place.0
    → IsReady g contents tasks outcomes (record { write = write; place = place; era = era_after_all 1 outcomes; marks = true; start = next_place h }) (with_block marks place.0) h
    (Happened (Mark (lane_zero (length tasks)) place.0 (era_after_all 1 outcomes)) ∷ Happened (Tried (lane_zero (length tasks)) place.0 (era_after_all 1 outcomes)) ∷ h)
ready-unmarked g contents tasks outcomes marks h write place journal between placed within is gives =
    let n = length tasks in
    let id = lane_zero n in
    let era = era_after_all 1 outcomes in
    let tried : List Happening = Happened (Tried id place.0 era) ∷ h in
    let of_origin : place.0 < at_opening 0 blocks_at h = subst (λ b. place.0 < b) (sym (at_opening-known 0 blocks_at (session_opening g contents) h journal.opened)) within in
    let before = (between.fresh n (omega arith)).no_event in
    record {
      placed = placed;
      opened = journal.opened;
      ongoing = journal.ongoing;
      legal = (
        journal.ongoing,
        record { of_origin = of_origin; tried = rw (same_command n) refl; present = sym journal.era },
        (journal.ongoing, record { of_origin = of_origin; present = sym journal.era; unmarked = sym (between.follow.current place.0) ∙ is }, journal.legal),
      );
      era = journal.era;
      quiet = between.quiet;
      own = own-event tried (Mark id place.0 era) n _ (next_place h + 1) refl (own-event h (Tried id place.0 era) n [] (next_place h) refl before refl) refl;
      next = (omega arith);
      no_go = (between.fresh n (omega arith)).no_go;
      kept = λ m less. let apart = other_number_back n m (omega arith) in other-event tried (Mark id place.0 era) n m refl apart ∙ other-event h (Tried id place.0 era) n m refl apart;
      drawn = drawn-last tasks (task_of_write write) tried (Mark id place.0 era) refl (drawn-last tasks (task_of_write write) h (Tried id place.0 era) refl (drawn-more tasks (task_of_write write) h journal.drawn));
      fresh = λ m later. fresh-after tried (Mark id place.0 era) n m refl later refl (fresh-after h (Tried id place.0 era) n m refl later refl (between.fresh m (omega arith)));
      follow = follow-mark g marks era place.0 id tried (asked between.follow) within gives;
      lasts = λ block. refl;
      has_mark = rw (same_number place.0, same_number era) refl;
      no_fault = λ at now. (tt, (tt, between.no_fault at now));
      untold = between.untold;
      same = λ block. refl;
    }
  where
    -- a request leaves the marks
    asked : FollowJournal g marks (era_after_all 1 outcomes) h → FollowJournal g marks (era_after_all 1 outcomes) (Happened (Tried (lane_zero (length tasks)) place.0 (era_after_all 1 outcomes)) ∷ h)
    asked follow = record {
      sectors = follow.sectors;
      block_sectors = follow.block_sectors;
      valid = follow.valid;
      present = follow.present;
      current = follow.current;
      lasts = follow.lasts;
      none_later = follow.none_later;
    }
