-- What a drawer's own draws say of its blocks is what the whole log says of them.
use Rattle.std.proofs.Common.{◌≡◌, ◌↔◌, ℕ, ◌==◌, ◌||◌, Bool, true, false, List, [], ◌∷◌, Option, inl, inr, refl, sym, ap, ◌∙◌, subst, eqb-true, eq-eqb}
use Rattle.std.specs.Prelude.{filter, slice_index, length}
use Rattle.std.proofs.lemmas.Bool.{or_left, or_right, or_cases, cond_both, false≢true}
use Rattle.era_base.specs.declared.ids.CmdId.{CmdId}
use Rattle.era_model.specs.declared.event.Event.{Event}
use Rattle.era_model.specs.declared.event.Event.TheVariants.{Go, Done, Cut, Settle}
use Rattle.era_model.specs.declared.flight.FlightWrite.{FlightWrite}
use Rattle.era_model.specs.declared.history.Happening.{Happening}
use Rattle.era_model.specs.declared.history.Happening.TheVariants.{Happened}
use Rattle.era_model.specs.declared.opening.Opening.{Opening}
use Rattle.era_model.specs.Changed.{IsCrashContent}
use Rattle.era_model.specs.Events.{same_id, is_go_of}
use Rattle.era_model.specs.History.{content, in_flight}
use Rattle.era_model.specs.Marking.{some_event}
use Rattle.era_model.specs.Writes.{without, with_cut, write_of, bytes_of, is_written_at, writes_byte, content_after_write}
use Rattle.era_notes.specs.Logs.{Draw, logged_history, own_draws, drawer_history}
use Rattle.era_notes.specs.OwnDraws.{OwnsDraw, AreOwnDraws, flights_of}
use Rattle.era_notes.proofs.FlightLists.{has_write, AreApart, writing-has, cut-has, has-filter, apart-filter, apart-with_cut, has-with_cut, without-none, with_cut-none, other-none, found-among, content-elsewhere}

-- whether a write is of a drawer's block
abbrev is_of : (ℕ → ℕ) → ℕ → FlightWrite → Bool
is_of drawer_of drawer write = drawer_of write.block == drawer

-- what a log and its drawers' own draws have in common
pub record Agree (opening : Opening) (drawer_of : ℕ → ℕ) (log : List Draw) : Type 0 where
  pub apart : AreApart (in_flight (logged_history opening log))
  pub gone : (id : CmdId) → has_write (in_flight (logged_history opening log)) id ≡ true → some_event (logged_history opening log) (is_go_of id) ≡ true
  pub flights : (drawer : ℕ) → flights_of drawer_of drawer (in_flight (logged_history opening log)) ≡ in_flight (drawer_history opening drawer log)
  pub contents : (drawer block : ℕ) → drawer_of block ≡ drawer → content (logged_history opening log) block ≡ content (drawer_history opening drawer log) block

filter-without : (test : FlightWrite → Bool) (writes : List FlightWrite) (id : CmdId) → filter test (without writes id) ≡ without (filter test writes) id
filter-without test [] id = refl
filter-without test (write ∷ writes) id = step (test write) (same_id write.id id) refl refl (filter-without test writes id) where
  step : (b c : Bool) → test write ≡ b → same_id write.id id ≡ c → filter test (without writes id) ≡ without (filter test writes) id
      → filter test (without (write ∷ writes) id) ≡ without (filter test (write ∷ writes)) id
  step true true is_b is_c rest = simp (is_b, is_c) rest
  step true false is_b is_c rest = simp (is_b, is_c) (ap (λ ws. write ∷ ws) rest)
  step false true is_b is_c rest = simp (is_b, is_c) rest
  step false false is_b is_c rest = simp (is_b, is_c) rest

flights-with_cut : (drawer_of : ℕ → ℕ) (drawer : ℕ) (writes : List FlightWrite) (id : CmdId) → flights_of drawer_of drawer (with_cut writes id) ≡ with_cut (flights_of drawer_of drawer writes) id
flights-with_cut drawer_of drawer [] id = refl
flights-with_cut drawer_of drawer (write ∷ writes) id = step (drawer_of write.block == drawer) (same_id write.id id) refl refl (flights-with_cut drawer_of drawer writes id) where
  step : (b c : Bool) → (drawer_of write.block == drawer) ≡ b → same_id write.id id ≡ c → flights_of drawer_of drawer (with_cut writes id) ≡ with_cut (flights_of drawer_of drawer writes) id
      → flights_of drawer_of drawer (with_cut (write ∷ writes) id) ≡ with_cut (flights_of drawer_of drawer (write ∷ writes)) id
  step true true is_b is_c rest = simp (is_b, is_c) (ap (λ ws. record write { cut = true } ∷ ws) rest)
  step true false is_b is_c rest = simp (is_b, is_c) (ap (λ ws. write ∷ ws) rest)
  step false true is_b is_c rest = simp (is_b, is_c) rest
  step false false is_b is_c rest = simp (is_b, is_c) rest

-- a block of one drawer isn't another's
of-other : (drawer_of : ℕ → ℕ) (drawer other block : ℕ) → (drawer == other) ≡ false → (drawer_of block == drawer) ≡ true → (drawer_of block == other) ≡ false
of-other drawer_of drawer other block apart is = ap (λ d. d == other) (eqb-true (drawer_of block) drawer is) ∙ apart

not-of : (drawer_of : ℕ → ℕ) (drawer other block written : ℕ) → (drawer == other) ≡ false → drawer_of block ≡ other → (drawer_of written == drawer) ≡ true → (b : Bool) → (written == block) ≡ b → (written == block) ≡ false
not-of drawer_of drawer other block written apart of is false differs = differs
not-of drawer_of drawer other block written apart of is true same =
    let here : drawer ≡ other = sym (eqb-true (drawer_of written) drawer is) ∙ ap drawer_of (eqb-true written block same) ∙ of in
    absurd (false≢true (sym apart ∙ eq-eqb drawer other here))

not-block : (drawer_of : ℕ → ℕ) (drawer block written : ℕ) → drawer_of block ≡ drawer → (drawer_of written == drawer) ≡ false → (b : Bool) → (written == block) ≡ b → (written == block) ≡ false
not-block drawer_of drawer block written of off false differs = differs
not-block drawer_of drawer block written of off true same =
    absurd (false≢true (sym off ∙ eq-eqb (drawer_of written) drawer (ap drawer_of (eqb-true written block same) ∙ of)))

-- a draw whose command has a write of its own drawer in flight
record Mine (opening : Opening) (drawer_of : ℕ → ℕ) (log : List Draw) (drawer : ℕ) (id : CmdId) : Type 0 where
  pub agree : Agree opening drawer_of log
  pub has : has_write (in_flight (drawer_history opening drawer log)) id ≡ true

mine-has : (opening : Opening) (drawer_of : ℕ → ℕ) (log : List Draw) (drawer : ℕ) (id : CmdId) → Mine opening drawer_of log drawer id
    → has_write (flights_of drawer_of drawer (in_flight (logged_history opening log))) id ≡ true
mine-has opening drawer_of log drawer id mine = ap (λ writes. has_write writes id) (mine.agree.flights drawer) ∙ mine.has

others-none : (opening : Opening) (drawer_of : ℕ → ℕ) (log : List Draw) (drawer other : ℕ) (id : CmdId) → Mine opening drawer_of log drawer id → (drawer == other) ≡ false
    → has_write (flights_of drawer_of other (in_flight (logged_history opening log))) id ≡ false
others-none opening drawer_of log drawer other id mine apart =
    other-none (is_of drawer_of drawer) (is_of drawer_of other) (in_flight (logged_history opening log)) id (λ write is. of-other drawer_of drawer other write.block apart is)
    mine.agree.apart (mine-has opening drawer_of log drawer id mine)

-- the draw of one drawer, and what it makes of the log
abbrev drawn_by : ℕ → Event → List Draw → List Draw
drawn_by drawer event log = record { drawer = drawer; event = event } ∷ log

-- the write that is over: flights, contents, and all of it
over-flights : (opening : Opening) (drawer_of : ℕ → ℕ) (log : List Draw) (drawer : ℕ) (event : Event) (id : CmdId) → Mine opening drawer_of log drawer id
    → ((h : List Happening) → in_flight (Happened event ∷ h) ≡ without (in_flight h) id) → (other : ℕ)
    → flights_of drawer_of other (in_flight (logged_history opening (drawn_by drawer event log))) ≡ in_flight (drawer_history opening other (drawn_by drawer event log))
over-flights opening drawer_of log drawer event id mine over other =
    let apart = ap (flights_of drawer_of other) (over (logged_history opening log)) ∙ filter-without (is_of drawer_of other) (in_flight (logged_history opening log)) id in
    cond_both (drawer == other) (drawn_by drawer event (own_draws other log)) (own_draws other log)
    (λ ds. flights_of drawer_of other (in_flight (Happened event ∷ logged_history opening log)) ≡ in_flight (logged_history opening ds))
    (λ same. apart ∙ ap (λ writes. without writes id) (mine.agree.flights other) ∙ sym (over (drawer_history opening other log)))
    (λ off. apart ∙ without-none (flights_of drawer_of other (in_flight (logged_history opening log))) id (others-none opening drawer_of log drawer other id mine off) ∙ mine.agree.flights other)

over-contents : (opening : Opening) (drawer_of : ℕ → ℕ) (log : List Draw) (drawer : ℕ) (event : Event) (id : CmdId) → Mine opening drawer_of log drawer id → (bytes : Option FlightWrite → List ℕ)
    → ((h : List Happening) (block : ℕ) → content (Happened event ∷ h) block ≡ content_after_write (content h block) block (write_of (in_flight h) id) (bytes (write_of (in_flight h) id)))
    → (other block : ℕ) → drawer_of block ≡ other
    → content (logged_history opening (drawn_by drawer event log)) block ≡ content (drawer_history opening other (drawn_by drawer event log)) block
over-contents opening drawer_of log drawer event id mine bytes put other block of =
    let whole = logged_history opening log in
    let own = drawer_history opening other log in
    let has = mine-has opening drawer_of log drawer id mine in
    cond_both (drawer == other) (drawn_by drawer event (own_draws other log)) (own_draws other log)
    (λ ds. content (Happened event ∷ whole) block ≡ content (logged_history opening ds) block)
    (λ same.
    let has = subst (λ d. has_write (flights_of drawer_of d (in_flight whole)) id ≡ true) (eqb-true drawer other same) has in
    let found = found-among (is_of drawer_of other) (in_flight whole) id mine.agree.apart has ∙ ap (λ writes. write_of writes id) (mine.agree.flights other) in
    put whole block ∙ ap (λ found. content_after_write (content whole block) block found (bytes found)) found
    ∙ ap (λ before. content_after_write before block (write_of (in_flight own) id) (bytes (write_of (in_flight own) id))) (mine.agree.contents other block of) ∙ sym (put own block))
    (λ off.
    let found = found-among (is_of drawer_of drawer) (in_flight whole) id mine.agree.apart has in
    put whole block ∙ ap (λ found. content_after_write (content whole block) block found (bytes found)) found
    ∙ content-elsewhere (is_of drawer_of drawer) (in_flight whole) id (content whole block) block bytes
    (λ write is. not-of drawer_of drawer other block write.block off of is (write.block == block) refl)
    ∙ mine.agree.contents other block of)

agree-over : (opening : Opening) (drawer_of : ℕ → ℕ) (log : List Draw) (drawer : ℕ) (event : Event) (id : CmdId) → Mine opening drawer_of log drawer id → (bytes : Option FlightWrite → List ℕ)
    → ((h : List Happening) → in_flight (Happened event ∷ h) ≡ without (in_flight h) id)
    → ((h : List Happening) (block : ℕ) → content (Happened event ∷ h) block ≡ content_after_write (content h block) block (write_of (in_flight h) id) (bytes (write_of (in_flight h) id)))
    → Agree opening drawer_of (drawn_by drawer event log)
agree-over opening drawer_of log drawer event id mine bytes over put =
    let whole = logged_history opening log in
    record {
      apart = subst AreApart (sym (over whole)) (apart-filter _ (in_flight whole) mine.agree.apart);
      gone = λ other has.
          let before = has-filter _ (in_flight whole) other (sym (ap (λ writes. has_write writes other) (over whole)) ∙ has) in
          or_right (is_go_of other event) (some_event whole (is_go_of other)) (mine.agree.gone other before);
      flights = over-flights opening drawer_of log drawer event id mine over;
      contents = over-contents opening drawer_of log drawer event id mine bytes put;
    }

-- a write that is issued
no-write : (opening : Opening) (drawer_of : ℕ → ℕ) (log : List Draw) (id : CmdId) → Agree opening drawer_of log → some_event (logged_history opening log) (is_go_of id) ≡ false
    → (b : Bool) → has_write (in_flight (logged_history opening log)) id ≡ b → b ≡ false
no-write opening drawer_of log id agree once false is = refl
no-write opening drawer_of log id agree once true is = absurd (false≢true (sym once ∙ agree.gone id is))

agree-go : (opening : Opening) (drawer_of : ℕ → ℕ) (log : List Draw) (drawer : ℕ) (id : CmdId) (block era first : ℕ) (bytes : List ℕ) → drawer_of block ≡ drawer
    → some_event (logged_history opening log) (is_go_of id) ≡ false → Agree opening drawer_of log → Agree opening drawer_of (drawn_by drawer (Go id block era first bytes) log)
agree-go opening drawer_of log drawer id block era first bytes of once agree =
    let whole = logged_history opening log in
    let write : FlightWrite = record { id = id; block = block; first = first; bytes = bytes; cut = false } in
    record {
      apart = (no-write opening drawer_of log id agree once (has_write (in_flight whole) id) refl, agree.apart);
      gone = λ other has. elim (or_cases (same_id id other) (has_write (in_flight whole) other) has) [
        | inl this ↦ or_left (same_id id other) (some_event whole (is_go_of other)) this
        | inr before ↦ or_right (same_id id other) (some_event whole (is_go_of other)) (agree.gone other before)
      ];
      flights = λ other. cond_both (drawer == other) (drawn_by drawer (Go id block era first bytes) (own_draws other log)) (own_draws other log)
          (λ ds. flights_of drawer_of other (write ∷ in_flight whole) ≡ in_flight (logged_history opening ds))
          (λ same. let is : (drawer_of block == other) ≡ true = ap (λ d. d == other) of ∙ same in rw is (ap (λ writes. write ∷ writes) (agree.flights other)))
          (λ off. let is : (drawer_of block == other) ≡ false = ap (λ d. d == other) of ∙ off in rw is (agree.flights other));
      contents = λ other b is. cond_both (drawer == other) (drawn_by drawer (Go id block era first bytes) (own_draws other log)) (own_draws other log)
          (λ ds. content whole b ≡ content (logged_history opening ds) b) (λ same. agree.contents other b is) (λ off. agree.contents other b is);
    }

-- a write that is cut
agree-cut : (opening : Opening) (drawer_of : ℕ → ℕ) (log : List Draw) (drawer : ℕ) (id : CmdId) (faults : ℕ) → Mine opening drawer_of log drawer id
    → Agree opening drawer_of (drawn_by drawer (Cut id faults) log)
agree-cut opening drawer_of log drawer id faults mine =
    let whole = logged_history opening log in
    record {
      apart = apart-with_cut (in_flight whole) id mine.agree.apart;
      gone = λ other has. mine.agree.gone other (sym (has-with_cut (in_flight whole) id other) ∙ has);
      flights = λ other.
          let apart = flights-with_cut drawer_of other (in_flight whole) id in
          cond_both (drawer == other) (drawn_by drawer (Cut id faults) (own_draws other log)) (own_draws other log)
          (λ ds. flights_of drawer_of other (with_cut (in_flight whole) id) ≡ in_flight (logged_history opening ds))
          (λ same. apart ∙ ap (λ writes. with_cut writes id) (mine.agree.flights other))
          (λ off. apart ∙ with_cut-none (flights_of drawer_of other (in_flight whole)) id (others-none opening drawer_of log drawer other id mine off) ∙ mine.agree.flights other);
      contents = λ other b is. cond_both (drawer == other) (drawn_by drawer (Cut id faults) (own_draws other log)) (own_draws other log)
          (λ ds. content whole b ≡ content (logged_history opening ds) b) (λ same. mine.agree.contents other b is) (λ off. mine.agree.contents other b is);
    }

-- any draw
agree-step : (opening : Opening) (drawer_of : ℕ → ℕ) (log : List Draw) (drawer : ℕ) (event : Event)
    → OwnsDraw drawer_of drawer (drawer_history opening drawer log) (logged_history opening log) event → Agree opening drawer_of log → Agree opening drawer_of (drawn_by drawer event log)
agree-step opening drawer_of log drawer (Go id block era first bytes) owns agree = agree-go opening drawer_of log drawer id block era first bytes owns.0 owns.1 agree
agree-step opening drawer_of log drawer (Done id) owns agree =
    agree-over opening drawer_of log drawer (Done id) id (record { agree = agree; has = writing-has (in_flight (drawer_history opening drawer log)) id owns }) bytes_of (λ h. refl) (λ h b. refl)
agree-step opening drawer_of log drawer (Cut id faults) owns agree =
    agree-cut opening drawer_of log drawer id faults (record { agree = agree; has = writing-has (in_flight (drawer_history opening drawer log)) id owns })
agree-step opening drawer_of log drawer (Settle by cut bytes) owns agree =
    agree-over opening drawer_of log drawer (Settle by cut bytes) cut (record { agree = agree; has = cut-has (in_flight (drawer_history opening drawer log)) cut owns }) (λ found. bytes) (λ h. refl) (λ h b. refl)
agree-step opening drawer_of log drawer event owns agree = record {
  apart = agree.apart;
  gone = λ other has. or_right (is_go_of other event) (some_event (logged_history opening log) (is_go_of other)) (agree.gone other has);
  flights = λ other. cond_both (drawer == other) (drawn_by drawer event (own_draws other log)) (own_draws other log)
      (λ ds. flights_of drawer_of other (in_flight (logged_history opening log)) ≡ in_flight (logged_history opening ds)) (λ same. agree.flights other) (λ off. agree.flights other);
  contents = λ other b is. cond_both (drawer == other) (drawn_by drawer event (own_draws other log)) (own_draws other log)
      (λ ds. content (logged_history opening log) b ≡ content (logged_history opening ds) b) (λ same. agree.contents other b is) (λ off. agree.contents other b is);
}

pub agree-all : (opening : Opening) (drawer_of : ℕ → ℕ) (log : List Draw) → AreOwnDraws opening drawer_of log → Agree opening drawer_of log
agree-all opening drawer_of [] owns = record { apart = tt; gone = λ id has. absurd (false≢true has); flights = λ drawer. refl; contents = λ drawer block is. refl }
agree-all opening drawer_of (draw ∷ log) owns = agree-step opening drawer_of log draw.drawer draw.event owns.0 (agree-all opening drawer_of log owns.1)

-- a byte of a drawer's block is being written exactly where it is by the drawer's own draws
written-by : (drawer_of : ℕ → ℕ) (drawer block offset : ℕ) (writes : List FlightWrite) → drawer_of block ≡ drawer → is_written_at (flights_of drawer_of drawer writes) block offset ≡ is_written_at writes block offset
written-by drawer_of drawer block offset [] of = refl
written-by drawer_of drawer block offset (write ∷ writes) of =
    let rest = written-by drawer_of drawer block offset writes of in
    cond_both (drawer_of write.block == drawer) (write ∷ flights_of drawer_of drawer writes) (flights_of drawer_of drawer writes) (λ ws. is_written_at ws block offset ≡ is_written_at (write ∷ writes) block offset)
    (λ on. ap (λ b. writes_byte write block offset || b) rest)
    (λ off. let other = not-block drawer_of drawer block write.block of off (write.block == block) refl in rw other rest)

pub crash-whole : (opening : Opening) (drawer_of : ℕ → ℕ) (log : List Draw) (drawer block : ℕ) (image : List ℕ) → AreOwnDraws opening drawer_of log → drawer_of block ≡ drawer
    → IsCrashContent (drawer_history opening drawer log) block image ↔ IsCrashContent (logged_history opening log) block image
crash-whole opening drawer_of log drawer block image owns of =
    let agree = agree-all opening drawer_of log owns in
    let same = agree.contents drawer block of in
    let flights = agree.flights drawer in (
      λ is. record {
        size = is.size ∙ sym (ap length same);
        same = λ offset clear.
            is.same offset (sym (ap (λ writes. is_written_at writes block offset) flights) ∙ written-by drawer_of drawer block offset (in_flight (logged_history opening log)) of ∙ clear)
            ∙ ap (λ (bytes : List ℕ). slice_index bytes offset) (sym same);
      },
      λ is. record {
        size = is.size ∙ ap length same;
        same = λ offset clear.
            is.same offset (sym (written-by drawer_of drawer block offset (in_flight (logged_history opening log)) of) ∙ ap (λ writes. is_written_at writes block offset) flights ∙ clear)
            ∙ ap (λ (bytes : List ℕ). slice_index bytes offset) same;
      },
    )
