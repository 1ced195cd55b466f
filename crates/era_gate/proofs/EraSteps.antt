-- Each act keeps what is said of marks, switches and writes among entries.
use Rattle.std.proofs.Common.{◌≡◌, ℕ, ◌+◌, ◌≤◌, ◌==◌, ◌&&◌, true, List, [], ◌∷◌, ◌++◌, Option, Some, None, inl, inr, refl, sym, ap, ◌∙◌, subst, arith, eqb-true}
use Rattle.std.specs.Prelude.{Contains}
use Rattle.std.proofs.lemmas.Bool.{and_parts, or_cases, or_left, or_right, cases_lt, false≢true}
use Rattle.std.proofs.lemmas.List.Elements.{Contains-append_left, Contains-push, Contains-push_cases}
use Rattle.era_base.specs.declared.ids.CmdId.{CmdId}
use Rattle.era_model.specs.declared.entry.Entry.{Entry}
use Rattle.era_model.specs.declared.event.Event.{Event}
use Rattle.era_model.specs.declared.event.Event.TheVariants.{Mark, Go, Roll}
use Rattle.era_model.specs.declared.flight.FlightWrite.{FlightWrite}
use Rattle.era_model.specs.Events.{is_go_of}
use Rattle.era_gate.specs.Acts.{Account, stripe_drew, keeper_drew, after, entry, era_after_event, marked_after, has_go, GateMayGo, StripeMayDraw, KeeperMayDraw}
use Rattle.era_gate.specs.Eras.{WriteEndsInEra, write_of_event}
use Rattle.era_gate.proofs.AgreesWrites.{flies}
use Rattle.era_gate.proofs.AgreesOnce.{KeepsWrites, has_go-drawn, flies-drawn, unissued}
use Rattle.era_gate.proofs.EraEntries.{HasGo, KeepsEras, drew-cases, event-is, place-is, self-id, of-write}

-- the account after a stripe's event
abbrev drew : Account → ℕ → Event → Account
drew a k event = after a (stripe_drew k event)

-- the new entry issues a write only where that may be
new-go : (a : Account) (k : ℕ) (event : Event) (place : ℕ) (id : CmdId) (block era first : ℕ) (bytes : List ℕ) → StripeMayDraw a k event → entry a.places event ≡ entry place (Go id block era first bytes) → GateMayGo a k id block era
new-go a k event place id block era first bytes may same = subst (StripeMayDraw a k) (event-is a.places place event (Go id block era first bytes) same) may

-- it has its receipt
drew-gone : (a : Account) (k : ℕ) (event : Event) (d place : ℕ) (id : CmdId) (block era first : ℕ) (bytes : List ℕ) → KeepsEras a → HasGo (drew a k event) d place id block era first bytes
    → has_go id ((drew a k event).lane id.lane) ≡ true
drew-gone a k event d place id block era first bytes keeps is = has_go-drawn id event a.places (a.lane id.lane) ∙ elim (drew-cases a k event d (entry place (Go id block era first bytes)) is) [
  | inl old ↦ or_right (is_go_of id event) (has_go id (a.lane id.lane)) (keeps.gone d place id block era first bytes old)
  | inr new ↦ or_left (is_go_of id event) (has_go id (a.lane id.lane))
      (subst (λ (ev : Event). is_go_of id ev ≡ true) (sym (event-is a.places place event (Go id block era first bytes) new.1)) (self-id id))
]

-- a command that issues a write has no entry of an earlier one
drew-first : (a : Account) (k : ℕ) (event : Event) (d place : ℕ) (id : CmdId) (block era first : ℕ) (bytes : List ℕ) → KeepsEras a → StripeMayDraw a k event → is_go_of id event ≡ true → HasGo a d place id block era first bytes → ⊥
drew-first a k event d place id block era first bytes keeps may new old = false≢true (sym (unissued a k event id may new) ∙ keeps.gone d place id block era first bytes old)

-- a write that is open is of the present era
drew-present : (a : Account) (k : ℕ) (event : Event) (d place : ℕ) (id : CmdId) (block era first : ℕ) (bytes : List ℕ) → KeepsEras a → StripeMayDraw a k event
    → HasGo (drew a k event) d place id block era first bytes → flies ((drew a k event).stripe d).flight id ≡ true → era ≡ a.era
drew-present a k event d place id block era first bytes keeps may is open' = elim (drew-cases a k event d (entry place (Go id block era first bytes)) is) [
  | inl old ↦ elim (flies-drawn a k event d id open') [
    | inl before ↦ keeps.present d place id block era first bytes old before
    | inr new ↦ absurd (drew-first a k event d place id block era first bytes keeps may new.1 old)
  ]
  | inr new ↦ (new-go a k event place id block era first bytes may new.1).present
]

-- a write's events stand before a later switch
drew-ends : (a : Account) (k : ℕ) (event : Event) (d : ℕ) → KeepsEras a → StripeMayDraw a k event → WriteEndsInEra (drew a k event) d
drew-ends a k event d keeps may go place switch id by block era first next bytes other has is of switched later = elim (drew-cases a k event d (entry go (Go id block era first bytes)) has) [
  | inl old ↦ elim (drew-cases a k event d (entry place other) is) [
    | inl before ↦ keeps.ends d go place switch id by block era first next bytes other old before of switched later
    | inr new ↦
        let mine : write_of_event event ≡ Some id = ap write_of_event (event-is a.places place event other new.1) ∙ of in
        elim (of-write a k event id may mine) [
          | inl issue ↦ absurd (drew-first a k event d go id block era first bytes keeps may issue old)
          | inr open' ↦
              let now = keeps.present d go id block era first bytes old (subst (λ (j : ℕ). flies (a.stripe j).flight id ≡ true) (sym new.0) open') in
              let past = keeps.rolls switch by next switched in
              absurd (omega (arith, now, past))
        ]
  ]
  | inr new ↦
      let now = (new-go a k event go id block era first bytes may new.1).present in
      let past = keeps.rolls switch by next switched in
      absurd (omega (arith, now, past))
]

-- a stripe's event keeps all this
pub drew-keeps : (a : Account) (k : ℕ) (event : Event) → KeepsEras a → StripeMayDraw a k event → KeepsEras (drew a k event)
drew-keeps a k event keeps may = record {
  drawn = λ d e is. elim (drew-cases a k event d e is) [
    | inl old ↦ let before = keeps.drawn d e old in omega (arith, before)
    | inr new ↦ let at : a.places ≡ e.place = ap (λ (x : Entry). x.place) new.1 in omega arith
  ];
  kept = λ e is. let before = keeps.kept e is in omega (arith, before);
  marks = keeps.marks;
  rolls = keeps.rolls;
  gone = λ d place id block era first bytes is. drew-gone a k event d place id block era first bytes keeps is;
  eras = λ d place id block era first bytes is. elim (drew-cases a k event d (entry place (Go id block era first bytes)) is) [
    | inl old ↦ keeps.eras d place id block era first bytes old
    | inr new ↦ let now = (new-go a k event place id block era first bytes may new.1).present in omega (arith, now)
  ];
  present = λ d place id block era first bytes is open'. drew-present a k event d place id block era first bytes keeps may is open';
  precede = λ d place id block era first bytes is. elim (drew-cases a k event d (entry place (Go id block era first bytes)) is) [
    | inl old ↦ keeps.precede d place id block era first bytes old
    | inr new ↦
        let mark = keeps.marks block era (new-go a k event place id block era first bytes may new.1).marked in
        let below = keeps.kept (entry mark.0 (Mark mark.1 block era)) mark.2 in
        let at = place-is a.places place event (Go id block era first bytes) new.1 in
        (mark.0, mark.1, omega (arith, below, at), mark.2)
  ];
  ends = λ d. drew-ends a k event d keeps may;
  begins = λ d go switch id by block era first next bytes has switched early. elim (drew-cases a k event d (entry go (Go id block era first bytes)) has) [
    | inl old ↦ keeps.begins d go switch id by block era first next bytes old switched early
    | inr new ↦
        let below = keeps.kept (entry switch (Roll by next)) switched in
        let at = place-is a.places go event (Go id block era first bytes) new.1 in
        omega (arith, below, at)
  ];
}

-- the account after the keeper's event
abbrev kept_by_keeper : Account → Event → Account
kept_by_keeper a event = after a (keeper_drew event)

-- an event of the keeper goes to no earlier era
era-later : (n : ℕ) (a : Account) (event : Event) → KeeperMayDraw n a event → a.era ≤ era_after_event event a.era
era-later n a (Roll id next) may = let one = may.next in omega (arith, one)
era-later n a event may = omega arith

-- while a write is open it keeps the era
era-open : (n : ℕ) (a : Account) (event : Event) (d : ℕ) (id : CmdId) → KeepsWrites n a → KeeperMayDraw n a event → flies (a.stripe d).flight id ≡ true → era_after_event event a.era ≡ a.era
era-open n a (Roll by next) d id writes may open' =
    let none : (a.stripe d).flight ≡ None = elim (cases_lt d n) [ inl within ↦ may.quiet d within | inr high ↦ writes.low d high ] in
    absurd (false≢true (subst (λ (f : Option FlightWrite). flies f id ≡ true) none open'))
era-open n a event d id writes may open' = refl

-- a mark that is new is the new entry
kept-marks : (n : ℕ) (a : Account) (event : Event) → KeepsEras a → KeeperMayDraw n a event → (block era : ℕ) → marked_after event a.marked block era ≡ true
    → (place : ℕ) × (by : CmdId) × Contains (a.keeper.entries ++ entry a.places event ∷ []) (entry place (Mark by block era))
kept-marks n a (Mark by marked stored) keeps may block era is = elim (or_cases (marked == block && stored == era) (a.marked block era) is) [
  | inl new ↦
      let both = and_parts (marked == block) (stored == era) new in (
        a.places,
        by,
        subst (λ (b : ℕ). Contains (a.keeper.entries ++ entry a.places (Mark by marked stored) ∷ []) (entry a.places (Mark by b era))) (eqb-true marked block both.0)
            (subst (λ (e : ℕ). Contains (a.keeper.entries ++ entry a.places (Mark by marked stored) ∷ []) (entry a.places (Mark by marked e))) (eqb-true stored era both.1)
            (Contains-push a.keeper.entries (entry a.places (Mark by marked stored)))),
      )
  | inr old ↦ let mark = keeps.marks block era old in (mark.0, mark.1, Contains-append_left a.keeper.entries (entry a.places (Mark by marked stored) ∷ []) (entry mark.0 (Mark mark.1 block era)) mark.2)
]
kept-marks n a event keeps may block era is =
    let mark = keeps.marks block era is in (mark.0, mark.1, Contains-append_left a.keeper.entries (entry a.places event ∷ []) (entry mark.0 (Mark mark.1 block era)) mark.2)

-- a switch that is new is to the next era
new-roll : (n : ℕ) (a : Account) (event : Event) (place : ℕ) (by : CmdId) (next : ℕ) → KeeperMayDraw n a event → entry a.places event ≡ entry place (Roll by next) → (next ≡ a.era + 1) × (era_after_event event a.era ≡ next)
new-roll n a event place by next may same =
    let is = event-is a.places place event (Roll by next) same in
    ((subst (KeeperMayDraw n a) is may).next, ap (λ (ev : Event). era_after_event ev a.era) is)

-- the keeper's event keeps all this
pub kept-keeps : (n : ℕ) (a : Account) (event : Event) → KeepsWrites n a → KeepsEras a → KeeperMayDraw n a event → KeepsEras (kept_by_keeper a event)
kept-keeps n a event writes keeps may = record {
  drawn = λ d e is. let before = keeps.drawn d e is in omega (arith, before);
  kept = λ e is. elim (Contains-push_cases a.keeper.entries (entry a.places event) e is) [
    | inl old ↦ let before = keeps.kept e old in omega (arith, before)
    | inr new ↦ let at : a.places ≡ e.place = ap (λ (x : Entry). x.place) new in omega arith
  ];
  marks = kept-marks n a event keeps may;
  rolls = λ place by next is. elim (Contains-push_cases a.keeper.entries (entry a.places event) (entry place (Roll by next)) is) [
    | inl old ↦ let before = keeps.rolls place by next old in let later = era-later n a event may in omega (arith, before, later)
    | inr new ↦ let now = (new-roll n a event place by next may new).1 in omega (arith, now)
  ];
  gone = λ d place id block era first bytes is. has_go-drawn id event a.places (a.lane id.lane) ∙ or_right (is_go_of id event) (has_go id (a.lane id.lane)) (keeps.gone d place id block era first bytes is);
  eras = λ d place id block era first bytes is. let before = keeps.eras d place id block era first bytes is in let later = era-later n a event may in omega (arith, before, later);
  present = λ d place id block era first bytes is open'. keeps.present d place id block era first bytes is open' ∙ sym (era-open n a event d id writes may open');
  precede = λ d place id block era first bytes is.
      let mark = keeps.precede d place id block era first bytes is in
      (mark.0, mark.1, mark.2, Contains-append_left a.keeper.entries (entry a.places event ∷ []) (entry mark.0 (Mark mark.1 block era)) mark.3);
  ends = λ d go place switch id by block era first next bytes other has is of switched later. elim (Contains-push_cases a.keeper.entries (entry a.places event) (entry switch (Roll by next)) switched) [
    | inl old ↦ keeps.ends d go place switch id by block era first next bytes other has is of old later
    | inr new ↦
        let below = keeps.drawn d (entry place other) is in
        let at = place-is a.places switch event (Roll by next) new in
        omega (arith, below, at)
  ];
  begins = λ d go switch id by block era first next bytes has switched early. elim (Contains-push_cases a.keeper.entries (entry a.places event) (entry switch (Roll by next)) switched) [
    | inl old ↦ keeps.begins d go switch id by block era first next bytes has old early
    | inr new ↦
        let one = (new-roll n a event switch by next may new).0 in
        let most = keeps.eras d go id block era first bytes has in
        absurd (omega (arith, one, most))
  ];
}
