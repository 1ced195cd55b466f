-- What a core keeps, from event to event.
use Rattle.std.proofs.Common.{◌≡◌, ◌≢◌, ◌⊎◌, ℕ, ◌<◌, ◌≤◌, true, false, List, [], ◌∷◌, ◌++◌, length, get_or, refl, sym, ap, ◌∙◌, subst, arith, inl, inr, Option, Some, None, IfSome, Result, Ok, Err}
use Rattle.std.specs.Prelude.{Any, OnOk, nat_lt, slice_set}
use Rattle.std.proofs.lemmas.Bool.{cases_lt, cond_both}
use Rattle.std.proofs.lemmas.Bool.Decides.{eqb_tells, nat_tests}
use Rattle.std.proofs.lemmas.List.{get_or_append_left, get_or_push, get_or-set_same, get_or-set_other, length-set, length_push}
use Rattle.era_model.specs.declared.event.Event.{Event}
use Rattle.era_model.specs.declared.event.Event.TheVariants.{Mark, Roll, Snap, Dropped, Digest, Done, Settle}
use Rattle.era_model.specs.declared.flight.FlightWrite.{FlightWrite}
use Rattle.era_model.specs.declared.history.Happening.{Happening}
use Rattle.era_model.specs.declared.history.Happening.TheVariants.{Opened, Happened, Crashed}
use Rattle.era_model.specs.declared.history.Images.{Images}
use Rattle.era_model.specs.Digest.{digested_from}
use Rattle.era_model.specs.History.{blocks_now, content, in_flight, is_open}
use Rattle.era_model.specs.Marking.{held_of, marks_of}
use Rattle.era_model.specs.Marks.{ArchivedSet, BlockMarks, rolled, with_current_archived, with_oldest_merged}
use Rattle.era_model.specs.Recovered.{WereMarks}
use Rattle.era_model.specs.Writes.{content_after_write, write_of}
use Rattle.era_core.specs.KeptState.{HasPushed, KeepsUp, changes_metadata, target_block, written_block_of}
use Rattle.era_core.specs.Present.{HaveContents, HavePast}

-- the marks of an open session are those of its last moment
were-now : (h : List Happening) → is_open h ≡ true → WereMarks h (marks_of h)
were-now [] open_now = absurd (cc)
were-now (Opened opening ∷ h) open_now = refl
were-now (Happened event ∷ h) open_now = inl refl
were-now (Crashed images ∷ h) open_now = absurd (cc)

-- one more of a list
any-front : (m : BlockMarks) (past : List BlockMarks) (next : BlockMarks) → Any (λ were. were ≡ m) past → Any (λ were. were ≡ m) (past ++ next ∷ [])
any-front m past next (k, x, lt, at, is) = (k, x, omega (arith, lt, length_push past next), get_or_append_left past (next ∷ []) x k lt ∙ at, is)

any-last : (m : BlockMarks) (past : List BlockMarks) (next : BlockMarks) → next ≡ m → Any (λ were. were ≡ m) (past ++ next ∷ [])
any-last m past next is = (length past, next, omega (arith, length_push past next), get_or_push past next next (length past) refl, is)

any-split : (m : BlockMarks) (past : List BlockMarks) (next : BlockMarks) → Any (λ were. were ≡ m) (past ++ next ∷ []) → Any (λ were. were ≡ m) past ⊎ (next ≡ m)
any-split m past next (k, x, lt, at, is) = elim (cases_lt k (length past)) [
  | inl within ↦ inl (k, x, within, sym (get_or_append_left past (next ∷ []) x k within) ∙ at, is)
  | inr past_end ↦ let last : length past ≡ k = omega (arith, lt, past_end, length_push past next) in
      inr (sym (get_or_push past next x k last) ∙ at ∙ is)
]

-- the marks stay, or stand behind the others
past-after : (h : List Happening) (event : Event) (past past' : List BlockMarks) (m m' : BlockMarks) → is_open h ≡ true → HavePast h past → m ≡ marks_of h → m' ≡ marks_of (Happened event ∷ h)
    → HasPushed past m past' m' → HavePast (Happened event ∷ h) past'
past-after h event past past' m m' open_now have marking marking' (inl same) x =
    let now : marks_of (Happened event ∷ h) ≡ marks_of h = sym marking' ∙ same.1 ∙ marking in
    rw same.0 (
      (λ were. elim were [
        | inl is ↦ (have x).0 (subst (λ y. WereMarks h y) (sym (is ∙ now)) (were-now h open_now))
        | inr before ↦ (have x).0 before
      ]),
      (λ any. inr ((have x).1 any)),
    )
past-after h event past past' m m' open_now have marking marking' (inr pushed) x =
    rw pushed (
      (λ were. elim were [
        | inl is ↦ any-last x past m' (marking' ∙ sym is)
        | inr before ↦ any-front x past m' ((have x).0 before)
      ]),
      (λ any. elim (any-split x past m' any) [
        | inl before ↦ inr ((have x).1 before)
        | inr last ↦ inl (sym last ∙ marking')
      ]),
    )

-- an event that changes no marks leaves the earlier ones
past-same : (h : List Happening) (event : Event) (past : List BlockMarks) → is_open h ≡ true → HavePast h past → marks_of (Happened event ∷ h) ≡ marks_of h → HavePast (Happened event ∷ h) past
past-same h event past open_now have same = past-after h event past past (marks_of h) (marks_of h) open_now have refl (sym same) (inl (refl, refl))

-- a switch archives at most sixteen sets
few-merged : (m : BlockMarks) (sets : List ArchivedSet) → length sets ≤ 16 → 16 ≤ length sets → length (with_current_archived (with_oldest_merged m sets)).archive ≤ 16
few-merged m [] few full = absurd (omega arith)
few-merged m (oldest ∷ sets) few full = let more = length_push sets (record { era = m.era; blocks = m.current }) in omega (arith, more, few)

few-rolled : (m : BlockMarks) → length m.archive ≤ 16 → length (rolled m).archive ≤ 16
few-rolled m few = cond_both (nat_lt (length m.archive) 16) m (with_oldest_merged m m.archive) (λ before. length (with_current_archived before).archive ≤ 16)
    (λ room. let more = length_push m.archive (record { era = m.era; blocks = m.current }) in let lt : length m.archive < 16 = grind (arith, nat_tests) in omega (arith, more, lt))
    (λ full. few-merged m m.archive few (grind (arith, nat_tests)))

-- a digest archives none
few-digested : (m : BlockMarks) (sets : List ArchivedSet) (page : Option ℕ) → m.archive ≡ sets → length m.archive ≤ 16 → length (digested_from m sets page).archive ≤ 16
few-digested m [] page is few = few
few-digested m (oldest ∷ sets) None is few = let size = ap length is in omega (arith, size, few)
few-digested m (oldest ∷ sets) (Some page) is few = few

-- at most sixteen sets are archived after an event
few-sets : (h : List Happening) (event : Event) → length (marks_of h).archive ≤ 16 → length (marks_of (Happened event ∷ h)).archive ≤ 16
few-sets h (Mark id block era) few = few
few-sets h (Roll id era) few = few-rolled (marks_of h) few
few-sets h (Digest id era page) few = few-digested (marks_of h) (marks_of h).archive page refl few
few-sets h event few = few

-- and in the snapshot
few-in-held : (h : List Happening) (event : Event) → length (marks_of h).archive ≤ 16 → IfSome (held_of h) (λ m. length m.archive ≤ 16) → IfSome (held_of (Happened event ∷ h)) (λ m. length m.archive ≤ 16)
few-in-held h (Snap id block) few held = few
few-in-held h (Dropped id) few held = tt
few-in-held h event few held = held

-- an event of the metadata leaves the origin
pub same-flight : (h : List Happening) (event : Event) → changes_metadata event ≡ true → in_flight (Happened event ∷ h) ≡ in_flight h
same-flight h (Mark id block era) is = refl
same-flight h (Roll id era) is = refl
same-flight h (Digest id era page) is = refl
same-flight h (Snap id block) is = refl
same-flight h (Dropped id) is = refl
same-flight h event is = absurd (cc)

pub same-content : (h : List Happening) (event : Event) (block : ℕ) → changes_metadata event ≡ true → content (Happened event ∷ h) block ≡ content h block
same-content h (Mark id marked era) block is = refl
same-content h (Roll id era) block is = refl
same-content h (Digest id era page) block is = refl
same-content h (Snap id at) block is = refl
same-content h (Dropped id) block is = refl
same-content h event block is = absurd (cc)

-- every other event leaves the metadata
same-marks : (h : List Happening) (event : Event) → changes_metadata event ≡ false → marks_of (Happened event ∷ h) ≡ marks_of h
same-marks h (Mark id block era) is = absurd (cc)
same-marks h (Roll id era) is = absurd (cc)
same-marks h (Digest id era page) is = absurd (cc)
same-marks h event is = refl

same-held : (h : List Happening) (event : Event) → changes_metadata event ≡ false → held_of (Happened event ∷ h) ≡ held_of h
same-held h (Snap id block) is = absurd (cc)
same-held h (Dropped id) is = absurd (cc)
same-held h event is = refl

-- what is kept after an event of the metadata
pub keeps-metadata : (h : List Happening) (event : Event) (writes : List FlightWrite) (contents : List (List ℕ)) (m m' : BlockMarks) (past past' : List BlockMarks) (held held' : Option BlockMarks)
    → is_open h ≡ true → changes_metadata event ≡ true → KeepsUp h writes contents m past held → m' ≡ marks_of (Happened event ∷ h) → held' ≡ held_of (Happened event ∷ h) → HasPushed past m past' m'
    → KeepsUp (Happened event ∷ h) writes contents m' past' held'
keeps-metadata h event writes contents m m' past past' held held' open_now changes keeps marking snapshot pushed = record {
  stripes = keeps.stripes;
  flight = keeps.flight ∙ sym (same-flight h event changes);
  content = record { size = keeps.content.size; blocks = λ block within. keeps.content.blocks block within ∙ sym (same-content h event block changes) };
  marking = marking;
  earlier = past-after h event past past' m m' open_now keeps.earlier keeps.marking marking pushed;
  snapshot = snapshot;
  few_sets = rw marking (few-sets h event (rw keeps.marking at keeps.few_sets));
  few_held = rw snapshot (few-in-held h event (rw keeps.marking at keeps.few_sets) (rw keeps.snapshot at keeps.few_held));
}

-- what is kept after another event
pub keeps-origin : (h : List Happening) (event : Event) (writes writes' : List FlightWrite) (contents contents' : List (List ℕ)) (m : BlockMarks) (past : List BlockMarks) (held : Option BlockMarks)
    → is_open h ≡ true → changes_metadata event ≡ false → KeepsUp h writes contents m past held → writes' ≡ in_flight (Happened event ∷ h) → HaveContents (Happened event ∷ h) contents'
    → KeepsUp (Happened event ∷ h) writes' contents' m past held
keeps-origin h event writes writes' contents contents' m past held open_now changes keeps flight have = record {
  stripes = keeps.stripes;
  flight = flight;
  content = have;
  marking = keeps.marking ∙ sym (same-marks h event changes);
  earlier = past-same h event past open_now keeps.earlier (same-marks h event changes);
  snapshot = keeps.snapshot ∙ sym (same-held h event changes);
  few_sets = keeps.few_sets;
  few_held = keeps.few_held;
}

-- what is kept after a crash
pub keeps-crash : (h : List Happening) (images : Images) (writes : List FlightWrite) (contents : List (List ℕ)) (m : BlockMarks) (past : List BlockMarks) (held : Option BlockMarks)
    → KeepsUp h writes contents m past held → KeepsUp (Crashed images ∷ h) writes contents m [] held
keeps-crash h images writes contents m past held keeps = record {
  stripes = keeps.stripes;
  flight = keeps.flight;
  content = record { size = keeps.content.size; blocks = keeps.content.blocks };
  marking = keeps.marking;
  earlier = λ x. (λ were. absurd were, λ any. no-any x any);
  snapshot = keeps.snapshot;
  few_sets = keeps.few_sets;
  few_held = keeps.few_held;
}
  where
    no-any : (x : BlockMarks) → Any (λ were. were ≡ x) [] → WereMarks (Crashed images ∷ h) x
    no-any x (k, y, lt, at, is) = absurd (omega (arith, lt))

-- a write of another block leaves the content
other-content : (before : List ℕ) (block : ℕ) (write : Option FlightWrite) (bytes : List ℕ) → written_block_of write ≢ Some block → content_after_write before block write bytes ≡ before
other-content before block None bytes apart = refl
other-content before block (Some write) bytes apart = elim (eqb_tells write.block block) [
  | inl same ↦ absurd (apart (ap Some same.1))
  | inr other ↦ rw other.0 refl
]

-- an event changes the content of its target alone
pub content-kept : (h : List Happening) (event : Event) (block : ℕ) → target_block (in_flight h) event ≢ Some block → content (Happened event ∷ h) block ≡ content h block
content-kept h (Done id) block apart = other-content (content h block) block (write_of (in_flight h) id) _ apart
content-kept h (Settle by cut bytes) block apart = other-content (content h block) block (write_of (in_flight h) cut) bytes apart
content-kept h event block apart = refl

-- where the target isn't a block of the origin, or there is none
pub contents-same : (h : List Happening) (event : Event) (contents : List (List ℕ)) → HaveContents h contents → ((block : ℕ) → block < blocks_now h → target_block (in_flight h) event ≢ Some block)
    → HaveContents (Happened event ∷ h) contents
contents-same h event contents have apart = record {
  size = have.size;
  blocks = λ block within. have.blocks block within ∙ sym (content-kept h event block (apart block within));
}

-- the content of the target is changed
pub contents-set : (h : List Happening) (event : Event) (contents : List (List ℕ)) (target : ℕ) (after : List ℕ) → HaveContents h contents → target < length contents
    → target_block (in_flight h) event ≡ Some target → after ≡ content (Happened event ∷ h) target → HaveContents (Happened event ∷ h) (slice_set contents target after)
contents-set h event contents target after have lt is new = record {
  size = length-set contents target after ∙ have.size;
  blocks = λ block within. elim (eqb_tells target block) [
    | inl same ↦ subst (λ b. get_or (slice_set contents target after) b [] ≡ content (Happened event ∷ h) b) same.1 (get_or-set_same contents target after [] lt ∙ new)
    | inr apart ↦ get_or-set_other contents target block after [] (λ e. apart.1 (sym e)) ∙ have.blocks block within
        ∙ sym (content-kept h event block (λ e. apart.1 (let some = sym is ∙ e in let same : target ≡ block = cc in same)))
  ];
}

-- what two clauses give together where the result is Ok
pub on_ok-two : {T E : Type 0} (r : Result T E) {A B C : Type 0} → (A → B → C) → OnOk r A → OnOk r B → OnOk r C
on_ok-two (Ok x) gives a b = gives a b
on_ok-two (Err e) gives a b = tt

-- the same for three
pub on_ok-three : {T E : Type 0} (r : Result T E) {A B C D : Type 0} → (A → B → C → D) → OnOk r A → OnOk r B → OnOk r C → OnOk r D
on_ok-three (Ok x) gives a b c = gives a b c
on_ok-three (Err e) gives a b c = tt
