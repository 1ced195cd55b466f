-- What the model asks of the keeper's events holds of the whole log where it holds of the keeper's own draws.
use Rattle.std.proofs.Common.{◌≡◌, ℕ, ◌<◌, ◌&&◌, ◌||◌, Bool, true, false, List, ◌∷◌, Option, Some, None, refl, ap, sym, ◌∙◌, subst, if◌then◌else◌}
use Rattle.std.specs.Prelude.{is_some, max, nat_le, nat_lt}
use Rattle.std.proofs.lemmas.Bool.{false≢true}
use Rattle.era_base.specs.declared.ids.CmdId.{CmdId}
use Rattle.era_model.specs.declared.event.Event.{Event}
use Rattle.era_model.specs.declared.event.Event.TheVariants.{Tried, Mark, Go, Done, Cut, Settle, Unsettled, Read, Roll, Kept, Snap, Dropped, Digest, List as ListEvent, Status, Refused}
use Rattle.era_model.specs.declared.event.Kind.{Kind}
use Rattle.era_model.specs.declared.event.Kind.TheVariants.{Write as WriteKind, Checkpoint as CheckpointKind, Status as StatusKind, List as ListKind}
use Rattle.era_model.specs.declared.event.Why.{Why}
use Rattle.era_model.specs.declared.event.Why.TheVariants.{DataFault, MetaFault, End, Held, NoSnap, Idle, Memory}
use Rattle.era_model.specs.declared.history.Happening.{Happening}
use Rattle.era_model.specs.declared.history.Happening.TheVariants.{Happened}
use Rattle.era_model.specs.declared.opening.Opening.{Opening}
use Rattle.era_model.specs.CommandEvents.{written_stripe}
use Rattle.era_model.specs.Conditions.{ListsSnapshot, MayList}
use Rattle.era_model.specs.Counts.{MetadataDisk, RoseFrom, count_of_fault, last_count, part_fault}
use Rattle.era_model.specs.Digest.{digest_of}
use Rattle.era_model.specs.Events.{is_metadata_answer, is_metadata_fault_of, is_request_of, is_switch_of}
use Rattle.era_model.specs.History.{at_opening, blocks_at, blocks_now, era_of}
use Rattle.era_model.specs.Legal.{MayHappen, MayRefuse, NeedsVolatileEra}
use Rattle.era_model.specs.Marking.{era_is_volatile, failed_after_switch, held_of, is_marked_in, journal_last_era, marks_of, some_event, switch_before_refusals}
use Rattle.era_model.specs.Marks.{BlockMarks}
use Rattle.era_model.specs.Usage.{IsUsage, held_block}
use Rattle.era_notes.specs.Logs.{Draw, drawer_history, logged_history, own_draws}
use Rattle.era_notes.specs.OwnDraws.{StripesDraw, is_of_stripes}
use Rattle.era_notes.proofs.KeeperWords.{IsKeepers, projects}
use Rattle.era_promise.specs.Owners.{is_told_by_keeper}
use Rattle.era_promise.proofs.OwnersDraws.{at-log}

-- a test that no event of a stripe passes
keepers-test : (test : Event → Bool) → ((event : Event) → is_of_stripes event ≡ true → test event ≡ false) → IsKeepers (λ h. some_event h test)
keepers-test test none = record {
  alike = λ event h other same. ap (λ b. test event || b) same;
  left = λ event h is. rw (none event is) refl;
}

no-request : (id : CmdId) (event : Event) → is_of_stripes event ≡ true → is_request_of id event ≡ false
no-request id (Tried other block era) is = absurd (false≢true is)
no-request id event is = refl

no-switch : (id : CmdId) (event : Event) → is_of_stripes event ≡ true → is_switch_of id event ≡ false
no-switch id (Roll other era) is = absurd (false≢true is)
no-switch id event is = refl

no-fault : (id : CmdId) (event : Event) → is_of_stripes event ≡ true → is_metadata_fault_of id event ≡ false
no-fault id (Refused other kind (MetaFault count)) is = absurd (false≢true is)
no-fault id event is = refl

no-answer : (event : Event) → is_of_stripes event ≡ true → is_metadata_answer event ≡ false
no-answer (Tried id block era) is = absurd (false≢true is)
no-answer (Mark id block era) is = absurd (false≢true is)
no-answer (Roll id era) is = absurd (false≢true is)
no-answer (Kept id inside) is = absurd (false≢true is)
no-answer (Snap id block) is = absurd (false≢true is)
no-answer (Dropped id) is = absurd (false≢true is)
no-answer (Digest id era page) is = absurd (false≢true is)
no-answer (ListEvent id since snap blocks) is = absurd (false≢true is)
no-answer (Status id used total era held) is = absurd (false≢true is)
no-answer event is = refl

-- the last switch, where only refusals came behind it
since-alike : (event : Event) (h other : List Happening) → switch_before_refusals h ≡ switch_before_refusals other → switch_before_refusals (Happened event ∷ h) ≡ switch_before_refusals (Happened event ∷ other)
since-alike (Roll id era) h other same = refl
since-alike event h other same = ap (λ before. if is_metadata_answer event then None else before) same

since-left : (event : Event) (h : List Happening) → is_of_stripes event ≡ true → switch_before_refusals (Happened event ∷ h) ≡ switch_before_refusals h
since-left (Roll id era) h is = absurd (false≢true is)
since-left event h is = ap (λ b. if b then None else switch_before_refusals h) (no-answer event is)

-- the metadata disk's last count
no-part : (stripe : Option ℕ) (count : ℕ) (before : Option ℕ) → count_of_fault MetadataDisk (part_fault count stripe) before ≡ before
no-part None count before = refl
no-part (Some stripe) count before = refl

count-left : (event : Event) (h : List Happening) → is_of_stripes event ≡ true → last_count (Happened event ∷ h) MetadataDisk ≡ last_count h MetadataDisk
count-left (Cut id faults) h is = no-part (written_stripe h id) faults (last_count h MetadataDisk)
count-left (Unsettled by cut faults) h is = no-part (written_stripe h cut) faults (last_count h MetadataDisk)
count-left (Refused id kind (MetaFault count)) h is = absurd (false≢true is)
count-left event h is = refl

count-alike : (event : Event) (h other : List Happening) → last_count h MetadataDisk ≡ last_count other MetadataDisk → last_count (Happened event ∷ h) MetadataDisk ≡ last_count (Happened event ∷ other) MetadataDisk
count-alike (Cut id faults) h other same = no-part (written_stripe h id) faults (last_count h MetadataDisk) ∙ same ∙ sym (no-part (written_stripe other id) faults (last_count other MetadataDisk))
count-alike (Unsettled by cut faults) h other same = no-part (written_stripe h cut) faults (last_count h MetadataDisk) ∙ same ∙ sym (no-part (written_stripe other cut) faults (last_count other MetadataDisk))
count-alike (Refused id kind (MetaFault count)) h other same = refl
count-alike event h other same = same

-- What two histories say alike of the metadata.
pub record SaysOfMarks (h own : List Happening) : Type 0 where
  pub blocks : blocks_now h ≡ blocks_now own
  pub total : at_opening 0 (λ o. o.total) h ≡ at_opening 0 (λ o. o.total) own
  pub era : era_of h ≡ era_of own
  pub marks : marks_of h ≡ marks_of own
  pub held : held_of h ≡ held_of own
  pub lasts : (block : ℕ) → journal_last_era h block ≡ journal_last_era own block
  pub marked : (block era : ℕ) → is_marked_in h block era ≡ is_marked_in own block era
  pub count : last_count h MetadataDisk ≡ last_count own MetadataDisk
  pub asked : (id : CmdId) → some_event h (is_request_of id) ≡ some_event own (is_request_of id)
  pub switched : (id : CmdId) → some_event h (is_switch_of id) ≡ some_event own (is_switch_of id)
  pub volatile : era_is_volatile h ≡ era_is_volatile own

-- What the laws of notes say of the keeper's own draws.
pub record Laws : Type 0 where
  pub marks : (opening : Opening) (keeper : ℕ) (log : List Draw) → StripesDraw keeper log
      → (marks_of (logged_history opening log) ≡ marks_of (drawer_history opening keeper log)) × (held_of (logged_history opening log) ≡ held_of (drawer_history opening keeper log))
  pub era : (opening : Opening) (keeper : ℕ) (log : List Draw) → StripesDraw keeper log → era_of (logged_history opening log) ≡ era_of (drawer_history opening keeper log)
  pub lasts : (opening : Opening) (keeper : ℕ) (log : List Draw) (block : ℕ) → StripesDraw keeper log → journal_last_era (logged_history opening log) block ≡ journal_last_era (drawer_history opening keeper log) block
  pub marked : (opening : Opening) (keeper : ℕ) (log : List Draw) (block era : ℕ) → StripesDraw keeper log → is_marked_in (logged_history opening log) block era ≡ is_marked_in (drawer_history opening keeper log) block era

-- an era that stands in memory alone
volatile-same : (h own : List Happening) → switch_before_refusals h ≡ switch_before_refusals own → ((id : CmdId) → some_event h (is_metadata_fault_of id) ≡ some_event own (is_metadata_fault_of id)) → era_is_volatile h ≡ era_is_volatile own
volatile-same h own since failed = ap (failed_after_switch h) since ∙ by_switch (switch_before_refusals own)
  where
    by_switch : (since : Option CmdId) → failed_after_switch h since ≡ failed_after_switch own since
    by_switch None = refl
    by_switch (Some id) = failed id

says : Laws → (opening : Opening) (keeper : ℕ) (log : List Draw) → StripesDraw keeper log → SaysOfMarks (logged_history opening log) (drawer_history opening keeper log)
says laws opening keeper log draws = record {
  blocks = at-log 0 blocks_at opening log ∙ sym (at-log 0 blocks_at opening (own_draws keeper log));
  total = at-log 0 (λ o. o.total) opening log ∙ sym (at-log 0 (λ o. o.total) opening (own_draws keeper log));
  era = laws.era opening keeper log draws;
  marks = (laws.marks opening keeper log draws).0;
  held = (laws.marks opening keeper log draws).1;
  lasts = λ block. laws.lasts opening keeper log block draws;
  marked = λ block era. laws.marked opening keeper log block era draws;
  count = projects (λ h. last_count h MetadataDisk) opening keeper log (record { alike = count-alike; left = count-left }) draws;
  asked = λ id. projects (λ h. some_event h (is_request_of id)) opening keeper log (keepers-test (is_request_of id) (no-request id)) draws;
  switched = λ id. projects (λ h. some_event h (is_switch_of id)) opening keeper log (keepers-test (is_switch_of id) (no-switch id)) draws;
  volatile = volatile-same (logged_history opening log) (drawer_history opening keeper log)
      (projects switch_before_refusals opening keeper log (record { alike = since-alike; left = since-left }) draws)
      (λ id. projects (λ h. some_event h (is_metadata_fault_of id)) opening keeper log (keepers-test (is_metadata_fault_of id) (no-fault id)) draws);
}

-- the conditions
needs-whole : (h own : List Happening) (id : CmdId) (kind : Kind) → SaysOfMarks h own → NeedsVolatileEra own id kind → NeedsVolatileEra h id kind
needs-whole h own id WriteKind same needs = λ none. same.volatile ∙ needs (sym (same.asked id) ∙ none)
needs-whole h own id CheckpointKind same needs = λ none. same.volatile ∙ needs (sym (same.switched id) ∙ none)
needs-whole h own id StatusKind same needs = same.volatile ∙ needs
needs-whole h own id ListKind same needs = same.volatile ∙ needs
needs-whole h own id kind same needs = needs

refuse-whole : (h own : List Happening) (id : CmdId) (kind : Kind) (why : Why) → SaysOfMarks h own → is_told_by_keeper (Refused id kind why) ≡ true → MayRefuse own id kind why → MayRefuse h id kind why
refuse-whole h own id kind (DataFault stripe count) same told may = absurd (false≢true told)
refuse-whole h own id kind (MetaFault count) same told may = record { rose = subst (λ last. RoseFrom last count) (sym same.count) may.rose; cause = needs-whole h own id kind same may.cause }
refuse-whole h own id kind End same told may = same.era ∙ may
refuse-whole h own id kind (Held block) same told may = record { block_two = may.block_two; held = ap is_some same.held ∙ may.held }
refuse-whole h own id kind NoSnap same told may = same.held ∙ may
refuse-whole h own id kind Idle same told may = ap (λ (m : BlockMarks). m.archive) same.marks ∙ may
refuse-whole h own id kind Memory same told may = may

list-whole : (h own : List Happening) (since : ℕ) (snap : Bool) (runs : List (ℕ × ℕ)) → SaysOfMarks h own → MayList own since snap runs → MayList h since snap runs
list-whole h own since false runs same may = record {
  maximal = may.maximal;
  exact = λ block. may.exact block ∙ ap (λ blocks. nat_lt block blocks && nat_le (max since 1) (journal_last_era own block)) (sym same.blocks)
      ∙ ap (λ last. nat_lt block (blocks_now h) && nat_le (max since 1) last) (sym (same.lasts block));
}
list-whole h own since true runs same may = subst (λ held. ListsSnapshot held since runs) (sym same.held) may

may-whole : (h own : List Happening) (event : Event) → SaysOfMarks h own → is_told_by_keeper event ≡ true → MayHappen own event → MayHappen h event
may-whole h own (Tried id block era) same told may = record {
  of_origin = subst (λ blocks. block < blocks) (sym same.blocks) may.of_origin;
  present = may.present ∙ sym same.era;
  unmarked = same.marked block era ∙ may.unmarked;
}
may-whole h own (Snap id block) same told may = record { block_two = may.block_two; none = same.held ∙ may.none }
may-whole h own (Dropped id) same told may = record { held = ap is_some same.held ∙ may.held }
may-whole h own (Digest id era page) same told may = record { step = ap (λ (m : BlockMarks). digest_of m.archive m.array) same.marks ∙ may.step }
may-whole h own (ListEvent id since snap blocks) same told may = list-whole h own since snap blocks same may
may-whole h own (Status id used total era held) same told may = record {
  usage = subst (λ now. IsUsage (marks_of h) now used) (sym same.held) (subst (λ m. IsUsage m (held_of own) used) (sym same.marks) may.usage);
  size = may.size ∙ sym same.total;
  present = may.present ∙ sym same.era;
  snapshot = may.snapshot ∙ ap held_block (sym same.held);
}
may-whole h own (Refused id kind why) same told may = refuse-whole h own id kind why same told may
may-whole h own (Mark id block era) same told may = absurd (false≢true told)
may-whole h own (Go id block era first bytes) same told may = absurd (false≢true told)
may-whole h own (Done id) same told may = absurd (false≢true told)
may-whole h own (Cut id faults) same told may = absurd (false≢true told)
may-whole h own (Settle by cut bytes) same told may = absurd (false≢true told)
may-whole h own (Unsettled by cut faults) same told may = absurd (false≢true told)
may-whole h own (Read id sector bytes) same told may = absurd (false≢true told)
may-whole h own (Roll id era) same told may = absurd (false≢true told)
may-whole h own (Kept id inside) same told may = absurd (false≢true told)

pub keepers-may : Laws → (opening : Opening) (keeper : ℕ) (log : List Draw) (event : Event) → StripesDraw keeper log → is_told_by_keeper event ≡ true → MayHappen (drawer_history opening keeper log) event
    → MayHappen (logged_history opening log) event
keepers-may laws opening keeper log event draws told may = may-whole (logged_history opening log) (drawer_history opening keeper log) event (says laws opening keeper log draws) told may
