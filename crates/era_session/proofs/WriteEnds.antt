-- How a write ends: what stands, what was drawn, and which count is told, by the step that was the last.
use Rattle.std.proofs.Common.{◌≡◌, ℕ, Bool, true, false, List, [], ◌∷◌, ◌++◌, Option, Some, None, Result, Ok, Err, refl, sym, ap, ap₂, ◌∙◌, subst, inl}
use Rattle.std.proofs.lemmas.List.{append-nil}
use Rattle.std.specs.Prelude.{is_some}
use Rattle.era_base.specs.Faults.{HasCount, Rose}
use Rattle.era_base.specs.Flags.{has}
use Rattle.era_base.specs.declared.disk.Disk.{Ghosts}
use Rattle.era_base.specs.declared.ids.CmdId.{CmdId}
use Rattle.era_gate.specs.Calls.{GateToken, PassToken}
use Rattle.era_gate.specs.Passes.{no_write}
use Rattle.era_gate.specs.Receipts.{entries_in}
use Rattle.era_keeper.specs.Calls.{SameKeeper}
use Rattle.era_keeper.specs.declared.keeper.Keeper.{Keeper}
use Rattle.era_model.specs.declared.entry.Entry.{Entry}
use Rattle.era_model.specs.declared.event.Event.{Event}
use Rattle.era_model.specs.declared.event.Event.TheVariants.{Refused}
use Rattle.era_model.specs.declared.event.Kind.TheVariants.{Write as WriteKind}
use Rattle.era_model.specs.declared.event.Why.TheVariants.{DataFault}
use Rattle.era_model.specs.declared.reply.Answer.TheVariants.{Fault, Fine}
use Rattle.era_model.specs.declared.reply.Device.TheVariants.{Data as DataDevice, Meta as MetaDevice}
use Rattle.era_notes.specs.Rooms.{last_in}
use Rattle.era_session.specs.Chunks.{ChunkDrew, write_trail}
use Rattle.era_session.specs.Desks.{AnswersCounts, Desk, DeskFits, SameDesk, desk, meta_faults}
use Rattle.era_session.specs.Marking.{IsInsideFor, MarkingDrew}
use Rattle.era_session.specs.Receipts.{PassDrew}
use Rattle.era_session.specs.Writes.{IsFailedMarking, IsSettling, WriteDrew, WroteEvents, marking_events}
use Rattle.era_session.proofs.AtStripes.{keeper-same, keeper-then, stripe-then}
use Rattle.era_session.proofs.Receipts.{last-first, no-entries, own-trail, stripe-trail, trail-both, trail-wider}
use Rattle.era_session.proofs.WriteSteps.{rests}
use Rattle.era_session.proofs.WriteTrails.{begins-so, trail-behind, write-ordered, written-begins}
use Rattle.era_stripe.specs.Calls.{Drew, SameRest, SameStripe}
use Rattle.era_stripe.specs.Results.{AfterWrite, SameStay, SettleDid, only, write_events}
use Rattle.era_stripe.specs.Stripes.{IsAtRest, StripeFits}
use Rattle.era_stripe.specs.declared.cut_write.CutWrite.{CutWrite}
use Rattle.era_stripe.specs.declared.stripe.Stripe.{Stripe}

-- a desk stays the same over steps one after the other
pub desk-then : {D : Type 0} (disk : Ghosts D) (a b c : Desk D) → SameDesk disk a b → SameDesk disk b c → SameDesk disk a c
desk-then disk a b c one two = record {
  stripe = stripe-then disk a.stripe b.stripe c.stripe one.stripe two.stripe;
  keeper = keeper-then disk a.keeper b.keeper c.keeper one.keeper two.keeper;
}

-- a step of the stripe alone
pub desk-by-stripe : {D : Type 0} (disk : Ghosts D) (a b : Desk D) → SameStripe disk a.stripe b.stripe → b.keeper ≡ a.keeper → SameDesk disk a b
desk-by-stripe {D} disk a b stripe keeper = record {
  stripe = stripe;
  keeper = subst (λ (k : Keeper D). SameKeeper disk a.keeper k) (sym keeper) (keeper-same disk a.keeper);
}

-- a stripe that drew a refusal is over the same part
pub refused-same : {D : Type 0} (disk : Ghosts D) (old new : Stripe D) → SameRest old new → SameStay old new → SameStripe disk old new
refused-same {D} disk old new rest stay = record {
  index = rest.index;
  geometry = rest.geometry;
  first_block = rest.first_block;
  blocks = rest.blocks;
  place = ap (λ (d : D). disk.place d) rest.disk;
  sectors = ap (λ (d : D). disk.sectors d) rest.disk;
  began = rest.began;
  table = stay.table;
}

-- and at rest as before
pub refused-rests : {D : Type 0} (old new : Stripe D) → SameStay old new → IsAtRest old → IsAtRest new
refused-rests old new stay rest = stay.inside ∙ rest ∙ ap (λ (cut : Option CutWrite). is_some cut) (sym stay.cut)

-- no write at all is no write of another command
wider : (id : CmdId) (other : CmdId) → only id other ≡ false → no_write other ≡ false
wider id other none = refl

-- a settling that failed had a cut write
had-cut : {D : Type 0} (disk : Ghosts D) (cut : Option CutWrite) (by : CmdId) (count : ℕ) (old new : Stripe D) (pass pass' : PassToken) → SettleDid disk cut by (Err count) old new pass pass' → is_some cut ≡ true
had-cut disk None by count old new pass pass' did = absurd did
had-cut disk (Some cut) by count old new pass pass' did = refl

-- a write that was refused behind a settling that failed drew the refusal
pub unsettled-drew : {D : Type 0} (disk : Ghosts D) (id : CmdId) (block first count : ℕ) (bytes : List ℕ) (old : Desk D) (settled new : Stripe D) (between pass : PassToken) → (last_in old.stripe.entries ≡ []) × (last_in old.keeper.entries ≡ [])
    → SettleDid disk old.stripe.cut id (Err count) old.stripe settled old.pass between → Drew [] no_write old.stripe settled old.pass between
    → Drew (Refused id WriteKind (DataFault old.stripe.index count) ∷ []) no_write settled new between pass → WriteDrew id block first bytes (Fault DataDevice count) old (desk new old.keeper pass)
unsettled-drew disk id block first count bytes old settled new between pass undrawn did none refused =
    let events : List Event = Refused id WriteKind (DataFault old.stripe.index count) ∷ [] in
    let own : List Entry = refused.kept.entries in
    let empty : none.kept.entries ≡ [] = no-entries none.kept.entries none.kept.are in
    let before : last_in settled.entries ≡ [] = last-first old.stripe.entries settled.entries none.kept.entries undrawn.0 none.kept.last ∙ empty in
    let all = trail-wider events (none.kept.entries ++ own) no_write (only id) old.pass pass (wider id)
    (trail-both [] events none.kept.entries own no_write no_write no_write old.pass between pass (λ other none. (none, none))
    (stripe-trail [] no_write old.stripe settled old.pass between none) (stripe-trail events no_write settled new between pass refused)) in
    record {
      events = events;
      are = inl (record { cut = had-cut disk old.stripe.cut id count old.stripe settled old.pass between did; refused = refl });
      drew = all.drew;
      trail = all.are ∙ ap (λ (es : List Entry). es ++ own) empty
          ∙ sym (ap₂ write_trail (last-first settled.entries new.entries own before refused.kept.last) undrawn.1
          ∙ trail-behind own [] (begins-so own (Refused id WriteKind (DataFault old.stripe.index count)) [] refused.kept.are refl));
    }

-- a write whose block got no mark drew the resolution and the refusal
pub unmarked-drew : {D : Type 0} (id : CmdId) (block first count : ℕ) (bytes : List ℕ) (old settled new : Desk D) (before : List Event) → (last_in old.stripe.entries ≡ []) × (last_in old.keeper.entries ≡ [])
    → settled.keeper ≡ old.keeper → new.stripe.entries ≡ settled.stripe.entries → IsSettling old.stripe.cut id before → ChunkDrew before no_write old.pass settled.pass old.stripe.entries settled.stripe.entries
    → MarkingDrew id block (Err count) settled new → WriteDrew id block first bytes (Fault MetaDevice count) old new
unmarked-drew {D} id block first count bytes old settled new before undrawn keeper same settling drew marking =
    let first_own : List Entry = entries_in drew.drew.receipts in
    let marks : List Entry = entries_in marking.drew.drew.receipts in
    let at_stripe : last_in new.stripe.entries ≡ first_own = ap last_in same ∙ last-first old.stripe.entries settled.stripe.entries first_own undrawn.0 drew.last in
    let at_keeper : last_in new.keeper.entries ≡ marks = last-first settled.keeper.entries new.keeper.entries marks (ap (λ (k : Keeper D). last_in k.entries) keeper ∙ undrawn.1) marking.drew.last in
    let all = trail-wider (before ++ marking.events) (first_own ++ marks) no_write (only id) old.pass new.pass (wider id)
    (trail-both before marking.events first_own marks no_write no_write no_write old.pass settled.pass new.pass (λ other none. (none, none))
    (own-trail before no_write old.pass settled.pass drew.drew) (own-trail marking.events no_write settled.pass new.pass marking.drew.drew)) in
    record {
      events = before ++ marking.events;
      are = record {
        unmarked = ap (λ (k : Keeper D). has k.meta.marks.current block) (sym keeper) ∙ marking.unmarked;
        before = before;
        settling = settling;
        rest = marking.events;
        failed = subst (λ (k : Keeper D). IsFailedMarking id block k.meta.marks.era count marking.events) keeper marking.failed;
        joined = refl;
      };
      drew = all.drew;
      trail = all.are ∙ sym (append-nil (first_own ++ marks))
          ∙ sym (ap₂ write_trail (at_stripe ∙ sym (append-nil first_own)) at_keeper ∙ write-ordered old.stripe.cut id before first_own [] marks settling drew.drew.are tt);
    }

-- what a write that was issued drew
pub record WroteDrew {D : Type 0} (id : CmdId) (block first : ℕ) (bytes : List ℕ) (result : Result Unit ℕ) (old new : Desk D) : Type 0 where
  pub events : List Event
  pub are : WroteEvents id block first bytes result old events
  pub drew : PassDrew events (only id) old.pass new.pass
  pub trail : entries_in drew.receipts ≡ write_trail (last_in new.stripe.entries) (last_in new.keeper.entries)

-- a write that was issued drew the resolution, the mark and itself
pub wrote-drew : {D : Type 0} (id : CmdId) (block first : ℕ) (bytes : List ℕ) (result : Result Unit ℕ) (old settled marked : Desk D) (new : Stripe D) (pass : PassToken) (before : List Event) → (last_in old.stripe.entries ≡ []) × (last_in old.keeper.entries ≡ [])
    → settled.keeper ≡ old.keeper → marked.stripe.entries ≡ settled.stripe.entries → IsSettling old.stripe.cut id before → ChunkDrew before no_write old.pass settled.pass old.stripe.entries settled.stripe.entries
    → MarkingDrew id block (Ok tt) settled marked → Drew (write_events id block marked.stripe.era first bytes result) (only id) marked.stripe new marked.pass pass
    → WroteDrew id block first bytes result old (desk new marked.keeper pass)
wrote-drew {D} id block first bytes result old settled marked new pass before undrawn keeper same settling drew marking written =
    let events : List Event = write_events id block marked.stripe.era first bytes result in
    let mark_events : List Event = marking_events (has settled.keeper.meta.marks.current block) id block settled.keeper.meta.marks.era in
    let first_own : List Entry = entries_in drew.drew.receipts in
    let marks : List Entry = entries_in marking.drew.receipts in
    let own : List Entry = written.kept.entries in
    let at_settled : last_in marked.stripe.entries ≡ first_own = ap last_in same ∙ last-first old.stripe.entries settled.stripe.entries first_own undrawn.0 drew.last in
    let at_stripe : last_in new.entries ≡ first_own ++ own = written.kept.last ∙ ap (λ (es : List Entry). es ++ own) at_settled in
    let at_keeper : last_in marked.keeper.entries ≡ marks = last-first settled.keeper.entries marked.keeper.entries marks (ap (λ (k : Keeper D). last_in k.entries) keeper ∙ undrawn.1) marking.last in
    let all = trail-both (before ++ mark_events) events (first_own ++ marks) own no_write (only id) (only id) old.pass marked.pass pass (λ other none. (refl, none))
    (trail-both before mark_events first_own marks no_write no_write no_write old.pass settled.pass marked.pass (λ other none. (none, none))
    (own-trail before no_write old.pass settled.pass drew.drew) (own-trail mark_events no_write settled.pass marked.pass marking.drew))
    (stripe-trail events (only id) marked.stripe new marked.pass pass written) in
    record {
      events = before ++ mark_events ++ events;
      are = record {
        era = marked.stripe.era;
        before = before;
        settling = settling;
        joined = ap (λ (k : Keeper D). before ++ marking_events (has k.meta.marks.current block) id block k.meta.marks.era ++ events) keeper;
      };
      drew = all.drew;
      trail = all.are ∙ sym (ap₂ write_trail at_stripe at_keeper
          ∙ write-ordered old.stripe.cut id before first_own own marks settling drew.drew.are (written-begins id block marked.stripe.era first bytes result own written.kept.are));
    }

-- all fits together behind a refusal that followed a settling that failed
pub unsettled-fits : {D : Type 0} (disk : Ghosts D) (gate : GateToken) (old : Desk D) (settled new : Stripe D) (between pass : PassToken) (one other : List Event) → DeskFits disk gate old → SameStripe disk old.stripe settled → IsAtRest settled
    → Drew one no_write old.stripe settled old.pass between → Drew other no_write settled new between pass → StripeFits disk new → SameStay settled new → DeskFits disk gate (desk new old.keeper pass)
unsettled-fits disk gate old settled new between pass one other fits same rest drew refused own stay = record {
  stripe = own;
  rest = refused-rests settled new stay rest;
  keeper = fits.keeper;
  seats = (stay.table ∙ same.table ∙ fits.seats.0, fits.seats.1);
  pass = refused.keeps.table ∙ drew.keeps.table ∙ fits.pass;
  blocks = fits.blocks;
}

-- and behind a write
pub wrote-fits : {D : Type 0} (disk : Ghosts D) (gate : GateToken) (id : CmdId) (block first count : ℕ) (result : Result Unit ℕ) (marked : Desk D) (new : Stripe D) (pass : PassToken) (events : List Event) (issued : CmdId → Bool) → IsInsideFor disk gate block marked
    → StripeFits disk new → AfterWrite id block first count result new → SameStripe disk marked.stripe new → Drew events issued marked.stripe new marked.pass pass → DeskFits disk gate (desk new marked.keeper pass)
wrote-fits disk gate id block first count result marked new pass events issued inside fits after same drew = record {
  stripe = fits;
  rest = rests id block first count result new after;
  keeper = inside.keeper;
  seats = (same.table ∙ inside.seats.0, inside.seats.1);
  pass = drew.keeps.table ∙ inside.pass;
  blocks = inside.blocks;
}

-- a settling that failed is told with the part's count
pub unsettled-cause : {D : Type 0} (disk : Ghosts D) (count : ℕ) (old : Desk D) (settled new : Stripe D) (pass : PassToken) → HasCount {T = Unit} (disk.faults old.stripe.disk) (disk.faults settled.disk) (Err count) → new.disk ≡ settled.disk
    → AnswersCounts disk (Fault DataDevice count) old (desk new old.keeper pass)
unsettled-cause {D} disk count old settled new pass cause left =
    let is : disk.faults settled.disk ≡ disk.faults new.disk = ap (λ (d : D). disk.faults d) (sym left) in
    (cause.count ∙ is, subst (λ n. Rose (disk.faults old.stripe.disk) n) is cause.cause.failed, refl)

-- a marking that failed is told with the metadata disk's count
pub unmarked-cause : {D : Type 0} (disk : Ghosts D) (count : ℕ) (old : Desk D) (settled : Stripe D) (new : Desk D) → HasCount {T = Unit} (disk.faults old.stripe.disk) (disk.faults settled.disk) (Ok tt) → new.stripe.disk ≡ settled.disk
    → HasCount {T = Unit} (meta_faults disk old) (meta_faults disk new) (Err count) → AnswersCounts disk (Fault MetaDevice count) old new
unmarked-cause {D} disk count old settled new first left cause = (
  cause.count,
  cause.cause.failed,
  ap (λ (d : D). disk.faults d) left ∙ first.cause.kept,
)

-- a write that went through leaves both counts
pub wrote-cause : {D : Type 0} (disk : Ghosts D) (old : Desk D) (settled : Stripe D) (marked : Desk D) (new : Stripe D) (pass : PassToken) → HasCount {T = Unit} (disk.faults old.stripe.disk) (disk.faults settled.disk) (Ok tt)
    → marked.stripe.disk ≡ settled.disk → HasCount {T = Unit} (meta_faults disk old) (meta_faults disk marked) (Ok tt) → HasCount {T = Unit} (disk.faults marked.stripe.disk) (disk.faults new.disk) (Ok tt)
    → AnswersCounts disk Fine old (desk new marked.keeper pass)
wrote-cause {D} disk old settled marked new pass first left marking writing = (
  writing.cause.kept ∙ ap (λ (d : D). disk.faults d) left ∙ first.cause.kept,
  marking.cause.kept,
)

-- a write that is cut is told with the part's count
pub cut-cause : {D : Type 0} (disk : Ghosts D) (count : ℕ) (old : Desk D) (settled : Stripe D) (marked : Desk D) (new : Stripe D) (pass : PassToken) → HasCount {T = Unit} (disk.faults old.stripe.disk) (disk.faults settled.disk) (Ok tt)
    → marked.stripe.disk ≡ settled.disk → HasCount {T = Unit} (meta_faults disk old) (meta_faults disk marked) (Ok tt) → HasCount {T = Unit} (disk.faults marked.stripe.disk) (disk.faults new.disk) (Err count)
    → AnswersCounts disk (Fault DataDevice count) old (desk new marked.keeper pass)
cut-cause {D} disk count old settled marked new pass first left marking writing = (
  writing.count,
  subst (λ n. Rose n (disk.faults new.disk)) (ap (λ (d : D). disk.faults d) left ∙ first.cause.kept) writing.cause.failed,
  marking.cause.kept,
)
