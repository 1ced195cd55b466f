-- What may happen by one history may happen by another one that says the same.
use Rattle.std.proofs.Common.{◌≡◌, ℕ, ◌+◌, ◌*◌, ◌/◌, ◌<◌, ◌≤◌, Bool, true, false, ◌==◌, ◌&&◌, ◌||◌, List, [], ◌∷◌, length, Some, None, Option, refl, ap, sym, ◌∙◌, subst, inl, inr}
use Rattle.std.specs.Prelude.{max, nat_le, nat_lt, is_some, slice_index}
use Rattle.era_base.specs.declared.ids.CmdId.{CmdId}
use Rattle.era_model.specs.declared.event.Event.{Event}
use Rattle.era_model.specs.declared.event.Event.TheVariants.{Tried, Mark, Go, Done, Cut, Settle, Unsettled, Read, Roll, Kept, Snap, Dropped, Digest, List as ListEvent, Status, Refused}
use Rattle.era_model.specs.declared.event.Kind.{Kind}
use Rattle.era_model.specs.declared.event.Kind.TheVariants.{Write as WriteKind, Checkpoint as CheckpointKind, Status as StatusKind, List as ListKind}
use Rattle.era_model.specs.declared.event.Why.{Why}
use Rattle.era_model.specs.declared.event.Why.TheVariants.{DataFault, MetaFault, End, Held, NoSnap, Idle, Memory}
use Rattle.era_model.specs.declared.history.Happening.{Happening}
use Rattle.era_model.specs.declared.history.Images.{Images}
use Rattle.era_model.specs.Changed.{IsCrashContent}
use Rattle.era_model.specs.CommandEvents.{written_stripe}
use Rattle.era_model.specs.Conditions.{ListsSnapshot, MayList}
use Rattle.era_model.specs.Counts.{CountAscends, FaultyDisk, PartCountAscends, PartOf, MetadataDisk, RoseFrom}
use Rattle.era_model.specs.Crashes.{MayCrash, image_of}
use Rattle.era_model.specs.Digest.{digest_of}
use Rattle.era_model.specs.History.{blocks_now, in_flight, known_bytes, stripe_now}
use Rattle.era_model.specs.Legal.{MayHappen, MayRefuse, NeedsVolatileEra}
use Rattle.era_model.specs.Marking.{era_is_volatile, failed_after_switch, held_of, journal_last_era, marks_of, switch_before_refusals}
use Rattle.era_model.specs.Marks.{BlockMarks, marks_last_era}
use Rattle.era_model.specs.Recovered.{HaveJournalLasts, MayHaveEra, MayHold}
use Rattle.era_model.specs.SessionRun.{place_now}
use Rattle.era_model.specs.Usage.{IsUsage, held_block}
use Rattle.era_model.specs.declared.flight.FlightWrite.{FlightWrite}
use Rattle.era_model.specs.Writes.{block_bytes, bytes_of, is_cut, is_cut_at, is_writing, is_written_at, some_block, write_of}
use Rattle.era_core.proofs.Words.{SaysSame, at-same, stripe-same, written-same}

blocks-same : (h h' : List Happening) → SaysSame h h' → blocks_now h ≡ blocks_now h'
blocks-same h h' same = at-same _ _ h h' same

-- the sectors of a place
place-same : (h h' : List Happening) (sector sector' count : ℕ) (place : Option (ℕ × ℕ)) → SaysSame h h' → sector ≡ sector' → place_now h sector count ≡ place → place_now h' sector' count ≡ place
place-same h h' sector sector' count place same at is =
    ap (λ s. place_now h' s count) (sym at) ∙ sym (at-same _ _ h h' same) ∙ is

-- a test of blocks that tells the same
some-same : (writes : List FlightWrite) (test test' : ℕ → Bool) → ((block : ℕ) → test block ≡ test' block) → some_block writes test ≡ some_block writes test'
some-same [] test test' each = refl
some-same (write ∷ writes) test test' each =
    ap (λ first. first || some_block writes test) (each write.block) ∙ ap (λ rest. test' write.block || rest) (some-same writes test test' each)

alone-same : (h h' : List Happening) (block : ℕ) → SaysSame h h'
    → some_block (in_flight h) (λ written. stripe_now h written == stripe_now h block) ≡ some_block (in_flight h') (λ written. stripe_now h' written == stripe_now h' block)
alone-same h h' block same =
    some-same (in_flight h) (λ written. stripe_now h written == stripe_now h block) (λ written. stripe_now h' written == stripe_now h' block)
    (λ written. ap (λ s. s == stripe_now h block) (stripe-same h h' written same) ∙ ap (λ s. stripe_now h' written == s) (stripe-same h h' block same))
    ∙ ap (λ writes. some_block writes (λ written. stripe_now h' written == stripe_now h' block)) same.flights

-- a count that ascends
count-same : (h h' : List Happening) (disk : FaultyDisk) (count : ℕ) → SaysSame h h' → CountAscends h disk count → CountAscends h' disk count
count-same h h' disk count same may = subst (λ last. RoseFrom last count) (same.counts disk) may

part-same : (h h' : List Happening) (stripe : Option ℕ) (count : ℕ) → SaysSame h h' → PartCountAscends h stripe count → PartCountAscends h' stripe count
part-same h h' None count same may = may
part-same h h' (Some stripe) count same may = count-same h h' (PartOf stripe) count same may

write-count-same : (h h' : List Happening) (id : CmdId) (count : ℕ) → SaysSame h h' → PartCountAscends h (written_stripe h id) count → PartCountAscends h' (written_stripe h' id) count
write-count-same h h' id count same may = subst (λ stripe. PartCountAscends h' stripe count) (written-same h h' id same) (part-same h h' (written_stripe h id) count same may)

-- an era that stands in memory alone
volatile-same : (h h' : List Happening) → SaysSame h h' → era_is_volatile h ≡ era_is_volatile h'
volatile-same h h' same = ap (λ since. failed_after_switch h since) same.since ∙ by_switch (switch_before_refusals h')
  where
    by_switch : (since : Option CmdId) → failed_after_switch h since ≡ failed_after_switch h' since
    by_switch None = refl
    by_switch (Some id) = same.failed id

needs-same : (h h' : List Happening) (id : CmdId) (kind : Kind) → SaysSame h h' → NeedsVolatileEra h id kind → NeedsVolatileEra h' id kind
needs-same h h' id WriteKind same needs = λ none. sym (volatile-same h h' same) ∙ needs (same.asked id ∙ none)
needs-same h h' id CheckpointKind same needs = λ none. sym (volatile-same h h' same) ∙ needs (same.switched id ∙ none)
needs-same h h' id StatusKind same needs = sym (volatile-same h h' same) ∙ needs
needs-same h h' id ListKind same needs = sym (volatile-same h h' same) ∙ needs
needs-same h h' id kind same needs = needs

refuse-same : (h h' : List Happening) (id : CmdId) (kind : Kind) (why : Why) → SaysSame h h' → MayRefuse h id kind why → MayRefuse h' id kind why
refuse-same h h' id kind (DataFault stripe count) same may = count-same h h' (PartOf stripe) count same may
refuse-same h h' id kind (MetaFault count) same may = record { rose = count-same h h' MetadataDisk count same may.rose; cause = needs-same h h' id kind same may.cause }
refuse-same h h' id kind End same may = sym same.era ∙ may
refuse-same h h' id kind (Held block) same may = record { block_two = may.block_two; held = ap is_some (sym same.held) ∙ may.held }
refuse-same h h' id kind NoSnap same may = sym same.held ∙ may
refuse-same h h' id kind Idle same may = ap (λ m. m.archive) (sym same.marks) ∙ may
refuse-same h h' id kind Memory same may = may

list-same : (h h' : List Happening) (since : ℕ) (snap : Bool) (runs : List (ℕ × ℕ)) → SaysSame h h' → MayList h since snap runs → MayList h' since snap runs
list-same h h' since false runs same may = record {
  maximal = may.maximal;
  exact = λ block. may.exact block ∙ ap (λ blocks. nat_lt block blocks && nat_le (max since 1) (journal_last_era h block)) (blocks-same h h' same)
      ∙ ap (λ last. nat_lt block (blocks_now h') && nat_le (max since 1) last) (same.lasts block);
}
list-same h h' since true runs same may = subst (λ held. ListsSnapshot held since runs) same.held may

-- an event may happen by both
pub may-same : (h h' : List Happening) (event : Event) → SaysSame h h' → MayHappen h event → MayHappen h' event
may-same h h' (Tried id block era) same may = record {
  of_origin = subst (λ blocks. block < blocks) (blocks-same h h' same) may.of_origin;
  present = may.present ∙ same.era;
  unmarked = sym (same.marked block era) ∙ may.unmarked;
}
may-same h h' (Mark id block era) same may = record {
  of_origin = subst (λ blocks. block < blocks) (blocks-same h h' same) may.of_origin;
  tried = same.drawn id id block era may.tried;
  present = may.present ∙ same.era;
}
may-same h h' (Go id block era first bytes) same may = record {
  of_origin = subst (λ blocks. block < blocks) (blocks-same h h' same) may.of_origin;
  whole = may.whole;
  place = place-same h h' _ _ (length bytes / 512) (Some (block, first)) same (at-same 0 (λ o. block * o.geometry.block_sectors + first) h h' same) may.place;
  marked = sym (same.marked block era) ∙ may.marked;
  present = may.present ∙ same.era;
  alone = sym (alone-same h h' block same) ∙ may.alone;
  once = sym (same.issued id) ∙ may.once;
}
may-same h h' (Done id) same may = record { writing = ap (λ writes. is_writing writes id) (sym same.flights) ∙ may.writing }
may-same h h' (Cut id faults) same may = record {
  writing = ap (λ writes. is_writing writes id) (sym same.flights) ∙ may.writing;
  rose = write-count-same h h' id faults same may.rose;
}
may-same h h' (Settle by cut bytes) same may = record {
  pending = ap (λ writes. is_cut writes cut) (sym same.flights) ∙ may.pending;
  size = may.size ∙ ap (λ writes. length (bytes_of (write_of writes cut))) same.flights;
}
may-same h h' (Unsettled by cut faults) same may = record {
  pending = ap (λ writes. is_cut writes cut) (sym same.flights) ∙ may.pending;
  rose = write-count-same h h' cut faults same may.rose;
}
may-same h h' (Read id sector bytes) same may = record {
  whole = may.whole;
  block = may.block;
  first = may.first;
  place = place-same h h' sector sector (length bytes / 512) (Some (may.block, may.first)) same refl may.place;
  same = λ known offset within clear.
      may.same (at-same false (λ o. is_some o.contents.bytes) h h' same ∙ known) offset within (ap (λ writes. is_cut_at writes may.block (may.first * 512 + offset)) same.flights ∙ clear)
      ∙ ap (λ bytes. slice_index bytes (may.first * 512 + offset)) (same.contents may.block);
}
may-same h h' (Roll id era) same may = record { next = may.next ∙ ap (λ now. now + 1) same.era; quiet = sym same.flights ∙ may.quiet }
may-same h h' (Kept id inside) same may = record { some = may.some; stripes = subst (λ stripes. inside ≤ stripes) (at-same 0 (λ o. o.stripes) h h' same) may.stripes }
may-same h h' (Snap id block) same may = record { block_two = may.block_two; none = sym same.held ∙ may.none }
may-same h h' (Dropped id) same may = record { held = ap is_some (sym same.held) ∙ may.held }
may-same h h' (Digest id era page) same may = record { step = ap (λ m. digest_of m.archive m.array) (sym same.marks) ∙ may.step }
may-same h h' (ListEvent id since snap blocks) same may = list-same h h' since snap blocks same may
may-same h h' (Status id used total era held) same may = record {
  usage = subst (λ now. IsUsage (marks_of h') now used) same.held (subst (λ m. IsUsage m (held_of h) used) same.marks may.usage);
  size = may.size ∙ at-same 0 (λ o. o.total) h h' same;
  present = may.present ∙ same.era;
  snapshot = may.snapshot ∙ ap held_block same.held;
}
may-same h h' (Refused id kind why) same may = refuse-same h h' id kind why same may

-- what a crash may leave of a block
crash-content-same : (h h' : List Happening) (block : ℕ) (image : List ℕ) → SaysSame h h' → IsCrashContent h block image → IsCrashContent h' block image
crash-content-same h h' block image same may = record {
  size = may.size ∙ ap length (same.contents block);
  same = λ offset clear.
      may.same offset (ap (λ writes. is_written_at writes block offset) same.flights ∙ clear) ∙ ap (λ bytes. slice_index bytes offset) (same.contents block);
}

lasts-same : (h h' : List Happening) (m : BlockMarks) (exception : Option ℕ) → SaysSame h h' → HaveJournalLasts h m exception → HaveJournalLasts h' m exception
lasts-same h h' m None same lasts = λ block within. lasts block (subst (λ blocks. block < blocks) (sym (blocks-same h h' same)) within) ∙ same.lasts block
lasts-same h h' m (Some other) same lasts = (
  record {
    later = subst (λ last. last < marks_last_era m other) (same.lasts other) lasts.0.later;
    tried = sym (same.tried other (marks_last_era m other)) ∙ lasts.0.tried;
  },
  λ block within apart. lasts.1 block (subst (λ blocks. block < blocks) (sym (blocks-same h h' same)) within) apart ∙ same.lasts block,
)

era-same : (h h' : List Happening) (era : ℕ) → SaysSame h h' → MayHaveEra h era → MayHaveEra h' era
era-same h h' era same (inl now) = inl (now ∙ same.era)
era-same h h' era same (inr before) = inr (before.0 ∙ same.era, ap is_some (sym same.since) ∙ before.1)

hold-same : (h h' : List Happening) (held found : Option BlockMarks) → SaysSame h h' → MayHold h held found → MayHold h' held found
hold-same h h' None found same (inl none) = inl none
hold-same h h' None None same (inr taken) = absurd taken
hold-same h h' None (Some m) same (inr taken) = inr (same.were m taken)
hold-same h h' (Some held) found same may = may

-- what a crash may leave
pub crash-same : (h h' : List Happening) (images : Images) → SaysSame h h' → MayCrash h images → MayCrash h' images
crash-same h h' images same may = record {
  origin = record {
    size = may.origin.size ∙ ap length (at-same _ _ h h' same);
    blocks = λ block within.
        subst (λ size. IsCrashContent h' block (block_bytes size (known_bytes images.contents.bytes) block)) (at-same 0 (λ o. o.geometry.block_sectors) h h' same)
        (crash-content-same h h' block (image_of h images block) same (may.origin.blocks block (subst (λ blocks. block < blocks) (sym (blocks-same h h' same)) within)));
  };
  metadata = record {
    valid = may.metadata.valid;
    sectors = may.metadata.sectors ∙ at-same 0 (λ o. o.geometry.sectors) h h' same;
    block_sectors = may.metadata.block_sectors ∙ at-same 0 (λ o. o.geometry.block_sectors) h h' same;
    exception = may.metadata.exception;
    lasts = lasts-same h h' images.marks may.metadata.exception same may.metadata.lasts;
    era = era-same h h' images.marks.era same may.metadata.era;
    valid_snapshot = may.metadata.valid_snapshot;
    snapshot = subst (λ held. MayHold h' held images.held) same.held (hold-same h h' (held_of h) images.held same may.metadata.snapshot);
  };
}
