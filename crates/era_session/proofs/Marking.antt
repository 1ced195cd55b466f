-- A marking step by step: what each call of it asks, and what it drew.
use Rattle.std.proofs.Common.{◌≡◌, ℕ, ◌+◌, ◌<◌, ◌||◌, Bool, true, false, List, [], ◌∷◌, ◌++◌, length, Option, None, Ok, Err, refl, sym, ap, ap₂, ◌∙◌, subst, arith, inl, inr}
use Rattle.std.specs.Prelude.{is_some}
use Rattle.std.proofs.lemmas.Bool.{eq-eqb}
use Rattle.era_base.specs.Flags.{has}
use Rattle.era_base.specs.Geometry.{blocks_of}
use Rattle.era_base.specs.declared.disk.Disk.{Ghosts}
use Rattle.era_base.specs.declared.ids.CmdId.{CmdId}
use Rattle.era_gate.specs.Calls.{GateToken, KeeperToken, PassToken, StripeToken, enters, has_mark, has_seen, pass_enters, sees}
use Rattle.era_gate.specs.Passes.{KeepsPass, no_write}
use Rattle.era_gate.specs.Receipts.{entries_in}
use Rattle.era_gate.specs.declared.stays.Stay.{Stay}
use Rattle.era_keeper.specs.Calls.{Drew as KeeperDrew, MayCall as KeeperMayCall, SameKeeper}
use Rattle.era_keeper.specs.Keepers.{KeeperFits}
use Rattle.era_keeper.specs.Results.{MarkDid}
use Rattle.era_keeper.specs.declared.keeper.Keeper.{Keeper}
use Rattle.era_model.specs.Marks.{blocks_of_marks}
use Rattle.era_model.specs.declared.entry.Entry.{Entry}
use Rattle.era_model.specs.declared.event.Event.{Event}
use Rattle.era_model.specs.declared.event.Event.TheVariants.{Refused, Tried}
use Rattle.era_model.specs.declared.event.Kind.TheVariants.{Write as WriteKind}
use Rattle.era_model.specs.declared.event.Why.TheVariants.{MetaFault}
use Rattle.era_notes.specs.Notes.{first_device}
use Rattle.era_notes.specs.Rooms.{last_in}
use Rattle.era_notes.specs.declared.chunks.Chunks.{Chunks}
use Rattle.era_session.specs.Chunks.{ChunkDrew}
use Rattle.era_session.specs.Desks.{DeskFits, desk}
use Rattle.era_session.specs.Marking.{IsInsideFor, MayMark}
use Rattle.era_session.specs.Receipts.{PassDrew}
use Rattle.era_session.specs.Writes.{IsFailedMarking, marking_events}
use Rattle.era_session.proofs.Receipts.{drew-entering, keeper-drew, keeps-both, no-entries, own-trail, trail-both}
use Rattle.era_stripe.specs.Calls.{MayBeShown, MayEnter, MayLeave, SameButStay, SameStripe}
use Rattle.era_stripe.specs.Stripes.{IsAtRest, StripeFits}
use Rattle.era_stripe.specs.declared.cut_write.CutWrite.{CutWrite}
use Rattle.era_stripe.specs.declared.stripe.Stripe.{Stripe}

-- a stripe at rest without a cut write is outside
pub outside-uncut : {D : Type 0} (stripe : Stripe D) → IsAtRest stripe → stripe.cut ≡ None → stripe.seat.part.state.inside ≡ false
outside-uncut stripe rest uncut = rest ∙ ap (λ (cut : Option CutWrite). is_some cut) uncut

-- it may enter
pub may-enter : {D : Type 0} (disk : Ghosts D) (gate : GateToken) (stripe : Stripe D) (keeper : Keeper D) (pass : PassToken) (id : CmdId) (block : ℕ) → MayMark disk gate (desk stripe keeper pass) id block → MayEnter disk gate stripe pass id
may-enter disk gate stripe keeper pass id block may = record {
  fits = may.fits.stripe;
  outside = outside-uncut stripe may.fits.rest may.uncut;
  call = record {
    table = may.fits.seats.0;
    pass_table = may.fits.pass;
    lane = may.lane;
    budget = omega arith;
    room = omega arith;
  };
}

-- a stripe that entered: its seat, and that it is inside and nothing is cut
pub record Entered {D : Type 0} (disk : Ghosts D) (old new : Stripe D) (pass pass' : PassToken) : Type 0 where
  pub fits : StripeFits disk new
  pub table : new.seat.table ≡ old.seat.table
  pub inside : new.seat.part.state.inside ≡ true
  pub keeps : KeepsPass 0 no_write pass pass'
  pub drew : PassDrew [] no_write pass pass'
  pub same : SameButStay old new

pub entered : {D : Type 0} (disk : Ghosts D) (old new : Stripe D) (pass pass' : PassToken) (stay : Stay) (era : ℕ) → StripeFits disk new → new.seat ≡ record { table = old.seat.table; part = enters old.seat.part stay era }
    → pass' ≡ record { table = pass.table; part = pass_enters pass.part stay } → KeepsPass 0 no_write pass pass' → SameButStay old new → Entered disk old new pass pass'
entered disk old new pass pass' stay era fits seat got keeps same = record {
  fits = fits;
  table = ap (λ (s : StripeToken). s.table) seat;
  inside = ap (λ (s : StripeToken). s.part.state.inside) seat;
  keeps = keeps;
  drew = drew-entering stay pass pass' got keeps;
  same = same;
}

-- the keeper may be asked
pub may-mark-for : {D : Type 0} (disk : Ghosts D) (gate : GateToken) (stripe : Stripe D) (keeper : Keeper D) (pass pass' : PassToken) (id : CmdId) (block : ℕ) → MayMark disk gate (desk stripe keeper pass) id block → KeepsPass 0 no_write pass pass'
    → KeeperMayCall disk gate keeper pass' id 2
may-mark-for disk gate stripe keeper pass pass' id block may keeps = record {
  fits = may.fits.keeper;
  table = may.fits.seats.1;
  pass_table = keeps.table ∙ may.fits.pass;
  lane = keeps.lanes id.lane ∙ may.lane;
  budget = let a = may.budget in let b = keeps.budget in omega (arith, a, b);
  room = may.room;
}

pub within-marks : {D : Type 0} (disk : Ghosts D) (gate : GateToken) (stripe : Stripe D) (keeper : Keeper D) (pass : PassToken) (id : CmdId) (block : ℕ) → MayMark disk gate (desk stripe keeper pass) id block → block < blocks_of_marks keeper.meta.marks
within-marks disk gate stripe keeper pass id block may = subst (λ n. block < n) (sym may.fits.blocks) may.of_origin

-- what the keeper drew of a marking
pub marked-drew : {D : Type 0} (disk : Ghosts D) (marked : Bool) (id : CmdId) (block : ℕ) (old new : Keeper D) (pass pass' : PassToken) → MarkDid disk marked id block (Ok tt) old new pass pass'
    → ChunkDrew (marking_events marked id block old.meta.marks.era) no_write pass pass' old.entries new.entries
marked-drew disk true id block old new pass pass' did = keeper-drew [] old new pass pass' did.1
marked-drew disk false id block old new pass pass' did = keeper-drew (marking_events false id block old.meta.marks.era) old new pass pass' did.drew

-- what it drew of one that failed
pub record Failed (marked : Bool) (id : CmdId) (block era count : ℕ) (pass pass' : PassToken) (chunks chunks' : Chunks) : Type 0 where
  pub unmarked : marked ≡ false
  pub events : List Event
  pub failed : IsFailedMarking id block era count events
  pub drew : ChunkDrew events no_write pass pass' chunks chunks'

pub failed-drew : {D : Type 0} (disk : Ghosts D) (marked : Bool) (id : CmdId) (block count : ℕ) (old new : Keeper D) (pass pass' : PassToken) → MarkDid disk marked id block (Err count) old new pass pass'
    → Failed marked id block old.meta.marks.era count pass pass' old.entries new.entries
failed-drew disk true id block count old new pass pass' did = absurd did
failed-drew disk false id block count old new pass pass' (inl first) = record {
  unmarked = refl;
  events = Refused id WriteKind (MetaFault count) ∷ [];
  failed = inl refl;
  drew = keeper-drew (Refused id WriteKind (MetaFault count) ∷ []) old new pass pass' first.drew;
}
failed-drew disk false id block count old new pass pass' (inr failed) = record {
  unmarked = refl;
  events = Tried id block old.meta.marks.era ∷ Refused id WriteKind (MetaFault count) ∷ [];
  failed = inr refl;
  drew = keeper-drew (Tried id block old.meta.marks.era ∷ Refused id WriteKind (MetaFault count) ∷ []) old new pass pass' failed.drew;
}

-- a pass that a stripe left by drew nothing
pub left-drew : (events : List Event) (chunks chunks' : Chunks) (a b c : PassToken) → ChunkDrew events no_write a b chunks chunks' → c.part.lanes ≡ b.part.lanes → KeepsPass 0 no_write b c → ChunkDrew events no_write a c chunks chunks'
left-drew events chunks chunks' a b c own lanes keeps = record {
  drew = record {
    receipts = own.drew.receipts;
    are = own.drew.are;
    lanes = lanes ∙ own.drew.lanes;
    keeps =
        let all : length events + 0 ≡ length events = omega arith in
        subst (λ n. KeepsPass n no_write a c) all (keeps-both (length events) 0 no_write no_write no_write a b c (λ id none. (none, none)) own.drew.keeps keeps);
  };
  last = own.last;
}

-- a pass that a stripe entered by
pub entered-drew : (events : List Event) (chunks chunks' : Chunks) (a b c : PassToken) → PassDrew [] no_write a b → ChunkDrew events no_write b c chunks chunks' → ChunkDrew events no_write a c chunks chunks'
entered-drew events chunks chunks' a b c first own =
    let none : entries_in first.receipts ≡ [] = no-entries (entries_in first.receipts) first.are in
    let all = trail-both [] events (entries_in first.receipts) (entries_in own.drew.receipts) no_write no_write no_write a b c (λ id none. (none, none)) (own-trail [] no_write a b first) (own-trail events no_write b c own.drew) in
    record {
      drew = all.drew;
      last = own.last ∙ ap (λ (es : List Entry). last_in chunks ++ es) (sym (all.are ∙ ap (λ (es : List Entry). es ++ entries_in own.drew.receipts) none));
    }

-- what the keeper drew is the same once the stripe left
keeper-left : {D : Type 0} (events : List Event) (old new : Keeper D) (a b c : PassToken) → c.part.lanes ≡ b.part.lanes → KeepsPass 0 no_write b c → KeeperDrew events old new a b → KeeperDrew events old new a c
keeper-left events old new a b c lanes keeps drew = record {
  kept = drew.kept;
  receipts = lanes ∙ drew.receipts;
  keeps =
      let all : length events + 0 ≡ length events = omega arith in
      subst (λ n. KeepsPass n no_write a c) all (keeps-both (length events) 0 no_write no_write no_write a b c (λ id none. (none, none)) drew.keeps keeps);
}

pub failed-left : {D : Type 0} (disk : Ghosts D) (marked : Bool) (id : CmdId) (block count : ℕ) (old new : Keeper D) (a b c : PassToken) → c.part.lanes ≡ b.part.lanes → KeepsPass 0 no_write b c
    → MarkDid disk marked id block (Err count) old new a b → MarkDid disk marked id block (Err count) old new a c
failed-left disk true id block count old new a b c lanes keeps did = absurd did
failed-left disk false id block count old new a b c lanes keeps (inl first) = inl (record {
  failed = first.failed;
  drew = keeper-left _ old new a b c lanes keeps first.drew;
})
failed-left disk false id block count old new a b c lanes keeps (inr failed) = inr (record {
  between = failed.between;
  first = failed.first;
  failed = failed.failed;
  drew = keeper-left _ old new a b c lanes keeps failed.drew;
})

-- steps that change nothing but the stay, one after the other
pub stay-then : {D : Type 0} (a b c : Stripe D) → SameButStay a b → SameButStay b c → SameButStay a c
stay-then a b c one two = record {
  disk = two.disk ∙ one.disk;
  index = two.index ∙ one.index;
  geometry = two.geometry ∙ one.geometry;
  first_block = two.first_block ∙ one.first_block;
  blocks = two.blocks ∙ one.blocks;
  cut = two.cut ∙ one.cut;
  entries = two.entries ∙ one.entries;
  notes = two.notes ∙ one.notes;
  room = two.room ∙ one.room;
}

-- such steps leave a stripe over the same part
pub stay-same : {D : Type 0} (disk : Ghosts D) (old new : Stripe D) → SameButStay old new → new.seat.table ≡ old.seat.table → SameStripe disk old new
stay-same {D} disk old new same table = record {
  index = same.index;
  geometry = same.geometry;
  first_block = same.first_block;
  blocks = same.blocks;
  place = ap (λ (d : D). disk.place d) same.disk;
  sectors = ap (λ (d : D). disk.sectors d) same.disk;
  began = ap first_device same.notes;
  table = table;
}

-- the marks are of as many blocks as before
marks-same : {D : Type 0} (disk : Ghosts D) (old new : Keeper D) → SameKeeper disk old new → blocks_of_marks new.meta.marks ≡ blocks_of_marks old.meta.marks
marks-same disk old new same = ap₂ blocks_of same.sectors same.block_sectors

-- the stripe may be shown the mark
pub may-be-shown : {D : Type 0} (disk : Ghosts D) (gate : GateToken) (old between : Stripe D) (keeper marked : Keeper D) (pass pass' : PassToken) (id : CmdId) (block : ℕ) → MayMark disk gate (desk old keeper pass) id block → Entered disk old between pass pass'
    → SameKeeper disk keeper marked → has_mark block marked.seat.part.state.era marked.seat.part.state.entries ≡ true → MayBeShown disk gate between marked.seat block
may-be-shown disk gate old between keeper marked pass pass' id block may entered same has = record {
  fits = entered.fits;
  table = entered.table ∙ may.fits.seats.0;
  keeper_table = same.table ∙ may.fits.seats.1;
  inside = entered.inside;
  marked = has;
}

-- and is then inside for the block
pub inside-for : {D : Type 0} (disk : Ghosts D) (gate : GateToken) (old between shown : Stripe D) (keeper marked held : Keeper D) (pass pass' new : PassToken) (id : CmdId) (block : ℕ) (marks : List Event) → MayMark disk gate (desk old keeper pass) id block
    → Entered disk old between pass pass' → KeeperFits disk marked → SameKeeper disk keeper marked → PassDrew marks no_write pass' new → StripeFits disk shown
    → shown.seat ≡ record { table = between.seat.table; part = sees between.seat.part true block } → SameButStay between shown → held ≡ marked → IsInsideFor disk gate block (desk shown held new)
inside-for {D} disk gate old between shown keeper marked held pass pass' new id block marks may entered fits same drew stripe seat stay is = record {
  stripe = stripe;
  uncut = stay.cut ∙ entered.same.cut ∙ may.uncut;
  inside = ap (λ (s : StripeToken). s.part.state.inside) seat ∙ entered.inside;
  saw = ap (λ (s : StripeToken). has_seen block s.part.seen) seat ∙ ap (λ b. b || has_seen block between.seat.part.seen) (eq-eqb block block refl);
  keeper = subst (λ (k : Keeper D). KeeperFits disk k) (sym is) fits;
  seats = (
    ap (λ (s : StripeToken). s.table) seat ∙ entered.table ∙ may.fits.seats.0,
    ap (λ (k : Keeper D). k.seat.table) is ∙ same.table ∙ may.fits.seats.1,
  );
  pass = drew.keeps.table ∙ entered.keeps.table ∙ may.fits.pass;
  blocks = ap (λ (k : Keeper D). blocks_of_marks k.meta.marks) is ∙ marks-same disk keeper marked same ∙ may.fits.blocks;
}

-- the stripe may leave
pub may-leave : {D : Type 0} (disk : Ghosts D) (gate : GateToken) (old between : Stripe D) (keeper : Keeper D) (pass pass' new : PassToken) (id : CmdId) (block : ℕ) (events : List Event) → MayMark disk gate (desk old keeper pass) id block
    → Entered disk old between pass pass' → PassDrew events no_write pass' new → MayLeave disk gate between new
may-leave disk gate old between keeper pass pass' new id block events may entered drew = record {
  fits = entered.fits;
  table = entered.table ∙ may.fits.seats.0;
  pass_table = drew.keeps.table ∙ entered.keeps.table ∙ may.fits.pass;
  inside = entered.inside;
  uncut = entered.same.cut ∙ may.uncut;
}

-- and all fits together then
pub fits-left : {D : Type 0} (disk : Ghosts D) (gate : GateToken) (old between gone : Stripe D) (keeper marked : Keeper D) (pass pass' drawn new : PassToken) (id : CmdId) (block : ℕ) (events : List Event) → MayMark disk gate (desk old keeper pass) id block
    → Entered disk old between pass pass' → KeeperFits disk marked → SameKeeper disk keeper marked → PassDrew events no_write pass' drawn → KeepsPass 0 no_write drawn new → StripeFits disk gone → IsAtRest gone
    → gone.seat.table ≡ between.seat.table → DeskFits disk gate (desk gone marked new)
fits-left disk gate old between gone keeper marked pass pass' drawn new id block events may entered fits same drew keeps stripe rest table = record {
  stripe = stripe;
  rest = rest;
  keeper = fits;
  seats = (table ∙ entered.table ∙ may.fits.seats.0, same.table ∙ may.fits.seats.1);
  pass = keeps.table ∙ drew.keeps.table ∙ entered.keeps.table ∙ may.fits.pass;
  blocks = marks-same disk keeper marked same ∙ may.fits.blocks;
}

-- a keeper with another seat
abbrev pub with-seat : {D : Type 0} → Keeper D → KeeperToken → Keeper D
with-seat keeper seat = record { meta = keeper.meta; seat = seat; entries = keeper.entries; notes = keeper.notes }
