-- What was drawn: one event, and two in order.
use Rattle.std.proofs.Common.{◌≡◌, ℕ, ◌+◌, ◌≤◌, false, List, [], ◌∷◌, ◌++◌, length, map, arith, refl, sym, ap, ◌∙◌, append_assoc}
use Rattle.era_base.specs.declared.disk.Disk.{Ghosts}
use Rattle.era_base.specs.declared.ids.CmdId.{CmdId}
use Rattle.era_gate.specs.Calls.{KeeperAsks, PassToken, receives}
use Rattle.era_gate.specs.Acts.{lane_of}
use Rattle.era_gate.specs.declared.stays.Receipt.TheVariants.{OfEvent}
use Rattle.era_gate.specs.Passes.{KeepsPass, no_write}
use Rattle.era_gate.specs.Places.{AscendFrom}
use Rattle.era_gate.specs.StateAfter.{entry}
use Rattle.era_gate.specs.declared.parts.KeeperPart.{KeeperPart}
use Rattle.era_model.specs.declared.entry.Entry.{Entry}
use Rattle.era_model.specs.declared.event.Event.{Event}
use Rattle.era_model.specs.declared.event.Event.TheVariants.{Go}
use Rattle.era_model.specs.Events.{is_go_of}
use Rattle.era_notes.specs.Rooms.{entries_in, free_in, last_in}
use Rattle.era_keeper.specs.declared.keeper.Keeper.{Keeper}
use Rattle.era_keeper.specs.Calls.{Drew, DrewAt, SameKeeper, SameRest}

-- ascending places are no fewer than the entries
pub ascend-length : (place : ℕ) (entries : List Entry) (last : Entry) → AscendFrom place (entries ++ last ∷ []) → place + length (entries ++ last ∷ []) ≤ last.place + 1
ascend-length place [] last ascend = omega (arith, ascend.0)
ascend-length place (entry ∷ entries) last ascend = let rest = ascend-length (entry.place + 1) entries last ascend.1 in omega (arith, rest, ascend.0)

-- the keeper issues no write
no-go : (event : Event) (part : KeeperPart) (id : CmdId) → KeeperAsks event part → is_go_of id event ≡ false
no-go (Go other block era first bytes) part id asks = absurd asks
no-go event part id asks = refl

pub keeps-none : (event : Event) (part : KeeperPart) (old new : PassToken) → KeeperAsks event part → KeepsPass 1 (λ id. is_go_of id event) old new → KeepsPass 1 no_write old new
keeps-none event part old new asks keeps = record {
  table = keeps.table;
  lanes = keeps.lanes;
  gone = λ id not. keeps.gone id (no-go event part id asks);
  budget = keeps.budget;
  floor = keeps.floor;
  begun = keeps.begun;
  ended = keeps.ended;
}

-- a pass is kept over calls that issue no write
pub keeps-then : (drawn more : ℕ) (a b c : PassToken) → KeepsPass drawn no_write a b → KeepsPass more no_write b c → KeepsPass (drawn + more) no_write a c
keeps-then drawn more a b c one two = record {
  table = two.table ∙ one.table;
  lanes = λ l. two.lanes l ∙ one.lanes l;
  gone = λ id not. two.gone id not ∙ one.gone id not;
  budget = omega (arith, one.budget, two.budget);
  floor = omega (arith, one.floor, two.floor);
  begun = λ d. omega (arith, one.begun d, two.begun d);
  ended = λ d. omega (arith, one.ended d, two.ended d);
}

-- one draw
pub drew-one : {D : Type 0} (old new : Keeper D) (pass pass' : PassToken) (event : Event) (place : ℕ) → DrewAt event place old new pass pass' → Drew (event ∷ []) old new pass pass'
drew-one old new pass pass' event place drew = record {
  kept = record { entries = entry place event ∷ []; are = refl; kept = drew.kept; last = drew.last; ascend = (drew.floor, tt); room = sym drew.room };
  receipts = drew.lanes;
  keeps = drew.keeps;
}

-- two draws, between which the entries stay
pub drew-two : {D : Type 0} (old one mid new : Keeper D) (pass between pass' : PassToken) (first second : Event) (p q : ℕ) → DrewAt first p old one pass between → mid.entries ≡ one.entries
    → DrewAt second q mid new between pass' → Drew (first ∷ second ∷ []) old new pass pass'
drew-two old one mid new pass between pass' first second p q drew same then =
    let kept : entries_in mid.entries ≡ entries_in old.entries ++ entry p first ∷ [] = ap entries_in same ∙ drew.kept in
    let last : last_in mid.entries ≡ last_in old.entries ++ entry p first ∷ [] = ap last_in same ∙ drew.last in
    let room : free_in mid.entries ≡ free_in one.entries = ap free_in same in
    record {
      kept = record {
        entries = entry p first ∷ entry q second ∷ [];
        are = refl;
        kept = then.kept ∙ ap (λ entries. entries ++ entry q second ∷ []) kept ∙ append_assoc (entries_in old.entries) (entry p first ∷ []) (entry q second ∷ []);
        last = then.last ∙ ap (λ entries. entries ++ entry q second ∷ []) last ∙ append_assoc (last_in old.entries) (entry p first ∷ []) (entry q second ∷ []);
        ascend = (drew.floor, (omega (arith, drew.next, then.floor), tt));
        room = omega (arith, room, drew.room, then.room);
      };
      receipts = then.lanes ∙ ap (map (receives (lane_of second) (OfEvent (entry q second)))) drew.lanes;
      keeps = keeps-then 1 1 pass between pass' drew.keeps then.keeps;
    }

-- none
pub drew-none : {D : Type 0} (old new : Keeper D) (pass : PassToken) → new.entries ≡ old.entries → Drew [] old new pass pass
drew-none old new pass same = record {
  kept = record { entries = []; are = refl; kept = ap entries_in same ∙ sym (no-more (entries_in old.entries)); last = ap last_in same ∙ sym (no-more (last_in old.entries)); ascend = tt; room = ap free_in (sym same) ∙ omega arith };
  receipts = refl;
  keeps = record { table = refl; lanes = λ l. refl; gone = λ id not. refl; budget = omega arith; floor = omega arith; begun = λ d. omega arith; ended = λ d. omega arith };
}
  where
    no-more : (es : List Entry) → es ++ [] ≡ es
    no-more [] = refl
    no-more (e ∷ es) = ap (λ rest. e ∷ rest) (no-more es)

-- what was drawn by a keeper with the same entries
pub drew-from : {D : Type 0} (old mid new : Keeper D) (pass pass' : PassToken) (events : List Event) → mid.entries ≡ old.entries → Drew events mid new pass pass' → Drew events old new pass pass'
drew-from old mid new pass pass' events same drew = record {
  kept = record {
    entries = drew.kept.entries;
    are = drew.kept.are;
    kept = drew.kept.kept ∙ ap (λ chunks. entries_in chunks ++ drew.kept.entries) same;
    last = drew.kept.last ∙ ap (λ chunks. last_in chunks ++ drew.kept.entries) same;
    ascend = drew.kept.ascend;
    room = ap free_in (sym same) ∙ drew.kept.room;
  };
  receipts = drew.receipts;
  keeps = drew.keeps;
}

-- what was drawn, by a keeper with the same entries behind it
pub drew-to : {D : Type 0} (old mid new : Keeper D) (pass pass' : PassToken) (events : List Event) → new.entries ≡ mid.entries → Drew events old mid pass pass' → Drew events old new pass pass'
drew-to old mid new pass pass' events same drew = record {
  kept = record {
    entries = drew.kept.entries;
    are = drew.kept.are;
    kept = ap entries_in same ∙ drew.kept.kept;
    last = ap last_in same ∙ drew.kept.last;
    ascend = drew.kept.ascend;
    room = drew.kept.room ∙ ap (λ chunks. free_in chunks + length events) (sym same);
  };
  receipts = drew.receipts;
  keeps = drew.keeps;
}

-- a draw keeps what a keeper is
pub same-rest : {D : Type 0} (disk : Ghosts D) (old new : Keeper D) → SameRest old new → SameKeeper disk old new
same-rest disk old new same = record {
  table = same.table;
  device = record { place = ap (λ meta. disk.place meta.slots.disk) same.meta; size = ap (λ meta. disk.sectors meta.slots.disk) same.meta };
  began = same.began;
  sectors = ap (λ meta. meta.marks.sectors) same.meta;
  block_sectors = ap (λ meta. meta.marks.block_sectors) same.meta;
}

pub same-then : {D : Type 0} (disk : Ghosts D) (a b c : Keeper D) → SameKeeper disk a b → SameKeeper disk b c → SameKeeper disk a c
same-then disk a b c one two = record {
  table = two.table ∙ one.table;
  device = record { place = two.device.place ∙ one.device.place; size = two.device.size ∙ one.device.size };
  began = two.began ∙ one.began;
  sectors = two.sectors ∙ one.sectors;
  block_sectors = two.block_sectors ∙ one.block_sectors;
}
