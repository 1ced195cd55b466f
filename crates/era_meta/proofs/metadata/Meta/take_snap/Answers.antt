use Rattle.std.proofs.Common.{◌≡◌, ◌+◌, true, Some, refl, sym, ap, ◌∙◌, subst, arith}
use Rattle.era_layout.specs.Root.{fields_of}
use Rattle.era_layout.specs.declared.root.Root.{Root}
use Rattle.era_model.specs.Marks.{BlockMarks}
use Rattle.era_slots.specs.declared.slots.Slots.{Slots}
use Rattle.era_base.specs.CrashModel.{Went}
use Rattle.era_meta.specs.Held.{snapshot_root}
use Rattle.era_meta.specs.HeldCalls.{with_flag, holding_calls}
use Rattle.era_base.specs.Calls.{MakesCalls}
use Rattle.era_meta.specs.Copies.{IsSnapshotOf}
use Rattle.era_meta.specs.InMemory.{meaning_in, FitTogether, MetaStands}
use Rattle.era_meta.specs.Meaning.{pages_in, IsHeld}
use Rattle.era_meta.specs.MetaCalls.{IsStanding}
use Rattle.era_meta.specs.SnapshotCalls.{FailsToCommitSnapshot, HasHeld, MetaHolds}
use Rattle.era_meta.proofs.Ends.{on_err}
use Rattle.era_meta.proofs.MetaHeld.{held-stands, same-fit, still-holds}
use Rattle.era_meta.proofs.MetaTaken.{ahead-none, flag-fit, held-marks, held-none, held-root, held-shared, taken-stored}
use Rattle.era_meta.proofs.metadata.Meta.take_snap.Goals as goal

pub store_held-requires : goal.store_held-requires
store_held-requires g c = record {
  stands = (λ told. (c.requires.ready.standing.stands told).keeps.stands, c.requires.ready.below);
  room = let room = c.requires.ready.standing.fit.room in omega arith;
  valid = c.requires.ready.standing.fit.valid;
}

pub hold-requires : goal.hold-requires
hold-requires g c =
    let old = c.args.self.now in
    subst (λ (root : Root). FitTogether g.D.Disk (record old { slots = c.store_held.new.slots; root = root })) (sym c.in_ok-store_held.ensures.ok.3)
    (flag-fit g.D.Disk old c.store_held.new.slots true c.store_held.ensures.keeps.device.size c.requires.ready.standing.fit)

-- the root wasn't committed
pub returns-in_err-store_held-clause-moments : goal.returns-in_err-store_held-clause-moments
returns-in_err-store_held-clause-moments g c = λ told.
    c.store_held.ensures.moments told (snapshot_root c.args.self.now.snapshot)
    (record { keeps = (c.requires.ready.standing.stands told).keeps; none = λ is. held-none c.args.self.now.snapshot c.requires.none })

pub returns-in_err-store_held-clause-standing : goal.returns-in_err-store_held-clause-standing
returns-in_err-store_held-clause-standing g c =
    let old = c.args.self.now in let slots = c.store_held.new.slots in
    subst (λ (root : Root). IsStanding g.D.Disk (record old { slots = slots; root = root })) (sym c.in_err-store_held.ensures.err.2)
    (record {
      fit = same-fit g.D.Disk old slots c.store_held.ensures.keeps.device.size c.requires.ready.standing.fit;
      stands = λ told.
          let stands = c.requires.ready.standing.stands told in
          let still = c.in_err-store_held.ensures.err.0 told (snapshot_root old.snapshot) (record { keeps = stands.keeps; none = λ is. held-none old.snapshot c.requires.none }) in
          still-holds old (record old { slots = slots }) true (g.D.Disk.history old.slots.disk).now (g.D.Disk.history slots.disk).now
          (record { keeps = still.keeps; says = still.says; left = still.left }) refl refl refl stands;
    })

pub returns-in_err-store_held-clause-err : goal.returns-in_err-store_held-clause-err
returns-in_err-store_held-clause-err g c = on_err c.from_residual.result (
    let old = c.args.self.now in let slots = c.store_held.new.slots in
    subst (λ (root : Root). FailsToCommitSnapshot g.D.Disk old true (record old { slots = slots; root = root })) (sym c.in_err-store_held.ensures.err.2)
    (record {
      still = λ told.
          let still = c.in_err-store_held.ensures.err.0 told (snapshot_root old.snapshot)
          (record { keeps = (c.requires.ready.standing.stands told).keeps; none = λ is. held-none old.snapshot c.requires.none }) in
          record { keeps = still.keeps; says = still.says; left = still.left };
      snapshot = refl;
      number = c.in_err-store_held.ensures.err.1.number;
    }))

-- the snapshot is taken
pub returns-clause-moments : goal.returns-clause-moments
returns-clause-moments g c = λ told.
    let old = c.args.self.now in
    subst (λ (slots : Slots g.row.D.Denot). Went (MetaHolds old true) (g.D.Disk.history old.slots.disk) (g.D.Disk.history slots.disk)) (sym c.hold.ensures.same.0)
    (c.store_held.ensures.moments told (snapshot_root old.snapshot)
    (record { keeps = (c.requires.ready.standing.stands told).keeps; none = λ is. held-none old.snapshot c.requires.none }))

root-is : (root root' after : Root) → root' ≡ root → root ≡ record after { held = true } → fields_of root' ≡ with_flag (fields_of after) true
root-is root root' after one two = ap fields_of (one ∙ two)

pub returns-clause-standing : goal.returns-clause-standing
returns-clause-standing g c =
    let old = c.args.self.now in let new = c.hold.new.self in let slots = c.store_held.new.slots in
    record {
      fit = c.hold.ensures.fit;
      stands = subst (λ (s : Slots g.row.D.Denot). g.D.Disk.tells ≡ true → MetaStands new (g.D.Disk.history s.disk).now) (sym c.hold.ensures.same.0) (λ told.
          let before = (g.D.Disk.history old.slots.disk).now in
          let now = (g.D.Disk.history slots.disk).now in
          let stands = c.requires.ready.standing.stands told in
          let none = held-none old.snapshot c.requires.none in
          let flag = subst (IsHeld (pages_in before.seen) (fields_of old.root)) none stands.keeps.kept.whole.snapshot in
          let is = subst (λ (r : Root). IsSnapshotOf new.snapshot (fields_of r) old.marks) c.in_ok-store_held.ensures.ok.3 c.hold.ensures.held in
          let stored = taken-stored old new slots before now c.hold.ensures.same.0
          (root-is c.store_held.new.root new.root old.root c.hold.ensures.same.1 c.in_ok-store_held.ensures.ok.3) (held-root new.snapshot (fields_of old.root) old.marks flag is)
          (c.in_ok-store_held.ensures.ok.0 told (snapshot_root old.snapshot) (record { keeps = stands.keeps; none = λ yes. none })) in
          held-stands old new true before now stored c.hold.ensures.same.2 c.hold.ensures.same.3 stands.says
          (ap (λ (m : BlockMarks). Some m) (sym (ahead-none old.unstored old.marks (meaning_in before old).marks c.requires.ready.stored stands.says))
          ∙ sym (held-marks new.snapshot _ old.marks is)));
    }

pub returns-clause-ok : goal.returns-clause-ok
returns-clause-ok g c =
    let old = c.args.self.now in let new = c.hold.new.self in let slots = c.store_held.new.slots in
    let is = subst (λ (r : Root). IsSnapshotOf new.snapshot (fields_of r) old.marks) c.in_ok-store_held.ensures.ok.3 c.hold.ensures.held in
    record {
      stored = subst (λ (s : Slots g.row.D.Denot). g.D.Disk.tells ≡ true → HasHeld old true new (g.D.Disk.history old.slots.disk).now (g.D.Disk.history s.disk).now)
          (sym c.hold.ensures.same.0) (λ told.
          let before = (g.D.Disk.history old.slots.disk).now in
          let stands = c.requires.ready.standing.stands told in
          let none = held-none old.snapshot c.requires.none in
          let flag = subst (IsHeld (pages_in before.seen) (fields_of old.root)) none stands.keeps.kept.whole.snapshot in
          taken-stored old new slots before (g.D.Disk.history slots.disk).now c.hold.ensures.same.0
          (root-is c.store_held.new.root new.root old.root c.hold.ensures.same.1 c.in_ok-store_held.ensures.ok.3) (held-root new.snapshot (fields_of old.root) old.marks flag is)
          (c.in_ok-store_held.ensures.ok.0 told (snapshot_root old.snapshot) (record { keeps = stands.keeps; none = λ yes. none })));
      snapshot = held-marks new.snapshot _ old.marks is;
      root = root-is c.store_held.new.root new.root old.root c.hold.ensures.same.1 c.in_ok-store_held.ensures.ok.3;
      shared = held-shared new.snapshot _ old.marks is;
      number = ap (λ (s : Slots g.row.D.Denot). s.number) c.hold.ensures.same.0 ∙ c.in_ok-store_held.ensures.ok.1.number;
      calls = subst (λ (s : Slots g.row.D.Denot). MakesCalls g.D.Disk (holding_calls old.slots.may_be_open true + 4) old.slots.disk s.disk) (sym c.hold.ensures.same.0)
          c.in_ok-store_held.ensures.ok.2;
    }
