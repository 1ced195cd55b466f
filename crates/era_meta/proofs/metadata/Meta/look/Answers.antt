use Rattle.std.proofs.Common.{ℕ, ◌/◌, ◌≤◌, ◌∷◌, ◌++◌, refl, ap, arith}
use Rattle.era_base.specs.CrashModel.{SameBut}
use Rattle.era_base.proofs.Moments.{went-now}
use Rattle.era_meta.specs.Openings.{opened_disk, refusal_of}
use Rattle.era_meta.specs.Trials.{Formatted, metadata_blocks, number_trials, opened_trials}
use Rattle.era_meta.proofs.Looked.{looked-map, looked-as}
use Rattle.era_meta.proofs.Looks.{seen-same, tried-behind}
use Rattle.era_meta.proofs.SlotsTried.{front-tried, look_front, look-blank, look-holds, look-refused, look-small, slots-end}
use Rattle.era_meta.proofs.metadata.Meta.look.Goals as goal

pub returns-then-have-lt-LEAST_NEED-clause-tried : goal.returns-then-have-lt-LEAST_NEED-clause-tried
returns-then-have-lt-LEAST_NEED-clause-tried g c =
    look-small g.D.Disk c.args.disk (c.sectors-have.result / 8) (ap (λ (n : ℕ). n / 8) c.sectors-have.ensures) c.if-have-lt-LEAST_NEED.true

-- neither gate is open
pub returns-in-Ok-Blank-clause-tried : goal.returns-in-Ok-Blank-clause-tried
returns-in-Ok-Blank-clause-tried g c =
    let large : 57 ≤ metadata_blocks (g.D.Disk.sectors c.args.disk) = omega (arith, c.sectors-have.ensures, c.if-have-lt-LEAST_NEED.false) in
    let told = rw c.in-Ok-Blank.field-0-is at c.in-Ok-Blank.ensures.told in
    rw c.into_disk.ensures
    (look-blank g.D.Disk c.args.disk c.in-Ok-Blank.slots.disk large (rw c.in-Ok-Blank.field-0-is at c.in-Ok-Blank.ensures.moments)
    (rw c.in-Ok-Blank.field-0-is at c.in-Ok-Blank.ensures.calls) (λ t. (told t).1) (rw c.in-Ok-Blank.field-0-is at c.in-Ok-Blank.ensures.disk)
    (rw c.in-Ok-Blank.field-0-is at c.in-Ok-Blank.ensures.cause))

-- a slot is the active one
pub returns-in-Ok-Whole-clause-tried : goal.returns-in-Ok-Whole-clause-tried
returns-in-Ok-Whole-clause-tried g c =
    let old = c.args.disk in
    let mid = c.in-Ok-Whole.slots.disk in
    let have = metadata_blocks (g.D.Disk.sectors old) in
    let large : 57 ≤ metadata_blocks (g.D.Disk.sectors c.args.disk) = omega (arith, c.sectors-have.ensures, c.if-have-lt-LEAST_NEED.false) in
    let moments = rw c.in-Ok-Whole.field-0-is at c.in-Ok-Whole.ensures.moments in
    let calls = rw c.in-Ok-Whole.field-0-is at c.in-Ok-Whole.ensures.calls in
    let told = rw c.in-Ok-Whole.field-0-is at c.in-Ok-Whole.ensures.told in
    let shape = rw c.in-Ok-Whole.field-0-is at c.in-Ok-Whole.ensures.shape in
    tried-behind g.D.Disk look_front opened_trials old mid (opened_disk c.look_whole.result) (refusal_of c.look_whole.result)
    (λ t. front-tried have look_front (g.D.Disk.history old) (g.D.Disk.history mid) (moments t) (calls t) refl
    (look-holds have (g.D.Disk.history old).now (g.D.Disk.history mid).now c.in-Ok-Whole.active large shape.slot
    (went-now (SameBut 0 0) (g.D.Disk.history old) (g.D.Disk.history mid) (moments t)) (told t).1.stands))
    (rw c.in-Ok-Whole.field-0-is at c.in-Ok-Whole.ensures.disk) (rw c.in-Ok-Whole.field-0-is at c.in-Ok-Whole.ensures.cause) c.look_whole.ensures.tried

pub returns-in-Ok-Whole-clause-looked : goal.returns-in-Ok-Whole-clause-looked
returns-in-Ok-Whole-clause-looked g c =
    let old = c.args.disk in
    let mid = c.in-Ok-Whole.slots.disk in
    let moments = rw c.in-Ok-Whole.field-0-is at c.in-Ok-Whole.ensures.moments in
    looked-map g.D.Disk mid old c.look_whole.result
    (λ meta looked. looked-as g.D.Disk mid old meta
    (λ t. seen-same (g.D.Disk.history old).now (g.D.Disk.history mid).now (went-now (SameBut 0 0) (g.D.Disk.history old) (g.D.Disk.history mid) (moments t))) looked)
    c.look_whole.ensures.looked

-- the slots weren't opened
pub returns-in-Err-clause-tried : goal.returns-in-Err-clause-tried
returns-in-Err-clause-tried g c =
    let old = c.args.disk in
    let new = c.in-Err.refusal.disk in
    let have = metadata_blocks (g.D.Disk.sectors old) in
    let large : 57 ≤ metadata_blocks (g.D.Disk.sectors c.args.disk) = omega (arith, c.sectors-have.ensures, c.if-have-lt-LEAST_NEED.false) in
    slots-end g.D.Disk 57 (λ seen. Formatted ∷ number_trials ++ opened_trials seen) old new c.in-Err.refusal.error c.of_slots.result c.of_slots.ensures large
    c.in-Err.ensures.moments c.in-Err.ensures.calls
    (λ t. look-refused have (g.D.Disk.history old).now (g.D.Disk.history new).now c.in-Err.refusal.error
    (went-now (SameBut 0 0) (g.D.Disk.history old) (g.D.Disk.history new) (c.in-Err.ensures.moments t)) (c.in-Err.ensures.told t))
    c.in-Err.ensures.disk c.in-Err.ensures.cause
