use Rattle.std.proofs.Common.{ℕ, ◌/◌, ◌≤◌, [], ◌∷◌, ◌++◌, refl, ap, ◌∙◌, arith}
use Rattle.era_base.specs.CrashModel.{SameBut}
use Rattle.era_base.specs.Geometry.{blocks_of, need_of}
use Rattle.era_base.proofs.CrashImages.{continues-join}
use Rattle.era_base.proofs.Moments.{went-none, went-now}
use Rattle.era_meta.specs.Openings.{opened_disk, refusal_of}
use Rattle.era_meta.specs.Trials.{Calls, Room, begin_trials, metadata_blocks, opened_trials, start_trials}
use Rattle.era_meta.proofs.EraBegins.{begun-map}
use Rattle.era_meta.proofs.Looks.{same-still, seen-same}
use Rattle.era_meta.proofs.SlotsTried.{front-tried, slots-end}
use Rattle.era_meta.proofs.Starts.{start-small, started-as, started-behind, started-tried}
use Rattle.era_meta.proofs.StartsSafely.{opens-safely, quiet-safely, start-holds, start-refused, start_front, start_rest, trials-blank, trials-whole}
use Rattle.era_meta.proofs.metadata.Meta.start.Goals as goal

-- the disk is too small
pub returns-then-have-need-clause-started : goal.returns-then-have-need-clause-started
returns-then-have-need-clause-started g c =
    start-small g.D.Disk c.args.disk c.args.asked (c.sectors-have.result / 8) c.from-need.result (ap (λ (n : ℕ). n / 8) c.sectors-have.ensures) (c.from-need.ensures ∙ c.need.ensures)
    c.if-have-need.true

pub returns-then-have-need-clause-safely : goal.returns-then-have-need-clause-safely
returns-then-have-need-clause-safely g c =
    let at = g.D.Disk.history c.args.disk in
    let still = went-none (SameBut 0 0) at (same-still at.now) in
    record { continues = λ told. still.continues; safely = λ told. quiet-safely c.args.asked at at still }

-- neither gate is open
pub returns-in-Ok-Blank-clause-started : goal.returns-in-Ok-Blank-clause-started
returns-in-Ok-Blank-clause-started g c =
    let old = c.args.disk in
    let mid = c.in-Ok-Blank.slots.disk in
    let have = metadata_blocks (g.D.Disk.sectors old) in
    let need = need_of (blocks_of c.args.asked.sectors c.args.asked.block_sectors) in
    let large : need_of (blocks_of c.args.asked.sectors c.args.asked.block_sectors) ≤ metadata_blocks (g.D.Disk.sectors c.args.disk)
    = omega (arith, c.sectors-have.ensures, c.if-have-need.false, c.from-need.ensures, c.need.ensures) in
    let moments = rw c.in-Ok-Blank.field-0-is at c.in-Ok-Blank.ensures.moments in
    let calls = rw c.in-Ok-Blank.field-0-is at c.in-Ok-Blank.ensures.calls in
    let told = rw c.in-Ok-Blank.field-0-is at c.in-Ok-Blank.ensures.told in
    let front = Room need ∷ Calls 3 ∷ [] in
    started-as g.D.Disk (λ seen. (Room need ∷ Calls 3 ∷ []) ++ []) (start_trials c.args.asked) old (opened_disk c.start_blank.result) (refusal_of c.start_blank.result)
    (λ t. trials-blank c.args.asked (g.D.Disk.history old).now (g.D.Disk.history mid).now (went-now (SameBut 0 0) (g.D.Disk.history old) (g.D.Disk.history mid) (moments t)) (told t).1)
    (started-behind g.D.Disk (Room need ∷ Calls 3 ∷ []) (λ seen. []) old mid (opened_disk c.start_blank.result) (refusal_of c.start_blank.result)
    (λ t. front-tried have (Room need ∷ Calls 3 ∷ []) (g.D.Disk.history old) (g.D.Disk.history mid) (moments t) (calls t) refl (large, (tt, tt)))
    (rw c.in-Ok-Blank.field-0-is at c.in-Ok-Blank.ensures.disk) (rw c.in-Ok-Blank.field-0-is at c.in-Ok-Blank.ensures.cause) c.start_blank.ensures.started)

pub returns-in-Ok-Blank-clause-safely : goal.returns-in-Ok-Blank-clause-safely
returns-in-Ok-Blank-clause-safely g c =
    let old = g.D.Disk.history c.args.disk in
    let mid = g.D.Disk.history c.in-Ok-Blank.slots.disk in
    let new = g.D.Disk.history (opened_disk c.start_blank.result) in
    let moments = rw c.in-Ok-Blank.field-0-is at c.in-Ok-Blank.ensures.moments in
    record {
      continues = λ told. continues-join old mid new (moments told).continues (c.start_blank.ensures.moments told).continues;
      safely = λ told. opens-safely c.args.asked old mid new (moments told) (c.start_blank.ensures.moments told);
    }

pub returns-in-Ok-Blank-clause-begun : goal.returns-in-Ok-Blank-clause-begun
returns-in-Ok-Blank-clause-begun g c =
    let old = c.args.disk in
    let mid = c.in-Ok-Blank.slots.disk in
    let moments = rw c.in-Ok-Blank.field-0-is at c.in-Ok-Blank.ensures.moments in
    begun-map g.D.Disk c.args.asked mid old c.start_blank.result
    (λ t. seen-same (g.D.Disk.history old).now (g.D.Disk.history mid).now (went-now (SameBut 0 0) (g.D.Disk.history old) (g.D.Disk.history mid) (moments t)))
    c.start_blank.ensures.begun

-- a slot is the active one
pub returns-in-Ok-Whole-clause-started : goal.returns-in-Ok-Whole-clause-started
returns-in-Ok-Whole-clause-started g c =
    let old = c.args.disk in
    let mid = c.in-Ok-Whole.slots.disk in
    let have = metadata_blocks (g.D.Disk.sectors old) in
    let need = need_of (blocks_of c.args.asked.sectors c.args.asked.block_sectors) in
    let large : need_of (blocks_of c.args.asked.sectors c.args.asked.block_sectors) ≤ metadata_blocks (g.D.Disk.sectors c.args.disk)
    = omega (arith, c.sectors-have.ensures, c.if-have-need.false, c.from-need.ensures, c.need.ensures) in
    let moments = rw c.in-Ok-Whole.field-0-is at c.in-Ok-Whole.ensures.moments in
    let calls = rw c.in-Ok-Whole.field-0-is at c.in-Ok-Whole.ensures.calls in
    let told = rw c.in-Ok-Whole.field-0-is at c.in-Ok-Whole.ensures.told in
    let shape = rw c.in-Ok-Whole.field-0-is at c.in-Ok-Whole.ensures.shape in
    started-as g.D.Disk (λ seen. start_front need ++ (opened_trials seen ++ begin_trials c.args.asked)) (start_trials c.args.asked) old (opened_disk c.start_whole.result) (refusal_of c.start_whole.result)
    (λ t. trials-whole c.args.asked (g.D.Disk.history old).now (g.D.Disk.history mid).now c.in-Ok-Whole.active shape.slot
    (went-now (SameBut 0 0) (g.D.Disk.history old) (g.D.Disk.history mid) (moments t)) (told t).1.stands)
    (started-behind g.D.Disk (start_front need) (λ seen. opened_trials seen ++ begin_trials c.args.asked) old mid (opened_disk c.start_whole.result) (refusal_of c.start_whole.result)
    (λ t. front-tried have (start_front need) (g.D.Disk.history old) (g.D.Disk.history mid) (moments t) (calls t) refl
    (start-holds have need (g.D.Disk.history old).now (g.D.Disk.history mid).now c.in-Ok-Whole.active large shape.slot
    (went-now (SameBut 0 0) (g.D.Disk.history old) (g.D.Disk.history mid) (moments t)) (told t).1.stands))
    (rw c.in-Ok-Whole.field-0-is at c.in-Ok-Whole.ensures.disk) (rw c.in-Ok-Whole.field-0-is at c.in-Ok-Whole.ensures.cause) c.start_whole.ensures.started)

pub returns-in-Ok-Whole-clause-safely : goal.returns-in-Ok-Whole-clause-safely
returns-in-Ok-Whole-clause-safely g c =
    let old = g.D.Disk.history c.args.disk in
    let mid = g.D.Disk.history c.in-Ok-Whole.slots.disk in
    let new = g.D.Disk.history (opened_disk c.start_whole.result) in
    let moments = rw c.in-Ok-Whole.field-0-is at c.in-Ok-Whole.ensures.moments in
    record {
      continues = λ told. continues-join old mid new (moments told).continues (c.start_whole.ensures.moments told).continues;
      safely = λ told. opens-safely c.args.asked old mid new (moments told) (c.start_whole.ensures.moments told);
    }

pub returns-in-Ok-Whole-clause-begun : goal.returns-in-Ok-Whole-clause-begun
returns-in-Ok-Whole-clause-begun g c =
    let old = c.args.disk in
    let mid = c.in-Ok-Whole.slots.disk in
    let moments = rw c.in-Ok-Whole.field-0-is at c.in-Ok-Whole.ensures.moments in
    begun-map g.D.Disk c.args.asked mid old c.start_whole.result
    (λ t. seen-same (g.D.Disk.history old).now (g.D.Disk.history mid).now (went-now (SameBut 0 0) (g.D.Disk.history old) (g.D.Disk.history mid) (moments t)))
    c.start_whole.ensures.begun

-- the slots weren't opened
pub returns-in-Err-clause-started : goal.returns-in-Err-clause-started
returns-in-Err-clause-started g c =
    let old = c.args.disk in
    let new = c.in-Err.refusal.disk in
    let have = metadata_blocks (g.D.Disk.sectors old) in
    let large : need_of (blocks_of c.args.asked.sectors c.args.asked.block_sectors) ≤ metadata_blocks (g.D.Disk.sectors c.args.disk)
    = omega (arith, c.sectors-have.ensures, c.if-have-need.false, c.from-need.ensures, c.need.ensures) in
    started-tried g.D.Disk (start_trials c.args.asked) old new c.of_slots.result
    (slots-end g.D.Disk (need_of (blocks_of c.args.asked.sectors c.args.asked.block_sectors)) (start_rest c.args.asked) old new c.in-Err.refusal.error c.of_slots.result c.of_slots.ensures large
    c.in-Err.ensures.moments c.in-Err.ensures.calls
    (λ t. start-refused have c.args.asked (g.D.Disk.history old).now (g.D.Disk.history new).now c.in-Err.refusal.error
    (went-now (SameBut 0 0) (g.D.Disk.history old) (g.D.Disk.history new) (c.in-Err.ensures.moments t)) (c.in-Err.ensures.told t))
    c.in-Err.ensures.disk c.in-Err.ensures.cause)

pub returns-in-Err-clause-safely : goal.returns-in-Err-clause-safely
returns-in-Err-clause-safely g c =
    let old = g.D.Disk.history c.args.disk in
    let new = g.D.Disk.history c.in-Err.refusal.disk in
    record {
      continues = λ told. (c.in-Err.ensures.moments told).continues;
      safely = λ told. quiet-safely c.args.asked old new (c.in-Err.ensures.moments told);
    }
