use Rattle.std.proofs.Common.{◌/◌, false, ◌++◌, ◌∷◌, [], List, length, ◌∙◌, ap}
use Rattle.era_disks.specs.Rows.{bytes_of}
use Rattle.era_disks.specs.declared.made_call.MadeCall.{MadeCall}
use Rattle.era_disks.specs.declared.made_call.MadeCall.TheVariants.{Write}
use Rattle.era_disks.proofs.Replay.{replayed-write}
use Rattle.era_disks.proofs.mem_disk.MemDiskDisk.write.Goals as goal

pub invariant_of-self-then-not-answers : goal.invariant_of-self-then-not-answers
invariant_of-self-then-not-answers c =
    let old = c.args.self.now in
    let marked = c.mark.new.self in
    let sectors = length c.args.bytes.now / 512 in
    let call : MadeCall = Write c.args.first sectors false in
    record {
      replayed = replayed-write old.began.value.items old.state.pending.items marked.pending.items (bytes_of old.state.rows.items) (bytes_of marked.rows.items)
          old.made.calls.items c.add.new.self.calls.items c.args.first sectors false old.replayed
          (c.add.ensures ∙ ap (λ (calls : List MadeCall). calls ++ call ∷ []) c.reserve.ensures.same)
          c.mark.ensures.same.flags c.mark.ensures.marked c.mark.ensures.marks;
    }

pub invariant_of-self-in-Ok-put : goal.invariant_of-self-in-Ok-put
invariant_of-self-in-Ok-put c =
    let old = c.args.self.now in
    let marked = c.mark.new.self in
    let sectors = length c.args.bytes.now / 512 in
    let call : MadeCall = Write c.args.first sectors c.is_ok.result in
    record {
      replayed = rw c.put-put.ensures.pending (replayed-write old.began.value.items old.state.pending.items marked.pending.items
          (bytes_of old.state.rows.items) (bytes_of marked.rows.items)
          old.made.calls.items c.add-2.new.self.calls.items c.args.first sectors c.is_ok.result old.replayed
          (c.add-2.ensures ∙ ap (λ (calls : List MadeCall). calls ++ call ∷ []) c.reserve.ensures.same)
          c.mark.ensures.same.flags c.mark.ensures.marked c.mark.ensures.marks);
    }

pub invariant_of-self-in-Err : goal.invariant_of-self-in-Err
invariant_of-self-in-Err c =
    let old = c.args.self.now in
    let marked = c.mark.new.self in
    let sectors = length c.args.bytes.now / 512 in
    let call : MadeCall = Write c.args.first sectors c.is_ok.result in
    record {
      replayed = rw c.put-put.ensures.pending (replayed-write old.began.value.items old.state.pending.items marked.pending.items
          (bytes_of old.state.rows.items) (bytes_of marked.rows.items)
          old.made.calls.items c.add-2.new.self.calls.items c.args.first sectors c.is_ok.result old.replayed
          (c.add-2.ensures ∙ ap (λ (calls : List MadeCall). calls ++ call ∷ []) c.reserve.ensures.same)
          c.mark.ensures.same.flags c.mark.ensures.marked c.mark.ensures.marks);
    }
