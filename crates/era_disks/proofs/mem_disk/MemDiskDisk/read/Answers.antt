use Rattle.std.proofs.Common.{◌/◌, ◌++◌, ◌∷◌, [], List, length, refl, ◌∙◌, ap}
use Rattle.era_disks.specs.declared.made_call.MadeCall.{MadeCall}
use Rattle.era_disks.specs.declared.made_call.MadeCall.TheVariants.{Read}
use Rattle.era_disks.proofs.Replay.{replayed-add}
use Rattle.era_disks.proofs.mem_disk.MemDiskDisk.read.Goals as goal

pub invariant_of-self-then-not-answered : goal.invariant_of-self-then-not-answered
invariant_of-self-then-not-answered c =
    let old = c.args.self.now in
    let flags = old.state.pending.items in
    let call : MadeCall = Read c.args.first (length c.args.into.now / 512) c.answers-answered.result in
    record {
      replayed = replayed-add old.began.value.items flags flags old.made.calls.items c.add.new.self.calls.items call old.replayed
          (c.add.ensures ∙ ap (λ (calls : List MadeCall). calls ++ call ∷ []) c.reserve.ensures.same) refl (λ sector below. refl);
    }

pub invariant_of-self-else-not-answered : goal.invariant_of-self-else-not-answered
invariant_of-self-else-not-answered c =
    let old = c.args.self.now in
    let flags = old.state.pending.items in
    let call : MadeCall = Read c.args.first (length c.args.into.now / 512) c.answers-answered.result in
    record {
      replayed = replayed-add old.began.value.items flags flags old.made.calls.items c.add.new.self.calls.items call old.replayed
          (c.add.ensures ∙ ap (λ (calls : List MadeCall). calls ++ call ∷ []) c.reserve.ensures.same) refl (λ sector below. refl);
    }
