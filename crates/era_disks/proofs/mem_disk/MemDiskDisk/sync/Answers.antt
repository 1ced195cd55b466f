use Rattle.std.proofs.Common.{◌≡◌, ◌*◌, true, false, ◌++◌, ◌∷◌, [], Bool, List, length, arith, refl, ◌∙◌, ap}
use Rattle.era_disks.specs.Rows.{bytes_of, length-bytes_of}
use Rattle.era_disks.specs.declared.made_call.MadeCall.{MadeCall}
use Rattle.era_disks.specs.declared.made_call.MadeCall.TheVariants.{Sync}
use Rattle.era_disks.proofs.Replay.{replayed-add, replayed-sync}
use Rattle.era_disks.proofs.mem_disk.MemDiskDisk.sync.Goals as goal

pub invariant_of-self-then-not-answered : goal.invariant_of-self-then-not-answered
invariant_of-self-then-not-answered c =
    let old = c.args.self.now in
    let flags = old.state.pending.items in
    let is : c.add.new.self.calls.items ≡ old.made.calls.items ++ Sync false ∷ [] =
    c.add.ensures ∙ ap (λ (calls : List MadeCall). calls ++ Sync c.answers-answered.result ∷ []) c.reserve.ensures.same
    ∙ ap (λ (answered : Bool). old.made.calls.items ++ Sync answered ∷ []) c.if-not-answered.true in
    record {
      replayed = replayed-add old.began.value.items flags flags old.made.calls.items c.add.new.self.calls.items (Sync false) old.replayed is refl
          (λ sector below. refl);
    }

pub invariant_of-self-2 : goal.invariant_of-self-2
invariant_of-self-2 c =
    let old = c.args.self.now in
    let is : c.add.new.self.calls.items ≡ old.made.calls.items ++ Sync true ∷ [] =
    c.add.ensures ∙ ap (λ (calls : List MadeCall). calls ++ Sync c.answers-answered.result ∷ []) c.reserve.ensures.same
    ∙ ap (λ (answered : Bool). old.made.calls.items ++ Sync answered ∷ []) c.if-not-answered.false in
    let rows = c.clean.new.self.rows.items in
    let size : length (bytes_of rows) ≡ length old.state.pending.items * 512 =
    omega (arith, length-bytes_of rows, ap length c.clean.ensures.rows, old.state.same) in
    record {
      replayed = replayed-sync old.began.value.items old.state.pending.items c.clean.new.self.pending.items (bytes_of rows) old.made.calls.items
          c.add.new.self.calls.items old.replayed is c.clean.ensures.synced.flags size c.clean.ensures.synced.clean;
    }
