use Rattle.std.proofs.Common.{◌≡◌, [], ◌∷◌, drop, refl, sym, ap, ◌∙◌}
use Rattle.era_base.specs.CrashModel.{State}
use Rattle.era_base.proofs.Moments.{went-now}
use Rattle.era_meta.specs.Damage.{HeldRoot, HeldSize, held_body}
use Rattle.era_meta.proofs.PageReads.{read-found, read-passed}
use Rattle.era_meta.proofs.roots_reading.read_held_root.Goals as goal

pub returns-in-Ok-decode_held-clause-walked : goal.returns-in-Ok-decode_held-clause-walked
returns-in-Ok-decode_held-clause-walked g c =
    read-passed g.D.Disk (HeldRoot ∷ HeldSize c.args.root.now.geometry.sectors c.args.root.now.geometry.block_sectors ∷ []) c.args.slots.now c.read_page.new.self
    c.in-Ok-decode_held.held c.in-Ok.ensures.moments c.in-Ok.ensures.calls c.in-Ok.ensures.same c.in-Ok.ensures.cause refl
    (λ told. (c.in-Ok-decode_held.ensures.found (g.D.Disk.history c.read_page.new.self.disk).now.seen (c.split_at.ensures.back ∙ ap (drop 520) (c.in-Ok.ensures.read told))).0)

pub returns-in-Ok-decode_held-clause-says : goal.returns-in-Ok-decode_held-clause-says
returns-in-Ok-decode_held-clause-says g c = λ told.
    ap (λ (state : State). held_body state.seen) (sym
    (went-now (λ before now. now ≡ before) (g.D.Disk.history c.args.slots.now.disk) (g.D.Disk.history c.read_page.new.self.disk) (c.in-Ok.ensures.moments told)))
    ∙ (c.in-Ok-decode_held.ensures.found (g.D.Disk.history c.read_page.new.self.disk).now.seen (c.split_at.ensures.back ∙ ap (drop 520) (c.in-Ok.ensures.read told))).1

pub returns-in-Err-decode_held-clause-walked : goal.returns-in-Err-decode_held-clause-walked
returns-in-Err-decode_held-clause-walked g c =
    read-found g.D.Disk (HeldRoot ∷ HeldSize c.args.root.now.geometry.sectors c.args.root.now.geometry.block_sectors ∷ []) c.args.slots.now c.read_page.new.self
    c.in-Err-decode_held.finding c.in-Ok.ensures.moments c.in-Ok.ensures.calls c.in-Ok.ensures.same c.in-Ok.ensures.cause c.in-Err-decode_held.ensures.fault
    (λ told. (c.in-Err-decode_held.ensures.found (g.D.Disk.history c.read_page.new.self.disk).now.seen (c.split_at.ensures.back ∙ ap (drop 520) (c.in-Ok.ensures.read told))).0)
