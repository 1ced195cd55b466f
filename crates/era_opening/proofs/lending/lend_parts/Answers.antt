use Rattle.std.proofs.Common.{ℕ, ◌+◌, List, [], ◌∷◌, length, refl, sym, ap, ◌∙◌, subst, length-append}
use Rattle.era_opening.specs.Lending.{HasLentParts, IsPartLent}
use Rattle.era_opening.proofs.PartsLent.{lent-next}
use Rattle.era_tools.specs.Around.{bay_around}
use Rattle.era_opening.proofs.lending.lend_parts.Goals as goal

pub loop-stripe-preserved : goal.loop-stripe-preserved
loop-stripe-preserved g c =
    let held = c.loop-stripe.invariant in
    let line = c.args.line.now in
    let geometry = c.args.geometry.now in
    let parts = c.loop-stripe.parts.items in
    let lent = c.in-Ok.ensures.lent in
    let one = bay_around g.B.Bay c.args.bay.now c.loop-stripe.bay in
    let two = bay_around g.B.Bay c.loop-stripe.bay c.lend_part.new.bay in
    let both = bay_around g.B.Bay c.args.bay.now c.lend_part.new.bay in
    let is = subst (λ (n : ℕ). IsPartLent g.B.D.Disk two.reads line.origin geometry c.args.split.each n c.in-Ok.part) (sym held.count) lent.0 in
    record {
      has = subst (λ (l : List g.row.B-D.Denot). HasLentParts g.B.D.Disk both line.origin geometry c.args.split.each l) (sym c.push_reserved.ensures.items)
          (lent-next g.B.D.Disk one two both line.origin geometry c.args.split.each parts c.in-Ok.part
          (record { read = refl; mid = refl; reads = refl; loans = refl; loans_mid = refl; loans' = refl })
          held.has is lent.1);
      count = ap (λ (l : List g.row.B-D.Denot). length l) c.push_reserved.ensures.items ∙ length-append parts (c.in-Ok.part ∷ []) ∙ ap (λ (n : ℕ). n + 1) held.count;
      room = c.push_reserved.ensures.capacity ∙ held.room;
      sizes = λ device size told. c.lend_part.ensures.sizes device size (held.sizes device size told);
      faults = lent.2 ∙ held.faults;
    }
