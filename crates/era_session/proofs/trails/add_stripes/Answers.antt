use Rattle.std.proofs.Common.{◌≡◌, ◌+◌, ◌++◌, List, length, take, sym, ap, ◌∙◌, arith, append_assoc}
use Rattle.std.proofs.lemmas.List.{length-append}
use Rattle.era_model.specs.declared.entry.Entry.{Entry}
use Rattle.era_notes.specs.Rooms.{last_in}
use Rattle.era_session.specs.Chunks.{stripes_trail}
use Rattle.era_session.specs.Trails.{lent}
use Rattle.era_session.proofs.TrailParts.{trail-next, trail-within}
use Rattle.era_session.proofs.trails.add_stripes.Goals as goal

-- there is room for the entries of one stripe more
pub add_all-requires : goal.add_all-requires
add_all-requires g c =
    let stripes = c.args.stripes.now in
    let i = c.loop-stripe.stripe-index in
    let own = last_in c.stripe-item.result.entries in
    let most = trail-within stripes (i + 1) in
    let next : length (stripes_trail (take (i + 1) stripes)) ≡ length (stripes_trail (take i stripes)) + length own =
    ap (λ (es : List Entry). length es) (trail-next stripes i c.stripe-item.result c.loop-stripe-test.true c.stripe-item.is) ∙ length-append (stripes_trail (take i stripes)) own in
    let size : length c.trail.result.now ≡ length own = ap (λ (es : List Entry). length es) c.trail.ensures in
    omega (arith, c.loop-stripe.invariant.room, c.loop-stripe.invariant.len, c.requires, most, next, size)

-- they were added
pub loop-stripe-preserved : goal.loop-stripe-preserved
loop-stripe-preserved g c =
    let stripes = c.args.stripes.now in
    let i = c.loop-stripe.stripe-index in
    let own = last_in c.stripe-item.result.entries in
    let is = trail-next stripes i c.stripe-item.result c.loop-stripe-test.true c.stripe-item.is in
    let next : length (stripes_trail (take (i + 1) stripes)) ≡ length (stripes_trail (take i stripes)) + length own =
    ap (λ (es : List Entry). length es) is ∙ length-append (stripes_trail (take i stripes)) own in
    let size : length c.trail.result.now ≡ length own = ap (λ (es : List Entry). length es) c.trail.ensures in
    record {
      entries = c.add_all.ensures.entries ∙ ap (λ (es : List Entry). es ++ c.trail.result.now) c.loop-stripe.invariant.entries
          ∙ append_assoc (lent c.args.into.now.items) (stripes_trail (take i stripes)) c.trail.result.now
          ∙ ap (λ (es : List Entry). lent c.args.into.now.items ++ es) (ap (λ (es : List Entry). stripes_trail (take i stripes) ++ es) c.trail.ensures ∙ sym is);
      room = c.add_all.ensures.room ∙ c.loop-stripe.invariant.room;
      len = omega (arith, c.add_all.ensures.len, c.loop-stripe.invariant.len, next, size);
    }
