use Rattle.std.proofs.Common.{◌≡◌, ap, ◌∙◌, subst}
use Rattle.std.specs.Prelude.{IfSome, Option}
use Rattle.std.proofs.lemmas.List.Elements.{All-pop}
use Rattle.era_gate.specs.Calls.{StripeToken}
use Rattle.era_gate.specs.Plays.{Sat}
use Rattle.era_gate.proofs.Closing.{stripe_in_at}
use Rattle.era_gate.proofs.close.stripes_in.Goals as goal

pub join_seat-requires : goal.join_seat-requires
join_seat-requires c =
    let of_table : StripeToken → Type 0 = λ seat. seat.table ≡ c.args.board.now.shared.table_id in
    let popped = All-pop of_table c.loop-seat.stripes.items c.pop.new.self.items c.pop.result c.pop.ensures.items c.loop-seat.invariant.1 in
    let taken = subst (λ (r : Option StripeToken). IfSome r of_table) c.in-Some.is popped.1 in (
      c.loop-seat.invariant.0 ∙ c.requires.table,
      ap (λ (t : StripeToken). t.table) c.seat.view_is ∙ taken,
      ap (λ (z : Sat). z.1) c.seat.invariant.0,
      c.requires.words,
      stripe_in_at c.args.board.now.shared.key c.loop-seat.place.id c.seat.inside.place.id c.loop-seat.place.me.0 c.seat.inside.place.me.0 (ap (λ (z : Sat). z.0) c.seat.invariant.0),
    )
