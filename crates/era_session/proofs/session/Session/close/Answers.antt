use Rattle.std.proofs.Common.{◌≡◌, List, ◌++◌, sym, ap, ◌∙◌, subst}
use Rattle.std.specs.Prelude.{All}
use Rattle.era_gate.specs.Calls.{StripeToken}
use Rattle.era_session.specs.Ends.{seats_of}
use Rattle.era_session.proofs.HandedOver.{all-seats}
use Rattle.era_session.proofs.session.Session.close.Goals as goal

pub close-places-requires-clause-seats : goal.close-places-requires-clause-seats
close-places-requires-clause-seats g c =
    let session = c.args.self in
    let fits = c.requires.fits in
    let of_table : StripeToken → Type 0 = λ seat. seat.table ≡ session.gate.table in
    let seats : c.hand_over.new.seats.items ≡ seats_of session.stripes.items = c.hand_over.ensures.seats ∙ ap (λ (l : List StripeToken). l ++ seats_of session.stripes.items) fits.ending.no_seats in
    subst (All of_table) (sym seats) (all-seats of_table session.stripes.items (λ k stripe at. (fits.stripes k stripe at).table))
