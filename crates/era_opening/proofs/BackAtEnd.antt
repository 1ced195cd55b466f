-- The devices of a session lie where they were lent for it, whatever it served.
use Rattle.std.proofs.Common.{◌≡◌, ℕ, zero, suc, ◌∷◌, Option, Some, slice_get, sym, ap, ◌∙◌, subst}
use Rattle.std.specs.Prelude.{unwrap_or}
use Rattle.std.proofs.lemmas.List.{length-map}
use Rattle.era_base.specs.Calls.{SameDisk}
use Rattle.era_base.specs.declared.disk.Disk.{Ghosts}
use Rattle.era_line.specs.declared.table_line.TableLine.{TableLine}
use Rattle.era_opening.specs.Loans.{LieWhereLent, MayGoBack}
use Rattle.era_opening.specs.Openings.{HasOpenedSession, session_disks}
use Rattle.era_opening.proofs.BackForLent.{later-back}
use Rattle.era_session.specs.Sessions.{SameSession}
use Rattle.era_session.specs.declared.session.Session.{Session}
use Rattle.era_session.proofs.ListsInOrder.{mapped}
use Rattle.era_stripe.specs.declared.stripe.Stripe.{Stripe}
use Rattle.era_tools.specs.Around.{BayAround}

is-one : {D : Type 0} (x z : D) → ◌≡◌ {A = Option D} (Some x) (Some z) → z ≡ x
is-one {D} x z at = sym (ap (λ (o : Option D). unwrap_or o x) at)

-- each disk of a session lies where it did before
one-stays : {D : Type 0} (disk : Ghosts D) (first last : Session D) → SameSession disk first last
    → (k : ℕ) (one back : D) → slice_get (session_disks first) k ≡ Some one → slice_get (session_disks last) k ≡ Some back → SameDisk disk one back
one-stays {D} disk first last same zero one back at at' =
    let old = first.keeper.meta.slots.disk in
    let new = last.keeper.meta.slots.disk in
    subst (λ (d : D). SameDisk disk d back) (sym (is-one old one at))
    (subst (λ (d : D). SameDisk disk old d) (sym (is-one new back at')) same.keeper.device)
one-stays {D} disk first last same (suc k) one back at at' =
    let before = mapped (λ (stripe : Stripe D). stripe.disk) first.stripes.items k one at in
    let after = mapped (λ (stripe : Stripe D). stripe.disk) last.stripes.items k back at' in
    let kept = same.stripes k before.0 after.0 before.1 after.1 in
    subst (λ (d : D). SameDisk disk d back) (sym before.2)
    (subst (λ (d : D). SameDisk disk before.0.disk d) (sym after.2) (record { place = kept.place; size = kept.sectors }))

session-stays : {D : Type 0} (disk : Ghosts D) (first last : Session D) → SameSession disk first last → LieWhereLent disk (session_disks first) (session_disks last)
session-stays {D} disk first last same = record {
  count = ap (λ (n : ℕ). suc n) (length-map last.stripes.items (λ (stripe : Stripe D). stripe.disk) ∙ same.count ∙ sym (length-map first.stripes.items (λ (stripe : Stripe D). stripe.disk)));
  same = one-stays disk first last same;
}

pub back-at-end : {D : Type 0} (disk : Ghosts D) (bay : BayAround D) (line : TableLine) (stripes : ℕ) (first last : Session D) → HasOpenedSession disk bay line stripes first
    → SameSession disk first last → MayGoBack disk (session_disks last) bay.loans'
back-at-end disk bay line stripes first last has same =
    let opened = has.opened in
    later-back disk (session_disks first) (session_disks last) bay.loans'
    (record {
      before = bay.loans;
      lent = opened.metadata ∷ opened.parts;
      are = record { out = opened.lent.loans; apart = opened.are.apart; lie = opened.over.lie };
    })
    (session-stays disk first last same)
