-- Stays account for each refused switch, from the rule.
use Rattle.std.proofs.Common.{◌≡◌, ℕ, ◌+◌, ◌<◌, ◌≤◌, true, List, [], ◌∷◌, length, slice_index, Option, Some, None, subst, arith}
use Rattle.std.specs.Prelude.{All, IfSome, filter}
use Rattle.std.proofs.lemmas.List.Elements.{All-head, All-tail}
use Rattle.era_gate.specs.declared.states.StripeState.{StripeState}
use Rattle.era_gate.specs.declared.states.KeeperState.{KeeperState}
use Rattle.era_gate.specs.declared.stays.Miss.{Miss}
use Rattle.era_gate.specs.declared.stays.Told.{Told}
use Rattle.era_gate.specs.declared.parts.StripePart.{StripePart}
use Rattle.era_gate.specs.declared.parts.View.{View}
use Rattle.era_gate.specs.declared.plan.Plan.{Plan}
use Rattle.era_gate.specs.Invariant.{all_stripes, all_keepers, StaysAreKnown, IsAccounted, IsAccountedNow, StaysAccountForKept}
use Rattle.era_gate.specs.Loose.{AreStaysOf, is_loose, loose_in, stays_of}
use Rattle.era_gate.specs.Parts.{has_stripe}
use Rattle.era_gate.specs.Rule.{Hidden, Standing, Each, weight}
use Rattle.era_gate.proofs.Fitting.{all_map}
use Rattle.era_gate.proofs.InvariantParts.{FitFrom, StripeShows, KeeperShows, views-keep, all-distinct, sum-whole}
use Rattle.era_gate.proofs.InvariantSums.{loose-total, stays-sum}
use Rattle.era_gate.proofs.LooseTold.{KeepsStays}

module _ (plan : Plan) (words : List ℕ) (views : List View) (m : Hidden) (st : Standing plan words views m) (fits : FitFrom plan m 0 views) (shown : Each (StripeShows plan m) (all_stripes views))
    (keepers : Each (KeeperShows m) (all_keepers views)) (stays : KeepsStays plan.stripes m.account) (low : Each (λ (part : StripePart). part.stripe < plan.stripes) (all_stripes views))
    (seats : (d : ℕ) → d < plan.stripes → has_stripe d (all_stripes views) ≡ true) where
  -- a bound by the account's stays is one by those of all views
  accounted : (place : ℕ) (miss : Miss) → miss.found ≤ loose_in plan.stripes place miss.ended (stays_of m.account) → IsAccounted views place miss
  accounted place miss bounded =
      let sum = loose-total plan.stripes place miss.ended (stays_of m.account) in
      let parts = sum-whole plan.stripes (λ d. length (filter (is_loose place miss.ended) (stays_of m.account d))) (all_stripes views) (all-distinct plan m 0 views fits) low seats in
      let all = stays-sum plan m (is_loose place miss.ended) (all_stripes views) shown in
      omega (arith, bounded, sum, parts, all)

  told-each : (told : List Told) → All (λ (t : Told). t.miss.found ≤ loose_in plan.stripes t.place t.miss.ended (stays_of m.account)) told → Each (λ (t : Told). IsAccounted views t.place t.miss) told
  told-each [] are = tt
  told-each (t ∷ told) are = (
    accounted t.place t.miss (All-head (λ (t : Told). t.miss.found ≤ loose_in plan.stripes t.place t.miss.ended (stays_of m.account)) t told are),
    told-each told (All-tail (λ (t : Told). t.miss.found ≤ loose_in plan.stripes t.place t.miss.ended (stays_of m.account)) t told are),
  )

  pending-now : (pending : Option Miss) → IfSome pending (λ (miss : Miss). miss.found ≤ loose_in plan.stripes m.account.places miss.ended (stays_of m.account)) → IsAccountedNow words views pending
  pending-now None is = tt
  pending-now (Some miss) is = rw st.order (accounted m.account.places miss is)

  pub stays-account_for : StaysAccountForKept words views
  stays-account_for = record {
    known = all_map (StripeShows plan m) (StaysAreKnown words views) (all_stripes views) (λ part h. record {
      own = rw st.order (subst (λ (s : StripeState). AreStaysOf part.stripe m.account.places 0 s.stays) h.1.state (stays.stays part.stripe));
      begun = views-keep plan m 0 _ views (λ id view fit. subst (λ (s : StripeState). slice_index view.pass.begun part.stripe ≤ length s.stays) h.1.state (fit.begun part.stripe)) fits;
      ended = views-keep plan m 0 _ views (λ id view fit. subst (λ (s : StripeState). slice_index view.pass.ended part.stripe + weight s.inside ≤ length s.stays) h.1.state (fit.ended part.stripe)) fits;
    }) shown;
    told = all_map (KeeperShows m) _ (all_keepers views) (λ part h. told-each part.state.told (subst (λ (k : KeeperState). All (λ (t : Told). t.miss.found ≤ loose_in plan.stripes t.place t.miss.ended (stays_of m.account)) k.told) h.1.state stays.told)) keepers;
    pending = all_map (KeeperShows m) _ (all_keepers views) (λ part h. pending-now part.state.pending (subst (λ (k : KeeperState). IfSome k.pending (λ (miss : Miss). miss.found ≤ loose_in plan.stripes m.account.places miss.ended (stays_of m.account))) h.1.state stays.pending)) keepers;
  }
