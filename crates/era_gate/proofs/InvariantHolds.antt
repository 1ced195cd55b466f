-- The eleven clauses of the invariant, from the rule.
use Rattle.std.proofs.Common.{◌≡◌, ℕ, ◌+◌, ◌*◌, ◌<◌, ◌≤◌, cond, true, false, List, [], ◌∷◌, length, slice_index, Option, Some, None, refl, sym, ap, ◌∙◌, subst, inl, inr, arith, eq-eqb}
use Rattle.std.specs.Prelude.{Contains, filter, map}
use Rattle.std.proofs.lemmas.Bool.{cases_Bool, cases_lt}
use Rattle.era_model.specs.declared.entry.Entry.{Entry}
use Rattle.era_model.specs.declared.event.Event.TheVariants.{Mark, Go, Roll}
use Rattle.era_model.specs.declared.flight.FlightWrite.{FlightWrite}
use Rattle.era_gate.specs.declared.states.StripeState.{StripeState}
use Rattle.era_gate.specs.declared.states.KeeperState.{KeeperState}
use Rattle.era_gate.specs.declared.stays.Receipt.{Receipt}
use Rattle.era_gate.specs.declared.parts.StripePart.{StripePart}
use Rattle.era_gate.specs.declared.parts.LanePart.{LanePart}
use Rattle.era_gate.specs.declared.parts.View.{View}
use Rattle.era_gate.specs.declared.plan.Plan.{Plan}
use Rattle.era_gate.specs.Acts.{Account, reach, opened, entry, lane_of, count, inside_of}
use Rattle.era_gate.specs.Drawn.{drawn}
use Rattle.era_gate.specs.Gathered.{AscendFrom}
use Rattle.era_gate.specs.Invariant.{all_stripes, all_keepers, all_lanes, keeper_entries, stripe_stays, gate_era, is_inside, IsMarked, GateWordCountsInside, NumbersDenseAndUnique, SetBitsHaveMarks, MarksPrecedeWrites, OpenWriteIsOf, StaysInEra, WritesStayInEra, OutsideHoldsNothing, SpareIsClear, KeptHaveFailedExchanges, ReceiptsAreConserved, StaysAccountForKept, GateInvariant}
use Rattle.era_gate.specs.Loose.{stays_of, kept_in, place_and_count}
use Rattle.era_gate.specs.Parts.{has_stripe}
use Rattle.era_gate.specs.Receipts.{entries_in, entries_for, stays_in, stays_at, stays_for}
use Rattle.era_gate.specs.Rule.{Hidden, Standing, Fits, StripeFits, Each, block_bit}
use Rattle.era_gate.proofs.Accounts.{IsSound}
use Rattle.era_gate.proofs.AgreesMeets.{drawn-numbered}
use Rattle.era_gate.proofs.AgreesWrites.{flies}
use Rattle.era_gate.proofs.Choices.{clash, count_below}
use Rattle.era_gate.proofs.DrawnEntries.{places-drawn}
use Rattle.era_gate.proofs.EraActs.{legal-keeps_eras}
use Rattle.era_gate.proofs.EraEntries.{KeepsEras, self-id}
use Rattle.era_gate.proofs.Fitting.{all_map}
use Rattle.era_gate.proofs.Frames.{sound_of, lane_owned}
use Rattle.era_gate.proofs.InvariantActs.{IsIssued, era-bound, open-era, all-issued, opened-no_stays, lane-ascends, lane-entry, entry-of_lane, numbered-at}
use Rattle.era_gate.proofs.InvariantOnce.{issued-once}
use Rattle.era_gate.proofs.InvariantParts.{FitFrom, fit-from, StripeShows, KeeperShows, LaneShows, stripes-show, keepers-show, lanes-show, views-keep, all-distinct, has-among, has-keepers, sum-whole}
use Rattle.era_gate.proofs.InvariantStays.{stays-account_for}
use Rattle.era_gate.proofs.InvariantSums.{count-total, inside-sum, stays-flat}
use Rattle.era_gate.proofs.InvariantViews.{stripe-entry, keeper-entry, keeper-has, stripe-drew, drawn-stands, stands-drawn, stands-of, one-view}
use Rattle.era_gate.proofs.LaneReceipts.{opened-entries, opened-stays}
use Rattle.era_gate.proofs.LooseTold.{KeepsStays, legal-keeps_stays}
use Rattle.era_gate.proofs.Splitting.{keeper_owned}

module _ (plan : Plan) (words : List ℕ) (views : List View) (m : Hidden) (st : Standing plan words views m) where
  fits : FitFrom plan m 0 views
  fits = fit-from plan m 0 views (λ id view at. let same : id ≡ 0 + id = omega arith in subst (λ (j : ℕ). Fits plan m j view) same (st.views_fit id view at))

  shown : Each (StripeShows plan m) (all_stripes views)
  shown = stripes-show plan m 0 views fits

  keepers : Each (KeeperShows m) (all_keepers views)
  keepers = keepers-show plan m 0 views fits

  lanes : Each (LaneShows m) (all_lanes views)
  lanes = lanes-show plan m 0 views fits

  eras : KeepsEras m.account
  eras = subst KeepsEras st.account_is (legal-keeps_eras plan.stripes plan.era m.acts st.legal)

  stays : KeepsStays plan.stripes m.account
  stays = subst (KeepsStays plan.stripes) st.account_is (legal-keeps_stays plan.stripes plan.era m.acts st.legal)

  sound : IsSound plan.stripes m.account
  sound = sound_of plan words views m st

  low : Each (λ (part : StripePart). part.stripe < plan.stripes) (all_stripes views)
  low = all_map (StripeShows plan m) _ (all_stripes views) (λ part h. h.1.low) shown

  seats : (d : ℕ) → d < plan.stripes → has_stripe d (all_stripes views) ≡ true
  seats d lt = let there = st.there.stripes d lt in has-among d views (m.stripe_owner d) there.0 there.1 there.2

  counted : length (filter is_inside (all_stripes views)) ≡ count plan.stripes (inside_of m.account)
  counted = inside-sum plan m (all_stripes views) shown
      ∙ (sum-whole plan.stripes (λ d. cond (inside_of m.account d) 1 0) (all_stripes views) (all-distinct plan m 0 views fits) low seats ∙ sym (count-total plan.stripes (inside_of m.account)))

  -- the word's era
  era-is : gate_era words ≡ m.account.keeper.era
  era-is =
      let word = st.gate in
      let few = count_below plan.stripes (inside_of m.account) in
      let limit = st.plan_fits.stripes in
      omega (arith, word, few, limit)

  to-keeper : (e : Entry) → Contains m.account.keeper.entries e → Contains (keeper_entries (all_keepers views)) e
  to-keeper e = let there = st.there.keeper in keeper-has m (all_keepers views) e keepers (has-keepers views m.keeper_owner there.0 there.1 there.2)

  of-keeper : (e : Entry) → Contains (keeper_entries (all_keepers views)) e → Contains m.account.keeper.entries e
  of-keeper e is = (keeper-entry m (all_keepers views) e keepers is).1

  pub counts : GateWordCountsInside plan words views
  counts = record {
    word = st.gate ∙ (ap (λ k. k * 4294967296 + count plan.stripes (inside_of m.account)) (sym era-is) ∙ ap (λ k. gate_era words * 4294967296 + k) (sym counted));
    stripes = all_map (StripeShows plan m) _ (all_stripes views) (λ part h inside. h.1.era inside ∙ sym era-is) shown;
    keepers = all_map (KeeperShows m) _ (all_keepers views) (λ part h. ap (λ (k : KeeperState). k.era) (sym h.1.state) ∙ sym era-is) keepers;
    low = low;
    seats = seats;
    once = all-distinct plan m 0 views fits;
    keeper = (m.keeper_owner, st.there.keeper, λ other there. sym (keeper_owned m other there.0.keepers there.2 (st.views_fit other there.0 there.1).keepers));
  }

  pub dense : NumbersDenseAndUnique words views
  dense = record {
    below = λ id e is. elim (stands-of plan words views m st id e is) [
      | inl of ↦ let lt = eras.drawn of.0 e of.3 in let order = st.order in omega (arith, lt, order)
      | inr of ↦ let lt = eras.kept e of.1 in let order = st.order in omega (arith, lt, order)
    ];
    dense = λ place lt.
        let all = places-drawn (opened plan.era) m.acts in
        let same : (reach (opened plan.era) m.acts).places ≡ m.account.places = ap (λ (a : Account). a.places) st.account_is in
        let order = st.order in
        let found = numbered-at 0 (drawn 0 m.acts) place (drawn-numbered 0 m.acts) (omega arith) (omega (arith, all, same, order, lt)) in
        let stands = drawn-stands plan words views m st found.0 found.1 in
        (stands.0, found.0, stands.1, found.2);
    unique = one-view plan words views m st;
  }

  marked : (block era : ℕ) → m.account.marked block era ≡ true → IsMarked views block era
  marked block era is = let mark = eras.marks block era is in (mark.0, (mark.1, to-keeper (entry mark.0 (Mark mark.1 block era)) mark.2))

  pub bits : SetBitsHaveMarks plan words views
  bits block lt is = rw era-is (marked block m.account.keeper.era (st.bits block lt (subst (λ k. block_bit plan words k block ≡ true) era-is is)))

  pub precedes : MarksPrecedeWrites views
  precedes = record {
    seen = all_map (StripeShows plan m) _ (all_stripes views) (λ part h inside. all_map (λ block. (part.state.inside ≡ true) × (m.account.marked block part.era ≡ true)) (λ block. IsMarked views block part.era) part.seen (λ block is. marked block part.era is.1) h.1.seen) shown;
    issued = λ place id block era first bytes is.
        let of = stripe-entry plan m (all_stripes views) (entry place (Go id block era first bytes)) shown is in
        let mark = eras.precede of.0 place id block era first bytes of.3 in
        (mark.0, mark.2, (mark.1, to-keeper (entry mark.0 (Mark mark.1 block era)) mark.3));
  }

  seen-none : (part : StripePart) → part.state.inside ≡ false → (seen : List ℕ) → Each (λ block. (part.state.inside ≡ true) × (m.account.marked block part.era ≡ true)) seen → seen ≡ []
  seen-none part off [] are = refl
  seen-none part off (block ∷ seen) are = absurd (clash are.0.0 off)

  pub outside : OutsideHoldsNothing views
  outside = all_map (StripeShows plan m) _ (all_stripes views) (λ part h off.
      (seen-none part off part.seen h.1.seen, ap (λ (s : StripeState). s.flight) (sym h.1.state) ∙ sound.idle part.stripe (ap (λ (s : StripeState). s.inside) h.1.state ∙ off))) shown

  pub spare : Each (SpareIsClear plan words) (all_keepers views)
  spare = all_map (KeeperShows m) (SpareIsClear plan words) (all_keepers views) (λ part h. record {
    clear = λ i lt. let cleared = h.1.cleared in rw era-is (st.spare i (omega (arith, cleared, lt)));
    low = let cleared = h.1.cleared in let few = st.spare_low in omega (arith, cleared, few);
  }) keepers

  pub kept : KeptHaveFailedExchanges views
  kept = all_map (KeeperShows m) _ (all_keepers views) (λ part h. subst (λ (k : KeeperState). map place_and_count k.told ≡ kept_in k.entries) h.1.state stays.kept) keepers

  pub past : Each (λ (view : View). view.pass.floor ≤ slice_index words 1) views
  past = views-keep plan m 0 _ views (λ id view fit. let floor = fit.floor in let order = st.order in omega (arith, floor, order)) fits

  issued : (d : ℕ) → IsIssued (m.account.stripe d).entries (m.account.stripe d).flight
  issued d = subst (λ (a : Account). IsIssued (a.stripe d).entries (a.stripe d).flight) st.account_is (all-issued plan.era m.acts d)

  open-is : (id : ℕ) (part : StripePart) → StripeFits plan m id part → (flight : Option FlightWrite) → part.state.flight ≡ flight → OpenWriteIsOf part flight
  open-is id part h None is = tt
  open-is id part h (Some write) is =
      let found : IsIssued part.state.entries (Some write) = subst (λ (f : Option FlightWrite). IsIssued part.state.entries f) is (subst (λ (s : StripeState). IsIssued s.entries s.flight) h.state (issued part.stripe)) in
      let flight : (m.account.stripe part.stripe).flight ≡ Some write = ap (λ (s : StripeState). s.flight) h.state ∙ is in
      let flying : flies (m.account.stripe part.stripe).flight write.id ≡ true = ap (λ (f : Option FlightWrite). flies f write.id) flight ∙ self-id write.id in
      let at = subst (λ (s : StripeState). Contains s.entries (entry found.0 (Go write.id write.block found.1 write.first write.bytes))) (sym h.state) found.2 in
      let present : found.1 ≡ m.account.era = eras.present part.stripe found.0 write.id write.block found.1 write.first write.bytes at flying in
      let inside : part.state.inside ≡ true = elim (cases_Bool part.state.inside) [
        | inl on ↦ on
        | inr off ↦ absurd (clash flying (ap (λ (f : Option FlightWrite). flies f write.id) (sound.idle part.stripe (ap (λ (s : StripeState). s.inside) h.state ∙ off))))
      ] in
      let same : found.1 ≡ part.era = present ∙ (open-era plan.stripes m.account sound part.stripe write.id h.low flying ∙ sym (h.era inside)) in
      (found.0, subst (λ k. Contains part.state.entries (entry found.0 (Go write.id write.block k write.first write.bytes))) same found.2)

  back : (id : ℕ) (part : StripePart) (e : Entry) → StripeFits plan m id part → Contains part.state.entries e → Contains (m.account.stripe part.stripe).entries e
  back id part e h is = subst (λ (s : StripeState). Contains s.entries e) (sym h.state) is

  pub stay_in_era : WritesStayInEra words views
  stay_in_era = record {
    switches = λ place by next is. let before = eras.rolls place by next (of-keeper (entry place (Roll by next)) is) in let bound = era-bound plan.stripes m.account sound in let word = era-is in omega (arith, before, bound, word);
    present = all_map (StripeShows plan m) _ (all_stripes views) (λ part h. open-is h.0 part h.1 part.state.flight refl) shown;
    eras = all_map (StripeShows plan m) (StaysInEra views) (all_stripes views) (λ part h. record {
      ends = λ go place switch id by block era first next bytes event has is of switched later.
          eras.ends part.stripe go place switch id by block era first next bytes event (back h.0 part (entry go (Go id block era first bytes)) h.1 has) (back h.0 part (entry place event) h.1 is) of (of-keeper (entry switch (Roll by next)) switched) later;
      begins = λ go switch id by block era first next bytes has switched early.
          eras.begins part.stripe go switch id by block era first next bytes (back h.0 part (entry go (Go id block era first bytes)) h.1 has) (of-keeper (entry switch (Roll by next)) switched) early;
    }) shown;
  }

  -- a lane's receipts are the entries that were drawn for it
  received : (part : LanePart) → LaneShows m part → entries_in part.receipts ≡ entries_for part.lane (drawn 0 m.acts)
  received part h = ap entries_in (sym h.1.receipts) ∙ (ap (λ (a : Account). entries_in (a.lane part.lane)) (sym st.account_is) ∙ opened-entries part.lane plan.era m.acts)

  whole : (d : ℕ) → stays_at d (stripe_stays (all_stripes views)) ≡ stays_of m.account d
  whole d = stays-flat plan m d (all_stripes views) stays.stays (all-distinct plan m 0 views fits) shown ∙ elim (cases_Bool (has_stripe d (all_stripes views))) [
    | inl on ↦ ap (λ b. cond b (stays_of m.account d) []) on
    | inr off ↦
        let high : plan.stripes ≤ d = elim (cases_lt d plan.stripes) [
          | inl few ↦ absurd (clash (seats d few) off)
          | inr many ↦ many
        ] in
        let none_ : stays_of m.account d ≡ [] = subst (λ (a : Account). stays_of a d ≡ []) st.account_is (opened-no_stays plan.stripes plan.era m.acts d high st.legal) in
        ap (λ b. cond b (stays_of m.account d) []) off ∙ sym none_
  ]

  pub conserved : ReceiptsAreConserved words views
  conserved = record {
    lanes = λ l lt. (m.lane_owner l, st.there.lanes l lt, λ other there. sym (lane_owned m other l there.0.pass.lanes there.2 (st.views_fit other there.0 there.1).lanes));
    once = λ id x y first second is of.
        let one = stripe-entry plan m (all_stripes views) x shown first in
        let two = stripe-entry plan m (all_stripes views) y shown second in
        issued-once plan.stripes id (opened plan.era) m.acts x y st.legal (stripe-drew plan words views m st one.0 x one.3) (stripe-drew plan words views m st two.0 y two.3) is of;
    ascend = all_map (LaneShows m) _ (all_lanes views) (λ part h. subst (AscendFrom 0) (sym (received part h)) (lane-ascends part.lane 0 (drawn 0 m.acts) (drawn-numbered 0 m.acts))) lanes;
    entries = all_map (LaneShows m) _ (all_lanes views) (λ part h e is.
        let found = lane-entry part.lane (drawn 0 m.acts) e (subst (λ (es : List Entry). Contains es e) (received part h) is) in
        (found.0, drawn-stands plan words views m st e found.1)) lanes;
    receipts = all_map (LaneShows m) _ (all_lanes views) (λ part h id e stands of.
        subst (λ (es : List Entry). Contains es e) (sym (received part h)) (entry-of_lane part.lane (drawn 0 m.acts) e (eq-eqb part.lane (lane_of e.event) (sym of)) (stands-drawn plan words views m st id e stands))) lanes;
    stays = all_map (LaneShows m) _ (all_lanes views) (λ part h d.
        ap (λ (rs : List Receipt). stays_at d (stays_in rs)) (sym h.1.receipts)
        ∙ (subst (λ (a : Account). stays_at d (stays_in (a.lane part.lane)) ≡ stays_for part.lane (stays_of a d)) st.account_is (opened-stays part.lane d plan.era m.acts) ∙ ap (stays_for part.lane) (sym (whole d)))) lanes;
    budget = let all = st.budget in let order = st.order in omega (arith, all, order);
  }

  pub account_for : StaysAccountForKept words views
  account_for = stays-account_for plan words views m st fits shown keepers stays low seats

  -- all eleven
  pub holds : GateInvariant plan words views
  holds = record {
    gate_word_counts_inside = counts;
    numbers_dense_and_unique = dense;
    set_bit_has_mark = bits;
    mark_precedes_write = precedes;
    write_stays_in_era = stay_in_era;
    outside_holds_nothing = outside;
    spare_bitmap_is_clear = spare;
    kept_has_failed_exchange = kept;
    floor_is_past = past;
    receipts_are_conserved = conserved;
    stays_account_for_kept = account_for;
  }
