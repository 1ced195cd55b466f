-- The owners of a small session's devices stand, and others don't.
use Rattle.std.proofs.Common.{◌≡◌, ℕ, zero, suc, ◌≤◌, true, false, List, [], ◌∷◌, Some, refl, subst, arith, lit<, lit≤}
use Rattle.std.specs.Prelude.{slice_get}
use Rattle.std.proofs.lemmas.Bool.{false≢true}
use Rattle.std.proofs.lemmas.Option.{same_Some}
use Rattle.era_gate.specs.Acts.{IsLegalFrom, opened}
use Rattle.era_journal.specs.OwnersStand.{OwnersStand, StandsAt}
use Rattle.era_journal.specs.Requests.{MarksFollowRequests}
use Rattle.era_journal.specs.Rows.{early_acts, keeper_seen, late_log, part_with, silent_opening, stripe_seen, write_acts}
use Rattle.era_keeper.specs.Keepers.{EntriesStand, KeeperView}
use Rattle.era_model.specs.declared.history.Happening.{Happening}
use Rattle.era_model.specs.History.{is_open}
use Rattle.era_model.specs.Legal.{IsLegal, IsOpening}
use Rattle.era_model.specs.Marking.{is_marked_in, journal_last_era}
use Rattle.era_model.specs.Promises.{MarksFollowJournal}
use Rattle.era_notes.specs.Notes.{own_history}
use Rattle.era_promise.proofs.SmallSession.{valid-unmarked}
use Rattle.era_stripe.specs.Stripes.{StripeView, ViewStands}

opens : IsOpening silent_opening
opens = record { valid = valid-unmarked; sectors = refl; block_sectors = refl; era = refl; held = tt; some_stripe = lit≤ tt; few_stripes = lit≤ tt }

legal-acts : IsLegalFrom 1 (opened 1) write_acts
legal-acts = (
  ((refl, refl), lit< tt),
  (
    ((refl, refl), lit< tt),
    (
      record { low = lit< tt; outside = refl; number = refl; floor = lit≤ tt; lane = lit< tt },
      (
        (lit< tt, (record { inside = refl; alone = refl; marked = refl; present = refl; switched = refl; once = refl }, lit< tt)),
        ((lit< tt, (refl, lit< tt)), (record { low = lit< tt; inside = refl; idle = refl; number = refl }, tt)),
      ),
    ),
  ),
)

stripe-stands : ViewStands false silent_opening (stripe_seen (part_with 1))
stripe-stands = record {
  part = record { sectors = refl; block_sectors = refl; size = refl; blocks = lit≤ tt };
  through = λ tells. absurd (false≢true tells);
  flights = refl;
  legal = (
    refl,
    (
      record { alone = refl; of_part = record { low = lit≤ tt; high = lit< tt }; left = record { of_origin = lit< tt; whole = refl; place = refl } },
      tt,
    ),
  );
  counts = (lit≤ tt, tt, (lit≤ tt, tt, lit≤ tt));
  entries = refl;
  kept = refl;
  places = (lit≤ tt, (lit≤ tt, tt));
}

stripe-at : (stripe : ℕ) (view : StripeView) → slice_get (stripe_seen (part_with 1) ∷ []) stripe ≡ Some view → StandsAt false silent_opening write_acts stripe view
stripe-at zero view is = subst (StandsAt false silent_opening write_acts 0) (same_Some (stripe_seen (part_with 1)) view is) (record {
  stands = stripe-stands;
  index = refl;
  range = record { first = refl; blocks = refl };
  state = refl;
})
stripe-at (suc stripe) view is = absurd (cc)

-- the keeper's own history
abbrev own : List Happening
own = own_history silent_opening keeper_seen.notes

legal-own : IsLegal own
legal-own = (
  refl,
  record { of_origin = lit< tt; tried = refl; present = refl },
  (refl, record { of_origin = lit< tt; present = refl; unmarked = refl }, (opens, tt)),
)

-- The laws of the model that this takes.
pub record Laws : Type 0 where
  pub journal : (h : List Happening) → IsLegal h → is_open h ≡ true → MarksFollowJournal h
  pub kept : (h : List Happening) (block era : ℕ) → IsLegal h → is_marked_in h block era ≡ true → era ≤ journal_last_era h block

keeper-stands : Laws → EntriesStand false silent_opening keeper_seen
keeper-stands laws = record {
  opens = opens;
  total = refl;
  legal = (record { of_origin = lit< tt; tried = refl; present = refl }, (record { of_origin = lit< tt; present = refl; unmarked = refl }, tt));
  follows = laws.journal own legal-own refl;
  marked = λ block era. laws.kept own block era legal-own;
  through = λ tells. absurd (false≢true tells);
  counts = (lit≤ tt, tt, (lit≤ tt, tt, lit≤ tt));
  entries = refl;
  kept = refl;
  places = (lit≤ tt, (lit≤ tt, tt));
}

pub owners-stand : Laws → OwnersStand false silent_opening write_acts (stripe_seen (part_with 1) ∷ []) keeper_seen
owners-stand laws = record {
  legal = legal-acts;
  size = refl;
  stripes = stripe-at;
  keeper = keeper-stands laws;
  state = refl;
  marks = (tt, (tt, (refl, (tt, tt))));
  contents = λ silent. refl;
}

-- others
pub other-part : OwnersStand false silent_opening write_acts (stripe_seen (part_with 0) ∷ []) keeper_seen → ⊥
other-part stand = let none : 0 ≡ 1 = (stand.stripes 0 (stripe_seen (part_with 0)) refl).range.blocks in omega (arith, none)

pub early-write : (views : List StripeView) (keeper : KeeperView) → OwnersStand false silent_opening early_acts views keeper → ⊥
early-write views keeper stand = let unmarked : false ≡ true = stand.legal.1.1.0.1.0.marked in absurd (false≢true unmarked)

pub late-mark : MarksFollowRequests silent_opening late_log → ⊥
late-mark follow = let last = follow.0 in cc
