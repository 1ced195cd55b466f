-- The cuts that the gate makes: a stripe's part, the keeper's, or the pass goes to a new seat.
use Rattle.std.proofs.Common.{◌≡◌, ◌==◌, ◌||◌, Bool, true, false, List, [], ◌∷◌, refl, subst, inl, inr, arith, eqb-true}
use Rattle.std.proofs.lemmas.Bool.{cases_Bool}
use Rattle.era_gate.specs.declared.parts.StripePart.{StripePart}
use Rattle.era_gate.specs.declared.parts.KeeperPart.{KeeperPart}
use Rattle.era_gate.specs.declared.parts.PassPart.{PassPart}
use Rattle.era_gate.specs.declared.parts.View.{View}
use Rattle.era_gate.specs.Parts.{has_stripe, stripe_view, keeper_view, pass_view}
use Rattle.era_gate.specs.Plays.{without_pass}
use Rattle.era_gate.proofs.Choices.{clash}
use Rattle.era_gate.proofs.Splitting.{Cut}

-- flags in either order, and a flag beside another
swapped : (a b : Bool) → (a || b) ≡ true → (b || (a || false)) ≡ true
swapped true true is = refl
swapped true false is = refl
swapped false true is = refl
swapped false false is = absurd (clash is refl)

first : (a b : Bool) → a ≡ true → (a || b) ≡ true
first true b is = refl
first false b is = absurd (clash is refl)

second : (a b : Bool) → b ≡ true → (a || b) ≡ true
second true b is = refl
second false b is = is

alone : (a : Bool) → a ≡ false → (a || false) ≡ false
alone true is = is
alone false is = refl

pub cut_stripe : (p : StripePart) (ps : List StripePart) (ks : List KeeperPart) (q : PassPart) → Cut (record { stripes = p ∷ ps; keepers = ks; pass = q }) (record { stripes = ps; keepers = ks; pass = q }) (stripe_view p)
cut_stripe p ps ks q = record {
  stripes_left = λ P all. all.1;
  stripes_right = λ P all. (all.0, tt);
  keepers_left = λ P all. all;
  keepers_right = λ P all. tt;
  lanes_left = λ P all. all;
  lanes_right = λ P all. tt;
  stripe_sides = λ d has. swapped (d == p.stripe) (has_stripe d ps) has;
  keeper_sides = λ has. first _ false has;
  lane_sides = λ l has. first _ false has;
  stripe_apart = λ apart d has. alone (d == p.stripe) (elim (cases_Bool (d == p.stripe)) [
    | inl on ↦ absurd (clash (subst (λ k. has_stripe k ps ≡ true) (eqb-true d p.stripe on) has) apart.0)
    | inr off ↦ off
  ]);
  keeper_apart = λ has. refl;
  lane_apart = λ l has. refl;
  budget = omega arith;
  floors = (omega arith, omega arith);
  distinct = λ apart. (apart.1, (refl, tt));
  begun = λ d. (omega arith, omega arith);
  ended = λ d. (omega arith, omega arith);
}

pub cut_keeper : (ps : List StripePart) (k : KeeperPart) (q : PassPart) → Cut (record { stripes = ps; keepers = k ∷ []; pass = q }) (record { stripes = ps; keepers = []; pass = q }) (keeper_view k)
cut_keeper ps k q = record {
  stripes_left = λ P all. all;
  stripes_right = λ P all. tt;
  keepers_left = λ P all. tt;
  keepers_right = λ P all. all;
  lanes_left = λ P all. all;
  lanes_right = λ P all. tt;
  stripe_sides = λ d has. first _ false has;
  keeper_sides = λ has. refl;
  lane_sides = λ l has. first _ false has;
  stripe_apart = λ apart d has. refl;
  keeper_apart = λ has. absurd (clash has refl);
  lane_apart = λ l has. refl;
  budget = omega arith;
  floors = (omega arith, omega arith);
  distinct = λ apart. (apart, tt);
  begun = λ d. (omega arith, omega arith);
  ended = λ d. (omega arith, omega arith);
}

pub cut_pass : (v : View) → Cut v (without_pass v) (pass_view v.pass)
cut_pass v = record {
  stripes_left = λ P all. all;
  stripes_right = λ P all. tt;
  keepers_left = λ P all. all;
  keepers_right = λ P all. tt;
  lanes_left = λ P all. tt;
  lanes_right = λ P all. all;
  stripe_sides = λ d has. first _ false has;
  keeper_sides = λ has. first _ false has;
  lane_sides = λ l has. has;
  stripe_apart = λ apart d has. refl;
  keeper_apart = λ has. refl;
  lane_apart = λ l has. absurd (clash has refl);
  budget = omega arith;
  floors = (omega arith, omega arith);
  distinct = λ apart. (apart, tt);
  begun = λ d. (omega arith, omega arith);
  ended = λ d. (omega arith, omega arith);
}
