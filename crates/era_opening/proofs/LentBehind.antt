-- What is lent behind what was lent, and what goes back of it.
use Rattle.std.proofs.Common.{◌≡◌, ◌≢◌, ℕ, zero, suc, ◌+◌, ◌-◌, ◌*◌, ◌<◌, ◌≤◌, inl, inr, min, List, [], ◌∷◌, ◌++◌, length, Option, Some, slice_get, refl, sym, ap, ◌∙◌, subst, arith}
use Rattle.std.specs.Prelude.{Result, Ok, Err, unwrap_or}
use Rattle.std.proofs.Math.Nat.{mul-le-mul_right}
use Rattle.era_base.specs.Bay.{Loan, new_loan}
use Rattle.era_base.specs.Disk.{Place}
use Rattle.era_base.specs.Faults.{Rose}
use Rattle.era_base.specs.declared.bay.Bay.{Ghosts as BayMembers}
use Rattle.era_base.specs.declared.disk.Disk.{Ghosts}
use Rattle.era_base.specs.declared.geometry.Geometry.{Geometry}
use Rattle.era_line.specs.declared.table_line.TableLine.{TableLine}
use Rattle.era_opening.specs.Lending.{ArePartsLent, HasLentParts, IsUnanswered}
use Rattle.era_opening.specs.Loans.{AreForLent, ArePutBack, LieInOrder, LieWhereLent, MayGoBack, new_loans}
use Rattle.era_opening.specs.Openings.{HasReturnedParts, OpensParts, PreparesSession}
use Rattle.era_opening.specs.Splits.{IsSplit, part_first, part_size}
use Rattle.era_opening.specs.declared.splitting.Split.{Split}
use Rattle.era_opening.proofs.BackForLent.{same-lie}
use Rattle.era_opening.proofs.LeftSafe.{all-untouched, lie-ready, unchanged}
use Rattle.era_opening.proofs.Rows.{appended}
use Rattle.era_session.specs.Openings.{AreParts, MaySplit, blocks_at_part, part_blocks}
use Rattle.era_notes.specs.Parts.{part_sectors}
use Rattle.era_session.specs.declared.session.Session.{Session}
use Rattle.era_session.proofs.Prepared.{safely-none}
use Rattle.era_tools.specs.Around.{bay_around}
use Rattle.era_tools.specs.declared.refusal.Refusal.{Refusal}
use Rattle.era_tools.specs.declared.refusal.Refusal.TheVariants.{BayFault, DataFault, Metadata, NoGeometry, NoRoom, NoSnap, OriginSmall, SameDevice}

some-is : {A : Type 0} (x z : A) → ◌≡◌ {A = Option A} (Some x) (Some z) → z ≡ x
some-is {A} x z at = sym (ap (λ (o : Option A). unwrap_or o x) at)

-- a part begins behind the one before it
behind-part : (each size rest j k : ℕ) → 0 < each → 8 ≤ size → j < k → (many : ℕ) → many ≤ each * size
    → (j * each * size < k * each * size) × (j * each * size + many ≤ k * each * size)
behind-part each size rest j k some least low many few =
    let next : (j + 1) * each * size ≤ k * each * size = mul-le-mul_right size (mul-le-mul_right each (omega (arith, low))) in
    let step : (j + 1) * each * size ≡ j * each * size + each * size = times-next j each size in
    let wide : 0 < each * size = positive each size some least in
    (omega (arith, next, step, wide), omega (arith, next, step, few))
  where
    times-next : (j each size : ℕ) → (j + 1) * each * size ≡ j * each * size + each * size
    times-next j each size = grind arith

    positive : (each size : ℕ) → 0 < each → 8 ≤ size → 0 < each * size
    positive (suc each) size some least = omega (arith, least)
    positive zero size some least = absurd (omega (arith, some))

few-sectors : (g : Geometry) (each k : ℕ) → part_size g each k ≤ each * g.block_sectors
few-sectors g each k =
    let blocks : blocks_at_part g each k * g.block_sectors ≤ each * g.block_sectors = mul-le-mul_right g.block_sectors (omega arith) in
    below (blocks_at_part g each k * g.block_sectors) (g.sectors - k * each * g.block_sectors) (each * g.block_sectors) blocks
  where
    below : (p q r : ℕ) → p ≤ r → min p q ≤ r
    below p q r le = omega (arith, le)

-- parts lie in order behind a device of another name
pub parts-apart : {D : Type 0} (disk : Ghosts D) (reads : List ℕ → ℕ → Option (List ℕ)) (origin : List ℕ) (g : Geometry) (each : ℕ) (metadata : D) (parts : List D)
    → (disk.place metadata).device ≢ origin → 0 < each → 8 ≤ g.block_sectors → ArePartsLent disk reads origin g each parts → LieInOrder disk (metadata ∷ parts)
parts-apart {D} disk reads origin g each metadata parts two some least are = pairs
  where
    pairs : (j k : ℕ) (one other : D) → j < k → slice_get (metadata ∷ parts) j ≡ Some one → slice_get (metadata ∷ parts) k ≡ Some other
        → (disk.place one).device ≡ (disk.place other).device
        → ((disk.place one).first < (disk.place other).first) × ((disk.place one).first + disk.sectors one ≤ (disk.place other).first)
    pairs j zero one other low at at' device = absurd (omega (arith, low))
    pairs zero (suc k) one other low at at' device =
        let is : one ≡ metadata = some-is metadata one at in
        absurd (two (sym (ap (λ (d : D). (disk.place d).device) is) ∙ device ∙ ap (λ (p : Place). p.device) (are k other at').place))
    pairs (suc j) (suc k) one other low at at' device =
        let lent = are j one at in
        let lent' = are k other at' in
        let begun : (disk.place one).first ≡ part_first g each j = ap (λ (p : Place). p.first) lent.place in
        let begun' : (disk.place other).first ≡ part_first g each k = ap (λ (p : Place). p.first) lent'.place in
        let order = behind-part each g.block_sectors 0 j k some least (omega (arith, low)) (part_size g each j) (few-sectors g each j) in
        let size = lent.size in
        let first = order.0 in
        let second = order.1 in (
          rw begun (rw begun' first),
          rw begun (rw begun' (rw size second)),
        )

-- and they are the parts of an origin
pub lent-parts : {D : Type 0} (disk : Ghosts D) (reads : List ℕ → ℕ → Option (List ℕ)) (origin : List ℕ) (g : Geometry) (stripes : ℕ) (split : Split) (parts : List D)
    → IsSplit g stripes split → length parts ≡ split.count → ArePartsLent disk reads origin g split.each parts → AreParts disk g parts
lent-parts disk reads origin g stripes split parts is count are =
    let same : split.each ≡ part_blocks g (length parts) = sym is.same ∙ ap (part_blocks g) (sym count) in
    record {
      split = subst (λ (n : ℕ). MaySplit g n) (sym count) is.may;
      sizes = λ k part at. (are k part at).size ∙ ap (λ (each : ℕ). part_sectors g (k * each) (blocks_at_part g each k)) same;
    }

pub each-some : (g : Geometry) (stripes : ℕ) (split : Split) → IsSplit g stripes split → 0 < split.each
each-some g stripes split is =
    let some = is.covers.some 0 is.may.any in
    let few = few-sectors g split.each 0 in
    positive split.each g.block_sectors (omega (arith, some, few))
  where
    positive : (each size : ℕ) → 0 < each * size → 0 < each
    positive zero size some = absurd (omega (arith, some))
    positive (suc each) size some = omega arith

pub split-apart : {D : Type 0} (disk : Ghosts D) (reads : List ℕ → ℕ → Option (List ℕ)) (origin : List ℕ) (g : Geometry) (stripes : ℕ) (split : Split) (metadata : D) (parts : List D)
    → (disk.place metadata).device ≢ origin → IsSplit g stripes split → ArePartsLent disk reads origin g split.each parts → LieInOrder disk (metadata ∷ parts)
split-apart disk reads origin g stripes split metadata parts two is are =
    parts-apart disk reads origin g split.each metadata parts two (each-some g stripes split is) g.block_size.least are

-- all are out
pub behind-out : {D : Type 0} (disk : Ghosts D) (before loans loans' : List (Loan D)) (metadata metadata' : D) (parts parts' : List D) → loans ≡ before ++ new_loan metadata ∷ []
    → loans' ≡ loans ++ new_loans parts → LieInOrder disk (metadata ∷ parts) → LieWhereLent disk (metadata ∷ parts) (metadata' ∷ parts')
    → AreForLent disk before (metadata ∷ parts) (metadata' ∷ parts') loans'
behind-out {D} disk before loans loans' metadata metadata' parts parts' out more apart lie = record {
  out = more ∙ ap (λ (l : List (Loan D)). l ++ new_loans parts) out ∙ appended before (new_loan metadata ∷ []) (new_loans parts);
  apart = apart;
  lie = lie;
}

pub behind-back : {D : Type 0} (disk : Ghosts D) (loans loans' : List (Loan D)) (metadata : D) (parts : List D)
    → ((before : List (Loan D)) × (loans ≡ before ++ new_loan metadata ∷ []))
    → loans' ≡ loans ++ new_loans parts → LieInOrder disk (metadata ∷ parts) → MayGoBack disk (metadata ∷ parts) loans'
behind-back disk loans loans' metadata parts out more apart = record {
  before = out.0;
  lent = metadata ∷ parts;
  are = behind-out disk out.0 loans loans' metadata metadata parts parts out.1 more apart (same-lie disk (metadata ∷ parts));
}

-- a session was prepared over all parts, or all went back
pub opened-parts : {B D : Type 0} (bay : BayMembers B D) (a b c : B) (disk : Ghosts D) (line : TableLine) (g : Geometry) (split : Split) (metadata : D) (parts : List D)
    (result : Result (Session D) Refusal) → LieInOrder disk (metadata ∷ parts)
    → HasLentParts disk (bay_around bay a b) line.origin g split.each parts → length parts ≡ split.count → bay.faults b ≡ bay.faults a
    → PreparesSession disk (bay_around bay b c) g metadata parts result → OpensParts disk (bay_around bay a c) line g split metadata result
opened-parts bay a b c disk line g split metadata parts (Ok session) apart has all none done =
    let ready = done.0 in
    let left = done.1 in
    let kept = has.lent in
    record {
      parts = parts;
      are = has.each_lent;
      apart = apart;
      lent = record { loans = left.loans ∙ kept.loans; reads = λ device sector. left.reads device sector ∙ kept.reads device sector };
      over = record { all = all; ready = ready; lie = lie-ready disk g metadata parts session ready };
      faults = done.2 ∙ none;
    }
opened-parts bay a b c disk line g split metadata parts (Err refusal) apart has all none done =
    let said = done.2 in
    let back = done.3 in
    let kept = has.lent in
    record {
      parts = parts;
      metadata' = done.0;
      parts' = done.1;
      are = has.each_lent;
      apart = apart;
      over = record {
        cause = inr (all, back.faults ∙ none, said.cause);
        safe = said.safe;
        content = back.content;
        others = λ device sector out. back.others device sector out ∙ kept.reads device sector;
      };
      loans = λ before out. back.loans before (metadata ∷ parts) (behind-out disk before (bay.loans a) (bay.loans b) metadata done.0 parts done.1 out kept.loans apart said.safe.lie);
    }

-- a bay that didn't answer, and then took back what it had lent
pub unanswered-later : {B D : Type 0} (bay : BayMembers B D) (a b c : B) (refusal : Refusal) → IsUnanswered (bay_around bay a b) refusal → bay.faults c ≡ bay.faults b
    → IsUnanswered (bay_around bay a c) refusal
unanswered-later bay a b c (BayFault count) is same = (is.0 ∙ sym same, subst (λ (n : ℕ). Rose (bay.faults a) n) (sym same) is.1)
unanswered-later bay a b c NoRoom is same = same ∙ is
unanswered-later bay a b c (NoGeometry error size) is same = absurd is
unanswered-later bay a b c SameDevice is same = absurd is
unanswered-later bay a b c (OriginSmall have need) is same = absurd is
unanswered-later bay a b c (Metadata error) is same = absurd is
unanswered-later bay a b c NoSnap is same = absurd is
unanswered-later bay a b c (DataFault count) is same = absurd is

pub returned-parts : {B D : Type 0} (bay : BayMembers B D) (a b c : B) (disk : Ghosts D) (line : TableLine) (g : Geometry) (split : Split) (metadata : D) (parts : List D)
    (refusal : Refusal) → LieInOrder disk (metadata ∷ parts)
    → HasLentParts disk (bay_around bay a b) line.origin g split.each parts → length parts < split.count → IsUnanswered (bay_around bay a b) refusal
    → ArePutBack disk (bay_around bay b c) (metadata ∷ parts) → HasReturnedParts disk (bay_around bay a c) line g split metadata refusal
returned-parts bay a b c disk line g split metadata parts refusal apart has low is back =
    let kept = has.lent in
    let lie = same-lie disk (metadata ∷ parts) in
    record {
      parts = parts;
      metadata' = metadata;
      parts' = parts;
      are = has.each_lent;
      apart = apart;
      over = record {
        cause = inl (low, unanswered-later bay a b c refusal is back.faults, record { first = refl; others = refl });
        safe = record { lie = lie; only_read = all-untouched disk parts; safely = safely-none disk g metadata; unwritten = λ not. unchanged disk metadata };
        content = back.content;
        others = λ device sector out. back.others device sector out ∙ kept.reads device sector;
      };
      loans = λ before out. back.loans before (metadata ∷ parts) (behind-out disk before (bay.loans a) (bay.loans b) metadata metadata parts parts out kept.loans apart lie);
    }
