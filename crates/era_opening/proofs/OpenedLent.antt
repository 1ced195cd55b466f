-- What an opening came to, over all that was done before.
use Rattle.std.proofs.Common.{◌≡◌, ℕ, ◌+◌, inl, inr, List, [], ◌∷◌, ◌++◌, Option, ap, ◌∙◌, subst}
use Rattle.std.specs.Prelude.{Result, Ok, Err}
use Rattle.era_base.specs.Bay.{KeepsSizes, Loan, SameReads, new_loan}
use Rattle.era_base.specs.Faults.{Rose}
use Rattle.era_base.specs.declared.bay.Bay.{Ghosts as BayMembers}
use Rattle.era_base.specs.declared.disk.Disk.{Ghosts}
use Rattle.era_base.specs.declared.geometry.Geometry.{Geometry}
use Rattle.era_line.specs.declared.table_line.TableLine.{TableLine}
use Rattle.era_opening.specs.Lending.{ArePartsLent, AsksSize, IsLargeEnough, IsUnanswered, IsUnsuited, LendsMetadata}
use Rattle.era_opening.specs.Loans.{loans_of, new_loans, taken_of}
use Rattle.era_opening.specs.Openings.{AreLent, HasGeometry, IsAsked, IsRefusedOver, IsUnlent, MayAsk, OpensLent, OpensParts, OpensSession}
use Rattle.era_opening.specs.Splits.{IsSplit, part_first}
use Rattle.era_opening.specs.declared.splitting.Split.{Split}
use Rattle.era_opening.proofs.Rows.{appended}
use Rattle.era_session.specs.declared.session.Session.{Session}
use Rattle.era_tools.specs.Around.{bay_around}
use Rattle.era_tools.specs.ClosedImages.{IsMetadataLent}
use Rattle.era_tools.specs.declared.refusal.Refusal.{Refusal}
use Rattle.era_tools.specs.declared.refusal.Refusal.TheVariants.{BayFault, DataFault, Metadata, NoGeometry, NoRoom, NoSnap, OriginSmall, SameDevice}

-- parts that read as the bay did, as it did before
parts-earlier : {D : Type 0} (disk : Ghosts D) (read reads : List ℕ → ℕ → Option (List ℕ)) (origin : List ℕ) (g : Geometry) (each : ℕ) (parts : List D) → SameReads read reads
    → ArePartsLent disk reads origin g each parts → ArePartsLent disk read origin g each parts
parts-earlier disk read reads origin g each parts same are k part at =
    let is = are k part at in
    record {
      place = is.place;
      size = is.size;
      content = λ tells sector low bytes told. is.content tells sector low bytes (same origin (part_first g each k + sector) ∙ told);
    }

-- a bay that didn't answer, and hadn't failed before
unanswered-earlier : {B D : Type 0} (bay : BayMembers B D) (a b c : B) (refusal : Refusal) → bay.faults b ≡ bay.faults a → IsUnanswered (bay_around bay b c) refusal
    → IsUnanswered (bay_around bay a c) refusal
unanswered-earlier bay a b c (BayFault count) same is = (is.0, subst (λ (n : ℕ). Rose n (bay.faults c)) same is.1)
unanswered-earlier bay a b c NoRoom same is = is ∙ same
unanswered-earlier bay a b c (NoGeometry error size) same is = absurd is
unanswered-earlier bay a b c SameDevice same is = absurd is
unanswered-earlier bay a b c (OriginSmall have need) same is = absurd is
unanswered-earlier bay a b c (Metadata error) same is = absurd is
unanswered-earlier bay a b c NoSnap same is = absurd is
unanswered-earlier bay a b c (DataFault count) same is = absurd is

refused-earlier : {B D : Type 0} (bay : BayMembers B D) (a b c : B) (disk : Ghosts D) (g : Geometry) (split : Split) (metadata : D) (parts : List D) (metadata' : D) (parts' : List D) (refusal : Refusal)
    → bay.faults b ≡ bay.faults a → SameReads (bay.reads a) (bay.reads b)
    → IsRefusedOver disk (bay_around bay b c) g split metadata parts metadata' parts' refusal → IsRefusedOver disk (bay_around bay a c) g split metadata parts metadata' parts' refusal
refused-earlier bay a b c disk g split metadata parts metadata' parts' refusal same reads over = record {
  cause = elim over.cause [
    | inl few ↦ inl (few.0, unanswered-earlier bay a b c refusal same few.1, few.2)
    | inr all ↦ inr (all.0, all.1 ∙ same, all.2)
  ];
  safe = over.safe;
  content = over.content;
  others = λ device sector out. over.others device sector out ∙ reads device sector;
}

-- the metadata device was lent before
metadata-later : {B D : Type 0} (bay : BayMembers B D) (a b c : B) (disk : Ghosts D) (name : List ℕ) (metadata : D) → KeepsSizes (bay.sizes b) (bay.sizes c)
    → IsMetadataLent disk (bay_around bay a b) name metadata → IsMetadataLent disk (bay_around bay a c) name metadata
metadata-later bay a b c disk name metadata sizes is = record { place = is.place; size = sizes name (disk.sectors metadata) is.size; content = is.content }

pub opened-lent : {B D : Type 0} (bay : BayMembers B D) (a b c : B) (disk : Ghosts D) (line : TableLine) (g : Geometry) (split : Split) (metadata : D) (result : Result (Session D) Refusal)
    → LendsMetadata disk (bay_around bay a b) line.meta (Ok metadata) → KeepsSizes (bay.sizes b) (bay.sizes c)
    → OpensParts disk (bay_around bay b c) line g split metadata result → OpensLent disk (bay_around bay a c) line g split result
opened-lent {B} {D} bay a b c disk line g split metadata (Ok session) first sizes done =
    let kept = first.1 in
    record {
      metadata = metadata;
      parts = done.parts;
      are = record {
        first = metadata-later bay a b c disk line.meta metadata sizes first.0;
        others = parts-earlier disk (bay.reads a) (bay.reads b) line.origin g split.each done.parts kept.reads done.are;
        apart = done.apart;
      };
      lent = record {
        loans = done.lent.loans ∙ ap (λ (l : List (Loan D)). l ++ new_loans done.parts) kept.loans ∙ appended (bay.loans a) (new_loan metadata ∷ []) (new_loans done.parts);
        reads = λ device sector. done.lent.reads device sector ∙ kept.reads device sector;
      };
      over = done.over;
      faults = done.faults ∙ first.2;
    }
opened-lent bay a b c disk line g split metadata (Err refusal) first sizes done =
    let kept = first.1 in
    inr (record {
      metadata = metadata;
      parts = done.parts;
      metadata' = done.metadata';
      parts' = done.parts';
      are = record {
        first = metadata-later bay a b c disk line.meta metadata sizes first.0;
        others = parts-earlier disk (bay.reads a) (bay.reads b) line.origin g split.each done.parts kept.reads done.are;
        apart = done.apart;
      };
      over = refused-earlier bay a b c disk g split metadata done.parts done.metadata' done.parts' refusal first.2 kept.reads done.over;
      loans = done.loans (bay.loans a) kept.loans;
    })

-- the origin's size was asked before
lent-earlier : {B D : Type 0} (bay : BayMembers B D) (a b c : B) (disk : Ghosts D) (line : TableLine) (g : Geometry) (split : Split) (metadata : D) (parts : List D)
    → SameReads (bay.reads a) (bay.reads b) → AreLent disk (bay_around bay b c) line g split metadata parts → AreLent disk (bay_around bay a c) line g split metadata parts
lent-earlier bay a b c disk line g split metadata parts reads are = record {
  first = record {
    place = are.first.place;
    size = are.first.size;
    content = λ tells sector low bytes told. are.first.content tells sector low bytes (reads line.meta (0 + sector) ∙ told);
  };
  others = parts-earlier disk (bay.reads a) (bay.reads b) line.origin g split.each parts reads are.others;
  apart = are.apart;
}

asked-before : {B D : Type 0} (bay : BayMembers B D) (a b c : B) (line : TableLine) (stripes : ℕ) (g : Geometry) (split : Split) → MayAsk line → HasGeometry line g
    → IsLargeEnough (bay_around bay a b) line → KeepsSizes (bay.sizes b) (bay.sizes c) → IsSplit g stripes split → IsAsked (bay_around bay a c) line stripes g split
asked-before bay a b c line stripes g split may has large sizes is = record {
  may = may;
  has = has;
  large = (large.0, sizes line.origin large.0 large.1, large.2);
  is_split = is;
}

unlent-unanswered : {B D : Type 0} (bay : BayMembers B D) (a c : B) (line : TableLine) (refusal : Refusal) → MayAsk line → IsUnanswered (bay_around bay a c) refusal
    → IsUnlent (bay_around bay a c) line refusal
unlent-unanswered bay a c line (BayFault count) may is = (may, is)
unlent-unanswered bay a c line NoRoom may is = (may, is)
unlent-unanswered bay a c line (NoGeometry error size) may is = absurd is
unlent-unanswered bay a c line SameDevice may is = absurd is
unlent-unanswered bay a c line (OriginSmall have need) may is = absurd is
unlent-unanswered bay a c line (Metadata error) may is = absurd is
unlent-unanswered bay a c line NoSnap may is = absurd is
unlent-unanswered bay a c line (DataFault count) may is = absurd is

pub unlent-unsuited : {B D : Type 0} (bay : BayMembers B D) (a c : B) (line : TableLine) (refusal : Refusal) → MayAsk line → IsUnsuited (bay_around bay a c) line refusal
    → IsUnlent (bay_around bay a c) line refusal
unlent-unsuited bay a c line (BayFault count) may is = (may, is)
unlent-unsuited bay a c line NoRoom may is = (may, is)
unlent-unsuited bay a c line (NoGeometry error size) may is = absurd is
unlent-unsuited bay a c line SameDevice may is = absurd is
unlent-unsuited bay a c line (OriginSmall have need) may is = (may, is)
unlent-unsuited bay a c line (Metadata error) may is = absurd is
unlent-unsuited bay a c line NoSnap may is = absurd is
unlent-unsuited bay a c line (DataFault count) may is = absurd is

pub opened-session : {B D : Type 0} (bay : BayMembers B D) (a b c : B) (disk : Ghosts D) (line : TableLine) (stripes : ℕ) (g : Geometry) (split : Split) (result : Result (Session D) Refusal)
    → MayAsk line → HasGeometry line g → IsSplit g stripes split → KeepsSizes (bay.sizes b) (bay.sizes c)
    → AsksSize (bay_around bay a b) line (Ok tt) → OpensLent disk (bay_around bay b c) line g split result → OpensSession disk (bay_around bay a c) line stripes result
opened-session {B} {D} bay a b c disk line stripes g split (Ok session) may has is sizes asked done =
    let left = asked.1 in
    record {
      geometry = g;
      split = split;
      asked = asked-before bay a b c line stripes g split may has asked.0 sizes is;
      opened = record {
        metadata = done.metadata;
        parts = done.parts;
        are = lent-earlier bay a b c disk line g split done.metadata done.parts left.reads done.are;
        lent = record {
          loans = done.lent.loans ∙ ap (λ (l : List (Loan D)). l ++ new_loans (done.metadata ∷ done.parts)) left.loans;
          reads = λ device sector. done.lent.reads device sector ∙ left.reads device sector;
        };
        over = done.over;
        faults = done.faults ∙ asked.2;
      };
    }
opened-session {B} {D} bay a b c disk line stripes g split (Err refusal) may has is sizes asked (inl done) =
    let left = asked.1 in
    let left' = done.1 in
    inl (
      unlent-unanswered bay a c line refusal may (unanswered-earlier bay a b c refusal asked.2 done.0),
      record { loans = left'.loans ∙ left.loans; reads = λ device sector. left'.reads device sector ∙ left.reads device sector },
    )
opened-session {B} {D} bay a b c disk line stripes g split (Err refusal) may has is sizes asked (inr done) =
    let left = asked.1 in
    inr (record {
      geometry = g;
      split = split;
      asked = asked-before bay a b c line stripes g split may has asked.0 sizes is;
      returned = record {
        metadata = done.metadata;
        parts = done.parts;
        metadata' = done.metadata';
        parts' = done.parts';
        are = lent-earlier bay a b c disk line g split done.metadata done.parts left.reads done.are;
        over = refused-earlier bay a b c disk g split done.metadata done.parts done.metadata' done.parts' refusal asked.2 left.reads done.over;
        loans = done.loans ∙ ap (λ (l : List (Loan D)). l ++ loans_of (taken_of (done.metadata ∷ done.parts) (done.metadata' ∷ done.parts'))) left.loans;
      };
    })
