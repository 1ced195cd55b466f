-- What a session reports that was served over a disk that was lent in the same call.
use Rattle.std.proofs.Common.{◌≡◌, ℕ, ◌+◌, ◌*◌, ◌<◌, List, length, ap, sym, ◌∙◌, subst, arith}
use Rattle.std.specs.Prelude.{true, Option, Some}
use Rattle.era_base.specs.declared.geometry.Geometry.{Geometry}
use Rattle.era_base.specs.Bay.{Loan, KeepsSizes, HasContent, SameReadsBut}
use Rattle.era_base.specs.Bytes.{part}
use Rattle.era_base.specs.Disk.{Place}
use Rattle.era_base.specs.Faults.{Rose}
use Rattle.era_line.specs.declared.table_line.TableLine.{TableLine}
use Rattle.era_tools.specs.declared.status.Status.{Status}
use Rattle.era_tools.specs.declared.status.Status.TheVariants.{Fault, Source}
use Rattle.era_base.specs.declared.disk.Disk.{Ghosts}
use Rattle.era_tools.specs.Around.{BayAround}
use Rattle.era_top.specs.Around.{StreamsAround, SomeCountRose, AllReturned}
use Rattle.era_top.specs.Openings.{IsOpened, HasServed}
use Rattle.era_top.specs.Rises.{HasRiseFor}
use Rattle.era_top.specs.Reports.{ReportsSession, Serves, EndsAsJournal}
use Rattle.era_top.proofs.ToolEnds.{one-returned, one-rose}
use Rattle.era_top.proofs.SectorLists.{seen-is}

-- a bay between the opening and the session
pub record BayBetween (D : Type 0) : Type 0 where
  pub sizes : List ℕ → Option ℕ
  pub reads : List ℕ → ℕ → Option (List ℕ)
  pub loans : List (Loan D)
  pub faults : ℕ

-- the bay around the opening
abbrev pub first_part : {D : Type 0} → BayAround D → BayBetween D → BayAround D
first_part bay between = record {
  sizes = between.sizes;
  reads = bay.reads;
  reads' = between.reads;
  loans = bay.loans;
  loans' = between.loans;
  faults = bay.faults;
  faults' = between.faults;
}

-- the bay around the session
abbrev pub last_part : {D : Type 0} → BayAround D → BayBetween D → BayAround D
last_part bay between = record {
  sizes = bay.sizes;
  reads = between.reads;
  reads' = bay.reads';
  loans = between.loans;
  loans' = bay.loans';
  faults = between.faults;
  faults' = bay.faults';
}

module _ (D : Type 0) (line : TableLine) (disks : Ghosts D) (bay : BayAround D) (between : BayBetween D) (streams : StreamsAround)
    (geometry : Geometry) (lent : D) (result : Status) where
  -- only the origin's sectors read otherwise
  others-but : (origin : List ℕ) (sectors length : ℕ) (place : Place) → place ≡ record { device = origin; first = 0 } → sectors ≡ length
      → SameReadsBut place.device place.first sectors between.reads bay.reads' → SameReadsBut origin 0 length between.reads bay.reads'
  others-but origin sectors length place is same others =
      subst (λ (n : ℕ). SameReadsBut origin 0 n between.reads bay.reads') same
      (subst (λ (p : Place). SameReadsBut p.device p.first sectors between.reads bay.reads') is others)

  -- the origin reads in the end as the journal of the session says
  pub ends_as_journal : (contents : List ℕ) (opened : IsOpened line disks (first_part bay between) geometry lent)
      (served : HasServed geometry contents disks (last_part bay between) streams bay.loans lent result)
      → disks.tells ≡ true → HasContent bay.reads line.origin line.length contents
      → EndsAsJournal bay line geometry served.goes.session
  ends_as_journal contents opened served tells has =
      let origin = opened.taken.origin in
      let content = served.content tells in
      record {
        final = (disks.history served.back).now.seen;
        content = record {
          size = (served.whole tells).bytes ∙ ap (λ n. n * 512) origin.sectors;
          bytes = λ sector below.
              let at_place = content sector (subst (λ (n : ℕ). sector < n) (sym origin.sectors) below) in
              let at_origin = subst (λ (place : Place). bay.reads' place.device (place.first + sector) ≡ Some (part (sector * 512) 512 (disks.history served.back).now.seen)) origin.place at_place in
              let e : 0 + sector ≡ sector = omega arith in
              subst (λ (n : ℕ). bay.reads' line.origin n ≡ Some (part (sector * 512) 512 (disks.history served.back).now.seen)) e at_origin;
        };
        reads = served.goes.right.reads tells (seen-is bay.reads line.origin line.length contents (disks.history lent).now has (opened.taken.content tells) (rw (← origin.sectors) (served.was_whole tells)));
      }

  -- its report
  pub served-reports : (contents : List ℕ) → IsOpened line disks (first_part bay between) geometry lent → KeepsSizes between.sizes bay.sizes
      → HasServed geometry contents disks (last_part bay between) streams bay.loans lent result
      → ReportsSession line contents disks bay streams result
  served-reports contents opened keeps served =
      let origin = opened.taken.origin in
      record {
        report = Serves served.goes.session;
        ended = served.goes.ended;
        right = record {
          geometry = geometry;
          asked = opened.asked;
          lent = lent;
          back = served.back;
          origin = record { have = origin.have; size = keeps line.origin origin.have origin.size; enough = origin.enough; place = origin.place; sectors = origin.sectors };
          loans = served.loans;
          right = served.goes.right;
          cause = served.goes.cause;
          content = ends_as_journal contents opened served;
          others = λ other sector outside. others-but line.origin (disks.sectors lent) line.length (disks.place lent) origin.place origin.sectors served.others other sector outside
              ∙ opened.taken.reads other sector;
          faults = served.faults ∙ opened.taken.faults;
        };
        printed = served.goes.printed;
      }

  -- the counts that rose
  rise-for : (contents : List ℕ) → (status : Status) → (served : HasServed geometry contents disks (last_part bay between) streams bay.loans lent result) → result ≡ status
      → HasRiseFor status streams.source_faults streams.source_faults' streams.sink_faults streams.sink_faults' (disks.faults lent) (disks.faults served.back)
  rise-for contents status served is =
      subst (λ (ended : Status). HasRiseFor ended streams.source_faults streams.source_faults' streams.sink_faults streams.sink_faults' (disks.faults lent) (disks.faults served.back)) is served.rose

  -- a fault is one of the disk that was lent
  pub served-fault : (contents : List ℕ) → HasServed geometry contents disks (last_part bay between) streams bay.loans lent result → result ≡ Fault → SomeCountRose disks bay
  served-fault contents served is = one-rose D disks bay lent served.back served.loans (rise-for contents Fault served is)

  -- the source failed
  pub served-source : (contents : List ℕ) → HasServed geometry contents disks (last_part bay between) streams bay.loans lent result → result ≡ Source
      → Rose streams.source_faults streams.source_faults'
  served-source contents served is = rise-for contents Source served is

  -- the one disk that was lent was put back
  pub served-returned : (contents : List ℕ) → HasServed geometry contents disks (last_part bay between) streams bay.loans lent result → AllReturned bay
  served-returned contents served = one-returned D bay lent served.back served.loans
