use Rattle.std.proofs.Common.{arith}
use Rattle.era_slots.proofs.Reading.{stands-blank, size-whole, active-first, active-second, pages-read}
use Rattle.era_slots.proofs.slots.Slots.open.Goals as goal

-- slot 0 is the active one
pub whole-requires-clause-read : goal.whole-requires-clause-read
whole-requires-clause-read g c = λ told.
    let read = c.in_default.ensures.read told in
    let pages = pages-read c.read_slots.new.first c.read_slots.new.second (g.D.Disk.history c.read_slots.new.disk).now
    c.read_slots.auto.first c.read_slots.auto.second read in
    let found = c.in-Active.ensures.found (g.D.Disk.history c.read_slots.new.disk).now.seen pages.0 pages.1 in
    record {
      clean = read.clean;
      stands = active-first c.in-Active.active _ c.if-active-eq0.true found.1;
      own_page = pages.0;
      other_page = pages.1;
    }

-- slot 1 is the active one
pub whole-requires-else-active-eq0-clause-read : goal.whole-requires-else-active-eq0-clause-read
whole-requires-else-active-eq0-clause-read g c = λ told.
    let read = c.in_default.ensures.read told in
    let pages = pages-read c.read_slots.new.first c.read_slots.new.second (g.D.Disk.history c.read_slots.new.disk).now
    c.read_slots.auto.first c.read_slots.auto.second read in
    let found = c.in-Active.ensures.found (g.D.Disk.history c.read_slots.new.disk).now.seen pages.0 pages.1 in
    record {
      clean = read.clean;
      stands = active-second c.in-Active.active _ c.if-active-eq0.false found.0 found.1;
      own_page = pages.1;
      other_page = pages.0;
    }

-- a number that no commit has
pub returns-in-BadSequence-clause-told : goal.returns-in-BadSequence-clause-told
returns-in-BadSequence-clause-told g c = λ told.
    let read = c.in_default.ensures.read told in
    let pages = pages-read c.read_slots.new.first c.read_slots.new.second (g.D.Disk.history c.read_slots.new.disk).now
    c.read_slots.auto.first c.read_slots.auto.second read in
    (read.clean, c.in-BadSequence.ensures.found (g.D.Disk.history c.read_slots.new.disk).now.seen pages.0 pages.1)

-- two open slots of one number
pub returns-in-Tied-clause-told : goal.returns-in-Tied-clause-told
returns-in-Tied-clause-told g c = λ told.
    let read = c.in_default.ensures.read told in
    let pages = pages-read c.read_slots.new.first c.read_slots.new.second (g.D.Disk.history c.read_slots.new.disk).now
    c.read_slots.auto.first c.read_slots.auto.second read in
    (read.clean, c.in-Tied.ensures.found (g.D.Disk.history c.read_slots.new.disk).now.seen pages.0 pages.1)

-- no gate is open
pub returns-in-NoneOpen-clause-told : goal.returns-in-NoneOpen-clause-told
returns-in-NoneOpen-clause-told g c = λ told.
    let read = c.in_default.ensures.read told in
    let pages = pages-read c.read_slots.new.first c.read_slots.new.second (g.D.Disk.history c.read_slots.new.disk).now
    c.read_slots.auto.first c.read_slots.auto.second read in
    (read.clean, c.in-NoneOpen.ensures.found (g.D.Disk.history c.read_slots.new.disk).now.seen pages.0 pages.1)

pub returns-in-NoneOpen-clause-stands : goal.returns-in-NoneOpen-clause-stands
returns-in-NoneOpen-clause-stands g c = λ told.
    let read = c.in_default.ensures.read told in
    let pages = pages-read c.read_slots.new.first c.read_slots.new.second (g.D.Disk.history c.read_slots.new.disk).now
    c.read_slots.auto.first c.read_slots.auto.second read in
    stands-blank (g.D.Disk.history c.read_slots.new.disk).now
    (size-whole _ (g.D.Disk.history c.read_slots.new.disk).now (omega (arith, c.requires, c.in_default.ensures.disk.size)) (g.met.D.Disk.whole c.read_slots.new.disk told))
    read.clean
    (c.in-NoneOpen.ensures.found (g.D.Disk.history c.read_slots.new.disk).now.seen pages.0 pages.1)
