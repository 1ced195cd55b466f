-- How many moments a reading and a wiping of the slots take, and where a fault ends them.
use Rattle.std.specs.Prelude.{eqb}
use Rattle.std.proofs.Common.{◌≡◌, ◌+◌, ◌*◌, ◌<◌, ◌≤◌, ◌↔◌, ℕ, Bool, true, false, List, [], ◌∷◌, get_or, arith, refl, sym, ap, length, ◌∙◌, subst}
use Rattle.std.proofs.lemmas.Bool.{eq-eqb, eqb-true, false≢true}
use Rattle.std.proofs.lemmas.List.{length-append}
use Rattle.era_base.specs.CrashModel.{History, Stepped, SameBut, Went, IsClean, clock}
use Rattle.era_base.specs.declared.disk.Disk.{Ghosts}
use Rattle.era_base.specs.Faults.{Rose}
use Rattle.era_slots.specs.Calls.{FailedCall, FailedReading}
use Rattle.era_slots.specs.Slot.{SlotIsOpen}
use Rattle.era_slots.specs.Wiping.{flag_count, open_gates}
use Rattle.era_base.proofs.Moments.{went-now}

-- two flags of one fact
flags-same : (flag flag' : Bool) → (flag ≡ true → flag' ≡ true) → (flag' ≡ true → flag ≡ true) → flag_count flag ≡ flag_count flag'
flags-same true true there back = refl
flags-same false false there back = refl
flags-same true false there back = absurd (false≢true (there refl))
flags-same false true there back = absurd (false≢true (back refl))

-- the flag of a gate that was read after the sync
gate-flag : (at : ℕ) (seen seen' : List ℕ) (flag : Bool) → get_or seen' at 0 ≡ get_or seen at 0 → (flag ≡ true) ↔ (get_or seen' at 0 ≡ 1)
    → flag_count flag ≡ flag_count (eqb (get_or seen at 0) 1)
gate-flag at seen seen' flag same gate =
    flags-same flag (eqb (get_or seen at 0) 1) (λ opened. eq-eqb (get_or seen at 0) 1 (sym same ∙ gate.0 opened))
    (λ opened. gate.1 (same ∙ eqb-true (get_or seen at 0) 1 opened))

-- the gates that were read behind the sync, and those before it
gates-read : (flag flag' : Bool) (count : ℕ) (old mid : History) → Went (SameBut 0 0) old mid
    → (flag ≡ true) ↔ SlotIsOpen 0 mid.now.seen → (flag' ≡ true) ↔ SlotIsOpen 1 mid.now.seen
    → count ≡ flag_count flag + flag_count flag' → count ≡ open_gates old.now.seen
gates-read flag flag' count old mid went gate gate' total =
    let s = went-now (SameBut 0 0) old mid went in
    let one : flag_count flag ≡ flag_count (eqb (get_or old.now.seen 0 0) 1)
    = gate-flag 0 old.now.seen mid.now.seen flag (s.seen 0 (λ lo. omega arith)) gate in
    let two : flag_count flag' ≡ flag_count (eqb (get_or old.now.seen 4096 0) 1)
    = gate-flag 4096 old.now.seen mid.now.seen flag' (s.seen 4096 (λ lo. omega arith)) gate' in
    omega (arith, total, one, two)

-- the calls of a wiping: three, and two for each gate that was open
pub wiped-calls : (flag flag' : Bool) (count : ℕ) (old mid new : History) → Went (SameBut 0 0) old mid
    → clock mid ≡ clock old + 3 → (flag ≡ true) ↔ SlotIsOpen 0 mid.now.seen → (flag' ≡ true) ↔ SlotIsOpen 1 mid.now.seen
    → count ≡ flag_count flag + flag_count flag' → clock new ≡ clock mid + 2 * count
    → clock new ≡ clock old + (3 + 2 * open_gates old.now.seen)
wiped-calls flag flag' count old mid new went looked gate gate' total calls =
    omega (arith, looked, calls, gates-read flag flag' count old mid went gate gate' total)

ticks : (old new : History) → Stepped old new → clock new ≡ clock old + 1
ticks old new step = ap length step.past ∙ length-append old.past (old.now ∷ [])

-- a call failed behind others that answered Ok
abbrev failed-at : {D : Type 0} (disk : Ghosts D) (greatest calls : ℕ) (old last new : D) → calls < greatest → clock (disk.history last) ≡ clock (disk.history old) + calls
    → Stepped (disk.history last) (disk.history new) → disk.faults last ≡ disk.faults old → Rose (disk.faults last) (disk.faults new) → FailedCall disk greatest old new
failed-at disk greatest calls old last new below time step quiet rose = record {
  calls = calls + 1;
  some = omega arith;
  most = omega (arith, below);
  time = omega (arith, time, ticks (disk.history last) (disk.history new) step);
  last = last;
  failed = step;
  quiet = quiet;
  rose = rose;
}

-- the sync failed
pub sync-failed : {D : Type 0} (disk : Ghosts D) (old new : D) → Stepped (disk.history old) (disk.history new)
    → Rose (disk.faults old) (disk.faults new) → FailedReading disk old new
sync-failed disk old new step rose = record {
  place = failed-at disk 3 0 old old new (omega arith) (omega arith) step refl rose;
  synced = λ more. absurd (omega (arith, more));
}

-- the first read failed
pub first-failed : {D : Type 0} (disk : Ghosts D) (old mid new : D) → Stepped (disk.history old) (disk.history mid) → disk.faults mid ≡ disk.faults old
    → IsClean (disk.history mid).now → Stepped (disk.history mid) (disk.history new) → (disk.history new).now ≡ (disk.history mid).now
    → Rose (disk.faults mid) (disk.faults new) → FailedReading disk old new
first-failed disk old mid new one quiet clean two same rose = record {
  place = failed-at disk 3 1 old mid new (omega arith) (ticks (disk.history old) (disk.history mid) one) two quiet rose;
  synced = λ more. subst IsClean (sym same) clean;
}

-- the second read failed
pub second-failed : {D : Type 0} (disk : Ghosts D) (old mid last new : D) → Stepped (disk.history old) (disk.history mid) → disk.faults mid ≡ disk.faults old
    → IsClean (disk.history mid).now → Stepped (disk.history mid) (disk.history last) → (disk.history last).now ≡ (disk.history mid).now → disk.faults last ≡ disk.faults mid
    → Stepped (disk.history last) (disk.history new) → (disk.history new).now ≡ (disk.history last).now → Rose (disk.faults last) (disk.faults new) → FailedReading disk old new
second-failed disk old mid last new one quiet clean two same calm three again rose = record {
  place = failed-at disk 3 2 old last new (omega arith) (omega (arith, ticks (disk.history old) (disk.history mid) one, ticks (disk.history mid) (disk.history last) two)) three
      (calm ∙ quiet) rose;
  synced = λ more. subst IsClean (sym (again ∙ same)) clean;
}

-- a wiping that failed behind the reads of both gates
pub wiped-some : (flag flag' : Bool) (count : ℕ) (old mid new : History) → Went (SameBut 0 0) old mid
    → clock mid ≡ clock old + 3 → (flag ≡ true) ↔ SlotIsOpen 0 mid.now.seen → (flag' ≡ true) ↔ SlotIsOpen 1 mid.now.seen
    → count ≡ flag_count flag + flag_count flag' → (clock mid < clock new) × (clock new ≤ clock mid + 2 * count)
    → (clock old < clock new) × (clock new ≤ clock old + (3 + 2 * open_gates old.now.seen))
wiped-some flag flag' count old mid new went looked gate gate' total some =
    (omega (arith, looked, some.0), omega (arith, looked, some.1, gates-read flag flag' count old mid went gate gate' total))

-- a wiping that failed before it knew the gates
pub wiped-early : {D : Type 0} (disk : Ghosts D) (old new : D) → FailedReading disk old new
    → (clock (disk.history old) < clock (disk.history new)) × (clock (disk.history new) ≤ clock (disk.history old) + (3 + 2 * open_gates (disk.history old).now.seen))
wiped-early disk old new failed = (omega (arith, failed.place.time, failed.place.some), omega (arith, failed.place.time, failed.place.most))
