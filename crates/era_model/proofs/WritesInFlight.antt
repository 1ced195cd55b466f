-- Writes that are cut one after another.
use Rattle.std.proofs.Common.{◌≡◌, ℕ, zero, suc, ◌+◌, ◌<◌, true, List, [], ◌∷◌, ◌++◌, length, take, drop, get_or, set, if◌then◌else◌, refl, ap, add-one, arith}
use Rattle.era_base.specs.declared.ids.CmdId.{CmdId}
use Rattle.era_model.specs.declared.flight.FlightWrite.{FlightWrite}
use Rattle.era_model.specs.Events.{same_id}
use Rattle.era_model.specs.Writes.{with_cut}

-- the write, cut if it is the command's
abbrev pub cut_if_of : CmdId → FlightWrite → FlightWrite
cut_if_of id write = if same_id write.id id then record write { cut = true } else write

-- with one more write cut, one more stands before the others
pub cut_at : (writes : List FlightWrite) (i : ℕ) (id : CmdId) (d : FlightWrite) → i < length writes
    → set (with_cut (take i writes) id ++ drop i writes) i (cut_if_of id (get_or (with_cut (take i writes) id ++ drop i writes) i d)) ≡ with_cut (take (suc i) writes) id ++ drop (suc i) writes
cut_at [] i id d lt = absurd (omega arith)
cut_at (write ∷ writes) zero id d lt = refl
cut_at (write ∷ writes) (suc i) id d lt = ap (λ l. cut_if_of id write ∷ l) (cut_at writes i id d (omega arith))

-- the same for a list that is known to be such
pub cut_next : (writes items : List FlightWrite) (i : ℕ) (id : CmdId) (d now : FlightWrite) → i < length items → length items ≡ length writes
    → items ≡ with_cut (take i writes) id ++ drop i writes → now ≡ cut_if_of id (get_or items i d)
    → set items i now ≡ with_cut (take (i + 1) writes) id ++ drop (i + 1) writes
cut_next writes items i id d now lt size is new =
    let within : i < length writes = omega arith in
    rw (add-one, new, is) (cut_at writes i id d within)
