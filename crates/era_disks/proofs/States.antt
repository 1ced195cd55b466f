-- The states of a disk in memory after rows were written, marked or synced.
use Rattle.std.proofs.Common.{◌≡◌, ℕ, ◌+◌, ◌-◌, ◌*◌, ◌/◌, ◌<◌, ◌≤◌, Bool, true, false, List, length, replicate, slice_index_or, arith, refl, ◌∙◌, ap}
use borrow.Rule.Slice.PartMut.{put_mid}
use Rattle.std.specs.Prelude.{Result, Ok, Err, OnOk, OnErr}
use Rattle.era_base.specs.Bytes.{splice}
use Rattle.era_base.specs.CrashModel.{State, SameBut, IsClean}
use Rattle.era_disks.specs.Rows.{bytes_of, length-bytes_of}
use Rattle.era_disks.proofs.RowParts.{bytes_of-mid, mid-spliced, mid-outside, mid-inside, length-mid}
use Rattle.std.proofs.lemmas.List.{get_or-replicate, length-replicate}

-- some sectors were marked
pub marked-same : (seen : List ℕ) (pending ys : List Bool) (first count : ℕ) → first + count ≤ length pending → length ys ≡ count
    → SameBut (first * 512) (first * 512 + count * 512) (record { seen = seen; pending = pending }) (record { seen = seen; pending = put_mid first count pending ys })
marked-same seen pending ys first count fits size = record {
  bytes = refl;
  flags = length-mid first count pending ys fits size;
  seen = λ offset outside. refl;
  clean = λ offset outside was. mid-outside first count pending ys (offset / 512) true fits size (λ above. omega arith) ∙ was;
}

pub marked-inside : (pending : List Bool) (first count offset : ℕ) → first + count ≤ length pending
    → first * 512 ≤ offset → offset < first * 512 + count * 512
    → slice_index_or (put_mid first count pending (replicate count true)) (offset / 512) true ≡ true
marked-inside pending first count offset fits above below =
    mid-inside first count pending (replicate count true) (offset / 512) true fits (length-replicate count true) (omega arith) (omega arith)
    ∙ get_or-replicate count (offset / 512 - first) true true (omega arith)

-- some rows were written
pub written-bytes : (rows after ys : List (List ℕ)) (first count : ℕ) → after ≡ put_mid first count rows ys
    → bytes_of after ≡ put_mid (first * 512) (count * 512) (bytes_of rows) (bytes_of ys)
written-bytes rows after ys first count e = ap bytes_of e ∙ bytes_of-mid first count rows ys

pub written-same : (rows after ys : List (List ℕ)) (pending : List Bool) (first count bytes : ℕ)
    → after ≡ put_mid first count rows ys → first + count ≤ length rows → length ys ≡ count → bytes ≡ count * 512
    → SameBut (first * 512) (first * 512 + bytes)
    (record { seen = bytes_of rows; pending = pending }) (record { seen = bytes_of after; pending = pending })
written-same rows after ys pending first count bytes e fits size whole =
    let is = written-bytes rows after ys first count e in
    let sized : length (bytes_of ys) ≡ count * 512 = omega (arith, length-bytes_of ys) in
    let inside : first * 512 + count * 512 ≤ length (bytes_of rows) = omega (arith, length-bytes_of rows) in
    record {
      bytes = ap length is ∙ length-mid (first * 512) (count * 512) (bytes_of rows) (bytes_of ys) inside sized;
      flags = refl;
      seen = λ offset outside. ap (λ xs. slice_index_or xs offset 0) is
          ∙ mid-outside (first * 512) (count * 512) (bytes_of rows) (bytes_of ys) offset 0 inside sized (λ above. omega (arith, outside above));
      clean = λ offset outside was. was;
    }

pub written-seen : (rows after ys : List (List ℕ)) (bytes : List ℕ) (first count : ℕ)
    → after ≡ put_mid first count rows ys → length ys ≡ count → bytes_of ys ≡ bytes
    → bytes_of after ≡ splice (bytes_of rows) (first * 512) bytes
written-seen rows after ys bytes first count e size is =
    written-bytes rows after ys first count e
    ∙ mid-spliced (first * 512) (count * 512) (bytes_of rows) (bytes_of ys) (omega (arith, length-bytes_of ys))
    ∙ ap (splice (bytes_of rows) (first * 512)) is

pub on_ok_then : {T E : Type 0} (r : Result T E) {P Q : Type 0} → OnOk r P → (P → Q) → OnOk r Q
on_ok_then (Ok x) p f = f p
on_ok_then (Err e) p f = p

pub on_err_then : {T E : Type 0} (r : Result T E) {P Q : Type 0} → OnErr r P → (P → Q) → OnErr r Q
on_err_then (Ok x) p f = p
on_err_then (Err e) p f = f p

pub state-same : (seen seen' : List ℕ) (pending pending' : List Bool) → seen ≡ seen' → pending ≡ pending'
    → ◌≡◌ {A = State} (record { seen = seen; pending = pending }) (record { seen = seen'; pending = pending' })
state-same seen seen' pending pending' s p =
    let one : List ℕ → List Bool → State = λ xs ys. record { seen = xs; pending = ys } in
    ap (λ xs. one xs pending) s ∙ ap (one seen') p

pub cleaned : (seen : List ℕ) (sectors : ℕ) → length seen ≡ sectors * 512
    → IsClean (record { seen = seen; pending = replicate sectors false })
cleaned seen sectors size offset below = get_or-replicate sectors (offset / 512) false true (omega arith)
