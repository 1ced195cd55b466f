-- What a crash leaves of rows is an image of their state.
use Rattle.std.proofs.Common.{◌≡◌, ℕ, suc, ◌-◌, ◌/◌, ◌<◌, ◌≤◌, Bool, true, false, List, [], ◌∷◌, ◌++◌, length, replicate, slice_index_or, arith, refl, sym, ◌∙◌, ap, subst, inl, inr, length-append}
use Rattle.std.specs.Prelude.{Option, slice_index}
use Rattle.std.proofs.lemmas.Bool.{cases_lt}
use Rattle.std.proofs.lemmas.List.{get_or_append_left, get_or-append_right, get_or-replicate, length-replicate}
use Rattle.era_base.specs.CrashModel.{IsCrashImage}
use Rattle.era_disks.specs.Rows.{sector_bytes, bytes_of, length-sector_bytes, length-bytes_of, sector_bytes-full}
use Rattle.era_disks.specs.Tears.{synced_row, synced_rows, torn_row, torn_rows, KeepsClean, IsFilled}
use Rattle.era_disks.specs.declared.tear.Tear.{Tear}
use Rattle.era_disks.specs.declared.tear.Tear.TheVariants.{Keep, Old, Fill}

pub keeps_same : (flags : List Bool) (rows : List (List ℕ)) → KeepsClean flags rows rows
keeps_same [] rows = refl
keeps_same (flag ∷ flags) [] = refl
keeps_same (flag ∷ flags) (row ∷ rows) = (λ clean. refl, keeps_same flags rows)

pub keeps-length : (flags : List Bool) (rows after : List (List ℕ)) → KeepsClean flags rows after → length after ≡ length rows
keeps-length [] rows after same = ap length same
keeps-length (flag ∷ flags) [] after same = ap length same
keeps-length (flag ∷ flags) (row ∷ rows) [] same = absurd same
keeps-length (flag ∷ flags) (row ∷ rows) (now ∷ after) same = ap suc (keeps-length flags rows after same.1)

-- rows in two parts
pub torn-append : (tear : Tear) (flags flags' : List Bool) (kept kept' : List (Option (List ℕ))) (rows rows' : List (List ℕ))
    → length kept ≡ length flags → length rows ≡ length flags
    → torn_rows tear (flags ++ flags') (kept ++ kept') (rows ++ rows') ≡ torn_rows tear flags kept rows ++ torn_rows tear flags' kept' rows'
torn-append tear [] flags' [] kept' [] rows' k r = refl
torn-append tear [] flags' (old ∷ kept) kept' rows rows' k r = absurd (omega (arith, k))
torn-append tear [] flags' [] kept' (row ∷ rows) rows' k r = absurd (omega (arith, r))
torn-append tear (flag ∷ flags) flags' [] kept' rows rows' k r = absurd (omega (arith, k))
torn-append tear (flag ∷ flags) flags' (old ∷ kept) kept' [] rows' k r = absurd (omega (arith, r))
torn-append tear (flag ∷ flags) flags' (old ∷ kept) kept' (row ∷ rows) rows' k r =
    ap (λ rest. torn_row tear flag old row ∷ rest) (torn-append tear flags flags' kept kept' rows rows' (omega (arith, k)) (omega (arith, r)))

pub keeps-append : (flags flags' : List Bool) (rows rows' after after' : List (List ℕ)) → length rows ≡ length flags
    → KeepsClean flags rows after → KeepsClean flags' rows' after' → KeepsClean (flags ++ flags') (rows ++ rows') (after ++ after')
keeps-append [] flags' [] rows' after after' r one two = rw one two
keeps-append [] flags' (row ∷ rows) rows' after after' r one two = absurd (omega (arith, r))
keeps-append (flag ∷ flags) flags' [] rows' after after' r one two = absurd (omega (arith, r))
keeps-append (flag ∷ flags) flags' (row ∷ rows) rows' [] after' r one two = absurd one
keeps-append (flag ∷ flags) flags' (row ∷ rows) rows' (now ∷ after) after' r one two =
    (one.0, keeps-append flags flags' rows rows' after after' (omega (arith, r)) one.1 two)

pub torn-halves : (tear : Tear) (flags front back : List Bool) (kept old later : List (Option (List ℕ))) (rows first second first' second' : List (List ℕ))
    → flags ≡ front ++ back → kept ≡ old ++ later → rows ≡ first ++ second → length old ≡ length front → length first ≡ length front
    → first' ≡ torn_rows tear front old first → second' ≡ torn_rows tear back later second
    → first' ++ second' ≡ torn_rows tear flags kept rows
torn-halves tear flags front back kept old later rows first second first' second' f k r ko ro one two =
    ap (λ xs. xs ++ second') one ∙ ap (λ xs. torn_rows tear front old first ++ xs) two
    ∙ sym (torn-append tear front back old later first second ko ro)
    ∙ sym (ap (λ xs. torn_rows tear xs kept rows) f ∙ ap (λ xs. torn_rows tear (front ++ back) xs rows) k
    ∙ ap (torn_rows tear (front ++ back) (old ++ later)) r)

pub keeps-halves : (flags front back : List Bool) (rows first second first' second' : List (List ℕ))
    → flags ≡ front ++ back → rows ≡ first ++ second → length first ≡ length front
    → KeepsClean front first first' → KeepsClean back second second' → KeepsClean flags rows (first' ++ second')
keeps-halves flags front back rows first second first' second' f r ro one two =
    subst (λ xs. KeepsClean xs rows (first' ++ second')) (sym f)
    (subst (λ xs. KeepsClean (front ++ back) xs (first' ++ second')) (sym r) (keeps-append front back first second first' second' ro one two))

-- a byte of the first sector, and of a later one
first-byte : (row : List ℕ) (rows : List (List ℕ)) (offset : ℕ) → offset < 512
    → slice_index (bytes_of (row ∷ rows)) offset ≡ slice_index (sector_bytes row) offset
first-byte row rows offset below = get_or_append_left (sector_bytes row) (bytes_of rows) 0 offset (omega (arith, length-sector_bytes row))

later-byte : (row : List ℕ) (rows : List (List ℕ)) (offset : ℕ) → 512 ≤ offset
    → slice_index (bytes_of (row ∷ rows)) offset ≡ slice_index (bytes_of rows) (offset - 512)
later-byte row rows offset above = get_or-append_right (sector_bytes row) (bytes_of rows) 512 offset 0 (length-sector_bytes row) above

later-flag : (flag : Bool) (flags : List Bool) (offset : ℕ) → 512 ≤ offset
    → slice_index_or (flag ∷ flags) (offset / 512) true ≡ slice_index_or flags ((offset - 512) / 512) true
later-flag flag flags offset above =
    let is : offset / 512 ≡ suc ((offset - 512) / 512) = omega arith in
    ap (λ sector. slice_index_or (flag ∷ flags) sector true) is

first-flag : (flag : Bool) (flags : List Bool) (offset : ℕ) → offset < 512 → slice_index_or (flag ∷ flags) (offset / 512) true ≡ flag
first-flag flag flags offset below =
    let is : offset / 512 ≡ 0 = omega arith in
    ap (λ sector. slice_index_or (flag ∷ flags) sector true) is

kept-bytes : (flags : List Bool) (rows after : List (List ℕ)) → KeepsClean flags rows after → (offset : ℕ)
    → slice_index_or flags (offset / 512) true ≡ false → slice_index (bytes_of after) offset ≡ slice_index (bytes_of rows) offset
kept-bytes [] rows after same offset clean = ap (λ xs. slice_index (bytes_of xs) offset) same
kept-bytes (flag ∷ flags) [] after same offset clean = ap (λ xs. slice_index (bytes_of xs) offset) same
kept-bytes (flag ∷ flags) (row ∷ rows) [] same offset clean = absurd same
kept-bytes (flag ∷ flags) (row ∷ rows) (now ∷ after) same offset clean = elim (cases_lt offset 512) [
  | inl below ↦
      first-byte now after offset below
      ∙ ap (λ xs. slice_index (sector_bytes xs) offset) (same.0 (sym (first-flag flag flags offset below) ∙ clean))
      ∙ sym (first-byte row rows offset below)
  | inr above ↦
      later-byte now after offset above
      ∙ kept-bytes flags rows after same.1 (offset - 512) (sym (later-flag flag flags offset above) ∙ clean)
      ∙ sym (later-byte row rows offset above)
]

pub torn-image : (flags : List Bool) (rows after : List (List ℕ)) → KeepsClean flags rows after
    → IsCrashImage (record { seen = bytes_of rows; pending = flags }) (bytes_of after)
torn-image flags rows after same = record {
  size = omega (arith, length-bytes_of after, length-bytes_of rows, keeps-length flags rows after same);
  kept = λ offset clean. kept-bytes flags rows after same offset clean;
}

-- each tear's image
pub torn-keep : (flags : List Bool) (kept : List (Option (List ℕ))) (rows : List (List ℕ))
    → length kept ≡ length flags → length rows ≡ length flags → torn_rows Keep flags kept rows ≡ rows
torn-keep [] kept [] k r = refl
torn-keep [] kept (row ∷ rows) k r = absurd (omega (arith, r))
torn-keep (flag ∷ flags) [] rows k r = absurd (omega (arith, k))
torn-keep (flag ∷ flags) (old ∷ kept) [] k r = absurd (omega (arith, r))
torn-keep (false ∷ flags) (old ∷ kept) (row ∷ rows) k r = ap (λ rest. row ∷ rest) (torn-keep flags kept rows (omega (arith, k)) (omega (arith, r)))
torn-keep (true ∷ flags) (old ∷ kept) (row ∷ rows) k r = ap (λ rest. row ∷ rest) (torn-keep flags kept rows (omega (arith, k)) (omega (arith, r)))

pub torn-old : (flags : List Bool) (kept : List (Option (List ℕ))) (rows : List (List ℕ)) → torn_rows Old flags kept rows ≡ synced_rows flags kept rows
torn-old [] kept rows = refl
torn-old (flag ∷ flags) [] rows = refl
torn-old (flag ∷ flags) (old ∷ kept) [] = refl
torn-old (false ∷ flags) (old ∷ kept) (row ∷ rows) = ap (λ rest. row ∷ rest) (torn-old flags kept rows)
torn-old (true ∷ flags) (old ∷ kept) (row ∷ rows) = ap (λ rest. synced_row true old row ∷ rest) (torn-old flags kept rows)

filled-row : (byte : ℕ) (offset : ℕ) → offset < 512 → slice_index (sector_bytes (replicate 512 byte)) offset ≡ byte
filled-row byte offset below =
    ap (λ xs. slice_index xs offset) (sector_bytes-full (replicate 512 byte) (length-replicate {A = ℕ} 512 byte)) ∙ get_or-replicate 512 offset byte 0 below

pub torn-filled : (byte : ℕ) (flags : List Bool) (kept : List (Option (List ℕ))) (rows : List (List ℕ))
    → length kept ≡ length flags → length rows ≡ length flags
    → IsFilled byte (record { seen = bytes_of rows; pending = flags }) (bytes_of (torn_rows (Fill byte) flags kept rows))
torn-filled byte [] kept [] k r offset below pending = absurd (omega (arith, below))
torn-filled byte [] kept (row ∷ rows) k r offset below pending = absurd (omega (arith, r))
torn-filled byte (flag ∷ flags) [] rows k r offset below pending = absurd (omega (arith, k))
torn-filled byte (flag ∷ flags) (old ∷ kept) [] k r offset below pending = absurd (omega (arith, r))
torn-filled byte (flag ∷ flags) (old ∷ kept) (row ∷ rows) k r offset below pending = elim (cases_lt offset 512) [
  | inl first ↦
      first-byte (torn_row (Fill byte) flag old row) (torn_rows (Fill byte) flags kept rows) offset first
      ∙ ap (λ (set : Bool). slice_index (sector_bytes (torn_row (Fill byte) set old row)) offset) (sym (first-flag flag flags offset first) ∙ pending)
      ∙ filled-row byte offset first
  | inr above ↦
      later-byte (torn_row (Fill byte) flag old row) (torn_rows (Fill byte) flags kept rows) offset above
      ∙ torn-filled byte flags kept rows (omega (arith, k)) (omega (arith, r)) (offset - 512)
      (omega (arith, below, length-append (sector_bytes row) (bytes_of rows), length-sector_bytes row))
      (sym (later-flag flag flags offset above) ∙ pending)
]

-- rows that are clean are what they were at the last sync
pub synced-clean : (kept : List (Option (List ℕ))) (rows : List (List ℕ)) → length kept ≡ length rows
    → synced_rows (replicate (length rows) false) kept rows ≡ rows
synced-clean [] [] k = refl
synced-clean (old ∷ kept) [] k = refl
synced-clean [] (row ∷ rows) k = absurd (omega (arith, k))
synced-clean (old ∷ kept) (row ∷ rows) k = ap (λ rest. row ∷ rest) (synced-clean kept rows (omega (arith, k)))

-- the same of lists that are equal
pub torn-left : (ps pd : List Bool) (rs rd after now : List (List ℕ)) → pd ≡ ps → rd ≡ rs → now ≡ after → KeepsClean pd rd after
    → IsCrashImage (record { seen = bytes_of rs; pending = ps }) (bytes_of now)
torn-left ps pd rs rd after now p r n same =
    torn-image ps rs now
    (subst (λ xs. KeepsClean ps rs xs) (sym n) (subst (λ xs. KeepsClean ps xs after) r (subst (λ flags. KeepsClean flags rd after) p same)))

pub torn-is : (tear : Tear) (ps pd : List Bool) (ks kd : List (Option (List ℕ))) (rs rd after now : List (List ℕ))
    → pd ≡ ps → kd ≡ ks → rd ≡ rs → now ≡ after → after ≡ torn_rows tear pd kd rd → now ≡ torn_rows tear ps ks rs
torn-is tear ps pd ks kd rs rd after now p k r n is =
    n ∙ is ∙ ap (λ xs. torn_rows tear xs kd rd) p ∙ ap (λ xs. torn_rows tear ps xs rd) k ∙ ap (torn_rows tear ps ks) r
