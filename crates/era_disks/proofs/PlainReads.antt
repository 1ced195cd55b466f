-- What sectors of a plain device read as, when a part of it is copied and when a part is written over.
use Rattle.std.proofs.Common.{◌≡◌, ℕ, ◌+◌, ◌-◌, ◌*◌, ◌<◌, ◌≤◌, Bool, nat_lt, inl, inr, List, ◌++◌, length, take, drop, Some, None, arith, refl, sym, ◌∙◌, ap, if◌then◌else◌}
use Rattle.std.proofs.lemmas.List.{take_at, take-take, drop-take, drop-drop, length-take-le, length-append}
use Rattle.std.proofs.lemmas.Bool.{lt-ltb, cases_lt}
use Rattle.std.proofs.lemmas.Option.{same_Some}
use Rattle.era_base.specs.Bytes.{part, splice}
use Rattle.era_disks.specs.PlainDisk.{plain_sectors, plain_history}
use Rattle.era_disks.specs.PlainDevices.{plain_sector}
use Rattle.era_disks.specs.declared.plain_disk.PlainDisk.{PlainDisk}
use Rattle.era_disks.proofs.RowParts.{drop_past}

-- a part of a front
part-front : (at count size : ℕ) (bytes : List ℕ) → at + count ≤ size → part at count (take size bytes) ≡ part at count bytes
part-front at count size bytes within =
    ap (λ n. part at count (take n bytes)) (let is : size ≡ at + (size - at) = omega arith in is)
    ∙ ap (take count) (drop-take at (size - at) bytes)
    ∙ take-take count (size - at) (drop at bytes) (omega arith)

-- a part of the first one of two lists
part-first : (at count : ℕ) (one two : List ℕ) → at + count ≤ length one → part at count (one ++ two) ≡ part at count one
part-first at count one two within =
    sym (part-front at count (length one) (one ++ two) within) ∙ ap (part at count) (take_at one two (length one) refl)

-- a part of a part
pub part-inner : (first size at count : ℕ) (bytes : List ℕ) → at + count ≤ size → part at count (part first size bytes) ≡ part (first + at) count bytes
part-inner first size at count bytes within =
    part-front at count size (drop first bytes) within ∙ ap (take count) (drop-drop at first bytes)

-- a part of what was written over others
pub part-written : (old new : List ℕ) (first at count : ℕ) → first ≤ length old → at + count ≤ length new
    → part (first + at) count (splice old first new) ≡ part at count new
part-written old new first at count fits within =
    let front = length-take-le first old fits in
    part-first (first + at) count (take first old ++ new) (drop (first + length new) old)
    (omega (arith, length-append (take first old) new, front))
    ∙ ap (take count) (drop_past (take first old) new first at front)

-- and a part before it, or behind it
pub part-kept : (old new : List ℕ) (first at count : ℕ) → first ≤ length old → at + count ≤ first
    → part at count (splice old first new) ≡ part at count old
part-kept old new first at count fits before =
    let front = length-take-le first old fits in
    part-first at count (take first old ++ new) (drop (first + length new) old) (omega (arith, length-append (take first old) new, front))
    ∙ part-first at count (take first old) new (omega (arith, front))
    ∙ part-front at count first old before

pub part-behind : (old new : List ℕ) (first at count : ℕ) → first ≤ length old → first + length new ≤ at
    → part at count (splice old first new) ≡ part at count old
part-behind old new first at count fits behind =
    let far = first + length new in
    let is : at ≡ far + (at - far) = omega arith in
    ap (λ k. part k count (splice old first new)) is
    ∙ ap (take count) (drop_past (take first old ++ new) (drop far old) far (at - far)
    (length-append (take first old) new ∙ ap (λ n. n + length new) (length-take-le first old fits)))
    ∙ ap (take count) (drop-drop (at - far) far old)
    ∙ ap (λ k. part k count old) (sym is)

-- a sector of a device is told
pub sector-told : (device : PlainDisk) (sector : ℕ) → sector < plain_sectors device
    → plain_sector (Some device) sector ≡ Some (part (sector * 512) 512 (plain_history device).now.seen)
sector-told device sector below =
    ap (λ (b : Bool). if b then Some (part (sector * 512) 512 (plain_history device).now.seen) else None)
    (lt-ltb sector (plain_sectors device) below)

-- a copy of a part reads as the device did there
pub copy-told : (device : PlainDisk) (first count sector : ℕ) (bytes : List ℕ) → first + count ≤ plain_sectors device → sector < count
    → plain_sector (Some device) (first + sector) ≡ Some bytes
    → part (sector * 512) 512 (part (first * 512) (count * 512) (plain_history device).now.seen) ≡ bytes
copy-told device first count sector bytes fits below told =
    part-inner (first * 512) (count * 512) (sector * 512) 512 (plain_history device).now.seen (omega arith)
    ∙ ap (λ k. part k 512 (plain_history device).now.seen) (let e : first * 512 + sector * 512 ≡ (first + sector) * 512 = omega arith in e)
    ∙ same_Some _ bytes (sym (sector-told device (first + sector) (omega arith)) ∙ told)

-- a part that was written over reads as what was written
pub written-told : (was now : PlainDisk) (first count sector : ℕ) (new : List ℕ) → length (plain_history was).now.seen ≡ plain_sectors was * 512
    → plain_sectors now ≡ plain_sectors was → (plain_history now).now.seen ≡ splice (plain_history was).now.seen (first * 512) new
    → length new ≡ count * 512 → first + count ≤ plain_sectors was → sector < count
    → plain_sector (Some now) (first + sector) ≡ Some (part (sector * 512) 512 new)
written-told was now first count sector new whole size written len fits below =
    sector-told now (first + sector) (omega (arith, size))
    ∙ ap (λ (bytes : List ℕ). Some (part ((first + sector) * 512) 512 bytes)) written
    ∙ ap (λ k. Some (part k 512 (splice (plain_history was).now.seen (first * 512) new)))
    (let e : (first + sector) * 512 ≡ first * 512 + sector * 512 = omega arith in e)
    ∙ ap (λ (bytes : List ℕ). Some bytes) (part-written (plain_history was).now.seen new (first * 512) (sector * 512) 512 (omega (arith, whole)) (omega (arith, len)))

-- and the other sectors read as before
pub others-told : (was now : PlainDisk) (first count sector : ℕ) (new : List ℕ) → length (plain_history was).now.seen ≡ plain_sectors was * 512
    → plain_sectors now ≡ plain_sectors was → (plain_history now).now.seen ≡ splice (plain_history was).now.seen (first * 512) new
    → length new ≡ count * 512 → first + count ≤ plain_sectors was → (first ≤ sector → first + count ≤ sector)
    → plain_sector (Some now) sector ≡ plain_sector (Some was) sector
others-told was now first count sector new whole size written len fits outside =
    let old = (plain_history was).now.seen in
    ap (λ (n : ℕ). if nat_lt sector n then Some (part (sector * 512) 512 (plain_history now).now.seen) else None) size
    ∙ ap (λ (bytes : List ℕ). if nat_lt sector (plain_sectors was) then Some bytes else None)
    (ap (part (sector * 512) 512) written
    ∙ elim (cases_lt sector first) [
      | inl before ↦ part-kept old new (first * 512) (sector * 512) 512 (omega (arith, whole)) (omega arith)
      | inr behind ↦ part-behind old new (first * 512) (sector * 512) 512 (omega (arith, whole)) (omega (arith, outside behind, len))
    ])
