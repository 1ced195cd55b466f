-- What the sectors of a device read as, when a part of it is lent and when it is put back.
use Rattle.std.proofs.Common.{◌≡◌, ℕ, ◌+◌, ◌-◌, ◌*◌, ◌<◌, ◌≤◌, List, [], length, take, drop, slice_get, slice_set, slice_index_or, Option, Some, inl, inr, arith, refl, sym, ◌∙◌, ap}
use Rattle.std.specs.Option.{option_map}
use Rattle.std.proofs.lemmas.Option.{slice_get-get_or, same_Some, slice_get_past}
use Rattle.std.proofs.lemmas.List.{get_or-take, get_or-drop}
use Rattle.std.proofs.lemmas.Bool.{cases_lt}
use borrow.Rule.Slice.PartMut.{put_mid}
use Rattle.era_base.specs.Bytes.{part}
use Rattle.era_base.specs.Bay.{HasContent}
use Rattle.era_disks.specs.Devices.{IsFoundAt, device_of, device_reads}
use Rattle.era_disks.specs.declared.device.Device.{Device}
use Rattle.era_disks.proofs.FirstDevice.{set-named, same-told}
use Rattle.era_disks.specs.Rows.{sector_bytes, bytes_of, length-bytes_of}
use Rattle.era_disks.proofs.RowParts.{part-row, mid-inside, mid-outside, length-mid, length-part}

-- a sector of rows, as the bytes that they read as
pub row-told : (rows : List (List ℕ)) (k : ℕ) → k < length rows
    → option_map sector_bytes (slice_get rows k) ≡ Some (part (k * 512) 512 (bytes_of rows))
row-told rows k below =
    ap (option_map sector_bytes) (slice_get-get_or rows k [] below) ∙ ap (λ (bytes : List ℕ). Some bytes) (sym (part-row rows k below))

-- a copied part reads as the rows did there
pub part-told : (rows : List (List ℕ)) (first count k : ℕ) (bytes : List ℕ) → first + count ≤ length rows → k < count
    → option_map sector_bytes (slice_get rows (first + k)) ≡ Some bytes
    → part (k * 512) 512 (bytes_of (take count (drop first rows))) ≡ bytes
part-told rows first count k bytes fits below told =
    part-row (take count (drop first rows)) k (omega (arith, length-part first count rows fits))
    ∙ ap sector_bytes (get_or-take count (drop first rows) k [] below ∙ get_or-drop first rows k [])
    ∙ sym (part-row rows (first + k) (omega arith))
    ∙ same_Some (part ((first + k) * 512) 512 (bytes_of rows)) bytes (sym (row-told rows (first + k) (omega arith)) ∙ told)

-- rows that were put back read there as they do
pub mid-told : (rows new : List (List ℕ)) (first k : ℕ) → first + length new ≤ length rows → k < length new
    → option_map sector_bytes (slice_get (put_mid first (length new) rows new) (first + k)) ≡ Some (part (k * 512) 512 (bytes_of new))
mid-told rows new first k fits below =
    let at : first + k - first ≡ k = omega arith in
    ap (option_map sector_bytes) (slice_get-get_or (put_mid first (length new) rows new) (first + k) []
    (omega (arith, length-mid first (length new) rows new fits refl)))
    ∙ ap (λ (row : List ℕ). Some (sector_bytes row))
    (mid-inside first (length new) rows new (first + k) [] fits refl (omega arith) (omega arith) ∙ ap (λ i. slice_index_or new i []) at)
    ∙ ap (λ (bytes : List ℕ). Some bytes) (sym (part-row new k below))

-- and the other sectors read as before
pub mid-other : (rows new : List (List ℕ)) (first k : ℕ) → first + length new ≤ length rows → (first ≤ k → first + length new ≤ k)
    → option_map sector_bytes (slice_get (put_mid first (length new) rows new) k) ≡ option_map sector_bytes (slice_get rows k)
mid-other rows new first k fits outside =
    let size = length-mid first (length new) rows new fits refl in
    elim (cases_lt k (length rows)) [
      | inl below ↦
          ap (option_map sector_bytes) (slice_get-get_or (put_mid first (length new) rows new) k [] (omega arith))
          ∙ ap (λ (row : List ℕ). Some (sector_bytes row)) (mid-outside first (length new) rows new k [] fits refl outside)
          ∙ sym (ap (option_map sector_bytes) (slice_get-get_or rows k [] below))
      | inr past ↦
          ap (option_map sector_bytes) (slice_get_past (put_mid first (length new) rows new) k (omega arith))
          ∙ sym (ap (option_map sector_bytes) (slice_get_past rows k past))
    ]

-- the device at an index took rows back
pub taken-content : (devices : List Device) (name : List ℕ) (index : ℕ) (found : IsFoundAt devices name index) (now : Device)
    (first : ℕ) (new : List (List ℕ)) → now.name ≡ name
    → now.state.rows.items ≡ put_mid first (length new) found.device.state.rows.items new
    → first + length new ≤ length found.device.state.rows.items → (k : ℕ) → k < length new
    → device_reads (device_of (slice_set devices index now) name) (first + k) ≡ Some (part (k * 512) 512 (bytes_of new))
taken-content devices name index found now first new named rows fits k below =
    ap (λ (d : Option Device). device_reads d (first + k)) (set-named devices name index found now named)
    ∙ ap (λ (rs : List (List ℕ)). option_map sector_bytes (slice_get rs (first + k))) rows
    ∙ mid-told found.device.state.rows.items new first k fits below

pub taken-others : (devices : List Device) (name : List ℕ) (index : ℕ) (found : IsFoundAt devices name index) (now : Device)
    (first : ℕ) (new : List (List ℕ)) → now.name ≡ name
    → now.state.rows.items ≡ put_mid first (length new) found.device.state.rows.items new
    → first + length new ≤ length found.device.state.rows.items
    → (other : List ℕ) (sector : ℕ) → (other ≡ name → first ≤ sector → first + length new ≤ sector)
    → device_reads (device_of (slice_set devices index now) other) sector ≡ device_reads (device_of devices other) sector
taken-others devices name index found now first new named rows fits other sector outside =
    same-told (λ (d : Option Device). device_reads d sector) devices name index found now named other
    (λ e. ap (λ (rs : List (List ℕ)). option_map sector_bytes (slice_get rs sector)) rows
    ∙ mid-other found.device.state.rows.items new first sector fits (outside e))

pub taken-length : (found now : Device) (first : ℕ) (new : List (List ℕ))
    → now.state.rows.items ≡ put_mid first (length new) found.state.rows.items new
    → first + length new ≤ length found.state.rows.items
    → length now.state.rows.items ≡ length found.state.rows.items
taken-length found now first new rows fits = ap length rows ∙ length-mid first (length new) found.state.rows.items new fits refl

-- a device has the bytes that its rows read as
pub held-content : (devices : List Device) (name : List ℕ) (device : Device) (sectors : ℕ) (contents : List ℕ)
    → device_of devices name ≡ Some device → length device.state.rows.items ≡ sectors → contents ≡ bytes_of device.state.rows.items
    → HasContent (λ other sector. device_reads (device_of devices other) sector) name sectors contents
held-content devices name device sectors contents found size e = record {
  size = ap length e ∙ length-bytes_of device.state.rows.items ∙ ap (λ k. k * 512) size;
  bytes = λ sector below.
      ap (λ (d : Option Device). device_reads d sector) found
      ∙ row-told device.state.rows.items sector (omega arith)
      ∙ ap (λ (bytes : List ℕ). Some (part (sector * 512) 512 bytes)) (sym e);
}
