-- What is known of the devices of a bay over files, once one more device stands behind the others or one has learned of a failed sync.
use Rattle.std.proofs.Common.{◌≡◌, ℕ, true, false, cond, List, [], ◌∷◌, ◌++◌, Some, None, sym, ◌∙◌, ap, subst}
use Rattle.std.specs.List.{find}
use Rattle.std.specs.Str.{bytes_eq}
use Rattle.std.specs.Option.{option_map}
use Rattle.std.proofs.lemmas.Slice.Eq.{bytes_eq-Decides}
use Rattle.era_disks.specs.declared.image_file.ImageFile.{ImageFile}
use Rattle.era_disks.specs.SyncFlags.{has_failed}
use Rattle.era_disks.specs.ImageFiles.{is_named, size_in, device_failed, failed_in, KeepsKnown}

-- A size that is told is told again.
pub size_in-append : (xs ys : List ImageFile) (name : List ℕ) (size : ℕ) → size_in xs name ≡ Some size → size_in (xs ++ ys) name ≡ Some size
size_in-append [] ys name size told = absurd (cc)
size_in-append (x ∷ xs) ys name size told =
    (elim (is_named name x) as (λ b.
    option_map (λ device. device.sectors) (cond b (Some x) (find (is_named name) xs)) ≡ Some size
    → option_map (λ device. device.sectors) (cond b (Some x) (find (is_named name) (xs ++ ys))) ≡ Some size)
    [ true ↦ λ same. same | false ↦ λ before. size_in-append xs ys name size before ]) told

-- The device that was added is found by its name, if none was before.
pub size_in-last : (xs : List ImageFile) (device : ImageFile) (name : List ℕ) → device.name ≡ name → size_in xs name ≡ None → size_in (xs ++ device ∷ []) name ≡ Some device.sectors
size_in-last [] device name same none =
    ap (λ b. option_map (λ found. found.sectors) (cond b (Some device) None)) ((bytes_eq-Decides device.name name).1 same)
size_in-last (x ∷ xs) device name same none =
    (elim (is_named name x) as (λ b.
    option_map (λ found. found.sectors) (cond b (Some x) (find (is_named name) xs)) ≡ None
    → option_map (λ found. found.sectors) (cond b (Some x) (find (is_named name) (xs ++ device ∷ []))) ≡ Some device.sectors)
    [ true ↦ λ some. absurd (cc) | false ↦ λ before. size_in-last xs device name same before ]) none

-- A failed sync that is known stays known.
pub failed_in-append : (xs ys : List ImageFile) (name : List ℕ) → failed_in xs name ≡ true → failed_in (xs ++ ys) name ≡ true
failed_in-append [] ys name known = absurd (cc)
failed_in-append (x ∷ xs) ys name known =
    (elim (is_named name x) as (λ b.
    device_failed (cond b (Some x) (find (is_named name) xs)) ≡ true
    → device_failed (cond b (Some x) (find (is_named name) (xs ++ ys))) ≡ true)
    [ true ↦ λ same. same | false ↦ λ before. failed_in-append xs ys name before ]) known

pub known-append : (xs : List ImageFile) (device : ImageFile) → KeepsKnown xs (xs ++ device ∷ [])
known-append xs device = record {
  sizes = λ name size told. size_in-append xs (device ∷ []) name size told;
  failures = λ name known. failed_in-append xs (device ∷ []) name known;
}

-- The first device has learned something.
pub known-first : (old now : ImageFile) (rest : List ImageFile) → now.name ≡ old.name → now.sectors ≡ old.sectors
    → (has_failed old.syncs ≡ true → has_failed now.syncs ≡ true) → KeepsKnown (old ∷ rest) (now ∷ rest)
known-first old now rest named sized learned = record {
  sizes = λ name size told.
      subst (λ (n : List ℕ). option_map (λ d. d.sectors) (cond (bytes_eq n name) (Some now) (find (is_named name) rest)) ≡ Some size) (sym named)
      ((elim (is_named name old) as (λ b.
      option_map (λ d. d.sectors) (cond b (Some old) (find (is_named name) rest)) ≡ Some size
      → option_map (λ d. d.sectors) (cond b (Some now) (find (is_named name) rest)) ≡ Some size)
      [ true ↦ λ same. ap (λ (k : ℕ). Some k) sized ∙ same | false ↦ λ same. same ]) told);
  failures = λ name known.
      subst (λ (n : List ℕ). device_failed (cond (bytes_eq n name) (Some now) (find (is_named name) rest)) ≡ true) (sym named)
      ((elim (is_named name old) as (λ b.
      device_failed (cond b (Some old) (find (is_named name) rest)) ≡ true
      → device_failed (cond b (Some now) (find (is_named name) rest)) ≡ true)
      [ true ↦ learned | false ↦ λ same. same ]) known);
}

-- The devices behind the first one have learned something.
pub known-rest : (device : ImageFile) (old new : List ImageFile) → KeepsKnown old new → KeepsKnown (device ∷ old) (device ∷ new)
known-rest device old new known = record {
  sizes = λ name size told.
      (elim (is_named name device) as (λ b.
      option_map (λ d. d.sectors) (cond b (Some device) (find (is_named name) old)) ≡ Some size
      → option_map (λ d. d.sectors) (cond b (Some device) (find (is_named name) new)) ≡ Some size)
      [ true ↦ λ same. same | false ↦ known.sizes name size ]) told;
  failures = λ name was.
      (elim (is_named name device) as (λ b.
      device_failed (cond b (Some device) (find (is_named name) old)) ≡ true
      → device_failed (cond b (Some device) (find (is_named name) new)) ≡ true)
      [ true ↦ λ same. same | false ↦ known.failures name ]) was;
}
