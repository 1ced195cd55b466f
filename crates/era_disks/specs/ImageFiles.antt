-- The devices that a bay over files has looked at.
use Rattle.std.specs.Prelude.{◌≡◌, ℕ, Bool, false, List, Option, Some, None, IsTrue, bytes_eq}
use Rattle.std.specs.List.{find}
use Rattle.std.specs.Option.{option_map}
use Rattle.era_disks.specs.SyncFlags.{has_failed}
use Rattle.era_disks.specs.declared.image_file.ImageFile.{ImageFile}

-- Whether a device has this name.
abbrev pub is_named : List ℕ → ImageFile → Bool
is_named name device = bytes_eq device.name name

-- The size of the first device of a name, in sectors.
abbrev pub size_in : List ImageFile → List ℕ → Option ℕ
size_in devices name = option_map (λ device. device.sectors) (find (is_named name) devices)

-- Whether it is known of a device that a sync has failed.
abbrev pub device_failed : Option ImageFile → Bool
device_failed None = false
device_failed (Some device) = has_failed device.syncs

-- Whether the bay has looked at a device of this name and knows that a sync of it has failed.
abbrev pub failed_in : List ImageFile → List ℕ → Bool
failed_in devices name = device_failed (find (is_named name) devices)

-- What is known of sizes and of failed syncs stays known.
pub record KeepsKnown (old new : List ImageFile) : Type 0 where
  pub sizes : (name : List ℕ) (size : ℕ) → size_in old name ≡ Some size → size_in new name ≡ Some size
  pub failures : (name : List ℕ) → IsTrue (failed_in old name) → IsTrue (failed_in new name)
