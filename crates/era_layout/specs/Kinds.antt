-- The kinds of damage of a metadata disk that roots and pages have.
use Rattle.std.specs.Prelude.{Option, Some, None}
use Rattle.era_layout.specs.declared.damage.RootError.{RootError}
use Rattle.era_layout.specs.declared.damage.RootError.TheVariants.{BadMagic, BadVersion, BadGeometry, BadEra, BadHeld, ArchiveOrder, PageRange, PageTwice, TailNotZero, Memory}
use Rattle.era_layout.specs.declared.damage.PageError.{PageError}
use Rattle.era_layout.specs.declared.damage.PageError.TheVariants.{EntryPastEnd, EraFuture, BitPastEnd}
use Rattle.era_layout.specs.declared.damage.DamageKind.{DamageKind}
use Rattle.era_layout.specs.declared.damage.DamageKind.TheVariants as kind

-- The damage that a root has for which this is answered; want of memory is none.
abbrev pub damage_of_root : RootError → Option DamageKind
damage_of_root BadMagic = Some kind.BadMagic
damage_of_root BadVersion = Some kind.BadVersion
damage_of_root BadGeometry = Some kind.BadGeometry
damage_of_root BadEra = Some kind.BadEra
damage_of_root BadHeld = Some kind.BadHeld
damage_of_root ArchiveOrder = Some kind.ArchiveOrder
damage_of_root PageRange = Some kind.PageRange
damage_of_root PageTwice = Some kind.PageTwice
damage_of_root TailNotZero = Some kind.TailNotZero
damage_of_root Memory = None

-- The damage that a page has for which this is answered.
abbrev pub damage_of_page : PageError → DamageKind
damage_of_page EntryPastEnd = kind.EntryPastEnd
damage_of_page EraFuture = kind.EraFuture
damage_of_page BitPastEnd = kind.BitPastEnd
