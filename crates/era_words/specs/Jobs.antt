-- What a command is to do, as the values of its arguments say.
use Rattle.std.specs.Prelude.{◌≡◌, ◌↔◌, ℕ, ◌-◌, ◌^◌, ◌≤◌, Bool, true, List, Some, codes, decimal}
use Rattle.clap.specs.Words.{Row, Text, first_of}
use Rattle.era_base.specs.declared.limits.TheConstants.{LAST_ERA, MOST_STRIPES}
use Rattle.era_line.specs.TableLine.{IsTableLine}
use Rattle.era_line.specs.declared.table_line.TableLine.{TableLine}
use Rattle.era_words.specs.declared.command_name.CommandName.{CommandName}
use Rattle.era_words.specs.declared.command_name.CommandName.TheVariants.{Serve, Load, Need, Invalidate, Check}
use Rattle.era_words.specs.declared.command_name.CommandName.TheVariants.{Dump, Restore, Backup, Apply}
use Rattle.era_words.specs.declared.job.Job.{Job}
use Rattle.era_words.specs.declared.job.Job.TheVariants as job

-- An argument has this text as its value.
abbrev pub HasText : List Row → Text → Text → Type 0
HasText rows id text = first_of id rows ≡ Some text

-- An argument has the decimal of this number as its value, and the number is in this range.
pub record HasNumber (rows : List Row) (id : Text) (least most number : ℕ) : Type 0 where
  pub spelled : HasText rows id (decimal number)
  pub enough : least ≤ number
  pub limited : number ≤ most

-- An argument is a number of 64 bits.
abbrev pub HasNumber64 : List Row → Text → ℕ → Type 0
HasNumber64 rows id number = HasNumber rows id 0 (2 ^ 64 - 1) number

-- An argument is an era.
abbrev pub HasEra : List Row → Text → ℕ → Type 0
HasEra rows id era = HasNumber rows id 0 LAST_ERA era

-- The number of stripes.
abbrev pub HasStripes : List Row → ℕ → Type 0
HasStripes rows stripes = HasNumber rows (codes "stripes") 1 MOST_STRIPES stripes

-- A flag was given, or wasn't.
abbrev pub HasFlag : List Row → Text → Bool → Type 0
HasFlag rows id given = (given ≡ true) ↔ HasText rows id (codes "true")

-- An argument is a table line that says this.
pub record HasTable (rows : List Row) (id : Text) (line : TableLine) : Type 0 where
  pub text : Text
  pub given : HasText rows id text
  pub table : IsTableLine text line.length line.meta line.origin line.block_sectors

-- A session over the target of a table line.
pub record IsServe (rows : List Row) (line : TableLine) (stripes digest : ℕ) : Type 0 where
  pub target : HasTable rows (codes "line") line
  pub stripe_count : HasStripes rows stripes
  pub digest_steps : HasNumber rows (codes "digest") 0 4096 digest

-- A load over the target of a table line.
pub record IsLoad (rows : List Row) (line : TableLine) (seed stripes : ℕ) : Type 0 where
  pub target : HasTable rows (codes "line") line
  pub begins : HasNumber64 rows (codes "seed") seed
  pub stripe_count : HasStripes rows stripes

-- The metadata blocks that an origin needs.
pub record IsNeed (rows : List Row) (sectors block_sectors : ℕ) : Type 0 where
  pub length : HasNumber64 rows (codes "sectors") sectors
  pub block_size : HasNumber64 rows (codes "block-size") block_sectors

-- The blocks that were written since an era, of the metadata as it is or of its snapshot.
pub record IsInvalidate (rows : List Row) (meta : Text) (since : ℕ) (snap : Bool) : Type 0 where
  pub device : HasText rows (codes "meta") meta
  pub era : HasEra rows (codes "written-since") since
  pub snapshot : HasFlag rows (codes "metadata-snapshot") snap

-- The text of a metadata device, with its write sets or without them.
pub record IsDump (rows : List Row) (meta : Text) (logical : Bool) : Type 0 where
  pub device : HasText rows (codes "meta") meta
  pub folded : HasFlag rows (codes "logical") logical

-- The bytes of the blocks that were written since an era.
pub record IsBackup (rows : List Row) (meta origin : Text) (since : ℕ) : Type 0 where
  pub device : HasText rows (codes "meta") meta
  pub source : HasText rows (codes "origin") origin
  pub era : HasEra rows (codes "written-since") since

-- The values of a command's arguments ask for this job.
abbrev pub AskFor : CommandName → List Row → Job → Type 0
AskFor Serve rows (job.Serve line stripes digest) = IsServe rows line stripes digest
AskFor Load rows (job.Load line seed stripes) = IsLoad rows line seed stripes
AskFor Need rows (job.Need sectors block_sectors) = IsNeed rows sectors block_sectors
AskFor Invalidate rows (job.Invalidate meta since snap) = IsInvalidate rows meta since snap
AskFor Check rows (job.Check meta) = HasText rows (codes "meta") meta
AskFor Dump rows (job.Dump meta logical) = IsDump rows meta logical
AskFor Restore rows (job.Restore meta) = HasText rows (codes "meta") meta
AskFor Backup rows (job.Backup meta origin since) = IsBackup rows meta origin since
AskFor Apply rows (job.Apply origin) = HasText rows (codes "origin") origin
AskFor name rows other = ⊥

-- The values of a command's arguments ask for no job.
abbrev pub AskForNothing : CommandName → List Row → Type 0
AskForNothing name rows = (job : Job) → AskFor name rows job → ⊥
