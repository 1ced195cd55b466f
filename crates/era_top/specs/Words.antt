-- What the words of the program ask for, of what is served so far.
use Rattle.std.specs.Prelude.{◌≡◌, ◌⊎◌, ℕ, List}
use Rattle.era_line.specs.declared.table_line.TableLine.{TableLine}
use Rattle.era_words.specs.declared.job.Job.{Job}
use Rattle.era_words.specs.declared.job.Job.TheVariants as job
use Rattle.era_words.specs.Words.{IsJob}
pub use Rattle.era_words.specs.Words.{texts_of}

-- A session's options are those of a session that is served so far: 4 stripes and no digest steps, as where no option is given.
abbrev pub AreDefaults : ℕ → ℕ → Type 0
AreDefaults stripes digest = (stripes ≡ 4) × (digest ≡ 0)

-- The words ask for a session over the target of this table line, without options or with their defaults.
abbrev pub IsServe : List (List ℕ) → TableLine → Type 0
IsServe words line = IsJob words (job.Serve line 4 0)

-- The words ask for the need of an origin of this length and block size, in sectors.
abbrev pub IsNeed : List (List ℕ) → ℕ → ℕ → Type 0
IsNeed words sectors block_sectors = IsJob words (job.Need sectors block_sectors)

-- A job is a tool's: it is neither a session nor a load.
abbrev pub IsTool : Job → Type 0
IsTool (job.Serve line stripes digest) = ⊥
IsTool (job.Load line seed stripes) = ⊥
IsTool other = Unit {0}

-- The words are no tool's command: they are no command, or a session or a load.
abbrev pub IsNoTool : List (List ℕ) → Type 0
IsNoTool words = (job : Job) → IsTool job → IsJob words job → ⊥

-- A job isn't served yet: a session with an option that isn't the default, a load, and the tool that writes to an origin.
abbrev pub IsUnserved : Job → Type 0
IsUnserved (job.Serve line stripes digest) = AreDefaults stripes digest → ⊥
IsUnserved (job.Load line seed stripes) = Unit {0}
IsUnserved (job.Apply origin) = Unit {0}
IsUnserved other = ⊥

-- The words are a command, and what it is to do isn't served yet.
abbrev pub IsNotYet : List (List ℕ) → Type 0
IsNotYet words = (job : Job) × IsJob words job × IsUnserved job

-- The words give a length and a block size: a session in its table line, a need as they are.
abbrev pub GiveNumbers : List (List ℕ) → ℕ → ℕ → Type 0
GiveNumbers words sectors block_sectors =
    ((line : TableLine) × IsServe words line × (sectors ≡ line.length) × (block_sectors ≡ line.block_sectors))
    ⊎ IsNeed words sectors block_sectors
