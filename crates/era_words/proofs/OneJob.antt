-- Words ask for one job at most.
use Rattle.std.proofs.Common.{◌≡◌, ℕ, ◌-◌, ◌<◌, ◌^◌, Bool, true, false, List, ap, ap₂, sym, subst, arith}
use Rattle.std.specs.Prelude.{codes, decimal}
use Rattle.std.proofs.lemmas.Fmt.{decimal_injective}
use Rattle.clap.specs.Words.{Row, Text, first_of, matches_of}
use Rattle.era_line.specs.declared.table_line.TableLine.{TableLine}
use Rattle.era_line.specs.TableLine.{IsTableLine}
use Rattle.era_line.proofs.Spelling.{one_line}
use Rattle.era_words.specs.declared.command_name.CommandName.{CommandName}
use Rattle.era_words.specs.declared.command_name.CommandName.TheVariants.{Serve, Load, Need, Invalidate, Check}
use Rattle.era_words.specs.declared.command_name.CommandName.TheVariants.{Dump, Restore, Backup, Apply}
use Rattle.era_words.specs.declared.job.Job.{Job}
use Rattle.era_words.specs.declared.job.Job.TheVariants as job
use Rattle.era_words.specs.Commands.{app_for}
use Rattle.era_words.specs.Jobs.{HasText, HasNumber, HasNumber64, HasEra, HasStripes, HasFlag, HasTable, AskFor}
use Rattle.era_words.specs.Laws.{AskForOneJob}
use Rattle.era_words.proofs.Named.{same_command}
use Rattle.era_words.proofs.Values.{one_text}

-- a table line of these parts
abbrev of_parts : ℕ → Text → Text → ℕ → TableLine
of_parts length meta origin size = record { length = length; meta = meta; origin = origin; block_sectors = size }

-- table lines of equal parts are equal
same_parts : (length length' : ℕ) (meta meta' origin origin' : Text) (size size' : ℕ) → length ≡ length' → meta ≡ meta' → origin ≡ origin' → size ≡ size'
    → of_parts length meta origin size ≡ of_parts length' meta' origin' size'
same_parts length length' meta meta' origin origin' size size' a b c d = cc

module _ (rows : List Row) where
  one_value : (id a b : Text) → HasText rows id a → HasText rows id b → a ≡ b
  one_value id a b has has' = one_text (first_of id rows) a b has has'

  one_number : (id : Text) (least most m n : ℕ) → most < 2 ^ 64 → HasNumber rows id least most m → HasNumber rows id least most n → m ≡ n
  one_number id least most m n small has has' =
      decimal_injective m n (omega (arith, has.limited)) (omega (arith, has'.limited)) (one_value id (decimal m) (decimal n) has.spelled has'.spelled)

  one_flag : (id : Text) (a b : Bool) → HasFlag rows id a → HasFlag rows id b → a ≡ b
  one_flag id true b has has' = sym (has'.1 (has.0 (cc)))
  one_flag id false true has has' = has.1 (has'.0 (cc))
  one_flag id false false has has' = cc

  one_target : (id : Text) (line line' : TableLine) → HasTable rows id line → HasTable rows id line' → line ≡ line'
  one_target id line line' has has' =
      let text = one_value id has'.text has.text has'.given has.given in
      let other = subst (λ t. IsTableLine t line'.length line'.meta line'.origin line'.block_sectors) text has'.table in
      let same = one_line has.text line.length line'.length line.meta line.origin line'.meta line'.origin line.block_sectors line'.block_sectors has.table other in
      same_parts line.length line'.length line.meta line'.meta line.origin line'.origin line.block_sectors line'.block_sectors same.0 same.1 same.2 same.3

  one_stripes : (m n : ℕ) → HasStripes rows m → HasStripes rows n → m ≡ n
  one_stripes m n has has' = one_number (codes "stripes") 1 16 m n (omega arith) has has'

  one_wide : (id : Text) (m n : ℕ) → HasNumber64 rows id m → HasNumber64 rows id n → m ≡ n
  one_wide id m n has has' = one_number id 0 (2 ^ 64 - 1) m n (omega arith) has has'

  one_era : (m n : ℕ) → HasEra rows (codes "written-since") m → HasEra rows (codes "written-since") n → m ≡ n
  one_era m n has has' = one_number (codes "written-since") 0 4294967295 m n (omega arith) has has'

  one_device : (a b : Text) → HasText rows (codes "meta") a → HasText rows (codes "meta") b → a ≡ b
  one_device a b has has' = one_value (codes "meta") a b has has'

  one_origin : (a b : Text) → HasText rows (codes "origin") a → HasText rows (codes "origin") b → a ≡ b
  one_origin a b has has' = one_value (codes "origin") a b has has'

  serve-one : (a b : Job) → AskFor Serve rows a → AskFor Serve rows b → a ≡ b
  serve-one (job.Serve line stripes digest) (job.Serve line' stripes' digest') x y =
      let target = one_target (codes "line") line line' x.target y.target in
      let count = one_stripes stripes stripes' x.stripe_count y.stripe_count in
      let steps = one_number (codes "digest") 0 4096 digest digest' (omega arith) x.digest_steps y.digest_steps in
      cc (target, count, steps)
  serve-one (job.Serve line stripes digest) other x y = absurd y
  serve-one other b x y = absurd x

  load-one : (a b : Job) → AskFor Load rows a → AskFor Load rows b → a ≡ b
  load-one (job.Load line seed stripes) (job.Load line' seed' stripes') x y =
      let target = one_target (codes "line") line line' x.target y.target in
      let first = one_wide (codes "seed") seed seed' x.begins y.begins in
      let count = one_stripes stripes stripes' x.stripe_count y.stripe_count in
      cc (target, first, count)
  load-one (job.Load line seed stripes) other x y = absurd y
  load-one other b x y = absurd x

  need-one : (a b : Job) → AskFor Need rows a → AskFor Need rows b → a ≡ b
  need-one (job.Need sectors size) (job.Need sectors' size') x y =
      ap₂ job.Need (one_wide (codes "sectors") sectors sectors' x.length y.length) (one_wide (codes "block-size") size size' x.block_size y.block_size)
  need-one (job.Need sectors size) other x y = absurd y
  need-one other b x y = absurd x

  invalidate-one : (a b : Job) → AskFor Invalidate rows a → AskFor Invalidate rows b → a ≡ b
  invalidate-one (job.Invalidate meta since snap) (job.Invalidate meta' since' snap') x y =
      let device = one_device meta meta' x.device y.device in
      let era = one_era since since' x.era y.era in
      let given = one_flag (codes "metadata-snapshot") snap snap' x.snapshot y.snapshot in
      cc (device, era, given)
  invalidate-one (job.Invalidate meta since snap) other x y = absurd y
  invalidate-one other b x y = absurd x

  check-one : (a b : Job) → AskFor Check rows a → AskFor Check rows b → a ≡ b
  check-one (job.Check meta) (job.Check meta') x y = ap job.Check (one_device meta meta' x y)
  check-one (job.Check meta) other x y = absurd y
  check-one other b x y = absurd x

  dump-one : (a b : Job) → AskFor Dump rows a → AskFor Dump rows b → a ≡ b
  dump-one (job.Dump meta logical) (job.Dump meta' logical') x y =
      ap₂ job.Dump (one_device meta meta' x.device y.device) (one_flag (codes "logical") logical logical' x.folded y.folded)
  dump-one (job.Dump meta logical) other x y = absurd y
  dump-one other b x y = absurd x

  restore-one : (a b : Job) → AskFor Restore rows a → AskFor Restore rows b → a ≡ b
  restore-one (job.Restore meta) (job.Restore meta') x y = ap job.Restore (one_device meta meta' x y)
  restore-one (job.Restore meta) other x y = absurd y
  restore-one other b x y = absurd x

  backup-one : (a b : Job) → AskFor Backup rows a → AskFor Backup rows b → a ≡ b
  backup-one (job.Backup meta origin since) (job.Backup meta' origin' since') x y =
      let device = one_device meta meta' x.device y.device in
      let source = one_origin origin origin' x.source y.source in
      let era = one_era since since' x.era y.era in
      cc (device, source, era)
  backup-one (job.Backup meta origin since) other x y = absurd y
  backup-one other b x y = absurd x

  apply-one : (a b : Job) → AskFor Apply rows a → AskFor Apply rows b → a ≡ b
  apply-one (job.Apply origin) (job.Apply origin') x y = ap job.Apply (one_origin origin origin' x y)
  apply-one (job.Apply origin) other x y = absurd y
  apply-one other b x y = absurd x

  -- the values of a command's arguments ask for one job at most
  one_asked : (name : CommandName) (a b : Job) → AskFor name rows a → AskFor name rows b → a ≡ b
  one_asked Serve a b x y = serve-one a b x y
  one_asked Load a b x y = load-one a b x y
  one_asked Need a b x y = need-one a b x y
  one_asked Invalidate a b x y = invalidate-one a b x y
  one_asked Check a b x y = check-one a b x y
  one_asked Dump a b x y = dump-one a b x y
  one_asked Restore a b x y = restore-one a b x y
  one_asked Backup a b x y = backup-one a b x y
  one_asked Apply a b x y = apply-one a b x y

-- words ask for one job at most
pub one_job : AskForOneJob
one_job words a b (name, x) (other, y) =
    let same = same_command words other name y.first x.first in
    one_asked (matches_of (app_for name) words) name a b x.asked (subst (λ n. AskFor n (matches_of (app_for n) words) b) same y.asked)
