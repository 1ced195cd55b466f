-- Words of tools that are written out, as they are read.
use Rattle.std.proofs.Common.{◌≡◌, ◌≢◌, true, false, List, [], ◌∷◌, refl, arith}
use Rattle.std.specs.Prelude.{codes, Some}
use Rattle.clap.specs.Words.{Text, fault_of, first_of, matches_of}
use Rattle.clap.proofs.OnLiterals.{clap_on_literals}
use Rattle.era_words.specs.declared.command_name.CommandName.TheVariants.{Invalidate, Check, Dump, Restore, Backup, Apply}
use Rattle.era_words.specs.declared.job.Job.TheVariants as job
use Rattle.era_words.specs.Commands.{app_for}
use Rattle.era_words.specs.Words.{IsJob, IsNoJob}
use Rattle.era_words.proofs.Named.{not_taken}
use Rattle.era_words.proofs.WrittenValues.{number, given, not_given}

-- the words of invalidate

abbrev invalidate : List Text
invalidate = codes "invalidate" ∷ codes "m" ∷ codes "--metadata-snapshot" ∷ codes "--written-since=3" ∷ []

invalidate-taken : fault_of (app_for Invalidate) invalidate ≡ []
unfolding clap_on_literals
invalidate-taken = refl

invalidate-meta : first_of (codes "meta") (matches_of (app_for Invalidate) invalidate) ≡ Some (codes "m")
unfolding clap_on_literals
invalidate-meta = refl

invalidate-since : first_of (codes "written-since") (matches_of (app_for Invalidate) invalidate) ≡ Some (codes "3")
unfolding clap_on_literals
invalidate-since = refl

invalidate-snap : first_of (codes "metadata-snapshot") (matches_of (app_for Invalidate) invalidate) ≡ Some (codes "true")
unfolding clap_on_literals
invalidate-snap = refl

pub invalidate-asked : IsJob invalidate (job.Invalidate (codes "m") 3 true)
invalidate-asked =
    let rows = matches_of (app_for Invalidate) invalidate in
    (Invalidate, record { first = refl; taken = invalidate-taken; asked = record { device = invalidate-meta; era = number rows (codes "written-since") 0 4294967295 3 (omega arith) invalidate-since (omega arith) (omega arith); snapshot = given rows (codes "metadata-snapshot") invalidate-snap } })

invalidate-fault : fault_of (app_for Invalidate) (codes "invalidate" ∷ codes "m" ∷ []) ≢ []
unfolding clap_on_literals
invalidate-fault e = cc

pub invalidate-refused : IsNoJob (codes "invalidate" ∷ codes "m" ∷ [])
invalidate-refused = not_taken (codes "invalidate" ∷ codes "m" ∷ []) Invalidate refl invalidate-fault

-- the words of check

abbrev check : List Text
check = codes "check" ∷ codes "--" ∷ codes "-m" ∷ []

check-taken : fault_of (app_for Check) check ≡ []
unfolding clap_on_literals
check-taken = refl

check-meta : first_of (codes "meta") (matches_of (app_for Check) check) ≡ Some (codes "-m")
unfolding clap_on_literals
check-meta = refl

pub check-asked : IsJob check (job.Check (codes "-m"))
check-asked =
    let rows = matches_of (app_for Check) check in
    (Check, record { first = refl; taken = check-taken; asked = check-meta })

check-fault : fault_of (app_for Check) (codes "check" ∷ codes "m" ∷ codes "m" ∷ []) ≢ []
unfolding clap_on_literals
check-fault e = cc

pub check-refused : IsNoJob (codes "check" ∷ codes "m" ∷ codes "m" ∷ [])
check-refused = not_taken (codes "check" ∷ codes "m" ∷ codes "m" ∷ []) Check refl check-fault

-- the words of dump

abbrev dump : List Text
dump = codes "dump" ∷ codes "m" ∷ []

dump-taken : fault_of (app_for Dump) dump ≡ []
unfolding clap_on_literals
dump-taken = refl

dump-meta : first_of (codes "meta") (matches_of (app_for Dump) dump) ≡ Some (codes "m")
unfolding clap_on_literals
dump-meta = refl

dump-logical : first_of (codes "logical") (matches_of (app_for Dump) dump) ≡ Some (codes "false")
unfolding clap_on_literals
dump-logical = refl

pub dump-asked : IsJob dump (job.Dump (codes "m") false)
dump-asked =
    let rows = matches_of (app_for Dump) dump in
    (Dump, record { first = refl; taken = dump-taken; asked = record { device = dump-meta; folded = not_given rows (codes "logical") dump-logical } })

dump-fault : fault_of (app_for Dump) (codes "dump" ∷ codes "m" ∷ codes "--logical=true" ∷ []) ≢ []
unfolding clap_on_literals
dump-fault e = cc

pub dump-refused : IsNoJob (codes "dump" ∷ codes "m" ∷ codes "--logical=true" ∷ [])
dump-refused = not_taken (codes "dump" ∷ codes "m" ∷ codes "--logical=true" ∷ []) Dump refl dump-fault

-- the words of restore

abbrev restore : List Text
restore = codes "restore" ∷ codes "" ∷ []

restore-taken : fault_of (app_for Restore) restore ≡ []
unfolding clap_on_literals
restore-taken = refl

restore-meta : first_of (codes "meta") (matches_of (app_for Restore) restore) ≡ Some (codes "")
unfolding clap_on_literals
restore-meta = refl

pub restore-asked : IsJob restore (job.Restore (codes ""))
restore-asked =
    let rows = matches_of (app_for Restore) restore in
    (Restore, record { first = refl; taken = restore-taken; asked = restore-meta })

restore-fault : fault_of (app_for Restore) (codes "restore" ∷ codes "--help" ∷ []) ≢ []
unfolding clap_on_literals
restore-fault e = cc

pub restore-refused : IsNoJob (codes "restore" ∷ codes "--help" ∷ [])
restore-refused = not_taken (codes "restore" ∷ codes "--help" ∷ []) Restore refl restore-fault

-- the words of backup

abbrev backup : List Text
backup = codes "backup" ∷ codes "m" ∷ codes "--written-since" ∷ codes "0" ∷ codes "o" ∷ []

backup-taken : fault_of (app_for Backup) backup ≡ []
unfolding clap_on_literals
backup-taken = refl

backup-meta : first_of (codes "meta") (matches_of (app_for Backup) backup) ≡ Some (codes "m")
unfolding clap_on_literals
backup-meta = refl

backup-origin : first_of (codes "origin") (matches_of (app_for Backup) backup) ≡ Some (codes "o")
unfolding clap_on_literals
backup-origin = refl

backup-since : first_of (codes "written-since") (matches_of (app_for Backup) backup) ≡ Some (codes "0")
unfolding clap_on_literals
backup-since = refl

pub backup-asked : IsJob backup (job.Backup (codes "m") (codes "o") 0)
backup-asked =
    let rows = matches_of (app_for Backup) backup in
    (Backup, record { first = refl; taken = backup-taken; asked = record { device = backup-meta; source = backup-origin; era = number rows (codes "written-since") 0 4294967295 0 (omega arith) backup-since (omega arith) (omega arith) } })

backup-fault : fault_of (app_for Backup) (codes "backup" ∷ codes "m" ∷ codes "o" ∷ codes "--written-since=0" ∷ codes "--written-since=0" ∷ []) ≢ []
unfolding clap_on_literals
backup-fault e = cc

pub backup-refused : IsNoJob (codes "backup" ∷ codes "m" ∷ codes "o" ∷ codes "--written-since=0" ∷ codes "--written-since=0" ∷ [])
backup-refused = not_taken (codes "backup" ∷ codes "m" ∷ codes "o" ∷ codes "--written-since=0" ∷ codes "--written-since=0" ∷ []) Backup refl backup-fault

-- the words of apply

abbrev apply : List Text
apply = codes "apply" ∷ codes "-" ∷ []

apply-taken : fault_of (app_for Apply) apply ≡ []
unfolding clap_on_literals
apply-taken = refl

apply-origin : first_of (codes "origin") (matches_of (app_for Apply) apply) ≡ Some (codes "-")
unfolding clap_on_literals
apply-origin = refl

pub apply-asked : IsJob apply (job.Apply (codes "-"))
apply-asked =
    let rows = matches_of (app_for Apply) apply in
    (Apply, record { first = refl; taken = apply-taken; asked = apply-origin })

apply-fault : fault_of (app_for Apply) (codes "apply" ∷ codes "--origin" ∷ codes "o" ∷ []) ≢ []
unfolding clap_on_literals
apply-fault e = cc

pub apply-refused : IsNoJob (codes "apply" ∷ codes "--origin" ∷ codes "o" ∷ [])
apply-refused = not_taken (codes "apply" ∷ codes "--origin" ∷ codes "o" ∷ []) Apply refl apply-fault
