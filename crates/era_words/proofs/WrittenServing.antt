-- Words of sessions, loads and needs that are written out, as they are read.
use Rattle.std.proofs.Common.{◌≡◌, ◌≢◌, ◌-◌, ◌^◌, List, [], ◌∷◌, refl, arith}
use Rattle.std.specs.Prelude.{codes, Some}
use Rattle.clap.specs.Words.{Text, fault_of, first_of, matches_of}
use Rattle.clap.proofs.OnLiterals.{clap_on_literals}
use Rattle.era_words.specs.declared.command_name.CommandName.TheVariants.{Serve, Load, Need}
use Rattle.era_words.specs.declared.job.Job.TheVariants as job
use Rattle.era_words.specs.Commands.{app_for}
use Rattle.era_words.specs.Laws.{small_target}
use Rattle.era_words.specs.Words.{IsJob, IsNoJob}
use Rattle.era_words.proofs.Named.{not_taken}
use Rattle.era_words.proofs.WrittenValues.{number, small_table}

-- the words of session

abbrev session : List Text
session = codes "serve" ∷ codes "0 8 era m o 8" ∷ []

session-taken : fault_of (app_for Serve) session ≡ []
unfolding clap_on_literals
session-taken = refl

session-line : first_of (codes "line") (matches_of (app_for Serve) session) ≡ Some (codes "0 8 era m o 8")
unfolding clap_on_literals
session-line = refl

session-stripes : first_of (codes "stripes") (matches_of (app_for Serve) session) ≡ Some (codes "4")
unfolding clap_on_literals
session-stripes = refl

session-digest : first_of (codes "digest") (matches_of (app_for Serve) session) ≡ Some (codes "0")
unfolding clap_on_literals
session-digest = refl

pub session-asked : IsJob session (job.Serve small_target 4 0)
session-asked =
    let rows = matches_of (app_for Serve) session in
    (Serve, record { first = refl; taken = session-taken; asked = record { target = record { text = codes "0 8 era m o 8"; given = session-line; table = small_table }; stripe_count = number rows (codes "stripes") 1 16 4 (omega arith) session-stripes (omega arith) (omega arith); digest_steps = number rows (codes "digest") 0 4096 0 (omega arith) session-digest (omega arith) (omega arith) } })

session-fault : fault_of (app_for Serve) (codes "serve" ∷ []) ≢ []
unfolding clap_on_literals
session-fault e = cc

pub session-refused : IsNoJob (codes "serve" ∷ [])
session-refused = not_taken (codes "serve" ∷ []) Serve refl session-fault

-- the words of load

abbrev load : List Text
load = codes "load" ∷ codes "--stripes" ∷ codes "9" ∷ codes "0 8 era m o 8" ∷ codes "7" ∷ []

load-taken : fault_of (app_for Load) load ≡ []
unfolding clap_on_literals
load-taken = refl

load-line : first_of (codes "line") (matches_of (app_for Load) load) ≡ Some (codes "0 8 era m o 8")
unfolding clap_on_literals
load-line = refl

load-seed : first_of (codes "seed") (matches_of (app_for Load) load) ≡ Some (codes "7")
unfolding clap_on_literals
load-seed = refl

load-stripes : first_of (codes "stripes") (matches_of (app_for Load) load) ≡ Some (codes "9")
unfolding clap_on_literals
load-stripes = refl

pub load-asked : IsJob load (job.Load small_target 7 9)
load-asked =
    let rows = matches_of (app_for Load) load in
    (Load, record { first = refl; taken = load-taken; asked = record { target = record { text = codes "0 8 era m o 8"; given = load-line; table = small_table }; begins = number rows (codes "seed") 0 (2 ^ 64 - 1) 7 (omega arith) load-seed (omega arith) (omega arith); stripe_count = number rows (codes "stripes") 1 16 9 (omega arith) load-stripes (omega arith) (omega arith) } })

load-fault : fault_of (app_for Load) (codes "load" ∷ codes "0 8 era m o 8" ∷ []) ≢ []
unfolding clap_on_literals
load-fault e = cc

pub load-refused : IsNoJob (codes "load" ∷ codes "0 8 era m o 8" ∷ [])
load-refused = not_taken (codes "load" ∷ codes "0 8 era m o 8" ∷ []) Load refl load-fault

-- the words of need

abbrev need : List Text
need = codes "need" ∷ codes "9" ∷ codes "8" ∷ []

need-taken : fault_of (app_for Need) need ≡ []
unfolding clap_on_literals
need-taken = refl

need-sectors : first_of (codes "sectors") (matches_of (app_for Need) need) ≡ Some (codes "9")
unfolding clap_on_literals
need-sectors = refl

need-size : first_of (codes "block-size") (matches_of (app_for Need) need) ≡ Some (codes "8")
unfolding clap_on_literals
need-size = refl

pub need-asked : IsJob need (job.Need 9 8)
need-asked =
    let rows = matches_of (app_for Need) need in
    (Need, record { first = refl; taken = need-taken; asked = record { length = number rows (codes "sectors") 0 (2 ^ 64 - 1) 9 (omega arith) need-sectors (omega arith) (omega arith); block_size = number rows (codes "block-size") 0 (2 ^ 64 - 1) 8 (omega arith) need-size (omega arith) (omega arith) } })

need-fault : fault_of (app_for Need) (codes "need" ∷ codes "9" ∷ []) ≢ []
unfolding clap_on_literals
need-fault e = cc

pub need-refused : IsNoJob (codes "need" ∷ codes "9" ∷ [])
need-refused = not_taken (codes "need" ∷ codes "9" ∷ []) Need refl need-fault
