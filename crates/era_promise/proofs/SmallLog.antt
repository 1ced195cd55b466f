-- The log of the small session, and one in which the write is issued too early.
use Rattle.std.proofs.Common.{◌≡◌, true, false, refl, lit<}
use mathlib.Core.Bool.{true≢false}
use Rattle.std.proofs.lemmas.Bool.{false≢true}
use Rattle.era_notes.specs.OwnDraws.{AreOwnDraws}
use Rattle.era_promise.specs.OwnConditions.{AreToldDraws}
use Rattle.era_promise.specs.Owners.{AreOwnersDraws, stripe_at}
use Rattle.era_promise.specs.Rows.{early_log, write_journal, write_log}

pub log-own : AreOwnDraws write_journal.opening (stripe_at write_journal.opening) write_log
log-own = (refl, ((refl, refl), (tt, (tt, tt))))

pub log-owners : AreOwnersDraws 1 write_journal.opening write_log
log-owners = (
  record { keepers = λ is. absurd (false≢true is); stripes = λ is. refl },
  (
    record { keepers = λ is. absurd (false≢true is); stripes = λ is. refl },
    (
      record { keepers = λ is. refl; stripes = λ is. absurd (true≢false is) },
      (record { keepers = λ is. refl; stripes = λ is. absurd (true≢false is) }, tt),
    ),
  ),
)

pub log-told : AreToldDraws write_journal.opening write_log
log-told = (
  record { writing = refl },
  tt,
  (
    record { of_origin = lit< tt; whole = refl; place = refl },
    record { marked = refl; present = refl; alone = refl; once = refl },
    (
      lit< tt,
      record { tried = refl; present = refl },
      (record { of_origin = lit< tt; present = refl; unmarked = refl }, tt, tt),
    ),
  ),
)

pub log-early : AreToldDraws write_journal.opening early_log → ⊥
log-early told = let marked : false ≡ true = told.1.marked in false≢true marked
