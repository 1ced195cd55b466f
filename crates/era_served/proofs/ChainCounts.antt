-- Counts of faults over commands that a session served, one after the other, and what stays of the session.
use Rattle.std.proofs.Common.{◌≡◌, ℕ, zero, suc, Bool, true, false, List, [], ◌∷◌, refl, sym, ap, ◌∙◌, subst, inl, inr, arith}
use Rattle.std.specs.Prelude.{Contains}
use Rattle.std.proofs.lemmas.Bool.{false≢true, or_cases}
use Rattle.era_base.specs.Faults.{NoneRose, Rose}
use Rattle.era_base.specs.declared.disk.Disk.{Ghosts}
use Rattle.era_base.specs.declared.geometry.Geometry.{Geometry}
use Rattle.era_model.specs.declared.command.Task.{Task}
use Rattle.era_model.specs.declared.opening.Opening.{Opening}
use Rattle.era_model.specs.declared.reply.Answer.{Answer}
use Rattle.era_model.specs.declared.reply.Answer.TheVariants.{Fault}
use Rattle.era_model.specs.declared.reply.Device.TheVariants.{Data as DataDevice, Meta as MetaDevice}
use Rattle.era_served.proofs.StepCounts.{StaysUp, rose-then, task-counts, tells-earlier, tells-later, up-itself, up-then}
use Rattle.era_served.specs.Counts.{EachCount, HasNotFallen, IsToldCount, KeepsUp, SomeCount, TellsFault, metadata_faults, place_of_task, some_tells_fault, stripe_of_place, stripe_of_task, tells_fault}
use Rattle.era_served.specs.Served.{HasServedAll, Served}
use Rattle.era_session.proofs.AtStripes.{session-itself, session-then}
use Rattle.era_session.specs.Sessions.{SameSession, SessionFits, SessionStands}
use Rattle.era_session.specs.declared.session.Session.{Session}

-- no disk's count falls
pub all-up : {D : Type 0} (disk : Ghosts D) (served : List Served) (first last : Session D) → HasServedAll disk served first last → StaysUp disk first last
all-up {D} disk [] first last all = subst (λ (s : Session D). StaysUp disk first s) (sym all) (up-itself disk first)
all-up disk (one ∷ more) first last (between, did, rest) =
    up-then disk first between last (task-counts disk one.command.id one.command.task one.answer first between did.did).up (all-up disk more between last rest)

-- plan, stripes and devices stay
pub all-same : {D : Type 0} (disk : Ghosts D) (served : List Served) (first last : Session D) → HasServedAll disk served first last → SameSession disk first last
all-same {D} disk [] first last all = subst (λ (s : Session D). SameSession disk first s) (sym all) (session-itself disk first)
all-same disk (one ∷ more) first last (between, did, rest) = session-then disk first between last did.same (all-same disk more between last rest)

pub all-fit : {D : Type 0} (disk : Ghosts D) (served : List Served) (first last : Session D) → HasServedAll disk served first last → SessionFits disk first → SessionFits disk last
all-fit {D} disk [] first last all fits = subst (λ (s : Session D). SessionFits disk s) (sym all) fits
all-fit disk (one ∷ more) first last (between, did, rest) fits = all-fit disk more between last rest did.fits'

pub all-stand : {D : Type 0} (disk : Ghosts D) (opening : Opening) (served : List Served) (first last : Session D) → HasServedAll disk served first last → SessionStands disk opening first → SessionStands disk opening last
all-stand {D} disk opening [] first last all stands = subst (λ (s : Session D). SessionStands disk opening s) (sym all) stands
all-stand disk opening (one ∷ more) first last (between, did, rest) stands = all-stand disk opening more between last rest (did.stands opening stands)

-- the stripe of a task is the same in a session of the same plan
place-stays : {D : Type 0} (disk : Ghosts D) (task : Task) (old new : Session D) → SameSession disk old new → stripe_of_task new task ≡ stripe_of_task old task
place-stays disk task old new same =
    ap (λ (g : Geometry). stripe_of_place new.each (place_of_task g task)) same.plan.geometry
    ∙ ap (λ each. stripe_of_place each (place_of_task old.geometry task)) same.plan.each

-- each fault that is told is one of its device over all commands
pub all-tell : {D : Type 0} (disk : Ghosts D) (served : List Served) (one : Served) (first last : Session D) → HasServedAll disk served first last → Contains served one → TellsFault disk one.command.task one.answer first last
all-tell disk [] one first last all (k, low, is) = absurd (omega (arith, low))
all-tell disk (other ∷ more) one first last (between, did, rest) (zero, low, is) =
    subst (λ (same : Served). TellsFault disk same.command.task same.answer first last) is
    (tells-later disk other.command.task other.answer first between last (all-up disk more between last rest)
    (task-counts disk other.command.id other.command.task other.answer first between did.did).tells)
all-tell disk (other ∷ more) one first last (between, did, rest) (suc k, low, is) =
    let step = task-counts disk other.command.id other.command.task other.answer first between did.did in
    tells-earlier disk one.command.task one.answer first between last step.up (place-stays disk one.command.task first between did.same)
    (all-tell disk more one between last rest (k, omega (arith, low), is))

-- a command that was answered with a fault
some-fault : (served : List Served) → some_tells_fault served ≡ true → (one : Served) × Contains served one × (tells_fault one.answer ≡ true)
some-fault [] is = absurd (false≢true is)
some-fault (one ∷ more) is = elim (or_cases (tells_fault one.answer) (some_tells_fault more) is) [
  | inl here ↦ (one, (0, omega arith, refl), here)
  | inr there ↦
      let found = some-fault more there in
      (found.0, (suc found.1.0, omega (arith, found.1.1), found.1.2), found.2)
]

rose-told : (count before now : ℕ) → IsToldCount count before now → Rose before now
rose-told count before now told = rose-then before count now told.0 told.1

fault-rose : {D : Type 0} (disk : Ghosts D) (task : Task) (answer : Answer) (first last : Session D) → tells_fault answer ≡ true → TellsFault disk task answer first last → SomeCount disk Rose first last
fault-rose disk task (Fault DataDevice count) first last is tells = inl (
  tells.0,
  record {
    before = tells.2.before;
    after = tells.2.after;
    found = tells.2.found;
    left = tells.2.left;
    relates = rose-told count (disk.faults tells.2.before.disk) (disk.faults tells.2.after.disk) tells.2.relates;
  },
)
fault-rose disk task (Fault MetaDevice count) first last is tells = inr (rose-told count (metadata_faults disk first) (metadata_faults disk last) tells)
fault-rose disk task answer first last is tells = absurd (false≢true is)

pub all-rose : {D : Type 0} (disk : Ghosts D) (served : List Served) (first last : Session D) → HasServedAll disk served first last → some_tells_fault served ≡ true → SomeCount disk Rose first last
all-rose disk served first last all is =
    let found = some-fault served is in
    fault-rose disk found.0.command.task found.0.answer first last found.2 (all-tell disk served found.0 first last all found.1)

-- a count that stays below the greatest didn't rise
not-both : (before now : ℕ) → Rose before now → NoneRose before now → ⊥
not-both before now rose none = let same = none.same in let below = none.below in omega (arith, rose, same, below)

none-some : {D : Type 0} (disk : Ghosts D) (first last : Session D) → EachCount disk NoneRose first last → SomeCount disk Rose first last → ⊥
none-some disk first last none (inl some) =
    let at = some.1 in
    not-both (disk.faults at.before.disk) (disk.faults at.after.disk) at.relates (none.parts some.0 at.before at.after at.found at.left)
none-some disk first last none (inr some) = not-both (metadata_faults disk first) (metadata_faults disk last) some none.metadata

not-true : (flag : Bool) → (flag ≡ true → ⊥) → flag ≡ false
not-true true denied = absurd (denied refl)
not-true false denied = refl

pub none-tell : {D : Type 0} (disk : Ghosts D) (served : List Served) (first last : Session D) → HasServedAll disk served first last → EachCount disk NoneRose first last → some_tells_fault served ≡ false
none-tell disk served first last all none = not-true (some_tells_fault served) (λ is. none-some disk first last none (all-rose disk served first last all is))

pub one-quiet : {D : Type 0} (disk : Ghosts D) (served : List Served) (one : Served) (first last : Session D) → HasServedAll disk served first last → Contains served one → EachCount disk NoneRose first last → tells_fault one.answer ≡ false
one-quiet disk served one first last all has none = not-true (tells_fault one.answer) (λ is.
    none-some disk first last none (fault-rose disk one.command.task one.answer first last is (all-tell disk served one first last all has)))

-- counts that are of a `u64`
keeps-up : (before now : ℕ) → HasNotFallen before now → KeepsUp before now
keeps-up before now stays low = omega (arith, stays, low)

pub up-of_u64 : {D : Type 0} (disk : Ghosts D) (old new : Session D) → EachCount disk HasNotFallen old new → EachCount disk KeepsUp old new
up-of_u64 disk old new up = record {
  parts = λ k before after at there. keeps-up (disk.faults before.disk) (disk.faults after.disk) (up.parts k before after at there);
  metadata = keeps-up (metadata_faults disk old) (metadata_faults disk new) up.metadata;
}
