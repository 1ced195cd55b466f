use Rattle.std.proofs.Common.{ℕ, Option, Some, None, sym, ap, ◌∙◌, subst, inl, inr}
use Rattle.std.proofs.lemmas.Result.{err_from_is_err_and}
use Rattle.era_base.specs.CrashModel.{Went}
use Rattle.era_base.proofs.Moments.{went-none}
use Rattle.era_layout.specs.Root.{fields_of}
use Rattle.era_model.specs.Marks.{BlockMarks}
use Rattle.era_meta.specs.Digesting.{IsDigest, after_digest}
use Rattle.era_meta.specs.Held.{snapshot_root}
use Rattle.era_meta.specs.InMemory.{MetaStores}
use Rattle.era_meta.proofs.MetaDigests.{after-is}
use Rattle.era_meta.proofs.metadata.Meta.digest_step.Goals as goal

-- nothing is archived: the moment is that of before
pub returns-in-None-clause-moments : goal.returns-in-None-clause-moments
returns-in-None-clause-moments g c = λ told.
    let meta = c.args.self.now in let history = g.D.Disk.history meta.slots.disk in
    went-none (MetaStores meta (after_digest meta.marks)) history (λ image is.
    elim (c.kept_disk_leaves_its_meanings.ensures meta.slots.target meta.slots.number meta.slots.may_be_open (fields_of meta.root) (snapshot_root meta.snapshot)
    history.now (c.requires.ready.standing.stands told).keeps image is) [
      | inl stored ↦ inl (inl stored)
      | inr left ↦ inr left
    ])

-- a page, or a set
pub returns-in_err-digest_page-in-Some-default-Some-clause-moments : goal.returns-in_err-digest_page-in-Some-default-Some-clause-moments
returns-in_err-digest_page-in-Some-default-Some-clause-moments g c = λ told.
    let marks = c.args.self.now.marks in
    let step : IsDigest marks c.in-Some-default-Some.era (Some c.in-Some-default-Some.page) = sym c.next_digest.ensures ∙ c.in-Some-default-Some.is ∙ ap (λ (page : Option ℕ). Some (c.in-Some-default-Some.era, page)) c.in-Some-default-Some.field-0-1-is in
    subst (λ (m : BlockMarks). Went (MetaStores c.args.self.now m) (g.D.Disk.history c.args.self.now.slots.disk) (g.D.Disk.history c.digest_page.new.self.slots.disk))
    (after-is marks c.in-Some-default-Some.era (Some c.in-Some-default-Some.page) step) (c.digest_page.ensures.moments told)

pub returns-in_ok-digest_page-in-Some-default-Some-clause-moments : goal.returns-in_ok-digest_page-in-Some-default-Some-clause-moments
returns-in_ok-digest_page-in-Some-default-Some-clause-moments g c = λ told.
    let marks = c.args.self.now.marks in
    let step : IsDigest marks c.in-Some-default-Some.era (Some c.in-Some-default-Some.page) = sym c.next_digest.ensures ∙ c.in-Some-default-Some.is ∙ ap (λ (page : Option ℕ). Some (c.in-Some-default-Some.era, page)) c.in-Some-default-Some.field-0-1-is in
    subst (λ (m : BlockMarks). Went (MetaStores c.args.self.now m) (g.D.Disk.history c.args.self.now.slots.disk) (g.D.Disk.history c.digest_page.new.self.slots.disk))
    (after-is marks c.in-Some-default-Some.era (Some c.in-Some-default-Some.page) step) (c.digest_page.ensures.moments told)

pub returns-in_err-digest_set-in-Some-default-None-clause-moments : goal.returns-in_err-digest_set-in-Some-default-None-clause-moments
returns-in_err-digest_set-in-Some-default-None-clause-moments g c = λ told.
    let marks = c.args.self.now.marks in
    let step : IsDigest marks c.in-Some-default-None.era None = sym c.next_digest.ensures ∙ c.in-Some-default-None.is ∙ ap (λ (page : Option ℕ). Some (c.in-Some-default-None.era, page)) c.in-Some-default-None.field-0-1-is in
    subst (λ (m : BlockMarks). Went (MetaStores c.args.self.now m) (g.D.Disk.history c.args.self.now.slots.disk) (g.D.Disk.history c.digest_set.new.self.slots.disk))
    (after-is marks c.in-Some-default-None.era None step) (c.digest_set.ensures.moments told)

pub returns-in_ok-digest_set-in-Some-default-None-clause-moments : goal.returns-in_ok-digest_set-in-Some-default-None-clause-moments
returns-in_ok-digest_set-in-Some-default-None-clause-moments g c = λ told.
    let marks = c.args.self.now.marks in
    let step : IsDigest marks c.in-Some-default-None.era None = sym c.next_digest.ensures ∙ c.in-Some-default-None.is ∙ ap (λ (page : Option ℕ). Some (c.in-Some-default-None.era, page)) c.in-Some-default-None.field-0-1-is in
    subst (λ (m : BlockMarks). Went (MetaStores c.args.self.now m) (g.D.Disk.history c.args.self.now.slots.disk) (g.D.Disk.history c.digest_set.new.self.slots.disk))
    (after-is marks c.in-Some-default-None.era None step) (c.digest_set.ensures.moments told)

pub returns-in_err-digest_page-in-Some-default-Some-clause-step : goal.returns-in_err-digest_page-in-Some-default-Some-clause-step
returns-in_err-digest_page-in-Some-default-Some-clause-step g c =
    let marks = c.args.self.now.marks in
    let step : IsDigest marks c.in-Some-default-Some.era (Some c.in-Some-default-Some.page) = sym c.next_digest.ensures ∙ c.in-Some-default-Some.is ∙ ap (λ (page : Option ℕ). Some (c.in-Some-default-Some.era, page)) c.in-Some-default-Some.field-0-1-is in
    rw (err_from_is_err_and c.from_residual.result c.from_residual.ensures.1).1 (c.in-Some-default-Some.era, (Some c.in-Some-default-Some.page), step)

pub returns-in_err-digest_set-in-Some-default-None-clause-step : goal.returns-in_err-digest_set-in-Some-default-None-clause-step
returns-in_err-digest_set-in-Some-default-None-clause-step g c =
    let marks = c.args.self.now.marks in
    let step : IsDigest marks c.in-Some-default-None.era None = sym c.next_digest.ensures ∙ c.in-Some-default-None.is ∙ ap (λ (page : Option ℕ). Some (c.in-Some-default-None.era, page)) c.in-Some-default-None.field-0-1-is in
    rw (err_from_is_err_and c.from_residual-in_err-digest_set-in-Some-default-None.result c.from_residual-in_err-digest_set-in-Some-default-None.ensures.1).1 (c.in-Some-default-None.era, None, step)
