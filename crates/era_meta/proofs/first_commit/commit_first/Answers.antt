use Rattle.std.proofs.Common.{◌≡◌, ℕ, ◌+◌, false, List, None, nat_lt, ap, sym, ◌∙◌, subst}
use Rattle.std.proofs.lemmas.Bool.{false≢true}
use Rattle.era_base.specs.CrashModel.{Went}
use Rattle.era_base.proofs.Moments.{went-now, went-wider}
use Rattle.era_layout.specs.Root.{fields_of, root_bytes}
use Rattle.era_slots.specs.Slot.{other}
use Rattle.era_slots.specs.Standing.{Stands}
use Rattle.era_slots.specs.Promise.{Commits, IsStored}
use Rattle.era_meta.specs.Formatting.{LeavesBlankOr}
use Rattle.era_meta.specs.Keeping.{stored_in, Keeps}
use Rattle.era_meta.proofs.Ends.{ok_map, at-fields}
use Rattle.era_meta.proofs.FirstKept.{first-says, first-moment, first-keeps, first-leave}
use Rattle.era_meta.proofs.first_commit.commit_first.Goals as goal

pub returns-clause-moments : goal.returns-clause-moments
returns-clause-moments g c = λ told.
    let next = fields_of c.args.next.now in
    let old = g.D.Disk.history c.args.slots.now.disk in
    let new = g.D.Disk.history c.commit.new.self.disk in
    went-wider (Commits 0 0 (root_bytes next)) (λ before now. LeavesBlankOr (stored_in before next None) now) old new
    (λ state commits. first-moment c.page_on_the_disk_is_left.ensures next old.now state (c.requires.may told) commits)
    (subst (λ (t : ℕ). Went (Commits t 0 (root_bytes next)) old new) c.requires.blank.target
    (subst (λ (n : ℕ). Went (Commits c.args.slots.now.target n (root_bytes next)) old new) c.requires.blank.number
    (subst (λ (bytes : List ℕ). Went (Commits c.args.slots.now.target c.args.slots.now.number bytes) old new) c.encode_root.ensures
    (c.commit.ensures.moments told))))

pub returns-clause-ok : goal.returns-clause-ok
returns-clause-ok g c = ok_map c.commit.result (λ stored.
    let slots = c.commit.new.self in
    let target : slots.target ≡ 1 = stored.target ∙ ap (λ (t : ℕ). other t) c.requires.blank.target in
    let number : slots.number ≡ 1 = stored.number ∙ ap (λ (n : ℕ). n + 1) c.requires.blank.number in
    let flag : slots.may_be_open ≡ false = stored.may_be_open ∙ ap (λ (n : ℕ). nat_lt 0 n) c.requires.blank.number in (
      number,
      stored.calls,
      λ told.
          let next = fields_of c.args.next.now in
          let old = g.D.Disk.history c.args.slots.now.disk in
          let new = g.D.Disk.history slots.disk in
          let commits = went-now (Commits 0 0 (root_bytes next)) old new
          (subst (λ (t : ℕ). Went (Commits t 0 (root_bytes next)) old new) c.requires.blank.target
          (subst (λ (n : ℕ). Went (Commits c.args.slots.now.target n (root_bytes next)) old new) c.requires.blank.number
          (subst (λ (bytes : List ℕ). Went (Commits c.args.slots.now.target c.args.slots.now.number bytes) old new) c.encode_root.ensures
          (c.commit.ensures.moments told)))) in
          let is : IsStored 0 0 (root_bytes next) new.now
          = subst (λ (t : ℕ). IsStored t 0 (root_bytes next) new.now) c.requires.blank.target
          (subst (λ (n : ℕ). IsStored c.args.slots.now.target n (root_bytes next) new.now) c.requires.blank.number
          (subst (λ (bytes : List ℕ). IsStored c.args.slots.now.target c.args.slots.now.number bytes new.now) c.encode_root.ensures
          (stored.stored told))) in
          let stands : Stands 1 1 false new.now
          = at-fields (λ t n f. Stands t n f new.now) slots.target 1 slots.number 1 slots.may_be_open false (sym target) (sym number) (sym flag)
          (c.commit.ensures.stands told) in
          let may = c.requires.may told in
          let keeps = first-keeps next old.now new.now may commits is stands in
          record {
            keeps = at-fields (λ t n f. Keeps t n f next None new.now) 1 slots.target 1 slots.number false slots.may_be_open target number flag keeps;
            says = first-says next old.now new.now may commits;
            images = first-leave c.page_on_the_disk_is_left.ensures c.standing_slots_leave_one_of_two_bodies.ensures
                c.open_slot_is_left_as_it_reads.ensures next old.now new.now may commits keeps;
            alone = λ opened left was. false≢true (sym flag ∙ opened);
          },
    )) c.commit.ensures.stored
