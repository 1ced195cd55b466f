use Rattle.std.proofs.Common.{◌≡◌, ℕ, ◌+◌, true, List, refl, sym, ◌∙◌, subst}
use Rattle.std.proofs.lemmas.Bool.{lt-ltb}
use Rattle.era_base.specs.CrashModel.{Went}
use Rattle.era_base.proofs.Moments.{went-now, went-wider}
use Rattle.era_layout.specs.Root.{fields_of, root_bytes}
use Rattle.era_slots.specs.Slot.{other}
use Rattle.era_slots.specs.Standing.{Stands}
use Rattle.era_slots.specs.Promise.{Commits, IsStored, IsFailed}
use Rattle.era_meta.specs.Meaning.{Meaning, IsImageOf}
use Rattle.era_meta.specs.Keeping.{stored_in, Keeps, IsLeft, LeavesEither}
use Rattle.era_meta.proofs.Committed.{commits-leave, commits-says, next-says, stored-alone, stored-keeps, stored-leave, failed-keeps, failed-left}
use Rattle.era_meta.proofs.Ends.{ok_map, err_map, at-fields}
use Rattle.era_meta.proofs.commits.commit_root.Goals as goal

pub returns-clause-moments : goal.returns-clause-moments
returns-clause-moments g c = λ told root held held_next may.
    let next = fields_of c.args.next.now in
    let old = g.D.Disk.history c.args.slots.now.disk in
    let new = g.D.Disk.history c.commit.new.self.disk in
    went-wider (Commits c.args.slots.now.target c.args.slots.now.number (root_bytes next))
    (λ before now. LeavesEither (stored_in before root held) (stored_in before next held_next) now) old new
    (λ state commits. commits-leave c.page_on_the_disk_is_left.ensures c.standing_slots_leave_one_of_two_bodies.ensures c.open_slot_is_left_as_it_reads.ensures
    c.bytes_are_of_one_root.ensures c.args.slots.now.target c.args.slots.now.number root next held held_next old.now state may commits)
    (subst (λ (bytes : List ℕ). Went (Commits c.args.slots.now.target c.args.slots.now.number bytes) old new) c.encode_root.ensures (c.commit.ensures.moments told))

pub returns-clause-ok : goal.returns-clause-ok
returns-clause-ok g c = ok_map c.commit.result (λ stored. (
  (λ told root held held_next may.
      let target = c.args.slots.now.target in
      let number = c.args.slots.now.number in
      let next = fields_of c.args.next.now in
      let old = g.D.Disk.history c.args.slots.now.disk in
      let new = g.D.Disk.history c.commit.new.self.disk in
      let commits = went-now (Commits target number (root_bytes next)) old new
      (subst (λ (bytes : List ℕ). Went (Commits target number bytes) old new) c.encode_root.ensures (c.commit.ensures.moments told)) in
      let is : IsStored target number (root_bytes next) new.now
      = subst (λ (bytes : List ℕ). IsStored target number bytes new.now) c.encode_root.ensures (stored.stored told) in
      let flag : c.commit.new.self.may_be_open ≡ true = stored.may_be_open ∙ lt-ltb 0 number may.keeps.formatted in
      let stands : Stands (other target) (number + 1) true new.now
      = at-fields (λ t n f. Stands t n f new.now) c.commit.new.self.target (other target) c.commit.new.self.number (number + 1) c.commit.new.self.may_be_open true
      (sym stored.target) (sym stored.number) (sym flag) (c.commit.ensures.stands told) in
      record {
        keeps = at-fields (λ t n f. Keeps t n f next held_next new.now) (other target) c.commit.new.self.target (number + 1) c.commit.new.self.number true
            c.commit.new.self.may_be_open stored.target stored.number flag
            (stored-keeps target number root next held held_next old.now new.now may commits is stands);
        says = next-says target number root next held held_next old.now new.now may commits;
        images = λ image left. subst (λ (meaning : Meaning). IsImageOf meaning image)
            (next-says target number root next held held_next old.now new.now may commits)
            (stored-leave c.page_on_the_disk_is_left.ensures c.standing_slots_leave_one_of_two_bodies.ensures c.open_slot_is_left_as_it_reads.ensures
            target number root next held held_next old.now new.now may commits is stands image left);
        alone = λ opened left was. stored-alone target number (root_bytes next) new.now left may.keeps.formatted is
            (at-fields (λ t n f. IsLeft t n left new.now) c.commit.new.self.target (other target) c.commit.new.self.number (number + 1) c.commit.new.self.may_be_open true
            (sym stored.target) (sym stored.number) (sym flag) was);
      }),
  record { target = stored.target; number = stored.number; may_be_open = stored.may_be_open },
  stored.calls,
)) c.commit.ensures.stored

pub returns-clause-err : goal.returns-clause-err
returns-clause-err g c = err_map c.commit.result (λ failed. (
  (λ told root held held_next may.
      let target = c.args.slots.now.target in
      let number = c.args.slots.now.number in
      let flag = c.commit.new.self.may_be_open in
      let next = fields_of c.args.next.now in
      let old = g.D.Disk.history c.args.slots.now.disk in
      let new = g.D.Disk.history c.commit.new.self.disk in
      let commits = went-now (Commits target number (root_bytes next)) old new
      (subst (λ (bytes : List ℕ). Went (Commits target number bytes) old new) c.encode_root.ensures (c.commit.ensures.moments told)) in
      let is : IsFailed target number flag (root_bytes next) old.now new.now
      = subst (λ (bytes : List ℕ). IsFailed target number flag bytes old.now new.now) c.encode_root.ensures (failed.failed told) in
      let stands : Stands target number flag new.now
      = at-fields (λ t n f. Stands t n f new.now) c.commit.new.self.target target c.commit.new.self.number number flag flag
      (sym failed.next.target) (sym failed.next.number) refl (c.commit.ensures.stands told) in
      record {
        keeps = at-fields (λ t n f. Keeps t n f root held new.now) target c.commit.new.self.target number c.commit.new.self.number flag flag
            failed.next.target failed.next.number refl
            (failed-keeps target number flag root next held held_next old.now new.now may commits stands is);
        says = commits-says target number root next held held_next old.now new.now may commits;
        left = λ opened left was. failed-left c.bytes_are_of_one_root.ensures target number flag root next held held_next old.now new.now may commits is opened left
            (at-fields (λ t n f. IsLeft t n left new.now) c.commit.new.self.target target c.commit.new.self.number number flag flag
            (sym failed.next.target) (sym failed.next.number) refl was);
      }),
  failed.next,
)) c.commit.ensures.failed
