-- What a disk keeps that was opened and undamaged.
use Rattle.std.proofs.Common.{◌≡◌, ℕ, zero, suc, ◌+◌, ◌<◌, Bool, true, Option, refl, sym, ap, ◌∙◌, subst, arith}
use Rattle.era_base.specs.CrashModel.{State, IsClean}
use Rattle.era_layout.specs.Root.{RootFields, root_bytes}
use Rattle.era_slots.specs.Slot.{other, SlotIsOpen, commit_number, body_of, IsActive}
use Rattle.era_slots.specs.Standing.{IsDurable, Stands}
use Rattle.era_meta.specs.Meaning.{pages_in, reached, IsRootBody, IsWholeRoot, IsImageOf}
use Rattle.era_meta.specs.Keeping.{stored_in, HasRoom, Keeps}
use Rattle.era_meta.proofs.Agree.{all_weaker}
use Rattle.era_meta.proofs.Kept.{LiesIn, reached-lies}

-- an opened disk, its active slot, and the root there
pub record IsOpened (active target number : ℕ) (may_be_open : Bool) (root : RootFields) (held : Option RootFields) (now : State) : Type 0 where
  pub two : active < 2
  pub clean : IsClean now
  pub stands : Stands target number may_be_open now
  pub active_slot : IsActive active now.seen
  pub goes_to : target ≡ other active
  pub numbered : number ≡ commit_number active now.seen
  pub opened : may_be_open ≡ true → SlotIsOpen (other active) now.seen
  pub spelled : body_of active now.seen ≡ root_bytes root
  pub beside : SlotIsOpen (other active) now.seen → IsRootBody (body_of (other active) now.seen)
  pub whole : IsWholeRoot (pages_in now.seen) root held
  pub room : HasRoom root now

other-other : (slot : ℕ) → slot < 2 → other (other slot) ≡ slot
other-other zero lt = refl
other-other (suc zero) lt = refl
other-other (suc (suc slot)) lt = absurd (omega arith)

pub opened-keeps : (active target number : ℕ) (may_be_open : Bool) (root : RootFields) (held : Option RootFields) (now : State)
    → IsOpened active target number may_be_open root held now → Keeps target number may_be_open root held now
opened-keeps active target number may_be_open root held now o =
    let room = o.room in
    let back : other target ≡ active = ap other o.goes_to ∙ other-other active o.two in
    record {
      stands = o.stands;
      formatted = subst (λ (n : ℕ). 0 < n) (sym o.numbered) o.active_slot.numbered.0;
      spelled = ap (λ (slot : ℕ). body_of slot now.seen) back ∙ o.spelled;
      kept = record {
        whole = o.whole;
        room = o.room;
        durable = all_weaker (LiesIn root) (λ block. IsDurable block now) (reached root held)
            (λ block lies offset above below. let within = lies.1 in o.clean offset (omega arith))
            (reached-lies (pages_in now.seen) root held o.whole);
      };
      left = λ flag. record {
        spelled = subst (λ (slot : ℕ). IsRootBody (body_of slot now.seen)) (sym o.goes_to) (o.beside (o.opened flag));
        failed = λ next.
            let newest = o.active_slot.newest (o.opened flag) in
            let order : commit_number (other active) now.seen < commit_number active now.seen = newest.1 in
            let same : commit_number (other active) now.seen ≡ number + 1 = ap (λ (slot : ℕ). commit_number slot now.seen) (sym o.goes_to) ∙ next in
            let numbers = o.numbered in
            absurd (omega arith);
      };
    }

pub opened-image : (active target number : ℕ) (may_be_open : Bool) (root : RootFields) (held : Option RootFields) (now : State)
    → IsOpened active target number may_be_open root held now → IsImageOf (stored_in now root held) now.seen
opened-image active target number may_be_open root held now o = record {
  slot = active;
  two = o.two;
  active = o.active_slot;
  root = root;
  held = held;
  spelled = o.spelled;
  whole = o.whole;
  room = o.room;
  beside = o.beside;
  says = refl;
}
