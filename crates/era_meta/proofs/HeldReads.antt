-- What was read of a held root and its pages.
use Rattle.std.proofs.Common.{◌≡◌, ℕ, ◌*◌, ◌≤◌, true, List, [], ◌∷◌, Result, Ok, sym, ap, ◌∙◌, subst, arith}
use Rattle.era_base.specs.Geometry.{blocks_of, need_of}
use Rattle.era_base.specs.CrashModel.{State}
use Rattle.era_base.proofs.Moments.{went-now}
use Rattle.era_base.specs.declared.disk.Disk.{Ghosts}
use Rattle.era_layout.specs.Damage.{fields_at}
use Rattle.era_layout.specs.Root.{RootFields, root_bytes, IsValidRoot}
use Rattle.era_slots.specs.declared.slots.Slots.{Slots}
use Rattle.era_meta.specs.Areas.{HasPageLists}
use Rattle.era_meta.specs.Content.{blocks_of_root}
use Rattle.era_meta.specs.Damage.{HeldRoot, HeldSize, held_body, held_in, page_tests, held_tests, root_tests}
use Rattle.era_meta.specs.declared.finding.Finding.{Finding}
use Rattle.era_meta.specs.Reading.{IsHeldBy}
use Rattle.era_meta.specs.Stored.{HasBlocks}
use Rattle.era_meta.specs.Walks.{Walked}
use Rattle.era_meta.proofs.Undamaged.{ReadBack}
use Rattle.era_meta.proofs.Walking.{walked-as, walked-then}

pub held-is : ReadBack → (seen : List ℕ) (held : RootFields) → IsValidRoot held → held_body seen ≡ root_bytes held → held_in seen ≡ held
held-is back seen held valid spelled = ap fields_at spelled ∙ back held valid

pub same-blocks : (root held : RootFields) → IsHeldBy root held → blocks_of_root held ≡ blocks_of_root root
same-blocks root held by = ap (λ (n : ℕ). blocks_of n held.block_sectors) by.size.0 ∙ ap (λ (n : ℕ). blocks_of root.sectors n) by.size.1

pub held-room : (root held : RootFields) (sectors sectors' : ℕ) → IsHeldBy root held → sectors' ≡ sectors → HasBlocks root sectors → HasBlocks held sectors'
held-room root held sectors sectors' by same room =
    subst (λ (n : ℕ). need_of n * 8 ≤ sectors') (sym (same-blocks root held by)) (subst (λ (n : ℕ). need_of (blocks_of_root root) * 8 ≤ n) (sym same) room)

pub held-lists : (root held : RootFields) → IsHeldBy root held → HasPageLists (blocks_of_root root) held []
held-lists root held by =
    let count = by.valid.count in
    subst (λ (n : ℕ). HasPageLists n held []) (same-blocks root held by) (record {
      array = by.valid.array;
      current = by.valid.current;
      sets = by.valid.sets;
      spare = tt;
      count = omega (arith, count);
    })

-- the held root, and then its pages
pub held-walked : {D T U : Type 0} (disk : Ghosts D) (sectors block_sectors : ℕ) (seen : List ℕ) (held : RootFields) (old mid new : Slots D) (value : T) (result : Result U Finding)
    → (disk.tells ≡ true → held_in seen ≡ held) → Walked disk (HeldRoot ∷ HeldSize sectors block_sectors ∷ []) old mid (Ok value) → Walked disk (page_tests held) mid new result
    → Walked disk (HeldRoot ∷ HeldSize sectors block_sectors ∷ page_tests (held_in seen)) old new result
held-walked disk sectors block_sectors seen held old mid new value result is one two =
    walked-as disk (HeldRoot ∷ HeldSize sectors block_sectors ∷ page_tests held) (HeldRoot ∷ HeldSize sectors block_sectors ∷ page_tests (held_in seen)) old new result
    (λ told. ap (λ (root : RootFields). HeldRoot ∷ HeldSize sectors block_sectors ∷ page_tests root) (sym (is told)))
    (walked-then disk (HeldRoot ∷ HeldSize sectors block_sectors ∷ []) (page_tests held) old mid new value result one two)

-- the root's pages, and then what it holds
pub parts-walked : {D T U : Type 0} (disk : Ghosts D) (root : RootFields) (old mid new : Slots D) (value : T) (result : Result U Finding)
    → Walked disk (page_tests root) old mid (Ok value) → Walked disk (held_tests root (held_in (disk.history mid.disk).now.seen)) mid new result
    → Walked disk (root_tests root (held_in (disk.history old.disk).now.seen)) old new result
parts-walked disk root old mid new value result one two =
    walked-then disk (page_tests root) (held_tests root (held_in (disk.history old.disk).now.seen)) old mid new value result one
    (walked-as disk (held_tests root (held_in (disk.history mid.disk).now.seen)) (held_tests root (held_in (disk.history old.disk).now.seen)) mid new result
    (λ told. ap (λ (state : State). held_tests root (held_in state.seen))
    (went-now (λ before now. now ≡ before) (disk.history old.disk) (disk.history mid.disk) (one.told told).went)) two)
