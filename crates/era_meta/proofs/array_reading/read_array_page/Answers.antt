use Rattle.std.proofs.Common.{◌≡◌, ℕ, ◌-◌, ◌*◌, ◌+◌, ◌<◌, min, List, [], ◌∷◌, length, Ok, Err, refl, sym, ap, ◌∙◌, subst}
use Rattle.era_base.specs.CrashModel.{State}
use Rattle.era_base.proofs.Moments.{went-now}
use Rattle.era_layout.specs.Pages.{IsArrayPage}
use Rattle.era_slots.specs.Slot.{page_of}
use Rattle.era_meta.specs.Damage.{ArrayPage, IsArrayDamage}
use Rattle.era_meta.specs.PageParts.{IsArrayPageOf}
use Rattle.era_meta.specs.Walks.{Walked}
use Rattle.era_meta.proofs.PageReads.{read-found, read-passed, damage-no-fault, array-found, page-says, entries-limited}
use Rattle.era_meta.proofs.array_reading.read_array_page.Goals as goal

pub returns-in-Err-test_array_page-clause-walked :
    goal.returns-in-Err-test_array_page-clause-walked
returns-in-Err-test_array_page-clause-walked g c =
    let entries : c.entries_of-entries.result ≡ min 1024 (length c.args.into.now - 1024 * c.args.index)
    = c.entries_of-entries.ensures ∙ ap (λ (eras : List ℕ). min 1024 (length eras - 1024 * c.args.index)) c.as_slice.ensures in
    let f = c.in-Err-test_array_page.finding in
    subst (λ (n : ℕ). Walked {T = Unit {0}} g.D.Disk (ArrayPage c.args.block n c.args.limit ∷ []) c.args.slots.now c.read_page.new.self (Err f)) entries
    (read-found g.D.Disk (ArrayPage c.args.block c.entries_of-entries.result c.args.limit ∷ []) c.args.slots.now c.read_page.new.self f
    c.in-Ok.ensures.moments c.in-Ok.ensures.calls c.in-Ok.ensures.same c.in-Ok.ensures.cause
    (damage-no-fault c.args.block (IsArrayDamage c.read_page.new.into c.entries_of-entries.result c.args.limit) f c.in-Err-test_array_page.ensures)
    (λ told. array-found (g.D.Disk.history c.read_page.new.self.disk).now.seen c.read_page.new.into c.args.block c.entries_of-entries.result c.args.limit f
    (c.in-Ok.ensures.read told) c.in-Err-test_array_page.ensures))

pub returns-clause-walked : goal.returns-clause-walked
returns-clause-walked g c =
    let entries : c.entries_of-entries.result ≡ min 1024 (length c.args.into.now - 1024 * c.args.index)
    = c.entries_of-entries.ensures ∙ ap (λ (eras : List ℕ). min 1024 (length eras - 1024 * c.args.index)) c.as_slice.ensures in
    subst (λ (n : ℕ). Walked {T = Unit {0}} g.D.Disk (ArrayPage c.args.block n c.args.limit ∷ []) c.args.slots.now c.read_page.new.self (Ok tt)) entries
    (read-passed g.D.Disk (ArrayPage c.args.block c.entries_of-entries.result c.args.limit ∷ []) c.args.slots.now c.read_page.new.self tt
    c.in-Ok.ensures.moments c.in-Ok.ensures.calls c.in-Ok.ensures.same c.in-Ok.ensures.cause refl
    (λ told. (subst (λ (bytes : List ℕ). IsArrayPage bytes c.entries_of-entries.result c.args.limit) (c.in-Ok.ensures.read told) c.in-Ok-test_array_page.ensures, tt)))

pub returns-clause-says : goal.returns-clause-says
returns-clause-says g c = λ told.
    let entries : c.entries_of-entries.result ≡ min 1024 (length c.args.into.now - 1024 * c.args.index)
    = c.entries_of-entries.ensures ∙ ap (λ (eras : List ℕ). min 1024 (length eras - 1024 * c.args.index)) c.as_slice.ensures in
    let size = c.take_entries.ensures.size in
    let same = went-now (λ before now. now ≡ before) (g.D.Disk.history c.args.slots.now.disk) (g.D.Disk.history c.read_page.new.self.disk) (c.in-Ok.ensures.moments told) in
    subst (IsArrayPageOf c.take_entries.new.into c.args.index) (c.in-Ok.ensures.read told ∙ ap (λ (state : State). page_of c.args.block state.seen) same)
    (page-says c.take_entries.new.into c.read_page.new.into c.args.index c.entries_of-entries.result c.args.limit
    (entries ∙ ap (λ (n : ℕ). min 1024 (n - 1024 * c.args.index)) (sym size)) c.in-Ok-test_array_page.ensures
    (λ entry lt within. c.take_entries.ensures.own entry lt (subst (λ (n : ℕ). 1024 * c.args.index + entry < n) size within)))

pub returns-clause-limited : goal.returns-clause-limited
returns-clause-limited g c =
    entries-limited c.args.into.now c.take_entries.new.into c.read_page.new.into c.args.index c.entries_of-entries.result c.args.limit
    c.take_entries.ensures.size c.in-Ok-test_array_page.ensures c.take_entries.ensures.own c.take_entries.ensures.others c.requires.limited
