use Rattle.std.proofs.Common.{◌≡◌, ℕ, ◌-◌, ◌*◌, ◌+◌, ◌<◌, min, List, [], ◌∷◌, length, Ok, Err, refl, sym, ap, ◌∙◌, subst}
use Rattle.era_base.specs.CrashModel.{State}
use Rattle.era_base.proofs.Moments.{went-now}
use Rattle.era_layout.specs.Pages.{FlagsEndAt}
use Rattle.era_slots.specs.Slot.{page_of}
use Rattle.era_meta.specs.Damage.{BitsPage, IsBitsDamage}
use Rattle.era_meta.specs.PageParts.{IsBitsPageOf}
use Rattle.era_meta.specs.Walks.{Walked}
use Rattle.era_meta.proofs.PageReads.{read-found, read-passed, damage-no-fault, bits-found, bits-say}
use Rattle.era_meta.proofs.set_reading.read_bits_page.Goals as goal

pub returns-in-Err-test_bits_page-clause-walked :
    goal.returns-in-Err-test_bits_page-clause-walked
returns-in-Err-test_bits_page-clause-walked g c =
    let bits : c.bits_of-bits.result ≡ min 32768 (length c.args.into.now - 32768 * c.args.index)
    = c.bits_of-bits.ensures ∙ ap (λ (n : ℕ). min 32768 (n - 32768 * c.args.index)) c.len.ensures in
    let f = c.in-Err-test_bits_page.finding in
    subst (λ (n : ℕ). Walked {T = Unit {0}} g.D.Disk (BitsPage c.args.block n ∷ []) c.args.slots.now c.read_page.new.self (Err f)) bits
    (read-found g.D.Disk (BitsPage c.args.block c.bits_of-bits.result ∷ []) c.args.slots.now c.read_page.new.self f
    c.in-Ok.ensures.moments c.in-Ok.ensures.calls c.in-Ok.ensures.same c.in-Ok.ensures.cause
    (damage-no-fault c.args.block (IsBitsDamage c.read_page.new.into c.bits_of-bits.result) f c.in-Err-test_bits_page.ensures)
    (λ told. bits-found (g.D.Disk.history c.read_page.new.self.disk).now.seen c.read_page.new.into c.args.block c.bits_of-bits.result f
    (c.in-Ok.ensures.read told) c.in-Err-test_bits_page.ensures))

pub returns-clause-walked : goal.returns-clause-walked
returns-clause-walked g c =
    let bits : c.bits_of-bits.result ≡ min 32768 (length c.args.into.now - 32768 * c.args.index)
    = c.bits_of-bits.ensures ∙ ap (λ (n : ℕ). min 32768 (n - 32768 * c.args.index)) c.len.ensures in
    subst (λ (n : ℕ). Walked {T = Unit {0}} g.D.Disk (BitsPage c.args.block n ∷ []) c.args.slots.now c.read_page.new.self (Ok tt)) bits
    (read-passed g.D.Disk (BitsPage c.args.block c.bits_of-bits.result ∷ []) c.args.slots.now c.read_page.new.self tt
    c.in-Ok.ensures.moments c.in-Ok.ensures.calls c.in-Ok.ensures.same c.in-Ok.ensures.cause refl
    (λ told. (subst (λ (bytes : List ℕ). FlagsEndAt bytes c.bits_of-bits.result) (c.in-Ok.ensures.read told) c.in-Ok-test_bits_page.ensures, tt)))

pub returns-clause-says : goal.returns-clause-says
returns-clause-says g c = λ told.
    let bits : c.bits_of-bits.result ≡ min 32768 (length c.args.into.now - 32768 * c.args.index)
    = c.bits_of-bits.ensures ∙ ap (λ (n : ℕ). min 32768 (n - 32768 * c.args.index)) c.len.ensures in
    let size = c.take_bits.ensures.size in
    let same = went-now (λ before now. now ≡ before) (g.D.Disk.history c.args.slots.now.disk) (g.D.Disk.history c.read_page.new.self.disk) (c.in-Ok.ensures.moments told) in
    subst (IsBitsPageOf c.take_bits.new.into c.args.index) (c.in-Ok.ensures.read told ∙ ap (λ (state : State). page_of c.args.block state.seen) same)
    (bits-say c.take_bits.new.into c.read_page.new.into c.args.index c.bits_of-bits.result
    (bits ∙ ap (λ (n : ℕ). min 32768 (n - 32768 * c.args.index)) (sym size)) c.in-Ok-test_bits_page.ensures
    (λ bit lt within. c.take_bits.ensures.own bit lt (subst (λ (n : ℕ). 32768 * c.args.index + bit < n) size within)))
