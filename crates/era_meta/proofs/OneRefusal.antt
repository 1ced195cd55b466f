-- Trials of a disk: one is refused at most, and all hold exactly where the disk stands for a meaning.
use Rattle.std.proofs.Common.{◌≡◌, ℕ, ◌+◌, ◌*◌, ◌<◌, ◌≤◌, List, [], ◌∷◌, length, map, sym, ap, ◌∙◌, arith, inl, inr}
use Rattle.std.proofs.lemmas.Bool.{cases_lt}
use Rattle.std.proofs.lemmas.Grind.{div_ceil_times}
use Rattle.era_base.specs.Geometry.{blocks_of, need_of}
use Rattle.era_meta.specs.Content.{blocks_of_root}
use Rattle.era_meta.specs.declared.refusal.MetaError.{MetaError}
use Rattle.era_meta.specs.declared.refusal.MetaError.TheVariants.{Damaged}
use Rattle.era_meta.specs.Damage.{Damage, SlotRoot, Passes, root_in, held_in, root_tests}
use Rattle.era_meta.specs.Meaning.{Meaning, IsImageOf}
use Rattle.era_meta.specs.Openings.{AreOneRefusal}
use Rattle.era_meta.specs.Trials.{Trial, Room, Calls, Formatted, Undamaged, SameAs, EraLeft, NumbersLeft, Holds, Refuses, HoldAll, RefusesFirst, look_trials, number_trials, opened_trials, root_trials}
use Rattle.era_meta.proofs.Agree.{all_front, all_back, all_both}
use Rattle.era_meta.proofs.OneDamage.{NoneOfRoot, NoneOfHeld, finds-one, pass-or-find}
use Rattle.era_meta.proofs.Refusals.{hold-pass, number_tests, pass-hold}
use Rattle.era_meta.proofs.Tried.{slot_roots}
use Rattle.era_meta.proofs.Undamaged.{ReadBack, stands-undamaged, undamaged-stands}

-- a trial that holds refuses nothing
hold-or-refuse : NoneOfRoot → NoneOfHeld → (have : ℕ) (seen : List ℕ) (trial : Trial) (error : MetaError) → Holds have seen trial → Refuses have seen trial error → ⊥
hold-or-refuse none held have seen (Room need) error holds refuses = let less = refuses.0 in omega arith
hold-or-refuse none held have seen (Calls count) error holds refuses = refuses
hold-or-refuse none held have seen Formatted error holds refuses = holds refuses.0
hold-or-refuse none held have seen (Undamaged test) error holds refuses = pass-or-find none held seen test refuses.0 holds refuses.1
hold-or-refuse none held have seen (SameAs asked) error holds refuses = refuses.0 holds
hold-or-refuse none held have seen EraLeft error holds refuses = holds refuses.0
hold-or-refuse none held have seen NumbersLeft error holds refuses = let great = refuses.0 in omega arith

refuses-one : (have : ℕ) (seen : List ℕ) (trial : Trial) (one two : MetaError) → Refuses have seen trial one → Refuses have seen trial two → AreOneRefusal one two
refuses-one have seen (Room need) one two first second = inl (first.1 ∙ sym second.1)
refuses-one have seen (Calls count) one two first second = absurd first
refuses-one have seen Formatted one two first second = inl (first.1 ∙ sym second.1)
refuses-one have seen (Undamaged test) one two first second =
    inl (first.2 ∙ (ap (λ (found : Damage). Damaged found.kind found.block) (finds-one seen test first.0 second.0 first.1 second.1) ∙ sym second.2))
refuses-one have seen (SameAs asked) one two first second =
    let kept = first.1 in
    let other = second.1 in
    inr (kept.0, other.0, asked, kept.2, other.2, sym kept.1.0 ∙ other.1.0, sym kept.1.1 ∙ other.1.1)
refuses-one have seen EraLeft one two first second = inl (first.1 ∙ sym second.1)
refuses-one have seen NumbersLeft one two first second = inl (first.1 ∙ sym second.1)

pub refused-once : NoneOfRoot → NoneOfHeld → (have : ℕ) (seen : List ℕ) (trials : List Trial) (one two : MetaError) → RefusesFirst have seen trials one
    → RefusesFirst have seen trials two → AreOneRefusal one two
refused-once none held have seen [] one two first second = absurd first
refused-once none held have seen (trial ∷ trials) one two (inl here) (inl here') = refuses-one have seen trial one two here here'
refused-once none held have seen (trial ∷ trials) one two (inl here) (inr later) = absurd (hold-or-refuse none held have seen trial one later.0 here)
refused-once none held have seen (trial ∷ trials) one two (inr later) (inl here) = absurd (hold-or-refuse none held have seen trial two later.0 here)
refused-once none held have seen (trial ∷ trials) one two (inr later) (inr later') = refused-once none held have seen trials one two later.1 later'.1

pub refused-or-hold : NoneOfRoot → NoneOfHeld → (have : ℕ) (seen : List ℕ) (trials : List Trial) (error : MetaError) → RefusesFirst have seen trials error
    → HoldAll have seen trials → ⊥
refused-or-hold none held have seen [] error first hold = first
refused-or-hold none held have seen (trial ∷ trials) error (inl here) hold = hold-or-refuse none held have seen trial error hold.0 here
refused-or-hold none held have seen (trial ∷ trials) error (inr later) hold = refused-or-hold none held have seen trials error later.1 hold.1

-- all trials of a look
pub look-stands : ReadBack → (have : ℕ) (seen : List ℕ) → 4096 * have ≤ length seen → HoldAll have seen (look_trials seen) → (meaning : Meaning) × IsImageOf meaning seen
look-stands back have seen size hold =
    let behind = hold.1.1 in
    let some = behind.0 in
    let numbers = hold-pass have seen number_tests (all_front (Holds have seen) number_trials (opened_trials seen) behind.1) in
    let opened = all_back (Holds have seen) number_trials (opened_trials seen) behind.1 in
    let roots = hold-pass have seen slot_roots (all_front (Holds have seen) (map Undamaged slot_roots) (root_trials seen) opened) in
    let root = all_back (Holds have seen) (map Undamaged slot_roots) (root_trials seen) opened in
    let reached = hold-pass have seen (root_tests (root_in seen) (held_in seen)) root.1 in
    let need = root.0 in
    undamaged-stands back seen some
    (all_both (Passes seen) number_tests (SlotRoot 0 ∷ SlotRoot 1 ∷ root_tests (root_in seen) (held_in seen)) numbers
    (all_both (Passes seen) slot_roots (root_tests (root_in seen) (held_in seen)) roots reached))
    (fits (need_of (blocks_of_root (root_in seen))) have (length seen) need size)
  where
    fits : (need have bytes : ℕ) → need ≤ have → 4096 * have ≤ bytes → 4096 * need ≤ bytes
    fits need have bytes le size = omega arith

-- a geometry needs 57 blocks at least
least-need : (blocks : ℕ) → 0 < blocks → 57 ≤ need_of blocks
least-need blocks some = omega arith

pub look-hold : ReadBack → (have : ℕ) (seen : List ℕ) (meaning : Meaning) → length seen < 4096 * (have + 1) → IsImageOf meaning seen → HoldAll have seen (look_trials seen)
look-hold back have seen meaning size image =
    let undamaged = stands-undamaged back seen meaning image in
    let numbers = all_front (Passes seen) number_tests (SlotRoot 0 ∷ SlotRoot 1 ∷ root_tests (root_in seen) (held_in seen)) undamaged.0 in
    let behind = all_back (Passes seen) number_tests (SlotRoot 0 ∷ SlotRoot 1 ∷ root_tests (root_in seen) (held_in seen)) undamaged.0 in
    let roots = all_front (Passes seen) slot_roots (root_tests (root_in seen) (held_in seen)) behind in
    let reached = all_back (Passes seen) slot_roots (root_tests (root_in seen) (held_in seen)) behind in
    let enough = room (need_of (blocks_of_root (root_in seen))) have (length seen) undamaged.1 size in
    let own = image-need have seen meaning size image in (
      own,
      (
        tt,
        (
          undamaged.2,
          all_both (Holds have seen) number_trials (opened_trials seen) (pass-hold have seen number_tests numbers)
              (all_both (Holds have seen) (map Undamaged slot_roots) (root_trials seen) (pass-hold have seen slot_roots roots)
              (enough, pass-hold have seen (root_tests (root_in seen) (held_in seen)) reached)),
        ),
      ),
    )
  where
    room : (need have bytes : ℕ) → 4096 * need ≤ bytes → bytes < 4096 * (have + 1) → need ≤ have
    room need have bytes fits size = omega arith

    no-room : (sectors all : ℕ) → 0 < sectors → sectors ≤ all → all ≡ 0 → ⊥
    no-room sectors all some le none = omega arith

    some-blocks : (sectors block_sectors : ℕ) → 0 < sectors → 8 ≤ block_sectors → 0 < blocks_of sectors block_sectors
    some-blocks sectors block_sectors some least = elim (cases_lt 0 (blocks_of sectors block_sectors)) [
      | inl more ↦ more
      | inr none ↦
          let bound : sectors ≤ blocks_of sectors block_sectors * block_sectors = (div_ceil_times sectors block_sectors (omega arith)).0 in
          let empty : blocks_of sectors block_sectors ≡ 0 = omega (arith, none) in
          let all : blocks_of sectors block_sectors * block_sectors ≡ 0 * block_sectors = ap (λ (n : ℕ). n * block_sectors) empty in
          absurd (no-room sectors (blocks_of sectors block_sectors * block_sectors) some bound (all ∙ (let e : 0 * block_sectors ≡ 0 = omega arith in e)))
    ]

    image-need : (have : ℕ) (seen : List ℕ) (meaning : Meaning) → length seen < 4096 * (have + 1) → IsImageOf meaning seen → 57 ≤ have
    image-need have seen meaning size image =
        let geometry = image.whole.valid.geometry in
        let least = least-need (blocks_of_root image.root) (some-blocks image.root.sectors image.root.block_sectors geometry.some geometry.block_size.least) in
        let within = room (need_of (blocks_of_root image.root)) have (length seen) image.room size in
        omega arith
