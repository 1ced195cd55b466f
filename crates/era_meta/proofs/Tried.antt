-- What the trials of an opened disk come to: by its roots, by its blocks, and by what the newest root reaches.
use Rattle.std.proofs.Common.{◌≡◌, ℕ, zero, suc, ◌+◌, ◌<◌, ◌≤◌, List, [], ◌∷◌, ◌++◌, map, refl, sym, ap, ◌∙◌, subst, arith, inl}
use Rattle.std.specs.Prelude.{◌==◌, ◌&&◌, ◌||◌, not, nat_lt, slice_index, if◌then◌else◌}
use Rattle.std.proofs.lemmas.Bool.Decides.{nat_tests}
use Rattle.era_base.specs.Geometry.{need_of}
use Rattle.era_layout.specs.declared.damage.DamageKind.TheVariants as kind
use Rattle.era_layout.specs.Damage.{fields_at}
use Rattle.era_layout.specs.Root.{RootFields, root_bytes, IsValidRoot}
use Rattle.era_slots.specs.Opening.{HasFirstBadNumber}
use Rattle.era_slots.specs.Slot.{commit_number, body_of, IsActive, IsTied}
use Rattle.era_meta.specs.declared.finding.Finding.{Finding}
use Rattle.era_meta.specs.declared.refusal.MetaError.TheVariants.{MetaSmall, Damaged}
use Rattle.era_meta.specs.Content.{blocks_of_root}
use Rattle.era_meta.specs.Damage.{Test, SlotRoot, PassAll, root_tests, newest_slot, root_in, held_in}
use Rattle.era_meta.specs.Trials.{Trial, Room, Undamaged, Holds, HoldAll, EndsOpening, all_calls, number_trials, root_trials, opened_trials, error_of_finding}
use Rattle.era_meta.specs.Walks.{all_reads, EndsWith, IsFoundIn}
use Rattle.era_meta.proofs.Agree.{all_both}
use Rattle.era_meta.proofs.Refusals.{ends-front, ends-back, calls-both, calls-reads, pass-hold, ends-refused, found-refused, bad-refused, tie-refused}

-- the newest slot is the active one
newest-zero : (first second one two : ℕ) → first ≡ 1 → (second ≡ 1 → two < one)
    → ◌≡◌ {A = ℕ} (if (second == 1) && (not (first == 1) || nat_lt one two) then 1 else 0) 0
newest-zero first second one two opened newest = grind (arith, nat_tests)

newest-one : (first second one two : ℕ) → second ≡ 1 → (first ≡ 1 → one < two)
    → ◌≡◌ {A = ℕ} (if (second == 1) && (not (first == 1) || nat_lt one two) then 1 else 0) 1
newest-one first second one two opened newest = grind (arith, nat_tests)

pub newest-active : (seen : List ℕ) (slot : ℕ) → slot < 2 → IsActive slot seen → newest_slot seen ≡ slot
newest-active seen zero two active =
    newest-zero (slice_index seen 0) (slice_index seen 4096) (commit_number 0 seen) (commit_number 1 seen) active.opened (λ opened. let newest = active.newest opened in newest.1)
newest-active seen (suc zero) two active =
    newest-one (slice_index seen 0) (slice_index seen 4096) (commit_number 0 seen) (commit_number 1 seen) active.opened (λ opened. let newest = active.newest opened in newest.1)
newest-active seen (suc (suc slot)) two active = absurd (omega arith)

pub root-is : ((root : RootFields) → IsValidRoot root → fields_at (root_bytes root) ≡ root) → (seen body : List ℕ) (active : ℕ) (root : RootFields) → active < 2
    → IsActive active seen → body ≡ body_of active seen → IsValidRoot root → root_bytes root ≡ body → root_in seen ≡ root
root-is back seen body active root two stands is valid spelled =
    ap (λ (slot : ℕ). fields_at (body_of slot seen)) (newest-active seen active two stands) ∙ (ap fields_at (sym is ∙ sym spelled) ∙ back root valid)

abbrev pub slot_roots : List Test
slot_roots = SlotRoot 0 ∷ SlotRoot 1 ∷ []

none-before : (calls : ℕ) → calls ≡ all_calls (map Undamaged slot_roots) + calls
none-before calls = let e : calls ≡ 0 + (0 + 0) + calls = omega arith in e

-- what was read of the roots was refused, after no further call
pub tried-roots : (have : ℕ) (seen : List ℕ) (f : Finding) → IsFoundIn seen slot_roots f → EndsOpening have seen (opened_trials seen) 0 (error_of_finding f)
tried-roots have seen f found =
    ends-front have seen (map Undamaged slot_roots) (root_trials seen) 0 (error_of_finding f) (found-refused have seen slot_roots 0 f found)

pub tried-small : (have need : ℕ) (seen : List ℕ) (root : RootFields) → PassAll seen slot_roots → root_in seen ≡ root → need ≡ need_of (blocks_of_root root) → have < need
    → EndsOpening have seen (opened_trials seen) 0 (MetaSmall have need)
tried-small have need seen root pass is needs small =
    let same : need ≡ need_of (blocks_of_root (root_in seen)) = needs ∙ ap (λ (r : RootFields). need_of (blocks_of_root r)) (sym is) in
    ends-back have seen (map Undamaged slot_roots) (root_trials seen) 0 0 (MetaSmall have need) (pass-hold have seen slot_roots pass) (none-before 0)
    (inl (subst (λ (n : ℕ). have < n) same small, ap (MetaSmall have) same))

pub tried-reached : (have calls : ℕ) (seen : List ℕ) (root : RootFields) (f : Finding) → PassAll seen slot_roots → root_in seen ≡ root → need_of (blocks_of_root root) ≤ have
    → EndsWith seen (root_tests root (held_in seen)) calls f → EndsOpening have seen (opened_trials seen) calls (error_of_finding f)
tried-reached have calls seen root f pass is room ends =
    let need = need_of (blocks_of_root (root_in seen)) in
    let tests = root_tests (root_in seen) (held_in seen) in
    ends-back have seen (map Undamaged slot_roots) (root_trials seen) calls calls (error_of_finding f) (pass-hold have seen slot_roots pass) (none-before calls)
    (ends-back have seen (Room need ∷ []) (map Undamaged tests) calls calls (error_of_finding f)
    (subst (λ (r : RootFields). need_of (blocks_of_root r) ≤ have) (sym is) room, tt) (let e : calls ≡ 0 + 0 + calls = omega arith in e)
    (ends-refused have seen tests calls f (subst (λ (r : RootFields). EndsWith seen (root_tests r (held_in seen)) calls f) (sym is) ends)))

opened-calls : (calls : ℕ) (seen : List ℕ) → calls ≡ all_calls (map Undamaged (root_tests (root_in seen) (held_in seen))) → calls ≡ all_calls (opened_trials seen)
opened-calls calls seen is =
    let front = calls-both (map Undamaged slot_roots) (root_trials seen) in
    let back = calls-both (Room (need_of (blocks_of_root (root_in seen))) ∷ []) (map Undamaged (root_tests (root_in seen) (held_in seen))) in
    let none = none-before 0 in
    let no : all_calls (Room (need_of (blocks_of_root (root_in seen))) ∷ []) ≡ 0 = refl in
    omega arith

pub tried-hold : (have calls : ℕ) (seen : List ℕ) (root : RootFields) → PassAll seen slot_roots → root_in seen ≡ root → need_of (blocks_of_root root) ≤ have
    → PassAll seen (root_tests root (held_in seen)) × (calls ≡ all_reads (root_tests root (held_in seen))) → HoldAll have seen (opened_trials seen) × (calls ≡ all_calls (opened_trials seen))
tried-hold have calls seen root pass is room reached =
    let tests = root_tests (root_in seen) (held_in seen) in (
      all_both (Holds have seen) (map Undamaged slot_roots) (root_trials seen) (pass-hold have seen slot_roots pass) (
        subst (λ (r : RootFields). need_of (blocks_of_root r) ≤ have) (sym is) room,
        pass-hold have seen tests (subst (λ (r : RootFields). PassAll seen (root_tests r (held_in seen))) (sym is) reached.0),
      ),
      opened-calls calls seen (reached.1 ∙ (ap (λ (r : RootFields). all_reads (root_tests r (held_in seen))) (sym is) ∙ sym (calls-reads tests))),
    )

-- the commit numbers were refused
pub bad-ends : (have calls : ℕ) (seen : List ℕ) (slot : ℕ) (more : List Trial) → HasFirstBadNumber slot seen
    → EndsOpening have seen (number_trials ++ more) calls (Damaged kind.BadSequence slot)
bad-ends have calls seen slot more bad = ends-front have seen number_trials more calls (Damaged kind.BadSequence slot) (bad-refused have seen slot bad)

pub tie-ends : (have calls : ℕ) (seen : List ℕ) (more : List Trial) → IsTied seen → EndsOpening have seen (number_trials ++ more) calls (Damaged kind.SequenceTie 1)
tie-ends have calls seen more tied = ends-front have seen number_trials more calls (Damaged kind.SequenceTie 1) (tie-refused have seen tied)
