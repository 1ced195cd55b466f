-- Entries that are transcribed one after another.
use Rattle.std.proofs.Common.{◌≡◌, ℕ, zero, suc, ◌+◌, ◌<◌, ◌&&◌, Bool, List, [], ◌∷◌, ◌++◌, length, take, drop, get_or, set, if◌then◌else◌, ap, add-one, arith}
use Rattle.era_base.specs.Flags.{has}
use Rattle.era_model.specs.Marks.{ArchivedSet, transcribed}

-- one more entry, counted from a block on
transcribed-at : (archived : ArchivedSet) (test : ℕ → Bool) (first : ℕ) (entries : List ℕ) (i now d : ℕ) → i < length entries
    → now ≡ (if test (first + i) && has archived.blocks (first + i) then archived.era else get_or (transcribed archived test first (take i entries) ++ drop i entries) i d)
    → set (transcribed archived test first (take i entries) ++ drop i entries) i now
    ≡ transcribed archived test first (take (suc i) entries) ++ drop (suc i) entries
transcribed-at archived test first [] i now d lt new = absurd (omega arith)
transcribed-at archived test first (entry ∷ entries) zero now d lt new =
    let e : first + 0 ≡ first = omega arith in let new' = rw e at new in ap (λ v. v ∷ entries) new'
transcribed-at archived test first (entry ∷ entries) (suc i) now d lt new =
    let e : first + suc i ≡ first + 1 + i = omega arith in
    ap (λ l. (if test first && has archived.blocks first then archived.era else entry) ∷ l)
    (transcribed-at archived test (first + 1) entries i now d (omega arith) (rw e at new))

-- the same, counted from 0, for a list that is known to be such
pub transcribed-next : (archived : ArchivedSet) (test : ℕ → Bool) (entries items : List ℕ) (i now : ℕ) → i < length items → length items ≡ length entries
    → items ≡ transcribed archived test 0 (take i entries) ++ drop i entries
    → now ≡ (if test i && has archived.blocks i then archived.era else get_or items i 0)
    → set items i now ≡ transcribed archived test 0 (take (i + 1) entries) ++ drop (i + 1) entries
transcribed-next archived test entries items i now lt size is new =
    let within : i < length entries = omega arith in
    let e : 0 + i ≡ i = omega arith in
    rw (add-one, is) (transcribed-at archived test 0 entries i now 0 within (rw (e, ← is) new))
