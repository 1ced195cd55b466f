-- Calls in a row: once a session was served, what is found after them has a history, and marks list right by it.
use Rattle.std.proofs.lemmas.Bool.{false≢true}
use Rattle.era_base.specs.CrashModel.{IsCrashImage}
use Rattle.era_model.specs.declared.history.Happening.TheVariants.{Opened}
use Rattle.era_model.specs.History.{is_open}
use Rattle.std.proofs.Common.{ap, sym, ◌∙◌, take, true, false, ◌≡◌, ℕ, List, [], ◌∷◌, Option, ◌⊎◌, refl, subst, inl, inr}
use Rattle.era_base.specs.declared.geometry.Geometry.{Geometry}
use Rattle.era_model.specs.declared.history.Happening.{Happening}
use Rattle.era_model.specs.Changed.{IsCrashContent}
use Rattle.era_model.specs.Legal.{IsLegal}
use Rattle.era_model.specs.Marks.{BlockMarks}
use Rattle.era_model.specs.Promises.{AreCrashContents, CoverageGoesOn, NoChangedBlockMissed, NoUnaskedBlockListed}
use Rattle.era_model.specs.Writes.{block_bytes}
use Rattle.era_promise.specs.Calls.{AreCalls, Disks, EndedCall, GoesOn, IsHistoryOf, LeavesBy, Outcome, SurvivesCalls, blocks_in, disks_after, not_opened, served}
use Rattle.era_promise.proofs.Left.{MayBeFound}
use Rattle.era_promise.specs.Openings.{HasOneMeaning}
use Rattle.era_promise.proofs.BeforeOrNext.{at-geometry}
use Rattle.era_promise.proofs.CallSteps.{AreLeft, Laws, open-after, opening-left}
use Rattle.era_promise.proofs.ServedSteps.{session-left}
use Rattle.era_promise.proofs.Survives.{lists-right}

-- one call more
call-left : Laws → (StandsFor : List ℕ → BlockMarks → Option BlockMarks → Type 0) (IsBlank : List ℕ → Type 0) (g : Geometry) (metadata_blocks : ℕ) (calls : List EndedCall) (call : EndedCall) (before : Disks) (outcome : Outcome)
    → HasOneMeaning StandsFor IsBlank → call.outcome ≡ outcome → LeavesBy StandsFor IsBlank g metadata_blocks before outcome call.disks → IsHistoryOf calls [] ⊎ AreLeft StandsFor g metadata_blocks calls before
    → IsHistoryOf (call ∷ calls) [] ⊎ AreLeft StandsFor g metadata_blocks (call ∷ calls) call.disks
call-left laws StandsFor IsBlank g metadata_blocks calls call before not_opened one is leaves (inl none) = inl ([], none, rw is (inl refl))
call-left laws StandsFor IsBlank g metadata_blocks calls call before not_opened one is leaves (inr left) = inr (opening-left laws StandsFor IsBlank g metadata_blocks calls call before one is leaves left)
call-left laws StandsFor IsBlank g metadata_blocks calls call before (served journal devices place) one is leaves earlier =
    inr (session-left laws StandsFor IsBlank g metadata_blocks calls call before journal devices place is leaves earlier)

-- all calls
calls-left : Laws → (StandsFor : List ℕ → BlockMarks → Option BlockMarks → Type 0) (IsBlank : List ℕ → Type 0) (g : Geometry) (metadata_blocks : ℕ) (first : Disks) (calls : List EndedCall) → HasOneMeaning StandsFor IsBlank
    → AreCalls StandsFor IsBlank g metadata_blocks first calls → IsHistoryOf calls [] ⊎ AreLeft StandsFor g metadata_blocks calls (disks_after first calls)
calls-left laws StandsFor IsBlank g metadata_blocks first [] one calls = inl refl
calls-left laws StandsFor IsBlank g metadata_blocks first (call ∷ earlier) one calls =
    call-left laws StandsFor IsBlank g metadata_blocks earlier call (disks_after first earlier) call.outcome one refl calls.0
    (calls-left laws StandsFor IsBlank g metadata_blocks first earlier one calls.1)

-- the contents that are found are ones that a crash may leave
found-contents : (g : Geometry) (metadata_blocks : ℕ) (h : List Happening) (origin : List ℕ) (m : BlockMarks) (found : Option BlockMarks) → MayBeFound g metadata_blocks h origin m found → AreCrashContents h (blocks_in g origin)
found-contents g metadata_blocks h origin m found left block inside =
    subst (λ size. IsCrashContent h block (block_bytes size origin block)) (at-geometry 0 (λ (one : Geometry). one.block_sectors) h g left.geometry) (left.crash.origin.blocks block inside)

-- where nothing has happened no session was served, and the origin is as before
none-goes : (outcome : Outcome) (before : List Happening) → GoesOn outcome before [] → (outcome ≡ not_opened) × (before ≡ [])
none-goes not_opened before (inl same) = (refl, sym same)
none-goes not_opened before (inr opened) = absurd (let none = opened.3 in cc)
none-goes (served journal devices place) before goes =
    let never : false ≡ true = ap is_open goes.2 ∙ open-after (Opened journal.opening ∷ goes.0) (take place journal.entries) in
    absurd (false≢true never)

same-origin : (StandsFor : List ℕ → BlockMarks → Option BlockMarks → Type 0) (IsBlank : List ℕ → Type 0) (g : Geometry) (metadata_blocks : ℕ) (first : Disks) (calls : List EndedCall) → AreCalls StandsFor IsBlank g metadata_blocks first calls
    → IsHistoryOf calls [] → (origin : List ℕ) → IsCrashImage (disks_after first calls).origin origin → IsCrashImage first.origin origin
same-origin StandsFor IsBlank g metadata_blocks first [] are none origin may = may
same-origin StandsFor IsBlank g metadata_blocks first (call ∷ earlier) are none origin may =
    let goes = none-goes call.outcome none.0 none.2 in
    let leaves = subst (λ outcome. LeavesBy StandsFor IsBlank g metadata_blocks (disks_after first earlier) outcome call.disks) goes.0 are.0 in
    same-origin StandsFor IsBlank g metadata_blocks first earlier are.1 (subst (IsHistoryOf earlier) goes.1 none.1) origin (leaves.origin origin may)

-- an open history isn't empty
open-some : (h : List Happening) → is_open h ≡ true → h ≡ [] → ⊥
open-some h ongoing none = false≢true (ap is_open (sym none) ∙ ongoing)

pub calls-survive : Laws → ((h : List Happening) → IsLegal h → NoChangedBlockMissed h) → ((h : List Happening) → IsLegal h → NoUnaskedBlockListed h) → ((h : List Happening) → IsLegal h → CoverageGoesOn h)
    → (StandsFor : List ℕ → BlockMarks → Option BlockMarks → Type 0) (IsBlank : List ℕ → Type 0) (g : Geometry) (metadata_blocks : ℕ) (first : Disks) (calls : List EndedCall) → HasOneMeaning StandsFor IsBlank
    → AreCalls StandsFor IsBlank g metadata_blocks first calls → SurvivesCalls StandsFor g first calls
calls-survive laws missed unasked covered StandsFor IsBlank g metadata_blocks first calls one are origin metadata m found era origin_may may stands =
    elim (calls-left laws StandsFor IsBlank g metadata_blocks first calls one are) [
      | inl none ↦ record {
        history = [];
        of = none;
        legal = tt;
        lists = λ some. absurd (some refl);
        unserved = λ is. same-origin StandsFor IsBlank g metadata_blocks first calls are none origin origin_may;
      }
      | inr left ↦
          let had = left.histories origin metadata m found origin_may may stands in
          record {
            history = had.history;
            of = had.of;
            legal = had.legal;
            lists = λ some.
                lists-right had.history (blocks_in g origin) m found era (missed had.history had.legal) (unasked had.history had.legal) (covered had.history had.legal)
                had.left.crash.metadata (found-contents g metadata_blocks had.history origin m found had.left);
            unserved = λ is. absurd (open-some had.history had.left.ongoing is);
          }
    ]
