-- The record of calls says which sectors are pending: after one more call too.
use Rattle.std.proofs.Common.{◌≡◌, ℕ, ◌+◌, ◌*◌, ◌/◌, ◌<◌, ◌≤◌, Bool, true, false, nat_le, nat_lt, List, [], ◌∷◌, ◌++◌, length, slice_index_or, arith, refl, sym, ◌∙◌, ap, inl, inr}
use Rattle.era_base.specs.CrashModel.{IsClean}
use Rattle.era_disks.specs.declared.made_call.MadeCall.{MadeCall}
use Rattle.era_disks.specs.declared.made_call.MadeCall.TheVariants.{Write, Sync}
use Rattle.era_disks.specs.CallRecord.{pending_at, pending_after, IsReplayed}
use Rattle.era_disks.specs.MemDisk.{IsMarked, OnlyMarks}
use Rattle.std.proofs.lemmas.Bool.{cases_lt}
use Rattle.std.proofs.Math.Bool.{or-false, or-true}
use Rattle.std.proofs.lemmas.Bool.Decides.{nat_tests}

-- the last call is the last one that counts
pub after-add : (made : List MadeCall) (call : MadeCall) (sector : ℕ) (was : Bool)
    → pending_after (made ++ call ∷ []) sector was ≡ pending_at call sector (pending_after made sector was)
after-add [] call sector was = refl
after-add (first ∷ made) call sector was = after-add made call sector (pending_at first sector was)

-- one more call, of which it is known what it makes of each flag
pub replayed-add : (began pending now : List Bool) (made after : List MadeCall) (call : MadeCall)
    → IsReplayed began made pending → after ≡ made ++ call ∷ [] → length now ≡ length pending
    → ((sector : ℕ) → sector < length pending → slice_index_or now sector true ≡ pending_at call sector (slice_index_or pending sector true))
    → IsReplayed began after now
replayed-add began pending now made after call replayed is size tells sector below =
    let inside : sector < length pending = omega (arith, size) in
    tells sector inside
    ∙ ap (pending_at call sector) (replayed sector inside)
    ∙ sym (after-add made call sector (slice_index_or began sector true))
    ∙ ap (λ calls. pending_after calls sector (slice_index_or began sector true)) (sym is)

-- the flag of a sector after a write of some sectors
write-flag : (first sectors sector : ℕ) (answered was now : Bool)
    → (first ≤ sector → sector < first + sectors → now ≡ true)
    → ((first ≤ sector → first + sectors ≤ sector) → now ≡ was)
    → now ≡ pending_at (Write first sectors answered) sector was
write-flag first sectors sector answered was now marked stays = elim (cases_lt sector first) [
  | inl low ↦
      let under : nat_le first sector ≡ false = grind (arith, nat_tests) in
      stays (λ le. omega arith) ∙ sym (rw under (or-false was))
  | inr above ↦
      let over : nat_le first sector ≡ true = grind (arith, nat_tests) in
      elim (cases_lt sector (first + sectors)) [
        | inl below ↦
            let within : nat_lt sector (first + sectors) ≡ true = grind (arith, nat_tests) in
            marked above below ∙ sym (rw (over, within) (or-true was))
        | inr high ↦
            let beyond : nat_lt sector (first + sectors) ≡ false = grind (arith, nat_tests) in
            stays (λ le. high) ∙ sym (rw (over, beyond) (or-false was))
      ]
]

-- after a write whose sectors alone were marked
pub replayed-write : (began flags now : List Bool) (seen seen' : List ℕ) (made after : List MadeCall) (first sectors : ℕ) (answered : Bool)
    → IsReplayed began made flags → after ≡ made ++ Write first sectors answered ∷ [] → length now ≡ length flags
    → IsMarked first (sectors * 512) (record { seen = seen'; pending = now })
    → OnlyMarks first (sectors * 512) (record { seen = seen; pending = flags }) (record { seen = seen'; pending = now })
    → IsReplayed began after now
replayed-write began flags now seen seen' made after first sectors answered replayed is size marked only =
    replayed-add began flags now made after (Write first sectors answered) replayed is size (λ sector below.
    let same : sector * 512 / 512 ≡ sector = omega arith in
    write-flag first sectors sector answered (slice_index_or flags sector true) (slice_index_or now sector true)
    (λ from to. ap (λ at. slice_index_or now at true) (sym same) ∙ marked (sector * 512) (omega arith) (omega arith))
    (λ outside. ap (λ at. slice_index_or now at true) (sym same)
    ∙ only.others (sector * 512) (λ from. omega (arith, outside))
    ∙ ap (λ at. slice_index_or flags at true) same))

-- after a sync that answered
pub replayed-sync : (began flags now : List Bool) (seen : List ℕ) (made after : List MadeCall)
    → IsReplayed began made flags → after ≡ made ++ Sync true ∷ [] → length now ≡ length flags → length seen ≡ length flags * 512
    → IsClean (record { seen = seen; pending = now })
    → IsReplayed began after now
replayed-sync began flags now seen made after replayed is size bytes clean =
    replayed-add began flags now made after (Sync true) replayed is size (λ sector below.
    let same : sector * 512 / 512 ≡ sector = omega arith in
    ap (λ at. slice_index_or now at true) (sym same) ∙ clean (sector * 512) (omega (arith, bytes)))
