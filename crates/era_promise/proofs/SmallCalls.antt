-- Small calls in a row, and calls that the definitions refuse.
use Rattle.std.proofs.Common.{◌≡◌, ℕ, zero, suc, ◌<◌, List, [], ◌∷◌, None, refl, ap, sym, ◌∙◌, subst, arith, lit≤, lit<, inl, inr}
use Rattle.std.proofs.lemmas.Option.{same_Some}
use Rattle.era_base.specs.CrashModel.{IsCrashImage}
use Rattle.era_model.specs.declared.opening.Opening.{Opening}
use Rattle.era_model.specs.Marks.{marks_last_era}
use Rattle.era_notes.specs.Parts.{IsIn, bytes_in}
use Rattle.era_promise.specs.Calls.{AreCalls, IsHistoryOf, blocks_in, not_opened, served}
use Rattle.era_promise.specs.Openings.{IsOpenedOn}
use Rattle.era_promise.specs.Rows.{IsUnformatted, ReadsFlag, SmallCall, clean, disks_of, marked, new_bytes, old_bytes, one_block, sector_device, small_calls, unmarked, write_devices, write_journal}
use Rattle.era_promise.specs.Sessions.{IsPartAt, PartDevice, whole_history}
use Rattle.era_promise.specs.Survival.{LeavesBlocks}
use Rattle.era_promise.proofs.Refusals.{as-clean}
use Rattle.era_promise.proofs.SmallSession.{OneImage, write-follows}

-- the session opens on the blank disk
opened-blank : IsOpenedOn ReadsFlag IsUnformatted one_block (2 ∷ []) old_bytes 57 1 write_journal.opening
opened-blank = record {
  size = refl;
  some = inr refl;
  marks = λ before held stands. let low : 2 < 2 = stands.told in absurd (omega (arith, low));
  blank = λ blank. refl;
}

-- the block in an image of the origin is that of the part
same-block : (image : List ℕ) (block : ℕ) → IsIn (sector_device 0 2).part block → blocks_in one_block image block ≡ bytes_in (sector_device 0 2).part image block
same-block image zero inside = refl
same-block image (suc block) inside = absurd (let high : suc block < 1 = inside.high in omega (arith, high))

leaves-sector : (image : List ℕ) (stripe : ℕ) (one : PartDevice) → IsCrashImage (clean new_bytes) image → IsPartAt write_devices stripe one → LeavesBlocks one 4 (blocks_in one_block image)
leaves-sector image zero one may is = subst (λ (part : PartDevice). LeavesBlocks part 4 (blocks_in one_block image)) (same_Some (sector_device 0 2) one is) (record {
  image = image;
  left = record { moment = 2; inside = record { begun = lit≤ tt; ended = lit≤ tt }; left = may };
  blocks = same-block image;
})
leaves-sector image (suc stripe) one may is = absurd (cc)

session-ends : OneImage → SmallCall (disks_of old_bytes 2) (served write_journal write_devices 4) (disks_of new_bytes 1)
session-ends one = record {
  opened = opened-blank;
  follow = write-follows one;
  within = lit≤ tt;
  size = refl;
  origin = λ image may stripe part is. leaves-sector image stripe part may is;
  metadata = λ image may. record { moment = 1; inside = record { begun = lit≤ tt; ended = lit≤ tt }; left = may };
}

pub calls-run : OneImage → AreCalls ReadsFlag IsUnformatted one_block 57 (disks_of old_bytes 2) small_calls
calls-run one = (record { origin = λ image may. may; metadata = λ image may. inl may }, (session-ends one, tt))

pub calls-history : IsHistoryOf small_calls (whole_history write_journal)
calls-history = (whole_history write_journal, ([], refl, ([], refl, refl)), inl refl)

-- an opening that loses the mark
pub mark-lost : SmallCall (disks_of new_bytes 1) not_opened (disks_of new_bytes 0) → ⊥
mark-lost call = elim (call.metadata (0 ∷ []) (as-clean (0 ∷ []))) [
  | inl old ↦ let flag : 0 ≡ 1 = old.kept 0 refl in omega (arith, flag)
  | inr opening ↦
      let left = opening.marks marked None (record { told = lit< tt; marks = refl; held = refl }) in
      let same : left.0 ≡ unmarked = left.2.marks in
      let last : 0 ≡ 1 = ap (λ m. marks_last_era m 0) (sym same) ∙ left.3.keeps.lasts 0 in
      omega (arith, last)
]

-- an opening that has written the origin
pub origin-written : SmallCall (disks_of old_bytes 1) not_opened (disks_of new_bytes 1) → ⊥
origin-written call = let old = call.origin new_bytes (as-clean new_bytes) in let first : 170 ≡ 0 = old.kept 0 refl in omega (arith, first)

-- a session that opens as if nothing were marked
pub opened-empty : SmallCall (disks_of old_bytes 1) (served write_journal write_devices 4) (disks_of new_bytes 1) → ⊥
opened-empty call =
    let opened = (call.opened.marks marked None (record { told = lit< tt; marks = refl; held = refl })).1 in
    let era : 1 ≡ 2 = ap (λ (o : Opening). o.era) opened in
    omega (arith, era)
