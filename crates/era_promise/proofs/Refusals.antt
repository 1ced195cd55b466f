-- Claims of the small session that the definitions refuse.
use Rattle.std.proofs.Common.{◌≡◌, ℕ, zero, suc, ◌<◌, ◌≤◌, ◌/◌, true, false, List, [], ◌∷◌, length, Option, Some, None, ◌⊎◌, refl, ap, sym, ◌∙◌, arith, lit≤, lit<, inl, inr}
use mathlib.Core.Bool.{true≢false}
use Rattle.std.specs.Prelude.{slice_index_or}
use Rattle.era_base.specs.CrashModel.{IsCrashImage}
use Rattle.era_model.specs.declared.history.Happening.{Happening}
use Rattle.era_model.specs.History.{blocks_now}
use Rattle.era_model.specs.Marks.{BlockMarks}
use Rattle.era_model.specs.Recovered.{HasJournalLast, HaveJournalLasts, IsBeyond}
use Rattle.era_model.specs.Rows.{journal_of}
use Rattle.era_notes.specs.Windows.{IsLeftAt}
use Rattle.era_promise.specs.Rows.{ReadsFlag, clean, flag_device, keeps_flag, marked, new_bytes, old_bytes, opened_on, sector_device, stores_mark, unmarked, unsynced, with_invented_note, with_metadata, with_part, without_notes, write_devices, write_events, write_journal}
use Rattle.era_promise.specs.Sessions.{DevicesFollow, history_below}

-- marks that may be recovered have the journal's last marked era for block 0, or are beyond it there
first-block : (h : List Happening) (m : BlockMarks) (exception : Option ℕ) → 0 < blocks_now h → HaveJournalLasts h m exception → HasJournalLast h m 0 ⊎ IsBeyond h m 0
first-block h m None some lasts = inl (lasts 0 some)
first-block h m (Some zero) some lasts = inr lasts.0
first-block h m (Some (suc exception)) some lasts = inl (lasts.1 0 some (λ same. absurd (cc)))

-- moments out of order
pub disordered-moments : DevicesFollow ReadsFlag write_journal (with_metadata (flag_device stores_mark 0 1 0)) → ⊥
disordered-moments follow = let order : 1 ≤ 0 = follow.metadata_notes.ordered.2.0 in omega (arith, order)

pub begun-late : DevicesFollow ReadsFlag write_journal (with_metadata (flag_device stores_mark 2 0 1)) → ⊥
begun-late follow = let order : 2 ≤ 0 = follow.metadata_notes.ordered.2.2 in omega (arith, order)

-- other entries
pub invented-note : DevicesFollow ReadsFlag write_journal (with_metadata with_invented_note) → ⊥
invented-note follow = let same = ap length follow.metadata_notes.entries in let three : 3 ≡ 2 = same in omega (arith, three)

pub left-out : DevicesFollow ReadsFlag write_journal (with_metadata without_notes) → ⊥
left-out follow = let same = ap length follow.metadata_notes.entries in let none : 0 ≡ 2 = same in omega (arith, none)

-- a disk as it reads
pub as-clean : (bytes : List ℕ) → IsCrashImage (clean bytes) bytes
as-clean bytes = record { size = refl; kept = λ offset kept. refl }

-- another opening
pub other-contents : DevicesFollow ReadsFlag (journal_of (opened_on unmarked new_bytes) write_events) write_devices → ⊥
other-contents follow =
    let left : IsLeftAt (sector_device 0 2).device 0 old_bytes = record { moment = 0; inside = record { begun = lit≤ tt; ended = lit≤ tt }; left = as-clean old_bytes } in
    let content = follow.parts 0 0 (sector_device 0 2) (lit≤ tt) refl old_bytes left 0 (record { low = lit≤ tt; high = lit< tt }) in
    let first : 0 ≡ 170 = content.same 0 refl in
    omega (arith, first)

pub other-marks : DevicesFollow ReadsFlag (journal_of (opened_on marked old_bytes) write_events) write_devices → ⊥
other-marks follow =
    let left : IsLeftAt (flag_device stores_mark 0 0 1) 0 (0 ∷ []) = record { moment = 0; inside = record { begun = lit≤ tt; ended = lit≤ tt }; left = as-clean (0 ∷ []) } in
    let recovered = (follow.metadata 0 (lit≤ tt)).recovered (0 ∷ []) unmarked None left (record { told = lit< tt; marks = refl; held = refl }) in
    elim (first-block (history_below (journal_of (opened_on marked old_bytes) write_events) 0) unmarked recovered.exception (lit< tt) recovered.lasts) [
      | inl same ↦ let none : 0 ≡ 1 = same in omega (arith, none)
      | inr beyond ↦ let later : 1 < 0 = beyond.later in omega (arith, later)
    ]

-- the disk is written before the write is issued
pub early-write : DevicesFollow ReadsFlag write_journal (with_part (sector_device 1 2)) → ⊥
early-write follow =
    let left : IsLeftAt (sector_device 1 2).device 2 new_bytes = record { moment = 1; inside = record { begun = lit≤ tt; ended = lit≤ tt }; left = record { size = refl; kept = λ offset kept. refl } } in
    let content = follow.parts 2 0 (sector_device 1 2) (lit≤ tt) refl new_bytes left 0 (record { low = lit≤ tt; high = lit< tt }) in
    let first : 170 ≡ 0 = content.same 0 refl in
    omega (arith, first)

-- a sector that is pending may read as anything
all-pending : (sector : ℕ) → slice_index_or (true ∷ []) sector true ≡ true
all-pending zero = refl
all-pending (suc sector) = refl

pub unsynced-done : DevicesFollow ReadsFlag write_journal (with_part (sector_device 0 1)) → ⊥
unsynced-done follow =
    let image : IsCrashImage (unsynced new_bytes) old_bytes = record { size = refl; kept = λ offset kept. absurd (true≢false (sym (all-pending (offset / 512)) ∙ kept)) } in
    let left : IsLeftAt (sector_device 0 1).device 4 old_bytes = record { moment = 1; inside = record { begun = lit≤ tt; ended = lit≤ tt }; left = image } in
    let content = follow.parts 4 0 (sector_device 0 1) (lit≤ tt) refl old_bytes left 0 (record { low = lit≤ tt; high = lit< tt }) in
    let first : 0 ≡ 170 = content.same 0 refl in
    omega (arith, first)

-- a mark that was never stored
pub unstored-mark : DevicesFollow ReadsFlag write_journal (with_metadata (flag_device (keeps_flag 0) 0 0 1)) → ⊥
unstored-mark follow =
    let left : IsLeftAt (flag_device (keeps_flag 0) 0 0 1) 2 (0 ∷ []) = record { moment = 1; inside = record { begun = lit≤ tt; ended = lit≤ tt }; left = as-clean (0 ∷ []) } in
    let recovered = (follow.metadata 2 (lit≤ tt)).recovered (0 ∷ []) unmarked None left (record { told = lit< tt; marks = refl; held = refl }) in
    elim (first-block (history_below write_journal 2) unmarked recovered.exception (lit< tt) recovered.lasts) [
      | inl same ↦ let none : 0 ≡ 1 = same in omega (arith, none)
      | inr beyond ↦ let later : 1 < 0 = beyond.later in omega (arith, later)
    ]

-- a block that is listed before anybody asked
pub unasked-mark : DevicesFollow ReadsFlag write_journal (with_metadata (flag_device (keeps_flag 1) 0 0 1)) → ⊥
unasked-mark follow =
    let left : IsLeftAt (flag_device (keeps_flag 1) 0 0 1) 0 (1 ∷ []) = record { moment = 0; inside = record { begun = lit≤ tt; ended = lit≤ tt }; left = as-clean (1 ∷ []) } in
    let recovered = (follow.metadata 0 (lit≤ tt)).recovered (1 ∷ []) marked None left (record { told = lit< tt; marks = refl; held = refl }) in
    elim (first-block (history_below write_journal 0) marked recovered.exception (lit< tt) recovered.lasts) [
      | inl same ↦ let one : 1 ≡ 0 = same in omega (arith, one)
      | inr beyond ↦ let tried : false ≡ true = beyond.tried in true≢false (sym tried)
    ]
