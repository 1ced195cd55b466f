-- Each block that marks list since an era was asked to be marked in that era or a later one.
use Rattle.std.proofs.Common.{◌≡◌, ℕ, ◌<◌, ◌≤◌, true, false, ◌==◌, ◌&&◌, List, [], ◌∷◌, Some, None, Option, refl, ap, sym, ◌∙◌, subst, arith, inl, inr}
use Rattle.std.specs.Prelude.{max, nat_le}
use Rattle.std.proofs.lemmas.Bool.{cases_lt, cond_both, and_from, and_parts, or_cases, or_left, or_right, eqb-true, eq-eqb, le-leb, leb-true}
use Rattle.std.proofs.lemmas.Bool.Decides.{eqb_tells}
use Rattle.std.proofs.lemmas.List.{get_or_past}
use Rattle.era_base.specs.Flags.{has}
use Rattle.era_base.specs.Geometry.{blocks_of}
use Rattle.era_base.specs.declared.ids.CmdId.{CmdId}
use Rattle.era_model.specs.declared.event.Event.TheVariants.{Tried, Mark}
use Rattle.era_model.specs.declared.history.Happening.{Happening}
use Rattle.era_model.specs.declared.history.Happening.TheVariants.{Opened, Happened, Crashed}
use Rattle.era_model.specs.Events.{same_id, drawn_by}
use Rattle.era_model.specs.History.{at_opening, blocks_now}
use Rattle.era_model.specs.Legal.{IsLegal}
use Rattle.era_model.specs.Marking.{asked_since, is_tried_in, journal_last_era, last_drawn}
use Rattle.era_model.specs.Marks.{ArchivedSet, BlockMarks, blocks_of_marks, entry_of, last_archived, marks_last_era, written_since}
use Rattle.era_model.specs.Recovered.{HaveJournalLasts, IsRecoveredFrom}
use Rattle.era_model.specs.Validity.{AreArchivedBetween, AreValidMarks}
use Rattle.era_model.proofs.SwitchLasts.{switch-keeps}

-- archived sets have no block past the end
pub sets-past : (blocks above below : ℕ) (sets : List ArchivedSet) (block : ℕ) → AreArchivedBetween blocks above below sets → blocks ≤ block → last_archived sets block ≡ 0
sets-past blocks above below [] block archived past = refl
sets-past blocks above below (set ∷ sets) block archived past =
    let none : has set.blocks block ≡ false = get_or_past set.blocks block false (let e = archived.2 in omega arith) in
    rw (none, sets-past blocks set.era below sets block archived.3 past) refl

-- valid marks list no block past the end
last-past : (m : BlockMarks) (block : ℕ) → AreValidMarks m → blocks_of_marks m ≤ block → marks_last_era m block ≡ 0
last-past m block valid past =
    let no_entry : entry_of m.array block ≡ 0 = get_or_past m.array block 0 (let e = valid.array_size in omega arith) in
    let no_flag : has m.current block ≡ false = get_or_past m.current block false (let e = valid.current_size in omega arith) in
    rw (no_entry, no_flag, sets-past (blocks_of_marks m) 0 m.era m.archive block valid.archive past) refl

-- the origin has the blocks of its opening's geometry
pub blocks-geometry : (h : List Happening) → blocks_of (at_opening 0 (λ o. o.geometry.sectors) h) (at_opening 0 (λ o. o.geometry.block_sectors) h) ≡ blocks_now h
blocks-geometry [] = refl
blocks-geometry (Opened opening ∷ h) = refl
blocks-geometry (Happened event ∷ h) = blocks-geometry h
blocks-geometry (Crashed images ∷ h) = blocks-geometry h

-- marks of the origin's geometry have as many blocks
pub blocks-same : (h : List Happening) (m : BlockMarks) → m.sectors ≡ at_opening 0 (λ o. o.geometry.sectors) h → m.block_sectors ≡ at_opening 0 (λ o. o.geometry.block_sectors) h → blocks_of_marks m ≡ blocks_now h
blocks-same h m sectors block_sectors = rw (sectors, block_sectors) (blocks-geometry h)

-- a command whose last event is a request for a block's mark has asked for it
drawn-tried : (h : List Happening) (id asker : CmdId) (block era : ℕ) → last_drawn h id ≡ Some (Tried asker block era) → is_tried_in h block era ≡ true
drawn-tried [] id asker block era drawn = absurd (cc)
drawn-tried (Opened opening ∷ h) id asker block era drawn = absurd (cc)
drawn-tried (Happened (Tried other tried asked) ∷ h) id asker block era drawn =
    cond_both (same_id other id) (Some (Tried other tried asked)) (last_drawn h id) (λ last. last ≡ Some (Tried asker block era) → is_tried_in (Happened (Tried other tried asked) ∷ h) block era ≡ true)
    (λ own is.
    let b : tried ≡ block = cc in let e : asked ≡ era = cc in
    or_left (tried == block && asked == era) (is_tried_in h block era) (and_from (tried == block) (asked == era) (eq-eqb tried block b) (eq-eqb asked era e)))
    (λ other is. or_right (tried == block && asked == era) (is_tried_in h block era) (drawn-tried h id asker block era is)) drawn
drawn-tried (Happened event ∷ h) id asker block era drawn =
    cond_both (same_id (drawn_by event) id) (Some event) (last_drawn h id) (λ last. last ≡ Some (Tried asker block era) → is_tried_in h block era ≡ true)
    (λ own is. absurd (cc))
    (λ other is. drawn-tried h id asker block era is) drawn
drawn-tried (Crashed images ∷ h) id asker block era drawn = drawn-tried h id asker block era drawn

-- a request in the era or a later one is one since the era
tried-asked : (h : List Happening) (block asked era : ℕ) → is_tried_in h block asked ≡ true → max era 1 ≤ asked → asked_since h era block ≡ true
tried-asked [] block asked era tried since = absurd (cc)
tried-asked (Opened opening ∷ h) block asked era tried since = absurd (cc)
tried-asked (Happened (Tried id other now) ∷ h) block asked era tried since = elim (or_cases (other == block && now == asked) (is_tried_in h block asked) tried) [
  | inl here ↦
      let parts = and_parts (other == block) (now == asked) here in
      let same = eqb-true now asked parts.1 in
      or_left (other == block && nat_le (max era 1) now) (asked_since h era block) (and_from (other == block) (nat_le (max era 1) now) parts.0 (le-leb (max era 1) now (omega arith)))
  | inr before ↦ or_right (other == block && nat_le (max era 1) now) (asked_since h era block) (tried-asked h block asked era before since)
]
tried-asked (Happened event ∷ h) block asked era tried since = tried-asked h block asked era tried since
tried-asked (Crashed images ∷ h) block asked era tried since = tried-asked h block asked era tried since

-- what recovered marks list was asked for, where what the journal's marks list was
listed-by : (h : List Happening) (m : BlockMarks) (exception : Option ℕ) (block era : ℕ) → AreValidMarks m → blocks_of_marks m ≡ blocks_now h → HaveJournalLasts h m exception
    → (max era 1 ≤ journal_last_era h block → asked_since h era block ≡ true) → max era 1 ≤ marks_last_era m block → asked_since h era block ≡ true
listed-by h m exception block era valid size lasts before listed = elim (cases_lt block (blocks_now h)) [
  | inl within ↦ by_exception exception lasts within
  | inr past ↦ absurd (let none = last-past m block valid (omega arith) in omega arith)
]
  where
    by_exception : (exception : Option ℕ) → HaveJournalLasts h m exception → block < blocks_now h → asked_since h era block ≡ true
    by_exception None lasts within = before (let e = lasts block within in omega arith)
    by_exception (Some other) lasts within = elim (eqb_tells block other) [
      | inl same ↦ tried-asked h block (marks_last_era m block) era (subst (λ b. is_tried_in h b (marks_last_era m b) ≡ true) (sym same.1) lasts.0.tried) listed
      | inr apart ↦ before (let e = lasts.1 block within apart.1 in omega arith)
    ]

-- a block whose last mark is of the era or a later one was asked to be marked
last-asked : (h : List Happening) (block era : ℕ) → IsLegal h → max era 1 ≤ journal_last_era h block → asked_since h era block ≡ true
last-asked [] block era legal since = absurd (omega arith)
last-asked (Opened opening ∷ []) block era legal since = le-leb (max era 1) (marks_last_era opening.marks block) since
last-asked (Opened opening ∷ Opened before ∷ h) block era legal since = absurd legal.0
last-asked (Opened opening ∷ Happened event ∷ h) block era legal since = absurd legal.0
last-asked (Opened opening ∷ Crashed images ∷ h) block era legal since =
    let state = legal.1.1.metadata in
    let last : marks_last_era opening.marks block ≡ marks_last_era images.marks block = ap (λ m. marks_last_era m block) legal.0.marks ∙ (switch-keeps images.marks state.valid).lasts block in
    listed-by h images.marks state.exception block era state.valid (blocks-same h images.marks state.sectors state.block_sectors) state.lasts
    (last-asked h block era legal.1.2) (omega arith)
last-asked (Happened (Tried id tried asked) ∷ h) block era legal since =
    or_right (tried == block && nat_le (max era 1) asked) (asked_since h era block) (last-asked h block era legal.2 since)
last-asked (Happened (Mark id marked now) ∷ h) block era legal since =
    cond_both (marked == block) now (journal_last_era h block) (λ last. max era 1 ≤ last → asked_since h era block ≡ true)
    (λ same less. tried-asked h block now era (subst (λ b. is_tried_in h b now ≡ true) (eqb-true marked block same) (drawn-tried h id id marked now legal.1.tried)) less)
    (λ apart less. last-asked h block era legal.2 less) since
last-asked (Happened event ∷ h) block era legal since = last-asked h block era legal.2 since
last-asked (Crashed images ∷ h) block era legal since = last-asked h block era legal.2 since

-- each block that marks list, if they may be recovered, was asked to be marked
pub listed-is_asked : (h : List Happening) (m : BlockMarks) (found : Option BlockMarks) (era block : ℕ) → IsLegal h → IsRecoveredFrom h m found → written_since m era block ≡ true → asked_since h era block ≡ true
listed-is_asked h m found era block legal recovered listed =
    listed-by h m recovered.exception block era recovered.valid (blocks-same h m recovered.sectors recovered.block_sectors) recovered.lasts
    (last-asked h block era legal) (leb-true (max era 1) (marks_last_era m block) listed)
