-- The devices of the small session follow its journal.
use Rattle.std.proofs.Common.{◌≡◌, ℕ, zero, suc, ◌<◌, ◌≤◌, ◌==◌, true, List, [], ◌∷◌, length, take, Option, Some, None, refl, ap, sym, ◌∙◌, subst, arith, lit≤, lit<, inl, inr, if◌then◌else◌}
use Rattle.std.specs.Prelude.{◌↔◌, slice_index}
use Rattle.std.proofs.Math.Nat.{div-eq_of_lt}
use Rattle.std.proofs.lemmas.Bool.{cases_lt, le-leb, lt-ltb, true≢false}
use Rattle.std.proofs.lemmas.List.{get_or_past, length-take}
use Rattle.std.proofs.lemmas.Option.{same_Some}
use Rattle.era_base.specs.CrashModel.{State, IsClean, IsCrashImage, state_at}
use Rattle.era_model.specs.declared.history.Happening.{Happening}
use Rattle.era_model.specs.Changed.{IsCrashContent}
use Rattle.era_model.specs.History.{in_flight, stripe_now}
use Rattle.era_model.specs.Writes.{is_written_at}
use Rattle.era_model.specs.Counts.{PartOf}
use Rattle.era_model.specs.Legal.{IsLegal, IsLegalJournal}
use Rattle.era_model.specs.Marking.{journal_last_era}
use Rattle.era_model.specs.Marks.{BlockMarks, entry_of, marks_last_era}
use Rattle.era_model.specs.Recovered.{IsDurableFrom, IsRecoveredFrom}
use Rattle.era_model.specs.Validity.{AreValidMarks}
use Rattle.era_notes.specs.Parts.{IsIn, bytes_in}
use Rattle.era_notes.specs.Windows.{IsInWindow, IsLeftAt}
use Rattle.era_promise.specs.Rows.{ReadsFlag, clean, flag_device, marked, new_bytes, old_bytes, sector_device, stores_mark, unmarked, write_devices, write_journal, writes_sector}
use Rattle.era_promise.specs.Sessions.{DevicesFollow, EndsDurable, IsPartAt, MetadataFollows, NotesAreOf, PartDevice, PartFollows, history_below, whole_history}

-- a disk with nothing pending has one image
abbrev pub OneImage : Type 0
OneImage = (state : State) → IsClean state ↔ ((image : List ℕ) → IsCrashImage state image → image ≡ state.seen)

clean-sector : (bytes : List ℕ) → length bytes ≤ 512 → IsClean (clean bytes)
clean-sector bytes few offset below = rw (div-eq_of_lt {n = offset} {m = 512} (omega (arith, few, below))) refl

pub image-clean : OneImage → (bytes image : List ℕ) → length bytes ≤ 512 → IsCrashImage (clean bytes) image → image ≡ bytes
image-clean one bytes image few is = (one (clean bytes)).0 (clean-sector bytes few) image is

-- the history of the session at a place
abbrev pub so_far : ℕ → List Happening
so_far place = history_below write_journal place

no-entries : (block : ℕ) → entry_of (0 ∷ []) block ≤ 0
no-entries zero = lit≤ tt
no-entries (suc block) = lit≤ tt

pub valid-unmarked : AreValidMarks unmarked
valid-unmarked = record { begun = lit≤ tt; array_size = refl; current_size = refl; archive = tt; few_sets = lit≤ tt; entries = no-entries }

pub valid-marked : AreValidMarks marked
valid-marked = record { begun = lit≤ tt; array_size = refl; current_size = refl; archive = tt; few_sets = lit≤ tt; entries = no-entries }

legal-opened : IsLegal (so_far 0)
legal-opened = (
  record { valid = valid-unmarked; sectors = refl; block_sectors = refl; era = refl; held = tt; some_stripe = lit≤ tt; few_stripes = lit≤ tt },
  tt,
)

legal-marked : IsLegal (so_far 2)
legal-marked = (
  refl,
  record { of_origin = lit< tt; tried = refl; present = refl },
  (refl, record { of_origin = lit< tt; present = refl; unmarked = refl }, legal-opened),
)

legal-issued : IsLegal (so_far 3)
legal-issued = (refl, record { of_origin = lit< tt; whole = refl; place = refl; marked = refl; present = refl; alone = refl; once = refl }, legal-marked)

pub legal-write : IsLegalJournal write_journal
legal-write = record { numbered = (refl, (refl, (refl, (refl, tt)))); legal = (refl, record { writing = refl }, legal-issued) }

-- what may be recovered before the mark, at its request, and behind it
recovered-before : IsRecoveredFrom (so_far 0) unmarked None
recovered-before = record { valid = valid-unmarked; sectors = refl; block_sectors = refl; exception = None; lasts = λ block inside. refl; era = inl refl; valid_snapshot = tt; snapshot = inl refl }

recovered-asked : IsRecoveredFrom (so_far 1) unmarked None
recovered-asked = record { valid = valid-unmarked; sectors = refl; block_sectors = refl; exception = None; lasts = λ block inside. refl; era = inl refl; valid_snapshot = tt; snapshot = inl refl }

recovered-ahead : IsRecoveredFrom (so_far 1) marked None
recovered-ahead = record {
  valid = valid-marked;
  sectors = refl;
  block_sectors = refl;
  exception = Some 0;
  lasts = (record { later = lit< tt; tried = refl }, λ block inside apart. let one : block < 1 = inside in absurd (apart (omega (arith, one))));
  era = inl refl;
  valid_snapshot = tt;
  snapshot = inl refl;
}

last-marked : (block : ℕ) → block < 1 → marks_last_era marked block ≡ journal_last_era (so_far 2) block
last-marked zero inside = refl
last-marked (suc block) inside = absurd (omega (arith, inside))

recovered-marked : IsRecoveredFrom (so_far 2) marked None
recovered-marked = record { valid = valid-marked; sectors = refl; block_sectors = refl; exception = None; lasts = last-marked; era = inl refl; valid_snapshot = tt; snapshot = inl refl }

recovered-issued : IsRecoveredFrom (so_far 3) marked None
recovered-issued = record { valid = valid-marked; sectors = refl; block_sectors = refl; exception = None; lasts = last-marked; era = inl refl; valid_snapshot = tt; snapshot = inl refl }

recovered-done : IsRecoveredFrom (so_far 4) marked None
recovered-done = record { valid = valid-marked; sectors = refl; block_sectors = refl; exception = None; lasts = last-marked; era = inl refl; valid_snapshot = tt; snapshot = inl refl }

-- the marks that a flag tells
abbrev flagged : List ℕ → BlockMarks
flagged image = if slice_index image 0 == 1 then marked else unmarked

-- an image of these bytes stands for what may be recovered
by-image : (h : List Happening) (bytes image : List ℕ) (m : BlockMarks) (found : Option BlockMarks) → image ≡ bytes → IsRecoveredFrom h (flagged bytes) None → ReadsFlag image m found → IsRecoveredFrom h m found
by-image h bytes image m found same recovered flag =
    subst (IsRecoveredFrom h m) (sym flag.held) (subst (λ (marks : BlockMarks). IsRecoveredFrom h marks None) (sym (flag.marks ∙ ap flagged same)) recovered)

-- before the request, and once the mark is stored, the metadata disk has one image
unmarked-at : OneImage → (moment : ℕ) (image : List ℕ) → moment ≤ 0 → IsCrashImage (state_at stores_mark moment) image → image ≡ 0 ∷ []
unmarked-at one zero image ended left = image-clean one (0 ∷ []) image (lit≤ tt) left
unmarked-at one (suc moment) image ended left = absurd (omega (arith, ended))

marked-at : OneImage → (moment : ℕ) (image : List ℕ) → 1 ≤ moment → moment ≤ 1 → IsCrashImage (state_at stores_mark moment) image → image ≡ 1 ∷ []
marked-at one zero image begun ended left = absurd (omega (arith, begun))
marked-at one (suc zero) image begun ended left = image-clean one (1 ∷ []) image (lit≤ tt) left
marked-at one (suc (suc moment)) image begun ended left = absurd (omega (arith, ended))

-- what the metadata disk is left as, at each place
flag-at : OneImage → (place moment : ℕ) (image : List ℕ) (m : BlockMarks) (found : Option BlockMarks) → place ≤ 4 → IsInWindow (flag_device stores_mark 0 0 1) place moment → IsCrashImage (state_at stores_mark moment) image
    → ReadsFlag image m found → IsRecoveredFrom (so_far place) m found
flag-at one zero moment image m found within window left flag = by-image (so_far 0) (0 ∷ []) image m found (unmarked-at one moment image window.ended left) recovered-before flag
flag-at one (suc zero) zero image m found within window left flag = by-image (so_far 1) (0 ∷ []) image m found (unmarked-at one zero image (lit≤ tt) left) recovered-asked flag
flag-at one (suc zero) (suc moment) image m found within window left flag =
    by-image (so_far 1) (1 ∷ []) image m found (marked-at one (suc moment) image (omega arith) window.ended left) recovered-ahead flag
flag-at one (suc (suc zero)) moment image m found within window left flag = by-image (so_far 2) (1 ∷ []) image m found (marked-at one moment image window.begun window.ended left) recovered-marked flag
flag-at one (suc (suc (suc zero))) moment image m found within window left flag = by-image (so_far 3) (1 ∷ []) image m found (marked-at one moment image window.begun window.ended left) recovered-issued flag
flag-at one (suc (suc (suc (suc zero)))) moment image m found within window left flag = by-image (so_far 4) (1 ∷ []) image m found (marked-at one moment image window.begun window.ended left) recovered-done flag
flag-at one (suc (suc (suc (suc (suc place))))) moment image m found within window left flag = absurd (omega (arith, within))

-- which marks are found before the request, and behind the write's issue
pub found-before : OneImage → (image : List ℕ) (m : BlockMarks) (found : Option BlockMarks) → IsLeftAt (flag_device stores_mark 0 0 1) 0 image → ReadsFlag image m found → m ≡ unmarked
found-before one image m found left flag = flag.marks ∙ ap flagged (unmarked-at one left.moment image left.inside.ended left.left)

pub found-behind : OneImage → (image : List ℕ) (m : BlockMarks) (found : Option BlockMarks) → IsLeftAt (flag_device stores_mark 0 0 1) 3 image → ReadsFlag image m found → m ≡ marked
found-behind one image m found left flag = flag.marks ∙ ap flagged (marked-at one left.moment image left.inside.begun left.inside.ended left.left)

-- its byte tells
told-at : OneImage → (moment : ℕ) (image : List ℕ) → IsCrashImage (state_at stores_mark moment) image → slice_index image 0 < 2
told-at one zero image left = subst (λ i. slice_index i 0 < 2) (sym (image-clean one (0 ∷ []) image (lit≤ tt) left)) (lit< tt)
told-at one (suc moment) image left = subst (λ i. slice_index i 0 < 2) (sym (image-clean one (1 ∷ []) image (lit≤ tt) left)) (lit< tt)

metadata-follows : OneImage → (place : ℕ) → place ≤ 4 → MetadataFollows ReadsFlag write_journal (flag_device stores_mark 0 0 1) place
metadata-follows one place within = record {
  stands = λ image left. (flagged image, None, record { told = told-at one left.moment image left.left; marks = refl; held = refl });
  recovered = λ image m found left flag. flag-at one place left.moment image m found within left.inside left.left flag;
}

-- an image of known bytes of the sector
by-bytes : (h : List Happening) (bytes image : List ℕ) → image ≡ bytes → IsCrashContent h 0 (bytes_in (sector_device 0 2).part bytes 0) → IsCrashContent h 0 (bytes_in (sector_device 0 2).part image 0)
by-bytes h bytes image same may = subst (λ i. IsCrashContent h 0 (bytes_in (sector_device 0 2).part i 0)) (sym same) may

-- while the write is in flight the sector may read as anything
in-flight : (offset : ℕ) → offset < 512 → is_written_at (in_flight (so_far 3)) 0 offset ≡ true
in-flight offset inside = rw (le-leb 0 offset (omega arith), lt-ltb offset 512 inside) refl

any-sector : (image : List ℕ) → length image ≡ 512 → IsCrashContent (so_far 3) 0 (bytes_in (sector_device 0 2).part image 0)
any-sector image size = record {
  size = let whole : length (take 4096 image) ≡ 512 = length-take 4096 image ∙ rw size refl in whole;
  same = λ offset clear. elim (cases_lt offset 512) [
    | inl inside ↦ absurd (true≢false (sym (in-flight offset inside) ∙ clear))
    | inr past ↦
        get_or_past (take 4096 image) offset 0 (let whole : length (take 4096 image) ≡ 512 = length-take 4096 image ∙ rw size refl in omega (arith, whole, past))
        ∙ sym (get_or_past old_bytes offset 0 (omega (arith, past)))
  ];
}

-- what the origin's disk is left as, at each place
sector-at : OneImage → (place moment : ℕ) (image : List ℕ) → place ≤ 4 → IsInWindow (sector_device 0 2).device place moment → IsCrashImage (state_at writes_sector moment) image
    → IsCrashContent (so_far place) 0 (bytes_in (sector_device 0 2).part image 0)
sector-at one zero zero image within window left = by-bytes (so_far 0) old_bytes image (image-clean one old_bytes image (lit≤ tt) left) (record { size = refl; same = λ offset clear. refl })
sector-at one zero (suc moment) image within window left = absurd (let late : suc moment ≤ 0 = window.ended in omega (arith, late))
sector-at one (suc zero) zero image within window left = by-bytes (so_far 1) old_bytes image (image-clean one old_bytes image (lit≤ tt) left) (record { size = refl; same = λ offset clear. refl })
sector-at one (suc zero) (suc moment) image within window left = absurd (let late : suc moment ≤ 0 = window.ended in omega (arith, late))
sector-at one (suc (suc zero)) zero image within window left = by-bytes (so_far 2) old_bytes image (image-clean one old_bytes image (lit≤ tt) left) (record { size = refl; same = λ offset clear. refl })
sector-at one (suc (suc zero)) (suc moment) image within window left = absurd (let late : suc moment ≤ 0 = window.ended in omega (arith, late))
sector-at one (suc (suc (suc zero))) zero image within window left = any-sector image left.size
sector-at one (suc (suc (suc zero))) (suc zero) image within window left = any-sector image left.size
sector-at one (suc (suc (suc zero))) (suc (suc moment)) image within window left = any-sector image (left.size)
sector-at one (suc (suc (suc (suc zero)))) zero image within window left = absurd (let early : 2 ≤ 0 = window.begun in omega (arith, early))
sector-at one (suc (suc (suc (suc zero)))) (suc zero) image within window left = absurd (let early : 2 ≤ 1 = window.begun in omega (arith, early))
sector-at one (suc (suc (suc (suc zero)))) (suc (suc moment)) image within window left = by-bytes (so_far 4) new_bytes image (image-clean one new_bytes image (lit≤ tt) left) (record { size = refl; same = λ offset clear. refl })
sector-at one (suc (suc (suc (suc (suc place))))) moment image within window left = absurd (omega (arith, within))

sector-follows : OneImage → (place block : ℕ) (image : List ℕ) → place ≤ 4 → IsLeftAt (sector_device 0 2).device place image → IsIn (sector_device 0 2).part block
    → IsCrashContent (so_far place) block (bytes_in (sector_device 0 2).part image block)
sector-follows one place zero image within left inside = sector-at one place left.moment image within left.inside left.left
sector-follows one place (suc block) image within left inside = absurd (let high : suc block < 1 = inside.high in omega (arith, high))

-- the one part
part-follows : OneImage → (place stripe : ℕ) (part : PartDevice) → place ≤ 4 → IsPartAt write_devices stripe part → PartFollows write_journal part place
part-follows one place zero part within is = subst (λ device. PartFollows write_journal device place) (same_Some (sector_device 0 2) part is) (λ image left block inside. sector-follows one place block image within left inside)
part-follows one place (suc stripe) part within is = absurd (cc)

part-notes : (stripe : ℕ) (part : PartDevice) → IsPartAt write_devices stripe part → NotesAreOf write_journal (PartOf stripe) part.device
part-notes zero part is = subst (λ (device : PartDevice). NotesAreOf write_journal (PartOf 0) device.device) (same_Some (sector_device 0 2) part is) (record {
  entries = refl;
  ordered = (lit≤ tt, lit≤ tt, (lit≤ tt, lit≤ tt, lit≤ tt));
})
part-notes (suc stripe) part is = absurd (cc)

pub write-follows : OneImage → DevicesFollow ReadsFlag write_journal write_devices
write-follows one = record {
  legal = legal-write;
  cover = λ block inside. let both = covered block inside in (sector_device 0 2, both.0, both.1);
  part_notes = part-notes;
  metadata_notes = record { entries = refl; ordered = (lit≤ tt, lit≤ tt, (lit≤ tt, lit≤ tt, lit≤ tt)) };
  parts = part-follows one;
  metadata = metadata-follows one;
}
  where
    covered : (block : ℕ) → block < 1 → IsPartAt write_devices (stripe_now (whole_history write_journal) block) (sector_device 0 2) × IsIn (sector_device 0 2).part block
    covered zero inside = (refl, record { low = lit≤ tt; high = lit< tt })
    covered (suc block) inside = absurd (omega (arith, inside))

-- the marks are durable at the end
durable-done : IsDurableFrom (so_far 4) marked None
durable-done = record { recovered = recovered-done; lasts = λ unfailed block inside. last-marked block inside; era = λ unfailed. refl; snapshot = λ unfailed. refl }

pub write-durable : OneImage → EndsDurable ReadsFlag write_journal (flag_device stores_mark 0 0 1)
write-durable one = record {
  stands = λ image left. (flagged image, None, record { told = told-at one 1 image left; marks = refl; held = refl });
  durable = λ image m found left flag.
      subst (IsDurableFrom (so_far 4) m) (sym flag.held)
      (subst (λ (marks : BlockMarks). IsDurableFrom (so_far 4) marks None) (sym (flag.marks ∙ ap flagged (image-clean one (1 ∷ []) image (lit≤ tt) left))) durable-done);
}
