-- Copies of blocks, and of one block more.
use Rattle.std.proofs.Common.{◌≡◌, ℕ, ◌*◌, ◌/◌, ◌≤◌, zero, suc, List, [], ◌∷◌, ◌++◌, length, take, drop, arith, true, refl, ap, ap₂, sym, ◌∙◌, subst, append_assoc, inl, inr}
use Rattle.std.specs.Prelude.{Option, Some, Result, Ok, Err, slice_index}
use Rattle.std.proofs.lemmas.Bool.{cases_lt, false≢true}
use Rattle.std.proofs.lemmas.List.{append-nil, get_or_past, map-append}
use Rattle.std.proofs.lemmas.List.Concat.{flat_map-append}
use Rattle.std.proofs.lemmas.List.Elements.{All-nil, All-cons, All-append}
use Rattle.era_base.specs.Bytes.{part}
use Rattle.era_base.specs.Calls.{SameDisk}
use Rattle.era_base.specs.CrashModel.{History, IsClean, IsWhole, SameBut, State, Synced, Went, is_pending}
use Rattle.era_base.specs.Disk.{Reads, Syncs}
use Rattle.era_base.specs.Geometry.{span_of}
use Rattle.era_base.specs.Streams.{GivesFront}
use Rattle.era_base.specs.declared.disk.Disk.{Ghosts}
use Rattle.era_base.proofs.Moments.{went-join, went-none, went-now, went-step}
use Rattle.era_line.specs.TextBuffer.{IsEmpty}
use Rattle.era_line.specs.declared.text_buffer.TextBuffer.{TextBuffer}
use Rattle.era_line.proofs.Gathering.{front-longer}
use Rattle.era_line.proofs.PartSteps.{HasAdded, HasCut, added-none, added-then}
use Rattle.era_text.proofs.Gives.{cut-then}
use Rattle.era_tools.specs.declared.copy_error.CopyError.{CopyError}
use Rattle.era_tools.specs.declared.copy_error.CopyError.TheVariants.{Origin, Output}
use Rattle.era_tools.specs.declared.listing.Listing.{Listing}
use Rattle.era_tools.specs.declared.status.Status.{Status}
use Rattle.era_tools.specs.declared.status.Status.TheVariants.{Sink}
use Rattle.era_tools.specs.BackupText.{BlockCopy, HasBytes, HaveBytes, ReachesIn, blocks_of_copies, copy_line, copy_lines}
use Rattle.era_tools.specs.BackupTool.{AddsUntil, CopiesBlocks, CopiesSectors, EndsText, HasCopyCause, OnlyReads, PrintsCopies, TellsCopies}
use Rattle.era_tools.specs.Printing.{Prints}
use Rattle.era_tools.proofs.KeptReads.{seen-went}

-- the state stays
same-still : (state : State) → SameBut 0 0 state state
same-still state = record { bytes = refl; flags = refl; seen = λ offset out. refl; clean = λ offset out is. is }

same-as : (before now : State) → now ≡ before → SameBut 0 0 before now
same-as before now is = subst (λ (state : State). SameBut 0 0 before state) (sym is) (same-still before)

same-then : (before mid now : State) → SameBut 0 0 before mid → SameBut 0 0 mid now → SameBut 0 0 before now
same-then before mid now one two = record {
  bytes = two.bytes ∙ one.bytes;
  flags = two.flags ∙ one.flags;
  seen = λ offset out. two.seen offset out ∙ one.seen offset out;
  clean = λ offset out is. two.clean offset out (one.clean offset out is);
}

-- a sync leaves what is read: past the end each sector counts as pending
past-pending : (state : State) (offset : ℕ) → length state.pending * 512 ≡ length state.seen → length state.seen ≤ offset → is_pending state offset ≡ true
past-pending state offset whole le = get_or_past state.pending (offset / 512) true (omega arith)

same-synced : (sectors : ℕ) (before after : State) → IsWhole sectors before → Synced before after → SameBut 0 0 before after
same-synced sectors before after whole s = record {
  bytes = ap length s.seen;
  flags = s.flags;
  seen = λ offset out. ap (λ (xs : List ℕ). slice_index xs offset) s.seen;
  clean = λ offset out is. elim (cases_lt offset (length after.seen)) [
    | inl lt ↦ s.clean offset lt
    | inr ge ↦ absurd (false≢true (sym is ∙ past-pending before offset (omega (arith, whole.bytes, whole.flags)) (omega (arith, ap length s.seen))))
  ];
}

same-syncs : {T E : Type 0} (sectors : ℕ) (result : Result T E) (old new : History) → IsWhole sectors old.now → Syncs result old new → SameBut 0 0 old.now new.now
same-syncs sectors (Ok value) old new whole s = same-synced sectors old.now new.now whole s.outcome
same-syncs sectors (Err error) old new whole s = same-as old.now new.now s.outcome

pub went-sync : {T E : Type 0} (sectors : ℕ) (result : Result T E) (old new : History) → IsWhole sectors old.now → Syncs result old new → Went (SameBut 0 0) old new
went-sync sectors result old new whole s = went-step (SameBut 0 0) old new s.time (same-still old.now) (same-syncs sectors result old new whole s)

-- and what was clean stays so
pub clean-went : (old new : History) → Went (SameBut 0 0) old new → IsClean old.now → IsClean new.now
clean-went old new went clean = λ offset lt.
    let same = went-now (SameBut 0 0) old new went in
    same.clean offset (λ above. above) (clean offset (omega (arith, lt, same.bytes)))

-- a read leaves the state
pub went-read : {T E : Type 0} (first : ℕ) (buffer : List ℕ) (result : Result T E) (old new : History) → Reads first buffer result old new → Went (SameBut 0 0) old new
went-read first buffer result old new reads = went-step (SameBut 0 0) old new reads.time (same-still old.now) (same-as old.now new.now reads.same)

-- calls that leave it, and more
pub went-then : (old mid new : History) → Went (SameBut 0 0) old mid → Went (SameBut 0 0) mid new → Went (SameBut 0 0) old new
went-then old mid new one two =
    went-join (SameBut 0 0) (SameBut 0 0) (SameBut 0 0) old mid new one two (λ state same. same) (λ state first second. same-then old.now mid.now state first second)

-- blocks up to one, and the rest
pub front-rest : (xs : List ℕ) (i : ℕ) → take i xs ++ drop i xs ≡ xs
front-rest [] zero = refl
front-rest [] (suc i) = refl
front-rest (x ∷ xs) zero = refl
front-rest (x ∷ xs) (suc i) = ap (λ rest. x ∷ rest) (front-rest xs i)

-- how far copies of some blocks and of one more come
reached-join : {T : Type 0} (front first second : List ℕ) (block : ℕ) (ended : Result T CopyError) → first ≡ front
    → ReachesIn (block ∷ []) ended second → ReachesIn (front ++ block ∷ []) ended (first ++ second)
reached-join front first second block (Ok value) is reached = ap₂ (λ (a b : List ℕ). a ++ b) is reached
reached-join front first second block (Err (Origin count)) is reached = (
  reached.0,
  reached.1,
  append_assoc first second (reached.0 ∷ reached.1) ∙ ap₂ (λ (a b : List ℕ). a ++ b) is reached.2,
)
reached-join front first second block (Err Output) is reached =
    (reached.0, append_assoc first second reached.0 ∙ ap₂ (λ (a b : List ℕ). a ++ b) is reached.1)

-- what was added of them
added-join : {T : Type 0} (given given' given'' : Option (List ℕ)) (text text' text'' : TextBuffer) (first second : List ℕ) (ended : Result T CopyError)
    → HasAdded given text given' text' first → AddsUntil ended given' text' given'' text'' second → AddsUntil ended given text given'' text'' (first ++ second)
added-join given given' given'' text text' text'' first second (Ok value) one two = added-then given given' given'' text text' text'' first second one two
added-join given given' given'' text text' text'' first second (Err (Origin count)) one two = added-then given given' given'' text text' text'' first second one two
added-join given given' given'' text text' text'' first second (Err Output) one two = cut-then given given' given'' text text' first second one two

module _ (D : Type 0) (disk : Ghosts D) (sectors block_sectors : ℕ) where
  pub copies-none : (old : D) (given : Option (List ℕ)) (text : TextBuffer)
      → CopiesBlocks {T = Unit {0}} disk sectors block_sectors [] old old given given text text (Ok tt)
  copies-none old given text = record {
    copies = [];
    reached = refl;
    bytes = λ tells. All-nil (HasBytes sectors block_sectors (disk.history old).now.seen);
    added = added-none given text;
    moments = λ tells. went-none (SameBut 0 0) (disk.history old) (same-still (disk.history old).now);
    same = record { place = refl; size = refl };
    cause = refl;
  }

  -- one block
  pub copies-one : {T : Type 0} (block first count : ℕ) (old new : D) (given given' : Option (List ℕ)) (text text' : TextBuffer) (ended : Result T CopyError)
      → first ≡ (span_of sectors block_sectors block).0 → count ≡ (span_of sectors block_sectors block).1 * 512
      → CopiesSectors disk block first count old new given given' text text' ended
      → CopiesBlocks disk sectors block_sectors (block ∷ []) old new given given' text text' ended
  copies-one block first count old new given given' text text' (Ok value) at_first so_many copied = record {
    copies = record { block = block; bytes = copied.bytes } ∷ [];
    reached = refl;
    bytes = λ tells. All-cons (HasBytes sectors block_sectors (disk.history old).now.seen) (record { block = block; bytes = copied.bytes }) []
        (copied.read tells ∙ ap₂ (λ (f n : ℕ). part (f * 512) n (disk.history old).now.seen) at_first so_many)
        (All-nil (HasBytes sectors block_sectors (disk.history old).now.seen));
    added = subst (HasAdded given text given' text') (sym (append-nil (copy_line (record { block = block; bytes = copied.bytes })))) copied.added;
    moments = copied.moments;
    same = copied.same;
    cause = copied.cause;
  }
  copies-one block first count old new given given' text text' (Err (Origin faults)) at_first so_many copied = record {
    copies = [];
    reached = (block, [], refl);
    bytes = λ tells. All-nil (HasBytes sectors block_sectors (disk.history old).now.seen);
    added = copied.added;
    moments = copied.moments;
    same = copied.same;
    cause = copied.cause;
  }
  copies-one block first count old new given given' text text' (Err Output) at_first so_many copied = record {
    copies = record { block = block; bytes = copied.bytes } ∷ [];
    reached = ([], refl);
    bytes = λ tells. All-cons (HasBytes sectors block_sectors (disk.history old).now.seen) (record { block = block; bytes = copied.bytes }) []
        (copied.read tells ∙ ap₂ (λ (f n : ℕ). part (f * 512) n (disk.history old).now.seen) at_first so_many)
        (All-nil (HasBytes sectors block_sectors (disk.history old).now.seen));
    added = subst (HasCut given text given') (sym (append-nil (copy_line (record { block = block; bytes = copied.bytes })))) copied.added;
    moments = copied.moments;
    same = copied.same;
    cause = copied.cause;
  }

  -- some blocks, and one more
  pub copies-then : {T : Type 0} (front : List ℕ) (block : ℕ) (old mid new : D) (given given' given'' : Option (List ℕ)) (text text' text'' : TextBuffer) (ended : Result T CopyError)
      → CopiesBlocks {T = Unit {0}} disk sectors block_sectors front old mid given given' text text' (Ok tt)
      → CopiesBlocks disk sectors block_sectors (block ∷ []) mid new given' given'' text' text'' ended
      → CopiesBlocks disk sectors block_sectors (front ++ block ∷ []) old new given given'' text text'' ended
  copies-then front block old mid new given given' given'' text text' text'' ended one two = record {
    copies = one.copies ++ two.copies;
    reached = subst (ReachesIn (front ++ block ∷ []) ended) (sym (map-append (λ (copy : BlockCopy). copy.block) one.copies two.copies))
        (reached-join front (blocks_of_copies one.copies) (blocks_of_copies two.copies) block ended one.reached two.reached);
    bytes = λ tells. All-append (HasBytes sectors block_sectors (disk.history old).now.seen) one.copies two.copies (one.bytes tells)
        (subst (λ content. HaveBytes sectors block_sectors content two.copies)
        (seen-went (disk.history old) (disk.history mid) (one.moments tells)) (two.bytes tells));
    added = subst (AddsUntil ended given text given'' text'') (sym (flat_map-append copy_line one.copies two.copies))
        (added-join given given' given'' text text' text'' (copy_lines one.copies) (copy_lines two.copies) ended one.added two.added);
    moments = λ tells. went-then (disk.history old) (disk.history mid) (disk.history new) (one.moments tells) (two.moments tells);
    same = record { place = two.same.place ∙ one.same.place; size = two.same.size ∙ one.same.size };
    cause = subst (λ before. HasCopyCause before (disk.faults new) ended) one.cause two.cause;
  }

  -- some blocks up to a failure, and others behind them
  pub copies-longer : {T : Type 0} (front rest : List ℕ) (old new : D) (given given' : Option (List ℕ)) (text text' : TextBuffer) (error : CopyError)
      → CopiesBlocks {T = T} disk sectors block_sectors front old new given given' text text' (Err error)
      → CopiesBlocks {T = T} disk sectors block_sectors (front ++ rest) old new given given' text text' (Err error)
  copies-longer {T} front rest old new given given' text text' error copied = record {
    copies = copied.copies;
    reached = longer error copied.reached;
    bytes = copied.bytes;
    added = copied.added;
    moments = copied.moments;
    same = copied.same;
    cause = copied.cause;
  }
    where
      longer : (error : CopyError) → ReachesIn {T = T} front (Err error) (blocks_of_copies copied.copies) → ReachesIn {T = T} (front ++ rest) (Err error) (blocks_of_copies copied.copies)
      longer (Origin count) reached = (
        reached.0,
        reached.1 ++ rest,
        sym (append_assoc (blocks_of_copies copied.copies) (reached.0 ∷ reached.1) rest) ∙ ap (λ (front : List ℕ). front ++ rest) reached.2,
      )
      longer Output reached = (
        reached.0 ++ rest,
        sym (append_assoc (blocks_of_copies copied.copies) reached.0 rest) ∙ ap (λ (front : List ℕ). front ++ rest) reached.1,
      )

-- a whole text: its head, the lines behind it, and its last line
pub prints-ended : (given given' given'' given''' : Option (List ℕ)) (text text' text'' : TextBuffer) (head lines line : List ℕ) (ended result : Status)
    → IsEmpty text → HasAdded given text given' text' head → HasAdded given' text' given'' text'' lines → EndsText given'' text'' given''' line ended result
    → Prints given given''' (head ++ (lines ++ line)) ended result
prints-ended given given' given'' given''' text text' text'' head lines line ended result empty one two (inl all) = inl (
  all.0,
  (λ before is.
      all.1 before (head ++ lines) (two before head (one before [] (empty before given is)))
      ∙ ap (λ bytes. Some (before ++ bytes)) (append_assoc head lines line)),
)
prints-ended given given' given'' given''' text text' text'' head lines line ended result empty one two (inr some) = inr (
  some.0,
  (λ before is.
      subst (λ bytes. GivesFront before bytes given''') (append_assoc head lines line)
      (some.1 before (head ++ lines) (two before head (one before [] (empty before given is))))),
)

-- a text that was cut in its lines, or in its head
pub prints-cut : (given given' given'' : Option (List ℕ)) (text text' : TextBuffer) (head lines : List ℕ)
    → IsEmpty text → HasAdded given text given' text' head → HasCut given' text' given'' lines → Prints given given'' (head ++ (lines ++ [])) Sink Sink
prints-cut given given' given'' text text' head lines empty one cut = inr (
  refl,
  (λ before is.
      subst (λ bytes. GivesFront before (head ++ bytes) given'') (sym (append-nil lines)) (cut before head (one before [] (empty before given is)))),
)

pub prints-cut_head : (given given' : Option (List ℕ)) (text : TextBuffer) (head : List ℕ) → IsEmpty text → HasCut given text given' head → Prints given given' (head ++ []) Sink Sink
prints-cut_head given given' text head empty cut = inr (refl, (λ before is. front-longer before head [] given' (cut before [] (empty before given is))))

-- what was read after a sync is what was read before it
pub synced-copies : {T E : Type 0} (D : Type 0) (disk : Ghosts D) (listing : Listing) (since : ℕ) (old mid new : D) (given given' : Option (List ℕ)) (result : Status) (value : T)
    → (disk.tells ≡ true → Syncs {T = T} {E = E} (Ok value) (disk.history old) (disk.history mid)) → disk.faults mid ≡ disk.faults old
    → OnlyReads disk mid new → PrintsCopies disk listing since mid new given given' result → TellsCopies disk listing since old new given given' result
synced-copies {T} {E} D disk listing since old mid new given given' result value syncs faults only prints = inl (
  (λ tells. clean-went (disk.history mid) (disk.history new) (only.moments tells) (syncs tells).outcome.clean),
  record {
    copies = prints.copies;
    ended = prints.ended;
    reached = prints.reached;
    bytes = λ tells.
        subst (λ content. HaveBytes listing.geometry.sectors listing.geometry.block_sectors content prints.copies) (syncs tells).outcome.seen (prints.bytes tells);
    cause = subst (λ before. HasCopyCause before (disk.faults new) prints.ended) faults prints.cause;
    printed = prints.printed;
  },
)

pub synced-only : {T E : Type 0} (D : Type 0) (disk : Ghosts D) (old mid : D) (result : Result T E)
    → ((d : D) → disk.tells ≡ true → IsWhole (disk.sectors d) (disk.history d).now)
    → (disk.tells ≡ true → Syncs result (disk.history old) (disk.history mid)) → SameDisk disk old mid → OnlyReads disk old mid
synced-only D disk old mid result whole syncs same = record {
  moments = λ tells. went-sync (disk.sectors old) result (disk.history old) (disk.history mid) (whole old tells) (syncs tells);
  same = same;
}

pub only-then : (D : Type 0) (disk : Ghosts D) (old mid new : D) → OnlyReads disk old mid → OnlyReads disk mid new → OnlyReads disk old new
only-then D disk old mid new one two = record {
  moments = λ tells. went-then (disk.history old) (disk.history mid) (disk.history new) (one.moments tells) (two.moments tells);
  same = record { place = two.same.place ∙ one.same.place; size = two.same.size ∙ one.same.size };
}
