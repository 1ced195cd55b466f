-- What an opening found on the disk, from the bytes that it read.
use Rattle.std.proofs.Common.{◌≡◌, ℕ, ◌+◌, ◌-◌, ◌*◌, ◌<◌, ◌≤◌, ◌↔◌, Bool, true, false, List, length, get_or, take, drop, Some, None, Option, refl, sym, ap, ◌∙◌, subst, arith, inl, inr}
use Rattle.std.specs.Prelude.{MatchOption, IsSome, IfSome}
use Rattle.std.specs.Int.{w64, from_le_bytes}
use Rattle.std.proofs.lemmas.Bool.{false≢true}
use Rattle.std.proofs.lemmas.List.{get_or-take, get_or-drop, length-drop}
use Rattle.std.proofs.Math.Seq.{take-length}
use Rattle.era_base.specs.Bytes.{part}
use Rattle.era_base.specs.CrashModel.{State, History, IsWhole, Stepped, SameBut, Synced, IsClean, Went}
use Rattle.era_slots.specs.declared.heads.Found.{Found}
use Rattle.era_slots.specs.declared.heads.Found.TheVariants.{NoneOpen, BadSequence as FoundBad, Tied, Active}
use Rattle.era_slots.specs.declared.heads.Head.{Head}
use Rattle.era_slots.specs.Found.{IsHeadOf, IsFound, IsBadHead, IsActiveHead}
use Rattle.era_slots.specs.Slot.{other, SlotIsOpen, SlotIsClosed, commit_number, body_of, page_of, IsBlank, IsBadNumber, HasBadNumber, IsCommitNumber, IsActive}
use Rattle.era_slots.specs.Standing.{IsCommitted, Stands}
use Rattle.era_slots.specs.Calls.{HasFronts}
use Rattle.era_slots.specs.Opening.{IsFoundIn, HasNumber, IsOther, AreBodies}
use Rattle.era_base.proofs.Moments.{went-step, went-join}
use Rattle.era_slots.proofs.Changes.{part-part, same_but-none, same_but-join, same_but-same, synced-same}

-- a head is the head of a slot
pub record IsHead (slot : ℕ) (seen : List ℕ) (head : Head) : Type 0 where
  pub opened : (head.is_open ≡ true) ↔ SlotIsOpen slot seen
  pub numbered : head.number ≡ commit_number slot seen

pub page-first : (slot : ℕ) (seen page : List ℕ) → page ≡ page_of slot seen → get_or page 0 0 ≡ get_or seen (4096 * slot) 0
page-first slot seen page is =
    ap (λ (xs : List ℕ). get_or xs 0 0) is
    ∙ get_or-take 4096 (drop (4096 * slot) seen) 0 0 (omega arith) ∙ get_or-drop (4096 * slot) seen 0 0
    ∙ ap (λ (k : ℕ). get_or seen k 0) (let e : 4096 * slot + 0 ≡ 4096 * slot = omega arith in e)

pub page-number : (slot : ℕ) (seen page : List ℕ) → page ≡ page_of slot seen → commit_number 0 page ≡ commit_number slot seen
unfolding commit_number
page-number slot seen page is = ap (from_le_bytes w64) (ap (part 512 8) is ∙ part-part (4096 * slot) 4096 512 8 seen (omega arith))

pub is-head : (slot : ℕ) (seen page : List ℕ) (head : Head) → page ≡ page_of slot seen → IsHeadOf page head → IsHead slot seen head
is-head slot seen page head is read =
    let first = page-first slot seen page is in
    record {
      opened = (λ flag. sym first ∙ read.opened.0 flag, λ opened. read.opened.1 (first ∙ opened));
      numbered = read.numbered ∙ page-number slot seen page is;
    }

bad-of : (slot : ℕ) (seen : List ℕ) (head : Head) → IsHead slot seen head → IsBadHead head → HasBadNumber slot seen
bad-of slot seen head is bad = (is.opened.0 bad.0, subst IsBadNumber is.numbered bad.1)

bad-head : (slot : ℕ) (seen : List ℕ) (head : Head) → IsHead slot seen head → HasBadNumber slot seen → IsBadHead head
bad-head slot seen head is bad = (is.opened.1 bad.0, subst IsBadNumber (sym is.numbered) bad.1)

closed-of : (slot : ℕ) (seen : List ℕ) (head : Head) → IsHead slot seen head → head.is_open ≡ false → SlotIsClosed slot seen
closed-of slot seen head is flag = λ opened. false≢true (sym flag ∙ is.opened.1 opened)

active-of : (slot beside_slot : ℕ) (seen : List ℕ) (head beside : Head) → other slot ≡ beside_slot → IsHead slot seen head
    → IsHead beside_slot seen beside → IsActiveHead head beside → IsActive slot seen
active-of slot beside_slot seen head beside e is is_beside active = record {
  opened = is.opened.0 active.opened;
  numbered = subst IsCommitNumber is.numbered active.numbered;
  newest = λ opened.
      let newest = active.newest (is_beside.opened.1 (subst (λ k. SlotIsOpen k seen) e opened)) in
      subst (λ k. (0 < commit_number k seen) × (commit_number k seen < commit_number slot seen)) (sym e)
      (omega (arith, is_beside.numbered, newest.0), omega (arith, is_beside.numbered, is.numbered, newest.1));
}

pub found-in : (seen : List ℕ) (first second : Head) (found : Found) → IsHead 0 seen first → IsHead 1 seen second
    → IsFound first second found → IsFoundIn seen found
found-in seen first second NoneOpen one two is = (closed-of 0 seen first one is.0, closed-of 1 seen second two is.1)
found-in seen first second (FoundBad slot) one two is = elim is [
  | inl a ↦ record {
    two = omega (arith, a.0);
    bad = subst (λ k. HasBadNumber k seen) (sym a.0) (bad-of 0 seen first one a.1);
    first = λ e. absurd (omega (arith, e, a.0));
  }
  | inr b ↦ record {
    two = omega (arith, b.0);
    bad = subst (λ k. HasBadNumber k seen) (sym b.0) (bad-of 1 seen second two b.2);
    first = λ e bad. b.1 (bad-head 0 seen first one bad);
  }
]
found-in seen first second Tied one two is = record {
  first = one.opened.0 is.opened;
  second = two.opened.0 is.beside;
  same = sym one.numbered ∙ is.same ∙ two.numbered;
  numbered = subst IsCommitNumber one.numbered is.numbered;
}
found-in seen first second (Active slot) one two is = elim is [
  | inl a ↦ (omega (arith, a.0), subst (λ k. IsActive k seen) (sym a.0) (active-of 0 1 seen first second refl one two a.1))
  | inr b ↦ (omega (arith, b.0), subst (λ k. IsActive k seen) (sym b.0) (active-of 1 0 seen second first refl two one b.1))
]

-- the number of the active slot is a commit's
pub has-number : (one two : List ℕ) (first second : Head) (found : Found) → IsHeadOf one first → IsHeadOf two second
    → IsFound first second found → HasNumber one two found
has-number one two first second NoneOpen a b is = tt
has-number one two first second (FoundBad slot) a b is = tt
has-number one two first second Tied a b is = tt
has-number one two first second (Active slot) a b is = elim is [
  | inl x ↦ (omega (arith, x.0), λ e. subst IsCommitNumber a.numbered x.1.numbered, λ e. absurd (omega (arith, e, x.0)))
  | inr y ↦ (omega (arith, y.0), λ e. absurd (omega (arith, e, y.0)), λ e. subst IsCommitNumber b.numbered y.1.numbered)
]

other-of : (slot : ℕ) → slot < 2 → other (other slot) ≡ slot
other-of slot lt = omega arith

-- where the slots of an opened disk stand
pub stands-opened : (active number : ℕ) (may_be_open : Bool) (now : State) → active < 2 → 12288 ≤ length now.seen → IsClean now → IsActive active now.seen
    → number ≡ commit_number active now.seen → (may_be_open ≡ true) ↔ SlotIsOpen (other active) now.seen
    → Stands (other active) number may_be_open now
stands-opened active number may_be_open now slot size clean is numbered flag = record {
  slot = omega arith;
  size = size;
  below = omega (arith, is.numbered.1, numbered);
  blank = λ none. absurd (omega (arith, is.numbered.0, numbered, none));
  committed = λ some. subst (λ k. IsCommitted k number now) (sym (other-of active slot)) (record {
    clean = λ offset above below. clean offset (omega arith);
    opened = is.opened;
    numbered = sym numbered;
  });
  closed = λ closed. record {
    clean = λ offset above below. clean offset (omega arith);
    closed = λ opened. false≢true (sym closed ∙ flag.1 opened);
  };
  left = λ opened.
      let newest = is.newest (flag.0 opened) in
      record {
        clean = λ offset above below. clean offset (omega arith);
        numbered = (newest.0, omega (arith, newest.1, is.numbered.1));
        order = inl (omega (arith, newest.1, numbered));
      };
}

pub stands-blank : (now : State) → 12288 ≤ length now.seen → IsClean now → IsBlank now.seen → Stands 0 0 false now
stands-blank now size clean blank = record {
  slot = omega arith;
  size = size;
  below = omega arith;
  blank = λ none. record { clean = λ offset above below. clean offset (omega arith); closed = blank.1 };
  committed = λ some. absurd (omega arith);
  closed = λ flag. record { clean = λ offset above below. clean offset (omega arith); closed = blank.0 };
  left = λ flag. absurd (false≢true flag);
}

pub size-whole : (sectors : ℕ) (now : State) → 24 ≤ sectors → IsWhole sectors now → 12288 ≤ length now.seen
size-whole sectors now room whole = omega (arith, whole.bytes)

-- the bodies of pages
pub page-body : (slot : ℕ) (seen : List ℕ) → body_of 0 (page_of slot seen) ≡ body_of slot seen
unfolding body_of
page-body slot seen = part-part (4096 * slot) 4096 520 3576 seen (omega arith)

pub body-page : (slot : ℕ) (seen page content : List ℕ) → length page ≡ 4096 → page ≡ page_of slot seen → content ≡ drop 520 page → content ≡ body_of slot seen
unfolding body_of
body-page slot seen page content size is holds =
    let left : length (drop 520 page) ≡ 3576 = omega (arith, length-drop 520 page) in
    holds
    ∙ sym (ap (λ (k : ℕ). take k (drop 520 page)) (sym left) ∙ take-length (drop 520 page))
    ∙ ap (part 520 3576) is
    ∙ part-part (4096 * slot) 4096 520 3576 seen (omega arith)

pub other-page : (slot : ℕ) (seen page : List ℕ) (older : Option (List ℕ)) → length page ≡ 4096 → page ≡ page_of slot seen
    → MatchOption older (¬ (get_or page 0 0 ≡ 1)) (λ bytes. (get_or page 0 0 ≡ 1) × (bytes ≡ drop 520 page)) → IsOther slot seen older
other-page slot seen page None size is beside = λ opened. beside (page-first slot seen page is ∙ opened)
other-page slot seen page (Some bytes) size is beside =
    (sym (page-first slot seen page is) ∙ beside.0, body-page slot seen page bytes size is beside.1)

rest-size : (page content : List ℕ) → length page ≡ 4096 → content ≡ drop 520 page → length content ≡ 3576
rest-size page content size is = ap length is ∙ omega (arith, length-drop 520 page)

-- the sizes of both bodies, and that the other one is given exactly where its gate is open
pub older-size : (page : List ℕ) (older : Option (List ℕ)) → length page ≡ 4096
    → MatchOption older (¬ (get_or page 0 0 ≡ 1)) (λ bytes. (get_or page 0 0 ≡ 1) × (bytes ≡ drop 520 page)) → IfSome older (λ bytes. length bytes ≡ 3576)
older-size page None size beside = tt
older-size page (Some bytes) size beside = rest-size page bytes size beside.1

pub older-open : (page : List ℕ) (older : Option (List ℕ)) (head : Head) → IsHeadOf page head
    → MatchOption older (¬ (get_or page 0 0 ≡ 1)) (λ bytes. (get_or page 0 0 ≡ 1) × (bytes ≡ drop 520 page)) → (head.is_open ≡ true) ↔ IsSome older
older-open page None head is beside = (λ flag. absurd (beside (is.opened.0 flag)), λ none. absurd (false≢true none))
older-open page (Some bytes) head is beside = (λ flag. refl, λ some. is.opened.1 beside.0)

-- what an opening gives whatever the disk tells
pub beside-shape : (active : ℕ) (own beside content : List ℕ) (older : Option (List ℕ)) (head other_head : Head) → active < 2 → length own ≡ 4096 → length beside ≡ 4096
    → IsHeadOf own head → IsHeadOf beside other_head → IsCommitNumber (commit_number 0 own) → AreBodies own beside content older
    → IsCommitNumber head.number × (length content ≡ 3576) × IfSome older (λ bytes. length bytes ≡ 3576) × ((other_head.is_open ≡ true) ↔ IsSome older)
beside-shape active own beside content older head other_head slot size size' is is' numbered bodies = (
  subst IsCommitNumber (sym is.numbered) numbered,
  rest-size own content size bodies.body,
  older-size beside older size' bodies.beside_open,
  older-open beside older other_head is' bodies.beside_open,
)

-- the sync of an opening, and a read behind it
pub went-again : (old mid new : History) → Went (SameBut 0 0) old mid → Stepped mid new → new.now ≡ mid.now → Went (SameBut 0 0) old new
went-again old mid new went time same =
    went-join (SameBut 0 0) (SameBut 0 0) (SameBut 0 0) old mid new went
    (went-step (SameBut 0 0) mid new time (same_but-none 0 0 mid.now) (same_but-same 0 0 mid.now new.now same))
    (λ now one. one)
    (λ now one later. same_but-join 0 0 old.now mid.now now one later)

pub went-read : (sectors : ℕ) (old mid new : History) → IsWhole sectors old.now → Stepped old mid → Synced old.now mid.now → Stepped mid new → new.now ≡ mid.now
    → Went (SameBut 0 0) old new
went-read sectors old mid new whole first synced second same =
    went-again old mid new
    (went-step (SameBut 0 0) old mid first (same_but-none 0 0 old.now) (synced-same 0 0 old.now mid.now (omega (arith, whole.bytes, whole.flags)) synced))
    second same

-- what stands behind the first 520 bytes
pub rest-of : (bytes : List ℕ) → take (length bytes - 520) (drop 520 bytes) ≡ drop 520 bytes
rest-of bytes = ap (λ (k : ℕ). take k (drop 520 bytes)) (sym (length-drop 520 bytes)) ∙ take-length (drop 520 bytes)

-- the active slot of two
pub active-first : (active : ℕ) (seen : List ℕ) → active ≡ 0 → IsActive active seen → IsActive 0 seen
active-first active seen e is = subst (λ k. IsActive k seen) e is

pub active-second : (active : ℕ) (seen : List ℕ) → (active ≡ 0 → ⊥) → active < 2 → IsActive active seen → IsActive 1 seen
active-second active seen differs lt is = subst (λ k. IsActive k seen) (let e : active ≡ 1 = omega (arith, differs) in e) is

-- the first bytes of a slot that were read into a buffer of so many
pub front-read : (at count : ℕ) (seen buffer : List ℕ) → length buffer ≡ count → buffer ≡ part at (length buffer) seen → buffer ≡ part at count seen
front-read at count seen buffer size is = is ∙ ap (λ (k : ℕ). part at k seen) size

pub pages-read : (zero one : List ℕ) (now : State) → length zero ≡ 4096 → length one ≡ 4096 → HasFronts zero one now
    → (zero ≡ page_of 0 now.seen) × (one ≡ page_of 1 now.seen)
pages-read zero one now size size' read = (front-read 0 4096 now.seen zero size read.first, front-read 4096 4096 now.seen one size' read.second)
