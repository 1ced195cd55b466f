-- Entries of loans: what holds of each of them, and what their loans are.
use Rattle.std.proofs.Common.{◌≡◌, ◌<◌, ℕ, zero, suc, List, [], ◌∷◌, ◌++◌, ◌+◌, ◌-◌, ◌≤◌, length, slice_index_or, inl, inr, map, slice_get, slice_set, Option, Some, None, arith, sym, ◌∙◌, ap, subst, refl}
use Rattle.std.proofs.lemmas.Option.{slice_get-map, none-some, same_Some, slice_get_read}
use Rattle.std.proofs.lemmas.List.{map-set}
use Rattle.std.specs.Option.{option_map}
use Rattle.std.proofs.lemmas.Bool.{cases_lt}
use Rattle.std.specs.Prelude.{Result, Ok, Err, is_ok, if◌then◌else◌}
use Rattle.std.specs.declared.snapshot.Snapshot.{Snapshot}
use Rattle.era_base.specs.Disk.{Place}
use Rattle.era_base.specs.Bay.{Loan, ended_loan, IsOut, EndsLoan, Overlap, IsFree}
use Rattle.era_disks.specs.declared.loan_entry.LoanEntry.{LoanEntry}
use Rattle.era_disks.specs.Loans.{shown, loan_of, loans_of, IsEntryPlaced, IsOutAt, IsLastOut, Blocks}

-- what holds of each element
abbrev pub AllAt : {A : Type 0} → (A → Type 0) → List A → Type 0
AllAt {A} P xs = (i : ℕ) (x : A) → slice_get xs i ≡ Some x → P x

pub all_at-push : {A : Type 0} (P : A → Type 0) (xs : List A) (y : A) → AllAt P xs → P y → AllAt P (xs ++ y ∷ [])
all_at-push P [] y all here zero x e = subst P (same_Some y x e) here
all_at-push P [] y all here (suc i) x e = absurd (none-some x e)
all_at-push P (z ∷ zs) y all here zero x e = all 0 x e
all_at-push P (z ∷ zs) y all here (suc i) x e = all_at-push P zs y (λ j w q. all (suc j) w q) here i x e

pub all_at-set : {A : Type 0} (P : A → Type 0) (xs : List A) (k : ℕ) (y : A) → AllAt P xs → P y → AllAt P (slice_set xs k y)
all_at-set P [] k y all here i x e = all i x e
all_at-set P (z ∷ zs) zero y all here zero x e = subst P (same_Some y x e) here
all_at-set P (z ∷ zs) zero y all here (suc i) x e = all (suc i) x e
all_at-set P (z ∷ zs) (suc k) y all here zero x e = all 0 x e
all_at-set P (z ∷ zs) (suc k) y all here (suc i) x e = all_at-set P zs k y (λ j w q. all (suc j) w q) here i x e

-- after a push that may fail
pub all_at-pushed : {A E : Type 0} (P : A → Type 0) (xs ys : List A) (y : A) (r : Result (Unit {0}) E)
    → ys ≡ (if is_ok r then xs ++ y ∷ [] else xs) → AllAt P xs → P y → AllAt P ys
all_at-pushed P xs ys y (Ok u) e all here = subst (AllAt P) (sym e) (all_at-push P xs y all here)
all_at-pushed P xs ys y (Err u) e all here = subst (AllAt P) (sym e) all

-- what an element of a mapped list is made of
pub at_source : {A B : Type 0} (f : A → B) (Q : B → Type 0) (xs : List A) (i : ℕ) (y : B)
    → slice_get (map f xs) i ≡ Some y → ((x : A) → slice_get xs i ≡ Some x → Q (f x)) → Q y
at_source f Q [] i y e k = absurd (none-some y e)
at_source f Q (x ∷ xs) zero y e k = subst Q (same_Some (f x) y e) (k x refl)
at_source f Q (x ∷ xs) (suc i) y e k = at_source f Q xs i y e k

pub at_map : {A B : Type 0} (f : A → B) (xs : List A) (i : ℕ) (x : A) → slice_get xs i ≡ Some x → slice_get (map f xs) i ≡ Some (f x)
at_map f xs i x e = slice_get-map f xs i ∙ ap (option_map f) e

pub shown-none : {D : Type 0} (back : Option (Snapshot D)) → shown back ≡ None → back ≡ None
shown-none None e = refl
shown-none (Some snapshot) e = absurd (none-some snapshot.value (sym e))

pub place-same : (place : Place) (device : List ℕ) (first : ℕ) → place.device ≡ device → place.first ≡ first
    → place ≡ record { device = device; first = first }
place-same place device first d f =
    let one : ℕ → List ℕ → Place = λ at name. record { device = name; first = at } in
    ap (one place.first) d ∙ ap (λ at. one at device) f

-- no entry blocks the range: the range is free
pub free-none : {D : Type 0} (place_of : D → Place) (sectors_of : D → ℕ) (entries : List (LoanEntry D)) (device : List ℕ) (first count : ℕ)
    → AllAt (IsEntryPlaced place_of sectors_of) entries
    → ((index : ℕ) (entry : LoanEntry D) → slice_get entries index ≡ Some entry → Blocks device first count entry → ⊥)
    → IsFree place_of sectors_of (loans_of entries) device first count
free-none {D} place_of sectors_of entries device first count placed none index loan found =
    at_source loan_of
    (λ l. l.back ≡ None → (place_of l.lent).device ≡ device → Overlap first count (place_of l.lent).first (sectors_of l.lent) → ⊥)
    entries index loan found
    (λ entry at out same overlap.
    let is = placed index entry at in
    none index entry at (record {
      out = shown-none entry.back out;
      same_device = sym is.same_device ∙ same;
      overlap = record { before = omega (arith, is.same_first, is.same_size, overlap.before); behind = omega (arith, is.same_first, overlap.behind) };
    }))

-- an entry blocks the range: the range isn't free
pub free-some : {D : Type 0} (place_of : D → Place) (sectors_of : D → ℕ) (entries : List (LoanEntry D)) (device : List ℕ) (first count index : ℕ)
    → (entry : LoanEntry D) → AllAt (IsEntryPlaced place_of sectors_of) entries
    → slice_get entries index ≡ Some entry → Blocks device first count entry
    → IsFree place_of sectors_of (loans_of entries) device first count → ⊥
free-some place_of sectors_of entries device first count index entry placed at blocks free =
    let is = placed index entry at in
    free index (loan_of entry) (at_map loan_of entries index entry at) (ap shown blocks.out) (is.same_device ∙ blocks.same_device)
    (record { before = omega (arith, is.same_first, is.same_size, blocks.overlap.before); behind = omega (arith, is.same_first, blocks.overlap.behind) })

-- a loan that is out has its entry
pub out-entry : {D : Type 0} (place_of : D → Place) (sectors_of : D → ℕ) (entries : List (LoanEntry D)) (place : Place) (sectors index : ℕ)
    → AllAt (IsEntryPlaced place_of sectors_of) entries
    → IsOut place_of sectors_of (loans_of entries) place sectors index
    → ((entry : LoanEntry D) → slice_get entries index ≡ Some entry → IsOutAt place.device place.first sectors entry → ⊥) → ⊥
out-entry {D} place_of sectors_of entries place sectors index placed is none =
    at_source loan_of
    (λ l. l.back ≡ None → place_of l.lent ≡ place → sectors_of l.lent ≡ sectors → ⊥)
    entries index is.loan is.found
    (λ entry at out same_place same_size.
    let was = placed index entry at in
    none entry at (record {
      out = shown-none entry.back out;
      same_device = sym was.same_device ∙ ap (λ (p : Place). p.device) same_place;
      same_first = sym was.same_first ∙ ap (λ (p : Place). p.first) same_place;
      same_size = sym was.same_size ∙ same_size;
    }))
    is.out is.same_place is.same_size

-- the last entry that is out at the disk's place, ended by the disk, ends its loan
pub ends-last : {D : Type 0} (place_of : D → Place) (sectors_of : D → ℕ) (entries : List (LoanEntry D)) (disk : D) (index : ℕ)
    → AllAt (IsEntryPlaced place_of sectors_of) entries
    → (last : IsLastOut entries (place_of disk).device (place_of disk).first (sectors_of disk) index)
    → (now : LoanEntry D) → loan_of now ≡ ended_loan (loan_of last.entry) disk
    → EndsLoan place_of sectors_of disk (loans_of entries) (loans_of (slice_set entries index now))
ends-last {D} place_of sectors_of entries disk index placed last now same =
    let is = placed index last.entry last.found in
    record {
      index = index;
      was = record {
        loan = loan_of last.entry;
        found = at_map loan_of entries index last.entry last.found;
        out = ap shown last.out.out;
        same_place = place-same (place_of last.entry.lent.value) (place_of disk).device (place_of disk).first
            (is.same_device ∙ last.out.same_device) (is.same_first ∙ last.out.same_first);
        same_size = is.same_size ∙ last.out.same_size;
      };
      last = λ later below out. out-entry place_of sectors_of entries (place_of disk) (sectors_of disk) later placed out
          (λ entry at is_out. last.last later entry below at is_out);
      loans = map-set loan_of entries index now ∙ ap (slice_set (map loan_of entries) index) same;
    }

-- what holds of no element below n and not of the one at n
pub none_below : {A : Type 0} (P : A → Type 0) (xs : List A) (n : ℕ) (x : A) → slice_get xs n ≡ Some x → (P x → ⊥)
    → ((i : ℕ) (y : A) → i < n → slice_get xs i ≡ Some y → P y → ⊥)
    → (i : ℕ) (y : A) → i < n + 1 → slice_get xs i ≡ Some y → P y → ⊥
none_below P xs n x at here below i y less e p =
    elim (cases_lt i n) [
      | inl h ↦ below i y h e p
      | inr h ↦
          let same : i ≡ n = omega arith in
          here (subst P (same_Some y x (sym e ∙ ap (slice_get xs) same ∙ at)) p)
    ]

-- what holds of no element from n on and not of the one before it
pub none_from : {A : Type 0} (P : A → Type 0) (xs : List A) (n : ℕ) (x : A) → 0 < n → slice_get xs (n - 1) ≡ Some x → (P x → ⊥)
    → ((i : ℕ) (y : A) → n ≤ i → slice_get xs i ≡ Some y → P y → ⊥)
    → (i : ℕ) (y : A) → n - 1 ≤ i → slice_get xs i ≡ Some y → P y → ⊥
none_from P xs n x some at here from i y less e p =
    elim (cases_lt (n - 1) i) [
      | inl h ↦ from i y (omega arith) e p
      | inr h ↦
          let same : i ≡ n - 1 = omega arith in
          here (subst P (same_Some y x (sym e ∙ ap (slice_get xs) same ∙ at)) p)
    ]

-- the last entry, told in other words
pub last_along : {D : Type 0} (seen entries : List (LoanEntry D)) (device name : List ℕ) (first at sectors count index : ℕ)
    → seen ≡ entries → device ≡ name → first ≡ at → sectors ≡ count
    → IsLastOut seen device first sectors index → IsLastOut entries name at count index
last_along seen entries device name first at sectors count index e d f s was = record {
  entry = was.entry;
  found = ap (λ xs. slice_get xs index) (sym e) ∙ was.found;
  out = record { out = was.out.out; same_device = was.out.same_device ∙ d; same_first = was.out.same_first ∙ f; same_size = was.out.same_size ∙ s };
  last = λ later other below found is. was.last later other below (ap (λ xs. slice_get xs later) e ∙ found)
      (record { out = is.out; same_device = is.same_device ∙ sym d; same_first = is.same_first ∙ sym f; same_size = is.same_size ∙ sym s });
}

pub loan-ended : {D : Type 0} (entry other : LoanEntry D) (snapshot : Snapshot D) (disk : D) → entry ≡ other → snapshot.value ≡ disk
    → loan_of (record entry { back = Some snapshot }) ≡ ended_loan (loan_of other) disk
loan-ended {D} entry other snapshot disk e s =
    let one : D → D → Loan D = λ lent back. record { lent = lent; back = Some back } in
    ap (λ (x : LoanEntry D). one x.lent.value snapshot.value) e ∙ ap (one other.lent.value) s

-- an entry that was read stands in the list
pub read_at : {A : Type 0} (xs : List A) (i : ℕ) (x : A) → i < length xs → x ≡ slice_index_or xs i x → slice_get xs i ≡ Some x
read_at xs i x h e = slice_get_read xs (length xs) i x refl h e
