-- The first element of a list that passes a test, and what a write to its place leaves.
use Rattle.std.proofs.Common.{◌≡◌, ℕ, zero, suc, ◌<◌, ◌≤◌, Bool, true, false, List, [], ◌∷◌, ◌++◌, length, find, ◌⊎◌, slice_get, slice_set, slice_index_or, Option, Some, None, inl, inr, arith, refl, sym, ◌∙◌, ap, subst}
use Rattle.std.specs.Prelude.{cond, position, Result, Ok, Err, IfOk, is_ok, if◌then◌else◌}
use Rattle.std.specs.List.{position_or_len}
use Rattle.std.proofs.lemmas.Option.{none-some, same_Some, slice_get-get_or, slice_get_past, get_or_from_slice_get, slice_get_within, slice_get_read}
use Rattle.std.proofs.lemmas.List.Quantifiers.{position-Some}
use Rattle.std.proofs.lemmas.List.Folds.{find_at}
use Rattle.std.proofs.lemmas.Bool.{cases_lt, lt-ltb, false≢true}
use Rattle.std.specs.Str.{bytes_eq}
use Rattle.std.proofs.lemmas.Slice.Eq.{bytes_eq-Decides}
use Rattle.era_disks.specs.Devices.{IsFoundAt, has_name, device_of, device_length, device_size}
use Rattle.era_disks.specs.declared.device.Device.{Device}

pub find-first : {A : Type 0} (p : A → Bool) (xs : List A) (i : ℕ) (x : A) → slice_get xs i ≡ Some x → p x ≡ true
    → ((k : ℕ) (y : A) → k < i → slice_get xs k ≡ Some y → p y ≡ false) → find p xs ≡ Some x
find-first p [] i x at passes first = absurd (none-some x at)
find-first p (z ∷ zs) zero x at passes first =
    let same : z ≡ x = same_Some z x at in
    ap (λ t. cond t (Some z) (find p zs)) (ap p same ∙ passes) ∙ ap (λ y. Some y) same
find-first p (z ∷ zs) (suc i) x at passes first =
    ap (λ t. cond t (Some z) (find p zs)) (first 0 z (omega arith) refl)
    ∙ find-first p zs i x at passes (λ k y below e. first (suc k) y (omega arith) e)

pub find-set_same : {A : Type 0} (p : A → Bool) (xs : List A) (i : ℕ) (x now : A) → slice_get xs i ≡ Some x → p now ≡ true
    → ((k : ℕ) (y : A) → k < i → slice_get xs k ≡ Some y → p y ≡ false) → find p (slice_set xs i now) ≡ Some now
find-set_same p [] i x now at passes first = absurd (none-some x at)
find-set_same p (z ∷ zs) zero x now at passes first = ap (λ t. cond t (Some now) (find p zs)) passes
find-set_same p (z ∷ zs) (suc i) x now at passes first =
    ap (λ t. cond t (Some z) (find p (slice_set zs i now))) (first 0 z (omega arith) refl)
    ∙ find-set_same p zs i x now at passes (λ k y below e. first (suc k) y (omega arith) e)

pub find-set_other : {A : Type 0} (p : A → Bool) (xs : List A) (i : ℕ) (x now : A) → slice_get xs i ≡ Some x → p x ≡ false → p now ≡ false
    → find p (slice_set xs i now) ≡ find p xs
find-set_other p [] i x now at was is = refl
find-set_other p (z ∷ zs) zero x now at was is =
    let same : z ≡ x = same_Some z x at in
    ap (λ t. cond t (Some now) (find p zs)) is ∙ sym (ap (λ t. cond t (Some z) (find p zs)) (ap p same ∙ was))
find-set_other p (z ∷ zs) (suc i) x now at was is =
    ap (λ rest. cond (p z) (Some z) rest) (find-set_other p zs i x now at was is)

pub find-push : {A : Type 0} (p : A → Bool) (xs : List A) (now : A) → find p xs ≡ None → find p (xs ++ now ∷ []) ≡ cond (p now) (Some now) None
find-push p [] now none = refl
find-push {A} p (z ∷ zs) now none = go (p z) none (find-push p zs now)
  where
    go : (b : Bool) → cond b (Some z) (find p zs) ≡ None → (find p zs ≡ None → find p (zs ++ now ∷ []) ≡ cond (p now) (Some now) None)
        → cond b (Some z) (find p (zs ++ now ∷ [])) ≡ cond (p now) (Some now) None
    go true e rest = absurd (none-some z (sym e))
    go false e rest = rest e

pub find-push_other : {A : Type 0} (p : A → Bool) (xs : List A) (now : A) → p now ≡ false → find p (xs ++ now ∷ []) ≡ find p xs
find-push_other p [] now fails = ap (λ t. cond t (Some now) None) fails
find-push_other p (z ∷ zs) now fails = ap (λ rest. cond (p z) (Some z) rest) (find-push_other p zs now fails)

pub find-none : {A : Type 0} (p : A → Bool) (xs : List A) → position p xs ≡ None → find p xs ≡ None
find-none p xs none =
    elim (cases_lt (position_or_len p xs) (length xs)) [
      | inl below ↦ absurd (none-some (position_or_len p xs)
          (sym none ∙ ap (λ t. cond t (Some (position_or_len p xs)) None) (lt-ltb (position_or_len p xs) (length xs) below)))
      | inr past ↦ find_at p xs ∙ slice_get_past xs (position_or_len p xs) past
    ]

pub named-same : (xs ys : List ℕ) → bytes_eq xs ys ≡ true → xs ≡ ys
named-same xs ys e = (bytes_eq-Decides xs ys).0 e

-- the first device with a name
pub found-at : (devices : List Device) (name : List ℕ) (index : ℕ) → position (has_name name) devices ≡ Some index → IsFoundAt devices name index
found-at [] name index is = absurd (none-some index is)
found-at (device ∷ devices) name index is =
    let some = position-Some (has_name name) (device ∷ devices) index device is in
    let here : Device = slice_index_or (device ∷ devices) index device in
    let at : slice_get (device ∷ devices) index ≡ Some here = slice_get-get_or (device ∷ devices) index device some.0 in
    let first : (before : ℕ) (other : Device) → before < index → slice_get (device ∷ devices) before ≡ Some other → has_name name other ≡ false =
    λ before other below e. ap (has_name name) (sym (get_or_from_slice_get (device ∷ devices) before other device e)) ∙ some.2 before below in
    record {
      device = here;
      at = at;
      named = named-same here.name name some.1;
      found = find-first (has_name name) (device ∷ devices) index here at some.1 first;
      first = first;
    }

pub same-named : (xs ys : List ℕ) → xs ≡ ys → bytes_eq xs ys ≡ true
same-named xs ys e = (bytes_eq-Decides xs ys).1 e

pub other-named : (xs ys : List ℕ) → (xs ≡ ys → ⊥) → bytes_eq xs ys ≡ false
other-named xs ys other = go (bytes_eq xs ys) (λ e. other ((bytes_eq-Decides xs ys).0 e))
  where
    go : (b : Bool) → (b ≡ true → ⊥) → b ≡ false
    go true never = absurd (never refl)
    go false never = refl

pub cases_name : (xs ys : List ℕ) → (xs ≡ ys) ⊎ (xs ≡ ys → ⊥)
cases_name xs ys = go (bytes_eq xs ys) (bytes_eq-Decides xs ys)
  where
    go : (b : Bool) → (b ≡ true → xs ≡ ys) × (xs ≡ ys → b ≡ true) → (xs ≡ ys) ⊎ (xs ≡ ys → ⊥)
    go true d = inl (d.0 refl)
    go false d = inr (λ e. false≢true (d.1 e))

-- the first device with a name was replaced by one of the same name
pub set-named : (devices : List Device) (name : List ℕ) (index : ℕ) (found : IsFoundAt devices name index) (now : Device) → now.name ≡ name
    → device_of (slice_set devices index now) name ≡ Some now
set-named devices name index found now named =
    find-set_same (has_name name) devices index found.device now found.at (same-named now.name name named) found.first

-- what is told of a device is the same, where it is the same for the old one and the new one
pub same-told : {X : Type 0} (F : Option Device → X) (devices : List Device) (name : List ℕ) (index : ℕ) (found : IsFoundAt devices name index) (now : Device)
    → now.name ≡ name → (other : List ℕ) → (other ≡ name → F (Some now) ≡ F (Some found.device))
    → F (device_of (slice_set devices index now) other) ≡ F (device_of devices other)
same-told F devices name index found now named other same =
    elim (cases_name other name) [
      | inl e ↦
          ap (λ (o : List ℕ). F (device_of (slice_set devices index now) o)) e
          ∙ ap F (set-named devices name index found now named)
          ∙ same e
          ∙ sym (ap F found.found)
          ∙ sym (ap (λ (o : List ℕ). F (device_of devices o)) e)
      | inr apart ↦
          ap F (find-set_other (has_name other) devices index found.device now found.at
          (other-named found.device.name other (λ e. apart (sym e ∙ found.named)))
          (other-named now.name other (λ e. apart (sym e ∙ named))))
    ]

-- the device that was read at the index
pub found-device : (devices : List Device) (name : List ℕ) (index : ℕ) (found : IsFoundAt devices name index) (device : Device)
    → device ≡ slice_index_or devices index device → device ≡ found.device
found-device devices name index found device e =
    same_Some device found.device
    (sym (slice_get_read devices (length devices) index device refl (slice_get_within devices index found.device found.at) e) ∙ found.at)

-- a device that was added hides none
pub length-added : (devices : List Device) (now : Device) (name : List ℕ)
    → device_length (device_of devices name) ≤ device_length (device_of (devices ++ now ∷ []) name)
length-added [] now name = omega arith
length-added (device ∷ devices) now name = go (has_name name device) (length-added devices now name)
  where
    go : (b : Bool) → device_length (device_of devices name) ≤ device_length (device_of (devices ++ now ∷ []) name)
        → device_length (cond b (Some device) (device_of devices name)) ≤ device_length (cond b (Some device) (device_of (devices ++ now ∷ []) name))
    go true rest = omega arith
    go false rest = rest

pub added-named : (devices : List Device) (now : Device) (name : List ℕ) → device_of devices name ≡ None → now.name ≡ name
    → device_of (devices ++ now ∷ []) name ≡ Some now
added-named devices now name none named =
    find-push (has_name name) devices now none ∙ ap (λ t. cond t (Some now) None) (same-named now.name name named)

pub added-other : (devices : List Device) (now : Device) (other : List ℕ) → (other ≡ now.name → ⊥)
    → device_of (devices ++ now ∷ []) other ≡ device_of devices other
added-other devices now other apart = find-push_other (has_name other) devices now (other-named now.name other (λ e. apart (sym e)))

-- a device that has no size isn't there
pub no-size : (device : Option Device) → device_size device ≡ None → device ≡ None
no-size None e = refl
no-size (Some device) e = absurd (none-some (length device.state.rows.items) (sym e))

pub length-pushed : {E : Type 0} (devices after : List Device) (now : Device) (name : List ℕ) (r : Result (Unit {0}) E)
    → after ≡ (if is_ok r then devices ++ now ∷ [] else devices)
    → device_length (device_of devices name) ≤ device_length (device_of after name)
length-pushed devices after now name (Ok u) e = omega (arith, length-added devices now name, ap (λ (ds : List Device). device_length (device_of ds name)) e)
length-pushed devices after now name (Err u) e = omega (arith, ap (λ (ds : List Device). device_length (device_of ds name)) e)

pub found-along : (devices devices' : List Device) (name name' : List ℕ) (index : ℕ) → devices ≡ devices' → name ≡ name'
    → IsFoundAt devices name index → IsFoundAt devices' name' index
found-along devices devices' name name' index d n found =
    subst (λ (m : List ℕ). IsFoundAt devices' m index) n (subst (λ (ds : List Device). IsFoundAt ds name index) d found)

pub if_ok_then : {T E : Type 0} (r : Result T E) {P Q : T → Type 0} → IfOk r P → ((x : T) → P x → Q x) → IfOk r Q
if_ok_then (Ok x) p f = f x p
if_ok_then (Err e) p f = p
