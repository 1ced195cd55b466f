-- What a slot's bytes are where they were written, and that slots with the same bytes have the same body.
use Rattle.std.proofs.Common.{◌≡◌, ℕ, ◌+◌, ◌*◌, ◌^◌, ◌<◌, ◌≤◌, List, ◌++◌, length, get_or, take, drop, refl, sym, ap, ◌∙◌, arith}
use Rattle.std.specs.Int.{w64, to_le_bytes, from_le_bytes}
use Rattle.std.proofs.lemmas.List.{get_or-take, get_or-drop, length-take-le, append_assoc}
use Rattle.std.proofs.Math.Seq.{drop-append_seam, take-append_seam, take-length}
use Rattle.std.proofs.lemmas.Nat.{from_le_bytes-to_le_bytes_8}
use Rattle.era_base.specs.Bytes.{part, splice}
use Rattle.era_slots.specs.Slot.{gate_of, commit_number, body_of, closed_gate, open_gate}
use Rattle.era_slots.proofs.Changes.{AgreeIn, part-agree, part-part}

-- bytes that were written over others stand there
pub part-splice : (old bytes : List ℕ) (at : ℕ) → at ≤ length old → part at (length bytes) (splice old at bytes) ≡ bytes
part-splice old bytes at le =
    let rest = drop (at + length bytes) old in
    ap (λ (k : ℕ). take (length bytes) (drop k (splice old at bytes))) (sym (length-take-le at old le))
    ∙ ap (λ (xs : List ℕ). take (length bytes) (drop (length (take at old)) xs)) (append_assoc (take at old) bytes rest)
    ∙ ap (take (length bytes)) (drop-append_seam (take at old) (bytes ++ rest))
    ∙ take-append_seam bytes rest

take-whole : (body : List ℕ) → length body ≡ 3576 → take 3576 body ≡ body
take-whole body whole = ap (λ (k : ℕ). take k body) (sym whole) ∙ take-length body

pub number-agree : (slot : ℕ) (one two : List ℕ) → AgreeIn (4096 * slot + 512) (4096 * slot + 4096) one two
    → commit_number slot one ≡ commit_number slot two
unfolding commit_number
number-agree slot one two a = ap (from_le_bytes w64) (part-agree (4096 * slot + 512) 8 _ _ one two (omega arith) (omega arith) a)

pub body-agree : (slot : ℕ) (one two : List ℕ) → AgreeIn (4096 * slot + 512) (4096 * slot + 4096) one two
    → body_of slot one ≡ body_of slot two
unfolding body_of
body-agree slot one two a = part-agree (4096 * slot + 520) 3576 _ _ one two (omega arith) (omega arith) a

-- the number and the body that were written
pub written-number : (slot number : ℕ) (seen sectors : List ℕ) → number < 2 ^ 64 → length sectors ≡ 3584 → take 8 sectors ≡ to_le_bytes w64 number
    → part (4096 * slot + 512) (length sectors) seen ≡ sectors → commit_number slot seen ≡ number
unfolding commit_number
written-number slot number seen sectors below size numbered holds =
    ap (from_le_bytes w64) (
    ap (λ (k : ℕ). part k 8 seen) (let e : 4096 * slot + 512 ≡ 4096 * slot + 512 + 0 = omega arith in e)
    ∙ sym (part-part (4096 * slot + 512) (length sectors) 0 8 seen (omega arith))
    ∙ ap (take 8) holds
    ∙ numbered)
    ∙ from_le_bytes-to_le_bytes_8 number below

pub written-body : (slot : ℕ) (seen sectors body : List ℕ) → length sectors ≡ 3584 → length body ≡ 3576 → drop 8 sectors ≡ body
    → part (4096 * slot + 512) (length sectors) seen ≡ sectors → body_of slot seen ≡ body
unfolding body_of
written-body slot seen sectors body size whole is holds =
    ap (λ (k : ℕ). part k 3576 seen) (let e : 4096 * slot + 520 ≡ 4096 * slot + 512 + 8 = omega arith in e)
    ∙ sym (part-part (4096 * slot + 512) (length sectors) 8 3576 seen (omega arith))
    ∙ ap (part 8 3576) holds
    ∙ ap (take 3576) is
    ∙ take-whole body whole

-- the gates that were written
first-byte : (slot : ℕ) (seen gate : List ℕ) → gate_of slot seen ≡ gate → get_or seen (4096 * slot) 0 ≡ get_or gate 0 0
first-byte slot seen gate holds =
    ap (λ (k : ℕ). get_or seen k 0) (let e : 4096 * slot ≡ 4096 * slot + 0 = omega arith in e)
    ∙ sym (get_or-take 512 (drop (4096 * slot) seen) 0 0 (omega arith) ∙ get_or-drop (4096 * slot) seen 0 0)
    ∙ ap (λ (xs : List ℕ). get_or xs 0 0) holds

pub written-closed : (slot : ℕ) (seen : List ℕ) → gate_of slot seen ≡ closed_gate → get_or seen (4096 * slot) 0 ≡ 0
unfolding closed_gate
written-closed slot seen holds = first-byte slot seen closed_gate holds ∙ refl

pub written-open : (slot : ℕ) (seen : List ℕ) → gate_of slot seen ≡ open_gate → get_or seen (4096 * slot) 0 ≡ 1
unfolding open_gate
written-open slot seen holds = first-byte slot seen open_gate holds ∙ refl
