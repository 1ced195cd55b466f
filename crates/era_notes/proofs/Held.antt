-- What a part holds, from call to call and from entry to entry.
use Rattle.std.proofs.Common.{◌≡◌, ℕ, ◌+◌, ◌-◌, ◌*◌, ◌<◌, ◌≤◌, min, Bool, true, false, ◌==◌, List, [], ◌∷◌, length, Some, if◌then◌else◌, arith, refl, sym, ap, ◌∙◌, subst, inl, inr, eqb-true}
use Rattle.std.specs.Prelude.{slice_index}
use Rattle.std.proofs.lemmas.Bool.{cases_lt}
use Rattle.std.proofs.lemmas.Bool.Decides.{nat_tests}
use Rattle.std.proofs.lemmas.List.{get_or_past}
use Rattle.era_base.specs.Bytes.{splice}
use Rattle.era_base.specs.CrashModel.{State, SameBut, IsClean}
use Rattle.era_model.specs.declared.history.Happening.{Happening}
use Rattle.era_model.specs.History.{content}
use Rattle.era_model.specs.Writes.{is_written_at, content_after_write}
use Rattle.era_model.specs.declared.flight.FlightWrite.{FlightWrite}
use Rattle.era_notes.specs.Parts.{Part, IsIn, offset_in, bytes_in, HasByte, HoldsBut, HoldsContent, LeavesContent}
use Rattle.era_notes.proofs.Splices.{splice-length, splice-outside, splice-inside}
use Rattle.era_notes.proofs.Offsets.{length-bytes_in, byte-within, byte-at, FitsIn, written-outside}

-- the bytes of a block are as many, where the disk has as many
pub bytes-same : (part : Part) (before after : List ℕ) (block : ℕ) → length after ≡ length before → length (bytes_in part after block) ≡ length (bytes_in part before block)
bytes-same part before after block same =
    length-bytes_in part after block ∙ ap (λ (n : ℕ). min (part.size * 512) (n - (block - part.first) * part.size * 512)) same ∙ sym (length-bytes_in part before block)

-- a byte of the content lies in its block's range
pub content-within : (part : Part) (contents : ℕ → List ℕ) (writes : List FlightWrite) (state : State) (block offset : ℕ) → HoldsBut part contents writes state → IsIn part block
    → offset < length (contents block) → offset < length (bytes_in part state.seen block)
content-within part contents writes state block offset holds is within = omega (arith, holds.sizes block is, within)

-- where the calls changed nothing but bytes that are being written, the part holds what it held
pub holds-same : (part : Part) (contents : ℕ → List ℕ) (writes : List FlightWrite) (from to : ℕ) (before after : State)
    → ((block offset : ℕ) → IsIn part block → offset < part.size * 512 → is_written_at writes block offset ≡ false → from ≤ offset_in part block offset → to ≤ offset_in part block offset)
    → SameBut from to before after → HoldsBut part contents writes before → HoldsBut part contents writes after
holds-same part contents writes from to before after outside same holds = record {
  sizes = λ block is. holds.sizes block is ∙ bytes-same part after.seen before.seen block (sym same.bytes);
  bytes = λ block offset is within clear.
      let small = byte-within part before.seen block offset (content-within part contents writes before block offset holds is within) in
      let out = outside block offset is small clear in
      let has = holds.bytes block offset is within clear in
      record { same = same.seen (offset_in part block offset) out ∙ has.same; clean = same.clean (offset_in part block offset) out has.clean };
}

-- a write that is issued: of its bytes nothing is said
pub holds-issued : (part : Part) (contents : ℕ → List ℕ) (write : FlightWrite) (state : State) → HoldsBut part contents [] state → HoldsBut part contents (write ∷ []) state
holds-issued part contents write state holds = record { sizes = holds.sizes; bytes = λ block offset is within clear. holds.bytes block offset is within refl }

-- while it is under way
pub holds-writing : (part : Part) (contents : ℕ → List ℕ) (write : FlightWrite) (before after : State) → FitsIn part write.block write.first (length write.bytes)
    → SameBut (offset_in part write.block (write.first * 512)) (offset_in part write.block (write.first * 512) + length write.bytes) before after
    → HoldsBut part contents (write ∷ []) before → HoldsBut part contents (write ∷ []) after
holds-writing part contents write before after fits =
    holds-same part contents (write ∷ []) (offset_in part write.block (write.first * 512)) (offset_in part write.block (write.first * 512) + length write.bytes) before after
    (λ block offset is small clear low. written-outside part write block offset fits is small clear low)

-- a sync and a read change nothing
pub holds-quiet : (part : Part) (contents : ℕ → List ℕ) (writes : List FlightWrite) (at : ℕ) (before after : State) → SameBut at at before after
    → HoldsBut part contents writes before → HoldsBut part contents writes after
holds-quiet part contents writes at before after = holds-same part contents writes at at before after (λ block offset is small clear low. low)

-- the bytes of a write that is over stand there, and nothing is pending
pub record IsOver (part : Part) (write : FlightWrite) (bytes : List ℕ) (state : State) : Type 0 where
  pub fits : FitsIn part write.block write.first (length write.bytes)
  pub size : length bytes ≡ length write.bytes
  pub on_disk : offset_in part write.block (write.first * 512) + length bytes ≤ length state.seen
  pub there : (k : ℕ) → k < length bytes → slice_index state.seen (offset_in part write.block (write.first * 512) + k) ≡ slice_index bytes k
  pub clean : IsClean state

-- the written range lies in the content of its block
over-room : (part : Part) (contents : ℕ → List ℕ) (write : FlightWrite) (bytes : List ℕ) (state : State) → IsOver part write bytes state → HoldsBut part contents (write ∷ []) state
    → write.first * 512 + length bytes ≤ length (contents write.block)
over-room part contents write bytes state over holds =
    let size = holds.sizes write.block over.fits.of_part in
    let whole = length-bytes_in part state.seen write.block in
    omega (arith, size, whole, over.size, over.fits.small, over.on_disk)

over-size : (part : Part) (contents : ℕ → List ℕ) (write : FlightWrite) (bytes : List ℕ) (state : State) → IsOver part write bytes state → HoldsBut part contents (write ∷ []) state
    → (block : ℕ) → IsIn part block → (mine : Bool) → (write.block == block) ≡ mine
    → length (if mine then splice (contents block) (write.first * 512) bytes else contents block) ≡ length (bytes_in part state.seen block)
over-size part contents write bytes state over holds block is false other = holds.sizes block is
over-size part contents write bytes state over holds block is true same =
    let room = subst (λ b. write.first * 512 + length bytes ≤ length (contents b)) (eqb-true write.block block same) (over-room part contents write bytes state over holds) in
    splice-length (contents block) (write.first * 512) bytes room ∙ holds.sizes block is

-- a byte of the written block before or behind the written ones, and one of another block
unwritten : (write : FlightWrite) (offset : ℕ) → (write.first * 512 ≤ offset → write.first * 512 + length write.bytes ≤ offset) → is_written_at (write ∷ []) write.block offset ≡ false
unwritten write offset outside = elim (cases_lt offset (write.first * 512)) [
  | inl before ↦ grind (arith, nat_tests)
  | inr low ↦ let behind = outside low in grind (arith, nat_tests)
]

elsewhere : (write : FlightWrite) (block offset : ℕ) → (write.block == block) ≡ false → is_written_at (write ∷ []) block offset ≡ false
elsewhere write block offset other = rw other refl

-- a byte of the written block that was written
over-inside : (part : Part) (contents : ℕ → List ℕ) (write : FlightWrite) (bytes : List ℕ) (state : State) → IsOver part write bytes state
    → (offset : ℕ) → write.first * 512 + length bytes ≤ length (contents write.block) → write.first * 512 ≤ offset → offset < write.first * 512 + length bytes
    → HasByte (offset_in part write.block offset) (slice_index (splice (contents write.block) (write.first * 512) bytes) offset) state
over-inside part contents write bytes state over offset room low high =
    let k : ℕ = offset - write.first * 512 in
    let small : k < length bytes = omega (arith, low, high) in
    let at : offset_in part write.block (write.first * 512) + k ≡ offset_in part write.block offset = omega (arith, low) in
    let here : write.first * 512 + k ≡ offset = omega (arith, low) in
    record {
      same = ap (λ n. slice_index state.seen n) (sym at) ∙ over.there k small
          ∙ sym (splice-inside (contents write.block) (write.first * 512) bytes k 0 room small)
          ∙ ap (λ n. slice_index (splice (contents write.block) (write.first * 512) bytes) n) here;
      clean = over.clean (offset_in part write.block offset) (omega (arith, over.on_disk, high, low));
    }

over-outside : (part : Part) (contents : ℕ → List ℕ) (write : FlightWrite) (bytes : List ℕ) (state : State) → IsOver part write bytes state → HoldsBut part contents (write ∷ []) state
    → (offset : ℕ) → write.first * 512 + length bytes ≤ length (contents write.block) → (write.first * 512 ≤ offset → write.first * 512 + length bytes ≤ offset) → offset < length (contents write.block)
    → HasByte (offset_in part write.block offset) (slice_index (splice (contents write.block) (write.first * 512) bytes) offset) state
over-outside part contents write bytes state over holds offset room outside within =
    let clear = unwritten write offset (λ low. omega (arith, outside low, over.size)) in
    let has = holds.bytes write.block offset over.fits.of_part within clear in
    record { same = has.same ∙ sym (splice-outside (contents write.block) (write.first * 512) bytes offset 0 room outside); clean = has.clean }

over-here : (part : Part) (contents : ℕ → List ℕ) (write : FlightWrite) (bytes : List ℕ) (state : State) → IsOver part write bytes state → HoldsBut part contents (write ∷ []) state
    → (offset : ℕ) → offset < length (splice (contents write.block) (write.first * 512) bytes)
    → HasByte (offset_in part write.block offset) (slice_index (splice (contents write.block) (write.first * 512) bytes) offset) state
over-here part contents write bytes state over holds offset within =
    let room = over-room part contents write bytes state over holds in
    let size = splice-length (contents write.block) (write.first * 512) bytes room in
    elim (cases_lt offset (write.first * 512)) [
      | inl before ↦ over-outside part contents write bytes state over holds offset room (λ low. absurd (omega (arith, low, before))) (omega (arith, size, within))
      | inr low ↦ elim (cases_lt offset (write.first * 512 + length bytes)) [
        | inl high ↦ over-inside part contents write bytes state over offset room low high
        | inr behind ↦ over-outside part contents write bytes state over holds offset room (λ _. behind) (omega (arith, size, within))
      ]
    ]

over-byte : (part : Part) (contents : ℕ → List ℕ) (write : FlightWrite) (bytes : List ℕ) (state : State) → IsOver part write bytes state → HoldsBut part contents (write ∷ []) state
    → (block offset : ℕ) → IsIn part block → (mine : Bool) → (write.block == block) ≡ mine
    → offset < length (if mine then splice (contents block) (write.first * 512) bytes else contents block)
    → HasByte (offset_in part block offset) (slice_index (if mine then splice (contents block) (write.first * 512) bytes else contents block) offset) state
over-byte part contents write bytes state over holds block offset is false other within =
    holds.bytes block offset is within (elsewhere write block offset other)
over-byte part contents write bytes state over holds block offset is true same within =
    subst (λ b. offset < length (splice (contents b) (write.first * 512) bytes) → HasByte (offset_in part b offset) (slice_index (splice (contents b) (write.first * 512) bytes) offset) state)
    (eqb-true write.block block same) (over-here part contents write bytes state over holds offset) within

-- the write is over: the part holds its bytes
pub holds-over : (part : Part) (contents : ℕ → List ℕ) (write : FlightWrite) (bytes : List ℕ) (state : State) → IsOver part write bytes state → HoldsBut part contents (write ∷ []) state
    → HoldsBut part (λ block. content_after_write (contents block) block (Some write) bytes) [] state
holds-over part contents write bytes state over holds = record {
  sizes = λ block is. over-size part contents write bytes state over holds block is (write.block == block) refl;
  bytes = λ block offset is within clear. over-byte part contents write bytes state over holds block offset is (write.block == block) refl within;
}

-- what the part holds is what a crash leaves of it
pub holds-leaves : (part : Part) (h : List Happening) (state : State) → HoldsContent part h state → LeavesContent part h state
holds-leaves part h state holds image left block is =
    let same = bytes-same part state.seen image block left.size in
    let size : length (bytes_in part image block) ≡ length (content h block) = same ∙ sym (holds.sizes block is) in
    record {
      size = size;
      same = λ offset clear. elim (cases_lt offset (length (content h block))) [
        | inl within ↦
            let has = holds.bytes block offset is within clear in
            byte-at part image block offset (byte-within part image block offset (omega (arith, size, within)))
            ∙ left.kept (offset_in part block offset) has.clean ∙ has.same
        | inr past ↦ get_or_past (bytes_in part image block) offset 0 (omega (arith, size, past)) ∙ sym (get_or_past (content h block) offset 0 past)
      ];
    }

-- the same for contents that are equal block by block
pub holds-like : (part : Part) (contents others : ℕ → List ℕ) (writes : List FlightWrite) (state : State) → ((block : ℕ) → others block ≡ contents block)
    → HoldsBut part contents writes state → HoldsBut part others writes state
holds-like part contents others writes state like holds = record {
  sizes = λ block is. ap length (like block) ∙ holds.sizes block is;
  bytes = λ block offset is within clear. subst (λ bytes. HasByte (offset_in part block offset) (slice_index bytes offset) state) (sym (like block)) (holds.bytes block offset is (omega (arith, within, ap length (like block))) clear);
}
