-- A write on the disk, block by block.
use Rattle.std.proofs.Common.{◌≡◌, ◌≢◌, ℕ, suc, ◌+◌, ◌*◌, ◌/◌, ◌%◌, ◌<◌, ◌≤◌, false, ◌&&◌, ◌==◌, List, length, get_or, ap, sym, ◌∙◌, subst, arith, inl, inr}
use Rattle.std.specs.Prelude.{nat_le, nat_lt, if◌then◌else◌}
use Rattle.std.proofs.Math.Nat.{mul-le-mul_right, suc-mul}
use Rattle.std.proofs.lemmas.Bool.{cases_lt}
use Rattle.std.proofs.lemmas.Bool.Decides.{eqb_tells, nat_tests}
use Rattle.era_base.specs.declared.geometry.Geometry.{Geometry}
use Rattle.era_base.specs.Bytes.{splice, part}
use Rattle.era_base.specs.CrashModel.{State}
use Rattle.era_model.specs.Writes.{block_bytes}
use Rattle.era_top.specs.Runs.{Write}
use Rattle.era_top.specs.Steps.{LiesInBlock, IsTorn}
use Rattle.era_top.proofs.Splices.{part-other, part-same, part-agrees, part-past}

-- a block before another one ends before that one begins
rows-apart : (a b s : ℕ) → a < b → a * s + s ≤ b * s
rows-apart a b s before = subst (λ n. n ≤ b * s) (suc-mul a s) (mul-le-mul_right {m = suc a} {n = b} s before)

-- the bytes of so many sectors
in_bytes : (a b : ℕ) → (a + b) * 512 ≡ a * 512 + b * 512
in_bytes a b = omega arith

-- whole sectors as bytes
pub sectors-fit : (first count limit : ℕ) → first + count / 512 ≤ limit → count % 512 ≡ 0 → first * 512 + count ≤ limit * 512
sectors-fit first count limit fits whole = omega arith

-- where a write stands in its block, in bytes
write-begins : (g : Geometry) (write : Write) (place : ℕ × ℕ) → LiesInBlock g write place → write.sector * 512 ≡ place.0 * g.block_sectors * 512 + place.1 * 512
write-begins g write place placed = ap (λ n. n * 512) (sym placed.sector) ∙ in_bytes (place.0 * g.block_sectors) place.1

-- a block that the write isn't in ends before the write begins, or begins behind it
write-apart : (g : Geometry) (write : Write) (place : ℕ × ℕ) (block : ℕ) → LiesInBlock g write place → length write.bytes % 512 ≡ 0 → place.0 ≢ block
    → write.sector * 512 < block * g.block_sectors * 512 + g.block_sectors * 512 → write.sector * 512 + length write.bytes ≤ block * g.block_sectors * 512
write-apart g write place block placed whole other begins = elim (cases_lt place.0 block) [
  | inl before ↦
      let rows = rows-apart place.0 block g.block_sectors before in
      let inside = sectors-fit place.1 (length write.bytes) g.block_sectors placed.in_block whole in
      let at = write-begins g write place placed in
      end-before (place.0 * g.block_sectors) (block * g.block_sectors) g.block_sectors (place.1 * 512) (length write.bytes) (write.sector * 512) rows inside at
  | inr behind ↦ elim (cases_lt block place.0) [
    | inl after ↦
        let rows = rows-apart block place.0 g.block_sectors after in
        let at = write-begins g write place placed in
        absurd (begin-behind (block * g.block_sectors) (place.0 * g.block_sectors) g.block_sectors (place.1 * 512) (write.sector * 512) rows at begins)
    | inr same ↦ absurd (other (let e : place.0 ≡ block = omega arith in e))
  ]
]
  where
    end-before : (a b s first count at : ℕ) → a + s ≤ b → first + count ≤ s * 512 → at ≡ a * 512 + first → at + count ≤ b * 512
    end-before a b s first count at rows inside is = omega arith

    begin-behind : (b a s first at : ℕ) → b + s ≤ a → at ≡ a * 512 + first → at < b * 512 + s * 512 → ⊥
    begin-behind b a s first at rows is begins = omega arith

-- a write changes its block as it changes the block's content, and no other block
pub stored-block : (g : Geometry) (write : Write) (place : ℕ × ℕ) (block : ℕ) (seen : List ℕ) → LiesInBlock g write place → length write.bytes % 512 ≡ 0 → length seen ≡ g.sectors * 512
    → block_bytes g.block_sectors (splice seen (write.sector * 512) write.bytes) block
    ≡ (if place.0 == block then splice (block_bytes g.block_sectors seen block) (place.1 * 512) write.bytes else block_bytes g.block_sectors seen block)
stored-block g write place block seen placed whole size =
    let fits : write.sector * 512 + length write.bytes ≤ length seen = subst (λ n. write.sector * 512 + length write.bytes ≤ n) (sym size) (sectors-fit write.sector (length write.bytes) g.sectors placed.in_origin whole) in
    elim (eqb_tells place.0 block) [
      | inl same ↦ rw same.0 (subst (λ b. part (b * g.block_sectors * 512) (g.block_sectors * 512) (splice seen (write.sector * 512) write.bytes) ≡ splice (part (b * g.block_sectors * 512) (g.block_sectors * 512) seen) (place.1 * 512) write.bytes) same.1
          (part-same (place.0 * g.block_sectors * 512) (g.block_sectors * 512) (place.1 * 512) seen (write.sector * 512) write.bytes
          (write-begins g write place placed) fits (sectors-fit place.1 (length write.bytes) g.block_sectors placed.in_block whole)))
      | inr apart ↦ rw apart.0 (part-other (block * g.block_sectors * 512) (g.block_sectors * 512) seen (write.sector * 512) write.bytes fits
          (write-apart g write place block placed whole apart.1))
    ]

-- a number that isn't from one bound up to another, and isn't below the first, is past the second
past-both : (low n high : ℕ) → (nat_le low n && nat_lt n high) ≡ false → low ≤ n → high ≤ n
past-both low n high outside above = grind (arith, nat_tests)

past-in-block : (a first count at offset : ℕ) → at ≡ a * 512 + first → (nat_le first offset && nat_lt offset (first + count)) ≡ false → at ≤ a * 512 + offset → at + count ≤ a * 512 + offset
past-in-block a first count at offset is outside begins = let past : first + count ≤ offset = past-both first offset (first + count) outside (omega arith) in omega arith

-- a byte of a block outside of the write's range lies outside of it on the disk
pub outside-write : (g : Geometry) (write : Write) (place : ℕ × ℕ) (block offset : ℕ) → LiesInBlock g write place → length write.bytes % 512 ≡ 0 → offset < g.block_sectors * 512
    → ((place.0 == block) && (nat_le (place.1 * 512) offset && nat_lt offset (place.1 * 512 + length write.bytes))) ≡ false
    → (write.sector * 512 ≤ block * g.block_sectors * 512 + offset → write.sector * 512 + length write.bytes ≤ block * g.block_sectors * 512 + offset)
outside-write g write place block offset placed whole within outside begins = elim (eqb_tells place.0 block) [
  | inl same ↦ past-in-block (block * g.block_sectors) (place.1 * 512) (length write.bytes) (write.sector * 512) offset
      (subst (λ b. write.sector * 512 ≡ b * g.block_sectors * 512 + place.1 * 512) same.1 (write-begins g write place placed))
      (rw same.0 at outside) begins
  | inr apart ↦ let far = write-apart g write place block placed whole apart.1 (omega arith) in omega arith
]

-- what a failed write or sync leaves of a block, outside of the write's range
pub torn-block : (g : Geometry) (write : Write) (place : ℕ × ℕ) (block offset : ℕ) (old new : State) → LiesInBlock g write place → length write.bytes % 512 ≡ 0 → IsTorn write old new
    → ((place.0 == block) && (nat_le (place.1 * 512) offset && nat_lt offset (place.1 * 512 + length write.bytes))) ≡ false
    → get_or (block_bytes g.block_sectors new.seen block) offset 0 ≡ get_or (block_bytes g.block_sectors old.seen block) offset 0
torn-block g write place block offset old new placed whole torn outside = elim (cases_lt offset (g.block_sectors * 512)) [
  | inl within ↦ part-agrees (block * g.block_sectors * 512) (g.block_sectors * 512) (write.sector * 512) (write.sector * 512 + length write.bytes) old.seen new.seen offset torn.bytes torn.seen
      (outside-write g write place block offset placed whole within outside)
  | inr past ↦ part-past (block * g.block_sectors * 512) (g.block_sectors * 512) old.seen new.seen offset past
]
