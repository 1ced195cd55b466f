-- The last lines of a text, byte by byte.
use Rattle.std.proofs.Common.{◌≡◌, ℕ, ◌<◌, ◌≤◌, Bool, true, false, List, [], ◌∷◌, ◌++◌, length, refl, ap, length-append, arith}
use Rattle.era_disks.specs.LastLines.{TextEnd, end_after, end_after_byte}

-- The text goes on by one byte more.
pub end_after-more : (end : TextEnd) (text : List ℕ) (byte : ℕ) → end_after end (text ++ byte ∷ []) ≡ end_after_byte (end_after end text) byte
end_after-more end [] byte = refl
end_after-more end (first ∷ text) byte = end_after-more (end_after_byte end first) text byte

-- A line of which 64 bytes are kept is longer than that with one byte more.
pub longer-still : (cut : Bool) (line front : List ℕ) (byte : ℕ) → (cut ≡ false → front ≡ line) → 64 ≤ length front → (cut ≡ true → 64 < length line)
    → 64 < length (line ++ byte ∷ [])
longer-still true line front byte whole filled longer = omega (arith, longer refl, length-append line (byte ∷ []))
longer-still false line front byte whole filled longer = omega (arith, filled, ap length (whole refl), length-append line (byte ∷ []))
