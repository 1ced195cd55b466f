use Rattle.std.proofs.Common.{◌≡◌, ℕ, ◌+◌, ◌<◌, ◌≤◌, length, get_or}
use Rattle.era_array.proofs.era_array.EraArray.put_entries.Given as goal

-- the eras before the present one are in their places, and all other blocks have the entries that they had
abbrev pub invariant-loop-index : goal.invariant-loop-index
invariant-loop-index l =
    let before = l.initial.self-inside.eras.items in
    let now = l.self-inside.eras.items in
    record {
      size : length now ≡ length before;
      put : (at : ℕ) → at < l.index → get_or now (l.first + at) 0 ≡ get_or l.eras at 0;
      others : (block : ℕ) → (l.first ≤ block → l.first + length l.eras ≤ block) → get_or now block 0 ≡ get_or before block 0;
    }
