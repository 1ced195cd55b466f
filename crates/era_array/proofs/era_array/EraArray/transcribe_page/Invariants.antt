use Rattle.std.proofs.Common.{◌≡◌, ℕ, ◌*◌, ◌<◌, ◌≤◌, length, get_or}
use Rattle.era_array.specs.Entries.{transcribed_entry}
use Rattle.era_array.proofs.era_array.EraArray.transcribe_page.Given as goal

-- the page's blocks before the present one have their entries, and all others those that they had
abbrev pub invariant-loop-block : goal.invariant-loop-block
invariant-loop-block l =
    let before = l.initial.self-inside.eras.items in
    let now = l.self-inside.eras.items in
    record {
      size : length now ≡ length before;
      done : (block : ℕ) → block < length before → 1024 * l.page ≤ block → block < l.block → get_or now block 0 ≡ transcribed_entry before l.page l.words l.era block;
      under : (block : ℕ) → block < 1024 * l.page → get_or now block 0 ≡ get_or before block 0;
      rest : (block : ℕ) → l.block ≤ block → get_or now block 0 ≡ get_or before block 0;
    }
