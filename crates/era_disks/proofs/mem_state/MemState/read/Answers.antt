use Rattle.std.proofs.Common.{◌≡◌, ℕ, ◌+◌, ◌-◌, ◌*◌, ◌/◌, List, length, take, drop, arith, ◌∙◌, ap}
use Rattle.era_base.specs.Bytes.{part}
use Rattle.era_disks.specs.Rows.{bytes_of}
use Rattle.era_disks.proofs.RowParts.{bytes_of-part}
use Rattle.era_disks.proofs.mem_state.MemState.read.Goals as goal

pub returns : goal.returns
returns c =
    let count : ℕ = c.args.first + length c.args.into.now / 512 - c.args.first in
    let size : count * 512 ≡ length c.args.into.now = omega arith in
    c.read_rows.ensures
    ∙ ap (λ (xs : List (List ℕ)). bytes_of (take count (drop c.args.first xs))) c.deref.ensures.value
    ∙ bytes_of-part c.args.first count c.args.self.now.rows.items
    ∙ ap (λ k. part (c.args.first * 512) k (bytes_of c.args.self.now.rows.items)) size
