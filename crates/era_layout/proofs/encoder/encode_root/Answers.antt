use Rattle.std.proofs.Common.{◌≡◌, ◌∙◌, ℕ, ◌++◌, length, take, ap, arith}
use Rattle.era_layout.specs.Numbers.{u32s_bytes, padded}
use Rattle.era_layout.specs.Root.{fields_of, head_bytes, lists_bytes, archive_bytes}
use Rattle.era_layout.proofs.WrittenBytes.{padded_written, joined}
use Rattle.era_layout.proofs.encoder.encode_root.Goals as goal

pub returns : goal.returns
returns c =
    let root = fields_of c.args.root.now in
    let into = c.write_sets-behind.new.into in
    let size : length into ≡ 3576 = omega arith in
    let front : take c.write_sets-behind.result into ≡ head_bytes root ++ lists_bytes root = cc (joined (head_bytes root) (u32s_bytes root.array) (u32s_bytes root.current) (archive_bytes root.archive)) in
    padded_written into c.write_zeros.new.into (head_bytes root ++ lists_bytes root) c.write_sets-behind.result c.write_zeros.ensures front c.write_sets-behind.ensures.behind ∙ ap (λ (n : ℕ). padded n (head_bytes root ++ lists_bytes root)) size
