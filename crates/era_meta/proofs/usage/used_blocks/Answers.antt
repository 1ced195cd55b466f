use Rattle.std.proofs.Common.{arith}
use Rattle.era_layout.specs.Root.{fields_of}
use Rattle.era_meta.proofs.Usages.{used-alone, used-both}
use Rattle.era_meta.proofs.usage.used_blocks.Goals as goal

pub returns-in-Some : goal.returns-in-Some
returns-in-Some c =
    let root = fields_of c.args.root.now in let held = fields_of c.in-Some.held.now in
    rw c.in-Some.is (λ valid. let used = used-both root held c.requires.root valid in omega (arith, used))

pub returns-in-None : goal.returns-in-None
returns-in-None c = rw c.in-None.is (λ valid. let used = used-alone (fields_of c.args.root.now) c.requires.root in omega (arith, used))
