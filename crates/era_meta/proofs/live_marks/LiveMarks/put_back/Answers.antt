use Rattle.std.proofs.Common.{◌+◌, ◌*◌, ◌≤◌, length, sym, subst, arith}
use Rattle.era_model.specs.Validity.{AreValidMarks}
use Rattle.era_meta.proofs.LiveDigests.{back-is, back-within}
use Rattle.era_meta.proofs.live_marks.LiveMarks.put_back.Goals as goal

pub overflow_mul-page : goal.overflow_mul-page
overflow_mul-page c =
    let within : 1024 * c.args.page + length c.args.entries.now ≤ length c.self.inside.array = back-within _ c.args.self.now c.requires.0 c.args.page c.args.entries.now c.self.view_is c.requires.1 in
    let size = c.self.invariant.valid.array_size in
    omega (arith, c.blocks-blocks.ensures.value, c.blocks-blocks.ensures.range)

pub put_entries-requires : goal.put_entries-requires
put_entries-requires c = back-within _ c.args.self.now c.requires.0 c.args.page c.args.entries.now c.self.view_is c.requires.1

pub invariant_of-self : goal.invariant_of-self
invariant_of-self c =
    let back = back-is _ c.args.self.now c.requires.0 c.args.page c.args.entries.now c.put_entries.new.self c.self.view_is c.requires.1 c.put_entries.ensures.size
    c.put_entries.ensures.put c.put_entries.ensures.others in
    record {
      valid = subst AreValidMarks (sym back) c.requires.1.valid;
      sizes = c.self.invariant.sizes;
      sets = c.self.invariant.sets;
    }

pub returns : goal.returns
returns c = λ before was.
    back-is _ c.args.self.now before c.args.page c.args.entries.now c.put_entries.new.self c.self.view_is was c.put_entries.ensures.size
    c.put_entries.ensures.put c.put_entries.ensures.others
