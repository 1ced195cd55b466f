use Rattle.std.proofs.Common.{◌≡◌, ℕ, ◌≤◌, length, ap, ◌∙◌}
use Rattle.std.specs.Int.{div_ceil}
use Rattle.era_base.specs.Flags.{has}
use Rattle.era_meta.proofs.Merged.{merged-step, merged-end}
use Rattle.era_meta.proofs.merging.merge.Goals as goal

pub loop-page-preserved : goal.loop-page-preserved
loop-page-preserved c =
    merged-step c.words.result.now c.args.set.now c.args.array.now c.loop-page.array c.transcribe_page.new.self c.loop-page.page
    (λ k. c.words.ensures.bits k ∙ ap (λ flags. has flags k) c.blocks-in-loop-page.ensures) c.transcribe_page.ensures.size
    (λ block lt. rw (c.part-words.ensures.items, c.era.ensures) at (c.transcribe_page.ensures.entries block lt))
    c.loop-page.invariant

pub returns : goal.returns
returns c =
    let size : c.len.result ≡ length c.args.array.now = c.len.ensures ∙ (ap length c.blocks-2.ensures ∙ c.requires) in
    let pages : c.div_ceil-pages.result ≡ div_ceil (length c.args.array.now) 1024 = c.div_ceil-pages.ensures ∙ ap (λ (n : ℕ). div_ceil n 1024) size in
    let test = c.loop-page-test.false in
    let past : div_ceil (length c.args.array.now) 1024 ≤ c.loop-page.page = rw pages at test in
    merged-end c.args.set.now c.args.array.now c.loop-page.array c.loop-page.page past c.loop-page.invariant
