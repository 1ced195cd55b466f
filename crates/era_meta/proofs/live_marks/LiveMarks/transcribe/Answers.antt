use Rattle.std.proofs.Common.{◌*◌, ◌<◌, Some, length, ap, sym, ◌∙◌, subst, arith}
use Rattle.era_base.specs.Flags.{has}
use Rattle.era_model.specs.Marks.{BlockMarks}
use Rattle.era_meta.specs.Digesting.{IsDigest}
use Rattle.era_meta.proofs.LiveDigests.{page-within, transcribe-is}
use Rattle.era_meta.proofs.live_marks.LiveMarks.transcribe.Goals as goal

pub transcribe_page-requires-clause-page : goal.transcribe_page-requires-clause-page
transcribe_page-requires-clause-page c =
    let step = subst (λ (m : BlockMarks). IsDigest m c.requires.0 (Some c.args.page)) (sym c.self.view_is) c.requires.1 in
    let within : 1024 * c.args.page < length c.self.inside.array = page-within _ c.requires.0 c.args.page c.self.invariant.valid step in
    omega arith

pub returns : goal.returns
returns c =
    transcribe-is _ c.args.self.now c.requires.0 c.args.page c.index-as_slice-0.result c.words.result.now c.transcribe_page.new.self c.self.view_is c.requires.1
    (rw c.as_slice.ensures at c.index-as_slice-0.is)
    (λ k. c.words.ensures.bits k ∙ ap (λ flags. has flags k) c.blocks-2.ensures) c.transcribe_page.ensures.size
    (λ block lt. rw (c.part-words.ensures.items, c.era.ensures) at (c.transcribe_page.ensures.entries block lt))
