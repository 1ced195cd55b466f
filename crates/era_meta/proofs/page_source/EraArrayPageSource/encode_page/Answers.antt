use Rattle.std.proofs.Common.{◌+◌, ◌*◌, slice_index, ap, ◌∙◌}
use Rattle.era_meta.proofs.PartsOfLists.{item-of-part}
use Rattle.era_meta.proofs.page_source.EraArrayPageSource.encode_page.Goals as goal

pub returns : goal.returns
returns c = λ entry lt.
    c.encode_array_page.ensures.entries entry lt ∙ ap (λ eras. slice_index eras entry) c.part.ensures.items
    ∙ item-of-part c.as_slice.result.now (1024 * c.args.index) 1024 entry lt ∙ ap (λ eras. slice_index eras (1024 * c.args.index + entry)) c.as_slice.ensures
