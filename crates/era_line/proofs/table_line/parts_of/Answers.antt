use Rattle.std.proofs.Common.{◌∙◌}
use Rattle.std.specs.Prelude.{codes, decimal}
use Rattle.era_line.specs.TableLine.{IsNoTableLine}
use Rattle.era_line.proofs.Spelling.{stripped, behind_length, behind_word, from_meta, from_origin}
use Rattle.era_line.proofs.CutSteps.{if_none, cut_same}
use Rattle.era_line.proofs.table_line.parts_of.Goals as goal

-- another word than `era`
pub returns-in_err-rest-2-clause-none : goal.returns-in_err-rest-2-clause-none
returns-in_err-rest-2-clause-none c = if_none {P = IsNoTableLine c.args.text.now} _ (λ sectors meta origin size t.
    let zero = stripped (codes "0 ") c.args.text.now c.in_ok-rest.rest.now c.in_ok-rest.ensures.cases in
    let number = c.in_ok-length.ensures.some in
    let era = behind_length c.args.text.now c.in_ok-rest.rest.now c.in_ok-length.rest.now c.in_ok-length.length
    sectors meta origin size t zero number.0 number.1 in
    c.in_err-rest-2.ensures.cases (from_meta meta origin size) era.1)

-- no name of the metadata device
pub returns-in_err-meta-clause-none : goal.returns-in_err-meta-clause-none
returns-in_err-meta-clause-none c = if_none {P = IsNoTableLine c.args.text.now} _ (λ sectors meta origin size t.
    let zero = stripped (codes "0 ") c.args.text.now c.in_ok-rest.rest.now c.in_ok-rest.ensures.cases in
    let number = c.in_ok-length.ensures.some in
    let word = stripped (codes "era ") c.in_ok-length.rest.now c.in_ok-rest-2.rest.now c.in_ok-rest-2.ensures.cases in
    let first = behind_word c.args.text.now c.in_ok-rest.rest.now c.in_ok-length.rest.now c.in_ok-rest-2.rest.now c.in_ok-length.length
    sectors meta origin size t zero number.0 number.1 word in
    c.in_err-meta.ensures.none meta (from_origin origin size) t.meta_name first)

-- no name of the origin
pub returns-in_err-origin-clause-none : goal.returns-in_err-origin-clause-none
returns-in_err-origin-clause-none c = if_none {P = IsNoTableLine c.args.text.now} _ (λ sectors meta origin size t.
    let zero = stripped (codes "0 ") c.args.text.now c.in_ok-rest.rest.now c.in_ok-rest.ensures.cases in
    let number = c.in_ok-length.ensures.some in
    let word = stripped (codes "era ") c.in_ok-length.rest.now c.in_ok-rest-2.rest.now c.in_ok-rest-2.ensures.cases in
    let first = behind_word c.args.text.now c.in_ok-rest.rest.now c.in_ok-length.rest.now c.in_ok-rest-2.rest.now c.in_ok-length.length
    sectors meta origin size t zero number.0 number.1 word in
    let one = c.in_ok-meta.ensures.some in
    let second = cut_same 32 c.in_ok-rest-2.rest.now c.in_ok-meta.meta.now meta c.in_ok-meta.rest.now (from_origin origin size)
    one.1.no_space t.meta_name.no_space one.0 first in
    c.in_err-origin.ensures.none origin (decimal size) t.origin_name second.1)

-- no number behind it
pub returns-in_err-block_sectors-clause-none : goal.returns-in_err-block_sectors-clause-none
returns-in_err-block_sectors-clause-none c = if_none {P = IsNoTableLine c.args.text.now} _ (λ sectors meta origin size t.
    let zero = stripped (codes "0 ") c.args.text.now c.in_ok-rest.rest.now c.in_ok-rest.ensures.cases in
    let number = c.in_ok-length.ensures.some in
    let word = stripped (codes "era ") c.in_ok-length.rest.now c.in_ok-rest-2.rest.now c.in_ok-rest-2.ensures.cases in
    let first = behind_word c.args.text.now c.in_ok-rest.rest.now c.in_ok-length.rest.now c.in_ok-rest-2.rest.now c.in_ok-length.length
    sectors meta origin size t zero number.0 number.1 word in
    let one = c.in_ok-meta.ensures.some in
    let second = cut_same 32 c.in_ok-rest-2.rest.now c.in_ok-meta.meta.now meta c.in_ok-meta.rest.now (from_origin origin size)
    one.1.no_space t.meta_name.no_space one.0 first in
    let other = c.in_ok-origin.ensures.some in
    let third = cut_same 32 c.in_ok-meta.rest.now c.in_ok-origin.origin.now origin c.in_ok-origin.rest.now (decimal size)
    other.1.no_space t.origin_name.no_space other.0 second.1 in
    c.in_err-block_sectors.ensures.none size t.block_fits (c.as_bytes.ensures.value ∙ third.1))
