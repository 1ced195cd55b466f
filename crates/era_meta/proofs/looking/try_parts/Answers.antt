use Rattle.std.proofs.Common.{◌≡◌, ◌≤◌, sym, ◌∙◌, subst, arith}
use Rattle.era_base.proofs.Moments.{went-now}
use Rattle.era_base.specs.Geometry.{need_of}
use Rattle.era_layout.specs.Root.{RootFields, fields_of}
use Rattle.era_slots.specs.Slot.{other}
use Rattle.era_meta.specs.Content.{blocks_of_root}
use Rattle.era_meta.specs.Damage.{Passes, held_in, page_tests, held_tests}
use Rattle.era_meta.specs.Parts.{AreReadOf}
use Rattle.era_meta.specs.Trials.{metadata_blocks}
use Rattle.era_meta.proofs.Agree.{all_front}
use Rattle.era_meta.proofs.Looks.{roots-end, small-ends, reached-ends, reached-holds}
use Rattle.era_meta.proofs.PassedTests.{passed-whole}
use Rattle.era_meta.proofs.Tried.{root-is}
use Rattle.era_meta.proofs.Undamaged.{root-at, other-two}
use Rattle.era_meta.proofs.looking.try_parts.Goals as goal

pub returns-in-Err-clause-tried : goal.returns-in-Err-clause-tried
returns-in-Err-clause-tried g c =
    roots-end g.D.Disk c.args.slots.now.disk c.in-Err.finding c.of_finding.result c.of_finding.ensures c.in-Err.ensures.fault
    (λ told. let opened = c.requires.opened told in
    c.in-Err.ensures.found (g.D.Disk.history c.args.slots.now.disk).now.seen opened.stands.opened opened.own opened.other_one)

pub returns-then-have-need-clause-tried : goal.returns-then-have-need-clause-tried
returns-then-have-need-clause-tried g c =
    let root = fields_of c.in-Ok.root in
    let seen = (g.D.Disk.history c.args.slots.now.disk).now.seen in
    small-ends g.D.Disk c.args.slots.now.disk c.args.have c.from-need.result root c.requires.have (c.from-need.ensures ∙ c.need.ensures) c.if-have-need.true
    (λ told. let opened = c.requires.opened told in c.in-Ok.ensures.found seen opened.stands.opened opened.own opened.other_one)
    (λ told. let opened = c.requires.opened told in
    root-is c.root_is_read_back.ensures.fields seen c.args.body.now c.args.active root c.requires.active opened.stands opened.own c.in-Ok.ensures.root.0 c.in-Ok.ensures.root.1)

pub returns-in-Ok-read_parts-clause-tried : goal.returns-in-Ok-read_parts-clause-tried
returns-in-Ok-read_parts-clause-tried g c =
    let root = fields_of c.in-Ok.root in
    let seen = (g.D.Disk.history c.args.slots.now.disk).now.seen in
    let room : need_of (blocks_of_root root) ≤ metadata_blocks (g.D.Disk.sectors c.args.slots.now.disk)
    = omega (arith, c.if-have-need.false, c.requires.have, c.from-need.ensures, c.need.ensures) in
    reached-holds g.D.Disk c.args.slots.now c.read_parts.new.slots root c.in-Ok-read_parts.parts room
    (λ told. let opened = c.requires.opened told in c.in-Ok.ensures.found seen opened.stands.opened opened.own opened.other_one)
    (λ told. let opened = c.requires.opened told in
    root-is c.root_is_read_back.ensures.fields seen c.args.body.now c.args.active root c.requires.active opened.stands opened.own c.in-Ok.ensures.root.0 c.in-Ok.ensures.root.1)
    c.in-Ok-read_parts.ensures.walked

pub returns-in-Ok-read_parts-clause-same : goal.returns-in-Ok-read_parts-clause-same
returns-in-Ok-read_parts-clause-same g c =
    let walked = c.in-Ok-read_parts.ensures.walked in (
      walked.slots,
      λ told. went-now (λ before now. now ≡ before) (g.D.Disk.history c.args.slots.now.disk) (g.D.Disk.history c.read_parts.new.slots.disk) (walked.told told).went,
    )

pub returns-in-Ok-read_parts-clause-read : goal.returns-in-Ok-read_parts-clause-read
returns-in-Ok-read_parts-clause-read g c = λ told.
    let root = fields_of c.in-Ok.root in
    let seen = (g.D.Disk.history c.args.slots.now.disk).now.seen in
    let opened = c.requires.opened told in
    let valid = c.in-Ok.ensures.root.0 in
    let spelled = c.in-Ok.ensures.root.1 in
    let passed = (c.in-Ok-read_parts.ensures.walked.told told).found.0 in
    let pass = c.in-Ok.ensures.found seen opened.stands.opened opened.own opened.other_one in
    subst (λ (r : RootFields). AreReadOf c.args.active seen r c.in-Ok-read_parts.parts) (sym c.in-Ok-read_parts.ensures.fit.is) (record {
      newest = root-is c.root_is_read_back.ensures.fields seen c.args.body.now c.args.active root c.requires.active opened.stands opened.own valid spelled;
      spelled = sym opened.own ∙ sym spelled;
      beside = λ is. root-at seen (other c.args.active) (other-two c.args.active) pass is;
      whole = passed-whole seen root (all_front (Passes seen) (page_tests root) (held_tests root (held_in seen)) passed);
      says = c.in-Ok-read_parts.ensures.says told;
    })

pub returns-in-Err-read_parts-clause-tried : goal.returns-in-Err-read_parts-clause-tried
returns-in-Err-read_parts-clause-tried g c =
    let root = fields_of c.in-Ok.root in
    let seen = (g.D.Disk.history c.args.slots.now.disk).now.seen in
    let room : need_of (blocks_of_root root) ≤ metadata_blocks (g.D.Disk.sectors c.args.slots.now.disk)
    = omega (arith, c.if-have-need.false, c.requires.have, c.from-need.ensures, c.need.ensures) in
    reached-ends g.D.Disk c.args.slots.now c.read_parts.new.slots root c.in-Err-read_parts.finding c.of_finding-in-Err-read_parts.result c.of_finding-in-Err-read_parts.ensures room
    (λ told. let opened = c.requires.opened told in c.in-Ok.ensures.found seen opened.stands.opened opened.own opened.other_one)
    (λ told. let opened = c.requires.opened told in
    root-is c.root_is_read_back.ensures.fields seen c.args.body.now c.args.active root c.requires.active opened.stands opened.own c.in-Ok.ensures.root.0 c.in-Ok.ensures.root.1)
    c.in-Err-read_parts.ensures.walked

pub returns-in-Err-read_parts-clause-same : goal.returns-in-Err-read_parts-clause-same
returns-in-Err-read_parts-clause-same g c =
    let walked = c.in-Err-read_parts.ensures.walked in (
      walked.slots,
      λ told. went-now (λ before now. now ≡ before) (g.D.Disk.history c.args.slots.now.disk) (g.D.Disk.history c.read_parts.new.slots.disk) (walked.told told).went,
    )
