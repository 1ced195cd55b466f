use Rattle.std.proofs.Common.{◌≡◌, [], ◌∷◌, true, Some, Ok, Err, sym, ap, ◌∙◌, subst}
use Rattle.era_base.specs.CrashModel.{State}
use Rattle.era_base.proofs.Moments.{went-now}
use Rattle.era_layout.specs.Root.{fields_of}
use Rattle.era_meta.specs.Content.{content_of, IsWholeContent}
use Rattle.era_meta.specs.Damage.{HeldRoot, HeldSize, held_in, page_tests}
use Rattle.era_meta.specs.Meaning.{pages_in, marks_on}
use Rattle.era_meta.proofs.HeldReads.{held-is, held-room, held-lists, held-walked}
use Rattle.era_meta.proofs.PassedTests.{passed-whole}
use Rattle.era_meta.proofs.Walking.{walked-value, walked-error, walked-stop}
use Rattle.era_meta.proofs.parts.read_snapshot.Goals as goal

pub returns-in-Err-clause-walked : goal.returns-in-Err-clause-walked
returns-in-Err-clause-walked g c =
    let root = fields_of c.args.root.now in
    walked-stop g.D.Disk (HeldRoot ∷ HeldSize root.sectors root.block_sectors ∷ []) (page_tests (held_in (g.D.Disk.history c.args.slots.now.disk).now.seen))
    c.args.slots.now c.read_held_root.new.slots c.in-Err.finding c.in-Err.ensures.walked

pub read_marks-requires-clause-room : goal.read_marks-requires-clause-room
read_marks-requires-clause-room g c =
    held-room (fields_of c.args.root.now) (fields_of c.in-Ok.held) (g.D.Disk.sectors c.args.slots.now.disk) (g.D.Disk.sectors c.read_held_root.new.slots.disk)
    c.in-Ok.ensures.held c.in-Ok.ensures.walked.same.size c.requires.room

pub returns-in-Ok-read_marks-clause-walked : goal.returns-in-Ok-read_marks-clause-walked
returns-in-Ok-read_marks-clause-walked g c =
    let root = fields_of c.args.root.now in
    let seen = (g.D.Disk.history c.args.slots.now.disk).now.seen in
    let held = fields_of c.in-Ok.held in
    walked-value g.D.Disk (HeldRoot ∷ HeldSize root.sectors root.block_sectors ∷ page_tests (held_in seen)) c.args.slots.now c.read_marks.new.slots c.in-Ok-read_marks.marks
    (record { is_held = true; root = c.in-Ok.held; marks = c.in-Ok-read_marks.marks })
    (held-walked g.D.Disk root.sectors root.block_sectors seen held c.args.slots.now c.read_held_root.new.slots c.read_marks.new.slots c.in-Ok.held (Ok c.in-Ok-read_marks.marks)
    (λ told. held-is c.root_is_read_back.ensures.fields seen held c.in-Ok.ensures.held.valid (c.in-Ok.ensures.says told)) c.in-Ok.ensures.walked c.in-Ok-read_marks.ensures.walked)

pub returns-in-Ok-read_marks-clause-beside : goal.returns-in-Ok-read_marks-clause-beside
returns-in-Ok-read_marks-clause-beside g c =
    let by = c.in-Ok.ensures.held in
    let for = c.in-Ok-read_marks.ensures.root in
    record {
      lists = held-lists (fields_of c.args.root.now) (fields_of c.in-Ok.held) by;
      count = by.valid.count;
      sectors = sym for.sectors ∙ by.size.0;
      block_sectors = sym for.block_sectors ∙ by.size.1;
    }

pub returns-in-Ok-read_marks-clause-says : goal.returns-in-Ok-read_marks-clause-says
returns-in-Ok-read_marks-clause-says g c = λ told.
    let by = c.in-Ok.ensures.held in
    let held = fields_of c.in-Ok.held in
    let old = g.D.Disk.history c.args.slots.now.disk in
    let mid = g.D.Disk.history c.read_held_root.new.slots.disk in
    let same = went-now (λ before now. now ≡ before) old mid (c.in-Ok.ensures.walked.told told).went in
    let passed = (c.in-Ok-read_marks.ensures.walked.told told).found.0 in
    record {
      held = record {
        flag = c.requires.held;
        valid = by.valid;
        none = by.none;
        spelled = c.in-Ok.ensures.says told;
        length_same = by.size.0;
        size_same = by.size.1;
        whole = subst (λ (state : State). IsWholeContent held (content_of (pages_in state.seen) held)) same (passed-whole mid.now.seen held passed);
      };
      marks = ap Some (sym (c.in-Ok-read_marks.ensures.says told ∙ ap (λ (state : State). marks_on (pages_in state.seen) held) same));
    }

pub returns-in-Err-read_marks-clause-walked : goal.returns-in-Err-read_marks-clause-walked
returns-in-Err-read_marks-clause-walked g c =
    let root = fields_of c.args.root.now in
    let seen = (g.D.Disk.history c.args.slots.now.disk).now.seen in
    let held = fields_of c.in-Ok.held in
    walked-error g.D.Disk (HeldRoot ∷ HeldSize root.sectors root.block_sectors ∷ page_tests (held_in seen)) c.args.slots.now c.read_marks.new.slots c.in-Err-read_marks.finding
    (held-walked g.D.Disk root.sectors root.block_sectors seen held c.args.slots.now c.read_held_root.new.slots c.read_marks.new.slots c.in-Ok.held (Err c.in-Err-read_marks.finding)
    (λ told. held-is c.root_is_read_back.ensures.fields seen held c.in-Ok.ensures.held.valid (c.in-Ok.ensures.says told)) c.in-Ok.ensures.walked c.in-Err-read_marks.ensures.walked)
