use Rattle.std.proofs.Common.{length}
use Rattle.era_model.specs.Counts.{MetadataDisk, PartOf}
use Rattle.era_promise.proofs.Windows.{some-image}
use Rattle.era_promise.proofs.laws.each_place_may_crash.Goals as goal

pub returns-clause-parts : goal.returns-clause-parts
returns-clause-parts g c = λ journal devices place stripe one follow is.
    some-image c.windows_are_never_empty.ensures.some c.disk_as_it_reads_is_an_image.ensures journal (PartOf stripe) one.device place (follow.part_notes stripe one is)

pub returns-clause-metadata : goal.returns-clause-metadata
returns-clause-metadata g c = λ journal devices place follow within.
    let left = some-image c.windows_are_never_empty.ensures.some c.disk_as_it_reads_is_an_image.ensures journal MetadataDisk devices.metadata place follow.metadata_notes in
    let marks = (follow.metadata place within).stands left.0 left.1 in
    (left.0, marks.0, marks.1, left.1, marks.2)

pub returns-clause-moments : goal.returns-clause-moments
returns-clause-moments g c = λ journal disk device moment notes begins ends.
    c.windows_are_never_empty.ensures.all device (length journal.entries) moment notes.ordered begins ends
