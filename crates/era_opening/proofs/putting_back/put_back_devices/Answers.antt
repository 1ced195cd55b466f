use Rattle.std.proofs.Common.{◌∷◌}
use Rattle.era_opening.proofs.InRow.{next-out, so_far-next, so_far-none}
use Rattle.era_opening.proofs.WholeRow.{first-content, first-others, rest-apart, rest-ended, rest-out}
use Rattle.era_opening.proofs.putting_back.put_back_devices.Goals as goal

-- the metadata device is out, and then the parts are
pub put_back-requires : goal.put_back-requires
put_back-requires g c =
    let disk = g.B.D.Disk in
    let parts = c.args.parts.items in
    let metadata = c.args.metadata in
    let loans = g.B.Bay.loans c.args.bay.now in
    let reads = g.B.Bay.reads c.args.bay.now in
    next-out disk (metadata ∷ parts) metadata parts 0 loans loans reads reads c.requires.out (so_far-none disk (metadata ∷ parts) loans reads c.requires.apart)

pub put_back_all-requires-clause-apart : goal.put_back_all-requires-clause-apart
put_back_all-requires-clause-apart g c κs within = rest-apart g.B.D.Disk c.args.metadata c.args.parts.items c.requires.apart

pub put_back_all-requires-clause-out : goal.put_back_all-requires-clause-out
put_back_all-requires-clause-out g c κs within =
    let disk = g.B.D.Disk in
    let parts = c.args.parts.items in
    let all = c.args.metadata ∷ parts in
    let loans = g.B.Bay.loans c.args.bay.now in
    let reads = g.B.Bay.reads c.args.bay.now in
    let mid = g.B.Bay.loans c.put_back.new.self in
    let between = g.B.Bay.reads c.put_back.new.self in
    rest-out disk all parts 1 loans mid reads between c.requires.out
    (so_far-next disk all c.args.metadata parts 0 loans loans mid reads reads between c.requires.apart (so_far-none disk all loans reads c.requires.apart)
    c.put_back.ensures.loans c.put_back.ensures.content c.put_back.ensures.others)

-- all loans are ended
pub returns-clause-loans : goal.returns-clause-loans
returns-clause-loans g c =
    let disk = g.B.D.Disk in
    let parts = c.args.parts.items in
    let all = c.args.metadata ∷ parts in
    let loans = g.B.Bay.loans c.args.bay.now in
    let reads = g.B.Bay.reads c.args.bay.now in
    let mid = g.B.Bay.loans c.put_back.new.self in
    let between = g.B.Bay.reads c.put_back.new.self in
    rest-ended disk all parts 1 loans mid (g.B.Bay.loans c.put_back_all.new.bay) reads between
    (so_far-next disk all c.args.metadata parts 0 loans loans mid reads reads between c.requires.apart (so_far-none disk all loans reads c.requires.apart)
    c.put_back.ensures.loans c.put_back.ensures.content c.put_back.ensures.others)
    c.put_back_all.ensures.loans

-- and the bay reads as the disks do
pub returns-clause-content : goal.returns-clause-content
returns-clause-content g c =
    first-content g.B.D.Disk c.args.metadata c.args.parts.items (g.B.Bay.reads c.put_back.new.self) (g.B.Bay.reads c.put_back_all.new.bay) c.requires.apart
    c.put_back.ensures.content c.put_back_all.ensures.content c.put_back_all.ensures.others

pub returns-clause-others : goal.returns-clause-others
returns-clause-others g c =
    first-others g.B.D.Disk c.args.metadata c.args.parts.items (g.B.Bay.reads c.args.bay.now) (g.B.Bay.reads c.put_back.new.self) (g.B.Bay.reads c.put_back_all.new.bay)
    c.put_back.ensures.others c.put_back_all.ensures.others
