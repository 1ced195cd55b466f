use Rattle.std.proofs.Common.{◌≤◌, length, arith}
use Rattle.std.specs.Prelude.{vec_capacity}
use Rattle.era_session.proofs.Prepared.{opened-prepared, safely-none, synced-clean, synced-parts, synced-room, synced-stands, unopened-refused}
use Rattle.era_session.proofs.session.Session.prepare.Goals as goal

pub open-requires : goal.open-requires
open-requires g c =
    let old = c.args.parts.items in
    let new = c.sync_parts.new.parts.items in
    let are = c.in_default-sync_parts.ensures.did in
    let room : length old ≤ vec_capacity c.in-Ok.stripes = omega (arith, c.in-Ok.ensures.capacity) in
    record {
      parts = synced-parts g.D.Disk c.args.geometry old new are c.requires.parts;
      clean = synced-clean g.D.Disk old new are;
      room = synced-room g.D.Disk old new c.in-Ok.stripes.items (vec_capacity c.in-Ok.stripes) are c.in-Ok.ensures.items room;
    }

pub returns-clause-stands : goal.returns-clause-stands
returns-clause-stands g c = synced-stands g.D.Disk c.args.parts.items c.sync_parts.new.parts.items c.open.result c.in_default-sync_parts.ensures.did c.open.ensures.stands

pub returns-clause-prepared : goal.returns-clause-prepared
returns-clause-prepared g c = opened-prepared g.D.Disk c.args.geometry c.args.metadata c.args.parts.items c.sync_parts.new.parts.items c.open.result c.in_default-sync_parts.ensures.did c.open.ensures.opened

pub returns-clause-refused : goal.returns-clause-refused
returns-clause-refused g c = unopened-refused g.D.Disk c.args.geometry c.args.metadata c.args.parts.items c.sync_parts.new.parts.items c.open.result c.in_default-sync_parts.ensures.did c.open.ensures.refused

pub returns-in_default-clause-safely : goal.returns-in_default-clause-safely
returns-in_default-clause-safely g c = safely-none g.D.Disk c.args.geometry c.args.metadata

pub returns-in-Err-clause-safely : goal.returns-in-Err-clause-safely
returns-in-Err-clause-safely g c = safely-none g.D.Disk c.args.geometry c.args.metadata
