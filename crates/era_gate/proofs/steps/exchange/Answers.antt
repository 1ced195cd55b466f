use Rattle.std.proofs.Common.{arith, ◌*◌, ◌%◌}
use Rattle.era_gate.proofs.Placed.{exchange_at}
use Rattle.era_gate.proofs.steps.exchange.Goals as goal

pub compare_exchange-requires : goal.compare_exchange-requires
compare_exchange-requires c =
    let words = c.requires.words in
    let era = c.requires.may.present in
    let last = c.requires.may.next in
    let one = c.from-old.ensures in
    let two = c.from-new.ensures in
    (c.requires.table, omega arith, exchange_at c.args.board.now.shared.key c.args.board.now.shared.table_id.slots c.args.place.now.id c.args.place.now.me (c.from-old.result * 4294967296 % 18446744073709551616) (c.from-new.result * 4294967296 % 18446744073709551616) c.requires.view c.requires.may.cleared c.requires.may.switched (omega arith) (omega arith) (omega arith))
