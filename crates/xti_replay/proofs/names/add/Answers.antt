use Rattle.std.proofs.Common.{◌≡◌, None, arith}
use Rattle.xti_replay.specs.Known.{known_in}
use Rattle.xti_replay.proofs.Tables.{known_more}
use Rattle.xti_replay.proofs.names.add.Goals as goal

pub returns-in_ok-insert-clause-added : goal.returns-in_ok-insert-clause-added
returns-in_ok-insert-clause-added c =
    let absent : known_in c.args.table.now c.args.name.now ≡ None = grind arith in
    known_more c.args.table.now c.insert.new.self c.in_ok-from_slice.field-0 c.args.known c.args.name.now c.in_ok-from_slice.ensures.items absent c.in_ok-insert.ensures.updates.1 c.in_ok-insert.ensures.updates.3
