use Rattle.std.proofs.Common.{◌≡◌, length, arith}
use Rattle.std.proofs.lemmas.List.{take_at}
use Rattle.qc_wire.proofs.Streams.{whole_command, part_of_packet}
use Rattle.qc_wire.proofs.stream.read_command.Goals as goal

pub returns-in-Whole-clause-command : goal.returns-in-Whole-clause-command
returns-in-Whole-clause-command g c =
    let len : length c.fill.new.out ≡ c.in_ok-payload.payload.len = omega (arith, c.in_ok-payload.ensures.len) in
    rw (c.command_of.ensures.command, take_at)
    (whole_command (g.S.Source.left c.args.source.now) (g.S.Source.left c.read_header.new.source) (g.S.Source.left c.fill.new.source) c.in-Ok.length c.fill.new.out c.in-Ok.ensures.header c.in-Ok.ensures.bound (omega (arith, c.in_ok-payload.ensures.len)) c.in-Whole.ensures.bytes)

pub returns-in-Failed-clause-command : goal.returns-in-Failed-clause-command
returns-in-Failed-clause-command g c = part_of_packet (g.S.Source.left c.args.source.now) (g.S.Source.left c.read_header.new.source) (g.S.Source.left c.fill.new.source) c.in-Ok.length c.fill.new.out c.in-Ok.ensures.header (omega (arith, c.in_ok-payload.ensures.len)) c.in-Failed.ensures.bytes
