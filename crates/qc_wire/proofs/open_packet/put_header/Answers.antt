use Rattle.std.proofs.Common.{◌+◌, ap, ◌∙◌, arith, length-drop}
use Rattle.std.specs.Int.{w32, to_le_bytes}
use Rattle.qc_wire.proofs.OpenPackets.{header_is}
use Rattle.qc_wire.proofs.open_packet.put_header.Goals as goal

pub returns : goal.returns
returns c = header_is c.args.bytes.now.items c.to_le_bytes.result c.args.from c.args.sequence c.requires.room (c.to_le_bytes.ensures ∙ ap (λ n. to_le_bytes w32 n) (omega (arith, c.len.ensures, length-drop (c.args.from + 4) c.args.bytes.now.items, c.requires.room)))
