use Rattle.std.proofs.Common.{[], ◌∷◌, ◌++◌, ap, ◌∙◌}
use Rattle.std.specs.Int.{bytes_low_first, w16, to_le_bytes}
use Rattle.qc_wire.proofs.OpenPackets.{on_ok, four_pieces}
use Rattle.qc_wire.proofs.put.push_sizes.Goals as goal

pub returns-clause-ok : goal.returns-clause-ok
returns-clause-ok c =
    let column = c.args.column.now in
    on_ok c.push_type.result
    (four_pieces c.args.packet.now.payload (0x0c ∷ []) (bytes_low_first 0 2 column.charset) (bytes_low_first 0 4 column.length)
    (column.kind ∷ (to_le_bytes w16 column.flags ++ column.decimals ∷ 0 ∷ 0 ∷ []))
    c.in_ok-push.ensures.ok
    (c.in_ok-push_low_first.ensures.ok ∙ ap (λ n. c.push.new.self.payload ++ bytes_low_first 0 2 n) c.from.ensures)
    (c.in_ok-push_low_first-2.ensures.ok ∙ ap (λ n. c.push_low_first.new.packet.payload ++ bytes_low_first 0 4 n) c.from-2.ensures))
    c.push_type.ensures.ok
