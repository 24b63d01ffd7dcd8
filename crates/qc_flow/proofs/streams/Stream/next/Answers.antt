use Rattle.std.proofs.Common.{arith, ◌≡◌, ◌+◌, ◌/◌, ◌<◌, ◌≤◌, ◌∙◌, length, take, replicate, subst}
use Rattle.std.proofs.lemmas.List.{length-take-le}
use Rattle.qc_turn.specs.Seats.{view}
use Rattle.qc_flow.proofs.Pieces.{stream_piece}
use Rattle.qc_flow.proofs.streams.Stream.next.Goals as goal

pub returns-clause-piece : goal.returns-clause-piece
returns-clause-piece c =
    let s = c.args.self.now in
    let words = c.div_ceil-words.result in
    let count : words ≡ (c.min-count.result + 7) / 8 = omega (arith, c.div_ceil-words.ensures) in
    let few : words ≤ 64 = omega (arith, count, c.min-count.ensures) in
    let room : length (take words (replicate 64 0)) ≡ words = length-take-le words (replicate 64 0) few in
    let long : length c.load_piece.new.out ≡ length (take words (replicate 64 0)) = c.load_piece.ensures.len in
    stream_piece (view c.args.seat.now).content c.load_piece.new.out c.write_u64_into.new.dst _ _ s.sent s.bytes c.min-count.result words c.write_u64_into.ensures (long ∙ room) c.min-count.ensures count s.within s.pieces c.requires.streams.within
    (λ k less. c.load_piece.ensures.words k (subst (λ n. k < n) long less))
