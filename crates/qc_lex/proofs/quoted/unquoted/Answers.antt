use Rattle.std.proofs.Common.{[], ◌∷◌, append_assoc}
use Rattle.qc_lex.proofs.Contents.{meant_on}
use Rattle.qc_lex.proofs.quoted.unquoted.Goals as goal

pub loop-bytes-preserved-in-One : goal.loop-bytes-preserved-in-One
loop-bytes-preserved-in-One c =
    rw c.in_ok-push-in-One.ensures.items
    (meant_on c.args.quotes.escapes c.args.quotes.quote c.loop-bytes.bytes.items (c.in-One.byte ∷ []) c.loop-bytes.rest.now c.in-One.taken _ c.in-One.ensures.meant c.loop-bytes.invariant)

pub loop-bytes-preserved : goal.loop-bytes-preserved
loop-bytes-preserved c =
    rw (c.in_ok-push-in-Both-2.ensures.items, c.in_ok-push-in-Both.ensures.items, append_assoc c.loop-bytes.bytes.items (92 ∷ []) (c.in-Both.byte ∷ []))
    (meant_on c.args.quotes.escapes c.args.quotes.quote c.loop-bytes.bytes.items (92 ∷ c.in-Both.byte ∷ []) c.loop-bytes.rest.now 2 _ c.in-Both.ensures.meant c.loop-bytes.invariant)
