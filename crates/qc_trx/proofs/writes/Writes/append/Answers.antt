-- The index of the rows is one of more rows, of which fewer are entered.
use Rattle.qc_trx.proofs.Index.{index_more}
use Rattle.qc_trx.proofs.writes.Writes.append.Goals as goal

pub enter_from-self-inside-requires : goal.enter_from-self-inside-requires
enter_from-self-inside-requires c =
    rw (c.as_slice.ensures.value, c.in_ok-append.ensures.items) (index_more c.self.inside.firsts.entries c.self.inside.entered c.self.inside.rows.items c.args.rows.items c.self.invariant)
