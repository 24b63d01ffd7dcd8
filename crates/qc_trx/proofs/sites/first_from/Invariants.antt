use Rattle.std.proofs.Common.{◌≡◌, drop}
use Rattle.std.specs.List.{position_from}
use Rattle.qc_trx.specs.Sites.{is_site_of}
use Rattle.qc_trx.specs.Writes.{is_own}
use Rattle.qc_trx.proofs.sites.first_from.Given as goal

-- none of the rows so far has the site
abbrev pub invariant-loop-i : goal.invariant-loop-i
invariant-loop-i l = position_from (is_own (is_site_of l.site)) l.from (drop l.from l.rows) ≡ position_from (is_own (is_site_of l.site)) l.i (drop l.i l.rows)
