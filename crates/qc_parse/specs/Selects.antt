-- What stands behind FROM, as the grammar has it.
use Rattle.qc_sql.specs.Grammar.{Joined, Behind}
use Rattle.qc_parse.specs.declared.select.SoFar.{SoFar}
use Rattle.qc_parse.specs.declared.select.Behind.{Behind as Kept}

abbrev pub joined_view : SoFar → Joined
joined_view j = record { sources = j.sources; conds = j.conds }

abbrev pub behind_view : Kept → Behind
behind_view b = record { sources = b.sources; cond = b.cond; order = b.order }
