-- What an event stores, in sizes.
use Rattle.std.specs.Prelude.{Bool, true, ◌&&◌}
use Rattle.std.specs.List.{list_all}
use Rattle.qc_sql.specs.declared.tables.RowOp.{RowOp}
use Rattle.qc_sql.specs.declared.tables.RowOp.TheVariants as op
use Rattle.qc_model.specs.declared.events.Event.{Event}
use Rattle.qc_model.specs.Journal.{operations}
pub use Rattle.qc_model.specs.Sizes.{makes_short_name, is_small_operation}

-- what an event commits is small
abbrev pub is_small_event : Event → Bool
is_small_event e = list_all is_small_operation (operations e)
