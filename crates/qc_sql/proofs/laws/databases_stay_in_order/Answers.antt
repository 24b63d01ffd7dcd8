use Rattle.qc_sql.proofs.Order.{stays_ordered}
use Rattle.qc_sql.proofs.laws.databases_stay_in_order.Goals as goal

pub returns : goal.returns
returns c = stays_ordered
