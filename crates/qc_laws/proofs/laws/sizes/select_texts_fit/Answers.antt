use Rattle.qc_laws.proofs.sizes.Whole.{select_texts_fit}
use Rattle.qc_laws.proofs.laws.sizes.select_texts_fit.Goals as goal

pub returns : goal.returns
returns c = record { texts = select_texts_fit }
