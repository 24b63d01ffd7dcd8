use Rattle.std.proofs.Common.{refl}
use Rattle.qc_turn.specs.Seats.{view}
use Rattle.qc_memory_tests.specs.declared.lock.entry.Entry.{Entry}
use Rattle.qc_memory_tests.specs.contracts.lock.log.LogKept.TheImpl.{ghosts}
use Rattle.qc_memory_tests.proofs.Threes.{closed}
use Rattle.qc_memory_tests.proofs.lock.add.close_three.Goals as goal

pub returns-clause-seen : goal.returns-clause-seen
returns-clause-seen c = (closed ghosts (λ (e : Entry). e.session) (λ e. refl) _ (view c.args.first) c.close.result c.requires.met c.close.ensures).0

pub returns-clause-log : goal.returns-clause-log
returns-clause-log c = (closed ghosts (λ (e : Entry). e.session) (λ e. refl) _ (view c.args.first) c.close.result c.requires.met c.close.ensures).1
