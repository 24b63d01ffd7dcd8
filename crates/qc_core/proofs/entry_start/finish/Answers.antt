use Rattle.std.proofs.Common.{◌≡◌, ℕ, ◌*◌, ◌++◌, List, [], ◌∷◌, length, sym, ap, subst, ◌∙◌}
use Rattle.std.specs.Prelude.{IsPermutation}
use Rattle.qc_model.specs.declared.events.Event.TheVariants as event
use Rattle.qc_model.specs.declared.events.How.TheVariants as how
use Rattle.qc_turn.specs.declared.task.Task.TheVariants as task
use Rattle.qc_turn.specs.Tasks.{listed_for, own}
use Rattle.qc_turn.proofs.Holders.{number_is, same_on}
use Rattle.qc_chain.specs.Chains.{Ranged}
use Rattle.qc_core.specs.declared.server_state.ServerState.{ServerState}
use Rattle.qc_core.specs.Whole.{tasks_of}
use Rattle.qc_core.specs.EntryStart.{AddsFill}
use Rattle.qc_core.specs.KeyText.{MayStore, HasStored}
use Rattle.qc_core.proofs.Starting.{may_store, holds_text}
use Rattle.qc_core.proofs.entry_start.finish.Goals as goal

pub store_text-requires : goal.store_text-requires
store_text-requires c = subst (λ (l : List ℕ). MayStore c.args.held.now c.args.taken.text (length l)) (sym c.bytes.ensures) (may_store c.args.who c.args.serial c.args.key c.args.tables c.args.hand c.args.taken c.args.held.now c.requires)

pub put_in-place-requires : goal.put_in-place-requires
put_in-place-requires c =
    holds_text c.args.who c.args.serial c.args.key c.args.tables c.args.hand c.args.taken c.args.held.now c.requires c.store_text.new.held
    (subst (λ (l : List ℕ). HasStored c.args.held.now c.store_text.new.held c.args.taken.text l) c.bytes.ensures c.store_text.ensures)

pub returns-clause-stands : goal.returns-clause-stands
returns-clause-stands c = (c.put_in-place.ensures.stands.0, same_on c.args.held.now c.store_text.new.held c.put_in-place.new.held c.store_text.ensures.same c.put_in-place.ensures.stands.1)

pub returns-clause-adds : goal.returns-clause-adds
returns-clause-adds c =
    subst (λ (q : ℕ × ServerState). AddsFill q.0 c.args.serial c.args.key c.args.tables c.args.taken.first c.args.taken.text q.1 c.put_in-place.new.held.value)
    (λ i. (number_is c.args.held.now c.store_text.new.held c.store_text.ensures.same i, c.store_text.ensures.value i)) c.put_in-place.ensures.adds

pub returns-clause-blocks : goal.returns-clause-blocks
returns-clause-blocks c = subst (λ (x : ServerState). IsPermutation c.put_in-place.new.held.value.dir.tables (c.args.hand.fresh ++ x.dir.tables)) c.store_text.ensures.value c.put_in-place.ensures.blocks

pub returns-clause-events : goal.returns-clause-events
returns-clause-events c = c.put_in-place.ensures.events ∙ ap (λ (x : ServerState). x.journal.events ++ event.Run c.args.who (how.Start c.args.serial c.args.key c.args.tables) ∷ []) c.store_text.ensures.value

pub returns-clause-ranges : goal.returns-clause-ranges
returns-clause-ranges c = c.put_in-place.ensures.ranges ∙ ap (λ (r : Ranged). record { blocks = c.args.taken.first ∷ []; bytes = 8 * c.args.taken.first.words; room = r.room }) c.store_text.ensures.ranges

pub returns-clause-listed : goal.returns-clause-listed
returns-clause-listed c =
    subst (λ (n : ℕ). listed_for n (tasks_of c.put_in-place.new.held.value) ≡ own n (task.Fill c.args.serial) (c.args.taken.first ∷ []))
    (number_is c.args.held.now c.store_text.new.held c.store_text.ensures.same) c.put_in-place.ensures.listed
