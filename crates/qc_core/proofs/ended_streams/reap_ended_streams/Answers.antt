use Rattle.std.proofs.Common.{[], ◌-◌, ◌++◌, sym, refl, ◌∙◌, subst, arith}
use Rattle.qc_turn.specs.Seats.{MayRelease, holder}
use Rattle.qc_core.specs.declared.server_state.ServerState.{ServerState}
use Rattle.qc_core.specs.EndedStreams.{ReadsAt, IsSwept}
use Rattle.qc_core.proofs.Standing.{lent}
use Rattle.qc_core.proofs.Sweeping.{finds_nothing, finds_number, finds_on, once_in, reads_end, reads_next, reads_start, swept_none, swept_on}
use Rattle.qc_core.proofs.ended_streams.reap_ended_streams.Goals as goal

pub loop-index-init : goal.loop-index-init
loop-index-init c =
    let h = c.args.held.now in
    let x = c.value.result.now in
    let same = c.value.ensures.value in
    let n = (holder h).number in (
      (lent MayRelease h x same c.requires.stands, refl),
      ([], finds_nothing h x c.requires.stands.held, subst (λ (s : ServerState). IsSwept n h.value s []) (sym same) (swept_none n h.value), reads_start n c.count_tasks-index.result h.value x c.count_tasks-index.ensures same),
    )

pub loop-index-preserved : goal.loop-index-preserved
loop-index-preserved c =
    let h = c.args.held.now in
    let k = c.loop-index.held in
    let m = c.check_task.new.held in
    let i = c.loop-index.index - 1 in
    let n = (holder h).number in
    let stands = c.loop-index.invariant.0 in
    let old = c.loop-index.invariant.1 in
    let new = c.check_task.ensures.swept in
    let f = old.0 in
    let g = new.0 in
    let same = finds_number h k f old.1 in
    let one = subst (λ j. IsSwept j k.value m.value g × ReadsAt j i k.value m.value g) same (new.2, new.3) in
    let next = reads_next n i c.loop-index.index h.value k.value m.value f g (omega (arith, c.loop-index-test.true)) (once_in h c.requires.stands) (once_in k stands.0) old.3 one.1 in
    ((c.check_task.ensures.stands, c.check_task.ensures.words ∙ stands.1), (g ++ f, finds_on h k m f g old.1 new.1, swept_on n h.value k.value m.value f g old.2 one.0, next))

pub returns-clause-swept : goal.returns-clause-swept
returns-clause-swept c =
    let h = c.args.held.now in
    let inv = c.loop-index.invariant.1 in
    (inv.0, inv.1, inv.2, reads_end (holder h).number c.loop-index.index h.value c.loop-index.held.value inv.0 (omega (arith, c.loop-index-test.false)) inv.3)
