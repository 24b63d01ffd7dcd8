use Rattle.std.proofs.Common.{◌≡◌, refl}
use Rattle.qc_model.specs.declared.events.Event.TheVariants as event
use Rattle.qc_model.specs.declared.events.How.TheVariants as how
use Rattle.qc_model.specs.Cache.{counters}
use Rattle.qc_serve.proofs.Pushing.{status_counts, status_pushed}
use Rattle.qc_serve.proofs.Turning.{has_one, one_turns}
use Rattle.qc_serve.proofs.status.ShowStatusRequest.decide.Goals as goal

pub returns-clause-turns : goal.returns-clause-turns
returns-clause-turns c =
    let n = c.status-place in
    let f = n.ensures.told in
    let p = c.requires.prepared in
    let h = c.args.held.now in
    one_turns c.args.who (event.Run c.args.who (how.Status n.result.2)) h n.new.held p (status_pushed c.args.who h n.new.held f.0 n.result p.ready n.ensures.stands f.2 f.3 n.ensures.rests)

pub returns-clause-gives : goal.returns-clause-gives
returns-clause-gives c =
    let n = c.status-place in
    let f = n.ensures.told in
    let p = c.requires.prepared in
    let h = c.args.held.now in
    has_one c.args.who (event.Run c.args.who (how.Status n.result.2)) (λ w journal e. (e ≡ event.Run w (how.Status n.result.2)) × (n.result.1 ≡ counters journal)) h n.new.held n.result.0 p
    (status_pushed c.args.who h n.new.held f.0 n.result p.ready n.ensures.stands f.2 f.3 n.ensures.rests) f.3.place (refl, status_counts c.args.who h.value f.0 n.new.held.value n.result f.3)
