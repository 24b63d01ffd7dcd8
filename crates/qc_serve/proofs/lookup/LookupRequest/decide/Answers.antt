use Rattle.std.proofs.Common.{◌*◌, ◌≤◌, sym, ap, subst}
use Rattle.qc_model.specs.declared.events.Event.{Event}
use Rattle.qc_chain.specs.Words.{words_of}
use Rattle.qc_turn.specs.declared.view.View.{View}
use Rattle.qc_core.specs.declared.server_state.ServerState.{ServerState}
use Rattle.qc_flow.proofs.Hits.{hits_answer}
use Rattle.qc_serve.proofs.lookup.LookupRequest.decide.Goals as goal

pub returns-in-Some-clause-keeps : goal.returns-in-Some-clause-keeps
returns-in-Some-clause-keeps c =
    let g = c.share_for.new.held in
    let k = c.look.new.held in
    let s = c.in-Some.ensures in
    let q = c.args.self.now in (
      hits_answer g k c.args.who c.in-Some.hit.serial q.key.now q.state.now.state (record {
        stood = c.in_ok-database.ensures.ready.0.stands;
        stands = s.stands.0;
        number = ap (λ (v : View ServerState Event). v.number) s.stands.1.holder;
        found = sym s.found;
        server = s.server;
        chain = s.ranges;
        listed = s.listed;
        within = subst (λ b. b ≤ 8 * words_of k.ranges.blocks) s.hit.1 s.within;
      }),
      s.hit.1,
    )
