-- Each count has the event at the end, which stands behind those that are entered.
use Rattle.std.proofs.Common.{◌≡◌, ℕ, List, arith, length-append, [], ◌∷◌, ◌++◌, sym, ap, subst, ◌∙◌}
use Rattle.std.specs.Prelude.{option_map}
use Rattle.qc_model.specs.declared.events.Who.{Who}
use Rattle.qc_model.specs.Journal.{decider}
use Rattle.qc_journal.specs.Counting.{AreCounted, raised}
use Rattle.qc_journal.proofs.Numbers.{count_by-push, last_after-push}
use Rattle.qc_journal.proofs.Sessions.{counted_more}
use Rattle.qc_journal.proofs.journal.Journal.push.Goals as goal

pub invariant_of-self : goal.invariant_of-self
invariant_of-self c =
    let events = c.self.inside.events.items in
    let e = c.args.event in
    let was = c.self.invariant.counted in
    let of_session : c.raise_session.new.counts ≡ raised (option_map (λ (w : Who). w.session) (decider e)) c.self.inside.sessions = c.raise_session.ensures ∙ ap (λ o. raised o c.self.inside.sessions) c.session_of.ensures in
    rw c.push_reserved.ensures.items (record {
      counted = record {
        com_select = count_by-push _ events e _ _ was.com_select c.raise.ensures.com_select;
        hits = count_by-push _ events e _ _ was.hits c.raise.ensures.hits;
        inserts = count_by-push _ events e _ _ was.inserts c.raise.ensures.inserts;
        not_cached = count_by-push _ events e _ _ was.not_cached c.raise.ensures.not_cached;
        lowmem_prunes = count_by-push _ events e _ _ was.lowmem_prunes c.raise.ensures.lowmem_prunes;
      };
      by_session = subst (λ (l : List ℕ). AreCounted l (events ++ e ∷ [])) (sym of_session) (counted_more c.self.inside.sessions events e c.self.invariant.by_session);
      within = omega (arith, length-append events (e ∷ []));
      indexed = λ t. last_after-push c.self.inside.changes events e t c.self.invariant.within (c.self.invariant.indexed t);
    })
