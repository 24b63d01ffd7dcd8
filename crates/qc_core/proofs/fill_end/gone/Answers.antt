use Rattle.std.proofs.Common.{◌≡◌, sym, ap, subst, ◌∙◌}
use Rattle.std.specs.Prelude.{is_some}
use Rattle.qc_key.specs.Hash.{hash}
use Rattle.qc_model.specs.Cache.{cache, entry_of}
use Rattle.qc_model.specs.Licence.{MayGiveUp}
use Rattle.qc_dir.specs.Directory.{entry_at}
use Rattle.qc_turn.specs.Seats.{words}
use Rattle.qc_sound.specs.Moment.{at_rest}
use Rattle.qc_core.specs.declared.server_state.ServerState.{ServerState}
use Rattle.qc_core.proofs.Filling.{there_same}
use Rattle.qc_core.proofs.fill_end.gone.Goals as goal

pub end_given_up-requires-clause-licensed : goal.end_given_up-requires-clause-licensed
end_given_up-requires-clause-licensed c =
    let h = c.args.held.now in
    let sound = c.requires.stands.sound in
    let same : c.has_entry.result ≡ is_some (entry_of c.args.serial (cache h.value.journal.events)) =
    c.has_entry.ensures ∙ (ap (λ (s : ServerState). is_some (entry_at c.args.serial s.dir.entries)) c.value.ensures.value ∙ there_same (at_rest hash) sound.0 (words h) h.value c.args.serial sound.1) in
    subst (λ (s : ServerState). MayGiveUp s.options s.journal.events c.args.serial c.args.why) (sym c.value.ensures.value) (c.requires.licensed (sym same ∙ c.if-has_entry.true))

pub returns-then-has_entry-clause-there : goal.returns-then-has_entry-clause-there
returns-then-has_entry-clause-there c =
    let h = c.args.held.now in
    let sound = c.requires.stands.sound in
    sym c.if-has_entry.true ∙ (c.has_entry.ensures ∙ (ap (λ (s : ServerState). is_some (entry_at c.args.serial s.dir.entries)) c.value.ensures.value ∙ there_same (at_rest hash) sound.0 (words h) h.value c.args.serial sound.1))

pub returns-clause-there : goal.returns-clause-there
returns-clause-there c =
    let h = c.args.held.now in
    let sound = c.requires.stands.sound in
    sym c.if-has_entry.false ∙ (c.has_entry.ensures ∙ (ap (λ (s : ServerState). is_some (entry_at c.args.serial s.dir.entries)) c.value.ensures.value ∙ there_same (at_rest hash) sound.0 (words h) h.value c.args.serial sound.1))
