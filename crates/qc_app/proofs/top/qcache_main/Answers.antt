use Rattle.std.proofs.Common.{Global, Some, ap, map, refl, rules, string_bytes, sym, ◌∙◌}
use Rattle.std.proofs.lemmas.Option.{none-some}
use Rattle.qc_app.specs.declared.top.Ended.{Ended}
use Rattle.qc_app.specs.Arguments.{asked_of}
use Rattle.qc_app.specs.Ends.{seen}
use Rattle.qc_app.specs.Outcomes.{ended_of}
use Rattle.qc_app.specs.Top.{reads_input}
use Rattle.qc_app.proofs.Endings.{has_ended, same_ending}
use Rattle.qc_app.proofs.Tops.{words_are_taken, words_given}
use Rattle.qc_app.proofs.top.qcache_main.Goals as goal

pub run_asked-requires-clause-options : goal.run_asked-requires-clause-options
run_asked-requires-clause-options g c =
    let words = map (string_bytes {Z = Global}) c.args.words.now in
    let means = words_given c.read_words.result c.in-Ok-Some.field-0 (Some c.in-Ok-Some.asked) (asked_of words) c.in-Ok-Some.is c.in-Ok-Some.field-0-is c.read_words.ensures.asked in
    let taken = words_are_taken words c.in-Ok-Some.asked means in
    search rules

pub returns-in-Err-script_asked : goal.returns-in-Err-script_asked
returns-in-Err-script_asked g c =
    let words = map (string_bytes {Z = Global}) c.args.words.now in
    let asked = c.in-Ok-Some.asked in
    let means = words_given c.read_words.result c.in-Ok-Some.field-0 (Some asked) (asked_of words) c.in-Ok-Some.is c.in-Ok-Some.field-0-is c.read_words.ensures.asked in
    let input = seen (g.S.Source.left c.args.input.now) (g.S.Source.faults c.args.input.now) in
    let input-now = seen (g.S.Source.left c.script_asked.new.input) (g.S.Source.faults c.script_asked.new.input) in
    let out = seen (g.K.Sink.held c.args.out.now) (g.K.Sink.faults c.args.out.now) in
    let all = same_ending (Some asked) (asked_of words) input input-now out out (ended_of c.in-Err-script_asked.outcome) c.ended-in-Err-script_asked.result means c.ended-in-Err-script_asked.ensures
    (c.in-Err-script_asked.ensures.ends out out) in
    record {
      statuses = all.statuses;
      usage = all.usage;
      refuses_words = all.refuses_words;
      usage_at_once = λ none other. absurd (none-some asked (sym none ∙ means));
      untouched = λ unread. c.in-Err-script_asked.ensures.untouched (sym (ap reads_input means) ∙ unread);
      refusal_there = all.refusal_there;
      refusal = all.refusal;
      report_there = all.report_there;
      report_lacks = all.report_lacks;
      agrees = all.agrees;
      shown = all.shown;
      nothing_written = λ none. refl;
      prefix_written = all.prefix_written;
      all_written = all.all_written;
      read_fault = all.read_fault;
      write_fault = all.write_fault;
      refuses = all.refuses;
      completes = all.completes;
    }

pub returns-in-Ok : goal.returns-in-Ok
returns-in-Ok g c =
    let words = map (string_bytes {Z = Global}) c.args.words.now in
    let asked = c.in-Ok-Some.asked in
    let means = words_given c.read_words.result c.in-Ok-Some.field-0 (Some asked) (asked_of words) c.in-Ok-Some.is c.in-Ok-Some.field-0-is c.read_words.ensures.asked in
    let input = seen (g.S.Source.left c.args.input.now) (g.S.Source.faults c.args.input.now) in
    let input-now = seen (g.S.Source.left c.script_asked.new.input) (g.S.Source.faults c.script_asked.new.input) in
    let out = seen (g.K.Sink.held c.args.out.now) (g.K.Sink.faults c.args.out.now) in
    let out-now = seen (g.K.Sink.held c.run_asked.new.out) (g.K.Sink.faults c.run_asked.new.out) in
    let ran = has_ended asked c.in-Ok.script input input-now out out-now (ended_of c.run_asked.result) c.in-Ok.ensures.script.1 c.run_asked.ensures.run in
    let all = same_ending (Some asked) (asked_of words) input input-now out out-now (ended_of c.run_asked.result) c.ended-in-Ok.result means c.ended-in-Ok.ensures ran in
    record {
      statuses = all.statuses;
      usage = all.usage;
      refuses_words = all.refuses_words;
      usage_at_once = λ none other. absurd (none-some asked (sym none ∙ means));
      untouched = λ unread. c.in-Ok.ensures.untouched (sym (ap reads_input means) ∙ unread);
      refusal_there = all.refusal_there;
      refusal = all.refusal;
      report_there = all.report_there;
      report_lacks = all.report_lacks;
      agrees = all.agrees;
      shown = all.shown;
      nothing_written = λ none. c.run_asked.ensures.nothing (ap (λ (e : Ended). e.report) (sym c.ended-in-Ok.ensures) ∙ none);
      prefix_written = all.prefix_written;
      all_written = all.all_written;
      read_fault = all.read_fault;
      write_fault = all.write_fault;
      refuses = all.refuses;
      completes = all.completes;
    }
