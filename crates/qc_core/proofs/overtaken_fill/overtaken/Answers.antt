use Rattle.std.proofs.Common.{◌≡◌, ℕ, ◌<◌, true, List, sym, ap, subst, ◌∙◌}
use Rattle.std.specs.Prelude.{IsSomeAnd}
use Rattle.std.specs.Option.{option_copied}
use Rattle.std.proofs.lemmas.Option.{none-some, same_Some}
use Rattle.qc_types.specs.declared.names.TableName.{TableName}
use Rattle.qc_model.specs.declared.events.Event.TheVariants as event
use Rattle.qc_model.specs.declared.events.How.TheVariants as how
use Rattle.qc_model.specs.Journal.{event_at}
use Rattle.qc_core.specs.OvertakenFill.{overtakes, started_tables, IsFirstOvertaking}
use Rattle.qc_core.proofs.Overtaking.{some_overtakes, start_meant, start_there}
use Rattle.qc_core.proofs.overtaken_fill.overtaken.Goals as goal

pub unreachable-requires : goal.unreachable-requires
unreachable-requires c =
    let j = c.args.journal.now.events in
    let f = c.start_of-start.ensures in
    let s = f.0 in
    let ev = same_Some c.event.result.now (event.Run s.who (how.Start c.args.serial s.key s.tables)) (sym c.event.ensures ∙ (ap (event_at j) (sym f.1) ∙ start_there j c.args.serial s)) in
    none-some s.tables (sym (ap option_copied c.in_default.is) ∙ (c.started_tables.ensures ∙ ap started_tables ev))

pub first_overtaking-requires : goal.first_overtaking-requires
first_overtaking-requires c =
    let j = c.args.journal.now.events in
    let w = c.requires in
    let f = c.start_of-start.ensures in
    let s = f.0 in
    let meant = start_meant j c.args.serial c.start_of-start.result w f in
    let ev = same_Some c.event.result.now (event.Run s.who (how.Start c.args.serial s.key s.tables)) (sym c.event.ensures ∙ (ap (event_at j) (sym f.1) ∙ start_there j c.args.serial s)) in
    let is : c.in-Some.tables.now ≡ w.start.tables = same_Some c.in-Some.tables.now s.tables (sym (ap option_copied c.in-Some.is) ∙ (c.started_tables.ensures ∙ ap started_tables ev)) ∙ meant.0 in
    let o = some_overtakes j c.args.serial w in
    (o.0, subst (λ k. k < o.0) meant.1 o.1, subst (λ (ts : List TableName). IsSomeAnd (event_at j o.0) (λ e. overtakes ts e ≡ true)) (sym is) o.2)

pub returns : goal.returns
returns c =
    let j = c.args.journal.now.events in
    let w = c.requires in
    let f = c.start_of-start.ensures in
    let s = f.0 in
    let meant = start_meant j c.args.serial c.start_of-start.result w f in
    let ev = same_Some c.event.result.now (event.Run s.who (how.Start c.args.serial s.key s.tables)) (sym c.event.ensures ∙ (ap (event_at j) (sym f.1) ∙ start_there j c.args.serial s)) in
    let is : c.in-Some.tables.now ≡ w.start.tables = same_Some c.in-Some.tables.now s.tables (sym (ap option_copied c.in-Some.is) ∙ (c.started_tables.ensures ∙ ap started_tables ev)) ∙ meant.0 in
    record { start = w.start; filling = w.filling; first = subst (λ (p : List TableName × ℕ). IsFirstOvertaking j p.0 p.1 c.first_overtaking.result) (λ i. (is i, sym meant.1 i)) c.first_overtaking.ensures }
