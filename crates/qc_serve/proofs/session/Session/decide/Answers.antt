use Rattle.std.proofs.Common.{◌≡◌, ◌<◌, ◌^◌, ℕ, List, arith, ap, subst, ◌∙◌}
use Rattle.qc_sql.specs.declared.session.Flags.{Flags}
use Rattle.qc_sql.specs.Grammar.{head_of}
use Rattle.qc_sql.specs.Keys.{key_bytes}
use Rattle.qc_sql.specs.Rules.{asks}
use Rattle.qc_model.specs.Session.{key_of_text}
use Rattle.qc_select.specs.Selects.{IsOfText}
use Rattle.qc_serve.proofs.Decided.{selects_now}
use Rattle.qc_serve.proofs.Selecting.{decided, may_decide}
use Rattle.qc_serve.proofs.session.Session.decide.Goals as goal

pub returns-clause-decided : goal.returns-clause-decided
returns-clause-decided g c =
    let t = c.args.turn.now in
    let text : List ℕ = c.args.text.now in
    let select = c.args.select.now in
    let old = c.args.self.now in
    let mid = c.arrive_for.new.self in
    let ok = c.in_ok-selected in
    let n = c.hold in
    let limit : mid.state.state.row_limit < 2 ^ 64 = subst (λ (f : Flags). f.row_limit < 2 ^ 64) c.flags.ensures (omega (arith, c.flags.type_inv)) in
    let m = may_decide t select text old mid c.arrive_for.ensures c.requires.rest.rest limit c.requires.means in
    let may = m.may in
    let key_is : c.in_ok-key.key ≡ key_of_text mid.state.state text = c.in_ok-key.ensures ∙ (λ i. key_bytes (c.flags.ensures i) (c.db.ensures i) (c.trimmed-2.ensures i)) in
    let of : IsOfText mid.state.state c.in_ok-key.key select c.asks-asked.result text = record {
      means = m.means;
      key_is = key_is;
      asked_is = c.asks-asked.ensures ∙ (λ i. asks ((c.head.ensures ∙ ap head_of c.trimmed.ensures) i) (c.kind.ensures i));
    } in
    decided t text select old mid c.see_for.new.self c.put_line.new.self c.in_ok-key.key ok.field-0.database ok.field-0.selected n.new.seat c.line_of-place.result.0 c.line_of-place.result.1 c.arrive_for.ensures key_is may.keyed (selects_now t mid.state.state mid.seat _ text c.in_ok-key.key select c.asks-asked.result c.session-session.result ok.field-0 c.session-session.ensures of ok.ensures.turns ok.ensures.gives ok.ensures.keeps) c.line_of-place.ensures.0 c.line_of-place.ensures.1 c.see_for.ensures c.put_line.ensures.same c.put_line.ensures.lines
