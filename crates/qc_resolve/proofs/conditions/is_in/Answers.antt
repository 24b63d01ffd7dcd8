use Rattle.std.proofs.Common.{◌≡◌, sym, ◌∙◌, ap, Ok, Err, List}
use Rattle.qc_resolve.specs.declared.test.Test.TheVariants as made
use Rattle.qc_types.specs.declared.names.Value.{Value}
use Rattle.qc_resolve.specs.Views.{validated_of}
use Rattle.qc_resolve.proofs.Conds.{in_refused, in_taken}
use Rattle.qc_resolve.proofs.conditions.is_in.Goals as goal

pub returns-then-mixes_any : goal.returns-then-mixes_any
returns-then-mixes_any c =
    in_refused c.args.scope.now c.args.of.now c.args.values.now c.items.result.now (validated_of c.in_ok-of.of) c.in_ok-of.ensures c.items.ensures (sym c.if-mixes_any.ensures)
    ∙ ap Err (sym c.in_ok-not_supported.ensures)

pub returns : goal.returns
returns c =
    in_taken c.args.scope.now c.args.of.now c.args.values.now c.items.result.now (validated_of c.in_ok-of.of) c.in_ok-of.ensures c.items.ensures (sym c.if-mixes_any.ensures)
    ∙ ap (λ (vs : List Value). Ok (made.In c.in_ok-of.of.formula vs)) (sym c.in_ok-from_values.ensures)
