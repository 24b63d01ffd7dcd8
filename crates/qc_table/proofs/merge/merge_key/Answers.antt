-- Keys are passed, and what a change leaves has its key.
use Rattle.std.proofs.Common.{◌-◌, ◌∙◌, sym, w64, ℤ, List}
use Rattle.std.proofs.lemmas.Int.{to_z-of_z}
use Rattle.qc_types.specs.declared.names.Value.{Value}
use Rattle.qc_table.proofs.Merges.{passed_none, passed_some, some_there, none_there}
use Rattle.qc_table.proofs.merge.merge_key.Goals as goal

pub returns-in_ok-push-clause-keys : goal.returns-in_ok-push-clause-keys
returns-in_ok-push-clause-keys c =
    let some = some_there c.args.change.now (sym c.is_some.ensures ∙ c.if-is_some.true) in
    let before = rw c.keys.ensures at c.in_ok-extend_from_slice.ensures.items in
    let put = rw (to_z-of_z w64 c.args.key c.ranges.key) at c.in_ok-push.ensures.items in
    passed_some (λ (e : ℤ × List Value). e.0) c.args.keys.now.items c.extend_from_slice.new.self.items c.push.new.self.items c.args.base.now.rows c.args.from (c.cut-cut.result.end - c.args.from) c.args.key c.args.change.now some.0 before (rw (to_z-of_z w64 c.args.key c.ranges.key) at c.cut-cut.ensures.below) some.1 put

pub returns-else-is_some-clause-keys : goal.returns-else-is_some-clause-keys
returns-else-is_some-clause-keys c =
    let none = none_there c.args.change.now (sym c.is_some.ensures ∙ c.if-is_some.false) in
    let before = rw c.keys.ensures at c.in_ok-extend_from_slice.ensures.items in
    passed_none (λ (e : ℤ × List Value). e.0) c.args.keys.now.items c.extend_from_slice.new.self.items c.args.base.now.rows c.args.from (c.cut-cut.result.end - c.args.from) c.args.key c.args.change.now before (rw (to_z-of_z w64 c.args.key c.ranges.key) at c.cut-cut.ensures.below) none
