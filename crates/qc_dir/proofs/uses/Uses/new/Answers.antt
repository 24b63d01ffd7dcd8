use Rattle.std.proofs.Common.{refl, sym, subst}
use Rattle.qc_dir.specs.Uses.{IsUses}
use Rattle.qc_dir.proofs.UseSteps.{uses-free, free-none}
use Rattle.qc_dir.proofs.uses.Uses.new.Goals as goal

pub invariant_of-result : goal.invariant_of-result
invariant_of-result c = subst (λ xs. IsUses xs c.in_ok-order.order 0 0) (sym (c.in_ok-slots.ensures {u = tt})) (uses-free c.args.room c.in_ok-order.order (c.in_ok-order.ensures {u = tt}) c.requires)

pub returns : goal.returns
returns c = rw ((c.in_ok-order.ensures {u = tt}).all, free-none c.in_ok-slots.slots c.args.room c.in_ok-order.order (c.in_ok-order.ensures {u = tt})) refl
