use Rattle.std.proofs.Common.{◌+◌, refl, sym, subst}
use Rattle.qc_dir.specs.Keys.{IsKeySet, major_home, pair_home}
use Rattle.qc_chain.proofs.FiledSteps.{free-filed, contents-free}
use Rattle.qc_dir.proofs.KeyCounts.{major-low, pair-low}
use Rattle.qc_dir.proofs.keys.KeySet.new.Goals as goal

pub invariant_of-result : goal.invariant_of-result
invariant_of-result c =
    let m = c.mask_for-mask.result in (
      subst (λ xs. IsKeySet xs c.in_ok-by_major.by_major c.in_ok-by_key.by_key m) (sym (c.in_ok-slots.ensures {u = tt})) (record {
        by_major = free-filed (major_home m) (m + 2) c.args.room c.in_ok-by_major.by_major (c.in_ok-by_major.ensures {u = tt}) refl (major-low m);
        by_key = free-filed (pair_home m) (m + 2) c.args.room c.in_ok-by_key.by_key (c.in_ok-by_key.ensures {u = tt}) refl (pair-low m);
      }),
      c.mask_for-mask.ensures,
    )

pub returns : goal.returns
returns c = rw (c.in_ok-slots.ensures {u = tt}, (c.in_ok-by_major.ensures {u = tt}).all, contents-free c.args.room) refl
