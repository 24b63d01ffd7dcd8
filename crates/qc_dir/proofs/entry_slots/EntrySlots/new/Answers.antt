use Rattle.std.proofs.Common.{sym, subst, Option, None, arith}
use Rattle.std.proofs.lemmas.List.{length-replicate}
use Rattle.qc_dir.specs.declared.entries.Entry.{Entry}
use Rattle.qc_dir.specs.Uses.{IsEntrySlots}
use Rattle.qc_dir.proofs.EntrySteps.{entries-free}
use Rattle.qc_dir.proofs.entry_slots.EntrySlots.new.Goals as goal

pub invariant_of-result : goal.invariant_of-result
invariant_of-result c =
    let m = c.mask_for-mask.result in
    let empty = c.in_ok-empty.ensures {u = tt} in (
      subst (λ xs. IsEntrySlots xs c.in_ok-serials.serials c.in_ok-hashes.hashes c.in_ok-places.places m) (sym empty)
          (entries-free m c.args.slots c.in_ok-serials.serials c.in_ok-hashes.hashes c.in_ok-places.places (c.in_ok-serials.ensures {u = tt}) (c.in_ok-hashes.ensures {u = tt}) (c.in_ok-places.ensures {u = tt})),
      c.mask_for-mask.ensures,
      rw empty (omega (arith, length-replicate {A = Option Entry} c.args.slots None, c.requires)),
    )

pub returns : goal.returns
returns c = c.in_ok-empty.ensures {u = tt}
