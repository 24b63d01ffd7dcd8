use Rattle.std.proofs.Common.{◌≡◌, false, sym, refl, int_cmp}
use Rattle.std.specs.BTreeSet.{contains}
use Rattle.std.proofs.lemmas.Int.{to_z-of_z}
use mir.Syntax.{w64}
use Rattle.qc_sql.specs.Effects.{has_key}
use Rattle.qc_write.proofs.insert.check_key.Goals as goal

pub returns : goal.returns
returns g c =
    let key = c.args.key in
    let same = to_z-of_z w64 key c.ranges.key in
    let absent : has_key c.args.version.now key ≡ false = sym (rw same at c.if-has_key.ensures) in
    let free : contains int_cmp c.args.taken.now key ≡ false = sym (rw same at c.if-contains.ensures) in
    rw (absent, free) refl
