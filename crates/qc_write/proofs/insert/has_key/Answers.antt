use Rattle.std.proofs.Common.{◌≡◌, ◌∙◌}
use Rattle.std.proofs.lemmas.Int.{to_z-of_z}
use mir.Syntax.{w64}
use Rattle.qc_write.proofs.Keys.{is_there}
use Rattle.qc_write.proofs.insert.has_key.Goals as goal

pub returns : goal.returns
returns g c =
    let key = c.args.key in
    c.is_some.ensures ∙ is_there c.args.version.now.rows key c.find.result (rw (to_z-of_z w64 key c.ranges.key) at c.find.ensures.found)
