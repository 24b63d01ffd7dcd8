use Rattle.std.proofs.Common.{rules, ◌≡◌, ◌<◌, ◌+◌, ◌*◌, ℕ, min, sym, ap, subst, arith}
use Rattle.atomic_table.specs.Table.{Allows, step}
use mathlib.Core.Option.{none}
use Rattle.qc_turn.specs.Rules.{TurnRule}
use Rattle.qc_turn.specs.Steps.{stores_filled}
use Rattle.qc_turn.specs.Words.{region_word}
use Rattle.qc_turn.proofs.RuleKept.{fills_step}
use Rattle.qc_turn.proofs.seat.Seat.store_place.Goals as goal

pub store-requires : goal.store-requires
store-requires g c =
    let m = c.requires.filling in
    let place = c.requires.place in
    let count : ℕ = min (8 * c.args.index + 8) c.args.bytes in
    let small = c.args.self.now.within c.args.index m.inside in
    let table = c.args.turn.now.table.shared.table_id in
    let pass = c.args.self.now.pass in
    let size = c.args.turn.now.table.shared.key.size in
    let same : pass.me.0.size ≡ size = omega (arith, c.args.self.now.sized, ap (λ t. t.words) c.requires.seated.table, c.args.turn.now.sized.0, c.args.turn.now.sized.2) in
    let inside : c.args.place < size = omega (arith, place, small, same) in
    let at : region_word c.args.place ≡ c.region_index.result = sym c.region_index.ensures in
    let fits : c.region_index.result < table.words = omega (arith, at, inside, c.args.turn.now.sized.0, c.args.turn.now.sized.2) in
    let may = fills_step g.V.Kept size table.slots pass.id pass.me m.serial c.args.index c.args.place c.args.value count (search rules) c.requires.seated.free m.task m.inside place inside m.low m.high m.reached m.fits in
    let picks = c.requires.picks in
    (c.requires.seated.table, fits, subst (λ (p : ℕ × ℕ × ℕ). Allows (TurnRule g.V.Kept size) table.slots pass.id pass.me p.2 (λ _. c.args.value) (λ _. stores_filled g.V.Kept p.0 p.1 (step table.slots p.2 c.args.value 0 none) pass.me c.args.value)) (λ i. (sym picks.0 i, sym picks.1 i, at i)) may)
