use Rattle.std.proofs.Common.{◌∙◌, refl, sym, subst, Some, None}
use Rattle.std.specs.Option.{IsSome}
use Rattle.std.proofs.lemmas.Option.{same_Some}
use Rattle.qc_dir.specs.Indexed.{FreesName}
use Rattle.qc_dir.proofs.SlotCalls.{found_at}
use Rattle.qc_dir.proofs.dir.free_table.Goals as goal

pub find-requires : goal.find-requires
find-requires c = c.requires.once

pub free-requires : goal.free-requires
free-requires c =
    let found = found_at c.args.table.now c.in-Some.number c.args.tables.now.held c.find.ensures.rising (c.in-Some.ensures {u = tt}).number in
    subst (λ o. IsSome o) (sym found.2) refl

pub returns-then-has_number : goal.returns-then-has_number
returns-then-has_number c = λ n is.
    let same = same_Some c.in-Some.number n ((c.in-Some.ensures {u = tt}).number ∙ is) in
    subst (λ m. FreesName m c.args.serial None c.args.tables.now c.args.tables.now c.args.named.now c.remove.new.self) same (record {
      rising = c.find.ensures.rising;
      key = rw c.from.ensures at c.remove.ensures.keys;
      room = c.remove.ensures.room;
      table = (refl, c.has_number.ensures.yes c.if-has_number.true);
    })

pub returns : goal.returns
returns c = λ n is.
    let same = same_Some c.in-Some.number n ((c.in-Some.ensures {u = tt}).number ∙ is) in
    subst (λ m. FreesName m c.args.serial (Some c.free.result) c.args.tables.now c.free.new.self c.args.named.now c.remove.new.self) same (record {
      rising = c.find.ensures.rising;
      key = rw c.from.ensures at c.remove.ensures.keys;
      room = c.remove.ensures.room;
      table = (c.free.ensures.held, c.free.ensures.room, c.has_number.ensures.no c.if-has_number.false);
    })
