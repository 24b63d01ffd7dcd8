use Rattle.std.proofs.Common.{refl, sym, ap, subst, ◌∙◌}
use Rattle.qc_key.specs.Hash.{hash}
use Rattle.qc_chain.specs.Chains.{Ranged}
use Rattle.qc_sound.specs.Moment.{at_rest}
use Rattle.qc_core.proofs.FillTasks.{fill_task, overtaken, entry_gone}
use Rattle.qc_core.proofs.Growing.{err_short, is_filling, may_take, grown_by, short_of, may_append_now, ranges_are, grows_so, stays_so, stays_short}
use Rattle.qc_core.proofs.server_state.ServerState.grow.Goals as goal

pub overtaken-by-requires : goal.overtaken-by-requires
overtaken-by-requires c =
    let u = c.requires in
    let s = c.args.self.now in
    overtaken u.words u.names s u.seat c.args.serial c.args.ranges.now.blocks u.whole (fill_task u.seat c.args.serial c.args.ranges.now.blocks s.chains s.tasks.items u.fills.listed) u.fills.start (sym (c.in_default.ensures {u = tt}).entry)

pub allocate-requires : goal.allocate-requires
allocate-requires c =
    let u = c.requires in
    let s = c.args.self.now in
    may_take u.words u.names s c.args.serial u.whole (is_filling s c.args.serial c.args.ranges.now u c.in-Some.entry.now (sym (c.in-Some.ensures {u = tt}).entry)) c.none.result c.none.ensures

pub append-requires : goal.append-requires
append-requires c =
    let u = c.requires in
    let s = c.args.self.now in
    let there = sym (c.in-Some.ensures {u = tt}).entry in
    let filling = is_filling s c.args.serial c.args.ranges.now u c.in-Some.entry.now there in
    may_append_now s c.args.serial c.args.ranges.now u c.in-Some.entry.now there c.in_ok-block.block c.allocate.new.self (grown_by u.words u.names s c.args.serial u.whole filling c.none.result c.allocate.new.hand c.none.ensures c.in_ok-block.block c.allocate.new.self (c.in_ok-block.ensures {u = tt}).ok)

pub returns-in_default-clause-err : goal.returns-in_default-clause-err
returns-in_default-clause-err c =
    let u = c.requires in
    let s = c.args.self.now in
    let t = fill_task u.seat c.args.serial c.args.ranges.now.blocks s.chains s.tasks.items u.fills.listed in (
      (
        entry_gone (at_rest hash) u.names u.words s u.seat c.args.serial c.args.ranges.now.blocks u.whole t (sym (c.in_default.ensures {u = tt}).entry),
        c.overtaken-by.ensures,
        refl,
      ),
      refl,
    )

pub returns-in_err-block-clause-err : goal.returns-in_err-block-clause-err
returns-in_err-block-clause-err c =
    let u = c.requires in
    let s = c.args.self.now in
    let filling = is_filling s c.args.serial c.args.ranges.now u c.in-Some.entry.now (sym (c.in-Some.ensures {u = tt}).entry) in
    let p = short_of u.words u.names s c.args.serial u.whole filling c.none.result c.allocate.new.hand c.none.ensures c.allocate.new.self c.in_err-block.field-0.0 (c.in_err-block.ensures {u = tt}).err in
    err_short c.from_residual.result c.in_err-block.field-0.0 _ c.from_residual.ensures.1 ((filling, p.0.count, p.0.prunes, p.1), refl)

pub returns-in_err-block-clause-stays : goal.returns-in_err-block-clause-stays
returns-in_err-block-clause-stays c = λ u.
    let s = c.args.self.now in
    let filling = is_filling s c.args.serial c.args.ranges.now u c.in-Some.entry.now (sym (c.in-Some.ensures {u = tt}).entry) in
    let p = short_of u.words u.names s c.args.serial u.whole filling c.none.result c.allocate.new.hand c.none.ensures c.allocate.new.self c.in_err-block.field-0.0 (c.in_err-block.ensures {u = tt}).err in
    stays_short s c.allocate.new.self c.args.serial c.args.ranges.now u _ p.0

pub returns-clause-ok : goal.returns-clause-ok
returns-clause-ok c =
    let u = c.requires in
    let s = c.args.self.now in
    let n = c.args.serial in
    let r = c.args.ranges.now in
    let there = sym (c.in-Some.ensures {u = tt}).entry in
    let e = c.in-Some.entry.now in
    let b = c.in_ok-block.block in
    let now = c.allocate.new.self in
    let a = grown_by u.words u.names s n u.whole (is_filling s n r u e there) c.none.result c.allocate.new.hand c.none.ensures b now (c.in_ok-block.ensures {u = tt}).ok in
    let may = may_append_now s n r u e there b now a in (
      grows_so s n r u e there b now a c.append.new.self c.append.ensures.server,
      c.append.ensures.ranges may ∙ ranges_are s n r u e there b now a may,
    )

pub returns-clause-stays : goal.returns-clause-stays
returns-clause-stays c = λ u.
    let s = c.args.self.now in
    let n = c.args.serial in
    let r = c.args.ranges.now in
    let there = sym (c.in-Some.ensures {u = tt}).entry in
    let e = c.in-Some.entry.now in
    let b = c.in_ok-block.block in
    let now = c.allocate.new.self in
    let a = grown_by u.words u.names s n u.whole (is_filling s n r u e there) c.none.result c.allocate.new.hand c.none.ensures b now (c.in_ok-block.ensures {u = tt}).ok in
    let may = may_append_now s n r u e there b now a in
    stays_so s n r u e there b now a c.append.new.self c.append.ensures.server c.append.new.ranges (ap (λ (q : Ranged). q.blocks) (c.append.ensures.ranges may ∙ ranges_are s n r u e there b now a may))
