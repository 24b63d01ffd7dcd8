use Rattle.std.proofs.Common.{◌≡◌, sym, subst, arith, Some}
use Rattle.std.specs.List.{AllByRecursion}
use Rattle.std.specs.Option.{IsSome}
use Rattle.qc_dir.specs.Slots.{Tabled, Numbered, IsInOrder, is_of, held_from, numbered_at}
use Rattle.qc_dir.proofs.SlotSteps.{slot_of, get-within, held-rising}
use Rattle.qc_dir.proofs.SlotCalls.{AreLeft, all_left, next_there, left_without, found_number, not_found}
use Rattle.qc_dir.proofs.table_slots.TableSlots.find.Goals as goal

pub loop-minor-init : goal.loop-minor-init
loop-minor-init c =
    subst (λ (d : Tabled). AreLeft c.args.table.now c.under-numbers.result d.held) c.self.view_is
    (all_left c.args.table.now c.table_hash.result c.self.inside.names (held_from 0 c.self.inside.slots.items) c.under-numbers.result c.table_hash.ensures c.self.invariant.by_name c.under-numbers.ensures)

pub is_at-requires : goal.is_at-requires
is_at-requires c = next_there c.args.table.now c.in-Some.minor c.next.new.self c.args.self.now.held (rw (c.in-Some.ensures {u = tt}) at c.loop-minor.invariant)

pub overflow_cast-number : goal.overflow_cast-number
overflow_cast-number c =
    let there = next_there c.args.table.now c.in-Some.minor c.next.new.self c.args.self.now.held (rw (c.in-Some.ensures {u = tt}) at c.loop-minor.invariant) in
    let slot = slot_of c.in-Some.minor c.self.inside.slots.items (subst (λ (d : Tabled). IsSome (numbered_at c.in-Some.minor d.held)) (sym c.self.view_is) there) in
    omega (arith, get-within c.self.inside.slots.items c.in-Some.minor (Some slot.0) slot.1, c.self.invariant.few)

pub loop-minor-preserved : goal.loop-minor-preserved
loop-minor-preserved c =
    left_without c.args.table.now c.in-Some.minor c.next.new.self c.args.self.now.held (rw (c.in-Some.ensures {u = tt}) at c.loop-minor.invariant)
    (subst (λ b. AllByRecursion (λ (h : Numbered). h.number ≡ c.in-Some.minor → b ≡ is_of c.args.table.now h) c.args.self.now.held) c.if-is_at.false c.is_at.ensures)

pub returns-then-is_at-clause-number : goal.returns-then-is_at-clause-number
returns-then-is_at-clause-number c =
    found_number c.args.table.now c.in-Some.minor c.args.self.now.held c.requires (next_there c.args.table.now c.in-Some.minor c.next.new.self c.args.self.now.held (rw (c.in-Some.ensures {u = tt}) at c.loop-minor.invariant))
    (subst (λ b. AllByRecursion (λ (h : Numbered). h.number ≡ c.in-Some.minor → b ≡ is_of c.args.table.now h) c.args.self.now.held) c.if-is_at.true c.is_at.ensures)

pub returns-clause-number : goal.returns-clause-number
returns-clause-number c = not_found c.args.table.now c.args.self.now.held (rw (c.in_default.ensures {u = tt}).0 at c.loop-minor.invariant)

pub returns-then-is_at-clause-rising : goal.returns-then-is_at-clause-rising
returns-then-is_at-clause-rising c = subst (λ (d : Tabled). IsInOrder d.held) c.self.view_is (held-rising 0 c.self.inside.slots.items)

pub returns-clause-rising : goal.returns-clause-rising
returns-clause-rising c = subst (λ (d : Tabled). IsInOrder d.held) c.self.view_is (held-rising 0 c.self.inside.slots.items)
