use Rattle.std.proofs.Common.{arith, rules}
use Rattle.std.specs.Prelude.{reverse}
use Rattle.qc_turn.specs.Seats.{view}
use Rattle.qc_app.proofs.Running.{few_open, have_served, may_be_met, may_serve, met_whole}
use Rattle.qc_app.proofs.script_run.run_over.Goals as goal

pub serve_all-slots-requires : goal.serve_all-slots-requires
serve_all-slots-requires g c = (search rules, (search rules, may_serve c.args.turn.now c.args.options.now (view c.args.first.now).seen c.args.inputs.items c.open_sessions-opened.new.slots.items c.open_sessions-opened.ensures.open))

pub join_sessions-served-requires-clause-met : goal.join_sessions-served-requires-clause-met
join_sessions-served-requires-clause-met g c = may_be_met c.args.turn.now c.args.options.now (view c.args.first.now).seen c.args.inputs.items c.open_sessions-opened.new.slots.items c.serve_all-slots.result.items c.open_sessions-opened.ensures.open c.serve_all-slots.ensures

pub join_sessions-served-requires-clause-room : goal.join_sessions-served-requires-clause-room
join_sessions-served-requires-clause-room g c =
    let few = few_open c.args.turn.now c.args.options.now (view c.args.first.now).seen c.args.inputs.items c.open_sessions-opened.new.slots.items c.serve_all-slots.result.items c.open_sessions-opened.ensures.open c.serve_all-slots.ensures in
    (c.requires.room.2, omega (arith, few, c.requires.room.3))

pub returns-in_err-opened-clause-first : goal.returns-in_err-opened-clause-first
returns-in_err-opened-clause-first g c =
    let met = c.join_sessions-served.ensures.met in
    (met.first, met_whole c.args.turn.now c.open_sessions-opened.new.first c.join_sessions-served.new.first c.open_sessions-opened.new.slots.items c.serve_all-slots.result.items c.serve_all-slots.ensures c.open_sessions-opened.ensures.met.1 met)

pub returns-in_err-opened-clause-room : goal.returns-in_err-opened-clause-room
returns-in_err-opened-clause-room g c =
    let few = few_open c.args.turn.now c.args.options.now (view c.args.first.now).seen c.args.inputs.items c.open_sessions-opened.new.slots.items c.serve_all-slots.result.items c.open_sessions-opened.ensures.open c.serve_all-slots.ensures in
    let room = c.join_sessions-served.ensures.room in
    (omega (arith, few, room.0), room.1)

pub returns-then-served-clause-first : goal.returns-then-served-clause-first
returns-then-served-clause-first g c =
    let met = c.join_sessions-served.ensures.met in
    (met.first, met_whole c.args.turn.now c.open_sessions-opened.new.first c.join_sessions-served.new.first c.open_sessions-opened.new.slots.items c.serve_all-slots.result.items c.serve_all-slots.ensures c.open_sessions-opened.ensures.met.1 met)

pub returns-then-served-clause-room : goal.returns-then-served-clause-room
returns-then-served-clause-room g c =
    let few = few_open c.args.turn.now c.args.options.now (view c.args.first.now).seen c.args.inputs.items c.open_sessions-opened.new.slots.items c.serve_all-slots.result.items c.open_sessions-opened.ensures.open c.serve_all-slots.ensures in
    let room = c.join_sessions-served.ensures.room in
    (omega (arith, few, room.0), room.1)

pub returns-else-served-clause-first : goal.returns-else-served-clause-first
returns-else-served-clause-first g c =
    let met = c.join_sessions-served.ensures.met in
    (met.first, met_whole c.args.turn.now c.open_sessions-opened.new.first c.join_sessions-served.new.first c.open_sessions-opened.new.slots.items c.serve_all-slots.result.items c.serve_all-slots.ensures c.open_sessions-opened.ensures.met.1 met)

pub returns-else-served-clause-room : goal.returns-else-served-clause-room
returns-else-served-clause-room g c =
    let few = few_open c.args.turn.now c.args.options.now (view c.args.first.now).seen c.args.inputs.items c.open_sessions-opened.new.slots.items c.serve_all-slots.result.items c.open_sessions-opened.ensures.open c.serve_all-slots.ensures in
    let room = c.join_sessions-served.ensures.room in
    (omega (arith, few, room.0), room.1)

pub returns-then-served-clause-ran : goal.returns-then-served-clause-ran
returns-then-served-clause-ran g c =
    let all = c.in_ok-opened.ensures.all in
    have_served c.args.turn.now c.args.options.now c.args.inputs.items (reverse c.join_sessions-served.new.outcomes.items) c.args.first.now c.open_sessions-opened.new.first c.join_sessions-served.new.first c.open_sessions-opened.new.slots.items c.serve_all-slots.result.items
    c.open_sessions-opened.ensures.open all.0 all.2 all.1 c.serve_all-slots.ensures c.join_sessions-served.ensures.met (c.join_sessions-served.ensures.outcomes c.if-served.true)
