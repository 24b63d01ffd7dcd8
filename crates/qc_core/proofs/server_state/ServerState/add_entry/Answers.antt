use Rattle.std.proofs.Common.{◌≡◌, ℕ, ◌+◌, ◌-◌, ◌*◌, ◌<◌, ◌≤◌, true, false, [], ◌∷◌, ◌++◌, length, sym, ap, subst, ◌∙◌, arith, refl}
use Rattle.std.specs.Prelude.{None}
use Rattle.qc_chain.specs.Words.{words_of}
use Rattle.qc_chain.specs.Chains.{empty_chain, after_append}
use Rattle.qc_tiles.specs.Tiles.{after_pin}
use Rattle.qc_dir.specs.declared.entries.Entry.{Entry}
use Rattle.qc_dir.specs.Directory.{Directory, entry_at, AreFresh, AddsEntry}
use Rattle.qc_core.specs.declared.server_state.ServerState.{ServerState}
use Rattle.qc_core.specs.EntryStart.{fill_of}
use Rattle.qc_core.proofs.Adding.{may_append_first}
use Rattle.qc_core.proofs.server_state.ServerState.add_entry.Goals as goal

pub append-requires : goal.append-requires
append-requires c = may_append_first c.args.self.now c.begin-chain.new.self c.begin-chain.result.number c.args.taken c.args.serial c.args.ranges.now.room c.args.hand c.requires.may c.begin-chain.ensures.free c.begin-chain.ensures.begun

pub insert-requires-clause-serial : goal.insert-requires-clause-serial
insert-requires-clause-serial c =
    let u = may_append_first c.args.self.now c.begin-chain.new.self c.begin-chain.result.number c.args.taken c.args.serial c.args.ranges.now.room c.args.hand c.requires.may c.begin-chain.ensures.free c.begin-chain.ensures.begun in
    subst (λ (x : ServerState). entry_at c.args.serial x.dir.entries ≡ None) (sym (c.append.ensures.server u)) c.requires.may.absent

pub insert-requires-clause-room : goal.insert-requires-clause-room
insert-requires-clause-room c =
    let u = may_append_first c.args.self.now c.begin-chain.new.self c.begin-chain.result.number c.args.taken c.args.serial c.args.ranges.now.room c.args.hand c.requires.may c.begin-chain.ensures.free c.begin-chain.ensures.begun in
    subst (λ (x : ServerState). 0 < x.dir.room) (sym (c.append.ensures.server u)) c.requires.may.room

pub insert-requires-clause-table_room : goal.insert-requires-clause-table_room
insert-requires-clause-table_room c =
    let u = may_append_first c.args.self.now c.begin-chain.new.self c.begin-chain.result.number c.args.taken c.args.serial c.args.ranges.now.room c.args.hand c.requires.may c.begin-chain.ensures.free c.begin-chain.ensures.begun in
    subst (λ (x : ServerState). length c.args.hand.fresh ≤ x.dir.table_room) (sym (c.append.ensures.server u)) c.requires.may.table_room

pub insert-requires-clause-fresh : goal.insert-requires-clause-fresh
insert-requires-clause-fresh c =
    let u = may_append_first c.args.self.now c.begin-chain.new.self c.begin-chain.result.number c.args.taken c.args.serial c.args.ranges.now.room c.args.hand c.requires.may c.begin-chain.ensures.free c.begin-chain.ensures.begun in
    let e : Entry = record { serial = c.args.serial; hash = c.hash.result; text = c.args.taken.text; text_bytes = length c.args.key.now; tables = c.args.hand.tables; chain = c.begin-chain.result; complete = false; users = 0 } in
    subst (λ (x : ServerState). AreFresh e x.dir.tables c.args.hand.fresh) (sym (c.append.ensures.server u)) (c.requires.may.fresh e refl)

pub push-requires : goal.push-requires
push-requires c =
    let u = may_append_first c.args.self.now c.begin-chain.new.self c.begin-chain.result.number c.args.taken c.args.serial c.args.ranges.now.room c.args.hand c.requires.may c.begin-chain.ensures.free c.begin-chain.ensures.begun in
    subst (λ (x : ServerState). 0 < x.tasks.room) (sym (c.append.ensures.server u)) c.requires.may.task_room

pub returns-clause-added : goal.returns-clause-added
returns-clause-added c =
    let s = c.args.self.now in
    let n = c.begin-chain.result.number in
    let t = c.args.taken in
    let u = may_append_first s c.begin-chain.new.self n t c.args.serial c.args.ranges.now.room c.args.hand c.requires.may c.begin-chain.ensures.free c.begin-chain.ensures.begun in
    let app = c.append.ensures.server u in
    let fill = fill_of c.args.seat c.args.serial n in
    let items = c.push.ensures.items ∙ ap (λ (x : ServerState). x.tasks.items ++ fill ∷ []) app in
    let room : c.push.new.self.room ≡ s.tasks.room - 1 = omega (arith, c.push.ensures.room, ap (λ (x : ServerState). x.tasks.room) app) in
    record {
      name = n;
      free = c.begin-chain.ensures.free;
      dir = subst (λ (q : ℕ × Directory). AddsEntry (record { serial = c.args.serial; hash = q.0; text = t.text; text_bytes = length c.args.key.now; tables = c.args.hand.tables; chain = c.begin-chain.result; complete = false; users = 0 }) c.args.hand.fresh q.1 c.insert.new.self)
          (λ i. (c.hash.ensures i, ap (λ (x : ServerState). x.dir) app i)) c.insert.ensures.added;
      valid = c.insert.ensures.valid;
      server = (λ i. record (app i) { dir = c.insert.new.self; tasks = record { items = items i; room = room i } })
          ∙ (λ i. record s {
            dir = c.insert.new.self;
            chains = after_append n t.first empty_chain (c.begin-chain.ensures.begun i);
            tiles = after_pin true t.first.first s.tiles;
            tasks = record { items = s.tasks.items ++ fill ∷ []; room = s.tasks.room - 1 };
          });
    }

pub returns-clause-ranges : goal.returns-clause-ranges
returns-clause-ranges c =
    let t = c.args.taken in
    let u = may_append_first c.args.self.now c.begin-chain.new.self c.begin-chain.result.number t c.args.serial c.args.ranges.now.room c.args.hand c.requires.may c.begin-chain.ensures.free c.begin-chain.ensures.begun in
    let all : words_of (t.first ∷ []) ≡ t.first.words = omega arith in
    c.append.ensures.ranges u ∙ (λ i. record { blocks = t.first ∷ []; bytes = 8 * all i; room = c.args.ranges.now.room })
