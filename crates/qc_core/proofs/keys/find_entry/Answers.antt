use Rattle.std.proofs.Common.{◌≡◌, ◌≤◌, ℕ, length, sym, ap, subst, ◌∙◌, arith}
use Rattle.std.specs.Option.{IsSomeAnd}
use Rattle.qc_dir.specs.Directory.{entry_at}
use Rattle.qc_key.specs.Hash.{hash}
use Rattle.qc_turn.specs.Seats.{words, with_value}
use Rattle.qc_journal.specs.Room.{Recorded}
use Rattle.qc_core.specs.declared.server_state.ServerState.{ServerState}
use Rattle.qc_core.specs.Calls.{HasKey, LacksKey}
use Rattle.qc_core.proofs.Standing.{lent_same}
use Rattle.qc_core.proofs.Spelling.{still_same}
use Rattle.qc_core.proofs.Seeking.{sought_more, sought_found, sought_none, candidate_small}
use Rattle.qc_core.proofs.keys.find_entry.Goals as goal

pub returns-then-has_key-clause-found : goal.returns-then-has_key-clause-found
returns-then-has_key-clause-found c =
    let h = c.args.held.now in
    let same : c.value-in-loop-serial.result.now ≡ h.value = c.value-in-loop-serial.ensures.value ∙ c.loop-serial.invariant.0.value in
    let y = subst (HasKey c.in-Some.serial c.args.key.now) same (c.has_key.ensures.yes c.if-has_key.true) in
    sought_found (words h) h.value c.args.key.now c.in-Some.serial y.0 c.requires.stands.sound y.1 y.2

pub overflow_add-from : goal.overflow_add-from
overflow_add-from c =
    let h = c.args.held.now in
    let same : c.value-in-loop-serial.result.now ≡ h.value = c.value-in-loop-serial.ensures.value ∙ c.loop-serial.invariant.0.value in
    let there = subst (λ (s : ServerState). IsSomeAnd (entry_at c.in-Some.serial s.dir.entries) (λ e. e.hash ≡ c.hash-hash.result)) same (c.in-Some.ensures {u = tt}).some.1 in
    let small = candidate_small (words h) h.value c.in-Some.serial c.hash-hash.result c.requires.stands.sound there in
    omega (arith, small, c.len.ensures.within, ap (λ (j : Recorded). length j.events) c.journal.ensures, ap (λ (s : ServerState). length s.journal.events) c.value.ensures.value)

pub loop-serial-preserved : goal.loop-serial-preserved
loop-serial-preserved c =
    let h = c.args.held.now in
    let k = c.loop-serial.held in
    let v = c.value-in-loop-serial.result.now in
    let inv = c.loop-serial.invariant in
    let same : v ≡ h.value = c.value-in-loop-serial.ensures.value ∙ inv.0.value in
    let mine = lent_same k v inv.0.held c.value-in-loop-serial.ensures.value in
    let least : (j : ℕ) → c.loop-serial.from ≤ j → IsSomeAnd (entry_at j h.value.dir.entries) (λ e. e.hash ≡ hash c.args.key.now) → c.in-Some.serial ≤ j =
    λ j low there. (c.in-Some.ensures {u = tt}).least j low (subst (λ (p : ServerState × ℕ). IsSomeAnd (entry_at j p.0.dir.entries) (λ e. e.hash ≡ p.1)) (λ i. (sym same i, sym c.hash-hash.ensures i)) there) in (
      still_same h (with_value k v) c.has_key.new.held (still_same h k (with_value k v) inv.0 mine) c.has_key.ensures.same,
      sought_more (words h) h.value c.args.key.now c.loop-serial.from c.in-Some.serial c.requires.stands.sound inv.1 least (subst (LacksKey c.in-Some.serial c.args.key.now) same (c.has_key.ensures.no c.if-has_key.false)),
    )

pub returns-clause-found : goal.returns-clause-found
returns-clause-found c =
    let h = c.args.held.now in
    let same : c.value-in-loop-serial.result.now ≡ h.value = c.value-in-loop-serial.ensures.value ∙ c.loop-serial.invariant.0.value in
    sought_none (words h) h.value c.args.key.now c.loop-serial.from c.requires.stands.sound c.loop-serial.invariant.1
    (λ j low there. (c.in_default.ensures {u = tt}).least j low (subst (λ (p : ServerState × ℕ). IsSomeAnd (entry_at j p.0.dir.entries) (λ e. e.hash ≡ p.1)) (λ i. (sym same i, sym c.hash-hash.ensures i)) there))
