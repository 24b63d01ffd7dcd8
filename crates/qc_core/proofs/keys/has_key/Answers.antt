use Rattle.std.proofs.Common.{ℕ, length, sym, ap, subst, ◌∙◌}
use Rattle.std.specs.Option.{option_copied}
use Rattle.qc_dir.specs.Directory.{entry_at}
use Rattle.qc_turn.specs.Seats.{words}
use Rattle.qc_core.specs.declared.server_state.ServerState.{ServerState}
use Rattle.qc_core.specs.KeySpelling.{MayRead}
use Rattle.qc_core.proofs.Standing.{lent}
use Rattle.qc_core.proofs.Seeking.{may_read, text_yes, text_no, length_no}
use Rattle.qc_core.proofs.keys.has_key.Goals as goal

pub is_spelled-requires-clause-read : goal.is_spelled-requires-clause-read
is_spelled-requires-clause-read c =
    let h = c.args.held.now in
    let e = c.in-Some.entry.now in
    let there = ap (λ (s : ServerState). entry_at c.args.serial s.dir.entries) (sym c.value.ensures.value) ∙ (sym c.entry.ensures.entry ∙ ap option_copied c.in-Some.is) in
    lent (λ k. MayRead k e.text (length c.args.key.now)) h c.value.result.now c.value.ensures.value (subst (λ (b : ℕ). MayRead h e.text b) c.if-entry-key.false (may_read h c.args.serial e c.requires.stands there))

pub returns-then-entry-key-clause-no : goal.returns-then-entry-key-clause-no
returns-then-entry-key-clause-no c = λ _.
    let h = c.args.held.now in
    let there = ap (λ (s : ServerState). entry_at c.args.serial s.dir.entries) (sym c.value.ensures.value) ∙ (sym c.entry.ensures.entry ∙ ap option_copied c.in-Some.is) in
    length_no (words h) h.value c.args.serial c.in-Some.entry.now c.args.key.now c.requires.stands.sound there c.if-entry-key.true

pub returns-clause-yes : goal.returns-clause-yes
returns-clause-yes c = λ t.
    let h = c.args.held.now in
    let there = ap (λ (s : ServerState). entry_at c.args.serial s.dir.entries) (sym c.value.ensures.value) ∙ (sym c.entry.ensures.entry ∙ ap option_copied c.in-Some.is) in
    text_yes (words h) h.value c.args.serial c.in-Some.entry.now c.args.key.now c.requires.stands.sound there c.if-entry-key.false (sym c.is_spelled.ensures.text ∙ t)

pub returns-clause-no : goal.returns-clause-no
returns-clause-no c = λ t.
    let h = c.args.held.now in
    let there = ap (λ (s : ServerState). entry_at c.args.serial s.dir.entries) (sym c.value.ensures.value) ∙ (sym c.entry.ensures.entry ∙ ap option_copied c.in-Some.is) in
    text_no (words h) h.value c.args.serial c.in-Some.entry.now c.args.key.now c.requires.stands.sound there c.if-entry-key.false (sym c.is_spelled.ensures.text ∙ t)
