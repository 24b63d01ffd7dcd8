use Rattle.std.proofs.Common.{◌≡◌, sym, subst, ◌∙◌, Option, Some, refl}
use Rattle.std.specs.Option.{IsSome}
use Rattle.qc_dir.specs.declared.entries.Entry.{Entry}
use Rattle.qc_dir.specs.Directory.{entry_at}
use Rattle.qc_turn.specs.Seats.{words}
use Rattle.qc_core.specs.declared.server_state.ServerState.{ServerState}
use Rattle.qc_core.proofs.Seeking.{found_of}
use Rattle.qc_core.proofs.Rivaling.{rival_none, rival_no, rival_yes}
use Rattle.qc_core.proofs.rival_fill.rival.Goals as goal

pub returns-in_default-clause-found : goal.returns-in_default-clause-found
returns-in_default-clause-found c = rival_none c.args.held.now.value c.args.key.now (sym c.in_default.is ∙ c.find_entry.ensures.found)

pub is_complete-requires : goal.is_complete-requires
is_complete-requires c =
    let h = c.args.held.now in
    let same : c.value.result.now ≡ h.value = c.value.ensures.value ∙ c.find_entry.ensures.same.value in
    let f = found_of (words h) h.value c.args.key.now c.in-Some.serial c.requires.stands.sound (sym c.in-Some.is ∙ c.find_entry.ensures.found) in
    subst (λ (s : ServerState). IsSome (entry_at c.in-Some.serial s.dir.entries)) (sym same) (subst (λ (o : Option Entry). IsSome o) (sym f.there) refl)

pub returns-then-is_complete-clause-found : goal.returns-then-is_complete-clause-found
returns-then-is_complete-clause-found c =
    let h = c.args.held.now in
    let same : c.value.result.now ≡ h.value = c.value.ensures.value ∙ c.find_entry.ensures.same.value in
    let f = found_of (words h) h.value c.args.key.now c.in-Some.serial c.requires.stands.sound (sym c.in-Some.is ∙ c.find_entry.ensures.found) in
    rival_no (words h) h.value c.args.key.now c.in-Some.serial c.requires.stands.sound f (sym (c.is_complete.ensures f.entry (subst (λ (s : ServerState). entry_at c.in-Some.serial s.dir.entries ≡ Some f.entry) (sym same) f.there)) ∙ c.if-is_complete.true)

pub returns-clause-found : goal.returns-clause-found
returns-clause-found c =
    let h = c.args.held.now in
    let same : c.value.result.now ≡ h.value = c.value.ensures.value ∙ c.find_entry.ensures.same.value in
    let f = found_of (words h) h.value c.args.key.now c.in-Some.serial c.requires.stands.sound (sym c.in-Some.is ∙ c.find_entry.ensures.found) in
    rival_yes h.value c.args.key.now c.in-Some.serial f (sym (c.is_complete.ensures f.entry (subst (λ (s : ServerState). entry_at c.in-Some.serial s.dir.entries ≡ Some f.entry) (sym same) f.there)) ∙ c.if-is_complete.false)
