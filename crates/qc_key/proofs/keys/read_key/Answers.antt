use Rattle.std.proofs.Common.{ℕ, ◌∷◌, sym, ap, ◌∙◌}
use Rattle.qc_key.proofs.ReadKeys.{key_bytes_again}
use Rattle.qc_key.proofs.keys.read_key.Goals as goal

pub returns-clause-found : goal.returns-clause-found
returns-clause-found c =
    let name = c.in_ok-db.ensures.cases in
    let cut = c.in_ok-flags.ensures.cases in
    let read = c.in_ok-flags-2.ensures.found in
    let again =
    key_bytes_again _ c.from.result c.in_ok-length.rest.now _ c.in_ok-db.rest.now c.in_ok-flags.flags.now _ name.3 (record { prefix_is = name.1; rest_is = name.2 })
    (record { prefix_is = cut.1; rest_is = cut.2 }) read.0 in
    record {
      can_be = sym c.can_be_keyed.ensures ∙ c.if-not-can_be_keyed.false;
      limit = read.1;
      bytes = c.in_ok-length.ensures.cases.0 ∙ ap (λ (size : ℕ). size ∷ c.in_ok-length.rest.now) (sym c.from.ensures) ∙ sym again;
    }
