use Rattle.std.proofs.Common.{arith, ap, sym, ◌∙◌, Some, refl}
use Rattle.qc_key.proofs.FlagBytes.{flag_bytes_again, flag_bytes_same}
use Rattle.qc_key.proofs.keys.read_flags.Goals as goal

pub returns-clause-found : goal.returns-clause-found
returns-clause-found c = (
  flag_bytes_again _ c.args.bytes.now c.requires (λ i. omega (arith, c.type_inv.bytes i)) (record {
    in_trans = c.in_ok-read_switch.ensures.found;
    autocommit = c.in_ok-read_switch-2.ensures.found;
    charset = c.read_u16.ensures;
    ansi = c.in_ok-read_switch-3.ensures.found;
    row_limit = c.read_u64.ensures;
    protocol_form = refl;
    row_form = refl;
  }),
  c.read_u64.type_inv,
)

pub returns-clause-only : goal.returns-clause-only
returns-clause-only c flags set limit e =
    ap Some (flag_bytes_same _ flags c.read_u16.type_inv set c.read_u64.type_inv limit ((returns-clause-found c).0 ∙ sym e))
