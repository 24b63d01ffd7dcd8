use Rattle.std.proofs.Common.{◌∙◌}
use Rattle.qc_flow.proofs.Pieces.{words_packed}
use Rattle.qc_flow.proofs.packs.pack.Goals as goal

pub returns-clause-words : goal.returns-clause-words
returns-clause-words c = (words_packed c.args.front c.args.last c.args.bytes.now c.write_u64.new.buf c.copy_from_slice.new.self c.read_u64_into.new.dst c.requires.few (λ k. (c.type_inv.bytes k).fits) c.write_u64.ensures c.copy_from_slice.ensures.after (c.read_u64_into.auto.dst ∙ c.told-words) c.read_u64_into.ensures).words

pub returns-clause-last : goal.returns-clause-last
returns-clause-last c = (words_packed c.args.front c.args.last c.args.bytes.now c.write_u64.new.buf c.copy_from_slice.new.self c.read_u64_into.new.dst c.requires.few (λ k. (c.type_inv.bytes k).fits) c.write_u64.ensures c.copy_from_slice.ensures.after (c.read_u64_into.auto.dst ∙ c.told-words) c.read_u64_into.ensures).last
