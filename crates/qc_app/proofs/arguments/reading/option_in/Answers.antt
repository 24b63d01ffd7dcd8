use Rattle.std.proofs.Common.{refl}
use Rattle.clap.specs.Words.{found_of}
use Rattle.qc_app.proofs.Options.{option_read}
use Rattle.qc_app.proofs.arguments.reading.option_in.Goals as goal

pub returns-in-Some : goal.returns-in-Some
returns-in-Some c =
    option_read (found_of c.args.matches.now) c.args.name.now c.args.default c.args.low c.args.high _ _ c.in-Some.ensures c.number_in.ensures

pub returns-in-None : goal.returns-in-None
returns-in-None c =
    option_read (found_of c.args.matches.now) c.args.name.now c.args.default c.args.low c.args.high _ _ c.in-None.ensures refl
