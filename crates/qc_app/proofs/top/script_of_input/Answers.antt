use Rattle.std.proofs.Common.{◌∙◌, ap, sym}
use Rattle.qc_model.specs.ScriptLines.{script_of}
use Rattle.qc_app.specs.Ends.{seen}
use Rattle.qc_app.proofs.Endings.{input_refused}
use Rattle.qc_app.proofs.Tops.{given, given_refusal, input_spells, not_taken, refusal_is}
use Rattle.qc_app.proofs.top.script_of_input.Goals as goal

pub returns-in-Ok-read_script-clause-script : goal.returns-in-Ok-read_script-clause-script
returns-in-Ok-read_script-clause-script g c =
    let left = g.S.Source.left in
    let script = c.in-Ok-read_script.script in
    let means = given c.read_script.result script (script_of c.deref.result.now) c.in-Ok-read_script.is c.read_script.ensures.script in
    (record { few = c.in-Ok-read_script.ensures.few }, input_spells (left c.args.input.now) (left c.read_input.new.input) c.in-Ok.bytes.items script c.in-Ok.ensures.bytes (ap script_of (sym c.deref.ensures.value) ∙ means))

pub returns-in-Err-Other-clause-ends : goal.returns-in-Err-Other-clause-ends
returns-in-Err-Other-clause-ends g c = λ options out out-now.
    let left = g.S.Source.left in
    let faults = g.S.Source.faults in
    let before = left c.args.input.now in
    let now = left c.read_input.new.input in
    let bytes = c.in-Ok.bytes.items in
    let read = c.in-Ok.ensures.bytes in
    let refusal = c.in-Err-Other.refusal in
    let means = given_refusal c.read_script.result c.in-Err-Other.field-0 refusal (script_of c.deref.result.now) c.in-Err-Other.is c.in-Err-Other.field-0-is c.read_script.ensures.script in
    let refuses = ap script_of (sym c.deref.ensures.value) ∙ means in
    input_refused options (seen before (faults c.args.input.now)) (seen now (faults c.read_input.new.input)) out out-now refusal (refusal_is before now bytes refusal read refuses)
    (λ told. not_taken before now bytes refusal read refuses told)
