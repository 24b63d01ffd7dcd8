use Rattle.std.proofs.Common.{◌∙◌, ap}
use Rattle.qc_model.specs.Journal.{present}
use Rattle.qc_app.proofs.Tops.{sound_database}
use Rattle.qc_app.proofs.top.text_of.Goals as goal

pub summary_text-requires : goal.summary_text-requires
summary_text-requires c = c.database.ensures ∙ (sound_database c.args.ran.now.server c.requires.sound ∙ ap present c.requires.journal)
