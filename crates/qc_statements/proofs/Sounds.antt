-- What stays sound when an event is added.
use Rattle.std.proofs.Common.{◌≡◌, true, List, [], ◌∷◌, ◌++◌, refl, sym, ap, ◌∙◌, subst}
use Rattle.std.specs.Prelude.{◌&&◌}
use Rattle.std.specs.List.{list_all}
use Rattle.std.proofs.lemmas.Bool.{and_parts, and_from}
use Rattle.std.proofs.lemmas.List.Folds.{list_all-append}
use Rattle.qc_types.specs.declared.options.Options.{Options}
use Rattle.qc_sql.specs.declared.tables.RowOp.{RowOp}
use Rattle.qc_sql.specs.Database.{Database, apply}
use Rattle.qc_model.specs.declared.events.Event.{Event}
use Rattle.qc_model.specs.declared.events.Event.TheVariants as event
use Rattle.qc_model.specs.declared.events.Who.{Who}
use Rattle.qc_model.specs.Journal.{Journal, operations, present}
use Rattle.qc_model.specs.Licence.{ops_fit, is_within_rows, IsLicensed}
use Rattle.qc_laws.proofs.history.Events.{lawful_push, present_push}
use Rattle.qc_laws.specs.sizes.Replies.{is_bounded_operation}
use Rattle.qc_laws.proofs.sizes.Applied.{databases_stay_bounded}
use Rattle.qc_laws.proofs.fits.Stays.{sound_stays}
use Rattle.qc_statements.specs.Sound.{IsSound, IsOrderly}
use Rattle.qc_laws.specs.sizes.Operations.{is_small_event, is_small_operation, makes_short_name}
use Rattle.qc_statements.proofs.Shorts.{stay_short}

-- ---- operations

pub small_parts : (ops : List RowOp) → list_all is_small_operation ops ≡ true → (list_all is_bounded_operation ops ≡ true) × (list_all makes_short_name ops ≡ true)
small_parts [] h = (refl, refl)
small_parts (o ∷ os) h =
    let p = and_parts (is_small_operation o) (list_all is_small_operation os) h in
    let q = and_parts (is_bounded_operation o) (makes_short_name o) p.0 in
    let r = small_parts os p.1 in
    (and_from (is_bounded_operation o) (list_all is_bounded_operation os) q.0 r.0, and_from (makes_short_name o) (list_all makes_short_name os) q.1 r.1)

pub stays_orderly : (ops : List RowOp) (d : Database) → IsOrderly d → list_all is_small_operation ops ≡ true → ops_fit ops d ≡ true → is_within_rows (apply ops d) ≡ true → IsOrderly (apply ops d)
stays_orderly ops d o small fit within =
    let parts = small_parts ops small in
    record {
      sound = sound_stays ops d o.sound fit;
      within = within;
      bounded = databases_stay_bounded ops d parts.0 o.bounded;
      short = stay_short ops d parts.1 o.short;
    }

-- ---- the journal

pub small_more : (J : Journal) (e : Event) → list_all is_small_event J ≡ true → is_small_event e ≡ true → list_all is_small_event (J ++ e ∷ []) ≡ true
small_more J e h g = list_all-append is_small_event J (e ∷ []) ∙ rw (h, g) refl

pub sound_commit : {o : Options} (J : Journal) (d : Database) (who : Who) (ops : List RowOp) → IsSound o J d → list_all is_small_operation ops ≡ true → IsLicensed o J (event.Commit who ops)
    → IsSound o (J ++ event.Commit who ops ∷ []) (apply ops d)
sound_commit {o} J d who ops s small may =
    let commit = may.1 in
    record {
      small = small_more J (event.Commit who ops) s.small small;
      lawful = lawful_push o J (event.Commit who ops) s.lawful may;
      database = ap (apply ops) s.database ∙ sym (present_push J (event.Commit who ops));
      orderly = subst (λ (x : Database). IsOrderly (apply ops x)) (sym s.database) (stays_orderly ops (present J) (subst IsOrderly s.database s.orderly) small commit.fit commit.not_full);
    }

-- an event without operations changes nothing
pub sound_event : {o : Options} (J : Journal) (d : Database) (e : Event) → IsSound o J d → operations e ≡ [] → IsLicensed o J e → IsSound o (J ++ e ∷ []) d
sound_event {o} J d e s none may = record {
  small = small_more J e s.small (ap (λ (ops : List RowOp). list_all is_small_operation ops) none);
  lawful = lawful_push o J e s.lawful may;
  database = s.database ∙ sym (present_push J e ∙ ap (λ (ops : List RowOp). apply ops (present J)) none);
  orderly = s.orderly;
}
