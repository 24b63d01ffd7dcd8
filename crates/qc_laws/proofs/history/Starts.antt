-- The serial of a start is one more than the starts before it, so each entry has one.
use Rattle.std.proofs.Common.{◌≡◌, ℕ, ◌+◌, [], ◌∷◌, refl, sym, subst, ◌∙◌, arith}
use Rattle.qc_types.specs.declared.options.Options.{Options}
use Rattle.qc_model.specs.declared.events.Event.TheVariants as event
use Rattle.qc_model.specs.declared.events.How.TheVariants as how
use Rattle.qc_model.specs.Journal.{Journal}
use Rattle.qc_model.specs.Cache.{is_run, is_start}
use Rattle.qc_model.specs.Choice.{start_count}
use Rattle.qc_model.specs.Licence.{IsLawful, IsLawfulAfter}
use Rattle.qc_laws.specs.history.Runs.{IsStarted, StartsOnce}
use Rattle.qc_laws.proofs.history.Events.{lawful_back, same_place}

-- the number that a start has
pub start_number : (o : Options) (j : Journal) (n : ℕ) (s : IsStarted j n) → IsLawful o j → n ≡ start_count s.earlier + 1
start_number o j n s h =
    let back : IsLawfulAfter o s.earlier (event.Run s.who (how.Start n s.key s.tables) ∷ s.later) = lawful_back o [] s.earlier _ (subst (IsLawful o) s.split h) in
    back.0.1.next

pub starts_once : StartsOnce
starts_once o j n s t h =
    let a = start_number o j n s h in
    let b = start_number o j n t h in
    let counts : start_count s.earlier ≡ start_count t.earlier = omega (arith, a, b) in
    let r = same_place (is_run is_start) s.earlier t.earlier s.later t.later (event.Run s.who (how.Start n s.key s.tables)) (event.Run t.who (how.Start n t.key t.tables)) (sym s.split ∙ t.split) refl refl counts in
    let e = r.1 in
    (r.0, (cc), (cc), (cc))
