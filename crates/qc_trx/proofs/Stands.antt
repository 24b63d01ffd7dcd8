-- A snapshot of a journal is one of each longer journal.
use Rattle.std.proofs.Common.{◌≡◌, ℕ, ◌+◌, ◌≤◌, List, [], ◌∷◌, ◌++◌, refl, sym, ap, subst, ◌∙◌, Option, arith, take, length, length-append}
use Rattle.std.specs.Prelude.{Some, None, ◌-◌}
use Rattle.std.proofs.lemmas.List.{take-append-le}
use Rattle.qc_sql.specs.Database.{Database, apply}
use Rattle.qc_model.specs.declared.events.Event.{Event}
use Rattle.qc_model.specs.Journal.{Journal, operations, present, before}
use Rattle.qc_trx.specs.Endings.{IsOriginIn, StandsIn}
use Rattle.qc_trx.specs.SnapshotStates.{SnapshotState}
use Rattle.qc_trx.proofs.Aboves.{present_after}
use Rattle.qc_trx.proofs.Walks.{take_whole}

prefix_stays : (journal : Journal) (e : Event) (n : ℕ) → n ≤ length journal → take n (journal ++ e ∷ []) ≡ take n journal
prefix_stays journal e n h = rw take-append-le refl

-- one event more
pub origin_on : (journal : Journal) (e : Event) (place : ℕ) (origin : Option Database) → place ≤ length journal → IsOriginIn journal place origin → IsOriginIn (journal ++ e ∷ []) place origin
origin_on journal e place origin h o =
    let at : before place (journal ++ e ∷ []) ≡ before place journal = prefix_stays journal e (place - 1) (omega arith) in
    let behind : take place (journal ++ e ∷ []) ≡ take place journal = prefix_stays journal e place h in
    record {
      least = o.least;
      most = let l = length-append journal (e ∷ []) in omega arith;
      is = o.is ∙ ap (λ (j : Journal). Some (present j)) (sym at);
      quiet = ap present behind ∙ (o.quiet ∙ ap present (sym at));
    }

-- the event at which the snapshot was taken, which changed nothing
pub origin_begun : (journal : Journal) (e : Event) → operations e ≡ [] → IsOriginIn (journal ++ e ∷ []) (length journal + 1) (Some (present journal))
origin_begun journal e h =
    let less : length journal + 1 - 1 ≡ length journal = omega arith in
    let at : before (length journal + 1) (journal ++ e ∷ []) ≡ journal =
    ap (λ (n : ℕ). take n (journal ++ e ∷ [])) less ∙ (prefix_stays journal e (length journal) (omega arith) ∙ take_whole (length journal) journal (omega arith)) in
    let whole : take (length journal + 1) (journal ++ e ∷ []) ≡ journal ++ e ∷ [] = take_whole (length journal + 1) (journal ++ e ∷ []) (let l = length-append journal (e ∷ []) in omega arith) in
    let nothing : apply (operations e) (present journal) ≡ present journal = ap (λ ops. apply ops (present journal)) h in
    record {
      least = omega arith;
      most = let l = length-append journal (e ∷ []) in omega arith;
      is = ap (λ (j : Journal). Some (present j)) (sym at);
      quiet = ap present whole ∙ (present_after journal e ∙ (nothing ∙ ap present (sym at)));
    }
