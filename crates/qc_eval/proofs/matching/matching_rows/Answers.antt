use Rattle.std.proofs.Common.{sym, ap, ◌∙◌, map, Ok, length, ℕ, List, subst, ◌<◌}
use Rattle.std.specs.List.{AllByRecursion}
use Rattle.std.specs.List.Sorted.{IsStrictlyIncreasing}
use Rattle.qc_resolve.specs.Meaning.{keeps}
use Rattle.qc_eval.specs.Entries.{entry_at}
use Rattle.qc_eval.proofs.KeptRows.{kept_entries, kept_within, kept_rising}
use Rattle.qc_eval.proofs.matching.matching_rows.Goals as goal

pub returns-clause-gives : goal.returns-clause-gives
returns-clause-gives g c =
    let t = c.args.version.now in
    c.in_ok-test.ensures ∙ ap Ok (sym (ap (map (entry_at t.rows)) c.in_ok-tested_rows.ensures ∙ kept_entries (keeps c.in_ok-test.test) t))

pub returns-clause-within : goal.returns-clause-within
returns-clause-within g c =
    subst (λ (is : List ℕ). AllByRecursion (λ i. i < length c.args.version.now.rows) is) (sym c.in_ok-tested_rows.ensures) (kept_within (keeps c.in_ok-test.test) c.args.version.now.rows)

pub returns-clause-rising : goal.returns-clause-rising
returns-clause-rising g c = subst (λ (is : List ℕ). IsStrictlyIncreasing is) (sym c.in_ok-tested_rows.ensures) (kept_rising (keeps c.in_ok-test.test) c.args.version.now.rows)
