use Rattle.qc_dir.proofs.KeyCounts.{none-under, some-under}
use Rattle.qc_dir.proofs.keys.KeySet.any_under.Goals as goal
use Rattle.std.proofs.Common.{ℕ, List, ◌≡◌, [], ◌∷◌, Option, Some, None}
use Rattle.std.specs.Option.{MatchOption}
use Rattle.qc_chain.specs.Counts.{count}
use Rattle.qc_dir.specs.Keys.{Keys, times, IsAnyUnder}

any : (major : ℕ) (keys : Keys) (minors rest : List ℕ) (o : Option ℕ) → ((n : ℕ) → count n minors ≡ times (record { major = major; minor = n }) keys.keys) → MatchOption o ((minors ≡ []) × (rest ≡ [])) (λ n. minors ≡ n ∷ rest) → IsAnyUnder major keys.keys o
any major keys minors rest None stands h = none-under major keys.keys minors stands h.0
any major keys minors rest (Some n) stands h = some-under major n keys.keys minors rest stands h

pub returns : goal.returns
returns c = any c.args.major c.args.self.now c.under-minors.result c.next.new.self c.next.result c.under-minors.ensures c.next.ensures
