-- What a map from names ends as, where a `&mut` to one of its values is returned.
use Rattle.std.specs.Prelude.{◌≡◌, Option, IfSome}
use Rattle.std.specs.Borrow.{LendsSo, Fml, RattleType, MutBor}
use Rattle.std.specs.BTreeMap.{is_at}
use Rattle.std.specs.Map.{set_value}
use Rattle.qc_sql.specs.Database.{MapOf, Name, name_cmp, at_name, change_at}
use Rattle.qc_table.specs.contracts.name_map.NameMap.{the_row}

-- the map has w in the place of what the name has
abbrev pub IsSetAt : {X : Type 0} → Name → MapOf Name X → X → MapOf Name X → Type 0
IsSetAt name before w after = after ≡ set_value (is_at (name_cmp name)) before w

-- the map with w in the place of what the name has: whatever made w of that, it changes the map there
abbrev pub EndsWith : {X : Type 0} → Name → MapOf Name X → X → MapOf Name X → Type 0
EndsWith {X} name before w after = (make : X → X) → IfSome (at_name name before) (λ v. w ≡ make v) → after ≡ change_at name make before

-- the map ends with the last value behind the reference at the name, and at `None` it stays as it is
abbrev pub borrows_value : (V : RattleType) → MutBor (MapOf Name V.Denot) → Name → Option (MutBor V.Denot) → Fml
borrows_value V m name r = LendsSo (the_row V) V m r (λ n w. IsSetAt name m.now w n × EndsWith name m.now w n) (λ n. n ≡ m.now)
