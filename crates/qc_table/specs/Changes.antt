-- What changes by key make of entries by rising key.
use Rattle.std.specs.Prelude.{ℤ, Bool, true, ◌&&◌, int_lt, List, [], ◌∷◌, ◌++◌, Option, Some, None}
use Rattle.std.specs.Ordering.{int_cmp, match_ordering}
use Rattle.std.specs.BTreeMap.{insert_entry, is_at}
use Rattle.std.specs.Map.{remove_entry}
use Rattle.qc_sql.specs.Database.{MapOf}

-- the last of keys that begin with one
abbrev pub last_from : ℤ → List ℤ → ℤ
last_from k [] = k
last_from k (j ∷ js) = last_from j js

-- the last of some keys
abbrev pub last_of : List ℤ → Option ℤ
last_of [] = None
last_of (k ∷ ks) = Some (last_from k ks)

-- a key stands above the last one, where there is one
abbrev pub stands_behind : Option ℤ → ℤ → Bool
stands_behind None k = true
stands_behind (Some j) k = int_lt j k

-- keys rise behind the last one, where there is one
abbrev pub rise_behind : Option ℤ → List ℤ → Bool
rise_behind last [] = true
rise_behind last (k ∷ ks) = stands_behind last k && rise_behind (Some k) ks

module _ {X : Type 0} where
  -- a value is put under the key, or what the key has goes
  abbrev pub changed : ℤ → Option X → MapOf ℤ X → MapOf ℤ X
  changed k None m = remove_entry (is_at (int_cmp k)) m
  changed k (Some v) m = insert_entry int_cmp m k v

  -- what a change leaves at its key
  abbrev pub left_by : ℤ → Option X → MapOf ℤ X
  left_by k None = []
  left_by k (Some v) = (k, v) ∷ []

  -- the entries in front whose keys are below
  abbrev pub below : ℤ → MapOf ℤ X → MapOf ℤ X
  below k [] = []
  below k (e ∷ es) = match_ordering (int_cmp e.0 k) (e ∷ below k es) [] []

  -- the entries behind those, without one of the key itself
  abbrev pub above : ℤ → MapOf ℤ X → MapOf ℤ X
  above k [] = []
  above k (e ∷ es) = match_ordering (int_cmp e.0 k) (above k es) es (e ∷ es)

  -- the entries with all changes, which stand by rising key as well
  abbrev pub merged : MapOf ℤ X → MapOf ℤ (Option X) → MapOf ℤ X
  merged es [] = es
  merged es (c ∷ cs) = below c.0 es ++ (left_by c.0 c.1 ++ merged (above c.0 es) cs)
