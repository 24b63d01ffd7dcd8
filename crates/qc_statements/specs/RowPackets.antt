-- The packets of a plan's columns and rows, given one after another.
use Rattle.std.specs.Prelude.{◌≡◌, ℕ, ◌≤◌, true, false, Bool, List, [], ◌∷◌, ◌++◌, length, map, drop, Option, Some, None, IsSome}
use Rattle.qc_sql.specs.Packets.{column_payload, eof_payload, packet}
use Rattle.qc_eval.specs.Plans.{PlanView}
use Rattle.qc_statements.specs.declared.row_packets.Part.{Part}
use Rattle.qc_statements.specs.declared.row_packets.Part.TheVariants as part
use Rattle.qc_statements.specs.Answers.{IsReady, IsRowOf, head_payloads, rest_of, row_of, tail_payloads, value_payload}

-- the payloads that are still to come
abbrev pub payloads_at : Part → PlanView → ℕ → List (List ℕ)
payloads_at part.Count p status = head_payloads p.columns status ++ tail_payloads (rest_of p) status
payloads_at (part.Column i) p status = (map column_payload (drop i p.columns) ++ eof_payload status ∷ []) ++ tail_payloads (rest_of p) status
payloads_at part.Rows p status = tail_payloads (rest_of p) status
payloads_at part.Row p status = value_payload (row_of p) ∷ tail_payloads (rest_of p) status
payloads_at part.End p status = eof_payload status ∷ []
payloads_at part.Nothing p status = []

-- what is known where a part comes next
abbrev pub IsAt : Part → PlanView → Type 0
IsAt (part.Column i) p = i ≤ length p.columns
IsAt part.Row p = IsSome p.row × IsRowOf (length p.columns) (row_of p)
IsAt part.End p = rest_of p ≡ []
IsAt _ p = Unit {0}

pub record IsReadyAt (x : Part) (p : PlanView) : Type 0 where
  pub plan : IsReady p
  pub at : IsAt x p

-- A packet was put behind a text, and these come behind it; or there was none, and the text stays.
abbrev pub PutsNext : Part → PlanView → (status sequence : ℕ) → List ℕ → List ℕ → Option Part → Type 0
PutsNext x p status sequence old new None = (payloads_at x p status ≡ []) × (new ≡ old)
PutsNext x p status sequence old new (Some behind) = IsReadyAt behind p
    × ((payload : List ℕ) × (payloads_at x p status ≡ payload ∷ payloads_at behind p status) × (new ≡ old ++ packet sequence payload))

-- the next packet was given, and the others are still to come; or none was left, and nothing is given
abbrev pub GivesPacket : Bool → List (List ℕ) → List (List ℕ) → List ℕ → Type 0
GivesPacket true old new out = old ≡ out ∷ new
GivesPacket false old new out = (old ≡ []) × (new ≡ []) × (out ≡ [])
