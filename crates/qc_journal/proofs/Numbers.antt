-- The last event that passes a test, and the events behind a place.
use Rattle.std.proofs.Common.{◌≡◌, ℕ, ◌+◌, ◌<◌, ◌≤◌, Bool, true, false, cond, ◌||◌, List, [], ◌∷◌, ◌++◌, length, drop, take, get_or, refl, ap, sym, ◌∙◌, arith, length-drop, take-append-drop}
use Rattle.std.specs.List.{count_by, list_any}
use Rattle.std.proofs.lemmas.List.{at_drop_more, drop-append-le}
use Rattle.std.proofs.lemmas.List.Folds.{list_any-append}
use Rattle.std.proofs.lemmas.List.Sums.{sum_by-append}
use Rattle.std.proofs.lemmas.Bool.{or_parts}
use Rattle.qc_types.specs.declared.names.TableName.{TableName}
use Rattle.qc_model.specs.declared.events.Event.{Event}
use Rattle.qc_model.specs.Journal.{Journal, last_number, last_change, touches_table}
use Rattle.qc_journal.specs.declared.changes.Changes.{Changes}
use Rattle.qc_journal.specs.Indexed.{found, last_after}

-- one more event at the end
pub last_number-push : (test : Event → Bool) (x n : ℕ) (es : Journal) (e : Event) → last_number test x n (es ++ e ∷ []) ≡ cond (test e) (n + length es) (last_number test x n es)
last_number-push test x n [] e = ap (λ k. cond (test e) k x) (omega arith)
last_number-push test x n (f ∷ es) e =
    last_number-push test (cond (test f) n x) (n + 1) es e
    ∙ ap (λ k. cond (test e) k (last_number test (cond (test f) n x) (n + 1) es)) (omega arith)

-- the event at a place, and those behind it
pub last_number-behind : (test : Event → Bool) (x n : ℕ) (journal : Journal) (place : ℕ) (e : Event) → place < length journal → e ≡ get_or journal place e
    → last_number test x n (drop place journal) ≡ last_number test (cond (test e) n x) (n + 1) (drop (place + 1) journal)
last_number-behind test x n journal place e inside is =
    at_drop_more (last_number test x n) journal place e inside
    ∙ ap (λ f. last_number test (cond (test f) n x) (n + 1) (drop (place + 1) journal)) (sym is)

-- what the index and the events behind those entered say, where one more event stands at the end
pub last_after-push : (changes : Changes) (journal : Journal) (e : Event) (t : TableName) → changes.entered ≤ length journal → last_after changes journal t ≡ last_change journal t
    → last_after changes (journal ++ e ∷ []) t ≡ last_change (journal ++ e ∷ []) t
last_after-push changes journal e t within same =
    let k = changes.entered in
    let test = touches_table t in
    let place : k + 1 + length (drop k journal) ≡ 1 + length journal = omega (arith, length-drop k journal) in
    ap (last_number test (found t changes) (k + 1)) (drop-append-le k journal (e ∷ []) within)
    ∙ (last_number-push test (found t changes) (k + 1) (drop k journal) e
    ∙ (ap (λ n. cond (test e) n (last_after changes journal t)) place
    ∙ (ap (cond (test e) (1 + length journal)) same
    ∙ sym (last_number-push test 0 1 journal e))))

-- no operation of a prefix passes where none of the list does
pub none_in_prefix : {X : Type 0} (test : X → Bool) (xs : List X) (i : ℕ) → list_any test xs ≡ false → list_any test (take i xs) ≡ false
none_in_prefix test xs i none =
    (or_parts (list_any test (take i xs)) (list_any test (drop i xs)) (sym (list_any-append test (take i xs) (drop i xs)) ∙ (ap (list_any test) (take-append-drop i xs) ∙ none))).0

-- two choices of one number
pub cond-cond : {X : Type 0} (a b : Bool) (x y : X) → cond b x (cond a x y) ≡ cond (a || b) x y
cond-cond true true x y = refl
cond-cond true false x y = refl
cond-cond false b x y = refl

pub cond-same : {X : Type 0} (b : Bool) (x y z : X) → (b ≡ false → y ≡ z) → cond b x y ≡ cond b x z
cond-same true x y z e = refl
cond-same false x y z e = e refl

-- a count that is raised by an event is that of the events with it at the end
pub count_by-push : (test : Event → Bool) (journal : Journal) (e : Event) (before after : ℕ) → before ≡ count_by test journal → after ≡ before + cond (test e) 1 0 → after ≡ count_by test (journal ++ e ∷ [])
count_by-push test journal e before after was is = omega (arith, sum_by-append (λ f. cond (test f) 1 0) journal (e ∷ []))
