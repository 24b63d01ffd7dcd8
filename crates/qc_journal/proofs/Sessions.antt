-- The deciding events of each session are counted.
use Rattle.std.proofs.Common.{◌≡◌, ℕ, zero, suc, ◌+◌, ◌<◌, ◌≤◌, eqb, eq-eqb, eqb-true, true, false, cond, List, [], ◌∷◌, ◌++◌, length, get_or, set, refl, sym, ap, ◌∙◌, arith, get_or-set_same, get_or-set_other, replicate}
use Rattle.std.specs.Prelude.{Option, Some, None, option_map}
use Rattle.std.proofs.lemmas.List.{length-replicate}
use Rattle.std.proofs.lemmas.List.Sums.{sum_by_push, count_by-le-length}
use Rattle.std.proofs.Common.{length-set}
use Rattle.qc_model.specs.declared.events.Who.{Who}
use Rattle.qc_model.specs.declared.events.Event.{Event}
use Rattle.qc_model.specs.Journal.{Journal, decider, is_by, is_of_session, event_count}
use Rattle.qc_journal.specs.Counting.{AreCounted, raised}

one_event : (j : Journal) (e : Event) (s : ℕ) → event_count (j ++ e ∷ []) s ≡ event_count j s + cond (is_by s e) 1 0
one_event j e s = sum_by_push (λ x. cond (is_by s x) 1 0) j e

pub counted_more : (counts : List ℕ) (j : Journal) (e : Event) → AreCounted counts j → AreCounted (raised (option_map (λ (w : Who). w.session) (decider e)) counts) (j ++ e ∷ [])
counted_more counts j e h = by (decider e) refl
  where
    by : (d : Option Who) → decider e ≡ d → AreCounted (raised (option_map (λ (w : Who). w.session) d) counts) (j ++ e ∷ [])
    by None is = record {
      long = h.long;
      each = λ s low. let no : ◌≡◌ {A = ℕ} (cond (is_by s e) 1 0) 0 = ap (λ d. cond (is_of_session s d) 1 0) is in omega (arith, h.each s low, one_event j e s, no);
    }
    by (Some who) is = record {
      long = length-set counts who.session (get_or counts who.session 0 + 1) ∙ h.long;
      each = λ s low. elim (eqb who.session s) as (λ b. eqb who.session s ≡ b → get_or (set counts who.session (get_or counts who.session 0 + 1)) s 0 ≡ event_count (j ++ e ∷ []) s) [
        | true ↦ λ t.
            let same = eqb-true who.session s t in
            let yes : ◌≡◌ {A = ℕ} (cond (is_by s e) 1 0) 1 = ap (λ d. cond (is_of_session s d) 1 0) is ∙ ap (λ b. cond b 1 0) t in
            let at = get_or-set_same counts who.session (get_or counts who.session 0 + 1) 0 (omega (arith, same, low, h.long)) in
            let now = ap (get_or (set counts who.session (get_or counts who.session 0 + 1))) (sym same) in
            omega (arith, ap (λ f. f 0) now, at, ap (λ k. get_or counts k 0) same, h.each s low, one_event j e s, yes)
        | false ↦ λ t.
            let no : ◌≡◌ {A = ℕ} (cond (is_by s e) 1 0) 0 = ap (λ d. cond (is_of_session s d) 1 0) is ∙ ap (λ b. cond b 1 0) t in
            let at = get_or-set_other counts who.session s (get_or counts who.session 0 + 1) 0 (λ z. true_false (sym (eq-eqb who.session s (sym z)) ∙ t)) in
            omega (arith, at, h.each s low, one_event j e s, no)
      ] refl;
    }
      where
        true_false : true ≡ false → ⊥
        true_false z = cc z

pub none_counted : AreCounted (replicate 256 0) []
none_counted = record { long = length-replicate {A = ℕ} 256 0; each = λ s low. zeros 256 s }
  where
    zeros : (n k : ℕ) → get_or (replicate {A = ℕ} n 0) k 0 ≡ 0
    zeros zero k = refl
    zeros (suc n) zero = refl
    zeros (suc n) (suc k) = zeros n k

pub count_small : (counts : List ℕ) (j : Journal) (s : ℕ) → AreCounted counts j → s < 256 → get_or counts s 0 ≤ length j
count_small counts j s h low = omega (arith, h.each s low, count_by-le-length (is_by s) j)
