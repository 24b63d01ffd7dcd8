-- The seat that an event is of, and the counts of tasks.
use Rattle.std.proofs.Common.{◌≡◌, ℕ, ◌+◌, ◌-◌, ◌<◌, eqb, eq-eqb, ne_eqb, Bool, true, false, cond, List, [], ◌∷◌, ◌++◌, map, refl, sym, ap, subst, ◌∙◌, arith, true≢false}
use Rattle.std.specs.Prelude.{◌||◌, Option, Some, count_by, ◌==◌}
use Rattle.std.specs.List.{list_any, AllByRecursion}
use Rattle.std.proofs.lemmas.List.Sums.{sum_by_push}
use Rattle.qc_model.specs.declared.events.Who.{Who}
use Rattle.qc_model.specs.declared.events.Event.{Event}
use Rattle.qc_model.specs.declared.events.Event.TheVariants as event
use Rattle.qc_model.specs.declared.events.How.{How}
use Rattle.qc_model.specs.Journal.{Journal, is_by, last_of}
use Rattle.qc_laws.proofs.history.Serials.{neither}
use Rattle.qc_sound.specs.PlainServer.{PlainServer, EntryChain, SeatTask, session_of}
use Rattle.qc_sound.specs.parts.Tasks.{SeatTaskIsSound}
use Rattle.qc_sound.specs.steps.Events.{OfNone}
use Rattle.qc_sound.specs.steps.Hits.{IsFreeSeat}

pub one_more : (p : SeatTask → Bool) (ws : List SeatTask) (w : SeatTask) → count_by p (ws ++ w ∷ []) ≡ count_by p ws + cond (p w) 1 0
one_more p ws w = sum_by_push (λ w. cond (p w) 1 0) ws w

-- an event of a seat without a task is of no seat that has one
pub seats_apart : (who : Who) (what : How) (seat : ℕ) (ws : List SeatTask) (j : Journal) (cs : List EntryChain) → 0 < seat → who.session ≡ session_of seat → list_any (λ m. m == seat) (map (λ w. w.seat) ws) ≡ false
    → AllByRecursion (SeatTaskIsSound j cs) ws → OfNone (event.Run who what) ws
seats_apart who what seat [] j cs ps is none all = tt
seats_apart who what seat (w ∷ ws) j cs ps is none all =
    let parts = neither (w.seat == seat) (list_any (λ m. m == seat) (map (λ w. w.seat) ws)) none in
    let low : 0 < w.seat = all.0.seat.low in
    (ne_eqb who.session (session_of w.seat) (λ e. let same : w.seat ≡ seat = back w.seat seat who.session low ps is e in true≢false (sym (eq-eqb w.seat seat same) ∙ parts.0)), seats_apart who what seat ws j cs ps is parts.1 all.1)
  where
    back : (a b s : ℕ) → 0 < a → 0 < b → s ≡ b - 1 → s ≡ a - 1 → a ≡ b
    back a b s p q u v = omega arith

pub of_none : (who : Who) (what : How) (seat : ℕ) (s : PlainServer) → IsFreeSeat who seat s → AllByRecursion (SeatTaskIsSound s.journal s.chains) s.tasks → OfNone (event.Run who what) s.tasks
of_none who what seat s free each = seats_apart who what seat s.tasks s.journal s.chains free.number.low free.session free.rests each

pub last_own : (found : Option Event) (s : ℕ) (j : Journal) (e : Event) → is_by s e ≡ true → last_of found s (j ++ e ∷ []) ≡ Some e
last_own found s [] e h = ap (λ b. cond b (Some e) found) h
last_own found s (x ∷ j) e h = last_own (cond (is_by s x) (Some x) found) s j e h
