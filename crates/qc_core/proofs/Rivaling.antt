-- The entry of a key that is still being filled.
use Rattle.std.proofs.Common.{◌≡◌, ℕ, Bool, true, false, List, refl, sym, ap, ◌∙◌}
use Rattle.std.specs.Prelude.{not, ◌&&◌, Option, Some, None, option_map, find}
use Rattle.std.proofs.lemmas.Option.{none-some}
use Rattle.qc_model.specs.Journal.{Journal}
use Rattle.qc_model.specs.Cache.{cache}
use Rattle.qc_model.specs.Cache.{Entry as Cached}
use Rattle.qc_model.specs.Choice.{has_key, rival}
use Rattle.qc_laws.proofs.history.Apart.{keys_apart}
use Rattle.qc_core.specs.declared.server_state.ServerState.{ServerState}
use Rattle.qc_core.specs.Whole.{Sound}
use Rattle.qc_core.proofs.Seeking.{Found, narrow_none, narrow_yes, narrow_no}

and_true : (a : Bool) → a ≡ (a && true)
and_true true = refl
and_true false = refl

as_narrowed : (j : Journal) (key : List ℕ) → rival j key ≡ find (λ z. not z.complete && has_key key z && true) (cache j)
as_narrowed j key = λ i. find (λ (z : Cached). and_true (not z.complete && has_key key z) i) (cache j)

pub rival_none : (s : ServerState) (key : List ℕ) → None ≡ option_map (λ y. y.serial) (find (has_key key) (cache s.journal.events)) → None ≡ option_map (λ y. y.serial) (rival s.journal.events key)
rival_none s key is = by (find (has_key key) (cache s.journal.events)) refl is
  where
    by : (o : Option Cached) → find (has_key key) (cache s.journal.events) ≡ o → None ≡ option_map (λ (y : Cached). y.serial) o → None ≡ option_map (λ (y : Cached). y.serial) (rival s.journal.events key)
    by None e k = sym (ap (option_map (λ (y : Cached). y.serial)) (as_narrowed s.journal.events key ∙ narrow_none key (λ y. not y.complete) (λ _. true) (cache s.journal.events) e))
    by (Some y) e k = absurd (none-some y.serial k)

pub rival_no : (words : List ℕ) (s : ServerState) (key : List ℕ) (n : ℕ) → Sound words s → (f : Found s key n) → f.entry.complete ≡ true → None ≡ option_map (λ y. y.serial) (rival s.journal.events key)
rival_no words s key n h f done =
    sym (ap (option_map (λ (y : Cached). y.serial)) (as_narrowed s.journal.events key
    ∙ narrow_no key (λ y. not y.complete) (λ _. true) (cache s.journal.events) f.cached (keys_apart s.options s.journal.events h.1.sound.journal.lawful) f.found (ap (λ b. not b && true) (sym f.complete ∙ done))))

pub rival_yes : (s : ServerState) (key : List ℕ) (n : ℕ) → (f : Found s key n) → f.entry.complete ≡ false → Some n ≡ option_map (λ y. y.serial) (rival s.journal.events key)
rival_yes s key n f busy =
    sym (ap (option_map (λ (y : Cached). y.serial)) (as_narrowed s.journal.events key
    ∙ narrow_yes key (λ y. not y.complete) (λ _. true) (cache s.journal.events) f.cached f.found (ap (λ b. not b && true) (sym f.complete ∙ busy)))
    ∙ ap Some f.serial)
