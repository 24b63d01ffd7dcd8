-- What a journal makes, where its commits fit.
use Rattle.std.proofs.Common.{◌≡◌, ℕ, zero, suc, ◌-◌, Bool, true, List, [], ◌∷◌, ◌++◌, take, refl, sym, subst, Some, None}
use Rattle.std.proofs.lemmas.Bool.{and_parts, and_from}
use Rattle.std.specs.List.{list_all}
use Rattle.qc_sql.specs.declared.tables.RowOp.{RowOp}
use Rattle.qc_types.specs.declared.options.Options.{Options}
use Rattle.qc_sql.specs.Database.{Database, apply}
use Rattle.qc_model.specs.declared.events.Event.{Event}
use Rattle.qc_model.specs.declared.events.Event.TheVariants as event
use Rattle.qc_model.specs.Journal.{Journal, operations, database_after, present}
use Rattle.qc_model.specs.Session.{at_snapshot}
use Rattle.qc_model.specs.Licence.{ops_fit, is_within_rows, IsLicensed, IsLawfulAfter}
use Rattle.qc_laws.specs.fits.Sound.{commits_fit}
use Rattle.qc_model.specs.Sound.{IsSoundDatabase}
use Rattle.qc_laws.specs.fits.Laws.{LawfulCommitsFit, LawfulStaysWithin, JournalsAreSound, JournalsKeep, ViewsKeep}
use Rattle.qc_laws.proofs.fits.Stays.{sound_stays, sound_empty}

-- ---- journals whose commits fit

sound_after : (d : Database) (J : Journal) → IsSoundDatabase d → commits_fit d J ≡ true → IsSoundDatabase (database_after d J)
sound_after d [] s h = s
sound_after d (e ∷ es) s h =
    let parts = and_parts (ops_fit (operations e) d) (commits_fit (apply (operations e) d) es) h in
    sound_after (apply (operations e) d) es (sound_stays (operations e) d s parts.0) parts.1

prefix_fits : (k : ℕ) (d : Database) (J : Journal) → commits_fit d J ≡ true → commits_fit d (take k J) ≡ true
prefix_fits zero d J h = refl
prefix_fits (suc k) d [] h = refl
prefix_fits (suc k) d (e ∷ es) h =
    let parts = and_parts (ops_fit (operations e) d) (commits_fit (apply (operations e) d) es) h in
    and_from (ops_fit (operations e) d) (commits_fit (apply (operations e) d) (take k es)) parts.0 (prefix_fits k (apply (operations e) d) es parts.1)

pub journals_are_sound : JournalsAreSound
journals_are_sound None J h = sound_after [] J sound_empty h
journals_are_sound (Some place) J h = sound_after [] (take (place - 1) J) sound_empty (prefix_fits (place - 1) [] J h)

-- ---- lawful journals

pub more_after : (d : Database) (J : Journal) (e : Event) → database_after d (J ++ e ∷ []) ≡ apply (operations e) (database_after d J)
more_after d [] e = refl
more_after d (f ∷ fs) e = more_after (apply (operations f) d) fs e

licensed_fits : (options : Options) (earlier : Journal) (e : Event) → IsLicensed options earlier e → ops_fit (operations e) (present earlier) ≡ true
licensed_fits options earlier (event.Run who how) h = refl
licensed_fits options earlier (event.Commit who ops) h = h.1.fit
licensed_fits options earlier (event.Reset who) h = refl
licensed_fits options earlier (event.Flush who) h = refl
licensed_fits options earlier (event.Done serial) h = refl
licensed_fits options earlier (event.Gone serial why) h = refl
licensed_fits options earlier (event.Prune serial need largest) h = refl

licensed_within : (options : Options) (earlier : Journal) (e : Event) → IsLicensed options earlier e → is_within_rows (present earlier) ≡ true → is_within_rows (apply (operations e) (present earlier)) ≡ true
licensed_within options earlier (event.Run who how) h g = g
licensed_within options earlier (event.Commit who ops) h g = h.1.not_full
licensed_within options earlier (event.Reset who) h g = g
licensed_within options earlier (event.Flush who) h g = g
licensed_within options earlier (event.Done serial) h g = g
licensed_within options earlier (event.Gone serial why) h g = g
licensed_within options earlier (event.Prune serial need largest) h g = g

fits_after : (options : Options) (earlier J : Journal) → IsLawfulAfter options earlier J → commits_fit (present earlier) J ≡ true
fits_after options earlier [] h = refl
fits_after options earlier (e ∷ es) h =
    and_from (ops_fit (operations e) (present earlier)) (commits_fit (apply (operations e) (present earlier)) es) (licensed_fits options earlier e h.0)
    (subst (λ (d : Database). commits_fit d es ≡ true) (more_after [] earlier e) (fits_after options (earlier ++ e ∷ []) es h.1))

within_after : (options : Options) (earlier J : Journal) → IsLawfulAfter options earlier J → is_within_rows (present earlier) ≡ true → is_within_rows (database_after (present earlier) J) ≡ true
within_after options earlier [] h g = g
within_after options earlier (e ∷ es) h g =
    let more = more_after [] earlier e in
    let now = subst (λ (d : Database). is_within_rows d ≡ true) (sym more) (licensed_within options earlier e h.0 g) in
    subst (λ (d : Database). is_within_rows (database_after d es) ≡ true) more (within_after options (earlier ++ e ∷ []) es h.1 now)

pub lawful_commits_fit : LawfulCommitsFit
lawful_commits_fit options J h = fits_after options [] J h

pub lawful_stays_within : LawfulStaysWithin
lawful_stays_within options J h = within_after options [] J h refl

-- ---- tests that operations of a kind keep

module _ (test : Database → Bool) (kind : RowOp → Bool) (step : (ops : List RowOp) (d : Database) → list_all kind ops ≡ true → test d ≡ true → test (apply ops d) ≡ true) where
  kept_after : (d : Database) (J : Journal) → test d ≡ true → list_all (λ e. list_all kind (operations e)) J ≡ true → test (database_after d J) ≡ true
  kept_after d [] t h = t
  kept_after d (e ∷ es) t h =
      let parts = and_parts (list_all kind (operations e)) (list_all (λ e. list_all kind (operations e)) es) h in
      kept_after (apply (operations e) d) es (step (operations e) d parts.0 t) parts.1

prefix_passes : {A : Type 0} (p : A → Bool) (k : ℕ) (xs : List A) → list_all p xs ≡ true → list_all p (take k xs) ≡ true
prefix_passes p zero xs h = refl
prefix_passes p (suc k) [] h = refl
prefix_passes p (suc k) (x ∷ xs) h = let parts = and_parts (p x) (list_all p xs) h in and_from (p x) (list_all p (take k xs)) parts.0 (prefix_passes p k xs parts.1)

pub journals_keep : JournalsKeep
journals_keep test kind None J none step h = kept_after test kind step [] J none h
journals_keep test kind (Some place) J none step h = kept_after test kind step [] (take (place - 1) J) none (prefix_passes (λ e. list_all kind (operations e)) (place - 1) J h)

pub views_keep : ViewsKeep
views_keep test kind None J none step h own = journals_keep test kind None J none step h
views_keep test kind (Some t) J none step h own = step t.operations (at_snapshot t.snapshot J) own (journals_keep test kind t.snapshot J none step h)
