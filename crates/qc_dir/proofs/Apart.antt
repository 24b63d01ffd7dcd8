-- Lists of which no two members pass as the same.
use Rattle.std.proofs.Common.{◌≡◌, Bool, false, List, [], ◌∷◌, ◌++◌, refl}
use Rattle.std.specs.List.{list_any}
use Rattle.std.proofs.lemmas.Bool.{or_parts, or_from}
use Rattle.qc_sql.specs.Database.{same_table}
use Rattle.qc_dir.specs.declared.tables.TableBlock.{TableBlock}
use Rattle.qc_dir.specs.Directory.{AreApart}

any_push : {X : Type 0} (p : X → Bool) (xs : List X) (x : X) → list_any p xs ≡ false → p x ≡ false → list_any p (xs ++ x ∷ []) ≡ false
any_push p [] x h e = or_from (p x) false e refl
any_push p (y ∷ ys) x h e =
    let parts = or_parts (p y) (list_any p ys) h in or_from (p y) (list_any p (ys ++ x ∷ [])) parts.0 (any_push p ys x parts.1 e)

-- one member more, with which none before it passes as the same
pub apart_push : {X : Type 0} (same : X → X → Bool) (xs : List X) (x : X) → AreApart same xs → list_any (λ y. same y x) xs ≡ false → AreApart same (xs ++ x ∷ [])
apart_push same [] x h e = (refl, tt)
apart_push same (y ∷ ys) x h e =
    let parts = or_parts (same y x) (list_any (λ z. same z x) ys) e in (any_push (same y) ys x h.0 parts.0, apart_push same ys x h.1 parts.1)

-- ---- blocks of tables

abbrev pub Once : List TableBlock → Type 0
Once tables = AreApart (λ b c. same_table b.table c.table) tables
