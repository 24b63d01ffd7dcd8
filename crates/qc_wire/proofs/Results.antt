-- Steps that did not fail, and what goes on from their values.
use Rattle.std.proofs.Common.{◌≡◌, Bool, true, false, Result, Ok, Err, refl}
use Rattle.std.specs.Prelude.{not, if◌then◌else◌}
use Rattle.qc_wire.specs.declared.refusal.WireRefusal.{WireRefusal}
use Rattle.qc_wire.specs.Reading.{◌>>=◌, unless}

pub ok_is : {A : Type 0} (x y : A) → ◌≡◌ {A = Result A WireRefusal} (Ok x) (Ok y) → x ≡ y
ok_is x y e = cc

-- a step that did not fail, and what goes on from its value
pub then_step : {A B C : Type 0} (r : Result A WireRefusal) (f : A → Result B WireRefusal) (y : B) → (r >>= f) ≡ Ok y → ((x : A) → r ≡ Ok x → f x ≡ Ok y → C) → C
then_step (Ok x) f y e go = go x refl e
then_step (Err d) f y e go = absurd cc

-- two ways to go on that agree on what was read
pub bind_same : {A B : Type 0} (r : Result A WireRefusal) (f g : A → Result B WireRefusal) → ((x : A) → r ≡ Ok x → f x ≡ g x) → (r >>= f) ≡ (r >>= g)
bind_same (Ok x) f g h = h x refl
bind_same (Err e) f g h = refl

-- a test that did not fail, in front of a step
pub guard_ok : {A : Type 0} (b : Bool) (e : WireRefusal) (x : Result A WireRefusal) (y : A) → (if b then Err e else x) ≡ Ok y → (b ≡ false) × (x ≡ Ok y)
guard_ok true e x y h = absurd cc
guard_ok false e x y h = (refl, h)

-- a test that did not fail, in front of a value
pub unless_ok : {A : Type 0} (b : Bool) (e : WireRefusal) (x y : A) → unless b e x ≡ Ok y → (b ≡ false) × (x ≡ y)
unless_ok true e x y h = absurd cc
unless_ok false e x y h = (refl, cc)

pub not_false : (b : Bool) → not b ≡ false → b ≡ true
not_false true h = refl
not_false false h = absurd cc
