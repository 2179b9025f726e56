-- A result that is not right says why.
use mathlib.Core.Path.{◌≡◌, refl}
use Rattle.std.specs.Prelude.{Result, Ok, Err}

pub not_ok : {A B : Type 0} (r : Result A B) → ((x : A) → r ≡ Ok x → ⊥) → (y : B) × (r ≡ Err y)
not_ok (Ok x) o = absurd (o x refl)
not_ok (Err y) o = (y, refl)

pub ok_alike : {A B : Type 0} {x y : A} → ◌≡◌ {A = Result A B} (Ok x) (Ok y) → x ≡ y
ok_alike e = cc
