-- Records of code taken for records of the rules lose nothing. By one step along the list.
use Prim.Native.Nat.{ℕ}
use native.Mathlib.Omega.{arith}
use mathlib.Core.Path.{◌≡◌, refl, ap, ap₂}
use mathlib.Core.List.{List, [], ◌∷◌}
use lib.ListN.{length, get_or, drop, length-map}
use Rattle.rules.specs.Sheets.{EdgeRecord, no_edge}
use Rattle.edges.specs.declared.Edge.{Edge}
use Rattle.record_demands.specs.Records.{told, told_all}

pub length_told : (es : List Edge) → length (told_all es) ≡ length es
unfolding told_all
length_told es = length-map es told

four : (a b c d a' b' c' d' : ℕ) → a ≡ a' → b ≡ b' → c ≡ c' → d ≡ d'
    → ◌≡◌ {A = Edge} (record { child = a; label = b; label_len = c; parent = d }) (record { child = a'; label = b'; label_len = c'; parent = d' })
four a b c d a' b' c' d' e f g h = rw (e, f, g, h) refl

-- field by field
same_record : (e f : Edge) → told e ≡ told f → e ≡ f
same_record e f p =
    four _ _ _ _ _ _ _ _ (ap (λ (r : EdgeRecord). r.child) p) (ap (λ (r : EdgeRecord). r.label_start) p)
    (ap (λ (r : EdgeRecord). r.label_length) p) (ap (λ (r : EdgeRecord). r.parent) p)

pub told_apart : (es fs : List Edge) → told_all es ≡ told_all fs → es ≡ fs
unfolding told_all
told_apart [] [] p = refl
told_apart [] (f ∷ fs) p = absurd (let l = ap length p in omega (arith, l))
told_apart (e ∷ es) [] p = absurd (let l = ap length p in omega (arith, l))
told_apart (e ∷ es) (f ∷ fs) p =
    ap₂ (λ (x : Edge) (xs : List Edge). x ∷ xs) (same_record e f (ap (λ (rs : List EdgeRecord). get_or rs 0 no_edge) p))
    (told_apart es fs (ap (λ (rs : List EdgeRecord). drop 1 rs) p))
