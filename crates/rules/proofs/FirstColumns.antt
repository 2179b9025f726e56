-- What the tests of a line's first column tell of it: it is there, and in a phrase's the digits stand behind #.
use Prim.Native.Nat.{ℕ}
use mathlib.Core.Path.{◌≡◌, refl, ap, ◌∙◌}
use mathlib.Core.Bool.{Bool, true, false, not, ◌||◌, false≢true}
use mathlib.Core.List.{List, [], ◌∷◌}
use lib.ListN.{drop}
use lib.Dec.{eqb}
use borrow.Author.Tests.{eqb-true}
use Rattle.rules.specs.Lists.{empty, bytes}
use Rattle.rules.specs.Texts.{Text, given, reads}
use Rattle.rules.specs.Keywords.{hashed, starts_row, starts_word, hash_and_digits, starts_phrase, digits}
use Rattle.rules.proofs.Conjunctions.{and_left}
use Rattle.rules.proofs.Same.{same_eq}

pub reads_given : (xs : List ℕ) (t : Text) → not (empty xs) ≡ true → reads xs t ≡ true → given t ≡ true
reads_given xs t g e = ap (λ (l : List ℕ). not (empty l)) (same_eq t.bytes xs e) ∙ g

pub phrase_given : (t : Text) → starts_phrase t ≡ true → given t ≡ true
phrase_given t e = by t.bytes e
  where
    by : (bs : List ℕ) → hash_and_digits bs ≡ true → not (empty bs) ≡ true
    by [] e = e
    by (b ∷ bs) e = refl

pub row_given : (t : Text) → starts_row t ≡ true → given t ≡ true
row_given t e = and_left (given t) (not (hashed t.bytes)) e

pub word_given : (t : Text) → starts_word t ≡ true → given t ≡ true
word_given t e = by (reads (bytes "#") t) refl e
  where
    by : (b : Bool) → reads (bytes "#") t ≡ b → (b || starts_row t) ≡ true → given t ≡ true
    by true r q = reads_given (bytes "#") t refl r
    by false r q = row_given t q

-- # and digits: the digits stand at once behind #
pub hash_form : (c : List ℕ) → hash_and_digits c ≡ true → c ≡ 35 ∷ drop 1 c
hash_form [] e = absurd (false≢true e)
hash_form (b ∷ bs) e = ap (λ (x : ℕ). x ∷ bs) (eqb-true b 35 (and_left (eqb b 35) (digits bs) e))
