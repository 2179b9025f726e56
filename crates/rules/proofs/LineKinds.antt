-- What the first column tells of a line's kind: rows begin with a number, phrases with # and one, words with anything but
-- another #.
use Prim.Native.Nat.{ℕ, suc, ◌≤◌}
use native.Mathlib.Omega.{arith}
use mathlib.Core.Path.{◌≡◌, refl, sym, ap, ◌∙◌, subst}
use mathlib.Core.Logic.{◌⊎◌, inl, inr}
use mathlib.Core.Bool.{Bool, true, false, false≢true, not, ◌&&◌}
use Rattle.std.specs.Prelude.{Option, None, Some}
use mathlib.Core.List.{List, [], ◌∷◌, ◌++◌}
use lib.ListN.{length, drop}
use lib.Dec.{eqb}
use borrow.Author.Tests.{eqb-true, not-true}
use Rattle.rules.specs.Lists.{pick, bytes, every, empty, same}
use Rattle.rules.specs.Bytes.{white, digit}
use Rattle.rules.specs.Texts.{Text, reads}
use Rattle.rules.specs.Columns.{Column, goes_on, with_first, last_byte, columns_from, written}
use Rattle.rules.specs.Numbers.{Kind, plain, value_from, decimal, within, number, plus_one, signed_id, id_plus_one}
use Rattle.rules.specs.Keywords.{hashed, starts_row, starts_word, digits, hash_and_digits, starts_phrase}
use Rattle.rules.proofs.BareColumns.{column_at}
use Rattle.rules.proofs.BytesAsSaid.{Started}
use Rattle.rules.proofs.SaidOfLists.{and_both_ways, or_both_ways, not_both_ways, never_both}
use Rattle.rules.proofs.TestsAsFacts.{reads_are}

-- ---- a line that starts with its first column has one

record Begins (cs : List Column) : Type 0 where
  first : Column
  others : List Column
  are : cs ≡ first ∷ others
  given : 1 ≤ length first.text.bytes

begins : (a : ℕ) (l : List ℕ) → goes_on l ≡ true → Begins (columns_from a l)
unfolding columns_from
begins a [] e = absurd (false≢true e)
begins a (b ∷ bs) e =
    subst (λ (t : Bool). Begins (pick t (columns_from (suc a) bs) (pick (goes_on bs) (with_first a b (columns_from (suc a) bs)) (last_byte a b bs ∷ columns_from (suc a) bs))))
    (sym (not-true (white b) e)) (by (goes_on bs) (λ g. begins (suc a) bs g) refl)
  where
    by : (t : Bool) → (goes_on bs ≡ true → Begins (columns_from (suc a) bs)) → goes_on bs ≡ t
        → Begins (pick t (with_first a b (columns_from (suc a) bs)) (last_byte a b bs ∷ columns_from (suc a) bs))
    by true more g =
        let m = more g in
        record {
          first = record { text = record { start = a; bytes = b ∷ m.first.text.bytes }; after = m.first.after };
          others = m.others;
          are = ap (with_first a b) m.are;
          given = omega arith;
        }
    by false more g = record { first = last_byte a b bs; others = columns_from (suc a) bs; are = refl; given = omega arith }

pub first_given : (l : List ℕ) → Started l → 1 ≤ length (column_at 0 l)
first_given l s = let b = begins 0 l s in subst (λ (cs : List Column). 1 ≤ length (written cs 0).bytes) (sym b.are) b.given

-- ---- numbers

within_some : (k : Kind) (o : Option ℕ) (n : ℕ) → within k o ≡ Some n → (m : ℕ) × (o ≡ Some m)
within_some k None n e = absurd (let z : ◌≡◌ {A = ℕ} 0 1 = cc in omega arith)
within_some k (Some m) n e = (m, refl)

decimal_digits : (xs : List ℕ) (n : ℕ) → decimal xs ≡ Some n → digits xs ≡ true
unfolding decimal
decimal_digits [] n e = absurd (let z : ◌≡◌ {A = ℕ} 0 1 = cc in omega arith)
decimal_digits (x ∷ xs) n e = by (plain (x ∷ xs) && every digit (x ∷ xs)) refl e
  where
    by : (t : Bool) → (plain (x ∷ xs) && every digit (x ∷ xs)) ≡ t → pick t (Some (value_from 0 (x ∷ xs))) None ≡ Some n → every digit (x ∷ xs) ≡ true
    by true h e = ((and_both_ways (plain (x ∷ xs)) (every digit (x ∷ xs))).0 h).1
    by false h e = absurd (let z : ◌≡◌ {A = ℕ} 0 1 = cc in omega arith)

pub number_digits : (k : Kind) (xs : List ℕ) (n : ℕ) → number k xs ≡ Some n → digits xs ≡ true
number_digits k xs n e = let m = within_some k (decimal xs) n e in decimal_digits xs m.0 m.1

-- what begins with a digit or a minus starts a row
digits_row : (t : Text) → digits t.bytes ≡ true → starts_row t ≡ true
digits_row t e = by t.bytes e
  where
    by : (xs : List ℕ) → digits xs ≡ true → (not (empty xs) && not (hashed xs)) ≡ true
    by [] e = absurd (false≢true e)
    by (x ∷ xs) e =
        let d = ((and_both_ways (digit x) (every digit xs)).0 e).0 in
        (not_both_ways (eqb x 35)).1 (λ q. never_both (digit x) d (ap digit (eqb-true x 35 q)))

pub number_row : (k : Kind) (t : Text) (n : ℕ) → number k t.bytes ≡ Some n → starts_row t ≡ true
number_row k t n e = digits_row t (number_digits k t.bytes n e)

pub id_row : (t : Text) (n : ℕ) → signed_id t.bytes ≡ Some n → starts_row t ≡ true
id_row t n e = by (same t.bytes (bytes "-1")) refl (within_some id_plus_one (pick (same t.bytes (bytes "-1")) (Some 0) (plus_one (decimal t.bytes))) n e).1
  where
    more : (m : ℕ) (o : Option ℕ) → decimal t.bytes ≡ o → plus_one o ≡ Some m → starts_row t ≡ true
    more m None d q = absurd (let z : ◌≡◌ {A = ℕ} 0 1 = cc in omega arith)
    more m (Some k) d q = digits_row t (decimal_digits t.bytes k d)

    by : {m : ℕ} (b : Bool) → same t.bytes (bytes "-1") ≡ b → pick b (Some 0) (plus_one (decimal t.bytes)) ≡ Some m → starts_row t ≡ true
    by true s q = let e = (reads_are (bytes "-1") t).0 s in ap (λ (xs : List ℕ). not (empty xs) && not (hashed xs)) e
    by {m} false s q = more m (decimal t.bytes) refl q

-- a row is no keyword
pub row_no_keyword : (t : Text) (keyword : List ℕ) → starts_row t ≡ true → hashed keyword ≡ true → reads keyword t ≡ true → ⊥
row_no_keyword t keyword r h e =
    let no = ((and_both_ways (not (empty t.bytes)) (not (hashed t.bytes))).0 r).1 in
    (not_both_ways (hashed t.bytes)).0 no (ap hashed ((reads_are keyword t).0 e) ∙ h)

-- ---- words and phrases

-- # and a phrase's digits
pub phrase_sign : (xs : List ℕ) → hash_and_digits xs ≡ true → xs ≡ bytes "#" ++ drop 1 xs
phrase_sign [] e = absurd (false≢true e)
phrase_sign (x ∷ xs) e = ap (λ (x : ℕ). x ∷ xs) (eqb-true x 35 ((and_both_ways (eqb x 35) (digits xs)).0 e).0)

pub sign_phrase : (xs ds : List ℕ) → xs ≡ bytes "#" ++ ds → digits ds ≡ true → hash_and_digits xs ≡ true
sign_phrase xs ds e d = ap hash_and_digits e ∙ d

abbrev pub WordStart : List ℕ → Type 0
WordStart xs = (xs ≡ bytes "#") ⊎ ((rest : List ℕ) → xs ≡ bytes "#" ++ rest → ⊥)

pub starts_word_lem : (t : Text) → starts_word t ≡ true → WordStart t.bytes
starts_word_lem t e = either ((or_both_ways (reads (bytes "#") t) (starts_row t)).0 e)
  where
    either : (reads (bytes "#") t ≡ true) ⊎ (starts_row t ≡ true) → WordStart t.bytes
    either (inl h) = inl ((reads_are (bytes "#") t).0 h)
    either (inr r) =
        inr (λ rest q. (not_both_ways (hashed t.bytes)).0 ((and_both_ways (not (empty t.bytes)) (not (hashed t.bytes))).0 r).1 (ap hashed q))

pub word_starts : (t : Text) → 1 ≤ length t.bytes → WordStart t.bytes → starts_word t ≡ true
word_starts t g (inl e) = (or_both_ways (reads (bytes "#") t) (starts_row t)).1 (inl ((reads_are (bytes "#") t).1 e))
word_starts t g (inr n) = (or_both_ways (reads (bytes "#") t) (starts_row t)).1 (inr (by t.bytes g n))
  where
    by : (xs : List ℕ) → 1 ≤ length xs → ((rest : List ℕ) → xs ≡ bytes "#" ++ rest → ⊥) → (not (empty xs) && not (hashed xs)) ≡ true
    by [] g n = absurd (omega arith)
    by (x ∷ xs) g n = (not_both_ways (eqb x 35)).1 (λ q. n xs (ap (λ (x : ℕ). x ∷ xs) (eqb-true x 35 q)))

pub word_no_phrase : (t : Text) → WordStart t.bytes → starts_phrase t ≡ true → ⊥
word_no_phrase t (inl e) p = false≢true (sym (ap hash_and_digits e) ∙ p)
word_no_phrase t (inr n) p = n (drop 1 t.bytes) (phrase_sign t.bytes p)

pub word_no_end : (t : Text) → WordStart t.bytes → reads (bytes "#EOS") t ≡ true → ⊥
word_no_end t (inl e) r = let z : ◌≡◌ {A = ℕ} 0 1 = cc ((reads_are (bytes "#EOS") t).0 r) in omega arith
word_no_end t (inr n) r = n (bytes "EOS") ((reads_are (bytes "#EOS") t).0 r)

pub phrase_no_end : (t : Text) → starts_phrase t ≡ true → reads (bytes "#EOS") t ≡ true → ⊥
phrase_no_end t p r = false≢true (sym (ap hash_and_digits ((reads_are (bytes "#EOS") t).0 r)) ∙ p)
