-- A line printed anew from a line's columns and comment may stand where that stood: its bytes are legal, it is no longer,
-- and it is not ignored.
use Prim.Native.Nat.{ℕ, suc, ◌+◌, ◌≤◌}
use native.Mathlib.Omega.{arith}
use mathlib.Core.Path.{◌≡◌, refl, sym, ap, ◌∙◌}
use mathlib.Core.Bool.{true, false, false≢true, and-false}
use mathlib.Core.List.{List, [], ◌∷◌, ◌++◌}
use lib.ListN.{length, length-append}
use lib.Dec.{eqb}
use borrow.Author.Tests.{not-true, not-false, ne_eqb}
use Rattle.rules.specs.Lists.{every}
use Rattle.rules.specs.Bytes.{white, legal, ignored}
use Rattle.rules.specs.Numbers.{line_limit}
use Rattle.rules.specs.Columns.{goes_on, columns_from, fields, comment}
use Rattle.rules.proofs.Conjunctions.{and_left, and_right, every_append}
use Rattle.rules.proofs.PrintedLines.{black, solid, tailed, remark, printed, goes_printed}
use Rattle.rules.proofs.AnyLine.{bytes_of, room, unled, line_room, line_fields_lawful, line_comment_lawful}

pub record LineFit (l : List ℕ) : Type 0 where
  pub lawful : every legal l ≡ true
  pub short : length l ≤ line_limit
  pub seen : ignored l ≡ false

-- ---- legal bytes

module _ (w : ℕ) (h : legal w ≡ true) where
  remark_lawful : (n : List ℕ) → every legal n ≡ true → every legal (remark w n) ≡ true
  remark_lawful [] a = refl
  remark_lawful (b ∷ bs) a = rw h a

  tailed_lawful : (cs : List (List ℕ)) (t : List ℕ) → every (every legal) cs ≡ true → every legal t ≡ true → every legal (tailed w cs t) ≡ true
  unfolding tailed
  tailed_lawful [] t a b = b
  tailed_lawful (c ∷ cs) t a b =
      rw h
      (every_append legal c (tailed w cs t) (and_left (every legal c) (every (every legal) cs) a) (tailed_lawful cs t (and_right (every legal c) (every (every legal) cs) a) b))

  pub printed_lawful : (c : List ℕ) (cs : List (List ℕ)) (n : List ℕ) → every (every legal) (c ∷ cs) ≡ true → every legal n ≡ true → every legal (printed w c cs n) ≡ true
  unfolding printed
  printed_lawful c cs n a b =
      every_append legal c (tailed w cs (remark w n)) (and_left (every legal c) (every (every legal) cs) a)
      (tailed_lawful cs (remark w n) (and_right (every legal c) (every (every legal) cs) a) (remark_lawful n b))

-- ---- length

tailed_length : (w : ℕ) (cs : List (List ℕ)) (t : List ℕ) → length (tailed w cs t) ≡ room cs + length t
unfolding tailed
tailed_length w [] t = omega arith
tailed_length w (c ∷ cs) t = omega (arith, length-append c (tailed w cs t), tailed_length w cs t)

pub printed_length : (w : ℕ) (c : List ℕ) (cs : List (List ℕ)) (n : List ℕ) → suc (length (printed w c cs n)) ≡ room (c ∷ cs) + length (remark w n)
unfolding printed
printed_length w c cs n = omega (arith, length-append c (tailed w cs (remark w n)), tailed_length w cs (remark w n))

-- ---- not ignored

white_no_percent : (b : ℕ) → white b ≡ true → eqb b 37 ≡ false
white_no_percent b e = ne_eqb b 37 (λ q. false≢true (sym (ap white q) ∙ e))

ignored_one : (a : ℕ) (x : List ℕ) → white a ≡ false → goes_on x ≡ false → ignored (a ∷ x) ≡ false
unfolding ignored
ignored_one a [] e g = e
ignored_one a (b ∷ bs) e g = rw (e, white_no_percent b (not-false (white b) g), and-false (eqb a 37))

-- what stands behind the first column doesn't matter
pub ignored_first : (c x : List ℕ) → solid c ≡ true → goes_on x ≡ false → ignored (c ++ x) ≡ ignored c
unfolding ignored
ignored_first [] x s g = absurd (false≢true s)
ignored_first (a ∷ []) x s g =
    let e : white a ≡ false = not-true (white a) (and_left (black a) true s) in
    ignored_one a x e g ∙ sym e
ignored_first (a ∷ b ∷ bs) x s g = rw (not-true (white a) (and_left (black a) (every black (b ∷ bs)) s))

-- ---- printed anew

module _ (w : ℕ) (h : white w ≡ true) (k : legal w ≡ true) where
  pub printed_fit : (c : List ℕ) (cs : List (List ℕ)) (n : List ℕ) → solid c ≡ true → ignored c ≡ false → every (every legal) (c ∷ cs) ≡ true → every legal n ≡ true
      → room (c ∷ cs) + length (remark w n) ≤ suc line_limit → LineFit (printed w c cs n)
  unfolding printed
  printed_fit c cs n s i a b r =
      record {
        lawful = printed_lawful w k c cs n a b;
        short = omega (arith, printed_length w c cs n);
        seen = ignored_first c (tailed w cs (remark w n)) s (goes_printed w h cs n) ∙ i;
      }

  -- of a line that is begun by its first column: what is printed from its columns and its comment
  pub again_fit : (at : ℕ) (bs : List ℕ) (c : List ℕ) (cs : List (List ℕ)) → LineFit bs → goes_on bs ≡ true → bytes_of (fields (columns_from at bs)) ≡ c ∷ cs
      → solid c ≡ true → ignored c ≡ false → LineFit (printed w c cs (comment (columns_from at bs)).bytes)
  again_fit at bs c cs f g e s i =
      printed_fit c cs (comment (columns_from at bs)).bytes s i (sym (ap (every (every legal)) e) ∙ line_fields_lawful at bs f.lawful)
      (line_comment_lawful at bs f.lawful) (omega (arith, line_room w at bs, ap room e, ap unled g, f.short))
