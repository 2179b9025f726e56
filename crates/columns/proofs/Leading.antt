-- Laws of the leading bytes that pass a test: seen from the place that a loop has come to, and as a run with what stands
-- behind it. By one step along the bytes.
use Prim.Native.Nat.{ℕ, suc, ◌+◌, ◌≤◌, ◌<◌, suc-le-suc}
use native.Mathlib.Nat.{add-zero, add-suc, suc-add}
use native.Mathlib.Numerals.{add-one}
use native.Mathlib.Omega.{arith}
use mathlib.Core.Path.{◌≡◌, refl, sym, ap, ◌∙◌}
use mathlib.Core.Bool.{Bool, true, false, not, ◌&&◌, ◌||◌, beq}
use mathlib.Core.List.{List, [], ◌∷◌}
use lib.ListN.{length, take, drop, get_or, drop_of_length-le}
use lib.Seq.{drop-cons}
use Rattle.rules.specs.Lists.{pick, every, any}
use Rattle.rules.specs.Bytes.{white}
use Rattle.rules.specs.Columns.{goes_on}
use Rattle.columns.specs.Leading.{run_length, solid, in_run}

module _ (f : ℕ → Bool) (s : List ℕ) (i : ℕ) where
  pub leading_stop : i < length s → f (get_or s i 0) ≡ false → i + run_length f (drop i s) ≡ i
  unfolding run_length
  leading_stop h e = rw (drop-cons s i 0, e, add-zero)

  pub leading_more : i < length s → f (get_or s i 0) ≡ true → i + run_length f (drop i s) ≡ i + 1 + run_length f (drop (i + 1) s)
  unfolding run_length
  leading_more h e = rw (drop-cons s i 0, e, add-one, add-suc, suc-add)

  pub leading_end : length s ≤ i → i + run_length f (drop i s) ≡ i
  unfolding run_length
  leading_end h = rw (drop_of_length-le s h, add-zero)

-- there are no more of them than bytes
pub leading_within : (f : ℕ → Bool) (s : List ℕ) → run_length f s ≤ length s
unfolding run_length
leading_within f [] = omega arith
leading_within f (b ∷ bs) = go (f b) (leading_within f bs)
  where
    go : (t : Bool) → run_length f bs ≤ length bs → pick t (suc (run_length f bs)) 0 ≤ suc (length bs)
    go true h = suc-le-suc h
    go false h = omega arith

-- each of them passes
pub leading_every : (f : ℕ → Bool) (s : List ℕ) → every f (take (run_length f s) s) ≡ true
unfolding run_length
leading_every f [] = refl
leading_every f (b ∷ bs) = go (f b) refl (leading_every f bs)
  where
    go : (t : Bool) → f b ≡ t → every f (take (run_length f bs) bs) ≡ true → every f (take (pick t (suc (run_length f bs)) 0) (b ∷ bs)) ≡ true
    go true e h = rw (e, h)
    go false e h = refl

-- the first byte behind them doesn't
pub leading_behind : (f : ℕ → Bool) (s : List ℕ) (b : ℕ) (rest : List ℕ) → drop (run_length f s) s ≡ b ∷ rest → f b ≡ false
unfolding run_length
leading_behind f [] b rest q = cc
leading_behind f (x ∷ s) b rest q = go (f x) refl q (leading_behind f s b rest)
  where
    go : (t : Bool) → f x ≡ t → drop (pick t (suc (run_length f s)) 0) (x ∷ s) ≡ b ∷ rest → (drop (run_length f s) s ≡ b ∷ rest → f b ≡ false) → f b ≡ false
    go true e q h = h q
    go false e q h = cc

-- bytes of a column are bytes with no white one
pub none_white : (s : List ℕ) → every solid s ≡ true → any white s ≡ false
none_white [] e = refl
none_white (b ∷ bs) e = go (white b) e (none_white bs)
  where
    go : (t : Bool) → not t && every solid bs ≡ true → (every solid bs ≡ true → any white bs ≡ false) → t || any white bs ≡ false
    go true e h = cc
    go false e h = h e

-- a column doesn't go on behind them
pub leading_column : (s : List ℕ) → goes_on (drop (run_length solid s) s) ≡ false
leading_column s = go (drop (run_length solid s) s) refl
  where
    go : (rest : List ℕ) → drop (run_length solid s) s ≡ rest → goes_on rest ≡ false
    go [] q = refl
    go (b ∷ rest) q = leading_behind solid s b rest q

-- the run goes on unless the byte's test is the one that ends it
pub in_run_lem : (in_column : Bool) (b : ℕ) {w : Bool} → w ≡ white b → in_run in_column b ≡ not (beq w in_column)
in_run_lem in_column b {w} e = ap (λ (t : Bool). pick in_column (not t) t) (sym e) ∙ by in_column w
  where
    by : (c t : Bool) → pick c (not t) t ≡ not (beq t c)
    by true true = refl
    by true false = refl
    by false true = refl
    by false false = refl
