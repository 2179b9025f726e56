-- How a line starts: its first column, none where a white byte comes first, and whether the line is ignored. By what the
-- first bytes tell of the line's columns.
use Prim.Native.Nat.{ℕ, suc, ◌≤◌, ◌<◌}
use native.Mathlib.Omega.{arith}
use mathlib.Core.Path.{◌≡◌, refl, sym, ap, ◌∙◌}
use mathlib.Core.Bool.{Bool, true, false, not, ◌&&◌, ◌||◌, and-true, or-false}
use mathlib.Core.List.{List, [], ◌∷◌}
use borrow.Author.Tests.{eq-eqb, ne_eqb}
use lib.Dec.{eqb}
use lib.ListN.{length, get_or}
use Rattle.rules.specs.Lists.{pick, every, same}
use Rattle.rules.specs.Bytes.{white, percents, ignored}
use Rattle.rules.specs.Texts.{Text, no_text}
use Rattle.rules.specs.Columns as lines
use Rattle.rules.specs.Keywords.{leading_white, first_column}
use Rattle.rules.proofs.ColumnLaws.{columns_white}
use Rattle.rules.proofs.Conjunctions.{and_left, and_right, and_both, or_found}
use Rattle.columns.proofs.Stands.{start_of}
use Rattle.columns.proofs.Trimming.{first_start, some_columns}

-- ---- the first column

first_from : (at : ℕ) (xs : List ℕ) (c : lines.Column) (cs : List lines.Column) → lines.columns_from at xs ≡ c ∷ cs → at ≤ c.text.start
unfolding lines.columns_from
first_from at [] c cs q = absurd (let z : ◌≡◌ {A = ℕ} 0 1 = cc in omega arith)
first_from at (b ∷ bs) c cs q = go (white b) refl (first_from (suc at) bs c cs)
  where
    go : (t : Bool) → white b ≡ t → (lines.columns_from (suc at) bs ≡ c ∷ cs → suc at ≤ c.text.start) → at ≤ c.text.start
    go true e h = omega (arith, h (sym (columns_white at b bs e) ∙ q))
    go false e h = omega (arith, first_start at (b ∷ bs) c cs (ap not e) q)

pub first_none : (t : Text) → length (lines.columns t) ≡ 0 → (first_column t).bytes ≡ []
unfolding first_column
first_none t n = go (leading_white t.bytes) (lines.columns t) n
  where
    go : (w : Bool) (cs : List lines.Column) → length cs ≡ 0 → (pick w no_text (lines.written cs 0)).bytes ≡ []
    go true cs n = refl
    go false [] n = refl
    go false (c ∷ cs) n = absurd (omega arith)

-- the first column starts where the line does, or a white byte comes first
module _ (at : ℕ) (xs : List ℕ) (some : 0 < length (lines.columns_from at xs)) where
  later : leading_white xs ≡ true → at < start_of (lines.columns_from at xs) 0
  later w = go xs refl (lines.columns_from at xs) refl
    where
      go : (ys : List ℕ) → xs ≡ ys → (cs : List lines.Column) → lines.columns_from at xs ≡ cs → at < start_of cs 0
      go [] e cs q = absurd (let z : ◌≡◌ {A = ℕ} 0 1 = cc (ap leading_white e) in omega arith)
      go (b ∷ bs) e [] q = absurd (omega (arith, ap length q))
      go (b ∷ bs) e (c ∷ cs) q =
          let f : white b ≡ true = sym (ap leading_white e) ∙ w in
          first_from (suc at) bs c cs (sym (columns_white at b bs f) ∙ ap (lines.columns_from at) (sym e) ∙ q)

  here : leading_white xs ≡ false → start_of (lines.columns_from at xs) 0 ≡ at
  unfolding lines.columns_from
  here w = go xs refl (lines.columns_from at xs) refl
    where
      go : (ys : List ℕ) → xs ≡ ys → (cs : List lines.Column) → lines.columns_from at xs ≡ cs → start_of cs 0 ≡ at
      go ys e [] q = absurd (omega (arith, ap length q))
      go [] e (c ∷ cs) q = absurd (let z : ◌≡◌ {A = ℕ} 0 1 = cc (ap (lines.columns_from at) e) in omega arith)
      go (b ∷ bs) e (c ∷ cs) q =
          let f : white b ≡ false = sym (ap leading_white e) ∙ w in
          first_start at (b ∷ bs) c cs (ap not f) (ap (lines.columns_from at) (sym e) ∙ q)

module _ (t : Text) (some : 0 < length (lines.columns t)) where
  pub first_later : (start_of (lines.columns t) 0 ≡ t.start → ⊥) → (first_column t).bytes ≡ []
  unfolding first_column
  first_later n = go (leading_white t.bytes) refl
    where
      go : (w : Bool) → leading_white t.bytes ≡ w → (pick w no_text (lines.written (lines.columns t) 0)).bytes ≡ []
      go true e = refl
      go false e = absurd (n (here t.start t.bytes some e))

  pub first_here : start_of (lines.columns t) 0 ≡ t.start → first_column t ≡ lines.written (lines.columns t) 0
  unfolding first_column
  first_here s = go (leading_white t.bytes) refl
    where
      go : (w : Bool) → leading_white t.bytes ≡ w → pick w no_text (lines.written (lines.columns t) 0) ≡ lines.written (lines.columns t) 0
      go true e = absurd (omega (arith, later t.start t.bytes some e))
      go false e = refl

-- ---- a line that is ignored

no_columns : (at : ℕ) (xs : List ℕ) → every white xs ≡ true → lines.columns_from at xs ≡ []
unfolding lines.columns_from
no_columns at [] e = refl
no_columns at (b ∷ bs) e =
    columns_white at b bs (and_left (white b) (every white bs) e) ∙ no_columns (suc at) bs (and_right (white b) (every white bs) e)

all_white : (at : ℕ) (xs : List ℕ) → length (lines.columns_from at xs) ≡ 0 → every white xs ≡ true
all_white at [] n = refl
all_white at (b ∷ bs) n = go (white b) refl (all_white (suc at) bs)
  where
    go : (t : Bool) → white b ≡ t → (length (lines.columns_from (suc at) bs) ≡ 0 → every white bs ≡ true) → every white (b ∷ bs) ≡ true
    go true e h = and_both (white b) (every white bs) e (h (sym (ap length (columns_white at b bs e)) ∙ n))
    go false e h = absurd (omega (arith, some_columns at (b ∷ bs) (ap not e)))

not_white : (at : ℕ) (xs : List ℕ) → 0 < length (lines.columns_from at xs) → every white xs ≡ false
not_white at xs h = go (every white xs) refl
  where
    go : (t : Bool) → every white xs ≡ t → t ≡ false
    go true e = absurd (omega (arith, ap length (no_columns at xs e)))
    go false e = refl

seen_white : (xs : List ℕ) → every white xs ≡ true → ignored xs ≡ true
unfolding ignored
seen_white [] e = refl
seen_white (a ∷ []) e = and_left (white a) true e
seen_white (a ∷ b ∷ bs) e = or_found (same (a ∷ b ∷ []) percents) (every white (a ∷ b ∷ bs)) e

seen_short : (xs : List ℕ) → every white xs ≡ false → length xs < 2 → ignored xs ≡ false
unfolding ignored
seen_short [] e h = e
seen_short (a ∷ []) e h = sym (and-true (white a)) ∙ e
seen_short (a ∷ b ∷ bs) e h = absurd (omega arith)

seen_first : (xs : List ℕ) → every white xs ≡ false → 2 ≤ length xs → (get_or xs 0 0 ≡ 37 → ⊥) → ignored xs ≡ false
unfolding ignored
seen_first [] e h n = absurd (omega arith)
seen_first (a ∷ []) e h n = absurd (omega arith)
seen_first (a ∷ b ∷ bs) e h n = ap (λ (t : Bool). (t && (eqb b 37 && true)) || every white (a ∷ b ∷ bs)) (ne_eqb a 37 n) ∙ e

seen_second : (xs : List ℕ) → every white xs ≡ false → 2 ≤ length xs → get_or xs 0 0 ≡ 37 → ignored xs ≡ eqb (get_or xs 1 0) 37
unfolding ignored
seen_second [] e h f = absurd (omega arith)
seen_second (a ∷ []) e h f = absurd (omega arith)
seen_second (a ∷ b ∷ bs) e h f =
    ap (λ (t : Bool). (t && (eqb b 37 && true)) || every white (a ∷ b ∷ bs)) (eq-eqb a 37 f)
    ∙ ap (λ (t : Bool). (eqb b 37 && true) || t) e
    ∙ or-false (eqb b 37 && true)
    ∙ and-true (eqb b 37)

pub ignored_white : (at : ℕ) (xs : List ℕ) → length (lines.columns_from at xs) ≡ 0 → ignored xs ≡ true
ignored_white at xs n = seen_white xs (all_white at xs n)

module _ (at : ℕ) (xs : List ℕ) (some : 0 < length (lines.columns_from at xs)) where
  pub ignored_short : length xs < 2 → ignored xs ≡ false
  ignored_short h = seen_short xs (not_white at xs some) h

  pub ignored_first : 2 ≤ length xs → (get_or xs 0 0 ≡ 37 → ⊥) → ignored xs ≡ false
  ignored_first h n = seen_first xs (not_white at xs some) h n

  pub ignored_second : 2 ≤ length xs → get_or xs 0 0 ≡ 37 → ignored xs ≡ eqb (get_or xs 1 0) 37
  ignored_second h e = seen_second xs (not_white at xs some) h e
