-- What the end found of a line tells of its bytes: laws that callers cite, by cases on what was found.
use mathlib.Core.Path.{◌≡◌, refl, sym, ap, ◌∙◌, subst}
use mathlib.Core.Bool.{Bool, true, false, ◌||◌}
use mathlib.Core.List.{List, [], ◌∷◌, ◌++◌}
use Prim.Native.Nat.{ℕ, suc, ◌+◌, ◌-◌, ◌≤◌, ◌<◌}
use native.Mathlib.Omega.{arith}
use borrow.Author.Tests.{eqb-true, leb-true, leb-false}
use lib.Dec.{leb}
use lib.ListN.{length, take, drop, length-drop, length-append}
use lib.Seq.{take-add, take_at, drop_at, drop-drop, length-take-le}
use Rattle.rules.specs.Lists.{pick, every}
use Rattle.rules.specs.Bytes.{newline, legal}
use Rattle.rules.specs.Numbers.{line_limit}
use Rattle.lines.specs.LineEnds.{ends, has_end, first_line, end_found, line_end}
use Rattle.std.specs.Prelude.{Result}
use Rattle.lines.specs.declared.Unreadable.{Unreadable}
use Rattle.std.specs.Prelude.{Ok, Err}
use Rattle.lines.specs.declared.Unreadable.TheVariants.{Unended, Illegal, TooLong}

-- ---- a line and what follows it

-- no byte of a line is the newline
pub line_unbroken : (bs : List ℕ) → has_end (first_line bs) ≡ false
unfolding first_line
line_unbroken [] = refl
line_unbroken (b ∷ bs) = go (ends b) refl (line_unbroken bs)
  where
    go : (t : Bool) → ends b ≡ t → has_end (first_line bs) ≡ false → has_end (pick t [] (b ∷ first_line bs)) ≡ false
    go true e ih = refl
    go false e ih = rw (e, ih)

-- a line that is ended is followed by its newline
pub line_split : (bs : List ℕ) → has_end bs ≡ true → bs ≡ first_line bs ++ (newline ∷ drop (suc (length (first_line bs))) bs)
unfolding first_line
line_split [] h = (cc)
line_split (b ∷ bs) h = go (ends b) refl h (line_split bs)
  where
    go : (t : Bool)
        → ends b ≡ t
        → (t || has_end bs) ≡ true
        → (has_end bs ≡ true → bs ≡ first_line bs ++ (newline ∷ drop (suc (length (first_line bs))) bs))
        → b ∷ bs ≡ pick t [] (b ∷ first_line bs) ++ (newline ∷ drop (length (pick t [] (b ∷ first_line bs))) bs)
    go true e h ih = ap (λ (n : ℕ). n ∷ bs) (eqb-true b newline e)
    go false e h ih = ap (λ (l : List ℕ). b ∷ l) (ih h)

module _ (file : List ℕ) (at : ℕ) (ended : has_end (drop at file) ≡ true) where
  pub ended_split : drop at file ≡ first_line (drop at file) ++ (newline ∷ drop (at + length (first_line (drop at file)) + 1) file)
  ended_split =
      let line = first_line (drop at file) in
      let k : at + suc (length line) ≡ at + length line + 1 = omega arith in
      line_split (drop at file) ended
      ∙ ap (λ (l : List ℕ). line ++ (newline ∷ l)) (drop-drop (suc (length line)) at file ∙ ap (λ (n : ℕ). drop n file) k)

  pub ended_below : at + length (first_line (drop at file)) < length file
  ended_below =
      let line = first_line (drop at file) in
      let d : length (drop at file) ≡ length file - at = length-drop at file in
      let l = ap length (line_split (drop at file) ended) ∙ length-append line (newline ∷ drop (suc (length line)) (drop at file)) in
      omega arith

-- ---- what was found

-- what a finding tells of the line at a place, with the rest of the file behind that place
abbrev Told : ℕ → List ℕ → Result ℕ Unreadable → Type 0
Told at rest (Ok e) =
    (has_end rest ≡ true) × (every legal (first_line rest) ≡ true) × (length (first_line rest) ≤ line_limit) × (e ≡ at + length (first_line rest))
Told at rest (Err Unended) = has_end rest ≡ false
Told at rest (Err Illegal) = (has_end rest ≡ true) × (every legal (first_line rest) ≡ false)
Told at rest (Err TooLong) = (has_end rest ≡ true) × (every legal (first_line rest) ≡ true) × (line_limit < length (first_line rest))

told : (file : List ℕ) (at : ℕ) → Told at (drop at file) (line_end file at)
unfolding line_end end_found
told file at = go (has_end rest) (every legal (first_line rest)) (leb (length (first_line rest)) line_limit) refl refl refl
  where
    rest : List ℕ
    rest = drop at file

    go : (t u v : Bool)
        → has_end rest ≡ t
        → every legal (first_line rest) ≡ u
        → leb (length (first_line rest)) line_limit ≡ v
        → Told at rest (pick t (pick u (pick v (Ok (at + length (first_line rest))) (Err TooLong)) (Err Illegal)) (Err Unended))
    go true true true ended sound short = (ended, sound, leb-true _ _ short, refl)
    go true true false ended sound long = (ended, sound, leb-false _ _ long)
    go true false v ended marred short = (ended, marred)
    go false u v unended sound short = unended

-- ---- the line may be read, and its newline stands at e

module _ (file : List ℕ) (at e : ℕ) (q : line_end file at ≡ Ok e) where
  told_at : Told at (drop at file) (Ok e)
  told_at = subst (Told at (drop at file)) q (told file at)

  pub at_ended : has_end (drop at file) ≡ true
  at_ended = told_at.0

  pub at_legal : every legal (first_line (drop at file)) ≡ true
  at_legal = told_at.1

  pub at_short : length (first_line (drop at file)) ≤ line_limit
  at_short = told_at.2

  pub at_place : e ≡ at + length (first_line (drop at file))
  at_place = told_at.3

  pub at_behind : at ≤ e
  at_behind = let p = at_place in omega arith

  pub at_below : e < length file
  at_below = let p = at_place in let b = ended_below file at at_ended in omega arith

  pub at_split : drop at file ≡ first_line (drop at file) ++ (newline ∷ drop (e + 1) file)
  at_split = ended_split file at at_ended ∙ ap (λ (n : ℕ). first_line (drop at file) ++ (newline ∷ drop (n + 1) file)) (sym at_place)

  pub at_take : take (e - at) (drop at file) ≡ first_line (drop at file)
  at_take =
      let p = at_place in
      let n : length (first_line (drop at file)) ≡ e - at = omega arith in
      ap (take (e - at)) at_split ∙ take_at (first_line (drop at file)) (newline ∷ drop (e + 1) file) (e - at) n

  -- the line is what stands behind `at` in the file up to the line's end
  pub at_head : drop at (take e file) ≡ first_line (drop at file)
  at_head =
      let b = at_below in
      let p = at_behind in
      let k : e ≡ at + (e - at) = omega arith in
      let n : length (take at file) ≡ at = length-take-le at file (omega arith) in
      ap (λ (m : ℕ). drop at (take m file)) k
      ∙ ap (drop at) (take-add at (e - at) file)
      ∙ drop_at (take at file) (take (e - at) (drop at file)) at n
      ∙ at_take

-- ---- the line may not be read

module _ (file : List ℕ) (at : ℕ) (q : line_end file at ≡ Err Unended) where
  pub unended_none : has_end (drop at file) ≡ false
  unended_none = subst (Told at (drop at file)) q (told file at)

module _ (file : List ℕ) (at : ℕ) (q : line_end file at ≡ Err Illegal) where
  told_illegal : Told at (drop at file) (Err Illegal)
  told_illegal = subst (Told at (drop at file)) q (told file at)

  pub illegal_ended : has_end (drop at file) ≡ true
  illegal_ended = told_illegal.0

  pub illegal_marred : every legal (first_line (drop at file)) ≡ false
  illegal_marred = told_illegal.1

  pub illegal_split : drop at file ≡ first_line (drop at file) ++ (newline ∷ drop (at + length (first_line (drop at file)) + 1) file)
  illegal_split = ended_split file at illegal_ended

module _ (file : List ℕ) (at : ℕ) (q : line_end file at ≡ Err TooLong) where
  told_long : Told at (drop at file) (Err TooLong)
  told_long = subst (Told at (drop at file)) q (told file at)

  pub long_ended : has_end (drop at file) ≡ true
  long_ended = told_long.0

  pub long_legal : every legal (first_line (drop at file)) ≡ true
  long_legal = told_long.1

  pub long_over : line_limit < length (first_line (drop at file))
  long_over = told_long.2

  pub long_split : drop at file ≡ first_line (drop at file) ++ (newline ∷ drop (at + length (first_line (drop at file)) + 1) file)
  long_split = ended_split file at long_ended
