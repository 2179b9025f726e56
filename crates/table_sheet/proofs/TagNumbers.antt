-- The number of a tag, by its length: one law for each way out of `number_of`.
use Prim.Native.Nat.{ℕ, ◌≤◌, ◌<◌}
use native.Mathlib.Omega.{arith}
use mathlib.Core.Path.{◌≡◌, refl}
use mathlib.Core.List.{List}
use lib.ListN.{length}
use borrow.Author.Tests.{eq-eqb, ne_eqb, lt-ltb, le-ltb}
use Rattle.table_sheet.specs.Hints.{few_bytes, some_bytes, number_at, tag_number}

module _ (tag : List ℕ) where
  pub number_none : length tag ≡ 0 → 0 ≡ tag_number tag
  unfolding tag_number
  number_none e = rw (eq-eqb (length tag) 0 e) refl

  pub number_few : (length tag ≡ 0 → ⊥) → length tag < 4 → few_bytes tag ≡ tag_number tag
  unfolding tag_number
  number_few d h = rw (ne_eqb (length tag) 0 d, lt-ltb (length tag) 4 h) refl

  pub number_some : 4 ≤ length tag → length tag < 8 → some_bytes tag ≡ tag_number tag
  unfolding tag_number
  number_some h k =
      rw (ne_eqb (length tag) 0 (λ e. omega (arith, h, e)), le-ltb (length tag) 4 h, lt-ltb (length tag) 8 k) refl

  pub number_more : 8 ≤ length tag → number_at tag 0 (length tag) ≡ tag_number tag
  unfolding tag_number
  number_more h =
      rw (ne_eqb (length tag) 0 (λ e. omega (arith, h, e)), le-ltb (length tag) 4 (omega (arith, h)), le-ltb (length tag) 8 h) refl
