-- What a quick look at a column's two numbers and its first byte tells of its text.
use Prim.Native.Nat.{ℕ, ◌+◌, ◌-◌, ◌*◌, ◌≤◌, ◌<◌}
use native.Mathlib.Nat.{add-zero}
use native.Mathlib.Numerals.{add-one}
use native.Mathlib.Omega.{arith}
use mathlib.Core.Path.{◌≡◌, refl, sym, ap, subst, ◌∙◌}
use mathlib.Core.Bool.{true, false}
use mathlib.Core.List.{List, [], ◌∷◌}
use borrow.Author.Tests.{le-leb, ne_eqb}
use lib.ListN.{length, take, drop, get_or, length-drop}
use lib.Seq.{length-take-le, drop-cons, get_or-take, get_or-drop}
use Rattle.rules.specs.Lists.{same}
use Rattle.rules.specs.Bytes.{percents}
use Rattle.rules.specs.Texts.{Text, reads, behind_hash}
use Rattle.rules.specs.Columns.{written}
use Rattle.rules.specs.Tables.{Tables, known, tag_limit}
use Rattle.columns.specs.Listing.{columns_of, Listed}
use Rattle.columns.specs.declared.listing.Line.{Line}
use Rattle.columns.proofs.ListedColumns.{Bounded, start_at, end_at, bounds_at, text_at}
use Rattle.nodes.specs.PlainFields.{PlainTag}

-- another first byte, another text
pub other_first : (b : ℕ) (bs xs : List ℕ) → (get_or xs 0 0 ≡ b → ⊥) → same xs (b ∷ bs) ≡ false
other_first b bs [] n = refl
other_first b bs (x ∷ xs) n = rw (ne_eqb x b n)

module _ (file : List ℕ) (line : Line) (places : List ℕ) (h : Listed file line places) (k : ℕ) (b : k < line.columns) where
  abbrev from : ℕ
  from = get_or places (2 * k) 0

  abbrev size : ℕ
  size = get_or places (2 * k + 1) 0 - from

  bounded : Bounded line from (get_or places (2 * k + 1) 0)
  bounded = bounds_at file line places h k b

  first : get_or (take size (drop from file)) 0 0 ≡ get_or file from 0
  first = get_or-take size (drop from file) 0 0 (omega (arith, bounded.some)) ∙ get_or-drop from file 0 0 ∙ ap (λ (n : ℕ). get_or file n 0) (add-zero from)

  pub some_bytes : length (written (columns_of file line) k).bytes ≡ 0 → ⊥
  some_bytes e = omega (arith, e, bounded.some, start_at file line places h k b, end_at file line places h k b)

  pub first_byte_lem : get_or (written (columns_of file line) k).bytes 0 0 ≡ get_or file from 0
  first_byte_lem = ap (λ (t : Text). get_or t.bytes 0 0) (sym (text_at file line places h k b)) ∙ first

  pub not_percents : (get_or file from 0 ≡ 37 → ⊥) → reads percents (written (columns_of file line) k) ≡ false
  not_percents n = other_first 37 (37 ∷ []) (written (columns_of file line) k).bytes (λ e. n (sym first_byte_lem ∙ e))

  pub plain_tag : (ts : Tables) (table : ℕ) → size ≤ tag_limit table → (get_or file from 0 ≡ 37 → ⊥)
      → ((at : ℕ) → known ts table (record { start = at; bytes = take size (drop from file) }) ≡ true) → PlainTag ts table (written (columns_of file line) k)
  plain_tag ts table s n e =
      let l : length (take size (drop from file)) ≡ size =
      length-take-le size (drop from file) (omega (arith, length-drop from file, bounded.some, bounded.inside, h.inside)) in
      subst (PlainTag ts table) (text_at file line places h k b)
      (record { field = ap (reads percents) (text_at file line places h k b) ∙ not_percents n; short = le-leb (length (take size (drop from file))) (tag_limit table) (omega (arith, l)); listed = e from })

  pub three_bytes : size ≡ 3 → (written (columns_of file line) k).bytes ≡ take 3 (drop from file)
  three_bytes e = ap (λ (t : Text). t.bytes) (sym (text_at file line places h k b)) ∙ ap (λ (n : ℕ). take n (drop from file)) e

  -- three digits behind its first byte
  pub behind_first : size ≡ 4 → (behind_hash (written (columns_of file line) k)).bytes ≡ take 3 (drop (from + 1) file)
  behind_first e =
      let i : from < length file = omega (arith, bounded.some, bounded.inside, h.inside) in
      ap (λ (t : Text). drop 1 t.bytes) (sym (text_at file line places h k b))
      ∙ ap (λ (n : ℕ). drop 1 (take n (drop from file))) e
      ∙ ap (λ (bs : List ℕ). drop 1 (take 4 bs)) (drop-cons file from 0 i)
      ∙ ap (λ (n : ℕ). take 3 (drop n file)) (sym (add-one from))
