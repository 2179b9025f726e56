-- The rows of a table as read and as said: what the rows in front tell of an id, a tag and the room for one more.
use Prim.Native.Nat.{ℕ, ◌≤◌}
use native.Mathlib.Omega.{arith}
use mathlib.Core.Path.{◌≡◌, sym, ap, ◌∙◌}
use mathlib.Core.Logic.{◌↔◌}
use mathlib.Core.Bool.{true}
use Rattle.std.specs.Prelude.{None}
use mathlib.Core.List.{List, [], ◌∷◌, ◌++◌, map}
use lib.ListN.{length, length-append}
use lib.Dec.{ltb}
use borrow.Author.Tests.{ltb-true, lt-ltb}
use Rattle.rules.specs.Texts.{Text}
use Rattle.rules.specs.Numbers.{row_limit}
use Rattle.rules.specs.Tables.{Row, has_id, has_tag}
use Rattle.rules.specs.Rows.{last_id, follows}
use Rattle.rules.specs.GrammarLines.{In}
use Rattle.rules.specs.GrammarContent.{RowContent}
use Rattle.rules.specs.GrammarSurvey.{row_read}
use Rattle.rules.specs.GrammarRows.{RowLine, row_says, ids1, firsts}
use Rattle.rules.specs.GrammarTables.{IdsInOrder}
use Rattle.rules.proofs.Elements.{map_append, map_map, maps_more}
use Rattle.rules.proofs.SaidOfLists.{length_map}
use Rattle.rules.proofs.TestsAsFacts.{has_id_lem, has_tag_lem, ids_of, firsts_of}
use Rattle.rules.proofs.IdsInOrder.{chained_more, chained_next, last_id_lem, ordered_chained, chained_ordered, last_of}

-- ---- the rows of a reading, and those of the grammar

-- row by row the same, places left out
abbrev pub AlikeRow : Row → RowLine → Type 0
AlikeRow r row = row_read r ≡ row_says row

pub content_equal : {i j : ℕ} {x y u v : List ℕ} {f g : ℕ} → i ≡ j → x ≡ y → u ≡ v → f ≡ g
    → ◌≡◌ {A = RowContent} (record { id1 = i; first = x; second = u; flag = f }) (record { id1 = j; first = y; second = v; flag = g })
content_equal p q s t = cc

abbrev pub Alike : List Row → List RowLine → Type 0
Alike rs rows = map row_read rs ≡ map row_says rows

pub alike_more : (rs : List Row) (rows : List RowLine) (r : Row) (row : RowLine) → Alike rs rows → AlikeRow r row → Alike (rs ++ (r ∷ [])) (rows ++ (row ∷ []))
alike_more rs rows r row a o = maps_more row_read row_says rs rows r row a o

pub alike_ids : (rs : List Row) (rows : List RowLine) → Alike rs rows → ids_of rs ≡ ids1 rows
alike_ids rs rows a =
    sym (map_map (λ (r : RowContent). r.id1) row_read rs) ∙ ap (map (λ (r : RowContent). r.id1)) a ∙ map_map (λ (r : RowContent). r.id1) row_says rows

pub alike_texts : (rs : List Row) (rows : List RowLine) → Alike rs rows → firsts_of rs ≡ firsts rows
alike_texts rs rows a =
    sym (map_map (λ (r : RowContent). r.first) row_read rs) ∙ ap (map (λ (r : RowContent). r.first)) a ∙ map_map (λ (r : RowContent). r.first) row_says rows

pub alike_length : (rs : List Row) (rows : List RowLine) → Alike rs rows → length rs ≡ length rows
alike_length rs rows a = sym (length_map row_read rs) ∙ ap length a ∙ length_map row_says rows

-- ---- what the rows in front tell

module _ (rs : List Row) (rows : List RowLine) (a : Alike rs rows) where
  pub has_id_alike : (i : ℕ) → (has_id i rs ≡ true) ↔ In i (ids1 rows)
  has_id_alike i = rw (alike_ids rs rows a) at (has_id_lem i rs)

  pub has_tag_alike : (t : Text) → (has_tag t rs ≡ true) ↔ In t.bytes (firsts rows)
  has_tag_alike t = rw (alike_texts rs rows a) at (has_tag_lem t rs)

  pub room_next : (row : RowLine) → ltb (length rs) row_limit ≡ true → length (rows ++ (row ∷ [])) ≤ row_limit
  room_next row h = omega (arith, ltb-true (length rs) row_limit h, alike_length rs rows a, length-append rows (row ∷ []))

  pub next_room : (row : RowLine) (more : List RowLine) → length (rows ++ (row ∷ more)) ≤ row_limit → ltb (length rs) row_limit ≡ true
  next_room row more h = lt-ltb (length rs) row_limit (omega (arith, alike_length rs rows a, length-append rows (row ∷ more)))

  pub next_in_order : (i : ℕ) (row : RowLine) → row.id1 ≡ i → IdsInOrder (ids1 rows) → follows (last_id rs) i ≡ true → IdsInOrder (ids1 (rows ++ (row ∷ [])))
  next_in_order i row e o h =
      let last : last_of None (ids1 rows) ≡ last_id rs = ap (last_of None) (sym (alike_ids rs rows a)) ∙ last_id_lem rs in
      rw (map_append (λ (r : RowLine). r.id1) rows (row ∷ []), e)
      (chained_ordered (ids1 rows ++ (i ∷ [])) (chained_more None (ids1 rows) i (ordered_chained (ids1 rows) o) (rw last h)))

  pub in_order_next : (row : RowLine) (more : List RowLine) → IdsInOrder (ids1 (rows ++ (row ∷ more))) → follows (last_id rs) row.id1 ≡ true
  in_order_next row more o =
      let last : last_of None (ids1 rows) ≡ last_id rs = ap (last_of None) (sym (alike_ids rs rows a)) ∙ last_id_lem rs in
      rw (← last)
      (chained_next None (ids1 rows) row.id1 (ids1 more)
      (ordered_chained (ids1 rows ++ ids1 (row ∷ more)) (rw (map_append (λ (r : RowLine). r.id1) rows (row ∷ more)) at o)))
