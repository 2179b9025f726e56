-- A printed line: its columns with one white byte between two, and a comment behind %%. It is read back as those columns
-- and that comment, wherever the line stands. By one step along the columns.
use Prim.Native.Nat.{ℕ, suc, ◌+◌, ◌<◌}
use native.Mathlib.Nat.{zero-lt-suc}
use mathlib.Core.Path.{◌≡◌, refl, sym, ap, ◌∙◌}
use mathlib.Core.Bool.{Bool, true, false, not, ◌&&◌, false≢true}
use mathlib.Core.List.{List, [], ◌∷◌, ◌++◌, map, append_assoc, append-nil}
use lib.ListN.{length, drop}
use borrow.Author.Tests.{not-true}
use Rattle.rules.specs.Lists.{pick, empty, every, any, same}
use Rattle.rules.specs.Bytes.{newline, white, percents}
use Rattle.rules.specs.Texts.{Text, bare}
use Rattle.rules.specs.Columns.{Column, goes_on, columns_from, fields, comment}
use Rattle.rules.specs.Tidy.{parted, commented}
use Rattle.rules.proofs.Conjunctions.{and_left, and_right}
use Rattle.rules.proofs.ColumnLaws.{column_of, columns_white, columns_run}
use Rattle.rules.proofs.TrimLaws.{Trimmed, trim_white, trim_trimmed}

-- a text without its place
abbrev pub unplaced : List ℕ → Text
unplaced xs = record { start = 0; bytes = xs }

-- ---- a text that is a column: not empty, and no byte of it white

abbrev pub black : ℕ → Bool
black b = not (white b)

abbrev pub solid : List ℕ → Bool
solid c = not (empty c) && every black c

-- a column that doesn't begin the comment
abbrev pub field : List ℕ → Bool
field c = solid c && not (same c percents)

none_white : (c : List ℕ) → every black c ≡ true → any white c ≡ false
none_white [] e = refl
none_white (b ∷ bs) e = rw (not-true (white b) (and_left (black b) (every black bs) e)) (none_white bs (and_right (black b) (every black bs) e))

pub solid_long : (c : List ℕ) → solid c ≡ true → 0 < length c
solid_long [] e = absurd (false≢true e)
solid_long (b ∷ bs) e = zero-lt-suc (length bs)

pub column_solid : (at : ℕ) (c rest : List ℕ) → solid c ≡ true → goes_on rest ≡ false
    → columns_from at (c ++ rest) ≡ column_of at c rest ∷ columns_from (at + length c) rest
column_solid at c rest s g = columns_run at c rest (solid_long c s) (none_white c (and_right (not (empty c)) (every black c) s)) g

-- ---- the printing

-- the separator in front of each column, then what follows
unfoldable pub tailed : ℕ → List (List ℕ) → List ℕ → List ℕ
tailed w [] t = t
tailed w (c ∷ cs) t = w ∷ (c ++ tailed w cs t)

abbrev pub remark : ℕ → List ℕ → List ℕ
remark w [] = []
remark w (b ∷ bs) = w ∷ 37 ∷ 37 ∷ w ∷ b ∷ bs

-- a line's columns and its comment, without the newline
unfoldable pub printed : ℕ → List ℕ → List (List ℕ) → List ℕ → List ℕ
printed w c cs n = c ++ tailed w cs (remark w n)

tailed_append : (w : ℕ) (cs ds : List (List ℕ)) (t : List ℕ) → tailed w (cs ++ ds) t ≡ tailed w cs (tailed w ds t)
unfolding tailed
tailed_append w [] ds t = refl
tailed_append w (c ∷ cs) ds t = ap (λ (l : List ℕ). w ∷ (c ++ l)) (tailed_append w cs ds t)

tailed_remark : (w : ℕ) (t : Text) → tailed w (commented t) [] ≡ remark w t.bytes
unfolding tailed
tailed_remark w t = by t.bytes
  where
    by : (n : List ℕ) → tailed w (pick (not (empty n)) (percents ∷ n ∷ []) []) [] ≡ remark w n
    by [] = refl
    by (b ∷ bs) = rw append-nil

parted_tailed : (w : ℕ) (c : List ℕ) (cs : List (List ℕ)) → parted w (c ∷ cs) ≡ c ++ (tailed w cs [] ++ (newline ∷ []))
unfolding parted tailed
parted_tailed w c [] = refl
parted_tailed w c (d ∷ ds) = ap (λ (l : List ℕ). c ++ (w ∷ l)) (parted_tailed w d ds ∙ sym (append_assoc d (tailed w ds []) (newline ∷ [])))

-- the definition's line is the printed one and a newline
pub parted_printed : (w : ℕ) (c : List ℕ) (cs : List (List ℕ)) (t : Text) → parted w (c ∷ cs ++ commented t) ≡ printed w c cs t.bytes ++ (newline ∷ [])
unfolding printed
parted_printed w c cs t =
    parted_tailed w c (cs ++ commented t)
    ∙ sym (append_assoc c (tailed w (cs ++ commented t) []) (newline ∷ []))
    ∙ ap (λ (l : List ℕ). (c ++ l) ++ (newline ∷ [])) (tailed_append w cs (commented t) [] ∙ ap (tailed w cs) (tailed_remark w t))

-- a line without a comment
pub parted_plain : (w : ℕ) (c : List ℕ) (cs : List (List ℕ)) → parted w (c ∷ cs) ≡ printed w c cs [] ++ (newline ∷ [])
unfolding printed
parted_plain w c cs = parted_tailed w c cs ∙ sym (append_assoc c (tailed w cs []) (newline ∷ []))

-- ---- reading back

pub fields_field : (c : Column) (cs : List Column) → same c.text.bytes percents ≡ false → fields (c ∷ cs) ≡ c.text ∷ fields cs
unfolding fields
fields_field c cs e = rw e

pub comment_field : (c : Column) (cs : List Column) → same c.text.bytes percents ≡ false → comment (c ∷ cs) ≡ comment cs
unfolding comment
comment_field c cs e = rw e

abbrev pub column_bytes : List Column → List (List ℕ)
column_bytes cs = map (λ (c : Column). c.text.bytes) cs

-- columns of these bytes, and behind them those of what follows
pub record ColumnsThen (cs : List Column) (xs : List (List ℕ)) (rest_bytes : List ℕ) : Type 0 where
  pub at : ℕ
  pub texts : column_bytes cs ≡ xs ++ column_bytes (columns_from at rest_bytes)
  pub rest : drop (length xs) cs ≡ columns_from at rest_bytes

module _ (w : ℕ) (h : white w ≡ true) where
  goes_remark : (n : List ℕ) → goes_on (remark w n) ≡ false
  goes_remark [] = refl
  goes_remark (b ∷ bs) = rw h

  pub goes_tailed : (cs : List (List ℕ)) (t : List ℕ) → goes_on t ≡ false → goes_on (tailed w cs t) ≡ false
  unfolding tailed
  goes_tailed [] t g = g
  goes_tailed (c ∷ cs) t g = rw h

  pub goes_printed : (cs : List (List ℕ)) (n : List ℕ) → goes_on (tailed w cs (remark w n)) ≡ false
  goes_printed cs n = goes_tailed cs (remark w n) (goes_remark n)

  remark_columns : (at b : ℕ) (bs : List ℕ)
      → columns_from at (remark w (b ∷ bs)) ≡ column_of (suc at) percents (w ∷ b ∷ bs) ∷ columns_from (suc at + 2) (w ∷ b ∷ bs)
  remark_columns at b bs = columns_white at w (37 ∷ 37 ∷ w ∷ b ∷ bs) h ∙ column_solid (suc at) percents (w ∷ b ∷ bs) refl (rw h)

  pub remark_fields : (at : ℕ) (n : List ℕ) → fields (columns_from at (remark w n)) ≡ []
  unfolding fields columns_from
  remark_fields at [] = refl
  remark_fields at (b ∷ bs) = ap fields (remark_columns at b bs)

  pub remark_comment : (at : ℕ) (n : List ℕ) → Trimmed n → bare (comment (columns_from at (remark w n))) ≡ unplaced n
  unfolding comment columns_from
  remark_comment at [] t = refl
  remark_comment at (b ∷ bs) t =
      ap (λ (cs : List Column). bare (comment cs)) (remark_columns at b bs)
      ∙ ap bare (trim_white (suc at + 2) w (b ∷ bs) h)
      ∙ ap unplaced (trim_trimmed (suc (suc at + 2)) (b ∷ bs) t)

  module _ (n : List ℕ) where
    -- the columns of a line from its first one on
    pub printed_columns : (at : ℕ) (c : List ℕ) (cs : List (List ℕ)) → solid c ≡ true
        → columns_from at (c ++ tailed w cs (remark w n)) ≡ column_of at c (tailed w cs (remark w n)) ∷ columns_from (at + length c) (tailed w cs (remark w n))
    printed_columns at c cs s = column_solid at c (tailed w cs (remark w n)) s (goes_printed cs n)

    pub tailed_columns : (at : ℕ) (c : List ℕ) (cs : List (List ℕ)) → solid c ≡ true
        → columns_from at (tailed w (c ∷ cs) (remark w n))
        ≡ column_of (suc at) c (tailed w cs (remark w n)) ∷ columns_from (suc at + length c) (tailed w cs (remark w n))
    unfolding tailed
    tailed_columns at c cs s = columns_white at w (c ++ tailed w cs (remark w n)) h ∙ printed_columns (suc at) c cs s

    abbrev bare_fields : List Column → List Text
    bare_fields cs = map bare (fields cs)

    is_field : (c : List ℕ) → field c ≡ true → same c percents ≡ false
    is_field c f = not-true (same c percents) (and_right (solid c) (not (same c percents)) f)

    tailed_fields : (at : ℕ) (cs : List (List ℕ)) → every field cs ≡ true → bare_fields (columns_from at (tailed w cs (remark w n))) ≡ map unplaced cs
    unfolding tailed
    tailed_fields at [] e = ap (map bare) (remark_fields at n)
    tailed_fields at (c ∷ cs) e =
        let f : field c ≡ true = and_left (field c) (every field cs) e in
        ap bare_fields (tailed_columns at c cs (and_left (solid c) (not (same c percents)) f))
        ∙ ap (map bare) (fields_field (column_of (suc at) c (tailed w cs (remark w n))) _ (is_field c f))
        ∙ ap (λ (l : List Text). unplaced c ∷ l) (tailed_fields (suc at + length c) cs (and_right (field c) (every field cs) e))

    pub printed_fields : (at : ℕ) (c : List ℕ) (cs : List (List ℕ)) → every field (c ∷ cs) ≡ true
        → map bare (fields (columns_from at (printed w c cs n))) ≡ map unplaced (c ∷ cs)
    unfolding printed
    printed_fields at c cs e =
        let f : field c ≡ true = and_left (field c) (every field cs) e in
        ap bare_fields (printed_columns at c cs (and_left (solid c) (not (same c percents)) f))
        ∙ ap (map bare) (fields_field (column_of at c (tailed w cs (remark w n))) _ (is_field c f))
        ∙ ap (λ (l : List Text). unplaced c ∷ l) (tailed_fields (at + length c) cs (and_right (field c) (every field cs) e))

    tailed_comment : (at : ℕ) (cs : List (List ℕ)) → every field cs ≡ true → Trimmed n
        → bare (comment (columns_from at (tailed w cs (remark w n)))) ≡ unplaced n
    unfolding tailed
    tailed_comment at [] e t = remark_comment at n t
    tailed_comment at (c ∷ cs) e t =
        let f : field c ≡ true = and_left (field c) (every field cs) e in
        ap (λ (ks : List Column). bare (comment ks)) (tailed_columns at c cs (and_left (solid c) (not (same c percents)) f))
        ∙ ap bare (comment_field (column_of (suc at) c (tailed w cs (remark w n))) _ (is_field c f))
        ∙ tailed_comment (suc at + length c) cs (and_right (field c) (every field cs) e) t

    pub printed_comment : (at : ℕ) (c : List ℕ) (cs : List (List ℕ)) → every field (c ∷ cs) ≡ true → Trimmed n
        → bare (comment (columns_from at (printed w c cs n))) ≡ unplaced n
    unfolding printed
    printed_comment at c cs e t =
        let f : field c ≡ true = and_left (field c) (every field cs) e in
        ap (λ (ks : List Column). bare (comment ks)) (printed_columns at c cs (and_left (solid c) (not (same c percents)) f))
        ∙ ap bare (comment_field (column_of at c (tailed w cs (remark w n))) _ (is_field c f))
        ∙ tailed_comment (at + length c) cs (and_right (field c) (every field cs) e) t

    -- where each column stands, and what stands behind the last of them
    tailed_read : (at : ℕ) (cs : List (List ℕ)) → every solid cs ≡ true → ColumnsThen (columns_from at (tailed w cs (remark w n))) cs (remark w n)
    unfolding tailed
    tailed_read at [] e = record { at = at; texts = refl; rest = refl }
    tailed_read at (c ∷ cs) e =
        let b = tailed_read (suc at + length c) cs (and_right (solid c) (every solid cs) e) in
        let f = tailed_columns at c cs (and_left (solid c) (every solid cs) e) in
        record {
          at = b.at;
          texts = ap column_bytes f ∙ ap (λ (l : List (List ℕ)). c ∷ l) b.texts;
          rest = ap (drop (suc (length cs))) f ∙ b.rest;
        }

    pub printed_read : (at : ℕ) (c : List ℕ) (cs : List (List ℕ)) → every solid (c ∷ cs) ≡ true → ColumnsThen (columns_from at (printed w c cs n)) (c ∷ cs) (remark w n)
    unfolding printed
    printed_read at c cs e =
        let b = tailed_read (at + length c) cs (and_right (solid c) (every solid cs) e) in
        let f = printed_columns at c cs (and_left (solid c) (every solid cs) e) in
        record {
          at = b.at;
          texts = ap column_bytes f ∙ ap (λ (l : List (List ℕ)). c ∷ l) b.texts;
          rest = ap (drop (suc (length cs))) f ∙ b.rest;
        }
