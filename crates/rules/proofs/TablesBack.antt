-- The printed tables are read back: each table's rows, one behind the other, and the tables in their order. By one step
-- along the rows, and along the tables.
use Prim.Native.Nat.{ℕ, zero, suc, ◌+◌, ◌<◌}
use native.Mathlib.Omega.{arith}
use mathlib.Core.Path.{◌≡◌, refl, sym, ap, ap₂, ◌∙◌, subst}
use mathlib.Core.Bool.{false}
use Rattle.std.specs.Prelude.{Option, None, Some}
use mathlib.Core.List.{List, [], ◌∷◌, ◌++◌, map, append_assoc, append-nil}
use lib.ListN.{length, get_or, set, length-append, get_or-map}
use lib.Seq.{get_or_at, set_at}
use Rattle.rules.specs.Lists.{bytes, joined}
use Rattle.rules.specs.Bytes.{ignored}
use Rattle.rules.specs.Texts.{Text}
use Rattle.rules.specs.Rules.{granted}
use Rattle.rules.specs.Tables.{Tables, Row, table, there, present}
use Rattle.rules.specs.Rows.{row_of}
use Rattle.rules.specs.Sentences.{Sentence}
use Rattle.rules.specs.Phases.{Preamble, top, in_table, go, next, step, with_table}
use Rattle.rules.specs.Reading.{Reading, numbers, read}
use Rattle.rules.specs.Meaning.{bare_row, row_id, meant_rows, by_id, meant_tables}
use Rattle.rules.specs.Tidy.{space, tab, id_digits, keyword_line, row_line, table_name, table_text, tables_text}
use Rattle.rules.proofs.Takings.{go_closed, go_row, answer_top, answer_rows, answer_at}
use Rattle.rules.proofs.ReadLines.{read_append}
use Rattle.rules.proofs.Elements.{map_append, set_map}
use Rattle.rules.proofs.Sorting.{map_sorted}
use Rattle.rules.proofs.PrintedLines.{parted_plain}
use Rattle.rules.proofs.LineFit.{LineFit}
use Rattle.rules.proofs.MeantTables.{there_meant}
use Rattle.rules.proofs.NumbersAgain.{id_solid}
use Rattle.rules.proofs.KeywordLines.{keyed, table_opened_lem, table_ended_lem, table_fit}
use Rattle.rules.proofs.RowsKept.{RowsKept, RowKept, origins_sorted, editors_sorted}
use Rattle.rules.proofs.RowLines.{printed_row, row_printed, row_fit, id_begins, row_back}
use Rattle.rules.proofs.Kept.{TableKept, TablesKept}
use Rattle.rules.proofs.Stands.{Stands, next_line, line_go, step_printed}

-- ---- rows

-- in a table, with rows of these bytes
pub record RowsRead (p : Preamble) (n : ℕ) (done : List Row) (ss : List Sentence) (r : Reading) : Type 0 where
  pub rows : List Row
  pub same : map bare_row rows ≡ done
  pub stands : Stands (in_table p n rows) ss r

-- a row's line is printed with its id first
row_step : (p : Preamble) (n : ℕ) (rs : List Row) (used : List ℕ) (at : ℕ) (r : Row) → LineFit (printed_row n r)
    → step (in_table p n rs) used (record { start = at; bytes = printed_row n r })
    ≡ answer_at (in_table p n rs) used (record { start = at; bytes = printed_row n r }) (record { start = at; bytes = id_digits r.id1 })
row_step p zero rs used at r f = step_printed tab refl (in_table p zero rs) used at (id_digits r.id1) _ _ (id_solid r.id1) f
row_step p (suc zero) rs used at r f = step_printed tab refl (in_table p (suc zero) rs) used at (id_digits r.id1) _ _ (id_solid r.id1) f
row_step p (suc (suc n)) rs used at r f = step_printed tab refl (in_table p (suc (suc n)) rs) used at (id_digits r.id1) _ _ (id_solid r.id1) f

among_row : (p : Preamble) (n : ℕ) (rs : List Row) (used : List ℕ) (line : Text) (at i : ℕ) (q : Row) → row_of n rs line ≡ granted q
    → answer_at (in_table p n rs) used line (record { start = at; bytes = id_digits i }) ≡ go (in_table p n (rs ++ (q ∷ [])))
unfolding answer_at answer_rows
among_row p n rs used line at i q e =
    let b = id_begins i in
    rw (b.no_end, b.row) (ap (next (go_row p n rs)) e)

module _ (p : Preamble) (n : ℕ) (ss : List Sentence) where
  row_read : (r : Row) (done : List Row) (x : Reading) → RowKept n done r → RowsRead p n done ss x → RowsRead p n (done ++ (r ∷ [])) ss (read x (row_line n r))
  row_read r done x k s =
      let rs = s.rows in
      let b = row_back n rs r x.line_start (subst (λ (d : List Row). RowKept n d r) (sym s.same) k) in
      let f = row_fit n r k.own in
      let e = row_step p n rs (numbers x.handed) x.line_start r f ∙ among_row p n rs (numbers x.handed) (next_line x (printed_row n r)) x.line_start r.id1 b.read b.granted in
      record {
        rows = rs ++ (b.read ∷ []);
        same = map_append bare_row rs (b.read ∷ []) ∙ ap₂ (λ (d : List Row) (q : Row). d ++ (q ∷ [])) s.same b.same;
        stands =
            subst (λ (l : List ℕ). Stands (in_table p n (rs ++ (b.read ∷ []))) ss (read x l)) (sym (row_printed n r))
            (line_go (in_table p n rs) ss x (printed_row n r) s.stands f (in_table p n (rs ++ (b.read ∷ []))) e);
      }

  rows_read : (todo done : List Row) (x : Reading) → RowsKept n done todo → RowsRead p n done ss x → RowsRead p n (done ++ todo) ss (read x (joined (map (row_line n) todo)))
  rows_read [] done x k s = subst (λ (d : List Row). RowsRead p n d ss x) (sym (append-nil done)) s
  rows_read (r ∷ todo) done x k s =
      let next_rows = rows_read todo (done ++ (r ∷ [])) (read x (row_line n r)) k.1 (row_read r done x k.0 s) in
      subst (λ (y : Reading). RowsRead p n (done ++ (r ∷ todo)) ss y) (sym (read_append x (row_line n r) (joined (map (row_line n) todo))))
      (subst (λ (d : List Row). RowsRead p n d ss (read (read x (row_line n r)) (joined (map (row_line n) todo)))) (append_assoc done (r ∷ []) todo) next_rows)

-- ---- a table

bot_seen : ignored (bytes "#BOT") ≡ false
unfolding ignored
bot_seen = refl

eot_seen : ignored (bytes "#EOT") ≡ false
unfolding ignored
eot_seen = refl

pub record TableRead (p : Preamble) (n : ℕ) (rs : List Row) (ss : List Sentence) (x : Reading) : Type 0 where
  pub rows : List Row
  pub same : map bare_row rows ≡ rs
  pub stands : Stands (top (with_table p n rows)) ss x

module _ (p : Preamble) (n : ℕ) (h : n < 7) (ss : List Sentence) where
  opens : (used : List ℕ) (at : ℕ) → present n p.tables ≡ false
      → step (top p) used (record { start = at; bytes = keyed (bytes "#BOT") (table_name n) }) ≡ go (in_table p n [])
  unfolding answer_at answer_top
  opens used at e =
      step_printed space refl (top p) used at (bytes "#BOT") (table_name n ∷ []) [] refl (table_fit n h at (bytes "#BOT") refl bot_seen refl (omega arith))
      ∙ ap (next (λ n. go (in_table p n []))) (table_opened_lem n h at p.tables e)

  ends : (used : List ℕ) (at : ℕ) (rs : List Row) → step (in_table p n rs) used (record { start = at; bytes = keyed (bytes "#EOT") (table_name n) }) ≡ go (top (with_table p n rs))
  unfolding answer_at answer_rows
  ends used at rs =
      let line : Text = record { start = at; bytes = keyed (bytes "#EOT") (table_name n) } in
      step_printed space refl (in_table p n rs) used at (bytes "#EOT") (table_name n ∷ []) [] refl (table_fit n h at (bytes "#EOT") refl eot_seen refl (omega arith))
      ∙ ap (next (λ m. go_closed p n rs)) (table_ended_lem n h at)

  table_read_lem : (rs : List Row) (x : Reading) → present n p.tables ≡ false → RowsKept n [] rs → Stands (top p) ss x → TableRead p n rs ss (read x (table_text n (Some rs)))
  table_read_lem rs x e k s =
      let first = keyword_line (bytes "#BOT" ∷ table_name n ∷ []) in
      let middle = joined (map (row_line n) rs) in
      let last = keyword_line (bytes "#EOT" ∷ table_name n ∷ []) in
      let x1 = read x first in
      let x2 = read x1 middle in
      let started : Stands (in_table p n []) ss x1 =
      subst (λ (l : List ℕ). Stands (in_table p n []) ss (read x l)) (sym (parted_plain space (bytes "#BOT") (table_name n ∷ [])))
      (line_go (top p) ss x (keyed (bytes "#BOT") (table_name n)) s (table_fit n h 0 (bytes "#BOT") refl bot_seen refl (omega arith)) (in_table p n []) (opens (numbers x.handed) x.line_start e)) in
      let filled = rows_read p n ss rs [] x1 k (record { rows = []; same = refl; stands = started }) in
      let ended : Stands (top (with_table p n filled.rows)) ss (read x2 last) =
      subst (λ (l : List ℕ). Stands (top (with_table p n filled.rows)) ss (read x2 l)) (sym (parted_plain space (bytes "#EOT") (table_name n ∷ [])))
      (line_go (in_table p n filled.rows) ss x2 (keyed (bytes "#EOT") (table_name n)) filled.stands (table_fit n h 0 (bytes "#EOT") refl eot_seen refl (omega arith))
      (top (with_table p n filled.rows)) (ends (numbers x2.handed) x2.line_start filled.rows)) in
      let whole : read x (table_text n (Some rs)) ≡ read x2 last = read_append x (first ++ middle) last ∙ ap (λ (y : Reading). read y last) (read_append x first middle) in
      record {
        rows = filled.rows;
        same = filled.same;
        stands = subst (Stands (top (with_table p n filled.rows)) ss) (sym whole) ended;
      }

-- ---- the tables in their order

-- the tables from the n-th on, with the rows that they are printed with
abbrev pub PrintedTable : ℕ → Option (List Row) → Type 0
PrintedTable n None = Unit {0}
PrintedTable n (Some rs) = RowsKept n [] rs

abbrev pub PrintedTables : ℕ → Tables → Type 0
PrintedTables n [] = Unit {0}
PrintedTables n (t ∷ ts) = PrintedTable n t × PrintedTables (suc n) ts

-- as many tables, of which none is there
abbrev pub blanks : Tables → Tables
blanks [] = []
blanks (t ∷ ts) = None ∷ blanks ts

pub record TablesRead (format : ℕ) (ts : Tables) (ss : List Sentence) (x : Reading) : Type 0 where
  pub preamble : Preamble
  pub kept : preamble.format ≡ format
  pub same : map meant_rows preamble.tables ≡ ts
  pub stands : Stands (top preamble) ss x

absent : (us done rest : Tables) (n : ℕ) → length done ≡ n → map meant_rows us ≡ done ++ (None ∷ rest) → present n us ≡ false
absent us done rest n e m =
    sym (there_meant (table n us)) ∙ sym (ap there (get_or-map meant_rows us n None)) ∙ ap (λ (ts : Tables). there (get_or ts n None)) m
    ∙ ap there (get_or_at done None rest None n e)

one_more : (done : Tables) (t : Option (List Row)) (n : ℕ) → length done ≡ n → length (done ++ (t ∷ [])) ≡ suc n
one_more done t n e = omega (arith, length-append done (t ∷ []), e)

module _ (ss : List Sentence) where
  pub tables_read : (todo done : Tables) (n : ℕ) (p : Preamble) (x : Reading) → length done ≡ n → n + length todo ≡ 7 → PrintedTables n todo
      → map meant_rows p.tables ≡ done ++ blanks todo → Stands (top p) ss x → TablesRead p.format (done ++ todo) ss (read x (tables_text n todo))
  tables_read [] done n p x e seven k m s = record { preamble = p; kept = refl; same = m; stands = s }
  tables_read (None ∷ todo) done n p x e seven k m s =
      subst (λ (ts : Tables). TablesRead p.format ts ss (read x (tables_text (suc n) todo))) (append_assoc done (None ∷ []) todo)
      (tables_read todo (done ++ (None ∷ [])) (suc n) p x (one_more done None n e) (omega (arith, seven)) k.1 (m ∙ sym (append_assoc done (None ∷ []) (blanks todo))) s)
  tables_read (Some rs ∷ todo) done n p x e seven k m s =
      let t = table_read_lem p n (omega (arith, seven)) ss rs x (absent p.tables done (blanks todo) n e m) k.0 s in
      let q = with_table p n t.rows in
      let set_in : map meant_rows q.tables ≡ (done ++ (Some rs ∷ [])) ++ blanks todo =
      set_map meant_rows p.tables n (Some t.rows) ∙ ap₂ (λ (us : Tables) (r : List Row). set us n (Some r)) m t.same
      ∙ set_at done None (blanks todo) (Some rs) n e ∙ sym (append_assoc done (Some rs ∷ []) (blanks todo)) in
      let all = tables_read todo (done ++ (Some rs ∷ [])) (suc n) q (read x (table_text n (Some rs))) (one_more done (Some rs) n e) (omega (arith, seven)) k.1 set_in t.stands in
      subst (λ (y : Reading). TablesRead p.format (done ++ (Some rs ∷ todo)) ss y) (sym (read_append x (table_text n (Some rs)) (tables_text (suc n) todo)))
      (subst (λ (ts : Tables). TablesRead p.format ts ss (read (read x (table_text n (Some rs))) (tables_text (suc n) todo))) (append_assoc done (Some rs ∷ []) todo) all)

-- ---- what is meant is fit to be printed

meant_printed : (n : ℕ) (o : Option (List Row)) → TableKept n o → PrintedTable n (meant_rows o)
meant_printed n None k = tt
meant_printed n (Some rs) k = k

meant_all : (n : ℕ) (ts : Tables) → TablesKept n ts → PrintedTables n (map meant_rows ts)
meant_all n [] k = tt
meant_all n (t ∷ ts) k = (meant_printed n t k.0, meant_all (suc n) ts k.1)

origins_printed : (o : Option (List Row)) → TableKept 0 o → PrintedTable 0 (meant_rows (by_id o))
origins_printed None k = tt
origins_printed (Some rs) k = subst (RowsKept 0 []) (sym (map_sorted row_id row_id bare_row (λ r. refl) rs)) (origins_sorted (map bare_row rs) k)

editors_printed : (o : Option (List Row)) → TableKept 1 o → PrintedTable 1 (meant_rows (by_id o))
editors_printed None k = tt
editors_printed (Some rs) k = subst (RowsKept 1 []) (sym (map_sorted row_id row_id bare_row (λ r. refl) rs)) (editors_sorted (map bare_row rs) k)

pub tables_printed : (ts : Tables) → TablesKept 0 ts → PrintedTables 0 (meant_tables ts)
tables_printed [] k = tt
tables_printed (o ∷ []) k = (origins_printed o k.0, tt)
tables_printed (o ∷ e ∷ ts) k = (origins_printed o k.0, (editors_printed e k.1.0, meant_all 2 ts k.1.1))
