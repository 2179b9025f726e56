-- Lines that are as the grammar says are taken, whatever their places: the format line, rows and tables. By one step along
-- the rows and the tables, with what follows them handed in.
use Prim.Native.Nat.{ℕ, zero, suc}
use native.Mathlib.Omega.{arith}
use mathlib.Core.Path.{◌≡◌, refl, sym, ap, ◌∙◌, subst}
use mathlib.Core.Bool.{Bool, true, false}
use mathlib.Core.List.{List, [], ◌∷◌, ◌++◌, map, append_assoc, append-nil}
use lib.ListN.{get_or}
use Rattle.rules.specs.Lists.{pick, bytes, joined, Each}
use Rattle.rules.specs.Texts.{Text, reads}
use Rattle.rules.specs.Numbers.{origin_id, number, signed_id}
use Rattle.rules.specs.Tables.{Tables, Row, table_names, no_tables, closed}
use Rattle.rules.specs.Rows.{row_of}
use Rattle.rules.specs.Sentences.{Sentence}
use Rattle.rules.specs.Keywords.{format_of, table_opened, table_ended, first_column, starts_row}
use Rattle.rules.specs.Phases.{Preamble, Phase, start, top, in_table, go, next}
use Rattle.rules.specs.GrammarLines.{In, Differ}
use Rattle.rules.proofs.Takings.{go_closed, go_row, refuse_six, answer_start, answer_behind, answer_top, answer_rows, answer_at}
use Rattle.rules.proofs.Conjunctions.{false_if_never}
use Rattle.rules.proofs.AnyLine.{bytes_of}
use Rattle.rules.proofs.EachElement.{each_back}
use Rattle.rules.proofs.BareColumns.{column_at}
use Rattle.rules.specs.GrammarRows.{RowLine, OriginRow, EditorRow, TagRow}
use Rattle.rules.specs.GrammarTables.{TableLines, RowsFit, Names, TableFits, table_lines, whiches}
use Rattle.rules.specs.Grammar.{FormatFits}
use Rattle.rules.proofs.BytesAsSaid.{Started}
use Rattle.rules.proofs.SaidOfLists.{differ_map_next}
use Rattle.rules.proofs.TestsAsFacts.{reads_are}
use Rattle.rules.proofs.RowsAsRead.{said_origin, said_editor, said_tag}
use Rattle.rules.proofs.RowsAlike.{Alike, alike_more}
use Rattle.rules.proofs.RowsGrant.{row_grants}
use Rattle.rules.proofs.TablesAsSaid.{Stand, stand_more, is_there}
use Rattle.rules.proofs.KeywordsAsSaid.{starts_first, keyword_first, format_grants, opened_grants, ended_grants}
use Rattle.rules.proofs.LineKinds.{number_row, id_row, row_no_keyword}
use Rattle.rules.proofs.WhatWasRead.{row_lines}
use Rattle.rules.proofs.LineByLine.{numbers_in, Through, through_then, Takes}

-- ---- what a line begins with

-- a line's keyword
pub keyword_reads : (line : Text) (keyword : List ℕ) → Started line.bytes → column_at 0 line.bytes ≡ keyword → reads keyword (first_column line) ≡ true
keyword_reads line keyword s e = (reads_are keyword (first_column line)).1 (starts_first line s ∙ e)

-- and no other
pub other_keyword : (line : Text) (keyword other : List ℕ) → Started line.bytes → column_at 0 line.bytes ≡ keyword → (keyword ≡ other → ⊥) → reads other (first_column line) ≡ false
other_keyword line keyword other s e n =
    false_if_never (reads other (first_column line)) (λ r. n (sym e ∙ sym (starts_first line s) ∙ (reads_are other (first_column line)).0 r))

row_starts : (n : ℕ) (rows : List RowLine) (row : RowLine) (more : List RowLine) (t : Text) → t.bytes ≡ column_at 0 row.line → RowsFit n (rows ++ (row ∷ more)) → starts_row t ≡ true
row_starts zero rows row more t e f =
    let one = said_origin row (each_back OriginRow rows (row ∷ more) (f.of_origins refl).each_row).0 in
    number_row origin_id t one.id (ap (number origin_id) e ∙ one.id_written)
row_starts (suc zero) rows row more t e f =
    let one = said_editor row (each_back EditorRow rows (row ∷ more) (f.of_editors refl).each_row).0 in
    id_row t row.id1 (ap signed_id e ∙ one.id_written)
row_starts (suc (suc n)) rows row more t e f =
    let one = said_tag (suc (suc n)) row (each_back (TagRow (suc (suc n))) rows (row ∷ more) (f.of_tags (omega arith)).each_row).0 in
    id_row t row.id1 (ap signed_id e ∙ one.id_written)

no_table : (t : TableLines) (ts more : List TableLines) → Differ (whiches (ts ++ (t ∷ more))) → In t.which (whiches ts) → ⊥
no_table t ts more d = differ_map_next (λ (t : TableLines). t.which) ts t more d

-- ---- lines that are taken wherever they stand; E is what is to be so behind the last of them

module _ (E : Phase → List Sentence → Type 0) where
  abbrev pub Follows : List (List ℕ) → Phase → List Sentence → Type 0
  Follows ls ph out = (ts : List Text) → bytes_of ts ≡ ls → Each Started ls → Takes E ts ph out

  pub one_line : (l : List ℕ) (ls : List (List ℕ)) (ph : Phase) (out : List Sentence)
      → ((line : Text) → line.bytes ≡ l → Started line.bytes → Through (Follows ls) out (answer_at ph (numbers_in out) line (first_column line))) → Follows (l ∷ ls) ph out
  one_line l ls ph out f [] e s = absurd (let z : ◌≡◌ {A = ℕ} 0 1 = cc in omega arith)
  one_line l ls ph out f (t ∷ ts) e s =
      let q : t.bytes ≡ l = cc in
      let r : bytes_of ts ≡ ls = cc in
      through_then (Follows ls) (Takes E ts) (λ ph out k. k ts r s.1) out (answer_at ph (numbers_in out) t (first_column t)) (f t q (subst Started (sym q) s.0))

  pub format_follows : (l : List ℕ) (ls : List (List ℕ)) (format : ℕ) → FormatFits l format → Follows ls (top (record { format = format; tables = no_tables })) [] → Follows (l ∷ ls) start []
  unfolding answer_at answer_start
  format_follows l ls format t k =
      one_line l ls start [] (λ line e s.
      let f = subst (λ (l : List ℕ). FormatFits l format) (sym e) t in
      subst (λ (b : Bool). Through (Follows ls) [] (pick b (next (λ n. go (top (record { format = n; tables = no_tables }))) (format_of line)) (refuse_six line)))
      (sym (keyword_reads line (bytes "#FORMAT") s (keyword_first line (bytes "#FORMAT") f.number_text f.columns)))
      (format_grants (Follows ls) [] line (λ n. go (top (record { format = n; tables = no_tables }))) format f k))

  -- ---- rows

  module _ (p : Preamble) (n : ℕ) (tail : List (List ℕ)) where
    pub rows_follow : (rest rows : List RowLine) (rs : List Row) → Alike rs rows → RowsFit n (rows ++ rest)
        → ((rs : List Row) → Alike rs (rows ++ rest) → Follows tail (in_table p n rs) []) → Follows (row_lines rest ++ tail) (in_table p n rs) []
    unfolding answer_at answer_rows
    rows_follow [] rows rs a f k = k rs (subst (Alike rs) (sym (append-nil rows)) a)
    rows_follow (row ∷ rest) rows rs a f k =
        one_line row.line (row_lines rest ++ tail) (in_table p n rs) [] (λ line e s.
        let first = starts_first line s ∙ ap (column_at 0) e in
        let starts : starts_row (first_column line) ≡ true = row_starts n rows row rest (first_column line) first f in
        let no_end : reads (bytes "#EOT") (first_column line) ≡ false = false_if_never (reads (bytes "#EOT") (first_column line)) (row_no_keyword (first_column line) (bytes "#EOT") starts refl) in
        subst (λ (b : Bool). Through (Follows (row_lines rest ++ tail)) []
        (pick b (next (λ m. go_closed p n rs) (table_ended n line))
        (pick (starts_row (first_column line)) (next (go_row p n rs) (row_of n rs line)) (refuse_six line))))
        (sym no_end)
        (subst (λ (b : Bool). Through (Follows (row_lines rest ++ tail)) [] (pick b (next (go_row p n rs) (row_of n rs line)) (refuse_six line)))
        (sym starts)
        (row_grants rs rows a (Follows (row_lines rest ++ tail)) [] (go_row p n rs) line row rest (sym e) f.at_most
        (λ r alike.
        rows_follow rest (rows ++ (row ∷ [])) (rs ++ (r ∷ [])) (alike_more rs rows r row a alike) (subst (RowsFit n) (sym (append_assoc rows (row ∷ []) rest)) f)
        (λ rs' b. k rs' (subst (Alike rs') (append_assoc rows (row ∷ []) rest) b)))
        n f)))

  -- ---- tables

  module _ (format : ℕ) (tail : List (List ℕ)) where
    abbrev behind : Tables → Preamble
    behind T = record { format = format; tables = T }

    pub tables_follow : (rest ts : List TableLines) (T : Tables) → Stand T ts → Each TableFits rest → Differ (whiches (ts ++ rest))
        → ((T : Tables) → Stand T (ts ++ rest) → Follows tail (top (behind T)) []) → Follows (joined (map table_lines rest) ++ tail) (top (behind T)) []
    unfolding answer_at answer_top answer_rows
    tables_follow [] ts T s f d k = k T (subst (Stand T) (sym (append-nil ts)) s)
    tables_follow (t ∷ rest) ts T s f d k =
        let p = behind T in
        let behind_table = joined (map table_lines rest) ++ tail in
        let n = t.which in
        let bot_name = f.0.begins in
        subst (λ (ls : List (List ℕ)). Follows ls (top p) [])
        (sym (append_assoc (table_lines t) (joined (map table_lines rest)) tail ∙ append_assoc (t.bot ∷ row_lines t.rows) (t.eot ∷ []) behind_table))
        (one_line t.bot (row_lines t.rows ++ (t.eot ∷ behind_table)) (top p) [] (λ line e st.
        let names : Names (bytes "#BOT") n line.bytes = subst (Names (bytes "#BOT") n) (sym e) bot_name in
        subst (λ (b : Bool). Through (Follows (row_lines t.rows ++ (t.eot ∷ behind_table))) []
        (pick b (next (λ n. go (in_table p n [])) (table_opened p.tables line)) (answer_behind line (first_column line) p [])))
        (sym (keyword_reads line (bytes "#BOT") st (keyword_first line (bytes "#BOT") (get_or table_names n []) names)))
        (opened_grants (Follows (row_lines t.rows ++ (t.eot ∷ behind_table))) [] line (λ n. go (in_table p n [])) p.tables n f.0.one_of_seven names
        (λ h. no_table t ts rest d ((is_there p.tables ts s n).0 h))
        (rows_follow p n (t.eot ∷ behind_table) t.rows [] [] refl f.0.rows_fit (λ rs a.
        one_line t.eot behind_table (in_table p n rs) [] (λ line e st.
        let names : Names (bytes "#EOT") n line.bytes = subst (Names (bytes "#EOT") n) (sym e) f.0.ends in
        subst (λ (b : Bool). Through (Follows behind_table) []
        (pick b (next (λ m. go_closed p n rs) (table_ended n line))
        (pick (starts_row (first_column line)) (next (go_row p n rs) (row_of n rs line)) (refuse_six line))))
        (sym (keyword_reads line (bytes "#EOT") st (keyword_first line (bytes "#EOT") (get_or table_names n []) names)))
        (ended_grants (Follows behind_table) [] line (λ m. go_closed p n rs) n f.0.one_of_seven names
        (tables_follow rest (ts ++ (t ∷ [])) (closed n rs T)
        (stand_more p.tables ts s t rs f.0.one_of_seven (no_table t ts rest d) a)
        f.1 (subst (λ (us : List TableLines). Differ (whiches us)) (sym (append_assoc ts (t ∷ []) rest)) d)
        (λ U u. k U (subst (Stand U) (append_assoc ts (t ∷ []) rest) u))))))))))
