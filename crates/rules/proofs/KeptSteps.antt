-- Each line keeps what holds where a reading stands, whatever it does there. By the place and the line's first column.
use Prim.Native.Nat.{ℕ, suc, ◌+◌, ◌≤◌, ◌<◌}
use native.Mathlib.Nat.{zero-add}
use native.Mathlib.Omega.{arith}
use mathlib.Core.Path.{◌≡◌, refl, sym, ap, ◌∙◌, subst}
use mathlib.Core.Bool.{Bool, true, false, ◌||◌}
use Rattle.std.specs.Prelude.{Option, None, Some}
use mathlib.Core.List.{List, [], ◌∷◌, map}
use lib.ListN.{length, length-set}
use lib.Dec.{ltb, eqb}
use borrow.Author.Tests.{eqb-true}
use Rattle.rules.specs.Lists.{pick, bytes, member}
use Rattle.rules.specs.Texts.{Text, reads}
use Rattle.rules.specs.Columns.{columns, written}
use Rattle.rules.specs.Numbers.{number, format_number, good, value}
use Rattle.rules.specs.Rules.{Rule, rule}
use Rattle.rules.specs.Tables.{Row, no_tables, table_names, place_from, table_named}
use Rattle.rules.specs.Sentences.{Sentence}
use Rattle.rules.specs.Keywords.{format_of, fresh, table_opened, itself, table_ended, first_column, starts_row}
use Rattle.rules.specs.Phases.{Preamble, Phase, start, top, in_table, in_sentence, behind_sentence, Answer, refuse, go, next, step}
use Rattle.rules.specs.Meaning.{bare_row, sentence_number_of}
use Rattle.rules.proofs.Takings.{go_begun, go_closed, go_row, refuse_six, answer_start, answer_behind, answer_top, answer_rows, answer_at}
use Rattle.rules.proofs.Same.{same_eq}
use Rattle.rules.proofs.RulesHeld.{held}
use Rattle.rules.proofs.Elements.{map_append}
use Rattle.rules.proofs.Sorting.{has}
use Rattle.rules.proofs.LineFit.{LineFit}
use Rattle.rules.proofs.Steps.{either, next_checked, step_cases, first_there}
use Rattle.rules.proofs.Headings.{heading_cases}
use Rattle.rules.proofs.RowsKept.{RowsKept, rows_last}
use Rattle.rules.proofs.RowLines.{row_cases}
use Rattle.rules.proofs.SentencesKept.{part_begun}
use Rattle.rules.proofs.Kept.{tables_closed, PreambleKept, SentencesKept, means, KeptInTable, PhaseKept, KeptAnswer}
use Rattle.rules.proofs.FirstColumns.{reads_given}
use Rattle.rules.proofs.KeptNodes.{nodes_kept}

-- ---- the place of a table's name

abbrev Below : ℕ → Option ℕ → Type 0
Below k None = Unit {0}
Below k (Some m) = m < k

place_below : (n : ℕ) (t : Text) (xs : List (List ℕ)) → Below (n + length xs) (place_from n t xs)
place_below n t [] = tt
place_below n t (x ∷ xs) = by (reads x t) (place_below (suc n) t xs)
  where
    more : (o : Option ℕ) → Below (suc n + length xs) o → Below (n + suc (length xs)) o
    more None h = tt
    more (Some m) h = omega (arith, h)

    by : (b : Bool) → Below (suc n + length xs) (place_from (suc n) t xs) → Below (n + suc (length xs)) (pick b (Some n) (place_from (suc n) t xs))
    by true h = omega arith
    by false h = more (place_from (suc n) t xs) h

named_below : (t : Text) → value (table_named t) < 7
named_below t = by (table_named t) (place_below 0 t table_names)
  where
    by : (o : Option ℕ) → Below 7 o → value o < 7
    by None h = omega arith
    by (Some m) h = h

-- ---- one line

module _ (ss : List Sentence) (line : Text) where
  abbrev first : Text
  first = first_column line

  abbrev P : Answer → Type 0
  P a = KeptAnswer ss a

  bad : (r : Rule) → 1 ≤ r.number → P (refuse r)
  bad r h = h

  six : P (refuse_six line)
  six = omega arith

  -- the format line
  start_kept : ss ≡ [] → P (answer_start line first)
  unfolding answer_start format_of
  start_kept z =
      either P (reads (bytes "#FORMAT") first) _ _
      (λ e.
      let n = number format_number (written (columns line) 1).bytes in
      let rules = rule 7 line (eqb (length (columns line)) 2) ∷ rule 8 (written (columns line) 1) (good n) ∷ rule 9 line (eqb (value n) 3) ∷ [] in
      next_checked P bad (λ n. go (top (record { format = n; tables = no_tables }))) rules (value n) refl
      (λ h.
      (record { format = eqb-true (value n) 3 (held rules h).1.1.0; seven = refl; tables = (tt, (tt, (tt, (tt, (tt, (tt, (tt, tt))))))) }, z)))
      (λ e. six)

  module _ (f : LineFit line.bytes) (p : Preamble) (k : PreambleKept p) where
    -- a sentence begins
    module _ (used : List ℕ) (same : (n : ℕ) → member n used ≡ has sentence_number_of n ss) (out : SentencesKept p.format (means p) ss) where
      begin_kept : P (answer_behind line first p used)
      unfolding answer_behind
      begin_kept =
          either P (reads (bytes "#BOS") first) _ _
          (λ e.
          let o = first_there line f (reads_given (bytes "#BOS") first refl e) in
          let bos : o.first.text.bytes ≡ bytes "#BOS" = ap (λ (t : Text). t.bytes) (sym o.column) ∙ same_eq first.bytes (bytes "#BOS") e in
          heading_cases p.tables (λ n. member n used) line f o bos P bad (go_begun p line.start)
          (λ h q new.
          record {
            preamble = k;
            part = part_begun p.format (means p) _ q;
            sentences = out;
            new = sym (same h.number) ∙ new;
          }))
          (λ e. six)

    -- a table begins
    table_kept : ss ≡ [] → P (next (λ n. go (in_table p n [])) (table_opened p.tables line))
    unfolding table_opened
    table_kept z =
        let n = table_named (written (columns line) 1) in
        next_checked P bad (λ n. go (in_table p n []))
        (rule 6 line (ltb (length (columns line)) 2 || fresh p.tables n) ∷ rule 7 line (eqb (length (columns line)) 2) ∷ []) (value n) refl
        (λ h. record { preamble = k; place = named_below (written (columns line) 1); rows = tt; nothing = z })

    -- a table ends
    closed_kept : (n : ℕ) (rs : List Row) → KeptInTable p n rs ss → P (next (λ m. go_closed p n rs) (table_ended n line))
    unfolding table_ended
    closed_kept n rs t =
        next_checked P bad (λ m. go_closed p n rs)
        (rule 6 line (ltb (length (columns line)) 2 || itself n (table_named (written (columns line) 1))) ∷ rule 7 line (eqb (length (columns line)) 2) ∷ []) n refl
        (λ h. (
          record {
            format = k.format;
            seven = length-set p.tables n (Some rs) ∙ k.seven;
            tables = tables_closed 0 n p.tables rs k.tables (subst (λ (i : ℕ). RowsKept i [] (map bare_row rs)) (sym (zero-add n)) t.rows);
          },
          t.nothing,
        ))

    rows_kept : (n : ℕ) (rs : List Row) → KeptInTable p n rs ss → P (answer_rows line first p n rs)
    unfolding answer_rows
    rows_kept n rs t =
        either P (reads (bytes "#EOT") first) _ _ (λ e. closed_kept n rs t)
        (λ e.
        either P (starts_row first) _ _
        (λ s.
        row_cases P bad (go_row p n rs) rs line f.lawful n
        (λ r q.
        record {
          preamble = k;
          place = t.place;
          rows = subst (RowsKept n []) (sym (map_append bare_row rs (r ∷ []))) (rows_last n [] (map bare_row rs) (bare_row r) t.rows q);
          nothing = t.nothing;
        }))
        (λ s. six))

    top_kept : (used : List ℕ) → ((n : ℕ) → member n used ≡ has sentence_number_of n ss) → ss ≡ [] → P (answer_top line first p used)
    unfolding answer_top
    top_kept used same z =
        either P (reads (bytes "#BOT") first) _ _ (λ e. table_kept z)
        (λ e. begin_kept used same (subst (SentencesKept p.format (means p)) (sym z) (record { each = tt; distinct = tt })))

  line_kept : (phase : Phase) (used : List ℕ) → ((n : ℕ) → member n used ≡ has sentence_number_of n ss) → PhaseKept phase ss → LineFit line.bytes → P (answer_at phase used line first)
  unfolding answer_at
  line_kept start used same k f = start_kept k
  line_kept (top p) used same k f = top_kept f p k.0 used same k.1
  line_kept (in_table p n rs) used same k f = rows_kept f p k.preamble n rs k
  line_kept (in_sentence p s) used same k f = nodes_kept ss line f p k.preamble s k
  line_kept (behind_sentence p) used same k f = begin_kept f p k.preamble used same k.sentences

  pub step_kept : (phase : Phase) (used : List ℕ) → ((n : ℕ) → member n used ≡ has sentence_number_of n ss) → PhaseKept phase ss → P (step phase used line)
  step_kept phase used same k = step_cases P bad phase used line k (line_kept phase used same k)
