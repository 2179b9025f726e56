-- The tables told of a file are those closed before the fault: a refused line and an unended rest leave them, and every table
-- that stands among the lines in front is told. By one step along the table's lines, none of which is refused.
use Prim.Native.Nat.{ℕ}
use native.Mathlib.Omega.{arith}
use mathlib.Core.Path.{◌≡◌, refl, sym, ap, ◌∙◌, subst}
use mathlib.Core.Bool.{Bool, true, false}
use mathlib.Core.List.{List, [], ◌∷◌, ◌++◌}
use lib.ListN.{length-append}
use Rattle.rules.specs.Lists.{pick}
use Rattle.rules.specs.Bytes.{ignored}
use Rattle.rules.specs.Rules.{fault_of}
use Rattle.rules.specs.Tables.{table}
use Rattle.rules.specs.Sentences.{Sentence}
use Rattle.rules.specs.Phases.{Phase, start, tables_at, Answer, refuse, go, hand}
use Rattle.rules.specs.Reading.{Reading, begin, read, ended}
use Rattle.rules.specs.Survey.{Survey, answered, survey_of}
use Rattle.rules.specs.LentBuffers.{WithinLimit}
use Rattle.rules.specs.Refusals.{Clean, OneLine, line_in}
use Rattle.rules.specs.GrammarLines.{lines_written}
use Rattle.rules.specs.PointedAt.{FaultyLine}
use Rattle.rules.specs.TablesTold.{TableStands, TableTold, TablesBeforeFault}
use Rattle.rules.proofs.ReadLines.{read_append, read_part, read_fault}
use Rattle.rules.proofs.CleanFronts.{Fresh, survey_is, clean_fresh, no_newline, end_of_line, line_read}
use Rattle.rules.proofs.FirstFaulty.{answer_on, line_fresh}
use Rattle.rules.proofs.PointedAt.{fresh_clean}
use Rattle.rules.proofs.BytesAsSaid.{heeded_of, heeded_only}
use Rattle.rules.proofs.LineByLine.{read_takes, heeded_texts, heeded_bytes}
use Rattle.rules.proofs.LinesOfFiles.{placed, placed_bytes}
use Rattle.rules.proofs.WalkedLines.{sound_lines}
use Rattle.rules.proofs.StandingTables.{stands_told}

-- ---- a line that is refused, and an unended rest

tables_at_line : (front l x : List ℕ) → Clean front → OneLine l → WithinLimit (line_in front l x) → (Clean (line_in front l []) → ⊥)
    → (survey_of (line_in front l x)).tables ≡ (survey_of front).tables
tables_at_line front l x c o fits faulty =
    ap (λ (v : Survey). v.tables) (survey_is (line_in front l x) fits ∙ ap answered (line_read front l k o x)) ∙ by (answer_on front l) refl
    ∙ sym (ap (λ (v : Survey). v.tables) (survey_is front c.fits))
  where
    k : Fresh front
    k = clean_fresh front c

    next_line : (a : Answer) → answer_on front l ≡ a → read begin (line_in front l []) ≡ ended (end_of_line front l) a
    next_line a e = line_read front l k o [] ∙ ap (ended (end_of_line front l)) e

    shorter : WithinLimit (line_in front l [])
    shorter =
        omega (
          arith,
          fits,
          length-append front (l ++ (10 ∷ [])),
          length-append l (10 ∷ []),
          length-append front
              (l ++ (10 ∷ x)),
          length-append l (10 ∷ x),
        )

    by : (a : Answer) → answer_on front l ≡ a → (answered (read (ended (end_of_line front l) a) x)).tables ≡ (answered (read begin front)).tables
    by (refuse q) e = ap (λ (r : Reading). (answered r).tables) (read_fault (ended (end_of_line front l) (refuse q)) (fault_of q) x refl)
    by (go ph) e =
        absurd (faulty (fresh_clean (line_in front l []) shorter (line_fresh front l k o _ (next_line (go ph) e) refl refl refl refl)))
    by (hand p s) e =
        absurd (faulty (fresh_clean (line_in front l []) shorter (line_fresh front l k o _ (next_line (hand p s) e) refl refl refl refl)))

tables_at_rest : (front rest : List ℕ) → Clean front → OneLine rest → WithinLimit (front ++ rest)
    → (survey_of (front ++ rest)).tables ≡ (survey_of front).tables
tables_at_rest front rest c o fits =
    ap (λ (v : Survey). v.tables) (survey_is (front ++ rest) fits)
    ∙ ap (λ (r : Reading). (answered r).tables)
    (read_append begin front rest ∙ read_part (read begin front) rest (clean_fresh front c).sound (no_newline rest o))
    ∙ sym (ap (λ (v : Survey). v.tables) (survey_is front c.fits))

-- ---- the tables of the lines in front

heeded_append : (xs ys : List (List ℕ)) → heeded_of (xs ++ ys) ≡ heeded_of xs ++ heeded_of ys
heeded_append [] ys = refl
heeded_append (x ∷ xs) ys = by (ignored x) (heeded_append xs ys)
  where
    by : (t : Bool) → heeded_of (xs ++ ys) ≡ heeded_of xs ++ heeded_of ys
        → pick t (heeded_of (xs ++ ys)) (x ∷ heeded_of (xs ++ ys)) ≡ pick t (heeded_of xs) (x ∷ heeded_of xs) ++ heeded_of ys
    by true e = e
    by false e = ap (λ (ls : List (List ℕ)). x ∷ ls) e

-- behind all lines the reading stands where it stands behind the front
abbrev There : List ℕ → Phase → List Sentence → Type 0
There front ph out = ph ≡ (read begin front).phase

each_told : (front : List ℕ) → Clean front → (n : ℕ) (rows : List (List ℕ)) → TableStands front n rows → TableTold front n rows
each_told front c n rows s =
    let ls = s.before ++ (s.lines ++ s.behind) in
    let whole : read begin front ≡ read begin (lines_written ls) = ap (read begin) s.parts in
    let sound = sym (ap (λ (r : Reading). r.fault) whole) ∙ (clean_fresh front c).sound in
    let taken = (read_takes (There front) (placed 0 ls) start []
    (sound_lines (There front) ls 0 start [] s.each_line (sound, sym (ap (λ (r : Reading). r.phase) whole)))).1 in
    let parts : heeded_of ls ≡ heeded_of s.before ++ (((s.bot ∷ rows) ++ (s.eot ∷ [])) ++ heeded_of s.behind) =
    heeded_append s.before (s.lines ++ s.behind)
    ∙ ap (λ (hs : List (List ℕ)). heeded_of s.before ++ hs)
    (heeded_append s.lines s.behind ∙ ap (λ (hs : List (List ℕ)). hs ++ heeded_of s.behind) (sym (heeded_only s.heeded))) in
    let k = stands_told (There front) n s.one_of_seven s.bot s.eot (heeded_of s.before) rows (heeded_of s.behind) s.its_bot
    s.its_eot s.its_rows
    (heeded_texts (placed 0 ls), heeded_bytes (placed 0 ls) ∙ ap heeded_of (placed_bytes 0 ls) ∙ parts, taken) in
    record {
      told = k.told;
      there =
          ap (λ (v : Survey). table n v.tables) (survey_is front c.fits) ∙ ap (λ (ph : Phase). table n (tables_at ph))
          (sym k.at_end_lem) ∙ k.there;
      each_row = k.each_row;
    }

pub tables_before_fault : (front : List ℕ) → Clean front → TablesBeforeFault front
tables_before_fault front c =
    record {
      at_line = λ l x o fits faulty. tables_at_line front l x c o fits faulty;
      at_rest = λ rest o fits. tables_at_rest front rest c o fits;
      each_table = λ n rows s. each_told front c n rows s;
    }

-- every table that stands in front of a file's first faulty line is told of the file
pub told_before_fault : (file : List ℕ) → WithinLimit file → (l : FaultyLine file) (n : ℕ) (rows : List (List ℕ)) → TableStands l.front n rows
    → TableTold file n rows
told_before_fault file fits l n rows s =
    let t = each_told l.front l.clean n rows s in
    let left = tables_at_line l.front l.bytes l.behind l.clean l.one_line (subst WithinLimit l.are fits) l.faulty in
    record { told = t.told; there = ap (λ (f : List ℕ). table n (survey_of f).tables) l.are ∙ ap (table n) left ∙ t.there; each_row = t.each_row }
