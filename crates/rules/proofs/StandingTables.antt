-- A table whose lines stand among lines that are all taken is told: its #BOT can only open it, its rows can only be rows, its
-- #EOT can only close it, and no line behind takes it away. By one step along the lines.
use Prim.Native.Nat.{ℕ, ◌<◌}
use native.Mathlib.Omega.{arith}
use mathlib.Core.Path.{◌≡◌, refl, sym, ap, ◌∙◌, subst}
use mathlib.Core.Bool.{Bool, true, false, not, ◌&&◌, ◌||◌}
use Rattle.std.specs.Prelude.{Option, None, Some}
use mathlib.Core.List.{List, [], ◌∷◌, ◌++◌, append_assoc, append-nil}
use lib.ListN.{length, get_or, length-set}
use lib.Seq.{get_or-set_same, get_or-set_other}
use Rattle.rules.specs.Lists.{pick, bytes, empty, same, Each}
use Rattle.rules.specs.Texts.{Text, reads}
use Rattle.rules.specs.Columns.{Column, columns, written}
use Rattle.rules.specs.Tables.{Tables, Row, table, there as there_is, present, table_names}
use Rattle.rules.specs.Rows.{row_of}
use Rattle.rules.specs.Sentences.{Sentence}
use Rattle.rules.specs.Keywords.{table_opened, table_ended, first_column, hashed, hash_and_digits, starts_row}
use Rattle.rules.specs.Phases.{Preamble, Phase, start, top, in_table, in_sentence, behind_sentence, with_table, tables_at, Answer, go, next}
use Rattle.rules.specs.GrammarTables.{Names}
use Rattle.rules.specs.AsWritten.{EachWith, TableRowSaid}
use Rattle.rules.proofs.Conjunctions.{false_if_never}
use Rattle.rules.proofs.AnyLine.{bytes_of, begun_by}
use Rattle.rules.proofs.BareColumns.{column_at}
use Rattle.rules.proofs.TestsAsFacts.{reads_are}
use Rattle.rules.proofs.TablesAsSaid.{is_named}
use Rattle.rules.proofs.KeywordsAsSaid.{keyword_first, name_second, opened_granted, ended_granted}
use Rattle.rules.proofs.ReadSoFar.{first_is}
use Rattle.rules.proofs.RowsSaid.{row_said}
use Rattle.rules.proofs.Takings.{go_closed, go_row, refuse_six, answer_start, answer_behind, answer_top, answer_rows, answer_nodes, answer_at}
use Rattle.rules.proofs.LineByLine.{numbers_in, Through, Takes}
use Rattle.rules.proofs.WalkedLines.{Walks, one_taken, Holds, walked}

-- ---- the first column

-- a test that fails of no column and of the line's own fails
first_test : (line : Text) (T : List ℕ → Bool) → T [] ≡ false → T (column_at 0 line.bytes) ≡ false → T (first_column line).bytes ≡ false
first_test line T empty_so its = by (first_column line).bytes refl
  where
    by : (c : List ℕ) → (first_column line).bytes ≡ c → T c ≡ false
    by [] e = empty_so
    by (b ∷ bs) e = sym (ap T (first_is line (b ∷ bs) (omega arith) e).1) ∙ its

-- a first column that begins with # begins the line
hash_first : (line : Text) (c : List ℕ) → (first_column line).bytes ≡ bytes "#" ++ c → (rest : List ℕ) × (line.bytes ≡ bytes "#" ++ rest)
hash_first line c e =
    let s = first_is line (bytes "#" ++ c) (omega arith) e in
    let b = begun_by 0 line.bytes s.0 in
    let its : b.first.text.bytes ≡ bytes "#" ++ c = sym (ap (λ (cs : List Column). (written cs 0).bytes) b.form) ∙ s.1 in
    (c ++ b.first.after.bytes, b.whole ∙ ap (λ (xs : List ℕ). xs ++ b.first.after.bytes) its)

one_name : (n m : ℕ) → ◌≡◌ {A = Option ℕ} (Some n) (Some m) → n ≡ m
one_name n m e = cc

-- ---- one line; K is what is to be so behind it

module _ (K : Phase → List Sentence → Type 0) (out : List Sentence) (line : Text) (used : List ℕ) where
  passes : (t : Bool) (a b : Answer) → t ≡ false → Through K out (pick t a b) → Through K out b
  passes t a b e k = subst (λ (t : Bool). Through K out (pick t a b)) e k

  module _ (keyword : List ℕ) (n : ℕ) (names : Names keyword n line.bytes) where
    its_keyword : column_at 0 line.bytes ≡ keyword
    its_keyword = keyword_first line keyword (get_or table_names n []) names

    not_so : (T : List ℕ → Bool) → T [] ≡ false → T keyword ≡ false → T (first_column line).bytes ≡ false
    not_so T empty_so other = first_test line T empty_so (ap T its_keyword ∙ other)

  -- #BOT and a name
  pub record Opens (n : ℕ) (ph : Phase) : Type 0 where
    pub preamble : Preamble
    pub at_top : ph ≡ top preamble
    pub new : present n preamble.tables ≡ true → ⊥
    pub goes_on : K (in_table preamble n []) out

  module _ (n : ℕ) (l : n < 7) (names : Names (bytes "#BOT") n line.bytes) where
    other : (keyword : List ℕ) → same [] keyword ≡ false → same (bytes "#BOT") keyword ≡ false → reads keyword (first_column line) ≡ false
    other keyword empty_so e = not_so (bytes "#BOT") n names (λ (c : List ℕ). same c keyword) empty_so e

    opens_here : (p : Preamble) → Through K out (next (λ n. go (in_table p n [])) (table_opened p.tables line)) → Opens n (top p)
    opens_here p t =
        let o = opened_granted K out line (λ n. go (in_table p n [])) p.tables (its_keyword (bytes "#BOT") n names) t in
        let mine = is_named (written (columns line) 1) n l (name_second line (bytes "#BOT") (get_or table_names n []) names) in
        let its = is_named (written (columns line) 1) o.which o.one_of_seven
        (name_second line (bytes "#BOT") (get_or table_names o.which []) o.names) in
        let e : o.which ≡ n = one_name o.which n (sym its ∙ mine) in
        record {
          preamble = p;
          at_top = refl;
          new = subst (λ (m : ℕ). present m p.tables ≡ true → ⊥) e o.new;
          goes_on = subst (λ (m : ℕ). K (in_table p m []) out) e o.goes_on;
        }

    nothing_behind : (p : Preamble) → Through K out (answer_behind line (first_column line) p used) → ⊥
    unfolding answer_behind
    nothing_behind p t = passes (reads (bytes "#BOS") (first_column line)) _ (refuse_six line) (other (bytes "#BOS") refl refl) t

    pub bot_opens : (ph : Phase) → Through K out (answer_at ph used line (first_column line)) → Opens n ph
    unfolding answer_at answer_start answer_top answer_rows answer_nodes
    bot_opens start t =
        absurd (passes (reads (bytes "#FORMAT") (first_column line)) _ (refuse_six line) (other (bytes "#FORMAT") refl refl) t)
    bot_opens (top p) t = by (reads (bytes "#BOT") (first_column line)) t
      where
        by : (b : Bool)
            → Through K out (pick b (next (λ n. go (in_table p n [])) (table_opened p.tables line)) (answer_behind line (first_column line) p used))
            → Opens n (top p)
        by true t = opens_here p t
        by false t = absurd (nothing_behind p t)
    bot_opens (in_table p m rs) t =
        absurd (passes (starts_row (first_column line)) _ (refuse_six line)
        (not_so (bytes "#BOT") n names (λ (c : List ℕ). not (empty c) && not (hashed c)) refl refl)
        (passes (reads (bytes "#EOT") (first_column line)) _ _ (other (bytes "#EOT") refl refl) t))
    bot_opens (in_sentence p s) t =
        absurd (passes _ _ (refuse_six line)
        (not_so (bytes "#BOT") n names (λ (c : List ℕ). same c (bytes "#") || (not (empty c) && not (hashed c))) refl refl)
        (passes _ _ _ (not_so (bytes "#BOT") n names hash_and_digits refl refl)
        (passes (reads (bytes "#EOS") (first_column line)) _ _ (other (bytes "#EOS") refl refl) t)))
    bot_opens (behind_sentence p) t = absurd (nothing_behind p t)

  module _ (p : Preamble) (n : ℕ) (rs : List Row) where
    -- a line that doesn't begin with #
    pub row_taken : ((rest : List ℕ) → line.bytes ≡ bytes "#" ++ rest → ⊥)
        → Through K out (answer_at (in_table p n rs) used line (first_column line))
        → (r : Row) × TableRowSaid n r line.bytes × K (in_table p n (rs ++ (r ∷ []))) out
    unfolding answer_at answer_rows
    row_taken plain t =
        by (starts_row (first_column line))
        (passes (reads (bytes "#EOT") (first_column line)) _ _
        (false_if_never (reads (bytes "#EOT") (first_column line))
        (λ e. (let h = hash_first line (bytes "EOT") ((reads_are (bytes "#EOT") (first_column line)).0 e) in plain h.0 h.1))) t)
      where
        by : (b : Bool) → Through K out (pick b (next (go_row p n rs) (row_of n rs line)) (refuse_six line))
            → (r : Row) × TableRowSaid n r line.bytes × K (in_table p n (rs ++ (r ∷ []))) out
        by true t =
            row_said line (λ (a : Answer). Through K out a → (r : Row) × TableRowSaid n r line.bytes × K
            (in_table p n (rs ++ (r ∷ []))) out) (λ q t. absurd t) (go_row p n rs) n rs
            (λ r w t. (r, w, t)) t
        by false t = absurd t

    -- #EOT and its name
    pub eot_closes : Names (bytes "#EOT") n line.bytes → Through K out (answer_at (in_table p n rs) used line (first_column line))
        → K (top (with_table p n rs)) out
    unfolding answer_at answer_rows
    eot_closes names t = by (reads (bytes "#EOT") (first_column line)) t
      where
        by : (b : Bool)
            → Through K out (pick b (next (λ m. go_closed p n rs) (table_ended n line))
            (pick (starts_row (first_column line)) (next (go_row p n rs) (row_of n rs line)) (refuse_six line)))
            → K (top (with_table p n rs)) out
        by true t = (ended_granted K out line (λ m. go_closed p n rs) n (its_keyword (bytes "#EOT") n names) t).1
        by false t =
            absurd (passes (starts_row (first_column line)) _ (refuse_six line)
            (not_so (bytes "#EOT") n names (λ (c : List ℕ). not (empty c) && not (hashed c)) refl refl) t)

-- ---- a table's lines

module _ (E : Phase → List Sentence → Type 0) where
  rows_walked : (rows tail : List (List ℕ)) (p : Preamble) (n : ℕ) (rs : List Row) (out : List Sentence)
      → Each (λ (l : List ℕ). (rest : List ℕ) → l ≡ bytes "#" ++ rest → ⊥) rows → Walks E (rows ++ tail) (in_table p n rs) out
      → (us : List Row) × EachWith (TableRowSaid n) us rows × Walks E tail (in_table p n (rs ++ us)) out
  rows_walked [] tail p n rs out plain w = ([], tt, subst (λ (us : List Row). Walks E tail (in_table p n us) out) (sym (append-nil rs)) w)
  rows_walked (l ∷ rows) tail p n rs out plain w =
      let o = one_taken E l (rows ++ tail) (in_table p n rs) out w in
      let r = row_taken (Walks E (rows ++ tail)) out o.0 (numbers_in out) p n rs (λ rest e. plain.0 rest (sym o.1 ∙ e)) o.2 in
      let more = rows_walked rows tail p n (rs ++ (r.0 ∷ [])) out plain.1 r.2 in (
        r.0 ∷ more.0,
        (subst (TableRowSaid n r.0) o.1 r.1, more.1),
        subst (λ (us : List Row). Walks E tail (in_table p n us) out) (append_assoc rs (r.0 ∷ []) more.0) more.2,
      )

  -- behind the table's lines it is there
  pub record Closed (n : ℕ) (rows tail : List (List ℕ)) : Type 0 where
    pub preamble : Preamble
    pub told : List Row
    pub each_row : EachWith (TableRowSaid n) told rows
    pub there : table n preamble.tables ≡ Some told
    pub out : List Sentence
    pub goes_on : Walks E tail (top preamble) out

  table_walked : (n : ℕ) → n < 7 → (bot eot : List ℕ) (rows tail : List (List ℕ)) → Names (bytes "#BOT") n bot → Names (bytes "#EOT") n eot
      → Each (λ (l : List ℕ). (rest : List ℕ) → l ≡ bytes "#" ++ rest → ⊥) rows → (ph : Phase) (out : List Sentence)
      → length (tables_at ph) ≡ 7
      → Walks E (((bot ∷ rows) ++ (eot ∷ [])) ++ tail) ph out → Closed n rows tail
  table_walked n l bot eot rows tail begins ends plain ph out seven w =
      let o = one_taken E bot ((rows ++ (eot ∷ [])) ++ tail) ph out w in
      let b = bot_opens (Walks E ((rows ++ (eot ∷ [])) ++ tail)) out o.0 (numbers_in out) n l
      (subst (Names (bytes "#BOT") n) (sym o.1) begins) ph o.2 in
      let p = b.preamble in
      let inside = subst (λ (ls : List (List ℕ)). Walks E ls (in_table p n []) out) (append_assoc rows (eot ∷ []) tail) b.goes_on in
      let r = rows_walked rows (eot ∷ tail) p n [] out plain inside in
      let c = one_taken E eot tail (in_table p n r.0) out r.2 in
      let room : length p.tables ≡ 7 = sym (ap (λ (x : Phase). length (tables_at x)) b.at_top) ∙ seven in
      record {
        preamble = with_table p n r.0;
        told = r.0;
        each_row = r.1;
        there = get_or-set_same p.tables n (Some r.0) None (omega (arith, room));
        out = out;
        goes_on = eot_closes (Walks E tail) out c.0 (numbers_in out) p n r.0 (subst (Names (bytes "#EOT") n) (sym c.1) ends) c.2;
      }

  -- ---- among other lines

  phase_seven : (ph : Phase) → Holds (Unit {0}) (λ (ts : Tables). length ts ≡ 7) (λ (n : ℕ) (ts : Tables). Unit {0}) ph
      → length (tables_at ph) ≡ 7
  phase_seven start h = refl
  phase_seven (top p) h = h
  phase_seven (in_table p n rs) h = h.0
  phase_seven (in_sentence p s) h = h
  phase_seven (behind_sentence p) h = h

  phase_has : (n : ℕ) (us : List Row) (ph : Phase) → Holds ⊥ (λ (ts : Tables). table n ts ≡ Some us) (λ (m : ℕ) (ts : Tables). m ≡ n → ⊥) ph
      → table n (tables_at ph) ≡ Some us
  phase_has n us start h = absurd h
  phase_has n us (top p) h = h
  phase_has n us (in_table p m rs) h = h.0
  phase_has n us (in_sentence p s) h = h
  phase_has n us (behind_sentence p) h = h

  -- the table is there behind all lines, wherever that is
  pub record Standing (n : ℕ) (rows : List (List ℕ)) : Type 0 where
    pub told : List Row
    pub each_row : EachWith (TableRowSaid n) told rows
    pub phase : Phase
    pub out : List Sentence
    pub at_end_lem : E phase out
    pub there : table n (tables_at phase) ≡ Some told

  last_taken : (ph : Phase) (out : List Sentence) → Walks E [] ph out → E ph out
  last_taken ph out w = by w.0 w.1 w.2
    where
      by : (ts : List Text) → bytes_of ts ≡ [] → Takes E ts ph out → E ph out
      by [] e t = t
      by (line ∷ ts) e t = absurd (let z : ◌≡◌ {A = ℕ} 0 1 = cc in omega arith)

  pub stands_told : (n : ℕ) → n < 7 → (bot eot : List ℕ) (before rows behind : List (List ℕ)) → Names (bytes "#BOT") n bot
      → Names (bytes "#EOT") n eot
      → Each (λ (l : List ℕ). (rest : List ℕ) → l ≡ bytes "#" ++ rest → ⊥) rows
      → Walks E (before ++ (((bot ∷ rows) ++ (eot ∷ [])) ++ behind)) start [] → Standing n rows
  stands_told n l bot eot before rows behind begins ends plain w =
      let to = walked (Unit {0}) (λ (ts : Tables). length ts ≡ 7) (λ (m : ℕ) (ts : Tables). Unit {0}) (λ s. refl) (λ m ts q new. tt)
      (λ m rs ts q r. length-set ts m (Some rs) ∙ q) E before (((bot ∷ rows) ++ (eot ∷ [])) ++ behind) start [] tt w in
      let c = table_walked n l bot eot rows behind begins ends plain to.0 to.1 (phase_seven to.0 to.2) to.3 in
      let us = c.told in
      let on = walked ⊥ (λ (ts : Tables). table n ts ≡ Some us) (λ (m : ℕ) (ts : Tables). m ≡ n → ⊥) (λ s. absurd s)
      (λ m ts q new e. new (ap (λ (m : ℕ). present m ts) e ∙ ap there_is q))
      (λ m rs ts q other. get_or-set_other ts m n (Some rs) None (λ e. other (sym e)) ∙ q) E behind [] (top c.preamble) c.out c.there
      (subst (λ (ls : List (List ℕ)). Walks E ls (top c.preamble) c.out) (sym (append-nil behind)) c.goes_on) in
      record {
        told = us;
        each_row = c.each_row;
        phase = on.0;
        out = on.1;
        at_end_lem = last_taken on.0 on.1 on.3;
        there = phase_has n us on.0 on.2;
      }
