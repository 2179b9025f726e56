-- A printed line has its columns and one byte between two of them, a printed text its lines and no others: what is printed
-- column by column says what it shall. By one step along the columns, and along the lines.
use Prim.Native.Nat.{ℕ, zero, suc}
use mathlib.Core.Path.{◌≡◌, refl, sym, ap, ◌∙◌}
use mathlib.Core.Logic.{inl, inr}
use mathlib.Core.Bool.{Bool, true, false}
use mathlib.Core.List.{List, [], ◌∷◌, ◌++◌, map, append_assoc}
use lib.Dec.{eqb}
use Rattle.rules.specs.Lists.{pick, joined, Each}
use Rattle.rules.specs.Texts.{Text}
use Rattle.rules.specs.Tables.{Row}
use Rattle.rules.specs.Sentences.{Edge}
use Rattle.rules.specs.GrammarNumbers.{Numeral}
use Rattle.rules.specs.GrammarNames.{end_of_line}
use Rattle.rules.specs.GrammarSurvey.{edge_read}
use Rattle.rules.specs.AsWritten.{EachWith}
use Rattle.rules.specs.Tidy.{digits_of, id_digits, parted, commented, flag_text, flagged, second_text, edge_columns}
use Rattle.rules.specs.TidyLines.{Saying, the_text, the_id, the_phrase, Says, PartedBy, TidyLine, Consists, tidy_comment, tidy_flag, tidy_second, tidy_edge}
use Rattle.rules.proofs.Decimal.{digits_read_back}
use Rattle.rules.proofs.NumeralsAsSaid.{decimal_said}

-- ---- what is printed for a number, an id, a phrase

pub digits_numeral : (n : ℕ) → Numeral (digits_of n) n
digits_numeral n = (decimal_said (digits_of n) n).0 (digits_read_back n)

pub id_says : (i : ℕ) → Says (the_id i) (id_digits i)
id_says zero = inl (refl, refl)
id_says (suc n) = inr (n, digits_numeral n, refl)

pub phrase_says : (n : ℕ) → Says (the_phrase n) (35 ∷ digits_of n)
phrase_says n = (digits_of n, refl, digits_numeral n)

-- ---- columns

-- these columns say this, in order
abbrev pub AllSay : List Saying → List (List ℕ) → Type 0
AllSay ss cs = EachWith Says ss cs

pub all_more : (ss ts : List Saying) (cs ds : List (List ℕ)) → AllSay ss cs → AllSay ts ds → AllSay (ss ++ ts) (cs ++ ds)
all_more [] ts [] ds a b = b
all_more [] ts (c ∷ cs) ds a b = absurd a
all_more (s ∷ ss) ts [] ds a b = absurd a
all_more (s ∷ ss) ts (c ∷ cs) ds a b = (a.0, all_more ss ts cs ds a.1 b)

pub comment_says : (t : Text) → AllSay (tidy_comment t.bytes) (commented t)
comment_says t = by t.bytes refl
  where
    by : (xs : List ℕ) → t.bytes ≡ xs → AllSay (tidy_comment xs) (commented t)
    by [] e = rw e tt
    by (x ∷ xs) e = rw e (refl, (refl, tt))

pub flag_says : (n : ℕ) (r : Row) → AllSay (tidy_flag n r.flag) (flagged n r)
flag_says n r = by (eqb n 2)
  where
    by : (t : Bool) → AllSay (pick t (the_text (flag_text r.flag) ∷ []) []) (pick t (flag_text r.flag ∷ []) [])
    by true = (refl, tt)
    by false = tt

pub second_says : (n : ℕ) (r : Row) → AllSay (tidy_second n r.second.bytes) (second_text n r)
second_says n r = by (eqb n 0)
  where
    xs : List ℕ
    xs = r.second.bytes

    by : (t : Bool) → AllSay (pick t (tidy_comment xs) (the_text xs ∷ [])) (pick t (commented r.second) (xs ∷ []))
    by true = comment_says r.second
    by false = (refl, tt)

pub edges_say : (es : List Edge) → AllSay (joined (map tidy_edge (map edge_read es))) (joined (map edge_columns es))
edges_say [] = tt
edges_say (e ∷ es) = (refl, (digits_numeral e.parent, edges_say es))

-- ---- lines

record Parted (byte : ℕ) (ss : List Saying) (text : List ℕ) : Type 0 where
  line : List ℕ
  ends : text ≡ line ++ (end_of_line ∷ [])
  columns : PartedBy byte ss line

parted_line : (byte : ℕ) (ss : List Saying) (cs : List (List ℕ)) → AllSay ss cs → Parted byte ss (parted byte cs)
unfolding parted
parted_line byte [] [] a = record { line = []; ends = refl; columns = refl }
parted_line byte [] (c ∷ cs) a = absurd a
parted_line byte (s ∷ ss) [] a = absurd a
parted_line byte (s ∷ []) (c ∷ []) a = record { line = c; ends = refl; columns = a.0 }
parted_line byte (s ∷ []) (c ∷ d ∷ cs) a = absurd a.1
parted_line byte (s ∷ t ∷ ss) (c ∷ []) a = absurd a.1
parted_line byte (s ∷ t ∷ ss) (c ∷ d ∷ cs) a =
    let p = parted_line byte (t ∷ ss) (d ∷ cs) a.1 in
    record {
      line = c ++ (byte ∷ p.line);
      ends = ap (λ (l : List ℕ). c ++ (byte ∷ l)) p.ends ∙ sym (append_assoc c (byte ∷ p.line) (end_of_line ∷ []));
      columns = (c, p.line, refl, a.0, p.columns);
    }

-- ---- a text of lines

pub record Lined (ls : List TidyLine) (text : List ℕ) : Type 0 where
  pub consists : Consists ls text

pub no_line : Lined [] []
no_line = record { consists = refl }

pub one_line : (l : TidyLine) (cs : List (List ℕ)) → AllSay l.columns cs → Lined (l ∷ []) (parted l.between cs)
one_line l cs a =
    let p = parted_line l.between l.columns cs a in
    record { consists = (p.line, [], p.ends, p.columns, refl) }

more_lines : (ls ms : List TidyLine) (xs ys : List ℕ) → Consists ls xs → Consists ms ys → Consists (ls ++ ms) (xs ++ ys)
more_lines [] ms xs ys a b = rw a b
more_lines (l ∷ ls) ms xs ys a b = (
  a.0,
  a.1 ++ ys,
  ap (λ (t : List ℕ). t ++ ys) a.2 ∙ append_assoc a.0 (end_of_line ∷ a.1) ys,
  a.3,
  more_lines ls ms a.1 ys a.4 b,
)

-- lines, and further lines behind them
pub then_lines : {ls ms : List TidyLine} {xs ys : List ℕ} → Lined ls xs → Lined ms ys → Lined (ls ++ ms) (xs ++ ys)
then_lines {ls} {ms} {xs} {ys} a b = record { consists = more_lines ls ms xs ys a.consists b.consists }

-- one line for each of a list that is so
module _ {A B : Type 0} (So : A → Type 0) (said : A → B) (line : B → TidyLine) (text : A → List ℕ) where
  pub lines_of : ((x : A) → So x → Lined (line (said x) ∷ []) (text x)) → (xs : List A) → Each So xs
      → Lined (map line (map said xs)) (joined (map text xs))
  lines_of one [] a = no_line
  lines_of one (x ∷ xs) a = then_lines (one x a.0) (lines_of one xs a.1)
