-- A content has one tidy text: what document 01 says of its lines and their order leaves no choice. A number is written in one
-- way, a list has one order by rising numbers, and columns and lines follow each other.
use Prim.Native.Nat.{ℕ, suc}
use native.Mathlib.Omega.{arith}
use mathlib.Core.Path.{◌≡◌, refl, sym, ap, ap₂, ◌∙◌, subst}
use mathlib.Core.Logic.{inl, inr, ◌↔◌}
use mathlib.Core.Bool.{Bool, true, false}
use Rattle.std.specs.Prelude.{Option, None, Some}
use mathlib.Core.List.{List, [], ◌∷◌, ◌++◌}
use lib.Dec.{leb}
use Rattle.rules.specs.Lists.{pick, bytes}
use Rattle.rules.specs.GrammarNumbers.{Numeral, sentence_range}
use Rattle.rules.specs.GrammarNames.{end_of_line}
use Rattle.rules.specs.GrammarContent.{RowContent, NodeContent, HeadContent, SentenceContent, Content}
use Rattle.rules.specs.GrammarLines.{In}
use Rattle.rules.specs.Grammar.{Contains}
use Rattle.rules.specs.Writing.{tidy_of}
use Rattle.rules.specs.AsWritten.{EachWith}
use Rattle.rules.specs.TidyLines.{Saying, the_text, the_number, the_id, the_phrase, Says, PartedBy, TidyLine, Consists, tidy_lines}
use Rattle.rules.specs.TidyOrder.{Rises, ByRising, TableOrdered, TablesOrdered, SentenceOrdered, TidyOrder, WrittenTidily}
use Rattle.rules.proofs.Decimal.{digits_one_writing}
use Rattle.rules.proofs.NumeralsAsSaid.{decimal_said}
use Rattle.rules.proofs.EachElement.{each_then}
use Rattle.rules.proofs.Sorting.{Rising}
use Rattle.rules.proofs.SameLists.{each_itself, Among, rising_alike}
use Rattle.rules.proofs.TidyOrder.{in_some, some_in}
use Rattle.rules.proofs.TidyLines.{tidy_as_said}

-- ---- columns and lines

one_numeral : (n : ℕ) (xs ys : List ℕ) → Numeral xs n → Numeral ys n → xs ≡ ys
one_numeral n xs ys a b = sym (digits_one_writing xs n ((decimal_said xs n).1 a)) ∙ digits_one_writing ys n ((decimal_said ys n).1 b)

one_column : (s : Saying) (c d : List ℕ) → Says s c → Says s d → c ≡ d
one_column (the_text xs) c d a b = a ∙ sym b
one_column (the_number n) c d a b = one_numeral n c d a b
one_column (the_id i) c d (inl a) (inl b) = a.0 ∙ sym b.0
one_column (the_id i) c d (inl a) (inr b) = absurd (omega (arith, a.1, b.2))
one_column (the_id i) c d (inr a) (inl b) = absurd (omega (arith, a.2, b.1))
one_column (the_id i) c d (inr a) (inr b) =
    let same : b.0 ≡ a.0 = omega (arith, a.2, b.2) in
    one_numeral a.0 c d a.1 (subst (Numeral d) same b.1)
one_column (the_phrase n) c d a b = a.1 ∙ ap (λ (xs : List ℕ). bytes "#" ++ xs) (one_numeral n a.0 b.0 a.2 b.2) ∙ sym b.1

one_line : (byte : ℕ) (ss : List Saying) (l k : List ℕ) → PartedBy byte ss l → PartedBy byte ss k → l ≡ k
one_line byte [] l k a b = a ∙ sym b
one_line byte (s ∷ []) l k a b = one_column s l k a b
one_line byte (s ∷ t ∷ ss) l k a b =
    let first = one_column s a.0 b.0 a.3 b.3 in
    let others = one_line byte (t ∷ ss) a.1 b.1 a.4 b.4 in
    a.2 ∙ ap₂ (λ (c rest : List ℕ). c ++ (byte ∷ rest)) first others ∙ sym b.2

one_text : (ls : List TidyLine) (xs ys : List ℕ) → Consists ls xs → Consists ls ys → xs ≡ ys
one_text [] xs ys a b = a ∙ sym b
one_text (l ∷ ls) xs ys a b =
    let first = one_line l.between l.columns a.0 b.0 a.3 b.3 in
    let others = one_text ls a.1 b.1 a.4 b.4 in
    a.2 ∙ ap₂ (λ (line rest : List ℕ). line ++ (end_of_line ∷ rest)) first others ∙ sym b.2

-- ---- order

module _ {A : Type 0} (key : A → ℕ) where
  rises_on : (x : A) (xs : List A) → Rises key (x ∷ xs) → Rising key (suc (key x)) xs
  rises_on x [] r = tt
  rises_on x (y ∷ xs) r = (r.0, rises_on y xs r.1)

  rises_rising : (xs : List A) → Rises key xs → Rising key 0 xs
  rises_rising [] r = tt
  rises_rising (x ∷ xs) r = (omega arith, rises_on x xs r)

  all_in : (xs ys : List A) → ((x : A) → In x xs → In x ys) → Among xs ys
  all_in xs ys f = each_then _ _ (λ x s. in_some x ys (f x (some_in x xs s))) xs (each_itself xs)

  one_order : (xs ys zs : List A) → ByRising key xs ys → ByRising key xs zs → ys ≡ zs
  one_order xs ys zs a b =
      rising_alike key 0 ys zs (rises_rising ys a.rises) (rises_rising zs b.rises)
      (all_in ys zs (λ x i. (b.the_same x).0 ((a.the_same x).1 i))) (all_in zs ys (λ x i. (a.the_same x).0 ((b.the_same x).1 i)))

one_table : (n : ℕ) (t u v : Option (List RowContent)) → TableOrdered n t u → TableOrdered n t v → u ≡ v
one_table n None None None a b = refl
one_table n None None (Some vs) a b = absurd b
one_table n None (Some us) v a b = absurd a
one_table n (Some ts) None v a b = absurd a
one_table n (Some ts) (Some us) None a b = absurd b
one_table n (Some ts) (Some us) (Some vs) a b = ap Some (by (leb n 1) a b)
  where
    Order : Bool → List RowContent → Type 0
    Order t rs = pick t (ByRising (λ (r : RowContent). r.id1) ts rs) (rs ≡ ts)

    by : (t : Bool) → Order t us → Order t vs → us ≡ vs
    by true a b = one_order (λ (r : RowContent). r.id1) ts us vs a b
    by false a b = a ∙ sym b

one_tables : (n : ℕ) (ts us vs : List (Option (List RowContent))) → TablesOrdered n ts us → TablesOrdered n ts vs → us ≡ vs
one_tables n [] [] [] a b = refl
one_tables n [] [] (v ∷ vs) a b = absurd b
one_tables n [] (u ∷ us) vs a b = absurd a
one_tables n (t ∷ ts) [] vs a b = absurd a
one_tables n (t ∷ ts) (u ∷ us) [] a b = absurd b
one_tables n (t ∷ ts) (u ∷ us) (v ∷ vs) a b =
    ap₂ (λ (w : Option (List RowContent)) (ws : List (Option (List RowContent))). w ∷ ws) (one_table n t u v a.0 b.0)
    (one_tables (suc n) ts us vs a.1 b.1)

one_sentence : (s t u : SentenceContent) → SentenceOrdered s t → SentenceOrdered s u → t ≡ u
one_sentence s t u a b =
    let phrases = one_order (λ (n : NodeContent). n.number) s.phrases t.phrases u.phrases a.phrases b.phrases in
    ap (λ (h : HeadContent). record { heading = h; words = t.words; phrases = t.phrases }) (a.heading ∙ sym b.heading)
    ∙ ap₂ (λ (ws ps : List NodeContent). record { heading = u.heading; words = ws; phrases = ps }) (a.words ∙ sym b.words) phrases

one_each : (ss ts us : List SentenceContent) → EachWith SentenceOrdered ss ts → EachWith SentenceOrdered ss us → ts ≡ us
one_each [] [] [] a b = refl
one_each [] [] (u ∷ us) a b = absurd b
one_each [] (t ∷ ts) us a b = absurd a
one_each (s ∷ ss) [] us a b = absurd a
one_each (s ∷ ss) (t ∷ ts) [] a b = absurd b
one_each (s ∷ ss) (t ∷ ts) (u ∷ us) a b =
    ap₂ (λ (v : SentenceContent) (vs : List SentenceContent). v ∷ vs) (one_sentence s t u a.0 b.0) (one_each ss ts us a.1 b.1)

abbrev number_said : SentenceContent → ℕ
number_said s = s.heading.number

one_tidy_order : (c d e : Content) → TidyOrder c d → TidyOrder c e → d ≡ e
one_tidy_order c d e a b =
    let each : a.each ≡ b.each = one_each c.sentences a.each b.each a.by_phrases b.by_phrases in
    let rising = subst (λ (ss : List SentenceContent). ByRising number_said ss d.sentences) each a.by_number in
    let sentences = one_order number_said b.each d.sentences e.sentences rising b.by_number in
    let tables = one_tables 0 c.tables d.tables e.tables a.tables b.tables in
    ap (λ (n : ℕ). record { format = n; tables = d.tables; sentences = d.sentences }) (a.format ∙ sym b.format)
    ∙ ap (λ (ts : List (Option (List RowContent))). record { format = e.format; tables = ts; sentences = d.sentences }) tables
    ∙ ap (λ (ss : List SentenceContent). record { format = e.format; tables = e.tables; sentences = ss }) sentences

-- ---- the whole text

pub one_tidy_text : (c : Content) (xs ys : List ℕ) → WrittenTidily c xs → WrittenTidily c ys → xs ≡ ys
one_tidy_text c xs ys a b =
    let same = one_tidy_order c a.in_order b.in_order a.ordered b.ordered in
    one_text (tidy_lines b.in_order) xs ys (subst (λ (d : Content). Consists (tidy_lines d) xs) same a.consists) b.consists

-- of what a file contains, a text is so exactly if it is the file's tidy text
pub tidy_exactly : (file : List ℕ) (content : Content) → Contains sentence_range file content → (text : List ℕ)
    → WrittenTidily content text ↔ (text ≡ tidy_of file)
tidy_exactly file content c text = (
  λ w. one_tidy_text content text (tidy_of file) w (tidy_as_said file content c),
  λ e. subst (WrittenTidily content) (sym e) (tidy_as_said file content c),
)
