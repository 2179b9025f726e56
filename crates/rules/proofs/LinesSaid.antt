-- A line has the columns and the comment that the reading takes from it; so a heading, a word, a phrase and an end that are
-- taken are what their lines say.
use Prim.Native.Nat.{ℕ, ◌+◌, ◌<◌}
use native.Mathlib.Omega.{arith}
use mathlib.Core.Path.{◌≡◌, refl, sym, ap, ap₂, ◌∙◌, subst}
use mathlib.Core.Logic.{inl, inr}
use mathlib.Core.Bool.{Bool, true, false}
use mathlib.Core.List.{List, [], ◌∷◌, ◌++◌}
use lib.ListN.{length, take, drop, get_or}
use lib.Seq.{length-take-le}
use lib.Dec.{ltb}
use borrow.Author.Tests.{ltb-true, eqb-true}
use Rattle.rules.specs.Lists.{pick, bytes, empty, every, same, Each}
use Rattle.rules.specs.Bytes.{percents}
use Rattle.rules.specs.Texts.{Text, no_text, trim}
use Rattle.rules.specs.Columns.{Column, columns_from, columns, written, fields, comment, text}
use Rattle.rules.specs.Numbers.{sentence_number, origin_id, date, phrase_number, number, signed_id, value}
use Rattle.rules.specs.Tables.{Tables}
use Rattle.rules.specs.Sentences.{Sentence, SoFar, heading_written, heading_in, end_rules, gapless, parented}
use Rattle.rules.specs.Keywords.{first_column, starts_phrase}
use Rattle.rules.specs.Tidy.{digits_of, id_digits}
use Rattle.rules.specs.GrammarLines.{White}
use Rattle.rules.specs.GrammarColumns.{Begins, no_column, one_column, Columns}
use Rattle.rules.specs.AsWritten.{LineSaid, HeadSaid, columns_behind, WordSaid, PhraseSaid}
use Rattle.rules.proofs.Conjunctions.{and_left, and_right}
use Rattle.rules.proofs.SaidOfLists.{never_both}
use Rattle.rules.proofs.TestsAsFacts.{same_is, good_some}
use Rattle.rules.proofs.AnyLine.{bytes_of}
use Rattle.rules.proofs.ColumnsAreRuns.{one_run, white_none, columns_whole}
use Rattle.rules.proofs.StrippedTexts.{stripped_said}
use Rattle.rules.proofs.ColumnsSaid.{columns_said, begins_said}
use Rattle.rules.proofs.BareColumns.{all_columns, column_at, rest_behind}
use Rattle.rules.proofs.PlaceFree.{column_there, count_columns}
use Rattle.rules.proofs.KeywordsAsSaid.{column_of_all, two_columns}
use Rattle.rules.proofs.Decimal.{id_one_writing}
use Rattle.rules.proofs.Elements.{none_given}
use Rattle.rules.proofs.NumbersAgain.{number_again}
use Rattle.rules.proofs.RulesHeld.{Held}
use Rattle.rules.proofs.LineFit.{LineFit}
use Rattle.rules.proofs.FirstColumns.{phrase_given, hash_form}
use Rattle.rules.proofs.Steps.{first_there}
use Rattle.rules.proofs.NodesKept.{columns_again}
use Rattle.rules.proofs.NodeLines.{WordHolds, word_read, PhraseHolds, phrase_read}
use Rattle.rules.proofs.NumberRules.{dropped}

-- ---- any line

said_from : {l rest : List ℕ} {cs : List (List ℕ)} → Begins l cs rest → Each White rest → (a : ℕ) → LineSaid l (bytes_of (fields (columns_from a l))) (comment (columns_from a l)).bytes
unfolding fields comment
said_from (no_column {l}) w a =
    subst (λ (cs : List Column). LineSaid l (bytes_of (fields cs)) (comment cs).bytes) (sym (white_none a l w))
    (record { rest = l; begins = no_column; no_sign = tt; comment = inl (w, refl) })
said_from (one_column {l} {c} {more} {rest} {cs} gap e w r p b) v a =
    subst (λ (ds : List Column). LineSaid l (bytes_of (fields ds)) (comment ds).bytes) (sym (one_run a l gap c more e w r p))
    (by (same c percents) refl (said_from b v (a + length gap + length c)))
  where
    sign : c ≡ percents → Begins l (percents ∷ []) more
    sign q = subst (λ (d : List ℕ). Begins l (d ∷ []) more) q (one_column gap e w r p no_column)

    by : (t : Bool) → same c percents ≡ t
        → LineSaid more (bytes_of (fields (columns_from (a + length gap + length c) more))) (comment (columns_from (a + length gap + length c) more)).bytes
        → LineSaid l (bytes_of (pick t [] (record { start = a + length gap; bytes = c } ∷ fields (columns_from (a + length gap + length c) more))))
        (pick t (trim (record { start = a + length gap + length c; bytes = more })) (comment (columns_from (a + length gap + length c) more))).bytes
    by true q k =
        record {
          rest = l;
          begins = no_column;
          no_sign = tt;
          comment = inr (more, sign ((same_is c percents).0 q), stripped_said (record { start = a + length gap + length c; bytes = more }));
        }
    by false q k =
        record { rest = k.rest; begins = one_column gap e w r p k.begins; no_sign = (λ z. never_both (same c percents) ((same_is c percents).1 z) q, k.no_sign); comment = k.comment }

pub line_said : (a : ℕ) (l : List ℕ) → LineSaid l (bytes_of (fields (columns_from a l))) (comment (columns_from a l)).bytes
line_said a l = let w = columns_whole l in said_from w.1 w.2 a

-- ---- words and phrases

module _ (line : Text) where
  abbrev fs : List Text
  fs = fields (columns line)

  pub word_said : (format : ℕ) (ts : Tables) (so : SoFar) → WordHolds format ts so line → WordSaid (word_read format ts so line) line.bytes
  word_said format ts so h =
      subst (λ (cs : List (List ℕ)). LineSaid line.bytes cs (comment (columns line)).bytes)
      (columns_again format fs so.words (text fs 0) (comment (columns line)) h.own.shape h.own.parents) (line_said line.start line.bytes)

  pub phrase_said : (format : ℕ) (ts : Tables) (so : SoFar) (k : ℕ) → LineFit line.bytes → starts_phrase (first_column line) ≡ true → PhraseHolds format ts so line k
      → PhraseSaid (phrase_read format ts so line k) line.bytes
  phrase_said format ts so k fit starts h =
      let o = first_there line fit (phrase_given (first_column line) starts) in
      let first : (text fs 0).bytes ≡ (first_column line).bytes = ap (λ (l : List Text). (text l 0).bytes) o.fields ∙ sym (ap (λ (t : Text). t.bytes) o.column) in
      let hash : (text fs 0).bytes ≡ 35 ∷ drop 1 (text fs 0).bytes = first ∙ hash_form (first_column line).bytes starts ∙ ap (λ (l : List ℕ). 35 ∷ drop 1 l) (sym first) in
      let name : (text fs 0).bytes ≡ 35 ∷ digits_of k = hash ∙ ap (λ (l : List ℕ). 35 ∷ l) (sym (number_again phrase_number (drop 1 (text fs 0).bytes) k h.number)) in
      record {
        no_word = refl;
        columns =
            subst (λ (cs : List (List ℕ)). LineSaid line.bytes cs (comment (columns line)).bytes)
            (columns_again format fs k no_text (comment (columns line)) h.own.shape h.own.parents ∙ ap (λ (c : List ℕ). c ∷ columns_behind (phrase_read format ts so line k)) name)
            (line_said line.start line.bytes);
      }

-- ---- #BOS

take_five : (xs : List (List ℕ)) → 4 < length xs → take 5 xs ≡ get_or xs 0 [] ∷ get_or xs 1 [] ∷ get_or xs 2 [] ∷ get_or xs 3 [] ∷ get_or xs 4 [] ∷ []
take_five [] h = absurd (omega arith)
take_five (a ∷ []) h = absurd (omega arith)
take_five (a ∷ b ∷ []) h = absurd (omega arith)
take_five (a ∷ b ∷ c ∷ []) h = absurd (omega arith)
take_five (a ∷ b ∷ c ∷ d ∷ []) h = absurd (omega arith)
take_five (a ∷ b ∷ c ∷ d ∷ e ∷ xs) h = refl

module _ (line : Text) where
  its_column : (n : ℕ) → get_or (all_columns line.bytes) n [] ≡ (written (columns line) n).bytes
  its_column n = column_of_all (columns_from 0 line.bytes) n ∙ sym (column_there line n)

  pub head_said : column_at 0 line.bytes ≡ bytes "#BOS" → Held (heading_written line) → HeadSaid (heading_in line) line.bytes
  unfolding fields
  head_said keyword h =
      let l = line.bytes in
      let cs = columns line in
      let seven = h.0 in
      let four : 4 < length cs = ltb-true 4 (length cs) (and_left (ltb 4 (length cs)) (empty (fields (drop 5 cs))) seven) in
      let more : 4 < length (all_columns l) = omega (arith, count_columns line) in
      let b = begins_said 4 l more in
      let d = dropped b line.start in
      let n1 = number_again sentence_number (written cs 1).bytes _ (good_some (number sentence_number (written cs 1).bytes) h.1.0) in
      let n2 = id_one_writing (written cs 2).bytes _ (good_some (signed_id (written cs 2).bytes) h.1.1.0) in
      let n3 = number_again date (written cs 3).bytes _ (good_some (number date (written cs 3).bytes) h.1.1.1.0) in
      let n4 = number_again origin_id (written cs 4).bytes _ (good_some (number origin_id (written cs 4).bytes) h.1.1.1.1.0) in
      let five : take 5 (all_columns l)
      ≡ bytes "#BOS" ∷ digits_of (heading_in line).number ∷ id_digits (heading_in line).editor1 ∷ digits_of (heading_in line).date ∷ digits_of (heading_in line).origin ∷ [] =
      take_five (all_columns l) more ∙ rw (its_column 0, its_column 1, its_column 2, its_column 3, its_column 4, n1, n2, n3, n4) (ap (λ (x : List ℕ). x ∷ (written cs 1).bytes ∷ (written cs 2).bytes ∷ (written cs 3).bytes ∷ (written cs 4).bytes ∷ []) (column_there line 0 ∙ keyword)) in
      let sized : length (take 5 (all_columns l)) ≡ 5 = length-take-le 5 (all_columns l) (omega arith) in
      let gone : drop 5 cs ≡ columns_from d.to (rest_behind 4 l).bytes = ap (λ (n : ℕ). drop n cs) (sym sized) ∙ d.are in
      let none_left : bytes_of (fields (columns_from d.to (rest_behind 4 l).bytes)) ≡ [] =
      ap (λ (ds : List Column). bytes_of (fields ds)) (sym gone) ∙ ap bytes_of (none_given (fields (drop 5 cs)) (and_right (ltb 4 (length cs)) (empty (fields (drop 5 cs))) seven)) in
      record {
        rest = (rest_behind 4 l).bytes;
        columns = subst (λ (xs : List (List ℕ)). Begins l xs (rest_behind 4 l).bytes) five b;
        comment =
            subst (λ (t : List ℕ). LineSaid (rest_behind 4 l).bytes [] t) (ap (λ (ds : List Column). (comment ds).bytes) (sym gone))
            (subst (λ (xs : List (List ℕ)). LineSaid (rest_behind 4 l).bytes xs (comment (columns_from d.to (rest_behind 4 l).bytes)).bytes) none_left (line_said d.to (rest_behind 4 l).bytes));
      }

-- ---- #EOS

pub end_said : (s : Sentence) (line : Text) → column_at 0 line.bytes ≡ bytes "#EOS" → Held (end_rules s.heading.number (gapless s.phrases) (every (parented s.phrases) (s.words ++ s.phrases)) line)
    → Columns line.bytes (bytes "#EOS" ∷ digits_of s.heading.number ∷ [])
unfolding end_rules
end_said s line keyword h =
    let second = (written (columns line) 1).bytes in
    let n = value (number sentence_number second) in
    let its : digits_of n ≡ second = number_again sentence_number second n (good_some (number sentence_number second) h.1.0) in
    let same_number : n ≡ s.heading.number = eqb-true n s.heading.number h.1.1.0 in
    columns_said line.bytes (bytes "#EOS" ∷ digits_of s.heading.number ∷ [])
    (two_columns line h.0 ∙ ap₂ (λ (x y : List ℕ). x ∷ y ∷ []) keyword (sym its ∙ ap digits_of same_number))
