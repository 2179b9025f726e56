-- A sentence's #BOS is granted exactly if it is as the grammar says, and so is its #EOS as far as its columns go. By taking
-- the columns in front of the comment one by one.
use Prim.Native.Nat.{ℕ, zero, suc, ◌≤◌, ◌<◌}
use native.Mathlib.Omega.{arith}
use mathlib.Core.Path.{◌≡◌, refl, sym, ap, ◌∙◌, subst}
use mathlib.Core.Logic.{◌⊎◌, inl, inr, ◌↔◌}
use mathlib.Core.Bool.{Bool, true, false, false≢true}
use Rattle.std.specs.Prelude.{Option, None, Some}
use mathlib.Core.List.{List, [], ◌∷◌}
use lib.ListN.{length, get_or, drop}
use lib.Dec.{ltb}
use borrow.Author.Tests.{ltb-true, lt-ltb}
use Rattle.rules.specs.Lists.{pick, bytes, empty}
use Rattle.rules.specs.Bytes.{percents}
use Rattle.rules.specs.Texts.{Text, reads}
use Rattle.rules.specs.Columns.{Column, columns_from, columns, written, fields, comment}
use Rattle.rules.specs.Numbers.{sentence_number, origin_id, date, decimal, number, signed_id, good, value}
use Rattle.rules.specs.Tables.{Tables, origins, editors, table, present, rows_of, has_id}
use Rattle.rules.specs.Sentences.{Heading, known_editor, heading_written, heading_in, heading_of, Sentence}
use Rattle.rules.specs.Phases.{Phase, Answer, next}
use Rattle.rules.specs.GrammarNumbers.{sentence_range}
use Rattle.rules.specs.GrammarContent.{HeadContent}
use Rattle.rules.specs.GrammarSurvey.{head_read}
use Rattle.rules.specs.GrammarLines.{In}
use Rattle.rules.specs.GrammarColumns.{Front}
use Rattle.rules.proofs.Conjunctions.{false_if_never}
use Rattle.rules.proofs.Elements.{none_given}
use Rattle.rules.proofs.ColumnsSaid.{front_said, said_front, front_comment}
use Rattle.rules.proofs.BareColumns.{front_columns, comment_of, column_at}
use Rattle.rules.specs.GrammarTables.{TableLines, whiches, HasRow}
use Rattle.rules.specs.GrammarSentences.{HeadLine, HeadFits, head_says}
use Rattle.rules.proofs.PrintedLines.{comment_field}
use Rattle.rules.proofs.AnyLine.{bytes_of}
use Rattle.rules.proofs.PlaceFree.{column_there, front_columns_lem, comment_there}
use Rattle.rules.proofs.SaidOfLists.{and_both_ways, or_both_ways, not_both_ways}
use Rattle.rules.proofs.TestsAsFacts.{reads_are, good_some, some_good, some_value}
use Rattle.rules.proofs.NumeralsAsSaid.{number_said, id_said}
use Rattle.rules.proofs.TablesAsSaid.{Stand, is_there, has_row}
use Rattle.rules.proofs.LineByLine.{Through, Hold, through_held, held_through}

-- ---- columns in front of the comment

-- the first of them
pub record Peeled (cs : List Column) (x : List ℕ) (xs : List (List ℕ)) : Type 0 where
  pub first : Column
  pub others : List Column
  pub are : cs ≡ first ∷ others
  pub its : first.text.bytes ≡ x
  pub more : bytes_of (fields others) ≡ xs

pub peel : (cs : List Column) (x : List ℕ) (xs : List (List ℕ)) → bytes_of (fields cs) ≡ x ∷ xs → Peeled cs x xs
unfolding fields
peel [] x xs e = absurd (let z : ◌≡◌ {A = ℕ} 0 1 = cc in omega arith)
peel (c ∷ cs) x xs e = by (reads percents c.text) e
  where
    by : (t : Bool) → bytes_of (pick t [] (c.text ∷ fields cs)) ≡ x ∷ xs → Peeled (c ∷ cs) x xs
    by true e = absurd (let z : ◌≡◌ {A = ℕ} 0 1 = cc in omega arith)
    by false e = record { first = c; others = cs; are = refl; its = (cc); more = (cc) }

pub put_back : (c : Column) (cs : List Column) → (c.text.bytes ≡ percents → ⊥) → bytes_of (fields (c ∷ cs)) ≡ c.text.bytes ∷ bytes_of (fields cs)
unfolding fields
put_back c cs n = ap (λ (t : Bool). bytes_of (pick t [] (c.text ∷ fields cs))) (false_if_never (reads percents c.text) (λ e. n ((reads_are percents c.text).0 e)))

pub front_first : (line : List ℕ) (x : List ℕ) (xs : List (List ℕ)) → front_columns line ≡ x ∷ xs → column_at 0 line ≡ x
front_first line x xs e =
    let p = peel (columns_from 0 line) x xs e in
    ap (λ (cs : List Column). (written cs 0).bytes) p.are ∙ p.its

pub front_column : (line : List ℕ) (x : List ℕ) (xs : List (List ℕ)) (text : List ℕ) → Front line (x ∷ xs) text → column_at 0 line ≡ x
front_column line x xs text f = front_first line x xs (said_front line (x ∷ xs) text f)

fields_none : (ts : List Text) → bytes_of ts ≡ [] → empty ts ≡ true
fields_none [] e = refl
fields_none (t ∷ ts) e = absurd (let z : ◌≡◌ {A = ℕ} 0 1 = cc in omega arith)

-- a number is no comment sign
not_sign : (o : List ℕ → Option ℕ) (xs : List ℕ) → o percents ≡ None → good (o xs) ≡ true → xs ≡ percents → ⊥
not_sign o xs n g e = false≢true (sym (ap good n) ∙ sym (ap (λ (xs : List ℕ). good (o xs)) e) ∙ g)

-- five columns in front, none of them a comment sign, and no other behind them
five : (cs : List Column) → 4 < length cs → ((written cs 0).bytes ≡ percents → ⊥) → ((written cs 1).bytes ≡ percents → ⊥) → ((written cs 2).bytes ≡ percents → ⊥)
    → ((written cs 3).bytes ≡ percents → ⊥) → ((written cs 4).bytes ≡ percents → ⊥)
    → bytes_of (fields cs) ≡ (written cs 0).bytes ∷ (written cs 1).bytes ∷ (written cs 2).bytes ∷ (written cs 3).bytes ∷ (written cs 4).bytes ∷ bytes_of (fields (drop 5 cs))
five [] h a b c d e = absurd (omega arith)
five (p ∷ []) h a b c d e = absurd (omega arith)
five (p ∷ q ∷ []) h a b c d e = absurd (omega arith)
five (p ∷ q ∷ r ∷ []) h a b c d e = absurd (omega arith)
five (p ∷ q ∷ r ∷ s ∷ []) h a b c d e = absurd (omega arith)
five (p ∷ q ∷ r ∷ s ∷ t ∷ cs) h a b c d e =
    put_back p (q ∷ r ∷ s ∷ t ∷ cs) a
    ∙ ap (λ (xs : List (List ℕ)). p.text.bytes ∷ xs)
    (put_back q (r ∷ s ∷ t ∷ cs) b
    ∙ ap (λ (xs : List (List ℕ)). q.text.bytes ∷ xs)
    (put_back r (s ∷ t ∷ cs) c
    ∙ ap (λ (xs : List (List ℕ)). r.text.bytes ∷ xs)
    (put_back s (t ∷ cs) d ∙ ap (λ (xs : List (List ℕ)). s.text.bytes ∷ xs) (put_back t cs e))))

-- and back, for any count of columns
pub record Fronted (cs : List Column) (xs : List (List ℕ)) : Type 0 where
  pub enough : length xs ≤ length cs
  pub at : (i : ℕ) → i < length xs → (written cs i).bytes ≡ get_or xs i []
  pub none_behind : empty (fields (drop (length xs) cs)) ≡ true
  pub comment_behind : comment cs ≡ comment (drop (length xs) cs)

pub fronted : (xs : List (List ℕ)) (cs : List Column) → bytes_of (fields cs) ≡ xs → Fronted cs xs
unfolding fields
fronted [] cs e = record { enough = omega arith; at = λ i h. absurd (omega arith); none_behind = fields_none (fields cs) e; comment_behind = refl }
fronted (x ∷ xs) [] e = absurd (let z : ◌≡◌ {A = ℕ} 0 1 = cc in omega arith)
fronted (x ∷ xs) (c ∷ cs) e = by (reads percents c.text) refl e (fronted xs cs)
  where
    by : (t : Bool) → reads percents c.text ≡ t → bytes_of (pick t [] (c.text ∷ fields cs)) ≡ x ∷ xs → (bytes_of (fields cs) ≡ xs → Fronted cs xs) → Fronted (c ∷ cs) (x ∷ xs)
    by true q e more = absurd (let z : ◌≡◌ {A = ℕ} 0 1 = cc in omega arith)
    by false q e more =
        let m = more (cc) in
        record {
          enough = omega (arith, m.enough);
          at = λ i h. at_place i h m.at;
          none_behind = m.none_behind;
          comment_behind = comment_field c cs q ∙ m.comment_behind;
        }
      where
        at_place : (i : ℕ) → i < suc (length xs) → ((i : ℕ) → i < length xs → (written cs i).bytes ≡ get_or xs i []) → (written (c ∷ cs) i).bytes ≡ get_or (x ∷ xs) i []
        at_place zero h f = (cc)
        at_place (suc i) h f = f i (omega arith)

-- ---- #BOS

same_head : {i j : ℕ} {a b : ℕ} {d e : ℕ} {o p : ℕ} {x y : List ℕ} → i ≡ j → a ≡ b → d ≡ e → o ≡ p → x ≡ y
    → ◌≡◌ {A = HeadContent} (record { number = i; editor1 = a; date = d; origin = o; comment = x }) (record { number = j; editor1 = b; date = e; origin = p; comment = y })
same_head p q r s t = cc

-- as the grammar says, whatever the tables have
module _ (line : Text) (ts : List TableLines) where
  pub record Written (head : HeadLine) : Type 0 where
    pub rules : Hold (heading_written line)
    pub same : head_read (heading_in line) ≡ head_says head

  pub head_written : (head : HeadLine) → head.line ≡ line.bytes → HeadFits sentence_range ts head → Written head
  head_written head l t =
      let cs = columns line in
      let are = fronted (bytes "#BOS" ∷ t.number_text ∷ t.editor_text ∷ t.date_text ∷ t.origin_text ∷ []) cs
      (front_columns_lem line ∙ ap front_columns (sym l) ∙ said_front head.line _ head.comment t.columns) in
      let n = number sentence_number (written cs 1).bytes in
      let e = signed_id (written cs 2).bytes in
      let d = number date (written cs 3).bytes in
      let o = number origin_id (written cs 4).bytes in
      let is_n : n ≡ Some head.number =
      ap (number sentence_number) (are.at 1 (omega arith)) ∙ (number_said sentence_number t.number_text head.number).1 t.number_written in
      let is_e : e ≡ Some head.editor1 =
      ap signed_id (are.at 2 (omega arith)) ∙ (id_said t.editor_text head.editor1).1 t.editor_written in
      let is_d : d ≡ Some head.date =
      ap (number date) (are.at 3 (omega arith)) ∙ (number_said date t.date_text head.date).1 t.date_written in
      let is_o : o ≡ Some head.origin =
      ap (number origin_id) (are.at 4 (omega arith)) ∙ (number_said origin_id t.origin_text head.origin).1 t.origin_written in
      let v_n : value n ≡ head.number = some_value n head.number is_n in
      let v_e : value e ≡ head.editor1 = some_value e head.editor1 is_e in
      let v_d : value d ≡ head.date = some_value d head.date is_d in
      let v_o : value o ≡ head.origin = some_value o head.origin is_o in
      let its_comment : (comment (drop 5 cs)).bytes ≡ head.comment =
      sym (ap (λ (t : Text). t.bytes) are.comment_behind) ∙ comment_there line ∙ ap comment_of (sym l)
      ∙ front_comment head.line _ head.comment t.columns in
      record {
        rules = (
          (and_both_ways (ltb 4 (length cs)) (empty (fields (drop 5 cs)))).1
              (lt-ltb 4 (length cs) (omega (arith, are.enough)), are.none_behind),
          (
            some_good n head.number is_n,
            (some_good e head.editor1 is_e, (some_good d head.date is_d, (some_good o head.origin is_o, tt))),
          ),
        );
        same = same_head v_n v_e v_d v_o its_comment;
      }

module _ (T : Tables) (ts : List TableLines) (s : Stand T ts) where
  editor_said : (i : ℕ) → (known_editor T i ≡ true) ↔ ((i ≤ 1) ⊎ HasRow ts editors i)
  editor_said i = (λ e. said ((or_both_ways (ltb i 2) (has_id i (rows_of (table editors T)))).0 e), λ h. (or_both_ways (ltb i 2) (has_id i (rows_of (table editors T)))).1 (read_so h))
    where
      said : (ltb i 2 ≡ true) ⊎ (has_id i (rows_of (table editors T)) ≡ true) → (i ≤ 1) ⊎ HasRow ts editors i
      said (inl e) = inl (omega (arith, ltb-true i 2 e))
      said (inr e) = inr ((has_row T ts s editors i).0 e)

      read_so : (i ≤ 1) ⊎ HasRow ts editors i → (ltb i 2 ≡ true) ⊎ (has_id i (rows_of (table editors T)) ≡ true)
      read_so (inl h) = inl (lt-ltb i 2 (omega arith))
      read_so (inr h) = inr ((has_row T ts s editors i).1 h)

  module _ (K : Phase → List Sentence → Type 0) (out : List Sentence) (line : Text) (before : ℕ → Bool) where
    pub record Begun (f : Heading → Answer) : Type 0 where
      pub head : HeadLine
      pub its_line : head.line ≡ line.bytes
      pub fit : HeadFits sentence_range ts head
      pub origin_there : In origins (whiches ts)
      pub editor_there : In editors (whiches ts)
      pub new : before head.number ≡ true → ⊥
      pub read_as : Heading
      pub same : head_read read_as ≡ head_says head
      pub goes_on : Through K out (f read_as)

    pub head_granted : (f : Heading → Answer) → column_at 0 line.bytes ≡ bytes "#BOS" → Through K out (next f (heading_of T before line)) → Begun f
    unfolding heading_of decimal
    head_granted f q g =
        let h = through_held K out f _ _ g in
        let cs = columns line in
        let n = number sentence_number (written cs 1).bytes in
        let e = signed_id (written cs 2).bytes in
        let d = number date (written cs 3).bytes in
        let o = number origin_id (written cs 4).bytes in
        let seven = (and_both_ways (ltb 4 (length cs)) (empty (fields (drop 5 cs)))).0 h.0.0 in
        let both = (and_both_ways (present origins T) (present editors T)).0 h.0.1.1.1.1.1.0 in
        let keyword : (written cs 0).bytes ≡ bytes "#BOS" = column_there line 0 ∙ q in
        let five_texts = bytes "#BOS" ∷ (written cs 1).bytes ∷ (written cs 2).bytes ∷ (written cs 3).bytes ∷ (written cs 4).bytes ∷ [] in
        let front : bytes_of (fields cs) ≡ five_texts =
        five cs (ltb-true 4 (length cs) seven.0) (λ z. let c : ◌≡◌ {A = ℕ} 0 1 = cc in omega arith)
        (not_sign (number sentence_number) (written cs 1).bytes refl h.0.1.0)
        (not_sign signed_id (written cs 2).bytes refl h.0.1.1.0)
        (not_sign (number date) (written cs 3).bytes refl h.0.1.1.1.0)
        (not_sign (number origin_id) (written cs 4).bytes refl h.0.1.1.1.1.0)
        ∙ ap (λ (xs : List (List ℕ)). (written cs 0).bytes ∷ (written cs 1).bytes ∷ (written cs 2).bytes ∷ (written cs 3).bytes ∷ (written cs 4).bytes ∷ xs)
        (ap bytes_of (none_given (fields (drop 5 cs)) seven.1))
        ∙ ap (λ (x : List ℕ). x ∷ (written cs 1).bytes ∷ (written cs 2).bytes ∷ (written cs 3).bytes ∷ (written cs 4).bytes ∷ []) keyword in
        record {
          head = record { line = line.bytes; number = value n; editor1 = value e; date = value d; origin = value o; comment = (comment (drop 5 cs)).bytes };
          its_line = refl;
          fit =
              record {
                number_text = (written cs 1).bytes;
                editor_text = (written cs 2).bytes;
                date_text = (written cs 3).bytes;
                origin_text = (written cs 4).bytes;
                columns =
                    subst (Front line.bytes five_texts) (sym (comment_there line) ∙ ap (λ (t : Text). t.bytes) (fronted five_texts cs front).comment_behind)
                    (front_said line.bytes five_texts (sym (front_columns_lem line) ∙ front));
                number_written = (number_said sentence_number (written cs 1).bytes (value n)).0 (good_some n h.0.1.0);
                editor_written = (id_said (written cs 2).bytes (value e)).0 (good_some e h.0.1.1.0);
                date_written = (number_said date (written cs 3).bytes (value d)).0 (good_some d h.0.1.1.1.0);
                origin_written = (number_said origin_id (written cs 4).bytes (value o)).0 (good_some o h.0.1.1.1.1.0);
                editor_known = (editor_said (value e)).0 h.0.1.1.1.1.1.1.1.0;
                origin_known = (has_row T ts s origins (suc (value o))).0 h.0.1.1.1.1.1.1.1.1.0;
              };
          origin_there = (is_there T ts s origins).0 both.0;
          editor_there = (is_there T ts s editors).0 both.1;
          new = (not_both_ways (before (value n))).0 h.0.1.1.1.1.1.1.0;
          read_as = _;
          same = refl;
          goes_on = h.1;
        }

    pub head_grants : (f : Heading → Answer) (head : HeadLine) → head.line ≡ line.bytes → HeadFits sentence_range ts head → In origins (whiches ts) → In editors (whiches ts)
        → (before head.number ≡ true → ⊥) → ((r : Heading) → head_read r ≡ head_says head → Through K out (f r)) → Through K out (next f (heading_of T before line))
    unfolding heading_of
    head_grants f head l t io ie new goes_on =
        let w = head_written line ts head l t in
        let cs = columns line in
        let v_n : value (number sentence_number (written cs 1).bytes) ≡ head.number = ap (λ (c : HeadContent). c.number) w.same in
        let v_e : value (signed_id (written cs 2).bytes) ≡ head.editor1 = ap (λ (c : HeadContent). c.editor1) w.same in
        let v_o : value (number origin_id (written cs 4).bytes) ≡ head.origin = ap (λ (c : HeadContent). c.origin) w.same in
        held_through K out f _ _ (
          w.rules.0,
          (
            w.rules.1.0,
            (
              w.rules.1.1.0,
              (
                w.rules.1.1.1.0,
                (
                  w.rules.1.1.1.1.0,
                  (
                    (and_both_ways (present origins T) (present editors T)).1 ((is_there T ts s origins).1 io, (is_there T ts s editors).1 ie),
                    (
                      (not_both_ways (before (value (number sentence_number (written cs 1).bytes)))).1 (rw v_n new),
                      (
                        rw v_e ((editor_said head.editor1).1 t.editor_known),
                        (rw v_o ((has_row T ts s origins (suc head.origin)).1 t.origin_known), tt),
                      ),
                    ),
                  ),
                ),
              ),
            ),
          ),
        )
        (goes_on _ w.same)
