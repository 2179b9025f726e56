-- Keyword lines printed and read back: the format, a table's beginning and end, a sentence's end. From the columns of a
-- printed line.
use Prim.Native.Nat.{ℕ, zero, suc, ◌≤◌, ◌<◌}
use native.Mathlib.Omega.{arith}
use mathlib.Core.Path.{◌≡◌, refl, sym, ap, ◌∙◌}
use mathlib.Core.Bool.{true, false, not, ◌&&◌}
use Rattle.std.specs.Prelude.{Option, Some}
use mathlib.Core.List.{List, [], ◌∷◌, ◌++◌}
use lib.ListN.{length, get_or, length-map, get_or-map}
use lib.Dec.{ltb, eqb}
use borrow.Author.Tests.{eq-eqb}
use Rattle.rules.specs.Lists.{every, bytes}
use Rattle.rules.specs.Bytes.{legal, ignored}
use Rattle.rules.specs.Texts.{Text, no_text}
use Rattle.rules.specs.Columns.{Column, columns_from, columns, written}
use Rattle.rules.specs.Numbers.{sentence_number, format_number, number, good, value}
use Rattle.rules.specs.Rules.{granted}
use Rattle.rules.specs.Tables.{Tables, table_named, present}
use Rattle.rules.specs.Sentences.{Sentence, gapless, parented, end_rules, end_of, so_far}
use Rattle.rules.specs.Keywords.{format_of, fresh, table_opened, itself, table_ended}
use Rattle.rules.specs.Tidy.{space, digits_of, table_name}
use Rattle.rules.proofs.Conjunctions.{and_left, and_both, or_found}
use Rattle.rules.proofs.RuleLaws.{holds_granted}
use Rattle.rules.proofs.Decimal.{digits_legal, number_read_back}
use Rattle.rules.proofs.PrintedLines.{solid, column_bytes, printed, printed_read}
use Rattle.rules.proofs.LineFit.{LineFit, printed_fit}
use Rattle.rules.proofs.NumbersAgain.{digits_five, digits_solid}

pub written_bytes : (cs : List Column) (n : ℕ) → (written cs n).bytes ≡ get_or (column_bytes cs) n []
written_bytes cs n = sym (get_or-map (λ (c : Column). c.text.bytes) cs n (record { text = no_text; after = no_text }))

-- ---- a keyword and one column

abbrev pub keyed : List ℕ → List ℕ → List ℕ
keyed keyword x = printed space keyword (x ∷ []) []

module _ (keyword x : List ℕ) (s : every solid (keyword ∷ x ∷ []) ≡ true) (at : ℕ) where
  abbrev cs : List Column
  cs = columns (record { start = at; bytes = keyed keyword x })

  both_columns : column_bytes cs ≡ keyword ∷ x ∷ []
  unfolding columns_from
  both_columns = (printed_read space refl [] at keyword (x ∷ []) s).texts

  two : length cs ≡ 2
  two = sym (length-map cs (λ (c : Column). c.text.bytes)) ∙ ap length both_columns

  second : (written cs 1).bytes ≡ x
  second = written_bytes cs 1 ∙ ap (λ (l : List (List ℕ)). get_or l 1 []) both_columns

pub keyed_fit : (keyword x : List ℕ) → every solid (keyword ∷ x ∷ []) ≡ true → ignored keyword ≡ false → every (every legal) (keyword ∷ x ∷ []) ≡ true → length keyword ≤ 100
    → length x ≤ 100 → LineFit (keyed keyword x)
keyed_fit keyword x s i l h k = printed_fit space refl refl keyword (x ∷ []) [] (and_left (solid keyword) (solid x && true) s) i l refl (omega arith)

pub keyed_number_fit : (keyword : List ℕ) (n : ℕ) → solid keyword ≡ true → ignored keyword ≡ false → every legal keyword ≡ true → length keyword ≤ 100 → n < 100000 → LineFit (keyed keyword (digits_of n))
keyed_number_fit keyword n s i l h k =
    keyed_fit keyword (digits_of n) (and_both (solid keyword) (solid (digits_of n) && true) s (and_both (solid (digits_of n)) true (digits_solid n) refl)) i
    (and_both (every legal keyword) (every legal (digits_of n) && true) l (and_both (every legal (digits_of n)) true (digits_legal n) refl)) h (omega (arith, digits_five n k))

-- ---- the format line

module _ (n at : ℕ) where
  abbrev format_printed : Text
  format_printed = record { start = at; bytes = keyed (bytes "#FORMAT") (digits_of n) }

  format_solid : every solid (bytes "#FORMAT" ∷ digits_of n ∷ []) ≡ true
  format_solid = and_both (solid (digits_of n)) true (digits_solid n) refl

  pub format_passes : n ≡ 3 → format_of format_printed ≡ granted n
  unfolding format_of
  format_passes e =
      let back : number format_number (written (columns format_printed) 1).bytes ≡ Some n =
      ap (number format_number) (second (bytes "#FORMAT") (digits_of n) format_solid at) ∙ number_read_back format_number n (omega arith) (omega (arith, e)) in
      holds_granted _ _
      (and_both _ _ (eq-eqb (length (columns format_printed)) 2 (two (bytes "#FORMAT") (digits_of n) format_solid at))
      (and_both _ _ (ap good back) (and_both _ _ (eq-eqb (value (number format_number (written (columns format_printed) 1).bytes)) 3 (ap value back ∙ e)) refl)))
      ∙ ap granted (ap value back)

-- ---- a sentence's end

module _ (s : Sentence) (at : ℕ) where
  abbrev end_line : Text
  end_line = record { start = at; bytes = keyed (bytes "#EOS") (digits_of s.heading.number) }

  end_solid : every solid (bytes "#EOS" ∷ digits_of s.heading.number ∷ []) ≡ true
  end_solid = and_both (solid (digits_of s.heading.number)) true (digits_solid s.heading.number) refl

  pub end_passes : 1 ≤ s.heading.number → s.heading.number ≤ 65535 → gapless s.phrases ≡ true → every (parented s.phrases) (s.words ++ s.phrases) ≡ true → end_of (so_far s) end_line ≡ granted s.heading.number
  unfolding end_of end_rules
  end_passes low high whole parents =
      let n = s.heading.number in
      let back : number sentence_number (written (columns end_line) 1).bytes ≡ Some n =
      ap (number sentence_number) (second (bytes "#EOS") (digits_of n) end_solid at) ∙ number_read_back sentence_number n low high in
      holds_granted _ _
      (and_both _ _ (eq-eqb (length (columns end_line)) 2 (two (bytes "#EOS") (digits_of n) end_solid at))
      (and_both _ _ (ap good back)
      (and_both _ _ (eq-eqb (value (number sentence_number (written (columns end_line) 1).bytes)) n (ap value back))
      (and_both _ _ whole (and_both _ _ parents refl)))))

-- ---- a table's beginning and end

-- its name is a solid column of legal bytes, which is read as its place
pub record Named (n : ℕ) : Type 0 where
  pub solid : solid (table_name n) ≡ true
  pub lawful : every legal (table_name n) ≡ true
  pub short : length (table_name n) ≤ 10
  pub place : (at : ℕ) → table_named (record { start = at; bytes = table_name n }) ≡ Some n

pub named : (n : ℕ) → n < 7 → Named n
named zero h = record { solid = refl; lawful = refl; short = omega arith; place = λ at. refl }
named (suc zero) h = record { solid = refl; lawful = refl; short = omega arith; place = λ at. refl }
named (suc (suc zero)) h = record { solid = refl; lawful = refl; short = omega arith; place = λ at. refl }
named (suc (suc (suc zero))) h = record { solid = refl; lawful = refl; short = omega arith; place = λ at. refl }
named (suc (suc (suc (suc zero)))) h = record { solid = refl; lawful = refl; short = omega arith; place = λ at. refl }
named (suc (suc (suc (suc (suc zero))))) h = record { solid = refl; lawful = refl; short = omega arith; place = λ at. refl }
named (suc (suc (suc (suc (suc (suc zero)))))) h = record { solid = refl; lawful = refl; short = omega arith; place = λ at. refl }
named (suc (suc (suc (suc (suc (suc (suc n))))))) h = absurd (omega arith)

module _ (n : ℕ) (h : n < 7) (at : ℕ) where
  abbrev table_line : List ℕ → Text
  table_line keyword = record { start = at; bytes = keyed keyword (table_name n) }

  module _ (keyword : List ℕ) (s : solid keyword ≡ true) where
    table_solid : every solid (keyword ∷ table_name n ∷ []) ≡ true
    table_solid = and_both (solid keyword) (solid (table_name n) && true) s (and_both (solid (table_name n)) true (named n h).solid refl)

    place_read : table_named (written (columns (table_line keyword)) 1) ≡ Some n
    place_read =
        let t = written (columns (table_line keyword)) 1 in
        ap (λ (xs : List ℕ). table_named (record { start = t.start; bytes = xs })) (second keyword (table_name n) table_solid at) ∙ (named n h).place t.start

    table_two : eqb (length (columns (table_line keyword))) 2 ≡ true
    table_two = eq-eqb (length (columns (table_line keyword))) 2 (two keyword (table_name n) table_solid at)

  pub table_opened_lem : (ts : Tables) → present n ts ≡ false → table_opened ts (table_line (bytes "#BOT")) ≡ granted n
  unfolding table_opened
  table_opened_lem ts e =
      holds_granted _ _
      (and_both _ _ (or_found (ltb (length (columns (table_line (bytes "#BOT")))) 2) _ (ap (fresh ts) (place_read (bytes "#BOT") refl) ∙ ap not e)) (and_both _ _ (table_two (bytes "#BOT") refl) refl))
      ∙ ap (λ (o : Option ℕ). granted (value o)) (place_read (bytes "#BOT") refl)

  pub table_ended_lem : table_ended n (table_line (bytes "#EOT")) ≡ granted n
  unfolding table_ended
  table_ended_lem =
      holds_granted _ _
      (and_both _ _ (or_found (ltb (length (columns (table_line (bytes "#EOT")))) 2) _ (ap (itself n) (place_read (bytes "#EOT") refl) ∙ eq-eqb n n refl)) (and_both _ _ (table_two (bytes "#EOT") refl) refl))

  pub table_fit : (keyword : List ℕ) → solid keyword ≡ true → ignored keyword ≡ false → every legal keyword ≡ true → length keyword ≤ 100 → LineFit (keyed keyword (table_name n))
  table_fit keyword s i l k =
      keyed_fit keyword (table_name n) (table_solid keyword s) i
      (and_both (every legal keyword) (every legal (table_name n) && true) l (and_both (every legal (table_name n)) true (named n h).lawful refl)) k (omega (arith, (named n h).short))
