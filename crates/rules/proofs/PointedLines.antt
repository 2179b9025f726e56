-- Where #FORMAT, #EOS and #BOS lines and the rows of tables are refused. Rule by rule: what each is about, and that its text breaks
-- it; the columns that a rule points at are there, since a missing one has a smaller number.
use Prim.Native.Nat.{ℕ, ◌≤◌, ◌<◌}
use native.Mathlib.Omega.{arith}
use mathlib.Core.Path.{◌≡◌, refl}
use mathlib.Core.Logic.{inl, inr}
use mathlib.Core.Bool.{Bool, true, false}
use Rattle.std.specs.Prelude.{Option}
use mathlib.Core.List.{List, [], ◌∷◌, ◌++◌}
use lib.ListN.{length, take, drop}
use lib.Dec.{eqb, ltb}
use borrow.Author.Tests.{eqb-true, ltb-true}
use Rattle.rules.specs.Lists.{empty, member}
use Rattle.rules.specs.Texts.{Text}
use Rattle.rules.specs.Columns.{Column, columns, written, fields}
use Rattle.rules.specs.Numbers.{format_number, sentence_number, origin_id, date, number, good, value}
use Rattle.rules.specs.Rules.{Rule, rule}
use Rattle.rules.specs.Tables.{Tables}
use Rattle.rules.specs.Sentences.{Heading, SoFar, heading_written, heading_cites, heading_of, end_rules, end_of}
use Rattle.rules.specs.Keywords.{accepts, format_of}
use Rattle.rules.specs.Phases.{Answer, next}
use Rattle.rules.specs.GrammarNumbers.{format_range, sentence_range}
use Rattle.rules.specs.ColumnsAtFault.{pointing, KeywordBreaks, HeadingBreaks}
use Rattle.rules.specs.ColumnsAtFault as at
use Rattle.rules.proofs.Conjunctions.{and_left}
use Rattle.rules.proofs.LeftmostRules.{LeftToRight, left_split, left_strictly}
use Rattle.rules.proofs.ColumnsRise.{Inside, columns_rise, column_order, column_inside}
use Rattle.rules.proofs.PointedRules.{Placing, Found, Told, placing_checked, of_line, of_column, has_held}
use Rattle.rules.proofs.FaultsAsFacts.{no_number, no_id}

module _ (line : Text) where
  abbrev cs : List Column
  cs = columns line

  inside : (n : ℕ) → n < length (columns line) → Inside line.start line.bytes (written (columns line) n)
  inside n h = column_inside line.start line.bytes n h

  ordered : (i j : ℕ) → i < j → j < length (columns line) → (written (columns line) i).start ≤ (written (columns line) j).start
  ordered i j h k = column_order cs (columns_rise line.start line.bytes) i j h k

  -- ---- #FORMAT and #EOS

  module _ (f : ℕ → Answer) where
    pub format_placing : ((n : ℕ) → Placing (KeywordBreaks format_range (columns line)) line (f n)) → Placing (KeywordBreaks format_range (columns line)) line (next f (format_of line))
    unfolding format_of
    format_placing g =
        placing_checked B line f rs _ (g _) W
        (of_line B line W 7 _ refl, (of_column B line W 8 (written cs 1) _ refl (λ w e. inside 1 w) (λ e. at.its_number ((no_number format_number (written cs 1)).0 e)), (of_line B line W 9 _ refl, tt)))
        (λ q k p. let h : length cs ≡ 2 = eqb-true (length cs) 2 (has_held q p 7 (eqb (length cs) 2) refl k.smallest.0) in omega arith)
        (λ w. left_strictly rs refl)
        (λ n t b. found b)
      where
        B : ℕ → Text → Type 0
        B = KeywordBreaks format_range cs

        W : Type 0
        W = 1 < length cs

        its : Option ℕ
        its = number format_number (written cs 1).bytes

        rs : List Rule
        rs = rule 7 line (eqb (length cs) 2) ∷ rule 8 (written cs 1) (good its) ∷ rule 9 line (accepts (value its)) ∷ []

        found : {n : ℕ} {t : Text} → KeywordBreaks format_range cs n t → Found rs n t
        found (at.its_number h) = record { of = _; one = inr (inl refl); fails = (no_number format_number (written cs 1)).1 h; number = refl; about = refl }

    pub end_placing : (s : SoFar) → ((n : ℕ) → Placing (KeywordBreaks sentence_range (columns line)) line (f n)) → Placing (KeywordBreaks sentence_range (columns line)) line (next f (end_of s line))
    unfolding end_of end_rules
    end_placing s g =
        placing_checked B line f rs _ (g _) W (
          of_line B line W 7 _ refl,
          (
            of_column B line W 8 (written cs 1) _ refl (λ w e. inside 1 w) (λ e. at.its_number ((no_number sentence_number (written cs 1)).0 e)),
            (of_line B line W 20 _ refl, (of_line B line W 21 _ refl, (of_line B line W 22 _ refl, tt))),
          ),
        )
        (λ q k p. let h : length cs ≡ 2 = eqb-true (length cs) 2 (has_held q p 7 (eqb (length cs) 2) refl k.smallest.0) in omega arith)
        (λ w. left_strictly rs refl)
        (λ n t b. found b)
      where
        B : ℕ → Text → Type 0
        B = KeywordBreaks sentence_range cs

        W : Type 0
        W = 1 < length cs

        rs : List Rule
        rs = end_rules s.number s.no_gap s.no_absent line

        found : {n : ℕ} {t : Text} → KeywordBreaks sentence_range cs n t → Found rs n t
        found (at.its_number h) = record { of = _; one = inr (inl refl); fails = (no_number sentence_number (written cs 1)).1 h; number = refl; about = refl }

  -- ---- #BOS

  pub heading_placing : (f : Heading → Answer) (ts : Tables) (used : ℕ → Bool) → ((h : Heading) → Placing (HeadingBreaks ts (columns line)) line (f h))
      → Placing (HeadingBreaks ts (columns line)) line (next f (heading_of ts used line))
  unfolding heading_of
  heading_placing f ts used g =
      placing_checked B line f rs _ (g _) W (
        of_line B line W 7 _ refl,
        (
          column 8 1 _ refl (λ w. omega arith) (λ e. at.its_number ((no_number sentence_number (written cs 1)).0 e)),
          (
            column 8 2 _ refl (λ w. omega arith) (λ e. at.editor ((no_id (written cs 2)).0 e)),
            (
              column 8 3 _ refl (λ w. omega arith) (λ e. at.date ((no_number date (written cs 3)).0 e)),
              (
                column 8 4 _ refl (λ w. omega arith) (λ e. at.origin ((no_number origin_id (written cs 4)).0 e)),
                (
                  of_line B line W 13 _ refl,
                  (
                    of_line B line W 14 _ refl,
                    (
                      column 15 2 _ refl (λ w. omega arith) (λ e. at.unknown_editor e),
                      (column 15 4 _ refl (λ w. omega arith) (λ e. at.unknown_origin e), tt),
                    ),
                  ),
                ),
              ),
            ),
          ),
        ),
      )
      (λ q k p. ltb-true 4 (length cs) (and_left (ltb 4 (length cs)) (empty (fields (drop 5 cs))) (has_held q p 7 _ refl k.smallest.0)))
      (λ w. left_split 1 7 rs refl refl (tt, tt) (left_split 4 12 (drop 1 rs) refl refl (eights w) (left_split 2 14 (drop 5 rs) refl refl (left_strictly (take 2 (drop 5 rs)) refl) (fifteens w))))
      (λ n t b. found b)
    where
      B : ℕ → Text → Type 0
      B = HeadingBreaks ts cs

      W : Type 0
      W = 4 < length cs

      rs : List Rule
      rs = heading_written line ++ heading_cites ts used line

      column : (n k : ℕ) (b : Bool) → member n pointing ≡ true → (W → k < length cs) → (b ≡ false → B n (written cs k)) → Told B line W (rule n (written cs k) b)
      column n k b p h c = of_column B line W n (written cs k) b p (λ w e. inside k (h w)) c

      eights : W → LeftToRight (take 4 (drop 1 rs))
      eights w = (
        (λ d f n. ordered 1 2 (omega arith) (omega arith), (λ d f n. ordered 1 3 (omega arith) (omega arith), (λ d f n. ordered 1 4 (omega arith) w, tt))),
        ((λ d f n. ordered 2 3 (omega arith) (omega arith), (λ d f n. ordered 2 4 (omega arith) w, tt)), ((λ d f n. ordered 3 4 (omega arith) w, tt), (tt, tt))),
      )

      fifteens : W → LeftToRight (drop 7 rs)
      fifteens w = ((λ d f n. ordered 2 4 (omega arith) w, tt), (tt, tt))

      found : {n : ℕ} {t : Text} → HeadingBreaks ts cs n t → Found rs n t
      found (at.its_number h) = record { of = _; one = inr (inl refl); fails = (no_number sentence_number (written cs 1)).1 h; number = refl; about = refl }
      found (at.editor h) = record { of = _; one = inr (inr (inl refl)); fails = (no_id (written cs 2)).1 h; number = refl; about = refl }
      found (at.date h) = record { of = _; one = inr (inr (inr (inl refl))); fails = (no_number date (written cs 3)).1 h; number = refl; about = refl }
      found (at.origin h) = record { of = _; one = inr (inr (inr (inr (inl refl)))); fails = (no_number origin_id (written cs 4)).1 h; number = refl; about = refl }
      found (at.unknown_editor h) = record { of = _; one = inr (inr (inr (inr (inr (inr (inr (inl refl))))))); fails = h; number = refl; about = refl }
      found (at.unknown_origin h) = record { of = _; one = inr (inr (inr (inr (inr (inr (inr (inr (inl refl)))))))); fails = h; number = refl; about = refl }
