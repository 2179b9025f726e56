-- A row with its columns, in its table, is refused by 8 exactly if its id isn't a number of its kind.
use Prim.Native.Nat.{ℕ, zero, suc, ◌≤◌}
use native.Mathlib.Omega.{arith}
use mathlib.Core.Path.{◌≡◌, refl, sym, ap, ◌∙◌, subst}
use mathlib.Core.Logic.{inr, ◌↔◌}
use mathlib.Core.Bool.{true}
use Rattle.std.specs.Prelude.{Option}
use mathlib.Core.List.{List, [], ◌∷◌}
use lib.ListN.{length}
use lib.Dec.{eqb}
use borrow.Author.Tests.{ne_eqb}
use Rattle.rules.specs.Lists.{pick, bytes, every}
use Rattle.rules.specs.Texts.{Text, given, reads, trim, in_front}
use Rattle.rules.specs.Columns.{columns, column, written}
use Rattle.rules.specs.Numbers.{origin_id, number, signed_id, good, value}
use Rattle.rules.specs.Rules.{Rule, rule, Verdict, checked}
use Rattle.rules.specs.Tables.{word_tags, Row}
use Rattle.rules.specs.Rows.{origin_row, editor_row, tag_row, row_of}
use Rattle.rules.specs.Keywords.{first_column, starts_row}
use Rattle.rules.specs.Phases.{in_table, Answer, next}
use Rattle.rules.specs.GrammarColumns.{Stripped, NameAndNote}
use Rattle.rules.specs.Refusals.{Clean, ExactlyInside}
use Rattle.rules.specs.BrokenNumbers.{InsideTable, columns_between, RowWritten, RowIdWritten, BadRowNumbers}
use Rattle.rules.proofs.Conjunctions.{false_if_never, or_false}
use Rattle.rules.proofs.SaidOfLists.{and_both_ways}
use Rattle.rules.proofs.TestsAsFacts.{reads_are, given_are, good_some, some_good}
use Rattle.rules.proofs.BytesAsSaid.{Started, started_said}
use Rattle.rules.proofs.NumeralsAsSaid.{number_said, id_said}
use Rattle.rules.proofs.BareColumns.{rest_behind, text_behind}
use Rattle.rules.proofs.ColumnsSaid.{begins_at, rest_said}
use Rattle.rules.proofs.PlaceFree.{text_there, name_there}
use Rattle.rules.proofs.KeywordsAsSaid.{starts_first}
use Rattle.rules.proofs.StrippedTexts.{said_stripped}
use Rattle.rules.proofs.NamesAndNotes.{said_note}
use Rattle.rules.proofs.RowTests.{description_there, tags_row}
use Rattle.rules.proofs.LineKinds.{first_given, word_starts, row_no_keyword}
use Rattle.rules.proofs.Takings.{go_row, answer_at, answer_rows}
use Rattle.rules.proofs.CleanFronts.{refusal_of, stepped}
use Rattle.rules.proofs.NumberRules.{held_first, checked_number}
use Rattle.rules.proofs.BadNumbers.{line, one_line, answered_at, reads_first, number_exactly}
use Rattle.rules.proofs.FirstEights.{past_eight, eight_unless}
use Rattle.rules.proofs.BadNodeNumbers.{heeded_line}

-- ---- the rules of a row: 7, that its last text is given; 8, that its id is written; then others

-- whatever the kind of row
row_rules : {P : Type 0} (f : Row → Answer) (line text id : Text) (o : Option ℕ) (later : List Rule) (r : Row) → refusal_of (f r) ≡ 0 → given text ≡ true → every past_eight later ≡ true
    → (good o ≡ true) ↔ P → (refusal_of (next f (checked (rule 7 line (given text) ∷ rule 8 id (good o) ∷ later) r)) ≡ 8) ↔ (P → ⊥)
row_rules {P} f line text id o later r z g h p =
    subst (λ (m : ℕ). (m ≡ 8) ↔ (P → ⊥)) (sym (checked_number f (rule 7 line (given text) ∷ rule 8 id (good o) ∷ later) r z))
    (held_first (rule 7 line (given text)) (rule 8 id (good o) ∷ later) g
    (eight_unless (rule 8 id (good o) ∷ []) later refl h (λ e. p.0 ((and_both_ways (good o) true).0 e).0, λ w. (and_both_ways (good o) true).1 (p.1 w, refl))))

origin_written : (xs ys : List ℕ) → xs ≡ ys → (good (number origin_id xs) ≡ true) ↔ RowIdWritten 0 ys
origin_written xs ys e = (
  λ g. subst (RowIdWritten 0) e (value (number origin_id xs), (number_said origin_id xs (value (number origin_id xs))).0 (good_some (number origin_id xs) g)),
  λ w. some_good (number origin_id xs) w.0 (ap (number origin_id) e ∙ (number_said origin_id ys w.0).1 w.1),
)

id_written : (which : ℕ) (xs ys : List ℕ) → xs ≡ ys → (good (signed_id xs) ≡ true) ↔ RowIdWritten (suc which) ys
id_written which xs ys e = (
  λ g. subst (RowIdWritten (suc which)) e (value (signed_id xs), (id_said xs (value (signed_id xs))).0 (good_some (signed_id xs) g)),
  λ w. some_good (signed_id xs) w.0 (ap signed_id e ∙ (id_said ys w.0).1 w.1),
)

-- ---- the last text is given

trim_given : (t : Text) (whole text : List ℕ) → t.bytes ≡ whole → Stripped whole text → 1 ≤ length text → 1 ≤ length (trim t).bytes
trim_given t whole text e s h = subst (λ (xs : List ℕ). 1 ≤ length xs) (sym (said_stripped t text (subst (λ (w : List ℕ). Stripped w text) (sym e) s))) h

rest_at : (which : ℕ) (id l : List ℕ) (w : RowWritten which id l) (k : ℕ) → columns_between which ≡ k → (rest_behind k l).bytes ≡ w.rest
rest_at which id l w k e = subst (λ (m : ℕ). (rest_behind m l).bytes ≡ w.rest) (w.count ∙ e) (rest_said l w.rest id w.between w.columns)

name_given : (id l : List ℕ) → RowWritten 0 id l → 1 ≤ length (trim (in_front (rest_behind 0 l))).bytes
name_given id l w =
    let its = (said_note (rest_behind 0 l) w.whole w.last.0 (subst (λ (xs : List ℕ). NameAndNote xs w.whole w.last.0) (sym (rest_at 0 id l w 0 refl)) w.last.1)).0 in
    trim_given (in_front (rest_behind 0 l)) w.whole w.text its w.text_is w.given

text_given : (which : ℕ) (id l : List ℕ) → RowWritten (suc which) id l → (k : ℕ) → columns_between (suc which) ≡ k → 1 ≤ length (text_behind k l)
text_given which id l w k e = trim_given (rest_behind k l) w.whole w.text (rest_at (suc which) id l w k e ∙ sym w.last) w.text_is w.given

-- ---- the line's rules, table by table

module _ (line : Text) (rs : List Row) (f : Row → Answer) (zeros : (r : Row) → refusal_of (f r) ≡ 0) where
  its_id : (which : ℕ) (id : List ℕ) → RowWritten which id line.bytes → (written (columns line) 0).bytes ≡ id
  its_id which id w = begins_at w.columns line.start 0 (omega arith)

  abbrev id_column : Text
  id_column = (column (columns line) 0).text

  row_eight : (which : ℕ) (id : List ℕ) → RowWritten which id line.bytes → (refusal_of (next f (row_of which rs line)) ≡ 8) ↔ (RowIdWritten which id → ⊥)
  unfolding origin_row editor_row tag_row
  row_eight zero id w =
      let name = trim (in_front (column (columns line) 0).after) in
      row_rules f line name id_column (number origin_id id_column.bytes) _ _ (zeros _)
      ((given_are name).1 (subst (λ (xs : List ℕ). 1 ≤ length xs) (sym (name_there line)) (name_given id line.bytes w))) refl
      (origin_written id_column.bytes id (its_id 0 id w))
  row_eight (suc zero) id w =
      let name = trim (column (columns line) 1).after in
      row_rules f line name id_column (signed_id id_column.bytes) _ _ (zeros _)
      ((given_are name).1 (subst (λ (xs : List ℕ). 1 ≤ length xs) (sym (text_there line 1)) (text_given 0 id line.bytes w 1 refl))) refl
      (id_written 0 id_column.bytes id (its_id 1 id w))
  row_eight (suc (suc which)) id w =
      let n = suc (suc which) in
      let last = trim (pick (eqb n word_tags) (column (columns line) 2) (column (columns line) 1)).after in
      let between : columns_between n ≡ pick (eqb n word_tags) 2 1 = rw (ne_eqb n 0 (λ z. omega arith)) in
      subst (λ (v : Verdict Row). (refusal_of (next f v) ≡ 8) ↔ (RowIdWritten n id → ⊥)) (sym (tags_row which rs line))
      (row_rules f line last id_column (signed_id id_column.bytes) _ _ (zeros _)
      ((given_are last).1 (subst (λ (xs : List ℕ). 1 ≤ length xs) (sym (description_there line n)) (text_given (suc which) id line.bytes w (pick (eqb n word_tags) 2 1) between))) refl
      (id_written (suc which) id_column.bytes id (its_id n id w)))

-- ---- where it stands

module _ (front : List ℕ) (c : Clean front) (which : ℕ) (inside : InsideTable which front) (id l : List ℕ) (w : RowWritten which id l) where
  abbrev its : Text
  its = line front c l w.its_line.fits

  started : Started l
  started = (started_said l).1 w.its_line.starts

  first_is : (first_column its).bytes ≡ id
  first_is = reads_first front c l w.its_line.fits id started (begins_at w.columns 0 0 (omega arith))

  is_row : starts_row (first_column its) ≡ true
  is_row =
      let first = first_column its in
      let given = subst (λ (xs : List ℕ). 1 ≤ length xs) (sym (starts_first its started)) (first_given l started) in
      or_false (reads (bytes "#") first) (starts_row first) (word_starts first given (inr (λ rest e. w.no_hash rest (sym first_is ∙ e))))
      (false_if_never (reads (bytes "#") first) (λ e. w.no_hash [] (sym first_is ∙ (reads_are (bytes "#") first).0 e)))

  among_rows : stepped front c l (one_line front c l w.its_line.fits) ≡ next (go_row inside.0 which inside.1) (row_of which inside.1 its)
  unfolding answer_at answer_rows
  among_rows =
      let end = false_if_never (reads (bytes "#EOT") (first_column its)) (row_no_keyword (first_column its) (bytes "#EOT") is_row refl) in
      answered_at front c l w.its_line.fits (in_table inside.0 which inside.1) inside.2 (heeded_line l w.its_line) ∙ rw (end, is_row)

  row_line_lem : ExactlyInside 8 front l (RowIdWritten which id → ⊥)
  row_line_lem =
      number_exactly front c l w.its_line.fits (RowIdWritten which id → ⊥)
      (subst (λ (a : Answer). (refusal_of a ≡ 8) ↔ (RowIdWritten which id → ⊥)) (sym among_rows) (row_eight its inside.1 (go_row inside.0 which inside.1) (λ r. refl) which id w))

pub bad_row_numbers : (front : List ℕ) → Clean front → BadRowNumbers front
bad_row_numbers front c which inside id l w = row_line_lem front c which inside id l w
