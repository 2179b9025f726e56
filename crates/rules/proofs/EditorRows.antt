-- A row of EDITOR that was granted is fit to be printed, and read back from the printed line. From the line's rules, one
-- by one.
use Prim.Native.Nat.{ℕ, ◌+◌, ◌≤◌, ◌<◌}
use native.Mathlib.Omega.{arith}
use mathlib.Core.Path.{◌≡◌, refl, ap, ◌∙◌}
use mathlib.Core.Bool.{true, false, not}
use Rattle.std.specs.Prelude.{Option, Some}
use mathlib.Core.List.{List, [], ◌∷◌}
use lib.ListN.{length}
use lib.Dec.{leb}
use borrow.Author.Tests.{ltb-true, lt-ltb, leb-true, le-leb}
use Rattle.rules.specs.Lists.{empty, every}
use Rattle.rules.specs.Bytes.{legal}
use Rattle.rules.specs.Texts.{Text, given, at_most, trim, trim_from}
use Rattle.rules.specs.Columns.{Column, columns, column}
use Rattle.rules.specs.Numbers.{row_limit, signed_id, good, value}
use Rattle.rules.specs.Rules.{Rule, rule, granted}
use Rattle.rules.specs.Tables.{Row, has_id}
use Rattle.rules.specs.Rows.{room_for, editor_row}
use Rattle.rules.specs.Phases.{Answer, refuse, next}
use Rattle.rules.specs.Meaning.{bare_row}
use Rattle.rules.specs.Tidy.{tab, id_digits}
use Rattle.rules.proofs.Conjunctions.{not_true}
use Rattle.rules.proofs.RuleLaws.{holds_granted}
use Rattle.rules.proofs.RulesHeld.{Held, held, hold}
use Rattle.rules.proofs.Decimal.{id_legal, id_read_back}
use Rattle.rules.proofs.PrintedLines.{unplaced, tailed, printed, printed_columns, tailed_columns}
use Rattle.rules.proofs.LineFit.{LineFit, printed_fit}
use Rattle.rules.proofs.NumbersAgain.{id_range, id_five, id_solid}
use Rattle.rules.proofs.RowTexts.{id_seen, Short, column_legal, Described, described, last_text, RowBack}
use Rattle.rules.proofs.Steps.{next_checked}
use Rattle.rules.proofs.TestsAsFacts.{good_some}

pub record EditorKept (r : Row) : Type 0 where
  pub id : r.id1 ≤ 65536
  pub login : Short 16 r.first.bytes
  pub name : Described 40 r.second.bytes
  pub placeless : record { id1 = r.id1; first = unplaced r.first.bytes; second = unplaced r.second.bytes; flag = 0 } ≡ r

abbrev pub printed_editor : Row → List ℕ
printed_editor r = printed tab (id_digits r.id1) (r.first.bytes ∷ r.second.bytes ∷ []) []

-- ---- from a line that was granted

module _ (rs : List Row) (line : Text) where
  abbrev c : Column
  c = column (columns line) 0

  abbrev login : Column
  login = column (columns line) 1

  abbrev name : Text
  name = trim login.after

  abbrev id : Option ℕ
  id = signed_id c.text.bytes

  abbrev editor_rules : List Rule
  editor_rules =
      rule 7 line (given name)
      ∷ rule 8 c.text (good id)
      ∷ rule 10 login.text (at_most 16 login.text)
      ∷ rule 10 name (at_most 40 name)
      ∷ rule 11 line (not (has_id (value id) rs))
      ∷ rule 12 line (room_for rs)
      ∷ []

  abbrev editor_read : Row
  editor_read = record { id1 = value id; first = login.text; second = name; flag = 0 }

  editor_kept : every legal line.bytes ≡ true → Held editor_rules → EditorKept (bare_row editor_read)
  editor_kept l h =
      let legal_login = column_legal line 1 1 (omega arith) l h.0 in
      record {
        id = id_range c.text.bytes (value id) (good_some id h.1.0);
        login = record { solid = legal_login.solid; lawful = legal_login.lawful; short = leb-true (length login.text.bytes) 16 h.1.1.0 };
        name = described 40 login.after legal_login.after h.0 h.1.1.1.0;
        placeless = refl;
      }

  pub editor_cases : (P : Answer → Type 0) (bad : (r : Rule) → 1 ≤ r.number → P (refuse r)) (a : Row → Answer) → every legal line.bytes ≡ true
      → ((r : Row) → EditorKept (bare_row r) → has_id r.id1 rs ≡ false → length rs < row_limit → P (a r)) → P (next a (editor_row rs line))
  unfolding editor_row
  editor_cases P bad a l g =
      next_checked P bad a editor_rules editor_read refl
      (λ h.
      let r = held editor_rules h in
      g editor_read (editor_kept l r) (not_true (has_id (value id) rs) r.1.1.1.1.0) (ltb-true (length rs) row_limit r.1.1.1.1.1.0))

-- ---- read back

pub editor_fit : (r : Row) → EditorKept r → LineFit (printed_editor r)
editor_fit r k =
    let i = r.id1 in
    printed_fit tab refl refl (id_digits i) (r.first.bytes ∷ r.second.bytes ∷ []) [] (id_solid i) (id_seen i) (rw (id_legal i, k.login.lawful, k.name.lawful)) refl
    (omega (arith, id_five i k.id, k.login.short, k.name.short))

module _ (rs : List Row) (r : Row) (k : EditorKept r) (at : ℕ) where
  abbrev line_back : Text
  line_back = record { start = at; bytes = printed_editor r }

  abbrev i : List ℕ
  i = id_digits r.id1

  -- the two columns in front of the name, and what stands behind them
  columns_back : ((column (columns line_back) 0).text.bytes ≡ i) × ((column (columns line_back) 1).text.bytes ≡ r.first.bytes)
      × ((column (columns line_back) 1).after.bytes ≡ tailed tab (r.second.bytes ∷ []) [])
  unfolding printed
  columns_back =
      let e = printed_columns tab refl [] at i (r.first.bytes ∷ r.second.bytes ∷ []) (id_solid r.id1) in
      let f = tailed_columns tab refl [] (at + length i) r.first.bytes (r.second.bytes ∷ []) k.login.solid in (
        ap (λ (cs : List Column). (column cs 0).text.bytes) e,
        ap (λ (cs : List Column). (column cs 1).text.bytes) e ∙ ap (λ (cs : List Column). (column cs 0).text.bytes) f,
        ap (λ (cs : List Column). (column cs 1).after.bytes) e ∙ ap (λ (cs : List Column). (column cs 0).after.bytes) f,
      )

  pub editor_back : has_id r.id1 rs ≡ false → length rs < row_limit → RowBack (λ (q : Row). editor_row rs line_back ≡ granted q) r
  unfolding editor_row
  editor_back new few =
      let a = (column (columns line_back) 1).after.start in
      let e1 : signed_id (column (columns line_back) 0).text.bytes ≡ Some r.id1 = ap signed_id columns_back.0 ∙ id_read_back r.id1 k.id in
      let e2 : (login rs line_back).text.bytes ≡ r.first.bytes = columns_back.1 in
      let e3 : (name rs line_back).bytes ≡ r.second.bytes = ap (λ (l : List ℕ). (trim_from a l).bytes) columns_back.2 ∙ last_text a r.second.bytes k.name.trimmed in
      record {
        read = editor_read rs line_back;
        same = rw (e1, e2, e3) k.placeless;
        granted =
            holds_granted (editor_rules rs line_back) (editor_read rs line_back)
            (hold (editor_rules rs line_back) (
              ap (λ (x : List ℕ). not (empty x)) e3 ∙ k.name.given,
              (
                ap good e1,
                (
                  ap (λ (x : List ℕ). leb (length x) 16) e2 ∙ le-leb (length r.first.bytes) 16 k.login.short,
                  (
                    ap (λ (x : List ℕ). leb (length x) 40) e3 ∙ le-leb (length r.second.bytes) 40 k.name.short,
                    (
                      ap (λ (o : Option ℕ). not (has_id (value o) rs)) e1 ∙ ap not new,
                      (lt-ltb (length rs) row_limit few, tt),
                    ),
                  ),
                ),
              ),
            ));
      }
