-- A row of a tag table that was granted is fit to be printed, and read back from the printed line, with a flag where the
-- table is WORDTAG. From the line's rules, one by one.
use Prim.Native.Nat.{ℕ, suc, ◌+◌, ◌≤◌, ◌<◌}
use native.Mathlib.Nat.{le_refl}
use native.Mathlib.Omega.{arith}
use mathlib.Core.Path.{◌≡◌, refl, sym, ap, ap₂, ◌∙◌, subst}
use mathlib.Core.Bool.{Bool, true, false, not, ◌&&◌, ◌||◌, false≢true}
use Rattle.std.specs.Prelude.{Option, Some}
use mathlib.Core.List.{List, [], ◌∷◌, ◌++◌}
use lib.ListN.{length}
use lib.Dec.{leb, eqb}
use borrow.Author.Tests.{ltb-true, lt-ltb, leb-true, le-leb}
use Rattle.rules.specs.Lists.{pick, empty, every, same, bytes}
use Rattle.rules.specs.Bytes.{legal, percents}
use Rattle.rules.specs.Texts.{Text, given, reads, at_most, trim, trim_from}
use Rattle.rules.specs.Columns.{Column, columns, columns_from, column}
use Rattle.rules.specs.Numbers.{row_limit, signed_id, good, value}
use Rattle.rules.specs.Rules.{Rule, rule, granted}
use Rattle.rules.specs.Tables.{Row, word_tags, morph_tags, has_tag, tag_limit}
use Rattle.rules.specs.Rows.{room_for, last_id, follows, own_tag, yes, is_flag, tag_row}
use Rattle.rules.specs.Phases.{Answer, refuse, next}
use Rattle.rules.specs.Meaning.{bare_row}
use Rattle.rules.specs.Tidy.{tab, id_digits, flag_text}
use Rattle.rules.proofs.Conjunctions.{and_left, and_right, and_both, not_true}
use Rattle.rules.proofs.RuleLaws.{holds_granted}
use Rattle.rules.proofs.RulesHeld.{Held, held, hold}
use Rattle.rules.proofs.Decimal.{id_legal, id_read_back}
use Rattle.rules.proofs.PrintedLines.{unplaced, solid, tailed, printed, printed_columns, tailed_columns}
use Rattle.rules.proofs.AnyLine.{room}
use Rattle.rules.proofs.LineFit.{LineFit, printed_fit}
use Rattle.rules.proofs.NumbersAgain.{id_range, id_five, id_solid}
use Rattle.rules.proofs.RowTexts.{id_seen, Short, LegalColumn, column_legal, Described, described, last_text, RowBack}
use Rattle.rules.proofs.Steps.{next_checked}
use Rattle.rules.proofs.TestsAsFacts.{good_some}

pub record TagKept (n : ℕ) (r : Row) : Type 0 where
  pub id : r.id1 ≤ 65536
  pub tag : Short (tag_limit n) r.first.bytes
  pub no_comment : same r.first.bytes percents ≡ false
  pub own : own_tag r.id1 r.first ≡ true
  pub described : Described 80 r.second.bytes
  pub flag : pick (eqb n word_tags && same (flag_text r.flag) yes) 1 0 ≡ r.flag
  pub placeless : record { id1 = r.id1; first = unplaced r.first.bytes; second = unplaced r.second.bytes; flag = r.flag } ≡ r

-- the columns behind the id; a flag where the table has flags
abbrev pub tag_columns : Bool → Row → List (List ℕ)
tag_columns flags r = r.first.bytes ∷ (pick flags (flag_text r.flag ∷ []) [] ++ (r.second.bytes ∷ []))

abbrev pub printed_tag : Bool → Row → List ℕ
printed_tag flags r = printed tab (id_digits r.id1) (tag_columns flags r) []

-- ---- from a line that was granted

flag_again : (t u : Bool) → ◌≡◌ {A = ℕ} (pick (t && same (flag_text (pick (t && u) 1 0)) yes) 1 0) (pick (t && u) 1 0)
flag_again true true = refl
flag_again true false = refl
flag_again false u = refl

pick_column : (t : Bool) (cs : List Column) → pick t (column cs 2) (column cs 1) ≡ column cs (pick t 2 1)
pick_column true cs = refl
pick_column false cs = refl

pick_one : (t : Bool) → 1 ≤ pick t 2 1
pick_one true = omega arith
pick_one false = omega arith

module _ (n : ℕ) (rs : List Row) (line : Text) where
  abbrev flags : Bool
  flags = eqb n word_tags

  abbrev c : Column
  c = column (columns line) 0

  abbrev tag : Column
  tag = column (columns line) 1

  abbrev flag : Column
  flag = column (columns line) 2

  abbrev last : Column
  last = pick flags flag tag

  abbrev description : Text
  description = trim last.after

  abbrev id : Option ℕ
  id = signed_id c.text.bytes

  abbrev tag_rules : List Rule
  tag_rules =
      rule 7 line (given description)
      ∷ rule 8 c.text (good id)
      ∷ rule 10 tag.text (at_most (tag_limit n) tag.text && not (reads percents tag.text))
      ∷ rule 10 flag.text (not flags || is_flag flag.text)
      ∷ rule 10 description (at_most 80 description)
      ∷ rule 11 line (follows (last_id rs) (value id) && own_tag (value id) tag.text && not (has_tag tag.text rs))
      ∷ rule 12 line (room_for rs)
      ∷ []

  abbrev tag_read : Row
  tag_read = record { id1 = value id; first = tag.text; second = description; flag = pick (flags && reads yes flag.text) 1 0 }

  tag_kept : every legal line.bytes ≡ true → Held tag_rules → TagKept n (bare_row tag_read)
  tag_kept l h =
      let k : ℕ = pick flags 2 1 in
      let there : given (trim (column (columns line) k).after) ≡ true = sym (ap (λ (x : Column). given (trim x.after)) (pick_column flags (columns line))) ∙ h.0 in
      let legal_tag = column_legal line 1 k (pick_one flags) l there in
      let legal_last : LegalColumn last = subst LegalColumn (sym (pick_column flags (columns line))) (column_legal line k k (le_refl k) l there) in
      let ten = h.1.1.0 in
      let eleven = h.1.1.1.1.1.0 in
      let in_order = follows (last_id rs) (value id) in
      let owned = own_tag (value id) tag.text in
      record {
        id = id_range c.text.bytes (value id) (good_some id h.1.0);
        tag =
            record {
              solid = legal_tag.solid;
              lawful = legal_tag.lawful;
              short = leb-true (length tag.text.bytes) (tag_limit n) (and_left (at_most (tag_limit n) tag.text) (not (reads percents tag.text)) ten);
            };
        no_comment = not_true (reads percents tag.text) (and_right (at_most (tag_limit n) tag.text) (not (reads percents tag.text)) ten);
        own = and_right in_order owned (and_left (in_order && owned) (not (has_tag tag.text rs)) eleven);
        described = described 80 last.after legal_last.after h.0 h.1.1.1.1.0;
        flag = flag_again flags (reads yes flag.text);
        placeless = refl;
      }

  pub tag_cases : (P : Answer → Type 0) (bad : (r : Rule) → 1 ≤ r.number → P (refuse r)) (a : Row → Answer) → every legal line.bytes ≡ true
      → ((r : Row) → TagKept n (bare_row r) → follows (last_id rs) r.id1 ≡ true → has_tag r.first rs ≡ false → length rs < row_limit → P (a r)) → P (next a (tag_row n rs line))
  unfolding tag_row
  tag_cases P bad a l g =
      next_checked P bad a tag_rules tag_read refl
      (λ h.
      let r = held tag_rules h in
      let eleven = r.1.1.1.1.1.0 in
      let in_order = follows (last_id rs) (value id) in
      let owned = own_tag (value id) tag.text in
      g tag_read (tag_kept l r) (and_left in_order owned (and_left (in_order && owned) (not (has_tag tag.text rs)) eleven))
      (not_true (has_tag tag.text rs) (and_right (in_order && owned) (not (has_tag tag.text rs)) eleven)) (ltb-true (length rs) row_limit r.1.1.1.1.1.1.0))

-- ---- read back

tag_limit_lem : (n : ℕ) → tag_limit n ≤ 32
tag_limit_lem n = by (eqb n morph_tags)
  where
    by : (t : Bool) → pick t 32 10 ≤ 32
    by true = omega arith
    by false = omega arith

pub tag_fit : (n : ℕ) (t : Bool) (r : Row) → TagKept n r → LineFit (printed_tag t r)
tag_fit n t r k =
    let i = r.id1 in
    let f = flag_room t (eqb r.flag 1) in
    printed_fit tab refl refl (id_digits i) (tag_columns t r) [] (id_solid i) (id_seen i) (rw (id_legal i, k.tag.lawful) f.0) refl
    (omega (arith, id_five i k.id, k.tag.short, tag_limit_lem n, k.described.short, f.1))
  where
    flag_room : (t u : Bool) → (every (every legal) (pick t (pick u (bytes "Y") (bytes "N") ∷ []) [] ++ (r.second.bytes ∷ [])) ≡ true)
        × (room (pick t (pick u (bytes "Y") (bytes "N") ∷ []) [] ++ (r.second.bytes ∷ [])) ≤ 3 + length r.second.bytes)
    flag_room true true = (rw k.described.lawful, omega arith)
    flag_room true false = (rw k.described.lawful, omega arith)
    flag_room false u = (rw k.described.lawful, omega arith)

record ColumnsBack (t : Bool) (r : Row) (cs : List Column) : Type 0 where
  first : (column cs 0).text.bytes ≡ id_digits r.id1
  second : (column cs 1).text.bytes ≡ r.first.bytes
  third : t ≡ true → (column cs 2).text.bytes ≡ flag_text r.flag
  behind : (pick t (column cs 2) (column cs 1)).after.bytes ≡ tailed tab (r.second.bytes ∷ []) []

flag_solid : (f : ℕ) → solid (flag_text f) ≡ true
flag_solid f = by (eqb f 1)
  where
    by : (t : Bool) → solid (pick t (bytes "Y") (bytes "N")) ≡ true
    by true = refl
    by false = refl

flag_is : (f : ℕ) → is_flag (unplaced (flag_text f)) ≡ true
flag_is f = by (eqb f 1)
  where
    by : (t : Bool) → is_flag (unplaced (pick t (bytes "Y") (bytes "N"))) ≡ true
    by true = refl
    by false = refl

columns_back : (t : Bool) (r : Row) (at : ℕ) → solid r.first.bytes ≡ true → ColumnsBack t r (columns_from at (printed_tag t r))
unfolding printed
columns_back false r at s =
    let i = id_digits r.id1 in
    let e = printed_columns tab refl [] at i (r.first.bytes ∷ r.second.bytes ∷ []) (id_solid r.id1) in
    let f = tailed_columns tab refl [] (at + length i) r.first.bytes (r.second.bytes ∷ []) s in
    record {
      first = ap (λ (cs : List Column). (column cs 0).text.bytes) e;
      second = ap (λ (cs : List Column). (column cs 1).text.bytes) e ∙ ap (λ (cs : List Column). (column cs 0).text.bytes) f;
      third = λ z. absurd (false≢true z);
      behind = ap (λ (cs : List Column). (column cs 1).after.bytes) e ∙ ap (λ (cs : List Column). (column cs 0).after.bytes) f;
    }
columns_back true r at s =
    let i = id_digits r.id1 in
    let y = flag_text r.flag in
    let e = printed_columns tab refl [] at i (r.first.bytes ∷ y ∷ r.second.bytes ∷ []) (id_solid r.id1) in
    let f = tailed_columns tab refl [] (at + length i) r.first.bytes (y ∷ r.second.bytes ∷ []) s in
    let g = tailed_columns tab refl [] (suc (at + length i) + length r.first.bytes) y (r.second.bytes ∷ []) (flag_solid r.flag) in
    record {
      first = ap (λ (cs : List Column). (column cs 0).text.bytes) e;
      second = ap (λ (cs : List Column). (column cs 1).text.bytes) e ∙ ap (λ (cs : List Column). (column cs 0).text.bytes) f;
      third =
          λ z.
          ap (λ (cs : List Column). (column cs 2).text.bytes) e ∙ ap (λ (cs : List Column). (column cs 1).text.bytes) f ∙ ap (λ (cs : List Column). (column cs 0).text.bytes) g;
      behind =
          ap (λ (cs : List Column). (column cs 2).after.bytes) e ∙ ap (λ (cs : List Column). (column cs 1).after.bytes) f
          ∙ ap (λ (cs : List Column). (column cs 0).after.bytes) g;
    }

flag_read : (t : Bool) (x y : List ℕ) → (t ≡ true → x ≡ y) → ◌≡◌ {A = ℕ} (pick (t && same x yes) 1 0) (pick (t && same y yes) 1 0)
flag_read true x y e = ap (λ (l : List ℕ). pick {X = ℕ} (same l yes) 1 0) (e refl)
flag_read false x y e = refl

flag_holds : (t : Bool) (x : List ℕ) (f : ℕ) → (t ≡ true → x ≡ flag_text f) → (not t || is_flag (unplaced x)) ≡ true
flag_holds true x f e = ap (λ (l : List ℕ). is_flag (unplaced l)) (e refl) ∙ flag_is f
flag_holds false x f e = refl

module _ (n : ℕ) (rs : List Row) (r : Row) (k : TagKept n r) (at : ℕ) where
  abbrev line_back : Text
  line_back = record { start = at; bytes = printed_tag (eqb n word_tags) r }

  pub tag_back : follows (last_id rs) r.id1 ≡ true → has_tag r.first rs ≡ false → length rs < row_limit → RowBack (λ (q : Row). tag_row n rs line_back ≡ granted q) r
  unfolding tag_row has_tag
  tag_back order new few =
      let b = columns_back (eqb n word_tags) r at k.tag.solid in
      let a = (last n rs line_back).after.start in
      let e1 : signed_id (c n rs line_back).text.bytes ≡ Some r.id1 = ap signed_id b.first ∙ id_read_back r.id1 k.id in
      let e2 : (tag n rs line_back).text.bytes ≡ r.first.bytes = b.second in
      let e3 : (description n rs line_back).bytes ≡ r.second.bytes = ap (λ (l : List ℕ). (trim_from a l).bytes) b.behind ∙ last_text a r.second.bytes k.described.trimmed in
      let e4 : pick (eqb n word_tags && same (flag n rs line_back).text.bytes yes) 1 0 ≡ r.flag =
      flag_read (eqb n word_tags) (flag n rs line_back).text.bytes (flag_text r.flag) b.third ∙ k.flag in
      record {
        read = tag_read n rs line_back;
        same = rw (e1, e2, e3, e4) k.placeless;
        granted =
            holds_granted (tag_rules n rs line_back) (tag_read n rs line_back)
            (hold (tag_rules n rs line_back) (
              ap (λ (x : List ℕ). not (empty x)) e3 ∙ k.described.given,
              (
                ap good e1,
                (
                  ap (λ (x : List ℕ). leb (length x) (tag_limit n) && not (same x percents)) e2
                      ∙ and_both (leb (length r.first.bytes) (tag_limit n)) (not (same r.first.bytes percents)) (le-leb (length r.first.bytes) (tag_limit n) k.tag.short) (ap not k.no_comment),
                  (
                    flag_holds (eqb n word_tags) (flag n rs line_back).text.bytes r.flag b.third,
                    (
                      ap (λ (x : List ℕ). leb (length x) 80) e3 ∙ le-leb (length r.second.bytes) 80 k.described.short,
                      (
                        ap₂ (λ (o : Option ℕ) (x : List ℕ). follows (last_id rs) (value o) && own_tag (value o) (unplaced x) && not (has_tag (unplaced x) rs)) e1 e2
                            ∙ and_both (follows (last_id rs) r.id1 && own_tag r.id1 r.first) (not (has_tag r.first rs))
                            (and_both (follows (last_id rs) r.id1) (own_tag r.id1 r.first) order k.own) (ap not new),
                        (lt-ltb (length rs) row_limit few, tt),
                      ),
                    ),
                  ),
                ),
              ),
            ));
      }
