-- A row of ORIGIN that was granted is fit to be printed, and read back from the printed line. From the line's rules, one
-- by one.
use Prim.Native.Nat.{ℕ, suc, ◌+◌, ◌≤◌, ◌<◌}
use native.Mathlib.Omega.{arith}
use mathlib.Core.Path.{◌≡◌, refl, sym, ap, ◌∙◌, subst}
use mathlib.Core.Bool.{true, false, not, false≢true}
use Rattle.std.specs.Prelude.{Option, Some}
use mathlib.Core.List.{List, [], ◌∷◌, ◌++◌, append-nil}
use lib.ListN.{length}
use lib.Dec.{leb}
use borrow.Author.Tests.{ltb-true, lt-ltb, leb-true, le-leb}
use Rattle.rules.specs.Lists.{empty, every}
use Rattle.rules.specs.Bytes.{legal}
use Rattle.rules.specs.Texts.{Text, given, at_most, trim, trim_from, front_bytes, behind_from, in_front, behind}
use Rattle.rules.specs.Columns.{Column, columns, column}
use Rattle.rules.specs.Numbers.{row_limit, origin_id, number, good, value}
use Rattle.rules.specs.Rules.{Rule, rule, granted}
use Rattle.rules.specs.Tables.{Row, has_id}
use Rattle.rules.specs.Rows.{room_for, origin_row}
use Rattle.rules.specs.Phases.{Answer, refuse, next}
use Rattle.rules.specs.Keywords.{leading_white}
use Rattle.rules.specs.Meaning.{bare_row}
use Rattle.rules.specs.Tidy.{tab, id_digits}
use Rattle.rules.proofs.Conjunctions.{not_true}
use Rattle.rules.proofs.RuleLaws.{holds_granted}
use Rattle.rules.proofs.RulesHeld.{Held, held, hold}
use Rattle.rules.proofs.Decimal.{id_legal, number_read_back}
use Rattle.rules.proofs.TrimLaws.{Trimmed, trim_white, trim_begun, trim_trimmed, trim_trim, trim_every, right_trim_white}
use Rattle.rules.proofs.PrintedLines.{unplaced, tailed, remark, printed, printed_columns}
use Rattle.rules.proofs.LineFit.{LineFit, printed_fit}
use Rattle.rules.proofs.NumbersAgain.{number_range, digits_five, id_solid}
use Rattle.rules.proofs.PercentPairs.{pairless, front_whole, behind_nothing, front_cut, behind_cut, pairless_tab, front_pairless, trim_pairless, front_every, behind_every}
use Rattle.rules.proofs.RowTexts.{id_seen, Described, described, RowBack}
use Rattle.rules.proofs.Steps.{next_checked}
use Rattle.rules.proofs.TestsAsFacts.{good_some}

pub record OriginKept (r : Row) : Type 0 where
  pub id : ℕ
  pub range : (1 ≤ id) × (id ≤ 65535)
  pub name : Described 128 r.first.bytes
  pub single : pairless r.first.bytes ≡ true
  pub note : Trimmed r.second.bytes
  pub note_lawful : every legal r.second.bytes ≡ true
  pub note_short : length r.second.bytes ≤ 160
  pub placeless : record { id1 = suc id; first = unplaced r.first.bytes; second = unplaced r.second.bytes; flag = 0 } ≡ r

abbrev pub printed_origin : Row → List ℕ
printed_origin r = printed tab (id_digits r.id1) (r.first.bytes ∷ []) r.second.bytes

-- ---- from a line that was granted

module _ (rs : List Row) (line : Text) where
  abbrev c : Column
  c = column (columns line) 0

  abbrev name : Text
  name = trim (in_front c.after)

  abbrev note : Text
  note = trim (behind c.after)

  abbrev id : Option ℕ
  id = number origin_id c.text.bytes

  abbrev origin_rules : List Rule
  origin_rules =
      rule 7 line (given name)
      ∷ rule 8 c.text (good id)
      ∷ rule 10 name (at_most 128 name)
      ∷ rule 10 note (at_most 160 note)
      ∷ rule 11 line (not (has_id (suc (value id)) rs))
      ∷ rule 12 line (room_for rs)
      ∷ []

  abbrev origin_read : Row
  origin_read = record { id1 = suc (value id); first = name; second = note; flag = 0 }

  origin_kept : every legal c.after.bytes ≡ true → Held origin_rules → OriginKept (bare_row origin_read)
  origin_kept l h =
      record {
        id = value id;
        range = number_range origin_id c.text.bytes (value id) (good_some id h.1.0);
        name = described 128 (in_front c.after) (front_every legal c.after.bytes l) h.0 h.1.1.0;
        single = trim_pairless c.after.start (front_bytes c.after.bytes) (front_pairless c.after.bytes);
        note = trim_trim (behind c.after).start (behind c.after).bytes;
        note_lawful = trim_every legal (behind c.after).start (behind c.after).bytes (behind_every legal c.after.start c.after.bytes l);
        note_short = leb-true (length note.bytes) 160 h.1.1.1.0;
        placeless = refl;
      }

  pub origin_cases : (P : Answer → Type 0) (bad : (r : Rule) → 1 ≤ r.number → P (refuse r)) (a : Row → Answer) → every legal c.after.bytes ≡ true
      → ((r : Row) → OriginKept (bare_row r) → has_id r.id1 rs ≡ false → length rs < row_limit → P (a r)) → P (next a (origin_row rs line))
  unfolding origin_row
  origin_cases P bad a l g =
      next_checked P bad a origin_rules origin_read refl
      (λ h.
      let r = held origin_rules h in
      g origin_read (origin_kept l r) (not_true (has_id (suc (value id)) rs) r.1.1.1.1.0) (ltb-true (length rs) row_limit r.1.1.1.1.1.0))

-- ---- read back

pub origin_fit : (r : Row) → OriginKept r → LineFit (printed_origin r)
origin_fit r k =
    let i = r.id1 in
    let is : suc k.id ≡ i = ap (λ (q : Row). q.id1) k.placeless in
    let few : length (id_digits i) ≤ 5 = subst (λ (n : ℕ). length (id_digits n) ≤ 5) is (digits_five k.id (omega (arith, k.range.1))) in
    printed_fit tab refl refl (id_digits i) (r.first.bytes ∷ []) r.second.bytes (id_solid i) (id_seen i) (rw (id_legal i, k.name.lawful)) k.note_lawful
    (omega (arith, few, k.name.short, note_room r.second.bytes, k.note_short))
  where
    note_room : (n : List ℕ) → length (remark tab n) ≤ 4 + length n
    note_room [] = omega arith
    note_room (b ∷ bs) = omega arith

-- the name and the comment, behind the id and a tab
begins_append : (n x : List ℕ) → not (empty n) ≡ true → leading_white n ≡ false → leading_white (n ++ x) ≡ false
begins_append [] x g b = absurd (false≢true g)
begins_append (b ∷ bs) x g e = e

name_back : (at : ℕ) (n c : List ℕ) → not (empty n) ≡ true → Trimmed n → pairless n ≡ true → (trim_from at (front_bytes (tab ∷ (n ++ remark tab c)))).bytes ≡ n
name_back at n [] g t p =
    ap (λ (l : List ℕ). (trim_from at (front_bytes (tab ∷ l))).bytes) (append-nil n)
    ∙ ap (λ (l : List ℕ). (trim_from at l).bytes) (front_whole (tab ∷ n) (pairless_tab n p))
    ∙ ap (λ (x : Text). x.bytes) (trim_white at tab n refl)
    ∙ trim_trimmed (suc at) n t
name_back at n (b ∷ bs) g t p =
    ap (λ (l : List ℕ). (trim_from at l).bytes) (front_cut (tab ∷ n) (tab ∷ b ∷ bs) (pairless_tab n p))
    ∙ ap (λ (x : Text). x.bytes) (trim_white at tab (n ++ (tab ∷ [])) refl)
    ∙ trim_begun (suc at) (n ++ (tab ∷ [])) (begins_append n (tab ∷ []) g t.begins)
    ∙ right_trim_white n tab refl
    ∙ t.ends

note_back : (at : ℕ) (n c : List ℕ) → pairless n ≡ true → Trimmed c → (trim (behind_from at (tab ∷ (n ++ remark tab c)))).bytes ≡ c
unfolding trim_from
note_back at n [] p t =
    ap (λ (l : List ℕ). (trim (behind_from at (tab ∷ l))).bytes) (append-nil n) ∙ ap (λ (x : Text). (trim x).bytes) (behind_nothing at (tab ∷ n) (pairless_tab n p))
note_back at n (b ∷ bs) p t =
    let x = behind_from at (tab ∷ (n ++ remark tab (b ∷ bs))) in
    ap (λ (l : List ℕ). (trim_from x.start l).bytes) (behind_cut at (tab ∷ n) (tab ∷ b ∷ bs) (pairless_tab n p))
    ∙ ap (λ (y : Text). y.bytes) (trim_white x.start tab (b ∷ bs) refl)
    ∙ trim_trimmed (suc x.start) (b ∷ bs) t

module _ (rs : List Row) (r : Row) (k : OriginKept r) (at : ℕ) where
  abbrev line_back : Text
  line_back = record { start = at; bytes = printed_origin r }

  column_back : (column (columns line_back) 0).text.bytes ≡ id_digits r.id1
  unfolding printed
  column_back = ap (λ (cs : List Column). (column cs 0).text.bytes) (printed_columns tab refl r.second.bytes at (id_digits r.id1) (r.first.bytes ∷ []) (id_solid r.id1))

  after_back : (column (columns line_back) 0).after.bytes ≡ tab ∷ (r.first.bytes ++ remark tab r.second.bytes)
  unfolding printed tailed
  after_back = ap (λ (cs : List Column). (column cs 0).after.bytes) (printed_columns tab refl r.second.bytes at (id_digits r.id1) (r.first.bytes ∷ []) (id_solid r.id1))

  pub origin_back : has_id r.id1 rs ≡ false → length rs < row_limit → RowBack (λ (q : Row). origin_row rs line_back ≡ granted q) r
  unfolding origin_row
  origin_back new few =
      let a = (column (columns line_back) 0).after.start in
      let is : suc k.id ≡ r.id1 = ap (λ (q : Row). q.id1) k.placeless in
      let e1 : number origin_id (column (columns line_back) 0).text.bytes ≡ Some k.id =
      ap (number origin_id) (column_back ∙ ap id_digits (sym is)) ∙ number_read_back origin_id k.id k.range.0 k.range.1 in
      let e2 : (name rs line_back).bytes ≡ r.first.bytes =
      ap (λ (l : List ℕ). (trim_from a (front_bytes l)).bytes) after_back ∙ name_back a r.first.bytes r.second.bytes k.name.given k.name.trimmed k.single in
      let e3 : (note rs line_back).bytes ≡ r.second.bytes =
      ap (λ (l : List ℕ). (trim (behind_from a l)).bytes) after_back ∙ note_back a r.first.bytes r.second.bytes k.single k.note in
      record {
        read = origin_read rs line_back;
        same = rw (e1, e2, e3) k.placeless;
        granted =
            holds_granted (origin_rules rs line_back) (origin_read rs line_back)
            (hold (origin_rules rs line_back) (
              ap (λ (x : List ℕ). not (empty x)) e2 ∙ k.name.given,
              (
                ap good e1,
                (
                  ap (λ (x : List ℕ). leb (length x) 128) e2 ∙ le-leb (length r.first.bytes) 128 k.name.short,
                  (
                    ap (λ (x : List ℕ). leb (length x) 160) e3 ∙ le-leb (length r.second.bytes) 160 k.note_short,
                    (
                      ap (λ (o : Option ℕ). not (has_id (suc (value o)) rs)) e1 ∙ ap (λ (i : ℕ). not (has_id i rs)) is ∙ ap not new,
                      (lt-ltb (length rs) row_limit few, tt),
                    ),
                  ),
                ),
              ),
            ));
      }
