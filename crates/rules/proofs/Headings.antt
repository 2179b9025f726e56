-- What stands on a #BOS line that was granted is fit to be printed, and read back from the printed line. From the line's
-- rules, one by one.
use Prim.Native.Nat.{ℕ, ◌≤◌}
use native.Mathlib.Omega.{arith}
use mathlib.Core.Path.{◌≡◌, refl, sym, ap, ap₂, ◌∙◌, subst}
use mathlib.Core.Bool.{Bool, true, false, not, ◌&&◌, false≢true}
use Rattle.std.specs.Prelude.{Option, Some}
use mathlib.Core.List.{List, [], ◌∷◌, ◌++◌}
use lib.ListN.{length, drop, get_or, length-map}
use lib.Dec.{ltb}
use borrow.Author.Tests.{lt-ltb}
use Rattle.rules.specs.Lists.{empty, every, same, bytes}
use Rattle.rules.specs.Bytes.{percents, ignored}
use Rattle.rules.specs.Texts.{Text, bare}
use Rattle.rules.specs.Columns.{Column, columns, columns_from, written, fields, comment}
use Rattle.rules.specs.Numbers.{Kind, sentence_number, origin_id, date, number, decimal, signed_id, good, value}
use Rattle.rules.specs.Rules.{Rule, rule, granted}
use Rattle.rules.specs.Tables.{Tables, origins, editors, present}
use Rattle.rules.specs.Sentences.{Heading, known_editor, known_origin, heading_of}
use Rattle.rules.specs.Phases.{Answer, refuse, next}
use Rattle.rules.specs.Meaning.{bare_heading, meant_tables}
use Rattle.rules.specs.Tidy.{space, digits_of, id_digits}
use Rattle.rules.proofs.Conjunctions.{and_left, and_right, and_both, not_true}
use Rattle.rules.proofs.Same.{same_eq}
use Rattle.rules.proofs.RuleLaws.{holds_granted}
use Rattle.rules.proofs.RulesHeld.{Held, held, hold}
use Rattle.rules.proofs.Decimal.{number_read_back, id_read_back, id_one_writing}
use Rattle.rules.proofs.Elements.{none_given}
use Rattle.rules.proofs.TrimLaws.{Trimmed}
use Rattle.rules.proofs.PrintedLines.{unplaced, solid, column_bytes, ColumnsThen, printed, remark, printed_read, remark_fields, remark_comment, fields_field, comment_field}
use Rattle.rules.proofs.AnyLine.{bytes_of, comment_trimmed}
use Rattle.rules.proofs.LineFit.{LineFit, again_fit}
use Rattle.rules.proofs.NumbersAgain.{number_again, number_range, id_range, digits_solid, id_solid}
use Rattle.rules.proofs.MeantTables.{present_meant, known_editor_meant, known_origin_meant}
use Rattle.rules.proofs.Steps.{FirstThere, next_checked}
use Rattle.rules.proofs.KeywordLines.{written_bytes}
use Rattle.rules.proofs.TestsAsFacts.{good_some}

abbrev pub heading_columns : Heading → List (List ℕ)
heading_columns h = digits_of h.number ∷ id_digits h.editor1 ∷ digits_of h.date ∷ digits_of h.origin ∷ []

abbrev pub printed_heading : Heading → List ℕ
printed_heading h = printed space (bytes "#BOS") (heading_columns h) h.comment.bytes

-- fit to be printed, in a file whose tables mean ts
pub record HeadingKept (ts : Tables) (h : Heading) : Type 0 where
  pub number : (1 ≤ h.number) × (h.number ≤ 65535)
  pub editor : h.editor1 ≤ 65536
  pub date : h.date ≤ 4294967295
  pub origin : (1 ≤ h.origin) × (h.origin ≤ 65535)
  pub both : (present origins ts && present editors ts) ≡ true
  pub editor_known : known_editor ts h.editor1 ≡ true
  pub origin_known : known_origin ts h.origin ≡ true
  pub trimmed : Trimmed h.comment.bytes
  pub placeless : unplaced h.comment.bytes ≡ h.comment
  pub fit : LineFit (printed_heading h)

-- ---- numbers are not %%

number_no_comment : (k : Kind) (xs : List ℕ) → good (number k xs) ≡ true → same xs percents ≡ false
unfolding decimal
number_no_comment k xs g = by (same xs percents) refl
  where
    by : (t : Bool) → same xs percents ≡ t → t ≡ false
    by true e = absurd (false≢true (sym (ap (λ (x : List ℕ). good (number k x)) (same_eq xs percents e)) ∙ g))
    by false e = refl

id_no_comment : (xs : List ℕ) → good (signed_id xs) ≡ true → same xs percents ≡ false
unfolding decimal
id_no_comment xs g = by (same xs percents) refl
  where
    by : (t : Bool) → same xs percents ≡ t → t ≡ false
    by true e = absurd (false≢true (sym (ap (λ (x : List ℕ). good (signed_id x)) (same_eq xs percents e)) ∙ g))
    by false e = refl

-- ---- five columns, and then only a comment

abbrev no_comment : List Column → ℕ → Type 0
no_comment cs n = same (written cs n).bytes percents ≡ false

five_fields : (cs : List Column) → ltb 4 (length cs) ≡ true → empty (fields (drop 5 cs)) ≡ true
    → no_comment cs 0 → no_comment cs 1 → no_comment cs 2 → no_comment cs 3 → no_comment cs 4
    → (bytes_of (fields cs) ≡ (written cs 0).bytes ∷ (written cs 1).bytes ∷ (written cs 2).bytes ∷ (written cs 3).bytes ∷ (written cs 4).bytes ∷ []) × (comment cs ≡ comment (drop 5 cs))
five_fields [] h e n0 n1 n2 n3 n4 = absurd (false≢true h)
five_fields (c0 ∷ []) h e n0 n1 n2 n3 n4 = absurd (false≢true h)
five_fields (c0 ∷ c1 ∷ []) h e n0 n1 n2 n3 n4 = absurd (false≢true h)
five_fields (c0 ∷ c1 ∷ c2 ∷ []) h e n0 n1 n2 n3 n4 = absurd (false≢true h)
five_fields (c0 ∷ c1 ∷ c2 ∷ c3 ∷ []) h e n0 n1 n2 n3 n4 = absurd (false≢true h)
five_fields (c0 ∷ c1 ∷ c2 ∷ c3 ∷ c4 ∷ cs) h e n0 n1 n2 n3 n4 =
    let f0 = fields_field c0 (c1 ∷ c2 ∷ c3 ∷ c4 ∷ cs) n0 in
    let f1 = fields_field c1 (c2 ∷ c3 ∷ c4 ∷ cs) n1 in
    let f2 = fields_field c2 (c3 ∷ c4 ∷ cs) n2 in
    let f3 = fields_field c3 (c4 ∷ cs) n3 in
    let f4 = fields_field c4 cs n4 in (
      rw (f0, f1, f2, f3, f4, none_given (fields cs) e),
      comment_field c0 (c1 ∷ c2 ∷ c3 ∷ c4 ∷ cs) n0 ∙ comment_field c1 (c2 ∷ c3 ∷ c4 ∷ cs) n1 ∙ comment_field c2 (c3 ∷ c4 ∷ cs) n2 ∙ comment_field c3 (c4 ∷ cs) n3
          ∙ comment_field c4 cs n4,
    )

bos_seen : ignored (bytes "#BOS") ≡ false
unfolding ignored
bos_seen = refl

-- ---- the rules

module _ (ts : Tables) (used : ℕ → Bool) (line : Text) where
  abbrev cs : List Column
  cs = columns line

  abbrev its_number : Option ℕ
  its_number = number sentence_number (written cs 1).bytes

  abbrev its_editor : Option ℕ
  its_editor = signed_id (written cs 2).bytes

  abbrev its_date : Option ℕ
  its_date = number date (written cs 3).bytes

  abbrev its_origin : Option ℕ
  its_origin = number origin_id (written cs 4).bytes

  abbrev pub heading_rules : List Rule
  heading_rules =
      rule 7 line (ltb 4 (length cs) && empty (fields (drop 5 cs)))
      ∷ rule 8 (written cs 1) (good its_number)
      ∷ rule 8 (written cs 2) (good its_editor)
      ∷ rule 8 (written cs 3) (good its_date)
      ∷ rule 8 (written cs 4) (good its_origin)
      ∷ rule 13 line (present origins ts && present editors ts)
      ∷ rule 14 line (not (used (value its_number)))
      ∷ rule 15 (written cs 2) (known_editor ts (value its_editor))
      ∷ rule 15 (written cs 4) (known_origin ts (value its_origin))
      ∷ []

  abbrev pub heading_read : Heading
  heading_read =
      record {
        number = value its_number;
        editor1 = value its_editor;
        date = value its_date;
        origin = value its_origin;
        comment = comment (drop 5 cs);
      }

  module _ (f : LineFit line.bytes) (o : FirstThere line) (bos : o.first.text.bytes ≡ bytes "#BOS") where
    heading_kept : Held heading_rules → HeadingKept (meant_tables ts) (bare_heading heading_read)
    heading_kept h =
        let g1 = h.1.0 in
        let g2 = h.1.1.0 in
        let g3 = h.1.1.1.0 in
        let g4 = h.1.1.1.1.0 in
        let e1 = good_some its_number g1 in
        let e2 = good_some its_editor g2 in
        let e3 = good_some its_date g3 in
        let e4 = good_some its_origin g4 in
        let first : (written cs 0).bytes ≡ bytes "#BOS" = ap (λ (ks : List Column). (written ks 0).bytes) o.form ∙ bos in
        let seven = h.0 in
        let five =
        five_fields cs (and_left (ltb 4 (length cs)) (empty (fields (drop 5 cs))) seven) (and_right (ltb 4 (length cs)) (empty (fields (drop 5 cs))) seven)
        (ap (λ (x : List ℕ). same x percents) first) (number_no_comment sentence_number (written cs 1).bytes g1) (id_no_comment (written cs 2).bytes g2)
        (number_no_comment date (written cs 3).bytes g3) (number_no_comment origin_id (written cs 4).bytes g4) in
        let n1 : digits_of (value its_number) ≡ (written cs 1).bytes = number_again sentence_number (written cs 1).bytes (value its_number) e1 in
        let n2 : id_digits (value its_editor) ≡ (written cs 2).bytes = id_one_writing (written cs 2).bytes (value its_editor) e2 in
        let n3 : digits_of (value its_date) ≡ (written cs 3).bytes = number_again date (written cs 3).bytes (value its_date) e3 in
        let n4 : digits_of (value its_origin) ≡ (written cs 4).bytes = number_again origin_id (written cs 4).bytes (value its_origin) e4 in
        let all : bytes_of (fields cs) ≡ bytes "#BOS" ∷ heading_columns heading_read = five.0 ∙ rw (first, n1, n2, n3, n4) in
        record {
          number = number_range sentence_number (written cs 1).bytes (value its_number) e1;
          editor = id_range (written cs 2).bytes (value its_editor) e2;
          date = (number_range date (written cs 3).bytes (value its_date) e3).1;
          origin = number_range origin_id (written cs 4).bytes (value its_origin) e4;
          both = ap₂ ◌&&◌ (present_meant origins ts) (present_meant editors ts) ∙ h.1.1.1.1.1.0;
          editor_known = known_editor_meant ts (value its_editor) ∙ h.1.1.1.1.1.1.1.0;
          origin_known = known_origin_meant ts (value its_origin) ∙ h.1.1.1.1.1.1.1.1.0;
          trimmed = comment_trimmed (drop 5 cs);
          placeless = refl;
          fit =
              subst (λ (t : Text). LineFit (printed space (bytes "#BOS") (heading_columns heading_read) t.bytes)) five.1
              (again_fit space refl refl line.start line.bytes (bytes "#BOS") (heading_columns heading_read) f o.starts all refl bos_seen);
        }

    pub heading_cases : (P : Answer → Type 0) (bad : (r : Rule) → 1 ≤ r.number → P (refuse r)) (a : Heading → Answer)
        → ((h : Heading) → HeadingKept (meant_tables ts) (bare_heading h) → used h.number ≡ false → P (a h)) → P (next a (heading_of ts used line))
    unfolding heading_of
    heading_cases P bad a g =
        next_checked P bad a heading_rules heading_read refl
        (λ h.
        let r = held heading_rules h in
        g heading_read (heading_kept r) (not_true (used (value its_number)) r.1.1.1.1.1.1.0))

-- ---- read back

pub record HeadingBack (us : Tables) (used : ℕ → Bool) (line : Text) (h : Heading) : Type 0 where
  pub read : Heading
  pub same : bare_heading read ≡ h
  pub answer : heading_of us used line ≡ granted read

module _ (us : Tables) (h : Heading) (k : HeadingKept (meant_tables us) h) (used : ℕ → Bool) (at : ℕ) where
  abbrev line_back : Text
  line_back = record { start = at; bytes = printed_heading h }

  heading_solid : every solid (bytes "#BOS" ∷ heading_columns h) ≡ true
  heading_solid = rw (digits_solid h.number, id_solid h.editor1, digits_solid h.date, digits_solid h.origin)

  columns_back : ColumnsThen (columns line_back) (bytes "#BOS" ∷ heading_columns h) (remark space h.comment.bytes)
  columns_back = printed_read space refl h.comment.bytes at (bytes "#BOS") (heading_columns h) heading_solid

  column_back : (n : ℕ) → (written (columns line_back) n).bytes ≡ get_or ((bytes "#BOS" ∷ heading_columns h) ++ column_bytes (columns_from columns_back.at (remark space h.comment.bytes))) n []
  column_back n = written_bytes (columns line_back) n ∙ ap (λ (l : List (List ℕ)). get_or l n []) columns_back.texts

  pub heading_back : used h.number ≡ false → HeadingBack us used line_back h
  unfolding heading_of
  heading_back new =
      let cs = columns line_back in
      let b = columns_back in
      let e1 : number sentence_number (written cs 1).bytes ≡ Some h.number = ap (number sentence_number) (column_back 1) ∙ number_read_back sentence_number h.number k.number.0 k.number.1 in
      let e2 : signed_id (written cs 2).bytes ≡ Some h.editor1 = ap signed_id (column_back 2) ∙ id_read_back h.editor1 k.editor in
      let e3 : number date (written cs 3).bytes ≡ Some h.date = ap (number date) (column_back 3) ∙ number_read_back date h.date (omega arith) k.date in
      let e4 : number origin_id (written cs 4).bytes ≡ Some h.origin = ap (number origin_id) (column_back 4) ∙ number_read_back origin_id h.origin k.origin.0 k.origin.1 in
      let more = column_bytes (columns_from b.at (remark space h.comment.bytes)) in
      let count : length cs ≡ length ((bytes "#BOS" ∷ heading_columns h) ++ more) = sym (length-map cs (λ (c : Column). c.text.bytes)) ∙ ap length b.texts in
      let long : ltb 4 (length cs) ≡ true = lt-ltb 4 (length cs) (omega (arith, count)) in
      let done : empty (fields (drop 5 cs)) ≡ true = ap (λ (ks : List Column). empty (fields ks)) b.rest ∙ ap empty (remark_fields space refl b.at h.comment.bytes) in
      let note : bare (comment (drop 5 cs)) ≡ h.comment = ap (λ (ks : List Column). bare (comment ks)) b.rest ∙ remark_comment space refl b.at h.comment.bytes k.trimmed ∙ k.placeless in
      record {
        read = heading_read us used line_back;
        same = rw (e1, e2, e3, e4, note);
        answer =
            holds_granted (heading_rules us used line_back) (heading_read us used line_back)
            (hold (heading_rules us used line_back) (
              and_both (ltb 4 (length cs)) (empty (fields (drop 5 cs))) long done,
              (
                ap good e1,
                (
                  ap good e2,
                  (
                    ap good e3,
                    (
                      ap good e4,
                      (
                        sym (ap₂ ◌&&◌ (present_meant origins us) (present_meant editors us)) ∙ k.both,
                        (
                          ap (λ (o : Option ℕ). not (used (value o))) e1 ∙ ap not new,
                          (
                            ap (λ (o : Option ℕ). known_editor us (value o)) e2 ∙ sym (known_editor_meant us h.editor1) ∙ k.editor_known,
                            (ap (λ (o : Option ℕ). known_origin us (value o)) e4 ∙ sym (known_origin_meant us h.origin) ∙ k.origin_known, tt),
                          ),
                        ),
                      ),
                    ),
                  ),
                ),
              ),
            ));
      }
