-- Of any two files: the refusals come in their order, the table's presence decides which of the two is asked, the row with the
-- tag is the only one, and 26 is given exactly if there is nothing to tell. By the cases of the definition.
use Prim.Native.Nat.{ℕ, ◌-◌, ◌≤◌}
use native.Mathlib.Omega.{arith}
use mathlib.Core.Path.{◌≡◌, refl, sym, ap, ◌∙◌, subst}
use mathlib.Core.Bool.{Bool, true, false, ◌||◌, false≢true}
use Rattle.std.specs.Prelude.{Option, None, Some}
use mathlib.Core.List.{List, [], ◌∷◌, ◌++◌}
use lib.Dec.{leb}
use borrow.Author.Tests.{le-leb, leb-true, eq-eqb, ne_eqb}
use Rattle.rules.specs.Lists.{pick, between, same}
use Rattle.rules.specs.Texts.{Text, no_text, same_bytes}
use Rattle.rules.specs.Tables.{Row, Tables, table, rows_of, there, has_tag, dashes, unknown}
use Rattle.rules.specs.Survey.{survey_of, sheets_fit}
use Rattle.rules.proofs.Conjunctions.{and_left, and_right, or_left, or_right, or_found, false_if_never}
use Rattle.rules.proofs.Same.{eq_same, ne_same, same_false}
use Rattle.rules.proofs.Sizes.{sheets_fit_lem, fit_sheets, within_fits, long_misfits}
use Rattle.rules.specs.Explaining.{tag_rows, described, described_in, description, Explanation, part_of, explanation, explained, after_explaining}
use Rattle.rules.specs.ExplainingRules.{TagsApart, TagTablePlace, NoRow, RowsTell, by_row, dashes_without, unknown_without, Lacks, Unexplained, no_tag_table, in_neither, file_lacks, list_lacks, ExplainingRule, ExplainingCall}
use Rattle.rules.proofs.TagsDiffer.{turned, tags_differ}

-- ---- rows

picked_none : (b : Bool) (t : Text) (o : Option Text) → pick b (Some t) o ≡ None → (b ≡ false) × (o ≡ None)
picked_none true t o e = absurd (let z : ◌≡◌ {A = ℕ} 0 1 = cc in omega arith)
picked_none false t o e = (refl, e)

lacks : (tag : List ℕ) (rs : List Row) → described tag rs ≡ None → Lacks tag rs
unfolding described
lacks tag [] e =
    let p = (picked_none (same tag dashes || same tag unknown) no_text None e).0 in
    record {
      not_dashes = same_false tag dashes (or_left (same tag dashes) (same tag unknown) p);
      not_unknown = same_false tag unknown (or_right (same tag dashes) (same tag unknown) p);
      no_row = tt;
    }
lacks tag (r ∷ rs) e =
    let p = picked_none (same tag r.first.bytes) r.second (described tag rs) e in
    let l = lacks tag rs p.1 in
    record { not_dashes = l.not_dashes; not_unknown = l.not_unknown; no_row = (same_false tag r.first.bytes p.0, l.no_row) }

lacked : (tag : List ℕ) (rs : List Row) → Lacks tag rs → described tag rs ≡ None
unfolding described
lacked tag [] l = rw (ne_same tag dashes l.not_dashes, ne_same tag unknown l.not_unknown)
lacked tag (r ∷ rs) l =
    rw (ne_same tag r.first.bytes l.no_row.0)
    (lacked tag rs (record { not_dashes = l.not_dashes; not_unknown = l.not_unknown; no_row = l.no_row.1 }))

-- the row behind others
other_tag : (t : Text) (front : List Row) (r : Row) (back : List Row) → has_tag t (front ++ (r ∷ back)) ≡ false → same_bytes t r.first ≡ false
unfolding has_tag
other_tag t [] r back e = or_left (same_bytes t r.first) (has_tag t back) e
other_tag t (q ∷ front) r back e = other_tag t front r back (or_right (same_bytes t q.first) (has_tag t (front ++ (r ∷ back))) e)

described_at : (tag : List ℕ) (front : List Row) (r : Row) (back : List Row) → TagsApart (front ++ (r ∷ back)) → r.first.bytes ≡ tag
    → described tag (front ++ (r ∷ back)) ≡ Some r.second
unfolding described
described_at tag [] r back a e = rw (eq_same tag r.first.bytes (sym e))
described_at tag (q ∷ front) r back a e =
    let other : same r.first.bytes q.first.bytes ≡ false = turned q.first r.first (other_tag q.first front r back a.0) in
    rw (ap (λ (t : List ℕ). same t q.first.bytes) (sym e) ∙ other) (described_at tag front r back a.1 e)

-- without a row
reserved : (tag : List ℕ) (rs : List Row) → (same tag dashes || same tag unknown) ≡ true → NoRow tag rs → described tag rs ≡ Some no_text
unfolding described
reserved tag [] e k = rw e
reserved tag (r ∷ rs) e k = rw (ne_same tag r.first.bytes k.0) (reserved tag rs e k.1)

described_as : (tag : List ℕ) (rs : List Row) (t : Text) → TagsApart rs → RowsTell tag rs t → described tag rs ≡ Some t
described_as tag rs t a (by_row front r back e own s) =
    ap (described tag) e ∙ described_at tag front r back (subst TagsApart e a) own ∙ ap Some s
described_as tag rs t a (dashes_without d k s) = reserved tag rs (rw (eq_same tag dashes d)) k ∙ ap Some s
described_as tag rs t a (unknown_without d k s) =
    reserved tag rs (or_found (same tag dashes) (same tag unknown) (eq_same tag unknown d)) k ∙ ap Some s

-- ---- the table named

named_between : (n place : ℕ) → TagTablePlace n place → between 3 7 place ≡ true
named_between n place t = rw (le-leb 3 place (omega (arith, t.counted, t.first)), le-leb place 7 (omega (arith, t.counted, t.last))) refl

named_rows : (n place : ℕ) (ts : Tables) → TagTablePlace n place → tag_rows place ts ≡ table n ts
named_rows n place ts t =
    ap (λ (b : Bool). pick b (table (place - 1) ts) None) (named_between n place t)
    ∙ ap (λ (k : ℕ). table k ts) (let m : place - 1 ≡ n = omega (arith, t.counted) in m)

pub between_named : (place : ℕ) → between 3 7 place ≡ true → TagTablePlace (place - 1) place
between_named place e =
    let low = leb-true 3 place (and_left (leb 3 place) (leb place 7) e) in
    let high = leb-true place 7 (and_right (leb 3 place) (leb place 7) e) in
    record { counted = omega (arith, low); first = omega (arith, low); last = omega (arith, high) }

-- ---- the file's tables and the list's

refused_none : (k : ℕ) (o : Option Text) → (part_of k o).refusal ≡ 26 → o ≡ None
refused_none k None e = refl
refused_none k (Some t) e = absurd (omega (arith, e))

module _ (fs ls : Tables) (place : ℕ) (tag : List ℕ) where
  abbrev told : Explanation
  told = explanation fs ls place tag

  of_file : (o : Option (List Row)) (rs : List Row) → tag_rows place fs ≡ o → o ≡ Some rs → told ≡ part_of 1 (described tag rs)
  of_file o rs p e =
      ap (λ (x : Option (List Row)). pick (there x) (part_of 1 (described_in tag x)) (part_of 2 (description ls place tag))) (p ∙ e)

  of_list : tag_rows place fs ≡ None → told ≡ part_of 2 (description ls place tag)
  of_list p = ap (λ (x : Option (List Row)). pick (there x) (part_of 1 (described_in tag x)) (part_of 2 (description ls place tag))) p

  why : told.refusal ≡ 26 → Unexplained fs ls place tag
  why e = by (between 3 7 place) refl
    where
      in_list : TagTablePlace (place - 1) place → table (place - 1) fs ≡ None → (o : Option (List Row)) → table (place - 1) ls ≡ o → Unexplained fs ls place tag
      in_list t f None q = in_neither (place - 1) t f q
      in_list t f (Some rs) q =
          let p = of_list (named_rows (place - 1) place fs t ∙ f) ∙ ap (λ (x : Option (List Row)). part_of 2 (described_in tag x)) (named_rows (place - 1) place ls t ∙ q) in
          list_lacks (place - 1) rs t f q (lacks tag rs (refused_none 2 (described tag rs) (sym (ap (λ (x : Explanation). x.refusal) p) ∙ e)))

      in_file : TagTablePlace (place - 1) place → (o : Option (List Row)) → table (place - 1) fs ≡ o → Unexplained fs ls place tag
      in_file t None q = in_list t q (table (place - 1) ls) refl
      in_file t (Some rs) q =
          let p = of_file (table (place - 1) fs) rs (named_rows (place - 1) place fs t) q in
          file_lacks (place - 1) rs t q (lacks tag rs (refused_none 1 (described tag rs) (sym (ap (λ (x : Explanation). x.refusal) p) ∙ e)))

      by : (b : Bool) → between 3 7 place ≡ b → Unexplained fs ls place tag
      by true q = in_file (between_named place q) (table (place - 1) fs) refl
      by false q = no_tag_table (λ n t. false≢true (sym q ∙ named_between n place t))

  therefore : Unexplained fs ls place tag → told.refusal ≡ 26
  therefore (no_tag_table d) = by (between 3 7 place) refl
    where
      by : (b : Bool) → between 3 7 place ≡ b → told.refusal ≡ 26
      by true q = absurd (d (place - 1) (between_named place q))
      by false q = rw q refl
  therefore (in_neither n t f l) =
      ap (λ (x : Explanation). x.refusal)
      (of_list (named_rows n place fs t ∙ f) ∙ ap (λ (x : Option (List Row)). part_of 2 (described_in tag x)) (named_rows n place ls t ∙ l))
  therefore (file_lacks n rs t f k) =
      ap (λ (x : Explanation). x.refusal)
      (of_file (table n fs) rs (named_rows n place fs t) f ∙ ap (part_of 1) (lacked tag rs k))
  therefore (list_lacks n rs t f l k) =
      ap (λ (x : Explanation). x.refusal)
      (of_list (named_rows n place fs t ∙ f) ∙ ap (λ (x : Option (List Row)). part_of 2 (described_in tag x)) (named_rows n place ls t ∙ l) ∙ ap (part_of 2) (lacked tag rs k))

-- ---- two files

-- of any file no two rows of a tag table have the same tag, so its rows tell one thing
pub the_row : (file tag : List ℕ) (n : ℕ) (rs : List Row) (t : Text) → 2 ≤ n → table n (survey_of file).tables ≡ Some rs → RowsTell tag rs t
    → described tag rs ≡ Some t
the_row file tag n rs t h e tells =
    described_as tag rs t (subst (λ (o : Option (List Row)). TagsApart (rows_of o)) e (tags_differ file n h)) tells

module _ (file list : List ℕ) (place : ℕ) (tag : List ℕ) where
  accepted : (survey_of file).refusal ≡ 0 → (survey_of list).refusal ≡ 0
      → explained (survey_of file) (survey_of list) place tag ≡ explanation (survey_of file).tables (survey_of list).tables place tag
  accepted a b = rw (eq-eqb (survey_of file).refusal 0 a, eq-eqb (survey_of list).refusal 0 b)

  pub explained_exactly : ExplainingRule file list place tag
  explained_exactly =
      let fs : Tables = (survey_of file).tables in
      let ls : Tables = (survey_of list).tables in
      record {
        file_first = λ d. rw (ne_eqb (survey_of file).refusal 0 d);
        then_list = λ a d. rw (eq-eqb (survey_of file).refusal 0 a, ne_eqb (survey_of list).refusal 0 d);
        by_file =
            λ a b n rs t k e tells.
            accepted a b ∙ of_file fs ls place tag (table n fs) rs (named_rows n place fs k) e
            ∙ ap (part_of 1) (the_row file tag n rs t k.first e tells);
        by_list =
            λ a b n rs t k f e tells.
            accepted a b ∙ of_list fs ls place tag (named_rows n place fs k ∙ f)
            ∙ ap (λ (x : Option (List Row)). part_of 2 (described_in tag x)) (named_rows n place ls k ∙ e)
            ∙ ap (part_of 2) (the_row list tag n rs t k.first e tells);
        exactly = λ a b. (
          λ e. why fs ls place tag (sym (ap (λ (x : Explanation). x.refusal) (accepted a b)) ∙ e),
          λ u. ap (λ (x : Explanation). x.refusal) (accepted a b) ∙ therefore fs ls place tag u,
        );
      }

  -- ---- with lent buffers

  pub explaining_call : (tables seen : List ℕ) → ExplainingCall file list place tag tables seen
  unfolding after_explaining
  explaining_call tables seen =
      record {
        wrong_size = λ other. rw (false_if_never (sheets_fit tables seen) (λ e. other (fit_sheets tables seen e)));
        file_too_long = λ s h. rw (sheets_fit_lem tables seen s, long_misfits file h);
        list_too_long = λ s w h. rw (sheets_fit_lem tables seen s, within_fits file w, long_misfits list h);
        told = λ s w v. rw (sheets_fit_lem tables seen s, within_fits file w, within_fits list v);
      }
