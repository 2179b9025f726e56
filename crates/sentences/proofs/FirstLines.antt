-- The heading that stands at a place: there is none where no line can be read, or where it is no #BOS as that is written.
use Prim.Native.Nat.{ℕ, suc, ◌+◌, ◌-◌, ◌≤◌, ◌<◌}
use native.Mathlib.Omega.{arith}
use mathlib.Core.Path.{◌≡◌, refl, sym, ap, ◌∙◌}
use mathlib.Core.Bool.{Bool, true, false, ◌||◌, and-false}
use Rattle.std.specs.Prelude.{Option, None, Some, Result, Ok, Err}
use mathlib.Core.List.{List, [], ◌∷◌}
use lib.Dec.{leb}
use lib.ListN.{length, drop, get_or, get_or-eq_default}
use borrow.Author.Tests.{ne_eqb, le-leb, lt-leb, leb-true, leb-false}
use Rattle.rules.specs.Lists.{pick, bytes, every, same}
use Rattle.rules.specs.Bytes.{legal}
use Rattle.rules.specs.Texts.{Text, reads}
use Rattle.rules.specs.Columns.{columns, written}
use Rattle.rules.specs.Numbers.{line_limit, sentence_number, decimal}
use Rattle.rules.specs.Rules.{Rule, rule, Verdict, refused, granted, unless, checked}
use Rattle.rules.specs.Sentences.{Heading, heading_written, heading_in}
use Rattle.rules.specs.Keywords.{first_column}
use Rattle.rules.specs.Lines.{taken_as, sentence_begins}
use Rattle.rules.specs.SentenceFrom.{starts_line, put_in_front, ended_line, heading_alone}
use Rattle.rules.proofs.RuleLaws.{holds_of, granted_holds, passes}
use Rattle.lines.specs.LineEnds.{ends, has_end, first_line, line_end}
use Rattle.lines.specs.declared.Unreadable.{Unreadable}
use Rattle.lines.specs.declared.Unreadable.TheVariants.{Unended, Illegal, TooLong}
use Rattle.steps.specs.declared.Fault.{Fault}
use Rattle.lines.proofs.Lines.{at_ended, at_legal, at_short, at_place, at_below, at_take, unended_none, illegal_ended, illegal_marred, long_ended, long_over}
use Rattle.columns.specs.Listing.{text_between}
use Rattle.columns.specs.Splices.{splice}
use Rattle.steps.specs.Steps.{heading_said, step_of}
use Rattle.steps.specs.declared.HeadingSaid.{HeadingSaid}
use Rattle.steps.specs.declared.Step.{Step}
use Rattle.steps.specs.declared.Step.TheVariants.{SentenceBegins}
use Rattle.judging.specs.States.{first_tally}
use Rattle.judging.specs.declared.state.Tally.{Tally}
use Rattle.judging.proofs.Granted.{value_within}
use Rattle.sentences.specs.Beginnings.{opened_if, opened_at, Headed}

-- ---- a place where a line starts

pub start_none : (file : List ℕ) (place : ℕ) → (place ≡ 0 → ⊥) → length file < place → starts_line file place ≡ false
start_none file place h l =
    let e : get_or file (place - 1) 0 ≡ 0 = get_or-eq_default file 0 (omega arith) in
    rw (ne_eqb place 0 h, e)

pub start_inside : (file : List ℕ) (place : ℕ) → starts_line file place ≡ true → place ≤ length file
start_inside file place e = by (leb place (length file)) refl
  where
    by : (t : Bool) → leb place (length file) ≡ t → place ≤ length file
    by true q = leb-true place (length file) q
    by false q =
        let l : length file < place = leb-false place (length file) q in
        absurd (let z : ◌≡◌ {A = ℕ} 0 1 = cc (e, start_none file place (λ z. omega (arith, z)) l) in omega arith)

-- ---- the bytes up to the first newline

first_line_lem : (bs : List ℕ) → ended_line bs ≡ pick (has_end bs) (Some (first_line bs)) None
unfolding ended_line first_line
first_line_lem [] = refl
first_line_lem (b ∷ bs) = by (ends b) (first_line_lem bs)
  where
    behind : (t : Bool) (l : List ℕ) → put_in_front b (pick t (Some l) None) ≡ pick t (Some (b ∷ l)) None
    behind true l = refl
    behind false l = refl

    by : (t : Bool) → ended_line bs ≡ pick (has_end bs) (Some (first_line bs)) None
        → pick t (Some []) (put_in_front b (ended_line bs)) ≡ pick (t || has_end bs) (Some (pick t [] (b ∷ first_line bs))) None
    by true e = refl
    by false e = ap (put_in_front b) e ∙ behind (has_end bs) (first_line bs)

module _ (file : List ℕ) (place : ℕ) where
  abbrev here : List ℕ
  here = first_line (drop place file)

  begun_ended : has_end (drop place file) ≡ true → opened_at file place ≡ opened_if (suc (place + length here)) (heading_alone (record { start = place; bytes = here }))
  begun_ended h = rw (first_line_lem (drop place file), h)

  begun_unended : has_end (drop place file) ≡ false → opened_at file place ≡ None
  begun_unended h = rw (first_line_lem (drop place file), h)

  not_granted : (next : ℕ) (rs : List Rule) (h : Heading) → every holds_of rs ≡ false → opened_if next (checked rs h) ≡ None
  not_granted next rs h e = by (checked rs h) refl
    where
      by : (v : Verdict Heading) → checked rs h ≡ v → opened_if next v ≡ None
      by (refused r) q = refl
      by (granted a) q = absurd (let z : ◌≡◌ {A = ℕ} 0 1 = cc (e, (granted_holds rs h a q).0) in omega arith)

  pub begun_unread : (why : Unreadable) → line_end file place ≡ Err why → opened_at file place ≡ None
  unfolding heading_alone
  begun_unread Unended q = begun_unended (unended_none file place q)
  begun_unread Illegal q = begun_ended (illegal_ended file place q) ∙ not_granted _ _ _ (rw (illegal_marred file place q))
  begun_unread TooLong q =
      begun_ended (long_ended file place q)
      ∙ not_granted _ _ _ (rw (lt-leb (length here) line_limit (long_over file place q)) (and-false (every legal here)))

  -- ---- a line that is read

  module _ (e : ℕ) (q : line_end file place ≡ Ok e) where
    abbrev line : Text
    line = text_between file place e

    begun_line : opened_at file place ≡ opened_if (e + 1) (heading_alone line)
    begun_line =
        let n : suc (place + length here) ≡ e + 1 = omega (arith, at_place file place e q) in
        begun_ended (at_ended file place e q)
        ∙ ap (λ (m : ℕ). opened_if m (heading_alone (record { start = place; bytes = here }))) n
        ∙ ap (λ (bs : List ℕ). opened_if (e + 1) (heading_alone (record { start = place; bytes = bs }))) (sym (at_take file place e q))

    line_legal : every legal line.bytes ≡ true
    line_legal = ap (every legal) (at_take file place e q) ∙ at_legal file place e q

    line_short : leb (length line.bytes) line_limit ≡ true
    line_short = le-leb (length line.bytes) line_limit (rw (at_take file place e q) (at_short file place e q))

    -- bs are the bytes of its first column, b whether they are #BOS
    module _ (bs : List ℕ) (b : Bool) (is : bs ≡ (first_column line).bytes) (so : b ≡ same bs (bytes "#BOS")) where
      reads_it : {t : Bool} → b ≡ t → reads (bytes "#BOS") (first_column line) ≡ t
      reads_it h = sym (ap (λ (l : List ℕ). same l (bytes "#BOS")) is) ∙ sym so ∙ h

      pub begun_other : b ≡ false → opened_at file place ≡ None
      unfolding heading_alone
      begun_other h = begun_line ∙ not_granted _ _ _ (rw (line_legal, line_short, reads_it h))

      module _ (h : b ≡ true) where
        as_written : heading_alone line ≡ checked (heading_written line) (heading_in line)
        unfolding heading_alone checked
        as_written =
            let four = rule 4 line (every legal line.bytes) in
            let five = rule 5 line (leb (length line.bytes) line_limit) in
            let six = rule 6 line (reads (bytes "#BOS") (first_column line)) in
            ap (λ (o : Option Rule). unless o (heading_in line))
            (passes four (five ∷ six ∷ heading_written line) line_legal ∙ passes five (six ∷ heading_written line) line_short ∙ passes six (heading_written line) (reads_it h))

        abbrev written_so : Verdict Heading
        written_so = checked (heading_written line) (heading_in line)

        begun_written : opened_at file place ≡ opened_if (e + 1) written_so
        begun_written = begun_line ∙ ap (opened_if (e + 1)) as_written

        module _ (y : Result Step Fault) (told : y ≡ step_of (taken_as sentence_begins written_so)) where
          pub begun_refused : ((said : HeadingSaid) → y ≡ Ok (SentenceBegins said) → ⊥) → opened_at file place ≡ None
          begun_refused o = begun_written ∙ by written_so told
            where
              by : (v : Verdict Heading) → y ≡ step_of (taken_as sentence_begins v) → opened_if (e + 1) v ≡ None
              by (refused r) w = refl
              by (granted a) w = absurd (o _ w)

          pub begun_headed : (said : HeadingSaid) → y ≡ Ok (SentenceBegins said) → (t : Tally) → t ≡ first_tally place said.number → (lent sheet : List ℕ)
              → sheet ≡ splice 0 (said.number ∷ said.editor1 ∷ said.date ∷ said.origin ∷ said.comment.start ∷ said.comment.len ∷ []) lent
              → Headed file place (e + 1) t lent sheet
          begun_headed said s t first lent sheet put = by written_so refl (sym s ∙ told)
            where
              by : (v : Verdict Heading) → written_so ≡ v → Ok (SentenceBegins said) ≡ step_of (taken_as sentence_begins v) → Headed file place (e + 1) t lent sheet
              by (refused r) w u = absurd (let z : ◌≡◌ {A = ℕ} 0 1 = cc in omega arith)
              by (granted a) w u =
                  let i : said ≡ heading_said a = cc in
                  record {
                    heading = a;
                    opened = begun_written ∙ ap (opened_if (e + 1)) w;
                    in_file = omega (arith, at_below file place e q);
                    number = rw (← (granted_holds _ _ a w).1) (value_within sentence_number (decimal (written (columns line) 1).bytes));
                    tally_is = first ∙ ap (λ (x : HeadingSaid). first_tally place x.number) i;
                    sheet_is = put ∙ ap (λ (x : HeadingSaid). splice 0 (x.number ∷ x.editor1 ∷ x.date ∷ x.origin ∷ x.comment.start ∷ x.comment.len ∷ []) lent) i;
                  }
