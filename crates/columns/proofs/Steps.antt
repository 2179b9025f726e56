-- What a step of the cursor says of the line's columns: where it finds none there are none, and a column that it finds is
-- the first of them. By the two runs that it passes.
use Prim.Native.Nat.{ℕ, suc, ◌+◌, ◌-◌, ◌≤◌, ◌<◌}
use native.Mathlib.Nat.{add-sub_cancel_left}
use native.Mathlib.Omega.{arith}
use mathlib.Core.Path.{◌≡◌, refl, sym, ap, ◌∙◌}
use mathlib.Core.Bool.{Bool, true, false, not}
use mathlib.Core.List.{List, [], ◌∷◌}
use borrow.Author.Tests.{ltb-true, ltb-false}
use lib.Dec.{ltb}
use lib.ListN.{length, take, drop, get_or, length-drop, take-append-drop, drop_of_length-le}
use lib.Seq.{drop-drop, drop-cons, length-take-le}
use Rattle.rules.specs.Bytes.{white}
use Rattle.rules.specs.Columns as lines
use Rattle.rules.proofs.ColumnLaws.{columns_skip, columns_run}
use Rattle.columns.specs.Leading.{run_length, solid}
use Rattle.std.specs.Prelude.{Some, None}
use Rattle.columns.specs.Cursors.{found_at, first_of, next_column}
use Rattle.columns.specs.declared.Cursor.{Cursor}
use Rattle.columns.specs.declared.Found.{Found}
use Rattle.columns.proofs.Leading.{leading_more, leading_within, leading_every, leading_behind, leading_column, none_white}

-- the column of a file's head between two places
abbrev pub column_between : List ℕ → ℕ → ℕ → lines.Column
column_between s a e =
    record { text = record { start = a; bytes = take (e - a) (drop a s) }; after = record { start = e; bytes = drop e s } }

-- white bytes in front are in no column
past_white : (at : ℕ) (s : List ℕ) → lines.columns_from at s ≡ lines.columns_from (at + run_length white s) (drop (run_length white s) s)
past_white at s =
    let n : ℕ = run_length white s in
    ap (lines.columns_from at) (sym (take-append-drop n s))
    ∙ columns_skip at (take n s) (drop n s) (leading_every white s)
    ∙ ap (λ (k : ℕ). lines.columns_from (at + k) (drop n s)) (length-take-le n s (leading_within white s))

-- the first n bytes at a place as a column
abbrev run : ℕ → List ℕ → ℕ → lines.Column
run at s n =
    record { text = record { start = at; bytes = take n s }; after = record { start = at + n; bytes = drop n s } }

-- from a byte of a column on, the first column is the run of such bytes
front : (at : ℕ) (s : List ℕ) → 0 < run_length solid s
    → lines.columns_from at s ≡ run at s (run_length solid s) ∷ lines.columns_from (at + run_length solid s) (drop (run_length solid s) s)
front at s h =
    let n : ℕ = run_length solid s in
    let m : length (take n s) ≡ n = length-take-le n s (leading_within solid s) in
    ap (lines.columns_from at) (sym (take-append-drop n s))
    ∙ columns_run at (take n s) (drop n s) (omega arith) (none_white (take n s) (leading_every solid s)) (leading_column s)
    ∙ rw m

-- where the first column from a place on starts, and where it ends
abbrev pub start_from : List ℕ → ℕ → ℕ
start_from s at = at + run_length white (drop at s)

abbrev pub end_from : List ℕ → ℕ → ℕ
end_from s at = start_from s at + run_length solid (drop (start_from s at) s)

module _ (s : List ℕ) (at : ℕ) where
  behind_white : drop (run_length white (drop at s)) (drop at s) ≡ drop (start_from s at) s
  behind_white = drop-drop (run_length white (drop at s)) at s

  from_start : lines.columns_from at (drop at s) ≡ lines.columns_from (start_from s at) (drop (start_from s at) s)
  from_start = past_white at (drop at s) ∙ ap (lines.columns_from (start_from s at)) behind_white

  none_left : length s ≤ start_from s at → lines.columns_from at (drop at s) ≡ []
  unfolding lines.columns_from
  none_left h = from_start ∙ ap (lines.columns_from (start_from s at)) (drop_of_length-le s h)

  solid_there : start_from s at < length s → solid (get_or s (start_from s at) 0) ≡ true
  solid_there h =
      ap not (leading_behind white (drop at s) (get_or s (start_from s at) 0) (drop (suc (start_from s at)) s) (behind_white ∙ drop-cons s (start_from s at) 0 h))

  -- the column's first byte, and then the others
  end_is : start_from s at < length s → end_from s at ≡ start_from s at + 1 + run_length solid (drop (start_from s at + 1) s)
  end_is h = leading_more solid s (start_from s at) h (solid_there h)

  within : start_from s at < length s → end_from s at ≤ length s
  within h = omega (arith, leading_within solid (drop (start_from s at) s), length-drop (start_from s at) s)

  first_is : start_from s at < length s → lines.columns_from at (drop at s) ≡ column_between s (start_from s at) (end_from s at) ∷ lines.columns_from (end_from s at) (drop (end_from s at) s)
  first_is h =
      let n : ℕ = run_length solid (drop (start_from s at) s) in
      from_start
      ∙ front (start_from s at) (drop (start_from s at) s) (omega (arith, end_is h))
      ∙ rw (add-sub_cancel_left (start_from s at) n, drop-drop n (start_from s at) s)

  at_missing : length s ≤ start_from s at → next_column s at ≡ None
  unfolding next_column
  at_missing h = ap first_of (none_left h)

  at_found : start_from s at < length s → next_column s at ≡ Some (found_at (start_from s at) (end_from s at))
  unfolding next_column
  at_found h =
      let n : ℕ = end_from s at - start_from s at in
      let m : length (take n (drop (start_from s at) s)) ≡ n = length-take-le n (drop (start_from s at) s) (omega (arith, within h, length-drop (start_from s at) s)) in
      let k : start_from s at + length (take n (drop (start_from s at) s)) ≡ end_from s at = omega arith in
      ap first_of (first_is h) ∙ ap (λ (e : ℕ). Some (found_at (start_from s at) e)) k

-- the same, of the places that the code comes to
module _ (s : List ℕ) (at a : ℕ) (start : a ≡ start_from s at) where
  pub comes_to_none : length s ≤ a → next_column s at ≡ None
  comes_to_none h = at_missing s at (omega arith)

  pub comes_to_one : (e : ℕ) → e ≡ a + 1 + run_length solid (drop (a + 1) s) → a < length s → next_column s at ≡ Some (found_at a e)
  comes_to_one e end h =
      let k : start_from s at < length s = omega arith in
      let l : end_from s at ≡ e = end_is s at k ∙ ap (λ (n : ℕ). n + 1 + run_length solid (drop (n + 1) s)) (sym start) ∙ sym end in
      at_found s at k
      ∙ ap (λ (n : ℕ). Some (found_at n (end_from s at))) (sym start)
      ∙ ap (λ (n : ℕ). Some (found_at a n)) l

-- what a step that found a column has found, and what it leaves
pub record Step (s : List ℕ) (at a e : ℕ) (n : Cursor) : Type 0 where
  pub next : n.at ≡ e
  pub from : at ≤ a
  pub some : a < e
  pub inside : e ≤ length s
  pub columns : lines.columns_from at (drop at s) ≡ column_between s a e ∷ lines.columns_from e (drop e s)

pub missing : (s : List ℕ) (at : ℕ) → next_column s at ≡ None → lines.columns_from at (drop at s) ≡ []
missing s at q = go (ltb (start_from s at) (length s)) refl
  where
    go : (t : Bool) → ltb (start_from s at) (length s) ≡ t → lines.columns_from at (drop at s) ≡ []
    go true h = cc (at_found s at (ltb-true _ _ h))
    go false h = none_left s at (ltb-false _ _ h)

pub found : (s : List ℕ) (at : ℕ) (f : Found) → next_column s at ≡ Some f → Step s at f.start f.end f.next
found s at f q = go (ltb (start_from s at) (length s)) refl
  where
    go : (t : Bool) → ltb (start_from s at) (length s) ≡ t → Step s at f.start f.end f.next
    go true h =
        let l : start_from s at < length s = ltb-true _ _ h in
        let w : found_at (start_from s at) (end_from s at) ≡ f = cc (at_found s at l) in
        let p : start_from s at ≡ f.start = ap (λ (x : Found). x.start) w in
        let r : end_from s at ≡ f.end = ap (λ (x : Found). x.end) w in
        let n : end_from s at ≡ f.next.at = ap (λ (x : Found). x.next.at) w in
        record {
          next = sym n ∙ r;
          from = omega arith;
          some = omega (arith, end_is s at l);
          inside = omega (arith, within s at l);
          columns = rw (r, p) at (first_is s at l);
        }
    go false h = absurd (let z : ◌≡◌ {A = ℕ} 0 1 = cc (at_missing s at (ltb-false _ _ h)) in omega arith)
