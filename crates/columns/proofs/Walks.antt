-- The walk along a line's columns, at the cursor's place: the columns in front of it are listed, and those from it on are
-- the others. By one step of the cursor.
use Prim.Native.Nat.{ℕ, suc, ◌+◌, ◌-◌, ◌*◌, ◌≤◌, ◌<◌}
use native.Mathlib.Numerals.{add-one}
use native.Mathlib.Omega.{arith}
use mathlib.Core.Path.{◌≡◌, sym, ap, ◌∙◌}
use mathlib.Core.List.{List, [], ◌∷◌, ◌++◌, map, append_assoc}
use lib.ListN.{length, take, drop, get_or, set, length-append, length-set, length-drop}
use lib.Seq.{length-take-le, take-suc, take_all, drop-cons}
use Rattle.rules.specs.Numbers.{line_limit}
use Rattle.rules.specs.Columns as lines
use Rattle.columns.specs.Splices.{splice}
use Rattle.std.specs.Prelude.{Some, None}
use Rattle.columns.specs.Cursors.{next_column}
use Rattle.columns.specs.Listing.{places_of}
use Rattle.columns.specs.declared.Found.{Found}
use Rattle.columns.proofs.Steps.{column_between, missing, found}
use Rattle.columns.proofs.Shifts.{moved, columns_moved, columns_half}
use Rattle.columns.proofs.Stands.{length_places, places_more}
use Rattle.columns.proofs.Splices.{splice_more, splice_none}

-- all the columns that are walked
abbrev pub walked : List ℕ → ℕ → ℕ → List lines.Column
walked line from start = lines.columns_from (start + from) (drop from line)

pub record Walking (line : List ℕ) (from start : ℕ) (lent places : List ℕ) (at count : ℕ) : Type 0 where
  pub room : length lent ≡ 4096
  pub kept : length places ≡ 4096
  pub short : length line ≤ line_limit
  pub inside : at ≤ length line
  pub below : count ≤ length (walked line from start)
  pub rest : drop count (walked line from start) ≡ lines.columns_from (start + at) (drop at line)
  pub stored : places ≡ splice 0 (places_of (take count (walked line from start))) lent

pub walking_start : (line : List ℕ) (from start : ℕ) (lent : List ℕ) (at : ℕ) → length lent ≡ 4096 → length line ≤ line_limit → from ≤ length line → at ≡ from
    → Walking line from start lent lent at 0
unfolding places_of
walking_start line from start lent at r s h e =
    record {
      room = r;
      kept = r;
      short = s;
      inside = omega arith;
      below = omega arith;
      rest = ap (λ (n : ℕ). lines.columns_from (start + n) (drop n line)) (sym e);
      stored = sym (splice_none lent 0);
    }

-- the element that a list goes on with
next_there : (l : List lines.Column) (n : ℕ) (x : lines.Column) (xs : List lines.Column) → drop n l ≡ x ∷ xs → n < length l
next_there l n x xs q = omega (arith, length-drop n l, ap length q)

next_taken : (l : List lines.Column) (n : ℕ) (x : lines.Column) (xs : List lines.Column) → drop n l ≡ x ∷ xs → take (n + 1) l ≡ take n l ++ (x ∷ [])
next_taken l n x xs q =
    let h : n < length l = next_there l n x xs q in
    let e : get_or l n x ∷ drop (suc n) l ≡ x ∷ xs = sym (drop-cons l n x h) ∙ q in
    let f : get_or l n x ≡ x = cc in
    rw add-one (take-suc l n x h ∙ ap (λ (y : lines.Column). take n l ++ (y ∷ [])) f)

next_left : (l : List lines.Column) (n : ℕ) (x : lines.Column) (xs : List lines.Column) → drop n l ≡ x ∷ xs → drop (n + 1) l ≡ xs
next_left l n x xs q =
    let h : n < length l = next_there l n x xs q in
    let e : get_or l n x ∷ drop (suc n) l ≡ x ∷ xs = sym (drop-cons l n x h) ∙ q in
    rw add-one (cc)

-- a column's two numbers stored behind the others'
store_two : (cs : List lines.Column) (lent : List ℕ) (n a e : ℕ) → length cs ≡ n → 2 * n + 1 < length lent
    → set (set (splice 0 (places_of cs) lent) (2 * n) a) (2 * n + 1) e ≡ splice 0 (places_of cs ++ (a ∷ e ∷ [])) lent
store_two cs lent n a e c h =
    let ps = places_of cs in
    let k : 0 + length ps ≡ 2 * n = omega (arith, length_places cs) in
    let m : 0 + length (ps ++ (a ∷ [])) ≡ 2 * n + 1 = omega (arith, length-append ps (a ∷ [])) in
    ap (λ (i : ℕ). set (set (splice 0 ps lent) i a) (2 * n + 1) e) (sym k)
    ∙ ap (λ (l : List ℕ). set l (2 * n + 1) e) (splice_more ps lent 0 a (omega arith))
    ∙ ap (λ (i : ℕ). set (splice 0 (ps ++ (a ∷ [])) lent) i e) (sym m)
    ∙ splice_more (ps ++ (a ∷ [])) lent 0 e (omega arith)
    ∙ ap (λ (l : List ℕ). splice 0 l lent) (append_assoc ps (a ∷ []) (e ∷ []))

module _ (line : List ℕ) (from start : ℕ) (lent places : List ℕ) (at count : ℕ) (w : Walking line from start lent places at count) where
  abbrev all : List lines.Column
  all = walked line from start

  pub walking_end : next_column line at ≡ None → (count ≡ length all) × (places ≡ splice 0 (places_of all) lent)
  walking_end q =
      let none : drop count all ≡ [] = w.rest ∙ columns_moved start at (drop at line) ∙ ap (map (moved start)) (missing line at q) in
      let gone : length all ≤ count = omega (arith, length-drop count all, ap length none) in (
        omega (arith, w.below),
        w.stored ∙ ap (λ (cs : List lines.Column). splice 0 (places_of cs) lent) (take_all count all gone),
      )

  module _ (f : Found) (q : next_column line at ≡ Some f) where
    goes : drop count all ≡ moved start (column_between line f.start f.end) ∷ lines.columns_from (start + f.end) (drop f.end line)
    goes =
        w.rest
        ∙ columns_moved start at (drop at line)
        ∙ ap (map (moved start)) (found line at f q).columns
        ∙ ap (λ (cs : List lines.Column). moved start (column_between line f.start f.end) ∷ cs) (sym (columns_moved start f.end (drop f.end line)))

    room : 2 * count + 1 < 4096
    room =
        omega (arith, w.short, columns_half (start + from) (drop from line), length-drop from line, next_there all count _ _ goes)

    -- the column lies in the line, behind the cursor; the next cursor stands at its end, and there is room for it
    pub walking_reach : (at ≤ f.start) × (f.start < f.end) × (f.end ≤ length line) × (f.next.at ≡ f.end) × (2 * count + 1 < 4096)
    walking_reach = let t = found line at f q in (t.from, t.some, t.inside, t.next, room)

    sized : start + f.start + length (take (f.end - f.start) (drop f.start line)) ≡ start + f.end
    sized =
        let b = walking_reach in
        omega (arith, length-take-le (f.end - f.start) (drop f.start line) (omega (arith, length-drop f.start line)))

    pub walking_next : Walking line from start lent (set (set places (2 * count) (start + f.start)) (2 * count + 1) (start + f.end)) f.next.at (count + 1)
    walking_next =
        let t = found line at f q in
        let c = moved start (column_between line f.start f.end) in
        record {
          room = w.room;
          kept = simp length-set w.kept;
          short = w.short;
          inside = omega (arith, t.next, t.inside);
          below = omega (arith, next_there all count _ _ goes);
          rest = next_left all count _ _ goes ∙ ap (λ (k : ℕ). lines.columns_from (start + k) (drop k line)) (sym t.next);
          stored =
              ap (λ (l : List ℕ). set (set l (2 * count) (start + f.start)) (2 * count + 1) (start + f.end)) w.stored
              ∙ store_two (take count all) lent count (start + f.start) (start + f.end) (length-take-le count all w.below) (omega (arith, w.room, room))
              ∙ ap (λ (l : List ℕ). splice 0 l lent)
              (ap (λ (k : ℕ). places_of (take count all) ++ ((start + f.start) ∷ k ∷ [])) (sym sized)
              ∙ sym (places_more (take count all) c)
              ∙ ap places_of (sym (next_taken all count _ _ goes)));
        }
