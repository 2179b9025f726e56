-- What the list of a line's columns tells of the line: each column's text lies between its two numbers, and the text
-- behind a column between two of them. By where the columns stand in the file.
use Prim.Native.Nat.{ℕ, zero, suc, ◌+◌, ◌-◌, ◌*◌, ◌≤◌, ◌<◌}
use native.Mathlib.Nat.{add-zero}
use native.Mathlib.Omega.{arith}
use mathlib.Core.Path.{◌≡◌, refl, sym, ap, ap₂, ◌∙◌}
use mathlib.Core.Bool.{Bool, true, false}
use mathlib.Core.List.{List, [], ◌∷◌}
use borrow.Author.Tests.{ltb-true, ltb-false}
use lib.Dec.{ltb}
use lib.ListN.{length, take, drop, get_or, length-drop, drop_of_length-le, get_or-eq_default}
use lib.Seq.{length-take-le, take-add, take-take, drop_at, drop-cons, get_or-take, get_or-drop}
use Rattle.rules.specs.Texts.{no_text, trim}
use Rattle.rules.specs.Numbers.{line_limit, file_limit}
use Rattle.rules.specs.Columns as lines
use Rattle.columns.specs.Splices.{splice}
use Rattle.columns.specs.Listing.{text_between, line_of, columns_of, behind_text, places_of, span_of, Listed}
use Rattle.columns.specs.declared.listing.Line.{Line}
use Rattle.columns.proofs.Splices.{take_splice}
use Rattle.columns.proofs.Shifts.{columns_half}
use Rattle.columns.proofs.Stands.{start_of, end_of, Stands, stands, length_places, place_start, place_end}
use Rattle.columns.proofs.Trimming.{ends_at, span_through, trim_span}

-- the bytes behind a place, of the file up to another
drop_take : (file : List ℕ) (a n : ℕ) → a + n ≤ length file → drop a (take (a + n) file) ≡ take n (drop a file)
drop_take file a n h = ap (drop a) (take-add a n file) ∙ drop_at (take a file) (take n (drop a file)) a (length-take-le a file (omega arith))

head_bytes : (file : List ℕ) (a e : ℕ) → a ≤ e → e ≤ length file → drop a (take e file) ≡ take (e - a) (drop a file)
head_bytes file a e h i =
    let k : a + (e - a) ≡ e = omega arith in
    ap (λ (n : ℕ). drop a (take n file)) (sym k) ∙ drop_take file a (e - a) (omega arith)

-- what was just listed is so
pub now_listed : (file : List ℕ) (start end : ℕ) (lent : List ℕ) (l : Line) (places : List ℕ)
    → start ≤ end → end ≤ length file → end ≤ start + line_limit → length file ≤ file_limit
    → (l ≡ record { start = start; end = end; columns = length (lines.columns (text_between file start end)) }) × (places ≡ splice 0 (places_of (lines.columns (text_between file start end))) lent)
    → Listed file l places
now_listed file start end lent l places o i s m e =
    let cs = lines.columns (text_between file start end) in
    rw (e.0, e.1)
    (record {
      order = o;
      inside = i;
      short = s;
      limited = m;
      counted = refl;
      listed = ap (λ (n : ℕ). take n (splice 0 (places_of cs) lent)) (sym (length_places cs)) ∙ take_splice (places_of cs) lent;
    })

-- a column's two numbers
pub record Bounded (l : Line) (start end : ℕ) : Type 0 where
  pub from : l.start ≤ start
  pub some : start < end
  pub inside : end ≤ l.end

-- the last column's end is where the columns end
last_end_lem : (d : ℕ) (cs : List lines.Column) (n : ℕ) → length cs ≡ suc n → ends_at d cs ≡ end_of cs n
last_end_lem d [] n e = absurd (omega arith)
last_end_lem d (c ∷ []) zero e = refl
last_end_lem d (c ∷ []) (suc n) e = absurd (omega arith)
last_end_lem d (c ∷ b ∷ cs) zero e = absurd (omega arith)
last_end_lem d (c ∷ b ∷ cs) (suc n) e = last_end_lem (behind_text c.text) (b ∷ cs) n (omega arith)

-- what stands where there is no column
abbrev none : lines.Column
none = record { text = no_text; after = no_text }

module _ (file : List ℕ) (l : Line) (places : List ℕ) (h : Listed file l places) where
  abbrev cs : List lines.Column
  cs = columns_of file l

  abbrev head : List ℕ
  head = take l.end file

  pub standing : (k : ℕ) → k < l.columns → Stands head l.start cs k
  standing k b =
      stands head l.start cs (ap (lines.columns_from l.start) (head_bytes file l.start l.end h.order h.inside)) k (omega (arith, h.counted))

  pub start_at : (k : ℕ) → k < l.columns → get_or places (2 * k) 0 ≡ start_of cs k
  start_at k b = sym (get_or-take (2 * l.columns) places (2 * k) 0 (omega arith)) ∙ ap (λ (ps : List ℕ). get_or ps (2 * k) 0) h.listed ∙ place_start cs k

  pub end_at : (k : ℕ) → k < l.columns → get_or places (2 * k + 1) 0 ≡ end_of cs k
  end_at k b = sym (get_or-take (2 * l.columns) places (2 * k + 1) 0 (omega arith)) ∙ ap (λ (ps : List ℕ). get_or ps (2 * k + 1) 0) h.listed ∙ place_end cs k

  pub bounds_at : (k : ℕ) → k < l.columns → Bounded l (get_or places (2 * k) 0) (get_or places (2 * k + 1) 0)
  bounds_at k b =
      let s = standing k b in
      rw (start_at k b, end_at k b)
      (record { from = s.from; some = s.some; inside = omega (arith, s.inside, length-take-le l.end file h.inside) })

  -- its bytes are those of the file
  bytes_at : (a e : ℕ) → a ≤ e → e ≤ l.end → take (e - a) (drop a head) ≡ take (e - a) (drop a file)
  bytes_at a e o i =
      ap (take (e - a)) (head_bytes file a l.end (omega arith) h.inside) ∙ take-take (e - a) (l.end - a) (drop a file) (omega arith)

  pub text_at : (k : ℕ) → k < l.columns → text_between file (get_or places (2 * k) 0) (get_or places (2 * k + 1) 0) ≡ lines.written cs k
  text_at k b =
      let s = standing k b in
      let i : end_of cs k ≤ l.end = omega (arith, s.inside, length-take-le l.end file h.inside) in
      let o : start_of cs k ≤ end_of cs k = omega (arith, s.some) in
      rw (start_at k b, end_at k b)
      (sym (ap (λ (c : lines.Column). c.text) s.is ∙ ap (λ (xs : List ℕ). record { start = start_of cs k; bytes = xs }) (bytes_at (start_of cs k) (end_of cs k) o i)))

  pub span_at : (k : ℕ) → k < l.columns → record { start = get_or places (2 * k) 0; len = get_or places (2 * k + 1) 0 - get_or places (2 * k) 0 } ≡ span_of (lines.written cs k)
  span_at k b =
      let n : end_of cs k - start_of cs k ≡ length (lines.written cs k).bytes = omega arith in
      rw (start_at k b, end_at k b) (ap (λ (m : ℕ). record { start = start_of cs k; len = m }) n)

  pub line_length : length (line_of file l).bytes ≡ l.end - l.start
  line_length = length-take-le (l.end - l.start) (drop l.start file) (omega (arith, length-drop l.start file, h.inside))

  pub byte_at : (i : ℕ) → i < l.end - l.start → get_or (line_of file l).bytes i 0 ≡ get_or file (l.start + i) 0
  byte_at i b = get_or-take (l.end - l.start) (drop l.start file) i 0 b ∙ get_or-drop l.start file i 0

  pub first_byte_lem : 0 < l.end - l.start → get_or (line_of file l).bytes 0 0 ≡ get_or file l.start 0
  first_byte_lem b = byte_at 0 b ∙ ap (λ (n : ℕ). get_or file n 0) (add-zero l.start)

  pub columns_few : l.columns ≤ 2048
  columns_few = omega (arith, h.counted, h.short, columns_half l.start (line_of file l).bytes, line_length)

  -- a column ends in front of where a later one starts
  rises : (j k : ℕ) → j < k → k < l.columns → end_of cs j ≤ start_of cs k
  rises j k r b =
      let s = standing j (omega arith) in
      let m : length (drop (suc j) cs) ≡ l.columns - suc j = length-drop (suc j) cs ∙ ap (λ (n : ℕ). n - suc j) (sym h.counted) in
      let t = stands head (end_of cs j) (drop (suc j) cs) s.rest (k - suc j) (omega arith) in
      let i : suc j + (k - suc j) ≡ k = omega arith in
      let e : get_or (drop (suc j) cs) (k - suc j) none ≡ get_or cs k none = get_or-drop (suc j) cs (k - suc j) none ∙ ap (λ (n : ℕ). get_or cs n none) i in
      omega (arith, t.from, ap (λ (c : lines.Column). c.text.start) e)

  -- ---- the text behind a column

  -- where the last column ends
  last_at : 0 < l.columns → get_or places (2 * l.columns - 1) 0 ≡ end_of cs (l.columns - 1)
  last_at b =
      let o : 2 * l.columns - 1 ≡ 2 * (l.columns - 1) + 1 = omega arith in
      ap (λ (q : ℕ). get_or places q 0) o ∙ end_at (l.columns - 1) (omega arith)

  -- and not in front of any column's start
  pub text_from_order : (k : ℕ) → k < l.columns → get_or places (2 * k) 0 ≤ get_or places (2 * l.columns - 1) 0
  text_from_order k b = rw (start_at k b, last_at (omega arith)) (go (ltb k (l.columns - 1)) refl)
    where
      go : (t : Bool) → ltb k (l.columns - 1) ≡ t → start_of cs k ≤ end_of cs (l.columns - 1)
      go true e =
          omega (arith, (standing k b).some, rises k (l.columns - 1) (ltb-true _ _ e) (omega arith), (standing (l.columns - 1) (omega arith)).some)
      go false e =
          let q : l.columns - 1 ≡ k = omega (arith, ltb-false k (l.columns - 1) e) in
          omega (arith, (standing k b).some, ap (end_of cs) q)

  pub after_columns : (j : ℕ) → lines.columns (lines.column cs j).after ≡ drop (suc j) cs
  unfolding lines.columns_from
  after_columns j = go (ltb j l.columns) refl
    where
      go : (t : Bool) → ltb j l.columns ≡ t → lines.columns (lines.column cs j).after ≡ drop (suc j) cs
      go true e = let s = standing j (ltb-true _ _ e) in ap (λ (c : lines.Column). lines.columns c.after) s.is ∙ s.rest
      go false e =
          let m : length cs ≤ j = omega (arith, h.counted, ltb-false j l.columns e) in
          let n : length cs ≤ suc j = omega arith in
          ap (λ (c : lines.Column). lines.columns c.after) (get_or-eq_default cs _ m) ∙ sym (drop_of_length-le cs n)

  behind_span : (k : ℕ) → 1 ≤ k → span_of (trim (lines.column cs (k - 1)).after) ≡ span_through (drop k cs)
  behind_span k p =
      let m : suc (k - 1) ≡ k = omega arith in
      let t = (lines.column cs (k - 1)).after in
      trim_span t.start t.bytes ∙ ap span_through (after_columns (k - 1) ∙ ap (λ (n : ℕ). drop n cs) m)

  pub text_from_none : (k : ℕ) → 1 ≤ k → l.columns ≤ k → span_of (trim (lines.column cs (k - 1)).after) ≡ record { start = 0; len = 0 }
  text_from_none k p b =
      let m : length cs ≤ k = omega (arith, h.counted) in
      behind_span k p ∙ ap span_through (drop_of_length-le cs m)

  pub text_from_some : (k : ℕ) → 1 ≤ k → k < l.columns
      → span_of (trim (lines.column cs (k - 1)).after) ≡ record { start = get_or places (2 * k) 0; len = get_or places (2 * l.columns - 1) 0 - get_or places (2 * k) 0 }
  text_from_some k p b =
      let n : ℕ = l.columns - 1 in
      let i : k < length cs = omega (arith, h.counted) in
      let m : length (drop k cs) ≡ suc (n - k) = omega (arith, length-drop k cs, h.counted) in
      let j : k + (n - k) ≡ n = omega arith in
      let ends : ends_at 0 (drop k cs) ≡ get_or places (2 * l.columns - 1) 0 =
      last_end_lem 0 (drop k cs) (n - k) m
      ∙ ap (λ (c : lines.Column). behind_text c.text) (get_or-drop k cs (n - k) none ∙ ap (λ (q : ℕ). get_or cs q none) j)
      ∙ sym (last_at (omega arith)) in
      let first : drop k cs ≡ get_or cs k none ∷ drop (suc k) cs = drop-cons cs k none i in
      behind_span k p
      ∙ ap span_through first
      ∙ ap₂ (λ (a e : ℕ). record { start = a; len = e - a }) (sym (start_at k b)) (ap (ends_at 0) (sym first) ∙ ends)
