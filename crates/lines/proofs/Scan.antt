-- What is still to be found of a line, from a place within it on: the same at every place, so that the walk along the
-- line finds what the line's start asks for.
use mathlib.Core.Path.{◌≡◌, sym, ap, ◌∙◌}
use mathlib.Core.Bool.{Bool, true, false, ◌&&◌, and-false, and-true}
use mathlib.Core.List.{List, ◌∷◌}
use Prim.Native.Nat.{ℕ, suc, ◌+◌, ◌-◌, ◌≤◌, ◌<◌}
use native.Mathlib.Nat.{add-zero, add-suc, suc-add}
use native.Mathlib.Numerals.{add-one}
use native.Mathlib.Omega.{arith}
use lib.Dec.{eqb}
use lib.ListN.{length, drop, get_or, drop_of_length-le}
use lib.Seq.{drop-cons}
use borrow.Author.Tests.{eq-eqb, ne_eqb, le-leb, lt-leb, not-true, not-false}
use Rattle.rules.specs.Lists.{every}
use Rattle.rules.specs.Bytes.{newline, legal, illegal_class, class_of}
use Rattle.rules.specs.Numbers.{line_limit}
use Rattle.rules.proofs.Classes.{class_illegal}
use Rattle.lines.specs.LineEnds.{has_end, first_line, end_found, line_end}
use Rattle.std.specs.Prelude.{Result}
use Rattle.lines.specs.declared.Unreadable.{Unreadable}
use Rattle.std.specs.Prelude.{Ok, Err}
use Rattle.lines.specs.declared.Unreadable.TheVariants.{Unended, Illegal, TooLong}

-- n bytes of the line have passed, all of them legal or not, and the rest of the file is left
abbrev left : ℕ → ℕ → Bool → List ℕ → Result ℕ Unreadable
left from n sound rest = end_found from (has_end rest) (sound && every legal (first_line rest)) (n + length (first_line rest))

unfoldable pub scan : List ℕ → ℕ → ℕ → Bool → Result ℕ Unreadable
scan file from at sound = left from (at - from) sound (drop at file)

pub scan_start : (file : List ℕ) (from : ℕ) → scan file from from true ≡ line_end file from
unfolding scan line_end
scan_start file from = ap (end_found from (has_end (drop from file)) (every legal (first_line (drop from file)))) (omega arith)

pub scan_unended : (file : List ℕ) (from at : ℕ) (sound : Bool) → length file ≤ at → scan file from at sound ≡ Err Unended
unfolding scan end_found
scan_unended file from at sound h = rw (drop_of_length-le file h)

left_newline : (from n b : ℕ) (sound : Bool) (rest : List ℕ) → eqb b newline ≡ true → left from n sound (b ∷ rest) ≡ end_found from true sound n
unfolding first_line
left_newline from n b sound rest e = rw (e, and-true, add-zero)

left_other : (from n b : ℕ) (sound : Bool) (rest : List ℕ) → eqb b newline ≡ false
    → left from n sound (b ∷ rest) ≡ left from (suc n) (sound && legal b) rest
unfolding first_line
left_other from n b true rest e = rw (e, add-suc, suc-add)
left_other from n b false rest e = rw (e, add-suc, suc-add)

legal_other : (b : ℕ) → legal b ≡ true → eqb b newline ≡ false
legal_other b l = ne_eqb b newline (λ e. let z : ◌≡◌ {A = ℕ} 0 1 = cc (sym (ap legal e) ∙ l) in omega arith)

module _ (file : List ℕ) (from at : ℕ) (sound : Bool) (below : at < length file) where
  abbrev here : ℕ
  here = get_or file at 0

  scan_newline : here ≡ newline → scan file from at sound ≡ end_found from true sound (at - from)
  unfolding scan
  scan_newline e = rw (drop-cons file at 0) (left_newline from (at - from) here sound (drop (suc at) file) (eq-eqb here newline e))

  pub scan_illegal : here ≡ newline → sound ≡ false → scan file from at sound ≡ Err Illegal
  unfolding end_found
  scan_illegal e s = rw (scan_newline e, s)

  pub scan_at : here ≡ newline → sound ≡ true → from ≤ at → at - from ≤ line_limit → scan file from at sound ≡ Ok at
  unfolding end_found
  scan_at e s f l = rw (scan_newline e, s, le-leb (at - from) line_limit l) (ap Ok (omega arith))

  pub scan_long : here ≡ newline → sound ≡ true → line_limit < at - from → scan file from at sound ≡ Err TooLong
  unfolding end_found
  scan_long e s l = rw (scan_newline e, s, lt-leb (at - from) line_limit l)

  scan_other : from ≤ at → eqb here newline ≡ false → scan file from at sound ≡ scan file from (at + 1) (sound && legal here)
  unfolding scan
  scan_other f e =
      let k : at + 1 - from ≡ suc (at - from) = omega arith in
      rw (drop-cons file at 0, k, add-one) (left_other from (at - from) here sound (drop (suc at) file) e)

  -- the class of a legal byte isn't 0
  pub scan_legal : from ≤ at → here < 256 → (class_of here ≡ illegal_class → ⊥) → scan file from (at + 1) sound ≡ scan file from at sound
  scan_legal f h k =
      let l : legal here ≡ true = not-false _ (sym (class_illegal here h) ∙ ne_eqb _ _ k) in
      sym (scan_other f (legal_other here l) ∙ ap (scan file from (at + 1)) (ap (λ (t : Bool). sound && t) l ∙ and-true sound))

  pub scan_marred : from ≤ at → here < 256 → class_of here ≡ illegal_class → (here ≡ newline → ⊥)
      → scan file from (at + 1) false ≡ scan file from at sound
  scan_marred f h k e =
      let l : legal here ≡ false = not-true _ (sym (class_illegal here h) ∙ eq-eqb _ _ k) in
      sym (scan_other f (ne_eqb here newline e) ∙ ap (scan file from (at + 1)) (ap (λ (t : Bool). sound && t) l ∙ and-false sound))
