-- Laws of the text without white bytes at its ends: where it starts, where it ends, and that its bytes lie there. By one
-- step along the bytes, at the front or at the back.
use Prim.Native.Nat.{ℕ, suc, ◌+◌, ◌-◌, ◌≤◌, ◌<◌}
use native.Mathlib.Nat.{add-zero, add-suc, suc-add, sub_self}
use native.Mathlib.Omega.{arith}
use mathlib.Core.Path.{◌≡◌, refl, sym, ap, ◌∙◌, subst}
use mathlib.Core.Bool.{Bool, true, false}
use mathlib.Core.List.{List, [], ◌∷◌, ◌++◌}
use lib.Dec.{ltb}
use borrow.Author.Tests.{ltb-true, ltb-false}
use lib.ListN.{length, take, drop, get_or, length-drop, drop_of_length-le}
use lib.Seq.{drop-drop, take-suc, take_all, get_or-drop, length-take-le}
use Rattle.rules.specs.Lists.{pick}
use Rattle.rules.specs.Bytes.{white}
use Rattle.rules.specs.Texts.{Text, no_text, unless_white, right_trim, trim_from}
use Rattle.rules.proofs.TrimLaws.{right_trim_white, right_length}
use Rattle.columns.specs.Listing.{span_of}
use Rattle.columns.specs.declared.listing.Span.{Span}
use Rattle.columns.specs.Leading.{run_length}
use Rattle.columns.proofs.Leading.{leading_behind}

-- ---- the end

-- a last byte that is not white stays, with all before it
unless_more : (x : ℕ) (xs : List ℕ) (b : ℕ) → unless_white x (xs ++ (b ∷ [])) ≡ x ∷ xs ++ (b ∷ [])
unless_more x [] b = refl
unless_more x (y ∷ xs) b = refl

stays : (xs : List ℕ) (b : ℕ) → white b ≡ false → right_trim (xs ++ (b ∷ [])) ≡ xs ++ (b ∷ [])
unfolding right_trim
stays [] b e = rw e
stays (x ∷ xs) b e = ap (unless_white x) (stays xs b e) ∙ unless_more x xs b

-- what is left are the first bytes
pub trimmed_first : (xs : List ℕ) → take (length (right_trim xs)) xs ≡ right_trim xs
unfolding right_trim
trimmed_first [] = refl
trimmed_first (x ∷ xs) = go (right_trim xs) (trimmed_first xs)
  where
    go : (ys : List ℕ) → take (length ys) xs ≡ ys → take (length (unless_white x ys)) (x ∷ xs) ≡ unless_white x ys
    go [] e = only (white x)
      where
        only : (t : Bool) → take (length (pick t [] (x ∷ []))) (x ∷ xs) ≡ pick t [] (x ∷ [])
        only true = refl
        only false = refl
    go (y ∷ ys) e = ap (λ (l : List ℕ). x ∷ l) e

-- nor is it behind the head's end
pub end_inside : (s : List ℕ) (start end : ℕ) → start ≤ length s → end ≡ start + length (right_trim (drop start s)) → end ≤ length s
end_inside s start end h e = omega (arith, right_length (drop start s), length-drop start s)

-- the same, of the bytes of a head between two places
abbrev pub between : List ℕ → ℕ → ℕ → List ℕ
between s start end = take (end - start) (drop start s)

module _ (s : List ℕ) (start end : ℕ) where
  one_more : start < end → end ≤ length s → between s start end ≡ between s start (end - 1) ++ (get_or s (end - 1) 0 ∷ [])
  one_more h l =
      let n : end - start ≡ suc (end - 1 - start) = omega arith in
      let m : start + (end - 1 - start) ≡ end - 1 = omega arith in
      ap (λ (k : ℕ). take k (drop start s)) n
      ∙ take-suc (drop start s) (end - 1 - start) 0 (omega (arith, length-drop start s))
      ∙ ap (λ (b : ℕ). between s start (end - 1) ++ (b ∷ [])) (get_or-drop start s (end - 1 - start) 0 ∙ ap (λ (k : ℕ). get_or s k 0) m)

  pub end_lost : start < end → end ≤ length s → white (get_or s (end - 1) 0) ≡ true → right_trim (between s start end) ≡ right_trim (between s start (end - 1))
  end_lost h l e = ap right_trim (one_more h l) ∙ right_trim_white (between s start (end - 1)) (get_or s (end - 1) 0) e

  pub end_stays : start < end → end ≤ length s → white (get_or s (end - 1) 0) ≡ false → start + length (right_trim (between s start end)) ≡ end
  end_stays h l e =
      let k : right_trim (between s start end) ≡ between s start end = ap right_trim (one_more h l) ∙ stays (between s start (end - 1)) (get_or s (end - 1) 0) e ∙ sym (one_more h l) in
      let m : length (between s start end) ≡ end - start = length-take-le (end - start) (drop start s) (omega (arith, length-drop start s)) in
      rw (k, m) (omega arith)

pub end_whole : (s : List ℕ) (start : ℕ) → right_trim (between s start (length s)) ≡ right_trim (drop start s)
end_whole s start = ap right_trim (take_all (length s - start) (drop start s) (omega (arith, length-drop start s)))

pub end_none : (s : List ℕ) (start end : ℕ) → end ≡ start → start + length (right_trim (between s start end)) ≡ end
unfolding right_trim
end_none s start end e = rw (e, sub_self, add-zero)

-- ---- the start

-- white bytes in front are right-trim-white
past_white : (at : ℕ) (s : List ℕ) → trim_from at s ≡ trim_from (at + run_length white s) (drop (run_length white s) s)
unfolding trim_from run_length
past_white at [] = refl
past_white at (b ∷ bs) = go (white b) refl (past_white (suc at) bs)
  where
    go : (t : Bool) → white b ≡ t → trim_from (suc at) bs ≡ trim_from (suc at + run_length white bs) (drop (run_length white bs) bs)
        → trim_from at (b ∷ bs) ≡ trim_from (at + run_length white (b ∷ bs)) (drop (run_length white (b ∷ bs)) (b ∷ bs))
    go true e h = rw (e, add-suc, ← suc-add) h
    go false e h = rw (e, add-zero, e)

starts : (at : ℕ) (s : List ℕ) → 0 < length s → ((b : ℕ) (bs : List ℕ) → s ≡ b ∷ bs → white b ≡ false) → trim_from at s ≡ record { start = at; bytes = right_trim s }
unfolding trim_from
starts at [] h w = absurd (omega arith)
starts at (b ∷ bs) h w = rw (w b bs refl)

module _ (s : List ℕ) (at start : ℕ) (first : start ≡ at + run_length white (drop at s)) where
  from_start : trim_from at (drop at s) ≡ trim_from start (drop start s)
  from_start =
      past_white at (drop at s)
      ∙ ap (trim_from (at + run_length white (drop at s))) (drop-drop (run_length white (drop at s)) at s)
      ∙ ap (λ (k : ℕ). trim_from k (drop k s)) (sym first)

  pub trimmed_none : length s ≤ start → trim_from at (drop at s) ≡ no_text
  unfolding trim_from
  trimmed_none h = from_start ∙ ap (trim_from start) (drop_of_length-le s h)

  pub trimmed_some : start < length s → trim_from at (drop at s) ≡ record { start = start; bytes = right_trim (drop start s) }
  trimmed_some h =
      from_start
      ∙ starts start (drop start s) (omega (arith, length-drop start s)) (λ b bs q. leading_behind white (drop at s) b bs (drop-drop (run_length white (drop at s)) at s ∙ ap (λ (k : ℕ). drop k s) (sym first) ∙ q))

  -- the span of places that the code has come to
  pub span_none : length s ≤ start → span_of (trim_from at (drop at s)) ≡ record { start = 0; len = 0 }
  span_none h = ap span_of (trimmed_none h)

  pub span_some : (end : ℕ) → end ≡ start + length (right_trim (drop start s)) → start < length s → span_of (trim_from at (drop at s)) ≡ record { start = start; len = end - start }
  span_some end e h =
      let n : length (right_trim (drop start s)) ≡ end - start = omega arith in
      ap span_of (trimmed_some h) ∙ ap (λ (k : ℕ). record { start = start; len = k }) n

-- ---- the bytes

pub record Lies (s : List ℕ) (t : Text) : Type 0 where
  pub bytes_there : take (length t.bytes) (drop t.start s) ≡ t.bytes
  pub inside : t.start + length t.bytes ≤ length s

lies : (s : List ℕ) (at : ℕ) → Lies s (trim_from at (drop at s))
lies s at = go (ltb start (length s)) refl
  where
    start : ℕ
    start = at + run_length white (drop at s)

    go : (t : Bool) → ltb start (length s) ≡ t → Lies s (trim_from at (drop at s))
    go true e =
        subst (Lies s) (sym (trimmed_some s at start refl (ltb-true _ _ e)))
        (record {
          bytes_there = trimmed_first (drop start s);
          inside = omega (arith, ltb-true start (length s) e, right_length (drop start s), length-drop start s);
        })
    go false e =
        subst (Lies s) (sym (trimmed_none s at start refl (ltb-false _ _ e)))
        (record { bytes_there = refl; inside = omega arith })

-- a trimmed text's bytes lie at its span
module _ (s : List ℕ) (at : ℕ) (r : Span) (span : r ≡ span_of (trim_from at (drop at s))) where
  pub trim_bytes : take r.len (drop r.start s) ≡ (trim_from at (drop at s)).bytes
  trim_bytes = rw span (lies s at).bytes_there

  pub trim_inside : r.start + r.len ≤ length s
  trim_inside = rw span (lies s at).inside
