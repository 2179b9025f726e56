-- A file cut behind the end of the sentence that begins at a place, with any bytes behind the cut, has the same sentence there;
-- cut in front of that end, with nothing behind, it has none. By what further bytes do to a reading.
use Prim.Native.Nat.{ℕ, zero, suc, ◌+◌, ◌-◌, ◌≤◌, ◌<◌}
use native.Mathlib.Omega.{arith}
use mathlib.Core.Path.{◌≡◌, refl, sym, ap, ◌∙◌, subst}
use mathlib.Core.Logic.{◌⊎◌, inl, inr}
use mathlib.Core.Bool.{Bool, true, false}
use Rattle.std.specs.Prelude.{None, Some}
use mathlib.Core.List.{List, [], ◌∷◌, ◌++◌, append_assoc, append-nil}
use lib.ListN.{length, take, drop, length-append, take-append-drop}
use lib.Seq.{take-append-le, take-append-add}
use lib.Dec.{leb}
use borrow.Author.Tests.{leb-true, leb-false, ne_eqb}
use Rattle.rules.specs.Lists.{pick, Each}
use Rattle.rules.specs.Bytes.{newline}
use Rattle.rules.specs.Sentences.{Sentence}
use Rattle.rules.specs.Reading.{Handed, Reading, read}
use Rattle.rules.specs.Refusals.{OneLine}
use Rattle.rules.specs.SentenceFrom.{starts_line, ended_line, behind_heading, first_handed, begun_by, sentence_from}
use Rattle.rules.proofs.ReadLines.{read_append}
use Rattle.rules.proofs.Cut.{grow}
use Rattle.rules.proofs.ReadFromPlace.{around, past, Begun, from_bytes}

-- ---- what is handed out among the first bytes

-- of sentences that end up to a place, and others that end behind it
first_part : (sooner later : List Handed) (h : Handed) (others : List Handed) (n : ℕ) → sooner ++ later ≡ h ∷ others
    → Each (λ (g : Handed). g.end ≤ n) sooner → Each (λ (g : Handed). n < g.end) later
    → (h.end ≤ n → first_handed sooner ≡ Some h.sentence) × (n < h.end → first_handed sooner ≡ None)
first_part [] later h others n e a b =
    (λ l. absurd (let c : n < h.end = (subst (Each (λ (g : Handed). n < g.end)) e b).0 in omega (arith, l, c)), λ l. refl)
first_part (g ∷ gs) later h others n e a b =
    let same : g ≡ h = cc in
    (λ l. ap (λ (x : Handed). Some x.sentence) same, λ l. absurd (let c = a.0 in let d : g.end ≡ h.end = ap (λ (x : Handed). x.end) same in omega (arith, l, c, d)))

first_more : (hs gs : List Handed) (s : Sentence) → first_handed hs ≡ Some s → first_handed (hs ++ gs) ≡ Some s
first_more [] gs s e = absurd (let z : ◌≡◌ {A = ℕ} 0 1 = cc in omega arith)
first_more (h ∷ hs) gs s e = e

-- ---- lines that are cut

taken : (m : ℕ) (l : List ℕ) → (length (take m l) ≡ m) ⊎ ((length (take m l) ≡ length l) × (length l ≤ m))
taken zero l = inl refl
taken (suc m) [] = inr (refl, omega arith)
taken (suc m) (x ∷ xs) = by (taken m xs)
  where
    by : (length (take m xs) ≡ m) ⊎ ((length (take m xs) ≡ length xs) × (length xs ≤ m)) → (suc (length (take m xs)) ≡ suc m) ⊎ ((suc (length (take m xs)) ≡ suc (length xs)) × (suc (length xs) ≤ suc m))
    by (inl e) = inl (ap suc e)
    by (inr k) = inr (ap suc k.0, omega (arith, k.1))

unended : (n : ℕ) (l : List ℕ) → OneLine l → ended_line (take n l) ≡ None
unfolding ended_line
unended zero l o = refl
unended (suc n) [] o = refl
unended (suc n) (b ∷ bs) o = rw (ne_eqb b newline o.0, unended n bs o.1)

-- the line behind a front, cut in front of its newline
cut_line : (front l : List ℕ) (n : ℕ) → OneLine l → ended_line (drop (length front) (take n (front ++ l))) ≡ None
unfolding ended_line
cut_line [] l n o = unended n l o
cut_line (c ∷ cs) l zero o = refl
cut_line (c ∷ cs) l (suc n) o = cut_line cs l n o

no_line : (file : List ℕ) (at : ℕ) → ended_line (drop at file) ≡ None → sentence_from file at ≡ None
unfolding sentence_from
no_line file at e = by (starts_line file at)
  where
    by : (t : Bool) → pick t (begun_by file at (ended_line (drop at file))) None ≡ None
    by true = ap (begun_by file at) e
    by false = refl

-- ---- the sentence at a place, in a file that is cut

module _ (f : List ℕ) (at : ℕ) (s : Sentence) (b : Begun f at s) where
  abbrev next : ℕ
  next = suc (at + length b.head)

  abbrev behind : Reading
  behind = behind_heading at b.heading next

  abbrev end : ℕ
  end = b.handed.end

  -- the first bytes behind the heading
  first_bytes : (p q : List ℕ) → b.rest ≡ p ++ q
      → (end ≤ next + length p → first_handed (read behind p).handed ≡ Some s) × (next + length p < end → first_handed (read behind p).handed ≡ None)
  first_bytes p q e =
      let g = grow behind p in
      let k = grow (read behind p) q in
      let all : g.more ++ k.more ≡ b.handed ∷ b.others =
      ap (λ (hs : List Handed). hs ++ k.more) (sym g.handed) ∙ sym k.handed ∙ ap (λ (r : Reading). r.handed) (sym (read_append behind p q) ∙ ap (read behind) (sym e)) ∙ b.gives in
      let n = (read behind p).at in
      let o = first_part g.more k.more b.handed b.others n all g.sooner k.later in
      let place : n ≡ next + length p = g.place in
      (λ l. ap first_handed g.handed ∙ o.0 (omega (arith, l, place)) ∙ ap Some b.its, λ l. ap first_handed g.handed ∙ o.1 (omega (arith, l, place)))

  -- it ends behind its heading, and in the file
  end_behind : next < end
  end_behind = by (leb end next) refl
    where
      by : (t : Bool) → leb end next ≡ t → next < end
      by true e = absurd (let z = (first_bytes [] b.rest refl).0 (omega (arith, leb-true end next e)) in let y : ◌≡◌ {A = ℕ} 0 1 = cc in omega arith)
      by false e = leb-false end next e

  end_inside : end ≤ next + length b.rest
  end_inside = by (leb end (next + length b.rest)) refl
    where
      by : (t : Bool) → leb end (next + length b.rest) ≡ t → end ≤ next + length b.rest
      by true e = leb-true end (next + length b.rest) e
      by false e =
          absurd
          (let z = (first_bytes b.rest [] (sym (append-nil b.rest))).1 (leb-false end (next + length b.rest) e) in
          let w = ap (λ (hs : List Handed). first_handed hs) b.gives in
          let y : ◌≡◌ {A = ℕ} 0 1 = cc in omega arith)

  -- the cut lies so many bytes behind the heading
  cut_parts : (n m : ℕ) → n ≡ next + m → take n f ≡ b.front ++ (b.head ++ (newline ∷ take m b.rest))
  cut_parts n m e =
      let done = b.front ++ (b.head ++ (newline ∷ [])) in
      let place : n ≡ length done + m = omega (arith, e, past b.front b.head, b.place) in
      ap (λ (k : ℕ). take k f) place ∙ ap (take (length done + m)) (b.parts ∙ around b.front b.head b.rest) ∙ take-append-add done b.rest m
      ∙ sym (around b.front b.head (take m b.rest))

  pub kept_there : (n : ℕ) (x : List ℕ) → end ≤ n → sentence_from (take n f ++ x) at ≡ Some s
  kept_there n x l =
      let m = n - next in
      let place : n ≡ next + m = omega (arith, l, end_behind) in
      let p = take m b.rest in
      let whole : take n f ++ x ≡ b.front ++ (b.head ++ (newline ∷ (p ++ x))) = ap (λ (l : List ℕ). l ++ x) (cut_parts n m place) ∙ simp append_assoc in
      let g = grow (read behind p) x in
      from_bytes f at s b (take n f ++ x) (p ++ x) whole
      ∙ ap (λ (r : Reading). first_handed r.handed) (read_append behind p x)
      ∙ ap first_handed g.handed
      ∙ first_more (read behind p).handed g.more s ((first_bytes p (drop m b.rest) (sym (take-append-drop m b.rest))).0 (by (taken m b.rest)))
    where
      by : (length (take (n - next) b.rest) ≡ n - next) ⊎ ((length (take (n - next) b.rest) ≡ length b.rest) × (length b.rest ≤ n - next)) → end ≤ next + length (take (n - next) b.rest)
      by (inl e) = omega (arith, e, l, end_behind)
      by (inr e) = omega (arith, e.0, end_inside)

  pub lost_there : (n : ℕ) → n < end → sentence_from (take n f) at ≡ None
  lost_there n l = by (leb next n) refl
    where
      few : (length (take (n - next) b.rest) ≡ n - next) ⊎ ((length (take (n - next) b.rest) ≡ length b.rest) × (length b.rest ≤ n - next)) → next ≤ n → next + length (take (n - next) b.rest) < end
      few (inl e) k = omega (arith, e, l, k)
      few (inr e) k = omega (arith, e.0, e.1, l, k)

      by : (t : Bool) → leb next n ≡ t → sentence_from (take n f) at ≡ None
      by true e =
          let k : next ≤ n = leb-true next n e in
          let place : n ≡ next + (n - next) = omega (arith, k) in
          let p = take (n - next) b.rest in
          from_bytes f at s b (take n f) p (cut_parts n (n - next) place) ∙ (first_bytes p (drop (n - next) b.rest) (sym (take-append-drop (n - next) b.rest))).1 (few (taken (n - next) b.rest) k)
      by false e =
          let k : n < next = leb-false next n e in
          let inside : n ≤ length (b.front ++ b.head) = omega (arith, k, length-append b.front b.head, b.place) in
          let short : take n f ≡ take n (b.front ++ b.head) =
          ap (take n) (b.parts ∙ sym (append_assoc b.front b.head (newline ∷ b.rest))) ∙ take-append-le n (b.front ++ b.head) (newline ∷ b.rest) inside in
          no_line (take n f) at
          (ap (λ (l : List ℕ). ended_line (drop at l)) short ∙ ap (λ (k : ℕ). ended_line (drop k (take n (b.front ++ b.head)))) (sym b.place) ∙ cut_line b.front b.head n b.one_line)
