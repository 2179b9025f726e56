-- A trimmed text is what its bytes are without the white ones at both ends, and nothing else is. By one step along the bytes.
use Prim.Native.Nat.{ℕ, suc}
use native.Mathlib.Omega.{arith}
use mathlib.Core.Path.{◌≡◌, refl, sym, ap, ◌∙◌, subst}
use mathlib.Core.Logic.{◌⊎◌, inl, inr}
use mathlib.Core.Bool.{Bool, true, false}
use mathlib.Core.List.{List, [], ◌∷◌, ◌++◌, append-nil}
use lib.ListN.{length, length-append}
use Rattle.rules.specs.Lists.{pick, Each}
use Rattle.rules.specs.Bytes.{white}
use Rattle.rules.specs.Texts.{Text, unless_white, right_trim, trim_from, trim}
use Rattle.rules.specs.GrammarLines.{White, Starts}
use Rattle.rules.specs.GrammarColumns.{Stripped}
use Rattle.rules.proofs.Conjunctions.{false_if_never}
use Rattle.rules.proofs.SaidOfLists.{never_both}
use Rattle.rules.proofs.PlaceFree.{trim_free}
use Rattle.rules.proofs.BytesAsSaid.{white_said}

-- ---- the right end

-- no white byte is its last
abbrev Ends : List ℕ → Type 0
Ends t = (front : List ℕ) (b : ℕ) → t ≡ front ++ (b ∷ []) → White b → ⊥

record Right (n t : List ℕ) : Type 0 where
  right : List ℕ
  are : n ≡ t ++ right
  white_right : Each White right
  ends : Ends t

nothing_ends : Ends []
nothing_ends [] b e w = absurd (let z : ◌≡◌ {A = ℕ} 0 1 = cc in omega arith)
nothing_ends (x ∷ xs) b e w = absurd (let z : ◌≡◌ {A = ℕ} 0 1 = cc in omega arith)

lone_ends : (c : ℕ) → (White c → ⊥) → Ends (c ∷ [])
lone_ends c n [] b e w = n (subst White (let q : b ≡ c = cc in q) w)
lone_ends c n (x ∷ xs) b e w = absurd (omega (arith, ap length e, length-append xs (b ∷ [])))

longer_ends : (c d : ℕ) (ds : List ℕ) → Ends (d ∷ ds) → Ends (c ∷ d ∷ ds)
longer_ends c d ds f [] b e w = absurd (omega (arith, ap length e))
longer_ends c d ds f (x ∷ xs) b e w = f xs b (cc) w

shorter_ends : (c : ℕ) (ds : List ℕ) → Ends (c ∷ ds) → Ends ds
shorter_ends c ds f front b e w = f (c ∷ front) b (ap (λ (xs : List ℕ). c ∷ xs) e) w

right_one : (b : ℕ) (bs t : List ℕ) → Right bs t → Right (b ∷ bs) (unless_white b t)
right_one b bs [] r = by (white b) refl
  where
    by : (u : Bool) → white b ≡ u → Right (b ∷ bs) (pick u [] (b ∷ []))
    by true e = record { right = b ∷ r.right; are = ap (λ (xs : List ℕ). b ∷ xs) r.are; white_right = ((white_said b).0 e, r.white_right); ends = nothing_ends }
    by false e =
        record {
          right = r.right;
          are = ap (λ (xs : List ℕ). b ∷ xs) r.are;
          white_right = r.white_right;
          ends = lone_ends b (λ w. never_both (white b) ((white_said b).1 w) e);
        }
right_one b bs (c ∷ cs) r =
    record { right = r.right; are = ap (λ (xs : List ℕ). b ∷ xs) r.are; white_right = r.white_right; ends = longer_ends b c cs r.ends }

right_end : (n : List ℕ) → Right n (right_trim n)
unfolding right_trim
right_end [] = record { right = []; are = refl; white_right = tt; ends = nothing_ends }
right_end (b ∷ bs) = right_one b bs (right_trim bs) (right_end bs)

right_white : (right : List ℕ) → Each White right → right_trim right ≡ []
unfolding right_trim
right_white [] w = refl
right_white (b ∷ bs) w = ap (unless_white b) (right_white bs w.1) ∙ ap (λ (t : Bool). pick t [] (b ∷ [])) ((white_said b).1 w.0)

right_only : (t right : List ℕ) → Each White right → Ends t → right_trim (t ++ right) ≡ t
unfolding right_trim
right_only [] right w f = right_white right w
right_only (b ∷ t) right w f = ap (unless_white b) (right_only t right w (shorter_ends b t f)) ∙ by t f
  where
    by : (t : List ℕ) → Ends (b ∷ t) → unless_white b t ≡ b ∷ t
    by [] f = ap (λ (u : Bool). pick u [] (b ∷ [])) (false_if_never (white b) (λ e. f [] b refl ((white_said b).0 e)))
    by (c ∷ cs) f = refl

-- ---- both ends

unless_starts : (b : ℕ) (t : List ℕ) → white b ≡ false → Starts (unless_white b t)
unless_starts b [] e = (b, [], ap (λ (u : Bool). pick u [] (b ∷ [])) e, λ w. never_both (white b) ((white_said b).1 w) e)
unless_starts b (c ∷ cs) e = (b, c ∷ cs, refl, λ w. never_both (white b) ((white_said b).1 w) e)

stripped_from : (a : ℕ) (n : List ℕ) → Stripped n (trim_from a n).bytes
unfolding trim_from right_trim
stripped_from a [] = record { left = []; right = []; are = refl; left_white = tt; right_white = tt; starts = inl refl; ends = nothing_ends }
stripped_from a (b ∷ bs) = by (white b) refl (stripped_from (suc a) bs)
  where
    by : (t : Bool) → white b ≡ t → Stripped bs (trim_from (suc a) bs).bytes → Stripped (b ∷ bs) (pick t (trim_from (suc a) bs) (record { start = a; bytes = right_trim (b ∷ bs) })).bytes
    by true e s =
        record {
          left = b ∷ s.left;
          right = s.right;
          are = ap (λ (xs : List ℕ). b ∷ xs) s.are;
          left_white = ((white_said b).0 e, s.left_white);
          right_white = s.right_white;
          starts = s.starts;
          ends = s.ends;
        }
    by false e s =
        let r = right_end (b ∷ bs) in
        record {
          left = [];
          right = r.right;
          are = r.are;
          left_white = tt;
          right_white = r.white_right;
          starts = inr (unless_starts b (right_trim bs) e);
          ends = r.ends;
        }

skip_left : (left xs : List ℕ) (a : ℕ) → Each White left → (trim_from a (left ++ xs)).bytes ≡ (trim_from a xs).bytes
unfolding trim_from
skip_left [] xs a w = refl
skip_left (b ∷ left) xs a w =
    ap (λ (t : Bool). (pick t (trim_from (suc a) (left ++ xs)) (record { start = a; bytes = right_trim (b ∷ (left ++ xs)) })).bytes) ((white_said b).1 w.0)
    ∙ skip_left left xs (suc a) w.1
    ∙ trim_free (suc a) a xs

pub stripped_said : (t : Text) → Stripped t.bytes (trim t).bytes
stripped_said t = stripped_from t.start t.bytes

pub said_stripped : (t : Text) (text : List ℕ) → Stripped t.bytes text → (trim t).bytes ≡ text
unfolding trim_from
said_stripped t text s =
    ap (λ (xs : List ℕ). (trim_from t.start xs).bytes) s.are ∙ skip_left s.left (text ++ s.right) t.start s.left_white ∙ by s.starts
  where
    by : (text ≡ []) ⊎ Starts text → (trim_from t.start (text ++ s.right)).bytes ≡ text
    by (inl e) =
        let all : Each White (text ++ s.right) = subst (λ (xs : List ℕ). Each White (xs ++ s.right)) (sym e) s.right_white in
        ap (λ (xs : List ℕ). (trim_from t.start xs).bytes) (sym (append-nil (text ++ s.right))) ∙ skip_left (text ++ s.right) [] t.start all ∙ sym e
    by (inr k) =
        ap (λ (xs : List ℕ). (trim_from t.start (xs ++ s.right)).bytes) k.2
        ∙ ap (λ (u : Bool). (pick u (trim_from (suc t.start) (k.1 ++ s.right)) (record { start = t.start; bytes = right_trim (k.0 ∷ (k.1 ++ s.right)) })).bytes)
        (false_if_never (white k.0) (λ e. k.3 ((white_said k.0).0 e)))
        ∙ ap (λ (xs : List ℕ). right_trim (xs ++ s.right)) (sym k.2)
        ∙ right_only text s.right s.right_white s.ends
