-- A line that begins with columns has room for them, each with one byte behind it, and for what stands behind the last. By one
-- step along the columns: a column that isn't the first stands behind a white byte.
use Prim.Native.Nat.{ℕ, suc, ◌+◌, ◌≤◌}
use native.Mathlib.Omega.{arith}
use mathlib.Core.Path.{◌≡◌, refl, sym, ap, ◌∙◌, subst}
use mathlib.Core.Logic.{◌⊎◌, inl, inr}
use mathlib.Core.List.{List, [], ◌∷◌, ◌++◌}
use lib.ListN.{length, length-append}
use Rattle.rules.specs.Lists.{Each}
use Rattle.rules.specs.Bytes.{percents}
use Rattle.rules.specs.Texts.{Text}
use Rattle.rules.specs.Tidy.{parted, commented}
use Rattle.rules.specs.GrammarLines.{White, Starts}
use Rattle.rules.specs.GrammarColumns.{Run, Parted, Begins, no_column, one_column, Stripped}
use Rattle.rules.specs.AsWritten.{LineSaid}

-- ---- columns printed

-- each column with the byte behind it
abbrev pub columns_room : List (List ℕ) → ℕ
columns_room [] = 0
columns_room (c ∷ cs) = suc (length c) + columns_room cs

pub columns_append : (xs ys : List (List ℕ)) → columns_room (xs ++ ys) ≡ columns_room xs + columns_room ys
columns_append [] ys = omega arith
columns_append (x ∷ xs) ys = omega (arith, columns_append xs ys)

pub parted_length : (by : ℕ) (x : List ℕ) (xs : List (List ℕ)) → length (parted by (x ∷ xs)) ≡ columns_room (x ∷ xs)
unfolding parted
parted_length by x [] = omega (arith, length-append x (10 ∷ []))
parted_length by x (y ∷ xs) = omega (arith, length-append x (by ∷ parted by (y ∷ xs)), parted_length by y xs)

-- ---- columns read

-- what doesn't begin with a white byte stands behind one, in a rest that does
behind_white : (rest left text right : List ℕ) → Parted rest → rest ≡ left ++ (text ++ right) → Starts text → suc (length text + length right) ≤ length rest
behind_white rest [] text right (inl e) w (b, more, s, black) = absurd (omega (arith, ap length e, ap length w, ap length s, length-append text right))
behind_white rest [] text right (inr (c, others, e, white)) w (b, more, s, black) =
    let same_first : c ∷ others ≡ b ∷ (more ++ right) = sym e ∙ w ∙ ap (λ (x : List ℕ). x ++ right) s in
    let it : c ≡ b = cc in
    absurd (black (subst White it white))
behind_white rest (a ∷ left) text right p w s = omega (arith, ap length w, length-append (a ∷ left) (text ++ right), length-append text right)

run_starts : (c : List ℕ) → Run c → Starts c
run_starts [] r = absurd (omega (arith, r.given))
run_starts (b ∷ bs) r = (b, bs, refl, r.not_white.0)

pub begins_behind : {l rest : List ℕ} {cs : List (List ℕ)} → Parted l → Begins l cs rest → columns_room cs + length rest ≤ length l
begins_behind p (no_column {l}) = omega arith
begins_behind p (one_column {l} {c} {more} {rest} {cs} gap e w r q b) =
    omega (arith, behind_white l gap c more p e (run_starts c r), begins_behind q b)

pub begins_room : {l rest c : List ℕ} {cs : List (List ℕ)} → Begins l (c ∷ cs) rest → columns_room (c ∷ cs) + length rest ≤ suc (length l)
begins_room (one_column {l} {c} {more} {rest} {cs} gap e w r q b) =
    omega (arith, ap length e, length-append gap (c ++ more), length-append c more, begins_behind q b)

-- the first of them isn't empty, and behind the last stands a white byte or nothing
pub begins_given : {l rest c : List ℕ} {cs : List (List ℕ)} → Begins l (c ∷ cs) rest → 1 ≤ length c
begins_given (one_column gap e w r q b) = r.given

last_parted : {l rest : List ℕ} {cs : List (List ℕ)} → Parted l → Begins l cs rest → Parted rest
last_parted p no_column = p
last_parted p (one_column gap e w r q b) = last_parted q b

pub begins_parted : {l rest c : List ℕ} {cs : List (List ℕ)} → Begins l (c ∷ cs) rest → Parted rest
begins_parted (one_column gap e w r q b) = last_parted q b

-- ---- texts that lose their white bytes

-- with the byte in front of it, if it is given
abbrev pub text_room : List ℕ → ℕ
text_room [] = 0
text_room (b ∷ bs) = suc (length (b ∷ bs))

starts_or_none : (b : ℕ) (bs : List ℕ) → (b ∷ bs ≡ []) ⊎ Starts (b ∷ bs) → Starts (b ∷ bs)
starts_or_none b bs (inl e) = absurd (omega (arith, ap length e))
starts_or_none b bs (inr s) = s

pub stripped_behind : (rest text : List ℕ) → Parted rest → Stripped rest text → text_room text ≤ length rest
stripped_behind rest [] p s = omega arith
stripped_behind rest (b ∷ bs) p s = omega (arith, behind_white rest s.left (b ∷ bs) s.right p s.are (starts_or_none b bs s.starts))

pub stripped_within : (whole text : List ℕ) → Stripped whole text → length text ≤ length whole
stripped_within whole text s = omega (arith, ap length s.are, length-append s.left (text ++ s.right), length-append text s.right)

-- ---- comments

abbrev CommentSaid : List ℕ → List ℕ → Type 0
CommentSaid rest text = (Each White rest × (text ≡ [])) ⊎ ((behind : List ℕ) × Begins rest (percents ∷ []) behind × Stripped behind text)

pub comment_room : (t : Text) (rest : List ℕ) → Parted rest → CommentSaid rest t.bytes → columns_room (commented t) ≤ length rest
comment_room t rest p c = by t.bytes c
  where
    by : (xs : List ℕ) → CommentSaid rest xs → columns_room (commented (record { start = 0; bytes = xs })) ≤ length rest
    by [] c = omega arith
    by (b ∷ bs) (inl (w, e)) = absurd (omega (arith, ap length e))
    by (b ∷ bs) (inr (behind, g, s)) = omega (arith, begins_behind p g, stripped_behind behind (b ∷ bs) (begins_parted g) s)

pub said_room : (l c : List ℕ) (cs : List (List ℕ)) (t : Text) → LineSaid l (c ∷ cs) t.bytes → columns_room (c ∷ cs) + columns_room (commented t) ≤ suc (length l)
said_room l c cs t s = omega (arith, begins_room s.begins, comment_room t s.rest (begins_parted s.begins) s.comment)
