-- The comment of a line is the text behind the first column that is exactly %%, without the white bytes at both ends, and is
-- empty where there is none. By one step along the columns.
use Prim.Native.Nat.{ℕ, ◌+◌}
use native.Mathlib.Omega.{arith}
use mathlib.Core.Path.{◌≡◌, refl, sym, ap, ◌∙◌, subst}
use mathlib.Core.Logic.{◌⊎◌, inl, inr}
use mathlib.Core.Bool.{true}
use mathlib.Core.List.{List, [], ◌∷◌}
use lib.ListN.{length}
use Rattle.rules.specs.Lists.{same, Each}
use Rattle.rules.specs.Bytes.{percents}
use Rattle.rules.specs.Texts.{Text, trim, trim_from}
use Rattle.rules.specs.Columns.{Column, columns_from, comment}
use Rattle.rules.specs.GrammarLines.{White}
use Rattle.rules.specs.GrammarColumns.{Begins, no_column, one_column, Stripped}
use Rattle.rules.proofs.Conjunctions.{false_if_never}
use Rattle.rules.proofs.BareColumns.{comment_of}
use Rattle.rules.proofs.PlaceFree.{trim_free, comment_free}
use Rattle.rules.proofs.TestsAsFacts.{same_is}
use Rattle.rules.proofs.ColumnsAreRuns.{one_run, white_none}
use Rattle.rules.proofs.PrintedLines.{comment_field}
use Rattle.rules.proofs.StrippedTexts.{stripped_said, said_stripped}

-- columns in front of the comment tell nothing of it
pub comment_skip : {l rest : List ℕ} {cs : List (List ℕ)} → Begins l cs rest → Each (λ (c : List ℕ). c ≡ percents → ⊥) cs → (a : ℕ) → (comment (columns_from a l)).bytes ≡ comment_of rest
comment_skip (no_column {l}) n a = comment_free a 0 l
comment_skip (one_column {l} {c} {more} {rest} {cs} gap e w r p b) n a =
    ap (λ (ds : List Column). (comment ds).bytes) (one_run a l gap c more e w r p)
    ∙ ap (λ (t : Text). t.bytes) (comment_field _ (columns_from (a + length gap + length c) more) (false_if_never (same c percents) (λ q. n.0 ((same_is c percents).0 q))))
    ∙ comment_skip b n.1 (a + length gap + length c)

comment_none : (rest : List ℕ) → Each White rest → comment_of rest ≡ []
unfolding comment
comment_none rest w = ap (λ (cs : List Column). (comment cs).bytes) (white_none 0 rest w)

comment_here : (c : Column) (cs : List Column) → same c.text.bytes percents ≡ true → comment (c ∷ cs) ≡ trim c.after
unfolding comment
comment_here c cs e = rw e

comment_sign_lem : {rest behind : List ℕ} {cs : List (List ℕ)} → Begins rest cs behind → cs ≡ percents ∷ [] → comment_of rest ≡ (trim_from 0 behind).bytes
comment_sign_lem (no_column {l}) q = absurd (let z : ◌≡◌ {A = ℕ} 0 1 = cc in omega arith)
comment_sign_lem (one_column {l} {c} {more} {rest} {cs} gap e w r p b) q =
    let sign : c ≡ percents = cc in
    ap (λ (ds : List Column). (comment ds).bytes) (one_run 0 l gap c more e w r p)
    ∙ ap (λ (t : Text). t.bytes) (comment_here _ (columns_from (0 + length gap + length c) more) ((same_is c percents).1 sign))
    ∙ trim_free (0 + length gap + length c) 0 more
    ∙ ap (λ (xs : List ℕ). (trim_from 0 xs).bytes) (all b (cc))
  where
    all : {m behind : List ℕ} {cs : List (List ℕ)} → Begins m cs behind → cs ≡ [] → m ≡ behind
    all no_column q = refl
    all (one_column gap e w r p b) q = absurd (let z : ◌≡◌ {A = ℕ} 0 1 = cc in omega arith)

-- what the grammar says behind the columns
abbrev pub Commented : List ℕ → List ℕ → Type 0
Commented rest text = (Each White rest × (text ≡ [])) ⊎ ((behind : List ℕ) × Begins rest (percents ∷ []) behind × Stripped behind text)

pub comment_said : (rest : List ℕ) → Each White rest ⊎ ((behind : List ℕ) × Begins rest (percents ∷ []) behind) → Commented rest (comment_of rest)
comment_said rest (inl w) = inl (w, comment_none rest w)
comment_said rest (inr c) =
    inr (c.0, c.1, subst (Stripped c.0) (sym (comment_sign_lem c.1 refl)) (stripped_said (record { start = 0; bytes = c.0 })))

pub said_comment : (rest text : List ℕ) → Commented rest text → comment_of rest ≡ text
said_comment rest text (inl w) = comment_none rest w.0 ∙ sym w.1
said_comment rest text (inr c) = comment_sign_lem c.1 refl ∙ said_stripped (record { start = 0; bytes = c.0 }) text c.2
