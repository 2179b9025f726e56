-- Bounds that statements name, each used at its last place, so that a bound one weaker would leave something unsaid: the steps
-- of a chain, a line's last byte, an unended rest's only byte, the last number of each room. By the bound itself.
use Prim.Native.Nat.{ℕ, zero, suc, ◌+◌, ◌/◌, ◌%◌, ◌≤◌, ◌<◌}
use native.Mathlib.Omega.{arith}
use mathlib.Core.Path.{◌≡◌, sym, ap, ◌∙◌, subst}
use mathlib.Core.Logic.{◌⊎◌, inl, inr}
use mathlib.Core.Bool.{false}
use mathlib.Core.List.{List, [], ◌∷◌, ◌++◌, append-nil}
use lib.ListN.{length, take, drop, get_or, length-append}
use Rattle.rules.specs.Lists.{pick, member}
use Rattle.rules.specs.Tables.{Tables, table, rows_of}
use Rattle.rules.specs.Sentences.{Sentence, listed}
use Rattle.rules.specs.Sheets.{table_sheet, seen_set, sentence_sheet}
use Rattle.rules.specs.Survey.{survey_of}
use Rattle.rules.specs.Climbing.{climbed, Climbs}
use Rattle.rules.specs.Places.{StartsLine}
use Rattle.rules.specs.Refusals.{OneLine, line_in, RefusedInside, Unended}
use Rattle.rules.specs.Layout.{TablesLaid, SeenLaid, SentenceLaid}

-- ---- chains of parents: a step is taken, to 0 or to a larger number from which the chain climbs on in one step fewer

pub climbs_somewhere : (parent : ℕ → ℕ) (n : ℕ) → Climbs parent 0 n → ⊥
climbs_somewhere parent n c = omega (arith, c.some, c.few)

pub climbs_on : (parent : ℕ → ℕ) (most n : ℕ) → Climbs parent (suc most) n
    → (parent n ≡ 0) ⊎ ((n < parent n) × Climbs parent most (parent n))
climbs_on parent most n c = by c.steps c.some c.few c.rising c.top
  where
    by : (steps : ℕ) → 1 ≤ steps → steps ≤ suc most → ((k : ℕ) → suc k < steps → climbed parent k n < climbed parent (suc k) n)
        → climbed parent steps n ≡ 0 → (parent n ≡ 0) ⊎ ((n < parent n) × Climbs parent most (parent n))
    by zero some few rising top = absurd (omega (arith, some))
    by (suc zero) some few rising top = inl top
    by (suc (suc k)) some few rising top =
        let rises : (j : ℕ) → suc j < suc k → climbed parent j (parent n) < climbed parent (suc j) (parent n) =
        λ j h. rising (suc j) (omega (arith, h)) in
        inr (rising 0 (omega arith), record { steps = suc k; some = omega arith; few = omega (arith, few); rising = rises; top = top })

-- a chain that stays at 500 never climbs, from whatever number, word 0 too
pub stays_below : (most n : ℕ) → Climbs (λ (k : ℕ). 500) most n → ⊥
stays_below zero n c = climbs_somewhere (λ (k : ℕ). 500) n c
stays_below (suc most) n c = by (climbs_on (λ (k : ℕ). 500) most n c) (stays_below most 500)
  where
    by : (◌≡◌ {A = ℕ} 500 0) ⊎ ((n < 500) × Climbs (λ (k : ℕ). 500) most 500) → (Climbs (λ (k : ℕ). 500) most 500 → ⊥) → ⊥
    by (inl e) never = omega (arith, e)
    by (inr h) never = never h.1

-- ---- bytes of a line

not_newline : (l x : List ℕ) → OneLine l → (n : ℕ) → n < length l → take 1 (drop n (l ++ x)) ≡ 10 ∷ [] → ⊥
not_newline [] x o n h e = omega (arith, h)
not_newline (b ∷ bs) x o zero h e = o.0 cc
not_newline (b ∷ bs) x o (suc n) h e = not_newline bs x o.1 n (omega (arith, h)) e

in_its_line : (front l x : List ℕ) → OneLine l → (n : ℕ) → length front ≤ n → n < length front + length l
    → take 1 (drop n (front ++ (l ++ x))) ≡ 10 ∷ [] → ⊥
in_its_line [] l x o n from up_to e = not_newline l x o n (omega (arith, up_to)) e
in_its_line (b ∷ bs) l x o zero from up_to e = omega (arith, from)
in_its_line (b ∷ bs) l x o (suc n) from up_to e = in_its_line bs l x o n (omega (arith, from)) (omega (arith, up_to)) e

-- what points at a column never points at the line's newline
pub newline_not_told : (number : ℕ) (front l x : List ℕ) → OneLine l → RefusedInside number front l (line_in front l x)
    → take 1 (drop (survey_of (line_in front l x)).place (line_in front l x)) ≡ 10 ∷ [] → ⊥
newline_not_told number front l x o r e = in_its_line front l (10 ∷ x) o (survey_of (line_in front l x)).place r.from r.up_to e

-- a file with an unended rest isn't whole lines
pub unended_not_whole : (file : List ℕ) → Unended file → StartsLine file (length file) → ⊥
unended_not_whole file u s = by s (ap length u.are ∙ length-append u.front u.rest)
  where
    by : StartsLine file (length file) → length file ≡ length u.front + length u.rest → ⊥
    by (inl z) e = omega (arith, z, e, u.given)
    by (inr a) e =
        let parts = u.are ∙ ap (λ (l : List ℕ). u.front ++ l) (sym (append-nil u.rest)) in
        in_its_line u.front u.rest [] u.one_line a.before (omega (arith, a.place, e, u.given)) (omega (arith, a.place, e))
        (subst (λ (f : List ℕ). take 1 (drop a.before f) ≡ 10 ∷ []) parts a.newline)

-- ---- the last number of each sheet

-- of the table sheet, unless SECEDGETAG is full
pub last_of_tables : (ts : Tables) → TablesLaid ts → length (rows_of (table 6 ts)) ≤ 255 → get_or (table_sheet ts) 10758 0 ≡ 0
last_of_tables ts l few = (l.each 6 (omega arith)).unused 255 5 few (omega arith) (omega arith)

-- the highest bit of the seen set, which is that of sentence 65,535
pub last_of_seen : (ns : List ℕ) → SeenLaid ns → get_or (seen_set ns) 8191 0 / 128 % 2 ≡ pick (member 65535 ns) 1 0
last_of_seen ns l = l.bit 65535 (omega arith)

-- of the sentence sheet, unless there is a phrase 999
pub last_of_sentence : (s : Sentence) → SentenceLaid s → listed (s.words ++ s.phrases) 999 ≡ false → get_or (sentence_sheet s) 11008 0 ≡ 0
last_of_sentence s l none = l.no_node 999 10 (omega arith) (omega arith) none
