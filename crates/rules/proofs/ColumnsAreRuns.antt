-- The columns of a line are the runs of its bytes that aren't white, all of them and no others, and behind each stands the
-- rest of the line. By one step along the columns.
use Prim.Native.Nat.{ℕ, zero, suc, ◌+◌, ◌≤◌}
use native.Mathlib.Omega.{arith}
use mathlib.Core.Path.{◌≡◌, refl, sym, ap, ◌∙◌, subst}
use mathlib.Core.Logic.{◌⊎◌, inl, inr}
use mathlib.Core.Bool.{true, false, not}
use mathlib.Core.List.{List, [], ◌∷◌, ◌++◌, map, append-nil}
use lib.ListN.{length, length-append}
use Rattle.rules.specs.Lists.{any, Each}
use Rattle.rules.specs.Bytes.{white}
use Rattle.rules.specs.Texts.{Text}
use Rattle.rules.specs.Columns.{Column, goes_on, columns_from, texts}
use Rattle.rules.specs.GrammarLines.{White}
use Rattle.rules.proofs.Conjunctions.{false_if_never}
use Rattle.rules.proofs.BareColumns.{all_columns}
use Rattle.rules.specs.GrammarColumns.{Run, Parted, Begins, no_column, one_column}
use Rattle.rules.proofs.ColumnLaws.{column_of, columns_skip, columns_run}
use Rattle.rules.proofs.PlaceFree.{all_columns_lem}
use Rattle.rules.proofs.SaidOfLists.{true_or_not, never_both}
use Rattle.rules.proofs.BytesAsSaid.{white_said, every_said}

-- ---- what stands in a line is all that begins it

none_white : (c : List ℕ) → Each (λ (b : ℕ). White b → ⊥) c → any white c ≡ false
none_white [] n = refl
none_white (b ∷ bs) n = rw (false_if_never (white b) (λ e. n.0 ((white_said b).0 e))) (none_white bs n.1)

parted_stops : (rest : List ℕ) → Parted rest → goes_on rest ≡ false
parted_stops rest (inl e) = ap goes_on e
parted_stops rest (inr w) = ap goes_on w.2 ∙ ap not ((white_said w.0).1 w.3)

pub one_run : (a : ℕ) (l gap c more : List ℕ) → l ≡ gap ++ (c ++ more) → Each White gap → Run c → Parted more
    → columns_from a l ≡ column_of (a + length gap) c more ∷ columns_from (a + length gap + length c) more
one_run a l gap c more e w r p =
    ap (columns_from a) e
    ∙ columns_skip a gap (c ++ more) ((every_said white White white_said gap).1 w)
    ∙ columns_run (a + length gap) c more r.given (none_white c r.not_white) (parted_stops more p)

abbrev moved : ℕ → List ℕ → List (List ℕ)
moved a l = map (λ (t : Text). t.bytes) (texts (columns_from a l))

moved_all : (a : ℕ) (l : List ℕ) → moved a l ≡ all_columns l
moved_all a l = all_columns_lem (record { start = a; bytes = l })

pub white_none : (a : ℕ) (l : List ℕ) → Each White l → columns_from a l ≡ []
unfolding columns_from
white_none a [] w = refl
white_none a (b ∷ bs) w = rw ((white_said b).1 w.0) (white_none (suc a) bs w.1)

pub columns_begin : {l rest : List ℕ} {cs : List (List ℕ)} → Begins l cs rest → all_columns l ≡ cs ++ all_columns rest
columns_begin no_column = refl
columns_begin (one_column {l} {c} {more} {rest} {cs} gap e w r p b) =
    ap (λ (ds : List Column). map (λ (t : Text). t.bytes) (texts ds)) (one_run 0 l gap c more e w r p)
    ∙ ap (λ (xs : List (List ℕ)). c ∷ xs) (moved_all (0 + length gap + length c) more ∙ columns_begin b)

-- a line that begins with these columns and has only white bytes behind them has these columns
pub columns_only : {l rest : List ℕ} {cs : List (List ℕ)} → Begins l cs rest → Each White rest → all_columns l ≡ cs ++ []
columns_only {l} {rest} {cs} b w =
    columns_begin b ∙ ap (λ (ds : List Column). cs ++ map (λ (t : Text). t.bytes) (texts ds)) (white_none 0 rest w)

-- ---- every line is columns, and white bytes behind them

record Split (l : List ℕ) : Type 0 where
  gap : List ℕ
  c : List ℕ
  more : List ℕ
  are : l ≡ gap ++ (c ++ more)
  white_gap : Each White gap
  run : Run c
  parted : Parted more

record Taken (b : ℕ) (bs : List ℕ) : Type 0 where
  more : List ℕ
  rest : List ℕ
  are : bs ≡ more ++ rest
  run : Run (b ∷ more)
  parted : Parted rest

taken : (b : ℕ) (bs : List ℕ) → (White b → ⊥) → Taken b bs
taken b [] n = record { more = []; rest = []; are = refl; run = record { given = omega arith; not_white = (n, tt) }; parted = inl refl }
taken b (d ∷ ds) n = by (true_or_not (white d)) (λ m. taken d ds m)
  where
    by : (white d ≡ true) ⊎ (white d ≡ false) → ((White d → ⊥) → Taken d ds) → Taken b (d ∷ ds)
    by (inl e) on =
        record {
          more = [];
          rest = d ∷ ds;
          are = refl;
          run = record { given = omega arith; not_white = (n, tt) };
          parted = inr (d, ds, refl, (white_said d).0 e);
        }
    by (inr e) on =
        let t = on (λ w. never_both (white d) ((white_said d).1 w) e) in
        record {
          more = d ∷ t.more;
          rest = t.rest;
          are = ap (λ (xs : List ℕ). d ∷ xs) t.are;
          run = record { given = omega arith; not_white = (n, t.run.not_white) };
          parted = t.parted;
        }

split : (l : List ℕ) → Each White l ⊎ Split l
split [] = inl tt
split (b ∷ bs) = by (true_or_not (white b)) (split bs)
  where
    by : (white b ≡ true) ⊎ (white b ≡ false) → Each White bs ⊎ Split bs → Each White (b ∷ bs) ⊎ Split (b ∷ bs)
    by (inl e) (inl w) = inl ((white_said b).0 e, w)
    by (inl e) (inr s) =
        inr (record {
          gap = b ∷ s.gap;
          c = s.c;
          more = s.more;
          are = ap (λ (xs : List ℕ). b ∷ xs) s.are;
          white_gap = ((white_said b).0 e, s.white_gap);
          run = s.run;
          parted = s.parted;
        })
    by (inr e) s =
        let t = taken b bs (λ w. never_both (white b) ((white_said b).1 w) e) in
        inr (record { gap = []; c = b ∷ t.more; more = t.rest; are = ap (λ (xs : List ℕ). b ∷ xs) t.are; white_gap = tt; run = t.run; parted = t.parted })

pub record WholeColumns (l : List ℕ) : Type 0 where
  pub cs : List (List ℕ)
  pub rest : List ℕ
  pub begins : Begins l cs rest
  pub ends_white : Each White rest

whole_within : (n : ℕ) (l : List ℕ) → length l ≤ n → WholeColumns l
whole_within zero [] h = record { cs = []; rest = []; begins = no_column; ends_white = tt }
whole_within zero (b ∷ bs) h = absurd (omega arith)
whole_within (suc n) l h = by (split l) (whole_within n)
  where
    by : Each White l ⊎ Split l → ((m : List ℕ) → length m ≤ n → WholeColumns m) → WholeColumns l
    by (inl w) shorter = record { cs = []; rest = l; begins = no_column; ends_white = w }
    by (inr s) shorter =
        let less : length s.more ≤ n =
        omega (arith, ap length s.are, length-append s.gap (s.c ++ s.more), length-append s.c s.more, s.run.given, h) in
        let w = shorter s.more less in
        record { cs = s.c ∷ w.cs; rest = w.rest; begins = one_column s.gap s.are s.white_gap s.run s.parted w.begins; ends_white = w.ends_white }

pub columns_whole : (l : List ℕ) → (rest : List ℕ) × (Begins l (all_columns l) rest) × (Each White rest)
columns_whole l =
    let w = whole_within (length l) l (omega arith) in
    (w.rest, subst (λ (cs : List (List ℕ)). Begins l cs w.rest) (sym (columns_only w.begins w.ends_white ∙ append-nil w.cs)) w.begins, w.ends_white)
