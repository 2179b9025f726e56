-- The tags of one table differ, of any file. From what the reading keeps: no row has a tag that a row in front of it has.
use Prim.Native.Nat.{ℕ, zero, suc, ◌≤◌}
use native.Mathlib.Omega.{arith}
use mathlib.Core.Path.{◌≡◌, refl, sym, ◌∙◌, subst}
use mathlib.Core.Bool.{Bool, true, false}
use Rattle.std.specs.Prelude.{Option, None, Some}
use mathlib.Core.List.{List, [], ◌∷◌, ◌++◌, map, append_assoc, append-nil}
use Rattle.rules.specs.Lists.{pick}
use Rattle.rules.specs.Texts.{Text, same_bytes}
use Rattle.rules.specs.Tables.{Row, Tables, table, rows_of, has_tag}
use Rattle.rules.specs.Sentences.{Sentence}
use Rattle.rules.specs.Phases.{Phase, start, top, in_table, in_sentence, behind_sentence, tables_at}
use Rattle.rules.specs.Reading.{begin, read}
use Rattle.rules.specs.Survey.{answered, nothing_read, survey_of, file_fits}
use Rattle.rules.specs.Meaning.{bare_row}
use Rattle.rules.proofs.Conjunctions.{or_left, or_right}
use Rattle.rules.proofs.Same.{ne_same, same_false}
use Rattle.rules.proofs.Elements.{any_map}
use Rattle.rules.proofs.RowsKept.{RowsKept}
use Rattle.rules.proofs.Kept.{TableKept, TablesKept, PhaseKept}
use Rattle.rules.proofs.KeptReading.{bares, file_kept}
use Rattle.rules.specs.ExplainingRules.{TagsApart}

-- ---- one row more

has_more : (t : Text) (rs : List Row) (r : Row) → has_tag t rs ≡ false → same_bytes t r.first ≡ false → has_tag t (rs ++ (r ∷ [])) ≡ false
unfolding has_tag
has_more t [] r h e = rw e
has_more t (q ∷ rs) r h e =
    let a : same_bytes t q.first ≡ false = or_left (same_bytes t q.first) (has_tag t rs) h in
    rw a (has_more t rs r (or_right (same_bytes t q.first) (has_tag t rs) h) e)

pub turned : (t u : Text) → same_bytes t u ≡ false → same_bytes u t ≡ false
turned t u e = ne_same u.bytes t.bytes (λ q. same_false t.bytes u.bytes e (sym q))

apart_more : (rs : List Row) (r : Row) → TagsApart rs → has_tag r.first rs ≡ false → TagsApart (rs ++ (r ∷ []))
unfolding has_tag
apart_more [] r a e = (refl, tt)
apart_more (q ∷ rs) r a e =
    let other : same_bytes r.first q.first ≡ false = or_left (same_bytes r.first q.first) (has_tag r.first rs) e in
    (has_more q.first rs r a.0 (turned r.first q.first other), apart_more rs r a.1 (or_right (same_bytes r.first q.first) (has_tag r.first rs) e))

apart_rows : (n : ℕ) (done rs : List Row) → TagsApart done → RowsKept (suc (suc n)) done rs → TagsApart (done ++ rs)
apart_rows n done [] a k = subst TagsApart (sym (append-nil done)) a
apart_rows n done (r ∷ rs) a k =
    subst TagsApart (append_assoc done (r ∷ []) rs) (apart_rows n (done ++ (r ∷ [])) rs (apart_more done r a k.0.new.1) k.1)

-- places don't count
with_places : (rs : List Row) → TagsApart (map bare_row rs) → TagsApart rs
unfolding has_tag
with_places [] a = tt
with_places (r ∷ rs) a = (sym (any_map (λ (q : Row). same_bytes r.first q.first) bare_row rs) ∙ a.0, with_places rs a.1)

-- ---- any file

table_apart : (n : ℕ) (o : Option (List Row)) → TableKept (suc (suc n)) o → TagsApart (rows_of o)
table_apart n None k = tt
table_apart n (Some rs) k = with_places rs (apart_rows n [] (map bare_row rs) tt k)

tables_apart : (m n : ℕ) (ts : Tables) → TablesKept (suc (suc m)) ts → TagsApart (rows_of (table n ts))
tables_apart m n [] k = tt
tables_apart m zero (o ∷ ts) k = table_apart m o k.0
tables_apart m (suc n) (o ∷ ts) k = tables_apart (suc m) n ts k.1

behind_two : (n : ℕ) (ts : Tables) → TablesKept 0 ts → TagsApart (rows_of (table (suc (suc n)) ts))
behind_two n [] k = tt
behind_two n (o ∷ []) k = tt
behind_two n (o ∷ p ∷ ts) k = tables_apart 0 n ts k.1.1

phase_apart : (n : ℕ) (phase : Phase) (ss : List Sentence) → PhaseKept phase ss → TagsApart (rows_of (table (suc (suc n)) (tables_at phase)))
phase_apart n start ss k = behind_two n (tables_at start) (tt, (tt, (tt, (tt, (tt, (tt, (tt, tt)))))))
phase_apart n (top p) ss k = behind_two n p.tables k.0.tables
phase_apart n (in_table p m rs) ss k = behind_two n p.tables k.preamble.tables
phase_apart n (in_sentence p s) ss k = behind_two n p.tables k.preamble.tables
phase_apart n (behind_sentence p) ss k = behind_two n p.tables k.preamble.tables

behind_first : (f : List ℕ) (n : ℕ) → TagsApart (rows_of (table (suc (suc n)) (survey_of f).tables))
unfolding survey_of
behind_first f n = by (file_fits f)
  where
    by : (t : Bool) → TagsApart (rows_of (table (suc (suc n)) (pick t (answered (read begin f)) (nothing_read 2)).tables))
    by true = phase_apart n (read begin f).phase (bares (read begin f).handed) (file_kept f).phase
    by false = phase_apart n start [] refl

-- the tables behind the first two are the tag tables
pub tags_differ : (f : List ℕ) (n : ℕ) → 2 ≤ n → TagsApart (rows_of (table n (survey_of f).tables))
tags_differ f zero h = absurd (omega arith)
tags_differ f (suc zero) h = absurd (omega arith)
tags_differ f (suc (suc n)) h = behind_first f n
