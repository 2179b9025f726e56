-- Demand 3, carried to survey: the cut rule and the sound part, of calls with buffers of the right size.
use Prim.Native.Nat.{ℕ, ◌+◌, ◌≤◌}
use native.Mathlib.Nat.{add-zero}
use native.Mathlib.Omega.{arith}
use mathlib.Core.Path.{◌≡◌, sym, ap, ◌∙◌, subst}
use mathlib.Core.Logic.{◌⊎◌, inl, inr}
use mathlib.Core.Bool.{true}
use mathlib.Core.List.{List, ◌++◌}
use lib.ListN.{length, take, drop, length-append, take-append-drop}
use Rattle.rules.specs.Numbers.{file_limit}
use Rattle.rules.specs.Reading.{Handed, numbers}
use Rattle.rules.specs.Sheets.{table_sheet, seen_set}
use Rattle.rules.specs.Survey.{last_end, survey_of, sheets_fit}
use Rattle.rules.specs.Cutting.{ended_within, sound_part, SoundPart}
use Rattle.rules.proofs.CutRule.{cut_rule, sound_part_lem}
use Rattle.demands.specs.Surveying.{Surveying, Readable, Filled, Promised}
use Rattle.cut_demands.specs.Cutting.{Restored, SoundAlone}
use Rattle.demands.proofs.Accepted.{sound_end_is, seen_first, handed_by_survey}

-- ---- the cut rule

-- the whole file's own sentences that end within the cut come first
pub record Front (f : List ℕ) (n : ℕ) : Type 0 where
  pub others : List Handed
  pub first : (survey_of f).handed ≡ ended_within n (survey_of f).handed ++ others

pub front : (f : List ℕ) (n : ℕ) → n ≤ length f → length f ≤ file_limit → Front f n
front f n h k =
    let whole : take n f ++ drop n f ≡ f = take-append-drop n f in
    let c = cut_rule f n (drop n f) h k (subst (λ (l : List ℕ). length l ≤ file_limit) (sym whole) k) in
    record { others = c.others; first = ap (λ (l : List ℕ). (survey_of l).handed) (sym whole) ∙ c.first }

pub cut_by_survey : (f : List ℕ) (n : ℕ) (x : List ℕ) → n ≤ length f → length f ≤ file_limit
    → (cut : Surveying) → Promised cut → cut.file ≡ take n f ++ x → Readable cut.file cut.tables cut.seen → Restored f n x cut
cut_by_survey f n x h k cut p same j =
    let c = cut_rule f n x h k (subst (λ (l : List ℕ). length l ≤ file_limit) same j.short) in
    let a = handed_by_survey cut p j in
    let hs = ended_within n (survey_of f).handed in
    let first : (survey_of cut.file).handed ≡ hs ++ c.others = ap (λ (l : List ℕ). (survey_of l).handed) same ∙ c.first in
    let counted : cut.answer.sentences ≡ length hs + length c.others = a.sentences ∙ ap length first ∙ length-append hs c.others in
    record {
      others = c.others;
      first = first;
      count = counted;
      alone = λ e. counted ∙ ap (λ (l : List Handed). length hs + length l) (c.alone e) ∙ add-zero (length hs);
      sound_end = a.sound_end ∙ ap last_end first;
      filled = a.seen ∙ ap (λ (gs : List Handed). seen_set (numbers gs)) first;
      seen = seen_first cut a.seen hs c.others first;
    }

-- ---- the sound part

pub length_part : (n : ℕ) (f : List ℕ) → length f ≤ file_limit → length (take n f) ≤ file_limit
length_part n f h = omega (arith, ap length (take-append-drop n f), length-append (take n f) (drop n f))

-- buffers whose lengths are kept keep their fixed sizes
pub still_sized : (tables seen tables_left seen_left : List ℕ) → length tables_left ≡ length tables → length seen_left ≡ length seen
    → sheets_fit tables seen ≡ true → sheets_fit tables_left seen_left ≡ true
still_sized tables seen tables_left seen_left t s e = rw (t, s) e

pub sound_by_survey : (c part : Surveying) → Promised c → Promised part → part.file ≡ take c.answer.sound_end c.file
    → Readable c.file c.tables c.seen → Readable part.file part.tables part.seen
    → SoundAlone c.file c.answer part.answer part.tables_left part.seen_left
sound_by_survey c part p q of_part k l = by (sound_part_lem c.file k.short)
  where
    a : Filled c
    a = handed_by_survey c p k

    b : Filled part
    b = handed_by_survey part q l

    end_is : c.answer.sound_end ≡ (survey_of c.file).sound_end
    end_is = a.sound_end ∙ sym (sound_end_is c.file)

    same : part.file ≡ sound_part c.file
    same = of_part ∙ ap (λ (n : ℕ). take n c.file) end_is

    by : ((survey_of c.file).sound_end ≡ 0) ⊎ SoundPart c.file → SoundAlone c.file c.answer part.answer part.tables_left part.seen_left
    by (inl z) = inl (end_is ∙ z)
    by (inr s) =
        let handed = ap (λ (l : List ℕ). (survey_of l).handed) same ∙ s.same in
        let tables = ap (λ (l : List ℕ). (survey_of l).tables) same ∙ s.tables in
        inr (record {
          accepted = b.refusal ∙ ap (λ (l : List ℕ). (survey_of l).refusal) same ∙ s.accepted;
          place = b.place ∙ ap (λ (l : List ℕ). (survey_of l).place) same ∙ s.place ∙ sym end_is;
          sentences = b.sentences ∙ ap length handed ∙ sym a.sentences;
          sound_end = b.sound_end ∙ ap last_end handed ∙ sym a.sound_end;
          tables = b.tables ∙ ap table_sheet tables;
          seen = b.seen ∙ ap (λ (gs : List Handed). seen_set (numbers gs)) handed;
        })
