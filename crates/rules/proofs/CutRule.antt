-- Demand 3, the cut rule: a file cut anywhere, with nothing or any bytes behind the cut.
use Prim.Native.Nat.{ℕ, ◌≤◌, ◌<◌}
use native.Mathlib.Nat.{zero-add}
use native.Mathlib.Omega.{arith}
use mathlib.Core.Path.{◌≡◌, refl, sym, ap, ◌∙◌, subst}
use mathlib.Core.Logic.{◌⊎◌, inl, inr}
use mathlib.Core.List.{List, [], ◌++◌, append-nil}
use lib.ListN.{length, take, drop, length-append, take-append-drop}
use lib.Seq.{take_at, length-take-le}
use borrow.Author.Tests.{le-leb}
use Rattle.rules.specs.Lists.{Each}
use Rattle.rules.specs.Numbers.{file_limit}
use Rattle.rules.specs.Reading.{Handed, Reading, begin, read}
use Rattle.rules.specs.Phases.{tables_at}
use Rattle.rules.specs.Survey.{last_end, survey_of}
use Rattle.rules.specs.Cutting.{ended_within, sound_part, SoundPart, CutRule}
use Rattle.rules.proofs.EachElement.{each_then}
use Rattle.rules.proofs.ReadLines.{read_append}
use Rattle.rules.proofs.NoLateTable.{Late, late_tables, read_late}
use Rattle.rules.proofs.Cut.{within_all, within_none, within_append, Rested, grow, nothing_more, Last, last}

module _ (f : List ℕ) (fits : length f ≤ file_limit) where
  handed_read : (survey_of f).handed ≡ (read begin f).handed
  unfolding survey_of
  handed_read = rw (le-leb (length f) file_limit fits)

  sound_end_read : (survey_of f).sound_end ≡ last_end (read begin f).handed
  unfolding survey_of
  sound_end_read = rw (le-leb (length f) file_limit fits)

  tables_read : (survey_of f).tables ≡ tables_at (read begin f).phase
  unfolding survey_of
  tables_read = rw (le-leb (length f) file_limit fits)

  rested_accepted : Rested (read begin f) → (survey_of f).refusal ≡ 0
  unfolding survey_of
  rested_accepted r = rw (le-leb (length f) file_limit fits, r.sound, r.unbegun, r.behind)

  rested_place : Rested (read begin f) → (survey_of f).place ≡ length f
  unfolding survey_of
  rested_place r = rw (le-leb (length f) file_limit fits, r.sound, r.unbegun) ((grow begin f).place ∙ zero-add (length f))

-- bytes behind a sentence change no table
rested_tables : (p q : List ℕ) → Rested (read begin p) → tables_at (read begin (p ++ q)).phase ≡ tables_at (read begin p).phase
rested_tables p q r =
    let late = subst (Late r.preamble) (sym r.behind) refl in
    ap (λ (s : Reading). tables_at s.phase) (read_append begin p q)
    ∙ late_tables r.preamble (read (read begin p) q).phase (read_late r.preamble (read begin p) q late)
    ∙ sym (late_tables r.preamble (read begin p).phase late)

-- ---- the sentences whose end line lies in the kept part come first

-- the bytes p of a file p ++ q hand out just the sentences that end endedWithin them
kept : (p q : List ℕ) → ended_within (length p) (read begin (p ++ q)).handed ≡ (read begin p).handed
kept p q =
    let g = grow begin p in
    let k = grow (read begin p) q in
    let at : (read begin p).at ≡ length p = g.place ∙ zero-add (length p) in
    let low : Each (λ (h : Handed). h.end ≤ length p) (read begin p).handed =
    rw g.handed
    (each_then (λ (h : Handed). h.end ≤ (read begin p).at) (λ (h : Handed). h.end ≤ length p) (λ h i. omega (arith, at)) g.more g.sooner) in
    let high : Each (λ (h : Handed). length p < h.end) k.more =
    each_then (λ (h : Handed). (read begin p).at < h.end) (λ (h : Handed). length p < h.end) (λ h i. omega (arith, at)) k.more k.later in
    ap (λ (r : Reading). ended_within (length p) r.handed) (read_append begin p q)
    ∙ ap (ended_within (length p)) k.handed
    ∙ within_append (length p) (read begin p).handed k.more
    ∙ rw (within_all (length p) (read begin p).handed low, within_none (length p) k.more high) (append-nil (read begin p).handed)

record Front (p q x : List ℕ) : Type 0 where
  pub others : List Handed
  pub first : (survey_of (p ++ x)).handed ≡ ended_within (length p) (survey_of (p ++ q)).handed ++ others
  pub alone : x ≡ [] → others ≡ []

front : (p q x : List ℕ) → length (p ++ q) ≤ file_limit → length (p ++ x) ≤ file_limit → Front p q x
front p q x h k =
    let g = grow (read begin p) x in
    record {
      others = g.more;
      first =
          handed_read (p ++ x) k ∙ ap (λ (r : Reading). r.handed) (read_append begin p x) ∙ g.handed
          ∙ ap (λ (l : List Handed). l ++ g.more) (sym (ap (ended_within (length p)) (handed_read (p ++ q) h) ∙ kept p q));
      alone = nothing_more (read begin p) x;
    }

-- ---- the sound part is a file accepted by itself, with the same sentences

pub sound_part_lem : (f : List ℕ) → length f ≤ file_limit → ((survey_of f).sound_end ≡ 0) ⊎ SoundPart f
sound_part_lem f h = by (last begin f)
  where
    by : ((read begin f).handed ≡ []) ⊎ Last begin f → ((survey_of f).sound_end ≡ 0) ⊎ SoundPart f
    by (inl e) = inl (sound_end_read f h ∙ ap last_end e)
    by (inr l) =
        let at : length l.front ≡ (survey_of f).sound_end = omega (arith, sound_end_read f h, l.ends) in
        let part : sound_part f ≡ l.front =
        ap (take (survey_of f).sound_end) l.parts ∙ take_at l.front l.back (survey_of f).sound_end at in
        let fits : length l.front ≤ file_limit = omega (arith, ap length l.parts, length-append l.front l.back) in
        inr (record {
          accepted = rw part (rested_accepted l.front fits l.rested);
          place = rw part (rested_place l.front fits l.rested ∙ at);
          same = rw part (handed_read l.front fits ∙ l.handed ∙ sym (handed_read f h));
          tables =
              rw part
              (tables_read l.front fits ∙ sym (rested_tables l.front l.back l.rested)
              ∙ ap (λ (bs : List ℕ). tables_at (read begin bs).phase) (sym l.parts) ∙ sym (tables_read f h));
        })

-- ---- the rule, of a file f whose first n bytes are kept, with x behind them

pub cut_rule : (f : List ℕ) (n : ℕ) (x : List ℕ) → n ≤ length f → length f ≤ file_limit → length (take n f ++ x) ≤ file_limit → CutRule f n x
cut_rule f n x h k m =
    let whole : take n f ++ drop n f ≡ f = take-append-drop n f in
    let c = front (take n f) (drop n f) x (subst (λ (l : List ℕ). length l ≤ file_limit) (sym whole) k) m in
    record {
      others = c.others;
      alone = c.alone;
      sound = sound_part_lem (take n f ++ x) m;
      first =
          subst (λ (l : List ℕ). (survey_of (take n f ++ x)).handed ≡ ended_within n (survey_of l).handed ++ c.others) whole
          (subst (λ (i : ℕ). (survey_of (take n f ++ x)).handed ≡ ended_within i (survey_of (take n f ++ drop n f)).handed ++ c.others) (length-take-le n f h) c.first);
    }
