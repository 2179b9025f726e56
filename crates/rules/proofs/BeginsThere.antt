-- What begins at a place, of any file, is what is written there, and its chains of parents climb: from what one line keeps, of
-- texts, of what is said and of numbers, begun behind the heading. And it stays there if the file is cut behind its end.
use Prim.Native.Nat.{ℕ}
use native.Mathlib.Omega.{arith}
use mathlib.Core.Path.{◌≡◌, refl, sym, ap, ◌∙◌, subst}
use mathlib.Core.Logic.{◌⊎◌, inl, inr}
use mathlib.Core.Bool.{true, false≢true, not}
use Rattle.std.specs.Prelude.{Some}
use mathlib.Core.List.{List, [], ◌∷◌, ◌++◌}
use lib.ListN.{length}
use lib.Dec.{eqb}
use Rattle.rules.specs.Lists.{bytes, member, Each}
use Rattle.rules.specs.Bytes.{newline}
use Rattle.rules.specs.Texts.{Text, reads}
use Rattle.rules.specs.Tables.{no_tables}
use Rattle.rules.specs.Sentences.{Edge, Node, Heading, Sentence, listed, parented, heading_written, heading_cites, heading_in, heading_of}
use Rattle.rules.specs.Keywords.{first_column}
use Rattle.rules.specs.Phases.{Preamble, Phase, start, top, in_table, in_sentence, behind_sentence, begun, Answer, refuse, go, hand, step}
use Rattle.rules.specs.Reading.{Handed}
use Rattle.rules.specs.Sheets.{nodes}
use Rattle.rules.specs.SentenceFrom.{sentence_from}
use Rattle.rules.specs.Places.{SentenceLies, HandedLies}
use Rattle.rules.specs.AsWritten.{SentenceSaid}
use Rattle.rules.specs.BeginsThere.{PhraseAbove, OtherPhrase, ParentsStand, BeginsThere}
use Rattle.rules.proofs.EachElement.{each_then, each_both}
use Rattle.rules.proofs.SaidOfLists.{every_each}
use Rattle.rules.proofs.TestsAsFacts.{other_is}
use Rattle.rules.proofs.RulesHeld.{held}
use Rattle.rules.proofs.Takings.{go_begun, answer_behind, answer_at}
use Rattle.rules.proofs.Steps.{either, next_checked, step_cases}
use Rattle.rules.proofs.ByLines.{LineAnswered}
use Rattle.rules.proofs.TextPlaces.{Part}
use Rattle.rules.proofs.NoLateTable.{Keeps, step_keeps}
use Rattle.rules.proofs.References.{parent_listed, secondary_listed}
use Rattle.rules.proofs.SaidSoFar.{SaidSoFar, SaidAt}
use Rattle.rules.proofs.AsWritten.{begun_said, one_said}
use Rattle.rules.proofs.LiesThere.{phase_tables, begun_lies, LiesSoFar, next_line, one_lies}
use Rattle.rules.proofs.HeadingsAlone.{Alone}
use Rattle.rules.proofs.WithoutTables.{alone, Alike, step_alike}
use Rattle.rules.proofs.ReadFromPlace.{Begun, begun_at, first_keeps}
use Rattle.rules.proofs.CutThere.{kept_there, lost_there}
use Rattle.rules.proofs.Climbable.{Rises, OthersDiffer, Climbable, PhaseRises, one_rises}
use Rattle.rules.proofs.ParentsClimb.{chains_climb}
use Rattle.rules.proofs.ParentsOnSheet.{chains_climb_on_sheet}

-- ---- its place: no other sentence begins behind it, because there are no tables

module _ (at : ℕ) where
  abbrev Started : List ℕ → Phase → Type 0
  Started done start = ⊥
  Started done (top p) = ⊥
  Started done (in_table p n rs) = ⊥
  Started done (in_sentence p s) = (p ≡ alone) × (s.start ≡ at)
  Started done (behind_sentence p) = p ≡ alone

  abbrev StartsAt : Handed → Type 0
  StartsAt h = h.sentence.start ≡ at

  module _ (done l : List ℕ) (used : List ℕ) where
    abbrev line : Text
    line = record { start = length done; bytes = l }

    abbrev Goes : Answer → Type 0
    Goes a = LineAnswered Started StartsAt done l a

    none_begins : Goes (answer_behind line (first_column line) alone used)
    unfolding answer_behind heading_of
    none_begins =
        either Goes (reads (bytes "#BOS") (first_column line)) _ _
        (λ e.
        let rules = heading_written line ++ heading_cites no_tables (λ n. member n used) line in
        next_checked Goes (λ r h. tt) (go_begun alone (length done)) rules (heading_in line) refl (λ h. absurd (false≢true (held rules h).1.1.1.1.1.0)))
        (λ e. tt)

    in_sentence_lem : (p : Preamble) (s : Sentence) → p ≡ alone → s.start ≡ at → Goes (step (in_sentence p s) used line)
    in_sentence_lem p s q e = by (step (in_sentence p s) used line) (step_alike p s used used line) (step_keeps p (in_sentence p s) refl used line)
      where
        by : (a : Answer) → Alike p s a (step (in_sentence alone s) used line) → Keeps p a → Goes a
        by (refuse r) k j = tt
        by (go phase) k j = subst (Started (done ++ (l ++ (newline ∷ [])))) (sym k.2) (q, k.1 ∙ e)
        by (hand r t) k j = (j ∙ q, ap (λ (u : Sentence). u.start) k.0 ∙ e)

    one_starts : (phase : Phase) → Started done phase → Goes (step phase used line)
    unfolding answer_at
    one_starts start k = absurd k
    one_starts (top p) k = absurd k
    one_starts (in_table p n rs) k = absurd k
    one_starts (in_sentence p s) k = in_sentence_lem p s k.0 k.1
    one_starts (behind_sentence p) k =
        step_cases Goes (λ r h. tt) (behind_sentence p) used line k (λ f. subst (λ (q : Preamble). Goes (answer_behind line (first_column line) q used)) (sym k) none_begins)

-- ---- its parents

there : (s : Sentence) (n : Node) → parented s.phrases n ≡ true → Rises n → OthersDiffer n → ParentsStand s n
there s n e r o =
    let L : Edge → Type 0 = λ (x : Edge). listed s.phrases x.parent ≡ true in
    let D : Edge → Type 0 = λ (x : Edge). not (eqb n.number x.parent) ≡ true in
    record {
      parent = by r (parent_listed s.phrases n e);
      secondary =
          each_then (λ (x : Edge). L x × D x) (λ (x : Edge). OtherPhrase s n.number x.parent) (λ x a. (a.0, (other_is n.number x.parent).0 a.1)) n.secondary
          (each_both L D n.secondary (every_each (λ (x : Edge). listed s.phrases x.parent) n.secondary (secondary_listed s.phrases n e))
          (every_each (λ (x : Edge). not (eqb n.number x.parent)) n.secondary o));
    }
  where
    by : Rises n → (n.parent ≡ 0) ⊎ (listed s.phrases n.parent ≡ true) → (n.parent ≡ 0) ⊎ PhraseAbove s n.number n.parent
    by (inl z) l = inl z
    by (inr h) (inl z) = inl z
    by (inr h) (inr l) = inr (l, h)

each_there : (s : Sentence) → Climbable s → Each (ParentsStand s) (nodes s)
each_there s k =
    let Q : Node → Type 0 = λ (n : Node). Rises n × OthersDiffer n in
    let R : Node → Type 0 = λ (n : Node). parented s.phrases n ≡ true in
    each_then (λ (n : Node). R n × Q n) (ParentsStand s) (λ n a. there s n a.0 a.1.0 a.1.1) (nodes s)
    (each_both R Q (nodes s) (every_each (parented s.phrases) (nodes s) k.parents) (each_both Rises OthersDiffer (nodes s) k.rises k.others))

-- ---- all of it

module _ (file : List ℕ) (at : ℕ) (s : Sentence) (e : sentence_from file at ≡ Some s) where
  abbrev b : Begun file at s
  b = begun_at file at s e

  abbrev its_line : Text
  its_line = record { start = at; bytes = b.head }

  its_place : s.start ≡ at
  its_place = first_keeps file (Started at) (StartsAt at) (λ done l rest phase used parts o k. one_starts at done l used phase k) at s b (refl, refl)

  pub its_climbing : Climbable s
  its_climbing = first_keeps file (λ bs. PhaseRises) (λ (h : Handed). Climbable h.sentence) (λ done l rest phase used parts o k. one_rises done l phase used k) at s b (record { words = tt; phrases = tt; apart = tt })

  head_lies : SentenceLies file (begun at b.heading)
  head_lies =
      let stands : Part 0 file its_line = record { front = b.front; back = newline ∷ b.rest; parts = b.parts; place = omega (arith, b.place) } in
      subst (λ (h : Heading). SentenceLies file (begun at h)) b.alone.heading (begun_lies file its_line stands b.starts b.alone.fit b.alone.keyword)

  its_lies : SentenceLies file s
  its_lies =
      (first_keeps file (LiesSoFar file) (HandedLies file) (λ done l rest phase used parts o k. one_lies file done l rest parts phase used k) at s b
      ((phase_tables file start tt, head_lies), next_line file b.front b.head b.rest b.parts)).sentence

  head_said : SaidSoFar (b.front ++ (b.head ++ (newline ∷ []))) (begun at b.heading)
  head_said =
      let a = subst (λ (n : ℕ). Alone (record { start = n; bytes = b.head }) b.heading) (sym b.place) b.alone in
      let S : ℕ → Heading → Type 0 = λ (n : ℕ) (h : Heading). SaidSoFar (b.front ++ (b.head ++ (newline ∷ []))) (begun n h) in
      subst (λ (n : ℕ). S n b.heading) b.place
      (subst (S (length b.front)) a.heading (begun_said file b.front b.head b.rest b.parts b.one_line a.fit a.keyword a.written))

  its_written : SentenceSaid file (record { end = b.handed.end; sentence = s })
  its_written = first_keeps file SaidAt (SentenceSaid file) (λ done l rest phase used parts o k. one_said file done l rest parts o phase used k) at s b head_said

  pub stands_there : BeginsThere file at s
  stands_there =
      record {
        place = its_place;
        end = b.handed.end;
        written = its_written;
        lies = its_lies;
        parents = each_there s its_climbing;
        climbs = chains_climb s its_climbing;
        climbs_on_sheet = chains_climb_on_sheet s its_climbing;
        kept = kept_there file at s b;
        lost = lost_there file at s b;
      }
