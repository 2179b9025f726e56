-- To show something of the sentence that begins at a place, of any file, show it of the sentence of which only the heading is
-- read, and that one line keeps it: the sentence is the first that a reading of the bytes behind its heading hands out.
use Prim.Native.Nat.{ℕ, suc, ◌+◌, ◌≤◌}
use native.Mathlib.Omega.{arith}
use mathlib.Core.Path.{◌≡◌, refl, sym, ap, ◌∙◌, subst}
use mathlib.Core.Bool.{Bool, true, false}
use Rattle.std.specs.Prelude.{Option, None, Some}
use mathlib.Core.List.{List, [], ◌∷◌, ◌++◌, append_assoc}
use lib.ListN.{length, take, drop, length-append, length-drop, take-append-drop}
use lib.Seq.{length-take-le, drop_at}
use Rattle.rules.specs.Lists.{pick, Each}
use Rattle.rules.specs.Bytes.{newline}
use Rattle.rules.specs.Rules.{Verdict, refused, granted}
use Rattle.rules.specs.Sentences.{Heading, Sentence}
use Rattle.rules.specs.Phases.{Phase, in_sentence, begun, step}
use Rattle.rules.specs.Reading.{Handed, read}
use Rattle.rules.specs.Places.{StartsLine}
use Rattle.rules.specs.SentenceFrom.{starts_line, ended_line, heading_alone, behind_heading, first_handed, headed_by, begun_by, sentence_from}
use Rattle.rules.specs.Refusals.{OneLine}
use Rattle.rules.proofs.ByLines.{LineAnswered, lines_from}
use Rattle.rules.proofs.LineStarts.{starts_tested, tested_starts, starts_same, first_line_lem, line_first}
use Rattle.rules.proofs.HeadingsAlone.{Alone, alone_heading}
use Rattle.rules.proofs.WithoutTables.{alone}

-- ---- what is read from a place on

pub around : (front head x : List ℕ) → front ++ (head ++ (newline ∷ x)) ≡ (front ++ (head ++ (newline ∷ []))) ++ x
around front head x = simp append_assoc

pub past : (front head : List ℕ) → length (front ++ (head ++ (newline ∷ []))) ≡ suc (length front + length head)
past front head = omega (arith, length-append front (head ++ (newline ∷ [])), length-append head (newline ∷ []))

module _ (file : List ℕ) where
  -- a heading stands at the end of the front
  pub read_from : (front head x : List ℕ) (h : Heading) → file ≡ front ++ (head ++ (newline ∷ x)) → starts_line file (length front) ≡ true → OneLine head
      → heading_alone (record { start = length front; bytes = head }) ≡ granted h
      → sentence_from file (length front) ≡ first_handed (read (behind_heading (length front) h (suc (length front + length head))) x).handed
  unfolding sentence_from
  read_from front head x h parts starts o e =
      let at = length front in
      let next = suc (at + length head) in
      ap (λ (t : Bool). pick t (begun_by file at (ended_line (drop at file))) None) starts
      ∙ ap (begun_by file at) (ap ended_line (ap (drop at) parts ∙ drop_at front (head ++ (newline ∷ x)) at refl) ∙ first_line_lem head x o)
      ∙ ap (headed_by file at next) e
      ∙ ap (λ (bs : List ℕ). first_handed (read (behind_heading at h next) bs).handed) (ap (drop next) (parts ∙ around front head x) ∙ drop_at (front ++ (head ++ (newline ∷ []))) x next (past front head))

-- a heading stands at the place, and the first sentence that is handed out behind it is the one
pub record Begun (file : List ℕ) (at : ℕ) (s : Sentence) : Type 0 where
  pub front : List ℕ
  pub head : List ℕ
  pub rest : List ℕ
  pub parts : file ≡ front ++ (head ++ (newline ∷ rest))
  pub place : length front ≡ at
  pub starts : StartsLine file at
  pub one_line : OneLine head
  pub heading : Heading
  pub granted : heading_alone (record { start = at; bytes = head }) ≡ granted heading
  pub alone : Alone (record { start = at; bytes = head }) heading
  pub handed : Handed
  pub others : List Handed
  pub gives : (read (behind_heading at heading (suc (at + length head))) rest).handed ≡ handed ∷ others
  pub its : handed.sentence ≡ s

record First (hs : List Handed) (s : Sentence) : Type 0 where
  pub handed : Handed
  pub others : List Handed
  pub gives : hs ≡ handed ∷ others
  pub its : handed.sentence ≡ s

first_of : (hs : List Handed) (s : Sentence) → first_handed hs ≡ Some s → First hs s
first_of [] s e = absurd (let z : ◌≡◌ {A = ℕ} 0 1 = cc in omega arith)
first_of (h ∷ hs) s e = record { handed = h; others = hs; gives = refl; its = cc }

module _ (file : List ℕ) (at : ℕ) (s : Sentence) where
  begun_headed : (l : List ℕ) → ended_line (drop at file) ≡ Some l → starts_line file at ≡ true → (v : Verdict Heading) → heading_alone (record { start = at; bytes = l }) ≡ v
      → headed_by file at (suc (at + length l)) v ≡ Some s → Begun file at s
  begun_headed l q starts (refused r) g e = absurd (let z : ◌≡◌ {A = ℕ} 0 1 = cc in omega arith)
  begun_headed l q starts (granted h) g e =
      let f = line_first (drop at file) l q in
      let next = suc (at + length l) in
      let inside : at ≤ length file = omega (arith, length-drop at file, ap length f.parts, length-append l (newline ∷ f.rest)) in
      let place : length (take at file) ≡ at = length-take-le at file inside in
      let parts : file ≡ take at file ++ (l ++ (newline ∷ f.rest)) = sym (take-append-drop at file) ∙ ap (λ (x : List ℕ). take at file ++ x) f.parts in
      let left : drop next file ≡ f.rest =
      ap (drop next) (parts ∙ around (take at file) l f.rest) ∙ drop_at (take at file ++ (l ++ (newline ∷ []))) f.rest next (past (take at file) l ∙ ap (λ (n : ℕ). suc (n + length l)) place) in
      let o = first_of (read (behind_heading at h next) f.rest).handed s (sym (ap (λ (bs : List ℕ). first_handed (read (behind_heading at h next) bs).handed) left) ∙ e) in
      record {
        front = take at file;
        head = l;
        rest = f.rest;
        parts = parts;
        place = place;
        starts = tested_starts file at starts;
        one_line = f.one_line;
        heading = h;
        granted = g;
        alone = alone_heading (record { start = at; bytes = l }) h g;
        handed = o.handed;
        others = o.others;
        gives = o.gives;
        its = o.its;
      }

  pub begun_at : sentence_from file at ≡ Some s → Begun file at s
  unfolding sentence_from
  begun_at e = by (starts_line file at) refl (ended_line (drop at file)) refl e
    where
      by : (t : Bool) → starts_line file at ≡ t → (o : Option (List ℕ)) → ended_line (drop at file) ≡ o → pick t (begun_by file at o) None ≡ Some s → Begun file at s
      by false t o q e = absurd (let z : ◌≡◌ {A = ℕ} 0 1 = cc in omega arith)
      by true t None q e = absurd (let z : ◌≡◌ {A = ℕ} 0 1 = cc in omega arith)
      by true t (Some l) q e = begun_headed l q t (heading_alone (record { start = at; bytes = l })) refl e

module _ (f : List ℕ) (at : ℕ) (s : Sentence) (b : Begun f at s) where
  -- a file that goes on like this one up to behind the heading
  pub from_bytes : (file x : List ℕ) → file ≡ b.front ++ (b.head ++ (newline ∷ x)) → sentence_from file at ≡ first_handed (read (behind_heading at b.heading (suc (at + length b.head))) x).handed
  from_bytes file x parts =
      let starts : starts_line file (length b.front) ≡ true =
      subst (λ (l : List ℕ). starts_line l (length b.front) ≡ true) (sym parts)
      (starts_same b.front (b.head ++ (newline ∷ b.rest)) (b.head ++ (newline ∷ x))
      (subst (λ (l : List ℕ). starts_line l (length b.front) ≡ true) b.parts (starts_tested f (length b.front) (subst (StartsLine f) (sym b.place) b.starts)))) in
      let heads = subst (λ (n : ℕ). heading_alone (record { start = n; bytes = b.head }) ≡ granted b.heading) (sym b.place) b.granted in
      subst (λ (n : ℕ). sentence_from file n ≡ first_handed (read (behind_heading n b.heading (suc (n + length b.head))) x).handed) b.place
      (read_from file b.front b.head x b.heading parts starts b.one_line heads)

  pub from_begun : sentence_from f at ≡ Some s
  from_begun = from_bytes f b.rest b.parts ∙ ap first_handed b.gives ∙ ap Some b.its

-- a sentence handed out begins at its place, and ends there too
pub record HandedAt (file : List ℕ) (h : Handed) : Type 0 where
  pub begun : Begun file h.sentence.start h.sentence
  pub same : begun.handed ≡ h

module _ (file : List ℕ) (P : List ℕ → Phase → Type 0) (H : Handed → Type 0)
    (one : (done l rest : List ℕ) (phase : Phase) (used : List ℕ) → file ≡ done ++ (l ++ (newline ∷ rest)) → OneLine l → P done phase
    → LineAnswered P H done l (step phase used (record { start = length done; bytes = l }))) where
  pub first_keeps : (at : ℕ) (s : Sentence) (b : Begun file at s) → P (b.front ++ (b.head ++ (newline ∷ []))) (in_sentence alone (begun at b.heading))
      → H (record { end = b.handed.end; sentence = s })
  first_keeps at s b p =
      let done = b.front ++ (b.head ++ (newline ∷ [])) in
      let next : length done ≡ suc (at + length b.head) = past b.front b.head ∙ ap (λ (n : ℕ). suc (n + length b.head)) b.place in
      let all = lines_from file P H one done b.rest (in_sentence alone (begun at b.heading)) (b.parts ∙ around b.front b.head b.rest) p in
      let each : Each H (b.handed ∷ b.others) =
      subst (Each H) b.gives (subst (λ (n : ℕ). Each H (read (behind_heading at b.heading n) b.rest).handed) next all) in
      subst (λ (t : Sentence). H (record { end = b.handed.end; sentence = t })) b.its each.0
