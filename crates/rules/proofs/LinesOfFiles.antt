-- A file is accepted exactly if it is its lines, each has legal bytes and is short enough, and the lines that are not
-- ignored are taken one after the other. By one step along the lines.
use Prim.Native.Nat.{ℕ, suc, ◌+◌}
use native.Mathlib.Omega.{arith}
use mathlib.Core.Path.{◌≡◌, refl, sym, ap, ◌∙◌, subst}
use mathlib.Core.Bool.{Bool, true, false}
use Rattle.std.specs.Prelude.{None}
use mathlib.Core.List.{List, [], ◌∷◌, ◌++◌, map, reverse, reverse-reverse, append-nil, append_assoc}
use lib.ListN.{length}
use lib.Dec.{eqb}
use borrow.Author.Tests.{eqb-true}
use Rattle.rules.specs.Lists.{every, Each}
use Rattle.rules.specs.Bytes.{newline, legal}
use Rattle.rules.specs.Rules.{fault_of}
use Rattle.rules.specs.Texts.{Text}
use Rattle.rules.specs.Sentences.{Sentence}
use Rattle.rules.specs.Phases.{Phase, start, behind_sentence, Answer, refuse, go, hand, step, at_end}
use Rattle.rules.specs.Reading.{Handed, Reading, begin, numbers, ended, closing, read, verdict}
use Rattle.rules.specs.GrammarLines.{Legal, lines_written, LineFits}
use Rattle.rules.proofs.Conjunctions.{false_if_never}
use Rattle.rules.proofs.EachElement.{each_then, each_map, each_mapped}
use Rattle.rules.proofs.Elements.{map_append, map_map}
use Rattle.rules.proofs.ReadLines.{has_newline, read_part, read_line, read_fault}
use Rattle.rules.proofs.AnyLine.{bytes_of}
use Rattle.rules.proofs.BytesAsSaid.{legal_said, every_said, heeded_of}
use Rattle.rules.proofs.SaidOfLists.{and_both_ways, never_both}
use Rattle.rules.proofs.RefusalNumbers.{FromOne, step_from_one}
use Rattle.rules.proofs.LineByLine.{numbers_in, Through, ReadsAll, Takes, read_takes, takes_read, takes_end, takes_then, heeded_texts, heeded_bytes, Accepting}

-- the lines at their places, the first at a
abbrev pub placed : ℕ → List (List ℕ) → List Text
placed a [] = []
placed a (l ∷ ls) = record { start = a; bytes = l } ∷ placed (suc (a + length l)) ls

pub placed_bytes : (a : ℕ) (ls : List (List ℕ)) → bytes_of (placed a ls) ≡ ls
placed_bytes a [] = refl
placed_bytes a (l ∷ ls) = ap (λ (xs : List (List ℕ)). l ∷ xs) (placed_bytes (suc (a + length l)) ls)

abbrev Unended : List ℕ → Type 0
Unended l = has_newline l ≡ false

-- behind the last newline stands nothing, and the file may end here
abbrev Ends : List ℕ → Phase → List Sentence → Type 0
Ends rest ph out = (rest ≡ []) × (at_end ph ≡ 0)

abbrev pub sentences_of : List Handed → List Sentence
sentences_of hs = map (λ (h : Handed). h.sentence) hs

pub numbers_out : (hs : List Handed) → numbers hs ≡ numbers_in (sentences_of hs)
numbers_out hs = sym (map_map (λ (s : Sentence). s.heading.number) (λ (h : Handed). h.sentence) hs)

pub one_more_out : (hs : List Handed) (h : Handed) → sentences_of (hs ++ (h ∷ [])) ≡ sentences_of hs ++ (h.sentence ∷ [])
one_more_out hs h = map_append (λ (h : Handed). h.sentence) hs (h ∷ [])

-- a reading in front of a line
abbrev pub fresh : ℕ → Phase → List Handed → Reading
fresh a ph hs = record { at = a; line_start = a; part = []; phase = ph; handed = hs; fault = None }

module _ (rest : List ℕ) (u : Unended rest) where
  closing_nothing : (r : Reading) (part : List ℕ) → part ≡ reverse rest ++ [] → (closing r part).number ≡ 0 → Ends rest r.phase []
  closing_nothing r [] e z = (sym (reverse-reverse rest) ∙ ap reverse (sym (append-nil (reverse rest)) ∙ sym e), z)
  closing_nothing r (b ∷ bs) e z = absurd (omega (arith, z))

  at_the_end : (a : ℕ) (ph : Phase) (hs : List Handed) → (verdict (read (fresh a ph hs) rest)).number ≡ 0 → Ends rest ph []
  at_the_end a ph hs z =
      let e = read_part (fresh a ph hs) rest refl u in
      let s : Reading = record { at = a + length rest; line_start = a; part = reverse rest ++ []; phase = ph; handed = hs; fault = None } in
      closing_nothing s (reverse rest ++ []) refl (sym (ap (λ (r : Reading). (verdict r).number) e) ∙ z)

  -- what a reading of lines and a rest comes to
  abbrev Comes : List (List ℕ) → ℕ → Phase → List Handed → Type 0
  Comes ls a ph hs = (verdict (read (fresh a ph hs) (lines_written ls ++ rest))).number ≡ 0

  abbrev line_end : (l : List ℕ) (a : ℕ) (ph : Phase) (hs : List Handed) → Reading
  line_end l a ph hs = record { at = a + length l; line_start = a; part = reverse l; phase = ph; handed = hs; fault = None }

  one_line : (l : List ℕ) (ls : List (List ℕ)) (a : ℕ) (ph : Phase) (hs : List Handed) → Unended l
      → read (fresh a ph hs) (lines_written (l ∷ ls) ++ rest)
      ≡ read (ended (line_end l a ph hs) (step ph (numbers hs) (record { start = a; bytes = l }))) (lines_written ls ++ rest)
  one_line l ls a ph hs n =
      ap (read (fresh a ph hs)) (append_assoc (l ++ (newline ∷ [])) (lines_written ls) rest ∙ append_assoc l (newline ∷ []) (lines_written ls ++ rest))
      ∙ read_line (fresh a ph hs) l (lines_written ls ++ rest) refl refl n

  pub comes_read : (ls : List (List ℕ)) (a : ℕ) (ph : Phase) (hs : List Handed) → Each Unended ls → Comes ls a ph hs → ReadsAll (Ends rest) (placed a ls) ph (sentences_of hs)
  comes_read [] a ph hs n c = at_the_end a ph hs c
  comes_read (l ∷ ls) a ph hs n c =
      let t : Text = record { start = a; bytes = l } in
      subst (λ (ns : List ℕ). Through (ReadsAll (Ends rest) (placed (suc (a + length l)) ls)) (sentences_of hs) (step ph ns t)) (numbers_out hs)
      (by (step ph (numbers hs) t) (step_from_one ph (numbers hs) t)
      (sym (ap (λ (r : Reading). (verdict r).number) (one_line l ls a ph hs n.0)) ∙ c)
      (λ ph hs c. comes_read ls (suc (a + length l)) ph hs n.1 c))
    where
      by : (w : Answer) → FromOne w → (verdict (read (ended (line_end l a ph hs) w) (lines_written ls ++ rest))).number ≡ 0
          → ((ph : Phase) (hs : List Handed) → Comes ls (suc (a + length l)) ph hs → ReadsAll (Ends rest) (placed (suc (a + length l)) ls) ph (sentences_of hs))
          → Through (ReadsAll (Ends rest) (placed (suc (a + length l)) ls)) (sentences_of hs) w
      by (refuse q) one c more =
          let e = read_fault (ended (line_end l a ph hs) (refuse q)) (fault_of q) (lines_written ls ++ rest) refl in
          absurd (omega (arith, sym (ap (λ (r : Reading). (verdict r).number) e) ∙ c))
      by (go ph') one c more = more ph' hs c
      by (hand p s) one c more =
          subst (ReadsAll (Ends rest) (placed (suc (a + length l)) ls) (behind_sentence p)) (one_more_out hs (record { end = suc (a + length l); sentence = s }))
          (more (behind_sentence p) (hs ++ (record { end = suc (a + length l); sentence = s } ∷ [])) c)

-- a reading that may end here, and of which F holds
abbrev pub Reaches : (Phase → List Sentence → Type 0) → Reading → Type 0
Reaches F r = ((verdict r).number ≡ 0) × F r.phase (sentences_of r.handed)

module _ (F : Phase → List Sentence → Type 0) where
  -- a file may end here, and F holds
  abbrev pub MayEnd : Phase → List Sentence → Type 0
  MayEnd ph out = Accepting ph × F ph out

  pub read_comes : (ls : List (List ℕ)) (a : ℕ) (ph : Phase) (hs : List Handed) → Each Unended ls → ReadsAll MayEnd (placed a ls) ph (sentences_of hs)
      → Reaches F (read (fresh a ph hs) (lines_written ls))
  read_comes [] a ph hs n c = c
  read_comes (l ∷ ls) a ph hs n c =
      let t : Text = record { start = a; bytes = l } in
      let e = ap (read (fresh a ph hs)) (append_assoc l (newline ∷ []) (lines_written ls)) ∙ read_line (fresh a ph hs) l (lines_written ls) refl refl n.0 in
      subst (Reaches F) (sym e)
      (by (step ph (numbers hs) t)
      (subst (λ (ns : List ℕ). Through (ReadsAll MayEnd (placed (suc (a + length l)) ls)) (sentences_of hs) (step ph ns t)) (sym (numbers_out hs)) c)
      (λ ph hs c. read_comes ls (suc (a + length l)) ph hs n.1 c))
    where
      by : (w : Answer) → Through (ReadsAll MayEnd (placed (suc (a + length l)) ls)) (sentences_of hs) w
          → ((ph : Phase) (hs : List Handed) → ReadsAll MayEnd (placed (suc (a + length l)) ls) ph (sentences_of hs) → Reaches F (read (fresh (suc (a + length l)) ph hs) (lines_written ls)))
          → Reaches F (read (ended (line_end [] refl l a ph hs) w) (lines_written ls))
      by (refuse q) t more = absurd t
      by (go ph') t more = more ph' hs t
      by (hand p s) t more =
          more (behind_sentence p) (hs ++ (record { end = suc (a + length l); sentence = s } ∷ []))
          (subst (ReadsAll MayEnd (placed (suc (a + length l)) ls) (behind_sentence p)) (sym (one_more_out hs (record { end = suc (a + length l); sentence = s }))) t)

-- ---- a file's bytes are lines and a rest that no newline ends

pub record Lined (f : List ℕ) : Type 0 where
  pub lines : List (List ℕ)
  pub rest : List ℕ
  pub parts : f ≡ lines_written lines ++ rest
  pub each : Each Unended lines
  pub last : Unended rest

onto : (b : ℕ) (f : List ℕ) → eqb b newline ≡ false → Lined f → Lined (b ∷ f)
onto b f n l = by l.lines l.parts l.each
  where
    by : (ls : List (List ℕ)) → f ≡ lines_written ls ++ l.rest → Each Unended ls → Lined (b ∷ f)
    by [] e u = record { lines = []; rest = b ∷ l.rest; parts = ap (λ (xs : List ℕ). b ∷ xs) e; each = tt; last = rw n l.last }
    by (x ∷ xs) e u =
        record { lines = (b ∷ x) ∷ xs; rest = l.rest; parts = ap (λ (xs : List ℕ). b ∷ xs) e; each = (rw n u.0, u.1); last = l.last }

pub lined : (f : List ℕ) → Lined f
lined [] = record { lines = []; rest = []; parts = refl; each = tt; last = refl }
lined (b ∷ f) = by (eqb b newline) refl (lined f)
  where
    by : (t : Bool) → eqb b newline ≡ t → Lined f → Lined (b ∷ f)
    by true e l =
        record {
          lines = [] ∷ l.lines;
          rest = l.rest;
          parts = ap (λ (x : ℕ). x ∷ f) (eqb-true b newline e) ∙ ap (λ (xs : List ℕ). newline ∷ xs) l.parts;
          each = (refl, l.each);
          last = l.last;
        }
    by false e l = onto b f e l

-- a line of legal bytes has no newline among them
pub legal_unended : (l : List ℕ) → every legal l ≡ true → Unended l
legal_unended [] e = refl
legal_unended (b ∷ bs) e =
    let h = (and_both_ways (legal b) (every legal bs)).0 e in
    rw (false_if_never (eqb b newline) (λ q. never_both (legal b) h.0 (ap legal (eqb-true b newline q)))) (legal_unended bs h.1)

-- ---- together

-- the lines of an accepted file, and those of them that are not ignored, each at its place
pub record AcceptedLines (f : List ℕ) : Type 0 where
  pub lines : List (List ℕ)
  pub written : f ≡ lines_written lines
  pub each : Each LineFits lines
  pub ts : List Text
  pub heeded_are : bytes_of ts ≡ heeded_of lines
  pub taken : Takes (λ ph out. Accepting ph) ts start []

pub accepted_takes : (f : List ℕ) → (verdict (read begin f)).number ≡ 0 → AcceptedLines f
accepted_takes f z =
    let l = lined f in
    let c : Comes l.rest l.last l.lines 0 start [] = sym (ap (λ (f : List ℕ). (verdict (read begin f)).number) l.parts) ∙ z in
    let t = read_takes (Ends l.rest) (placed 0 l.lines) start [] (comes_read l.rest l.last l.lines 0 start [] l.each c) in
    let e = (takes_end (Ends l.rest) (heeded_texts (placed 0 l.lines)) start [] t.1).2 in
    let b = placed_bytes 0 l.lines in
    record {
      lines = l.lines;
      written = l.parts ∙ ap (λ (xs : List ℕ). lines_written l.lines ++ xs) e.0 ∙ append-nil (lines_written l.lines);
      each = subst (Each LineFits) b (each_map (λ (t : Text). t.bytes) LineFits (placed 0 l.lines) t.0);
      ts = heeded_texts (placed 0 l.lines);
      heeded_are = heeded_bytes (placed 0 l.lines) ∙ ap heeded_of b;
      taken = takes_then (Ends l.rest) (λ ph out. Accepting ph) (λ ph out e. e.1) (heeded_texts (placed 0 l.lines)) start [] t.1;
    }

-- lines that fit and are taken from a place on
pub takes_reach : (F : Phase → List Sentence → Type 0) (ls : List (List ℕ)) (a : ℕ) (ph : Phase) (hs : List Handed) → Each LineFits ls
    → Takes (MayEnd F) (heeded_texts (placed a ls)) ph (sentences_of hs) → Reaches F (read (fresh a ph hs) (lines_written ls))
takes_reach F ls a ph hs s t =
    read_comes F ls a ph hs
    (each_then LineFits Unended (λ l k. legal_unended l ((every_said legal Legal legal_said l).1 k.legal_bytes)) ls s)
    (takes_read (MayEnd F) (placed a ls) ph (sentences_of hs)
    (each_mapped (λ (t : Text). t.bytes) LineFits (placed a ls) (rw (placed_bytes a ls) s)) t)

pub takes_accepted : (F : Phase → List Sentence → Type 0) (ls : List (List ℕ)) → Each LineFits ls → Takes (MayEnd F) (heeded_texts (placed 0 ls)) start []
    → Reaches F (read begin (lines_written ls))
takes_accepted F ls s t = takes_reach F ls 0 start [] s t
