-- What every reading keeps, byte by byte, and so what is known of a file that is accepted: its tables and its sentences are
-- fit to be printed, and what it means is told from them. By one step along the bytes.
use Prim.Native.Nat.{ℕ, suc, ◌≤◌}
use native.Mathlib.Omega.{arith}
use mathlib.Core.Path.{◌≡◌, refl, sym, ap, ap₂, ◌∙◌, subst}
use mathlib.Core.Bool.{Bool, true, false, ◌&&◌}
use Rattle.std.specs.Prelude.{Option, None, Some}
use mathlib.Core.List.{List, [], ◌∷◌, map}
use lib.Dec.{eqb}
use Rattle.rules.specs.Lists.{pick, member, sorted}
use Rattle.rules.specs.Bytes.{newline}
use Rattle.rules.specs.Rules.{Fault}
use Rattle.rules.specs.Tables.{origins, editors}
use Rattle.rules.specs.Sentences.{Sentence}
use Rattle.rules.specs.Phases.{Preamble, Phase, start, top, in_table, in_sentence, behind_sentence, Answer, refuse, go, hand, step, at_end, format_at, tables_at}
use Rattle.rules.specs.Reading.{Handed, Reading, begin, line, numbers, ended, with_byte, byte_unless, byte, read, closing, closing_unless, verdict}
use Rattle.rules.specs.Survey.{Survey, answered, nothing_read, survey_of, file_fits}
use Rattle.rules.specs.Meaning.{Meaning, sentence_number_of, meant_sentence, meaning_of}
use Rattle.rules.proofs.Elements.{map_append, any_map}
use Rattle.rules.proofs.Sorting.{has}
use Rattle.rules.proofs.MeantTables.{present_meant}
use Rattle.rules.proofs.SentencesKept.{bare_sentence, by_number, meant_by_number}
use Rattle.rules.proofs.Kept.{PreambleKept, SentencesKept, both_present, means, PhaseKept, KeptAnswer}
use Rattle.rules.proofs.KeptSteps.{step_kept}

-- the sentences handed out, without places
abbrev pub bares : List Handed → List Sentence
bares hs = map (λ (h : Handed). bare_sentence h.sentence) hs

-- the numbers used are those of the sentences handed out
pub used_same : (hs : List Handed) (n : ℕ) → member n (numbers hs) ≡ has sentence_number_of n (bares hs)
used_same hs n =
    any_map (eqb n) (λ (h : Handed). h.sentence.heading.number) hs
    ∙ sym (any_map (λ (s : Sentence). eqb n (sentence_number_of s)) (λ (h : Handed). bare_sentence h.sentence) hs)

pub record ReadingKept (r : Reading) : Type 0 where
  pub phase : PhaseKept r.phase (bares r.handed)
  pub fault : (f : Fault) → r.fault ≡ Some f → 1 ≤ f.number

no_fault_lem : (f : Fault) → ◌≡◌ {A = Option Fault} None (Some f) → 1 ≤ f.number
no_fault_lem f e = absurd (let z : ◌≡◌ {A = ℕ} 0 1 = cc in omega arith)

ended_kept : (r : Reading) (a : Answer) → ReadingKept r → KeptAnswer (bares r.handed) a → ReadingKept (ended r a)
ended_kept r (refuse q) k h = record { phase = k.phase; fault = λ f e. let z : q.number ≡ f.number = cc in omega (arith, h) }
ended_kept r (go p) k h = record { phase = h; fault = no_fault_lem }
ended_kept r (hand p s) k h =
    record {
      phase =
          subst (λ (ss : List Sentence). PhaseKept (behind_sentence p) ss)
          (sym (map_append (λ (h : Handed). bare_sentence h.sentence) r.handed (record { end = suc r.at; sentence = s } ∷ []))) h;
      fault = no_fault_lem;
    }

byte_kept : (r : Reading) (b : ℕ) → ReadingKept r → ReadingKept (byte r b)
byte_kept r b k = by r.fault refl
  where
    at_line : (t : Bool) → ReadingKept (pick t (ended r (step r.phase (numbers r.handed) (line r))) (with_byte r b))
    at_line true =
        ended_kept r (step r.phase (numbers r.handed) (line r)) k
        (step_kept (bares r.handed) (line r) r.phase (numbers r.handed) (used_same r.handed) k.phase)
    at_line false = record { phase = k.phase; fault = no_fault_lem }

    by : (o : Option Fault) → r.fault ≡ o → ReadingKept (byte_unless o r b)
    by None e = at_line (eqb b newline)
    by (Some f) e = record { phase = k.phase; fault = λ g q. let z : f ≡ g = cc in subst (λ (x : Fault). 1 ≤ x.number) z (k.fault f e) }

pub read_kept : (r : Reading) (bs : List ℕ) → ReadingKept r → ReadingKept (read r bs)
read_kept r [] k = k
read_kept r (b ∷ bs) k = read_kept (byte r b) bs (byte_kept r b k)

pub file_kept : (f : List ℕ) → ReadingKept (read begin f)
file_kept f = read_kept begin f (record { phase = refl; fault = no_fault_lem })

-- ---- a file that is accepted

-- a preamble, and sentences that stand behind it
pub record FileKept (p : Preamble) (ss : List Sentence) : Type 0 where
  pub preamble : PreambleKept p
  pub sentences : SentencesKept p.format (means p) ss
  pub both : both_present (means p) ≡ true

pub record Ends (r : Reading) : Type 0 where
  pub preamble : Preamble
  pub kept : FileKept preamble (bares r.handed)
  pub format : format_at r.phase ≡ preamble.format
  pub tables : tables_at r.phase ≡ preamble.tables

some_number : (n : ℕ) → ◌≡◌ {A = ℕ} (suc n) 0 → ⊥
some_number n e = omega (arith, e)

thirteen : (t : Bool) → ◌≡◌ {A = ℕ} (pick t 0 13) 0 → t ≡ true
thirteen true e = refl
thirteen false e = absurd (omega (arith, e))

ends : (r : Reading) → PhaseKept r.phase (bares r.handed) → at_end r.phase ≡ 0 → Ends r
ends r k e = by r.phase refl k e
  where
    by : (phase : Phase) → r.phase ≡ phase → PhaseKept phase (bares r.handed) → at_end phase ≡ 0 → Ends r
    by start q k e = absurd (some_number 8 e)
    by (top p) q k e =
        record {
          preamble = p;
          kept =
              record {
                preamble = k.0;
                sentences = subst (SentencesKept p.format (means p)) (sym k.1) (record { each = tt; distinct = tt });
                both = ap₂ ◌&&◌ (present_meant origins p.tables) (present_meant editors p.tables) ∙ thirteen (both_present p.tables) e;
              };
          format = ap format_at q;
          tables = ap tables_at q;
        }
    by (in_table p n rs) q k e = absurd (some_number 22 e)
    by (in_sentence p s) q k e = absurd (some_number 22 e)
    by (behind_sentence p) q k e =
        record {
          preamble = p;
          kept = record { preamble = k.preamble; sentences = k.sentences; both = k.both };
          format = ap format_at q;
          tables = ap tables_at q;
        }

closing_ends : (r : Reading) → ReadingKept r → (verdict r).number ≡ 0 → Ends r
closing_ends r k e = by r.fault refl e
  where
    unended : (part : List ℕ) → (closing r part).number ≡ 0 → Ends r
    unended [] e = ends r k.phase e
    unended (b ∷ bs) e = absurd (some_number 2 e)

    by : (o : Option Fault) → r.fault ≡ o → (closing_unless o r).number ≡ 0 → Ends r
    by None q e = unended r.part e
    by (Some f) q e = absurd (omega (arith, k.fault f q))

-- what a list of bare sentences means
abbrev pub meant_by : Preamble → List Sentence → Meaning
meant_by p ss = record { format = p.format; tables = means p; sentences = sorted sentence_number_of (map by_number ss) }

meant_bares : (hs : List Handed) → map (λ (h : Handed). meant_sentence h.sentence) hs ≡ map by_number (bares hs)
meant_bares [] = refl
meant_bares (h ∷ hs) = ap₂ (λ (s : Sentence) (ss : List Sentence). s ∷ ss) (meant_by_number h.sentence) (meant_bares hs)

pub record AcceptedKept (f : List ℕ) : Type 0 where
  pub preamble : Preamble
  pub sentences : List Sentence
  pub kept : FileKept preamble sentences
  pub meaning : meaning_of (survey_of f) ≡ meant_by preamble sentences

pub reading_meaning : (r : Reading) (p : Preamble) → format_at r.phase ≡ p.format → tables_at r.phase ≡ p.tables → meaning_of (answered r) ≡ meant_by p (bares r.handed)
unfolding meaning_of
reading_meaning r p e t = rw (e, t, meant_bares r.handed)

two_refuses : (t : Bool) (r : Reading) → (pick t (answered r) (nothing_read 2)).refusal ≡ 0 → t ≡ true
two_refuses true r e = refl
two_refuses false r e = absurd (omega (arith, e))

pub survey_read : (f : List ℕ) → file_fits f ≡ true → survey_of f ≡ answered (read begin f)
unfolding survey_of
survey_read f e = rw e

pub accepted_kept : (f : List ℕ) → (survey_of f).refusal ≡ 0 → AcceptedKept f
unfolding survey_of
accepted_kept f e =
    let r = read begin f in
    let fits : file_fits f ≡ true = two_refuses (file_fits f) r e in
    let whole = survey_read f fits in
    let n = closing_ends r (file_kept f) (sym (ap (λ (s : Survey). s.refusal) whole) ∙ e) in
    record {
      preamble = n.preamble;
      sentences = bares r.handed;
      kept = n.kept;
      meaning = ap meaning_of whole ∙ reading_meaning r n.preamble n.format n.tables;
    }
