-- What is known of a sentence, as it begins and with one word or one phrase more that its line grants.
use native.Mathlib.Omega.{arith}
use Prim.Native.Nat.{ℕ, ◌≤◌}
use mathlib.Core.Path.{◌≡◌, refl, sym, ap, ◌∙◌}
use mathlib.Core.Bool.{false}
use mathlib.Core.List.{List, [], ◌∷◌, ◌++◌, append_assoc}
use Rattle.rules.specs.Lists.{every, member}
use Rattle.rules.specs.Texts.{Text}
use Rattle.rules.specs.Numbers.{sentence_number}
use Rattle.rules.specs.Rules.{granted}
use Rattle.rules.specs.Tables.{Tables}
use Rattle.rules.specs.Sentences.{Node, Heading, Sentence, so_far}
use Rattle.rules.specs.Nodes.{word_of, phrase_of}
use Rattle.rules.specs.Phases.{begun, with_word, with_phrase}
use Rattle.rules.proofs.Conjunctions.{every_append, every_front, every_back}
use Rattle.rules.proofs.NoGap.{none_numbered, numbered_added}
use Rattle.rules.proofs.NoAbsent.{climbing}
use Rattle.judging.proofs.Knowing.{TablesKept, SentenceKept}
use Rattle.judging.proofs.Granted.{word_granted, phrase_granted}
use Rattle.judging.proofs.Counts.{one_more, edges_with_word, edges_with_phrase}

pub kept_begun : (file ns : List ℕ) (ts : Tables) (at : ℕ) (h : Heading) → TablesKept file ts → h.number ≤ sentence_number.highest → member h.number ns ≡ false
    → SentenceKept file ns ts (begun at h)
kept_begun file ns ts at h k low new =
    record { tables = k; number = low; unused = new; words = omega arith; edges = omega arith; numbered = none_numbered; climb = refl }

module _ (file ns : List ℕ) (format : ℕ) (ts : Tables) (s : Sentence) (k : SentenceKept file ns ts s) (line : Text) (n : Node) where
  pub kept_with_word : word_of format ts (so_far s) line ≡ granted n → SentenceKept file ns ts (with_word s n)
  kept_with_word e =
      let g = word_granted format ts (so_far s) line n e in
      record {
        tables = k.tables;
        number = k.number;
        unused = k.unused;
        words = omega (arith, one_more s.words n, g.room);
        edges = omega (arith, edges_with_word s n g.first, g.few);
        numbered = k.numbered;
        climb =
            every_append climbing (s.words ++ (n ∷ [])) s.phrases
            (every_append climbing s.words (n ∷ []) (every_front climbing s.words s.phrases k.climb) (rw g.climbs))
            (every_back climbing s.words s.phrases k.climb);
      }

  pub kept_with_phrase : phrase_of format ts (so_far s) line ≡ granted n → SentenceKept file ns ts (with_phrase s n)
  kept_with_phrase e =
      let g = phrase_granted format ts (so_far s) line n e in
      record {
        tables = k.tables;
        number = k.number;
        unused = k.unused;
        words = k.words;
        edges = omega (arith, edges_with_phrase s n g.low, g.few);
        numbered = numbered_added s.phrases n k.numbered g.low g.new;
        climb =
            ap (every climbing) (sym (append_assoc s.words s.phrases (n ∷ [])))
            ∙ every_append climbing (s.words ++ s.phrases) (n ∷ []) k.climb (rw g.climbs);
      }
