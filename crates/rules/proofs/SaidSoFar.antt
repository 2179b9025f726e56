-- A sentence that is being read is what is written since its start: a line that is taken in it is one more of its lines, and
-- so is one that is ignored.
use Prim.Native.Nat.{ℕ, suc, ◌+◌}
use native.Mathlib.Nat.{zero-add}
use native.Mathlib.Omega.{arith}
use mathlib.Core.Path.{◌≡◌, refl, sym, ap, ◌∙◌, subst}
use mathlib.Core.Bool.{true, false≢true}
use mathlib.Core.List.{List, [], ◌∷◌, ◌++◌, map, append_assoc, append-nil}
use lib.ListN.{length, length-append}
use Rattle.rules.specs.Lists.{bytes, empty, joined, counting, Each}
use Rattle.rules.specs.Bytes.{newline}
use Rattle.rules.specs.Sentences.{Node, Sentence}
use Rattle.rules.specs.Phases.{Phase, start, top, in_table, in_sentence, behind_sentence, with_word, with_phrase}
use Rattle.rules.specs.Refusals.{OneLine}
use Rattle.rules.specs.GrammarLines.{Ignored, lines_written, Heeded, no_line, ignored_line, heeded_line}
use Rattle.rules.specs.Tidy.{digits_of}
use Rattle.rules.specs.GrammarColumns.{Columns}
use Rattle.rules.specs.AsWritten.{HeadSaid, WordSaid, PhraseSaid, EachWith, SentenceSaid}
use Rattle.rules.proofs.Counting.{counting_more}
use Rattle.rules.proofs.EachElement.{each_more}
use Rattle.rules.proofs.Elements.{map_append, joined_append}

-- ---- one line more

pub lines_more : (ls : List (List ℕ)) (l : List ℕ) → lines_written (ls ++ (l ∷ [])) ≡ lines_written ls ++ (l ++ (newline ∷ []))
lines_more ls l =
    ap joined (map_append (λ (k : List ℕ). k ++ (newline ∷ [])) ls (l ∷ []))
    ∙ joined_append (map (λ (k : List ℕ). k ++ (newline ∷ [])) ls) ((l ++ (newline ∷ [])) ∷ [])
    ∙ ap (λ (x : List ℕ). lines_written ls ++ x) (append-nil (l ++ (newline ∷ [])))

pub heeded_more : {ls hs : List (List ℕ)} (l : List ℕ) → Heeded ls hs → (Ignored l → ⊥) → Heeded (ls ++ (l ∷ [])) (hs ++ (l ∷ []))
heeded_more l no_line n = heeded_line n no_line
heeded_more l (ignored_line i h) n = ignored_line i (heeded_more l h n)
heeded_more l (heeded_line m h) n = heeded_line m (heeded_more l h n)

pub ignored_more : {ls hs : List (List ℕ)} (l : List ℕ) → Heeded ls hs → Ignored l → Heeded (ls ++ (l ∷ [])) hs
ignored_more l no_line i = ignored_line i no_line
ignored_more l (ignored_line j h) i = ignored_line j (ignored_more l h i)
ignored_more l (heeded_line m h) i = heeded_line m (ignored_more l h i)

pub with_more : {A B : Type 0} (P : A → B → Type 0) (xs : List A) (ys : List B) (x : A) (y : B) → EachWith P xs ys → P x y → EachWith P (xs ++ (x ∷ [])) (ys ++ (y ∷ []))
with_more P [] [] x y e p = (p, tt)
with_more P [] (b ∷ ys) x y e p = absurd e
with_more P (a ∷ xs) [] x y e p = absurd e
with_more P (a ∷ xs) (b ∷ ys) x y e p = (e.0, with_more P xs ys x y e.1 p)

none_with : {A B : Type 0} (P : A → B → Type 0) (xs : List A) (ys : List B) → empty xs ≡ true → EachWith P xs ys → ys ≡ []
none_with P [] [] e k = refl
none_with P [] (y ∷ ys) e k = absurd k
none_with P (x ∷ xs) ys e k = absurd (false≢true e)

-- ---- a sentence that is being read, behind these bytes

pub record SaidSoFar (done : List ℕ) (s : Sentence) : Type 0 where
  pub front : List ℕ
  pub lines : List (List ℕ)
  pub parts : done ≡ front ++ lines_written lines
  pub each_line : Each OneLine lines
  pub start : s.start ≡ length front
  pub head : List ℕ
  pub words : List (List ℕ)
  pub phrases : List (List ℕ)
  pub heeded : Heeded lines (head ∷ (words ++ phrases))
  pub its_head : HeadSaid s.heading head
  pub its_words : EachWith WordSaid s.words words
  pub counted : map (λ (n : Node). n.number) s.words ≡ counting 0 (length s.words)
  pub its_phrases : EachWith PhraseSaid s.phrases phrases

abbrev pub SaidAt : List ℕ → Phase → Type 0
SaidAt done start = Unit {0}
SaidAt done (top p) = Unit {0}
SaidAt done (in_table p n rs) = Unit {0}
SaidAt done (in_sentence p s) = SaidSoFar done s
SaidAt done (behind_sentence p) = Unit {0}

module _ (done l : List ℕ) (plain : OneLine l) (s : Sentence) (k : SaidSoFar done s) where
  each_line_more : Each OneLine (k.lines ++ (l ∷ []))
  each_line_more = each_more OneLine k.lines l k.each_line plain

  parts_more : done ++ (l ++ (newline ∷ [])) ≡ k.front ++ lines_written (k.lines ++ (l ∷ []))
  parts_more =
      ap (λ (x : List ℕ). x ++ (l ++ (newline ∷ []))) k.parts ∙ append_assoc k.front (lines_written k.lines) (l ++ (newline ∷ []))
      ∙ ap (λ (x : List ℕ). k.front ++ x) (sym (lines_more k.lines l))

  pub one_ignored : Ignored l → SaidSoFar (done ++ (l ++ (newline ∷ []))) s
  one_ignored i =
      record {
        front = k.front;
        lines = k.lines ++ (l ∷ []);
        parts = parts_more;
        each_line = each_line_more;
        start = k.start;
        head = k.head;
        words = k.words;
        phrases = k.phrases;
        heeded = ignored_more l k.heeded i;
        its_head = k.its_head;
        its_words = k.its_words;
        counted = k.counted;
        its_phrases = k.its_phrases;
      }

  pub one_word : (n : Node) → (Ignored l → ⊥) → empty s.phrases ≡ true → n.number ≡ length s.words → WordSaid n l → SaidSoFar (done ++ (l ++ (newline ∷ []))) (with_word s n)
  one_word n seen first its_number w =
      let none_yet : k.phrases ≡ [] = none_with PhraseSaid s.phrases k.phrases first k.its_phrases in
      let order : (k.head ∷ (k.words ++ k.phrases)) ++ (l ∷ []) ≡ k.head ∷ ((k.words ++ (l ∷ [])) ++ k.phrases) =
      ap (λ (x : List (List ℕ)). (k.head ∷ (k.words ++ x)) ++ (l ∷ [])) none_yet
      ∙ ap (λ (x : List (List ℕ)). k.head ∷ (x ++ (l ∷ []))) (append-nil k.words)
      ∙ ap (λ (x : List (List ℕ)). k.head ∷ x) (sym (append-nil (k.words ++ (l ∷ []))))
      ∙ ap (λ (x : List (List ℕ)). k.head ∷ ((k.words ++ (l ∷ [])) ++ x)) (sym none_yet) in
      record {
        front = k.front;
        lines = k.lines ++ (l ∷ []);
        parts = parts_more;
        each_line = each_line_more;
        start = k.start;
        head = k.head;
        words = k.words ++ (l ∷ []);
        phrases = k.phrases;
        heeded = subst (Heeded (k.lines ++ (l ∷ []))) order (heeded_more l k.heeded seen);
        its_head = k.its_head;
        its_words = with_more WordSaid s.words k.words n l k.its_words w;
        counted =
            map_append (λ (m : Node). m.number) s.words (n ∷ []) ∙ ap (λ (x : List ℕ). x ++ (n.number ∷ [])) k.counted
            ∙ ap (λ (m : ℕ). counting 0 (length s.words) ++ (m ∷ [])) (its_number ∙ sym (zero-add (length s.words)))
            ∙ counting_more 0 (length s.words)
            ∙ ap (counting 0) (sym (let e : length (s.words ++ (n ∷ [])) ≡ suc (length s.words) = omega (arith, length-append s.words (n ∷ [])) in e));
        its_phrases = k.its_phrases;
      }

  pub one_phrase : (n : Node) → (Ignored l → ⊥) → PhraseSaid n l → SaidSoFar (done ++ (l ++ (newline ∷ []))) (with_phrase s n)
  one_phrase n seen w =
      record {
        front = k.front;
        lines = k.lines ++ (l ∷ []);
        parts = parts_more;
        each_line = each_line_more;
        start = k.start;
        head = k.head;
        words = k.words;
        phrases = k.phrases ++ (l ∷ []);
        heeded = subst (Heeded (k.lines ++ (l ∷ []))) (ap (λ (x : List (List ℕ)). k.head ∷ x) (append_assoc k.words k.phrases (l ∷ []))) (heeded_more l k.heeded seen);
        its_head = k.its_head;
        its_words = k.its_words;
        counted = k.counted;
        its_phrases = with_more PhraseSaid s.phrases k.phrases n l k.its_phrases w;
      }

  module _ (file rest : List ℕ) (whole : file ≡ done ++ (l ++ (newline ∷ rest))) where
    pub one_end : (Ignored l → ⊥) → Columns l (bytes "#EOS" ∷ digits_of s.heading.number ∷ []) → SentenceSaid file (record { end = suc (length done + length l); sentence = s })
    one_end seen e =
        let all = lines_written (k.lines ++ (l ∷ [])) in
        record {
          front = k.front;
          lines = k.lines ++ (l ∷ []);
          back = rest;
          parts = whole ∙ sym (append_assoc done l (newline ∷ rest)) ∙ by_hand;
          each_line = each_line_more;
          start = k.start;
          end =
              let d = ap length parts_more in
              omega (arith, length-append done (l ++ (newline ∷ [])), length-append l (newline ∷ []), length-append k.front all);
          head = k.head;
          words = k.words;
          phrases = k.phrases;
          last = l;
          heeded = heeded_more l k.heeded seen;
          its_head = k.its_head;
          its_words = k.its_words;
          counted = k.counted;
          its_phrases = k.its_phrases;
          its_end = e;
        }
      where
        by_hand : (done ++ l) ++ (newline ∷ rest) ≡ k.front ++ (lines_written (k.lines ++ (l ∷ [])) ++ rest)
        by_hand =
            (let e : (done ++ l) ++ (newline ∷ rest) ≡ (done ++ (l ++ (newline ∷ []))) ++ rest = simp append_assoc in e)
            ∙ ap (λ (x : List ℕ). x ++ rest) parts_more ∙ append_assoc k.front (lines_written (k.lines ++ (l ∷ []))) rest
