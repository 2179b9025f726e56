-- No sentence handed out is printed with more than 1,002 lines, and no line is longer than the limit: of any file.
use Prim.Native.Nat.{ℕ, ◌*◌, ◌≤◌}
use native.Mathlib.Omega.{arith}
use mathlib.Core.Path.{◌≡◌, refl, sym, ◌∙◌, subst}
use mathlib.Core.Bool.{false}
use mathlib.Core.List.{List, [], ◌∷◌, ◌++◌, map}
use lib.ListN.{length, length-append, length-map}
use Rattle.rules.specs.Lists.{bytes, joined, sorted, Each}
use Rattle.rules.specs.Bytes.{newline, ignored}
use Rattle.rules.specs.Tables.{Tables}
use Rattle.rules.specs.Sentences.{Node, Sentence}
use Rattle.rules.specs.Reading.{Handed}
use Rattle.rules.specs.Survey.{Survey, survey_of}
use Rattle.rules.specs.Meaning.{bare_node, node_number, meant_tables, meant_sentence}
use Rattle.rules.specs.Tidy.{space, digits_of, keyword_line, node_line, heading_line, sentence_text}
use Rattle.rules.proofs.EachElement.{each_then, each_both}
use Rattle.rules.proofs.Sorting.{length_sorted}
use Rattle.rules.proofs.PrintedLines.{parted_printed, parted_plain}
use Rattle.rules.proofs.LineFit.{LineFit}
use Rattle.rules.proofs.KeywordLines.{keyed, keyed_number_fit}
use Rattle.rules.proofs.Headings.{heading_columns, printed_heading, HeadingKept}
use Rattle.rules.proofs.NodesKept.{printed_node, WordKept, PhraseKept}
use Rattle.rules.proofs.NodesBack.{node_printed}
use Rattle.rules.proofs.SentencesKept.{bare_sentence, by_number, SentenceKept, sentence_sorted, meant_by_number}
use Rattle.rules.proofs.HandedKept.{handed_kept}
use Rattle.writing.specs.TextParts.{line_most, sentence_long}

-- ---- lines

ended_short : (l : List ℕ) → LineFit l → length (l ++ (newline ∷ [])) ≤ line_most
ended_short l f = omega (arith, length-append l (newline ∷ []), f.short)

node_short : (n : Node) → LineFit (printed_node n) → length (node_line n) ≤ line_most
node_short n f = subst (λ (l : List ℕ). length l ≤ line_most) (sym (node_printed n)) (ended_short (printed_node n) f)

heading_short : (s : Sentence) (ts : Tables) → HeadingKept ts s.heading → length (heading_line s) ≤ line_most
heading_short s ts k =
    subst (λ (l : List ℕ). length l ≤ line_most) (sym (parted_printed space (bytes "#BOS") (heading_columns s.heading) s.heading.comment))
    (ended_short (printed_heading s.heading) k.fit)

eos_seen : ignored (bytes "#EOS") ≡ false
unfolding ignored
eos_seen = refl

end_short : (n : ℕ) → n ≤ 65535 → length (keyword_line (bytes "#EOS" ∷ digits_of n ∷ [])) ≤ line_most
end_short n h =
    subst (λ (l : List ℕ). length l ≤ line_most) (sym (parted_plain space (bytes "#EOS") (digits_of n ∷ [])))
    (ended_short (keyed (bytes "#EOS") (digits_of n)) (keyed_number_fit (bytes "#EOS") n refl eos_seen refl (omega arith) (omega (arith, h))))

nodes_short : (ns : List Node) → Each (λ (n : Node). length (node_line n) ≤ line_most) ns → length (joined (map node_line ns)) ≤ line_most * length ns
nodes_short [] a = omega arith
nodes_short (n ∷ ns) a = omega (arith, length-append (node_line n) (joined (map node_line ns)), a.0, nodes_short ns a.1)

-- ---- a sentence

kept_short : (format : ℕ) (ts : Tables) (s : Sentence) → SentenceKept format ts s → length s.phrases ≤ 500 → length (sentence_text s) ≤ sentence_long
kept_short format ts s k few =
    let part = k.part in
    let a = heading_line s in
    let b = joined (map node_line s.words) in
    let c = joined (map node_line s.phrases) in
    let d = keyword_line (bytes "#EOS" ∷ digits_of s.heading.number ∷ []) in
    let words = nodes_short s.words (each_then (WordKept format ts) (λ (n : Node). length (node_line n) ≤ line_most) (λ n w. node_short n w.node.fit) s.words part.words) in
    let phrases = nodes_short s.phrases (each_then (PhraseKept format ts) (λ (n : Node). length (node_line n) ≤ line_most) (λ n w. node_short n w.node.fit) s.phrases part.phrases) in
    omega (
      arith,
      length-append (a ++ b ++ c) d,
      length-append (a ++ b) c,
      length-append a b,
      heading_short s ts part.heading,
      words,
      phrases,
      end_short s.heading.number part.heading.number.1,
      part.few,
      few,
    )

-- ---- any file

pub handed_short : (file : List ℕ) → Each (λ (h : Handed). length h.sentence.phrases ≤ 500) (survey_of file).handed
    → Each (λ (h : Handed). length (sentence_text (meant_sentence h.sentence)) ≤ sentence_long) (survey_of file).handed
handed_short file few =
    each_then (λ (h : Handed). (length h.sentence.phrases ≤ 500) × (length h.sentence.phrases ≤ 500 → length (sentence_text (meant_sentence h.sentence)) ≤ sentence_long))
    (λ (h : Handed). length (sentence_text (meant_sentence h.sentence)) ≤ sentence_long) (λ h a. a.1 a.0) (survey_of file).handed
    (each_both _ _ (survey_of file).handed few
    (handed_kept (λ (v : Survey) (s : Sentence). length s.phrases ≤ 500 → length (sentence_text (meant_sentence s)) ≤ sentence_long) of_kept file))
  where
    of_kept : (v : Survey) (s : Sentence) → SentenceKept v.format (meant_tables v.tables) (bare_sentence s) → length s.phrases ≤ 500 → length (sentence_text (meant_sentence s)) ≤ sentence_long
    of_kept v s k few =
        let ps = map bare_node s.phrases in
        let count : length (sorted node_number ps) ≡ length s.phrases = length_sorted node_number ps ∙ length-map s.phrases bare_node in
        subst (λ (t : Sentence). length (sentence_text t) ≤ sentence_long) (sym (meant_by_number s))
        (kept_short v.format (meant_tables v.tables) (by_number (bare_sentence s)) (sentence_sorted v.format (meant_tables v.tables) (bare_sentence s) k) (omega (arith, count, few)))
