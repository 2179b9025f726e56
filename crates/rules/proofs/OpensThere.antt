-- Lines at a place that are those of a sentence open it, whatever stands in front: its heading is granted by itself, and behind
-- it a reading without tables takes each line and hands the sentence out. By what the grammar's lines are taken for.
use Prim.Native.Nat.{ℕ, suc, ◌+◌}
use native.Mathlib.Omega.{arith}
use mathlib.Core.Path.{◌≡◌, refl, sym, ap, ◌∙◌, subst}
use mathlib.Core.Logic.{inr}
use mathlib.Core.Bool.{true, false≢true}
use Rattle.std.specs.Prelude.{Some}
use mathlib.Core.List.{List, [], ◌∷◌, ◌++◌, append_assoc}
use lib.ListN.{length}
use Rattle.rules.specs.Lists.{bytes, every, Each}
use Rattle.rules.specs.Bytes.{newline, legal}
use Rattle.rules.specs.Texts.{Text, reads}
use Rattle.rules.specs.Tables.{no_tables}
use Rattle.rules.specs.Rules.{granted}
use Rattle.rules.specs.Sentences.{Sentence, heading_written, heading_in}
use Rattle.rules.specs.Keywords.{first_column}
use Rattle.rules.specs.Phases.{Preamble, Phase, in_sentence, behind_sentence, begun}
use Rattle.rules.specs.Reading.{Handed, Reading, read}
use Rattle.rules.specs.SentenceFrom.{heading_alone, first_handed, sentence_from}
use Rattle.rules.specs.GrammarNumbers.{sentence_range}
use Rattle.rules.specs.GrammarLines.{Legal, Starts, lines_written}
use Rattle.rules.specs.GrammarTables.{TableLines, Known}
use Rattle.rules.specs.GrammarNodes.{EdgeSaid, EdgeFits, NodeLine, NodeFits, WordFits, PhraseLine, PhraseFits}
use Rattle.rules.specs.GrammarSentences.{SentenceLines, SentenceFits, nodes_of, node_lines, sentence_lines, sentence_says}
use Rattle.rules.specs.GrammarSurvey.{sentence_read}
use Rattle.rules.specs.Refusals.{OneLine}
use Rattle.rules.specs.Places.{StartsLine}
use Rattle.rules.specs.OpensThere.{FitsAlone, SentenceStands, OpensThere}
use Rattle.rules.proofs.EachElement.{each_then}
use Rattle.rules.proofs.ReadLines.{read_append}
use Rattle.rules.proofs.Cut.{grow}
use Rattle.rules.proofs.Conjunctions.{and_left, and_right}
use Rattle.rules.proofs.RuleLaws.{holds_of}
use Rattle.rules.proofs.SaidOfLists.{each_every}
use Rattle.rules.proofs.BytesAsSaid.{legal_said, every_said, Started, started_said, heeded_of, heeded_only}
use Rattle.rules.proofs.LineFit.{LineFit}
use Rattle.rules.proofs.LineByLine.{heeded_texts, heeded_bytes}
use Rattle.rules.proofs.LinesOfFiles.{placed, placed_bytes, sentences_of, fresh, Reaches, MayEnd, takes_reach}
use Rattle.rules.proofs.TablesAsSaid.{stand_none}
use Rattle.rules.proofs.TablesFollow.{Follows, keyword_reads}
use Rattle.rules.proofs.HeadsAsSaid.{front_column, head_written}
use Rattle.rules.proofs.FitsAccepted.{ends_here, nodes_follow}
use Rattle.rules.proofs.LineStarts.{starts_tested}
use Rattle.rules.proofs.HeadingsAlone.{keyword_seen, bos_seen, written_alone}
use Rattle.rules.proofs.ReadFromPlace.{read_from}
use Rattle.rules.proofs.BeginsThere.{stands_there}

-- ---- without tables every tag is known

known_free : (which : ℕ) (tag : List ℕ) → Known [] which tag
known_free which tag = inr (inr (λ t i. absurd i))

module _ (ts : List TableLines) where
  free_edge : (e : EdgeSaid) → EdgeFits ts e → EdgeFits [] e
  free_edge e f = record { parent_written = f.parent_written; label_short = f.label_short; label_known = known_free _ _ }

  free_node : (tags : ℕ) (n : NodeLine) → NodeFits 3 ts tags n → NodeFits 3 [] tags n
  free_node tags n f =
      record {
        columns = f.columns;
        parent_written = f.parent_written;
        parent_zero = f.parent_zero;
        tag_short = f.tag_short;
        tag_known = known_free _ _;
        morphology_short = f.morphology_short;
        morphology_known = known_free _ _;
        edge_short = f.edge_short;
        edge_known = known_free _ _;
        each_secondary = each_then (EdgeFits ts) (EdgeFits []) free_edge n.secondary f.each_secondary;
      }

  free_word : (n : NodeLine) → WordFits 3 ts n → WordFits 3 [] n
  free_word n f = record { node = free_node _ n f.node; word = f.word }

  free_phrase : (p : PhraseLine) → PhraseFits 3 ts p → PhraseFits 3 [] p
  free_phrase p f =
      record {
        node = free_node _ p.node f.node;
        digits = f.digits;
        sign = f.sign;
        number_written = f.number_written;
        parent_larger = f.parent_larger;
        secondary_others = f.secondary_others;
      }

-- ---- the lines behind the heading

-- legal bytes are one line
no_newline_among : (l : List ℕ) → every legal l ≡ true → OneLine l
no_newline_among [] e = tt
no_newline_among (b ∷ bs) e =
    let one : b ≡ 10 → ⊥ = λ q. false≢true (ap legal (sym q) ∙ and_left (legal b) (every legal bs) e) in
    (one, no_newline_among bs (and_right (legal b) (every legal bs) e))

abbrev preamble : Preamble
preamble = record { format = 3; tables = no_tables }

-- one sentence has been handed out, and says this
abbrev Said : SentenceLines → Phase → List Sentence → Type 0
Said s ph out = (t : Sentence) × (out ≡ t ∷ []) × (sentence_read t ≡ sentence_says s)

first_out : (hs more : List Handed) (t : Sentence) → sentences_of hs ≡ t ∷ [] → first_handed (hs ++ more) ≡ Some t
first_out [] more t e = absurd (let z : ◌≡◌ {A = ℕ} 0 1 = cc in omega arith)
first_out (h ∷ hs) more t e = let q : h.sentence ≡ t = cc in ap Some q

module _ (file : List ℕ) (at : ℕ) (s : SentenceLines) (ts : List TableLines) (f : SentenceFits sentence_range 3 ts s)
    (w : SentenceStands file at s) where
  abbrev line : Text
  line = record { start = length w.front; bytes = s.head.line }

  started : Each Started (sentence_lines s)
  started = each_then Starts Started (λ l. (started_said l).1) (sentence_lines s) w.each_starts

  keyword : reads (bytes "#BOS") (first_column line) ≡ true
  keyword =
      keyword_reads line (bytes "#BOS") started.0 (front_column s.head.line (bytes "#BOS") _ s.head.comment f.begins.columns)

  lawful : every legal s.head.line ≡ true
  lawful = (every_said legal Legal legal_said s.head.line).1 w.each_line.0.legal_bytes

  its_fit : LineFit s.head.line
  its_fit = record { lawful = lawful; short = w.each_line.0.short; seen = keyword_seen line (bytes "#BOS") refl bos_seen keyword }

  heads : heading_alone line ≡ granted (heading_in line)
  heads = written_alone line its_fit keyword (each_every holds_of (heading_written line) (head_written line ts s.head refl f.begins).rules)

  -- where the reading goes on, and from which place
  abbrev inside : Phase
  inside = in_sentence preamble (begun (length w.front) (heading_in line))

  abbrev next : ℕ
  next = suc (length w.front + length s.head.line)

  nodes_taken : Follows (MayEnd (Said s)) (node_lines s.words ++ (node_lines (nodes_of s.phrases) ++ (s.eos ∷ []))) inside []
  nodes_taken =
      nodes_follow (MayEnd (Said s)) preamble [] stand_none s [] [] (begun (length w.front) (heading_in line))
      (record { heading_is = (head_written line ts s.head refl f.begins).same; words_are = refl; phrases_are = refl }) ts f
      (each_then (WordFits 3 ts) (WordFits 3 []) (free_word ts) s.words f.each_word)
      (each_then (PhraseFits 3 ts) (PhraseFits 3 []) (free_phrase ts) s.phrases f.each_phrase)
      (λ t same. ends_here (MayEnd (Said s)) (behind_sentence preamble) (t ∷ []) (refl, (t, refl, same)))

  reached : Reaches (Said s) (read (fresh next inside []) (lines_written w.others))
  reached =
      let again = append_assoc (node_lines s.words) (node_lines (nodes_of s.phrases)) (s.eos ∷ []) in
      takes_reach (Said s) w.others next inside [] w.each_line.1
      (nodes_taken (heeded_texts (placed next w.others))
      (heeded_bytes (placed next w.others) ∙ ap heeded_of (placed_bytes next w.others) ∙ sym (heeded_only w.heeded) ∙ again)
      (subst (Each Started) again started.1))

  whole : file ≡ w.front ++ (s.head.line ++ (newline ∷ (lines_written w.others ++ w.back)))
  whole =
      w.parts
      ∙ ap (λ (x : List ℕ). w.front ++ x)
      (append_assoc (s.head.line ++ (newline ∷ [])) (lines_written w.others) w.back
      ∙ append_assoc s.head.line (newline ∷ []) (lines_written w.others ++ w.back))

  found_there : sentence_from file (length w.front) ≡ Some reached.1.0
  found_there =
      let r = read (fresh next inside []) (lines_written w.others) in
      let starts = starts_tested file (length w.front) (subst (StartsLine file) (sym w.place) w.starts) in
      read_from file w.front s.head.line (lines_written w.others ++ w.back) (heading_in line) whole starts
      (no_newline_among s.head.line lawful) heads
      ∙ ap (λ (q : Reading). first_handed q.handed) (read_append (fresh next inside []) (lines_written w.others) w.back)
      ∙ ap first_handed (grow r w.back).handed
      ∙ first_out r.handed (grow r w.back).more reached.1.0 reached.1.1

pub opens_there : (file : List ℕ) (at : ℕ) (s : SentenceLines) → FitsAlone s → SentenceStands file at s → OpensThere file at s
opens_there file at s f w =
    let t = (reached file at s f.0 f.1 w).1 in
    let found = subst (λ (n : ℕ). sentence_from file n ≡ Some t.0) w.place (found_there file at s f.0 f.1 w) in
    record { sentence = t.0; found = found; place = (stands_there file at t.0 found).place; says = t.2 }
