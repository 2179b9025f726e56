-- A file that contains what the grammar says is accepted, and what is read of it is that. Sentence by sentence, behind the
-- tables.
use Prim.Native.Nat.{ℕ}
use native.Mathlib.Omega.{arith}
use mathlib.Core.Path.{◌≡◌, refl, sym, ap, ◌∙◌, subst}
use mathlib.Core.Bool.{Bool}
use Rattle.std.specs.Prelude.{Option}
use mathlib.Core.List.{List, [], ◌∷◌, ◌++◌, map, append_assoc, append-nil}
use lib.ListN.{length}
use borrow.Author.Tests.{le-leb}
use Rattle.rules.specs.Lists.{pick, bytes, joined, member, Each}
use Rattle.rules.specs.Texts.{Text}
use Rattle.rules.specs.Numbers.{file_limit}
use Rattle.rules.specs.Tables.{no_tables, origins, editors}
use Rattle.rules.specs.Sentences.{Sentence, heading_of}
use Rattle.rules.specs.Keywords.{first_column}
use Rattle.rules.specs.Phases.{Preamble, Phase, start, top, in_sentence, behind_sentence, hand, next, begun, format_at, tables_at}
use Rattle.rules.specs.Reading.{Handed, Reading, begin, read}
use Rattle.rules.specs.Survey.{answered, nothing_read, survey_of}
use Rattle.rules.specs.GrammarNumbers.{sentence_range}
use Rattle.rules.specs.GrammarContent.{RowContent, SentenceContent, Content}
use Rattle.rules.specs.GrammarSurvey.{table_read, sentence_read, content_of}
use Rattle.rules.specs.GrammarLines.{In, Differ, Starts}
use Rattle.rules.proofs.Takings.{go_begun, answer_behind, answer_top, answer_at}
use Rattle.rules.proofs.EachElement.{each_then}
use Rattle.rules.proofs.Elements.{map_map, maps_more}
use Rattle.rules.proofs.BareColumns.{column_at}
use Rattle.rules.specs.GrammarTables.{TableLines, table_lines, whiches}
use Rattle.rules.specs.GrammarNodes.{WordFits, PhraseFits}
use Rattle.rules.specs.GrammarSentences.{SentenceLines, SentenceFits, EosFits, nodes_of, node_lines, sentence_lines, sentence_says}
use Rattle.rules.specs.Grammar.{Contains, sentence_numbers}
use Rattle.rules.proofs.Same.{same_false}
use Rattle.rules.proofs.AnyLine.{bytes_of}
use Rattle.rules.proofs.BytesAsSaid.{Started, started_said, heeded_of, heeded_only}
use Rattle.rules.proofs.SaidOfLists.{differ_map_next}
use Rattle.rules.proofs.TestsAsFacts.{is_member}
use Rattle.rules.proofs.TablesAsSaid.{Stand, stand_none, is_there, tables_say_lem}
use Rattle.rules.proofs.KeywordsAsSaid.{keyword_first}
use Rattle.rules.proofs.HeadsAsSaid.{front_column, head_grants}
use Rattle.rules.proofs.SentenceEnds.{SentenceAlike, end_grants}
use Rattle.rules.proofs.TablesFollow.{Follows, one_line, keyword_reads, other_keyword, format_follows, tables_follow}
use Rattle.rules.proofs.SentencesFollow.{words_follow, phrases_follow, taken_end}
use Rattle.rules.proofs.LineByLine.{numbers_in, Through, heeded_texts, heeded_bytes}
use Rattle.rules.proofs.LinesOfFiles.{placed, placed_bytes, sentences_of, Reaches, MayEnd, takes_accepted}

-- ---- a sentence as read, and as said

same_sentence : (s : Sentence) (t : SentenceLines) → SentenceAlike s t.head t.words t.phrases → sentence_read s ≡ sentence_says t
same_sentence s t a = cc

numbers_same : (out : List Sentence) (done : List SentenceLines) → map sentence_read out ≡ map sentence_says done → numbers_in out ≡ sentence_numbers done
numbers_same out done e =
    sym (map_map (λ (s : SentenceContent). s.heading.number) sentence_read out)
    ∙ ap (map (λ (s : SentenceContent). s.heading.number)) e
    ∙ map_map (λ (s : SentenceContent). s.heading.number) sentence_says done

-- nothing follows where a file may end
pub ends_here : (E : Phase → List Sentence → Type 0) (ph : Phase) (out : List Sentence) → E ph out → Follows E [] ph out
ends_here E ph out a [] e s = a
ends_here E ph out a (t ∷ ts) e s = absurd (let z : ◌≡◌ {A = ℕ} 0 1 = cc in omega arith)

-- a sentence that is begun, its nodes and its end; whatever tables its heading is about
module _ (E : Phase → List Sentence → Type 0) (p : Preamble) (ts : List TableLines) (stand : Stand p.tables ts) where
  pub nodes_follow : (t : SentenceLines) (rest : List (List ℕ)) (out : List Sentence) (s : Sentence) → SentenceAlike s t.head [] []
      → (us : List TableLines) → SentenceFits sentence_range p.format us t → Each (WordFits p.format ts) t.words
      → Each (PhraseFits p.format ts) t.phrases
      → ((s : Sentence) → sentence_read s ≡ sentence_says t → Follows E rest (behind_sentence p) (out ++ (s ∷ [])))
      → Follows E (node_lines t.words ++ (node_lines (nodes_of t.phrases) ++ (t.eos ∷ rest))) (in_sentence p s) out
  nodes_follow t rest out s a us f of_words of_phrases k =
      let head = t.head in
      let ends = t.eos ∷ rest in
      words_follow E p ts stand out head (node_lines (nodes_of t.phrases) ++ ends) t.words [] s a of_words f.words_at_most
      (omega (arith, f.edges_at_most))
      (λ s a.
      phrases_follow E p ts stand out head ends t.words t.phrases [] s a of_phrases f.numbered.differ f.edges_at_most
      (λ s a.
      one_line E t.eos rest (in_sentence p s) out (λ line e st.
      let eos = subst (EosFits sentence_range head.number) (sym e) f.ends in
      taken_end E p ts stand out head rest (Follows E rest) line s
      (keyword_reads line (bytes "#EOS") st (keyword_first line (bytes "#EOS") eos.number_text eos.columns))
      (end_grants s head t.words t.phrases a (Follows E rest) out line (λ n. hand p s) eos (λ n l u. (f.numbered.no_gap n).1 (l, u))
      f.parents_of_words f.parents_of_phrases
      (k s (same_sentence s t a))))))

module _ (E : Phase → List Sentence → Type 0) (p : Preamble) (ts : List TableLines) (stand : Stand p.tables ts) (io : In origins (whiches ts)) (ie : In editors (whiches ts)) where
  -- where a sentence may begin
  abbrev BeginsAt : Phase → List Sentence → Type 1
  BeginsAt ph out =
      (K : Phase → List Sentence → Type 0) (line : Text) → Started line.bytes → column_at 0 line.bytes ≡ bytes "#BOS"
      → Through K out (next (go_begun p line.start) (heading_of p.tables (λ n. member n (numbers_in out)) line)) → Through K out (answer_at ph (numbers_in out) line (first_column line))

  begins_behind : (out : List Sentence) → BeginsAt (behind_sentence p) out
  unfolding answer_at answer_behind
  begins_behind out K line s q t = rw (keyword_reads line (bytes "#BOS") s q) t

  begins_top : (out : List Sentence) → BeginsAt (top p) out
  unfolding answer_at answer_top answer_behind
  begins_top out K line s q t =
      rw (other_keyword line (bytes "#BOS") (bytes "#BOT") s q (same_false (bytes "#BOS") (bytes "#BOT") refl), keyword_reads line (bytes "#BOS") s q) t

  sentence_follows : (t : SentenceLines) (rest : List (List ℕ)) (ph : Phase) (out : List Sentence) → BeginsAt ph out → SentenceFits sentence_range p.format ts t
      → (In t.head.number (numbers_in out) → ⊥) → ((s : Sentence) → sentence_read s ≡ sentence_says t → Follows E rest (behind_sentence p) (out ++ (s ∷ [])))
      → Follows E (sentence_lines t ++ rest) ph out
  sentence_follows t rest ph out b f new k =
      let words = node_lines t.words in
      let phrases = node_lines (nodes_of t.phrases) in
      let head = t.head in
      let ends = t.eos ∷ rest in
      subst (λ (ls : List (List ℕ)). Follows E ls ph out)
      (sym (append_assoc (head.line ∷ words ++ phrases) (t.eos ∷ []) rest ∙ append_assoc (head.line ∷ words) phrases ends))
      (one_line E head.line (words ++ (phrases ++ ends)) ph out (λ line e st.
      let keyword = ap (column_at 0) e ∙ front_column head.line (bytes "#BOS") _ head.comment f.begins.columns in
      b (Follows E (words ++ (phrases ++ ends))) line st keyword
      (head_grants p.tables ts stand (Follows E (words ++ (phrases ++ ends))) out line (λ n. member n (numbers_in out)) (go_begun p line.start) head (sym e) f.begins io ie
      (λ h. new ((is_member head.number (numbers_in out)).0 h))
      (λ r same.
      nodes_follow E p ts stand t rest out (begun line.start r) (record { heading_is = same; words_are = refl; phrases_are = refl }) ts f
      f.each_word f.each_phrase k))))

  sentences_follow : (rest done : List SentenceLines) (out : List Sentence) → map sentence_read out ≡ map sentence_says done → Each (SentenceFits sentence_range p.format ts) rest
      → Differ (sentence_numbers (done ++ rest)) → ((out : List Sentence) → map sentence_read out ≡ map sentence_says (done ++ rest) → E (behind_sentence p) out)
      → Follows E (joined (map sentence_lines rest)) (behind_sentence p) out
  sentences_follow [] done out e f d k =
      ends_here E (behind_sentence p) out (k out (e ∙ ap (map sentence_says) (sym (append-nil done))))
  sentences_follow (t ∷ rest) done out e f d k =
      let again = append_assoc done (t ∷ []) rest in
      sentence_follows t (joined (map sentence_lines rest)) (behind_sentence p) out (begins_behind out) f.0
      (λ i. differ_map_next (λ (s : SentenceLines). s.head.number) done t rest d (subst (In t.head.number) (numbers_same out done e) i))
      (λ s same.
      sentences_follow rest (done ++ (t ∷ [])) (out ++ (s ∷ [])) (maps_more sentence_read sentence_says out done s t e same) f.1
      (subst (λ (ss : List SentenceLines). Differ (sentence_numbers ss)) (sym again) d)
      (λ all g. k all (g ∙ ap (map sentence_says) again)))

  behind_tables : (ss : List SentenceLines) → Each (SentenceFits sentence_range p.format ts) ss → Differ (sentence_numbers ss) → (ss ≡ [] → E (top p) [])
      → ((out : List Sentence) → map sentence_read out ≡ map sentence_says ss → E (behind_sentence p) out) → Follows E (joined (map sentence_lines ss)) (top p) []
  behind_tables [] f d None k = ends_here E (top p) [] (None refl)
  behind_tables (t ∷ rest) f d None k =
      sentence_follows t (joined (map sentence_lines rest)) (top p) [] (begins_top []) f.0 (λ i. i)
      (λ s same. sentences_follow rest (t ∷ []) (s ∷ []) (maps_more sentence_read sentence_says [] [] s t refl same) f.1 d k)

-- ---- the whole file

-- what a reading has of its content, at a place where a file may end
abbrev content_at : Phase → List Sentence → Content
content_at ph out = record { format = format_at ph; tables = map table_read (tables_at ph); sentences = map sentence_read out }

same_content : {n : ℕ} {T U : List (Option (List RowContent))} {ss rs : List SentenceContent} → T ≡ U → ss ≡ rs
    → ◌≡◌ {A = Content} (record { format = n; tables = T; sentences = ss }) (record { format = n; tables = U; sentences = rs })
same_content e f = cc

content_of_lem : (r : Reading) → content_of (answered r) ≡ content_at r.phase (sentences_of r.handed)
content_of_lem r = same_content refl (sym (map_map sentence_read (λ (h : Handed). h.sentence) r.handed))

pub contains_read : (f : List ℕ) (c : Content) → Contains sentence_range f c → ((survey_of f).refusal ≡ 0) × (content_of (survey_of f) ≡ c)
unfolding survey_of
contains_read f c t =
    let tables = t.tables_fit in
    let behind = joined (map sentence_lines t.sentences) in
    let F : Phase → List Sentence → Type 0 = λ ph out. content_at ph out ≡ c in
    let whole : Follows (MayEnd F) (t.format_line ∷ joined (map table_lines t.tables) ++ behind) start [] =
    format_follows (MayEnd F) t.format_line (joined (map table_lines t.tables) ++ behind) t.format t.format_fits
    (tables_follow (MayEnd F) t.format behind t.tables [] no_tables stand_none tables.each_table tables.once
    (λ T stand.
    let p : Preamble = record { format = t.format; tables = T } in
    let says : (out : List Sentence) → map sentence_read out ≡ map sentence_says t.sentences → content_at (behind_sentence p) out ≡ c =
    λ out e. same_content (tables_say_lem T t.tables stand) e ∙ sym t.says in
    let empty : t.sentences ≡ [] → MayEnd F (top p) [] =
    λ e. (rw ((is_there T t.tables stand origins).1 tables.origin_there, (is_there T t.tables stand editors).1 tables.editor_there), says [] (sym (ap (map sentence_says) e))) in
    behind_tables (MayEnd F) p t.tables stand tables.origin_there tables.editor_there t.sentences t.each_sentence t.numbers_differ empty (λ out e. (refl, says out e)))) in
    let at_places : bytes_of (heeded_texts (placed 0 t.lines)) ≡ heeded_of t.lines = heeded_bytes (placed 0 t.lines) ∙ ap heeded_of (placed_bytes 0 t.lines) in
    let taken = whole (heeded_texts (placed 0 t.lines)) (at_places ∙ sym (heeded_only t.are_heeded) ∙ t.parts)
    (subst (Each Started) t.parts (each_then Starts Started (λ l. (started_said l).1) t.heeded t.each_starts)) in
    let reached : Reaches F (read begin f) = subst (λ (f : List ℕ). Reaches F (read begin f)) (sym t.written) (takes_accepted F t.lines t.each_line taken) in
    let fits = le-leb (length f) file_limit t.short in (
      ap (λ (b : Bool). (pick b (answered (read begin f)) (nothing_read 2)).refusal) fits ∙ reached.0,
      ap (λ (b : Bool). content_of (pick b (answered (read begin f)) (nothing_read 2))) fits ∙ content_of_lem (read begin f) ∙ reached.1,
    )
