-- Demand 2: the tidy text written for an accepted file is accepted and has the same format, tables and sentences. What a
-- reading keeps is fit to be printed, and what is fit is read back; files that mean the same are the same field by field.
use Prim.Native.Nat.{ℕ, ◌≤◌}
use native.Mathlib.Omega.{arith}
use mathlib.Core.Path.{◌≡◌, refl, sym, ap, ap₂, ◌∙◌, subst}
use mathlib.Core.Bool.{true, false, ◌&&◌}
use Rattle.std.specs.Prelude.{None}
use mathlib.Core.List.{List, [], ◌∷◌, ◌++◌, map}
use lib.ListN.{length, replicate}
use borrow.Author.Tests.{le-leb}
use Rattle.rules.specs.Lists.{bytes, joined, sorted, Each}
use Rattle.rules.specs.Bytes.{ignored}
use Rattle.rules.specs.Numbers.{file_limit}
use Rattle.rules.specs.Tables.{Tables, origins, editors, no_tables}
use Rattle.rules.specs.Sentences.{Sentence}
use Rattle.rules.specs.Phases.{Preamble, start, top, behind_sentence, go, next, step, format_at, tables_at}
use Rattle.rules.specs.Reading.{Reading, begin, numbers, read, verdict}
use Rattle.rules.specs.Survey.{Survey, survey_of}
use Rattle.rules.specs.Meaning.{Meaning, node_number, sentence_number_of, meaning_of}
use Rattle.rules.specs.Same.{SameMeaning}
use Rattle.rules.specs.Tidy.{space, digits_of, keyword_line, tables_text, sentence_text, tidy_text}
use Rattle.rules.specs.Writing.{tidy_of}
use Rattle.rules.proofs.Takings.{answer_start, answer_at}
use Rattle.rules.proofs.ReadLines.{read_append}
use Rattle.rules.proofs.Sorting.{Rising, all_sorted, rising_from_zero, sorted_sorted, map_sorted}
use Rattle.rules.proofs.PrintedLines.{parted_plain}
use Rattle.rules.proofs.LineFit.{LineFit}
use Rattle.rules.proofs.KeywordLines.{keyed, keyed_number_fit, format_passes}
use Rattle.rules.proofs.MeantTables.{present_meant, meant_again}
use Rattle.rules.proofs.SentencesKept.{by_number, SentenceKept, sentence_sorted}
use Rattle.rules.proofs.Kept.{PreambleKept, both_present, means}
use Rattle.rules.proofs.KeptReading.{bares, FileKept, meant_by, reading_meaning, survey_read, accepted_kept}
use Rattle.rules.proofs.Stands.{Stands, line_go, step_printed}
use Rattle.rules.proofs.TablesBack.{blanks, TablesRead, tables_read, tables_printed}
use Rattle.rules.proofs.SentencesBack.{all_sentences_read}
use Rattle.rules.proofs.AlikeLists.{distinct_map}
use Rattle.rules.proofs.TablesAgree.{length_meant}
use Rattle.rules.proofs.SameMeaning.{same_meaning}

-- ---- the format line

format_seen : ignored (bytes "#FORMAT") ≡ false
unfolding ignored
format_seen = refl

abbrev unread : ℕ → Preamble
unread n = record { format = n; tables = no_tables }

format_step : (n : ℕ) → n ≡ 3 → LineFit (keyed (bytes "#FORMAT") (digits_of n)) → (used : List ℕ) (at : ℕ)
    → step start used (record { start = at; bytes = keyed (bytes "#FORMAT") (digits_of n) }) ≡ go (top (unread n))
unfolding answer_at answer_start
format_step n e f used at =
    step_printed space refl start used at (bytes "#FORMAT") (digits_of n ∷ []) [] refl f ∙ ap (next (λ i. go (top (unread i)))) (format_passes n at e)

format_read : (n : ℕ) → n ≡ 3 → Stands (top (unread n)) [] (read begin (keyword_line (bytes "#FORMAT" ∷ digits_of n ∷ [])))
format_read n e =
    let f = keyed_number_fit (bytes "#FORMAT") n refl format_seen refl (omega arith) (omega (arith, e)) in
    subst (λ (l : List ℕ). Stands (top (unread n)) [] (read begin l)) (sym (parted_plain space (bytes "#FORMAT") (digits_of n ∷ [])))
    (line_go start [] begin (keyed (bytes "#FORMAT") (digits_of n)) (record { sound = refl; unbegun = refl; phase = refl; handed = refl }) f (top (unread n))
    (format_step n e f (numbers []) 0))

-- ---- the tables

blank_tables : (ts : Tables) → blanks ts ≡ replicate (length ts) None
blank_tables [] = refl
blank_tables (t ∷ ts) = ap (λ (us : Tables). None ∷ us) (blank_tables ts)

preamble_read : (p : Preamble) (x : Reading) → PreambleKept p → Stands (top (unread p.format)) [] x → TablesRead p.format (means p) [] (read x (tables_text 0 (means p)))
preamble_read p x k st =
    let seven : length (means p) ≡ 7 = length_meant p.tables ∙ k.seven in
    tables_read [] (means p) [] 0 (unread p.format) x refl (omega (arith, seven)) (tables_printed p.tables k.tables)
    (sym (blank_tables (means p) ∙ ap (λ (n : ℕ). replicate n None) seven)) st

-- ---- the sentences

-- as they are printed: by number, and their phrases too
abbrev in_order : List Sentence → List Sentence
in_order ss = sorted sentence_number_of (map by_number ss)

by_number_twice : (ss : List Sentence) → map by_number (map by_number ss) ≡ map by_number ss
by_number_twice [] = refl
by_number_twice (s ∷ ss) =
    ap₂ (λ (t : Sentence) (ts : List Sentence). t ∷ ts) (ap (λ ps. record { start = s.start; heading = s.heading; words = s.words; phrases = ps }) (sorted_sorted node_number s.phrases)) (by_number_twice ss)

order_twice : (ss : List Sentence) → in_order (in_order ss) ≡ in_order ss
order_twice ss =
    ap (sorted sentence_number_of) (map_sorted sentence_number_of sentence_number_of by_number (λ s. refl) (map by_number ss) ∙ ap (sorted sentence_number_of) (by_number_twice ss))
    ∙ sorted_sorted sentence_number_of (map by_number ss)

abbrev Ready : ℕ → Tables → Sentence → Type 0
Ready format ts s = SentenceKept format ts s × Rising node_number 0 s.phrases

each_ready : (format : ℕ) (ts : Tables) (ss : List Sentence) → Each (SentenceKept format ts) ss → Each (Ready format ts) (map by_number ss)
each_ready format ts [] k = tt
each_ready format ts (s ∷ ss) k = ((sentence_sorted format ts s k.0, rising_from_zero node_number s.phrases k.0.part.distinct), each_ready format ts ss k.1)

-- ---- the whole text

-- a reading at its end, behind a preamble and with these sentences
record Accepts (q : Preamble) (ss : List Sentence) (r : Reading) : Type 0 where
  refusal : (verdict r).number ≡ 0
  format : format_at r.phase ≡ q.format
  tables : tables_at r.phase ≡ q.tables
  handed : bares r.handed ≡ ss

accepts_top : (q : Preamble) (r : Reading) → both_present q.tables ≡ true → Stands (top q) [] r → Accepts q [] r
accepts_top q r b s = record { refusal = rw (s.sound, s.unbegun, s.phase, b); format = ap format_at s.phase; tables = ap tables_at s.phase; handed = s.handed }

accepts_behind : (q : Preamble) (ss : List Sentence) (r : Reading) → Stands (behind_sentence q) ss r → Accepts q ss r
accepts_behind q ss r s = record { refusal = rw (s.sound, s.unbegun, s.phase); format = ap format_at s.phase; tables = ap tables_at s.phase; handed = s.handed }

sentences_accepted : (q : Preamble) (ss : List Sentence) (x : Reading) → both_present q.tables ≡ true → Each (Ready q.format (means q)) ss → Rising sentence_number_of 0 ss → Stands (top q) [] x
    → Accepts q ss (read x (joined (map sentence_text ss)))
sentences_accepted q [] x b k rise st = accepts_top q x b st
sentences_accepted q (s ∷ ss) x b k rise st = accepts_behind q (s ∷ ss) (read x (joined (map sentence_text (s ∷ ss)))) (all_sentences_read q s ss x k rise st)

record TidyRead (p : Preamble) (ss : List Sentence) : Type 0 where
  preamble : Preamble
  format : preamble.format ≡ p.format
  tables : means preamble ≡ means p
  accepts : Accepts preamble (in_order ss) (read begin (tidy_text (meant_by p ss)))

tidy_read : (p : Preamble) (ss : List Sentence) → FileKept p ss → TidyRead p ss
unfolding tidy_text
tidy_read p ss k =
    let a = keyword_line (bytes "#FORMAT" ∷ digits_of p.format ∷ []) in
    let b = tables_text 0 (means p) in
    let c = joined (map sentence_text (in_order ss)) in
    let t = preamble_read p (read begin a) k.preamble (format_read p.format k.preamble.format) in
    let q = t.preamble in
    let same : means q ≡ means p = meant_again q.tables p.tables t.same in
    let present_both : both_present q.tables ≡ true = sym (ap₂ ◌&&◌ (present_meant origins q.tables) (present_meant editors q.tables)) ∙ ap both_present same ∙ k.both in
    let printed : Each (Ready p.format (means p)) (in_order ss) =
    all_sorted sentence_number_of (Ready p.format (means p)) (map by_number ss) (each_ready p.format (means p) ss k.sentences.each) in
    let ready : Each (Ready q.format (means q)) (in_order ss) =
    subst (λ (n : ℕ). Each (Ready n (means q)) (in_order ss)) (sym t.kept) (subst (λ (ts : Tables). Each (Ready p.format ts) (in_order ss)) (sym same) printed) in
    let rise = rising_from_zero sentence_number_of (map by_number ss) (distinct_map sentence_number_of sentence_number_of by_number (λ s. refl) ss k.sentences.distinct) in
    let all = sentences_accepted q (in_order ss) (read (read begin a) b) present_both ready rise t.stands in
    record {
      preamble = q;
      format = t.kept;
      tables = same;
      accepts = subst (Accepts q (in_order ss)) (sym (read_append begin (a ++ b) c ∙ ap (λ (y : Reading). read y c) (read_append begin a b))) all;
    }

-- what is printed of a preamble and of sentences that are fit is accepted, and means what was printed
pub printed_accepted : (p : Preamble) (ss : List Sentence) → FileKept p ss → length (tidy_text (meant_by p ss)) ≤ file_limit
    → ((survey_of (tidy_text (meant_by p ss))).refusal ≡ 0) × (meaning_of (survey_of (tidy_text (meant_by p ss))) ≡ meant_by p ss)
printed_accepted p ss k fits =
    let text = tidy_text (meant_by p ss) in
    let r = read begin text in
    let t = tidy_read p ss k in
    let survey = survey_read text (le-leb (length text) file_limit fits) in (
      ap (λ (s : Survey). s.refusal) survey ∙ t.accepts.refusal,
      ap meaning_of survey ∙ reading_meaning r t.preamble t.accepts.format t.accepts.tables
          ∙ ap₂ (λ (ts : Tables) (us : List Sentence). record { format = t.preamble.format; tables = ts; sentences = in_order us }) t.tables t.accepts.handed
          ∙ ap₂ (λ (n : ℕ) (us : List Sentence). record { format = n; tables = means p; sentences = us }) t.format (order_twice ss),
    )

-- the tidy text written for an accepted file is accepted and has the same format, tables and sentences, field by field
pub round_trip : (f : List ℕ) → (survey_of f).refusal ≡ 0 → length (tidy_of f) ≤ file_limit → ((survey_of (tidy_of f)).refusal ≡ 0) × SameMeaning (tidy_of f) f
unfolding tidy_of
round_trip f e fits =
    let k = accepted_kept f e in
    let back : ((survey_of (tidy_of f)).refusal ≡ 0) × (meaning_of (survey_of (tidy_of f)) ≡ meaning_of (survey_of f)) =
    subst (λ (m : Meaning). ((survey_of (tidy_text m)).refusal ≡ 0) × (meaning_of (survey_of (tidy_text m)) ≡ m)) (sym k.meaning)
    (printed_accepted k.preamble k.sentences k.kept (subst (λ (m : Meaning). length (tidy_text m) ≤ file_limit) k.meaning fits)) in
    (back.0, (same_meaning (tidy_of f) f).0 back.1)
