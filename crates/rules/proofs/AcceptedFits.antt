-- A file that is accepted fits the grammar. The invariant along its lines: what was read so far is as the grammar says, up
-- to what looks ahead.
use Prim.Native.Nat.{ℕ}
use native.Mathlib.Omega.{arith}
use mathlib.Core.Path.{◌≡◌, refl, sym, ◌∙◌, subst}
use mathlib.Core.Bool.{Bool, true, false, ◌&&◌}
use mathlib.Core.List.{List, [], ◌∷◌, ◌++◌, map, append_assoc, append-nil}
use lib.ListN.{length}
use borrow.Author.Tests.{leb-true}
use Rattle.rules.specs.Lists.{pick, joined, Each}
use Rattle.rules.specs.Texts.{Text}
use Rattle.rules.specs.Numbers.{file_limit}
use Rattle.rules.specs.Tables.{origins, editors, present}
use Rattle.rules.specs.Sentences.{Sentence}
use Rattle.rules.specs.Keywords.{first_column}
use Rattle.rules.specs.Phases.{Phase, start, top, in_table, in_sentence, behind_sentence}
use Rattle.rules.specs.Reading.{begin, read}
use Rattle.rules.specs.Survey.{answered, nothing_read, survey_of, file_fits}
use Rattle.rules.specs.GrammarNumbers.{sentence_range}
use Rattle.rules.specs.GrammarLines.{Differ, Starts}
use Rattle.rules.specs.GrammarTables.{TableLines, TablesFit, table_lines, tables_say}
use Rattle.rules.specs.GrammarSentences.{SentenceLines, SentenceFits, sentence_lines, sentence_says}
use Rattle.rules.specs.Grammar.{FormatFits, Fits, sentence_numbers}
use Rattle.rules.proofs.AnyLine.{bytes_of}
use Rattle.rules.proofs.Takings.{answer_at}
use Rattle.rules.proofs.EachElement.{each_then, each_more}
use Rattle.rules.proofs.BytesAsSaid.{Started, started_said, heeded_of, heeded_said}
use Rattle.rules.proofs.SaidOfLists.{and_both_ways}
use Rattle.rules.proofs.TablesAsSaid.{is_there}
use Rattle.rules.proofs.WhatWasRead.{WasRead, pre_lines}
use Rattle.rules.proofs.ReadSoFar.{Onward, from_start, begin_sentence, from_top, from_table}
use Rattle.rules.proofs.SentencesSoFar.{from_sentence}
use Rattle.rules.proofs.LineByLine.{numbers_in, Through, Takes, Accepting}
use Rattle.rules.proofs.LinesOfFiles.{accepted_takes}

-- the parts that lines are, and what the grammar says of them
pub record Parts (ls : List (List ℕ)) : Type 0 where
  pub format_line : List ℕ
  pub format : ℕ
  pub tables : List TableLines
  pub sentences : List SentenceLines
  pub are : ls ≡ format_line ∷ joined (map table_lines tables) ++ joined (map sentence_lines sentences)
  pub starts : Each Started ls
  pub format_fits : FormatFits format_line format
  pub tables_fit : TablesFit tables
  pub each_sentence : Each (SentenceFits sentence_range format tables) sentences
  pub numbers_differ : Differ (sentence_numbers sentences)

onward : (K : Phase → List Sentence → Type 0) (ph : Phase) (out : List Sentence) (done : List (List ℕ)) (line : Text) → WasRead ph out done → Through K out (answer_at ph (numbers_in out) line (first_column line)) → Onward K out done line
unfolding answer_at
onward K start out done line r g = from_start K out done line r g
onward K (top p) out done line r g = from_top K out done line p r g
onward K (in_table p n rs) out done line r g = from_table K out done line p n rs r g
onward K (in_sentence p s) out done line r g = from_sentence K out done line p s r g
onward K (behind_sentence p) out done line r g = begin_sentence K out done line p r.prior r.lines g

at_end_lem : (ph : Phase) (out : List Sentence) (done : List (List ℕ)) → WasRead ph out done → Each Started done → Accepting ph → Parts done
at_end_lem start out done r s e = absurd (omega (arith, e))
at_end_lem (top p) out done r s e =
    by (present origins p.tables && present editors p.tables) refl e
  where
    by : (t : Bool) → (present origins p.tables && present editors p.tables) ≡ t → ◌≡◌ {A = ℕ} (pick t 0 13) 0 → Parts done
    by true h e =
        let both = (and_both_ways (present origins p.tables) (present editors p.tables)).0 h in
        record {
          format_line = r.pre.format_line;
          format = p.format;
          tables = r.pre.ts;
          sentences = [];
          are = r.lines ∙ sym (append-nil (pre_lines r.pre.format_line r.pre.ts));
          starts = s;
          format_fits = r.pre.format_fits;
          tables_fit =
              record {
                each_table = r.pre.each_table;
                once = r.pre.once;
                origin_there = (is_there p.tables r.pre.ts r.pre.stand origins).0 both.0;
                editor_there = (is_there p.tables r.pre.ts r.pre.stand editors).0 both.1;
              };
          each_sentence = tt;
          numbers_differ = tt;
        }
    by false h e = absurd (omega (arith, e))
at_end_lem (in_table p n rs) out done r s e = absurd (omega (arith, e))
at_end_lem (in_sentence p t) out done r s e = absurd (omega (arith, e))
at_end_lem (behind_sentence p) out done r s e =
    let pre = r.prior.pre in
    record {
      format_line = pre.format_line;
      format = p.format;
      tables = pre.ts;
      sentences = r.prior.ss;
      are = r.lines;
      starts = s;
      format_fits = pre.format_fits;
      tables_fit =
          record {
            each_table = pre.each_table;
            once = pre.once;
            origin_there = r.both.origin_there;
            editor_there = r.both.editor_there;
          };
      each_sentence = r.prior.each;
      numbers_differ = r.prior.differ;
    }

along : (ts : List Text) (ph : Phase) (out : List Sentence) (done : List (List ℕ)) → WasRead ph out done → Each Started done → Takes (λ ph out. Accepting ph) ts ph out → Parts (done ++ bytes_of ts)
along [] ph out done r s t = subst Parts (sym (append-nil done)) (at_end_lem ph out done r s t)
along (l ∷ ts) ph out done r s t =
    let o = onward (Takes (λ ph out. Accepting ph) ts) ph out done l r t in
    subst Parts (append_assoc done (l.bytes ∷ []) (bytes_of ts))
    (along ts o.phase o.out_then (done ++ (l.bytes ∷ [])) o.was_read (each_more Started done l.bytes s o.starts) o.kept)

pub accepted_fits : (f : List ℕ) → (survey_of f).refusal ≡ 0 → Fits f
unfolding survey_of
accepted_fits f z = by (file_fits f) refl z
  where
    by : (t : Bool) → file_fits f ≡ t → (pick t (answered (read begin f)) (nothing_read 2)).refusal ≡ 0 → Fits f
    by true h z =
        let a = accepted_takes f z in
        let p = subst Parts a.heeded_are (along a.ts start [] [] (refl, refl) tt a.taken) in (
          record { format = p.format; tables = tables_say p.tables; sentences = map sentence_says p.sentences },
          record {
            lines = a.lines;
            format_line = p.format_line;
            format = p.format;
            tables = p.tables;
            sentences = p.sentences;
            written = a.written;
            short = leb-true (length f) file_limit h;
            each_line = a.each;
            heeded = heeded_of a.lines;
            are_heeded = heeded_said a.lines;
            each_starts = each_then Started Starts (λ l. (started_said l).0) (heeded_of a.lines) p.starts;
            parts = p.are;
            format_fits = p.format_fits;
            tables_fit = p.tables_fit;
            each_sentence = p.each_sentence;
            numbers_differ = p.numbers_differ;
            says = refl;
          },
        )
    by false h z = absurd (omega (arith, z))
