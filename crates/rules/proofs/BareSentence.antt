-- A sentence with a comment on its heading and with no node, in a file that has no tables and that a survey refuses at its first
-- line: what `opens_there` asks is so of its lines, and it opens. By computing what the lines are.
use Prim.Native.Nat.{ℕ}
use native.Mathlib.Omega.{arith}
use mathlib.Core.Path.{refl}
use mathlib.Core.Logic.{inl, inr}
use mathlib.Core.Bool.{false≢true}
use mathlib.Core.List.{List, [], ◌∷◌}
use Rattle.rules.specs.Lists.{bytes}
use Rattle.rules.specs.Bytes.{legal, ignored}
use Rattle.rules.specs.Texts.{right_trim, trim_from}
use Rattle.rules.specs.Columns.{columns_from, fields, comment}
use Rattle.rules.specs.Numbers.{value_from, decimal, sentence_number, date, origin_id}
use Rattle.rules.specs.GrammarNumbers.{sentence_range}
use Rattle.rules.specs.GrammarLines.{Legal, no_line, heeded_line}
use Rattle.rules.specs.GrammarTables.{TableLines}
use Rattle.rules.specs.GrammarSentences.{SentenceLines, HeadFits, EosFits, SentenceFits}
use Rattle.rules.specs.OpensThere.{SentenceStands, OpensThere}
use Rattle.rules.proofs.BytesAsSaid.{legal_said, every_said, ignored_said, started_said}
use Rattle.rules.proofs.NumeralsAsSaid.{number_said, id_said}
use Rattle.rules.proofs.ColumnsSaid.{columns_said, front_said}
use Rattle.rules.proofs.OpensThere.{opens_there}

abbrev head : List ℕ
head = bytes "#BOS 9 2 0 1 %% x"

abbrev eos : List ℕ
eos = bytes "#EOS 9"

abbrev bare_file : List ℕ
bare_file = bytes "no treebank\n#BOS 9 2 0 1 %% x\n#EOS 9\nrest"

abbrev bare_sentence : SentenceLines
bare_sentence =
    record {
      head = record { line = bytes "#BOS 9 2 0 1 %% x"; number = 9; editor1 = 3; date = 0; origin = 1; comment = bytes "x" };
      words = [];
      phrases = [];
      eos = bytes "#EOS 9";
    }

-- a table with one row, of this id
abbrev having : ℕ → ℕ → TableLines
having which id1 = record { which = which; bot = []; rows = record { line = []; id1 = id1; first = []; second = []; flag = 0 } ∷ []; eot = [] }

abbrev tables : List TableLines
tables = having 0 2 ∷ having 1 3 ∷ []

head_fits : HeadFits sentence_range tables bare_sentence.head
unfolding columns_from fields comment right_trim trim_from value_from decimal
head_fits =
    record {
      number_text = bytes "9";
      editor_text = bytes "2";
      date_text = bytes "0";
      origin_text = bytes "1";
      columns = front_said head (bytes "#BOS" ∷ bytes "9" ∷ bytes "2" ∷ bytes "0" ∷ bytes "1" ∷ []) refl;
      number_written = (number_said sentence_number (bytes "9") 9).0 refl;
      editor_written = (id_said (bytes "2") 3).0 refl;
      date_written = (number_said date (bytes "0") 0).0 refl;
      origin_written = (number_said origin_id (bytes "1") 1).0 refl;
      editor_known = inr (having 1 3, inr (inl refl), refl, inl refl);
      origin_known = (having 0 2, inl refl, refl, inl refl);
    }

end_fits : EosFits sentence_range 9 eos
unfolding columns_from value_from decimal
end_fits =
    record {
      number_text = bytes "9";
      columns = columns_said eos (bytes "#EOS" ∷ bytes "9" ∷ []) refl;
      number_written = (number_said sentence_number (bytes "9") 9).0 refl;
    }

bare_fits : SentenceFits sentence_range 3 tables bare_sentence
bare_fits =
    record {
      begins = head_fits;
      each_word = tt;
      each_phrase = tt;
      words_at_most = omega arith;
      edges_at_most = omega arith;
      ends = end_fits;
      numbered = record { differ = tt; no_gap = λ n. (λ i. absurd i, λ h. absurd (omega (arith, h.0, h.1))) };
      parents_of_words = tt;
      parents_of_phrases = tt;
    }

bare_stands : SentenceStands bare_file 12 bare_sentence
unfolding ignored
bare_stands =
    record {
      front = bytes "no treebank\n";
      others = bytes "#EOS 9" ∷ [];
      back = bytes "rest";
      parts = refl;
      place = refl;
      starts = inr (record { before = 11; place = refl; newline = refl });
      each_line = (
        record { legal_bytes = (every_said legal Legal legal_said head).0 refl; short = omega arith },
        (record { legal_bytes = (every_said legal Legal legal_said eos).0 refl; short = omega arith }, tt),
      );
      heeded = heeded_line (λ i. false≢true ((ignored_said eos).1 i)) no_line;
      each_starts = ((started_said head).0 refl, ((started_said eos).0 refl, tt));
    }

pub bare_opens : OpensThere bare_file 12 bare_sentence
bare_opens = opens_there bare_file 12 bare_sentence (tables, bare_fits) bare_stands
