-- The sentences of the file of `ExampleFile` from their places: where one begins, one byte further, inside a comment that spells
-- #BOS, and where what stands there is none. By computing.
use Prim.Native.Nat.{ℕ}
use Rattle.std.specs.Prelude.{Option, None, Some}
use mathlib.Core.List.{List, [], ◌∷◌, ◌++◌, map}
use lib.ListN.{drop}
use lib.Dec.{T}
use Rattle.rules.specs.Lists.{bytes, same}
use Rattle.rules.specs.Bytes.{ignored}
use Rattle.rules.specs.Texts.{right_trim, trim_from}
use Rattle.rules.specs.Columns.{columns_from, fields, comment}
use Rattle.rules.specs.Numbers.{value_from, decimal}
use Rattle.rules.specs.Rules.{broken, checked}
use Rattle.rules.specs.Tables.{has_id, has_tag, known}
use Rattle.rules.specs.Sentences.{Sentence, heading_of, end_rules, end_of}
use Rattle.rules.specs.Pairs.{pairs, paired}
use Rattle.rules.specs.Nodes.{parents_written, tags_short, tags_known, parents_allowed, word_of, phrase_of}
use Rattle.rules.specs.Keywords.{first_column}
use Rattle.rules.specs.Lines.{behind_one, among_nodes}
use Rattle.rules.specs.Phases.{line_at, taken, judged, after, step}
use Rattle.rules.specs.Sheets.{sentence_sheet}
use Rattle.rules.specs.SentenceFrom.{ended_line, heading_alone, sentence_from}
use Rattle.rules.proofs.ExampleFile.{file_b}
use Rattle.rules.proofs.ExampleSheets.{sheet12}

-- the number of a sentence, 0 where there is none
abbrev number_of : Option Sentence → ℕ
number_of None = 0
number_of (Some s) = s.heading.number

abbrev numbers_from : List ℕ → List ℕ → List ℕ
numbers_from file places = map (λ (at : ℕ). number_of (sentence_from file at)) places

-- ---- where a sentence begins, and one byte in front and behind; the file's first byte, the line behind a heading, the file's
-- end and behind it

pub from_places_of_b : T (same (numbers_from file_b (437 ∷ 436 ∷ 438 ∷ 593 ∷ 592 ∷ 594 ∷ 0 ∷ 461 ∷ 654 ∷ 700 ∷ [])) (12 ∷ 0 ∷ 0 ∷ 3 ∷ 0 ∷ 0 ∷ 0 ∷ 0 ∷ 0 ∷ 0 ∷ []))
unfolding ignored right_trim trim_from columns_from fields comment value_from decimal broken checked has_id has_tag known heading_of end_rules end_of pairs paired parents_written tags_short tags_known parents_allowed word_of phrase_of first_column behind_one among_nodes line_at taken judged after step ended_line heading_alone sentence_from
from_places_of_b = tt

-- the very sheet that an opening gives
abbrev sheet_of : Option Sentence → List ℕ
sheet_of None = []
sheet_of (Some s) = sentence_sheet s

pub sheet_from_437 : T (same (sheet_of (sentence_from file_b 437)) sheet12)
unfolding ignored right_trim trim_from columns_from fields comment value_from decimal broken checked has_id has_tag known heading_of end_rules end_of pairs paired parents_written tags_short tags_known parents_allowed word_of phrase_of first_column behind_one among_nodes line_at taken judged after step ended_line heading_alone sentence_from sentence_sheet
sheet_from_437 = tt

-- ---- a comment that spells a heading, with the lines of a sentence behind it: it begins no line

abbrev commented : List ℕ
commented = bytes "%% #BOS 3 -1 0 2\n# NN -- -- 0 RF 500\n#500 NP -- -- 0\n#EOS 3\n"

pub no_sentence_in_comment : T (same (numbers_from commented (0 ∷ 3 ∷ []) ++ numbers_from (drop 3 commented) (0 ∷ [])) (0 ∷ 0 ∷ 3 ∷ []))
unfolding ignored right_trim trim_from columns_from fields comment value_from decimal broken checked has_id has_tag known heading_of end_rules end_of pairs paired parents_written tags_short tags_known parents_allowed word_of phrase_of first_column behind_one among_nodes line_at taken judged after step ended_line heading_alone sentence_from
no_sentence_in_comment = tt

-- ---- what stands in front isn't asked: neither tables nor lines that are refused, nor whether the number is new; comment lines may
-- stand in the sentence

abbrev bare : List ℕ
bare = bytes "what a restore left\n#BOS 9 44 1 2 %% x\n\n%% y\nUlf NOTAG -- NO 500\n#500 ANY -- -- 0\n#EOS 9\n#BOS 9 4 1 2\n#EOS 9\n"

pub from_places_of_bare : T (same (numbers_from bare (0 ∷ 20 ∷ 89 ∷ [])) (0 ∷ 9 ∷ 9 ∷ []))
unfolding ignored right_trim trim_from columns_from fields comment value_from decimal broken checked has_id has_tag known heading_of end_rules end_of pairs paired parents_written tags_short tags_known parents_allowed word_of phrase_of first_column behind_one among_nodes line_at taken judged after step ended_line heading_alone sentence_from
from_places_of_bare = tt

-- ---- none: #EOS without its newline; with another number; a parent absent; a line refused in front of it; a heading with a
-- column missing, too many, a bad number, or not ended; another keyword

abbrev no_sentences : List (List ℕ)
no_sentences =
    bytes "#BOS 9 0 1 2\n#EOS 9"
    ∷ bytes "#BOS 9 0 1 2\n#EOS 8\n#EOS 9\n"
    ∷ bytes "#BOS 9 0 1 2\nUlf NN -- -- 500\n#EOS 9\n"
    ∷ bytes "#BOS 9 0 1 2\nUlf\n#EOS 9\n"
    ∷ bytes "#BOS 9 0 1\n#EOS 9\n"
    ∷ bytes "#BOS 9 0 1 2 3\n#EOS 9\n"
    ∷ bytes "#BOS 0 0 1 2\n#EOS 0\n"
    ∷ bytes "#BOS 9 0 1 0\n#EOS 9\n"
    ∷ bytes "#BOS 9 0 1 2"
    ∷ bytes "#BOT 9 0 1 2\n#EOS 9\n"
    ∷ bytes " #BOS 9 0 1 2\n#EOS 9\n"
    ∷ []

pub none_of_these : T (same (map (λ (file : List ℕ). number_of (sentence_from file 0)) no_sentences) (0 ∷ 0 ∷ 0 ∷ 0 ∷ 0 ∷ 0 ∷ 0 ∷ 0 ∷ 0 ∷ 0 ∷ 0 ∷ []))
unfolding ignored right_trim trim_from columns_from fields comment value_from decimal broken checked has_id has_tag known heading_of end_rules end_of pairs paired parents_written tags_short tags_known parents_allowed word_of phrase_of first_column behind_one among_nodes line_at taken judged after step ended_line heading_alone sentence_from
none_of_these = tt
