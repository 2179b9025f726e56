-- A coordination with a shared subject: the higher clause has a secondary edge to the lower one; and two clauses whose secondary
-- edges lead round in a circle (document 02, request 1). Survey, sheet, edges and tidy text, and what is told where a parent is
-- changed, by computing; that the tidy text says the same by the round trip.
use Prim.Native.String.{String}
use Prim.Native.Nat.{ℕ, ◌≤◌, ◌<◌}
use native.Mathlib.Omega.{arith}
use mathlib.Core.Path.{◌≡◌, refl, subst}
use mathlib.Core.List.{List, [], ◌∷◌, ◌++◌}
use lib.ListN.{length, take, drop}
use lib.Dec.{T}
use Rattle.rules.specs.Lists.{bytes, every, same, Each, inserted, sorted}
use Rattle.rules.specs.Bytes.{ignored}
use Rattle.rules.specs.Texts.{right_trim, trim_from, front_bytes, behind_from}
use Rattle.rules.specs.Columns.{columns_from, fields, comment}
use Rattle.rules.specs.Numbers.{file_limit, value_from, decimal}
use Rattle.rules.specs.Rules.{broken, checked}
use Rattle.rules.specs.Tables.{has_id, has_tag, known}
use Rattle.rules.specs.Rows.{origin_row, editor_row, tag_row}
use Rattle.rules.specs.Sentences.{Edge, Node, heading_of, end_rules, end_of}
use Rattle.rules.specs.Pairs.{pairs, paired}
use Rattle.rules.specs.Nodes.{parents_written, tags_short, tags_known, parents_allowed, word_of, phrase_of}
use Rattle.rules.specs.Keywords.{format_of, table_opened, table_ended, first_column}
use Rattle.rules.specs.Lines.{at_start, behind_one, at_top, among_rows, among_nodes}
use Rattle.rules.specs.Phases.{line_at, taken, judged, after, step}
use Rattle.rules.specs.Reading.{Handed}
use Rattle.rules.specs.Sheets.{nodes, sentence_sheet, edge_list}
use Rattle.rules.specs.Survey.{survey_of}
use Rattle.rules.specs.Opening.{sentence_of}
use Rattle.rules.specs.Meaning.{meaning_of}
use Rattle.rules.specs.Same.{SameMeaning}
use Rattle.rules.specs.Tidy.{digits_within, digits_of, parted, tidy_text}
use Rattle.rules.specs.Writing.{tidy_of}
use Rattle.rules.proofs.CheckedByHand.{Case, case, holds}
use Rattle.rules.proofs.ExampleSheets.{zeros, sheet_of, edges_of}
use Rattle.rules.proofs.RoundTrip.{round_trip}

-- Kim comes and goes: clause 501 has the subject and shares it with clause 500
abbrev pub file_c : List ℕ
file_c =
    bytes "#FORMAT 3\n#BOT ORIGIN\n1 lab\n#EOT ORIGIN\n#BOT EDITOR\n2 kim Kim\n#EOT EDITOR\n"
    ++ bytes "#BOS 7 2 0 1\nKim NE -- SB 501\nkommt VVFIN -- HD 501\nund KON -- CD 502\ngeht VVFIN -- HD 500\n"
    ++ bytes "#500 S -- CJ 502\n#501 S -- CJ 502 SB 500\n#502 CS -- -- 0\n#EOS 7\n"
    ++ bytes "#BOS 8 2 0 1\n#500 S -- -- 0 RE 501\n#501 S -- -- 0 RE 500\n#EOS 8\n"

-- C with other bytes in place of those from a place up to another
abbrev changed_c : ℕ → ℕ → String → List ℕ
changed_c from to s = take from file_c ++ bytes s ++ drop to file_c

-- whole; the secondary parent of 501 its primary parent, itself, absent, no phrase; its primary parent 500; a secondary edge of a
-- word; in the circle, 500 itself
abbrev pub sharing_cases : List Case
sharing_cases =
    case file_c 0 293 2 293
    ∷ case (changed_c 202 205 "502") 0 293 2 293
    ∷ case (changed_c 202 205 "501") 19 202 0 0
    ∷ case (changed_c 202 205 "503") 22 222 0 0
    ∷ case (changed_c 202 205 "499") 8 202 0 0
    ∷ case (changed_c 195 198 "500") 19 195 0 0
    ∷ case (changed_c 103 103 " SB 500") 0 300 2 300
    ∷ case (changed_c 260 263 "500") 19 260 1 229
    ∷ []

pub sharing : T (every holds sharing_cases)
unfolding ignored right_trim trim_from front_bytes behind_from columns_from fields comment value_from decimal broken checked has_id has_tag known origin_row editor_row tag_row heading_of end_rules end_of pairs paired parents_written tags_short tags_known parents_allowed word_of phrase_of format_of table_opened table_ended first_column at_start behind_one at_top among_rows among_nodes line_at taken judged after step survey_of
sharing = tt

-- ---- sentence 7: nodes 0 to 3, 500, 501, 502; its secondary edge, and those of sentence 8

abbrev pub sheet7 : List ℕ
sheet7 =
    (7 ∷ 3 ∷ 0 ∷ 1 ∷ 0 ∷ 0 ∷ 4 ∷ 3 ∷ 1 ∷ [])
    ++ (87 ∷ 3 ∷ 91 ∷ 2 ∷ 94 ∷ 2 ∷ 97 ∷ 2 ∷ 501 ∷ 0 ∷ 0 ∷ [])
    ++ (104 ∷ 5 ∷ 110 ∷ 5 ∷ 116 ∷ 2 ∷ 119 ∷ 2 ∷ 501 ∷ 0 ∷ 0 ∷ [])
    ++ (126 ∷ 3 ∷ 130 ∷ 3 ∷ 134 ∷ 2 ∷ 137 ∷ 2 ∷ 502 ∷ 0 ∷ 0 ∷ [])
    ++ (144 ∷ 4 ∷ 149 ∷ 5 ∷ 155 ∷ 2 ∷ 158 ∷ 2 ∷ 500 ∷ 0 ∷ 0 ∷ [])
    ++ zeros 5456
    ++ (0 ∷ 0 ∷ 170 ∷ 1 ∷ 172 ∷ 2 ∷ 175 ∷ 2 ∷ 502 ∷ 0 ∷ 0 ∷ [])
    ++ (0 ∷ 0 ∷ 187 ∷ 1 ∷ 189 ∷ 2 ∷ 192 ∷ 2 ∷ 502 ∷ 0 ∷ 0 ∷ [])
    ++ (0 ∷ 0 ∷ 211 ∷ 2 ∷ 214 ∷ 2 ∷ 217 ∷ 2 ∷ 0 ∷ 0 ∷ 0 ∷ [])
    ++ zeros 5467

pub sheet_of_7 : T (same (sheet_of (sentence_of 7 (survey_of file_c).handed)) sheet7)
unfolding ignored right_trim trim_from front_bytes behind_from columns_from fields comment value_from decimal broken checked has_id has_tag known origin_row editor_row tag_row heading_of end_rules end_of pairs paired parents_written tags_short tags_known parents_allowed word_of phrase_of format_of table_opened table_ended first_column at_start behind_one at_top among_rows among_nodes line_at taken judged after step survey_of sentence_sheet
sheet_of_7 = tt

pub edges_of_7 : T (same (edges_of (sentence_of 7 (survey_of file_c).handed)) ((501 ∷ 199 ∷ 2 ∷ 500 ∷ []) ++ zeros 2044))
unfolding ignored right_trim trim_from front_bytes behind_from columns_from fields comment value_from decimal broken checked has_id has_tag known origin_row editor_row tag_row heading_of end_rules end_of pairs paired parents_written tags_short tags_known parents_allowed word_of phrase_of format_of table_opened table_ended first_column at_start behind_one at_top among_rows among_nodes line_at taken judged after step survey_of edge_list
edges_of_7 = tt

pub edges_of_8 : T (same (edges_of (sentence_of 8 (survey_of file_c).handed)) ((500 ∷ 257 ∷ 2 ∷ 501 ∷ 501 ∷ 279 ∷ 2 ∷ 500 ∷ []) ++ zeros 2040))
unfolding ignored right_trim trim_from front_bytes behind_from columns_from fields comment value_from decimal broken checked has_id has_tag known origin_row editor_row tag_row heading_of end_rules end_of pairs paired parents_written tags_short tags_known parents_allowed word_of phrase_of format_of table_opened table_ended first_column at_start behind_one at_top among_rows among_nodes line_at taken judged after step survey_of edge_list
edges_of_8 = tt

-- ---- the tidy text, to the byte, and read back

abbrev pub tidy_c : List ℕ
tidy_c =
    bytes "#FORMAT 3\n#BOT ORIGIN\n1\tlab\n#EOT ORIGIN\n#BOT EDITOR\n2\tkim\tKim\n#EOT EDITOR\n"
    ++ bytes "#BOS 7 2 0 1\nKim\tNE\t--\tSB\t501\nkommt\tVVFIN\t--\tHD\t501\nund\tKON\t--\tCD\t502\ngeht\tVVFIN\t--\tHD\t500\n"
    ++ bytes "#500\tS\t--\tCJ\t502\n#501\tS\t--\tCJ\t502\tSB\t500\n#502\tCS\t--\t--\t0\n#EOS 7\n"
    ++ bytes "#BOS 8 2 0 1\n#500\tS\t--\t--\t0\tRE\t501\n#501\tS\t--\t--\t0\tRE\t500\n#EOS 8\n"

pub tidy_of_c : tidy_of file_c ≡ tidy_c
unfolding ignored right_trim trim_from front_bytes behind_from columns_from fields comment value_from decimal broken checked has_id has_tag known origin_row editor_row tag_row heading_of end_rules end_of pairs paired parents_written tags_short tags_known parents_allowed word_of phrase_of format_of table_opened table_ended first_column at_start behind_one at_top among_rows among_nodes line_at taken judged after step survey_of inserted sorted meaning_of digits_within digits_of parted tidy_text tidy_of
tidy_of_c = refl

accepted_c : (survey_of file_c).refusal ≡ 0
unfolding ignored right_trim trim_from front_bytes behind_from columns_from fields comment value_from decimal broken checked has_id has_tag known origin_row editor_row tag_row heading_of end_rules end_of pairs paired parents_written tags_short tags_known parents_allowed word_of phrase_of format_of table_opened table_ended first_column at_start behind_one at_top among_rows among_nodes line_at taken judged after step survey_of
accepted_c = refl

pub read_back_c : ((survey_of tidy_c).refusal ≡ 0) × SameMeaning tidy_c file_c
read_back_c =
    let short : length (tidy_of file_c) ≤ file_limit = rw (tidy_of_c) (omega arith) in
    subst (λ (text : List ℕ). ((survey_of text).refusal ≡ 0) × SameMeaning text file_c) tidy_of_c (round_trip file_c accepted_c short)

-- ---- that secondary parents rise is so no longer

pub secondary_parents_rise : ((f : List ℕ) → Each (λ (h : Handed). Each (λ (n : Node). Each (λ (e : Edge). n.number < e.parent) n.secondary) (nodes h.sentence)) (survey_of f).handed) → ⊥
unfolding ignored right_trim trim_from front_bytes behind_from columns_from fields comment value_from decimal broken checked has_id has_tag known origin_row editor_row tag_row heading_of end_rules end_of pairs paired parents_written tags_short tags_known parents_allowed word_of phrase_of format_of table_opened table_ended first_column at_start behind_one at_top among_rows among_nodes line_at taken judged after step survey_of
secondary_parents_rise w = omega (arith, (w file_c).0.1.1.1.1.1.0.0)
