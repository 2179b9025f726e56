-- Document 01, the limits of texts: of exactly its limit each text is accepted, with one byte more it is refused by 10; by the
-- reading, computed together, and so by the grammar, which accepts what the reading accepts.
use Prim.Native.Nat.{ℕ}
use native.Mathlib.Omega.{arith}
use mathlib.Core.Path.{◌≡◌, refl, ap, ◌∙◌}
use mathlib.Core.Bool.{Bool, true}
use mathlib.Core.List.{List, [], ◌∷◌, ◌++◌}
use lib.ListN.{get_or}
use lib.Dec.{ltb, eqb}
use borrow.Author.Tests.{ltb-true, eqb-true}
use Rattle.rules.specs.Lists.{every, Each}
use Rattle.rules.specs.Bytes.{ignored}
use Rattle.rules.specs.Texts.{right_trim, trim_from, front_bytes, behind_from}
use Rattle.rules.specs.Columns.{columns_from, fields, comment}
use Rattle.rules.specs.Numbers.{value_from, decimal}
use Rattle.rules.specs.Rules.{broken, checked}
use Rattle.rules.specs.Tables.{has_id, has_tag, known}
use Rattle.rules.specs.Rows.{origin_row, editor_row, tag_row}
use Rattle.rules.specs.Sentences.{heading_of, end_rules, end_of}
use Rattle.rules.specs.Pairs.{pairs, paired}
use Rattle.rules.specs.Nodes.{parents_written, tags_short, tags_known, parents_allowed, word_of, phrase_of}
use Rattle.rules.specs.Keywords.{format_of, table_opened, table_ended, first_column}
use Rattle.rules.specs.Lines.{at_start, behind_one, at_top, among_rows, among_nodes}
use Rattle.rules.specs.Phases.{line_at, taken, judged, after, step}
use Rattle.rules.specs.Survey.{told, survey_of}
use Rattle.rules.specs.Grammar.{Fits}
use Rattle.rules.proofs.Conjunctions.{and_left, and_right}
use Rattle.rules.proofs.Same.{same_eq}
use Rattle.rules.proofs.AcceptedExactly.{accepted_exactly}
use Rattle.rules.proofs.CheckedByHand.{Case, case, four_numbers, holds}
use Rattle.rules.proofs.RefusalCases.{behind_format, inside, run, bad_texts, each_bad_text}

-- ---- of exactly the limit, white bytes at both ends not counted: with all seven tables, and without those of tags

abbrev all_tables : List ℕ
all_tables =
    behind_format "#BOT ORIGIN\n1  " ++ run 128 "n" "  %%  " ++ run 160 "c" " \n#EOT ORIGIN\n#BOT EDITOR\n2 " ++ run 16 "l" "  "
    ++ run 40 "n" "  \n#EOT EDITOR\n#BOT WORDTAG\n1 TTTTTTTTTT Y  " ++ run 80 "d" "  \n#EOT WORDTAG\n#BOT MORPHTAG\n1 " ++ run 32 "m" " "
    ++ run 80 "d" "\n#EOT MORPHTAG\n#BOT NODETAG\n1 SSSSSSSSSS " ++ run 80 "d" "\n2 S d\n#EOT NODETAG\n#BOT EDGETAG\n1 eeeeeeeeee "
    ++ run 80 "d" "\n#EOT EDGETAG\n#BOT SECEDGETAG\n1 ssssssssss " ++ run 80 "d" "\n#EOT SECEDGETAG\n#BOS 7 2 0 1\n"

abbrev long_nodes : List ℕ
long_nodes =
    run 2 "J" " TTTTTTTTTT " ++ run 32 "m" " eeeeeeeeee 500 ssssssssss 500\n#500 SSSSSSSSSS "
    ++ run 32 "m" " eeeeeeeeee 501 ssssssssss 501\n#501 S -- -- 0\n#EOS 7\n"

abbrev exact_texts : List Case
exact_texts =
    case (all_tables ++ long_nodes) 0 1252 1 1252
    ∷ case (inside "" ++ long_nodes) 0 265 1 265
    ∷ []

-- ---- one byte more, where `bad_texts` has it not

abbrev longer_texts : List Case
longer_texts =
    case (behind_format "#BOT WORDTAG\n1 TTTTTTTTTTT Y d\n") 10 25 0 0
    ∷ case (behind_format "#BOT WORDTAG\n1 NN Y " ++ run 81 "d" "\n") 10 30 0 0
    ∷ case (behind_format "#BOT MORPHTAG\n1 " ++ run 33 "m" " d\n") 10 26 0 0
    ∷ case (behind_format "#BOT EDGETAG\n1 eeeeeeeeeee d\n") 10 25 0 0
    ∷ case (behind_format "#BOT SECEDGETAG\n1 sssssssssss d\n") 10 28 0 0
    ∷ case (inside "#500 S " ++ run 33 "m" " -- 0\n") 10 94 0 0
    ∷ case (inside "#500 S -- eeeeeeeeeee 501\n") 10 97 0 0
    ∷ case (inside "#500 S -- -- 0 sssssssssss 501\n") 10 102 0 0
    ∷ []

pub each_exact : every holds exact_texts ≡ true
unfolding ignored right_trim trim_from front_bytes behind_from columns_from fields comment value_from decimal broken checked has_id has_tag known origin_row editor_row tag_row heading_of end_rules end_of pairs paired parents_written tags_short tags_known parents_allowed word_of phrase_of format_of table_opened table_ended first_column at_start behind_one at_top among_rows among_nodes line_at taken judged after step survey_of
each_exact = refl

pub each_longer : every holds longer_texts ≡ true
unfolding ignored right_trim trim_from front_bytes behind_from columns_from fields comment value_from decimal broken checked has_id has_tag known origin_row editor_row tag_row heading_of end_rules end_of pairs paired parents_written tags_short tags_known parents_allowed word_of phrase_of format_of table_opened table_ended first_column at_start behind_one at_top among_rows among_nodes line_at taken judged after step survey_of
each_longer = refl

-- ---- by the grammar

its_refusal : (c : Case) → holds c ≡ true → (survey_of c.file).refusal ≡ get_or c.tells 0 0
its_refusal c h = ap (λ (ns : List ℕ). get_or ns 0 0) (same_eq (four_numbers (told (survey_of c.file))) c.tells h)

-- a case that is refused, or accepted, is so by the grammar
abbrev refused_case : Case → Bool
refused_case c = ltb 0 (get_or c.tells 0 0)

abbrev accepted_case : Case → Bool
accepted_case c = eqb (get_or c.tells 0 0) 0

pub unfit : (cs : List Case) → every holds cs ≡ true → every refused_case cs ≡ true → Each (λ (c : Case). Fits c.file → ⊥) cs
unfit [] h r = tt
unfit (c ∷ cs) h r =
    let number = its_refusal c (and_left (holds c) (every holds cs) h) in
    let one = ltb-true 0 (get_or c.tells 0 0) (and_left (refused_case c) (every refused_case cs) r) in (
      λ f. omega (arith, number, one, (accepted_exactly c.file).1 f),
      unfit cs (and_right (holds c) (every holds cs) h) (and_right (refused_case c) (every refused_case cs) r),
    )

pub fit : (cs : List Case) → every holds cs ≡ true → every accepted_case cs ≡ true → Each (λ (c : Case). Fits c.file) cs
fit [] h a = tt
fit (c ∷ cs) h a =
    let number = its_refusal c (and_left (holds c) (every holds cs) h) in
    let zero = eqb-true (get_or c.tells 0 0) 0 (and_left (accepted_case c) (every accepted_case cs) a) in (
      (accepted_exactly c.file).0 (number ∙ zero),
      fit cs (and_right (holds c) (every holds cs) h) (and_right (accepted_case c) (every accepted_case cs) a),
    )

pub exact_fit : Each (λ (c : Case). Fits c.file) exact_texts
exact_fit = fit exact_texts each_exact refl

pub longer_unfit : Each (λ (c : Case). Fits c.file → ⊥) bad_texts × Each (λ (c : Case). Fits c.file → ⊥) longer_texts
longer_unfit = (unfit bad_texts each_bad_text refl, unfit longer_texts each_longer refl)
