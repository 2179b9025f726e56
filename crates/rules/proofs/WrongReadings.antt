-- Wrong readings of the theorems' own statements, each refuted by a file. What is refuted is the part of a statement that an
-- edit of must-fail changes, here or in demands, as the edit changes it: whoever had the whole would have the part.
use Prim.Native.Nat.{ℕ, zero, suc, ◌≤◌, ◌<◌}
use native.Mathlib.Omega.{arith}
use mathlib.Core.Path.{◌≡◌, refl, sym, ap, ◌∙◌, subst}
use mathlib.Core.Logic.{◌⊎◌, inl, inr}
use mathlib.Core.Bool.{true, false≢true}
use mathlib.Core.List.{List, [], ◌∷◌, ◌++◌}
use lib.ListN.{length, take}
use lib.Dec.{leb, eqb}
use Rattle.rules.specs.Lists.{pick, bytes, every, Each}
use Rattle.rules.specs.Bytes.{ignored}
use Rattle.rules.specs.Texts.{no_text, right_trim, trim_from, front_bytes, behind_from}
use Rattle.rules.specs.Columns.{columns_from, fields, comment}
use Rattle.rules.specs.Numbers.{value_from, decimal}
use Rattle.rules.specs.Rules.{broken, checked}
use Rattle.rules.specs.Tables.{edge_tags, word_tags, has_id, has_tag, known}
use Rattle.rules.specs.Rows.{origin_row, editor_row, tag_row}
use Rattle.rules.specs.Sentences.{Edge, Node, Sentence, listed, heading_of, end_rules, end_of}
use Rattle.rules.specs.Pairs.{pairs, paired}
use Rattle.rules.specs.Nodes.{parents_written, tags_short, tags_known, parents_allowed, word_of, phrase_of}
use Rattle.rules.specs.Keywords.{format_of, table_opened, table_ended, first_column}
use Rattle.rules.specs.Lines.{at_start, behind_one, at_top, among_rows, among_nodes}
use Rattle.rules.specs.Phases.{line_at, taken, judged, after, step}
use Rattle.rules.specs.Reading.{Handed}
use Rattle.rules.specs.Sheets.{nodes}
use Rattle.rules.specs.Survey.{last_end, survey_of}
use Rattle.rules.specs.Climbing.{parent_in, climbed}
use Rattle.rules.specs.Cutting.{ended_within}
use Rattle.rules.proofs.CheckedByHand.{file_a}
use Rattle.rules.proofs.Cut.{last_end_lem}

-- ---- two files, read

-- A's sentence
abbrev ja : Node
ja =
    record {
      number = 0;
      word = record { start = 87; bytes = bytes "Ja" };
      tag = record { start = 90; bytes = bytes "ITJ" };
      morphology = record { start = 94; bytes = bytes "--" };
      edge = record { start = 97; bytes = bytes "--" };
      parent = 500;
      secondary = [];
      comment = no_text;
    }

abbrev clause : Node
clause =
    record {
      number = 500;
      word = no_text;
      tag = record { start = 109; bytes = bytes "S" };
      morphology = record { start = 111; bytes = bytes "--" };
      edge = record { start = 114; bytes = bytes "--" };
      parent = 0;
      secondary = [];
      comment = no_text;
    }

abbrev sentence_a : Sentence
sentence_a = record { start = 74; heading = record { number = 7; editor1 = 3; date = 0; origin = 1; comment = no_text }; words = ja ∷ []; phrases = clause ∷ [] }

abbrev handed_a : List Handed
handed_a = record { end = 126; sentence = sentence_a } ∷ []

pub handed_a_lem : (survey_of file_a).handed ≡ handed_a
unfolding ignored right_trim trim_from front_bytes behind_from columns_from fields comment value_from decimal broken checked has_id has_tag known origin_row editor_row tag_row heading_of end_rules end_of pairs paired parents_written tags_short tags_known parents_allowed word_of phrase_of format_of table_opened table_ended first_column at_start behind_one at_top among_rows among_nodes line_at taken judged after step survey_of
handed_a_lem = refl

-- A with a sentence more, and with one more that has a fault
abbrev pub nine : List ℕ
nine = bytes "#BOS 9 2 0 1\n#EOS 9\n"

abbrev pub faulty : List ℕ
faulty = file_a ++ bytes "#BOS 9 2 0 1\nx\n"

-- A with tables of tags, and with a secondary edge
abbrev tagged : List ℕ
tagged =
    take 74 file_a ++ bytes "#BOT WORDTAG\n1 ITJ N call\n#EOT WORDTAG\n#BOT EDGETAG\n1 HD head\n#EOT EDGETAG\n#BOS 7 2 0 1\nJa ITJ -- HD 500 RF 500\n#500 S -- -- 0\n#EOS 7\n"

pub none_cut : (survey_of (take 125 file_a ++ [])).handed ≡ []
unfolding ignored right_trim trim_from front_bytes behind_from columns_from fields comment value_from decimal broken checked has_id has_tag known origin_row editor_row tag_row heading_of end_rules end_of pairs paired parents_written tags_short tags_known parents_allowed word_of phrase_of format_of table_opened table_ended first_column at_start behind_one at_top among_rows among_nodes line_at taken judged after step survey_of
none_cut = refl

pub last_is_nine : last_end (survey_of (take 126 file_a ++ nine)).handed ≡ 146
unfolding ignored right_trim trim_from front_bytes behind_from columns_from fields comment value_from decimal broken checked has_id has_tag known origin_row editor_row tag_row heading_of end_rules end_of pairs paired parents_written tags_short tags_known parents_allowed word_of phrase_of format_of table_opened table_ended first_column at_start behind_one at_top among_rows among_nodes line_at taken judged after step survey_of
last_is_nine = refl

pub of_faulty : ((survey_of faulty).place ≡ 139) × ((survey_of faulty).sound_end ≡ 126) × ((survey_of (take 139 faulty)).refusal ≡ 23)
unfolding ignored right_trim trim_from front_bytes behind_from columns_from fields comment value_from decimal broken checked has_id has_tag known origin_row editor_row tag_row heading_of end_rules end_of pairs paired parents_written tags_short tags_known parents_allowed word_of phrase_of format_of table_opened table_ended first_column at_start behind_one at_top among_rows among_nodes line_at taken judged after step survey_of
of_faulty = (refl, refl, refl)

-- what is said of every sentence handed out is said of A's
of_a : (P : Handed → Type 0) → ((f : List ℕ) → Each P (survey_of f).handed) → P (record { end = 126; sentence = sentence_a })
of_a P w = (subst (Each P) handed_a_lem (w file_a)).0

-- ---- chains of parents

-- the last step, which leads to 0, rises too
abbrev LastRises : (ℕ → ℕ) → ℕ → Type 0
LastRises parent n = (steps : ℕ) × (1 ≤ steps) × ((k : ℕ) → suc k ≤ steps → climbed parent k n < climbed parent (suc k) n) × (climbed parent steps n ≡ 0)

pub climbs_last_step_rises : ((f : List ℕ) → Each (λ (h : Handed). Each (λ (n : Node). LastRises (parent_in h.sentence) n.number) (nodes h.sentence)) (survey_of f).handed) → ⊥
climbs_last_step_rises w = let c = (of_a _ w).0 in by c.0 c.1 c.2 c.3
  where
    by : (steps : ℕ) → 1 ≤ steps → ((k : ℕ) → suc k ≤ steps → climbed (parent_in sentence_a) k 0 < climbed (parent_in sentence_a) (suc k) 0) → climbed (parent_in sentence_a) steps 0 ≡ 0 → ⊥
    by zero one rises top = omega (arith, one)
    by (suc k) one rises top = omega (arith, rises k (omega arith), top)

-- in no more steps than there are phrases
abbrev Fewer : (ℕ → ℕ) → ℕ → ℕ → Type 0
Fewer parent most n = (steps : ℕ) × (1 ≤ steps) × (steps ≤ most) × (climbed parent steps n ≡ 0)

pub climbs_one_step_fewer : ((f : List ℕ) → Each (λ (h : Handed). Each (λ (n : Node). Fewer (parent_in h.sentence) (length h.sentence.phrases) n.number) (nodes h.sentence)) (survey_of f).handed) → ⊥
climbs_one_step_fewer w = let c = (of_a _ w).0 in by c.0 c.1 c.2 c.3
  where
    by : (steps : ℕ) → 1 ≤ steps → steps ≤ 1 → climbed (parent_in sentence_a) steps 0 ≡ 0 → ⊥
    by zero one few top = omega (arith, one)
    by (suc zero) one few top = omega (arith, top)
    by (suc (suc k)) one few top = omega (arith, few)

-- a chain goes on by the node's own number
abbrev itself_among : List Node → ℕ → ℕ
itself_among [] k = 0
itself_among (n ∷ ns) k = let later = itself_among ns k in pick (eqb n.number k) n.number later

pub parents_number_for_parent : ((f : List ℕ) → Each (λ (h : Handed). Each (λ (n : Node). Fewer (itself_among (nodes h.sentence)) (suc (length h.sentence.phrases)) n.number) (nodes h.sentence)) (survey_of f).handed) → ⊥
parents_number_for_parent w = let c = (of_a _ w).1.0 in by c.0 c.1 c.2 c.3
  where
    by : (steps : ℕ) → 1 ≤ steps → steps ≤ 2 → climbed (itself_among (ja ∷ clause ∷ [])) steps 500 ≡ 0 → ⊥
    by zero one few top = omega (arith, one)
    by (suc zero) one few top = omega (arith, top)
    by (suc (suc zero)) one few top = omega (arith, top)
    by (suc (suc (suc k))) one few top = omega (arith, few)

-- ---- references

-- a node's parent is always a phrase
pub references_parent_always_phrase : ((f : List ℕ) → Each (λ (h : Handed). Each (λ (n : Node). listed h.sentence.phrases n.parent ≡ true) h.sentence.phrases) (survey_of f).handed) → ⊥
references_parent_always_phrase w = false≢true (of_a _ w).0

-- a secondary label stands in EDGETAG
pub references_labels_among_edges : ((f : List ℕ) → Each (λ (h : Handed). Each (λ (n : Node). every (λ (e : Edge). known (survey_of f).tables edge_tags e.label) n.secondary ≡ true) h.sentence.words) (survey_of f).handed) → ⊥
unfolding ignored right_trim trim_from front_bytes behind_from columns_from fields comment value_from decimal broken checked has_id has_tag known origin_row editor_row tag_row heading_of end_rules end_of pairs paired parents_written tags_short tags_known parents_allowed word_of phrase_of format_of table_opened table_ended first_column at_start behind_one at_top among_rows among_nodes line_at taken judged after step survey_of
references_labels_among_edges w = false≢true (w tagged).0.0

-- the tag of a phrase stands in WORDTAG
pub references_phrase_tags_among_words : ((f : List ℕ) → Each (λ (h : Handed). Each (λ (n : Node). known (survey_of f).tables word_tags n.tag ≡ true) h.sentence.phrases) (survey_of f).handed) → ⊥
unfolding ignored right_trim trim_from front_bytes behind_from columns_from fields comment value_from decimal broken checked has_id has_tag known origin_row editor_row tag_row heading_of end_rules end_of pairs paired parents_written tags_short tags_known parents_allowed word_of phrase_of format_of table_opened table_ended first_column at_start behind_one at_top among_rows among_nodes line_at taken judged after step survey_of
references_phrase_tags_among_words w = false≢true (w tagged).0.0

-- ---- cuts

-- an end line counts without its newline
abbrev ended_nearly : ℕ → List Handed → List Handed
ended_nearly n [] = []
ended_nearly n (h ∷ hs) = let later = ended_nearly n hs in pick (leb h.end (suc n)) (h ∷ later) later

pub cut_newline_not_needed : ((f : List ℕ) (n : ℕ) (x : List ℕ) → (others : List Handed) × ((survey_of (take n f ++ x)).handed ≡ ended_nearly n (survey_of f).handed ++ others)) → ⊥
cut_newline_not_needed w =
    let c = w file_a 125 [] in
    let e : [] ≡ ended_nearly 125 handed_a ++ c.0 = sym none_cut ∙ c.1 ∙ ap (λ (hs : List Handed). ended_nearly 125 hs ++ c.0) handed_a_lem in
    let z : 0 ≡ suc (length c.0) = ap length e in
    omega (arith, z)

-- the sentences in front of the cut come last
pub cut_others_first : ((f : List ℕ) (n : ℕ) (x : List ℕ) → (others : List Handed) × ((survey_of (take n f ++ x)).handed ≡ others ++ ended_within n (survey_of f).handed)) → ⊥
cut_others_first w =
    let c = w file_a 126 nine in
    let e = sym last_is_nine ∙ ap last_end (c.1 ∙ ap (λ (hs : List Handed). c.0 ++ ended_within 126 hs) handed_a_lem) ∙ last_end_lem c.0 (record { end = 126; sentence = sentence_a }) in
    let z : ◌≡◌ {A = ℕ} 146 126 = e in
    omega (arith, z)

-- the sound part ends in front of the fault
pub soundpart_up_to_fault : ((f : List ℕ) → ((survey_of f).sound_end ≡ 0) ⊎ ((survey_of (take (survey_of f).place f)).refusal ≡ 0)) → ⊥
soundpart_up_to_fault w = by (w faulty)
  where
    by : ((survey_of faulty).sound_end ≡ 0) ⊎ ((survey_of (take (survey_of faulty).place faulty)).refusal ≡ 0) → ⊥
    by (inl e) = omega (arith, e, of_faulty.1)
    by (inr e) = let z : (survey_of (take 139 faulty)).refusal ≡ 0 = subst (λ (n : ℕ). (survey_of (take n faulty)).refusal ≡ 0) of_faulty.0 e in omega (arith, z, of_faulty.2)
