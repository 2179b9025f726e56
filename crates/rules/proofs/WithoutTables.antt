-- A line of a sentence that is granted is granted where there are no tables too, and is taken for the same: only rule 18 asks
-- them. By the line's first column, and by the rules of words and phrases.
use Prim.Native.Nat.{ℕ}
use mathlib.Core.Path.{◌≡◌, refl, sym, ap, ◌∙◌, subst}
use mathlib.Core.Bool.{Bool, true, false, not, ◌||◌}
use mathlib.Core.List.{List, [], ◌∷◌}
use Rattle.rules.specs.Lists.{pick, bytes, every}
use Rattle.rules.specs.Bytes.{ignored}
use Rattle.rules.specs.Texts.{Text, reads}
use Rattle.rules.specs.Columns.{columns, fields}
use Rattle.rules.specs.Rules.{Rule, rule, Verdict, refused, granted, checked}
use Rattle.rules.specs.Tables.{Tables, no_tables, reserved, present, known, has_tag, rows_of, table, word_tags, morph_tags, node_tags, edge_tags, sec_edge_tags}
use Rattle.rules.specs.Sentences.{Sentence, so_far, end_of}
use Rattle.rules.specs.Pairs.{Pair}
use Rattle.rules.specs.Nodes.{its_pairs, parents_written, tags_short, tags_known, parents_allowed, word_of, phrase_of}
use Rattle.rules.specs.Keywords.{first_column, starts_word, starts_phrase}
use Rattle.rules.specs.Phases.{Preamble, in_sentence, Answer, refuse, go, hand, next, step}
use Rattle.rules.proofs.Conjunctions.{and_both, every_map}
use Rattle.rules.proofs.RuleLaws.{holds_of}
use Rattle.rules.proofs.PlacelessNodes.{NodeHolds}
use Rattle.rules.proofs.NodeLines.{WordHolds, word_passes, word_cases, PhraseHolds, phrase_passes, phrase_cases}
use Rattle.rules.proofs.Takings.{go_word, go_phrase, answer_nodes, answer_at, answer_to, line_rules, step_answers}

abbrev pub alone : Preamble
alone = record { format = 3; tables = no_tables }

-- ---- with no table every tag is known

pub every_of {ℓ} : {A : Type ℓ} (f : A → Bool) → ((x : A) → f x ≡ true) → (xs : List A) → every f xs ≡ true
every_of f all [] = refl
every_of f all (x ∷ xs) = and_both (f x) (every f xs) (all x) (every_of f all xs)

-- where a tag's table is absent
unasked : (reserved there found : Bool) → there ≡ false → (reserved || not there || found) ≡ true
unasked true there found e = refl
unasked false there found e = ap (λ (t : Bool). not t || found) e

known_alone : (n : ℕ) → present n no_tables ≡ false → (t : Text) → known no_tables n t ≡ true
unfolding known
known_alone n e t = unasked (reserved t) (present n no_tables) (has_tag t (rows_of (table n no_tables))) e

tags_alone : (format : ℕ) (fs : List Text) (tags : ℕ) → present tags no_tables ≡ false → every holds_of (tags_known format fs no_tables tags) ≡ true
unfolding tags_known
tags_alone format fs tags e =
    let label : Pair → Rule = λ (p : Pair). rule 18 p.label (known no_tables sec_edge_tags p.label) in
    and_both _ _ (known_alone tags e _)
    (and_both _ _ (known_alone morph_tags refl _)
    (and_both _ _ (known_alone edge_tags refl _)
    (every_map holds_of label (its_pairs format fs) ∙ every_of (λ (p : Pair). known no_tables sec_edge_tags p.label) (λ p. known_alone sec_edge_tags refl p.label) (its_pairs format fs))))

-- the format says nothing yet of where the fields stand
node_alone : (format : ℕ) (fs : List Text) (ts : Tables) (tags k : ℕ) → present tags no_tables ≡ false → NodeHolds format fs ts tags k → NodeHolds 3 fs no_tables tags k
unfolding parents_written tags_short parents_allowed
node_alone format fs ts tags k e h = record { shape = h.shape; parents = h.parents; short = h.short; tabled = tags_alone 3 fs tags e; allowed = h.allowed }

-- ---- what is granted with tables is granted without

-- an answer with tables, and the answer without
abbrev pub Alike : Preamble → Sentence → Answer → Answer → Type 0
Alike p s (refuse r) b = Unit {0}
Alike p s (go phase) b = (t : Sentence) × (t.start ≡ s.start) × (phase ≡ in_sentence p t) × (b ≡ go (in_sentence alone t))
Alike p s (hand q t) b = (t ≡ s) × (b ≡ hand alone s)

module _ (p : Preamble) (s : Sentence) where
  bad : (b : Answer) (r : Rule) → Alike p s (refuse r) b
  bad b r = tt

  both_pick : (t : Bool) (a b c d : Answer) → Alike p s a c → Alike p s b d → Alike p s (pick t a b) (pick t c d)
  both_pick true a b c d k l = k
  both_pick false a b c d k l = l

  both_next : {A : Type 0} (f g : A → Answer) → ((x : A) → Alike p s (f x) (g x)) → (v : Verdict A) → Alike p s (next f v) (next g v)
  both_next f g k (refused r) = tt
  both_next f g k (granted x) = k x

  module _ (line : Text) where
    abbrev fs : List Text
    fs = fields (columns line)

    words_alike : Alike p s (next (go_word p s) (word_of p.format p.tables (so_far s) line)) (next (go_word alone s) (word_of 3 no_tables (so_far s) line))
    words_alike =
        let b = next (go_word alone s) (word_of 3 no_tables (so_far s) line) in
        word_cases p.format p.tables (so_far s) line (λ a. Alike p s a b) (λ r h. tt) (go_word p s)
        (λ h.
        let k : WordHolds 3 no_tables (so_far s) line = record { own = node_alone p.format fs p.tables word_tags _ refl h.own; first = h.first; few = h.few; room = h.room } in
        (_, refl, refl, ap (next (go_word alone s)) (word_passes 3 no_tables (so_far s) line k)))

    phrases_alike : Alike p s (next (go_phrase p s) (phrase_of p.format p.tables (so_far s) line)) (next (go_phrase alone s) (phrase_of 3 no_tables (so_far s) line))
    phrases_alike =
        let b = next (go_phrase alone s) (phrase_of 3 no_tables (so_far s) line) in
        phrase_cases p.format p.tables (so_far s) line (λ a. Alike p s a b) (λ r h. tt) (go_phrase p s)
        (λ i h.
        let k : PhraseHolds 3 no_tables (so_far s) line i = record { own = node_alone p.format fs p.tables node_tags i refl h.own; number = h.number; new = h.new; room = h.room } in
        (_, refl, refl, ap (next (go_phrase alone s)) (phrase_passes 3 no_tables (so_far s) line i k)))

    nodes_alike : (first : Text) → Alike p s (answer_nodes line first p s) (answer_nodes line first alone s)
    unfolding answer_nodes
    nodes_alike first =
        both_pick (reads (bytes "#EOS") first) _ _ _ _ (both_next (λ n. hand p s) (λ n. hand alone s) (λ n. (refl, refl)) (end_of (so_far s) line))
        (both_pick (starts_phrase first) _ _ _ _ phrases_alike
        (both_pick (starts_word first) _ _ _ _ words_alike tt))

  -- whatever numbers sentences in front have
  pub step_alike : (used others : List ℕ) (line : Text) → Alike p s (step (in_sentence p s) used line) (step (in_sentence alone s) others line)
  unfolding answer_to answer_at
  step_alike used others line =
      subst (λ (a : Answer). Alike p s a (step (in_sentence alone s) others line)) (sym (step_answers (in_sentence p s) used line))
      (subst (Alike p s (next (answer_to (in_sentence p s) used) (checked (line_rules line) line))) (sym (step_answers (in_sentence alone s) others line))
      (both_next (answer_to (in_sentence p s) used) (answer_to (in_sentence alone s) others)
      (λ t. both_pick (ignored t.bytes) _ _ _ _ (s, refl, refl, refl) (nodes_alike t (first_column t)))
      (checked (line_rules line) line)))
