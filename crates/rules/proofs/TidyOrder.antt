-- What a file means stands in the order of the tidy text: sorted by numbers that differ, a list has what it had, by rising
-- numbers; reading its fields and leaving places out moves nothing. Table by table, sentence by sentence.
use Prim.Native.Nat.{ℕ, suc}
use native.Mathlib.Omega.{arith}
use mathlib.Core.Path.{◌≡◌, refl, sym, ap, ap₂, subst}
use mathlib.Core.Logic.{inl, inr}
use Rattle.std.specs.Prelude.{Option, None, Some}
use mathlib.Core.List.{List, [], ◌∷◌, map}
use borrow.Author.Tests.{lt-leb}
use Rattle.rules.specs.Lists.{sorted, Each}
use Rattle.rules.specs.Tables.{Tables, Row}
use Rattle.rules.specs.Sentences.{Edge, Node, Sentence}
use Rattle.rules.specs.Reading.{Handed}
use Rattle.rules.specs.Survey.{Survey}
use Rattle.rules.specs.Meaning.{bare_row, bare_edge, bare_node, row_id, node_number, sentence_number_of, meant_rows, by_id, meant_tables, meant_sentence, meant_sentences}
use Rattle.rules.specs.Same.{Any, handed_number}
use Rattle.rules.specs.GrammarContent.{RowContent, EdgeContent, NodeContent, SentenceContent, Content}
use Rattle.rules.specs.GrammarLines.{In}
use Rattle.rules.specs.GrammarSurvey.{row_read, table_read, edge_read, node_read, sentence_read, content_of}
use Rattle.rules.specs.AsWritten.{EachWith}
use Rattle.rules.specs.TidyOrder.{Rises, ByRising, TableOrdered, TablesOrdered, SentenceOrdered, TidyOrder}
use Rattle.rules.proofs.Sorting.{Distinct, Rising, rising_from_zero, map_sorted}
use Rattle.rules.proofs.SameLists.{some_sorted, sorted_some}
use Rattle.rules.proofs.AlikeLists.{distinct_map}
use Rattle.rules.proofs.NumbersDiffer.{IdsDiffer, TablesDiffer, NumbersDiffer}
use Rattle.rules.proofs.SameFields.{PhrasesDiffer}

-- ---- a sorted list

module _ {A : Type 0} where
  pub in_some : (x : A) (xs : List A) → In x xs → Any (λ (y : A). x ≡ y) xs
  in_some x [] i = i
  in_some x (y ∷ xs) (inl e) = inl e
  in_some x (y ∷ xs) (inr i) = inr (in_some x xs i)

  pub some_in : (x : A) (xs : List A) → Any (λ (y : A). x ≡ y) xs → In x xs
  some_in x [] i = i
  some_in x (y ∷ xs) (inl e) = inl e
  some_in x (y ∷ xs) (inr i) = inr (some_in x xs i)

  module _ (key : A → ℕ) where
    rising_rises : (k : ℕ) (xs : List A) → Rising key k xs → Rises key xs
    rising_rises k [] r = tt
    rising_rises k (x ∷ []) r = tt
    rising_rises k (x ∷ y ∷ xs) r = (r.1.0, rising_rises (suc (key x)) (y ∷ xs) r.1)

    by_rising : (xs : List A) → Distinct key xs → ByRising key xs (sorted key xs)
    by_rising xs d =
        record {
          rises = rising_rises 0 (sorted key xs) (rising_from_zero key xs d);
          the_same = λ x. (
            (λ i. some_in x (sorted key xs) (some_sorted key (λ (y : A). x ≡ y) xs (in_some x xs i))),
            (λ i. some_in x xs (sorted_some key (λ (y : A). x ≡ y) xs (in_some x (sorted key xs) i))),
          );
        }

-- mapped by what keeps the numbers
module _ {A B : Type 0} (key : A → ℕ) (to : B → ℕ) (f : A → B) (keeps : (x : A) → to (f x) ≡ key x) where
  mapped_by_rising : (xs : List A) → Distinct key xs → ByRising to (map f xs) (map f (sorted key xs))
  mapped_by_rising xs d =
      subst (ByRising to (map f xs)) (sym (map_sorted key to f keeps xs)) (by_rising to (map f xs) (distinct_map key to f keeps xs d))

-- ---- the fields that are read, of what has no places

rows_read : (rs : List Row) → map row_read (map bare_row rs) ≡ map row_read rs
rows_read [] = refl
rows_read (r ∷ rs) = ap (λ (qs : List RowContent). row_read r ∷ qs) (rows_read rs)

table_read_lem : (o : Option (List Row)) → table_read (meant_rows o) ≡ table_read o
table_read_lem None = refl
table_read_lem (Some rs) = ap Some (rows_read rs)

edges_read : (es : List Edge) → map edge_read (map bare_edge es) ≡ map edge_read es
edges_read [] = refl
edges_read (e ∷ es) = ap (λ (ds : List EdgeContent). edge_read e ∷ ds) (edges_read es)

node_read_lem : (n : Node) → node_read (bare_node n) ≡ node_read n
node_read_lem n = rw (edges_read n.secondary)

nodes_read : (ns : List Node) → map node_read (map bare_node ns) ≡ map node_read ns
nodes_read [] = refl
nodes_read (n ∷ ns) = ap₂ (λ (m : NodeContent) (ms : List NodeContent). m ∷ ms) (node_read_lem n) (nodes_read ns)

-- ---- tables

abbrev id1_of : RowContent → ℕ
id1_of r = r.id1

rows_by_id : (rs : List Row) → Distinct row_id rs → ByRising id1_of (map row_read rs) (map row_read (map bare_row (sorted row_id rs)))
rows_by_id rs d =
    subst (ByRising id1_of (map row_read rs)) (sym (rows_read (sorted row_id rs))) (mapped_by_rising row_id id1_of row_read (λ r. refl) rs d)

origins_by_id : (o : Option (List Row)) → IdsDiffer o → TableOrdered 0 (table_read o) (table_read (meant_rows (by_id o)))
origins_by_id None d = tt
origins_by_id (Some rs) d = rows_by_id rs d

editors_by_id : (o : Option (List Row)) → IdsDiffer o → TableOrdered 1 (table_read o) (table_read (meant_rows (by_id o)))
editors_by_id None d = tt
editors_by_id (Some rs) d = rows_by_id rs d

tags_ordered : (n : ℕ) (ts : Tables) → TablesOrdered (suc (suc n)) (map table_read ts) (map table_read (map meant_rows ts))
tags_ordered n [] = tt
tags_ordered n (None ∷ ts) = (tt, tags_ordered (suc n) ts)
tags_ordered n (Some rs ∷ ts) = (rw (lt-leb (suc (suc n)) 1 (omega arith)) (rows_read rs), tags_ordered (suc n) ts)

tables_ordered : (ts : Tables) → TablesDiffer ts → TablesOrdered 0 (map table_read ts) (map table_read (meant_tables ts))
tables_ordered [] d = tt
tables_ordered (o ∷ []) d = (origins_by_id o d.origin_ids, tt)
tables_ordered (o ∷ e ∷ ts) d = (origins_by_id o d.origin_ids, (editors_by_id e d.editor_ids, tags_ordered 0 ts))

-- ---- sentences

abbrev node_no : NodeContent → ℕ
node_no n = n.number

abbrev sentence_no : SentenceContent → ℕ
sentence_no s = s.heading.number

sentence_ordered : (s : Sentence) → PhrasesDiffer s → SentenceOrdered (sentence_read s) (sentence_read (meant_sentence s))
sentence_ordered s d =
    record {
      heading = refl;
      words = nodes_read s.words;
      phrases =
          subst (ByRising node_no (map node_read s.phrases)) (sym (nodes_read (sorted node_number s.phrases)))
          (mapped_by_rising node_number node_no node_read (λ n. refl) s.phrases d);
    }

abbrev said_of : Handed → SentenceContent
said_of h = sentence_read h.sentence

abbrev meant_of : Handed → Sentence
meant_of h = meant_sentence h.sentence

each_ordered : (hs : List Handed) → Each (λ (h : Handed). PhrasesDiffer h.sentence) hs
    → EachWith SentenceOrdered (map said_of hs) (map sentence_read (map meant_of hs))
each_ordered [] d = tt
each_ordered (h ∷ hs) d = (sentence_ordered h.sentence d.0, each_ordered hs d.1)

-- ---- what a survey has read, as it means it

abbrev pub tidy_content : Survey → Content
tidy_content v =
    record {
      format = v.format;
      tables = map table_read (meant_tables v.tables);
      sentences = map sentence_read (meant_sentences v.handed);
    }

pub tidy_order : (v : Survey) → NumbersDiffer v → TidyOrder (content_of v) (tidy_content v)
tidy_order v d =
    record {
      format = refl;
      tables = tables_ordered v.tables d.tables;
      each = map sentence_read (map meant_of v.handed);
      by_phrases = each_ordered v.handed d.phrases;
      by_number =
          mapped_by_rising sentence_number_of sentence_no sentence_read (λ s. refl) (map meant_of v.handed)
          (distinct_map handed_number sentence_number_of meant_of (λ h. refl) v.handed d.sentences);
    }
