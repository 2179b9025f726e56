-- How many bytes the tidy lines of what was taken so far have, wherever a reading stands: sums over rows, nodes and sentences, so
-- that their order doesn't count. An ORIGIN row counts as if its %% were glued to its texts.
use Prim.Native.Nat.{ℕ, zero, suc, ◌+◌, ◌*◌, ◌≤◌}
use native.Mathlib.Nat.{add-zero, add-suc, suc-add, mul-suc}
use native.Mathlib.Omega.{arith}
use mathlib.Core.Path.{◌≡◌, refl, sym, ◌∙◌, subst}
use Rattle.std.specs.Prelude.{Option, None, Some}
use mathlib.Core.List.{List, [], ◌∷◌, ◌++◌, map}
use lib.ListN.{length, length-append, set}
use Rattle.rules.specs.Lists.{bytes, joined, Each}
use Rattle.rules.specs.Tables.{Tables, Row}
use Rattle.rules.specs.Sentences.{Node, Sentence}
use Rattle.rules.specs.Phases.{Preamble, Phase, start, top, in_table, in_sentence, behind_sentence, Answer, refuse, go, hand}
use Rattle.rules.specs.Reading.{Handed}
use Rattle.rules.specs.Meaning.{row_id, node_number, sentence_number_of}
use Rattle.rules.specs.Tidy.{digits_of, id_digits, keyword_line, flagged, table_name, node_line, heading_line}
use Rattle.rules.proofs.Sorting.{total}
use Rattle.tidy_length.proofs.ColumnRoom.{columns_room, text_room}

-- ---- sums

module _ {A : Type 0} (key : A → ℕ) (amount : A → ℕ) where
  pub total_more : (xs : List A) (x : A) → total key amount (xs ++ (x ∷ [])) ≡ total key amount xs + amount x
  total_more [] x = omega arith
  total_more (y ∷ xs) x = omega (arith, total_more xs x)

  pub total_map : {B : Type 0} (to : B → ℕ) (f : B → A) (xs : List B) → total key amount (map f xs) ≡ total to (λ (x : B). amount (f x)) xs
  total_map to f [] = refl
  total_map to f (x ∷ xs) = omega (arith, total_map to f xs)

  pub total_within : (other more : A → ℕ) (xs : List A) → Each (λ (x : A). amount x ≤ other x + more x) xs → total key amount xs ≤ total key other xs + total key more xs
  total_within other more [] h = omega arith
  total_within other more (x ∷ xs) h = omega (arith, h.0, total_within other more xs h.1)

  pub total_few : (k : ℕ) → ((x : A) → amount x ≤ k) → (xs : List A) → total key amount xs ≤ k * length xs
  total_few k h [] = omega arith
  total_few k h (x ∷ xs) = omega (arith, h x, total_few k h xs, mul-suc k (length xs))

pub joined_length : {A : Type 0} (key : A → ℕ) (f : A → List ℕ) (xs : List A) → length (joined (map f xs)) ≡ total key (λ (x : A). length (f x)) xs
joined_length key f [] = refl
joined_length key f (x ∷ xs) = omega (arith, length-append (f x) (joined (map f xs)), joined_length key f xs)

-- ---- tables

-- %% and a text behind it, if it is given
abbrev pub note_room : List ℕ → ℕ
note_room [] = 0
note_room (b ∷ bs) = suc (suc (length (b ∷ bs)))

abbrev pub row_room : ℕ → Row → ℕ
row_room zero r = columns_room (id_digits r.id1 ∷ []) + text_room r.first.bytes + note_room r.second.bytes
row_room (suc n) r = columns_room (id_digits r.id1 ∷ r.first.bytes ∷ flagged (suc n) r) + text_room r.second.bytes

abbrev pub rows_room : ℕ → List Row → ℕ
rows_room n rs = total row_id (row_room n) rs

-- a keyword and the name of a table
abbrev pub named_room : List ℕ → ℕ → ℕ
named_room keyword n = length (keyword_line (keyword ∷ table_name n ∷ []))

abbrev pub table_room : ℕ → Option (List Row) → ℕ
table_room n None = 0
table_room n (Some rs) = named_room (bytes "#BOT") n + rows_room n rs + named_room (bytes "#EOT") n

-- the tables from the n-th on
abbrev pub tables_room : ℕ → Tables → ℕ
tables_room n [] = 0
tables_room n (t ∷ ts) = table_room n t + tables_room (suc n) ts

pub closed_room : (k n : ℕ) (ts : Tables) (rs : List Row) → tables_room k (set ts n (Some rs)) ≤ tables_room k ts + table_room (k + n) (Some rs)
closed_room k n [] rs = omega arith
closed_room k zero (t ∷ ts) rs = rw add-zero (omega arith)
closed_room k (suc n) (t ∷ ts) rs =
    let same_table : suc k + n ≡ k + suc n = suc-add k n ∙ sym (add-suc k n) in
    let more : tables_room (suc k) (set ts n (Some rs)) ≤ tables_room (suc k) ts + table_room (k + suc n) (Some rs) =
    subst (λ (i : ℕ). tables_room (suc k) (set ts n (Some rs)) ≤ tables_room (suc k) ts + table_room i (Some rs)) same_table (closed_room (suc k) n ts rs) in
    omega arith

abbrev pub format_room : ℕ → ℕ
format_room n = length (keyword_line (bytes "#FORMAT" ∷ digits_of n ∷ []))

abbrev pub preamble_room : Preamble → ℕ
preamble_room p = format_room p.format + tables_room 0 p.tables

-- ---- sentences

abbrev pub nodes_room : List Node → ℕ
nodes_room ns = total node_number (λ (n : Node). length (node_line n)) ns

-- without its end
abbrev pub open_room : Sentence → ℕ
open_room s = length (heading_line s) + nodes_room s.words + nodes_room s.phrases

abbrev pub sentence_room : Sentence → ℕ
sentence_room s = open_room s + length (keyword_line (bytes "#EOS" ∷ digits_of s.heading.number ∷ []))

abbrev pub number_handed : Handed → ℕ
number_handed h = sentence_number_of h.sentence

abbrev pub handed_room : List Handed → ℕ
handed_room hs = total number_handed (λ (h : Handed). sentence_room h.sentence) hs

-- ---- where a reading stands

abbrev pub phase_room : Phase → ℕ
phase_room start = 0
phase_room (top p) = preamble_room p
phase_room (in_table p n rs) = preamble_room p + (named_room (bytes "#BOT") n + rows_room n rs)
phase_room (in_sentence p s) = preamble_room p + open_room s
phase_room (behind_sentence p) = preamble_room p

-- an answer takes from a line no more than the line and its newline have
abbrev pub NoMore : Phase → List ℕ → Answer → Type 0
NoMore phase l (refuse r) = Unit {0}
NoMore phase l (go later) = phase_room later ≤ phase_room phase + suc (length l)
NoMore phase l (hand p s) = preamble_room p + sentence_room s ≤ phase_room phase + suc (length l)
