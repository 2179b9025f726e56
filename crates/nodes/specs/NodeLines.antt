-- The fields of a node line as its columns tell them, and the rules of rules/Nodes one by one. Document 01, "The
-- numbers of refusal".
use Rattle.std.specs.Prelude.{ℕ, ◌+◌, ◌-◌, ◌*◌, ◌≤◌, ◌<◌, ◌≡◌, Bool, true, ◌&&◌, List, map, leb, eqb, length, get_or, drop, Option, Result, Ok}
use Rattle.rules.specs.Texts.{Text, at_most}
use Rattle.rules.specs.Columns.{fields, text}
use Rattle.rules.specs.Numbers.{phrase_number, number, good, value}
use Rattle.rules.specs.Rules.{Rule, rule}
use Rattle.rules.specs.Tables.{Tables, sec_edge_tags, known, tag_limit}
use Rattle.rules.specs.Highest.{larger, largest, edge_parent}
use Rattle.rules.specs.Pairs.{Pair, pairs, paired, as_edge, is_another}
use Rattle.rules.specs.Nodes as nodes
use Rattle.columns.specs.Lines.{columns_in}
use Rattle.columns.specs.declared.listed.ListedLine.{ListedLine}
use Rattle.steps.specs.Faults.{broken_by, fault, fault_in, or_else}
use Rattle.steps.specs.declared.Fault.{Fault}
use Rattle.nodes.specs.declared.pairs.Parents.{Parents}

-- a line has at most 4,096 bytes, and a white one behind each column
abbrev pub column_limit : ℕ
column_limit = 2048

abbrev pub fields_of : ListedLine → List Text
fields_of line = fields (columns_in line)

-- the pairs from a field on
abbrev pub pairs_from : List Text → ℕ → List Pair
pairs_from fs k = pairs (drop k fs)

-- so many fields of a line: five, and pairs behind them
pub record Whole (fs : List Text) (count : ℕ) : Type 0 where
  pub counted : count ≡ length fs
  pub five : 5 ≤ count
  pub few : count ≤ column_limit
  pub even : paired (drop 5 fs) ≡ true

-- the pairs one by one
abbrev pub pair_of : List Text → ℕ → Pair
pair_of fs j = record { label = text fs (5 + 2 * j); parent = text fs (6 + 2 * j) }

-- a rule of this number, told by an answer about a field of the pair: each label if the first is field 5, each parent if it is 6
pub record AsksPairs (fs : List Text) (its_number first : ℕ) (answers : ℕ → Bool → Type 0) (q : Pair → Rule) : Type 0 where
  pub told : (j : ℕ) (b : Bool) → 6 + 2 * j < length fs → answers (first + 2 * j) b → b ≡ (q (pair_of fs j)).holds
  pub fault : (j : ℕ) → broken_by (q (pair_of fs j)) ≡ fault its_number (text fs (first + 2 * j)).start

-- ---- what each rule asks of a pair

abbrev pub phrase_in : Text → Option ℕ
phrase_in t = number phrase_number t.bytes

abbrev pub parent_written : Pair → Rule
parent_written p = rule 8 p.parent (good (phrase_in p.parent))

abbrev pub label_short : Pair → Rule
label_short p = rule 10 p.label (at_most (tag_limit sec_edge_tags) p.label)

abbrev pub label_known : Tables → Pair → Rule
label_known ts p = rule 18 p.label (known ts sec_edge_tags p.label)

abbrev pub parent_differs : ℕ → Pair → Rule
parent_differs its_number p = rule 19 p.parent (is_another its_number p)

-- ---- the parents

-- the highest of the secondary parents
abbrev pub highest_of : List Pair → ℕ
highest_of ps = largest edge_parent (map as_edge ps)

abbrev pub highest_in : ℕ → List Text → ℕ
highest_in format fs = larger (value (nodes.its_parent format fs)) (highest_of (nodes.its_pairs format fs))

-- the parent and the highest parent, unless there is a fault
abbrev pub unless_faulty : Result Unit Fault → ℕ → ℕ → Result Parents Fault
unless_faulty f parent highest = or_else f (Ok (record { parent = parent; highest = highest }))

-- ---- the groups of rules in the order of their numbers, with the fault of the sentence's limits among them

abbrev pub first_fault : ℕ → List Text → Tables → ℕ → ℕ → Result Unit Fault → Result Unit Fault
first_fault format fs ts tags its_number limits =
    or_else (fault_in (nodes.parents_written format fs))
    (or_else (fault_in (nodes.tags_short format fs tags))
    (or_else limits
    (or_else (fault_in (nodes.tags_known format fs ts tags)) (fault_in (nodes.parents_allowed format fs its_number)))))

-- how many numbers there are for phrases
abbrev pub phrase_count : ℕ
phrase_count = 500

-- the phrases of a sentence: at each number from 500 on, the stamp of the sentence that last had a phrase of it
abbrev pub marked : List ℕ → ℕ → ℕ → Bool
marked marks stamp n = leb phrase_number.lowest n && eqb (get_or marks (n - phrase_number.lowest) 0) stamp
