-- The promise of a writing whose list of secondary edges is lent as plain numbers: what rules/Writing says of the list of
-- records, and 1 for a list of another length. Then what is answered and written by a text that is known.
use Rattle.std.specs.Prelude.{ℕ, ◌≡◌, Bool, ◌&&◌, List, length, leb, eqb}
use Rattle.rules.specs.Lists.{pick}
use Rattle.rules.specs.Numbers.{file_limit, edge_limit}
use Rattle.rules.specs.Writing as rules
use Rattle.rules.specs.Layout.{flat_list}
use Rattle.opening.specs.FlatLists.{edge_records, flat_size}
use Rattle.writing.specs.declared.Written.{Written}

-- ---- with lent buffers

pub record WrittenFlat : Type 0 where
  pub answer : rules.Written
  pub tables : List ℕ
  pub seen : List ℕ
  pub sheet : List ℕ
  pub edges : List ℕ
  pub output : List ℕ

abbrev pub flattened : rules.WritingOutcome → WrittenFlat
flattened o = record { answer = o.answer; tables = o.tables; seen = o.seen; sheet = o.sheet; edges = flat_list o.edges; output = o.output }

unfoldable pub after_writing_flat : List ℕ → List ℕ → List ℕ → List ℕ → List ℕ → List ℕ → WrittenFlat
after_writing_flat file tables seen sheet edges output =
    pick (eqb (length edges) flat_size)
    (flattened (rules.after_writing file tables seen sheet (edge_records edge_limit edges) output))
    (record { answer = record { refusal = 1; place = 0; written = 0 }; tables = tables; seen = seen; sheet = sheet; edges = edges; output = output })

abbrev pub answer_of : Written → rules.Written
answer_of r = record { refusal = r.refusal; place = r.place; written = r.length }

abbrev pub outcome : Written → List ℕ → List ℕ → List ℕ → List ℕ → List ℕ → WrittenFlat
outcome r tables seen sheet edges output =
    record { answer = answer_of r; tables = tables; seen = seen; sheet = sheet; edges = edges; output = output }

-- ---- by a text

abbrev pub has_room : List ℕ → List ℕ → Bool
has_room text output = leb (length text) (length output) && leb (length text) file_limit

abbrev pub answer_by : List ℕ → List ℕ → List ℕ → rules.Written
answer_by file text output =
    pick (has_room text output)
    (record { refusal = 0; place = length file; written = length text })
    (record { refusal = 25; place = length file; written = 0 })

pub record WrittenBy (file text output : List ℕ) (r : Written) (after : List ℕ) : Type 0 where
  pub answer : answer_of r ≡ answer_by file text output
  pub output_is : after ≡ pick (has_room text output) (rules.written_over text output) output
