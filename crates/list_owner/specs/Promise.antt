-- What openings and a writing leave to the owner of their list: the lent buffers; the parent of the list's first record, how
-- many bytes were written.
use Rattle.std.specs.Prelude.{ℕ, List, get_or}
use Rattle.rules.specs.Sheets.{no_edge}
use Rattle.rules.specs.Opening.{Opened, OpenedAt}
use Rattle.rules.specs.Writing.{WritingOutcome}

pub record FirstParent : Type 0 where
  pub parent : ℕ
  pub tables : List ℕ
  pub seen : List ℕ
  pub sheet : List ℕ

abbrev pub first_parent_of : Opened → FirstParent
first_parent_of o = record { parent = (get_or o.edges 0 no_edge).parent; tables = o.tables; seen = o.seen; sheet = o.sheet }

abbrev pub outcome : ℕ → List ℕ → List ℕ → List ℕ → FirstParent
outcome r tables seen sheet = record { parent = r; tables = tables; seen = seen; sheet = sheet }

-- ---- at a place

pub record FirstParentAt : Type 0 where
  pub parent : ℕ
  pub sheet : List ℕ

abbrev pub first_parent_at : OpenedAt → FirstParentAt
first_parent_at o = record { parent = (get_or o.edges 0 no_edge).parent; sheet = o.sheet }

abbrev pub outcome_at : ℕ → List ℕ → FirstParentAt
outcome_at r sheet = record { parent = r; sheet = sheet }

-- ---- of a writing

pub record TextLength : Type 0 where
  pub written : ℕ
  pub tables : List ℕ
  pub seen : List ℕ
  pub sheet : List ℕ
  pub output : List ℕ

abbrev pub length_of : WritingOutcome → TextLength
length_of o = record { written = o.answer.written; tables = o.tables; seen = o.seen; sheet = o.sheet; output = o.output }

abbrev pub outcome_of : ℕ → List ℕ → List ℕ → List ℕ → List ℕ → TextLength
outcome_of r tables seen sheet output = record { written = r; tables = tables; seen = seen; sheet = sheet; output = output }
