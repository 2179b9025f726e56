-- The contracts of `edges` in the words of this crate: a record of code is told as `edges` takes it, so nothing is to be shown.
use Prim.Native.Nat.{ℕ}
use mathlib.Core.Path.{◌≡◌, refl, sym}
use mathlib.Core.List.{List}
use Rattle.rules.specs.Opening.{after_opening, after_opening_at}
use Rattle.rules.specs.Writing.{after_writing}
use Rattle.writing.specs.declared.Written.{Written}
use Rattle.edges.specs.declared.Edge.{Edge}
use Rattle.edges.specs.Promise.{as_records, outcome, outcome_at, written_outcome}
use Rattle.record_demands.specs.Records.{told_all}
use Rattle.record_demands.specs.RecordRules.{RecordsOpened, RecordsOpenedAt, RecordsWritten}
use Rattle.record_demands.proofs.AsRules.{records_opened, records_opened_at}
use Rattle.record_demands.proofs.TextAsRules.{records_written}

as_told : (es : List Edge) → as_records es ≡ told_all es
unfolding as_records told_all
as_told es = refl

module _ (tables seen sheet : List ℕ) (edges : List Edge) (file : List ℕ) (n r : ℕ) (tables' seen' sheet' : List ℕ) (edges' : List Edge) where
  pub opened_as_told : outcome r tables' seen' sheet' edges' ≡ after_opening file n tables seen sheet (as_records edges)
      → RecordsOpened file n tables seen sheet edges r tables' seen' sheet' edges'
  opened_as_told e = records_opened file n tables seen sheet edges r tables' seen' sheet' edges' (rw (sym (as_told edges), sym (as_told edges')) e)

module _ (sheet : List ℕ) (edges : List Edge) (file : List ℕ) (at r : ℕ) (sheet' : List ℕ) (edges' : List Edge) where
  pub opened_at_as_told : outcome_at r sheet' edges' ≡ after_opening_at file at sheet (as_records edges)
      → RecordsOpenedAt file at sheet edges r sheet' edges'
  opened_at_as_told e = records_opened_at file at sheet edges r sheet' edges' (rw (sym (as_told edges), sym (as_told edges')) e)

module _ (tables seen sheet : List ℕ) (edges : List Edge) (output file : List ℕ) (r : Written) (tables' seen' sheet' : List ℕ) (edges' : List Edge)
    (output' : List ℕ) where
  pub written_as_told : written_outcome r tables' seen' sheet' edges' output' ≡ after_writing file tables seen sheet (as_records edges) output
      → RecordsWritten file tables seen sheet edges output r tables' seen' sheet' edges' output'
  written_as_told e = records_written file tables seen sheet edges output r tables' seen' sheet' edges' output' (rw (sym (as_told edges), sym (as_told edges')) e)
