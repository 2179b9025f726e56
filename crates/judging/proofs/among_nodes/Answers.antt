-- `judging::among_nodes` meets its contract.
use Rattle.columns.specs.Lines.{text_in}
use Rattle.std.specs.Prelude.{Err}
use Prim.Native.Nat.{◌+◌}
use mathlib.Core.Path.{ap, refl, ◌∙◌}
use Rattle.table_sheet.specs.SheetRows.{tables_in}
use Rattle.judging.specs.Judging.{so_far_by}
use Rattle.judging.proofs.FirstColumns.{nodes_end, nodes_phrase, nodes_word, nodes_none}
use Rattle.judging.proofs.among_nodes.Goals as goal

pub returns-then-same_text : goal.returns-then-same_text
returns-then-same_text c =
    λ format. c.end_of.ensures c.args.marks.now (c.args.handed + 1)
    ∙ nodes_end (text_in c.args.line.now) c.args.first.now c.requires.0 format (tables_in c.args.line.now.file.now c.args.sheet.now) (so_far_by c.args.t c.args.marks.now (c.args.handed + 1)) c.same_text.ensures c.if-same_text.true

pub returns-then-hash_and_digits : goal.returns-then-hash_and_digits
returns-then-hash_and_digits c =
    λ format. c.phrase_line.ensures format (so_far_by c.args.t c.args.marks.now (c.args.handed + 1)) refl (λ n. refl)
    ∙ nodes_phrase (text_in c.args.line.now) c.args.first.now c.requires.0 format (tables_in c.args.line.now.file.now c.args.sheet.now) (so_far_by c.args.t c.args.marks.now (c.args.handed + 1)) c.same_text.ensures c.if-same_text.false
    c.hash_and_digits.ensures c.if-hash_and_digits.true

pub returns-then-starts_word : goal.returns-then-starts_word
returns-then-starts_word c =
    λ format. c.word_line.ensures format (so_far_by c.args.t c.args.marks.now (c.args.handed + 1)) refl refl refl
    ∙ nodes_word (text_in c.args.line.now) c.args.first.now c.requires.0 format (tables_in c.args.line.now.file.now c.args.sheet.now) (so_far_by c.args.t c.args.marks.now (c.args.handed + 1)) c.same_text.ensures c.if-same_text.false
    c.hash_and_digits.ensures c.if-hash_and_digits.false c.starts_word.ensures c.if-starts_word.true

pub returns : goal.returns
returns c =
    λ format. ap Err c.line_fault.ensures
    ∙ nodes_none (text_in c.args.line.now) c.args.first.now c.requires.0 format (tables_in c.args.line.now.file.now c.args.sheet.now) (so_far_by c.args.t c.args.marks.now (c.args.handed + 1)) c.same_text.ensures c.if-same_text.false
    c.hash_and_digits.ensures c.if-hash_and_digits.false c.starts_word.ensures c.if-starts_word.false
