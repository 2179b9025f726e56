-- `sentences::read_into` meets its contract.
use Prim.Native.Nat.{◌*◌}
use mathlib.Core.Path.{◌≡◌, sym, ◌∙◌}
use mathlib.Core.Bool.{true}
use lib.ListN.{length, replicate}
use Rattle.rules.specs.Numbers.{edge_limit}
use Rattle.rules.specs.Sheets.{sentence_sheet_size}
use Rattle.rules.specs.SentenceFrom.{starts_line}
use Rattle.sentence_sheet.specs.FlatEdges.{edge_width}
use Rattle.sentences.proofs.FirstLines.{start_inside}
use Rattle.sentences.proofs.StampedMarks.{marked_further}
use Rattle.sentences.proofs.Answers.{cleared, as_long, begun_nowhere, headed_at, gathered_at, nothing_starts, nothing_begins, nothing_gathered, found_gathered}
use Rattle.sentences.proofs.read_into.Goals as goal

pub returns-then-not-starts_line : goal.returns-then-not-starts_line
returns-then-not-starts_line c = (nothing_starts c.args.file.now c.args.place _ _ c.requires.1 c.requires.2 (sym c.starts_line.ensures ∙ c.if-not-starts_line.true), marked_further c.requires.4)

pub begin-requires : goal.begin-requires
begin-requires c =
    let starts : starts_line c.args.file.now c.args.place ≡ true = sym c.starts_line.ensures ∙ c.if-not-starts_line.false in
    (c.requires.0, start_inside c.args.file.now c.args.place starts, as_long c.requires.1)

pub returns-in_default : goal.returns-in_default
returns-in_default c =
    let starts : starts_line c.args.file.now c.args.place ≡ true = sym c.starts_line.ensures ∙ c.if-not-starts_line.false in
    let w = begun_nowhere c.args.file.now c.args.place _ _ _ c.begin.ensures c.in_default.is in
    (nothing_begins c.args.file.now c.args.place _ _ (w.1 ∙ c.requires.1) c.requires.2 starts w.0, marked_further c.requires.4)

pub take_nodes-requires : goal.take_nodes-requires
take_nodes-requires c = (
  c.requires.0,
  headed_at c.args.file.now c.args.place _ _ _ c.begin.ensures _ c.in-Some.is (replicate sentence_sheet_size 0) c.requires.1,
  c.begin.auto.sheet ∙ as_long c.requires.1,
  c.requires.2,
  c.requires.3,
  c.requires.4,
)

pub returns-then-take_nodes : goal.returns-then-take_nodes
returns-then-take_nodes c =
    let starts : starts_line c.args.file.now c.args.place ≡ true = sym c.starts_line.ensures ∙ c.if-not-starts_line.false in
    let gathered = gathered_at c.args.file.now c.args.place _ _ _ c.begin.ensures _ c.in-Some.is _ _ _ c.take_nodes.ensures.0 in
    (found_gathered c.args.file.now c.args.place starts _ _ _ gathered c.if-take_nodes.true, c.take_nodes.ensures.1)

pub returns : goal.returns
returns c =
    let starts : starts_line c.args.file.now c.args.place ≡ true = sym c.starts_line.ensures ∙ c.if-not-starts_line.false in
    let sheet_left : length c.take_nodes.new.sheet ≡ sentence_sheet_size = c.take_nodes.auto.sheet ∙ c.begin.auto.sheet ∙ as_long c.requires.1 in
    let edges_left : length c.take_nodes.new.edges ≡ edge_limit * edge_width = c.take_nodes.auto.edges ∙ as_long c.requires.2 in
    let gathered = gathered_at c.args.file.now c.args.place _ _ _ c.begin.ensures _ c.in-Some.is _ _ _ c.take_nodes.ensures.0 in (
      nothing_gathered c.args.file.now c.args.place _ _ (cleared c.clear.ensures sheet_left) (cleared c.clear-2.ensures edges_left) starts _ _ _ gathered c.if-take_nodes.false,
      c.take_nodes.ensures.1,
    )

pub shape_of-sheet : goal.shape_of-sheet
shape_of-sheet c =
    let sheet_left : length c.take_nodes.new.sheet ≡ sentence_sheet_size = c.take_nodes.auto.sheet ∙ c.begin.auto.sheet ∙ as_long c.requires.1 in
    as_long {n = sentence_sheet_size} (cleared c.clear.ensures sheet_left) ∙ sym (as_long {n = sentence_sheet_size} c.requires.1)

pub shape_of-edges : goal.shape_of-edges
shape_of-edges c =
    let edges_left : length c.take_nodes.new.edges ≡ edge_limit * edge_width = c.take_nodes.auto.edges ∙ as_long c.requires.2 in
    as_long {n = edge_limit * edge_width} (cleared c.clear-2.ensures edges_left) ∙ sym (as_long {n = edge_limit * edge_width} c.requires.2)
