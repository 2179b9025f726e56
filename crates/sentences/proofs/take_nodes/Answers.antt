-- `sentences::take_nodes` meets its contract: between two lines what it keeps is what the rules' sentence so far has. The
-- measure is what is left of the file.
use native.Mathlib.Omega.{arith}
use Prim.Native.Nat.{ℕ, ◌+◌, ◌≤◌, ◌<◌}
use mathlib.Core.Path.{◌≡◌, sym, ap, ◌∙◌}
use lib.ListN.{length, length-replicate}
use Rattle.lines.specs.LineEnds.{line_end}
use Rattle.std.specs.Prelude.{Ok}
use Rattle.lines.proofs.Lines.{at_behind, at_below}
use Rattle.lines.proofs.FoundLines.{told_end}
use Rattle.columns.specs.declared.listing.Line.{Line}
use Rattle.lines.specs.NextLines.{line_end_of}
use Rattle.sentences.proofs.NotOk.{not_ok}
use Rattle.sentences.specs.Keeping.{MarkedUpTo, stored}
use Rattle.sentences.specs.Beginnings.{begun_at}
use Rattle.sentences.proofs.Gathering.{gathering_start, none_gathered, none_at_end, none_unread, marks_left, countable, all_gathered}
use Rattle.sentences.proofs.Taking.{LineHere, here_found}
use Rattle.sentences.proofs.Turning.{refused_none, ends_found, goes_on}
use Rattle.sentences.proofs.take_nodes.Goals as goal

pub loop-at-init : goal.loop-at-init
loop-at-init c = gathering_start c.args.file.now c.args.first.start _ _ _ _ _ _ c.requires.1 c.requires.2 c.requires.3 c.requires.5

pub returns-in_default : goal.returns-in_default
returns-in_default c =
    let unread = not_ok c.next_of_sentence.result c.in_default.not-Ok in
    let marks_stay : MarkedUpTo (c.args.handed + 1) (stored c.loop-at.t c.loop-at.sheet c.loop-at.edges c.loop-at.marks).marks = marks_left c.args.file.now (begun_at c.args.file.now c.args.first.start) c.args.handed c.loop-at.at (stored c.loop-at.t c.loop-at.sheet c.loop-at.edges c.loop-at.marks) c.loop-at.invariant in
    (none_gathered _ _ (none_unread c.args.file.now (begun_at c.args.file.now c.args.first.start) c.args.handed c.loop-at.at (stored c.loop-at.t c.loop-at.sheet c.loop-at.edges c.loop-at.marks) c.loop-at.invariant unread.0 (sym c.next_of_sentence.ensures.0 ∙ ap line_end_of unread.1)), marks_stay)

pub judge-requires : goal.judge-requires
judge-requires c = countable c.args.file.now (begun_at c.args.file.now c.args.first.start) c.args.handed c.loop-at.at (stored c.loop-at.t c.loop-at.sheet c.loop-at.edges c.loop-at.marks) c.loop-at.invariant c.requires.0 c.requires.4

pub returns-in_default-judge : goal.returns-in_default-judge
returns-in_default-judge c =
    let refused = not_ok c.judge.result c.in_default-judge.not-Ok in
    let marks_stay : MarkedUpTo (c.args.handed + 1) (stored c.loop-at.t c.loop-at.sheet c.loop-at.edges c.loop-at.marks).marks = marks_left c.args.file.now (begun_at c.args.file.now c.args.first.start) c.args.handed c.loop-at.at (stored c.loop-at.t c.loop-at.sheet c.loop-at.edges c.loop-at.marks) c.loop-at.invariant in
    let line-here : LineHere c.args.file.now (begun_at c.args.file.now c.args.first.start) c.args.handed c.loop-at.at (stored c.loop-at.t c.loop-at.sheet c.loop-at.edges c.loop-at.marks) c.new-line.result.end c.new-line.result = here_found c.loop-at.invariant c.requires.0 c.next_of_sentence.new.places c.next_of_sentence.ensures c.in-Ok.is c.new-line.result (c.new-line.ensures.0, c.new-line.ensures.1) in
    (none_gathered _ _ (refused_none line-here _ c.judge.ensures refused.0 refused.1), marks_stay)

pub put_counts-requires : goal.put_counts-requires
put_counts-requires c = omega (arith, c.loop-at.invariant.sheet_size)

pub returns-in-SentenceEnds : goal.returns-in-SentenceEnds
returns-in-SentenceEnds c =
    let marks_stay : MarkedUpTo (c.args.handed + 1) (stored c.loop-at.t c.loop-at.sheet c.loop-at.edges c.loop-at.marks).marks = marks_left c.args.file.now (begun_at c.args.file.now c.args.first.start) c.args.handed c.loop-at.at (stored c.loop-at.t c.loop-at.sheet c.loop-at.edges c.loop-at.marks) c.loop-at.invariant in
    let line-here : LineHere c.args.file.now (begun_at c.args.file.now c.args.first.start) c.args.handed c.loop-at.at (stored c.loop-at.t c.loop-at.sheet c.loop-at.edges c.loop-at.marks) c.new-line.result.end c.new-line.result = here_found c.loop-at.invariant c.requires.0 c.next_of_sentence.new.places c.next_of_sentence.ensures c.in-Ok.is c.new-line.result (c.new-line.ensures.0, c.new-line.ensures.1) in
    let found = ends_found line-here _ c.judge.ensures c.in-Ok-judge.step c.in-Ok-judge.is c.in-SentenceEnds.is in
    (all_gathered c.args.file.now (begun_at c.args.file.now c.args.first.start) c.args.handed c.loop-at.at (stored c.loop-at.t c.loop-at.sheet c.loop-at.edges c.loop-at.marks) line-here.going found _ c.put_counts.ensures, marks_stay)

pub keep-t-requires : goal.keep-t-requires
keep-t-requires c =
    let line-here : LineHere c.args.file.now (begun_at c.args.file.now c.args.first.start) c.args.handed c.loop-at.at (stored c.loop-at.t c.loop-at.sheet c.loop-at.edges c.loop-at.marks) c.new-line.result.end c.new-line.result = here_found c.loop-at.invariant c.requires.0 c.next_of_sentence.new.places c.next_of_sentence.ensures c.in-Ok.is c.new-line.result (c.new-line.ensures.0, c.new-line.ensures.1) in
    (c.requires.4, (goes_on line-here _ c.judge.ensures c.in-Ok-judge.step c.in-Ok-judge.is c.in_default-step.not-SentenceEnds).0)

pub overflow_add-at : goal.overflow_add-at
overflow_add-at c =
    let ends : line_end c.args.file.now c.loop-at.at ≡ Ok (c.in-Ok.found.end) = told_end c.args.file.now c.loop-at.at _ _ c.next_of_sentence.ensures c.in-Ok.found c.in-Ok.is in
    let below : (c.in-Ok.found.end) < length c.args.file.now = at_below c.args.file.now c.loop-at.at (c.in-Ok.found.end) ends in
    omega (arith, below, c.requires.0, ap (λ (y : Line). y.end) c.new-line.ensures.1)

pub loop-at-smaller : goal.loop-at-smaller
loop-at-smaller c =
    let ends : line_end c.args.file.now c.loop-at.at ≡ Ok (c.in-Ok.found.end) = told_end c.args.file.now c.loop-at.at _ _ c.next_of_sentence.ensures c.in-Ok.found c.in-Ok.is in
    let below : (c.in-Ok.found.end) < length c.args.file.now = at_below c.args.file.now c.loop-at.at (c.in-Ok.found.end) ends in
    let behind : c.loop-at.at ≤ (c.in-Ok.found.end) = at_behind c.args.file.now c.loop-at.at (c.in-Ok.found.end) ends in
    omega (arith, below, behind, ap (λ (y : Line). y.end) c.new-line.ensures.1)

pub loop-at-preserved : goal.loop-at-preserved
loop-at-preserved c =
    let line-here : LineHere c.args.file.now (begun_at c.args.file.now c.args.first.start) c.args.handed c.loop-at.at (stored c.loop-at.t c.loop-at.sheet c.loop-at.edges c.loop-at.marks) c.new-line.result.end c.new-line.result = here_found c.loop-at.invariant c.requires.0 c.next_of_sentence.new.places c.next_of_sentence.ensures c.in-Ok.is c.new-line.result (c.new-line.ensures.0, c.new-line.ensures.1) in
    (goes_on line-here _ c.judge.ensures c.in-Ok-judge.step c.in-Ok-judge.is c.in_default-step.not-SentenceEnds).1 _ c.keep-t.ensures c.keep-t.auto.sheet
    c.keep-t.auto.edges

pub returns : goal.returns
returns c =
    let marks_stay : MarkedUpTo (c.args.handed + 1) (stored c.loop-at.t c.loop-at.sheet c.loop-at.edges c.loop-at.marks).marks = marks_left c.args.file.now (begun_at c.args.file.now c.args.first.start) c.args.handed c.loop-at.at (stored c.loop-at.t c.loop-at.sheet c.loop-at.edges c.loop-at.marks) c.loop-at.invariant in
    (none_gathered _ _ (none_at_end c.args.file.now (begun_at c.args.file.now c.args.first.start) c.args.handed c.loop-at.at (stored c.loop-at.t c.loop-at.sheet c.loop-at.edges c.loop-at.marks) c.loop-at.invariant c.loop-at-test.false), marks_stay)

pub next_of_sentence-requires : goal.next_of_sentence-requires
next_of_sentence-requires c =
    (c.loop-at.invariant.in_file, c.requires.0)

pub shape_of-sheet-in_default : goal.shape_of-sheet-in_default
shape_of-sheet-in_default c =
    let same-sheet : length (stored c.loop-at.t c.loop-at.sheet c.loop-at.edges c.loop-at.marks).sheet ≡ length c.args.sheet.now = c.loop-at.invariant.sheet_size ∙ sym c.requires.2 in
    same-sheet

pub shape_of-edges-in_default : goal.shape_of-edges-in_default
shape_of-edges-in_default c =
    let same_edges : length (stored c.loop-at.t c.loop-at.sheet c.loop-at.edges c.loop-at.marks).edges ≡ length c.args.edges.now = c.loop-at.invariant.edges_size ∙ sym (ap length c.requires.3 ∙ length-replicate {A = ℕ} _ 0) in
    same_edges

pub shape_of-sheet-in_default-judge : goal.shape_of-sheet-in_default-judge
shape_of-sheet-in_default-judge c =
    let same-sheet : length (stored c.loop-at.t c.loop-at.sheet c.loop-at.edges c.loop-at.marks).sheet ≡ length c.args.sheet.now = c.loop-at.invariant.sheet_size ∙ sym c.requires.2 in
    same-sheet

pub shape_of-edges-in_default-judge : goal.shape_of-edges-in_default-judge
shape_of-edges-in_default-judge c =
    let same_edges : length (stored c.loop-at.t c.loop-at.sheet c.loop-at.edges c.loop-at.marks).edges ≡ length c.args.edges.now = c.loop-at.invariant.edges_size ∙ sym (ap length c.requires.3 ∙ length-replicate {A = ℕ} _ 0) in
    same_edges

pub shape_of-sheet-in-SentenceEnds : goal.shape_of-sheet-in-SentenceEnds
shape_of-sheet-in-SentenceEnds c =
    let same-sheet : length (stored c.loop-at.t c.loop-at.sheet c.loop-at.edges c.loop-at.marks).sheet ≡ length c.args.sheet.now = c.loop-at.invariant.sheet_size ∙ sym c.requires.2 in
    c.put_counts.auto.sheet ∙ same-sheet

pub shape_of-edges-in-SentenceEnds : goal.shape_of-edges-in-SentenceEnds
shape_of-edges-in-SentenceEnds c =
    let same_edges : length (stored c.loop-at.t c.loop-at.sheet c.loop-at.edges c.loop-at.marks).edges ≡ length c.args.edges.now = c.loop-at.invariant.edges_size ∙ sym (ap length c.requires.3 ∙ length-replicate {A = ℕ} _ 0) in
    same_edges

pub shape_of-sheet : goal.shape_of-sheet
shape_of-sheet c =
    let same-sheet : length (stored c.loop-at.t c.loop-at.sheet c.loop-at.edges c.loop-at.marks).sheet ≡ length c.args.sheet.now = c.loop-at.invariant.sheet_size ∙ sym c.requires.2 in
    same-sheet

pub shape_of-edges : goal.shape_of-edges
shape_of-edges c =
    let same_edges : length (stored c.loop-at.t c.loop-at.sheet c.loop-at.edges c.loop-at.marks).edges ≡ length c.args.edges.now = c.loop-at.invariant.edges_size ∙ sym (ap length c.requires.3 ∙ length-replicate {A = ℕ} _ 0) in
    same_edges
