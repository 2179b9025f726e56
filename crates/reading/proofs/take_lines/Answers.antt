-- `reading::take_lines` meets its contract: between two lines what it keeps is what the rules' reading has, and the outlines
-- of the open table's rows are noted. The measure is what is left of the file.
use borrow.Author.Rules.{rules}
use native.Mathlib.Omega.{arith}
use Prim.Native.Nat.{ℕ, ◌+◌}
use mathlib.Core.Path.{◌≡◌, refl, sym, ap, subst, ◌∙◌}
use mathlib.Core.List.{List, []}
use lib.ListN.{length, length-replicate}
use Rattle.rules.specs.Tables.{no_tables}
use Rattle.seen.proofs.SeenSets.{length_seen_set}
use Rattle.table_sheet.proofs.OpenSheets.{none_have_room, length_table_sheet}
use Rattle.lines.specs.NextLines.{line_end_of}
use Rattle.judging.specs.States.{tally_in}
use Rattle.judging.specs.Judging.{Judgeable, RowsOutlined}
use Rattle.reading.specs.Effects.{kept, judged_step}
use Rattle.reading.proofs.Going.{going_start, sheet_size, seen_size, begins_size, begun_limit, stop_unread, stop_end}
use Rattle.reading.proofs.Turning.{LineHere, not_refused, here_found, judged_so, plain_so, onward, inside, ready, goes_on_noted, applies, stops, plainly}
use Rattle.reading.proofs.RowOutlines.{tag_applies, no_row, stay_outlined, plainly_outlined}
use Rattle.reading.proofs.take_lines.Goals as goal

pub loop-at-init : goal.loop-at-init
loop-at-init c = (
  going_start c.args.file.now c.args.from (length c.args.begins.now) _ _ _ _ _ c.first_state-s.ensures c.requires.1 c.requires.2 refl c.requires.3,
  rw c.first_state-s.ensures (no_row _ c.args.file.now (length-replicate {A = ℕ} 7168 0)),
)

pub next_line-requires : goal.next_line-requires
next_line-requires c = (c.loop-at.invariant.0.in_file, c.requires.0)

pub overflow_cast-at : goal.overflow_cast-at
overflow_cast-at c =
    let h = c.loop-at-test.true in
    let w = c.requires.0 in
    search rules

pub returns-in-Err : goal.returns-in-Err
returns-in-Err c =
    rw (c.stop_at.ensures, c.line_refusal.ensures)
    (stop_unread c.args.file.now c.args.from (length c.args.begins.now) c.loop-at.at (kept c.loop-at.s c.loop-at.sheet c.loop-at.seen c.loop-at.marks c.loop-at.begins) c.loop-at.invariant.0 c.loop-at-test.true c.in-Err.why (sym c.next_line.ensures.0 ∙ ap line_end_of c.in-Err.is))

pub plain_line-plain-requires : goal.plain_line-plain-requires
plain_line-plain-requires c =
    let line-here : LineHere c.args.file.now c.args.from (length c.args.begins.now) c.loop-at.at (kept c.loop-at.s c.loop-at.sheet c.loop-at.seen c.loop-at.marks c.loop-at.begins) c.in-Ok.found c.next_line.new.places = here_found c.loop-at.invariant.0 c.requires.0 c.next_line.ensures c.in-Ok.is in
    (_, subst (λ (bs : List ℕ). Judgeable bs c.loop-at.s c.loop-at.sheet c.loop-at.seen c.loop-at.s.phase) (sym c.new-line.ensures.0) (ready line-here))

-- an ordinary line is taken
pub take_plain-s-requires : goal.take_plain-s-requires
take_plain-s-requires c =
    let line-here : LineHere c.args.file.now c.args.from (length c.args.begins.now) c.loop-at.at (kept c.loop-at.s c.loop-at.sheet c.loop-at.seen c.loop-at.marks c.loop-at.begins) c.in-Ok.found c.next_line.new.places = here_found c.loop-at.invariant.0 c.requires.0 c.next_line.ensures c.in-Ok.is in
    (plainly line-here c.plain_line-plain.result (plain_so c.new-line.result (c.new-line.ensures.0, c.new-line.ensures.1) c.loop-at.s c.loop-at.sheet c.loop-at.seen c.loop-at.marks (tally_in c.loop-at.s.phase).words _ (c.plain_line-plain.ensures c.loop-at.seen)) (sym c.is_some.ensures ∙ c.if-is_some.true)).0

pub overflow_add-at : goal.overflow_add-at
overflow_add-at c =
    let line-here : LineHere c.args.file.now c.args.from (length c.args.begins.now) c.loop-at.at (kept c.loop-at.s c.loop-at.sheet c.loop-at.seen c.loop-at.marks c.loop-at.begins) c.in-Ok.found c.next_line.new.places = here_found c.loop-at.invariant.0 c.requires.0 c.next_line.ensures c.in-Ok.is in
    let h = line-here in
    let b = inside h in
    let w = h.short in
    search rules

pub loop-at-smaller-then-is_some : goal.loop-at-smaller-then-is_some
loop-at-smaller-then-is_some c =
    let line-here : LineHere c.args.file.now c.args.from (length c.args.begins.now) c.loop-at.at (kept c.loop-at.s c.loop-at.sheet c.loop-at.seen c.loop-at.marks c.loop-at.begins) c.in-Ok.found c.next_line.new.places = here_found c.loop-at.invariant.0 c.requires.0 c.next_line.ensures c.in-Ok.is in
    let h = line-here in omega (arith, inside h, onward h)

pub loop-at-preserved-then-is_some : goal.loop-at-preserved-then-is_some
loop-at-preserved-then-is_some c =
    let line-here : LineHere c.args.file.now c.args.from (length c.args.begins.now) c.loop-at.at (kept c.loop-at.s c.loop-at.sheet c.loop-at.seen c.loop-at.marks c.loop-at.begins) c.in-Ok.found c.next_line.new.places = here_found c.loop-at.invariant.0 c.requires.0 c.next_line.ensures c.in-Ok.is in
    let goes = plainly line-here c.plain_line-plain.result (plain_so c.new-line.result (c.new-line.ensures.0, c.new-line.ensures.1) c.loop-at.s c.loop-at.sheet c.loop-at.seen c.loop-at.marks (tally_in c.loop-at.s.phase).words _ (c.plain_line-plain.ensures c.loop-at.seen)) (sym c.is_some.ensures ∙ c.if-is_some.true) in
    let e = c.take_plain-s.ensures c.args.from c.loop-at.at ((c.in-Ok.found.end) + 1) (kept c.loop-at.s c.loop-at.sheet c.loop-at.seen c.loop-at.marks c.loop-at.begins).sheet (kept c.loop-at.s c.loop-at.sheet c.loop-at.seen c.loop-at.marks c.loop-at.begins).seen (kept c.loop-at.s c.loop-at.sheet c.loop-at.seen c.loop-at.marks c.loop-at.begins).begins in
    (goes.1 _ e, plainly_outlined c.loop-at.outlines c.args.file.now c.args.from c.loop-at.at ((c.in-Ok.found.end) + 1) 0 (kept c.loop-at.s c.loop-at.sheet c.loop-at.seen c.loop-at.marks c.loop-at.begins) c.loop-at.invariant.1 c.plain_line-plain.result goes.0 _ e)

-- another is judged
pub judge-judged-requires : goal.judge-judged-requires
judge-judged-requires c =
    let line-here : LineHere c.args.file.now c.args.from (length c.args.begins.now) c.loop-at.at (kept c.loop-at.s c.loop-at.sheet c.loop-at.seen c.loop-at.marks c.loop-at.begins) c.in-Ok.found c.next_line.new.places = here_found c.loop-at.invariant.0 c.requires.0 c.next_line.ensures c.in-Ok.is in
    (subst (λ (bs : List ℕ). Judgeable bs c.loop-at.s c.loop-at.sheet c.loop-at.seen c.loop-at.s.phase) (sym c.new-line.ensures.0) (ready line-here), subst (λ (bs : List ℕ). RowsOutlined c.loop-at.outlines bs c.loop-at.sheet c.loop-at.s.phase) (sym c.new-line.ensures.0) c.loop-at.invariant.1)

pub returns-in-Err-judged : goal.returns-in-Err-judged
returns-in-Err-judged c =
    let line-here : LineHere c.args.file.now c.args.from (length c.args.begins.now) c.loop-at.at (kept c.loop-at.s c.loop-at.sheet c.loop-at.seen c.loop-at.marks c.loop-at.begins) c.in-Ok.found c.next_line.new.places = here_found c.loop-at.invariant.0 c.requires.0 c.next_line.ensures c.in-Ok.is in
    rw c.stop_at-in-Err-judged.ensures (stops line-here _ (judged_so c.new-line.result (c.new-line.ensures.0, c.new-line.ensures.1) c.loop-at.s c.loop-at.sheet c.loop-at.seen c.loop-at.marks c.judge-judged.ensures) c.in-Err-judged.fault c.in-Err-judged.is)

pub note_end-requires : goal.note_end-requires
note_end-requires c = begun_limit c.args.file.now c.args.from (length c.args.begins.now) c.loop-at.at (kept c.loop-at.s c.loop-at.sheet c.loop-at.seen c.loop-at.marks c.loop-at.begins) c.loop-at.invariant.0 c.requires.0

pub note_tag-requires : goal.note_tag-requires
note_tag-requires c =
    let line-here : LineHere c.args.file.now c.args.from (length c.args.begins.now) c.loop-at.at (kept c.loop-at.s c.loop-at.sheet c.loop-at.seen c.loop-at.marks c.loop-at.begins) c.in-Ok.found c.next_line.new.places = here_found c.loop-at.invariant.0 c.requires.0 c.next_line.ensures c.in-Ok.is in
    tag_applies _ (judged_step c.judge-judged.result) _ (applies line-here _ (judged_so c.new-line.result (c.new-line.ensures.0, c.new-line.ensures.1) c.loop-at.s c.loop-at.sheet c.loop-at.seen c.loop-at.marks c.judge-judged.ensures) (judged_step c.judge-judged.result) (not_refused _ c.in_default.not-Err)).2

pub apply-s-requires : goal.apply-s-requires
apply-s-requires c =
    let line-here : LineHere c.args.file.now c.args.from (length c.args.begins.now) c.loop-at.at (kept c.loop-at.s c.loop-at.sheet c.loop-at.seen c.loop-at.marks c.loop-at.begins) c.in-Ok.found c.next_line.new.places = here_found c.loop-at.invariant.0 c.requires.0 c.next_line.ensures c.in-Ok.is in
    applies line-here _ (judged_so c.new-line.result (c.new-line.ensures.0, c.new-line.ensures.1) c.loop-at.s c.loop-at.sheet c.loop-at.seen c.loop-at.marks c.judge-judged.ensures) (judged_step c.judge-judged.result) (not_refused _ c.in_default.not-Err)

pub overflow_add-at-in-loop-at : goal.overflow_add-at-in-loop-at
overflow_add-at-in-loop-at c =
    let line-here : LineHere c.args.file.now c.args.from (length c.args.begins.now) c.loop-at.at (kept c.loop-at.s c.loop-at.sheet c.loop-at.seen c.loop-at.marks c.loop-at.begins) c.in-Ok.found c.next_line.new.places = here_found c.loop-at.invariant.0 c.requires.0 c.next_line.ensures c.in-Ok.is in
    let h = line-here in
    let b = inside h in
    let w = h.short in
    search rules

pub loop-at-smaller : goal.loop-at-smaller
loop-at-smaller c =
    let line-here : LineHere c.args.file.now c.args.from (length c.args.begins.now) c.loop-at.at (kept c.loop-at.s c.loop-at.sheet c.loop-at.seen c.loop-at.marks c.loop-at.begins) c.in-Ok.found c.next_line.new.places = here_found c.loop-at.invariant.0 c.requires.0 c.next_line.ensures c.in-Ok.is in
    let h = line-here in omega (arith, inside h, onward h)

pub loop-at-preserved : goal.loop-at-preserved
loop-at-preserved c =
    let line-here : LineHere c.args.file.now c.args.from (length c.args.begins.now) c.loop-at.at (kept c.loop-at.s c.loop-at.sheet c.loop-at.seen c.loop-at.marks c.loop-at.begins) c.in-Ok.found c.next_line.new.places = here_found c.loop-at.invariant.0 c.requires.0 c.next_line.ensures c.in-Ok.is in
    let h = line-here in
    let j = (judged_so c.new-line.result (c.new-line.ensures.0, c.new-line.ensures.1) c.loop-at.s c.loop-at.sheet c.loop-at.seen c.loop-at.marks c.judge-judged.ensures) in (
      goes_on_noted h _ j (judged_step c.judge-judged.result) (not_refused _ c.in_default.not-Err) _ _ _ _ _ c.note_end.ensures (c.apply-s.ensures.0 _ _),
      rw c.note_tag.ensures
          (stay_outlined c.loop-at.outlines c.args.file.now c.args.from c.in-Ok.found.start ((c.in-Ok.found.end) + 1) (length c.args.file.now) (kept (kept c.loop-at.s c.loop-at.sheet c.loop-at.seen c.loop-at.marks c.loop-at.begins).state (kept c.loop-at.s c.loop-at.sheet c.loop-at.seen c.loop-at.marks c.loop-at.begins).sheet (kept c.loop-at.s c.loop-at.sheet c.loop-at.seen c.loop-at.marks c.loop-at.begins).seen (kept c.loop-at.s c.loop-at.sheet c.loop-at.seen c.loop-at.marks c.loop-at.begins).marks [])
          c.loop-at.invariant.1 (judged_step c.judge-judged.result) (applies h _ j (judged_step c.judge-judged.result) (not_refused _ c.in_default.not-Err)).2 _ (c.apply-s.ensures.0 c.args.from [])),
    )

pub closing-requires : goal.closing-requires
closing-requires c = sheet_size _ _ _ _ _ c.loop-at.invariant.0

pub overflow_cast-at-2 : goal.overflow_cast-at-2
overflow_cast-at-2 c =
    let h = c.loop-at.invariant.0.in_file in
    let w = c.requires.0 in
    search rules

pub returns : goal.returns
returns c =
    rw (c.stop_at-2.ensures, c.closing.ensures)
    (stop_end c.args.file.now c.args.from (length c.args.begins.now) c.loop-at.at (kept c.loop-at.s c.loop-at.sheet c.loop-at.seen c.loop-at.marks c.loop-at.begins) c.loop-at.invariant.0 c.loop-at-test.false)

pub shape_of-sheet-in-Err : goal.shape_of-sheet-in-Err
shape_of-sheet-in-Err c =
    let same-sheet : length (kept c.loop-at.s c.loop-at.sheet c.loop-at.seen c.loop-at.marks c.loop-at.begins).sheet ≡ length c.args.sheet.now = sheet_size _ _ _ _ _ c.loop-at.invariant.0 ∙ sym (ap length c.requires.1 ∙ length_table_sheet no_tables none_have_room) in
    same-sheet

pub shape_of-seen-in-Err : goal.shape_of-seen-in-Err
shape_of-seen-in-Err c =
    let same_seen : length (kept c.loop-at.s c.loop-at.sheet c.loop-at.seen c.loop-at.marks c.loop-at.begins).seen ≡ length c.args.seen.now = seen_size _ _ _ _ _ c.loop-at.invariant.0 ∙ sym (ap length c.requires.2 ∙ length_seen_set []) in
    same_seen

pub shape_of-begins-in-Err : goal.shape_of-begins-in-Err
shape_of-begins-in-Err c =
    let same-begins : length (kept c.loop-at.s c.loop-at.sheet c.loop-at.seen c.loop-at.marks c.loop-at.begins).begins ≡ (length c.args.begins.now) = begins_size _ _ _ _ _ c.loop-at.invariant.0 in
    same-begins

pub shape_of-sheet-in-Err-judged : goal.shape_of-sheet-in-Err-judged
shape_of-sheet-in-Err-judged c =
    let same-sheet : length (kept c.loop-at.s c.loop-at.sheet c.loop-at.seen c.loop-at.marks c.loop-at.begins).sheet ≡ length c.args.sheet.now = sheet_size _ _ _ _ _ c.loop-at.invariant.0 ∙ sym (ap length c.requires.1 ∙ length_table_sheet no_tables none_have_room) in
    same-sheet

pub shape_of-seen-in-Err-judged : goal.shape_of-seen-in-Err-judged
shape_of-seen-in-Err-judged c =
    let same_seen : length (kept c.loop-at.s c.loop-at.sheet c.loop-at.seen c.loop-at.marks c.loop-at.begins).seen ≡ length c.args.seen.now = seen_size _ _ _ _ _ c.loop-at.invariant.0 ∙ sym (ap length c.requires.2 ∙ length_seen_set []) in
    same_seen

pub shape_of-begins-in-Err-judged : goal.shape_of-begins-in-Err-judged
shape_of-begins-in-Err-judged c =
    let same-begins : length (kept c.loop-at.s c.loop-at.sheet c.loop-at.seen c.loop-at.marks c.loop-at.begins).begins ≡ (length c.args.begins.now) = begins_size _ _ _ _ _ c.loop-at.invariant.0 in
    same-begins

pub shape_of-sheet : goal.shape_of-sheet
shape_of-sheet c =
    let same-sheet : length (kept c.loop-at.s c.loop-at.sheet c.loop-at.seen c.loop-at.marks c.loop-at.begins).sheet ≡ length c.args.sheet.now = sheet_size _ _ _ _ _ c.loop-at.invariant.0 ∙ sym (ap length c.requires.1 ∙ length_table_sheet no_tables none_have_room) in
    same-sheet

pub shape_of-seen : goal.shape_of-seen
shape_of-seen c =
    let same_seen : length (kept c.loop-at.s c.loop-at.sheet c.loop-at.seen c.loop-at.marks c.loop-at.begins).seen ≡ length c.args.seen.now = seen_size _ _ _ _ _ c.loop-at.invariant.0 ∙ sym (ap length c.requires.2 ∙ length_seen_set []) in
    same_seen

pub shape_of-begins : goal.shape_of-begins
shape_of-begins c =
    let same-begins : length (kept c.loop-at.s c.loop-at.sheet c.loop-at.seen c.loop-at.marks c.loop-at.begins).begins ≡ (length c.args.begins.now) = begins_size _ _ _ _ _ c.loop-at.invariant.0 in
    same-begins
