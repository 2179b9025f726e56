-- `explaining::explain` meets its contract: the part stands in the file or in the list, so the bytes there are the description's.
use Rattle.explaining.proofs.Lent.{inside_list, list_part, inside_file, file_part}
use Rattle.explaining.proofs.explain.Goals as goal

pub slice_bounds-result-end : goal.slice_bounds-result-end
slice_bounds-result-end c =
    let x = c.args in
    inside_list x.file.now x.list.now x.table x.tag.now x.sheet.now x.seen.now c.explain_place-told.result _ _ c.explain_place-told.ensures c.if-told-eq-OF_LIST.true

pub returns-then-told-eq-OF_LIST : goal.returns-then-told-eq-OF_LIST
returns-then-told-eq-OF_LIST c =
    let x = c.args in
    list_part x.file.now x.list.now x.table x.tag.now x.sheet.now x.seen.now c.explain_place-told.result _ _ c.explain_place-told.ensures c.if-told-eq-OF_LIST.true

pub slice_bounds-result-end-2 : goal.slice_bounds-result-end-2
slice_bounds-result-end-2 c =
    let x = c.args in
    inside_file x.file.now x.list.now x.table x.tag.now x.sheet.now x.seen.now c.explain_place-told.result _ _ c.explain_place-told.ensures c.if-told-eq-OF_LIST.false

pub returns : goal.returns
returns c =
    let x = c.args in
    file_part x.file.now x.list.now x.table x.tag.now x.sheet.now x.seen.now c.explain_place-told.result _ _ c.explain_place-told.ensures c.if-told-eq-OF_LIST.false
