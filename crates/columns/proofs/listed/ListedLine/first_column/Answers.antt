-- `columns::ListedLine::first_column` meets its contract: the first column counts if it starts where the line does. No loop.
use Rattle.columns.specs.Lines.{text_in, columns_in}
use native.Mathlib.Omega.{arith}
use Prim.Native.Nat.{◌-◌, ◌<◌}
use mathlib.Core.Path.{◌≡◌, sym, ap, ◌∙◌}
use mathlib.Core.List.{[]}
use lib.ListN.{length, take, drop}
use native.Mathlib.Nat.{sub_self}
use Rattle.rules.specs.Texts.{Text}
use Rattle.columns.proofs.ListedColumns.{start_at, bounds_at}
use Rattle.columns.proofs.FirstBytes.{first_none, first_later, first_here}
use Rattle.columns.proofs.listed.ListedLine.first_column.Goals as goal

pub returns-then-self-eq0 : goal.returns-then-self-eq0
returns-then-self-eq0 c =
    let nothing : take (c.args.self.now.start - c.args.self.now.start) (drop c.args.self.now.start c.args.self.now.file.now) ≡ [] = rw sub_self in
    nothing ∙ sym (first_none (text_in c.args.self.now) (sym c.args.self.now.listed.counted ∙ c.if-self-eq0.true))

pub overflow_cast-self : goal.overflow_cast-self
overflow_cast-self c =
    let counted : 0 < c.args.self.now.columns = omega (arith, c.if-self-eq0.false) in
    omega (arith, bounds_at _ _ _ c.args.self.now.listed 0 counted)

pub returns-then-self-start : goal.returns-then-self-start
returns-then-self-start c =
    let counted : 0 < c.args.self.now.columns = omega (arith, c.if-self-eq0.false) in
    let some : 0 < length (columns_in c.args.self.now) = omega (arith, counted, c.args.self.now.listed.counted) in
    let nothing : take (c.args.self.now.start - c.args.self.now.start) (drop c.args.self.now.start c.args.self.now.file.now) ≡ [] = rw sub_self in
    nothing ∙ sym (first_later (text_in c.args.self.now) some (λ q. c.if-self-start.true (start_at _ _ _ c.args.self.now.listed 0 counted ∙ q)))

pub returns : goal.returns
returns c =
    let counted : 0 < c.args.self.now.columns = omega (arith, c.if-self-eq0.false) in
    let some : 0 < length (columns_in c.args.self.now) = omega (arith, counted, c.args.self.now.listed.counted) in
    c.column_text.ensures
    ∙ ap (λ (t : Text). t.bytes) (sym (first_here (text_in c.args.self.now) some (sym (start_at _ _ _ c.args.self.now.listed 0 counted) ∙ c.if-self-start.false)))
