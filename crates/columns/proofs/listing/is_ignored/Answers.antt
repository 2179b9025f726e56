-- `columns::listing::is_ignored` meets its contract: by the number of columns, the line's length and its first two bytes,
-- one law each. No loop.
use native.Mathlib.Omega.{arith}
use Prim.Native.Nat.{ℕ, ◌-◌, ◌≤◌, ◌<◌}
use mathlib.Core.Path.{◌≡◌, sym, ap, ◌∙◌}
use lib.Dec.{eqb}
use lib.ListN.{length}
use Rattle.columns.specs.Listing.{columns_of, line_of}
use Rattle.columns.proofs.ListedColumns.{line_length, byte_at, first_byte_lem}
use Rattle.columns.proofs.FirstBytes.{ignored_white, ignored_short, ignored_first, ignored_second}
use Rattle.columns.proofs.listing.is_ignored.Goals as goal

pub returns-then-line-eq0 : goal.returns-then-line-eq0
returns-then-line-eq0 c = sym (ignored_white c.args.line.start ((line_of c.args.file.now c.args.line).bytes) (sym c.requires.1.counted ∙ c.if-line-eq0.true))

pub returns-then-line-start-lt2 : goal.returns-then-line-start-lt2
returns-then-line-start-lt2 c =
    let sized : length ((line_of c.args.file.now c.args.line).bytes) ≡ c.args.line.end - c.args.line.start = line_length _ _ _ c.requires.1 in
    let some : 0 < length (columns_of c.args.file.now c.args.line) = omega (arith, c.if-line-eq0.false, c.requires.1.counted) in
    sym (ignored_short c.args.line.start ((line_of c.args.file.now c.args.line).bytes) some (omega (arith, sized, c.if-line-start-lt2.true)))

pub returns-then-file-start-ne37 : goal.returns-then-file-start-ne37
returns-then-file-start-ne37 c =
    let sized : length ((line_of c.args.file.now c.args.line).bytes) ≡ c.args.line.end - c.args.line.start = line_length _ _ _ c.requires.1 in
    let some : 0 < length (columns_of c.args.file.now c.args.line) = omega (arith, c.if-line-eq0.false, c.requires.1.counted) in
    let long : 2 ≤ length ((line_of c.args.file.now c.args.line).bytes) = omega (arith, sized, c.if-line-start-lt2.false) in
    sym (ignored_first c.args.line.start ((line_of c.args.file.now c.args.line).bytes) some long (λ q. c.if-file-start-ne37.true (sym (first_byte_lem _ _ _ c.requires.1 (omega (arith, sized))) ∙ q)))

pub returns : goal.returns
returns c =
    let sized : length ((line_of c.args.file.now c.args.line).bytes) ≡ c.args.line.end - c.args.line.start = line_length _ _ _ c.requires.1 in
    let some : 0 < length (columns_of c.args.file.now c.args.line) = omega (arith, c.if-line-eq0.false, c.requires.1.counted) in
    let long : 2 ≤ length ((line_of c.args.file.now c.args.line).bytes) = omega (arith, sized, c.if-line-start-lt2.false) in
    let first = first_byte_lem _ _ _ c.requires.1 (omega (arith, sized)) in
    let second = byte_at _ _ _ c.requires.1 1 (omega (arith, sized)) in
    ap (λ (b : ℕ). eqb b 37) (sym second) ∙ sym (ignored_second c.args.line.start ((line_of c.args.file.now c.args.line).bytes) some long (first ∙ c.if-file-start-ne37.false))
