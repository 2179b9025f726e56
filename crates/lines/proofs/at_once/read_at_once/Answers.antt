-- `lines::at_once::read_at_once` meets its contract. The invariant, `Passing`: the borders in front of the place are
-- stored, and what is still to be found is what the line's start asks for. The measure is what is left of the pass.
use native.Mathlib.Omega.{arith}
use Prim.Native.Nat.{ℕ, ◌+◌, ◌/◌, ◌≤◌, ◌<◌}
use mathlib.Core.Path.{◌≡◌, refl, sym, ◌∙◌, subst}
use lib.Bits.{bit_xor}
use lib.ListN.{length, get_or, set, length-set}
use Rattle.rules.specs.Numbers.{line_limit}
use Rattle.lines.proofs.Passing.{Passing, passing_start, few_kept, inside_few, passing_next, passing_end, passing_outside, room_inside, passing_inside}
use Rattle.lines.proofs.at_once.read_at_once.Goals as goal

pub loop-at-init : goal.loop-at-init
loop-at-init c = (passing_start c.args.file.now c.args.from c.args.places.now c.requires.2)

pub bounds-file-at : goal.bounds-file-at
bounds-file-at c = omega (arith, c.loop-at-test.true, c.last_place-last.ensures)

pub overflow_cast-places : goal.overflow_cast-places
overflow_cast-places c =
    let below : c.loop-at.at < length c.args.file.now = omega (arith, c.loop-at-test.true, c.last_place-last.ensures) in
    omega (arith, below, c.requires.1)

pub offset_bounds-places-kept : goal.offset_bounds-places-kept
offset_bounds-places-kept c =
    let below : c.loop-at.at < length c.args.file.now = omega (arith, c.loop-at-test.true, c.last_place-last.ensures) in
    let short : c.loop-at.at < c.args.from + line_limit = omega (arith, c.loop-at-test.true, c.last_place-last.ensures) in
    let few : c.loop-at.kept < 4096 = few_kept c.args.file.now c.args.from _ c.loop-at.at _ _ c.loop-at.invariant below short in
    omega (arith, few)

pub bounds-places-kept : goal.bounds-places-kept
bounds-places-kept c =
    let below : c.loop-at.at < length c.args.file.now = omega (arith, c.loop-at-test.true, c.last_place-last.ensures) in
    let short : c.loop-at.at < c.args.from + line_limit = omega (arith, c.loop-at-test.true, c.last_place-last.ensures) in
    let few : c.loop-at.kept < 4096 = few_kept c.args.file.now c.args.from _ c.loop-at.at _ _ c.loop-at.invariant below short in
    omega (arith, few, c.loop-at.invariant.room)

pub shape_of-places-then-b-ne10 : goal.shape_of-places-then-b-ne10
shape_of-places-then-b-ne10 c =
    let same-room : length c.loop-at.places ≡ length c.args.places.now = c.loop-at.invariant.room ∙ sym c.requires.2 in
    simp length-set same-room

pub returns-then-b-ne10 : goal.returns-then-b-ne10
returns-then-b-ne10 c = tt

pub overflow_cast-inside : goal.overflow_cast-inside
overflow_cast-inside c =
    let below : c.loop-at.at < length c.args.file.now = omega (arith, c.loop-at-test.true, c.last_place-last.ensures) in
    let short : c.loop-at.at < c.args.from + line_limit = omega (arith, c.loop-at-test.true, c.last_place-last.ensures) in
    let bit : c.loop-at.inside ≤ 1 = inside_few c.args.file.now c.args.from _ c.loop-at.at _ _ c.loop-at.invariant below short in
    omega (arith, bit)

pub overflow_add-kept : goal.overflow_add-kept
overflow_add-kept c =
    let below : c.loop-at.at < length c.args.file.now = omega (arith, c.loop-at-test.true, c.last_place-last.ensures) in
    let short : c.loop-at.at < c.args.from + line_limit = omega (arith, c.loop-at-test.true, c.last_place-last.ensures) in
    let few : c.loop-at.kept < 4096 = few_kept c.args.file.now c.args.from _ c.loop-at.at _ _ c.loop-at.invariant below short in
    let bit : c.loop-at.inside ≤ 1 = inside_few c.args.file.now c.args.from _ c.loop-at.at _ _ c.loop-at.invariant below short in
    omega (arith, few, bit)

pub shape_of-places-then-class-eq0 : goal.shape_of-places-then-class-eq0
shape_of-places-then-class-eq0 c =
    let same-room : length c.loop-at.places ≡ length c.args.places.now = c.loop-at.invariant.room ∙ sym c.requires.2 in
    simp length-set same-room

pub returns-then-class-eq0 : goal.returns-then-class-eq0
returns-then-class-eq0 c =
    let below : c.loop-at.at < length c.args.file.now = omega (arith, c.loop-at-test.true, c.last_place-last.ensures) in
    let short : c.loop-at.at < c.args.from + line_limit = omega (arith, c.loop-at-test.true, c.last_place-last.ensures) in
    rw c.line_between.ensures
    (passing_end c.args.file.now c.args.from _ c.loop-at.at _ _ c.loop-at.invariant below (omega (arith, short)) c.if-b-ne10.false c.requires.1 short _ refl)

pub overflow_cast-kept : goal.overflow_cast-kept
overflow_cast-kept c =
    let below : c.loop-at.at < length c.args.file.now = omega (arith, c.loop-at-test.true, c.last_place-last.ensures) in
    let short : c.loop-at.at < c.args.from + line_limit = omega (arith, c.loop-at-test.true, c.last_place-last.ensures) in
    let is_byte : (get_or c.args.file.now c.loop-at.at 0) < 256 = omega (arith, c.shared_slice_known-in-loop-at-1.given c.loop-at.at) in
    let next : (bit_xor (c.class_of-class.result / 2) c.loop-at.inside ≤ 1) × Passing c.args.file.now c.args.from (set c.loop-at.places c.loop-at.kept c.loop-at.at) (c.loop-at.at + 1) (c.loop-at.kept + bit_xor (c.class_of-class.result / 2) c.loop-at.inside) (c.class_of-class.result / 2) = passing_next c.args.file.now c.args.from _ c.loop-at.at _ _ c.loop-at.invariant below short is_byte _ c.class_of-class.ensures c.if-class-eq0.false in
    omega (arith, next.0)

pub overflow_add-kept-in-loop-at : goal.overflow_add-kept-in-loop-at
overflow_add-kept-in-loop-at c =
    let below : c.loop-at.at < length c.args.file.now = omega (arith, c.loop-at-test.true, c.last_place-last.ensures) in
    let short : c.loop-at.at < c.args.from + line_limit = omega (arith, c.loop-at-test.true, c.last_place-last.ensures) in
    let is_byte : (get_or c.args.file.now c.loop-at.at 0) < 256 = omega (arith, c.shared_slice_known-in-loop-at-1.given c.loop-at.at) in
    let few : c.loop-at.kept < 4096 = few_kept c.args.file.now c.args.from _ c.loop-at.at _ _ c.loop-at.invariant below short in
    let next : (bit_xor (c.class_of-class.result / 2) c.loop-at.inside ≤ 1) × Passing c.args.file.now c.args.from (set c.loop-at.places c.loop-at.kept c.loop-at.at) (c.loop-at.at + 1) (c.loop-at.kept + bit_xor (c.class_of-class.result / 2) c.loop-at.inside) (c.class_of-class.result / 2) = passing_next c.args.file.now c.args.from _ c.loop-at.at _ _ c.loop-at.invariant below short is_byte _ c.class_of-class.ensures c.if-class-eq0.false in
    omega (arith, few, next.0)

pub loop-at-preserved : goal.loop-at-preserved
loop-at-preserved c =
    let below : c.loop-at.at < length c.args.file.now = omega (arith, c.loop-at-test.true, c.last_place-last.ensures) in
    let short : c.loop-at.at < c.args.from + line_limit = omega (arith, c.loop-at-test.true, c.last_place-last.ensures) in
    let is_byte : (get_or c.args.file.now c.loop-at.at 0) < 256 = omega (arith, c.shared_slice_known-in-loop-at-1.given c.loop-at.at) in
    let next : (bit_xor (c.class_of-class.result / 2) c.loop-at.inside ≤ 1) × Passing c.args.file.now c.args.from (set c.loop-at.places c.loop-at.kept c.loop-at.at) (c.loop-at.at + 1) (c.loop-at.kept + bit_xor (c.class_of-class.result / 2) c.loop-at.inside) (c.class_of-class.result / 2) = passing_next c.args.file.now c.args.from _ c.loop-at.at _ _ c.loop-at.invariant below short is_byte _ c.class_of-class.ensures c.if-class-eq0.false in
    next.1

pub bounds-file-last : goal.bounds-file-last
bounds-file-last c = omega (arith, c.if-file-last.false)

pub returns-then-inside-eq0 : goal.returns-then-inside-eq0
returns-then-inside-eq0 c =
    let inside-file : c.last_place-last.result < length c.args.file.now = omega (arith, c.if-file-last.false) in
    let fits : c.last_place-last.result ≤ c.args.from + line_limit = omega (arith, c.last_place-last.ensures) in
    let there : Passing c.args.file.now c.args.from c.loop-at.places c.last_place-last.result c.loop-at.kept c.loop-at.inside =
    subst (λ (n : ℕ). Passing c.args.file.now c.args.from c.loop-at.places n c.loop-at.kept c.loop-at.inside) (omega (arith, c.loop-at-test.false, c.last_place-last.ensures)) c.loop-at.invariant in
    rw c.line_between-then-inside-eq0.ensures
    (passing_outside c.args.file.now c.args.from _ c.last_place-last.result _ _ there inside-file fits c.if-file-last-ne10.false c.requires.1 c.if-inside-eq0.true _ refl)

pub overflow_cast-places-2 : goal.overflow_cast-places-2
overflow_cast-places-2 c =
    let inside-file : c.last_place-last.result < length c.args.file.now = omega (arith, c.if-file-last.false) in
    omega (arith, inside-file, c.requires.1)

pub bounds-places-kept-2 : goal.bounds-places-kept-2
bounds-places-kept-2 c =
    let inside-file : c.last_place-last.result < length c.args.file.now = omega (arith, c.if-file-last.false) in
    let fits : c.last_place-last.result ≤ c.args.from + line_limit = omega (arith, c.last_place-last.ensures) in
    let there : Passing c.args.file.now c.args.from c.loop-at.places c.last_place-last.result c.loop-at.kept c.loop-at.inside =
    subst (λ (n : ℕ). Passing c.args.file.now c.args.from c.loop-at.places n c.loop-at.kept c.loop-at.inside) (omega (arith, c.loop-at-test.false, c.last_place-last.ensures)) c.loop-at.invariant in
    let room : c.loop-at.kept < 4096 = room_inside c.args.file.now c.args.from _ c.last_place-last.result _ _ there inside-file fits c.if-file-last-ne10.false c.requires.1 c.if-inside-eq0.false in
    omega (arith, room, c.loop-at.invariant.room)

pub returns : goal.returns
returns c =
    let inside-file : c.last_place-last.result < length c.args.file.now = omega (arith, c.if-file-last.false) in
    let fits : c.last_place-last.result ≤ c.args.from + line_limit = omega (arith, c.last_place-last.ensures) in
    let there : Passing c.args.file.now c.args.from c.loop-at.places c.last_place-last.result c.loop-at.kept c.loop-at.inside =
    subst (λ (n : ℕ). Passing c.args.file.now c.args.from c.loop-at.places n c.loop-at.kept c.loop-at.inside) (omega (arith, c.loop-at-test.false, c.last_place-last.ensures)) c.loop-at.invariant in
    rw c.line_between-2.ensures
    (passing_inside c.args.file.now c.args.from _ c.last_place-last.result _ _ there inside-file fits c.if-file-last-ne10.false c.requires.1 c.if-inside-eq0.false _ refl)

pub shape_of-places-then-file-last : goal.shape_of-places-then-file-last
shape_of-places-then-file-last c =
    let same-room : length c.loop-at.places ≡ length c.args.places.now = c.loop-at.invariant.room ∙ sym c.requires.2 in
    same-room

pub returns-then-file-last : goal.returns-then-file-last
returns-then-file-last c = tt

pub shape_of-places-then-file-last-ne10 : goal.shape_of-places-then-file-last-ne10
shape_of-places-then-file-last-ne10 c =
    let same-room : length c.loop-at.places ≡ length c.args.places.now = c.loop-at.invariant.room ∙ sym c.requires.2 in
    same-room

pub returns-then-file-last-ne10 : goal.returns-then-file-last-ne10
returns-then-file-last-ne10 c = tt

pub shape_of-places-then-inside-eq0 : goal.shape_of-places-then-inside-eq0
shape_of-places-then-inside-eq0 c =
    let same-room : length c.loop-at.places ≡ length c.args.places.now = c.loop-at.invariant.room ∙ sym c.requires.2 in
    same-room

pub offset_bounds-places-kept-2 : goal.offset_bounds-places-kept-2
offset_bounds-places-kept-2 c =
    let inside-file : c.last_place-last.result < length c.args.file.now = omega (arith, c.if-file-last.false) in
    let fits : c.last_place-last.result ≤ c.args.from + line_limit = omega (arith, c.last_place-last.ensures) in
    let there : Passing c.args.file.now c.args.from c.loop-at.places c.last_place-last.result c.loop-at.kept c.loop-at.inside =
    subst (λ (n : ℕ). Passing c.args.file.now c.args.from c.loop-at.places n c.loop-at.kept c.loop-at.inside) (omega (arith, c.loop-at-test.false, c.last_place-last.ensures)) c.loop-at.invariant in
    let room : c.loop-at.kept < 4096 = room_inside c.args.file.now c.args.from _ c.last_place-last.result _ _ there inside-file fits c.if-file-last-ne10.false c.requires.1 c.if-inside-eq0.false in
    omega (arith, room)

pub overflow_add-kept-2 : goal.overflow_add-kept-2
overflow_add-kept-2 c =
    let inside-file : c.last_place-last.result < length c.args.file.now = omega (arith, c.if-file-last.false) in
    let fits : c.last_place-last.result ≤ c.args.from + line_limit = omega (arith, c.last_place-last.ensures) in
    let there : Passing c.args.file.now c.args.from c.loop-at.places c.last_place-last.result c.loop-at.kept c.loop-at.inside =
    subst (λ (n : ℕ). Passing c.args.file.now c.args.from c.loop-at.places n c.loop-at.kept c.loop-at.inside) (omega (arith, c.loop-at-test.false, c.last_place-last.ensures)) c.loop-at.invariant in
    let room : c.loop-at.kept < 4096 = room_inside c.args.file.now c.args.from _ c.last_place-last.result _ _ there inside-file fits c.if-file-last-ne10.false c.requires.1 c.if-inside-eq0.false in
    omega (arith, room)

pub shape_of-places : goal.shape_of-places
shape_of-places c =
    let same-room : length c.loop-at.places ≡ length c.args.places.now = c.loop-at.invariant.room ∙ sym c.requires.2 in
    simp length-set same-room
