-- `writing::found::print_sentences` meets its contract: the texts of the first numbers are put one behind the other, and
-- between two of them sheet, list and first edges are zero, and no mark is larger than the number of the next.
use borrow.Author.Rules.{rules}
use native.Mathlib.Omega.{arith}
use Prim.Native.Nat.{ℕ, ◌*◌}
use mathlib.Core.Path.{◌≡◌, refl, sym, ap, ◌∙◌}
use mathlib.Core.List.{List}
use lib.ListN.{length, replicate, length-replicate}
use Rattle.rules.specs.Numbers.{edge_limit}
use Rattle.rules.specs.SheetFields.{node_room}
use Rattle.rules.specs.Sheets.{sentence_sheet_size}
use Rattle.rules.proofs.Rooms.{each_at}
use Rattle.sentence_sheet.specs.FlatEdges.{edge_width}
use Rattle.sentences.proofs.StampedMarks.{zeros_marked}
use Rattle.printing.proofs.PutLaws.{put_length}
use Rattle.writing.specs.TextParts.{sentences_most}
use Rattle.writing.specs.Ready.{Entry}
use Rattle.writing.proofs.FoundTexts.{all_start, all_more, all_put}
use Rattle.writing.proofs.found.print_sentences.Goals as goal

zeros_long : (n : ℕ) (xs ys : List ℕ) → xs ≡ replicate n 0 → ys ≡ replicate n 0 → length xs ≡ length ys
zeros_long n xs ys a b = ap length (a ∙ sym b)

pub loop-n-init : goal.loop-n-init
loop-n-init c =
    record {
      in_list = omega arith;
      put = all_start c.args.file.now c.args.begins.now c.args.at _;
      sheet_zero = c.requires.3;
      edges_zero = c.requires.4;
      firsts_zero = refl;
      marked = zeros_marked;
    }

pub slice_bounds-print_begun-end : goal.slice_bounds-print_begun-end
slice_bounds-print_begun-end c = sym (ap length c.loop-n.invariant.firsts_zero ∙ length-replicate {A = ℕ} node_room 0)

pub print_begun-end-requires : goal.print_begun-end-requires
print_begun-end-requires c =
    let g = c.loop-n.invariant in (
      c.requires.0,
      each_at (Entry c.args.file.now) c.args.begins.now c.loop-n.n 0 c.requires.1 c.loop-n-test.true,
      g.sheet_zero,
      g.edges_zero,
      g.firsts_zero,
      omega (arith, g.put.place, g.put.within, g.in_list, c.requires.2, c.requires.5),
      omega (arith, g.in_list, c.requires.2),
      g.marked,
    )

pub loop-n-preserved : goal.loop-n-preserved
loop-n-preserved c =
    let e = c.print_begun-end.ensures in
    record {
      in_list = omega (arith, c.loop-n-test.true);
      put = all_more c.args.file.now c.args.begins.now c.loop-n.n c.loop-n-test.true c.loop-n.invariant.put e.0;
      sheet_zero = e.1;
      edges_zero = e.2;
      firsts_zero = e.3;
      marked = e.4;
    }

pub returns : goal.returns
returns c =
    let g = c.loop-n.invariant in (
      all_put c.args.file.now c.args.begins.now c.loop-n.n sentences_most (omega (arith, g.in_list, c.loop-n-test.false)) (omega (arith, g.in_list, c.requires.2)) g.put,
      g.sheet_zero,
      g.edges_zero,
    )

pub overflow_cast-n : goal.overflow_cast-n
overflow_cast-n c = let few = c.requires.2 in search rules

pub loop-n-smaller : goal.loop-n-smaller
loop-n-smaller c = omega (arith, c.loop-n-test.true)

pub shape_of-sheet : goal.shape_of-sheet
shape_of-sheet c = zeros_long sentence_sheet_size _ _ c.loop-n.invariant.sheet_zero c.requires.3

pub shape_of-edges : goal.shape_of-edges
shape_of-edges c = zeros_long (edge_limit * edge_width) _ _ c.loop-n.invariant.edges_zero c.requires.4

pub shape_of-out : goal.shape_of-out
shape_of-out c = put_length c.loop-n.invariant.put
