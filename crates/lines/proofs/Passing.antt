-- One pass along a line, at a place within it: the borders in front of that place are stored, whatever follows. At the
-- newline they are the numbers that list the line's columns.
use Prim.Native.Nat.{ℕ, suc, ◌+◌, ◌-◌, ◌*◌, ◌/◌, ◌≤◌, ◌<◌}
use native.Mathlib.Nat.{add-zero}
use native.Mathlib.Numerals.{add-one}
use native.Mathlib.Omega.{arith}
use mathlib.Core.Path.{◌≡◌, refl, sym, ap, ap₂, ◌∙◌}
use mathlib.Core.Bool.{Bool, true, false, not, ◌||◌}
use mathlib.Core.List.{List, [], ◌∷◌, ◌++◌, append_assoc, append-nil}
use lib.Dec.{T, eqb}
use lib.Bits.{bit_xor}
use lib.ListN.{length, take, drop, get_or, set, length-set, length-drop, length-append}
use lib.Seq.{length-take-le, take-suc, take-set-le, get_or-set_same, get_or-drop}
use borrow.Author.Tests.{eqb-true, ne_eqb}
use Rattle.rules.specs.Lists.{pick}
use Rattle.rules.specs.Bytes.{newline, white, illegal_class, class_of}
use Rattle.rules.specs.Numbers.{line_limit, file_limit}
use Rattle.rules.specs.Columns.{columns_from}
use Rattle.rules.proofs.Counting.{holds_below}
use Rattle.columns.specs.Listing.{places_of, Listed}
use Rattle.columns.specs.declared.listing.Line.{Line}
use Rattle.columns.proofs.Stands.{length_places}
use Rattle.lines.specs.LineEnds.{line_end}
use Rattle.std.specs.Prelude.{Ok}
use Rattle.lines.proofs.Borders.{differ, borders, borders_end, borders_step, borders_list}
use Rattle.lines.proofs.Scan.{scan, scan_start, scan_at, scan_legal}

-- ---- bits

abbrev bit : Bool → ℕ
bit b = pick b 1 0

differ_bits : (a b : Bool) → bit_xor (bit a) (bit b) ≡ bit (differ a b)
differ_bits true true = refl
differ_bits true false = refl
differ_bits false true = refl
differ_bits false false = refl

bit_few : (b : Bool) → bit b ≤ 1
bit_few true = omega arith
bit_few false = omega arith

-- half a legal byte's class tells whether it is in a column
abbrev halved : ℕ → Bool
halved b = eqb (class_of b) illegal_class || eqb (class_of b / 2) (bit (not (white b)))

other_holds : (a b : Bool) → T (a || b) → a ≡ false → b ≡ true
other_holds true b t e = absurd (let z : ◌≡◌ {A = ℕ} 0 1 = cc in omega arith)
other_holds false true t e = refl
other_holds false false t e = absurd t

class_halved : (b : ℕ) → b < 256 → (class_of b ≡ illegal_class → ⊥) → class_of b / 2 ≡ bit (not (white b))
unfolding class_of
class_halved b h n = eqb-true _ _ (other_holds (eqb (class_of b) illegal_class) _ (holds_below halved 256 tt b h) (ne_eqb _ _ n))

-- ---- a place that is stored, and kept or not

store_border : (places : List ℕ) (kept at : ℕ) (d : Bool) (on : List ℕ) → kept < length places
    → take kept places ++ pick d (at ∷ on) on ≡ take (kept + bit d) (set places kept at) ++ on
store_border places kept at true on h =
    let s : kept < length (set places kept at) = simp length-set h in
    sym
    (ap (λ (n : ℕ). take n (set places kept at) ++ on) (add-one kept)
    ∙ ap (λ (l : List ℕ). l ++ on) (take-suc (set places kept at) kept 0 s)
    ∙ ap₂ (λ (l : List ℕ) (n : ℕ). (l ++ (n ∷ [])) ++ on) (take-set-le kept places kept at (omega arith)) (get_or-set_same places kept at 0 h)
    ∙ append_assoc (take kept places) (at ∷ []) on)
store_border places kept at false on h =
    sym
    (ap (λ (n : ℕ). take n (set places kept at) ++ on) (add-zero kept)
    ∙ ap (λ (l : List ℕ). l ++ on) (take-set-le kept places kept at (omega arith)))

-- ---- the pass

-- the bytes of the line in front of a place
abbrev front : List ℕ → ℕ → ℕ → List ℕ
front file from at = take (at - from) (drop from file)

front_more : (file : List ℕ) (from at : ℕ) (rest : List ℕ) → from ≤ at → at < length file
    → front file from (at + 1) ++ rest ≡ front file from at ++ (get_or file at 0 ∷ rest)
front_more file from at rest f h =
    let k : at + 1 - from ≡ suc (at - from) = omega arith in
    let m : from + (at - from) ≡ at = omega arith in
    let s : at - from < length (drop from file) = omega (arith, length-drop from file) in
    ap (λ (n : ℕ). take n (drop from file) ++ rest) k
    ∙ ap (λ (l : List ℕ). l ++ rest) (take-suc (drop from file) (at - from) 0 s)
    ∙ ap (λ (n : ℕ). (front file from at ++ (n ∷ [])) ++ rest) (get_or-drop from file (at - from) 0 ∙ ap (λ (n : ℕ). get_or file n 0) m)
    ∙ append_assoc (front file from at) (get_or file at 0 ∷ []) rest

pub record Passing (file : List ℕ) (from : ℕ) (places : List ℕ) (at kept inside : ℕ) : Type 0 where
  pub room : length places ≡ 4096
  pub passed : from ≤ at
  pub few : kept + from ≤ at
  pub within : Bool
  pub is : inside ≡ bit within
  pub scanned : scan file from at true ≡ line_end file from
  pub stored : (rest : List ℕ) → borders false from (front file from at ++ rest) ≡ take kept places ++ borders within at rest

pub passing_start : (file : List ℕ) (from : ℕ) (places : List ℕ) → length places ≡ 4096 → Passing file from places from 0 0
passing_start file from places h =
    let k : from - from ≡ 0 = omega arith in
    record {
      room = h;
      passed = omega arith;
      few = omega arith;
      within = false;
      is = refl;
      scanned = scan_start file from;
      stored = λ rest. ap (λ (n : ℕ). borders false from (take n (drop from file) ++ rest)) k;
    }

module _ (file : List ℕ) (from : ℕ) (places : List ℕ) (at kept inside : ℕ) (w : Passing file from places at kept inside) (below : at < length file) (short : at < from + line_limit) where
  abbrev here : ℕ
  here = get_or file at 0

  pub few_kept : kept < 4096
  few_kept = omega (arith, w.few)

  pub inside_few : inside ≤ 1
  inside_few = omega (arith, w.is, bit_few w.within)

  pub passing_next : here < 256 → (class : ℕ) → class ≡ class_of here → (class ≡ illegal_class → ⊥)
      → (bit_xor (class / 2) inside ≤ 1) × Passing file from (set places kept at) (at + 1) (kept + bit_xor (class / 2) inside) (class / 2)
  passing_next h class is n =
      let solid = not (white here) in
      let legal : class_of here ≡ illegal_class → ⊥ = λ z. n (is ∙ z) in
      let c : class / 2 ≡ bit solid = ap (λ (k : ℕ). k / 2) is ∙ class_halved here h legal in
      let d : bit_xor (class / 2) inside ≡ bit (differ solid w.within) = ap₂ bit_xor c w.is ∙ differ_bits solid w.within in
      let b = bit_few (differ solid w.within) in (
        omega (arith, d, b),
        record {
          room = simp length-set w.room;
          passed = omega (arith, w.passed);
          few = omega (arith, w.few, d, b);
          within = solid;
          is = c;
          scanned = scan_legal file from at true below w.passed h legal ∙ w.scanned;
          stored =
              λ rest.
              ap (borders false from) (front_more file from at rest w.passed below)
              ∙ w.stored (here ∷ rest)
              ∙ ap (λ (l : List ℕ). take kept places ++ l) (borders_step w.within at here rest)
              ∙ store_border places kept at (differ solid w.within) (borders solid (suc at) rest) (omega (arith, few_kept, w.room))
              ∙ ap₂ (λ (m k : ℕ). take (kept + m) (set places kept at) ++ borders solid k rest) (sym d) (sym (add-one at));
        },
      )

-- ---- the line's newline

module _ (file : List ℕ) (from : ℕ) (places : List ℕ) (at kept inside : ℕ) (w : Passing file from places at kept inside) (below : at < length file) (fits : at ≤ from + line_limit) (e : get_or file at 0 ≡ newline) (m : length file ≤ file_limit) where
  abbrev bytes : List ℕ
  bytes = front file from at

  abbrev Ended : Line → List ℕ → Type 0
  Ended l stored = (line_end file from ≡ Ok l.end) × (l.start ≡ from) × Listed file l stored

  borders_here : places_of (columns_from from bytes) ≡ take kept places ++ pick w.within (at ∷ []) []
  borders_here =
      borders_list from bytes
      ∙ ap (borders false from) (sym (append-nil bytes))
      ∙ w.stored []
      ∙ ap (λ (x : List ℕ). take kept places ++ x) (borders_end w.within at)

  bit_long : (d : Bool) → length (pick d (at ∷ []) []) ≡ bit d
  bit_long true = refl
  bit_long false = refl

  -- each column has two borders
  borders_counted : 2 * length (columns_from from bytes) ≡ kept + bit w.within
  borders_counted =
      sym (length_places (columns_from from bytes))
      ∙ ap length borders_here
      ∙ length-append (take kept places) (pick w.within (at ∷ []) [])
      ∙ ap₂ (λ (x y : ℕ). x + y) (length-take-le kept places (omega (arith, w.few, w.room))) (bit_long w.within)

  ended : (stored : List ℕ) (n : ℕ) → places_of (columns_from from bytes) ≡ take (kept + bit w.within) stored → n ≡ kept + bit w.within
      → (l : Line) → l ≡ record { start = from; end = at; columns = n / 2 } → Ended l stored
  ended stored n listing sum l is =
      let half : n / 2 ≡ length (columns_from from bytes) = omega (arith, borders_counted, sum) in
      let whole : 2 * (n / 2) ≡ kept + bit w.within = omega (arith, borders_counted, half) in
      rw is (
        sym w.scanned ∙ scan_at file from at true below e refl w.passed (omega (arith, w.passed)),
        refl,
        record {
          order = w.passed;
          inside = omega arith;
          short = omega arith;
          limited = m;
          counted = half;
          listed = ap (λ (k : ℕ). take k stored) whole ∙ sym listing;
        },
      )

  ended_stored : kept < 4096 → (n : ℕ) → n ≡ kept + bit w.within → (l : Line) → l ≡ record { start = from; end = at; columns = n / 2 } → Ended l (set places kept at)
  ended_stored h n sum l is =
      ended (set places kept at) n
      (borders_here
      ∙ store_border places kept at w.within [] (omega (arith, h, w.room))
      ∙ append-nil (take (kept + bit w.within) (set places kept at)))
      sum l is

  pub passing_end : at < from + line_limit → (l : Line) → l ≡ record { start = from; end = at; columns = (kept + inside) / 2 } → Ended l (set places kept at)
  passing_end short l is = ended_stored (omega (arith, w.few)) (kept + inside) (ap (λ (k : ℕ). kept + k) w.is) l is

  -- at the limit a column's end has its place, and where no column goes on nothing is stored

  is_outside : inside ≡ 0 → w.within ≡ false
  is_outside z = by w.within refl
    where
      by : (d : Bool) → w.within ≡ d → d ≡ false
      by true q = absurd (let b : bit w.within ≡ 1 = ap bit q in omega (arith, w.is, b, z))
      by false q = refl

  is_inside : (inside ≡ 0 → ⊥) → w.within ≡ true
  is_inside z = by w.within refl
    where
      by : (d : Bool) → w.within ≡ d → d ≡ true
      by true q = refl
      by false q = absurd (z (w.is ∙ ap bit q))

  pub passing_outside : inside ≡ 0 → (l : Line) → l ≡ record { start = from; end = at; columns = kept / 2 } → Ended l places
  passing_outside z l is =
      let d = is_outside z in
      let sum : kept ≡ kept + bit w.within = omega (arith, ap bit d) in
      ended places kept
      (borders_here
      ∙ ap (λ (x : Bool). take kept places ++ pick x (at ∷ []) []) d
      ∙ append-nil (take kept places)
      ∙ ap (λ (k : ℕ). take k places) sum)
      sum l is

  pub room_inside : (inside ≡ 0 → ⊥) → kept < 4096
  room_inside z = omega (arith, borders_counted, ap bit (is_inside z), w.few)

  pub passing_inside : (inside ≡ 0 → ⊥) → (l : Line) → l ≡ record { start = from; end = at; columns = (kept + 1) / 2 } → Ended l (set places kept at)
  passing_inside z l is = ended_stored (room_inside z) (kept + 1) (ap (λ (k : ℕ). kept + k) (sym (ap bit (is_inside z)))) l is
