-- One text put behind another, and a text told in other words.
use Prim.Native.Nat.{ℕ, ◌+◌, ◌≤◌}
use native.Mathlib.Nat.{add-zero, le_refl}
use native.Mathlib.Omega.{arith}
use mathlib.Core.Path.{◌≡◌, refl, sym, ap, ap₂, ◌∙◌}
use mathlib.Core.List.{List, [], ◌++◌}
use lib.ListN.{length, length-append}
use Rattle.printing.specs.Over.{over, Put}
use Rattle.printing.proofs.OverLaws.{over_append, over_none, over_length}

module _ {m : ℕ} {text : List ℕ} {at : ℕ} {out : List ℕ} {end : ℕ} {after : List ℕ} where
  pub put_then : {n : ℕ} {more : List ℕ} {last : ℕ} {done : List ℕ} → Put m text at out end after → Put n more end after last done
      → Put (m + n) (text ++ more) at out last done
  put_then {n} {more} {last} {done} p q =
      let e : length (text ++ more) ≡ length text + length more = length-append text more in
      record {
        place = omega arith;
        bytes =
            q.bytes
            ∙ ap₂ (λ (k : ℕ) (o : List ℕ). over k more o) p.place p.bytes
            ∙ over_append at text more out;
        within = omega arith;
      }

  -- the same bytes
  pub put_as : {other : List ℕ} → text ≡ other → Put m text at out end after → Put m other at out end after
  put_as {other} e p = rw (← e) p

  -- a weaker bound
  pub put_wider : {n : ℕ} → m ≤ n → Put m text at out end after → Put n text at out end after
  put_wider h p = record { place = p.place; bytes = p.bytes; within = omega arith }

pub put_none : (at : ℕ) (out : List ℕ) → Put 0 [] at out at out
put_none at out = record { place = sym (add-zero at); bytes = sym (over_none at out); within = le_refl 0 }

pub put_whole : {text : List ℕ} {at : ℕ} {out after : List ℕ} → after ≡ over at text out → Put (length text) text at out (at + length text) after
put_whole e = record { place = refl; bytes = e; within = le_refl _ }

pub put_length : {m : ℕ} {text : List ℕ} {at : ℕ} {out : List ℕ} {end : ℕ} {after : List ℕ} → Put m text at out end after → length after ≡ length out
put_length {text = text} {at = at} {out = out} p = ap length p.bytes ∙ over_length at text out
