-- A part of a sheet that is written over as a whole.
use Prim.Native.Nat.{ℕ}
use mathlib.Core.Path.{◌≡◌, sym, ap, ◌∙◌}
use mathlib.Core.List.{List, ◌++◌, append_assoc}
use borrow.Rule.Slice.PartMut.{put_mid}
use lib.ListN.{length, take, drop}
use lib.Seq.{drop-drop}
use Rattle.columns.specs.Splices.{splice}

pub part_splice : (at n : ℕ) (l part vs : List ℕ) → part ≡ vs → n ≡ length vs → put_mid at n l part ≡ splice at vs l
unfolding splice
part_splice at n l part vs e f = rw (e, f)
    (sym (append_assoc (take at l) vs (drop (length vs) (drop at l)))
    ∙ ap (λ (rest : List ℕ). take at l ++ vs ++ rest) (drop-drop (length vs) at l))
