-- Four columns one behind the other are a line, and the place behind a text counts its bytes if there is room for it.
-- By the laws of a line's columns.
use Prim.Native.Nat.{ℕ, ◌≤◌}
use native.Mathlib.Omega.{arith}
use mathlib.Core.Path.{◌≡◌, sym}
use mathlib.Core.List.{List, [], ◌∷◌, ◌++◌, append_assoc, append-nil}
use lib.ListN.{length}
use lib.Seq.{length-take-le}
use Rattle.rules.specs.Bytes.{newline}
use Rattle.rules.specs.Tidy.{space, keyword_line}
use Rattle.printing.specs.Over.{Put}
use Rattle.printing.specs.Further.{further}
use Rattle.printing.proofs.PutLaws.{put_length}
use Rattle.printing.proofs.LineLaws.{parted_is}
use Rattle.neaten.specs.Answers.{IsPrefixLen}

further_three : (x b c d : List ℕ) → x ++ (space ∷ b) ++ (space ∷ c) ++ (space ∷ d) ≡ x ++ further space (b ∷ c ∷ d ∷ [])
further_three x b c d = simp (append_assoc, append-nil)

pub four_columns : (a b c d : List ℕ) → a ++ (space ∷ b) ++ (space ∷ c) ++ (space ∷ d) ++ (newline ∷ []) ≡ keyword_line (a ∷ b ∷ c ∷ d ∷ [])
four_columns a b c d = rw (further_three a b c d) (parted_is space a (b ∷ c ∷ d ∷ []))

pub counted : {most : ℕ} {text out : List ℕ} {end : ℕ} {after : List ℕ} → Put most text 0 out end after → most ≤ length out → IsPrefixLen end after
counted {end = end} {after = after} p room =
    let within : end ≤ length after = omega (arith, p.place, p.within, room, put_length p) in
    (within, sym (length-take-le _ after within))
