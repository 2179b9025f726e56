-- A line that ends is one step of the reading: refused by 4 or 5, or taken.
use Prim.Native.Nat.{ℕ, ◌+◌, ◌≤◌, ◌<◌}
use mathlib.Core.Path.{◌≡◌, ap, ◌∙◌}
use mathlib.Core.Bool.{true, false}
use Rattle.std.specs.Prelude.{None}
use mathlib.Core.List.{List, [], ◌∷◌, ◌++◌, reverse}
use lib.ListN.{length, drop}
use borrow.Author.Tests.{le-leb, lt-leb}
use Rattle.rules.specs.Lists.{every}
use Rattle.rules.specs.Bytes.{newline, legal}
use Rattle.rules.specs.Texts.{Text}
use Rattle.rules.specs.Numbers.{line_limit}
use Rattle.rules.specs.Rules.{rule}
use Rattle.rules.specs.Phases.{Phase, Answer, refuse, after, next, taken, judged, step}
use Rattle.rules.specs.Reading.{Reading, numbers, ended, read}
use Rattle.rules.proofs.RuleLaws.{in_order, in_order_lem}
use Rattle.rules.proofs.ReadLines.{read_line}
use Rattle.lines.specs.LineEnds.{first_line, line_end}
use Rattle.std.specs.Prelude.{Ok, Err}
use Rattle.lines.specs.declared.Unreadable.TheVariants.{Illegal, TooLong}
use Rattle.lines.proofs.Lines.{line_unbroken, at_legal, at_short, at_split, illegal_marred, illegal_split, long_legal, long_over, long_split}

module _ (ph : Phase) (ns : List ℕ) (line : Text) where
  step_taken : every legal line.bytes ≡ true → length line.bytes ≤ line_limit → step ph ns line ≡ next (after ph line.start) (taken ph ns line)
  unfolding step judged in_order
  step_taken a b = rw (in_order_lem, a, le-leb (length line.bytes) line_limit b)

  step_illegal : every legal line.bytes ≡ false → step ph ns line ≡ refuse (rule 4 line false)
  unfolding step judged in_order
  step_illegal a = rw (in_order_lem, a)

  step_long : every legal line.bytes ≡ true → line_limit < length line.bytes → step ph ns line ≡ refuse (rule 5 line false)
  unfolding step judged in_order
  step_long a b = rw (in_order_lem, a, lt-leb (length line.bytes) line_limit b)

-- the reading, behind a line's bytes
abbrev pub line_read : Reading → List ℕ → Reading
line_read r l = record { at = r.at + length l; line_start = r.line_start; part = reverse l; phase = r.phase; handed = r.handed; fault = None }

module _ (file : List ℕ) (at : ℕ) (r : Reading) (sound : r.fault ≡ None) (unbegun : r.part ≡ []) where
  abbrev pub bytes_at : List ℕ
  bytes_at = first_line (drop at file)

  abbrev pub line_here : Text
  line_here = record { start = r.line_start; bytes = bytes_at }

  one_step : (rest : List ℕ) (a : Answer) → drop at file ≡ bytes_at ++ (newline ∷ rest) → step r.phase (numbers r.handed) line_here ≡ a
      → read r (drop at file) ≡ read (ended (line_read r bytes_at) a) rest
  one_step rest a split q =
      ap (read r) split ∙ read_line r bytes_at rest sound unbegun (line_unbroken (drop at file))
      ∙ ap (λ (x : Answer). read (ended (line_read r bytes_at) x) rest) q

  pub taken_step : (e : ℕ) → line_end file at ≡ Ok e
      → read r (drop at file)
      ≡ read (ended (line_read r bytes_at) (next (after r.phase r.line_start) (taken r.phase (numbers r.handed) line_here))) (drop (e + 1) file)
  taken_step e q =
      one_step (drop (e + 1) file) _ (at_split file at e q)
      (step_taken r.phase (numbers r.handed) line_here (at_legal file at e q) (at_short file at e q))

  pub illegal_step : line_end file at ≡ Err Illegal → read r (drop at file) ≡ read (ended (line_read r bytes_at) (refuse (rule 4 line_here false))) (drop (at + length bytes_at + 1) file)
  illegal_step q = one_step _ _ (illegal_split file at q) (step_illegal r.phase (numbers r.handed) line_here (illegal_marred file at q))

  pub long_step : line_end file at ≡ Err TooLong → read r (drop at file) ≡ read (ended (line_read r bytes_at) (refuse (rule 5 line_here false))) (drop (at + length bytes_at + 1) file)
  long_step q = one_step _ _ (long_split file at q) (step_long r.phase (numbers r.handed) line_here (long_legal file at q) (long_over file at q))
