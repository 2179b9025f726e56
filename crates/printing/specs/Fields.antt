-- Document 01, "The sheets": a text of the file is told by start and length, numbers of 32 bits.
use Rattle.std.specs.Prelude.{ℕ, ◌+◌, ◌≤◌, ◌<◌, List, length, get_or, take, drop}

-- the highest length that such a number tells
abbrev pub text_most : ℕ
text_most = 4294967295

-- the bytes whose start and whose length stand at two places of a sheet
abbrev pub field_text : List ℕ → List ℕ → ℕ → ℕ → List ℕ
field_text file sheet start len = take (get_or sheet len 0) (drop (get_or sheet start 0) file)

pub record FieldInside (file sheet : List ℕ) (start len : ℕ) : Type 0 where
  pub start_room : start < length sheet
  pub length_room : len < length sheet
  pub inside : get_or sheet start 0 + get_or sheet len 0 ≤ length file
