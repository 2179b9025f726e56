-- Document 01, "Lines and bytes": numbers are decimal, without plus or leading zeros; the only negative is -1; the
-- limits belong to the kind of number they bound.
use Rattle.std.specs.Prelude.{ℕ, suc, ◌+◌, ◌-◌, ◌*◌, Bool, true, false, not, ◌&&◌, List, [], ◌∷◌, eqb, Option, None, Some}
use Rattle.rules.specs.Lists.{pick, bytes, between, every, same}
use Rattle.rules.specs.Bytes.{digit}

-- ---- the limits

abbrev pub file_limit : ℕ
file_limit = 268435456

abbrev pub line_limit : ℕ
line_limit = 4096

abbrev pub row_limit : ℕ
row_limit = 256

abbrev pub word_limit : ℕ
word_limit = 500

abbrev pub edge_limit : ℕ
edge_limit = 512

-- a kind of number: its lowest and its highest
pub record Kind : Type 0 where
  pub lowest : ℕ
  pub highest : ℕ

abbrev pub sentence_number : Kind
sentence_number = record { lowest = 1; highest = 65535 }

abbrev pub origin_id : Kind
origin_id = record { lowest = 1; highest = 65535 }

-- an editor's or a tag row's id, from -1 on: the sheets hold one more, and so do we
abbrev pub id_plus_one : Kind
id_plus_one = record { lowest = 0; highest = 65536 }

abbrev pub date : Kind
date = record { lowest = 0; highest = 4294967295 }

abbrev pub format_number : Kind
format_number = record { lowest = 0; highest = 65535 }

-- the number of a phrase, and a secondary parent
abbrev pub phrase_number : Kind
phrase_number = record { lowest = 500; highest = 999 }

-- ---- how a number is written

-- the value of digits, read from the left
unfoldable pub value_from : ℕ → List ℕ → ℕ
value_from v [] = v
value_from v (d ∷ ds) = value_from (v * 10 + (d - 48)) ds

-- no leading zero
abbrev pub plain : List ℕ → Bool
plain [] = false
plain (d ∷ []) = true
plain (d ∷ e ∷ ds) = not (eqb d 48)

unfoldable pub decimal : List ℕ → Option ℕ
unfolding value_from
decimal xs = pick (plain xs && every digit xs) (Some (value_from 0 xs)) None

abbrev pub within : Kind → Option ℕ → Option ℕ
within k None = None
within k (Some n) = pick (between k.lowest k.highest n) (Some n) None

-- a number of a kind
abbrev pub number : Kind → List ℕ → Option ℕ
number k xs = within k (decimal xs)

abbrev pub plus_one : Option ℕ → Option ℕ
plus_one None = None
plus_one (Some n) = Some (suc n)

-- one more than an id that may be -1
abbrev pub signed_id : List ℕ → Option ℕ
signed_id xs = within id_plus_one (pick (same xs (bytes "-1")) (Some 0) (plus_one (decimal xs)))

-- a parent is 0 or a phrase's number
abbrev pub zero_or : Kind → Option ℕ → Option ℕ
zero_or k None = None
zero_or k (Some n) = pick (eqb n 0) (Some 0) (within k (Some n))

abbrev pub parent_number : List ℕ → Option ℕ
parent_number xs = zero_or phrase_number (decimal xs)

abbrev pub good : Option ℕ → Bool
good None = false
good (Some n) = true

abbrev pub value : Option ℕ → ℕ
value None = 0
value (Some n) = n
