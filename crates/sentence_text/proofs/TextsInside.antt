-- Texts that stand in the file where they say are read back from start and length.
use Prim.Native.Nat.{ℕ}
use mathlib.Core.Path.{◌≡◌, refl, ap, ap₂, ◌∙◌}
use mathlib.Core.List.{List, [], ◌∷◌, map}
use lib.ListN.{length, get_or, take, drop}
use Rattle.rules.specs.Lists.{Each}
use Rattle.rules.specs.Texts.{Text, bare}
use Rattle.rules.specs.Sentences.{Edge}
use Rattle.rules.specs.Sheets.{edge_record}
use Rattle.rules.specs.Meaning.{bare_edge}
use Rattle.rules.specs.Places.{LiesIn}
use Rattle.printing.specs.Further.{text_of}
use Rattle.printing.specs.Fields.{field_text}
use Rattle.sentence_text.specs.EdgesRead.{edge_in}

-- start and length as they stand in a sheet
pub text_back : (file sheet : List ℕ) (start len : ℕ) (t : Text) → LiesIn file t → get_or sheet start 0 ≡ t.start → get_or sheet len 0 ≡ length t.bytes
    → text_of (field_text file sheet start len) ≡ bare t
text_back file sheet start len t lies s l =
    ap text_of (ap₂ (λ (n at : ℕ). take n (drop at file)) l s ∙ lies.found)

pub edge_back : (file : List ℕ) (child : ℕ) (es : List Edge) → Each (λ (e : Edge). LiesIn file e.label) es
    → map (edge_in file) (map (edge_record child) es) ≡ map bare_edge es
edge_back file child [] a = refl
edge_back file child (e ∷ es) a =
    ap₂ (λ (bs : List ℕ) (l : List Edge). record { label = text_of bs; parent = e.parent } ∷ l) a.0.found (edge_back file child es a.1)
