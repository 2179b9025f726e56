-- With records lent the openings leave what those with plain numbers leave, if these were lent the records' numbers: from both
-- contracts, by whether the list has its size.
use Prim.Native.Nat.{ℕ}
use native.Mathlib.Omega.{arith}
use mathlib.Core.Path.{◌≡◌, refl, sym, ap, ◌∙◌}
use mathlib.Core.Bool.{Bool, true, false}
use mathlib.Core.List.{List}
use lib.ListN.{length}
use lib.Dec.{eqb}
use borrow.Author.Tests.{eqb-true, eqb-false}
use Rattle.rules.specs.Lists.{pick}
use Rattle.rules.specs.Sheets.{EdgeRecord}
use Rattle.rules.specs.Opening.{after_opening, after_opening_at}
use Rattle.rules.specs.Writing.{after_writing}
use Rattle.rules.specs.Layout.{flat_list}
use Rattle.rules.specs.LentBuffers.{AllSized}
use Rattle.rules.specs.IndexRules.{SentenceSized}
use Rattle.rules.proofs.FlatLaid.{flat_laid}
use Rattle.rules.proofs.OpenedExactly.{opened_exactly}
use Rattle.rules.proofs.OpenedThere.{opened_at_exactly}
use Rattle.rules.proofs.WrittenExactly.{written_exactly}
use Rattle.opening.specs.FlatLists.{edge_records}
use Rattle.opening.specs.Promise.{flattened, after_opening_flat, flattened_at, after_opening_flat_at}
use Rattle.writing.specs.Promise as text
use Rattle.edges.proofs.Records.{records_back}

module _ (rs : List EdgeRecord) where
  few : eqb (length (flat_list rs)) 2048 ≡ true → length rs ≡ 512
  few e = omega (arith, (flat_laid rs).size, eqb-true (length (flat_list rs)) 2048 e)

  many : eqb (length (flat_list rs)) 2048 ≡ false → length rs ≡ 512 → ⊥
  many e l = eqb-false (length (flat_list rs)) 2048 e (omega (arith, (flat_laid rs).size, l))

  back : eqb (length (flat_list rs)) 2048 ≡ true → edge_records 512 (flat_list rs) ≡ rs
  back e = ap (λ (k : ℕ). edge_records k (flat_list rs)) (sym (few e)) ∙ records_back rs

  pub beside_numbers : (file : List ℕ) (n : ℕ) (tables seen sheet : List ℕ)
      → after_opening_flat file n tables seen sheet (flat_list rs) ≡ flattened (after_opening file n tables seen sheet rs)
  unfolding after_opening_flat
  beside_numbers file n tables seen sheet = by (eqb (length (flat_list rs)) 2048) refl
    where
      by : (t : Bool) → eqb (length (flat_list rs)) 2048 ≡ t
          → pick t (flattened (after_opening file n tables seen sheet (edge_records 512 (flat_list rs)))) (record { answer = 1; tables = tables; seen = seen; sheet = sheet; edges = flat_list rs })
          ≡ flattened (after_opening file n tables seen sheet rs)
      by true e = ap (λ (es : List EdgeRecord). flattened (after_opening file n tables seen sheet es)) (back e)
      by false e = sym (ap flattened ((opened_exactly file n tables seen sheet rs).wrong_size (λ (s : AllSized tables seen sheet rs). many e s.edge_list_lem)))

  pub beside_numbers_at : (file : List ℕ) (at : ℕ) (sheet : List ℕ)
      → after_opening_flat_at file at sheet (flat_list rs) ≡ flattened_at (after_opening_at file at sheet rs)
  unfolding after_opening_flat_at
  beside_numbers_at file at sheet = by (eqb (length (flat_list rs)) 2048) refl
    where
      by : (t : Bool) → eqb (length (flat_list rs)) 2048 ≡ t
          → pick t (flattened_at (after_opening_at file at sheet (edge_records 512 (flat_list rs)))) (record { answer = 1; sheet = sheet; edges = flat_list rs })
          ≡ flattened_at (after_opening_at file at sheet rs)
      by true e = ap (λ (es : List EdgeRecord). flattened_at (after_opening_at file at sheet es)) (back e)
      by false e = sym (ap flattened_at ((opened_at_exactly file at sheet rs).wrong_size (λ (s : SentenceSized sheet rs). many e s.edge_list_lem)))

  pub text_beside_numbers : (file tables seen sheet output : List ℕ)
      → text.after_writing_flat file tables seen sheet (flat_list rs) output ≡ text.flattened (after_writing file tables seen sheet rs output)
  unfolding text.after_writing_flat
  text_beside_numbers file tables seen sheet output = by (eqb (length (flat_list rs)) 2048) refl
    where
      by : (t : Bool) → eqb (length (flat_list rs)) 2048 ≡ t
          → pick t (text.flattened (after_writing file tables seen sheet (edge_records 512 (flat_list rs)) output))
          (record { answer = record { refusal = 1; place = 0; written = 0 }; tables = tables; seen = seen; sheet = sheet; edges = flat_list rs; output = output })
          ≡ text.flattened (after_writing file tables seen sheet rs output)
      by true e = ap (λ (es : List EdgeRecord). text.flattened (after_writing file tables seen sheet es output)) (back e)
      by false e = sym (ap text.flattened ((written_exactly file tables seen sheet rs output).wrong_size (λ (s : AllSized tables seen sheet rs). many e s.edge_list_lem)))
