-- Edge records laid out as plain numbers: four for each, in the order of document 01's fields. By one step along the records.
use Prim.Native.Nat.{ℕ, zero, suc, ◌+◌, ◌*◌, ◌<◌}
use native.Mathlib.Omega.{arith}
use mathlib.Core.Path.{◌≡◌, refl, ap, ◌∙◌}
use mathlib.Core.List.{List, [], ◌∷◌, ◌++◌}
use lib.ListN.{length, get_or}
use Rattle.rules.specs.Sheets.{EdgeRecord}
use Rattle.rules.specs.Layout.{record_numbers, flat_list, zero_record, RecordLaid, FlatLaid}

length_flat : (rs : List EdgeRecord) → length (flat_list rs) ≡ 4 * length rs
unfolding flat_list
length_flat [] = refl
length_flat (r ∷ rs) =
    ap (λ (k : ℕ). suc (suc (suc (suc k)))) (length_flat rs)
    ∙ (let m : suc (suc (suc (suc (4 * length rs)))) ≡ 4 * suc (length rs) = omega arith in m)

-- behind the four numbers of one record
behind : (r : EdgeRecord) (ns : List ℕ) (k j : ℕ) → get_or (record_numbers r ++ ns) (4 * suc k + j) 0 ≡ get_or ns (4 * k + j) 0
behind r ns k j =
    ap (λ (i : ℕ). get_or (record_numbers r ++ ns) i 0) (let m : 4 * suc k + j ≡ suc (suc (suc (suc (4 * k + j)))) = omega arith in m)

each_laid : (rs : List EdgeRecord) (k : ℕ) → k < length rs → RecordLaid (flat_list rs) k (get_or rs k zero_record)
unfolding flat_list
each_laid [] k h = absurd (omega (arith, h))
each_laid (r ∷ rs) zero h = record { child = refl; label_start = refl; label_length = refl; parent = refl }
each_laid (r ∷ rs) (suc k) h =
    let l = each_laid rs k (omega (arith, h)) in
    let b = behind r (flat_list rs) k in
    record {
      child = b 0 ∙ l.child;
      label_start = b 1 ∙ l.label_start;
      label_length = b 2 ∙ l.label_length;
      parent = b 3 ∙ l.parent;
    }

pub flat_laid : (rs : List EdgeRecord) → FlatLaid rs
flat_laid rs = record { size = length_flat rs; each = each_laid rs }
