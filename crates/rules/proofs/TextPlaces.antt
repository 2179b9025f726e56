-- Texts taken from bytes stand in them where they say: columns, what stands behind a column, what is left when white bytes
-- are lost at both ends, and what stands in front of two percent signs and behind them. By one step along the bytes.
use Prim.Native.Nat.{ℕ, suc, ◌+◌}
use native.Mathlib.Nat.{add-zero}
use native.Mathlib.Omega.{arith}
use mathlib.Core.Path.{◌≡◌, refl, sym, ap, ◌∙◌, subst}
use mathlib.Core.Logic.{◌⊎◌, inl, inr}
use mathlib.Core.Bool.{Bool, true, false}
use mathlib.Core.List.{List, [], ◌∷◌, ◌++◌, append_assoc, append-nil}
use lib.ListN.{length, take, drop, length-append}
use lib.Seq.{take_at, drop_at}
use Rattle.rules.specs.Lists.{pick, Each}
use Rattle.rules.specs.Bytes.{white}
use Rattle.rules.specs.Texts.{Text, no_text, unless_white, right_trim, trim_from, trim, starts_comment, front_bytes, behind_from, in_front, behind}
use Rattle.rules.specs.Columns.{Column, goes_on, with_first, last_byte, columns_from}
use Rattle.rules.specs.Places.{LiesIn}
use Rattle.rules.proofs.EachElement.{each_then}
use Rattle.rules.proofs.AnyLine.{begun_by}

-- ---- a text of bytes that begin at a place

pub record Part (at : ℕ) (bs : List ℕ) (t : Text) : Type 0 where
  pub front : List ℕ
  pub back : List ℕ
  pub parts : bs ≡ front ++ (t.bytes ++ back)
  pub place : t.start ≡ at + length front

-- no text, or a part; a text that isn't empty, or no text
abbrev pub Loose : ℕ → List ℕ → Text → Type 0
Loose at bs t = (t ≡ no_text) ⊎ Part at bs t

abbrev pub Placed : ℕ → List ℕ → Text → Type 0
Placed at bs t = (t ≡ no_text) ⊎ (Part at bs t × (t.bytes ≡ [] → ⊥))

pub part_part : (at : ℕ) (bs : List ℕ) (u t : Text) → Part at bs u → Part u.start u.bytes t → Part at bs t
part_part at bs u t p q =
    record {
      front = p.front ++ q.front;
      back = q.back ++ p.back;
      parts = p.parts ∙ ap (λ (l : List ℕ). p.front ++ (l ++ p.back)) q.parts ∙ simp append_assoc;
      place = omega (arith, p.place, q.place, length-append p.front q.front);
    }

pub placed_part : (at : ℕ) (bs : List ℕ) (u t : Text) → Part at bs u → Placed u.start u.bytes t → Placed at bs t
placed_part at bs u t p (inl e) = inl e
placed_part at bs u t p (inr q) = inr (part_part at bs u t p q.0, q.1)

-- the bytes with one more in front
rest : (at b : ℕ) (bs : List ℕ) → Part at (b ∷ bs) (record { start = suc at; bytes = bs })
rest at b bs = record { front = b ∷ []; back = []; parts = ap (λ (l : List ℕ). b ∷ l) (sym (append-nil bs)); place = omega arith }

later : (at b : ℕ) (bs : List ℕ) (t : Text) → Part (suc at) bs t → Part at (b ∷ bs) t
later at b bs t p = part_part at (b ∷ bs) (record { start = suc at; bytes = bs }) t (rest at b bs) p

-- the bytes at a part's place are its own
pub part_there : (at : ℕ) (bs : List ℕ) (t : Text) → Part at bs t → (n : ℕ) → t.start ≡ at + n → take (length t.bytes) (drop n bs) ≡ t.bytes
part_there at bs t p n e =
    let from : length p.front ≡ n = omega (arith, p.place, e) in
    ap (λ (l : List ℕ). take (length t.bytes) (drop n l)) p.parts
    ∙ ap (take (length t.bytes)) (drop_at p.front (t.bytes ++ p.back) n from)
    ∙ take_at t.bytes p.back (length t.bytes) refl

pub lies : (file : List ℕ) (t : Text) → Placed 0 file t → LiesIn file t
lies file t (inl e) = subst (LiesIn file) (sym e) (record { found = refl; absent = λ z. refl })
lies file t (inr p) = record { found = part_there 0 file t p.0 t.start (omega arith); absent = λ z. absurd (p.1 z) }

-- ---- white bytes lost at both ends

record Prefix (xs bs : List ℕ) : Type 0 where
  pub back : List ℕ
  pub parts : bs ≡ xs ++ back

right_prefix : (bs : List ℕ) → Prefix (right_trim bs) bs
unfolding right_trim
right_prefix [] = record { back = []; parts = refl }
right_prefix (b ∷ bs) = by (right_trim bs) (right_prefix bs)
  where
    at_end_lem : (t : Bool) → Prefix (pick t [] (b ∷ [])) (b ∷ bs)
    at_end_lem true = record { back = b ∷ bs; parts = refl }
    at_end_lem false = record { back = bs; parts = refl }

    by : (xs : List ℕ) → Prefix xs bs → Prefix (unless_white b xs) (b ∷ bs)
    by [] p = at_end_lem (white b)
    by (x ∷ xs) p = record { back = p.back; parts = ap (λ (l : List ℕ). b ∷ l) p.parts }

right_some : (b : ℕ) (bs : List ℕ) → white b ≡ false → right_trim (b ∷ bs) ≡ [] → ⊥
unfolding right_trim
right_some b bs w e = by (right_trim bs) e
  where
    by : (xs : List ℕ) → unless_white b xs ≡ [] → ⊥
    by [] e = let z : pick false [] (b ∷ []) ≡ [] = ap (λ (t : Bool). pick t [] (b ∷ [])) (sym w) ∙ e in let y : ◌≡◌ {A = ℕ} 0 1 = cc in omega arith
    by (x ∷ xs) e = let y : ◌≡◌ {A = ℕ} 0 1 = cc in omega arith

trim_from_lem : (at : ℕ) (bs : List ℕ) → Placed at bs (trim_from at bs)
unfolding trim_from
trim_from_lem at [] = inl refl
trim_from_lem at (b ∷ bs) = by (white b) refl (trim_from_lem (suc at) bs)
  where
    by : (t : Bool) → white b ≡ t → Placed (suc at) bs (trim_from (suc at) bs) → Placed at (b ∷ bs) (pick t (trim_from (suc at) bs) (record { start = at; bytes = right_trim (b ∷ bs) }))
    by true e p = placed_part at (b ∷ bs) (record { start = suc at; bytes = bs }) (trim_from (suc at) bs) (rest at b bs) p
    by false e p =
        let q = right_prefix (b ∷ bs) in
        inr (record { front = []; back = q.back; parts = q.parts; place = sym (add-zero at) }, right_some b bs e)

pub trim_placed : (at : ℕ) (bs : List ℕ) (t : Text) → Loose at bs t → Placed at bs (trim t)
unfolding trim_from
trim_placed at bs t (inl e) = inl (ap trim e)
trim_placed at bs t (inr p) = placed_part at bs t (trim t) p (trim_from_lem t.start t.bytes)

-- ---- in front of two percent signs, and behind them

front_prefix : (bs : List ℕ) → Prefix (front_bytes bs) bs
unfolding front_bytes
front_prefix [] = record { back = []; parts = refl }
front_prefix (a ∷ []) = record { back = []; parts = refl }
front_prefix (a ∷ b ∷ bs) = by (starts_comment a b) (front_prefix (b ∷ bs))
  where
    by : (t : Bool) → Prefix (front_bytes (b ∷ bs)) (b ∷ bs) → Prefix (pick t [] (a ∷ front_bytes (b ∷ bs))) (a ∷ b ∷ bs)
    by true p = record { back = a ∷ b ∷ bs; parts = refl }
    by false p = record { back = p.back; parts = ap (λ (l : List ℕ). a ∷ l) p.parts }

pub front_part : (t : Text) → Part t.start t.bytes (in_front t)
front_part t = let p = front_prefix t.bytes in record { front = []; back = p.back; parts = p.parts; place = sym (add-zero t.start) }

behind_from_lem : (at : ℕ) (bs : List ℕ) → Loose at bs (behind_from at bs)
unfolding behind_from
behind_from_lem at [] = inl refl
behind_from_lem at (a ∷ []) = inl refl
behind_from_lem at (a ∷ b ∷ bs) = by (starts_comment a b) (behind_from_lem (suc at) (b ∷ bs))
  where
    more : (t : Text) → Loose (suc at) (b ∷ bs) t → Loose at (a ∷ b ∷ bs) t
    more t (inl e) = inl e
    more t (inr p) = inr (later at a (b ∷ bs) t p)

    by : (t : Bool) → Loose (suc at) (b ∷ bs) (behind_from (suc at) (b ∷ bs))
        → Loose at (a ∷ b ∷ bs) (pick t (record { start = suc (suc at); bytes = bs }) (behind_from (suc at) (b ∷ bs)))
    by true p = inr (record { front = a ∷ b ∷ []; back = []; parts = ap (λ (l : List ℕ). a ∷ b ∷ l) (sym (append-nil bs)); place = omega arith })
    by false p = more (behind_from (suc at) (b ∷ bs)) p

pub behind_loose : (t : Text) → Loose t.start t.bytes (behind t)
behind_loose t = behind_from_lem t.start t.bytes

-- ---- columns

pub record ColumnIn (at : ℕ) (bs : List ℕ) (c : Column) : Type 0 where
  pub text : Part at bs c.text
  pub some : c.text.bytes ≡ [] → ⊥
  pub after : Part at bs c.after

nonempty : (b : ℕ) (bs : List ℕ) → b ∷ bs ≡ [] → ⊥
nonempty b bs e = let y : ◌≡◌ {A = ℕ} 0 1 = cc in omega arith

column_later : (at b : ℕ) (bs : List ℕ) (c : Column) → ColumnIn (suc at) bs c → ColumnIn at (b ∷ bs) c
column_later at b bs c k = record { text = later at b bs c.text k.text; some = k.some; after = later at b bs c.after k.after }

pub columns_in : (at : ℕ) (bs : List ℕ) → Each (ColumnIn at bs) (columns_from at bs)
unfolding columns_from
columns_in at [] = tt
columns_in at (b ∷ bs) = by (white b) (goes_on bs) refl (each_then (ColumnIn (suc at) bs) (ColumnIn at (b ∷ bs)) (column_later at b bs) (columns_from (suc at) bs) (columns_in (suc at) bs))
  where
    on : goes_on bs ≡ true → Each (ColumnIn at (b ∷ bs)) (columns_from (suc at) bs) → Each (ColumnIn at (b ∷ bs)) (with_first at b (columns_from (suc at) bs))
    on g k =
        let s = begun_by (suc at) bs g in
        let k' : Each (ColumnIn at (b ∷ bs)) (s.first ∷ s.others) = subst (Each (ColumnIn at (b ∷ bs))) s.form k in
        subst (λ (cs : List Column). Each (ColumnIn at (b ∷ bs)) (with_first at b cs)) (sym s.form) (
          record {
            text = record { front = []; back = s.first.after.bytes; parts = ap (λ (l : List ℕ). b ∷ l) s.whole; place = sym (add-zero at) };
            some = nonempty b s.first.text.bytes;
            after = k'.0.after;
          },
          k'.1,
        )

    by : (t g : Bool) → goes_on bs ≡ g → Each (ColumnIn at (b ∷ bs)) (columns_from (suc at) bs)
        → Each (ColumnIn at (b ∷ bs)) (pick t (columns_from (suc at) bs) (pick g (with_first at b (columns_from (suc at) bs)) (last_byte at b bs ∷ columns_from (suc at) bs)))
    by true g e k = k
    by false true e k = on e k
    by false false e k = (
      record {
        text = record { front = []; back = bs; parts = refl; place = sym (add-zero at) };
        some = nonempty b [];
        after = rest at b bs;
      },
      k,
    )
