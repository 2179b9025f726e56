-- A row's line that is taken has room for the row's tidy line, if the %% of an ORIGIN row counts as glued to its texts. From
-- what the line says.
use Prim.Native.Nat.{ℕ, zero, suc, ◌+◌, ◌≤◌}
use native.Mathlib.Omega.{arith}
use mathlib.Core.Path.{◌≡◌, refl, sym, ap, ◌∙◌, subst}
use mathlib.Core.Logic.{inl, inr}
use mathlib.Core.List.{List, [], ◌∷◌, ◌++◌}
use lib.ListN.{length, length-append}
use borrow.Author.Tests.{ne_eqb}
use Rattle.rules.specs.Bytes.{percents}
use Rattle.rules.specs.Tables.{Row, word_tags}
use Rattle.rules.specs.Tidy.{flagged}
use Rattle.rules.specs.GrammarLines.{White}
use Rattle.rules.specs.GrammarColumns.{Parted, Stripped, NameAndNote}
use Rattle.rules.specs.AsWritten.{OriginSaid, FlagSaid, TagSaid, TableRowSaid}
use Rattle.tidy_length.proofs.ColumnRoom.{columns_room, begins_room, begins_parted, text_room, stripped_behind, stripped_within}
use Rattle.tidy_length.proofs.TakenRoom.{note_room, row_room}

-- ---- an origin's name and note

front_parted : (whole name others : List ℕ) → Parted whole → whole ≡ name ++ others → Parted name
front_parted whole [] others p e = inl refl
front_parted whole (b ∷ bs) others (inl n) e = absurd (omega (arith, ap length n, ap length e))
front_parted whole (b ∷ bs) others (inr (c, more, f, w)) e =
    let same_first : b ∷ (bs ++ others) ≡ c ∷ more = sym e ∙ f in
    let it : c ≡ b = cc in
    inr (b, bs, refl, subst White it w)

note_within : (text : List ℕ) → note_room text ≤ 2 + length text
note_within [] = omega arith
note_within (b ∷ bs) = omega arith

note_none : (text : List ℕ) → length text ≤ 0 → note_room text ≡ 0
note_none [] h = refl
note_none (b ∷ bs) h = absurd (omega arith)

name_and_note : (rest name note first second : List ℕ) → Parted rest → NameAndNote rest name note → Stripped name first → Stripped note second
    → text_room first + note_room second ≤ length rest
name_and_note rest name note first second p (inl (none, whole, nothing)) f s =
    let named : text_room first ≤ length name = stripped_behind name first (subst Parted (sym whole) p) f in
    let empty_note : note_room second ≡ 0 = note_none second (omega (arith, stripped_within note second s, ap length nothing)) in
    omega (arith, ap length whole)
name_and_note rest name note first second p (inr (parts, single)) f s =
    let named : text_room first ≤ length name = stripped_behind name first (front_parted rest name (percents ++ note) p parts) f in
    omega (arith, note_within second, stripped_within note second s, ap length parts, length-append name (percents ++ note), length-append percents note)

origin_room : (r : Row) (l : List ℕ) → OriginSaid r l → row_room 0 r ≤ suc (length l)
origin_room r l s =
    omega (arith, begins_room s.columns, name_and_note s.rest s.name s.note r.first.bytes r.second.bytes (begins_parted s.columns) s.parted s.its_name s.its_note)

-- ---- the other tables

flag_room : (n : ℕ) (r : Row) (cs : List (List ℕ)) → FlagSaid n r.flag cs → columns_room (flagged n r) ≡ columns_room cs
flag_room n r cs (inl (e, inl (c, f))) = rw (e, f, c)
flag_room n r cs (inl (e, inr (c, f))) = rw (e, f, c)
flag_room n r cs (inr (e, c, f)) = rw (ne_eqb n word_tags e, c)

tag_room : (n : ℕ) (r : Row) (l : List ℕ) → TagSaid (suc n) r l → row_room (suc n) r ≤ suc (length l)
tag_room n r l s =
    omega (
      arith,
      begins_room s.columns,
      flag_room (suc n) r s.flags s.flag,
      stripped_behind s.rest r.second.bytes (begins_parted s.columns) s.description,
    )

pub row_room_lem : (n : ℕ) (r : Row) (l : List ℕ) → TableRowSaid n r l → row_room n r ≤ suc (length l)
row_room_lem zero r l s = origin_room r l s
row_room_lem (suc n) r l s = tag_room n r l s
