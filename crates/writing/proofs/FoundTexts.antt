-- One sentence that the index finds, and one more of them: what is read there, what is printed of it, what is known of its sheet.
use Prim.Native.Nat.{ℕ, suc, ◌+◌, ◌-◌, ◌*◌, ◌≤◌, ◌<◌}
use native.Mathlib.Numerals.{add-one}
use native.Mathlib.Omega.{arith}
use mathlib.Core.Path.{◌≡◌, sym, ap, ◌∙◌, subst}
use mathlib.Core.Bool.{Bool}
use Rattle.std.specs.Prelude.{Option}
use mathlib.Core.List.{List, [], ◌∷◌, ◌++◌, map, append-nil}
use lib.ListN.{length, get_or, take}
use lib.Seq.{take-suc, take-length}
use Rattle.rules.specs.Lists.{joined}
use Rattle.rules.specs.Sentences.{Sentence}
use Rattle.rules.specs.SentenceFrom.{sentence_from}
use Rattle.rules.specs.Meaning.{meant_sentence}
use Rattle.rules.specs.Tidy.{sentence_text}
use Rattle.rules.proofs.Elements.{map_append, joined_append}
use Rattle.sentences.specs.SentenceRead.{SentenceLeft, SentenceRead}
use Rattle.sentences.specs.UsedRoom.{UsedOnly}
use Rattle.printing.specs.Over.{Put}
use Rattle.printing.proofs.PutLaws.{put_then, put_as, put_wider, put_none}
use Rattle.sentence_text.specs.Printable.{Sheeted}
use Rattle.sentence_text.specs.Readable.{SheetReadable, sentence_most}
use Rattle.sentence_text.specs.SheetRead.{sentence_in}
use Rattle.sentence_text.proofs.SheetReadBack.{sheeted_readable, sheeted_text}
use Rattle.writing.specs.TextParts.{found_text, text_from, sentences_text, sentence_long}
use Rattle.writing.specs.Ready.{Found, Entry}

-- ---- no sentence

pub none_put : (file : List ℕ) (begin : ℕ) → begin ≡ 0 → (at : ℕ) (out : List ℕ) → Put sentence_long (text_from file begin) at out at out
unfolding text_from
none_put file begin z at out = put_wider (omega arith) (put_as (sym (ap (text_from file) z)) (put_none at out))

-- ---- a sentence

module _ (file : List ℕ) (begin : ℕ) (e : Entry file begin) (h : 0 < begin) where
  back : begin ≡ suc (begin - 1)
  back = omega (arith, h)

  found : Found file (begin - 1)
  found = subst (Entry file) back e

  abbrev s : Sentence
  s = found.sentence

  text_is : text_from file begin ≡ sentence_text (meant_sentence s)
  unfolding text_from found_text
  text_is = ap (text_from file) back ∙ ap found_text found.its

  module _ (r : Bool) (sheet edges : List ℕ) (read : SentenceRead (sentence_from file (begin - 1)) r sheet edges) where
    left : SentenceLeft s r sheet edges
    left = subst (λ (o : Option Sentence). SentenceRead o r sheet edges) found.its read

    sheeted : Sheeted file s sheet edges
    sheeted = record { sheet_is = left.sheet_is; list_is = left.edges_are; printable = found.ready.printable }

    pub found_readable : SheetReadable file sheet edges
    found_readable = sheeted_readable file s sheet edges sheeted

    pub found_used : UsedOnly sheet edges
    found_used = rw (left.sheet_is, left.edges_are) found.ready.used

    pub found_put : (at : ℕ) (out : List ℕ) (end : ℕ) (after : List ℕ) → Put sentence_most (sentence_text (sentence_in file sheet edges)) at out end after
        → Put sentence_long (text_from file begin) at out end after
    found_put at out end after p =
        let q = put_as (sheeted_text file s sheet edges sheeted ∙ sym text_is) p in
        record { place = q.place; bytes = q.bytes; within = subst (λ (l : List ℕ). length l ≤ sentence_long) (sym text_is) found.ready.short }

-- ---- one after the other

module _ (file : List ℕ) where
  text_more : (begins : List ℕ) (n : ℕ) → n < length begins → sentences_text file (take n begins) ++ text_from file (get_or begins n 0) ≡ sentences_text file (take (n + 1) begins)
  unfolding sentences_text
  text_more begins n h =
      let b = get_or begins n 0 in
      let f = text_from file in
      sym (ap (λ (l : List ℕ). joined (map f l)) (ap (λ (k : ℕ). take k begins) (add-one n) ∙ take-suc begins n 0 h)
      ∙ ap joined (map_append f (take n begins) (b ∷ []))
      ∙ joined_append (map f (take n begins)) (f b ∷ [])
      ∙ ap (λ (l : List ℕ). joined (map f (take n begins)) ++ l) (append-nil (f b)))

  pub all_start : (begins : List ℕ) (at : ℕ) (out : List ℕ) → Put (sentence_long * 0) (sentences_text file (take 0 begins)) at out at out
  unfolding sentences_text
  all_start begins at out = put_none at out

  pub all_more : (begins : List ℕ) (n : ℕ) → n < length begins → {at : ℕ} {out : List ℕ} {mid : ℕ} {between : List ℕ} {end : ℕ} {after : List ℕ}
      → Put (sentence_long * n) (sentences_text file (take n begins)) at out mid between → Put sentence_long (text_from file (get_or begins n 0)) mid between end after
      → Put (sentence_long * (n + 1)) (sentences_text file (take (n + 1) begins)) at out end after
  all_more begins n h p q = put_wider (omega arith) (put_as (text_more begins n h) (put_then p q))

  pub all_put : (begins : List ℕ) (n most : ℕ) → n ≡ length begins → sentence_long * n ≤ most → {at : ℕ} {out : List ℕ} {end : ℕ} {after : List ℕ}
      → Put (sentence_long * n) (sentences_text file (take n begins)) at out end after → Put most (sentences_text file begins) at out end after
  all_put begins n most e few p = put_wider few (put_as (ap (sentences_text file) (ap (λ (k : ℕ). take k begins) e ∙ take-length begins)) p)
