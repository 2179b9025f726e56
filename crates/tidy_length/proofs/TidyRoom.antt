-- A tidy text is at most 512 bytes longer than its file, two for each ORIGIN row with a comment; so the round trip of a file that
-- leaves 512 bytes free needs no premise. An accepted file has room for all that was taken from it, and that is printed.
use Prim.Native.Nat.{ℕ, suc, ◌+◌, ◌*◌, ◌≤◌}
use native.Mathlib.Omega.{arith}
use mathlib.Core.Path.{◌≡◌, refl, sym, ap, ◌∙◌, subst}
use mathlib.Core.Bool.{Bool, true, false}
use Rattle.std.specs.Prelude.{Option, None, Some}
use mathlib.Core.List.{List, [], ◌∷◌, ◌++◌, map}
use lib.ListN.{length, length-append}
use borrow.Author.Tests.{le-leb}
use Rattle.rules.specs.Lists.{pick, bytes, joined}
use Rattle.rules.specs.Numbers.{file_limit, row_limit}
use Rattle.rules.specs.Rules.{Fault}
use Rattle.rules.specs.Tables.{origins, table, rows_of}
use Rattle.rules.specs.Sentences.{Sentence}
use Rattle.rules.specs.Phases.{Phase, start, top, in_table, in_sentence, behind_sentence, at_end, format_at, tables_at}
use Rattle.rules.specs.Reading.{Reading, begin, read, closing, closing_unless, verdict}
use Rattle.rules.specs.Survey.{Survey, answered, nothing_read, survey_of, file_fits}
use Rattle.rules.specs.Meaning.{meant_tables, meant_sentences, meaning_of}
use Rattle.rules.specs.Tidy.{digits_of, keyword_line, tables_text, sentence_text, tidy_text}
use Rattle.rules.specs.Writing.{tidy_of, writing_answer}
use Rattle.rules.specs.Same.{SameMeaning}
use Rattle.rules.proofs.Kept.{TablesKept, PhaseKept}
use Rattle.rules.proofs.KeptReading.{bares, ReadingKept, file_kept, survey_read}
use Rattle.rules.proofs.RoundTrip.{round_trip}
use Rattle.tidy_length.proofs.TakenRoom.{tables_room, format_room, phase_room}
use Rattle.tidy_length.proofs.ReadingRoom.{file_within}
use Rattle.tidy_length.proofs.PrintedTables.{signs_room, signs_few, tables_room_lem}
use Rattle.tidy_length.proofs.PrintedSentences.{sentences_room}

-- ---- a reading that is accepted

never_zero : (n : ℕ) → ◌≡◌ {A = ℕ} (suc n) 0 → ⊥
never_zero n e = omega (arith, e)

record Accepted (r : Reading) : Type 0 where
  no_fault_lem : r.fault ≡ None
  ends : at_end r.phase ≡ 0

accepted : (r : Reading) → ReadingKept r → (verdict r).number ≡ 0 → Accepted r
accepted r k e = by r.fault refl e
  where
    whole : (part : List ℕ) → (closing r part).number ≡ 0 → at_end r.phase ≡ 0
    whole [] e = e
    whole (b ∷ bs) e = absurd (never_zero 2 e)

    by : (o : Option Fault) → r.fault ≡ o → (closing_unless o r).number ≡ 0 → Accepted r
    by None q e = record { no_fault_lem = q; ends = whole r.part e }
    by (Some f) q e = absurd (omega (arith, k.fault f q))

-- it stands behind its tables or behind a sentence
preamble_room : (phase : Phase) → at_end phase ≡ 0 → phase_room phase ≡ format_room (format_at phase) + tables_room 0 (tables_at phase)
preamble_room start e = absurd (never_zero 8 e)
preamble_room (top p) e = refl
preamble_room (in_table p n rs) e = absurd (never_zero 22 e)
preamble_room (in_sentence p s) e = absurd (never_zero 22 e)
preamble_room (behind_sentence p) e = refl

tables_kept : (phase : Phase) (ss : List Sentence) → PhaseKept phase ss → TablesKept 0 (tables_at phase)
tables_kept start ss k = (tt, (tt, (tt, (tt, (tt, (tt, (tt, tt)))))))
tables_kept (top p) ss k = k.0.tables
tables_kept (in_table p n rs) ss k = k.preamble.tables
tables_kept (in_sentence p s) ss k = k.preamble.tables
tables_kept (behind_sentence p) ss k = k.preamble.tables

-- ---- its tidy text

text_length : (s : Survey) → length (tidy_text (meaning_of s)) ≡ format_room s.format + length (tables_text 0 (meant_tables s.tables)) + length (joined (map sentence_text (meant_sentences s.handed)))
unfolding tidy_text meaning_of
text_length s =
    let format = keyword_line (bytes "#FORMAT" ∷ digits_of s.format ∷ []) in
    let tables = tables_text 0 (meant_tables s.tables) in
    let sentences = joined (map sentence_text (meant_sentences s.handed)) in
    let text : length (tidy_text (meaning_of s)) ≡ length ((format ++ tables) ++ sentences) = refl in
    omega (arith, length-append (format ++ tables) sentences, length-append format tables)

-- two bytes for each ORIGIN row with a comment
abbrev pub signs_of : Survey → ℕ
signs_of s = signs_room (rows_of (table origins s.tables))

pub record HasRoom (file : List ℕ) (s : Survey) : Type 0 where
  pub by_signs : length (tidy_text (meaning_of s)) ≤ length file + signs_of s
  pub few : signs_of s ≤ 2 * row_limit

read_room : (f : List ℕ) → (verdict (read begin f)).number ≡ 0 → HasRoom f (answered (read begin f))
read_room f e =
    let r = read begin f in
    let k = file_kept f in
    let a = accepted r k e in
    let kept = tables_kept r.phase (bares r.handed) k.phase in
    record {
      by_signs =
          omega (
            arith,
            text_length (answered r),
            tables_room_lem (tables_at r.phase) kept,
            sentences_room r.handed,
            preamble_room r.phase a.ends,
            file_within f a.no_fault_lem,
          );
      few = signs_few (tables_at r.phase) kept;
    }

two_refuses : (t : Bool) (r : Reading) → (pick t (answered r) (nothing_read 2)).refusal ≡ 0 → t ≡ true
two_refuses true r e = refl
two_refuses false r e = absurd (never_zero 1 e)

has_room : (f : List ℕ) → (survey_of f).refusal ≡ 0 → HasRoom f (survey_of f)
unfolding survey_of
has_room f e =
    let fits : file_fits f ≡ true = two_refuses (file_fits f) (read begin f) e in
    let whole = survey_read f fits in
    subst (HasRoom f) (sym whole) (read_room f (sym (ap (λ (s : Survey). s.refusal) whole) ∙ e))

-- ---- any file

-- longer only by the bytes that part the %% of ORIGIN rows from their texts
pub tidy_by_signs : (f : List ℕ) → (survey_of f).refusal ≡ 0 → length (tidy_of f) ≤ length f + signs_of (survey_of f)
unfolding tidy_of
tidy_by_signs f e = (has_room f e).by_signs

pub tidy_room : (f : List ℕ) → (survey_of f).refusal ≡ 0 → length (tidy_of f) ≤ length f + 2 * row_limit
tidy_room f e = omega (arith, tidy_by_signs f e, (has_room f e).few)

-- so the tidy text of a file that leaves these bytes free is no longer than a file may be
pub round_trip_room : (f : List ℕ) → (survey_of f).refusal ≡ 0 → length f + 2 * row_limit ≤ file_limit → ((survey_of (tidy_of f)).refusal ≡ 0) × SameMeaning (tidy_of f) f
round_trip_room f e h = round_trip f e (omega (arith, tidy_room f e))

-- and an output with these bytes more than the file has room for it
pub writing_room : (f output : List ℕ) → (survey_of f).refusal ≡ 0 → length f + 2 * row_limit ≤ length output → length f + 2 * row_limit ≤ file_limit
    → writing_answer f output ≡ record { refusal = 0; place = length f; written = length (tidy_of f) }
writing_room f output e h g =
    let room = tidy_room f e in
    rw (e, le-leb (length (tidy_of f)) (length output) (omega arith), le-leb (length (tidy_of f)) file_limit (omega arith))
