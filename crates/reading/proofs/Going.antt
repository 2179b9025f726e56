-- Between two lines a reading stands where the rules' reading stands, and the rest of the file is still to be read: the
-- invariant of the loop over the lines, and what is told where the loop stops.
use Prim.Native.Nat.{ℕ, ◌+◌, ◌≤◌, ◌<◌}
use native.Mathlib.Omega.{arith}
use mathlib.Core.Path.{◌≡◌, refl, sym, ap, ◌∙◌, subst}
use mathlib.Core.Bool.{false, ◌&&◌, ◌||◌}
use Rattle.std.specs.Prelude.{Option, None, Some, Err}
use mathlib.Core.List.{List, [], ◌∷◌, ◌++◌, append-nil, reverse}
use lib.Dec.{eqb}
use lib.ListN.{length, drop, replicate, length-replicate, length-drop, length-reverse, drop_of_length-le}
use borrow.Author.Tests.{ne_eqb}
use Rattle.rules.specs.Lists.{pick}
use Rattle.rules.specs.Numbers.{file_limit}
use Rattle.rules.specs.Rules.{Rule, rule}
use Rattle.rules.specs.Tables.{Row, no_tables, there, table}
use Rattle.rules.specs.Sheets.{table_count, table_sheet_size, table_sheet, seen_set_size, seen_set, count}
use Rattle.rules.specs.Phases.{Phase, start, top, in_table, in_sentence, behind_sentence, refuse, at_end, tables_at, sentence_at}
use Rattle.rules.specs.Reading.{Reading, begin, numbers, ended, read, verdict}
use Rattle.rules.specs.Index.{beginnings}
use Rattle.rules.proofs.ReadLines.{read_part, read_fault}
use Rattle.lines.specs.LineEnds.{first_line, line_end, line_refusal}
use Rattle.lines.specs.declared.Unreadable.{Unreadable}
use Rattle.lines.specs.declared.Unreadable.TheVariants.{Unended, Illegal, TooLong}
use Rattle.lines.proofs.Lines.{unended_none}
use Rattle.seen.proofs.SeenSets.{length_seen_set}
use Rattle.table_sheet.proofs.OpenSheets.{sheet_given_up, count_of_table}
use Rattle.steps.specs.declared.Fault.{Fault}
use Rattle.judging.specs.States.{phase_of, state_of, table_open, tally_in}
use Rattle.reading.specs.Effects.{Kept, kept}
use Rattle.reading.specs.Closing.{reached_at, state_after, fault_said, reached_by, closing_number, given_up, Walked}
use Rattle.judging.specs.declared.state.State.{State}
use Rattle.reading.specs.declared.Reached.{Reached}
use Rattle.judging.proofs.Knowing.{sheet_of, Known}
use Rattle.reading.proofs.Keeping.{Tied}
use Rattle.reading.proofs.Begins.{length_begins}
use Rattle.judging.proofs.Counts.{none_marked}
use Rattle.judging.proofs.SameTaking.{sheet_length}
use Rattle.lines.proofs.LineSteps.{line_read, line_here, illegal_step, long_step}

-- the list of beginnings has this size, and tells of the numbers from one on
pub record Going (file : List ℕ) (from size : ℕ) (at : ℕ) (k : Kept) : Type 0 where
  pub reading : Reading
  pub in_file : at ≤ length file
  pub place : reading.at ≡ at
  pub line_start : reading.line_start ≡ at
  pub unbegun : reading.part ≡ []
  pub sound : reading.fault ≡ None
  pub rest : read reading (drop at file) ≡ read begin file
  pub tied : Tied file from size reading.handed at reading.phase k

-- ---- the beginning

pub going_start : (file : List ℕ) (from size : ℕ) (s : State) (sheet seen marks begins : List ℕ)
    → s ≡ state_of 0 0 start → sheet ≡ table_sheet no_tables → seen ≡ seen_set [] → marks ≡ replicate 500 0 → begins ≡ beginnings from size []
    → Going file from size 0 (kept s sheet seen marks begins)
going_start file from size s sheet seen marks begins a b c d e =
    rw (a, b, c, d, e)
    (record {
      reading = begin;
      in_file = omega arith;
      place = refl;
      line_start = refl;
      unbegun = refl;
      sound = refl;
      rest = refl;
      tied = record { is = refl; known = tt; room = length-replicate {A = ℕ} 500 0; marks_are = none_marked 500; begun = omega arith; phrases = omega arith; handed = omega arith };
    })

-- ---- what is known of the sheet, wherever the reading stands

missing : (a b : Option (List Row)) (m n : ℕ) → m ≡ count a → n ≡ count b → ◌≡◌ {A = ℕ} (pick (eqb m 0 || eqb n 0) 13 0) (pick (there a && there b) 0 13)
missing None b m n p q = rw p
missing (Some rs) None m n p q = rw (ne_eqb m 0 (λ z. omega (arith, p, z)), q)
missing (Some rs) (Some qs) m n p q = rw (ne_eqb m 0 (λ z. omega (arith, p, z)), ne_eqb n 0 (λ z. omega (arith, q, z)))

module _ (file ns : List ℕ) where
  closes : (ph : Phase) → Known file ns ph → closing_number (phase_of ph) (sheet_of ph) ≡ at_end ph
  closes start k = refl
  closes (top p) k =
      let ts = p.tables in
      missing (table 0 ts) (table 1 ts) _ _ (count_of_table ts 0 (omega (arith, k.fit.seven))) (count_of_table ts 1 (omega (arith, k.fit.seven)))
  closes (in_table p n rs) k = refl
  closes (in_sentence p s) k = refl
  closes (behind_sentence p) k = refl

  gives_up : (ph : Phase) → Known file ns ph → given_up (phase_of ph) (sheet_of ph) ≡ table_sheet (tables_at ph)
  gives_up start k = refl
  gives_up (top p) k = refl
  gives_up (in_table p n rs) k = sheet_given_up p.tables k.tables.fit n k.place k.absent rs k.few
  gives_up (in_sentence p s) k = refl
  gives_up (behind_sentence p) k = refl

  seat : (ph : Phase) → Known file ns ph → table_open (phase_of ph) < table_count
  seat start k = omega arith
  seat (top p) k = omega arith
  seat (in_table p n rs) k = k.place
  seat (in_sentence p s) k = omega arith
  seat (behind_sentence p) k = omega arith

begun_at : (ph : Phase) → (tally_in (phase_of ph)).start ≤ (sentence_at ph).start
begun_at start = omega arith
begun_at (top p) = omega arith
begun_at (in_table p n rs) = omega arith
begun_at (in_sentence p s) = omega arith
begun_at (behind_sentence p) = omega arith

-- ---- where the loop stops

abbrev with_fault : State → Fault → Reached
with_fault s f = record { state = s; fault = f }

module _ (file : List ℕ) (from size at : ℕ) (k : Kept) (g : Going file from size at k) where
  abbrev r : Reading
  r = g.reading

  abbrev Stops : Reached → Type 0
  Stops w = Walked file from size w k.sheet k.seen k.begins

  pub sheet_size : length k.sheet ≡ table_sheet_size
  sheet_size = ap (λ (x : Kept). length x.sheet) g.tied.is ∙ sheet_length file (numbers r.handed) r.phase g.tied.known

  pub seen_size : length k.seen ≡ seen_set_size
  seen_size = ap (λ (x : Kept). length x.seen) g.tied.is ∙ length_seen_set (numbers r.handed)

  pub begins_size : length k.begins ≡ size
  begins_size = ap (λ (x : Kept). length x.begins) g.tied.is ∙ length_begins from size r.handed

  pub begun_limit : length file ≤ file_limit → (tally_in k.state.phase).start ≤ file_limit
  begun_limit short =
      let e : (tally_in k.state.phase).start ≡ (tally_in (phase_of r.phase)).start = ap (λ (x : Kept). (tally_in x.state.phase).start) g.tied.is in
      omega (arith, e, begun_at r.phase, g.tied.begun, g.in_file, short)

  -- the reading has stopped as x, with the phase and the sentences that it had here
  stopped : (x : Reading) (n place : ℕ) → read begin file ≡ x → x.phase ≡ r.phase → x.handed ≡ r.handed
      → record { number = n; place = place } ≡ fault_said (verdict x) → Stops (reached_at k.state n place)
  stopped x n place e p h q =
      let known = g.tied.known in
      subst (λ (y : Kept). Walked file from size (reached_at y.state n place) y.sheet y.seen y.begins) (sym g.tied.is)
      (record {
        reached_is = ap (with_fault (state_after r)) q ∙ ap (λ (s : State). with_fault s (fault_said (verdict x))) (sym state_is) ∙ ap reached_by (sym e);
        place = seat file (numbers r.handed) r.phase known;
        sheet_size = sheet_length file (numbers r.handed) r.phase known;
        given_up_lem = rw (e, p) (gives_up file (numbers r.handed) r.phase known);
        seen_is = rw (e, h);
        begins_is = rw (e, h);
      })
    where
      state_is : state_after x ≡ state_after r
      state_is = rw (p, h)

  pub stop_by : (l rest : List ℕ) (b : Rule) → read begin file ≡ read (ended (line_read r l) (refuse b)) rest → Stops (reached_at k.state b.number b.about.start)
  stop_by l rest b e = stopped _ b.number b.about.start (e ∙ read_fault (ended (line_read r l) (refuse b)) _ rest refl) refl refl refl

  -- the whole line is at fault
  stop_line : (l rest : List ℕ) (n : ℕ) → read begin file ≡ read (ended (line_read r l) (refuse (rule n (line_here file at r g.sound g.unbegun) false))) rest → Stops (reached_at k.state n at)
  stop_line l rest n e =
      subst (λ (place : ℕ). Stops (reached_at k.state n place)) g.line_start (stop_by l rest (rule n (line_here file at r g.sound g.unbegun) false) e)

  -- bytes behind the last newline
  part_left : (x : Reading) (l : List ℕ) → 0 < length l → x.fault ≡ None → x.part ≡ l → x.line_start ≡ at → record { number = 3; place = at } ≡ fault_said (verdict x)
  part_left x [] h f p n = absurd (omega arith)
  part_left x (b ∷ bs) h f p n = rw (f, p, n)

  -- a line that may not be read
  pub stop_unread : at < length file → (why : Unreadable) → line_end file at ≡ Err why → Stops (reached_at k.state (line_refusal why) at)
  stop_unread h Unended q =
      let l = drop at file in
      let some : 0 < length (reverse l ++ r.part) = rw (g.unbegun, append-nil) (omega (arith, length-reverse l, length-drop at file)) in
      stopped _ 3 at (sym g.rest ∙ read_part r l g.sound (unended_none file at q)) refl refl
      (part_left (record { at = r.at + length l; line_start = r.line_start; part = reverse l ++ r.part; phase = r.phase; handed = r.handed; fault = None }) (reverse l ++ r.part) some refl refl g.line_start)
  stop_unread h Illegal q =
      stop_line (first_line (drop at file)) (drop (at + length (first_line (drop at file)) + 1) file) 4
      (sym g.rest ∙ illegal_step file at r g.sound g.unbegun q)
  stop_unread h TooLong q =
      stop_line (first_line (drop at file)) (drop (at + length (first_line (drop at file)) + 1) file) 5
      (sym g.rest ∙ long_step file at r g.sound g.unbegun q)

  pub stop_end : length file ≤ at → Stops (reached_at k.state (closing_number k.state.phase k.sheet) at)
  stop_end h =
      stopped r _ at (sym g.rest ∙ ap (read r) (drop_of_length-le file h)) refl refl
      (whole r g.sound g.unbegun (ap (λ (x : Kept). closing_number x.state.phase x.sheet) g.tied.is ∙ closes file (numbers r.handed) r.phase g.tied.known) g.place)
    where
      whole : (x : Reading) → x.fault ≡ None → x.part ≡ [] → {n : ℕ} → n ≡ at_end x.phase → x.at ≡ at → record { number = n; place = at } ≡ fault_said (verdict x)
      whole x f p q a = rw (f, p, q, a)
