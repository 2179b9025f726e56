-- One turn of the loop over the lines: the line is judged as the rules take it, its step can be taken, and then the reading
-- goes on or stops.
use Prim.Native.Nat.{ℕ, suc, ◌+◌, ◌≤◌, ◌<◌}
use native.Mathlib.Omega.{arith}
use mathlib.Core.Path.{◌≡◌, refl, sym, ap, ap₂, ◌∙◌, subst}
use mathlib.Core.Bool.{true, false≢true}
use mathlib.Core.List.{List, [], ◌∷◌, ◌++◌}
use lib.ListN.{length, drop}
use Rattle.rules.specs.Bytes.{ignored}
use Rattle.rules.specs.Texts.{Text}
use Rattle.rules.specs.Numbers.{file_limit}
use Rattle.rules.specs.Rules.{Verdict, refused, granted}
use Rattle.rules.specs.Keywords.{first_column}
use Rattle.rules.specs.Lines.{Taking}
use Rattle.rules.specs.Phases.{Phase, behind_sentence, Answer, refuse, go, hand, after, next, taken}
use Rattle.rules.specs.Reading.{Reading, begin, numbers, ended, read}
use Rattle.rules.specs.Survey.{last_end}
use Rattle.lines.specs.LineEnds.{first_line, line_end}
use Rattle.lines.specs.NextLines.{line_end_of, ListedBy}
use Rattle.lines.specs.declared.Unreadable.{Unreadable}
use Rattle.lines.proofs.FoundLines.{told_end, told_start, told_listed}
use Rattle.std.specs.Prelude.{Option, Some, None, is_some, Result, Ok, Err}
use Rattle.lines.proofs.Lines.{at_behind, at_below, at_place, at_take}
use Rattle.columns.specs.Listing.{text_between, line_of, columns_of, Listed}
use Rattle.columns.specs.Lines.{line_in, text_in, columns_in}
use Rattle.columns.specs.declared.listing.Line.{Line}
use Rattle.columns.specs.declared.listed.ListedLine.{ListedLine}
use Rattle.steps.specs.Faults.{broken_by}
use Rattle.steps.specs.Steps.{step_for, step_of}
use Rattle.steps.specs.declared.Fault.{Fault}
use Rattle.steps.specs.declared.Step.{Step}
use Rattle.steps.specs.declared.Step.TheVariants as steps
use Rattle.reading.specs.Effects.{Kept, kept, effect, judged_step, noted_by, plain_step, Applicable}
use Rattle.judging.specs.Judging.{judged_by, Judgeable}
use Rattle.judging.specs.States.{tally_in}
use Rattle.judging.specs.PlainLines.{PlainBy}
use Rattle.judging.specs.declared.plain.Plain.{Plain}
use Rattle.judging.specs.declared.plain.Plain.TheVariants as plain
use Rattle.judging.specs.declared.state.State.{State}
use Rattle.reading.specs.Closing.{reached_at, Walked}
use Rattle.reading.proofs.Keeping.{kept_of, Tied}
use Rattle.reading.proofs.Moving.{handing, Left, MovesBy, chosen, ignored_moves, line_moves}
use Rattle.judging.proofs.SameTaking.{same_taking, judgeable}
use Rattle.lines.proofs.LineSteps.{line_read, line_here, taken_step}
use Rattle.reading.proofs.RowsSound.{rows_sound}
use Rattle.reading.proofs.Going.{Going, stop_by}

-- ---- which step it is

-- what is not refused is a step
pub not_refused : (j : Result Step Fault) → ((f : Fault) → j ≡ Err f → ⊥) → j ≡ Ok (judged_step j)
not_refused (Ok y) o = refl
not_refused (Err f) o = absurd (o f refl)

-- whether it can be taken does not depend on the beginnings
applies_alike : (y : Step) (size : ℕ) (k : Kept) (begins : List ℕ) → Applicable y size k → Applicable y size (kept k.state k.sheet k.seen k.marks begins)
applies_alike steps.Ignored size k begins h = h
applies_alike (steps.Format n) size k begins h = h
applies_alike (steps.TableBegins n) size k begins h = h
applies_alike (steps.Row r) size k begins h = h
applies_alike steps.TableEnds size k begins h = h
applies_alike (steps.SentenceBegins s) size k begins h = h
applies_alike (steps.Word n) size k begins h = h
applies_alike (steps.Phrase n) size k begins h = h
applies_alike steps.SentenceEnds size k begins h = h

-- ---- one turn

-- from here on stands a line of the file, and its columns are listed
pub record LineHere (file : List ℕ) (from size at : ℕ) (k : Kept) (l : Line) (places : List ℕ) : Type 0 where
  pub going : Going file from size at k
  pub short : length file ≤ file_limit
  pub starts : l.start ≡ at
  pub ends : line_end file at ≡ Ok l.end
  pub listed : Listed file l places

-- what is said of the listed line is said of the line that was found
module _ {file : List ℕ} (l : ListedLine) {x : Line} (so : (l.file.now ≡ file) × (line_in l ≡ x)) (s : State) (sheet seen marks : List ℕ) where
  pub judged_so : {j : Result Step Fault} → j ≡ step_of (judged_by l.file.now (text_in l) s sheet seen marks) → j ≡ step_of (judged_by file (line_of file x) s sheet seen marks)
  judged_so j = j ∙ ap₂ (λ (bs : List ℕ) (y : Line). step_of (judged_by bs (line_of bs y) s sheet seen marks)) so.0 so.1

  pub plain_so : (words : ℕ) (p : Option Plain) → PlainBy (columns_in l) words (judged_by l.file.now (text_in l) s sheet seen marks) p
      → PlainBy (columns_of file x) words (judged_by file (line_of file x) s sheet seen marks) p
  plain_so words p b =
      subst (λ (y : Line). PlainBy (columns_of file y) words (judged_by file (line_of file y) s sheet seen marks) p) so.1
      (subst (λ (bs : List ℕ). PlainBy (columns_of bs (line_in l)) words (judged_by bs (line_of bs (line_in l)) s sheet seen marks) p) so.0 b)

pub here_found : {file : List ℕ} {from size at : ℕ} {k : Kept} → Going file from size at k → length file ≤ file_limit
    → {found : Result Line Unreadable} {places : List ℕ} → (line_end_of found ≡ line_end file at) × ListedBy file at found places
    → {l : Line} → found ≡ Ok l → LineHere file from size at k l places
here_found {file} {from} {size} {at} g m {found} {places} told {l} is =
    record {
      going = g;
      short = m;
      starts = told_start file at found places told l is;
      ends = told_end file at found places told l is;
      listed = told_listed file at found places told l is;
    }

module _ {file : List ℕ} {from size at : ℕ} {k : Kept} {l : Line} {places : List ℕ} (here : LineHere file from size at k l places) where
  abbrev g : Going file from size at k
  g = here.going

  abbrev e : ℕ
  e = l.end

  abbrev q : line_end file at ≡ Ok e
  q = here.ends

  pub onward : at ≤ e
  onward = at_behind file at e q

  pub inside : e < length file
  inside = at_below file at e q

  abbrev r : Reading
  r = g.reading

  abbrev ph : Phase
  ph = r.phase

  abbrev ns : List ℕ
  ns = numbers r.handed

  abbrev line : Text
  line = text_between file at e

  abbrev base : Kept
  base = kept_of k.marks from size r.handed ph

  tied_base : Tied file from size r.handed at ph base
  tied_base =
      let t = g.tied in
      record { is = refl; known = t.known; room = t.room; marks_are = t.marks_are; begun = t.begun; phrases = t.phrases; handed = t.handed }

  pub ready : Judgeable file k.state k.sheet k.seen k.state.phase
  ready =
      subst (λ (x : Kept). Judgeable file x.state x.sheet x.seen x.state.phase) (sym g.tied.is)
      (judgeable file ns (length r.handed) (last_end r.handed) k.marks ph g.tied.known (omega (arith, g.tied.phrases, g.in_file)) (omega (arith, g.tied.handed, g.in_file)))

  -- the line is taken as the rules take it
  abbrev judged : Verdict Taking
  judged = judged_by file (line_of file l) k.state k.sheet k.seen k.marks

  judged_is : judged ≡ taken ph ns line
  judged_is =
      ap (λ (n : ℕ). judged_by file (text_between file n e) k.state k.sheet k.seen k.marks) here.starts
      ∙ ap (λ (x : Kept). judged_by file line x.state x.sheet x.seen x.marks) g.tied.is
      ∙ same_taking file ns (length r.handed) (last_end r.handed) k.marks line ph g.tied.known g.tied.marks_are

  abbrev bytes_here : List ℕ
  bytes_here = first_line (drop at file)

  line_is : line_here file at r g.sound g.unbegun ≡ line
  line_is = rw (g.line_start, at_take file at e q)

  -- the rest of the file is read behind the line's answer
  answered : read begin file ≡ read (ended (line_read r bytes_here) (next (after ph at) (taken ph ns line))) (drop (e + 1) file)
  answered =
      sym g.rest ∙ taken_step file at r g.sound g.unbegun e q
      ∙ ap (λ (x : Text). read (ended (line_read r bytes_here) (next (after ph x.start) (taken ph ns x))) (drop (e + 1) file)) line_is

  behind : suc (r.at + length bytes_here) ≡ e + 1
  behind = omega (arith, g.place, at_place file at e q)

  going_by : (a : Answer) (k' : Kept) → read begin file ≡ read (ended (line_read r bytes_here) a) (drop (e + 1) file)
      → Left file from size r.handed at (e + 1) k.marks a k' → Going file from size (e + 1) k'
  going_by (refuse b) k' w left = absurd left
  going_by (go p) k' w left =
      record {
        reading = ended (line_read r bytes_here) (go p);
        in_file = omega (arith, inside);
        place = behind;
        line_start = behind;
        unbegun = refl;
        sound = refl;
        rest = sym w;
        tied = left;
      }
  going_by (hand p y) k' w left =
      record {
        reading = ended (line_read r bytes_here) (hand p y);
        in_file = omega (arith, inside);
        place = behind;
        line_start = behind;
        unbegun = refl;
        sound = refl;
        rest = sym w;
        tied = subst (λ (n : ℕ). Tied file from size (r.handed ++ (handing n y ∷ [])) (e + 1) (behind_sentence p) k') (sym behind) left;
      }

  abbrev Turned : Verdict Taking → Type 0
  Turned (refused b) = Walked file from size (reached_at k.state b.number b.about.start) k.sheet k.seen k.begins
  Turned (granted t) = Applicable (step_for t) (length file) k × Going file from size (e + 1) (effect from (step_for t) at (e + 1) k)

  moves : MovesBy file from size r.handed at (e + 1) k.marks ph (taken ph ns line)
  unfolding taken
  moves =
      let more : at < e + 1 = omega (arith, onward) in
      let within : e + 1 ≤ length file = omega (arith, inside) in
      let few = g.tied.handed in
      let room = g.tied.room in
      chosen file from size r.handed at (e + 1) k.marks ph (ignored line.bytes) _ _
      (ignored_moves file from size r.handed at (e + 1) k.marks here.short room more within few line ph tied_base)
      (line_moves file from size r.handed at (e + 1) k.marks here.short room more within few line (rows_sound file at e g.in_file) (first_column line) ph tied_base)

  by_verdict : (v : Verdict Taking) → taken ph ns line ≡ v → MovesBy file from size r.handed at (e + 1) k.marks ph v → Turned v
  by_verdict (refused b) h m =
      stop_by file from size at k g bytes_here (drop (e + 1) file) b
      (answered ∙ ap (λ (v : Verdict Taking). read (ended (line_read r bytes_here) (next (after ph at) v)) (drop (e + 1) file)) h)
  by_verdict (granted t) h m =
      subst (λ (x : Kept). Applicable (step_for t) (length file) x × Going file from size (e + 1) (effect from (step_for t) at (e + 1) x)) (sym g.tied.is) (
        m.applies,
        going_by (after ph at t) (effect from (step_for t) at (e + 1) base)
            (answered ∙ ap (λ (v : Verdict Taking). read (ended (line_read r bytes_here) (next (after ph at) v)) (drop (e + 1) file)) h) m.left,
      )

  turned : Turned judged
  turned = subst Turned (sym judged_is) (by_verdict (taken ph ns line) refl moves)

  -- ---- as the code has it: j is what the judge answered

  module _ (j : Result Step Fault) (is : j ≡ step_of judged) where
    module _ (y : Step) (o : j ≡ Ok y) where
      goes_on : Applicable y (length file) k × ((k' : Kept) → k' ≡ effect from y at (e + 1) k → Going file from size (e + 1) k')
      goes_on = by judged turned (sym o ∙ is)
        where
          by : (v : Verdict Taking) → Turned v → Ok y ≡ step_of v → Applicable y (length file) k × ((k' : Kept) → k' ≡ effect from y at (e + 1) k → Going file from size (e + 1) k')
          by (refused b) t s = absurd (let z : ◌≡◌ {A = ℕ} 0 1 = cc in omega arith)
          by (granted t) u s =
              let its : y ≡ step_for t = cc in
              rw its (u.0, λ k' h. subst (Going file from size (e + 1)) (sym h) u.1)

      pub applies : (l.start ≤ file_limit) × (e ≤ file_limit) × Applicable y (length file) (kept k.state k.sheet k.seen k.marks [])
      applies = (
        omega (arith, here.starts, onward, inside, here.short),
        omega (arith, inside, here.short),
        applies_alike y (length file) k [] goes_on.0,
      )

      -- the beginnings are noted apart
      pub goes_on_noted : (s' : State) (sheet' seen' marks' begins' : List ℕ) → begins' ≡ noted_by from y k.state k.begins
          → kept s' sheet' seen' marks' (noted_by from y k.state k.begins) ≡ effect from y l.start (e + 1) k → Going file from size (e + 1) (kept s' sheet' seen' marks' begins')
      goes_on_noted s' sheet' seen' marks' begins' b p =
          subst (λ (bs : List ℕ). Going file from size (e + 1) (kept s' sheet' seen' marks' bs)) (sym b) (goes_on.1 _ (p ∙ ap (λ (n : ℕ). effect from y n (e + 1) k) here.starts))

    pub stops : (f : Fault) → j ≡ Err f → Walked file from size (reached_at k.state f.number f.place) k.sheet k.seen k.begins
    stops f h = by judged turned (sym h ∙ is)
      where
        by : (v : Verdict Taking) → Turned v → Err f ≡ step_of v → Walked file from size (reached_at k.state f.number f.place) k.sheet k.seen k.begins
        by (refused b) t s =
            let its : f ≡ broken_by b = cc in
            subst (λ (x : Fault). Walked file from size (reached_at k.state x.number x.place) k.sheet k.seen k.begins) (sym its) t
        by (granted t) u s = absurd (let z : ◌≡◌ {A = ℕ} 0 1 = cc in omega arith)

  -- ---- as the quick way has it: p is what it answered, and it took the line

  module _ (p : Option Plain) (says : PlainBy (columns_of file l) (tally_in k.state.phase).words judged p) (o : is_some p ≡ true) where
    abbrev Goes : Option Plain → Type 0
    Goes x =
        Applicable (plain_step x) 0 (kept k.state [] [] k.marks [])
        × ((k' : Kept) → k' ≡ effect from (plain_step x) at (e + 1) k → Going file from size (e + 1) k')

    pub plainly : Goes p
    unfolding effect
    plainly = by p says o
      where
        by : (x : Option Plain) → PlainBy (columns_of file l) (tally_in k.state.phase).words judged x → is_some x ≡ true → Goes x
        by (Some (plain.Word parent)) b m = goes_on _ (sym b) _ refl
        by (Some (plain.Phrase number parent)) b m = goes_on _ (sym b) _ refl
        by None b m = absurd (false≢true m)
