-- A line behind the heading of a sentence, and what it makes of the sentence: the reading goes on with what the line is taken
-- for, and what is kept goes on with it.
use Prim.Native.Nat.{ℕ, suc, ◌+◌, ◌-◌, ◌*◌, ◌≤◌, ◌<◌}
use native.Mathlib.Numerals.{add-one}
use native.Mathlib.Omega.{arith}
use mathlib.Core.Path.{◌≡◌, refl, sym, ap, ap₂, ◌∙◌, subst}
use mathlib.Core.Bool.{true, false}
use Rattle.columns.specs.Lines.{line_in, text_in}
use Rattle.columns.specs.declared.listed.ListedLine.{ListedLine}
use Rattle.std.specs.Prelude.{Option, None, Some}
use mathlib.Core.List.{List, [], ◌∷◌, ◌++◌, map}
use lib.ListN.{length, drop, set, length-set}
use borrow.Author.Tests.{ne_eqb}
use Rattle.rules.specs.Lists.{empty, joined}
use Rattle.rules.specs.Texts.{Text}
use Rattle.rules.specs.Numbers.{file_limit, edge_limit}
use Rattle.rules.specs.Rules.{Rule, Verdict, refused, granted}
use Rattle.rules.specs.Tables.{no_tables}
use Rattle.rules.specs.Sentences.{Edge, Node, Sentence, edges_of, listed, so_far}
use Rattle.rules.specs.Nodes.{word_of, phrase_of}
use Rattle.rules.specs.Lines.{Taking, ignored_line, word_line, phrase_line, sentence_ends}
use Rattle.rules.specs.Sheets.{node_room, nodes}
use Rattle.rules.specs.Phases.{Phase, in_sentence, go, hand, after, next, taken, with_word, with_phrase}
use Rattle.rules.specs.Reading.{Reading, ended, read}
use Rattle.rules.specs.SentenceFrom.{first_handed}
use Rattle.rules.proofs.Cut.{grow}
use Rattle.lines.specs.LineEnds.{first_line, line_end}
use Rattle.std.specs.Prelude.{Result, Ok}
use Rattle.lines.specs.NextLines.{line_end_of, ListedBy}
use Rattle.lines.specs.declared.Unreadable.{Unreadable}
use Rattle.lines.proofs.FoundLines.{told_end, told_start}
use Rattle.lines.proofs.Lines.{at_below, at_place, at_take}
use Rattle.lines.proofs.LineSteps.{line_read, line_here, taken_step}
use Rattle.columns.specs.Listing as listing
use Rattle.columns.specs.Splices.{splice}
use Rattle.columns.specs.declared.listing.Line.{Line}
use Rattle.sentence_sheet.specs.OpenSentences.{open_sentence}
use Rattle.sentence_sheet.specs.FlatEdges.{edge_width, edge_numbers, edges_among, flat_edges}
use Rattle.sentence_sheet.proofs.OpenSentences.{sheet_node}
use Rattle.steps.specs.Steps.{node_said}
use Rattle.steps.specs.declared.Step.{Step}
use Rattle.steps.specs.declared.Step.TheVariants as steps
use Rattle.nodes.specs.NodeLines.{fields_of}
use Rattle.judging.specs.States as states
use Rattle.judging.specs.declared.state.Tally.{Tally}
use Rattle.judging.proofs.Knowing.{Telling}
use Rattle.judging.proofs.Granted.{PhraseGranted, word_granted, phrase_granted}
use Rattle.judging.proofs.Counts.{one_more, tally_with_word, tally_with_phrase, telling_more}
use Rattle.sentences.specs.Keeping.{Stored, with_record, with_edges, stored_by, NodeStorable, Storable}
use Rattle.sentences.proofs.Growing.{listed_apart, nodes_with_word, nodes_with_phrase, flat_node}
use Rattle.sentences.proofs.NodeTakings.{bare, NodeHere, word_here, phrase_here}
use Rattle.judging.proofs.KeptOn.{kept_with_word, kept_with_phrase}
use Rattle.sentences.proofs.Gathering.{reading_at, Gathering, none_refused}

none_listed : (ps : List Node) (m : ℕ) → empty ps ≡ true → listed ps m ≡ false
none_listed [] m e = refl
none_listed (p ∷ ps) m e = cc

-- what is known where a line is listed
pub record LineHere (file : List ℕ) (sought : Option Sentence) (handed at : ℕ) (k : Stored) (e : ℕ) (l : ListedLine) : Type 0 where
  pub going : Gathering file sought handed at k
  pub short : length file ≤ file_limit
  pub ends : line_end file at ≡ Ok e
  pub is : text_in l ≡ listing.text_between file at e

pub here_found : {file : List ℕ} {sought : Option Sentence} {handed at : ℕ} {k : Stored} → Gathering file sought handed at k → length file ≤ file_limit
    → {found : Result Line Unreadable} (places : List ℕ) → (line_end_of found ≡ line_end file at) × ListedBy file at found places
    → {x : Line} → found ≡ Ok x → (l : ListedLine) → (l.file.now ≡ file) × (line_in l ≡ x) → LineHere file sought handed at k l.end l
here_found {file} {sought} {handed} {at} g m {found} places told {x} is l so =
    let begins : l.start ≡ at = ap (λ (y : Line). y.start) so.1 ∙ told_start file at found places told x is in
    record {
      going = g;
      short = m;
      ends = told_end file at found places told x is ∙ ap (λ (y : Line). Ok y.end) (sym so.1);
      is = ap₂ (λ (bs : List ℕ) (n : ℕ). listing.text_between bs n l.end) so.0 begins;
    }

module _ {file : List ℕ} {sought : Option Sentence} {handed at : ℕ} {k : Stored} {e : ℕ} {l : ListedLine} (t : LineHere file sought handed at k e l) where
  abbrev g : Gathering file sought handed at k
  g = t.going

  abbrev s : Sentence
  s = g.sentence

  abbrev r : Reading
  r = reading_at at s

  abbrev ph : Phase
  ph = in_sentence bare s

  abbrev line : Text
  line = listing.text_between file at e

  abbrev bytes_here : List ℕ
  bytes_here = first_line (drop at file)

  abbrev later : List ℕ
  later = drop (e + 1) file

  abbrev first : Reading → Option Sentence
  first x = first_handed x.handed

  line_is : line_here file at r refl refl ≡ line
  line_is = ap (λ (bs : List ℕ). record { start = at; bytes = bs }) (sym (at_take file at e t.ends))

  answered : (v : Verdict Taking) → taken ph [] line ≡ v → read r (drop at file) ≡ read (ended (line_read r bytes_here) (next (after ph at) v)) later
  answered v h =
      taken_step file at r refl refl e t.ends
      ∙ ap (λ (x : Text). read (ended (line_read r bytes_here) (next (after ph at) (taken ph [] x))) later) line_is
      ∙ ap (λ (x : Verdict Taking). read (ended (line_read r bytes_here) (next (after ph at) x)) later) h

  behind : suc (at + length bytes_here) ≡ e + 1
  behind = omega (arith, at_place file at e t.ends)

  -- the sentence goes on
  rest_of : (s⁺ : Sentence) → read r (drop at file) ≡ read (ended (line_read r bytes_here) (go (in_sentence bare s⁺))) later
      → first (read (reading_at (e + 1) s⁺) later) ≡ sought
  rest_of s⁺ w = ap (λ (m : ℕ). first (read (reading_at m s⁺) later)) (sym behind) ∙ sym (ap first w) ∙ g.rest

  -- or it is handed out
  pub found_here : taken ph [] line ≡ granted sentence_ends → sought ≡ Some s
  unfolding after
  found_here h =
      sym g.rest ∙ ap first (answered (granted sentence_ends) h) ∙ ap first_handed (grow (ended (line_read r bytes_here) (hand bare s)) later).handed

  -- or the line is refused
  pub refused_here : (b : Rule) → taken ph [] line ≡ refused b → sought ≡ None
  refused_here b h = none_refused file sought handed at k g bytes_here later b (answered (refused b) h)

  inside : e + 1 ≤ length file
  inside = omega (arith, at_below file at e t.ends)

  abbrev fs : List Text
  fs = fields_of l

  pub ignored_on : taken ph [] line ≡ granted ignored_line → Gathering file sought handed (e + 1) k
  unfolding after
  ignored_on h =
      record {
        sentence = s;
        in_file = inside;
        rest = rest_of s (answered (granted ignored_line) h);
        known = g.known;
        above = g.above;
        phrases = omega (arith, g.phrases, behind);
        telling = g.telling;
        marks_size = g.marks_size;
        tally_is = g.tally_is;
        sheet_is = g.sheet_is;
        sheet_size = g.sheet_size;
        edges_are = g.edges_are;
        edges_size = g.edges_size;
      }

  -- ---- one node more

  module _ (n : Node) (x : NodeHere fs n) where
    fits : n.number < node_room → edges_of s + length n.secondary ≤ edge_limit → NodeStorable fs (node_said n) k.tally k.sheet k.edges
    fits low few =
        record { whole = x.whole; number = low; few = rw g.tally_is few; sheet_size = g.sheet_size; edges_size = g.edges_size }

    with_record_lem : n.number < node_room → listed (nodes s) n.number ≡ false → with_record (node_said n) k.sheet ≡ open_sentence s.heading (nodes s ++ (n ∷ []))
    with_record_lem low fresh = ap (with_record (node_said n)) g.sheet_is ∙ sheet_node s.heading (nodes s) n low fresh

    with_edges_lem : with_edges fs (node_said n) k.tally k.edges ≡ flat_edges (edges_among (nodes s ++ (n ∷ [])))
    with_edges_lem =
        ap (λ (y : Tally). with_edges fs (node_said n) y k.edges) g.tally_is
        ∙ ap₂ (λ (es : List Edge) (l : List ℕ). splice (edge_width * edges_of s) (joined (map (edge_numbers n.number) es)) l) x.secondary g.edges_are
        ∙ flat_node s n

  module _ (n : Node) (h : taken ph [] line ≡ granted (word_line n)) (granted_so : word_of 3 no_tables (so_far s) (text_in l) ≡ granted n) where
    abbrev y : Step
    y = steps.Word (node_said n)

    its_number : n.number ≡ length s.words
    its_number = (word_here l s n granted_so).1

    low : n.number < node_room
    low = omega (arith, its_number, g.known.words)

    pub word_applies : Storable fs y k
    word_applies = (
      fits n (word_here l s n granted_so).0 low (word_granted 3 no_tables (so_far s) (text_in l) n granted_so).few,
      rw g.tally_is (omega (arith, g.known.words)),
    )

    above⁺ : (m : ℕ) → length (s.words ++ (n ∷ [])) ≤ m → listed (s.words ++ (n ∷ [])) m ≡ false
    above⁺ m b =
        let more : length s.words + 1 ≤ m = omega (arith, one_more s.words n) in
        listed_apart s.words (n ∷ []) m (g.above m (omega arith)) (rw (ne_eqb m n.number (λ z. omega (arith, z, its_number))))

    words_first : empty s.phrases ≡ true
    words_first = (word_granted 3 no_tables (so_far s) (text_in l) n granted_so).first

    new_word : listed (nodes s) n.number ≡ false
    new_word = listed_apart s.words s.phrases n.number (g.above n.number (omega (arith, its_number))) (none_listed s.phrases n.number words_first)

    pub word_on : (k' : Stored) → k' ≡ stored_by (handed + 1) fs y k → length k'.sheet ≡ length k.sheet → length k'.edges ≡ length k.edges → Gathering file sought handed (e + 1) k'
    unfolding stored_by after
    word_on k' is a b =
        record {
          sentence = with_word s n;
          in_file = inside;
          rest = rest_of (with_word s n) (answered (granted (word_line n)) h);
          known = kept_with_word file [] 3 no_tables s g.known (text_in l) n granted_so;
          above = above⁺;
          phrases = omega (arith, g.phrases, behind);
          telling = subst (λ (ms : List ℕ). Telling ms handed (with_word s n)) (sym (ap (λ (z : Stored). z.marks) is)) (record { stamped = g.telling.stamped; tell = g.telling.tell });
          marks_size = ap (λ (z : Stored). length z.marks) is ∙ g.marks_size;
          tally_is =
              ap (λ (z : Stored). z.tally) is ∙ ap (λ (y : Tally). states.counted_word y (node_said n)) g.tally_is ∙ tally_with_word s n words_first;
          sheet_is =
              ap (λ (z : Stored). z.sheet) is ∙ with_record_lem n (word_here l s n granted_so).0 low new_word
              ∙ ap (open_sentence s.heading) (sym (nodes_with_word s n words_first));
          sheet_size = a ∙ g.sheet_size;
          edges_are =
              ap (λ (z : Stored). z.edges) is ∙ with_edges_lem n (word_here l s n granted_so).0
              ∙ ap (λ (ns : List Node). flat_edges (edges_among ns)) (sym (nodes_with_word s n words_first));
          edges_size = b ∙ g.edges_size;
        }

  module _ (n : Node) (h : taken ph [] line ≡ granted (phrase_line n)) (granted_so : phrase_of 3 no_tables (so_far s) (text_in l) ≡ granted n) where
    abbrev z : Step
    z = steps.Phrase (node_said n)

    told : PhraseGranted (so_far s) n
    told = phrase_granted 3 no_tables (so_far s) (text_in l) n granted_so

    pub phrase_applies : Storable fs z k
    phrase_applies = (
      fits n (phrase_here l s n granted_so) (omega (arith, told.high)) told.few,
      rw g.tally_is (omega (arith, g.phrases, g.in_file, t.short)),
      told.low,
    )

    new_phrase : listed (nodes s) n.number ≡ false
    new_phrase = listed_apart s.words s.phrases n.number (g.above n.number (omega (arith, told.low, g.known.words))) told.new

    pub phrase_on : (k' : Stored) → k' ≡ stored_by (handed + 1) fs z k → length k'.sheet ≡ length k.sheet → length k'.edges ≡ length k.edges → Gathering file sought handed (e + 1) k'
    unfolding stored_by after
    phrase_on k' is a b =
        record {
          sentence = with_phrase s n;
          in_file = inside;
          rest = rest_of (with_phrase s n) (answered (granted (phrase_line n)) h);
          known = kept_with_phrase file [] 3 no_tables s g.known (text_in l) n granted_so;
          above = g.above;
          phrases = omega (arith, g.phrases, behind, one_more s.phrases n);
          telling =
              subst (λ (ms : List ℕ). Telling ms handed (with_phrase s n)) (sym (ap (λ (z : Stored). z.marks) is ∙ ap (set k.marks (n.number - 500)) (add-one handed)))
              (telling_more k.marks handed s g.telling n told.low (omega (arith, told.high, g.marks_size)));
          marks_size = ap (λ (z : Stored). length z.marks) is ∙ length-set k.marks (n.number - 500) (handed + 1) ∙ g.marks_size;
          tally_is =
              ap (λ (z : Stored). z.tally) is ∙ ap (λ (y : Tally). states.counted_phrase y (node_said n)) g.tally_is ∙ tally_with_phrase s n told.low;
          sheet_is =
              ap (λ (z : Stored). z.sheet) is ∙ with_record_lem n (phrase_here l s n granted_so) (omega (arith, told.high)) new_phrase
              ∙ ap (open_sentence s.heading) (sym (nodes_with_phrase s n));
          sheet_size = a ∙ g.sheet_size;
          edges_are =
              ap (λ (z : Stored). z.edges) is ∙ with_edges_lem n (phrase_here l s n granted_so)
              ∙ ap (λ (ns : List Node). flat_edges (edges_among ns)) (sym (nodes_with_phrase s n));
          edges_size = b ∙ g.edges_size;
        }
