-- One turn of the loop over a sentence's lines: the line is refused, or it ends the sentence, or its step can be taken and
-- what is kept goes on with the rules' sentence.
use Prim.Native.Nat.{ℕ, ◌+◌}
use mathlib.Core.Path.{◌≡◌, refl, sym, ap, ◌∙◌, subst}
use Rattle.columns.specs.Lines.{text_in}
use Rattle.columns.specs.declared.listed.ListedLine.{ListedLine}
use Rattle.std.specs.Prelude.{Option, None, Some, Result, Ok, Err}
use mathlib.Core.List.{List, []}
use lib.ListN.{length}
use Rattle.rules.specs.Texts.{Text}
use Rattle.rules.specs.Rules.{Verdict, refused, granted}
use Rattle.rules.specs.Tables.{no_tables}
use Rattle.rules.specs.Sentences.{Sentence, so_far}
use Rattle.rules.specs.Nodes.{word_of, phrase_of}
use Rattle.rules.specs.Lines.{Taking, ignored_line, format_line, table_begins, row_line, table_ends, sentence_begins, word_line, phrase_line, sentence_ends}
use Rattle.rules.specs.Phases.{Phase, in_sentence, taken}
use Rattle.columns.specs.Listing as listing
use Rattle.steps.specs.Steps.{step_of}
use Rattle.steps.specs.declared.Fault.{Fault}
use Rattle.steps.specs.declared.Step.{Step}
use Rattle.steps.specs.declared.Step.TheVariants as steps
use Rattle.nodes.specs.NodeLines.{fields_of}
use Rattle.judging.specs.declared.state.Tally.{Tally}
use Rattle.sentences.specs.Keeping.{taken_by, Stored, stored_by, Storable}
use Rattle.sentences.proofs.NodeTakings.{bare, taken_same, Taken, node_taken}
use Rattle.sentences.proofs.Gathering.{Gathering}
use Rattle.sentences.proofs.Taking.{LineHere, refused_here, found_here, ignored_on, word_applies, word_on, phrase_applies, phrase_on}

module _ {file : List ℕ} {sought : Option Sentence} {handed at : ℕ} {k : Stored} {e : ℕ} {l : ListedLine} (t : LineHere file sought handed at k e l) where
  abbrev g : Gathering file sought handed at k
  g = t.going

  abbrev s : Sentence
  s = g.sentence

  abbrev ph : Phase
  ph = in_sentence bare s

  abbrev line : Text
  line = listing.text_between file at e

  abbrev fs : List Text
  fs = fields_of l

  -- ---- whatever it is taken for

  abbrev Goes : Step → Type 0
  Goes y =
      Storable fs y k
      × ((k' : Stored) → k' ≡ stored_by (handed + 1) fs y k → length k'.sheet ≡ length k.sheet → length k'.edges ≡ length k.edges → Gathering file sought handed (e + 1) k')

  abbrev Turned : Result Step Fault → Type 0
  Turned (Ok steps.Ignored) = Goes steps.Ignored
  Turned (Ok (steps.Format n)) = ⊥
  Turned (Ok (steps.TableBegins n)) = ⊥
  Turned (Ok (steps.Row r)) = ⊥
  Turned (Ok steps.TableEnds) = ⊥
  Turned (Ok (steps.SentenceBegins h)) = ⊥
  Turned (Ok (steps.Word n)) = Goes (steps.Word n)
  Turned (Ok (steps.Phrase n)) = Goes (steps.Phrase n)
  Turned (Ok steps.SentenceEnds) = sought ≡ Some s
  Turned (Err f) = sought ≡ None

  by_verdict : (v : Verdict Taking) → taken ph [] line ≡ v → Taken s line v → Turned (step_of v)
  unfolding stored_by
  by_verdict (refused b) h w = refused_here t b h
  by_verdict (granted ignored_line) h w = (tt, λ k' is a b. subst (Gathering file sought handed (e + 1)) (sym is) (ignored_on t h))
  by_verdict (granted (format_line n)) h w = w
  by_verdict (granted (table_begins n)) h w = w
  by_verdict (granted (row_line r)) h w = w
  by_verdict (granted table_ends) h w = w
  by_verdict (granted (sentence_begins b)) h w = w
  by_verdict (granted (word_line n)) h w =
      let so = ap (word_of 3 no_tables (so_far s)) t.is ∙ w in
      (word_applies t n h so, word_on t n h so)
  by_verdict (granted (phrase_line n)) h w =
      let so = ap (phrase_of 3 no_tables (so_far s)) t.is ∙ w in
      (phrase_applies t n h so, phrase_on t n h so)
  by_verdict (granted sentence_ends) h w = found_here t h

  -- ---- as the code has it: j is what the judge answered

  module _ (j : Result Step Fault) (is : j ≡ step_of (taken_by (text_in l) k.tally k.marks (handed + 1))) where
    step_is : j ≡ step_of (taken ph [] line)
    step_is =
        is
        ∙ ap (λ (c : Tally). step_of (taken_by (text_in l) c k.marks (handed + 1))) g.tally_is
        ∙ ap step_of (taken_same file k.marks handed s g.known g.telling (text_in l))
        ∙ ap (λ (x : Text). step_of (taken ph [] x)) t.is

    turned : Turned j
    turned = subst Turned (sym step_is) (by_verdict (taken ph [] line) refl (node_taken s line))

    pub refused_none : (f : Fault) → j ≡ Err f → sought ≡ None
    refused_none f h = subst Turned h turned

    module _ (y : Step) (o : j ≡ Ok y) where
      pub ends_found : y ≡ steps.SentenceEnds → sought ≡ Some s
      ends_found h = subst Turned (o ∙ ap Ok h) turned

      pub goes_on : (y ≡ steps.SentenceEnds → ⊥) → Goes y
      goes_on = by y (subst Turned o turned)
        where
          by : (x : Step) → Turned (Ok x) → (x ≡ steps.SentenceEnds → ⊥) → Goes x
          by steps.Ignored w u = w
          by (steps.Format n) w u = absurd w
          by (steps.TableBegins n) w u = absurd w
          by (steps.Row r) w u = absurd w
          by steps.TableEnds w u = absurd w
          by (steps.SentenceBegins h) w u = absurd w
          by (steps.Word n) w u = w
          by (steps.Phrase n) w u = w
          by steps.SentenceEnds w u = absurd (u refl)
