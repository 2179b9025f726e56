-- A #BOS line judged by itself: what is granted behind tables and sentences is granted, and what is granted is a line that may
-- stand, with the rules of how it is written. From its rules, one by one.
use Prim.Native.Nat.{ℕ}
use mathlib.Core.Path.{◌≡◌, refl, sym, ap, ◌∙◌}
use mathlib.Core.Bool.{Bool, true, false, not, ◌&&◌}
use mathlib.Core.List.{List, ◌∷◌, ◌++◌}
use lib.ListN.{length}
use lib.Dec.{leb}
use borrow.Author.Tests.{le-leb, leb-true}
use Rattle.rules.specs.Lists.{pick, bytes, every, empty}
use Rattle.rules.specs.Bytes.{legal, ignored}
use Rattle.rules.specs.Texts.{Text, no_text, reads}
use Rattle.rules.specs.Columns.{Column, goes_on, columns, written}
use Rattle.rules.specs.Numbers.{line_limit}
use Rattle.rules.specs.Rules.{rule, granted}
use Rattle.rules.specs.Tables.{Tables}
use Rattle.rules.specs.Sentences.{Heading, heading_written, heading_in, heading_cites}
use Rattle.rules.specs.Keywords.{first_column}
use Rattle.rules.specs.SentenceFrom.{heading_alone}
use Rattle.rules.proofs.Conjunctions.{and_left, and_right, and_both, every_front}
use Rattle.rules.proofs.Same.{same_eq}
use Rattle.rules.proofs.RuleLaws.{holds_of, granted_holds, holds_granted}
use Rattle.rules.proofs.PrintedLines.{solid}
use Rattle.rules.proofs.AnyLine.{solid_column, columns_solid, begun_by}
use Rattle.rules.proofs.LineFit.{LineFit, ignored_first}
use Rattle.rules.proofs.FirstColumns.{reads_given}
use Rattle.rules.proofs.Steps.{first_goes, goes_black}

-- a line whose first column is a keyword isn't ignored
begun_seen : (line : Text) (word : List ℕ) → goes_on line.bytes ≡ true → ignored word ≡ false → reads word (first_column line) ≡ true → ignored line.bytes ≡ false
unfolding first_column
begun_seen line word starts i e =
    let b = begun_by line.start line.bytes starts in
    let c = b.first.text.bytes in
    let column : first_column line ≡ b.first.text =
    ap (λ (t : Bool). pick t no_text (written (columns line) 0)) (goes_black line.bytes starts) ∙ ap (λ (cs : List Column). written cs 0) b.form in
    let its : c ≡ word = ap (λ (t : Text). t.bytes) (sym column) ∙ same_eq (first_column line).bytes word e in
    let every_solid = sym (ap (every solid_column) b.form) ∙ columns_solid line.start line.bytes in
    ap ignored b.whole ∙ ignored_first c b.first.after.bytes (and_left (solid c) (every solid_column b.others) every_solid) b.ends ∙ ap ignored its ∙ i

pub keyword_seen : (line : Text) (word : List ℕ) → not (empty word) ≡ true → ignored word ≡ false → reads word (first_column line) ≡ true
    → ignored line.bytes ≡ false
unfolding first_column
keyword_seen line word g i e = begun_seen line word (first_goes line.start line.bytes (reads_given word (first_column line) g e)) i e

pub bos_seen : ignored (bytes "#BOS") ≡ false
unfolding ignored
bos_seen = refl

module _ (line : Text) where
  pub written_alone : LineFit line.bytes → reads (bytes "#BOS") (first_column line) ≡ true → every holds_of (heading_written line) ≡ true
      → heading_alone line ≡ granted (heading_in line)
  unfolding heading_alone
  written_alone f e h =
      holds_granted _ (heading_in line)
      (and_both (every legal line.bytes) _ f.lawful
      (and_both (leb (length line.bytes) line_limit) _ (le-leb (length line.bytes) line_limit f.short)
      (and_both (reads (bytes "#BOS") (first_column line)) _ e h)))

  pub heading_alone_lem : LineFit line.bytes → reads (bytes "#BOS") (first_column line) ≡ true → (ts : Tables) (used : ℕ → Bool)
      → every holds_of (heading_written line ++ heading_cites ts used line) ≡ true → heading_alone line ≡ granted (heading_in line)
  heading_alone_lem f e ts used h = written_alone f e (every_front holds_of (heading_written line) (heading_cites ts used line) h)

  pub record Alone (h : Heading) : Type 0 where
    pub fit : LineFit line.bytes
    pub keyword : reads (bytes "#BOS") (first_column line) ≡ true
    pub written : every holds_of (heading_written line) ≡ true
    pub heading : heading_in line ≡ h

  pub alone_heading : (h : Heading) → heading_alone line ≡ granted h → Alone h
  unfolding heading_alone
  alone_heading h e =
      let k = granted_holds (rule 4 line (every legal line.bytes) ∷ rule 5 line (leb (length line.bytes) line_limit) ∷ rule 6 line (reads (bytes "#BOS") (first_column line)) ∷ heading_written line) (heading_in line) h e in
      let a = every legal line.bytes in
      let b = leb (length line.bytes) line_limit in
      let c = reads (bytes "#BOS") (first_column line) in
      let d = every holds_of (heading_written line) in
      let behind = and_right a (b && (c && d)) k.0 in
      let keyed = and_right b (c && d) behind in
      record {
        fit =
            record {
              lawful = and_left a (b && (c && d)) k.0;
              short = leb-true (length line.bytes) line_limit (and_left b (c && d) behind);
              seen = keyword_seen line (bytes "#BOS") refl bos_seen (and_left c d keyed);
            };
        keyword = and_left c d keyed;
        written = and_right c d keyed;
        heading = k.1;
      }
