-- A writing as it is called: what it answers and leaves; demand 2, of what a granted one has written; and what two writings of
-- one file have in common.
use Rattle.std.specs.Prelude.{ℕ, ◌≡◌, List, take, drop}
use Rattle.rules.specs.Writing.{tidy_of}
use Rattle.writing.specs.declared.Written.{Written}
use Rattle.demands.specs.Surveying.{Surveying}
use Rattle.written_demands.specs.Tidying.{TidyAlike}

-- refusal, place and length written, and what each lent buffer then holds
pub record TextLeft : Type 0 where
  pub refusal : ℕ
  pub place : ℕ
  pub written : ℕ
  pub tables : List ℕ
  pub seen : List ℕ
  pub sheet : List ℕ
  pub edges : List ℕ
  pub output : List ℕ

abbrev pub text_left : Written → List ℕ → List ℕ → List ℕ → List ℕ → List ℕ → TextLeft
text_left r tables seen sheet edges output =
    record {
      refusal = r.refusal;
      place = r.place;
      written = r.length;
      tables = tables;
      seen = seen;
      sheet = sheet;
      edges = edges;
      output = output;
    }

-- a writing of the file into an output, and the survey of the bytes written: the tidy text with the rest of the output behind
-- it, accepted with the same tables and sentences, and both calls leave the same seen set
pub record ReadBack (file output : List ℕ) (o : TextLeft) (again : Surveying) : Type 0 where
  pub text : take o.written o.output ≡ tidy_of file
  pub rest : drop o.written o.output ≡ drop o.written output
  pub alike : TidyAlike file again
  pub seen : again.seen_left ≡ o.seen

-- two writings, each into an output of its own: the same answer, buffers and bytes written, and behind these as lent
pub record SameWritten (output output2 : List ℕ) (o p : TextLeft) : Type 0 where
  pub refusal : o.refusal ≡ p.refusal
  pub place : o.place ≡ p.place
  pub written : o.written ≡ p.written
  pub tables : o.tables ≡ p.tables
  pub seen : o.seen ≡ p.seen
  pub sheet : o.sheet ≡ p.sheet
  pub edges : o.edges ≡ p.edges
  pub text : take o.written o.output ≡ take p.written p.output
  pub rest : drop o.written o.output ≡ drop o.written output
  pub rest2 : drop p.written p.output ≡ drop p.written output2
