-- What a line of five columns says of its node, if none of them is %%: no secondary edges, no comment. Document 01, "The file
-- from top to bottom".
use Rattle.std.specs.Prelude.{ℕ, List}
use Rattle.rules.specs.Columns.{Column, written}
use Rattle.columns.specs.Listing.{span_of, no_span}
use Rattle.columns.specs.declared.listing.Span.{Span}
use Rattle.steps.specs.declared.NodeSaid.{NodeSaid}

-- the columns, where the word stands, the node's number, its parent
abbrev pub plain_said : List Column → Span → ℕ → ℕ → NodeSaid
plain_said cs word its_number its_parent =
    record {
      word = word;
      tag = span_of (written cs 1);
      morphology = span_of (written cs 2);
      edge = span_of (written cs 3);
      comment = no_span;
      number = its_number;
      parent = its_parent;
      edges = 0;
      highest = its_parent;
    }
