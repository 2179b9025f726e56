-- Fields that a quick look finds in order. Document 01, "The file from top to bottom": a tag has its length and stands in its
-- table; a parent other than the root is 500 to 999.
use Rattle.std.specs.Prelude.{ℕ, ◌≤◌, ◌≡◌, true, false, List, Some}
use Rattle.rules.specs.Bytes.{percents}
use Rattle.rules.specs.Texts.{Text, reads, at_most}
use Rattle.rules.specs.Columns.{Column, written}
use Rattle.rules.specs.Numbers.{phrase_number, parent_number}
use Rattle.rules.specs.Tables.{Tables, morph_tags, edge_tags, known, tag_limit}

-- a tag that no rule refuses
pub record PlainTag (ts : Tables) (table : ℕ) (t : Text) : Type 0 where
  pub field : reads percents t ≡ false
  pub short : at_most (tag_limit table) t ≡ true
  pub listed : known ts table t ≡ true

-- the columns behind the first of a line with one parent
pub record PlainFields (ts : Tables) (tags : ℕ) (cs : List Column) (its_parent : ℕ) : Type 0 where
  pub tag : PlainTag ts tags (written cs 1)
  pub morphology : PlainTag ts morph_tags (written cs 2)
  pub edge : PlainTag ts edge_tags (written cs 3)
  pub parent : parent_number (written cs 4).bytes ≡ Some its_parent
  pub phrase : phrase_number.lowest ≤ its_parent
