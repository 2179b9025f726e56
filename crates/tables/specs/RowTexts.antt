-- The texts of a row. Document 01, "The file from top to bottom": an origin's name and its comment behind two percent
-- signs; for WORDTAG a flag Y or N in front of the description.
use Rattle.std.specs.Prelude.{ℕ, Bool, not, ◌&&◌, ◌||◌, List, eqb, Option, None, Some}
use Rattle.rules.specs.Lists.{pick}
use Rattle.rules.specs.Texts.{Text, reads, trim, in_front, behind}
use Rattle.rules.specs.Columns.{Column, column}
use Rattle.rules.specs.Tables.{word_tags}
use Rattle.rules.specs.Rows.{yes, is_flag}
use Rattle.columns.specs.Listing.{span_of}
use Rattle.tables.specs.declared.origins.OriginTexts.{OriginTexts}

unfoldable pub origin_texts : List Column → OriginTexts
origin_texts cs =
    let rest = (column cs 0).after in
    record { name = span_of (trim (in_front rest)); note = span_of (trim (behind rest)) }

-- the column where the description starts
abbrev pub description_column : ℕ → ℕ
description_column table = pick (eqb table word_tags) 3 2

abbrev pub flag_of : Bool → Text → Option ℕ
flag_of flagged t = pick (not flagged || is_flag t) (Some (pick (flagged && reads yes t) 1 0)) None
