-- The names, signs, ranges and limits that the reading uses are those that the grammar writes out, and the texts quoted in
-- both are the bytes that they look like. By computing.
use Prim.Native.Nat.{ℕ}
use mathlib.Core.Path.{◌≡◌, refl}
use mathlib.Core.List.{[], ◌∷◌}
use Rattle.rules.specs.Lists.{bytes, counting}
use Rattle.rules.specs.Bytes.{newline, percents}
use Rattle.rules.specs.Numbers.{sentence_number, origin_id, date, format_number, phrase_number, file_limit, line_limit, row_limit, word_limit, edge_limit}
use Rattle.rules.specs.Tables.{origins, editors, word_tags, morph_tags, node_tags, edge_tags, sec_edge_tags, table_names, dashes, unknown, tag_limit}
use Rattle.rules.specs.GrammarNumbers.{sentence_range, origin_range, date_range, format_range, phrase_range, file_bytes, line_bytes, table_rows, sentence_words, sentence_edges, tag_bytes}
use Rattle.rules.specs.GrammarNames.{end_of_line, comment_sign, no_tag, unknown_tag, titles, of_origin, of_editor, of_wordtag, of_morphtag, of_nodetag, of_edgetag, of_secedgetag}
use Rattle.rules.proofs.NumeralsAsSaid.{range_of_kind}

pub record NamesSaid : Type 0 where
  pub letters : bytes "ABCDEFGHIJKLMNOPQRSTUVWXYZ" ≡ counting 65 26
  pub signs : bytes "#%-1" ≡ 35 ∷ 37 ∷ 45 ∷ 49 ∷ []
  pub line_end : newline ≡ end_of_line
  pub comment_sign_lem : percents ≡ comment_sign
  pub no_tag_lem : dashes ≡ no_tag
  pub unknown_tag_lem : unknown ≡ unknown_tag
  pub names : table_names ≡ titles
  pub origin_place : origins ≡ of_origin
  pub editor_place : editors ≡ of_editor
  pub wordtag_place : word_tags ≡ of_wordtag
  pub morphtag_place : morph_tags ≡ of_morphtag
  pub nodetag_place : node_tags ≡ of_nodetag
  pub edgetag_place : edge_tags ≡ of_edgetag
  pub secedgetag_place : sec_edge_tags ≡ of_secedgetag

pub names_said : NamesSaid
names_said =
    record {
      letters = refl;
      signs = refl;
      line_end = refl;
      comment_sign_lem = refl;
      no_tag_lem = refl;
      unknown_tag_lem = refl;
      names = refl;
      origin_place = refl;
      editor_place = refl;
      wordtag_place = refl;
      morphtag_place = refl;
      nodetag_place = refl;
      edgetag_place = refl;
      secedgetag_place = refl;
    }

pub record LimitsSaid : Type 0 where
  pub sentence_numbers : range_of_kind sentence_number ≡ sentence_range
  pub origin_ids : range_of_kind origin_id ≡ origin_range
  pub dates : range_of_kind date ≡ date_range
  pub formats : range_of_kind format_number ≡ format_range
  pub phrases : range_of_kind phrase_number ≡ phrase_range
  pub file : file_limit ≡ file_bytes
  pub line : line_limit ≡ line_bytes
  pub rows : row_limit ≡ table_rows
  pub words : word_limit ≡ sentence_words
  pub edges : edge_limit ≡ sentence_edges
  pub tags : (which : ℕ) → tag_limit which ≡ tag_bytes which

pub limits_said : LimitsSaid
limits_said =
    record {
      sentence_numbers = refl;
      origin_ids = refl;
      dates = refl;
      formats = refl;
      phrases = refl;
      file = refl;
      line = refl;
      rows = refl;
      words = refl;
      edges = refl;
      tags = λ which. refl;
    }
