use Rattle.std.proofs.Common.{◌≡◌, ◌++◌, drop}
use Rattle.std.specs.Prelude.{flat_map, map}
use Rattle.pr_dots.specs.Dots.{columns_dots}
use Rattle.pr_pdf.specs.Fonts.{disc_pdf, glyph_disc}
use Rattle.pr_pdf.proofs.glyphs.push_columns.Given as goal

-- the text so far and the discs of what is left make the whole
abbrev pub invariant-loop-value : goal.invariant-loop-value
invariant-loop-value l = record {
  text : l.text.items ++ flat_map disc_pdf (map glyph_disc (columns_dots l.x 0 (drop l.value-index l.columns)))
      ≡ l.fn.text.items ++ flat_map disc_pdf (map glyph_disc (columns_dots 0 0 l.columns));
  at : l.x ≡ l.value-index;
}
