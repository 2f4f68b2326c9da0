use Rattle.std.proofs.Common.{◌≡◌, ◌+◌, ◌++◌}
use Rattle.std.specs.Prelude.{flat_map}
use Rattle.pr_pdf.specs.Fonts.{glyph_object, proc_pdf, used_among}
use Rattle.pr_pdf.proofs.glyphs.push_procs.Given as goal

-- the text so far, and the next glyph's object
abbrev pub invariant-loop-place : goal.invariant-loop-place
invariant-loop-place l = record {
  text : l.text.items ≡ l.fn.text.items ++ flat_map (proc_pdf l.used) (used_among l.used l.first l.place);
  next : l.next ≡ glyph_object l.used (l.first + l.place);
}
