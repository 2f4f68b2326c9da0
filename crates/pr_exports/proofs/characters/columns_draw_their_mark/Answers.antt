use Rattle.pr_dots.specs.Dots.{columns_of}
use Rattle.pr_exports.specs.Marks.{mark_by}
use Rattle.pr_exports.proofs.MarkColumns.{columns_drawn}
use Rattle.pr_exports.proofs.characters.columns_draw_their_mark.Goals as goal

pub returns : goal.returns
returns c = λ shapes other w low. columns_drawn other w.y w.x (columns_of shapes (mark_by w)) low
