use Rattle.std.proofs.Common.{◌++◌, ◌∙◌, ap, append_assoc, codes, sym}
use Rattle.pr_render.specs.Sheets.{joined, picture_back, picture_front}
use Rattle.pr_render.specs.Svg.{notes_svg, picture_svg, sheet_room, sheet_svg, sheets_picas}
use Rattle.pr_render.specs.Words.{text_if}
use Rattle.pr_render.proofs.Blocks.{blocks-around}
use Rattle.pr_render.proofs.drawing.move_picture.Goals as goal

pub returns : goal.returns
unfolding picture_svg
returns c =
    let o = c.args.outcome in
    let d = c.args.drawn in
    let top = c.args.top in
    let picas = sheets_picas top o d in
    let front = picture_front c.args.shapes.now top o d in
    let four = text_if d.four (sheet_svg top 4 0 o.paper4) in
    let five = text_if d.five (sheet_svg top 5 (sheet_room d.four top o.paper4) o.paper5) in
    let two =
    c.in_ok-move_sheet_if-2.ensures
    ∙ ap (λ a. joined c.move_sheet_if.new.blocks.items ++ text_if d.five (sheet_svg top 5 a o.paper5)) c.sheet_room-above.ensures.room in
    let back =
    c.in_ok-push_back.ensures
    ∙ (ap (λ t. t ++ picture_back c.sheets_picas-picas.result o) c.new-back.ensures.items ∙ ap (λ p. picture_back p o) c.sheets_picas-picas.ensures.picas) in
    blocks-around c.args.blocks.now.items c.push.new.self.items c.move_sheet_if.new.blocks.items c.move_sheet_if-2.new.blocks.items c.push-2.new.self.items
    c.push_front.new.text c.push_back.new.text front four five (picture_back picas o) c.in_ok-push.ensures.items
    (c.in_ok-push_front.ensures ∙ ap (λ t. t ++ front) c.new-front.ensures.items) c.in_ok-move_sheet_if.ensures two c.in_ok-push-2.ensures.items back
    ∙ ap (λ t. joined c.args.blocks.now.items ++ t) (sym (append_assoc (front ++ four ++ five) (notes_svg picas o) (codes "</svg>\n")))
