use Rattle.std.proofs.Common.{◌≡◌, ◌++◌, ◌∙◌, [], ◌∷◌, false, replicate, ap, append_assoc}
use Rattle.pr_render.specs.Plain.{empty_column, line_text, painted, showing, trimmed, written}
use Rattle.pr_render.proofs.columns.push_line.Goals as goal

pub returns : goal.returns
unfolding line_text
returns c =
    let look = c.args.look in
    let before = c.args.text.now.items in
    let empty : c.showing-empty.result ≡ empty_column = c.showing-empty.ensures ∙ ap (λ s. showing s) c.sign_of.ensures in
    let columns : c.paint.new.columns ≡ painted look (replicate 80 empty_column) c.args.marks.now =
    c.paint.ensures ∙ ap (λ e. painted look (replicate 80 e) c.args.marks.now) empty in
    let written_all = c.in_ok-push_columns.ensures ∙ ap (λ cs. before ++ written look false (trimmed 0 cs)) columns in
    c.in_ok-push.ensures.items
    ∙ (ap (λ t. t ++ 10 ∷ []) written_all
    ∙ append_assoc before (written look false (trimmed 0 (painted look (replicate 80 empty_column) c.args.marks.now))) (10 ∷ []))
