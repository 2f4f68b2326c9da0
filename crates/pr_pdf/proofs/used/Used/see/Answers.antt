use Rattle.std.proofs.Common.{rules, ◌≡◌, ◌∙◌, sym}
use Rattle.pr_pdf.proofs.Using.{seen_at}
use Rattle.pr_pdf.proofs.used.Used.see.Goals as goal

pub returns : goal.returns
returns c before is =
    let at : c.args.self.now ≡ c.self.inside.glyphs.items = search rules in
    seen_at c.self.inside.glyphs.items before c.args.mark c.number_of.result (sym at ∙ is) c.number_of.ensures.number
