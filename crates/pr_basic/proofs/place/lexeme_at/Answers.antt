use Rattle.std.proofs.Common.{◌≡◌, ◌<◌, arith, ap, false, get_or, length, rules}
use Rattle.pr_basic.specs.Lexemes.{is_space}
use Rattle.pr_basic.specs.Lexing.{Front}
use Rattle.pr_basic.proofs.LinesAt.{first_no_space, lexeme_here}
use Rattle.pr_basic.proofs.place.lexeme_at.Goals as goal

pub returns : goal.returns
returns c =
    let some : 0 < length c.args.bytes.now = grind arith in
    let none : is_space (get_or c.args.bytes.now 0 0) ≡ false = search rules in
    lexeme_here _ _ (first_no_space _ some none) some (ap (λ (f : Front). f.1) c.front-size.ensures.lexeme)
