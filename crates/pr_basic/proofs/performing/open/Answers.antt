use Rattle.std.proofs.Common.{ℕ, Option, ◌∷◌, [], ◌++◌, ap, ◌∙◌}
use Rattle.pr_channels.specs.Files.{open_stop}
use Rattle.pr_basic.proofs.EffectLemmas.{opening_gives}
use Rattle.pr_basic.proofs.PrintingLemmas.{laws_of}
use Rattle.pr_basic.proofs.performing.open.Goals as goal

pub returns-in-Ok-clause-ok : goal.returns-in-Ok-clause-ok
returns-in-Ok-clause-ok g c working channel =
    let old = c.args.channels.now in
    opening_gives (laws_of c.elements_add_up.ensures.two_parts c.elements_add_up.ensures.none) (open_stop old.files c.args.file) _ channel old c.open_file.new.self working c.in-Ok.ensures.ok.0
    (c.in-Ok.ensures.ok.1
    ∙ ap (λ (d : ℕ). record old { files = old.files ++ record { number = c.args.file; device = d; second = c.number_of_second-second_number.result } ∷ [] }) c.get.ensures.number
    ∙ ap (λ (s : Option ℕ). record old { files = old.files ++ record { number = c.args.file; device = c.args.device; second = s } ∷ [] }) c.number_of_second-second_number.ensures.same)
