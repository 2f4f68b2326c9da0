use Rattle.std.proofs.Common.{◌≡◌, ℕ, ◌+◌, ◌-◌, ◌*◌, ◌/◌, ◌^◌, ap, ◌∙◌}
use Rattle.pr_interpreter.proofs.DecimalLemmas.{sixteenths_found, sixteenths_large}
use Rattle.pr_interpreter.proofs.decimals.sixteenths.Goals as goal

pub returns-in-None : goal.returns-in-None
returns-in-None c =
    let exponent = ap (λ (k : ℕ). 5 ^ k) c.saturating_sub.ensures in
    let five : c.five.result ≡ 5 ^ (37 - c.args.place) = c.five.ensures.value ∙ exponent in
    let large = rw five at c.in-None.ensures in
    rw (← sixteenths_found c.args.end c.args.scale c.args.place)
    (sixteenths_large
    (c.args.end * 5 ^ (37 - c.args.place) * 2 ^ (c.args.scale + 41) / 2 ^ (c.args.place + 256))
    c.args.place large c.requires.place)
