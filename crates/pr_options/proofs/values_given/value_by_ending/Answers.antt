use Rattle.std.proofs.Common.{ap, sym, ◌∙◌, Bor, List, ℕ}
use Rattle.std.specs.Prelude.{option_map}
use Rattle.pr_options.proofs.CommandLemmas.{found_by}
use Rattle.pr_options.proofs.values_given.value_by_ending.Goals as goal

pub returns-in-Some : goal.returns-in-Some
returns-in-Some c = ap (option_map (λ (e : Bor (List ℕ) × Bor (List ℕ)). e.1.now)) c.in-Some.ensures ∙ sym (found_by c.args.name.now c.args.endings.now)

pub returns-in-None : goal.returns-in-None
returns-in-None c = ap (option_map (λ (e : Bor (List ℕ) × Bor (List ℕ)). e.1.now)) c.in-None.ensures ∙ sym (found_by c.args.name.now c.args.endings.now)
