use Rattle.pr_interpreter.proofs.ExactLemmas.{forms_are_kept}
use Rattle.pr_interpreter.proofs.MadeLemmas.{magnitudes_are_certain, whole_numbers_are_exact}
use Rattle.pr_interpreter.proofs.NumberLemmas.{products_are_certain, quotients_are_certain}
use Rattle.pr_interpreter.proofs.OrderLemmas.{negation_is_certain, orders_are_certain}
use Rattle.pr_interpreter.proofs.PowerLawLemmas.{powers_are_certain, roots_are_certain}
use Rattle.pr_interpreter.proofs.SumLemmas.{sums_are_certain}
use Rattle.pr_interpreter.proofs.WholeLemmas.{wholes_are_certain}
use Rattle.pr_interpreter.proofs.laws.calculations_are_certain.Goals as goal

pub returns-clause-sums : goal.returns-clause-sums
returns-clause-sums c = sums_are_certain

pub returns-clause-products : goal.returns-clause-products
returns-clause-products c = products_are_certain

pub returns-clause-quotients : goal.returns-clause-quotients
returns-clause-quotients c = quotients_are_certain

pub returns-clause-negation : goal.returns-clause-negation
returns-clause-negation c = negation_is_certain

pub returns-clause-orders : goal.returns-clause-orders
returns-clause-orders c = orders_are_certain

pub returns-clause-wholes : goal.returns-clause-wholes
returns-clause-wholes c = wholes_are_certain

pub returns-clause-forms : goal.returns-clause-forms
returns-clause-forms c = forms_are_kept

pub returns-clause-magnitudes : goal.returns-clause-magnitudes
returns-clause-magnitudes c = magnitudes_are_certain

pub returns-clause-exact : goal.returns-clause-exact
returns-clause-exact c = whole_numbers_are_exact

pub returns-clause-roots : goal.returns-clause-roots
returns-clause-roots c = roots_are_certain

pub returns-clause-powers : goal.returns-clause-powers
returns-clause-powers c = powers_are_certain
