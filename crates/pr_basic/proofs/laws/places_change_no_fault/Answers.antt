use Rattle.pr_basic.proofs.FaultsAlone.{places_change_none}
use Rattle.pr_basic.proofs.laws.places_change_no_fault.Goals as goal

pub returns : goal.returns
returns c = places_change_none
