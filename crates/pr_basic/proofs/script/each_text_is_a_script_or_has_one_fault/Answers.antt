use Rattle.pr_basic.proofs.ReadScript.{not_both, one_fault, one_list, one_of_both, one_place}
use Rattle.pr_basic.proofs.script.each_text_is_a_script_or_has_one_fault.Goals as goal

pub returns-clause-one_list : goal.returns-clause-one_list
returns-clause-one_list c = one_list

pub returns-clause-one_fault : goal.returns-clause-one_fault
returns-clause-one_fault c = one_fault

pub returns-clause-one_place : goal.returns-clause-one_place
returns-clause-one_place c = one_place

pub returns-clause-one_of_both : goal.returns-clause-one_of_both
returns-clause-one_of_both c = one_of_both

pub returns-clause-not_both : goal.returns-clause-not_both
returns-clause-not_both c = not_both
