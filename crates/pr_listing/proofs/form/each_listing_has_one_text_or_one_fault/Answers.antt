use Rattle.pr_listing.proofs.FormLemmas.{not_both, one_fault, one_list, one_text}
use Rattle.pr_listing.proofs.form.each_listing_has_one_text_or_one_fault.Goals as goal

pub returns-clause-one_text : goal.returns-clause-one_text
returns-clause-one_text c = one_text

pub returns-clause-one_list : goal.returns-clause-one_list
returns-clause-one_list c = one_list c.each_text_is_a_script_or_has_one_fault.ensures.one_list

pub returns-clause-one_fault : goal.returns-clause-one_fault
returns-clause-one_fault c = one_fault

pub returns-clause-not_both : goal.returns-clause-not_both
returns-clause-not_both c = not_both
