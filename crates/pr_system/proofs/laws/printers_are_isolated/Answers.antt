use Rattle.pr_system.proofs.IsolationLemmas.{isolation, isolated_pages}
use Rattle.pr_system.proofs.laws.printers_are_isolated.Goals as goal

pub returns-clause-hearing : goal.returns-clause-hearing
returns-clause-hearing c = isolation (record {
  bus = record {
    one_more = c.elements_send_items.ensures.one_more;
    held = c.elements_send_items.ensures.held;
    two_parts = c.elements_send_items.ensures.two_parts;
    listener = c.items_make_listeners.ensures;
    later = c.answers_add_up.ensures.later;
    lacking = c.answers_add_up.ensures.two_parts;
    heard = c.hearing_is_local.ensures.two_parts;
    uncalled = c.hearing_is_local.ensures.uncalled;
  };
  missing = c.stops_are_exact.ensures.missing;
  one_more = c.tables_stay_tables.ensures.one_more;
  some = c.tables_stay_tables.ensures.some;
  openable = c.tables_stay_tables.ensures.openable;
})

pub returns-clause-pages : goal.returns-clause-pages
returns-clause-pages c = isolated_pages (returns-clause-hearing c) c.each_list_has_one_page.ensures.only

pub returns-clause-delays : goal.returns-clause-delays
returns-clause-delays c = λ left_out mode present delays others statements all rest addressed goes_on one two.
    returns-clause-pages c left_out mode present statements all rest addressed goes_on one.headline two.headline
