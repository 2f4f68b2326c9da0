-- Linking words: the page, computed step by step. The law on `each_list_has_one_page` says that it is the one page of the inputs. No reader needs to believe them.
use Rattle.std.specs.Prelude.{List}
use Rattle.pr_page.specs.Steps.{start, state_after}
use Rattle.pr_page.specs.declared.input.Input.{Input}
use Rattle.pr_page.specs.declared.paper.Paper.{Paper}

-- the page of inputs
unfoldable pub page_of : List Input → Paper
page_of inputs = (state_after start inputs).sheet.paper
