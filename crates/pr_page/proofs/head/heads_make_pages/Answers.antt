use Rattle.pr_page.proofs.Growing.{HasMade-next}
use Rattle.pr_page.proofs.Making.{HasMade-page}
use Rattle.pr_page.proofs.head.heads_make_pages.Goals as goal

pub returns : goal.returns
returns c = record { pages = HasMade-page; next = HasMade-next }
