use Rattle.pr_wire.proofs.TextLaws.{read_back, text_once, bad_none, says_once, says_some}
use Rattle.pr_wire.proofs.text.trace_texts.Goals as goal

pub returns : goal.returns
returns c = record {
  read_back = read_back;
  once = record { edges = text_once; bad = bad_none; says = says_once };
  some = says_some;
}
