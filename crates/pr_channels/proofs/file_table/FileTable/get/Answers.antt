use Rattle.pr_channels.proofs.TableLemmas.{named_is_file}
use Rattle.pr_channels.proofs.file_table.FileTable.get.Goals as goal

pub returns-clause-in_range : goal.returns-clause-in_range
returns-clause-in_range c = rw (c.find_file.ensures, c.as_slice.ensures.value) (named_is_file c.self.inside.files.items c.args.number c.self.invariant.1)
