use Rattle.std.proofs.Common.{◌≡◌, ap, ◌∙◌, rules}
use Rattle.arrayvec.proofs.ArrayVecLemmas.{filter-from_retain}
use Rattle.pr_channels.specs.Files.{without_file}
use Rattle.pr_channels.proofs.TableLemmas.{table_filter, each_filter, named-without}
use Rattle.pr_channels.proofs.file_table.FileTable.close.Goals as goal

-- what the table keeps
kept : (c : goal.After-retain) → c.retain.new.self.items ≡ without_file c.args.number c.self.inside.files.items
kept c = filter-from_retain _ _ _ (λ x b f' y called. search rules) _ _ c.retain.ensures.filtered

pub invariant_of-self : goal.invariant_of-self
invariant_of-self c = rw (kept c) (table_filter _ c.self.inside.files.items c.self.invariant.0, each_filter _ c.self.inside.files.items c.self.invariant.1)

pub returns-clause-value : goal.returns-clause-value
returns-clause-value c = kept c ∙ ap (without_file c.args.number) c.self.view_is

pub returns-clause-map : goal.returns-clause-map
returns-clause-map c = λ n. rw (kept c, ← c.self.view_is) (named-without c.args.number n c.self.inside.files.items)
