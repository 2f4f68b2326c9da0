use Rattle.std.proofs.Common.{◌≡◌, None, ap, sym, ◌∙◌}
use Rattle.pr_channels.specs.Files.{Files, file_at}
use Rattle.pr_channels.specs.Table.{IsFile}
use Rattle.pr_channels.proofs.TableLemmas.{named_none, table_push, each_push, named-push}
use Rattle.pr_channels.proofs.file_table.FileTable.open.Goals as goal

-- the number is new
absent : (c : goal.After-push) → file_at c.self.inside.files.items c.args.number ≡ None
absent c = sym (c.find_file.ensures ∙ ap (λ (files : Files). file_at files c.args.number) c.as_slice.ensures.value) ∙ named_none c.find_file.result c.if-is_some.ensures

pub invariant_of-self : goal.invariant_of-self
invariant_of-self c =
    let one : IsFile _ = record { number = c.if-number-eq0.false; low = c.requires.low; high = c.requires.high; second = c.requires.second } in
    rw c.push.ensures.items (
      table_push c.self.inside.files.items _ c.self.invariant.0 (absent c) (sym c.if-is_full.ensures.value),
      each_push _ c.self.inside.files.items c.self.invariant.1 one,
    )

pub returns-clause-map : goal.returns-clause-map
returns-clause-map c = λ n. rw (c.push.ensures.items, ← c.self.view_is) (named-push c.self.inside.files.items _ n (absent c))
