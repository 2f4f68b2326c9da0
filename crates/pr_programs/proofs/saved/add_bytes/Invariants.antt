use Rattle.std.proofs.Common.{◌≡◌, ◌++◌, drop}
use Rattle.pr_programs.specs.Saved.{bytes_text}
use Rattle.pr_programs.specs.declared.saved.Mode.TheVariants.{Plain}
use Rattle.pr_programs.proofs.saved.add_bytes.Given as goal

-- the text so far and that of the bytes that are left are the whole
abbrev pub invariant-loop-b : goal.invariant-loop-b
invariant-loop-b l =
    l.text.items ++ bytes_text l.mode (drop l.b-index l.bytes) ≡ l.initial.text.items ++ bytes_text Plain l.bytes
