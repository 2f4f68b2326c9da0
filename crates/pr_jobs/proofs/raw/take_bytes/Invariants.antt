use Rattle.std.proofs.Common.{◌≡◌, ◌+◌, ◌++◌, List, take}
use Rattle.std.specs.Prelude.{map}
use Rattle.pr_page.specs.declared.input.Input.{Input}
use Rattle.pr_page.specs.declared.input.Input.TheVariants.{Byte}
use Rattle.pr_page.specs.Taken.{HasTaken, number_taken}
use Rattle.pr_jobs.proofs.raw.take_bytes.Given as goal

-- the bytes so far are taken
abbrev pub invariant-loop-byte : goal.invariant-loop-byte
invariant-loop-byte l = record {
  taken : (before : List Input) → HasTaken before l.fn.printer → HasTaken (before ++ map Byte (take l.byte-index l.bytes)) l.printer;
  count : number_taken l.printer ≡ number_taken l.fn.printer + l.byte-index;
}
