use Rattle.std.proofs.Common.{◌≡◌, ◌+◌, ◌≤◌, take, length}
use Rattle.pr_channels.specs.Seen.{KeepsBus}
use Rattle.pr_basic.specs.Performing.{printing, IsWorking, ChangesScreenAlone}
use Rattle.pr_basic.proofs.performing.print_bytes.Given as goal

abbrev pub invariant-loop-byte : goal.invariant-loop-byte
invariant-loop-byte g l = record {
  printed : IsWorking l.fn.channels → l.channels ≡ printing (take l.byte-index l.bytes) l.fn.channels;
  failed : l.channels.failed ≡ l.fn.channels.failed;
  room : length l.channels.sent ≤ length l.fn.channels.sent + l.byte-index;
  keeps : KeepsBus l.fn.channels l.channels;
  output : l.channels.output ≡ l.fn.channels.output;
  screen : l.fn.channels.output ≤ 3 → ChangesScreenAlone l.fn.channels l.channels;
}
