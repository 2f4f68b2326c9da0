use Rattle.std.proofs.Common.{◌≡◌, ◌<◌, arith, length, drop, take, Some, None, length-drop, sym, ◌∙◌}
use Rattle.std.proofs.lemmas.List.{length-take-le}
use Rattle.pr_input.specs.Watched.{wrapped}
use Rattle.pr_cli.specs.StartSteps.{ShowsZero}
use Rattle.pr_cli.proofs.FirstRows.{before_all, before_grown, before_next, no_length, none_last, some_length, zero_at_end, zero_last, zero_none, zero_of_all, zero_told}
use Rattle.pr_cli.proofs.starts.table_zero.Goals as goal

pub lines-init : goal.lines-init
lines-init g c = record {
  within = omega arith;
  lines = omega (arith, c.new-reader.ensures.number);
  before = before_all c.args.trace c.args.first.now.items c.new-reader.result c.new-reader.ensures.read;
  more = λ whole h. h;
}

pub returns-in-Some-2-clause-zero : goal.returns-in-Some-2-clause-zero
returns-in-Some-2-clause-zero g c =
    let first = c.line_len.new.first.items in
    let inv = c.lines.invariant in
    let ends = rw c.in-Some.is at c.in_ok-len.ensures.line in
    let before = before_grown c.args.trace c.lines.first.items first c.lines.taken c.lines.reader inv.within c.in_ok-len.ensures.on inv.before in
    let shows : ShowsZero c.args.trace (take c.lines.taken first) (take c.in-Some.len (drop c.lines.taken first)) (Some c.in-Some-2.zero) c.lines.reader c.zero_shown.new.reader =
    rw (c.split_at.ensures.front, c.split_at.ensures.back, c.as_slice.ensures.value, c.in-Some-2.is) at c.in_ok-zero.ensures.zero in
    zero_of_all c.args.trace c.in-Some-2.zero (g.R.Read.remaining (wrapped c.args.input.now)) (g.R.Read.remaining (wrapped c.line_len.new.input)) c.args.first.now.items first
    (λ whole h. c.in_ok-len.ensures.more whole (inv.more whole h))
    (λ more is. zero_told c.args.trace first c.lines.taken c.in-Some.len c.in-Some-2.zero c.lines.reader c.zero_shown.new.reader ends.0 ends.1 before shows more)

pub lines-preserved : goal.lines-preserved
lines-preserved g c =
    let first = c.line_len.new.first.items in
    let inv = c.lines.invariant in
    let ends = rw c.in-Some.is at c.in_ok-len.ensures.line in
    let before = before_grown c.args.trace c.lines.first.items first c.lines.taken c.lines.reader inv.within c.in_ok-len.ensures.on inv.before in
    let shows : ShowsZero c.args.trace (take c.lines.taken first) (take c.in-Some.len (drop c.lines.taken first)) None c.lines.reader c.zero_shown.new.reader =
    rw (c.split_at.ensures.front, c.split_at.ensures.back, c.as_slice.ensures.value, c.in_default-2.is) at c.in_ok-zero.ensures.zero in
    let number = rw (c.split_at.ensures.back, c.as_slice.ensures.value) at c.in_ok-zero.ensures.number in
    record {
      within = omega (arith, ends.1, length-drop c.lines.taken first);
      lines = omega (arith, number, length-take-le c.in-Some.len (drop c.lines.taken first) (omega (arith, ends.1)), inv.lines);
      before = before_next c.args.trace first c.lines.taken c.in-Some.len c.lines.reader c.zero_shown.new.reader ends.0 ends.1 before shows;
      more = λ whole h. c.in_ok-len.ensures.more whole (inv.more whole h);
    }

pub returns-then-is_empty-clause-zero : goal.returns-then-is_empty-clause-zero
returns-then-is_empty-clause-zero g c =
    let first = c.line_len.new.first.items in
    let inv = c.lines.invariant in
    let ends = rw c.in_default.is at c.in_ok-len.ensures.line in
    let before = before_grown c.args.trace c.lines.first.items first c.lines.taken c.lines.reader inv.within c.in_ok-len.ensures.on inv.before in
    let none : length (drop c.lines.taken first) ≡ 0 = rw (c.split_at-2.ensures.back, c.as_slice-2.ensures.value) at (no_length _ (sym c.is_empty.ensures ∙ c.if-is_empty.true)) in
    zero_at_end c.args.trace 0 (g.R.Read.remaining (wrapped c.args.input.now)) (g.R.Read.remaining (wrapped c.line_len.new.input)) c.args.first.now.items first
    (λ whole h. c.in_ok-len.ensures.more whole (inv.more whole h)) ends.1 (zero_none c.args.trace first c.lines.taken c.lines.reader none before)

pub returns-in-Some-3-clause-zero : goal.returns-in-Some-3-clause-zero
returns-in-Some-3-clause-zero g c =
    let first = c.line_len.new.first.items in
    let inv = c.lines.invariant in
    let ends = rw c.in_default.is at c.in_ok-len.ensures.line in
    let before = before_grown c.args.trace c.lines.first.items first c.lines.taken c.lines.reader inv.within c.in_ok-len.ensures.on inv.before in
    let some : 0 < length (drop c.lines.taken first) = rw (c.split_at-2.ensures.back, c.as_slice-2.ensures.value) at (some_length _ (sym c.is_empty.ensures ∙ c.if-is_empty.false)) in
    let shows : ShowsZero c.args.trace (take c.lines.taken first) (drop c.lines.taken first) (Some c.in-Some-3.zero) c.lines.reader c.zero_shown-2.new.reader =
    rw (c.split_at-2.ensures.front, c.split_at-2.ensures.back, c.as_slice-2.ensures.value, c.in-Some-3.is) at c.in_ok-zero-2.ensures.zero in
    zero_at_end c.args.trace c.in-Some-3.zero (g.R.Read.remaining (wrapped c.args.input.now)) (g.R.Read.remaining (wrapped c.line_len.new.input)) c.args.first.now.items first
    (λ whole h. c.in_ok-len.ensures.more whole (inv.more whole h)) ends.1
    (zero_last c.args.trace first c.lines.taken c.in-Some-3.zero c.lines.reader c.zero_shown-2.new.reader some ends.0 before shows)

pub returns-clause-zero : goal.returns-clause-zero
returns-clause-zero g c =
    let first = c.line_len.new.first.items in
    let inv = c.lines.invariant in
    let ends = rw c.in_default.is at c.in_ok-len.ensures.line in
    let before = before_grown c.args.trace c.lines.first.items first c.lines.taken c.lines.reader inv.within c.in_ok-len.ensures.on inv.before in
    let some : 0 < length (drop c.lines.taken first) = rw (c.split_at-2.ensures.back, c.as_slice-2.ensures.value) at (some_length _ (sym c.is_empty.ensures ∙ c.if-is_empty.false)) in
    let shows : ShowsZero c.args.trace (take c.lines.taken first) (drop c.lines.taken first) None c.lines.reader c.zero_shown-2.new.reader =
    rw (c.split_at-2.ensures.front, c.split_at-2.ensures.back, c.as_slice-2.ensures.value, c.in-None.is) at c.in_ok-zero-2.ensures.zero in
    zero_at_end c.args.trace 0 (g.R.Read.remaining (wrapped c.args.input.now)) (g.R.Read.remaining (wrapped c.line_len.new.input)) c.args.first.now.items first
    (λ whole h. c.in_ok-len.ensures.more whole (inv.more whole h)) ends.1
    (none_last c.args.trace first c.lines.taken c.lines.reader c.zero_shown-2.new.reader some ends.0 before shows)
