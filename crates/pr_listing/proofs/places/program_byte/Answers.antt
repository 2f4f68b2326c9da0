use Rattle.std.proofs.Common.{ℕ, ap, sym, ◌∙◌, subst, arith, refl, inl, inr}
use Rattle.std.proofs.lemmas.List.{take_rest}
use Rattle.pr_listing.specs.Containers.{program_in}
use Rattle.pr_listing.specs.Places.{IsLineAt, byte_in_line}
use Rattle.pr_listing.specs.Program.{Line}
use Rattle.pr_listing.proofs.PlaceLemmas.{next_at, next_is, no_such_line, none_passed, passed-one_more}
use Rattle.pr_listing.proofs.places.program_byte.Goals as goal

pub lines-init : goal.lines-init
lines-init c = rw (take_rest c.program_in-program.result.now 2) (record {
  passed = none_passed (program_in c.args.file.now) c.program_in-program.result.now _ c.program_in-program.ensures (omega (arith, c.if-program-lt2.false)) refl;
  within = omega (arith, c.if-number-eq0.false);
})

pub returns-then-next-number : goal.returns-then-next-number
returns-then-next-number c = record {
  there = λ line at.
      let here = subst (λ (v : ℕ). IsLineAt (program_in c.args.file.now) v line) (sym c.if-next-number.true) at in
      c.byte_in_line.ensures ∙ ap (λ (v : Line). byte_in_line v c.args.place) (next_is _ _ _ c.lines.next _ line c.lines.invariant.passed c.in-Line.ensures.0 here);
  nowhere = λ none.
      let this : Line = record { number = c.in-Line.line; bytes = c.in-Line.bytes.now } in
      let here : IsLineAt (program_in c.args.file.now) c.lines.next this = next_at _ _ _ c.lines.next this c.lines.invariant.passed c.in-Line.ensures.0 in
      absurd (none this (subst (λ (v : ℕ). IsLineAt (program_in c.args.file.now) v this) c.if-next-number.true here));
}

pub lines-preserved : goal.lines-preserved
lines-preserved c = record {
  passed = passed-one_more _ _ _ _ _ c.lines.invariant.passed c.in-Line.ensures.0;
  within = omega (arith, c.lines.invariant.within, c.if-next-number.false);
}

pub returns-in-End-clause-there : goal.returns-in-End-clause-there
returns-in-End-clause-there c line at = absurd (no_such_line _ _ c.args.number c.lines.next line c.lines.invariant.passed (inl c.in-End.ensures) c.lines.invariant.within at)

pub returns-in-CutOff-clause-there : goal.returns-in-CutOff-clause-there
returns-in-CutOff-clause-there c line at = absurd (no_such_line _ _ c.args.number c.lines.next line c.lines.invariant.passed (inr c.in-CutOff.ensures) c.lines.invariant.within at)
