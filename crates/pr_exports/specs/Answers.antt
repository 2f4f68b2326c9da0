-- Trusted: the answer of a call with numbers.
use Rattle.std.specs.Prelude.{ℕ, Some, None}
use Rattle.pr_cli.specs.Statuses.{status_of}
use Rattle.pr_cli.specs.declared.statuses.End.{End}
use Rattle.pr_cli.specs.declared.statuses.End.TheVariants.{Job}
use Rattle.pr_exports.specs.Faults.{numbers_of}
use Rattle.pr_exports.specs.declared.answer.Answer.{Answer}
use Rattle.pr_exports.specs.declared.answer.TextGiven.{TextGiven}
use Rattle.pr_exports.specs.declared.answer.TextGiven.TheVariants.{Written, TooSmall, Refused}

-- an answer without a fault
abbrev pub plain : (code length : ℕ) → Answer
plain code length = record { code = code; fault = 0; place = 0; length = length }

-- the refusal of a number that means no setting or no input, with its place
abbrev pub refusal : (fault place : ℕ) → Answer
refusal fault place = record { code = 2; fault = fault; place = place; length = 0 }

-- where a task of the program ends so: its exit status, and the numbers of its fault, with the column in the place of a length
abbrev pub ended : End → Answer
ended end =
    record {
      code = status_of end;
      fault = (numbers_of end).0;
      place = (numbers_of end).1;
      length = (numbers_of end).2;
    }

-- an outcome as numbers; with a fault of an input comes the length of the text before it
abbrev pub answer_of : TextGiven → Answer
answer_of (Written None n) = plain 0 n
answer_of (Written (Some fault) n) = record (ended (Job fault)) { length = n }
answer_of (TooSmall n) = plain 4 n
answer_of (Refused fault) = ended (Job fault)
