-- Trusted: the states of a run.
use Rattle.std.specs.Prelude.{ℕ, Bool, true, false, List, [], Option, None}
use Rattle.pr_interpreter.specs.declared.memory.Arrays.{Arrays}
use Rattle.pr_interpreter.specs.declared.memory.Function.{Function}
use Rattle.pr_interpreter.specs.declared.memory.Variable.{Variable}
use Rattle.pr_interpreter.specs.Memory.{no_arrays}
use Rattle.pr_run.specs.declared.opened.Open.{Open}
use Rattle.pr_run.specs.declared.place.Place.{Place}
use Rattle.pr_run.specs.Places.{after_line}

-- A state of a run: the place of the next statement (while a statement is performed, that is the one after it); the
-- variables, the arrays and the functions, and how many bytes strings take; the loops and calls that are open, the last
-- first; how many items of DATA were read; the numbers of the open files; the number of the file that has the output, 0
-- for the screen; whether all that is on the screen ends with a return; whether something was sent to a file; and the
-- number of the line of the first POKE that was left out.
pub record State : Type 0 where
  pub place : Place
  pub variables : List Variable
  pub arrays : Arrays
  pub functions : List Function
  pub strings : ℕ
  pub opened : List Open
  pub items_read : ℕ
  pub files : List ℕ
  pub channel : ℕ
  pub at_left : Bool
  pub has_sent : Bool
  pub skipped_poke : Option ℕ

-- no variable has a value, and nothing is open, from a place on
abbrev pub cleared : State → State
cleared s =
    record s { variables = []; arrays = no_arrays; functions = []; strings = 0; opened = []; items_read = 0 }

-- the next line is next
abbrev pub next_line : State → State
next_line s = record s { place = after_line s.place }

-- before the first statement
abbrev pub first_state : State
first_state = record {
  place = record { line = 0; statement = 0 };
  variables = [];
  arrays = no_arrays;
  functions = [];
  strings = 0;
  opened = [];
  items_read = 0;
  files = [];
  channel = 0;
  at_left = true;
  has_sent = false;
  skipped_poke = None;
}
