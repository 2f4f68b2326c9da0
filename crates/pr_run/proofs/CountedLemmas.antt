use Rattle.std.proofs.Common.{inr, ℕ, zero, suc, ◌+◌, ◌==◌, ◌||◌, Bool, true, false, arith, refl, sym, subst, List}
use Rattle.std.proofs.Common.{[], ◌∷◌, ◌++◌, take, drop, nat_le, nat_lt, Option, Some, None, Ok, Err, IfOk}
use Rattle.pr_basic.specs.declared.statement.Statement.{Statement as Written}
use Rattle.pr_basic.specs.declared.statement.Statement.TheVariants.{Cmd, OpenFile, Print as Printed, PrintTo}
use Rattle.pr_interpreter.specs.declared.expressions.Placed.{Placed}
use Rattle.pr_interpreter.specs.declared.memory.Array.{Array}
use Rattle.pr_interpreter.specs.declared.memory.Function.{Function}
use Rattle.pr_interpreter.specs.declared.names.Kind.{Kind}
use Rattle.pr_interpreter.specs.declared.names.Kind.TheVariants.{Number as Numeric, Text as Letters, Whole as Short}
use Rattle.pr_interpreter.specs.declared.names.Name.{Name}
use Rattle.pr_interpreter.specs.declared.statements.Item.{Item}
use Rattle.pr_interpreter.specs.declared.statements.Part.{Part}
use Rattle.pr_interpreter.specs.declared.statements.Part.TheVariants.{Comma, Semicolon, Spaces, Tab, Value as Shows}
use Rattle.pr_interpreter.specs.declared.statements.Statement.{Statement}
use Rattle.pr_interpreter.specs.declared.statements.Statement.TheVariants.{Clear, Close, Command, Define, Dim, End, For}
use Rattle.pr_interpreter.specs.declared.statements.Statement.TheVariants.{Go, If, Let, Next, NoStatement, Nothing}
use Rattle.pr_interpreter.specs.declared.statements.Statement.TheVariants.{NotTaken, On, Open, Poke, Print, PrintFile}
use Rattle.pr_interpreter.specs.declared.statements.Statement.TheVariants.{Read, Restore, Return, Stop}
use Rattle.pr_interpreter.specs.declared.statements.Target.{Target}
use Rattle.pr_interpreter.specs.declared.statements.Way.{Way}
use Rattle.pr_interpreter.specs.declared.statements.Way.TheVariants.{Gosub, Goto}
use Rattle.pr_interpreter.specs.declared.values.BasicError.{BasicError}
use Rattle.pr_interpreter.specs.declared.values.BasicError.TheVariants.{FileNotOpen}
use Rattle.pr_interpreter.specs.declared.values.Value.TheVariants.{Number}
use Rattle.pr_interpreter.specs.Memory.{array_of, variable_value, array_bytes as bytes_of_array}
use Rattle.pr_interpreter.specs.Numbers.{Known, order_of, sum, zero_number}
use Rattle.pr_interpreter.specs.Values.{calculated}
use Rattle.pr_run.specs.declared.data.DataItem.{DataItem}
use Rattle.pr_run.specs.declared.ending.Ending.TheVariants.{Refused}
use Rattle.pr_run.specs.declared.ending.Refusal.TheVariants.{Device, FullStack, OpenFiles, Poke as Poked, SecondAddress}
use Rattle.pr_run.specs.declared.opened.Loop.{Loop}
use Rattle.pr_run.specs.declared.place.Place.{Place}
use Rattle.pr_run.specs.declared.programs.Program.{Program}
use Rattle.pr_run.specs.declared.uses.Use.{Use}
use Rattle.pr_run.specs.Assignments.{assigned, clear_if, clear_statement, dim_statement, dimension, dimension_with}
use Rattle.pr_run.specs.Assignments.{dimensioned, element_count, indices, is_system, let_statement, stored}
use Rattle.pr_run.specs.Assignments.{system_ending, target_place, with_declared}
use Rattle.pr_run.specs.Items.{if_all, item_kept, next_item, read_item, read_statement, read_target, restore_statement}
use Rattle.pr_run.specs.Jumps.{Again, Over, Passed, advanced, after_pass, begun, branch, chosen, for_kind}
use Rattle.pr_run.specs.Jumps.{for_statement, for_variable, go_to, gone_to, if_statement, jump, jump_if, left_loop}
use Rattle.pr_run.specs.Jumps.{loop_for, next_last, next_of, next_statement, next_variable, next_variables}
use Rattle.pr_run.specs.Jumps.{number_or_zero, on_statement, passed, return_statement, returned, step_of, step_use}
use Rattle.pr_run.specs.Jumps.{with_limit, with_open, with_room, with_step}
use Rattle.pr_run.specs.Lists.{ends_after, fitting, line_valued, part_bytes, printed, shown, with_part, with_parts}
use Rattle.pr_run.specs.Memory.{bytes_for_arrays}
use Rattle.pr_run.specs.Opened.{Caller, Inner, caller_of, loop_of, stack_limit, stack_size}
use Rattle.pr_run.specs.Outputs.{Output, close_statement, close_with, command_statement, command_to, directed, done}
use Rattle.pr_run.specs.Outputs.{failed, file_numbers, is_open, no_line, numbers, on_bus, open_error, open_file}
use Rattle.pr_run.specs.Outputs.{open_statement, open_with, opened_or, print_file_statement, print_statement, print_to}
use Rattle.pr_run.specs.Outputs.{undirected, unnamed, value_place, with_second}
use Rattle.pr_run.specs.Places.{Doing, Found, LineEnd, ProgramEnd, after_statement, beginning, found_at}
use Rattle.pr_run.specs.RunLaws.{IsAfter, StringsAreCounted}
use Rattle.pr_run.specs.States.{State}
use Rattle.pr_run.specs.Steps.{Ends, Goes, Turn, changed, define_error, define_or, define_statement, defined}
use Rattle.pr_run.specs.Steps.{is_harmless, output, output_turn, poke_at, poke_skipped, poke_statement, quiet, step}
use Rattle.pr_run.specs.Steps.{turn, turn_at}
use Rattle.pr_run.specs.Uses.{Worked, and_then, direction_by, ends_loop, line_at, statement_place, statement_use}
use Rattle.pr_run.specs.Uses.{use_at, use_of, used}
use Rattle.pr_run.specs.Worked.{number, then_on, truth, valued, whole, worked}
use Rattle.pr_run.proofs.HeldLemmas.{declared_same, each_byte, first_even, first_none, odd_byte}
use Rattle.pr_run.proofs.KeptLemmas.{After, Anything, Counted, HasPlace, Sound, array_sound, assigned_sound, each_sound}
use Rattle.pr_run.proofs.KeptLemmas.{every_sound, indices_sound, memory_sound, number_even, number_sound, on_and}
use Rattle.pr_run.proofs.KeptLemmas.{on_any, on_if, on_then, stored_sound, target_sound, truth_sound, valued_sound}
use Rattle.pr_run.proofs.KeptLemmas.{wanted_by, whole_sound, worked_sound}

-- ---- LET, READ, DIM, DEF FN, CLR and POKE

-- a value goes where it is kept
goes_sound : (p : Program) (t : Target) (at : Option ℕ) (s : State) (nodes : List Placed)
    → Sound (wanted_by t.name at) s
    → IfOk (then_on (worked p s nodes) (λ v u. assigned p (use_of p u nodes) t.name at v u)) (Sound None)
goes_sound p t at s nodes h =
    on_then (After (wanted_by t.name at)) (Sound None) (worked p s nodes)
    (λ v u. assigned p (use_of p u nodes) t.name at v u) (worked_sound (wanted_by t.name at) p s nodes h)
    (λ r k. assigned_sound p (use_of p r.after nodes) t.name at r.value r.after k)

let_sound : (p : Program) (s : State) (t : Target) (nodes : List Placed) → Sound None s
    → IfOk (let_statement p s t nodes) (Sound None)
unfolding let_statement
let_sound p s t nodes h =
    on_then (HasPlace t.name) (Sound None) (target_place p s t)
    (λ at r. then_on (worked p r nodes) (λ v u. assigned p (use_of p u nodes) t.name at v u)) (target_sound p s t h)
    (λ r k. goes_sound p t r.value r.after nodes k)

all_sound : (i : DataItem) (is_all : Bool) (s : State) → Sound None s → IfOk (if_all i is_all s) (Sound None)
all_sound i true s h = h
all_sound i false s h = tt

item_sound : (p : Program) (s : State) (t : Target) (at : Option ℕ) (i : Option DataItem)
    → Sound (wanted_by t.name at) s → IfOk (read_item p s t at i) (Sound None)
item_sound p s t at None h = tt
item_sound p s t at (Some i) h =
    let u = use_at p s i.start in
    on_and Anything (Sound None) _ (λ v. item_kept p u t.name at i v (next_item s)) (on_any _)
    (λ v a. on_and (Sound None) (Sound None) (assigned p u t.name at v.value (next_item s)) (λ r. if_all i v.is_all r)
    (assigned_sound p u t.name at v.value (next_item s) h) (λ r k. all_sound i v.is_all r k))

target_read : (p : Program) (s : State) (t : Target) → Sound None s → IfOk (read_target p s t) (Sound None)
unfolding read_target
target_read p s t h =
    on_then (HasPlace t.name) (Sound None) (target_place p s t) (λ at r. read_item p r t at _) (target_sound p s t h)
    (λ r k. item_sound p r.after t r.value _ k)

read_sound : (p : Program) (s : State) (ts : List Target) → Sound None s
    → IfOk (read_statement p s ts) (Sound None)
unfolding read_statement
read_sound p s ts h = each_sound (read_target p) s ts (λ t x k. target_read p t x k) h

-- a variable that comes to be holds nothing
declared_sound : (name : Name) (s : State) → Sound None s → Sound None (with_declared name s)
declared_sound name s h =
    let all = declared_same each_byte first_none name s.variables in
    let kinds = declared_same odd_byte first_even name s.variables in
    (record { all = omega (arith, all, h.0.all); kinds = omega (arith, kinds, h.0.kinds); few = h.0.few }, tt)

dimensioned_sound : (p : Program) (u : Use) (s : State) (name : Name) (bounds : List ℕ) (found : Option Array)
    → Sound None s → IfOk (dimensioned p u s name bounds found) (Sound None)
dimensioned_sound p u s name bounds (Some a) h = tt
dimensioned_sound p u s name bounds None h =
    array_sound u s (bytes_for_arrays p s) (record { name = name; bounds = bounds; elements = [] })
    (bytes_of_array name.kind _ (element_count bounds)) refl h

dimension_sound : (p : Program) (s : State) (t : Target) (is : List (List Placed)) → Sound None s
    → IfOk (dimension_with p s t is) (Sound None)
dimension_sound p s t [] h =
    memory_sound p (use_at p s t.place) (with_declared t.name s) (λ room. declared_sound t.name s h)
dimension_sound p s t (i ∷ is) h =
    let u = use_at p s t.place in
    on_then (After None) (Sound None) (indices p u s (i ∷ is))
    (λ bounds r. dimensioned p u r t.name bounds (array_of t.name r.arrays.list)) (indices_sound p u s (i ∷ is) h)
    (λ r k. dimensioned_sound p u r.after t.name r.value (array_of t.name r.after.arrays.list) k)

target_dimension : (p : Program) (s : State) (t : Target) → Sound None s → IfOk (dimension p s t) (Sound None)
unfolding dimension
target_dimension p s t h =
    on_if (Sound None) (is_system t.name t.indices) (Err (system_ending (use_at p s t.place) t.name.kind))
    (dimension_with p s t t.indices) tt (dimension_sound p s t t.indices h)

dim_sound : (p : Program) (s : State) (ts : List Target) → Sound None s → IfOk (dim_statement p s ts) (Sound None)
unfolding dim_statement
dim_sound p s ts h = each_sound (dimension p) s ts (λ t x k. target_dimension p t x k) h

define_or_sound : (p : Program) (u : Use) (error : Option BasicError) (f : Function) (s : State) → Sound None s
    → IfOk (define_or p u error f s) (Sound None)
define_or_sound p u (Some e) f s h = tt
define_or_sound p u None f s h = memory_sound p u (defined f s) (λ room. declared_sound f.variable s h)

define_sound : (p : Program) (s : State) (name variable : Name) (nodes : List Placed) → Sound None s
    → IfOk (define_statement p s name variable nodes) (Sound None)
unfolding define_statement
define_sound p s name variable nodes h =
    define_or_sound p (statement_use p s) (define_error name variable)
    (record { name = name; variable = variable; value = nodes }) s h

-- nothing is held at first
none_counted : Counted [] [] 0
none_counted = record { all = refl; kinds = refl; few = omega arith }

clear_if_sound : (u : Use) (s : State) (files : List ℕ) → IfOk (clear_if u s files) (Sound None)
clear_if_sound u s [] =
    on_if (Sound None) (s.channel == 0) (Ok _) (Err (Refused OpenFiles u.place)) (none_counted, tt) tt
clear_if_sound u s (f ∷ fs) = tt

clear_sound : (p : Program) (s : State) → IfOk (clear_statement p s) (Sound None)
unfolding clear_statement
clear_sound p s = clear_if_sound (statement_use p s) s s.files

poke_at_sound : (u : Use) (a : ℕ) (s : State) → Sound None s → IfOk (poke_at u a s) (Sound None)
poke_at_sound u a s h =
    on_if (Sound None) (is_harmless a) (Ok (poke_skipped u.line s)) (Err (Refused (Poked a) u.place)) h tt

poke_sound : (p : Program) (s : State) (address value : List Placed) → Sound None s
    → IfOk (poke_statement p s address value) (Sound None)
unfolding poke_statement
poke_sound p s address value h =
    on_then (After None) (Sound None) (whole 65535 p s address)
    (λ a t. then_on (whole 255 p t value) (λ b u. poke_at (statement_use p u) a u)) (whole_sound 65535 p s address h)
    (λ r k. on_then (After None) (Sound None) (whole 255 p r.after value)
    (λ b u. poke_at (statement_use p u) r.value u) (whole_sound 255 p r.after value k)
    (λ q j. poke_at_sound (statement_use p q.after) r.value q.after j))

-- ---- GOTO, GOSUB, RETURN, ON and IF

gone_sound : (line : ℕ) (s : State) (place : Option Place) → Sound None s → IfOk (gone_to line s place) (Sound None)
gone_sound line s None h = tt
gone_sound line s (Some place) h = h

go_to_sound : (p : Program) (n : ℕ) (s : State) → Sound None s → IfOk (go_to p n s) (Sound None)
unfolding go_to
go_to_sound p n s h = gone_sound (line_at p s) s (beginning n p.lines) h

room_sound : (u : Use) (size : ℕ) (s : State) → Sound None s → IfOk (with_room u size s) (Sound None)
room_sound u size s h =
    on_if (Sound None) (nat_le (size + stack_size s.opened) stack_limit) (Ok s) (Err (Refused FullStack u.place)) h tt

jump_sound : (p : Program) (way : Way) (n : ℕ) (s : State) → Sound None s → IfOk (jump p way n s) (Sound None)
unfolding jump
jump_sound p Goto n s h = go_to_sound p n s h
jump_sound p Gosub n s h =
    on_and (Sound None) (Sound None) (with_room (statement_use p s) _ s) (λ t. go_to p n (with_open _ t))
    (room_sound (statement_use p s) _ s h) (λ t k. go_to_sound p n (with_open _ t) k)

returned_sound : (line : ℕ) (s : State) (c : Option Caller) → Sound None s → IfOk (returned line s c) (Sound None)
returned_sound line s None h = tt
returned_sound line s (Some c) h = h

return_sound : (p : Program) (s : State) → Sound None s → IfOk (return_statement p s) (Sound None)
unfolding return_statement
return_sound p s h = returned_sound (line_at p s) s (caller_of s.opened) h

jump_if_sound : (p : Program) (way : Way) (line : Option ℕ) (s : State) → Sound None s
    → IfOk (jump_if p way line s) (Sound None)
jump_if_sound p way None s h = h
jump_if_sound p way (Some n) s h = jump_sound p way n s h

on_sound : (p : Program) (s : State) (choice : List Placed) (way : Way) (lines : List ℕ) → Sound None s
    → IfOk (on_statement p s choice way lines) (Sound None)
unfolding on_statement
on_sound p s choice way lines h =
    on_then (After None) (Sound None) (whole 255 p s choice) (λ n t. jump_if p way (chosen n lines) t)
    (whole_sound 255 p s choice h) (λ r k. jump_if_sound p way (chosen r.value lines) r.after k)

branch_sound : (p : Program) (line : Option ℕ) (b : Bool) (s : State) → Sound None s
    → IfOk (branch p line b s) (Sound None)
branch_sound p line false s h = h
branch_sound p None true s h = h
branch_sound p (Some n) true s h = go_to_sound p n s h

if_sound : (p : Program) (s : State) (condition : List Placed) (line : Option ℕ) → Sound None s
    → IfOk (if_statement p s condition line) (Sound None)
unfolding if_statement
if_sound p s condition line h =
    on_then (After None) (Sound None) (truth p s condition) (λ b t. branch p line b t) (truth_sound p s condition h)
    (λ r k. branch_sound p line r.value r.after k)

-- ---- FOR and NEXT

step_of_sound : (p : Program) (s : State) (nodes : Option (List Placed)) → Sound None s
    → IfOk (step_of p s nodes) (After None)
step_of_sound p s None h = h
step_of_sound p s (Some nodes) h = number_sound p s nodes h

with_step_sound : (p : Program) (name : Name) (nodes : Option (List Placed)) (limit : Known) (s : State)
    → Sound None s → IfOk (with_step p name nodes limit s) (Sound None)
unfolding with_step
with_step_sound p name nodes limit s h =
    on_then (After None) (Sound None) (step_of p s nodes)
    (λ by t. and_then (used (step_use p t nodes) (direction_by (order_of by zero_number)))
    (λ d. Ok (begun name limit by d t))) (step_of_sound p s nodes h)
    (λ r k. on_and Anything (Sound None) (used (step_use p r.after nodes) (direction_by (order_of r.value zero_number)))
    (λ d. Ok (begun name limit r.value d r.after)) (on_any _) (λ d a. k))

with_limit_sound : (p : Program) (name : Name) (to : List Placed) (nodes : Option (List Placed)) (s : State)
    → Sound None s → IfOk (with_limit p name to nodes s) (Sound None)
unfolding with_limit
with_limit_sound p name to nodes s h =
    on_and (Sound None) (Sound None) (with_room (statement_use p s) _ (left_loop name s))
    (λ r. then_on (number p r to) (λ limit t. with_step p name nodes limit t))
    (room_sound (statement_use p s) _ (left_loop name s) h)
    (λ r k. on_then (After None) (Sound None) (number p r to) (λ limit t. with_step p name nodes limit t)
    (number_sound p r to k) (λ q j. with_step_sound p name nodes q.value q.after j))

for_kind_sound : (p : Program) (s : State) (k : Kind) (name : Name) (from : List Placed) → Sound None s
    → IfOk (for_kind p s k name from) (Sound None)
for_kind_sound p s Short name from h = tt
for_kind_sound p s Letters name from h =
    on_then (After None) (Sound None) (worked p s from) (λ v t. Err _) (worked_sound None p s from h) (λ r k. tt)
for_kind_sound p s Numeric name from h =
    on_then (After None) (Sound None) (worked p s from) (λ v t. assigned p (use_of p t from) name None v t)
    (worked_sound None p s from h)
    (λ r k. assigned_sound p (use_of p r.after from) name None r.value r.after k)

for_variable_sound : (p : Program) (s : State) (name : Name) (from : List Placed) → Sound None s
    → IfOk (for_variable p s name from) (Sound None)
unfolding for_variable
for_variable_sound p s name from h =
    on_if (Sound None) (is_system name []) (Err (system_ending (statement_use p s) name.kind))
    (for_kind p s name.kind name from) tt (for_kind_sound p s name.kind name from h)

for_sound : (p : Program) (s : State) (name : Name) (from to : List Placed) (nodes : Option (List Placed))
    → Sound None s → IfOk (for_statement p s name from to nodes) (Sound None)
unfolding for_statement
for_sound p s name from to nodes h =
    on_and (Sound None) (Sound None) (for_variable p s name from) (λ t. with_limit p name to nodes t)
    (for_variable_sound p s name from h) (λ t k. with_limit_sound p name to nodes t k)

-- the state where NEXT leads is sound
abbrev SoundPass : Passed → Type 0
SoundPass (Again s) = Sound None s
SoundPass (Over s) = Sound None s

pass_sound : (r : Passed) (more : State → Worked State) → SoundPass r
    → ((s : State) → Sound None s → IfOk (more s) (Sound None)) → IfOk (after_pass r more) (Sound None)
pass_sound (Again s) more h next = h
pass_sound (Over s) more h next = next s h

passed_sound : (i : Inner) (over : Bool) (s : State) → Sound None s → SoundPass (passed i over s)
passed_sound i true s h = h
passed_sound i false s h = h

advanced_sound : (u : Use) (l : Loop) (s : State) → Sound None s → IfOk (advanced u l s) (After None)
unfolding advanced
advanced_sound u l s h =
    on_and Anything (After None)
    (used u (calculated (sum (number_or_zero (variable_value l.variable s.variables)) l.step)))
    (λ n. and_then (used u (ends_loop l.direction (order_of n l.limit)))
    (λ over. Ok (record { value = over; after = stored l.variable None (Number n) s }))) (on_any _)
    (λ n a. on_and Anything (After None) (used u (ends_loop l.direction (order_of n l.limit)))
    (λ over. Ok (record { value = over; after = stored l.variable None (Number n) s })) (on_any _)
    (λ over b. stored_sound l.variable None (Number n) s h (number_even l.variable.kind n) (inr refl)))

next_of_sound : (u : Use) (i : Option Inner) (s : State) → Sound None s → IfOk (next_of u i s) SoundPass
next_of_sound u None s h = tt
next_of_sound u (Some i) s h =
    on_then (After None) SoundPass (advanced u i.current s) (λ over t. Ok (passed i over t))
    (advanced_sound u i.current s h) (λ r k. passed_sound i r.value r.after k)

-- an array of a name is not wanted any more
only_sound : (wanted : Option Name) (s : State) → Sound wanted s → Sound None s
only_sound wanted s h = (h.0, tt)

next_variable_sound : (p : Program) (s : State) (t : Target) → Sound None s → IfOk (next_variable p s t) SoundPass
unfolding next_variable
next_variable_sound p s t h =
    on_then (HasPlace t.name) SoundPass (target_place p s t)
    (λ at r. next_of (use_at p r t.place) (loop_for t.name at r.opened) r) (target_sound p s t h)
    (λ r k. next_of_sound (use_at p r.after t.place) (loop_for t.name r.value r.after.opened) r.after
    (only_sound (wanted_by t.name r.value) r.after k))

next_variables_sound : (p : Program) (s : State) (ts : List Target) → Sound None s
    → IfOk (next_variables p s ts) (Sound None)
next_variables_sound p s [] h = h
next_variables_sound p s (t ∷ ts) h =
    on_and SoundPass (Sound None) (next_variable p s t) (λ r. after_pass r (λ u. next_variables p u ts))
    (next_variable_sound p s t h)
    (λ r k. pass_sound r (λ u. next_variables p u ts) k (λ u j. next_variables_sound p u ts j))

next_last_sound : (p : Program) (s : State) → Sound None s → IfOk (next_last p s) (Sound None)
unfolding next_last
next_last_sound p s h =
    on_and SoundPass (Sound None) (next_of (statement_use p s) (loop_of None s.opened) s)
    (λ r. after_pass r (λ t. Ok t)) (next_of_sound (statement_use p s) (loop_of None s.opened) s h)
    (λ r k. pass_sound r (λ t. Ok t) k (λ t j. j))

next_sound : (p : Program) (s : State) (ts : List Target) → Sound None s
    → IfOk (next_statement p s ts) (Sound None)
unfolding next_statement
next_sound p s [] h = next_last_sound p s h
next_sound p s (t ∷ ts) h = next_variables_sound p s (t ∷ ts) h

-- ---- output statements

part_sound : (p : Program) (u : Use) (s : State) (part : Part) → Sound None s
    → IfOk (part_bytes p u s part) (After None)
unfolding part_bytes
part_sound p u s (Shows nodes) h =
    on_then (After None) (After None) (worked p s nodes) (λ v t. valued t _) (worked_sound None p s nodes h)
    (λ r k. valued_sound None r.after _ k)
part_sound p u s (Tab nodes) h =
    on_then (After None) (After None) (worked p s nodes) (λ v t. valued t _) (worked_sound None p s nodes h)
    (λ r k. valued_sound None r.after _ k)
part_sound p u s (Spaces nodes) h =
    on_then (After None) (After None) (worked p s nodes) (λ v t. valued t _) (worked_sound None p s nodes h)
    (λ r k. valued_sound None r.after _ k)
part_sound p u s Comma h = valued_sound None s _ h
part_sound p u s Semicolon h = valued_sound {A = List ℕ} None s (Ok []) h

with_part_sound : (p : Program) (before : List ℕ) (s : State) (i : Item) → Sound None s
    → IfOk (with_part p before s i) (After None)
unfolding with_part
with_part_sound p before s i h =
    let u = use_at p s i.place in
    on_then (After None) (After None) (part_bytes p u s i.part)
    (λ more t. valued (shown more t) (fitting u (before ++ more))) (part_sound p u s i.part h)
    (λ r k. valued_sound None (shown r.value r.after) (fitting u (before ++ r.value)) k)

parts_sound : (p : Program) (before : List ℕ) (s : State) (is : List Item) → Sound None s
    → IfOk (with_parts p before s is) (After None)
parts_sound p before s [] h = h
parts_sound p before s (i ∷ is) h =
    on_then (After None) (After None) (with_part p before s i) (λ more t. with_parts p more t is)
    (with_part_sound p before s i h) (λ r k. parts_sound p r.value r.after is k)

line_sound : (ends : Bool) (bytes : List ℕ) (s : State) → Sound None s → After None (line_valued ends bytes s)
line_sound true bytes s h = h
line_sound false bytes s h = h

printed_sound : (p : Program) (s : State) (is : List Item) → Sound None s → IfOk (printed p s is) (After None)
unfolding printed
printed_sound p s is h =
    on_then (After None) (After None) (with_parts p [] s is) (λ bytes t. Ok (line_valued (ends_after true is) bytes t))
    (parts_sound p [] s is h) (λ r k. line_sound (ends_after true is) r.value r.after k)

-- the state after an output statement is sound
abbrev SoundOutput : Output → Type 0
SoundOutput o = Sound None o.after

numbers_sound : (p : Program) (s : State) (is : List (List Placed)) → Sound None s
    → IfOk (numbers p s is) (After None)
unfolding numbers
numbers_sound p s is h = every_sound (whole 255 p) [] s is (λ t x k. whole_sound 255 p t x k) h

unnamed_sound : (names : List (List Placed)) (found : List ℕ) (s : State) → Sound None s
    → IfOk (unnamed names (Ok (record { value = found; after = s }))) (After None)
unnamed_sound [] found s h = h
unnamed_sound (name ∷ names) found s h = tt

file_numbers_sound : (p : Program) (s : State) (is : List (List Placed)) → Sound None s
    → IfOk (file_numbers p s is) (After None)
file_numbers_sound p s is h =
    on_then (After None) (After None) (numbers p s (take 3 is))
    (λ found t. unnamed (drop 3 is) (Ok (record { value = found; after = t }))) (numbers_sound p s (take 3 is) h)
    (λ r k. unnamed_sound (drop 3 is) r.value r.after k)

opened_sound : (error : Option BasicError) (file : ℕ) (o : Written) (s : State) → Sound None s
    → SoundOutput (opened_or error file o s)
opened_sound None file o s h = h
opened_sound (Some e) file o s h = h

open_file_sound : (file device : ℕ) (second : Option ℕ) (s : State) → Sound None s
    → SoundOutput (open_file file device second s)
open_file_sound file device second s h =
    opened_sound (open_error file s.files) file (OpenFile file device second) s h

bus_sound : (place device : ℕ) (more : Worked Output) → IfOk more SoundOutput
    → IfOk (on_bus place device more) SoundOutput
bus_sound place device more h =
    on_if SoundOutput (nat_lt device 4 || nat_lt 30 device) (Err (Refused (Device device) place)) more tt h

second_sound : (place second : ℕ) (more : Worked Output) → IfOk more SoundOutput
    → IfOk (with_second place second more) SoundOutput
second_sound place second more h =
    on_if SoundOutput (nat_lt 15 second) (Err (Refused (SecondAddress second) place)) more tt h

open_with_sound : (place : ℕ) (is : List (List Placed)) (found : List ℕ) (s : State) → Sound None s
    → IfOk (open_with place is found s) SoundOutput
open_with_sound place is [] s h = tt
open_with_sound place is (file ∷ []) s h = tt
open_with_sound place is (file ∷ device ∷ []) s h =
    bus_sound (value_place (drop 1 is)) device (Ok (open_file file device None s))
    (open_file_sound file device None s h)
open_with_sound place is (file ∷ device ∷ second ∷ more) s h =
    bus_sound (value_place (drop 1 is)) device
    (with_second (value_place (drop 2 is)) second (Ok (open_file file device (Some second) s)))
    (second_sound (value_place (drop 2 is)) second (Ok (open_file file device (Some second) s))
    (open_file_sound file device (Some second) s h))

open_sound : (p : Program) (s : State) (is : List (List Placed)) → Sound None s
    → IfOk (open_statement p s is) SoundOutput
unfolding open_statement
open_sound p s is h =
    on_then (After None) SoundOutput (file_numbers p s is) (λ found t. open_with (statement_place p t) is found t)
    (file_numbers_sound p s is h) (λ r k. open_with_sound (statement_place p r.after) is r.value r.after k)

close_with_sound : (place : ℕ) (found : List ℕ) (s : State) → Sound None s
    → IfOk (close_with place found s) SoundOutput
close_with_sound place [] s h = tt
close_with_sound place (file ∷ more) s h = h

close_sound : (p : Program) (s : State) (is : List (List Placed)) → Sound None s
    → IfOk (close_statement p s is) SoundOutput
unfolding close_statement
close_sound p s is h =
    on_then (After None) SoundOutput (file_numbers p s is) (λ found t. close_with (statement_place p t) found t)
    (file_numbers_sound p s is h) (λ r k. close_with_sound (statement_place p r.after) r.value r.after k)

print_sound : (p : Program) (s : State) (is : List Item) → Sound None s
    → IfOk (print_statement p s is) SoundOutput
unfolding print_statement
print_sound p s is h =
    on_then (After None) SoundOutput (printed p s is) (λ line t. Ok (done (Printed line) t)) (printed_sound p s is h)
    (λ r k. k)

command_to_sound : (p : Program) (is : List Item) (file : ℕ) (s : State) → Sound None s
    → IfOk (command_to p is file s) SoundOutput
command_to_sound p is file s h =
    on_if SoundOutput (is_open file s.files)
    (then_on (printed p (directed file s) is) (λ line t. Ok (done (Cmd file line) t)))
    (Ok (failed FileNotOpen (Cmd file no_line) s))
    (on_then (After None) SoundOutput (printed p (directed file s) is) (λ line t. Ok (done (Cmd file line) t))
    (printed_sound p (directed file s) is h) (λ r k. k)) h

command_sound : (p : Program) (s : State) (file : List Placed) (is : List Item) → Sound None s
    → IfOk (command_statement p s file is) SoundOutput
unfolding command_statement
command_sound p s file is h =
    on_then (After None) SoundOutput (whole 255 p s file) (λ n t. command_to p is n t) (whole_sound 255 p s file h)
    (λ r k. command_to_sound p is r.value r.after k)

print_to_sound : (p : Program) (is : List Item) (file : ℕ) (s : State) → Sound None s
    → IfOk (print_to p is file s) SoundOutput
print_to_sound p is file s h =
    on_if SoundOutput (is_open file s.files)
    (then_on (printed p (directed file s) is) (λ line t. Ok (done (PrintTo file line) (undirected t))))
    (Ok (failed FileNotOpen (PrintTo file no_line) s))
    (on_then (After None) SoundOutput (printed p (directed file s) is)
    (λ line t. Ok (done (PrintTo file line) (undirected t))) (printed_sound p (directed file s) is h) (λ r k. k)) h

print_file_sound : (p : Program) (s : State) (file : List Placed) (is : List Item) → Sound None s
    → IfOk (print_file_statement p s file is) SoundOutput
unfolding print_file_statement
print_file_sound p s file is h =
    on_then (After None) SoundOutput (whole 255 p s file) (λ n t. print_to p is n t) (whole_sound 255 p s file h)
    (λ r k. print_to_sound p is r.value r.after k)

-- ---- steps

changed_sound : (p : Program) (s : State) (st : Statement) → Sound None s → IfOk (changed p s st) (Sound None)
unfolding changed restore_statement
changed_sound p s Nothing h = h
changed_sound p s (Let target value) h = let_sound p s target value h
changed_sound p s (If condition line) h = if_sound p s condition line h
changed_sound p s (For variable from to nodes) h = for_sound p s variable from to nodes h
changed_sound p s (Next variables) h = next_sound p s variables h
changed_sound p s (Go way line) h = jump_sound p way line s h
changed_sound p s Return h = return_sound p s h
changed_sound p s (On choice way lines) h = on_sound p s choice way lines h
changed_sound p s (Read targets) h = read_sound p s targets h
changed_sound p s Restore h = h
changed_sound p s (Dim arrays) h = dim_sound p s arrays h
changed_sound p s (Define name variable value) h = define_sound p s name variable value h
changed_sound p s (Poke address value) h = poke_sound p s address value h
changed_sound p s Clear h = clear_sound p s
changed_sound p s Stop h = tt
changed_sound p s End h = tt
changed_sound p s NoStatement h = tt
changed_sound p s NotTaken h = tt
changed_sound p s other h = h

-- where a turn leads, the state is sound
abbrev SoundTurn : Turn → Type 0
SoundTurn (Goes s performed) = Sound None s
SoundTurn (Ends performed ending) = Unit {0}

quiet_sound : (w : Worked State) → IfOk w (Sound None) → SoundTurn (quiet w)
quiet_sound (Ok s) h = h
quiet_sound (Err ending) h = tt

output_turn_sound : (line : ℕ) (error : Option BasicError) (o : Output) → SoundOutput o
    → SoundTurn (output_turn line error o)
output_turn_sound line None o h = h
output_turn_sound line (Some e) o h = tt

output_sound : (line : ℕ) (w : Worked Output) → IfOk w SoundOutput → SoundTurn (output line w)
output_sound line (Ok o) h = output_turn_sound line o.error o h
output_sound line (Err ending) h = tt

turn_sound : (p : Program) (s : State) (st : Statement) → Sound None s → SoundTurn (turn p s st)
unfolding turn
turn_sound p s (Print is) h = output_sound (line_at p s) (print_statement p s is) (print_sound p s is h)
turn_sound p s (PrintFile f is) h =
    output_sound (line_at p s) (print_file_statement p s f is) (print_file_sound p s f is h)
turn_sound p s (Command f is) h = output_sound (line_at p s) (command_statement p s f is) (command_sound p s f is h)
turn_sound p s (Open is) h = output_sound (line_at p s) (open_statement p s is) (open_sound p s is h)
turn_sound p s (Close is) h = output_sound (line_at p s) (close_statement p s is) (close_sound p s is h)
turn_sound p s other h = quiet_sound (changed p s other) (changed_sound p s other h)

found_sound : (p : Program) (s : State) (f : Found) → Sound None s → SoundTurn (turn_at p s f)
found_sound p s (Doing st) h = turn_sound p (record s { place = after_statement s.place }) st h
found_sound p s LineEnd h = h
found_sound p s ProgramEnd h = tt

step_sound : (p : Program) (s : State) → Sound None s → SoundTurn (step p s)
unfolding step
step_sound p s h = found_sound p s (found_at p.lines s.place) h

-- each state that a run comes to is sound
state_sound : (p : Program) (n : ℕ) (s : State) → IsAfter p n s → Sound None s
state_sound p zero s e = subst (λ (t : State). Sound None t) (sym e) (none_counted, tt)
state_sound p (suc n) s r =
    subst (λ (t : Turn). SoundTurn t) r.3 (step_sound p r.0 (state_sound p n r.0 r.2))

pub strings_counted : StringsAreCounted
strings_counted p n s r = (state_sound p n s r).0.all
