-- Trusted: the program's command line, as a simple command of clap.
use Rattle.std.specs.Prelude.{◌∷◌, ℕ, [], List, Option, Some, codes, false, map, true}
use Rattle.clap.specs.Words.{App, Rule, Shape, Text, new_rule}
use Rattle.clap.specs.Simple.{new_shape}
use Rattle.clap.specs.declared.builder.action.ArgAction.TheVariants.{SetTrue}
use Rattle.pr_options.specs.Rows.{OptionRow, command_name, letter, options_of, row}
use Rattle.pr_options.specs.Rows as option
use Rattle.pr_options.specs.declared.options.Kind.{Kind}
use Rattle.pr_options.specs.declared.options.Kind.TheVariants.{Value, Lines, Flag, File}
use Rattle.pr_options.specs.declared.options.Opt.{Opt}
use Rattle.pr_options.specs.declared.options.Subcommand.{Subcommand}
use Rattle.pr_options.specs.declared.options.Subcommand.TheVariants.{Pages, Bus, Check, Decode, Raw}

-- the file that is read, which is named without the name of an option
abbrev pub input_rule : Text → Rule
input_rule name = record (new_rule name) { value_names = 1 }

-- the file that is written: `--output FILE`, or `-o FILE` (111)
abbrev pub output_rule : Text → Rule
output_rule name = record (new_rule name) { long = Some name; short = Some 111; value_names = 1 }

-- an option by what follows its name: a value, which has a default; lines of the bus, all if nothing follows; nothing, and
-- then a letter may serve for its name; or the name of a file
abbrev pub kind_rule : Kind → (letter : Option ℕ) → OptionRow → Rule
kind_rule Value letter o = record (new_rule o.name) { long = Some o.name; value_names = 1; defaults = o.default ∷ [] }
kind_rule Lines letter o = record (new_rule o.name) {
  long = Some o.name;
  value_names = 1;
  range = Some (record { start_inclusive = 0; end_inclusive = 1 });
  defaults = o.default ∷ [];
  missing = codes "ATN,CLOCK,DATA" ∷ [];
}
kind_rule Flag letter o = record (new_rule o.name) { long = Some o.name; short = letter; action = Some SetTrue }
kind_rule File letter o = record (new_rule o.name) { long = Some o.name; value_names = 1 }

abbrev pub rule : Opt → Rule
rule o = kind_rule (row o).kind (letter o) (row o)

-- a subcommand: the file that it reads, the one that it writes, and its options
abbrev pub subcommand : Subcommand → Shape
subcommand c = record (new_shape (command_name c)) {
  rules = input_rule option.input ∷ output_rule option.output ∷ map rule (options_of c);
}

-- the program: it has a version, and needs one of its subcommands
abbrev pub print1525 : App
print1525 = record {
  top = record (new_shape (codes "print1525")) {
    is_leaf = false;
    has_version = true;
    subcommand_required = true;
    disable_help_subcommand = true;
  };
  subs = map subcommand (Pages ∷ Bus ∷ Check ∷ Decode ∷ Raw ∷ []);
}
