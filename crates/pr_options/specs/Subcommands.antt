-- Linking words, for proofs: commands on their way to the program. No reader needs to believe them.
use denote.Ref.{Bor}
use Rattle.std.specs.Prelude.{◌≡◌, ◌∷◌, [], List, false, map}
use Rattle.clap.specs.Words.{App, Shape, Text, new_app, with_rule, with_subcommand}
use Rattle.pr_options.specs.CommandLine.{input_rule, output_rule, rule, subcommand}
use Rattle.pr_options.specs.Rows.{OptionRow}
use Rattle.pr_options.specs.Rows as option
use Rattle.pr_options.specs.declared.options.Opt.{Opt}
use Rattle.pr_options.specs.declared.options.Subcommand.{Subcommand}
use Rattle.pr_options.specs.declared.options.Subcommand.TheVariants.{Bus, Check, Decode, Pages, Raw}
use Rattle.pr_options.specs.declared.options.OptionRow.{OptionRow as CodeRow}
use Rattle.clap.specs.declared.Command.{Command}
use Rattle.clap.specs.declared.Command.TheViews.{out-Command}

-- a command without subcommands
abbrev pub alone : Shape → App
alone shape = record { top = shape; subs = [] }

-- a subcommand without its options
abbrev pub with_files : Text → App
with_files name = with_rule (with_rule (new_app name) (input_rule option.input)) (output_rule option.output)

-- a command with these options too
abbrev pub with_options : App → List Opt → App
with_options app [] = app
with_options app (o ∷ os) = with_options (with_rule app (rule o)) os

-- a command with these subcommands too
abbrev pub with_subcommands : App → List Subcommand → App
with_subcommands app [] = app
with_subcommands app (s ∷ ss) = with_subcommands (with_subcommand app (subcommand s)) ss

-- all subcommands, in the order in which help lists them
abbrev pub subcommands : List Subcommand
subcommands = Pages ∷ Bus ∷ Check ∷ Decode ∷ Raw ∷ []

-- no option of the command holds for its subcommands too
abbrev pub IsLocal : Command → Type 0
IsLocal command = (out-Command command).has_globals ≡ false

-- the endings of the code, each with the value that it gives
abbrev pub endings_view : List (Bor Text × Bor Text) → List (Text × Text)
endings_view = map (λ e. (e.0.now, e.1.now))

-- a row of the code, without what help calls the value
abbrev pub row_view : CodeRow → OptionRow
row_view r = record {
  kind = r.kind;
  name = r.name.now;
  default = r.default.now;
  file = r.file.now;
  endings = endings_view r.endings.now;
  values = r.values.now;
  help = r.help.now;
}
