-- From what clap says of its matches to the subcommand met.
use Rattle.std.proofs.Common.{◌≡◌, ◌<◌, ◌+◌, ◌||◌, ℕ, suc, add-one, drop-cons, List, [], ◌∷◌, ◌++◌, drop, get_or, length, map, append-nil, append_assoc, refl, ap, ◌∙◌, sym, Option, Some, None, Bor, Bool, true, false, inl, inr, subst}
use Rattle.std.specs.Prelude.{option_and_then, option_map, unwrap_or, IfSome, find, if◌then◌else◌}
use Rattle.std.specs.Option.{option_map_or}
use Rattle.std.specs.Str.{bytes_eq}
use Rattle.clap.specs.declared.error.Error.{Error}
use Rattle.clap.specs.Words.{App, HasKind, HasMatchesOf, Row, Rule, Text, built, first_of, first_value, fault_of, is_simple, is_simple_and_free, rows_of, subcommand_of, subcommand_rows_of, with_rule, with_subcommand}
use Rattle.clap.specs.declared.parser.matches.ArgMatches.{ArgMatches}
use Rattle.clap.proofs.WalkLemmas.{find_row, first_value-rows}
use Rattle.clap.specs.Simple.{Shape, argument_words, entered, names_of, rows_at, label_of}
use Rattle.clap.specs.Walk.{answers_to, stop_after}
use Rattle.clap.proofs.OnLiterals.{clap_on_literals}
use Rattle.clap.specs.Matches.{matched_of}
use Rattle.clap.specs.Walk.{row_of}
use Rattle.clap.specs.declared.parser.matches.Found.{Found}
use Rattle.clap.specs.declared.parser.matches.MatchedArg.{MatchedArg}
use Rattle.clap.specs.declared.parser.matches.ValueSource.{ValueSource}
use Rattle.pr_options.specs.CommandLine.{print1525, rule, subcommand}
use Rattle.pr_options.specs.Given.{has_ending, is_named, is_of_words, value_in}
use Rattle.pr_options.specs.Steps.{Met}
use Rattle.pr_options.specs.Values.{bad_value, option_of, value_given}
use Rattle.pr_options.specs.declared.command_line.JobFault.{JobFault}
use Rattle.pr_options.specs.Rows.{command_name, options_of}
use Rattle.pr_options.specs.Subcommands.{alone, endings_view, with_files, with_options, with_subcommands}
use Rattle.pr_options.specs.declared.options.Opt.{Opt}
use Rattle.pr_options.specs.declared.options.Subcommand.{Subcommand}
use Rattle.pr_options.specs.CommandLaws.{IsOurs}

-- each of these subcommands is the program's
AllOurs : List Shape → Type 0
AllOurs [] = Unit {0}
AllOurs (s ∷ ss) = IsOurs s.name × AllOurs ss

-- so is one that is found among them
found_ours : (p : Shape → Bool) (words : List Text) (ss : List Shape) → AllOurs ss → IfSome (option_map (λ (s : Shape). rows_at s words) (find p ss)) (λ met. IsOurs met.0)
unfolding AllOurs
found_ours p words [] all = tt
found_ours p words (s ∷ ss) all =
    elim (p s) as (λ v. IfSome (option_map (λ (s : Shape). rows_at s words) (if v then Some s else find p ss)) (λ met. IsOurs met.0)) [
      | true ↦ all.0
      | false ↦ found_ours p words ss all.1
    ]

-- the subcommand that a parse enters is the program's
entered_ours : (stop : Option (Text × List Text)) → IfSome (entered (built print1525) stop) (λ met. IsOurs met.0)
unfolding AllOurs
entered_ours None = tt
entered_ours (Some p) = found_ours (λ s. answers_to p.0 (label_of s)) p.1 (built print1525).subs (inl refl, (inr (inl refl), (inr (inr (inl refl)), (inr (inr (inr (inl refl))), (inr (inr (inr (inr refl))), tt)))))

-- words name one of the program's subcommands or none
pub subcommand_ours : (words : List Text) → IfSome (subcommand_of print1525 words) (λ met. IsOurs met.0)
subcommand_ours words = entered_ours (stop_after (built print1525).top.rules (names_of (built print1525)) (argument_words print1525 words))

-- the command is a simple one
pub program_simple : is_simple print1525 ≡ true
unfolding clap_on_literals
program_simple = refl

-- no option of it has a rule on another
program_free : is_simple_and_free print1525 ≡ true
unfolding clap_on_literals
program_free = refl

-- words whose matches are found have no fault
pub no_fault : (a : App) (words : List Text) → a ≡ print1525 → (is_simple_and_free a ≡ true → fault_of a words ≡ []) → fault_of print1525 words ≡ []
no_fault a words e h = sym (ap (λ (b : App). fault_of b words) e) ∙ h (ap is_simple_and_free e ∙ program_free)

-- a refusal has a kind that clap finds in the words
pub has_kind : (a : App) (words : List Text) (error : Error) → a ≡ print1525 → (is_simple_and_free a ≡ true → HasKind (fault_of a words) error) → HasKind (fault_of print1525 words) error
has_kind a words error e h =
    let P : App → Type 0 = λ b. HasKind (fault_of b words) error in
    subst P e (h (ap is_simple_and_free e ∙ program_free))

-- the subcommand that was met is that of the words
pub met_is : (a : App) (words : List Text) (m : ArgMatches) → a ≡ print1525 → HasMatchesOf a words m → subcommand_rows_of m ≡ subcommand_of print1525 words
met_is a words m e h = (h (ap is_simple e ∙ program_simple)).1 ∙ ap (λ (b : App). subcommand_of b words) e

-- the value that is read is that of the rows
pub text_is : (o : Option (Bor Text)) (d : Bor Text) (f : _) (id : Text) (r : Bor Text)
    → r ≡ unwrap_or o d → option_map (λ (s : Bor Text). s.now) o ≡ first_value f id → r.now ≡ unwrap_or (first_of id (rows_of f)) d.now
text_is o d f id r e h = rw e (text_of o d ∙ ap (λ t. unwrap_or t d.now) (h ∙ first_value-rows f id))
  where
    text_of : (o : Option (Bor Text)) (d : Bor Text) → (unwrap_or o d).now ≡ unwrap_or (option_map (λ (s : Bor Text). s.now) o) d.now
    text_of None d = refl
    text_of (Some s) d = refl

-- where a value comes from is known of the rows too
pub given_is : (f : Found) (id : Text) (r : Option ValueSource) → r ≡ option_and_then (λ a. a.source) (matched_of f id) → is_of_words r ≡ is_named id (rows_of f)
given_is f id r e =
    ap is_of_words e ∙ (by (find (λ e. bytes_eq e.0.now id) f.entries.items) ∙ ap (λ o. option_map_or (λ row. is_of_words row.source) o false) (sym (find_row f.entries.items id)))
  where
    by : (o : Option (Bor Text × MatchedArg)) → is_of_words (option_and_then (λ a. a.source) (option_map (λ e. e.1) o)) ≡ option_map_or (λ row. is_of_words row.source) (option_map row_of o) false
    by None = refl
    by (Some e) = refl

-- the first ending of the code that a name has gives what the first one of the definition gives
pub found_by : (name : Text) (es : List (Bor Text × Bor Text)) → option_map (λ (e : Text × Text). e.1) (find (λ (e : Text × Text). has_ending name e.0) (endings_view es))
    ≡ option_map (λ (e : Bor Text × Bor Text). e.1.now) (find (λ (e : Bor Text × Bor Text). has_ending name e.0.now) es)
found_by name [] = refl
found_by name (e ∷ es) =
    elim (has_ending name e.0.now) as (λ v. option_map (λ (x : Text × Text). x.1) (if v then Some (e.0.now, e.1.now) else find (λ (x : Text × Text). has_ending name x.0) (endings_view es))
    ≡ option_map (λ (x : Bor Text × Bor Text). x.1.now) (if v then Some e else find (λ (x : Bor Text × Bor Text). has_ending name x.0.now) es)) [
      | true ↦ refl
      | false ↦ found_by name es
    ]

-- the value that a subcommand's rows give is that of the words
pub value_by_rows : (r : Option (Bor Text)) (o : Opt) (words : List Text) (met : Met) → met ≡ subcommand_of print1525 words
    → option_map (λ (v : Bor Text). v.now) r ≡ option_map (value_in o) (option_map (λ (m : Text × List Row). m.1) met) → IfSome r (λ v. value_given words o ≡ Some v.now)
value_by_rows None o words met e h = tt
value_by_rows (Some v) o words met e h = ap (λ (x : Met). option_map (value_in o) (option_map (λ (m : Text × List Row). m.1) x)) (sym e) ∙ sym h

-- the value of a fault's option is that of the fault
pub value_by_fault : (r : Option (Bor Text)) (o : Opt) (words : List Text) (f : JobFault) → Some o ≡ option_of f
    → IfSome r (λ v. value_given words o ≡ Some v.now) → IfSome r (λ v. bad_value words f ≡ Some v.now)
value_by_fault r o words f e h =
    let P : Option Opt → Type 0 = λ x. IfSome r (λ v. option_and_then (value_given words) x ≡ Some v.now) in
    subst P e h

-- options one after the other are rules after the others
with_all : (s : Shape) (os : List Opt) → with_options (alone s) os ≡ alone (record s { rules = s.rules ++ map rule os })
with_all s [] = ap (λ rs. alone (record s { rules = rs })) (sym (append-nil s.rules))
with_all s (o ∷ os) =
    with_all (record s { rules = s.rules ++ rule o ∷ [] }) os
    ∙ ap (λ rs. alone (record s { rules = rs })) (append_assoc s.rules (rule o ∷ []) (map rule os))

-- a subcommand is its files and its options
pub options_are : (c : Subcommand) → with_options (with_files (command_name c)) (options_of c) ≡ alone (subcommand c)
options_are c = with_all (with_files (command_name c)).top (options_of c)

-- one more option
pub one_option : (old new : App) (os : List Opt) (i : ℕ) (d : Opt) (r : Rule) (whole : App) → i < length os → new ≡ with_rule old r → r ≡ rule (get_or os i d)
    → with_options old (drop i os) ≡ whole → with_options new (drop (i + 1) os) ≡ whole
one_option old new os i d r whole within adds is h =
    let cut : drop i os ≡ get_or os i d ∷ drop (i + 1) os = rw add-one (drop-cons os i d within) in
    ap (λ a. with_options a (drop (i + 1) os)) (adds ∙ ap (with_rule old) is) ∙ (ap (with_options old) (sym cut) ∙ h)

-- one more subcommand
pub one_subcommand : (old new : App) (ss : List Subcommand) (i : ℕ) (d : Subcommand) (s : Shape) (whole : App) → i < length ss → new ≡ with_subcommand old s → s ≡ subcommand (get_or ss i d)
    → with_subcommands old (drop i ss) ≡ whole → with_subcommands new (drop (i + 1) ss) ≡ whole
one_subcommand old new ss i d s whole within adds is h =
    let cut : drop i ss ≡ get_or ss i d ∷ drop (i + 1) ss = rw add-one (drop-cons ss i d within) in
    ap (λ a. with_subcommands a (drop (i + 1) ss)) (adds ∙ ap (with_subcommand old) is) ∙ (ap (with_subcommands old) (sym cut) ∙ h)

-- neither of two has options for all
pub both_local : (a b v : Bool) → v ≡ (a || b) → a ≡ false → b ≡ false → v ≡ false
both_local a b v e h k = rw (e, h, k) refl
