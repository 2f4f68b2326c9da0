-- One statement with and without a device.
use Rattle.std.proofs.Common.{◌≡◌, ℕ, ◌+◌, Bool, true, false, not, cond, ◌==◌, Option, Some, None, List, [], ◌∷◌, ◌++◌, map, refl, sym, ap, ◌∙◌}
use Rattle.pr_serial.specs.declared.Present.{Present}
use Rattle.pr_serial.specs.Elements.{Element, Attention, Byte}
use Rattle.pr_channels.specs.declared.file.File.{File}
use Rattle.pr_channels.specs.declared.faults.Stop.{Stop}
use Rattle.pr_channels.specs.declared.faults.Stop.TheVariants.{FileNotOpen, DeviceNotPresent}
use Rattle.pr_channels.specs.Files.{Files, file_at, open_stop}
use Rattle.pr_channels.specs.Table.{IsTable}
use Rattle.pr_channels.specs.Commands.{listen_to, unlisten, closing}
use Rattle.pr_channels.specs.Laws.{TableWithOneMore, TableWithSome, OpenableAmongSome}
use Rattle.pr_basic.specs.Text.{Text}
use Rattle.pr_basic.specs.declared.statement.Statement.{Statement}
use Rattle.pr_basic.specs.declared.statement.Statement.TheVariants.{OpenFile, Cmd, PrintTo, Print, CloseFile, Rem}
use Rattle.pr_basic.specs.Statements.{Setting, Effect, effect_of, printed_bytes, stopping, commanding, unlistening, opening}
use Rattle.pr_basic.specs.StatementLaws.{MissingByStatus}
use Rattle.pr_system.specs.Without.{files_opened, files_after, is_on, is_left_out, IsAddressed}
use Rattle.pr_system.proofs.FileLemmas.{rest_of, rest_at, rest_without, rest_gone, rest_push_on, rest_push_off}
use Rattle.pr_system.proofs.ApartLemmas.{BusLaws, Apart, apart_as, apart_both, apart_alone, apart_none, apart_none_one, bytes_call, unlisten_calls, listen_calls}

-- the laws that isolation rests on
pub record Laws : Type 0 where
  pub bus : BusLaws
  pub missing : MissingByStatus
  pub one_more : TableWithOneMore
  pub some : TableWithSome
  pub openable : OpenableAmongSome

-- these files, and the screen as the output device
abbrev pub standing : Files → Setting
standing files = record { files = files; channel = 0; output = 3 }

-- the files after an OPEN are a table
table_opened : Laws → (stop : Option Stop) (file : File) (files : Files) → open_stop files file.number ≡ stop → IsTable files → IsTable (files_opened stop files file)
table_opened laws None file files none table = laws.one_more files file table none
table_opened laws (Some stop) file files some table = table

-- the files after a statement are a table
pub table_after : Laws → (files : Files) (statement : Statement) → IsTable files → IsTable (files_after files statement)
table_after laws files (OpenFile file device second) table = table_opened laws (open_stop files file) (record { number = file; device = device; second = second }) files refl table
table_after laws files (Cmd file line) table = table
table_after laws files (PrintTo file line) table = table
table_after laws files (Print line) table = table
table_after laws files (CloseFile file) table = laws.some (λ f. not (f.number == file)) files table
table_after laws files Rem table = table

-- a statement that both runs perform
pub record Both (present : Present) (left_out : ℕ) (missing later : File → Bool) (files : Files) (one two : List Element) (statement : Statement) : Type 0 where
  pub goes_on : (effect_of later (standing (rest_of left_out files)) statement).stop ≡ None
  pub after_one : (effect_of missing (standing files) statement).after ≡ standing (files_after files statement)
  pub after_two : (effect_of later (standing (rest_of left_out files)) statement).after ≡ standing (rest_of left_out (files_after files statement))
  pub apart : Apart present left_out (one ++ (effect_of missing (standing files) statement).elements) (two ++ (effect_of later (standing (rest_of left_out files)) statement).elements)

-- a statement that the first run alone performs
pub record Alone (present : Present) (left_out : ℕ) (missing : File → Bool) (files : Files) (one two : List Element) (statement : Statement) : Type 0 where
  pub after_one : (effect_of missing (standing files) statement).after ≡ standing (files_after files statement)
  pub rest : rest_of left_out (files_after files statement) ≡ rest_of left_out files
  pub apart : Apart present left_out (one ++ (effect_of missing (standing files) statement).elements) two

-- an OPEN that goes on has nothing against it
opening_goes : (stop : Option Stop) (file : File) (at : Setting) → (opening stop file at).stop ≡ None → stop ≡ None
opening_goes None file at none = refl
opening_goes (Some stop) file at none = let clash : Some stop ≡ None = none in absurd (cc clash)

-- what CLOSE sends, in both
closing_both : Laws → (present : Present) (left_out : ℕ) (one two : List Element) (number device : ℕ) (second : Option ℕ) → Apart present left_out one two
    → Apart present left_out (one ++ closing (Some (record { number = number; device = device; second = second }))) (two ++ closing (Some (record { number = number; device = device; second = second })))
closing_both laws present left_out one two number device None apart = apart_none present left_out one two apart
closing_both laws present left_out one two number device (Some s) apart = apart_both laws.bus present left_out one two (Attention (32 + device) (Some (224 + s)) ∷ []) apart

-- what CLOSE sends for a file that may be open, in both
closed_both : Laws → (present : Present) (left_out : ℕ) (one two : List Element) (file : Option File) → Apart present left_out one two → Apart present left_out (one ++ closing file) (two ++ closing file)
closed_both laws present left_out one two None apart = apart_none present left_out one two apart
closed_both laws present left_out one two (Some file) apart = closing_both laws present left_out one two file.number file.device file.second apart

-- what CLOSE sends for a file on the device, in the first alone
closing_alone : Laws → (present : Present) (left_out : ℕ) (one two : List Element) (number device : ℕ) (second : Option ℕ) → (device == left_out) ≡ true → Apart present left_out one two
    → Apart present left_out (one ++ closing (Some (record { number = number; device = device; second = second }))) two
closing_alone laws present left_out one two number device None on apart = apart_none_one present left_out one two apart
closing_alone laws present left_out one two number device (Some s) on apart =
    apart_alone laws.bus present left_out one two (Attention (32 + device) (Some (224 + s)) ∷ []) (λ d other low. (listen_calls d device left_out other on, (unlisten_calls d low, tt))) apart

-- what CLOSE sends, in the first alone
closed_alone : Laws → (present : Present) (left_out : ℕ) (one two : List Element) (file : Option File) → is_on left_out file ≡ true → Apart present left_out one two → Apart present left_out (one ++ closing file) two
closed_alone laws present left_out one two None on apart = let clash : false ≡ true = on in absurd (cc clash)
closed_alone laws present left_out one two (Some file) on apart = closing_alone laws present left_out one two file.number file.device file.second on apart

-- the effect of PRINT#, if it goes on
abbrev pub printed_to : Text → ℕ → File → Files → Effect
printed_to line number file files = record {
  elements = (listen_to file ∷ map Byte (printed_bytes line number)) ++ unlisten ∷ [];
  screen = [];
  stop = None;
  after = standing files;
}

-- PRINT# goes on: its file is open, and its device is not missing
pub record Prints (missing : File → Bool) (files : Files) (number : ℕ) (file : File) : Type 0 where
  pub is : file_at files number ≡ Some file
  pub there : missing file ≡ false

-- PRINT# that goes on, by whether the device is missing
prints_at : (missing : File → Bool) (files : Files) (number : ℕ) (line : Text) (file : File) (b : Bool) → missing file ≡ b → file_at files number ≡ Some file
    → (unlistening (commanding missing (standing files) number line (Some file))).stop ≡ None → Prints missing files number file
prints_at missing files number line file true test is none =
    let clash : Some DeviceNotPresent ≡ None =
    sym (ap (λ b. (unlistening (cond b (stopping DeviceNotPresent (listen_to file ∷ []) (standing files)) (record { elements = listen_to file ∷ map Byte (printed_bytes line number); screen = []; stop = None; after = record { files = files; channel = number; output = file.device } }))).stop) test) ∙ none in
    absurd (cc clash)
prints_at missing files number line file false test is none = record { is = is; there = test }

-- PRINT# that goes on, by its file
prints_from : (missing : File → Bool) (files : Files) (number : ℕ) (line : Text) (f : Option File) → file_at files number ≡ f → (unlistening (commanding missing (standing files) number line f)).stop ≡ None
    → (file : File) × Prints missing files number file
prints_from missing files number line None is none = let clash : Some FileNotOpen ≡ None = none in absurd (cc clash)
prints_from missing files number line (Some file) is none = (file, prints_at missing files number line file (missing file) refl is none)

-- PRINT# that goes on
prints : (missing : File → Bool) (files : Files) (number : ℕ) (line : Text) → (effect_of missing (standing files) (PrintTo number line)).stop ≡ None → (file : File) × Prints missing files number file
prints missing files number line none = prints_from missing files number line (file_at files number) refl none

-- what PRINT# gives where it goes on
prints_gives : (missing : File → Bool) (files : Files) (number : ℕ) (line : Text) (file : File) → Prints missing files number file
    → effect_of missing (standing files) (PrintTo number line) ≡ printed_to line number file files
prints_gives missing files number line file p =
    ap (λ f. unlistening (commanding missing (standing files) number line f)) p.is
    ∙ ap (λ b. unlistening (cond b (stopping DeviceNotPresent (listen_to file ∷ []) (standing files)) (record { elements = listen_to file ∷ map Byte (printed_bytes line number); screen = []; stop = None; after = record { files = files; channel = number; output = file.device } }))) p.there

-- a statement that is not left out: the second run performs it too
pub step_both : Laws → (present : Present) (left_out : ℕ) (missing later : File → Bool) (files : Files) (one two : List Element) (statement : Statement)
    → IsTable files → Apart present left_out one two → ((file : File) → missing file ≡ false → later file ≡ false) → IsAddressed statement
    → (effect_of missing (standing files) statement).stop ≡ None → is_left_out left_out files statement ≡ false
    → Both present left_out missing later files one two statement
step_both laws present left_out missing later files one two (OpenFile file device second) table apart kinder addressed goes stays =
    let new : File = record { number = file; device = device; second = second } in
    let none : open_stop files file ≡ None = opening_goes (open_stop files file) new (standing files) goes in
    let none_two : open_stop (rest_of left_out files) file ≡ None = laws.openable (λ f. not (f.device == left_out)) files file table none in
    let more : rest_of left_out (files ++ new ∷ []) ≡ rest_of left_out files ++ new ∷ [] = rest_push_off left_out new files stays in
    record {
      goes_on = ap (λ s. (opening s new (standing (rest_of left_out files))).stop) none_two;
      after_one = ap (λ s. (opening s new (standing files)).after) none ∙ ap (λ s. standing (files_opened s files new)) (sym none);
      after_two = ap (λ s. (opening s new (standing (rest_of left_out files))).after) none_two ∙ ap standing (sym more) ∙ ap (λ s. standing (rest_of left_out (files_opened s files new))) (sym none);
      apart = apart_as present left_out (one ++ []) (two ++ []) _ _
          (ap (λ s. one ++ (opening s new (standing files)).elements) (sym none))
          (ap (λ s. two ++ (opening s new (standing (rest_of left_out files))).elements) (sym none_two))
          (apart_none present left_out one two apart);
    }
step_both laws present left_out missing later files one two (Cmd file line) table apart kinder addressed goes stays = absurd addressed
step_both laws present left_out missing later files one two (PrintTo number line) table apart kinder addressed goes stays =
    let first = prints missing files number line goes in
    let file = first.0 in
    let done = first.1 in
    let second : Prints later (rest_of left_out files) number file = record { is = rest_at left_out number files stays ∙ done.is; there = kinder file done.there } in
    let gives_one = prints_gives missing files number line file done in
    let gives_two = prints_gives later (rest_of left_out files) number line file second in
    record {
      goes_on = ap (λ (e : Effect). e.stop) gives_two;
      after_one = ap (λ (e : Effect). e.after) gives_one;
      after_two = ap (λ (e : Effect). e.after) gives_two;
      apart = apart_as present left_out _ _ _ _
          (ap (λ (e : Effect). one ++ e.elements) (sym gives_one))
          (ap (λ (e : Effect). two ++ e.elements) (sym gives_two))
          (apart_both laws.bus present left_out one two (listen_to file ∷ map Byte (printed_bytes line number)) apart);
    }
step_both laws present left_out missing later files one two (Print line) table apart kinder addressed goes stays = absurd addressed
step_both laws present left_out missing later files one two (CloseFile file) table apart kinder addressed goes stays =
    let same : file_at (rest_of left_out files) file ≡ file_at files file = rest_at left_out file files stays in
    record {
      goes_on = refl;
      after_one = refl;
      after_two = ap standing (rest_without left_out file files);
      apart = apart_as present left_out _ _ _ _ refl (ap (λ f. two ++ closing f) (sym same)) (closed_both laws present left_out one two (file_at files file) apart);
    }
step_both laws present left_out missing later files one two Rem table apart kinder addressed goes stays = record {
  goes_on = refl;
  after_one = refl;
  after_two = refl;
  apart = apart_none present left_out one two apart;
}

-- a statement that is left out
pub step_alone : Laws → (present : Present) (left_out : ℕ) (missing : File → Bool) (files : Files) (one two : List Element) (statement : Statement)
    → IsTable files → Apart present left_out one two → IsAddressed statement
    → (effect_of missing (standing files) statement).stop ≡ None → is_left_out left_out files statement ≡ true
    → Alone present left_out missing files one two statement
step_alone laws present left_out missing files one two (OpenFile file device second) table apart addressed goes out =
    let new : File = record { number = file; device = device; second = second } in
    let none : open_stop files file ≡ None = opening_goes (open_stop files file) new (standing files) goes in
    record {
      after_one = ap (λ s. (opening s new (standing files)).after) none ∙ ap (λ s. standing (files_opened s files new)) (sym none);
      rest = ap (λ s. rest_of left_out (files_opened s files new)) none ∙ rest_push_on left_out new files out;
      apart = apart_as present left_out (one ++ []) two _ _ (ap (λ s. one ++ (opening s new (standing files)).elements) (sym none)) refl (apart_none_one present left_out one two apart);
    }
step_alone laws present left_out missing files one two (Cmd file line) table apart addressed goes out = absurd addressed
step_alone laws present left_out missing files one two (PrintTo number line) table apart addressed goes out =
    let first = prints missing files number line goes in
    let file = first.0 in
    let done = first.1 in
    let on : (file.device == left_out) ≡ true = ap (is_on left_out) (sym done.is) ∙ out in
    let gives = prints_gives missing files number line file done in
    record {
      after_one = ap (λ (e : Effect). e.after) gives;
      rest = refl;
      apart = apart_as present left_out _ _ _ _ (ap (λ (e : Effect). one ++ e.elements) (sym gives)) refl
          (apart_alone laws.bus present left_out one two (listen_to file ∷ map Byte (printed_bytes line number)) (λ d other low. (listen_calls d file.device left_out other on, bytes_call d (printed_bytes line number) low)) apart);
    }
step_alone laws present left_out missing files one two (Print line) table apart addressed goes out = absurd addressed
step_alone laws present left_out missing files one two (CloseFile file) table apart addressed goes out = record {
  after_one = refl;
  rest = rest_gone left_out file files table.once out;
  apart = closed_alone laws present left_out one two (file_at files file) out apart;
}
step_alone laws present left_out missing files one two Rem table apart addressed goes out = let clash : false ≡ true = out in absurd (cc clash)
