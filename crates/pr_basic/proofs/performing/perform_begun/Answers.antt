use Rattle.std.proofs.Common.{None, is_some, cond, refl, sym, ap, ◌∙◌, subst}
use Rattle.pr_channels.specs.Files.{open_stop, file_at}
use Rattle.pr_basic.specs.declared.statement.Statement.{Statement}
use Rattle.pr_basic.specs.declared.statement.Statement.TheVariants.{OpenFile, Cmd, PrintTo, Print, Rem}
use Rattle.pr_basic.specs.Statements.{commanding}
use Rattle.pr_basic.specs.Performing.{setting_of, seems_missing, effect_on, Performs}
use Rattle.pr_basic.proofs.EffectLemmas.{performs_here, opening_channel, commanding_channel, unlistening_channel, print_gives, print_channel, rem_gives}
use Rattle.pr_basic.proofs.PrintingLemmas.{laws_of}
use Rattle.pr_basic.proofs.performing.perform_begun.Goals as goal

pub returns-in_ok-stop-in-OpenFile-clause-ok : goal.returns-in_ok-stop-in-OpenFile-clause-ok
returns-in_ok-stop-in-OpenFile-clause-ok g c working =
    let old = c.args.channels.now in
    let channel = c.args.channel in
    let gives = c.in_ok-stop-in-OpenFile.ensures.ok working channel in
    let P : Statement → Type 0 = λ s. Performs old c.open.new.channels old.status c.channel_after-number.result c.in_ok-stop-in-OpenFile.stop (effect_on old old.status channel s) in
    subst P (sym c.in-OpenFile.is) (performs_here old c.open.new.channels c.channel_after-number.result channel c.in_ok-stop-in-OpenFile.stop (OpenFile c.in-OpenFile.file c.in-OpenFile.device c.in-OpenFile.second) gives
    (λ stop. c.channel_after-number.ensures ∙ ap (λ s. cond (is_some s) 0 channel) stop ∙ sym (opening_channel (open_stop old.files c.in-OpenFile.file) (record { number = c.in-OpenFile.file; device = c.in-OpenFile.device; second = c.in-OpenFile.second }) (setting_of old channel))))

pub returns-in_ok-stop-in-Cmd-clause-ok : goal.returns-in_ok-stop-in-Cmd-clause-ok
returns-in_ok-stop-in-Cmd-clause-ok g c working =
    let old = c.args.channels.now in
    let channel = c.args.channel in
    let gives = c.in_ok-stop-in-Cmd.ensures.ok working channel in
    let P : Statement → Type 0 = λ s. Performs old c.command.new.channels old.status c.channel_after-number-in-Cmd.result c.in_ok-stop-in-Cmd.stop (effect_on old old.status channel s) in
    subst P (sym c.in-Cmd.is) (performs_here old c.command.new.channels c.channel_after-number-in-Cmd.result channel c.in_ok-stop-in-Cmd.stop (Cmd c.in-Cmd.file c.in-Cmd.line) gives
    (λ stop. c.channel_after-number-in-Cmd.ensures ∙ ap (λ s. cond (is_some s) 0 c.in-Cmd.file) stop ∙ sym (commanding_channel (seems_missing old.present old.status old.elements) (setting_of old channel) c.in-Cmd.file c.in-Cmd.line (file_at old.files c.in-Cmd.file))))

pub returns-in_ok-stop-in-PrintTo-clause-ok : goal.returns-in_ok-stop-in-PrintTo-clause-ok
returns-in_ok-stop-in-PrintTo-clause-ok g c working =
    let old = c.args.channels.now in
    let channel = c.args.channel in
    let gives = c.in_ok-stop-in-PrintTo.ensures.ok working channel in
    let P : Statement → Type 0 = λ s. Performs old c.print_to.new.channels old.status 0 c.in_ok-stop-in-PrintTo.stop (effect_on old old.status channel s) in
    subst P (sym c.in-PrintTo.is) (performs_here old c.print_to.new.channels 0 channel c.in_ok-stop-in-PrintTo.stop (PrintTo c.in-PrintTo.file c.in-PrintTo.line) gives
    (λ stop. sym (unlistening_channel (commanding (seems_missing old.present old.status old.elements) (setting_of old channel) c.in-PrintTo.file c.in-PrintTo.line (file_at old.files c.in-PrintTo.file)) c.in-PrintTo.file (commanding_channel (seems_missing old.present old.status old.elements) (setting_of old channel) c.in-PrintTo.file c.in-PrintTo.line (file_at old.files c.in-PrintTo.file)))))

pub returns-in_ok-print_line-in-Print-clause-ok : goal.returns-in_ok-print_line-in-Print-clause-ok
returns-in_ok-print_line-in-Print-clause-ok g c working =
    let old = c.args.channels.now in
    let channel = c.args.channel in
    let P : Statement → Type 0 = λ s. Performs old c.print_line.new.channels old.status channel None (effect_on old old.status channel s) in
    subst P (sym c.in-Print.is) (performs_here old c.print_line.new.channels channel channel None (Print c.in-Print.line)
    (print_gives (laws_of c.elements_add_up.ensures.two_parts c.elements_add_up.ensures.none) c.in-Print.line channel old c.print_line.new.channels working (c.in_ok-print_line-in-Print.ensures.ok working))
    (λ stop. print_channel (seems_missing old.present old.status old.elements) (setting_of old channel) c.in-Print.line))

pub returns-in-Rem-clause-ok : goal.returns-in-Rem-clause-ok
returns-in-Rem-clause-ok g c working =
    let old = c.args.channels.now in
    let channel = c.args.channel in
    let P : Statement → Type 0 = λ s. Performs old old old.status channel None (effect_on old old.status channel s) in
    subst P (sym c.in-Rem.is) (performs_here old old channel channel None Rem (rem_gives (laws_of c.elements_add_up.ensures.two_parts c.elements_add_up.ensures.none) channel old working) (λ stop. refl))
