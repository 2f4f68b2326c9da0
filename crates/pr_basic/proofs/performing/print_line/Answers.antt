use Rattle.std.proofs.Common.{true, false, ◌∷◌, [], ◌++◌, sym, ap, ◌∙◌, append_assoc}
use Rattle.std.proofs.lemmas.Bool.{le-leb, lt-leb}
use Rattle.pr_basic.specs.Text.{Text}
use Rattle.pr_basic.specs.Performing.{printing}
use Rattle.pr_basic.proofs.PrintingLemmas.{printing_push, printed_ends}
use Rattle.pr_basic.proofs.PrintingLemmas.{laws_of}
use Rattle.pr_basic.proofs.performing.print_line.Goals as goal

pub returns-in_ok-chrout-2-clause-ok : goal.returns-in_ok-chrout-2-clause-ok
returns-in_ok-chrout-2-clause-ok g c working =
    let old = c.args.channels.now in
    let items = c.args.line.now.bytes in
    let printed = c.in_ok-print_bytes.ensures.ok working ∙ ap (λ xs. printing xs old) (c.deref.ensures.value ∙ ap (λ (t : Text). t.bytes) c.line.view_is) in
    let returned = c.in_ok-chrout.ensures.ok ∙ printing_push (laws_of c.elements_add_up.ensures.two_parts c.elements_add_up.ensures.none) items 13 old c.print_bytes.new.channels working printed in
    let fed = c.in_ok-chrout-2.ensures.ok ∙ printing_push (laws_of c.elements_add_up.ensures.two_parts c.elements_add_up.ensures.none) (items ++ 13 ∷ []) 10 old c.chrout.new.self working returned in
    fed ∙ ap (λ xs. printing xs old) (append_assoc items (13 ∷ []) (10 ∷ []) ∙ sym (printed_ends c.args.line.now c.args.channel true (sym (ap (λ (t : Text). t.ends) c.line.view_is) ∙ c.if-line.true) (le-leb 128 c.args.channel c.if-channel-ge-LINE_FEED_CHANNEL.true)))

pub returns-else-channel-ge-LINE_FEED_CHANNEL-clause-ok : goal.returns-else-channel-ge-LINE_FEED_CHANNEL-clause-ok
returns-else-channel-ge-LINE_FEED_CHANNEL-clause-ok g c working =
    let old = c.args.channels.now in
    let items = c.args.line.now.bytes in
    let printed = c.in_ok-print_bytes.ensures.ok working ∙ ap (λ xs. printing xs old) (c.deref.ensures.value ∙ ap (λ (t : Text). t.bytes) c.line.view_is) in
    let returned = c.in_ok-chrout.ensures.ok ∙ printing_push (laws_of c.elements_add_up.ensures.two_parts c.elements_add_up.ensures.none) items 13 old c.print_bytes.new.channels working printed in
    returned ∙ ap (λ xs. printing xs old) (sym (printed_ends c.args.line.now c.args.channel false (sym (ap (λ (t : Text). t.ends) c.line.view_is) ∙ c.if-line.true) (lt-leb 128 c.args.channel c.if-channel-ge-LINE_FEED_CHANNEL.false)))
