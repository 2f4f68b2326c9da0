use Rattle.std.proofs.Common.{ap, sym, ◌∙◌, ◌≡◌, ◌+◌, ◌++◌, ◌||◌, ◌==◌, List, drop, map, true}
use Rattle.pr_serial.specs.declared.Item.{Item}
use Rattle.pr_wire.specs.Choices.{left}
use Rattle.pr_wire.specs.declared.delay.Choices.{Choices}
use Rattle.pr_wire.specs.declared.delay.Kind.TheVariants.{Bb, Aw}
use Rattle.pr_wire.specs.Delays.{delay_at}
use Rattle.pr_wire.specs.Pieces.{FrameTimes, answer_edges, ending_edges, last_ack}
use Rattle.pr_bus.specs.declared.talker.Talker.{Talker}
use Rattle.pr_bus.specs.Timed as all
use Rattle.pr_bus.specs.Timed.{taking, answer_at, due_edges, second_frame}
use Rattle.pr_bus.specs.Talk.{IsTuned, printers_of, command_frame, second_of, ending_of}
use Rattle.pr_bus.specs.Talking.{lines_of}
use Rattle.pr_bus.proofs.FrameLemmas.{delay-drop, drop-twice}
use Rattle.pr_bus.proofs.PrinterLemmas.{taking-twice}
use Rattle.pr_bus.proofs.AttentionLemmas.{IsCommanded, commanded, first_of, last_of, first-is, second-is, final-is, same-then, both, attention-edges, attention-state}
use Rattle.pr_bus.proofs.talker.Talker.attention.Goals as goal

aw-is : (c : goal.In_ok-release) → c.from-2.result ≡ delay_at Aw (left c.args.self.now.computer) 1
aw-is c = c.from-2.ensures ∙ c.next-2.ensures.delay ∙ ap (λ l. delay_at Aw l 0) c.next.ensures.left ∙ delay-drop Aw 1 (left c.args.self.now.computer) 0

time-is : (c : goal.In_ok-release) → c.args.self.now.time + c.from.result ≡ c.args.self.now.time + delay_at Bb (left c.args.self.now.computer) 0
time-is c = ap (λ d. c.args.self.now.time + d) (c.from.ensures ∙ c.next.ensures.delay)

look-is : (c : goal.In_ok-release) → c.args.self.now.time + c.from.result + c.from-2.result ≡ c.args.self.now.time + delay_at Bb (left c.args.self.now.computer) 0 + delay_at Aw (left c.args.self.now.computer) 1
look-is c = ap (λ d. d + c.from-2.result) (time-is c) ∙ ap (λ d. c.args.self.now.time + delay_at Bb (left c.args.self.now.computer) 0 + d) (aw-is c)

answer-computer : (c : goal.In_ok-release) → left c.answer.new.self.computer ≡ drop 2 (left c.args.self.now.computer)
answer-computer c = ap (λ (x : Choices). left x) c.answer.ensures.computer ∙ c.next-2.ensures.left ∙ ap (λ l. drop 1 l) c.next.ensures.left ∙ drop-twice 1 1 (left c.args.self.now.computer)

answer-printers : (c : goal.In_ok-release) → printers_of c.answer.new.self ≡ map (taking 1) (printers_of c.args.self.now)
answer-printers c = both (taking 1) c.args.self.now c.answer.new.self c.in_ok-answer.ensures.four c.in_ok-answer.ensures.five

command-computer : (c : goal.In_ok-release) → left c.command.new.self.computer ≡ drop 19 (left c.args.self.now.computer)
command-computer c = c.in_ok-ack.ensures.computer ∙ ap (λ l. drop 17 l) (answer-computer c) ∙ drop-twice 2 17 (left c.args.self.now.computer)

command-printers : (c : goal.In_ok-release) → printers_of c.command.new.self ≡ map (taking 3) (printers_of c.args.self.now)
command-printers c = both (taking 2) c.answer.new.self c.command.new.self c.in_ok-ack.ensures.four c.in_ok-ack.ensures.five ∙ ap (λ (l : List all.TimedPrinter). map (taking 2) l) (answer-printers c) ∙ taking-twice 1 2 (printers_of c.args.self.now)

frame-is : (c : goal.In_ok-release) → command_frame c.answer.new.self (c.args.self.now.time + c.from.result + c.from-2.result) c.args.first ≡ first_of c.args.self.now c.args.first
frame-is c = first-is c.args.self.now c.answer.new.self c.args.first _ (look-is c) (answer-computer c) (answer-printers c)

ack-is : (c : goal.In_ok-release) → c.in_ok-ack.ack ≡ (first_of c.args.self.now c.args.first).ack
ack-is c = c.in_ok-ack.ensures.ack ∙ ap (λ (f : FrameTimes). f.ack) (frame-is c)

more-is : (c : goal.In_ok-release) → second_of c.command.new.self c.in_ok-ack.ack c.args.second ≡ second_frame (first_of c.args.self.now c.args.first).ack c.args.second (drop 19 (left c.args.self.now.computer)) (printers_of c.args.self.now)
more-is c = ap (λ n. second_of c.command.new.self n c.args.second) (ack-is c) ∙ second-is c.args.self.now c.command.new.self (first_of c.args.self.now c.args.first).ack c.args.second (command-computer c) (command-printers c)

last-is : (c : goal.In_ok-release) → c.in_ok-ack-2.ack ≡ last_of c.args.self.now c.args.first c.args.second
last-is c = c.in_ok-ack-2.ensures.ack ∙ final-is c.in_ok-ack.ack (first_of c.args.self.now c.args.first) (second_of c.command.new.self c.in_ok-ack.ack c.args.second) (ack-is c) ∙ ap (λ m. last_ack (first_of c.args.self.now c.args.first).ack m) (more-is c)

here : (c : goal.In_ok-release) (before : List Item) → IsTuned before c.args.self.now → IsCommanded before c.args.self.now c.tune-2.new.self c.args.first c.args.second
here c before i =
    commanded c.items_make_listeners.ensures before c.args.self.now c.command.new.self c.second.new.self c.tune-2.new.self c.args.first c.args.second i
    (same-then c.answer.ensures.same.four (same-then c.command.ensures.same.four c.second.ensures.same.four))
    (same-then c.answer.ensures.same.five (same-then c.command.ensures.same.five c.second.ensures.same.five))
    (c.second.ensures.listens.four ∙ c.command.ensures.listens.four ∙ c.answer.ensures.listens.four)
    (c.second.ensures.listens.five ∙ c.command.ensures.listens.five ∙ c.answer.ensures.listens.five)
    (command-computer c) (command-printers c)
    c.in_ok-ack-2.ensures.computer c.in_ok-ack-2.ensures.four c.in_ok-ack-2.ensures.five c.tune-2.ensures

there : (c : goal.In_ok-release) → (c.args.self.now.four.present || c.args.self.now.five.present) ≡ true
there c = sym c.is_answered.ensures ∙ c.if-not-is_answered.false

pub returns-clause-edges : goal.returns-clause-edges
returns-clause-edges c = λ before i.
    attention-edges before c.args.self.now c.tune-2.new.self c.args.first c.args.second (c.args.self.now.time + c.from.result) c.in_ok-ack-2.ack
    (command_frame c.answer.new.self (c.args.self.now.time + c.from.result + c.from-2.result) c.args.first) (second_of c.command.new.self c.in_ok-ack.ack c.args.second)
    c.push_due.new.edges.items c.push_call.new.edges.items c.answer.new.self.edges.items c.command.new.self.edges.items c.second.new.self.edges.items c.release.new.self.edges.items
    c.requires.may_send (there c) (here c before i) (last-is c) (time-is c) (frame-is c) (more-is c)
    (c.in_ok-push_due.ensures ∙ ap (λ l. l ++ due_edges (lines_of c.args.self.now.lines)) c.clear.ensures.items)
    c.in_ok-push_call.ensures
    (c.in_ok-answer.ensures.edges ∙ ap (λ d. c.push_call.new.edges.items ++ answer_edges (answer_at (lines_of c.args.self.now.lines) (c.args.self.now.time + c.from.result) (printers_of c.args.self.now)) (c.args.self.now.time + c.from.result + d)) (aw-is c))
    c.in_ok-ack.ensures.edges c.in_ok-ack-2.ensures.edges
    (c.in_ok-release.ensures.edges ∙ ap (λ (x : Talker). x.edges.items ++ ending_edges (ending_of c.tune-2.new.self c.in_ok-ack-2.ack (c.args.first == 63))) c.tune-2.ensures)

pub returns-clause-state : goal.returns-clause-state
returns-clause-state c = λ before i.
    attention-state before c.args.self.now c.tune-2.new.self c.release.new.self c.args.first c.args.second c.in_ok-ack-2.ack
    c.requires.may_send (there c) (here c before i) (last-is c)
    c.in_ok-release.ensures.now c.in_ok-release.ensures.lines c.in_ok-release.ensures.computer c.in_ok-release.ensures.four c.in_ok-release.ensures.five

pub returns-clause-tuned : goal.returns-clause-tuned
returns-clause-tuned c = λ before i.
    let h = here c before i in
    record {
      four_is = c.release.ensures.same.four.device ∙ h.tuned.four_is;
      five_is = c.release.ensures.same.five.device ∙ h.tuned.five_is;
      four_listens = c.release.ensures.listens.four ∙ h.tuned.four_listens;
      five_listens = c.release.ensures.listens.five ∙ h.tuned.five_listens;
    }
