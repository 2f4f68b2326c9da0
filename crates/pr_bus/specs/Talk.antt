-- Machine steps: the talker as the wires of the timed trace, and what each of its steps does. No reader needs to believe it.
use Rattle.std.specs.Prelude.{◌≡◌, ℕ, Bool, false, cond, List, ◌++◌, map, Option, Some, None, ◌+◌, ◌&&◌, ◌||◌, ◌==◌, drop, if◌then◌else◌}
use Rattle.pr_base.specs.Bytes as command
use Rattle.pr_wire.specs.declared.delay.Kind.TheVariants.{Aw, R, Cr, Dr}
use Rattle.pr_wire.specs.Delays.{delay_at}
use Rattle.pr_serial.specs.declared.Item.{Item}
use Rattle.pr_serial.specs.Answers.{is_listener}
use Rattle.pr_wire.specs.Choices.{left}
use Rattle.pr_wire.specs.Pieces.{FrameTimes, SecondFrame, Ending}
use Rattle.pr_bus.specs.declared.talker.Talker.{Talker}
use Rattle.pr_bus.specs.declared.printer.TimedPrinter as one
use Rattle.pr_bus.specs.Timed.{Lines, Free, Pulled, Due, taking, TimedBus, TimedPrinter, greatest, frame_times, data_hearers, command_hearers}
use Rattle.pr_bus.specs.Printers.{printer_list, heeding, IsSamePrinter}
use Rattle.pr_bus.specs.Talking.{lines_of}

-- the wires, after these items
abbrev pub state_of : List Item → Talker → TimedBus
state_of before t = record {
  before = before;
  now = t.time;
  lines = lines_of t.lines;
  computer = left t.computer;
  printers = printer_list t.four ++ printer_list t.five;
}

-- the talker knows who listens after these items
pub record IsTuned (before : List Item) (t : Talker) : Type 0 where
  pub four_is : t.four.device ≡ 4
  pub five_is : t.five.device ≡ 5
  pub four_listens : t.four.listens ≡ is_listener 4 before
  pub five_listens : t.five.listens ≡ is_listener 5 before

-- it is the talker that it was, with its printers and numbers
pub record IsSameTalker (t u : Talker) : Type 0 where
  pub four : IsSamePrinter t.four u.four
  pub five : IsSamePrinter t.five u.five
  pub numbers : u.computer.numbers ≡ t.computer.numbers

pub record IsSameTuned (t u : Talker) : Type 0 where
  pub four : u.four.listens ≡ t.four.listens
  pub five : u.five.listens ≡ t.five.listens

-- the moments of a frame for those that listen
abbrev pub heard_frame : Talker → ℕ → Bool → ℕ → FrameTimes
heard_frame t look eoi byte =
    frame_times look eoi byte (left t.computer) (data_hearers eoi (heeding t.four ++ heeding t.five))

-- the printers that are present
abbrev pub printers_of : Talker → List TimedPrinter
printers_of t = printer_list t.four ++ printer_list t.five

-- the moments of a command's frame
abbrev pub command_frame : Talker → ℕ → ℕ → FrameTimes
command_frame t look byte = frame_times look false byte (left t.computer) (command_hearers 0 (printers_of t))

-- when ATN is released, when DATA will be, and when CLOCK is after UNLISTEN
abbrev pub freed_at : Talker → ℕ → ℕ
freed_at t ack = ack + delay_at R (left t.computer) 0

abbrev pub due_at : Talker → ℕ → ℕ
due_at t ack = freed_at t ack + greatest (map (λ (p : TimedPrinter). delay_at Dr p.numbers 0) (printers_of t))

abbrev pub closed_at : Talker → ℕ → ℕ
closed_at t ack = freed_at t ack + delay_at Cr (left t.computer) 1

abbrev pub ending_of : Talker → ℕ → Bool → Ending
ending_of t ack unlisten = record {
  atn = freed_at t ack;
  line = cond unlisten (Some (due_at t ack)) None;
  clock = cond unlisten (Some (closed_at t ack)) None;
}

-- the end of an attention
abbrev pub end_of : Talker → ℕ → Bool → ℕ
end_of t ack unlisten = cond unlisten (closed_at t ack) (freed_at t ack)

-- the lines after an attention
abbrev pub rest_of : Talker → ℕ → Bool → Lines
rest_of t ack unlisten =
    cond unlisten Free
    (cond ((t.four.present && t.four.listens) || (t.five.present && t.five.listens)) Pulled (Due (due_at t ack)))

-- a second command's frame, after the first acknowledgement
abbrev pub second_of : Talker → ℕ → Option ℕ → Option SecondFrame
second_of t k None = None
second_of t k (Some b) =
    let look = k + delay_at Aw (left t.computer) 0 in
    Some (record {
      look = look;
      sent = frame_times look false b (drop 1 (left t.computer)) (command_hearers 0 (printers_of t));
    })

-- how many numbers a second command takes of the computer, and which of a printer
abbrev pub second_takes : Option ℕ → ℕ
second_takes None = 0
second_takes (Some b) = 18

abbrev pub second_taking : Option ℕ → List TimedPrinter → List TimedPrinter
second_taking None ps = ps
second_taking (Some b) ps = map (taking 2) ps

-- a printer after it heard who shall listen
abbrev pub tuned_to : ℕ → one.TimedPrinter → one.TimedPrinter
tuned_to first p =
    record p {
      listens = if first == command.unlisten then false
          else (p.listens || first == command.listen + p.device);
    }
