-- Words of calls: what a fault of a part is to the program; lack of memory is its own. Who uses these `From` by themselves believes them;
-- no claim rests on them.
use Rattle.pr_wire.specs.declared.checker.CheckFault.{CheckFault}
use Rattle.pr_wire.specs.declared.checker.CheckFault.TheVariants.{BadLine, Unlawful}
use Rattle.pr_wire.specs.declared.text.TraceFault.{TraceFault}
use Rattle.pr_wire.specs.declared.text.TraceFault.TheVariants as trace
use Rattle.pr_basic.specs.declared.fault.ScriptFault.{ScriptFault}
use Rattle.pr_basic.specs.declared.fault.ScriptFault.TheVariants as script
use Rattle.pr_capture.specs.declared.fault.CaptureFault.{CaptureFault}
use Rattle.pr_capture.specs.declared.fault.CaptureFault.TheVariants as capture
use Rattle.pr_input.specs.declared.read_write.ReadFault.{ReadFault}
use Rattle.pr_input.specs.declared.read_write.ReadFault.TheVariants as read
use Rattle.pr_jobs.specs.declared.fault.CliFault.{CliFault}
use Rattle.pr_jobs.specs.declared.fault.CliFault.TheVariants.{Script, Trace, Wave, Capture, Picture, TooLarge, NoMemory, ReadFailed}

-- a fault of reading
abbrev pub fault_of_read : ReadFault → CliFault
fault_of_read read.TooLarge = TooLarge
fault_of_read read.NoMemory = NoMemory
fault_of_read read.ReadFailed = ReadFailed

-- a fault of a script
abbrev pub fault_of_script : ScriptFault → CliFault
fault_of_script (script.UnknownWord line) = Script (script.UnknownWord line)
fault_of_script (script.BadNumber line) = Script (script.BadNumber line)
fault_of_script (script.BadDevice line) = Script (script.BadDevice line)
fault_of_script (script.BadSecond line) = Script (script.BadSecond line)
fault_of_script (script.BadByte line) = Script (script.BadByte line)
fault_of_script (script.TooLong line) = Script (script.TooLong line)
fault_of_script (script.TooMany line) = Script (script.TooMany line)
fault_of_script script.NoMemory = NoMemory

-- a fault of a trace text or of its edges
abbrev pub fault_of_check : CheckFault → CliFault
fault_of_check (BadLine n) = Trace (trace.BadLine n)
fault_of_check (Unlawful fault) = Wave fault

-- a fault of a recording
abbrev pub fault_of_capture : CaptureFault → CliFault
fault_of_capture capture.NoMemory = NoMemory
fault_of_capture f = Capture f

-- a fault of a trace text
abbrev pub fault_of_trace : TraceFault → CliFault
fault_of_trace (trace.BadLine n) = Trace (trace.BadLine n)
fault_of_trace trace.NoMemory = NoMemory
