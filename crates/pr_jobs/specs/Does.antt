-- Trusted: what every job over a watched reader and a watched writer does, whatever it reads and writes.
use Rattle.std.specs.Prelude.{◌≡◌, ◌↔◌, true, false, IfErr, IsErrOf, OnOk, Result}
use Rattle.pr_input.specs.Watched.{has_failed, is_flushed}
use Rattle.pr_input.specs.declared.watched.Watched.{Watched}
use Rattle.pr_jobs.specs.declared.fault.CliFault.{CliFault}
use Rattle.pr_jobs.specs.declared.fault.CliFault.TheVariants.{ReadFailed, WriteFailed}

-- no call of its reader or of its writer has failed before
abbrev pub AreFresh : {R W : Type 0} → Watched R → Watched W → Type 0
AreFresh input output = (has_failed input ≡ false) × (has_failed output ≡ false)

-- where it is done, all that it wrote is flushed; it says `ReadFailed` exactly if its reader has failed, and `WriteFailed`
-- exactly if its writer has
abbrev pub TellsFailures : {R W Y : Type 0} → Watched R → Watched W → Result Y CliFault → Type 0
TellsFailures input output result =
    OnOk result (is_flushed output ≡ true)
    × (IsErrOf result ReadFailed ↔ (has_failed input ≡ true))
    × (IsErrOf result WriteFailed ↔ (has_failed output ≡ true))

-- and each of its faults is one of its own
abbrev pub DoesJob : {R W Y : Type 0} → (own : CliFault → Type 0) → Watched R → Watched W → Result Y CliFault → Type 0
DoesJob own input output result = IfErr result own × TellsFailures input output result
