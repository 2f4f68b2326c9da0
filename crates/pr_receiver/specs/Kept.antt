-- Linking words: what a device keeps of the frames on a bus. No reader needs to believe them.
use Rattle.std.specs.Prelude.{ℕ, List}
use Rattle.pr_wire.specs.declared.Frame.{Frame}
use Rattle.pr_receiver.specs.Heard.{is_listening, is_called}
use Rattle.pr_receiver.specs.declared.listener.Listener.{Listener}

-- what a device keeps of frames
abbrev pub kept_of : ℕ → List Frame → Listener
kept_of device frames =
    record { device = device; listens = is_listening device frames; called = is_called device frames }
