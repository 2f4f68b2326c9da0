-- Words of calls: what ties edges that a receiver takes at once to the same edges one by one. Who uses `Receiver::pass_frame` by itself
-- believes them; no claim about a run rests on them.
use Rattle.std.specs.Prelude.{◌≡◌, ℕ, ◌+◌, ◌-◌, ◌<◌, List, [], ◌∷◌, ◌++◌, take, Option, None}
use Rattle.std.specs.Option.{option_to_list}
use Rattle.pr_wire.specs.declared.Edge.{Edge}
use Rattle.pr_wire.specs.declared.Frame.{Frame}
use Rattle.pr_wire.specs.Table.{IsAllowed}
use Rattle.pr_page.specs.declared.input.Input.{Input}
use Rattle.pr_receiver.specs.Given.{frames_ended, inputs_with}
use Rattle.pr_receiver.specs.Taken.{HasReceived, device_of, number_taken, refusal_of}
use Rattle.pr_receiver.specs.declared.state.Progress.{Progress}

-- edges after others end one frame
abbrev pub EndOneFrame : List Edge → List Edge → Type 0
EndOneFrame before edges = (frame : Frame) × (frames_ended (before ++ edges) ≡ frames_ended before ++ frame ∷ [])

-- edges after others end no frame, and so bring no device an input
abbrev pub EndNoFrame : List Edge → List Edge → Type 0
EndNoFrame before edges = frames_ended (before ++ edges) ≡ frames_ended before

-- edges after others bring a device this input, if it is one, and no other
abbrev pub BringInput : ℕ → List Edge → List Edge → Option Input → Type 0
BringInput device before edges input =
    inputs_with device (before ++ edges) ≡ inputs_with device before ++ option_to_list input

-- a receiver has taken this many edges in front, edge by edge, and this input came with the last of them; if none, it is as it was
pub record TakesAtOnce (old : Progress) (edges : List Edge) (n : ℕ) (input : Option Input)
    (new : Progress) : Type 0 where
  pub taken : (before : List Edge) → HasReceived before old → HasReceived (before ++ take n edges) new
  pub inputs : (before : List Edge) → HasReceived before old → BringInput (device_of old) before (take n edges) input
  pub ends : 0 < n → (before : List Edge) → HasReceived before old → EndOneFrame before (take n edges)
  pub sooner : (before : List Edge) → HasReceived before old → EndNoFrame before (take (n - 1) edges)
  pub allowed : (before : List Edge) → HasReceived before old → IsAllowed (before ++ take n edges)
  pub count : number_taken new ≡ number_taken old + n
  pub works : 0 < n → refusal_of old ≡ None
  pub refusal : refusal_of new ≡ refusal_of old
  pub stays : n ≡ 0 → (new ≡ old) × (input ≡ None)
  pub device : device_of new ≡ device_of old
