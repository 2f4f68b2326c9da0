-- Laws: the frames and inputs that come with edges, and what a device hears of frames. The functions of src/laws.rt prove them, and
-- callers take them from there.
use Rattle.std.specs.Prelude.{◌≡◌, ℕ, false, ◌||◌, if◌then◌else◌, List, [], ◌∷◌, ◌++◌}
use Rattle.std.specs.Option.{option_to_list}
use Rattle.pr_wire.specs.declared.Edge.{Edge}
use Rattle.pr_wire.specs.declared.Frame.{Frame}
use Rattle.pr_wire.specs.Pieces.{IsLawful, Spells}
use Rattle.pr_wire.specs.Table.{IsAllowed}
use Rattle.pr_receiver.specs.Heard.{is_listen, is_unlisten, is_listening, is_called, input_of, heard_of}
use Rattle.pr_receiver.specs.Given.{frames_ended, input_at, inputs_behind, inputs_with}

-- a trace gives a device, edge by edge, exactly what it hears of the frames that the trace spells
abbrev pub TracesGiveWhatIsHeard : Type 0
TracesGiveWhatIsHeard =
    (device : ℕ) (edges : List Edge) (frames : List Frame) → Spells edges frames → inputs_with device edges
    ≡ heard_of device frames

-- the edges of a trace end just the frames that it spells
abbrev pub TracesEndWhatTheySpell : Type 0
TracesEndWhatTheySpell = (edges : List Edge) (frames : List Frame) → Spells edges frames → frames_ended edges ≡ frames

-- the frames that the edges of a front end are a front of those that all the edges end
abbrev pub FrontsEndAFront : Type 0
FrontsEndAFront =
    (edges more : List Edge) → (later : List Frame) × (frames_ended (edges ++ more) ≡ frames_ended edges ++ later)

-- the frames that the edges of a front of a trace end are a front of those that the trace spells
abbrev pub FrontsOfTracesEndAFront : Type 0
FrontsOfTracesEndAFront =
    (edges more : List Edge) (frames : List Frame) → Spells (edges ++ more) frames
    → (later : List Frame) × (frames ≡ frames_ended edges ++ later)

-- whatever the edges, they give a device what it hears of the frames that they end
abbrev pub EdgesGiveWhatIsHeard : Type 0
EdgesGiveWhatIsHeard =
    (device : ℕ) (edges : List Edge) → inputs_with device edges ≡ heard_of device (frames_ended edges)

-- the inputs of edges and more edges are those of the first, then those of the others
abbrev pub InputsOfTwoParts : Type 0
InputsOfTwoParts =
    (device : ℕ) (before edges : List Edge)
    → inputs_with device (before ++ edges) ≡ inputs_with device before ++ inputs_behind device before edges

-- one edge more gives at most one input more
abbrev pub InputsOfOneMore : Type 0
InputsOfOneMore =
    (device : ℕ) (before : List Edge) (edge : Edge)
    → inputs_with device (before ++ edge ∷ []) ≡ inputs_with device before
    ++ option_to_list (input_at device before edge)

-- a lawful trace is allowed
abbrev pub LawfulIsAllowed : Type 0
LawfulIsAllowed = (edges : List Edge) → IsLawful edges → IsAllowed edges

-- a front of allowed edges is allowed
abbrev pub FrontsAreAllowed : Type 0
FrontsAreAllowed = (edges more : List Edge) → IsAllowed (edges ++ more) → IsAllowed edges

-- a device hears of one frame more what that gives it after the others
abbrev pub HeardOfOneMore : Type 0
HeardOfOneMore =
    (device : ℕ) (frames : List Frame) (frame : Frame)
    → heard_of device (frames ++ frame ∷ []) ≡ heard_of device frames ++ option_to_list (input_of device frames frame)

-- an UNLISTEN ends listening, a LISTEN to the device begins it, and no other frame changes it
abbrev pub ListeningAfterOneMore : Type 0
ListeningAfterOneMore =
    (device : ℕ) (frames : List Frame) (frame : Frame)
    → is_listening device (frames ++ frame ∷ [])
    ≡ (if is_unlisten frame then false else (is_listening device frames || is_listen device frame))

-- only the last frame can have called the device
abbrev pub CalledAfterOneMore : Type 0
CalledAfterOneMore =
    (device : ℕ) (frames : List Frame) (frame : Frame) → is_called device (frames ++ frame ∷ [])
    ≡ is_listen device frame
