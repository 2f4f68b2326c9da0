-- Trusted: the frames of the items that are answered.
use Rattle.std.specs.Prelude.{true, false, cond, List, [], ◌∷◌, Some, None}
use Rattle.std.specs.List.{flat_map}
use Rattle.pr_serial.specs.declared.Present.{Present}
use Rattle.pr_serial.specs.declared.Item.{Item}
use Rattle.pr_serial.specs.declared.Item.TheVariants.{Attention, Sent}
use Rattle.pr_page.specs.Before.{with_before}
use Rattle.pr_serial.specs.Answers.{is_answered}
use Rattle.pr_wire.specs.declared.Frame.{Frame}

-- the frames of one item
abbrev pub item_frames : Item → List Frame
item_frames (Attention b None) = record { attention = true; byte = b; eoi = false } ∷ []
item_frames (Attention b (Some c)) =
    record { attention = true; byte = b; eoi = false }
    ∷ record { attention = true; byte = c; eoi = false } ∷ []
item_frames (Sent b eoi) = record { attention = false; byte = b; eoi = eoi } ∷ []

-- the frames of those items that are answered, where other items came before
abbrev pub frames_after : Present → List Item → List Item → List Frame
frames_after present before items =
    flat_map (λ p. cond (is_answered present p.0 p.1) (item_frames p.1) [])
    (with_before before items)

-- the frames of the items that are answered
abbrev pub answered_frames : Present → List Item → List Frame
answered_frames present items = frames_after present [] items
