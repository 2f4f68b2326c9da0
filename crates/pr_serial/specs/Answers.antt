-- Trusted: who listens, and what is answered.
use Rattle.std.specs.Prelude.{ℕ, Bool, false, not, ◌&&◌, ◌||◌, ◌==◌, ◌+◌, List, [], map, drop}
use Rattle.std.specs.List.{after_last, list_any}
use Rattle.pr_base.specs.Bytes as command
use Rattle.pr_serial.specs.declared.Present.{Present}
use Rattle.pr_serial.specs.declared.Item.{Item}
use Rattle.pr_serial.specs.declared.Item.TheVariants.{Attention, Sent}
use Rattle.pr_page.specs.Before.{with_before}

-- UNLISTEN
abbrev pub is_unlisten : Item → Bool
is_unlisten (Attention first second) = first == command.unlisten
is_unlisten (Sent b eoi) = false

-- LISTEN to this device
abbrev pub is_listen : ℕ → Item → Bool
is_listen device (Attention first second) = first == command.listen + device
is_listen device (Sent b eoi) = false

-- the device listens after these items: after the last UNLISTEN there is a LISTEN to it
abbrev pub is_listener : ℕ → List Item → Bool
is_listener device before = list_any (is_listen device) (after_last is_unlisten before)

-- an attention is answered if a printer is present, a byte if a present printer listens
abbrev pub is_answered : Present → List Item → Item → Bool
is_answered present before (Attention first second) = present.four || present.five
is_answered present before (Sent b eoi) =
    (present.four && is_listener 4 before) || (present.five && is_listener 5 before)

-- for each item, whether it is answered
abbrev pub answers_of : Present → List Item → List Bool
answers_of present items = map (λ p. is_answered present p.0 p.1) (with_before [] items)

-- some item after the first n is not answered
abbrev pub is_lacking : Present → ℕ → List Item → Bool
is_lacking present n items = list_any not (drop n (answers_of present items))
