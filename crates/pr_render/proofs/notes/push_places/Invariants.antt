use Rattle.std.proofs.Common.{◌≡◌, ◌+◌, ◌≤◌, ◌++◌, drop}
use Rattle.pr_render.specs.Svg.{places_text}
use Rattle.pr_render.proofs.notes.push_places.Given as goal

-- the text so far and that of what is left make the whole
abbrev pub invariant-loop-status : goal.invariant-loop-status
invariant-loop-status l = record {
  text : l.text.items ++ places_text l.left l.place (drop l.status-index l.statuses) ≡ l.fn.text.items ++ places_text 4 1 l.statuses;
  few : l.left ≤ 4;
  place : l.place ≡ l.status-index + 1;
}
