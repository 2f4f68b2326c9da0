use Rattle.std.proofs.Common.{◌≡◌, true, false, arith, refl, length-drop}
use Rattle.std.proofs.lemmas.Grind.{common_steps}
use Rattle.std.proofs.lemmas.List.{take_rest}
use Rattle.pr_listing.proofs.PieceLemmas.{character_piece, name_piece, plain_piece}
use Rattle.pr_listing.proofs.typed.add_piece.Goals as goal

pub returns-then-not-quoted : goal.returns-then-not-quoted
returns-then-not-quoted c =
    let out : c.args.quoted ≡ false = grind (arith, common_steps) in
    rw (take_rest c.args.bytes.now 1) (plain_piece _ c.args.quoted c.args.bytes.now _ _ _ _ out c.requires refl c.in_ok-add_one.ensures.ok refl, omega (arith, length-drop 1 c.args.bytes.now))

pub returns-in_ok-rest-in-Some : goal.returns-in_ok-rest-in-Some
returns-in_ok-rest-in-Some c =
    let within : c.args.quoted ≡ true = grind (arith, common_steps) in
    let name = rw (take_rest c.args.bytes.now 1) at c.in_ok-rest-in-Some.ensures in
    (name_piece _ _ c.args.quoted c.args.bytes.now _ _ _ within c.requires c.in-Some.ensures name.0, omega (arith, name.1, length-drop 1 c.args.bytes.now))

pub returns-in_ok-add_character-in-None : goal.returns-in_ok-add_character-in-None
returns-in_ok-add_character-in-None c =
    let within : c.args.quoted ≡ true = grind (arith, common_steps) in
    rw (take_rest c.args.bytes.now 1) (character_piece _ c.args.quoted c.args.bytes.now _ _ _ _ within c.requires c.in-None.ensures refl c.in_ok-add_character-in-None.ensures refl, omega (arith, length-drop 1 c.args.bytes.now))
