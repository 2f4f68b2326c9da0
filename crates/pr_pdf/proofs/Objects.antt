-- Objects one after another.
use Rattle.std.proofs.Common.{◌≡◌, ℕ, ◌+◌, ◌/◌, ◌%◌, List, [], ◌∷◌, ◌++◌, length, refl, sym, ap, ◌∙◌, arith, append_assoc}
use Rattle.std.specs.Prelude.{Bool, true, false, map, slice_index_or}
use Rattle.std.specs.List.{concat}
use Rattle.std.proofs.lemmas.Grind.{common_steps}
use Rattle.std.proofs.lemmas.List.{map-append}
use Rattle.std.proofs.lemmas.List.Folds.{concat-append}
use Rattle.pr_dots.specs.declared.character_sets.Shapes.{Shapes}
use Rattle.pr_pdf.specs.declared.document.Document.{Document}
use Rattle.pr_pdf.specs.Linked.{Adds, HasBodies}
use Rattle.pr_pdf.specs.Fonts.{glyph_pdf, used_among}
use Rattle.pr_pdf.specs.Parts.{header}
use Rattle.pr_pdf.specs.Pdf.{file_of, front_pdf, glyph_body, object_pdf, objects_from, places_from, places_of, stream_pdf, table_pdf, trailer_pdf}
use Rattle.pr_pdf.specs.Words.{numbers_from}
use Rattle.pr_pdf.proofs.Numbers.{map_more, map_none, unused_one, used_more, used_none, used_one}

-- objects after objects
objects_append : (n : ℕ) (xs ys : List (List ℕ)) → objects_from n (xs ++ ys) ≡ objects_from n xs ++ objects_from (n + length xs) ys
objects_append n [] ys = grind (arith, common_steps)
objects_append n (x ∷ xs) ys = grind (arith, common_steps, objects_append (n + 1) xs ys)

-- as many places as objects
objects_length : (n : ℕ) (xs : List (List ℕ)) → length (objects_from n xs) ≡ length xs
objects_length n [] = refl
objects_length n (x ∷ xs) = grind (arith, common_steps, objects_length (n + 1) xs)

places_length : (place : ℕ) (xs : List (List ℕ)) → length (places_from place xs) ≡ length xs
places_length place [] = refl
places_length place (x ∷ xs) = grind (arith, common_steps, places_length (place + length x) xs)

-- the places of texts after texts
places_append : (place : ℕ) (xs ys : List (List ℕ)) → places_from place (xs ++ ys) ≡ places_from place xs ++ places_from (place + length (concat xs)) ys
places_append place [] ys = grind (arith, common_steps)
places_append place (x ∷ xs) ys = grind (arith, common_steps, places_append (place + length x) xs ys)

pub places_count : (bodies : List (List ℕ)) → length (places_of bodies) ≡ length bodies
places_count bodies = places_length (length header) (objects_from 1 bodies) ∙ objects_length 1 bodies

-- the texts with one object more
front_more : (bodies : List (List ℕ)) (body : List ℕ) → front_pdf (bodies ++ body ∷ []) ≡ front_pdf bodies ++ object_pdf (length bodies + 1) body
unfolding front_pdf
front_more bodies body =
    grind (arith, common_steps, objects_append 1 bodies (body ∷ []), concat-append (objects_from 1 bodies) (objects_from (1 + length bodies) (body ∷ [])))

-- and its place
front_length : (bodies : List (List ℕ)) → length (front_pdf bodies) ≡ length header + length (concat (objects_from 1 bodies))
unfolding front_pdf
front_length bodies = grind (arith, common_steps)

places_more : (bodies : List (List ℕ)) (body : List ℕ) → places_of (bodies ++ body ∷ []) ≡ places_of bodies ++ length (front_pdf bodies) ∷ []
places_more bodies body =
    grind (arith, common_steps, objects_append 1 bodies (body ∷ []), places_append (length header) (objects_from 1 bodies) (objects_from (1 + length bodies) (body ∷ [])), front_length bodies)

-- a document with one object more
pub one_more : (old new : Document) (body : List ℕ)
    → new.text.items ≡ old.text.items ++ object_pdf (length old.places.items + 1) body
    → new.places.items ≡ old.places.items ++ length old.text.items ∷ []
    → Adds (body ∷ []) old new
one_more old new body text places = record {
  has = λ bodies has. record {
    text = grind (arith, common_steps, text, has.text, has.places, places_count bodies, front_more bodies body);
    places = grind (arith, common_steps, places, has.text, has.places, places_more bodies body);
  };
}

-- no objects more
pub none_adds : (document : Document) → Adds [] document document
none_adds document = record {
  has = λ bodies has. record {
    text = grind (arith, common_steps, has.text);
    places = grind (arith, common_steps, has.places);
  };
}

-- objects after objects
pub then_adds : {xs ys : List (List ℕ)} {a b c : Document} → Adds xs a b → Adds ys b c → Adds (xs ++ ys) a c
then_adds {xs} {ys} {a} {b} {c} first second = record {
  has = λ bodies has.
      let both : HasBodies ((bodies ++ xs) ++ ys) c = second.has (bodies ++ xs) (first.has bodies has) in
      let all : (bodies ++ xs) ++ ys ≡ bodies ++ (xs ++ ys) = append_assoc bodies xs ys in
      rw all at both;
}

-- objects after one
pub cons_adds : {x : List ℕ} {ys : List (List ℕ)} {a b c : Document} → Adds (x ∷ []) a b → Adds ys b c → Adds (x ∷ ys) a c
cons_adds {x} {ys} {a} {b} {c} first second = then_adds {xs = x ∷ []} {ys = ys} {a = a} {b = b} {c = c} first second

-- one object for each number
pub map_adds : (f : ℕ → List ℕ) (count : ℕ) {a b c : Document} → Adds (map f (numbers_from 0 count)) a b → Adds (f count ∷ []) b c
    → Adds (map f (numbers_from 0 (count + 1))) a c
map_adds f count first second = rw (map_more f count) (then_adds first second)

-- no numbers, no objects
pub map_adds_none : (f : ℕ → List ℕ) (document : Document) → Adds (map f (numbers_from 0 0)) document document
map_adds_none f document = rw (map_none f) (none_adds document)

-- one object for each glyph that is used
pub used_adds : (f : ℕ → List ℕ) (used : List Bool) (count : ℕ) {a b c : Document} → Adds (map f (used_among used 0 count)) a b
    → Adds (map f (used_among used count 1)) b c → Adds (map f (used_among used 0 (count + 1))) a c
used_adds f used count first second =
    let all : map f (used_among used 0 (count + 1)) ≡ map f (used_among used 0 count) ++ map f (used_among used count 1) =
    ap (map f) (used_more used 0 count count (omega arith)) ∙ map-append f (used_among used 0 count) (used_among used count 1) in
    rw all (then_adds first second)

pub used_adds_none : (f : ℕ → List ℕ) (used : List Bool) (document : Document) → Adds (map f (used_among used 0 0)) document document
used_adds_none f used document = rw (used_none used 0) (none_adds document)

-- a glyph that is used, and one that is not
pub one_used_adds : (f : ℕ → List ℕ) (used : List Bool) (n : ℕ) {a b : Document} → slice_index_or used n false ≡ true
    → Adds (f n ∷ []) a b → Adds (map f (used_among used n 1)) a b
one_used_adds f used n is adds = rw (used_one used n is) adds

pub unused_adds : (f : ℕ → List ℕ) (used : List Bool) (n : ℕ) (document : Document) → slice_index_or used n false ≡ false
    → Adds (map f (used_among used n 1)) document document
unused_adds f used n document is = rw (unused_one used n is) (none_adds document)

-- the file of a document
pub file_is : (bodies : List (List ℕ)) (document : Document) → HasBodies bodies document
    → document.text.items ++ table_pdf document.places.items ++ trailer_pdf (length document.places.items) (length document.text.items) ≡ file_of bodies
unfolding file_of
file_is bodies document has = rw (has.text, has.places, places_count bodies) refl

-- a glyph's object
pub glyph_added : (shapes : Shapes) (number : ℕ) (text : List ℕ) {a b : Document} → text ≡ glyph_pdf shapes (number / 256) (number % 256) → Adds (stream_pdf text ∷ []) a b
    → Adds (glyph_body shapes number ∷ []) a b
glyph_added shapes number text is adds = rw (sym is) adds
