-- Linking words: what the functions of petcat's reader take. No reader needs to believe them.
use Rattle.std.specs.Prelude.{◌≡◌, IsTrue, ℕ, suc, ◌+◌, Bool, true, false, List, [], ◌∷◌, ◌++◌, None, Some, length}
use Rattle.std.specs.List.{list_all}
use Rattle.pr_base.specs.Lines.{lines_of}
use Rattle.pr_listing.specs.Listing.{string_text}
use Rattle.pr_listing.specs.Names.{bracketed}
use Rattle.pr_listing.specs.Typed.{HasLineText, HasText, HaveLinesText, HaveText, IsPieceFault, Piece, begun_in, brackets_of, closing, is_within, quoted_after, repeated, spelled}
use Rattle.pr_listing.specs.declared.names.Brackets.{Brackets}
use Rattle.pr_listing.specs.declared.names.Spelling.{Spelling}
use Rattle.pr_listing.specs.declared.typed.PieceFault.{PieceFault}

-- a name and the end of its brackets are taken from the bytes, and its text is added
pub record IsNameTaken (spelling : Spelling) (brackets : Brackets) (bytes rest old new : List ℕ) : Type 0 where
  pub name : List ℕ
  pub count : ℕ
  pub byte : ℕ
  pub cut : bytes ≡ name ++ closing brackets ∷ rest
  pub closed : IsTrue (list_all (is_within brackets) name)
  pub known : bracketed spelling brackets name ≡ Some (count, byte)
  pub is_text : new ≡ old ++ repeated count (string_text byte)

-- no known name and the end of its brackets are at the front of the bytes
abbrev pub IsNoName : Spelling → Brackets → List ℕ → Type 0
IsNoName spelling brackets bytes = (name rest : List ℕ) → bytes ≡ name ++ closing brackets ∷ rest
    → IsTrue (list_all (is_within brackets) name) → bracketed spelling brackets name ≡ None

-- a piece is taken from the bytes, and its text is added
pub record IsPieceTaken (spelling : Spelling) (quoted : Bool) (bytes rest : List ℕ) (in_string : Bool) (old new : List ℕ) : Type 0 where
  pub piece : Piece
  pub said : List ℕ
  pub cut : bytes ≡ spelled piece rest
  pub begins : brackets_of piece ≡ begun_in spelling quoted bytes
  pub has : HasText spelling quoted piece said
  pub goes_on : in_string ≡ quoted_after quoted piece
  pub is_text : new ≡ old ++ said

-- pieces are taken from the front of a line, and their text is added
pub record ArePiecesTaken (spelling : Spelling) (front rest : List ℕ) (in_string : Bool) (old new : List ℕ) : Type 0 where
  pub pieces : List Piece
  pub said : List ℕ
  pub have : HaveText spelling false pieces front said in_string rest
  pub is_text : new ≡ old ++ said

-- the whole front of a line is taken
abbrev pub IsFrontTaken : Spelling → List ℕ → List ℕ → List ℕ → Type 0
IsFrontTaken spelling front old new = (in_string : Bool) × ArePiecesTaken spelling front [] in_string old new

-- pieces, and then in a string a fault; this many bytes are before it
pub record IsFrontFault (spelling : Spelling) (f : PieceFault) (column : ℕ) (front : List ℕ) : Type 0 where
  pub pieces : List Piece
  pub said : List ℕ
  pub rest : List ℕ
  pub good : HaveText spelling false pieces front said true rest
  pub fault : IsPieceFault spelling f rest
  pub at : column + length rest ≡ length front

-- a line's text is added
abbrev pub IsLineTaken : Spelling → List ℕ → List ℕ → List ℕ → Type 0
IsLineTaken spelling line old new = (said : List ℕ) × HasLineText spelling line said × (new ≡ old ++ said)

-- the lines before the rest were read: their text, and the number of the next one
pub record IsReadTo (spelling : Spelling) (file text rest : List ℕ) (number : ℕ) : Type 0 where
  pub before : List (List ℕ)
  pub cut : lines_of file ≡ before ++ lines_of rest
  pub has : HaveLinesText spelling before text
  pub numbered : number ≡ suc (length before)
