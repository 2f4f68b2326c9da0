-- Words of calls: the names of tokens.
use Rattle.std.specs.Prelude.{ℕ, ◌-◌, ◌&&◌, ◌==◌, List, [], ◌∷◌, codes, nat_le, slice_index_or, if◌then◌else◌}
use Rattle.pr_listing.specs.Keywords.{keyword_of}

-- the keywords of tokens 204 to 253 on the Commodore 128, in order; 206 is no token alone
abbrev pub later_keywords : List (List ℕ)
later_keywords =
    codes "RGR" ∷ codes "RCLR" ∷ [] ∷ codes "JOY" ∷ codes "RDOT" ∷ codes "DEC" ∷ codes "HEX$" ∷
    codes "ERR$" ∷ codes "INSTR" ∷ codes "ELSE" ∷ codes "RESUME" ∷ codes "TRAP" ∷ codes "TRON" ∷
    codes "TROFF" ∷ codes "SOUND" ∷ codes "VOL" ∷ codes "AUTO" ∷ codes "PUDEF" ∷ codes "GRAPHIC" ∷
    codes "PAINT" ∷ codes "CHAR" ∷ codes "BOX" ∷ codes "CIRCLE" ∷ codes "GSHAPE" ∷ codes "SSHAPE" ∷
    codes "DRAW" ∷ codes "LOCATE" ∷ codes "COLOR" ∷ codes "SCNCLR" ∷ codes "SCALE" ∷ codes "HELP" ∷
    codes "DO" ∷ codes "LOOP" ∷ codes "EXIT" ∷ codes "DIRECTORY" ∷ codes "DSAVE" ∷ codes "DLOAD" ∷
    codes "HEADER" ∷ codes "SCRATCH" ∷ codes "COLLECT" ∷ codes "COPY" ∷ codes "RENAME" ∷
    codes "BACKUP" ∷ codes "DELETE" ∷ codes "RENUMBER" ∷ codes "KEY" ∷ codes "MONITOR" ∷
    codes "USING" ∷ codes "UNTIL" ∷ codes "WHILE" ∷ []

-- the keyword of a token from 204 on
unfoldable pub later_keyword : ℕ → List ℕ
later_keyword token =
    if nat_le 204 token && nat_le token 253 then slice_index_or later_keywords (token - 204) [] else []

-- the name of a token: the Commodore 64's, or the Commodore 128's
abbrev pub token_name : ℕ → List ℕ
token_name token = if nat_le token 203 then keyword_of token else later_keyword token

-- the functions and the statements of the Commodore 128 whose tokens have two bytes, by the second one
abbrev pub functions : List (List ℕ)
functions =
    [] ∷ [] ∷ codes "POT" ∷ codes "BUMP" ∷ codes "PEN" ∷ codes "RSPPOS" ∷ codes "RSPRITE" ∷
    codes "RSPCOLOR" ∷ codes "XOR" ∷ codes "RWINDOW" ∷ codes "POINTER" ∷ []

abbrev pub statements : List (List ℕ)
statements =
    [] ∷ [] ∷ codes "BANK" ∷ codes "FILTER" ∷ codes "PLAY" ∷ codes "TEMPO" ∷ codes "MOVSPR" ∷
    codes "SPRITE" ∷ codes "SPRCOLOR" ∷ codes "RREG" ∷ codes "ENVELOPE" ∷ codes "SLEEP" ∷
    codes "CATALOG" ∷ codes "DOPEN" ∷ codes "APPEND" ∷ codes "DCLOSE" ∷ codes "BSAVE" ∷ codes "BLOAD" ∷
    codes "RECORD" ∷ codes "CONCAT" ∷ codes "DVERIFY" ∷ codes "DCLEAR" ∷ codes "SPRSAV" ∷
    codes "COLLISION" ∷ codes "BEGIN" ∷ codes "BEND" ∷ codes "WINDOW" ∷ codes "BOOT" ∷ codes "WIDTH" ∷
    codes "SPRDEF" ∷ codes "QUIT" ∷ codes "STASH" ∷ [] ∷ codes "FETCH" ∷ [] ∷ codes "SWAP" ∷
    codes "OFF" ∷ codes "FAST" ∷ codes "SLOW" ∷ []

unfoldable pub function_name : ℕ → List ℕ
function_name second = if nat_le second 10 then slice_index_or functions second [] else []

unfoldable pub statement_name : ℕ → List ℕ
statement_name second = if nat_le second 38 then slice_index_or statements second [] else []

-- the name of a token of two bytes: 206 begins a function, 254 a statement
abbrev pub long_token_name : ℕ → ℕ → List ℕ
long_token_name first second =
    if first == 206 then function_name second
    else (if first == 254 then statement_name second else [])
