-- Trusted: the keywords of BASIC by their tokens.
use Rattle.std.specs.Prelude.{ℕ, ◌-◌, ◌&&◌, Bool, List, [], ◌∷◌, codes, nat_le, slice_index_or, if◌then◌else◌}

-- a token: bytes 128 to 203
abbrev pub is_token : ℕ → Bool
is_token b = nat_le 128 b && nat_le b 203

-- the keywords of tokens 128 to 203, in order
abbrev pub keywords : List (List ℕ)
keywords =
    codes "END" ∷ codes "FOR" ∷ codes "NEXT" ∷ codes "DATA" ∷ codes "INPUT#" ∷ codes "INPUT" ∷
    codes "DIM" ∷ codes "READ" ∷ codes "LET" ∷ codes "GOTO" ∷ codes "RUN" ∷ codes "IF" ∷
    codes "RESTORE" ∷ codes "GOSUB" ∷ codes "RETURN" ∷ codes "REM" ∷ codes "STOP" ∷ codes "ON" ∷
    codes "WAIT" ∷ codes "LOAD" ∷ codes "SAVE" ∷ codes "VERIFY" ∷ codes "DEF" ∷ codes "POKE" ∷
    codes "PRINT#" ∷ codes "PRINT" ∷ codes "CONT" ∷ codes "LIST" ∷ codes "CLR" ∷ codes "CMD" ∷
    codes "SYS" ∷ codes "OPEN" ∷ codes "CLOSE" ∷ codes "GET" ∷ codes "NEW" ∷ codes "TAB(" ∷
    codes "TO" ∷ codes "FN" ∷ codes "SPC(" ∷ codes "THEN" ∷ codes "NOT" ∷ codes "STEP" ∷
    codes "+" ∷ codes "-" ∷ codes "*" ∷ codes "/" ∷ codes "^" ∷ codes "AND" ∷ codes "OR" ∷
    codes ">" ∷ codes "=" ∷ codes "<" ∷ codes "SGN" ∷ codes "INT" ∷ codes "ABS" ∷ codes "USR" ∷
    codes "FRE" ∷ codes "POS" ∷ codes "SQR" ∷ codes "RND" ∷ codes "LOG" ∷ codes "EXP" ∷
    codes "COS" ∷ codes "SIN" ∷ codes "TAN" ∷ codes "ATN" ∷ codes "PEEK" ∷ codes "LEN" ∷
    codes "STR$" ∷ codes "VAL" ∷ codes "ASC" ∷ codes "CHR$" ∷ codes "LEFT$" ∷ codes "RIGHT$" ∷
    codes "MID$" ∷ codes "GO" ∷ []

-- the keyword of a token
unfoldable pub keyword_of : ℕ → List ℕ
keyword_of token = if is_token token then slice_index_or keywords (token - 128) [] else []
