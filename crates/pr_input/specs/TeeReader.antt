-- Trusted: a reader that keeps what it has read.
use Rattle.std.specs.Prelude.{◌≡◌, ◌++◌, ℕ, List, Option, Some, option_map, IfSome}
use Rattle.pr_input.specs.declared.tee_reader.TeeReader.{TeeReader}

-- the reader that it reads from
abbrev pub read_from : {R : Type 0} → TeeReader R → R
read_from k = k.inner

-- all bytes that it has read, if they are kept
abbrev pub kept : {R : Type 0} → TeeReader R → Option (List ℕ)
kept k = option_map (λ v. v.items) k.bytes

-- after the bytes kept more bytes are kept, or none are kept any more
abbrev pub KeepsMore : {R : Type 0} → List ℕ → TeeReader R → TeeReader R → Type 0
KeepsMore more before after =
    IfSome (kept after) (λ bytes. option_map (λ front. front ++ more) (kept before) ≡ Some bytes)
