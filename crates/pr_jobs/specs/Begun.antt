-- Linking words, for proofs: from where the edges of an input are counted. The clauses of `Beginning` say all that a caller needs
-- of them. No reader needs to believe them.
use Rattle.std.specs.Prelude.{◌≡◌, ℕ, List, [], ◌∷◌, ◌++◌, Option, Some, None}
use Rattle.pr_wire.specs.declared.Edge.{Edge}
use Rattle.pr_capture.specs.declared.format.InputFormat.{InputFormat}
use Rattle.pr_capture.specs.declared.format.InputFormat.TheVariants as source
use Rattle.pr_jobs.specs.Report.{edges_checked}
use Rattle.pr_jobs.specs.declared.beginning.Beginning.{Beginning}

-- the moment of the first of edges, if there is one
abbrev pub first_time : List Edge → Option ℕ
first_time [] = None
first_time (e ∷ es) = Some e.time

-- from where edges of an input in this format count, once that is known
abbrev pub beginning_of : InputFormat → List Edge → Option ℕ
beginning_of source.Text edges = Some 0
beginning_of source.Csv edges = first_time edges
beginning_of source.Vcd edges = first_time edges

-- these edges have come
abbrev pub HasBegun : InputFormat → (edges : List Edge) → Beginning → Type 0
HasBegun source edges b = b.moment ≡ beginning_of source edges

-- an edge more has come, and is counted so
pub record HasCountedOn (source : InputFormat) (edges : List Edge) (e counted : Edge) (new : Beginning) : Type 0 where
  pub begun : HasBegun source (edges ++ e ∷ []) new
  pub counts : edges_checked source (edges ++ e ∷ []) ≡ edges_checked source edges ++ counted ∷ []

abbrev pub CountsOn : (e counted : Edge) → (old new : Beginning) → Type 0
CountsOn e counted old new = (source : InputFormat) (edges : List Edge) → HasBegun source edges old → HasCountedOn source edges e counted new

-- edges more count with the times that they have
pub record HasKept (source : InputFormat) (edges more : List Edge) (b : Beginning) : Type 0 where
  pub begun : HasBegun source (edges ++ more) b
  pub counts : edges_checked source (edges ++ more) ≡ edges_checked source edges ++ more

abbrev pub KeepsTimes : Beginning → Type 0
KeepsTimes b = (source : InputFormat) (edges more : List Edge) → HasBegun source edges b → HasKept source edges more b
