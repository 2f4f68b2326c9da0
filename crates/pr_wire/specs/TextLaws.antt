-- Laws: trace texts. `trace_texts` proves them, and callers take them from there.
use Rattle.std.specs.Prelude.{◌≡◌, ℕ, ◌^◌, ◌<◌, List, All, Option}
use Rattle.pr_wire.specs.declared.Edge.{Edge}
use Rattle.pr_wire.specs.TraceText.{trace_text, IsTraceText, IsFirstBad, SaysEdges}

-- the text of edges spells them
abbrev pub TextIsReadBack : Type 0
TextIsReadBack = (edges : List Edge) → All (λ e. e.time < 2 ^ 64) edges → IsTraceText (trace_text edges) edges

-- a text spells at most one list of edges, and none where it has a bad line; it says one list, up to one line
pub record TextSpellsOnce : Type 0 where
  pub edges : (text : List ℕ) (es fs : List Edge) → IsTraceText text es → IsTraceText text fs → es ≡ fs
  pub bad : (text : List ℕ) (n : ℕ) (es : List Edge) → IsFirstBad n text → IsTraceText text es → ⊥
  pub says : (text : List ℕ) (es fs : List Edge) (m n : Option ℕ) → SaysEdges text es m → SaysEdges text fs n
      → (es ≡ fs) × (m ≡ n)

-- each text says something
abbrev pub TextSaysSomething : Type 0
TextSaysSomething = (text : List ℕ) → (edges : List Edge) × (bad : Option ℕ) × SaysEdges text edges bad
