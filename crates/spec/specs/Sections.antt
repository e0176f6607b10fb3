-- Sections (document 01's term), twice: as the text has them, a chain of segments, and as a computation. That the two are
-- equal is a theorem. This is the one place of the section rule. Assumes nothing.
use Rattle.std.specs.Prelude.{Bool, not, ◌&&◌, ◌||◌, ℕ, zero, suc, ◌<◌, List, map, T, eqb}
use Rattle.spec.specs.Lists.{any, up_to, least_from}
use Rattle.spec.specs.Instance.{Instance}

-- A set of borders, by node.
abbrev pub Borders : Type 0
Borders = ℕ → Bool

-- "neighbours sharing a node that is no border"; both are segments of one TTD
unfoldable pub neighbours : Instance → Borders → ℕ → ℕ → Bool
neighbours I border s t = any (λ n. not (border n) && I.meet n s t) (up_to I.nodes)

-- "two segments of one TTD are together when a chain of segments of that TTD links them"
pub data Chain (I : Instance) (border : Borders) : ℕ → ℕ → Type 0 where
  here : {s : ℕ} → Chain I border s s
  link : {s t u : ℕ} → t < I.segments → u < I.segments → T (neighbours I border t u) → Chain I border s t → Chain I border s u

-- together by a chain whose segments between the two ends are below k (Warshall's algorithm)
unfoldable pub together_below : Instance → Borders → ℕ → ℕ → ℕ → Bool
together_below I border zero s t = eqb s t || neighbours I border s t
together_below I border (suc k) s t =
    together_below I border k s t || together_below I border k s k && together_below I border k k t

unfoldable pub together : Instance → Borders → ℕ → ℕ → Bool
together I border s t = together_below I border I.segments s t

-- A section's label is its least segment: the label of each segment.
unfoldable pub section_labels : Instance → Borders → List ℕ
section_labels I border = map (λ s. least_from (together I border s) 0 I.segments) (up_to I.segments)

-- some section holds a segment of each of the two lists
unfoldable pub share_section : Instance → Borders → List ℕ → List ℕ → Bool
share_section I border xs ys = any (λ s. any (together I border s) ys) xs
