-- What the theorems on the borders that carry a plan (document 02, P5) claim beside the definitions of the specification. Assumes nothing.
use Rattle.std.specs.Prelude.{◌≡◌, ◌↔◌, ℕ, ◌≤◌, ◌<◌, length, T}
use mathlib.Core.List.{List, [], ◌∷◌, Memᴰ}
use Rattle.spec.specs.Lists.{Bytes}
use Rattle.spec.specs.Book.{Book, node_kind_at}
use Rattle.spec.specs.Instance.{Instance, instance_of}
use Rattle.spec.specs.Sections.{Chain}
use Rattle.spec.specs.Plan.{Plan, run, rule6}
use Rattle.demands.specs.Claims.{Rising}

-- Two trains meet in an interval: some section holds a segment of each one's run, which a chain of segments says.
pub record Meet (I : Instance) (p : Plan) (t i j : ℕ) : Type 0 where
  pub run-i : ℕ
  pub run-j : ℕ
  pub runs-i : p.move i t ≡ run run-i
  pub runs-j : p.move j t ≡ run run-j
  pub segment-i : ℕ
  pub segment-j : ℕ
  pub touches-i : Memᴰ segment-i (I.path i run-i)
  pub touches-j : Memᴰ segment-j (I.path j run-j)
  pub together : Chain I p.border segment-i segment-j

-- "the earliest interval in which trains then meet, and of the pairs that meet in it the first by lower and then by higher train"
pub record FirstMeeting (I : Instance) (p : Plan) (t i j : ℕ) : Type 0 where
  pub interval : t < I.intervals
  pub lower : i < j
  pub higher : j < I.trains
  pub meet : Meet I p t i j
  pub earliest : (u k l : ℕ) → k < l → l < I.trains → Meet I p u k l → t ≤ u
  pub least-lower : (k l : ℕ) → k < l → l < I.trains → Meet I p t k l → i ≤ k
  pub least-higher : (l : ℕ) → i < l → l < I.trains → Meet I p t i l → j ≤ l

-- "clearing alone": q is p but for the border of node n, which q has not
pub record Clears (p : Plan) (n : ℕ) (q : Plan) : Type 0 where
  pub node : T (q.border n) → ⊥
  pub others : (m : ℕ) → (m ≡ n → ⊥) → q.border m ≡ p.border m
  pub moves : (i t : ℕ) → q.move i t ≡ p.move i t

-- "each set border of kind 1"
pub record SetKindOne (b : Book) (p : Plan) (n : ℕ) : Type 0 where
  pub known : n < length b.nodes
  pub kind : node_kind_at b n ≡ 1
  pub border : T (p.border n)

-- "whose clearing alone makes the plan break rule 6"
pub record Carries (b : Book) (p : Plan) (n : ℕ) : Type 0 where
  pub one : SetKindOne b p n
  pub breaks : (q : Plan) → Clears p n q → T (rule6 (instance_of b) q) → ⊥

-- "An entry is four bytes: node, interval, lower and higher train."
pub record Entry : Type 0 where
  pub node : ℕ
  pub interval : ℕ
  pub lower : ℕ
  pub higher : ℕ

unfoldable pub entry_bytes : Entry → Bytes
entry_bytes e = e.node ∷ e.interval ∷ e.lower ∷ e.higher ∷ []

-- The list of a plan: "in rising node number", each node that carries it and no other, with the first meeting next to it.
pub record Listed (b : Book) (p : Plan) (entries : List Entry) : Type 0 where
  pub rising : Rising (λ d e. d.node < e.node) entries
  pub listed : (n : ℕ) → ((e : Entry) × Memᴰ e entries × (e.node ≡ n)) ↔ Carries b p n
  pub next-to : (e : Entry) → Memᴰ e entries → (q : Plan) → Clears p e.node q
      → FirstMeeting (instance_of b) q e.interval e.lower e.higher
  -- each number fits its byte
  pub bytes : (e : Entry) → Memᴰ e entries → (e.node < 256) × (e.interval < 256) × (e.lower < 256) × (e.higher < 256)
