-- What a book's struct holds, entry by entry: below the count, a row's entry is the array's element; so a directed segment begins,
-- and two segments share a node, by their elements. Assumes nothing.
use mathlib.Core.Path.{◌≡◌}
use mathlib.Core.Bool.{Bool, not, ◌&&◌, cond}
use Prim.Native.Nat.{ℕ, ◌*◌, ◌/◌, ◌%◌, ◌<◌}
use native.Mathlib.Omega.{arith}
use lib.ListN.{get_or}
use lib.Seq.{get_or-take}
use lib.Dec.{eqb}
use Rattle.model.specs.declared.Book.{Book as BookStruct}
use Rattle.spec.specs.Book.{Segment, node_kind_at, segment_at, segment_of, start_node, end_node, touches, share_node}
use Rattle.spec.specs.Held.{held, zero_segment}

pub segment-at : (b : BookStruct) (s : ℕ) → s < b.segment_count → segment_at (held b) s ≡ get_or b.segments s zero_segment
unfolding segment_at held
segment-at b s h = get_or-take b.segment_count b.segments s zero_segment h

pub kind_at : (b : BookStruct) (n : ℕ) → n < b.node_count → node_kind_at (held b) n ≡ get_or b.nodes n 0
unfolding node_kind_at held
kind_at b n h = get_or-take b.node_count b.nodes n 0 h

-- where a directed segment begins, by the element of its segment
pub start-at : (b : BookStruct) (d : ℕ) → d < 2 * b.segment_count
    → cond (eqb (d % 2) 0) (get_or b.segments (d / 2) zero_segment).a (get_or b.segments (d / 2) zero_segment).b ≡ start_node (held b) d
unfolding start_node segment_of
start-at b d h = let l : d / 2 < b.segment_count = omega arith in simp (segment-at b (d / 2) l)

-- and where it ends
pub end-at : (b : BookStruct) (d : ℕ) → d < 2 * b.segment_count
    → cond (eqb (d % 2) 0) (get_or b.segments (d / 2) zero_segment).b (get_or b.segments (d / 2) zero_segment).a ≡ end_node (held b) d
unfolding end_node segment_of
end-at b d h = let l : d / 2 < b.segment_count = omega arith in simp (segment-at b (d / 2) l)

module _ (b : BookStruct) (n s t : ℕ) (ls : s < b.segment_count) (lt : t < b.segment_count) where
  abbrev first : Segment
  first = get_or b.segments s zero_segment

  abbrev second : Segment
  second = get_or b.segments t zero_segment

  pub share-at : {r : Bool} → r ≡ (not (eqb s t) && eqb first.ttd second.ttd && touches first n && touches second n)
      → r ≡ share_node (held b) n s t
  unfolding share_node
  share-at e = let p = segment-at b s ls in let q = segment-at b t lt in simp (p, q) e
