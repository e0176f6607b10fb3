-- Paths, places and runs, and the run list in its order. Assumes nothing.
use Rattle.std.specs.Prelude.{Bool, true, false, not, ◌&&◌, ℕ, zero, suc, ◌+◌, ◌*◌, ◌-◌, List, [], ◌∷◌, ◌++◌, map, length, take, drop, eqb}
use Rattle.spec.specs.Lists.{up_to, each, one, last_or, different, has}
use Rattle.spec.specs.Book.{Book, Train, segment_of, start_node, end_node, joined, length_in_segments, speed_in_segments}

-- "each ending where the next begins, with a join of the two at that node"
unfoldable pub leads_to : Book → ℕ → ℕ → Bool
leads_to b d e = eqb (end_node b d) (start_node b e) && joined b (end_node b d) (segment_of d) (segment_of e)

unfoldable pub linked : Book → List ℕ → Bool
linked b [] = true
linked b (d ∷ []) = true
linked b (d ∷ e ∷ ds) = leads_to b d e && linked b (e ∷ ds)

-- A path (document 01's term): "a row of directed segments, all on different segments, each ending where the next begins"
unfoldable pub is_path : Book → List ℕ → Bool
is_path b ds = different (map segment_of ds) && linked b ds

-- the directed segments of the book
unfoldable pub directed : Book → List ℕ
directed b = up_to (2 * length b.segments)

-- a path may go on over d: it leads there, and has not used that segment
unfoldable pub goes_on : Book → List ℕ → ℕ → Bool
goes_on b path d = leads_to b (last_or 0 path) d && not (has (segment_of d) (map segment_of path))

-- "each path extended one segment at a time until its length is met", `missing` being the segments still missing
unfoldable pub extend : Book → ℕ → List ℕ → List (List ℕ)
extend b zero path = one path
extend b (suc missing) path =
    each (directed b) λ d. elim (goes_on b path d) [ true ↦ extend b missing (path ++ one d) | false ↦ [] ]

-- the paths of n segments "by their directed numbers in dictionary order"; n is at least 1
unfoldable pub paths_of : Book → ℕ → List (List ℕ)
paths_of b n = each (directed b) λ d. extend b (n - 1) (one d)

-- A run (document 01's term) "moves j from 0 to k and is a path of l + j"; "Runs are listed by j".
unfoldable pub runs_of : Book → Train → List (List ℕ)
runs_of b t = each (up_to (speed_in_segments b t + 1)) λ j. paths_of b (length_in_segments b t + j)

-- A place (document 01's term) is "a path of l, rear first"; a run "starts at its first l and ends at its last l".
unfoldable pub start_place : ℕ → List ℕ → List ℕ
start_place l run = take l run

unfoldable pub end_place : ℕ → List ℕ → List ℕ
end_place l run = drop (length run - l) run

-- the place contains the segment
unfoldable pub contains : List ℕ → ℕ → Bool
contains place s = has s (map segment_of place)
