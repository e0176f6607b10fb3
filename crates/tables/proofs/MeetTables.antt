-- What `list_meets` leaves, of a book with few segments, holds the book's table of what meets. Assumes nothing.
use mathlib.Core.Path.{◌≡◌, ap, ap₂, ◌∙◌}
use Prim.Native.Nat.{ℕ, ◌+◌, ◌≤◌}
use native.Mathlib.Omega.{arith}
use mathlib.Core.List.{List}
use lib.ListN.{length, take, drop}
use lib.Seq.{sets, sets-eq, length-sets, take-append_seam}
use Rattle.model.specs.declared.Book.{Book as BookStruct}
use Rattle.spec.specs.Lists.{Bytes}
use Rattle.spec.specs.Instance.{instance_of}
use Rattle.spec.specs.Held.{held}
use Rattle.tables.specs.Meets.{meet_table, meet_room}
use Rattle.tables.specs.Ready.{MeetsReady, MeetsFilled}
use Rattle.tables.proofs.MeetsFew.{meets-few}

-- what is stored from the start on is there
pub take-sets {ℓ} : {A : Type ℓ} (l vs : List A) → length vs ≤ length l → take (length vs) (sets l 0 vs) ≡ vs
take-sets l vs h =
    ap (take (length vs)) (sets-eq vs l 0 (omega arith)) ∙ take-append_seam vs (drop (0 + length vs) l)

pub meets-ready : (b : BookStruct) → length (held b).segments ≤ 64 → (old : Bytes) → length old ≡ meet_room
    → {meets : Bytes} {end : ℕ} → MeetsFilled b end old meets → (end ≤ length meets) × MeetsReady b (take end meets)
meets-ready b few old room (e, s) =
    let bytes = meet_table (instance_of (held b)) in
    let short : length bytes ≤ meet_room = meets-few (held b) few in
    (omega (arith, ap length s, length-sets old 0 bytes), ap₂ take e s ∙ take-sets old bytes (omega arith))
