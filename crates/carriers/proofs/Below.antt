-- The list of the carriers among the nodes below one, node by node. Assumes nothing.
use native.Mathlib.Omega.{arith}
use mathlib.Core.Path.{◌≡◌, refl, sym, ap, ◌∙◌}
use mathlib.Core.List.{[], ◌++◌}
use Prim.Native.Nat.{ℕ, ◌+◌, ◌≤◌, ◌<◌}
use lib.ListN.{length}
use lib.Dec.{T}
use Rattle.spec.specs.Lists.{Bytes, up_to, count, only, pick, each}
use Rattle.spec.specs.Instance.{Instance, is_free, free_nodes_of}
use Rattle.spec.specs.Plan.{Plan}
use Rattle.spec.specs.Carriers.{cleared, first_meeting, carries, carriers, entry, carrier_list, carrier_room}
use Rattle.laws.proofs.Tests.{and-iff}
use Rattle.laws.proofs.Picks.{pick-fewer, pick-room, each-pick}
use Rattle.laws.proofs.Parts.{length-rows}
use Rattle.listing.proofs.Lists.{each_next}
use Rattle.carriers.specs.Entries.{entry_of}

module _ (I : Instance) (p : Plan) where
  pub list_below : ℕ → Bytes
  list_below n = each (pick (carries I p) (up_to n)) λ m. entry m (first_meeting I (cleared p m))

  pub list-none : list_below 0 ≡ []
  unfolding list_below pick up_to count each
  list-none = refl

  pub list-next : (n : ℕ) → list_below (n + 1) ≡ list_below n ++ entry_of I p n
  unfolding list_below entry_of
  list-next n =
      each-pick (carries I p) _ (up_to (n + 1)) ∙ each_next _ n
      ∙ ap (λ (s : Bytes). s ++ only (carries I p n) (entry n (first_meeting I (cleared p n)))) (sym (each-pick (carries I p) _ (up_to n)))

  pub list_all : list_below I.nodes ≡ carrier_list I p
  unfolding list_below carrier_list carriers
  list_all = refl

  -- there is room for the entry of a free node
  pub list-room : (n : ℕ) → n < I.nodes → T (is_free I n) → length (list_below n) + 4 ≤ carrier_room I
  unfolding list_below entry carries carrier_room free_nodes_of
  list-room n l free =
      let long = length-rows (λ m. entry m (first_meeting I (cleared p m))) 4 (λ m. refl) (pick (carries I p) (up_to n)) in
      let fewer = pick-fewer (carries I p) (is_free I) (up_to n) (λ m h. (simp and-iff at h).0.0) in
      omega (arith, long, fewer, pick-room (is_free I) I.nodes n l free)
