-- The chains of the runs that follow a run: what is found in the table of a train's runs is what the instance says, and the two
-- numbers of each run are in the table of chains (`ChainsHeld`); they chain, for every run, the runs that follow it
-- (`next-follower`). Assumes nothing.
use mathlib.Core.Path.{◌≡◌, refl, sym, ap, ap₂, ◌∙◌}
use mathlib.Core.Bool.{Bool}
use Prim.Native.Nat.{ℕ, ◌+◌, ◌*◌, ◌-◌, ◌≤◌, ◌<◌}
use native.Mathlib.Nat.{add-zero}
use native.Mathlib.Omega.{arith}
use mathlib.Core.List.{List, ◌∷◌}
use lib.ListN.{length, get_or}
use lib.Seq.{sets, length-sets}
use lib.Dec.{T}
use Rattle.spec.specs.Lists.{Bytes, up_to, each, one, same, sum_to}
use Rattle.spec.specs.Book.{Book}
use Rattle.spec.specs.Runs.{start_place, end_place}
use Rattle.spec.specs.Instance.{instance_of, compile, run_lists, run_at, train_length}
use Rattle.laws.proofs.Tests.{same-iff}
use Rattle.laws.proofs.Parts.{Part, part_in, part_at, part-each, length-each, sum-constant, each_same}
use Rattle.laws.proofs.Least.{least-same}
use Rattle.listing.proofs.Leaves.{part-sets}
use Rattle.listing.specs.Listed.{place_at, start_at}
use Rattle.tables.specs.Placed.{end_at}
use Rattle.tables.specs.Tables.{least_from, first_follower, next_alike, chains_of, train_chains}
use Rattle.tables.specs.Ready.{RunsHeld, ChainsHeld}

-- by the table of n runs: whether q starts where r ends, and whether p starts where q does; the first of the one kind, and the
-- first of the other behind q
abbrev pub follows_at : Bytes → ℕ → ℕ → ℕ → Bool
follows_at runs l r q = same (place_at runs (end_at runs r l) l) (place_at runs (start_at q) l)

abbrev pub alike_at : Bytes → ℕ → ℕ → ℕ → Bool
alike_at runs l q p = same (place_at runs (start_at q) l) (place_at runs (start_at p) l)

abbrev pub first_at : Bytes → ℕ → ℕ → ℕ → ℕ
first_at runs l n r = least_from (follows_at runs l r) 0 n

abbrev pub next_at : Bytes → ℕ → ℕ → ℕ → ℕ
next_at runs l n q = least_from (alike_at runs l q) (q + 1) (n - (q + 1))

-- the two numbers of a run
abbrev pub links_at : Bytes → ℕ → ℕ → ℕ → List ℕ
links_at runs l n r = first_at runs l n r ∷ one (next_at runs l n r)

-- ---- the table of the runs

module _ {b : Book} {i : ℕ} {kept : Bytes} (h : RunsHeld b i kept) where
  abbrev runs : ℕ
  runs = (instance_of b).runs i

  abbrev l : ℕ
  l = train_length b i

  follows-held : (r q : ℕ) → r < runs → q < runs → follows_at kept l r q ≡ (instance_of b).follows i r q
  unfolding instance_of compile
  follows-held r q m k = ap₂ same (h.ending r m) (h.starting q k)

  links-held : each (up_to runs) (links_at kept l runs) ≡ chains_of b i
  unfolding chains_of first_follower next_alike
  links-held =
      each_same _ _ runs
      (λ r m.
      ap₂ (λ (first next : ℕ). first ∷ one next)
      (least-same _ _ 0 runs (λ q a k. follows-held r q m (omega arith)))
      (least-same _ _ (r + 1) (runs - (r + 1)) (λ p a k. ap₂ same (h.starting r m) (h.starting p (omega arith)))))

  -- asked with numbers that equal the train's
  pub links-are : {n k : ℕ} → n ≡ runs → k ≡ l → each (up_to n) (links_at kept k n) ≡ chains_of b i
  links-are e f = rw (e, f) links-held

-- ---- the chains

module _ (b : Book) (i : ℕ) (few : (instance_of b).runs i ≤ 256) where
  abbrev count : ℕ
  count = (instance_of b).runs i

  abbrev links : ℕ → List ℕ
  links r = first_follower b i r ∷ one (next_alike b i r)

  module _ (old : List ℕ) (long : length old ≡ train_chains) where
    abbrev chains : List ℕ
    chains = sets old 0 (chains_of b i)

    -- a run's two numbers
    part-links : (r : ℕ) → r < count → Part chains (2 * r) (links r)
    unfolding chains_of
    part-links r m =
        let size = length-each links (λ _. 2) (λ _. refl) count ∙ sum-constant 2 count in
        let stored = part-sets (each (up_to count) links) old 0 (omega arith) in
        let e : 0 + sum_to (λ _. 2) r ≡ 2 * r = omega (arith, sum-constant 2 r) in
        rw e at (part_in stored (part-each links (λ _. 2) (λ _. refl) count r m))

    first-held : (r : ℕ) → r < count → get_or chains (2 * r) 0 ≡ first_follower b i r
    first-held r m = rw add-zero at (part_at (part-links r m) 0 0 (omega arith))

    next-held : (r : ℕ) → r < count → get_or chains (2 * r + 1) 0 ≡ next_alike b i r
    next-held r m = part_at (part-links r m) 1 0 (omega arith)

  pub chains-held : (old : List ℕ) → length old ≡ train_chains → ChainsHeld b i (sets old 0 (chains_of b i))
  chains-held old e = record { long = length-sets old 0 (chains_of b i) ∙ e; first = first-held old e; next = next-held old e }

-- behind a run that follows r, the next that follows r is the next that starts where it does
module _ (b : Book) (i : ℕ) where
  abbrev start_of : ℕ → List ℕ
  start_of r = start_place (train_length b i) (run_at (run_lists b) i r)

  alike : (r q : ℕ) → T ((instance_of b).follows i r q) → (p : ℕ) → same (start_of q) (start_of p) ≡ (instance_of b).follows i r p
  unfolding instance_of compile
  alike r q t p =
      let e = (same-iff (end_place (train_length b i) (run_at (run_lists b) i r)) (start_of q)).0 t in
      ap (λ (place : List ℕ). same place (start_of p)) (sym e)

  pub next-follower : (r q : ℕ) → T ((instance_of b).follows i r q)
      → next_alike b i q ≡ least_from ((instance_of b).follows i r) (q + 1) ((instance_of b).runs i - (q + 1))
  unfolding next_alike
  next-follower r q t = least-same _ _ (q + 1) ((instance_of b).runs i - (q + 1)) (λ p _ _. alike r q t p)
