-- Counting listed nodes that have a border, one after the other; and the rows of a counter as the values of its variables. Assumes nothing.
use mathlib.Core.Path.{◌≡◌, refl, sym, ap, ◌∙◌}
use mathlib.Core.Bool.{Bool, true, false}
use mathlib.Core.Option.{Option}
use Prim.Native.Nat.{ℕ, suc, ◌+◌, ◌*◌, ◌≤◌, ◌<◌}
use mir.Val.{bool_byte}
use native.Mathlib.Nat.{add-zero, zero-add, suc-mul, mul-le-mul_right}
use native.Mathlib.Omega.{arith}
use mathlib.Core.List.{List}
use lib.ListN.{length, get_or, length-append, length-map}
use lib.Seq.{sets}
use lib.Dec.{ltb}
use Rattle.spec.specs.Lists.{Bytes, pick, up_to, count, each, one}
use Rattle.spec.specs.Instance.{Instance, under, is_free, free_nodes_of}
use Rattle.spec.specs.Plan.{bit, borders_of, plan_of}
use Rattle.spec.specs.Cap.{Counter, counter_of, set_among, cap_values}
use Rattle.laws.proofs.Picks.{pick-taken, pick-left, pick-most, pick_same}
use Rattle.laws.proofs.Parts.{length-up_to, map_same, each_same}
use Rattle.laws.proofs.Stores.{get_or-sets-in}
use Rattle.laws.proofs.Tests.{up_to-mem}
use Rattle.demands.proofs.Cap.{set-among, counter-whole}
use Rattle.plan_coding.specs.Encoded.{set_in, set_below, count_bytes}

module _ (nodes : List ℕ) (plan : Bytes) where
  pub set-none : set_below nodes plan 0 ≡ 0
  unfolding set_below pick up_to count
  set-none = refl

  -- at most all of them
  pub set-most : (n : ℕ) → set_below nodes plan n ≤ n
  unfolding set_below
  set-most n = omega (arith, pick-most (set_in nodes plan) (up_to n), length-up_to n)

  -- one more, where the next has a border
  pub set-next : (n : ℕ) → set_below nodes plan (n + 1) ≡ set_below nodes plan n + bool_byte (set_in nodes plan n)
  unfolding set_below
  set-next n = go (set_in nodes plan n) refl
    where
      go : (b : Bool) → set_in nodes plan n ≡ b
          → length (pick (set_in nodes plan) (up_to (n + 1))) ≡ length (pick (set_in nodes plan) (up_to n)) + bool_byte b
      go true e = ap length (pick-taken (set_in nodes plan) n e) ∙ length-append (pick (set_in nodes plan) (up_to n)) (one n)
      go false e = ap length (pick-left (set_in nodes plan) n e) ∙ sym (add-zero _)

  -- a row has a byte for each spare node
  pub row-length : (spare j : ℕ) → length (count_bytes nodes plan spare j) ≡ spare
  unfolding count_bytes
  row-length spare j = length-map (up_to spare) _ ∙ length-up_to spare

-- ---- where the rows stand, one behind the other

module _ (first j spare : ℕ) {at : ℕ} (e : at ≡ first + j * spare) where
  pub row_next : at + spare ≡ first + (j + 1) * spare
  row_next = omega (arith, e, suc-mul j spare)

  -- a row ends by the last one's end
  pub row_fits : (most : ℕ) {room : ℕ} → j < most → first + most * spare ≤ room → at + spare ≤ room
  row_fits most l h =
      let turn : suc j * spare ≤ most * spare = mul-le-mul_right spare l in
      omega (arith, e, suc-mul j spare, turn, h)

-- numbers stored from the start on are read there
pub stored-listed : (old free : List ℕ) {nodes : List ℕ} → nodes ≡ sets old 0 free → length free ≤ length old
    → (n : ℕ) → n < length free → get_or nodes n 0 ≡ get_or free n 0
stored-listed old free e fits n h =
    ap (λ (l : List ℕ). get_or l n 0) e
    ∙ ap (λ (k : ℕ). get_or (sets old 0 free) k 0) (sym (zero-add n))
    ∙ get_or-sets-in old 0 free n 0 h (omega (arith, fits))

-- ---- where the list holds the nodes of kind 1

module _ (cap : Option ℕ) (I : Instance) (nodes : List ℕ) (plan : Bytes)
    (listed : (n : ℕ) → n < length (free_nodes_of I) → get_or nodes n 0 ≡ get_or (free_nodes_of I) n 0) where
  abbrev J : Instance
  J = under cap I

  -- of the first n nodes of kind 1 as many have a border as of the first n listed
  below-among : (n : ℕ) → n ≤ length (free_nodes_of I) → set_below nodes plan n ≡ set_among J (borders_of plan) n
  unfolding set_below set_among free_nodes_of is_free
  below-among n h =
      ap length (pick_same (set_in nodes plan) (λ k. borders_of plan (get_or (free_nodes_of I) k 0)) (up_to n)
      (λ k m. ap (borders_of plan) (listed k (let l = (up_to-mem n k).0 m in omega (arith, l, h)))))
      ∙ sym (set-among I (borders_of plan) n h)

  -- the rows of the cap's counter
  pub rows-values : (c : Counter) → c ≡ counter_of (under cap I)
      → each (up_to c.most) (count_bytes nodes plan c.spare) ≡ cap_values (under cap I) (plan_of I plan)
  unfolding cap_values count_bytes plan_of counter_of free_nodes_of is_free
  rows-values c e =
      ap (λ (d : Counter). each (up_to d.most) (count_bytes nodes plan d.spare)) e
      ∙ each_same _ _ (counter_of J).most (λ j l. map_same _ _ (counter_of J).spare (λ k m.
      ap (λ (n : ℕ). bit (ltb j n)) (below-among (j + k + 1)
      (let w = counter-whole cap (length (free_nodes_of I)) in omega (arith, w, l, m)))))
