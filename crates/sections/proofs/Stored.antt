-- Numbers that are stored from the start of a table on: what is read there, and what lies behind them. Assumes nothing.
use mathlib.Core.Path.{◌≡◌, sym, ap, ap₂, ◌∙◌}
use Prim.Native.Nat.{ℕ, ◌≤◌, ◌<◌}
use native.Mathlib.Nat.{zero-add}
use native.Mathlib.Omega.{arith}
use mathlib.Core.List.{List, ◌++◌, map}
use lib.ListN.{length, get_or, take, drop, length-map, take-append-drop}
use lib.Seq.{sets, sets-eq, length-sets, drop_at, take-length}
use Rattle.spec.specs.Lists.{up_to}
use Rattle.laws.proofs.Parts.{length-up_to, map_at, map_same, singles}
use Rattle.laws.proofs.Stores.{get_or-sets-in}

-- a table has the first n numbers of f, and is else as it was
pub record Stored (f : ℕ → ℕ) (n : ℕ) (old new : List ℕ) : Type 0 where
  pub size : length new ≡ length old
  pub at : (i : ℕ) → i < n → get_or new i 0 ≡ f i
  pub behind : drop n new ≡ drop n old

module _ (f : ℕ → ℕ) (n : ℕ) (old : List ℕ) where
  abbrev numbers : List ℕ
  numbers = map f (up_to n)

  many : length numbers ≡ n
  many = length-map (up_to n) f ∙ length-up_to n

  module _ (fits : n ≤ length old) where
    split : sets old 0 numbers ≡ numbers ++ drop n old
    split =
        sets-eq numbers old 0 (omega (arith, many))
        ∙ ap (λ (k : ℕ). numbers ++ drop k old) (zero-add (length numbers) ∙ many)

    pub stored : (new : List ℕ) → new ≡ sets old 0 numbers → Stored f n old new
    stored new e = record {
      size = ap length e ∙ length-sets old 0 numbers;
      at = λ i l.
          rw e (rw zero-add at (get_or-sets-in old 0 numbers i 0 (omega (arith, many)) (omega (arith, many))) ∙ map_at f n i 0 l);
      behind = ap (drop n) (e ∙ split) ∙ drop_at numbers (drop n old) n many;
    }

    pub sets_of : (new : List ℕ) → Stored f n old new → new ≡ sets old 0 numbers
    sets_of new s =
        sym (take-append-drop n new)
        ∙ ap₂ ◌++◌ (sym (singles new 0 n (omega (arith, s.size))) ∙ map_same (λ i. get_or new i 0) f n s.at) s.behind
        ∙ sym split

    -- the first n were written by themselves
    pub front-stored : (front : List ℕ) → length front ≡ n → ((i : ℕ) → i < n → get_or front i 0 ≡ f i)
        → front ++ drop n old ≡ sets old 0 numbers
    front-stored front e at =
        let taken : take n front ≡ front = rw (← e) (take-length front) in
        ap (λ (xs : List ℕ). xs ++ drop n old)
        (sym taken ∙ sym (singles front 0 n (omega arith)) ∙ map_same (λ i. get_or front i 0) f n at)
        ∙ sym split
