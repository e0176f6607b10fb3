-- A train's table of runs, asked with numbers that equal the train's: of n runs, and of places of l segments. Assumes nothing.
use mathlib.Core.Path.{◌≡◌, sym, subst}
use Prim.Native.Nat.{ℕ, ◌≤◌, ◌<◌}
use Rattle.spec.specs.Lists.{Bytes}
use Rattle.spec.specs.Book.{Book}
use Rattle.spec.specs.Runs.{start_place, end_place}
use Rattle.spec.specs.Instance.{instance_of, run_lists, run_at, train_length}
use Rattle.listing.specs.Listed.{place_at, start_at}
use Rattle.tables.specs.Placed.{size_at, end_at, run_held}
use Rattle.tables.specs.Ready.{RunsHeld}

module _ {b : Book} {i : ℕ} {runs : Bytes} (h : RunsHeld b i runs) (n : ℕ) (e : n ≡ (instance_of b).runs i) where
  -- of the first n runs, a fact of every run
  of-runs : (P : ℕ → Type 0) → ((r : ℕ) → r < (instance_of b).runs i → P r) → (r : ℕ) → r < n → P r
  of-runs P f r k = f r (subst (λ (m : ℕ). r < m) e k)

  pub few-n : n ≤ 256
  few-n = subst (λ (m : ℕ). m ≤ 256) (sym e) h.few

  pub sizes-n : (r : ℕ) → r < n → size_at runs r ≤ 16
  sizes-n = of-runs (λ r. size_at runs r ≤ 16) h.most

  pub runs-n : (r : ℕ) → r < n → run_held runs r ≡ run_at (run_lists b) i r
  runs-n = of-runs (λ r. run_held runs r ≡ run_at (run_lists b) i r) h.run

  module _ (l : ℕ) (f : l ≡ train_length b i) where
    pub least-n : (r : ℕ) → r < n → l ≤ size_at runs r
    least-n = subst (λ (m : ℕ). (r : ℕ) → r < n → m ≤ size_at runs r) (sym f) (of-runs (λ r. train_length b i ≤ size_at runs r) h.least)

    pub starting-n : (r : ℕ) → r < n → place_at runs (start_at r) l ≡ start_place l (run_at (run_lists b) i r)
    starting-n =
        subst (λ (m : ℕ). (r : ℕ) → r < n → place_at runs (start_at r) m ≡ start_place m (run_at (run_lists b) i r)) (sym f)
        (of-runs (λ r. place_at runs (start_at r) (train_length b i) ≡ start_place (train_length b i) (run_at (run_lists b) i r)) h.starting)

    pub ending-n : (r : ℕ) → r < n → place_at runs (end_at runs r l) l ≡ end_place l (run_at (run_lists b) i r)
    ending-n =
        subst (λ (m : ℕ). (r : ℕ) → r < n → place_at runs (end_at runs r m) m ≡ end_place m (run_at (run_lists b) i r)) (sym f)
        (of-runs (λ r. place_at runs (end_at runs r (train_length b i)) (train_length b i) ≡ end_place (train_length b i) (run_at (run_lists b) i r))
        h.ending)
