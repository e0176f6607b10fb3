-- The numbers below n that pass a test, as a chain: `first` is the least of them, and the next behind one stands with it in `chains`,
-- which has two numbers for each; n stands at the end. Assumes nothing.
use Rattle.std.specs.Prelude.{◌≡◌, Bool, ℕ, ◌+◌, ◌*◌, ◌-◌, ◌<◌, List, get_or, T}
use Rattle.tables.specs.Tables.{least_from}

pub record Chained (f : ℕ → Bool) (n first : ℕ) (chains : List ℕ) : Type 0 where
  pub least : first ≡ least_from f 0 n
  pub next : (q : ℕ) → q < n → T (f q) → get_or chains (2 * q + 1) 0 ≡ least_from f (q + 1) (n - (q + 1))
