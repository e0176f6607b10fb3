-- Rows that are stored one behind another; and the parts of a decoded plan as such rows. Assumes nothing.
use mathlib.Core.Path.{◌≡◌, refl, sym, ap, ap₂, ◌∙◌}
use Prim.Native.Nat.{ℕ, ◌+◌, ◌*◌, ◌≤◌}
use native.Mathlib.Nat.{zero-add}
use native.Mathlib.Omega.{arith}
use mathlib.Core.List.{◌++◌}
use lib.ListN.{length, drop, length-map}
use lib.Seq.{sets, length-sets, sets-eq}
use Rattle.spec.specs.Lists.{Bytes, up_to, count, each}
use Rattle.spec.specs.Numbers.{little_endian}
use Rattle.spec.specs.Instance.{Instance}
use Rattle.spec.specs.Plan.{bit, move_code, plan_bytes, plan_length}
use Rattle.spec.specs.Assignment.{assigned, decoded, decode}
use Rattle.spec.specs.Entry.{overwrite}
use Rattle.laws.proofs.Numbers.{length-little_endian}
use Rattle.laws.proofs.Parts.{length-each, sum-constant, length-up_to}
use Rattle.demands.proofs.Encoding.{length-plan}
use Rattle.laws.proofs.Stores.{sets-append}
use Rattle.listing.proofs.Lists.{each_next}
use Rattle.plan_coding.specs.Decoded.{border_bytes, train_bytes}

-- ---- rows

-- the first i rows stand in the output from `at` on
pub record Rows (f : ℕ → Bytes) (old : Bytes) (at i : ℕ) (out : Bytes) : Type 0 where
  pub stored : out ≡ sets old at (each (up_to i) f)

module _ {f : ℕ → Bytes} {old : Bytes} {at : ℕ} where
  pub rows_none : Rows f old at 0 old
  unfolding up_to count each
  rows_none = record { stored = refl }

  pub rows-kept : {i : ℕ} {out : Bytes} → Rows f old at i out → length out ≡ length old
  rows-kept {i} r = ap length r.stored ∙ length-sets old at (each (up_to i) f)

  pub rows_all : {i n : ℕ} {out : Bytes} → Rows f old at i out → i ≡ n → out ≡ sets old at (each (up_to n) f)
  rows_all r e = r.stored ∙ ap (λ (k : ℕ). sets old at (each (up_to k) f)) e

  -- a turn stores a row behind them
  pub rows_behind : {i place : ℕ} {out after : Bytes} → Rows f old at i out → place ≡ at + length (each (up_to i) f)
      → after ≡ sets out place (f i) → Rows f old at (i + 1) after
  rows_behind {i} r e s = record {
    stored =
        s
        ∙ ap₂ (λ (t : Bytes) (k : ℕ). sets t k (f i)) r.stored e
        ∙ sym (sets-append old at (each (up_to i) f) (f i))
        ∙ ap (sets old at) (sym (each_next f i));
  }

-- rows of w bytes each
module _ (f : ℕ → Bytes) (w : ℕ) (sized : (i : ℕ) → length (f i) ≡ w) where
  pub rows-length : (n : ℕ) → length (each (up_to n) f) ≡ n * w
  rows-length n = length-each f (λ _. w) sized n ∙ sum-constant w n

  pub rows_next : {old : Bytes} {at i place : ℕ} {out after : Bytes} → Rows f old at i out → place ≡ at + i * w
      → after ≡ sets out place (f i) → Rows f old at (i + 1) after
  rows_next {at = at} {i} r e s = rows_behind r (e ∙ ap (λ (k : ℕ). at + k) (sym (rows-length i))) s

-- ---- the plan's parts

module _ (I : Instance) (s : Bytes) where
  pub train-length : (i : ℕ) → length (train_bytes I s i) ≡ I.intervals * 2
  unfolding train_bytes
  train-length i =
      rows-length (λ t. little_endian 2 (move_code ((decoded I (assigned s)).move i t))) 2 (λ t. length-little_endian 2 _) I.intervals

  pub borders-length : length (border_bytes I s) ≡ I.nodes
  unfolding border_bytes
  borders-length = length-map (up_to I.nodes) (λ n. bit ((decoded I (assigned s)).border n)) ∙ length-up_to I.nodes

  -- both parts together
  pub parts : decode I s ≡ border_bytes I s ++ each (up_to I.trains) (train_bytes I s)
  unfolding decode plan_bytes border_bytes train_bytes
  parts = refl

  long : length (decode I s) ≡ plan_length I
  unfolding decode
  long = length-plan I (decoded I (assigned s))

  -- the borders at the start and the trains' bytes behind them are the plan, over what was there
  pub plan-stored : (old : Bytes) {after out : Bytes} {i : ℕ} → plan_length I ≤ length old → after ≡ sets old 0 (border_bytes I s)
      → Rows (train_bytes I s) after I.nodes i out → i ≡ I.trains → out ≡ overwrite old (decode I s)
  unfolding overwrite
  plan-stored old {after} {out} {i} fits first behind done =
      let rows = each (up_to I.trains) (train_bytes I s) in
      rows_all behind done
      ∙ ap₂ (λ (l : Bytes) (k : ℕ). sets l k rows) first (sym borders-length ∙ sym (zero-add _))
      ∙ sym (sets-append old 0 (border_bytes I s) rows)
      ∙ ap (sets old 0) (sym parts)
      ∙ sets-eq (decode I s) old 0 (omega (arith, long))
      ∙ ap (λ (k : ℕ). decode I s ++ drop k old) (zero-add (length (decode I s)))
