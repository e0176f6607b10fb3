-- The first half of the combined verdict by its parts, and what an accepted assignment's bytes are. Assumes nothing.
use borrow.Author.Tests.{eq-eqb, ne_eqb}
use mathlib.Core.Path.{◌≡◌, refl, sym}
use mathlib.Core.Logic.{◌≢◌}
use Prim.Native.Nat.{ℕ, ◌≤◌}
use native.Mathlib.Omega.{arith}
use lib.ListN.{length}
use lib.Dec.{eqb}
use Rattle.laws.proofs.Tests.{and-iff, eqb-iff}
use Rattle.spec.specs.Lists.{Bytes, accepted, refused, and_then}
use Rattle.spec.specs.Instance.{Instance}
use Rattle.spec.specs.Plan.{borders_of}
use Rattle.spec.specs.Cap.{set_count}
use Rattle.spec.specs.Formula.{border_var, first_var, own_variables, variables}
use Rattle.spec.specs.Assignment.{assigned, assignment_fits, decoded}
use Rattle.spec.specs.Entry.{demand, judge_assignment}
use Rattle.demands.proofs.Entries.{assignment-iff}
use Rattle.fewest.specs.Counted.{counted_for}

module _ (I : Instance) (s : Bytes) where
  -- an accepted assignment has a byte a node at least
  pub has-borders : judge_assignment I s ≡ accepted tt → I.nodes ≤ length s
  unfolding assignment_fits variables own_variables first_var
  has-borders e =
      let fits = (and-iff (eqb (length s) (variables I)) _).0 ((assignment-iff I s).0 e).0 in
      omega (arith, (eqb-iff (length s) (variables I)).0 fits.0)

  -- its borders are its first bytes
  pub same_count : set_count I (borders_of s) ≡ set_count I (decoded I (assigned s)).border
  unfolding set_count decoded assigned border_var
  same_count = refl

  -- ---- the verdict

  pub not-judged : (n : ℕ) {k d : ℕ} → judge_assignment I s ≡ refused k d → counted_for I n s ≡ refused k d
  unfolding counted_for and_then
  not-judged n e = rw (e, and_then) refl

  module _ (n : ℕ) {c : ℕ} (e : judge_assignment I s ≡ accepted tt) (f : c ≡ set_count I (borders_of s)) where
    pub other-count : c ≢ n → counted_for I n s ≡ refused 22 0
    unfolding counted_for and_then demand
    other-count h = rw (e, and_then, sym same_count, sym f, ne_eqb _ _ h, demand) refl

    pub right-count : c ≡ n → counted_for I n s ≡ accepted tt
    unfolding counted_for and_then demand
    right-count h = rw (e, and_then, sym same_count, sym f, eq-eqb _ _ h, demand) refl
