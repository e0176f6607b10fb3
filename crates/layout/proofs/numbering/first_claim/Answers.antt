-- `numbering::first_claim` meets its contract: the claims lie behind the interval's runs and the variable "gone". Assumes nothing.
use Rattle.std.proofs.Common.{◌≡◌, ◌+◌, ℕ, arith}
use Rattle.spec.specs.Instance.{Instance}
use Rattle.spec.specs.Formula.{base, claim_var}
use Rattle.tables.proofs.Small.{few-runs}
use Rattle.layout.proofs.numbering.first_claim.Goals as goal

pub claims_from-requires : goal.claims_from-requires
claims_from-requires c = omega (arith, few-runs c.args.b c.args.counts c.requires.0 c.args.train c.requires.1, c.base_of.ensures.1)

-- the first claim, as the instance numbers it
claims-at : (I : Instance) (i t : ℕ) {n x y : ℕ} → n ≡ I.runs i → x ≡ base I i t → y ≡ x + (n + 1) → y ≡ claim_var I i t 0
unfolding claim_var
claims-at I i t e f g = omega arith

pub returns : goal.returns
returns c =
    let a = c.args in (
      claims-at _ _ _ (c.requires.0.runs a.train c.requires.1) c.base_of.ensures.0 c.claims_from.ensures,
      omega (arith, few-runs a.b a.counts c.requires.0 a.train c.requires.1, c.base_of.ensures.1, c.claims_from.ensures),
    )
