use Rattle.std.proofs.Common.{◌≡◌, ◌≢◌, ◌*◌, ap, sym, refl, ℕ, zero, suc, false}
use Rattle.clauses.specs.declared.Tally.{Tally}
use Rattle.clauses.specs.Walked.{more, skipped}
use Rattle.clauses.proofs.Tally.skip_pairs.Goals as goal

-- some clauses
skips : {k words clauses : ℕ} (w : Tally) → k ≢ 0 → words ≡ more w.words (3 * k) → clauses ≡ more w.clauses k
    → record { words = words; clauses = clauses; holds = false; wrong = w.wrong } ≡ skipped k w
unfolding skipped
skips {k = zero} w h e f = absurd (h refl)
skips {k = suc k} w h e f = simp (e, f)

pub returns-then-k-ne0 : goal.returns-then-k-ne0
returns-then-k-ne0 c = skips c.args.self.now c.if-k-ne0.true c.more-self.ensures c.more-self-then-k-ne0.ensures

-- no clause
pub returns-else-k-ne0 : goal.returns-else-k-ne0
unfolding skipped
returns-else-k-ne0 c = ap (λ (k : ℕ). skipped k c.args.self.now) (sym c.if-k-ne0.false)
