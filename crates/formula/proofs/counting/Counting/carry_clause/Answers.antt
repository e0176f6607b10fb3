use Rattle.std.proofs.Common.{◌≡◌, ◌∙◌, ◌&&◌, true, ap, ap₂, refl, sym, ℕ, ◌∷◌}
use borrow.Author.Tests.{lt-ltb, le-ltb}
use lib.Dec.{ltb}
use Rattle.spec.specs.Lists.{each, one}
use Rattle.spec.specs.Formula.{is, not', words_of}
use Rattle.clauses.proofs.Laws.{passes_same, passes-nothing, only-true, only-false}
use Rattle.formula.proofs.counting.Counting.carry_clause.Goals as goal
use Rattle.formula.proofs.counting.Counting.carry_clause.Goals.{else-j-self-via-then-j-self+else-k-gt0, else-j-self-via-else-j-self}

pub returns-then-k-gt0 : goal.returns-then-k-gt0
returns-then-k-gt0 c =
    let both : (ltb c.args.j c.args.self.now.counter.most && ltb 0 c.args.k) ≡ true = rw (lt-ltb _ _ c.if-j-self.true) (lt-ltb _ _ c.if-k-gt0.true) in
    passes_same
    (ap₂ (λ (u v : ℕ). words_of (one (not' u ∷ one (is v)))) c.variable.ensures.0 c.variable-then-k-gt0.ensures.0
    ∙ ap words_of (sym (only-true _ both)))
    c.implies.ensures

pub returns-else-j-self : goal.returns-else-j-self
unfolding words_of each
returns-else-j-self c = elim c.else-j-self.branch [
  | else-j-self-via-then-j-self+else-k-gt0 w ↦
      passes-nothing (ap words_of (only-false _ (rw (lt-ltb _ _ w.if-j-self.true) (le-ltb _ _ w.if-k-gt0.false))))
  | else-j-self-via-else-j-self w ↦ passes-nothing (ap words_of (only-false _ (rw (le-ltb _ _ w.if-j-self.false) refl)))
]
