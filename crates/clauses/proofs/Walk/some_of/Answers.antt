use Rattle.std.proofs.Common.{◌≡◌, ℕ, ℤ, pos, List, ◌+◌, ◌++◌, map, arith, ap, sym, ◌∙◌}
use Rattle.std.proofs.lemmas.List.{append-nil}
use Rattle.spec.specs.Lists.{up_to, range, each, one}
use Rattle.spec.specs.Formula.{is, words_of}
use Rattle.clauses.proofs.Laws.{passes_same, passes-behind}
use Rattle.clauses.proofs.Turns.{turn-none, turn, turned, literals-row}
use Rattle.clauses.proofs.Walk.some_of.Goals as goal

-- the literals, and the 0 behind them
some-words : (f : ℕ → ℤ) (n : ℕ) → (each (range 0 n) (λ k. one (f k)) ++ one (pos 0)) ≡ words_of (one (map f (up_to n)))
unfolding words_of each
some-words f n = ap (λ (ls : List ℤ). ls ++ one (pos 0)) (literals-row f n) ∙ sym (append-nil _)

pub loop-k-init : goal.loop-k-init
loop-k-init c = turn-none _ _

pub loop-k-preserved : goal.loop-k-preserved
loop-k-preserved c = turn _ _ _ (omega arith) c.loop-k.invariant c.affirm.ensures

pub returns : goal.returns
returns c =
    let a = c.args in
    passes_same (some-words (λ k. is (a.from + k)) a.n) (passes-behind (turned _ _ _ a.n (omega arith) c.loop-k.invariant) c.close.ensures)
