-- Each number that is tested is a kind's, and any other finds none. Assumes nothing.
use Rattle.std.proofs.Common.{◌≡◌, ℕ, sym, ap, arith}
use Rattle.spec.specs.Frames.{find_kind, kind_order, kind_number}
use Rattle.frames.specs.Framed.{kind_said}
use Rattle.frames.proofs.Order.{found-other}
use Rattle.frames.proofs.kind_of.Goals as goal

-- what two equal numbers say
said : (n k : ℕ) → n ≡ k → kind_said (find_kind k kind_order) ≡ kind_said (find_kind n kind_order)
said n k e = sym (ap (λ m. kind_said (find_kind m kind_order)) e)

pub returns-in-1 : goal.returns-in-1
unfolding find_kind kind_order kind_number
returns-in-1 c = said c.args.number 1 (omega arith)

pub returns-in-2 : goal.returns-in-2
unfolding find_kind kind_order kind_number
returns-in-2 c = said c.args.number 2 (omega arith)

pub returns-in-3 : goal.returns-in-3
unfolding find_kind kind_order kind_number
returns-in-3 c = said c.args.number 3 (omega arith)

pub returns-in-4 : goal.returns-in-4
unfolding find_kind kind_order kind_number
returns-in-4 c = said c.args.number 4 (omega arith)

pub returns-in-5 : goal.returns-in-5
unfolding find_kind kind_order kind_number
returns-in-5 c = said c.args.number 5 (omega arith)

pub returns-in-6 : goal.returns-in-6
unfolding find_kind kind_order kind_number
returns-in-6 c = said c.args.number 6 (omega arith)

pub returns-in-7 : goal.returns-in-7
unfolding find_kind kind_order kind_number
returns-in-7 c = said c.args.number 7 (omega arith)

pub returns-in-8 : goal.returns-in-8
unfolding find_kind kind_order kind_number
returns-in-8 c = said c.args.number 8 (omega arith)

pub returns-in_default : goal.returns-in_default
returns-in_default c =
    sym (ap kind_said (found-other c.args.number (λ e. omega arith) (λ e. omega arith) (λ e. omega arith) (λ e. omega arith) (λ e. omega arith) (λ e. omega arith) (λ e. omega arith) (λ e. omega arith)))
