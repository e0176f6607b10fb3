-- The parts of the families that the code's loops pass: those that go by train and interval in one table, from which interval to
-- which, and the clauses of one interval; the calls of F and the pairs of I. That these parts make up the families of the
-- specification is a lemma. Assumes nothing.
use Rattle.std.specs.Prelude.{not, ℕ, ◌+◌, ◌-◌, List, ℤ}
use Rattle.spec.specs.Lists.{up_to, range, each, only, one}
use Rattle.spec.specs.Instance.{Instance, in_window, served_at_departure}
use Rattle.spec.specs.Formula.{Clause, width, base, claim_var, clauses_b, clauses_c, clauses_d, clauses_e, servers_f, clauses_g, clauses_h, clauses_i}

-- the families that go by train and interval
pub data Family : Type 0 where
  B : Family
  C : Family
  D : Family
  E : Family
  G : Family
  H : Family

-- the first interval, and the one behind the last, of a train that departs in d, of T intervals
abbrev pub from_by : Family → ℕ → ℕ
from_by B d = 0
from_by C d = d
from_by D d = d
from_by E d = d
from_by G d = 0
from_by H d = 0

abbrev pub to_by : Family → ℕ → ℕ → ℕ
to_by B d T = d
to_by C d T = T
to_by D d T = d + 1
to_by E d T = T - 1
to_by G d T = T
to_by H d T = T

-- the clauses of an interval whose first variable is x
abbrev pub block_clauses : Instance → Family → ℕ → ℕ → List Clause
block_clauses I B i x = clauses_b (I.runs i) x
block_clauses I C i x = clauses_c (I.runs i) x
block_clauses I D i x = clauses_d I i x
block_clauses I E i x = clauses_e I i x (x + width I i)
block_clauses I G i x = clauses_g I i x
block_clauses I H i x = clauses_h I i x

-- the clauses of a train
unfoldable pub train_clauses : Instance → Family → ℕ → List Clause
train_clauses I f i = each (range (from_by f (I.departure i)) (to_by f (I.departure i) I.intervals)) λ t. block_clauses I f i (base I i t)

unfoldable pub family_clauses : Instance → Family → List Clause
family_clauses I f = each (up_to I.trains) λ i. train_clauses I f i

-- ---- F and I

-- the literals of a call's clause, by time
unfoldable pub call_runs : Instance → ℕ → ℕ → List ℤ
call_runs I i c = each (range (I.departure i) I.intervals) λ t. only (in_window I i c (t + 1)) (servers_f I i c (base I i t))

-- the clause of a call
unfoldable pub call_clauses : Instance → ℕ → ℕ → List Clause
call_clauses I i c = only (not (served_at_departure I i c)) (one (call_runs I i c))

-- a train and each behind it, in an interval
unfoldable pub pairs_behind : Instance → ℕ → ℕ → List Clause
pairs_behind I t i = each (range (i + 1) I.trains) λ j. clauses_i I.segments (claim_var I i t) (claim_var I j t)
