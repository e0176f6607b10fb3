-- The formula: variables, the nine families clause for clause, words, totals and the DIMACS text. A literal is an integer:
-- `pos (suc v)` affirms the variable v and `negsuc v` denies it, v counted from 0 (the text's v + 1). Assumes nothing.
use Rattle.std.specs.Prelude.{not, ℕ, suc, ◌+◌, ◌*◌, ◌-◌, List, [], ◌∷◌, ◌++◌, map, length, ℤ, pos, negsuc}
use Rattle.spec.specs.Lists.{Bytes, up_to, range, each, only, one, sum_to}
use Rattle.spec.specs.Numbers.{decimal, decimal_z}
use Rattle.spec.specs.Instance.{Instance, in_window, served_at_departure}
use Rattle.spec.specs.Cap.{cap_variables, cap_clauses}

abbrev pub Literal : Type 0
Literal = ℤ

abbrev pub Clause : Type 0
Clause = List ℤ

-- "a negative literal is the denied variable"
abbrev pub is : ℕ → Literal
is v = pos (suc v)

abbrev pub not' : ℕ → Literal
not' v = negsuc v

-- "by train and interval: its runs, gone, and one claim a segment": the variables of an interval whose first one is x, of a
-- train with n runs. A claim (document 01's term): the train keeps the segment to itself in the interval.
abbrev pub run_variable : ℕ → ℕ → ℕ
run_variable x r = x + r

abbrev pub gone_variable : ℕ → ℕ → ℕ
gone_variable n x = x + n

abbrev pub claim_variable : ℕ → ℕ → ℕ → ℕ
claim_variable n x s = x + (n + 1 + s)

-- B, of an interval: "no run, not gone"
unfoldable pub clauses_b : ℕ → ℕ → List Clause
clauses_b n x = map (λ r. one (not' (run_variable x r))) (up_to n) ++ one (one (not' (gone_variable n x)))

-- C, of an interval: "some run or gone; then no two (pairs in order)". Gone's variable is the one behind the runs'.
unfoldable pub clauses_c : ℕ → ℕ → List Clause
clauses_c n x =
    one (map (λ r. is (run_variable x r)) (up_to n) ++ one (is (gone_variable n x)))
    ++ each (up_to (n + 1)) λ m. map (λ k. not' (run_variable x m) ∷ one (not' (run_variable x k))) (range (m + 1) (n + 1))

-- "not both", of n pairs of variables
unfoldable pub clauses_i : ℕ → (ℕ → ℕ) → (ℕ → ℕ) → List Clause
clauses_i n v w = map (λ s. not' (v s) ∷ one (not' (w s))) (up_to n)

module _ (I : Instance) where
  -- ---- "Variables: node borders 1 to N; then by train and interval: its runs, gone, and one claim a segment."

  -- how many variables a train has in an interval
  unfoldable pub width : ℕ → ℕ
  width i = I.runs i + 1 + I.segments

  -- the first variable of a train
  unfoldable pub first_var : ℕ → ℕ
  first_var i = I.nodes + sum_to (λ j. I.intervals * width j) i

  -- the first variable of a train's interval
  unfoldable pub base : ℕ → ℕ → ℕ
  base i t = first_var i + t * width i

  unfoldable pub border_var : ℕ → ℕ
  border_var n = n

  unfoldable pub run_var : ℕ → ℕ → ℕ → ℕ
  run_var i t r = run_variable (base i t) r

  unfoldable pub gone_var : ℕ → ℕ → ℕ
  gone_var i t = gone_variable (I.runs i) (base i t)

  unfoldable pub claim_var : ℕ → ℕ → ℕ → ℕ
  claim_var i t s = claim_variable (I.runs i) (base i t) s

  -- the variables of the nine families, and all variables
  unfoldable pub own_variables : ℕ
  own_variables = first_var I.trains

  unfoldable pub variables : ℕ
  variables = own_variables + cap_variables I

  -- ---- the clauses of one interval of train i; x is its first variable

  -- D: "not a run that starts elsewhere; not gone"
  unfoldable pub clauses_d : ℕ → ℕ → List Clause
  clauses_d i x =
      (each (up_to (I.runs i)) λ r. only (not (I.given i r)) (one (one (not' (run_variable x r)))))
      ++ one (one (not' (gone_variable (I.runs i) x)))

  -- E, of one run: it "implies a run starting at its end, in list order, or, last, gone" if that may follow it (`may_leave`, P4); y is
  -- the first variable of the next interval
  unfoldable pub followers_e : ℕ → ℕ → ℕ → List ℤ
  followers_e i y r = each (up_to (I.runs i)) λ q. only (I.follows i r q) (one (is (run_variable y q)))

  unfoldable pub clause_e : ℕ → ℕ → ℕ → ℕ → Clause
  clause_e i x y r = not' (run_variable x r) ∷ (followers_e i y r ++ only (I.leaves i r) (one (is (gone_variable (I.runs i) y))))

  -- E: each run so; "then gone implies gone"
  unfoldable pub clauses_e : ℕ → ℕ → ℕ → List Clause
  clauses_e i x y = map (clause_e i x y) (up_to (I.runs i)) ++ one (not' (gone_variable (I.runs i) x) ∷ one (is (gone_variable (I.runs i) y)))

  -- F: the runs of an interval that serve call c
  unfoldable pub servers_f : ℕ → ℕ → ℕ → List ℤ
  servers_f i c x = each (up_to (I.runs i)) λ r. only (I.serves i c r) (one (is (run_variable x r)))

  -- G: "a run implies the claim of each of its segments, in path order"
  unfoldable pub claims_g : ℕ → ℕ → ℕ → List Clause
  claims_g i x r = map (λ s. not' (run_variable x r) ∷ one (is (claim_variable (I.runs i) x s))) (I.path i r)

  unfoldable pub clauses_g : ℕ → ℕ → List Clause
  clauses_g i x = each (up_to (I.runs i)) λ r. claims_g i x r

  -- H: "by node, then ordered pair of segments of one TTD there: claim of the first implies border or claim of the second"
  unfoldable pub clauses_h : ℕ → ℕ → List Clause
  clauses_h i x = each (up_to I.nodes) λ n. each (up_to I.segments) λ s. each (up_to I.segments) λ u.
      only (I.meet n s u) (one (not' (claim_variable (I.runs i) x s) ∷ is (border_var n) ∷ one (is (claim_variable (I.runs i) x u))))

  -- ---- the families

  -- "A. kind 0: not border; kind 2: border.", and P4: kind 3 "is denied as for kind 0"
  unfoldable pub family_a : List Clause
  family_a = each (up_to I.nodes) λ n.
      only (I.denied n) (one (one (not' (border_var n)))) ++ only (I.forced n) (one (one (is (border_var n))))

  -- "B. before d"
  unfoldable pub family_b : List Clause
  family_b = each (up_to I.trains) λ i. each (up_to (I.departure i)) λ t. clauses_b (I.runs i) (base i t)

  -- "C. from d on"
  unfoldable pub family_c : List Clause
  family_c = each (up_to I.trains) λ i. each (range (I.departure i) I.intervals) λ t. clauses_c (I.runs i) (base i t)

  -- "D. interval d"
  unfoldable pub family_d : List Clause
  family_d = each (up_to I.trains) λ i. clauses_d i (base i (I.departure i))

  -- "E. after d": t is the interval before
  unfoldable pub family_e : List Clause
  family_e = each (up_to I.trains) λ i. each (range (I.departure i) (I.intervals - 1)) λ t. clauses_e i (base i t) (base i (t + 1))

  -- "F. each call, by train, then in file order: the runs of rule 5, by time; no clause if d is from first to last and the
  -- place at d serves. This clause may be empty." Here t is the interval before the time.
  unfoldable pub family_f : List Clause
  family_f = each (up_to I.trains) λ i. each (up_to (I.calls i)) λ c.
      only (not (served_at_departure I i c))
      (one (each (range (I.departure i) I.intervals) λ t. only (in_window I i c (t + 1)) (servers_f i c (base i t))))

  -- "G (like H, in every interval)"
  unfoldable pub family_g : List Clause
  family_g = each (up_to I.trains) λ i. each (up_to I.intervals) λ t. clauses_g i (base i t)

  unfoldable pub family_h : List Clause
  family_h = each (up_to I.trains) λ i. each (up_to I.intervals) λ t. clauses_h i (base i t)

  -- "I. by interval, train pair, segment: not both claims."
  unfoldable pub family_i : List Clause
  family_i = each (up_to I.intervals) λ t. each (up_to I.trains) λ i. each (range (i + 1) I.trains) λ j.
      clauses_i I.segments (claim_var i t) (claim_var j t)

  -- "Clauses, families outermost"; clause c of the text is at c - 1
  unfoldable pub formula : List Clause
  formula = family_a ++ (family_b ++ (family_c ++ (family_d ++ (family_e ++ (family_f ++ (family_g ++ (family_h ++ (family_i ++ cap_clauses I own_variables))))))))

-- ---- words and text

-- "each clause closed by 0, which counts as a word"
unfoldable pub words_of : List Clause → List ℤ
words_of cs = each cs λ c. c ++ one (pos 0)

-- "p cnf "
unfoldable pub dimacs_opening : Bytes
dimacs_opening = 112 ∷ 32 ∷ 99 ∷ 110 ∷ 102 ∷ 32 ∷ []

-- a literal and a blank each, then 0 and the end of the line
unfoldable pub dimacs_line : Clause → Bytes
dimacs_line c = (each c λ l. decimal_z l ++ one 32) ++ (48 ∷ one 10)

-- "variables and clauses in the header, one clause a line"
unfoldable pub dimacs_text : ℕ → List Clause → Bytes
dimacs_text vars cs = dimacs_opening ++ (decimal vars ++ (32 ∷ (decimal (length cs) ++ (10 ∷ each cs dimacs_line))))
