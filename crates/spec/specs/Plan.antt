-- The plan: its choices, its bytes, the six rules, the least broken rule. The rules are stated of the choices themselves,
-- never through the formula. Assumes nothing.
use Rattle.std.specs.Prelude.{Bool, true, false, not, ◌&&◌, ◌||◌, cond, ℕ, ◌+◌, ◌*◌, ◌-◌, ◌<◌, List, [], ◌∷◌, ◌++◌, map, length, get_or, T, leb, ltb, eqb}
use Rattle.std.proofs.Math.Option.{Option}
use Rattle.spec.specs.Lists.{Bytes, any, all, up_to, range, each, one, Fault, ◌when◌, first_fault, faultless}
use Rattle.spec.specs.Numbers.{little_endian, field}
use Rattle.spec.specs.Instance.{Instance, in_window, served_at_departure}
use Rattle.spec.specs.Sections.{Borders, share_section}

-- What a train does in an interval: "a run's number in the train's list, from 0, 65534 absent or 65535 gone".
pub data Move : Type 0 where
  run : ℕ → Move
  absent : Move
  gone : Move

abbrev pub absent_code : ℕ
absent_code = 65534

abbrev pub gone_code : ℕ
gone_code = 65535

-- A plan (document 01's term): a border or none a node, and a move by train and interval.
pub record Plan : Type 0 where
  pub border : Borders
  pub move : ℕ → ℕ → Move

unfoldable pub is_absent : Move → Bool
is_absent (run r) = false
is_absent absent = true
is_absent gone = false

unfoldable pub is_gone : Move → Bool
is_gone (run r) = false
is_gone absent = false
is_gone gone = true

-- the move is a run that passes the test
unfoldable pub runs : Move → (ℕ → Bool) → Bool
runs (run r) f = f r
runs absent f = false
runs gone f = false

-- the move is no run, or one that passes the test
unfoldable pub if_run : Move → (ℕ → Bool) → Bool
if_run (run r) f = f r
if_run absent f = true
if_run gone f = true

-- what the move is a run of, or nothing
unfoldable pub of_run {ℓ} : {A : Type ℓ} → Move → (ℕ → List A) → List A
of_run (run r) f = f r
of_run absent f = []
of_run gone f = []

-- ---- the plan's bytes

unfoldable pub move_code : Move → ℕ
move_code (run r) = r
move_code absent = absent_code
move_code gone = gone_code

unfoldable pub move_of : ℕ → Move
move_of n = elim (eqb n absent_code) [ true ↦ absent | false ↦ elim (eqb n gone_code) [ true ↦ gone | false ↦ run n ] ]

unfoldable pub bit : Bool → ℕ
bit b = cond b 1 0

-- "one byte 0 or 1 a node, then, by train and interval 0 to T − 1, two little-endian bytes"
unfoldable pub plan_bytes : Instance → Plan → Bytes
plan_bytes I p =
    map (λ n. bit (p.border n)) (up_to I.nodes)
    ++ each (up_to I.trains) λ i. each (up_to I.intervals) λ t. little_endian 2 (move_code (p.move i t))

unfoldable pub plan_length : Instance → ℕ
plan_length I = I.nodes + I.trains * (I.intervals * 2)

-- where the two bytes of a train's interval stand
unfoldable pub move_at : Instance → ℕ → ℕ → ℕ
move_at I i t = I.nodes + (i * (I.intervals * 2) + t * 2)

-- the borders that bytes stand for
abbrev pub borders_of : Bytes → Borders
borders_of s n = eqb (get_or s n 0) 1

-- the plan that bytes stand for
unfoldable pub plan_of : Instance → Bytes → Plan
plan_of I s = record { border = borders_of s; move = λ i t. move_of (field s (move_at I i t) 2) }

unfoldable pub is_bit : ℕ → Bool
is_bit x = leb x 1

-- "a run in the train's list, absent or gone"
unfoldable pub is_move : Instance → ℕ → Move → Bool
is_move I i (run r) = ltb r (I.runs i)
is_move I i absent = true
is_move I i gone = true

-- "Every plan … is every choice of a byte 0 or 1 a node and, by train and interval, of a run in the train's list, absent or
-- gone"
abbrev pub IsPlan : Instance → Plan → Type 0
IsPlan I p = (i : ℕ) → i < I.trains → (t : ℕ) → t < I.intervals → T (is_move I i (p.move i t))

-- 15: "length or a value wrong"
unfoldable pub plan_fits : Instance → Bytes → Bool
plan_fits I s =
    eqb (length s) (plan_length I)
    && all (λ n. is_bit (get_or s n 0)) (up_to I.nodes)
    && all (λ i. all (λ t. is_move I i ((plan_of I s).move i t)) (up_to I.intervals)) (up_to I.trains)

-- ---- the six rules

module _ (I : Instance) (p : Plan) where
  -- 1. "Borders respect their kinds."
  unfoldable pub rule1 : Bool
  rule1 = all (λ n. (not (I.denied n) || not (p.border n)) && (not (I.forced n) || p.border n)) (up_to I.nodes)

  -- 2. "Absent exactly in intervals before d; a run from the given place in interval d.", of one train and of all
  unfoldable pub absent_before : ℕ → Bool
  absent_before i =
      all (λ t. is_absent (p.move i t)) (up_to (I.departure i))
      && all (λ t. not (is_absent (p.move i t))) (range (I.departure i) I.intervals)

  unfoldable pub departs : ℕ → Bool
  departs i = absent_before i && runs (p.move i (I.departure i)) (λ r. I.given i r)

  unfoldable pub rule2 : Bool
  rule2 = all (λ i. departs i) (up_to I.trains)

  -- 3. "Gone only after d, after gone or after a run" that gone may follow (`may_leave`, P4). "After gone, gone."
  unfoldable pub leaves_rightly : ℕ → Bool
  leaves_rightly i =
      all (λ t. not (is_gone (p.move i t))) (up_to (I.departure i + 1))
      && all (λ t.
      (not (is_gone (p.move i (t + 1))) || (is_gone (p.move i t) || runs (p.move i t) (λ r. I.leaves i r)))
      && (not (is_gone (p.move i t)) || is_gone (p.move i (t + 1))))
      (up_to (I.intervals - 1))

  unfoldable pub rule3 : Bool
  rule3 = all (λ i. leaves_rightly i) (up_to I.trains)

  -- 4. "A run after a run starts at the place where that one ended."
  unfoldable pub runs_on : ℕ → Bool
  runs_on i = all (λ t. if_run (p.move i t) λ r. if_run (p.move i (t + 1)) λ q. I.follows i r q) (up_to (I.intervals - 1))

  unfoldable pub rule4 : Bool
  rule4 = all (λ i. runs_on i) (up_to I.trains)

  -- "at time t > d it is the end of the run of interval t − 1, if there was one"; here t is that interval
  unfoldable pub served_by : ℕ → ℕ → Bool
  served_by i c =
      any (λ t. in_window I i c (t + 1) && runs (p.move i t) (λ r. I.serves i c r)) (range (I.departure i) I.intervals)

  -- 5. "Each call: at some time from first to last the train's place contains the segment."
  unfoldable pub keeps_calls : ℕ → Bool
  keeps_calls i = all (λ c. served_at_departure I i c || served_by i c) (up_to (I.calls i))

  unfoldable pub rule5 : Bool
  rule5 = all (λ i. keeps_calls i) (up_to I.trains)

  -- of rule 6, and P5's "trains meet": in an interval some section "holds segments of two trains' runs"
  unfoldable pub trains_meet : ℕ → ℕ → ℕ → Bool
  trains_meet t i j = share_section I p.border (of_run (p.move i t) (λ r. I.path i r)) (of_run (p.move j t) (λ r. I.path j r))

  -- "no section holds segments of two trains' runs", in an interval
  unfoldable pub apart_in : ℕ → Bool
  apart_in t = all (λ i. all (λ j. not (trains_meet t i j)) (range (i + 1) I.trains)) (up_to I.trains)

  -- 6. "In each interval no section holds segments of two trains' runs."
  unfoldable pub rule6 : Bool
  rule6 = all (λ t. apart_in t) (up_to I.intervals)

  -- the plan's rules, in their order
  unfoldable pub rule_faults : List Fault
  rule_faults =
      1 when not rule1 ∷ 2 when not rule2 ∷ 3 when not rule3 ∷ 4 when not rule4 ∷ 5 when not rule5 ∷ one (6 when not rule6)

  -- "least broken rule"
  unfoldable pub broken_rule : Option ℕ
  broken_rule = first_fault rule_faults

  -- the plan keeps the six rules
  unfoldable pub keeps_rules : Bool
  keeps_rules = faultless rule_faults
