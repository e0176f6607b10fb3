-- "Which border carries the plan" (document 02, P5): of a plan that keeps the rules, the borders whose clearing alone lets trains meet.
-- A border is cleared and the plan judged again, by rule 6 itself. Assumes nothing.
use Rattle.std.specs.Prelude.{Bool, not, ◌&&◌, ℕ, ◌+◌, ◌*◌, ◌-◌, List, [], ◌∷◌, length, eqb}
use Rattle.spec.specs.Lists.{Bytes, any, up_to, range, each, pick, least_from, Verdict, accepted, and_then}
use Rattle.spec.specs.Instance.{Instance, is_free, free_nodes_of}
use Rattle.spec.specs.Plan.{Plan, trains_meet, apart_in, rule6}
use Rattle.spec.specs.Entry.{after_plan, read_instance, overwrite, written}

-- ---- where trains meet

-- "Next to each, give the earliest interval in which trains then meet, and of the pairs that meet in it the first": the interval, and the
-- lower and the higher train
pub record Meeting : Type 0 where
  pub interval : ℕ
  pub lower : ℕ
  pub higher : ℕ

module _ (I : Instance) (p : Plan) where
  -- "the earliest interval in which trains then meet"; how many intervals there are where none do
  unfoldable pub earliest : ℕ
  earliest = least_from (λ t. not (apart_in I p t)) 0 I.intervals

  -- "of the pairs that meet in it the first by lower and then by higher train": the least train that meets a higher one, and the
  -- least higher one that it meets; numbers that no train has where none do
  unfoldable pub meets_higher : ℕ → ℕ → Bool
  meets_higher t i = any (trains_meet I p t i) (range (i + 1) I.trains)

  unfoldable pub lower_train : ℕ → ℕ
  lower_train t = least_from (meets_higher t) 0 I.trains

  unfoldable pub higher_train : ℕ → ℕ → ℕ
  higher_train t i = least_from (trains_meet I p t i) (i + 1) (I.trains - (i + 1))

  -- both, of an interval
  unfoldable pub first_pair : ℕ → Meeting
  first_pair t = record { interval = t; lower = lower_train t; higher = higher_train t (lower_train t) }

  -- and of the earliest one
  unfoldable pub first_meeting : Meeting
  first_meeting = first_pair earliest

-- ---- the list

-- "clearing alone": the plan with the border of a node cleared, and nothing else changed
unfoldable pub cleared : Plan → ℕ → Plan
cleared p n = record { border = λ m. p.border m && not (eqb m n); move = p.move }

-- "each set border of kind 1 whose clearing alone makes the plan break rule 6"
unfoldable pub carries : Instance → Plan → ℕ → Bool
carries I p n = is_free I n && p.border n && not (rule6 I (cleared p n))

-- "list in rising node number"
unfoldable pub carriers : Instance → Plan → List ℕ
carriers I p = pick (carries I p) (up_to I.nodes)

-- "An entry is four bytes: node, interval, lower and higher train."
unfoldable pub entry : ℕ → Meeting → Bytes
entry n m = n ∷ m.interval ∷ m.lower ∷ m.higher ∷ []

-- the list, with "Next to each" its meeting
unfoldable pub carrier_list : Instance → Plan → Bytes
carrier_list I p = each (carriers I p) λ n. entry n (first_meeting I (cleared p n))

-- ---- the entry point; lent: an output of bytes, with room for an entry a kind 1 node

-- "12 asks for an entry a kind 1 node", set or not
unfoldable pub carrier_room : Instance → ℕ
carrier_room I = length (free_nodes_of I) * 4

-- "12 asks for an entry a kind 1 node, 15 and 16 a bad plan."
unfoldable pub carriers_for : Instance → Bytes → ℕ → Verdict Bytes
carriers_for I plan out_length = after_plan I plan (carrier_room I) out_length λ p. accepted (carrier_list I p)

-- "Given a book and a plan that keeps the rules"
unfoldable pub list_carriers : Bytes → Bytes → ℕ → Verdict Bytes
list_carriers book plan out_length = and_then (read_instance book) λ I. carriers_for I plan out_length

-- what the output holds after the call
unfoldable pub carriers_output : Bytes → Bytes → Bytes → Bytes
carriers_output book plan old = overwrite old (written (list_carriers book plan (length old)))
