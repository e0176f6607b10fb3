-- What the theorems of demands 1 to 3, of l and k, and of exits claim beside the definitions of the specification. Assumes nothing.
use Rattle.std.specs.Prelude.{◌≡◌, ◌⊎◌, Bool, ℕ, zero, suc, ◌+◌, ◌*◌, ◌-◌, ◌≤◌, ◌<◌, length, get_or, drop, T, eqb}
use Rattle.std.proofs.Math.Option.{some}
use mathlib.Core.List.{List, [], ◌∷◌, ◌++◌, map, Memᴰ}
use Rattle.spec.specs.Lists.{Bytes, one, Verdict, accepted, refused}
use Rattle.spec.specs.Book.{Book, Train, Call, node_kind_at, train_at, segment_of, end_node}
use Rattle.spec.specs.Runs.{end_place}
use Rattle.spec.specs.Instance.{Instance, train_length, run_lists, run_at}
use Rattle.spec.specs.Plan.{Plan, Move, run, gone, is_gone, runs, is_move}
use Rattle.spec.specs.Formula.{border_var, run_var, gone_var, formula, variables}
use Rattle.spec.specs.Refutation.{ProofStep, Lent, file_of, InFields, GoodSteps, clauses_fit}
use Rattle.spec.specs.Entry.{formula_fits, check_refutation}
use Rattle.demands.specs.Reasons.{Within}

-- ---- outputs, assignments, refutations

-- "outputs untouched", and "A success changes only the stated length of an output": what an output holds after the call, by what the
-- check returns. An accepted check's result stands ahead of what the output held behind it; a refused one changes nothing.
abbrev pub Holds : {A R : Type 0} → Verdict R → (R → List A) → (old after : List A) → Type 0
Holds {R = R} verdict result old after =
    ((r : R) → verdict ≡ accepted r → (length (result r) ≤ length old) × (after ≡ result r ++ drop (length (result r)) old))
    × ((number detail : ℕ) → verdict ≡ refused number detail → after ≡ old)

-- A valuation and a plan say the same.
pub record Codes (I : Instance) (α : ℕ → Bool) (p : Plan) : Type 0 where
  pub borders : (n : ℕ) → n < I.nodes → α (border_var I n) ≡ p.border n
  pub moves : (i : ℕ) → i < I.trains → (t : ℕ) → t < I.intervals → T (is_move I i (p.move i t))
  pub runs_same : (i : ℕ) → i < I.trains → (t : ℕ) → t < I.intervals → (r : ℕ) → r < I.runs i
      → α (run_var I i t r) ≡ runs (p.move i t) (eqb r)
  pub gone_same : (i : ℕ) → i < I.trains → (t : ℕ) → t < I.intervals → α (gone_var I i t) ≡ is_gone (p.move i t)

-- The file is document 01's frames of a list of steps, literals and hints as laid down there; each step follows the step rule;
-- and exactly one step, the last, is the empty clause.
unfoldable pub IsRefutation : Instance → Bytes → List ProofStep → Type 0
IsRefutation I file steps =
    (file ≡ file_of steps) × ((st : ProofStep) → Memᴰ st steps → InFields st) × GoodSteps (variables I) (formula I) steps

-- The lent memory is as long as document 01 names: it holds the formula, and the clauses of the file's steps behind it.
unfoldable pub LongEnough : Instance → Bytes → Lent → Type 0
LongEnough I file lent =
    T (formula_fits lent I)
    × ((steps : List ProofStep) → file ≡ file_of steps → ((st : ProofStep) → Memᴰ st steps → InFields st)
    → T (clauses_fit lent (formula I ++ map (λ st. st.literals) steps)))

-- P7, that there are no fewer than n: "a refutation of the formula under cap n minus 1"; "With n = 0 there is no lower cap, the refutation must be
-- empty".
unfoldable pub FewerRefuted : Bytes → ℕ → Bytes → Lent → Type 0
FewerRefuted book zero refutation lent = refutation ≡ []
FewerRefuted book (suc m) refutation lent = check_refutation (some m) book refutation lent ≡ accepted tt

-- ---- l and k

-- "rounded up": k is the least whole number that n / d is not above
pub record RoundedUp (n d k : ℕ) : Type 0 where
  pub not_above : n ≤ k * d
  pub least : (j : ℕ) → n ≤ j * d → k ≤ j

-- how far apart two numbers are
abbrev pub apart : ℕ → ℕ → ℕ
apart m n = (m - n) + (n - m)

-- P3: "to the nearest whole segment, an exact half going down": no whole number j is nearer to n / d than k, and if one is as near, k is not
-- the greater. How far j is from n / d is counted in d-ths, so that it is a whole number: how far j × d is from n.
pub record Nearest (n d k : ℕ) : Type 0 where
  pub none_nearer : (j : ℕ) → apart (k * d) n ≤ apart (j * d) n
  pub half_down : (j : ℕ) → apart (k * d) n ≡ apart (j * d) n → k ≤ j

-- A train's l and k: "Train length l is length/rs rounded up. Speed k is speed × rt × 5 / (18 × rs)", to the nearest. "Both are 1 to 8."
pub record Reach (b : Book) (t : Train) (l k : ℕ) : Type 0 where
  pub length_up : RoundedUp t.metres b.segment_metres l
  pub speed_nearest : Nearest (t.speed * b.interval_seconds * 5) (18 * b.segment_metres) k
  pub length_within : Within 1 8 l
  pub speed_within : Within 1 8 k

-- ---- exits

-- "the train's last call in the file is its goal": a call of train i, behind which the book has none of that train
pub record IsGoal (b : Book) (i : ℕ) (c : Call) : Type 0 where
  pub before : List Call
  pub after : List Call
  pub file : b.calls ≡ before ++ c ∷ after
  pub own : c.train ≡ i
  pub last : (k : Call) → Memᴰ k after → k.train ≡ i → ⊥

-- P4: "its end contains the goal and its front segment ends at an exit", of a run of train i, which is a path, rear first: one of its last l
-- directed segments is on the goal's segment, and the very last one ends at a node of kind 3.
pub record Leaves (b : Book) (i : ℕ) (path : List ℕ) : Type 0 where
  pub goal : (c : Call) × IsGoal b i c × ((d : ℕ) × Memᴰ d (end_place (train_length b i) path) × (segment_of d ≡ c.segment))
  pub exit : (behind : List ℕ) × (front : ℕ) × (path ≡ behind ++ one front) × (node_kind_at b (end_node b front) ≡ 3)

-- "A book without exits": no node of kind 3
abbrev pub WithoutExits : Book → Type 0
WithoutExits b = (n : ℕ) → n < length b.nodes → node_kind_at b n ≡ 3 → ⊥

-- Rule 3 of a train's moves, as the texts have it: "Gone only after d, after gone or after a run" that gone may follow. "After gone, gone."
pub record LeavesRightly (b : Book) (i : ℕ) (move : ℕ → Move) : Type 0 where
  pub after_departure : (t : ℕ) → t ≤ (train_at b i).departure → move t ≡ gone → ⊥
  pub after_run : (t : ℕ) → t + 1 < b.intervals → move (t + 1) ≡ gone
      → (move t ≡ gone) ⊎ ((r : ℕ) × (move t ≡ run r) × Leaves b i (run_at (run_lists b) i r))
  pub after_gone : (t : ℕ) → t + 1 < b.intervals → move t ≡ gone → move (t + 1) ≡ gone

-- What P4 says of a plan: "an exit without a border"; rule 3 of each train; and "A book without exits keeps every train to the last
-- interval": it has a run of its list in each interval from its departure on.
pub record Stays (b : Book) (p : Plan) : Type 0 where
  pub bare : (n : ℕ) → n < length b.nodes → node_kind_at b n ≡ 3 → T (p.border n) → ⊥
  pub leaving : (i : ℕ) → i < length b.trains → LeavesRightly b i (p.move i)
  pub remaining : WithoutExits b → (i : ℕ) → i < length b.trains → (t : ℕ) → (train_at b i).departure ≤ t → t < b.intervals
      → (r : ℕ) × (r < length (get_or (run_lists b) i [])) × (p.move i t ≡ run r)

-- ---- run lists

-- dictionary order: the first number that differs is smaller
pub data Dictionary : List ℕ → List ℕ → Type 0 where
  here : {x y : ℕ} {xs ys : List ℕ} → x < y → Dictionary (x ∷ xs) (y ∷ ys)
  later : {x y : ℕ} {xs ys : List ℕ} → x ≡ y → Dictionary xs ys → Dictionary (x ∷ xs) (y ∷ ys)

-- Runs are listed "by j, then by their directed numbers in dictionary order": the shorter first, then by dictionary.
pub data Before : List ℕ → List ℕ → Type 0 where
  shorter : {p q : List ℕ} → length p < length q → Before p q
  smaller : {p q : List ℕ} → length p ≡ length q → Dictionary p q → Before p q

-- a list that rises: each element comes before all that stand behind it
pub data Rising {A : Type 0} (R : A → A → Type 0) : List A → Type 0 where
  nothing : Rising R []
  next : {x : A} {xs : List A} → ((y : A) → Memᴰ y xs → R x y) → Rising R xs → Rising R (x ∷ xs)
