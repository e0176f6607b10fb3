-- Plans and assignments as bytes: where each value stands, and that reading gives back what was written. Assumes nothing.
use mathlib.Core.Path.{◌≡◌, refl, sym, ap, ap₂, ◌∙◌, subst}
use mathlib.Core.Logic.{◌≢◌}
use mathlib.Core.Bool.{Bool, true, false}
use Prim.Native.Nat.{ℕ, suc, ◌+◌, ◌*◌, ◌≤◌, ◌<◌, ◌^◌}
use native.Mathlib.Nat.{add_assoc, add-zero}
use native.Mathlib.Omega.{arith}
use mathlib.Core.List.{List, ◌∷◌, ◌++◌, map}
use lib.ListN.{length, get_or, take, drop, length-append, length-map, length-drop, take-append-drop, get_or-append}
use lib.Seq.{get_or-append-add, take_all}
use lib.Dec.{T, eqb, T_not}
use lib.Arith.{digits_lt}
use Rattle.laws.proofs.Tests.{eqb-iff, ltb_iff, leb-iff, decide, true_of, false_of, denied-of, meaning}
use Rattle.laws.proofs.Rows.{rows}
use Rattle.laws.proofs.Numbers.{bytes, length-little_endian, number-little_endian, little_endian-field}
use Rattle.laws.proofs.Parts.{Part, part-here, part-behind, part_in, part_at, part-each, part_field, length-each, length-up_to, sum-constant, map_at, map_same, each_same, chunks, singles}
use Rattle.spec.specs.Lists.{Bytes, all, up_to, each, sum_to}
use Rattle.spec.specs.Numbers.{little_endian, field}
use Rattle.spec.specs.Instance.{Instance}
use Rattle.spec.specs.Plan.{Plan, Move, run, absent, gone, absent_code, gone_code, is_gone, runs, bit, is_bit, is_move, move_code, move_of, move_at, plan_bytes, plan_length, plan_of, plan_fits}
use Rattle.spec.specs.Formula.{width, base, border_var, run_var, gone_var, claim_var, own_variables, variables, first_var}
use Rattle.spec.specs.Cap.{cap_variables, cap_values}
use Rattle.spec.specs.Assignment.{assigned, encode, claims}
use Rattle.demands.proofs.Coding.{Codes, Agree}
use Rattle.demands.proofs.Moves.{a_run, is_away, has_left, which, run-true, true-run, gone-true, true-gone}
use Rattle.demands.proofs.Rules.{run≢absent, absent≢gone}
use Rattle.demands.proofs.Satisfied.{Claiming}

part-move {ℓ} : {A : Type ℓ} {xs ys : List A} {n m : ℕ} → n ≡ m → Part xs n ys → Part xs m ys
part-move {xs = xs} {ys = ys} e p = subst (λ (k : ℕ). Part xs k ys) e p

-- a bit is 1 exactly where the test holds
pub bit-one : (b : Bool) → eqb (bit b) 1 ≡ b
unfolding bit
bit-one true = refl
bit-one false = refl

pub is-bit : (b : Bool) → T (is_bit (bit b))
unfolding is_bit bit
is-bit true = tt
is-bit false = tt

-- ---- an assignment's bytes

module _ (I : Instance) (p : Plan) where
  -- the bytes of a train's interval: its runs, gone, a claim a segment
  row : ℕ → ℕ → Bytes
  row i t =
      map (λ r. bit (runs (p.move i t) (eqb r))) (up_to (I.runs i))
      ++ (bit (is_gone (p.move i t)) ∷ map (λ s. bit (claims I p i t s)) (up_to I.segments))

  length-row : (i t : ℕ) → length (row i t) ≡ width I i
  unfolding row width
  length-row i t =
      length-append (map (λ r. bit (runs (p.move i t) (eqb r))) (up_to (I.runs i))) _
      ∙ ap₂ (λ (a b : ℕ). a + suc b) (length-map (up_to (I.runs i)) _ ∙ length-up_to (I.runs i)) (length-map (up_to I.segments) _ ∙ length-up_to I.segments)
      ∙ omega arith

  length-rows : (i : ℕ) → length (each (up_to I.intervals) (row i)) ≡ I.intervals * width I i
  length-rows i = length-each (row i) (λ _. width I i) (length-row i) I.intervals ∙ sum-constant (width I i) I.intervals

  length-borders : length (map (λ n. bit (p.border n)) (up_to I.nodes)) ≡ I.nodes
  length-borders = length-map (up_to I.nodes) _ ∙ length-up_to I.nodes

  -- an assignment has a byte a variable
  pub length-encode : length (cap_values I p) ≡ cap_variables I → length (encode I p) ≡ variables I
  unfolding encode variables own_variables first_var row
  length-encode extra =
      length-append (map (λ n. bit (p.border n)) (up_to I.nodes)) _
      ∙ ap₂ ◌+◌ length-borders
      (length-append (each (up_to I.trains) λ i. each (up_to I.intervals) (row i)) (cap_values I p)
      ∙ ap₂ ◌+◌ (length-each (λ i. each (up_to I.intervals) (row i)) (λ i. I.intervals * width I i) length-rows I.trains) extra)
      ∙ sym (add_assoc I.nodes _ (cap_variables I))

  -- each of them 0 or 1
  pub encode-bits : T (all is_bit (cap_values I p)) → T (all is_bit (encode I p))
  unfolding encode
  encode-bits extra =
      simp (rows, meaning)
      ((λ n h. is-bit _), ((λ i l t h. ((λ r k. is-bit _), (is-bit _, λ s k. is-bit _))), extra))

  -- where the bytes of a train's interval stand
  part-row : (i : ℕ) → i < I.trains → (t : ℕ) → t < I.intervals → Part (encode I p) (base I i t) (row i t)
  unfolding encode base first_var row
  part-row i l t h =
      part-move (ap₂ (λ (a b : ℕ). a + (0 + (sum_to (λ j. I.intervals * width I j) i + b))) length-borders (sum-constant (width I i) t) ∙ omega arith)
      (part_in (part-behind (map (λ n. bit (p.border n)) (up_to I.nodes)) _)
      (part_in (part-here (each (up_to I.trains) λ i. each (up_to I.intervals) (row i)) (cap_values I p))
      (part_in (part-each (λ i. each (up_to I.intervals) (row i)) (λ i. I.intervals * width I i) length-rows I.trains i l)
      (part-each (row i) (λ _. width I i) (length-row i) I.intervals t h))))

  -- where the cap's bytes stand
  pub part-cap : Part (encode I p) (own_variables I) (cap_values I p)
  unfolding encode own_variables first_var row
  part-cap =
      part-move (ap₂ ◌+◌ length-borders (length-each (λ i. each (up_to I.intervals) (row i)) (λ i. I.intervals * width I i) length-rows I.trains))
      (part_in (part-behind (map (λ n. bit (p.border n)) (up_to I.nodes)) _)
      (part-behind (each (up_to I.trains) λ i. each (up_to I.intervals) (row i)) (cap_values I p)))

  -- what the assignment says of a variable of a train's interval
  assigned-row : (i : ℕ) → i < I.trains → (t : ℕ) → t < I.intervals → (j : ℕ) → j < width I i
      → assigned (encode I p) (base I i t + j) ≡ eqb (get_or (row i t) j 0) 1
  unfolding assigned
  assigned-row i l t h j k = ap (λ (x : ℕ). eqb x 1) (part_at (part-row i l t h) j 0 (rw (length-row i t) k))

  length-moves : (i t : ℕ) → length (map (λ r. bit (runs (p.move i t) (eqb r))) (up_to (I.runs i))) ≡ I.runs i
  length-moves i t = length-map (up_to (I.runs i)) _ ∙ length-up_to (I.runs i)

  -- the assignment's value of a run, of gone and of a claim
  assigned-run : (i : ℕ) → i < I.trains → (t : ℕ) → t < I.intervals → (r : ℕ) → r < I.runs i
      → assigned (encode I p) (run_var I i t r) ≡ runs (p.move i t) (eqb r)
  unfolding run_var row width
  assigned-run i l t h r k =
      assigned-row i l t h r (omega arith)
      ∙ ap (λ (x : ℕ). eqb x 1)
      (get_or-append (map (λ r. bit (runs (p.move i t) (eqb r))) (up_to (I.runs i))) _ 0 r (rw (length-moves i t) k)
      ∙ map_at (λ r. bit (runs (p.move i t) (eqb r))) (I.runs i) r 0 k)
      ∙ bit-one (runs (p.move i t) (eqb r))

  -- behind the runs
  row-behind : (i t j : ℕ) → get_or (row i t) (I.runs i + j) 0
      ≡ get_or (bit (is_gone (p.move i t)) ∷ map (λ s. bit (claims I p i t s)) (up_to I.segments)) j 0
  unfolding row
  row-behind i t j =
      ap (λ (n : ℕ). get_or (row i t) (n + j) 0) (sym (length-moves i t))
      ∙ get_or-append-add (map (λ r. bit (runs (p.move i t) (eqb r))) (up_to (I.runs i))) _ j 0

  assigned-gone : (i : ℕ) → i < I.trains → (t : ℕ) → t < I.intervals → assigned (encode I p) (gone_var I i t) ≡ is_gone (p.move i t)
  unfolding gone_var width
  assigned-gone i l t h =
      assigned-row i l t h (I.runs i) (omega arith)
      ∙ ap (λ (n : ℕ). eqb (get_or (row i t) n 0) 1) (sym (add-zero (I.runs i)))
      ∙ ap (λ (x : ℕ). eqb x 1) (row-behind i t 0)
      ∙ bit-one (is_gone (p.move i t))

  pub assigned-claim : Claiming I (assigned (encode I p)) p
  unfolding claim_var width
  assigned-claim i l t h s k =
      assigned-row i l t h (I.runs i + 1 + s) (omega arith)
      ∙ ap (λ (n : ℕ). eqb (get_or (row i t) n 0) 1) (omega arith)
      ∙ ap (λ (x : ℕ). eqb x 1) (row-behind i t (suc s) ∙ map_at (λ s. bit (claims I p i t s)) I.segments s 0 k)
      ∙ bit-one (claims I p i t s)

  assigned-border : (n : ℕ) → n < I.nodes → assigned (encode I p) (border_var I n) ≡ p.border n
  unfolding assigned border_var encode
  assigned-border n h =
      ap (λ (x : ℕ). eqb x 1)
      (get_or-append (map (λ n. bit (p.border n)) (up_to I.nodes)) _ 0 n (rw length-borders h)
      ∙ map_at (λ n. bit (p.border n)) I.nodes n 0 h)
      ∙ bit-one (p.border n)

  -- a plan's assignment codes it
  pub codes-encoded : ((i : ℕ) → i < I.trains → (t : ℕ) → t < I.intervals → T (is_move I i (p.move i t))) → Codes I (assigned (encode I p)) p
  codes-encoded moves = record
      { borders = assigned-border; moves = moves; runs_same = assigned-run; gone_same = assigned-gone }

-- ---- a plan's bytes

-- a run's number is no code of absent or gone, since a train has at most 256 runs
run-code : (r : ℕ) → r < absent_code → move_of r ≡ run r
unfolding move_of
run-code r h =
    let a = false_of (eqb r absent_code) (λ e. let same = (eqb-iff r absent_code).0 e in omega arith) in
    let g = false_of (eqb r gone_code) (λ e. let same = (eqb-iff r gone_code).0 e in omega arith) in
    rw (a, move_of) (rw (g, move_of) refl)

-- a move's code stands for the move
move-code : (I : Instance) (i : ℕ) → I.runs i ≤ 256 → (m : Move) → T (is_move I i m) → move_of (move_code m) ≡ m
unfolding move_code is_move
move-code I i few (run r) h = let k = (ltb_iff r (I.runs i)).0 h in run-code r (omega arith)
move-code I i few absent h = unfold move_of in refl
move-code I i few gone h = unfold move_of in refl

-- a move's code fits two bytes
code_fits : (I : Instance) (i : ℕ) → I.runs i ≤ 256 → (m : Move) → T (is_move I i m) → move_code m < 256 ^ 2
unfolding move_code is_move
code_fits I i few (run r) h = let k = (ltb_iff r (I.runs i)).0 h in omega arith
code_fits I i few absent h = omega arith
code_fits I i few gone h = omega arith

-- a code is the code of the move that it stands for
code-move : (n : ℕ) → move_code (move_of n) ≡ n
unfolding move_of move_code
code-move n = decide (eqb n absent_code)
    (λ a. rw (true_of (eqb n absent_code) a, move_of) (sym ((eqb-iff n absent_code).0 a)))
    (λ a. decide (eqb n gone_code)
    (λ g. rw (denied-of (eqb n absent_code) a, move_of) (rw (true_of (eqb n gone_code) g, move_of) (sym ((eqb-iff n gone_code).0 g))))
    (λ g. rw (denied-of (eqb n absent_code) a, move_of) (rw (denied-of (eqb n gone_code) g, move_of) refl)))

module _ (I : Instance) (p : Plan) where
  -- the two bytes of a train's interval
  cell : ℕ → ℕ → Bytes
  cell i t = little_endian 2 (move_code (p.move i t))

  length-cells : (i : ℕ) → length (each (up_to I.intervals) (cell i)) ≡ I.intervals * 2
  unfolding cell
  length-cells i =
      length-each (cell i) (λ _. 2) (λ t. length-little_endian 2 (move_code (p.move i t))) I.intervals ∙ sum-constant 2 I.intervals

  -- a plan has as many bytes as document 01 says
  pub length-plan : length (plan_bytes I p) ≡ plan_length I
  unfolding plan_bytes plan_length cell
  length-plan =
      length-append (map (λ n. bit (p.border n)) (up_to I.nodes)) _
      ∙ ap₂ ◌+◌ (length-borders I p)
      (length-each (λ i. each (up_to I.intervals) (cell i)) (λ _. I.intervals * 2) length-cells I.trains
      ∙ sum-constant (I.intervals * 2) I.trains)

  -- where they stand
  part-cell : (i : ℕ) → i < I.trains → (t : ℕ) → t < I.intervals → Part (plan_bytes I p) (move_at I i t) (cell i t)
  unfolding plan_bytes move_at cell
  part-cell i l t h =
      part-move (ap₂ ◌+◌ (length-borders I p) (ap₂ ◌+◌ (sum-constant (I.intervals * 2) i) (sum-constant 2 t)))
      (part_in (part-behind (map (λ n. bit (p.border n)) (up_to I.nodes)) _)
      (part_in (part-each (λ i. each (up_to I.intervals) (cell i)) (λ _. I.intervals * 2) length-cells I.trains i l)
      (part-each (cell i) (λ _. 2) (λ t. length-little_endian 2 (move_code (p.move i t))) I.intervals t h)))

  pub border-byte : (n : ℕ) → n < I.nodes → get_or (plan_bytes I p) n 0 ≡ bit (p.border n)
  unfolding plan_bytes
  border-byte n h =
      get_or-append (map (λ n. bit (p.border n)) (up_to I.nodes)) _ 0 n (rw (length-borders I p) h)
      ∙ map_at (λ n. bit (p.border n)) I.nodes n 0 h

  module _ (few : (i : ℕ) → i < I.trains → I.runs i ≤ 256)
      (moves : (i : ℕ) → i < I.trains → (t : ℕ) → t < I.intervals → T (is_move I i (p.move i t))) where
    move_read : (i : ℕ) → i < I.trains → (t : ℕ) → t < I.intervals → p.move i t ≡ (plan_of I (plan_bytes I p)).move i t
    unfolding plan_of cell
    move_read i l t h =
        let m = p.move i t in
        sym (ap move_of
        (ap (field (plan_bytes I p) (move_at I i t)) (sym (length-little_endian 2 (move_code m)))
        ∙ part_field (part-cell i l t h)
        ∙ number-little_endian 2 (move_code m) (code_fits I i (few i l) m (moves i l t h)))
        ∙ move-code I i (few i l) m (moves i l t h))

    -- the bytes stand for the plan
    pub agree-read : Agree I p (plan_of I (plan_bytes I p))
    unfolding plan_of
    agree-read = record {
      borders = λ n h. sym (ap (λ (x : ℕ). eqb x 1) (border-byte n h) ∙ bit-one (p.border n));
      moves = move_read;
    }

    -- and are well formed
    pub fits_read : T (plan_fits I (plan_bytes I p))
    unfolding plan_fits
    fits_read =
        simp meaning (
          (
            length-plan,
            λ n h. subst (λ (x : ℕ). T (is_bit x)) (sym (border-byte n h)) (is-bit (p.border n)),
          ),
          λ i l t h. subst (λ (m : Move). T (is_move I i m)) (move_read i l t h) (moves i l t h),
        )

-- ---- bytes that are well formed are the bytes of the plan that they stand for

-- a byte 0 or 1 is the bit of its test
bit-back : (x : ℕ) → T (is_bit x) → bit (eqb x 1) ≡ x
unfolding bit is_bit
bit-back x k =
    let le = (leb-iff x 1).0 k in
    decide (eqb x 1) (λ e. rw ((eqb-iff x 1).0 e) refl)
    (λ n. let not-one : x ≢ 1 = λ e. T_not (eqb x 1) n ((eqb-iff x 1).1 e) in
    let z : x ≡ 0 = omega arith in rw z refl)

module _ (I : Instance) (s : Bytes) (is_bytes : T (bytes s)) (fits : T (plan_fits I s)) where
  -- what well formed means
  abbrev pub Shape : Type 0
  Shape =
      (length s ≡ plan_length I)
      × ((n : ℕ) → n < I.nodes → T (is_bit (get_or s n 0)))
      × ((i : ℕ) → i < I.trains → (t : ℕ) → t < I.intervals → T (is_move I i ((plan_of I s).move i t)))

  pub shape : Shape
  unfolding plan_fits
  shape = let k = simp meaning at fits in (k.0.0, k.0.1, k.1)

  border-back : (n : ℕ) → n < I.nodes → bit ((plan_of I s).border n) ≡ get_or s n 0
  unfolding plan_of
  border-back n h = bit-back (get_or s n 0) (shape.1 n h)

  cell-back : (i t : ℕ) → i < I.trains → t < I.intervals → cell I (plan_of I s) i t ≡ take 2 (drop (I.nodes + i * (I.intervals * 2) + t * 2) s)
  unfolding cell plan_of move_at plan_length
  cell-back i t l h =
      ap (little_endian 2) (code-move (field s (move_at I i t) 2))
      ∙ ap (λ (n : ℕ). little_endian 2 (field s n 2)) (sym (add_assoc I.nodes (i * (I.intervals * 2)) (t * 2)))
      ∙ little_endian-field s _ 2 is_bytes
      (omega (arith, shape.0, digits_lt {r = t * 2 + 1} {c = I.intervals * 2} l (omega arith)))

  pub bytes_back : plan_bytes I (plan_of I s) ≡ s
  unfolding plan_bytes cell plan_length
  bytes_back =
      ap₂ ◌++◌
      (map_same (λ n. bit ((plan_of I s).border n)) (λ n. get_or s n 0) I.nodes border-back ∙ singles s 0 I.nodes (omega (arith, shape.0)))
      (each_same _ _ I.trains (λ i l.
      each_same _ _ I.intervals (λ t h. cell-back i t l h) ∙ chunks s (I.nodes + i * (I.intervals * 2)) 2 I.intervals)
      ∙ chunks s I.nodes (I.intervals * 2) I.trains
      ∙ take_all (I.trains * (I.intervals * 2)) (drop I.nodes s) (omega (arith, shape.0, length-drop I.nodes s)))
      ∙ take-append-drop I.nodes s

-- ---- two plans that one valuation codes are the same

pub codes_same : (I : Instance) (α : ℕ → Bool) (p q : Plan) → Codes I α p → Codes I α q → Agree I p q
codes_same I α p q a b = record {
  borders = λ n h. sym (a.borders n h) ∙ b.borders n h;
  moves = λ i l t h.
      elim (which (p.move i t)) [
        | a_run r e ↦ (let k = true-run I α p a i l t h r e in e ∙ sym (run-true I α q b i l t h r k.0 k.1))
        | has_left e ↦ e ∙ sym (gone-true I α q b i l t h (true-gone I α p a i l t h e))
        | is_away e ↦ elim (which (q.move i t)) [
          | a_run r f ↦ (let k = true-run I α q b i l t h r f in run≢absent (run-true I α p a i l t h r k.0 k.1) e)
          | has_left f ↦ absent≢gone e (gone-true I α p a i l t h (true-gone I α q b i l t h f))
          | is_away f ↦ e ∙ sym f
        ]
      ];
}

-- plans that are the same have the same bytes
pub same_bytes : (I : Instance) (p q : Plan) → Agree I p q → plan_bytes I p ≡ plan_bytes I q
unfolding plan_bytes
same_bytes I p q e =
    ap₂ ◌++◌
    (map_same (λ n. bit (p.border n)) (λ n. bit (q.border n)) I.nodes (λ n h. ap bit (e.borders n h)))
    (each_same _ _ I.trains (λ i l. each_same _ _ I.intervals (λ t h. ap (λ (m : Move). little_endian 2 (move_code m)) (e.moves i l t h))))
