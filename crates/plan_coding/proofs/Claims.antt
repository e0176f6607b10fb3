-- What a train claims in an interval, by marks: exactly the segments whose label is one of its run's. And how long the parts of an
-- assignment are. Assumes nothing.
use mathlib.Core.Path.{◌≡◌, refl, sym, ap, ap₂, ◌∙◌, subst}
use mathlib.Core.Bool.{Bool, ◌||◌}
use mathlib.Core.Option.{Option}
use Prim.Native.Nat.{ℕ, ◌+◌, ◌*◌, ◌≤◌, ◌<◌}
use native.Mathlib.Omega.{arith}
use mathlib.Core.List.{List, ◌∷◌, ◌++◌, map, Memᴰ}
use lib.ListN.{length, get_or, replicate, length-append, length-map, length-replicate}
use lib.Seq.{sets, append_snoc}
use lib.Dec.{T, eqb, ltb}
use Rattle.model.specs.declared.Book.{Book as BookStruct}
use Rattle.spec.specs.Lists.{Bytes, all, any, has, up_to, each, one}
use Rattle.spec.specs.Instance.{Instance, instance_of, under}
use Rattle.spec.specs.Sections.{together}
use Rattle.spec.specs.Plan.{Plan, Move, runs, of_run, is_gone, bit, plan_of}
use Rattle.spec.specs.Cap.{cap_values}
use Rattle.spec.specs.Formula.{width, first_var, own_variables, variables}
use Rattle.spec.specs.Assignment.{claims, encode}
use Rattle.spec.specs.Entry.{overwrite}
use Rattle.spec.specs.Held.{held}
use Rattle.laws.proofs.Tests.{bool-ext, any-iff, eqb-sym}
use Rattle.laws.proofs.Rows.{any-map}
use Rattle.laws.proofs.Parts.{length-each, length-up_to, map_same, each_same}
use Rattle.demands.proofs.Encoding.{length-encode}
use Rattle.demands.proofs.Cap.{cap-length}
use Rattle.laws.proofs.Stores.{sets-append, stored-first}
use Rattle.tables.proofs.Small.{segments-is, own-variables}
use Rattle.plan_rules.specs.declared.apart.Stretch.{Stretch}
use Rattle.plan_rules.specs.Marks.{PlanLabelled, stretch_of, labels_of, is_marked, marking, touched}
use Rattle.plan_rules.proofs.Marking.{marked_by, unmarked}
use Rattle.plan_rules.proofs.Sharing.{here-known, labels-here, labels-few}
use Rattle.plan_coding.specs.Encoded.{border_bytes, move_bytes, claim_bytes, interval_bytes, train_bytes}
use Rattle.plan_coding.proofs.Rows.{rows-length}
use Rattle.demands.proofs.Uncapped.{together-same}

-- ---- claims

module _ {b : BookStruct} {counts : List ℕ} {runs : Bytes} {labels : List ℕ} (plan : Bytes)
    (ready : PlanLabelled b counts runs labels plan) (t : ℕ) (inside : t < b.intervals) (i : ℕ) (known : i < b.train_count) where
  abbrev I : Instance
  I = instance_of (held b)

  abbrev p : Plan
  p = plan_of I plan

  abbrev label : ℕ → ℕ
  label s = get_or labels s 0

  -- a label of the run's, and a segment of its section
  one-section : (s : ℕ) → s < I.segments → has (label s) (map label (touched I p t i)) ≡ claims I p i t s
  unfolding has claims touched
  one-section s l =
      any-map (eqb (label s)) label (touched I p t i)
      ∙ bool-ext
      (any (λ u. eqb (label s) (label u)) (touched I p t i))
      (any (λ u. together I p.border u s) (touched I p t i))
      (λ h. let u = (any-iff (λ u. eqb (label s) (label u)) (touched I p t i)).0 h in
      (any-iff (λ u. together I p.border u s) (touched I p t i)).1 (u.0, u.1, subst T (same u.0 u.1) u.2))
      (λ h. let u = (any-iff (λ u. together I p.border u s) (touched I p t i)).0 h in
      (any-iff (λ u. eqb (label s) (label u)) (touched I p t i)).1 (u.0, u.1, subst T (sym (same u.0 u.1)) u.2))
    where
      same : (u : ℕ) → Memᴰ u (touched I p t i) → eqb (label s) (label u) ≡ together I p.border u s
      same u m =
          eqb-sym (label s) (label u)
          ∙ ready.2.same u s (here-known plan ready t inside i known u m) l

  -- the marks of the run's labels
  module _ {stretch : Stretch} (e : stretch ≡ stretch_of runs i (p.move i t)) where
    abbrev marks : Bytes
    marks = marking (replicate 64 0) (labels_of labels runs stretch)

    marked-claims : (s : ℕ) → s < I.segments → is_marked marks (label s) ≡ claims I p i t s
    marked-claims s l =
        ap (λ (ls : List ℕ). is_marked (marking (replicate 64 0) ls) (label s)) (labels-here plan ready t inside i known e)
        ∙ marked_by (map label (touched I p t i)) (replicate 64 0) (label s)
        (subst (λ (n : ℕ). T (all (λ x. ltb x n) (map label (touched I p t i)))) (sym (length-replicate {A = ℕ} 64 0))
        (labels-few plan ready t inside i known))
        ∙ ap (λ (x : Bool). x || has (label s) (map label (touched I p t i))) (unmarked 64 (label s))
        ∙ one-section s l

    pub claims-marked : map (λ s. bit (is_marked marks (label s))) (up_to b.segment_count) ≡ claim_bytes I p i t
    unfolding claim_bytes
    claims-marked =
        ap (λ (n : ℕ). map (λ s. bit (is_marked marks (label s))) (up_to n)) (sym (segments-is b ready.0.counted.passed))
        ∙ map_same _ _ I.segments (λ s l. ap bit (marked-claims s l))

-- ---- lengths

pub length-moves : (m : Move) (n : ℕ) → length (move_bytes m n) ≡ n + 1
unfolding move_bytes
length-moves m n =
    length-append (map (λ r. bit (runs m (eqb r))) (up_to n)) (one (bit (is_gone m)))
    ∙ ap (λ (k : ℕ). k + 1) (length-map (up_to n) _ ∙ length-up_to n)

module _ (I : Instance) (p : Plan) where
  pub length-interval : (i t : ℕ) → length (interval_bytes I p i t) ≡ width I i
  unfolding interval_bytes claim_bytes width
  length-interval i t =
      length-append (move_bytes (p.move i t) (I.runs i)) (claim_bytes I p i t)
      ∙ ap₂ ◌+◌ (length-moves (p.move i t) (I.runs i)) (length-map (up_to I.segments) _ ∙ length-up_to I.segments)

  length-train : (i : ℕ) → length (train_bytes I p i) ≡ I.intervals * width I i
  unfolding train_bytes
  length-train i = rows-length (interval_bytes I p i) (width I i) (length-interval i) I.intervals

  -- a train's first variable is behind the borders and the trains before it
  pub train-place : (i : ℕ) → first_var I i ≡ I.nodes + length (each (up_to i) (train_bytes I p))
  unfolding first_var
  train-place i = ap (λ (n : ℕ). I.nodes + n) (sym (length-each (train_bytes I p) (λ j. I.intervals * width I j) length-train i))

  -- all trains' variables are behind the borders
  pub length-parts : I.nodes + length (each (up_to I.trains) (train_bytes I p)) ≡ own_variables I
  length-parts = sym (train-place I.trains) ∙ own-variables I

  -- ---- an interval is its move and its claims

  pub interval-written : (i t at n : ℕ) (m : Move) (out : Bytes) → n ≡ I.runs i → m ≡ p.move i t
      → sets (sets out at (move_bytes m n)) (at + (n + 1)) (claim_bytes I p i t) ≡ sets out at (interval_bytes I p i t)
  unfolding interval_bytes
  interval-written i t at n m out e f =
      ap (λ (k : ℕ). sets (sets out at (move_bytes m n)) (at + k) (claim_bytes I p i t)) (sym (length-moves m n))
      ∙ sym (sets-append out at (move_bytes m n) (claim_bytes I p i t))
      ∙ ap₂ (λ (k : ℕ) (o : Move). sets out at (move_bytes o k ++ claim_bytes I p i t)) e f

pub length-borders : (I : Instance) (p : Plan) → length (border_bytes I p) ≡ I.nodes
unfolding border_bytes
length-borders I p = length-map (up_to I.nodes) _ ∙ length-up_to I.nodes

-- ---- an assignment is its borders, its trains and its counter

module _ (cap : Option ℕ) (I : Instance) (p : Plan) where
  abbrev J : Instance
  J = under cap I

  -- a cap changes no claim
  claims-same : (i t : ℕ) → map (λ s. bit (claims I p i t s)) (up_to I.segments) ≡ map (λ s. bit (claims J p i t s)) (up_to I.segments)
  unfolding claims
  claims-same i t =
      map_same _ _ I.segments (λ s l. ap bit (sym (λ j. any (λ u. together-same cap I p.border u s j) (of_run (p.move i t) (λ r. I.path i r)))))

  encode-parts : border_bytes I p ++ (each (up_to I.trains) (train_bytes I p) ++ cap_values J p) ≡ encode J p
  unfolding encode border_bytes train_bytes interval_bytes move_bytes claim_bytes
  encode-parts =
      ap (λ (bytes : Bytes). map (λ n. bit (p.border n)) (up_to I.nodes) ++ (bytes ++ cap_values J p))
      (each_same (train_bytes I p) _ I.trains (λ i _. each_same (interval_bytes I p i) _ I.intervals (λ t _.
      append_snoc (map (λ r. bit (runs (p.move i t) (eqb r))) (up_to (I.runs i))) (bit (is_gone (p.move i t))) (claim_bytes I p i t)
      ∙ ap (λ (bytes : Bytes). map (λ r. bit (runs (p.move i t) (eqb r))) (up_to (I.runs i)) ++ (bit (is_gone (p.move i t)) ∷ bytes))
      (claims-same i t))))

  -- the borders from the start on, then the trains behind them, then the counter's values
  pub assignment-written : (out : Bytes) → variables (under cap I) ≤ length out
      → sets (sets (sets out 0 (border_bytes I p)) I.nodes (each (up_to I.trains) (train_bytes I p))) (own_variables I) (cap_values (under cap I) p)
      ≡ overwrite out (encode (under cap I) p)
  assignment-written out fits =
      let trains = each (up_to I.trains) (train_bytes I p) in
      let place : I.nodes ≡ 0 + length (border_bytes I p) = omega (arith, length-borders I p) in
      let behind : own_variables I ≡ I.nodes + length trains = sym (length-parts I p) in
      let size : length (encode J p) ≤ length out = omega (arith, length-encode J p (cap-length J p), fits) in
      ap (λ (k : ℕ). sets (sets (sets out 0 (border_bytes I p)) I.nodes trains) k (cap_values J p)) behind
      ∙ sym (sets-append (sets out 0 (border_bytes I p)) I.nodes trains (cap_values J p))
      ∙ ap (λ (k : ℕ). sets (sets out 0 (border_bytes I p)) k (trains ++ cap_values J p)) place
      ∙ sym (sets-append out 0 (border_bytes I p) (trains ++ cap_values J p))
      ∙ ap (sets out 0) encode-parts
      ∙ stored-first out (encode J p) size

-- the borders of a plan's bytes
pub borders-of : (I : Instance) (plan : Bytes) → map (λ k. bit (eqb (get_or plan k 0) 1)) (up_to I.nodes) ≡ border_bytes I (plan_of I plan)
unfolding border_bytes plan_of
borders-of I plan = refl
