-- The step rule, hint by hint: what is kept while the hints are gone through (`Gone`), and how each way that a hint can go
-- carries it on or ends it. Assumes nothing.
use mathlib.Core.Path.{◌≡◌, refl, sym, ap, ◌∙◌}
use mathlib.Core.Bool.{Bool, false}
use mathlib.Core.List.{List, ◌∷◌}
use Prim.Native.Nat.{ℕ, zero, suc, ◌+◌, ◌-◌, ◌≤◌, ◌<◌}
use native.Mathlib.Numerals.{add-one}
use native.Mathlib.Omega.{arith}
use lib.ListN.{length, get_or, drop, set, length-drop, length-set, drop_of_length-le}
use lib.Seq.{drop-cons}
use lib.IntN.{ℤ, pos, negsuc}
use lib.Dec.{T, eqb}
use mir.Syntax.{w32}
use mir.Val.{to_z}
use Rattle.spec.specs.Lists.{Bytes, empty}
use Rattle.spec.specs.Formula.{Literal, Clause}
use Rattle.spec.specs.Assignment.{Value, open', yes', no', deny, truth}
use Rattle.spec.specs.Refutation.{variable_of, Values, make_true, clause_at, not_false, clauses_of}
use Rattle.spec.specs.Refutation.{Hinted, proves, makes, useless, hinted, hints_fit, go_through}
use Rattle.laws.proofs.Tests.{and-iff, eqb-iff, leb-iff, all-at, empty-length, bool-ext}
use Rattle.propagation.specs.Known.{value_in, values_in, true_byte, Trailed}
use Rattle.propagation.specs.Kept.{Kept}
use Rattle.refutation_file.specs.Numbers.{number_count, numbers_in}
use Rattle.propagation.proofs.Values.{made-true, zero-byte}
use Rattle.propagation.proofs.Lookup.{clause-found, clause-ranged}
use Rattle.refutation_file.proofs.NumberLists.{numbers-length}
use Rattle.propagation.proofs.Scan.{OpenOne, Scanning, begins}
use Rattle.propagation.proofs.Trail.{pushed, trail-room, behind-next}

-- a hint of a step names a clause
pub hint-fits : (own : ℕ) (list : Bytes) (k : ℕ) → T (hints_fit own (numbers_in list)) → k < number_count list
    → (1 ≤ get_or (numbers_in list) k 0) × (get_or (numbers_in list) k 0 < own)
unfolding hints_fit
hint-fits own list k t h =
    let n : k < length (numbers_in list) = omega (arith, numbers-length list) in
    simp (and-iff, leb-iff) at (all-at _ (numbers_in list) k 0 t n)

-- ---- one hint

module _ (cs : List Clause) (known : Values) (h : ℕ) (hs : List ℕ) where
  -- a hint that is of no use
  hint-useless : hinted known (not_false known (clause_at cs h)) ≡ useless → go_through cs known (h ∷ hs) ≡ false
  unfolding go_through
  hint-useless e = rw (e, go_through)

  -- one that proves
  hint-proves : hinted known (not_false known (clause_at cs h)) ≡ proves → go_through cs known (h ∷ hs) ≡ empty hs
  unfolding go_through
  hint-proves e = rw (e, go_through)

  -- one that makes a literal true
  hint-makes : (l : Literal) → hinted known (not_false known (clause_at cs h)) ≡ makes l
      → go_through cs known (h ∷ hs) ≡ go_through cs (make_true known l) hs
  unfolding go_through
  hint-makes l e = rw (e, go_through)

-- ---- the hints from a number on

-- the first of them, and the others
hint-first : (hs : List ℕ) (k : ℕ) → k < length hs → drop k hs ≡ get_or hs k 0 ∷ drop (k + 1) hs
hint-first hs k h = rw add-one (drop-cons hs k 0 h)

-- none is left where as many were gone through
none_left : (n m : ℕ) → m ≤ n → eqb (n - m) 0 ≡ eqb m n
none_left n m h = bool-ext (eqb (n - m) 0) (eqb m n) (simp eqb-iff (λ e. omega arith)) (simp eqb-iff (λ e. omega arith))

-- none is behind the last
none-behind : (hs : List ℕ) (k : ℕ) → k < length hs → empty (drop (k + 1) hs) ≡ eqb (k + 1) (length hs)
none-behind hs k h =
    empty-length (drop (k + 1) hs) ∙ ap (λ (n : ℕ). eqb n 0) (length-drop (k + 1) hs) ∙ none_left (length hs) (k + 1) (omega arith)

-- ---- the byte of an open literal is 0

-- a literal that denies is open where its variable is
deny-open : (v : Value) → deny v ≡ open' → v ≡ open'
unfolding deny
deny-open open' e = refl
deny-open yes' e = let z : ◌≡◌ {A = ℕ} 0 1 = cc in absurd (omega arith)
deny-open no' e = let z : ◌≡◌ {A = ℕ} 0 1 = cc in absurd (omega arith)

-- so it is for a literal of either kind
open-byte : (values : Bytes) (l : Literal) → 1 ≤ variable_of l → truth (values_in values) l ≡ open'
    → get_or values (variable_of l - 1) 0 ≡ 0
unfolding variable_of truth values_in
open-byte values (pos zero) h e = let no : ⊥ = omega arith in absurd no
open-byte values (pos (suc v)) h e = let q : suc v - 1 ≡ v = omega arith in rw q (zero-byte (get_or values v 0) e)
open-byte values (negsuc v) h e =
    let q : suc v - 1 ≡ v = omega arith in rw q (zero-byte (get_or values v 0) (deny-open (value_in (get_or values v 0)) e))

-- the byte that makes a literal true is not 0
true-byte : (l : Literal) → true_byte l ≡ 0 → ⊥
unfolding true_byte
true-byte (pos n) e = omega arith
true-byte (negsuc n) e = omega arith

-- ---- the hints so far

-- What the hints before number k leave: values and a trail as long as at first, on the trail no fewer variables and behind them what it
-- had, and nothing is proved yet, so the step is proved if and only if the hints from k on prove it from the values now.
pub record Gone (words : List ℤ) (hints : Bytes) (values₀ : Bytes) (trail₀ : List ℕ) (first : ℕ) (values : Bytes) (trail : List ℕ)
    (set : ℕ) (proved : Bool) (k : ℕ) : Type 0 where
  pub same_values : length values ≡ length values₀
  pub same_trail : length trail ≡ length trail₀
  pub trailed : Trailed values trail set
  pub grown : first ≤ set
  pub behind : drop set trail ≡ drop set trail₀
  pub unproved : proved ≡ false
  pub onward : go_through (clauses_of words) (values_in values₀) (numbers_in hints)
      ≡ go_through (clauses_of words) (values_in values) (drop k (numbers_in hints))

module _ {words : List ℤ} {hints values₀ : Bytes} {trail₀ : List ℕ} {first : ℕ} {values : Bytes} {trail : List ℕ} {set' : ℕ}
    {proved : Bool} {k : ℕ} (g : Gone words hints values₀ trail₀ first values trail set' proved k) where
  -- what the whole rule says
  abbrev rule : Bool
  rule = go_through (clauses_of words) (values_in values₀) (numbers_in hints)

  -- what the clause that is named next does
  abbrev does : Hinted
  does = hinted (values_in values) (not_false (values_in values) (clause_at (clauses_of words) (get_or (numbers_in hints) k 0)))

  -- where the hints run out, nothing is proved
  pub runs-out : number_count hints ≤ k → proved ≡ rule
  unfolding go_through
  runs-out h =
      let n : length (numbers_in hints) ≤ k = omega (arith, numbers-length hints) in
      g.unproved ∙ sym (g.onward ∙ ap (go_through (clauses_of words) (values_in values)) (drop_of_length-le (numbers_in hints) n))

  -- the clause that is named next is to be scanned whole
  pub clause-begins : {starts : List ℕ} {h : ℕ} → Kept (length values₀) words starts → h ≡ get_or (numbers_in hints) k 0 → 1 ≤ h
      → h ≤ length starts
      → Scanning words (values_in values) (length values) (clause_at (clauses_of words) (get_or (numbers_in hints) k 0))
      (get_or starts (h - 1) 0) 0
  clause-begins {starts} {h} kept e low high =
      let f = clause-found kept h low high in
      rw (← e, g.same_values) (begins f.0 f.1 (clause-ranged kept h low high))

  -- where an open literal was found, the trail has room
  pub has_room : {unit : ℕ} → OpenOne (values_in values) (length values) unit → set' < length trail
  has_room {unit} o =
      trail-room g.trailed (variable_of (to_z w32 unit) - 1) (omega (arith, o.low, o.high))
      (open-byte values (to_z w32 unit) o.low o.is_open)

  module _ (h : k < number_count hints) where
    -- there is such a hint
    named : k < length (numbers_in hints)
    named = omega (arith, numbers-length hints)

    -- the rule goes on with it
    onto : rule ≡ go_through (clauses_of words) (values_in values) (get_or (numbers_in hints) k 0 ∷ drop (k + 1) (numbers_in hints))
    onto = g.onward ∙ ap (go_through (clauses_of words) (values_in values)) (hint-first (numbers_in hints) k named)

    -- at a hint of no use nothing is proved
    pub refuses : does ≡ useless → proved ≡ rule
    refuses e = g.unproved ∙ sym (onto ∙ hint-useless _ _ _ _ e)

    -- a hint that proves must be the last
    pub concludes : does ≡ proves → eqb (k + 1) (number_count hints) ≡ rule
    concludes e =
        ap (eqb (k + 1)) (sym (numbers-length hints)) ∙ sym (onto ∙ hint-proves _ _ _ _ e ∙ none-behind (numbers_in hints) k named)

    -- a hint that makes a literal true
    pub goes_on : {unit : ℕ} {values' : Bytes} {trail' : List ℕ} → OpenOne (values_in values) (length values) unit
        → does ≡ makes (to_z w32 unit)
        → values' ≡ set values (variable_of (to_z w32 unit) - 1) (true_byte (to_z w32 unit))
        → trail' ≡ set trail set' (variable_of (to_z w32 unit) - 1)
        → Gone words hints values₀ trail₀ first values' trail' (set' + 1) proved (k + 1)
    goes_on {unit} {values'} {trail'} o e a b =
        let l = to_z w32 unit in
        rw (a, b) (record {
          same_values = length-set values _ _ ∙ g.same_values;
          same_trail = length-set trail _ _ ∙ g.same_trail;
          trailed =
              pushed g.trailed (variable_of l - 1) (true_byte l) (omega (arith, o.low, o.high))
              (open-byte values l o.low o.is_open) (true-byte l);
          grown = omega (arith, g.grown);
          behind = behind-next set' (variable_of l - 1) trail trail₀ g.behind;
          unproved = g.unproved;
          onward =
              onto
              ∙ hint-makes _ _ _ _ l e
              ∙ ap (λ (v : Values). go_through (clauses_of words) v (drop (k + 1) (numbers_in hints)))
              (sym (made-true values l o.low o.high));
        })

-- before the first hint
pub sets-out : {values : Bytes} {trail : List ℕ} {set' : ℕ} (words : List ℤ) (hints : Bytes) → Trailed values trail set'
    → Gone words hints values trail set' values trail set' false 0
sets-out words hints t = record {
  same_values = refl;
  same_trail = refl;
  trailed = t;
  grown = omega arith;
  behind = refl;
  unproved = refl;
  onward = refl;
}
