-- Chains that test the numbers of a range or of a list: what std says of their answer, in the words of the specification. Assumes
-- nothing.
use native.Mathlib.Omega.{arith}
use mathlib.Core.Logic.{inl, inr}
use mathlib.Core.Path.{◌≡◌, sym, refl, ap₂, subst, ◌∙◌}
use mathlib.Core.Bool.{Bool, true, false}
use mathlib.Core.List.{List, [], ◌∷◌}
use Prim.Native.Nat.{ℕ, suc, ◌+◌, ◌-◌, ◌≤◌, ◌<◌}
use lib.ListN.{length, get_or}
use denote.Param.Members.{Mut}
use denote.Ref.{Bor}
use Rattle.std.specs.Bool.{MatchBool}
use Rattle.std.specs.Option.{MatchOption, unwrap_or}
use Rattle.std.specs.Fn.{Called, CalledAt}
use Rattle.std.specs.Iterator.{ChecksAll, ChecksAny, FindsItem}
use Rattle.std.specs.List.{AllWithin, HoldsAt, range_with_len}
use Rattle.std.specs.Slice.Iter.{iter_rest}
use Rattle.std.specs.declared.slice.Iter.{Iter}
use Rattle.std.specs.declared.option.Option.{Option}
use Rattle.std.specs.declared.option.Option.TheVariants.{Some, None}
use Rattle.std.specs.declared.ops.Range.{Range}
use Rattle.std.proofs.iter.Yields.{fronts, nat_range_steps}
use Rattle.std.proofs.lemmas.Iterator.{cases_from_all, cases_from_any, first_from_Range, YieldsList-from_range, YieldsList-from_slice}
use Rattle.std.proofs.lemmas.List.FromFn.{get_or-range_with_len, length-range_with_len}
use Rattle.spec.specs.Lists.{all, any, up_to, range, least_from}
use Rattle.laws.proofs.Least.{least-from, least-holds, least_first}
use Rattle.laws.proofs.Loops.{all_start}
use Rattle.laws.proofs.Tests.{all-range, any-range, any-iff, get_or-mem, not_iff, true_of, denied-of, from-true, from_false, le-or-lt}

module _ (test : ℕ → Bool) (s : Range ℕ) where
  abbrev numbers : List ℕ
  numbers = range_with_len s.start (s.end - s.start)

  -- the test answers so, of a number of the range
  abbrev Gives : Bool → ℕ → Type 0
  Gives b x = s.start ≤ x → x < s.end → test x ≡ b

  long : length numbers ≡ s.end - s.start
  long = length-range_with_len s.start (s.end - s.start)

  at-place : {b : Bool} (k x : ℕ) → k < s.end - s.start → x ≡ s.start + k → HoldsAt (Gives b) numbers k → test x ≡ b
  at-place {b} k x l e g =
      let same = get_or-range_with_len s.start (s.end - s.start) k 0 l in
      subst (Gives b) (same ∙ sym e) (g 0) (omega arith) (omega arith)

  abbrev Every : Bool → Type 0
  Every b = AllWithin (Gives b) numbers 0 (length numbers)

  abbrev AtOne : Bool → Type 0
  AtOne b = (k : ℕ) × (k < length numbers) × HoldsAt (Gives b) numbers k

  each : {b : Bool} → Every b → (x : ℕ) → s.start ≤ x → x < s.end → test x ≡ b
  each w x l m = at-place (x - s.start) x (omega arith) (omega arith) (λ d. w (x - s.start) d (omega arith) (omega (arith, long)))

  one : {b : Bool} → AtOne b → (x : ℕ) × (s.start ≤ x) × (x < s.end) × (test x ≡ b)
  one (k, l, g) = (s.start + k, omega arith, omega (arith, long), at-place k (s.start + k) (omega (arith, long)) refl g)

  all-settled : (r : Bool) → MatchBool r (Every true) (AtOne false) → r ≡ all test (range s.start s.end)
  all-settled true w = sym (true_of (all test (range s.start s.end)) ((all-range test s.start s.end).1 (λ x l m. from-true (each w x l m))))
  all-settled false w =
      let p = one w in
      sym (denied-of (all test (range s.start s.end))
      ((not_iff (all test (range s.start s.end))).1 (λ t. from_false p.3 ((all-range test s.start s.end).0 t p.0 p.1 p.2))))

  any-settled : (r : Bool) → MatchBool r (AtOne true) (Every false) → r ≡ any test (range s.start s.end)
  any-settled true w =
      let p = one w in
      sym (true_of (any test (range s.start s.end)) ((any-range test s.start s.end).1 (p.0, p.1, p.2, from-true p.3)))
  any-settled false w =
      sym (denied-of (any test (range s.start s.end))
      ((not_iff (any test (range s.start s.end))).1 (λ t. let p = (any-range test s.start s.end).0 t in from_false (each w p.0 p.1 p.2) p.3)))

  -- a closure that is left as it was and computes the test of each number of the range
  module _ {F : Type 0} {g : Mut F (ℕ × Unit {0}) Bool} {u : Range ℕ} {f : F} {r : Bool}
      (same : (x : ℕ) (b : Bool) (q : F) → Called g f (x, tt) b q → (q ≡ f) × (s.start ≤ x → x < s.end → b ≡ test x)) where
    pub all-of-range : ChecksAll nat_range_steps g s f r u → r ≡ all test (range s.start s.end)
    all-of-range ran =
        all-settled r
        (cases_from_all u f r (Gives true) (Gives false) ran (YieldsList-from_range s.start s.end _ refl refl)
        (λ x q k. let e = same x true q k in (e.0, λ l m. sym (e.1 l m)))
        (λ x q k l m. sym ((same x false q k).1 l m)))

    pub all-below : {n : ℕ} → s.start ≡ 0 → s.end ≡ n → ChecksAll nat_range_steps g s f r u → r ≡ all test (up_to n)
    all-below {n} from to ran =
        all-of-range ran ∙ ap₂ (λ (a z : ℕ). all test (range a z)) from to ∙ sym (all_start test n)

    pub any-of-range : ChecksAny nat_range_steps g s f r u → r ≡ any test (range s.start s.end)
    any-of-range ran =
        any-settled r
        (cases_from_any u f r (Gives true) (Gives false) ran (YieldsList-from_range s.start s.end _ refl refl)
        (λ x q k l m. sym ((same x true q k).1 l m))
        (λ x q k. let e = same x false q k in (e.0, λ l m. sym (e.1 l m))))

  -- the least number of the range that passes, or its end
  least-is : (i : ℕ) → s.start ≤ i → i ≤ s.end → (i < s.end → test i ≡ true) → ((k : ℕ) → s.start ≤ k → k < i → test k ≡ false)
      → i ≡ least_from test s.start (s.end - s.start)
  least-is i low high hit none =
      let n = s.end - s.start in
      let span = least-from test s.start n in
      elim (le-or-lt i (least_from test s.start n)) [
        | inl before ↦ elim (le-or-lt s.end i) [
          | inl past ↦ omega arith
          | inr here ↦ omega (arith, least_first test s.start n i low (omega arith) (from-true (hit here)))
        ]
        | inr behind ↦ absurd (from_false (none _ span.0 behind) (least-holds test s.start n (omega arith)))
      ]

  found-settled : s.start ≤ s.end → (r : Option ℕ)
      → MatchOption r ((k : ℕ) → s.start ≤ k → k < s.end → Gives false k)
      (λ i. (s.start ≤ i) × (i < s.end) × Gives true i × ((k : ℕ) → s.start ≤ k → k < i → Gives false k))
      → unwrap_or r s.end ≡ least_from test s.start (s.end - s.start)
  found-settled room None none = least-is s.end room (omega arith) (λ l. absurd (omega arith)) (λ k l m. none k l m l m)
  found-settled room (Some i) (low, high, hit, none) = least-is i low (omega arith) (λ _. hit low high) (λ k l m. none k l m l (omega arith))

  pub least-of-range : {F : Type 0} {g : Mut F (Bor ℕ × Unit {0}) Bool} {f : F} (u : Range ℕ) (r : Option ℕ)
      → ((x : ℕ) (b : Bool) (q : F) → CalledAt g f x b q → (q ≡ f) × (s.start ≤ x → x < s.end → b ≡ test x)) → s.start ≤ s.end
      → FindsItem nat_range_steps g s f r u → unwrap_or r s.end ≡ least_from test s.start (s.end - s.start)
  least-of-range {f = f} u r same room ran =
      found-settled room r
      (first_from_Range s u f r (Gives true) (Gives false) ran
      (λ x q k l m. sym ((same x true q k).1 l m))
      (λ x q k. let e = same x false q k in (e.0, λ l m. sym (e.1 l m))))

-- ---- the numbers of a list

module _ (test : ℕ → Bool) where
  some-passes : (xs : List ℕ) (k : ℕ) → k < length xs → test (get_or xs k 0) ≡ true → any test xs ≡ true
  some-passes xs k l e = true_of (any test xs) ((any-iff test xs).1 (get_or xs k 0, get_or-mem xs k 0 l, from-true e))

  none-passes : (xs : List ℕ) → AllWithin (λ x. test x ≡ false) xs 0 (length xs) → any test xs ≡ false
  unfolding any
  none-passes [] w = refl
  none-passes (x ∷ xs) w =
      let here : test x ≡ false = w 0 x (omega arith) (omega arith) in
      rw here (none-passes xs (λ k d low l. w (suc k) d (omega arith) (omega arith)))

  list-settled : (xs : List ℕ) (r : Bool)
      → MatchBool r ((k : ℕ) × (k < length xs) × HoldsAt (λ x. test x ≡ true) xs k) (AllWithin (λ x. test x ≡ false) xs 0 (length xs))
      → r ≡ any test xs
  list-settled xs true (k, l, g) = sym (some-passes xs k l (g 0))
  list-settled xs false w = sym (none-passes xs w)

  pub any-of-list : {F : Type 0} {g : Mut F (Bor ℕ × Unit {0}) Bool} {s u : Iter ℕ} {f : F} {r : Bool}
      → ((x : Bor ℕ) (b : Bool) (q : F) → Called g f (x, tt) b q → (q ≡ f) × (b ≡ test x.now))
      → (xs : List ℕ) → iter_rest s ≡ xs → ChecksAny fronts g s f r u → r ≡ any test xs
  any-of-list {u = u} {f = f} {r = r} same xs from ran =
      list-settled xs r
      (cases_from_any u f r (λ x. test x ≡ true) (λ x. test x ≡ false) ran (YieldsList-from_slice xs from)
      (λ x q k. sym (same x true q k).1)
      (λ x q k. let e = same x false q k in (e.0, sym e.1)))
