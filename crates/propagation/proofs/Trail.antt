-- The trail of the variables that have a value: where an open variable gets one, the trail has room and the variable goes on it;
-- at first nothing is on it. What is left there once the variables are open again (`left_here`), and after several checks in a row
-- (`left_both`). Assumes nothing.
use mathlib.Core.Path.{◌≡◌, refl, sym, ap, ◌∙◌}
use mathlib.Core.Logic.{inl, inr}
use Prim.Native.Nat.{ℕ, zero, suc, ◌+◌, ◌-◌, ◌≤◌, ◌<◌}
use native.Mathlib.Omega.{arith}
use mathlib.Core.List.{List, [], ◌∷◌}
use lib.ListN.{length, get_or, drop, set, length-set, length-replicate}
use lib.Seq.{get_or-set_same, get_or-set_other, get_or-drop, drop-drop, drop-set-lt}
use lib.Dec.{eqb}
use Rattle.spec.specs.Lists.{Bytes, pick, only}
use Rattle.spec.specs.Entry.{zeroed}
use Rattle.laws.proofs.Tests.{eqb-iff, decide, false_of, not_iff, le-or-lt}
use Rattle.propagation.specs.Known.{known, Trailed, LeftOnTrail}
use Rattle.propagation.proofs.Values.{get_or-zeroed}

-- an entry that is 0 is not counted, any other is
known-open : (values : Bytes) → known (0 ∷ values) ≡ known values
unfolding known pick only
known-open values = refl

known-set : (b : ℕ) (values : Bytes) → (b ≡ 0 → ⊥) → known (b ∷ values) ≡ suc (known values)
unfolding known pick only
known-set b values n = let e = false_of (eqb b 0) (λ t. n ((eqb-iff b 0).0 t)) in rw e refl

-- where an entry was 0 and is not any more, one more is counted
known_more : (values : Bytes) (v b : ℕ) → v < length values → get_or values v 0 ≡ 0 → (b ≡ 0 → ⊥)
    → known (set values v b) ≡ suc (known values)
known_more [] v b h z n = absurd (omega arith)
known_more (x ∷ values) zero b h z n = known-set b values n ∙ ap suc (sym (ap (λ (y : ℕ). known (y ∷ values)) z ∙ known-open values))
known_more (x ∷ values) (suc v) b h z n =
    let r = known_more values v b (omega arith) z n in
    decide (eqb x 0)
    (λ t. let e = (eqb-iff x 0).0 t in rw e (known-open (set values v b) ∙ r ∙ ap suc (sym (known-open values))))
    (λ t. let k : x ≡ 0 → ⊥ = λ e. (not_iff (eqb x 0)).0 t ((eqb-iff x 0).1 e) in
    known-set x (set values v b) k ∙ ap suc (r ∙ sym (known-set x values k)))

-- at most all are counted
known-all : (values : Bytes) → known values ≤ length values
unfolding known pick
known-all [] = omega arith
known-all (x ∷ values) = let r = known-all values in decide (eqb x 0)
    (λ t. let e = (eqb-iff x 0).0 t in rw e (omega (arith, known-open values)))
    (λ t. omega (arith, known-set x values λ e. (not_iff (eqb x 0)).0 t ((eqb-iff x 0).1 e)))

-- what is on the trail is within it
pub trail-bound : {values : Bytes} {trail : List ℕ} {set' : ℕ} → Trailed values trail set' → set' ≤ length trail
trail-bound {values} t = omega (arith, t.counted, t.room, known-all values)

-- where a variable is open, the trail has room for it
pub trail-room : {values : Bytes} {trail : List ℕ} {set' : ℕ} → Trailed values trail set' → (v : ℕ)
    → v < length values → get_or values v 0 ≡ 0 → set' < length trail
trail-room {values} t v h z =
    let more = known_more values v 1 h z (λ e. omega arith) in
    let all' = known-all (set values v 1) in
    omega (arith, t.counted, t.room, more, all', length-set values v 1)

-- an open variable gets a value, and goes on the trail
pub pushed : {values : Bytes} {trail : List ℕ} {set' : ℕ} → Trailed values trail set' → (v b : ℕ)
    → v < length values → get_or values v 0 ≡ 0 → (b ≡ 0 → ⊥) → Trailed (set values v b) (set trail set' v) (set' + 1)
pushed {values} {trail} {set'} t v b h z n =
    let space = trail-room t v h z in
    let here = get_or-set_same trail set' v 0 space in
    let there : (j : ℕ) → j < set' → get_or (set trail set' v) j 0 ≡ get_or trail j 0 =
    λ j k. get_or-set_other trail set' j v 0 (λ e. omega arith) in
    record {
      counted = omega (arith, known_more values v b h z n, t.counted);
      room = omega (arith, length-set values v b, length-set trail set' v, t.room);
      below = λ j k. decide (eqb j set')
          (λ q. let e = (eqb-iff j set').0 q in rw (e, here, length-set) h)
          (λ q. let e : j ≡ set' → ⊥ = λ e. (not_iff (eqb j set')).0 q ((eqb-iff j set').1 e) in
          let k' : j < set' = omega arith in
          rw (there j k', length-set) (t.below j k'));
      on_trail = λ u k. decide (eqb u v)
          (λ q. let e = (eqb-iff u v).0 q in inr (set', omega arith, here ∙ sym e))
          (λ q. let e : u ≡ v → ⊥ = λ e. (not_iff (eqb u v)).0 q ((eqb-iff u v).1 e) in
          elim (t.on_trail u (omega (arith, length-set values v b))) [
            | inl o ↦ inl (get_or-set_other values v u b 0 e ∙ o)
            | inr w ↦ inr (w.0, omega (arith, w.1), there w.0 w.1 ∙ w.2)
          ]);
    }

-- where each entry is 0, nothing is on the trail
none-known : (n : ℕ) → known (zeroed 0 n) ≡ 0
unfolding known pick only zeroed
none-known zero = refl
none-known (suc n) = none-known n

pub nothing-set : (n : ℕ) (trail : List ℕ) → n ≤ length trail → Trailed (zeroed 0 n) trail 0
unfolding zeroed
nothing-set n trail h = record {
  counted = none-known n;
  room = omega (arith, length-replicate {A = ℕ} n 0);
  below = λ j k. absurd (omega arith);
  on_trail = λ v k. inl (get_or-zeroed n v);
}

-- ---- what stays behind, and what is left

-- what is behind n entries is behind more
pub behind_more : (n m : ℕ) (new old : List ℕ) → n ≤ m → drop n new ≡ drop n old → drop m new ≡ drop m old
behind_more n m new old h e =
    let there : n + (m - n) ≡ m = omega arith in
    rw (← there) (sym (drop-drop (m - n) n new) ∙ ap (drop (m - n)) e ∙ drop-drop (m - n) n old)

-- one more entry is written
pub behind-next : (i v : ℕ) (new old : List ℕ) → drop i new ≡ drop i old → drop (i + 1) (set new i v) ≡ drop (i + 1) old
behind-next i v new old e = drop-set-lt (i + 1) new i v (omega arith) ∙ behind_more i (i + 1) new old (omega arith) e

-- what is left, where so many variables have a value
pub left_here : {values : Bytes} {trail trail' : List ℕ} {set' n : ℕ} → Trailed values trail' set' → length values ≡ n
    → drop set' trail' ≡ drop set' trail → LeftOnTrail n trail trail'
left_here {values} {set' = set'} t e b = record {
  written = set';
  most = omega (arith, t.counted, known-all values);
  in_front = λ j h. omega (arith, t.below j h);
  behind = b;
}

-- nothing was written
pub left_alone : {n : ℕ} {trail : List ℕ} → LeftOnTrail n trail trail
left_alone = record { written = 0; most = omega arith; in_front = λ j h. absurd (omega arith); behind = refl }

-- what is left after two checks, one behind the other
pub left_both : {n : ℕ} {trail trail' trail'' : List ℕ} → LeftOnTrail n trail trail' → LeftOnTrail n trail' trail'' → LeftOnTrail n trail trail''
left_both {n} {trail} {trail'} {trail''} a b = elim (le-or-lt a.written b.written) [
  | inl l ↦ record {
    written = b.written;
    most = b.most;
    in_front = b.in_front;
    behind = b.behind ∙ behind_more a.written b.written trail' trail l a.behind;
  }
  | inr l ↦ record {
    written = a.written;
    most = a.most;
    in_front = λ j h. elim (le-or-lt b.written j) [
      | inl k ↦ (let there : b.written + (j - b.written) ≡ j = omega arith in
          let same = ap (λ (l : List ℕ). get_or l (j - b.written) 0) b.behind in
          let old = get_or-drop b.written trail' (j - b.written) 0 in
          let new = get_or-drop b.written trail'' (j - b.written) 0 in
          omega (arith, a.in_front j h, rw there at (sym new ∙ same ∙ old)))
      | inr k ↦ b.in_front j k
    ];
    behind = behind_more b.written a.written trail'' trail' (omega arith) b.behind ∙ a.behind;
  }
]
