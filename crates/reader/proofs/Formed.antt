-- A well-formed book whose numbers fit their fields has a struct that holds it (`well-formed-packed`). Assumes nothing.
use mathlib.Core.Path.{◌≡◌, refl}
use mathlib.Core.Logic.{inl, inr}
use Prim.Native.Nat.{ℕ, ◌≤◌, ◌<◌}
use native.Mathlib.Omega.{arith}
use mathlib.Core.List.{List, [], ◌∷◌}
use lib.ListN.{length}
use lib.Dec.{T, ltb, eqb}
use Rattle.spec.specs.Lists.{all, pick, only}
use Rattle.spec.specs.Book.{Book, Call, calls_of}
use Rattle.spec.specs.BookFile.{FitsFields}
use Rattle.spec.specs.Read.{well_formed, head_fits, call_fits, between, max_calls, max_intervals}
use Rattle.spec.specs.Held.{packed}
use Rattle.laws.proofs.Tests.{and-iff, eqb-iff, ltb_iff, leb-iff, false_of, le-or-lt, all-iff, all-up_to}
use Rattle.demands.proofs.Wellformed.{parts}
use Rattle.reader.specs.Added.{Packed}
use Rattle.reader.proofs.Calls.{calls-fit}
use Rattle.reader.proofs.Packing.{packed-fits}

-- a train that is none of the first n has no call among theirs
no-calls : (n i : ℕ) (cs : List Call) → n ≤ i → T (all (λ c. ltb c.train n) cs) → length (pick (λ c. eqb c.train i) cs) ≡ 0
unfolding all pick only
no-calls n i [] l h = refl
no-calls n i (c ∷ cs) l h =
    let q = (and-iff (ltb c.train n) (all (λ c. ltb c.train n) cs)).0 h in
    let below = (ltb_iff c.train n).0 q.0 in
    let other = false_of (eqb c.train i) (λ t. omega (arith, (eqb-iff c.train i).0 t)) in
    rw other (no-calls n i cs l q.1)

module _ (b : Book) (formed : T (well_formed b)) where
  -- each call is of a train of the book
  calls-known : T (all (λ c. ltb c.train (length b.trains)) b.calls)
  unfolding call_fits
  calls-known = (all-iff _ b.calls).1 (λ c m. (simp and-iff at ((all-iff _ b.calls).0 (parts b formed).calls c m)).0.0.0)

  -- every number has few calls, a train's or none's
  calls-few : (i : ℕ) → length (calls_of b i) ≤ max_calls
  unfolding calls_of between
  calls-few i =
      elim (le-or-lt (length b.trains) i) [
        | inl l ↦ (let e = no-calls (length b.trains) i b.calls l calls-known in omega arith)
        | inr l ↦ (let q = simp (and-iff, leb-iff) at ((all-up_to _ (length b.trains)).0 (parts b formed).counts i l) in q.1)
      ]

  -- T is small
  few-intervals : b.intervals < 65536
  unfolding head_fits between
  few-intervals = let h = (leb-iff b.intervals max_intervals).0 (simp and-iff at (parts b formed).head).1.1 in omega arith

  -- a well-formed book whose numbers fit has a struct that is its own
  pub well-formed-packed : FitsFields b → Packed (packed b)
  well-formed-packed fields =
      let p = parts b formed in
      let calls = calls-fit b (record { known = calls-known; few = calls-few; trains = p.few_trains }) in
      packed-fits b p.few_nodes p.few_segments p.few_joins p.few_trains calls fields.metres fields.seconds few-intervals
