use Rattle.std.proofs.Common.{◌≡◌, ◌∙◌, ap, ap₂, refl, sym, arith, ℕ, ◌+◌, ◌/◌, ◌≤◌, ◌<◌, List, ◌∷◌, ◌++◌, map, take, take_all, length, get_or}
use Rattle.std.proofs.lemmas.List.{take_more}
use mathlib.Core.List.{map-append}
use native.Mathlib.Nat.{add_assoc}
use lib.Seq.{slice}
use Rattle.spec.specs.Lists.{Bytes, each, one}
use Rattle.spec.specs.Book.{segment_of}
use Rattle.spec.specs.Formula.{Clause, is, not', words_of}
use Rattle.clauses.proofs.Laws.{passes_same, passes-nothing}
use Rattle.listing.specs.Listed.{place_at, start_at}
use Rattle.listing.proofs.Filled.{lent, part-lent}
use Rattle.tables.specs.Placed.{size_at, run_held}
use Rattle.formula.proofs.Rest.{passes-both}
use Rattle.formula.proofs.families.claims_of.Goals as goal

-- of the run whose variable is x, with claims from y on: the clauses of directed segments
module _ (x y : ℕ) where
  abbrev clause : ℕ → Clause
  clause s = not' x ∷ one (is (y + s))

  abbrev clauses : List ℕ → List Clause
  clauses ds = map clause (map segment_of ds)

  clauses-next : (ds : List ℕ) (k d : ℕ) → k < length ds → d ≡ get_or ds k 0
      → words_of (clauses (take k ds) ++ one (clause (d / 2))) ≡ words_of (clauses (take (k + 1) ds))
  unfolding segment_of
  clauses-next ds k d h e =
      ap (λ (n : ℕ). words_of (clauses (take k ds) ++ one (clause (n / 2)))) e
      ∙ sym (ap words_of (ap clauses (take_more ds k 0 h) ∙ ap (map clause) (map-append segment_of (take k ds) _) ∙ map-append clause _ _))

-- all of them are the clauses of the run
clauses-all : (base n x r : ℕ) (runs : Bytes) {y at size k : ℕ} → y ≡ base + (n + 1) → at ≡ start_at r → size ≡ size_at runs r
    → at ≤ length runs → length (lent at size runs) ≤ k
    → words_of (clauses x y (take k (lent at size runs)))
    ≡ words_of (map (λ s. not' x ∷ one (is (base + (n + 1 + s)))) (map segment_of (run_held runs r)))
unfolding run_held place_at
clauses-all base n x r runs {y} {at} {size} {k} e f g inside long =
    ap (λ (ds : List ℕ). words_of (clauses x y ds))
    (take_all k _ long ∙ part-lent at size runs inside ∙ ap₂ (λ (a m : ℕ). slice a (a + m) runs) f g)
    ∙ ap (λ (z : ℕ). words_of (map (λ s. not' x ∷ one (is (z + s))) (map segment_of (run_held runs r)))) e
    ∙ simp add_assoc

pub loop-d-init : goal.loop-d-init
unfolding words_of each
loop-d-init c = passes-nothing refl

pub loop-d-preserved : goal.loop-d-preserved
loop-d-preserved c =
    passes_same (clauses-next (c.args.t.base + c.args.r) c.claims_from-claims.result _ _ _ c.loop-d-test.true c.from.ensures)
    (passes-both _ _ c.loop-d.invariant c.implies.ensures)

pub returns : goal.returns
returns c =
    passes_same
    (clauses-all c.args.t.base c.args.t.runs (c.args.t.base + c.args.r) c.args.r _
    c.claims_from-claims.ensures c.start_of-at.ensures c.size_of.ensures.0 (omega arith) c.loop-d-test.false)
    c.loop-d.invariant
