-- `chains::chain_runs` meets its contract: a turn stores a run's two numbers. Assumes nothing.
use Rattle.std.proofs.Common.{◌≡◌, ℕ, ◌+◌, ◌*◌, List, ◌∷◌, ◌++◌, append_assoc, refl, sym, ap, ap₂, ◌∙◌, arith, length, set, length-append}
use lib.Seq.{sets}
use Rattle.spec.specs.Lists.{count, up_to, each, one}
use Rattle.laws.proofs.Parts.{length-each, sum-constant}
use Rattle.listing.proofs.Leaves.{sets-next}
use Rattle.listing.proofs.Lists.{each_next}
use Rattle.tables.proofs.Links.{links_at}
use Rattle.tables.proofs.chains.chain_runs.Goals as goal

-- the two numbers of a run are stored behind those before it
stored : (f : ℕ → List ℕ) (old table : List ℕ) (r a b : ℕ) → ((i : ℕ) → length (f i) ≡ 2) → a ∷ one b ≡ f r
    → table ≡ sets old 0 (each (up_to r) f) → set (set table (2 * r) a) (2 * r + 1) b ≡ sets old 0 (each (up_to (r + 1)) f)
stored f old table r a b two e h =
    let xs = each (up_to r) f in
    let size : length xs ≡ 2 * r = length-each f (λ _. 2) two r ∙ sum-constant 2 r ∙ omega arith in
    let first : 2 * r ≡ 0 + length xs = omega arith in
    let second : 2 * r + 1 ≡ 0 + length (xs ++ one a) = omega (arith, length-append xs (one a)) in
    ap (λ (t : List ℕ). set (set t (2 * r) a) (2 * r + 1) b) h
    ∙ ap₂ (λ (j k : ℕ). set (set (sets old 0 xs) j a) k b) first second
    ∙ ap (λ (t : List ℕ). set t (0 + length (xs ++ one a)) b) (sets-next xs old 0 a)
    ∙ sets-next (xs ++ one a) old 0 b
    ∙ ap (sets old 0) (append_assoc xs (one a) (one b) ∙ ap (λ (l : List ℕ). xs ++ l) e ∙ sym (each_next f r))

pub loop-r-init : goal.loop-r-init
unfolding up_to count each
loop-r-init c = refl

pub loop-r-preserved : goal.loop-r-preserved
loop-r-preserved c =
    let a = c.args in
    stored (links_at a.runs.now a.l a.n) _ _ c.loop-r.r _ _ (λ _. refl)
    (ap₂ (λ (first next : ℕ). first ∷ one next) c.first_follower.ensures c.next_alike.ensures) c.loop-r.invariant

pub returns : goal.returns
returns c = let e : c.loop-r.r ≡ c.args.n = omega arith in rw e at c.loop-r.invariant
