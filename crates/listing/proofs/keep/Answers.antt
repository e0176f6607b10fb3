-- `listing::keep` meets its contract: the path's length and its array are the run's entry. Assumes nothing.
use Rattle.std.proofs.Common.{◌≡◌, ◌+◌, ◌-◌, ◌≤◌, List, ℕ, length, set, sym, ap, ap₂, ◌∙◌, length-set, add-one, arith, rules}
use Rattle.std.proofs.lemmas.List.Edits.{sets}
use Rattle.spec.specs.Held.{padded}
use Rattle.listing.specs.declared.Path.{Path}
use Rattle.listing.specs.Listed.{path_of, packed_path, entry_at, entry_of}
use Rattle.listing.proofs.Leaves.{put_mid-sets, runs-kept, runs-full}
use Rattle.listing.proofs.keep.Goals as goal

pub returns-then-count-lt-MAX_RUNS : goal.returns-then-count-lt-MAX_RUNS
unfolding packed_path entry_of
returns-then-count-lt-MAX_RUNS c =
    let a = c.args in
    let ds = path_of a.path in
    let base = entry_at a.count in
    let row : a.path.at ≡ padded 16 0 ds = ap (λ (p : Path). p.at) c.requires.2 in
    let long : a.path.n ≡ length ds = ap (λ (p : Path). p.n) c.requires.2 in
    let copied = c.copy_from_slice.ensures.after ∙ row in
    let bytes : length a.path.at ≡ 16 = search rules in
    let size : length c.copy_from_slice.new.self ≡ base + 17 - (base + 1) = omega (arith, ap length c.copy_from_slice.ensures.after) in
    let old = set a.runs.now base a.path.n in
    let room : base + 1 + (base + 17 - (base + 1)) ≤ length old = omega (arith, length-set a.runs.now base a.path.n) in
    put_mid-sets old c.copy_from_slice.new.self (base + 1) _ size room
    ∙ ap₂ (λ (n : ℕ) (bs : List ℕ). sets (set a.runs.now base n) (base + 1) bs) long copied
    ∙ ap (λ (k : ℕ). sets (set a.runs.now base (length ds)) k (padded 16 0 ds)) (add-one base)
    ∙ sym (runs-kept a.count ds a.runs.now c.if-count-lt-MAX_RUNS.true)

pub returns-else-count-lt-MAX_RUNS : goal.returns-else-count-lt-MAX_RUNS
returns-else-count-lt-MAX_RUNS c = sym (runs-full _ _ _ c.if-count-lt-MAX_RUNS.false)
