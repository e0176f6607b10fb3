-- `listing::path_at` meets its contract: the run's first bytes, zeros behind. Assumes nothing.
use Rattle.std.proofs.Common.{◌≡◌, ◌+◌, ◌-◌, ◌++◌, List, ℕ, length, take, drop, replicate, sym, ap, ap₂, ◌∙◌, arith}
use Rattle.std.proofs.lemmas.List.{drop-take, drop-replicate}
use Rattle.std.proofs.Math.Seq.{slice}
use Rattle.spec.specs.Held.{padded}
use Rattle.listing.specs.Listed.{packed_path, entry_at, place_at}
use Rattle.listing.proofs.Successors.{length_part}
use Rattle.listing.proofs.path_at.Goals as goal

pub returns : goal.returns
unfolding packed_path place_at padded
returns c =
    let a = c.args in
    let base = entry_at a.r + 1 in
    let long : length (slice base (base + a.l) a.runs.now) ≡ a.l = length_part a.runs.now base a.l (omega arith) in
    let copied : c.copy_from_slice.new.self ≡ slice base (base + a.l) a.runs.now =
    c.copy_from_slice.ensures.after ∙ ap (λ (k : ℕ). take k (drop base a.runs.now)) (omega arith) ∙ sym (drop-take base a.l a.runs.now) in
    ap₂ (λ (at : List ℕ) (n : ℕ). record { at = at; n = n })
    (ap₂ (λ (xs : List ℕ) (ys : List ℕ). xs ++ ys) copied (drop-replicate a.l 16 0 ∙ ap (λ (k : ℕ). replicate (16 - k) 0) (sym long)))
    (sym long)
