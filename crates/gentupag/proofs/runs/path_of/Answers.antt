-- The run's bytes, and the zeros that were there behind them.
use native.Mathlib.Omega.{arith}
use mathlib.Core.Path.{◌≡◌, sym, ap, ◌∙◌}
use mathlib.Core.List.{◌++◌}
use Prim.Native.Nat.{ℕ, ◌+◌, ◌-◌}
use lib.ListN.{length, drop, replicate}
use lib.Seq.{slice}
use Rattle.std.proofs.lemmas.List.{drop-replicate}
use Rattle.std.proofs.lemmas.List.Edits.{length-between}
use Rattle.std.proofs.lemmas.Slice.{between_is}
use Rattle.spec.specs.Lists.{Bytes}
use Rattle.spec.specs.Held.{padded}
use Rattle.listing.specs.Listed.{place_at}
use Rattle.gentupag.proofs.runs.path_of.Goals as goal

pub returns : goal.returns
unfolding place_at padded
returns c =
    let a = c.args in
    let runs = a.runs.now in
    let first : ℕ = c.start_of-base.result in
    let path : Bytes = slice first (first + a.size) runs in
    let long : length path ≡ a.size
    = ap length (sym (between_is runs first (first + a.size))) ∙ length-between runs first (first + a.size) (omega arith) ∙ omega arith in
    ap (λ (ds : Bytes). ds ++ drop a.size (replicate 16 0)) (c.copy_from_slice.ensures.after ∙ between_is runs first (first + a.size))
    ∙ ap (λ (ds : Bytes). path ++ ds) (drop-replicate a.size 16 0 ∙ ap (λ (k : ℕ). replicate (16 - k) 0) (sym long))
    ∙ ap (λ (k : ℕ). padded 16 0 (slice k (k + a.size) runs)) c.start_of-base.ensures
