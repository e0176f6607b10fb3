-- `listing::fill_successors` meets its contract: a turn writes one fan more. Assumes nothing.
use Rattle.std.proofs.Common.{◌≡◌, ◌*◌, List, ℕ, length, set, refl, sym, ap, ap₂, ◌∙◌, add-one, zero-add, arith}
use Rattle.std.proofs.Math.Seq.{sets}
use Rattle.spec.specs.Lists.{up_to, count}
use Rattle.spec.specs.Held.{held}
use Rattle.listing.specs.Listed.{successors, successor_table, fan_widths}
use Rattle.listing.proofs.Leaves.{sets-map-next}
use Rattle.listing.proofs.fill_successors.Goals as goal

pub loop-d-init : goal.loop-d-init
unfolding successor_table fan_widths up_to count
loop-d-init c = record { fans = refl; wide = refl }

pub loop-d-preserved : goal.loop-d-preserved
unfolding successor_table fan_widths
loop-d-preserved c =
    let b = held c.args.b in
    let d = c.loop-d.d in
    let i = c.loop-d.invariant in
    let fan = c.fill_fan.ensures in record {
      fans = fan.2
          ∙ ap (λ (table : List ℕ). sets table (d * 128) (successors b d)) i.fans
          ∙ ap (λ (k : ℕ). successor_table b k c.args.table.now) (sym (add-one d));
      wide = ap₂ (λ (widths : List ℕ) (x : ℕ). set widths d x) i.wide fan.0
          ∙ ap (λ (k : ℕ). set (sets c.args.widths.now 0 (fan_widths b d)) k (length (successors b d))) (sym (zero-add d))
          ∙ sets-map-next (λ d. length (successors b d)) c.args.widths.now 0 d;
    }

pub returns : goal.returns
returns c =
    let b = held c.args.b in
    let i = c.loop-d.invariant in
    let done : c.loop-d.d ≡ 2 * c.args.b.segment_count = omega arith in (
      i.fans ∙ ap (λ (k : ℕ). successor_table b k c.args.table.now) done,
      i.wide ∙ ap (λ (k : ℕ). sets c.args.widths.now 0 (fan_widths b k)) done,
    )
