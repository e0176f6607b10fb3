-- The walk over an empty output measures the formula.
use mathlib.Core.Path.{sym, ap, ◌∙◌}
use lib.ListN.{length}
use Rattle.spec.specs.Instance.{instance_of, compile}
use Rattle.spec.specs.Library.{sizes_of}
use Rattle.spec.specs.Held.{held, held_cap}
use Rattle.demands.proofs.Uncapped.{length-same}
use Rattle.reader.proofs.Packing.{nodes-counted, segments-counted, trains-counted}
use Rattle.layout.proofs.Capped.{free-under}
use Rattle.formula.proofs.Totals.{walk-words, walk-clauses}
use Rattle.gentupag.proofs.sizes.measure_by.Goals as goal

pub returns : goal.returns
unfolding sizes_of instance_of compile held
returns c =
    let b = c.args.t.now.book in
    let p = c.args.t.now.runs_ready.counted.passed in
    let cap = held_cap c.args.cap in
    let I = instance_of (held b) in
    let nodes = sym (nodes-counted p.packed) in
    let segments = sym (segments-counted p.packed) in
    let trains = sym (trains-counted p.packed) in
    let free = c.count_free.ensures.0 ∙ ap length (sym (free-under cap I)) in
    let variables = c.variable_count.ensures.0 in
    let clauses = walk-clauses b p cap c.walk_formula-passed.ensures in
    let words = walk-words b p cap c.walk_formula-passed.ensures in
    let bytes = c.plan_length.ensures ∙ sym (length-same cap I) in
    λ i. record {
      number = 0;
      detail = 0;
      intervals = b.intervals;
      nodes = nodes i;
      free_nodes = free i;
      segments = segments i;
      trains = trains i;
      variables = variables i;
      clauses = clauses i;
      words = words i;
      plan_bytes = bytes i;
    }
