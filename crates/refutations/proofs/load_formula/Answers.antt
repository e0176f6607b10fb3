-- The first walk measures, the second writes the formula's words, whose clauses are then found. Assumes nothing.
use Rattle.std.proofs.Common.{arith, ◌≤◌, refl, sym, ap, ◌∙◌, List, length}
use lib.Seq.{sets}
use Rattle.spec.specs.Instance.{instance_of, under}
use Rattle.spec.specs.Held.{held, held_cap}
use Rattle.spec.specs.Formula.{Clause, formula, words_of}
use Rattle.formula.proofs.Totals.{nothing-ahead}
use Rattle.propagation.specs.Kept.{starts_from}
use Rattle.refutations.proofs.Loaded.{room, no_room, closed, in-variables, word_count, clause-count, measured-extent, were-written, in-front, are-said}
use Rattle.refutations.proofs.load_formula.Goals.{else-measured-words-via-then-measured-words+else-measured-starts, else-measured-words-via-else-measured-words}
use Rattle.refutations.proofs.load_formula.Goals as goal

pub index_clauses-requires : goal.index_clauses-requires
index_clauses-requires c =
    let b = c.args.t.now.book in
    let p = c.args.t.now.runs_ready.counted.passed in
    let cap = held_cap c.args.cap in
    let m = c.walk_formula-measured.ensures in
    let same = nothing-ahead m refl c.args.words.now in
    let fits : length (words_of (formula (under cap (instance_of (held b))))) ≤ length c.args.words.now =
    omega (arith, c.if-measured-words.true, word_count b p cap c.args.words.now m, ap length same) in (
      closed _ _ (in-variables b cap p refl) (in-front b p cap c.args.words.now m same c.walk_formula.ensures fits),
      omega (
        arith,
        c.if-measured-starts.true,
        clause-count b p cap c.args.words.now m,
        ap length (are-said b p cap c.args.words.now m same c.walk_formula.ensures fits),
      ),
    )

pub returns-then-measured-starts : goal.returns-then-measured-starts
returns-then-measured-starts c =
    let b = c.args.t.now.book in
    let p = c.args.t.now.runs_ready.counted.passed in
    let cap = held_cap c.args.cap in
    let m = c.walk_formula-measured.ensures in
    let same = nothing-ahead m refl c.args.words.now in
    let fits : length (words_of (formula (under cap (instance_of (held b))))) ≤ length c.args.words.now =
    omega (arith, c.if-measured-words.true, word_count b p cap c.args.words.now m, ap length same) in
    let there = room (under cap (instance_of (held b))) c.args.words.now c.args.starts.now
    (fits, omega (arith, c.if-measured-starts.true, clause-count b p cap c.args.words.now m)) in
    record {
      extent = measured-extent b p cap c.args.words.now m;
      words = were-written b p cap c.args.words.now m same c.walk_formula.ensures fits ∙ sym there.0;
      starts = c.index_clauses.ensures
          ∙ ap (λ (cs : List Clause). sets c.args.starts.now 0 (starts_from 0 cs))
          (are-said b p cap c.args.words.now m same c.walk_formula.ensures fits)
          ∙ sym there.1;
    }

pub returns-else-measured-words : goal.returns-else-measured-words
returns-else-measured-words c =
    let b = c.args.t.now.book in
    let p = c.args.t.now.runs_ready.counted.passed in
    let cap = held_cap c.args.cap in
    let m = c.walk_formula-measured.ensures in
    let same = nothing-ahead m refl c.args.words.now in
    let none = no_room (under cap (instance_of (held b))) c.args.words.now c.args.starts.now (λ fits.
    elim c.else-measured-words.branch [
      | else-measured-words-via-then-measured-words+else-measured-starts w ↦
          omega (arith, fits.1, w.if-measured-starts.false, clause-count b p cap c.args.words.now m)
      | else-measured-words-via-else-measured-words w ↦
          omega (arith, fits.0, w.if-measured-words.false, word_count b p cap c.args.words.now m, ap length same)
    ]) in
    record { extent = measured-extent b p cap c.args.words.now m; words = same ∙ sym none.0; starts = sym none.1 }
