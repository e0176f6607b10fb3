-- `listing::list_trains` meets its contract: a turn lists one train's runs, in its part of the table. Assumes nothing.
use borrow.Rule.Slice.PartMut.{mid_len}
use Rattle.std.proofs.Common.{◌≡◌, ◌+◌, ◌*◌, ◌<◌, ◌≤◌, List, ℕ, map, length, take, set, refl, sym, ap, ◌∙◌, add-one, length-take, arith, rules}
use Rattle.std.proofs.lemmas.List.{length-map, length-replicate, map-append, get_or-take}
use Rattle.spec.specs.Lists.{count, up_to, one}
use Rattle.spec.specs.Held.{held, padded}
use Rattle.model.specs.declared.Book.{Book as BookStruct}
use Rattle.laws.proofs.Parts.{up_to-suc, length-up_to}
use Rattle.laws.proofs.Arrays.{padded-next}
use Rattle.network.proofs.Walks.{length-of-map}
use Rattle.listing.specs.Listed.{train_bytes, runs_after, count_after, runs_at, filled, run_table, run_counts}
use Rattle.listing.proofs.Successors.{filled-held}
use Rattle.listing.proofs.Filled.{lent, filled_next}
use Rattle.listing.proofs.Trains.{no_train, metres-some, reach_here, numbers-here, trains-counted, runs-held}
use Rattle.listing.proofs.list_trains.Goals as goal

-- the counts with one train's more
counts-next : (g : ℕ → ℕ) (i : ℕ) (counts : List ℕ) (x : ℕ) → i < 8 → counts ≡ padded 8 0 (map g (up_to i)) → x ≡ g i
    → set counts i x ≡ padded 8 0 (map g (up_to (i + 1)))
counts-next g i counts x l e v =
    rw (e, v)
    (padded-next 8 i 0 (g i) (map g (up_to i)) (length-map (up_to i) g ∙ length-up_to i) l
    ∙ ap (padded 8 0) (sym (map-append g (up_to i) (one i)) ∙ ap (map g) (sym (up_to-suc i) ∙ ap up_to (sym (add-one i)))))

-- a turn's train is one of the book's
below : (b : BookStruct) (i : ℕ) → i < length (take b.train_count b.trains) → i < b.train_count
below b i h = omega (arith, length-take b.train_count b.trains)

pub loop-i-init : goal.loop-i-init
unfolding filled up_to count padded
loop-i-init c =
    let b = c.args.b in
    let e = c.fill_successors.ensures in
    let segments : length b.segments ≡ 64 = search (rules, length-of-map) in record {
      known = filled-held b c.requires.0 segments _ _ _ _ (length-replicate {A = ℕ} 16384 0) refl e.0 e.1;
      counted = refl;
      filled = refl;
    }

pub list_runs-requires : goal.list_runs-requires
list_runs-requires c =
    let b = c.args.b in
    let i = c.loop-i.i in
    let trains : length b.trains ≡ 8 = search (rules, length-of-map) in
    let room : b.train_count ≤ length b.trains = omega (arith, c.requires.0.trains) in
    let l = below b i c.loop-i-test.true in
    let same = get_or-take b.train_count b.trains i no_train l in
    let n = numbers-here b c.requires.2 i l room c.requires.3 in
    let fits : i * train_bytes + train_bytes ≤ length c.loop-i.runs = omega (arith, c.requires.0.trains, c.loop-i.auto.runs) in (
      c.requires.0,
      c.requires.1,
      metres-some b c.requires.2,
      rw same n.0,
      rw same n.1,
      rw same (reach_here b c.requires.2 i l room),
      c.loop-i.invariant.known,
      mid_len (i * train_bytes) (i * train_bytes + train_bytes) c.loop-i.runs fits ∙ omega arith,
    )

pub loop-i-preserved : goal.loop-i-preserved
loop-i-preserved c =
    let b = c.args.b in
    let i = c.loop-i.i in
    let v = c.loop-i.invariant in
    let trains : length b.trains ≡ 8 = search (rules, length-of-map) in
    let room : b.train_count ≤ length b.trains = omega (arith, c.requires.0.trains) in
    let l = below b i c.loop-i-test.true in
    let few : i < 8 = omega (arith, c.requires.0.trains) in
    let fits : i * train_bytes + train_bytes ≤ length c.loop-i.runs = omega (arith, c.loop-i.auto.runs) in
    let same = runs-held b room i l in
    let taken = get_or-take b.train_count b.trains i no_train l in
    let e = rw taken at c.list_runs.ensures in record {
      known = v.known;
      counted = counts-next (λ k. count_after 0 (runs_at (held b) k)) i _ _ few v.counted (e.0 ∙ ap (count_after 0) (sym same));
      filled = filled_next (λ k. runs_after 0 (runs_at (held b) k)) train_bytes i _ _ _ fits v.filled
          (e.1 ∙ ap (λ (runs : List (List ℕ)). runs_after 0 runs (lent (i * train_bytes) train_bytes c.loop-i.runs)) (sym same));
    }

pub returns : goal.returns
unfolding run_table run_counts
returns c =
    let b = c.args.b in
    let v = c.loop-i.invariant in
    let trains : length b.trains ≡ 8 = search (rules, length-of-map) in
    let room : b.train_count ≤ length b.trains = omega (arith, c.requires.0.trains) in
    let e : c.loop-i.i ≡ length (held b).trains = omega (arith, trains-counted b room, length-take b.train_count b.trains) in
    (rw e at v.counted, rw e at v.filled)
