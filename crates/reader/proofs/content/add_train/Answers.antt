-- Each answer is the one of the table of faults, by what the tests' functions answered; and the struct with one more entry is the
-- one of the longer book. Assumes nothing.
use Rattle.std.proofs.Common.{◌≡◌, ℕ, ◌+◌, ◌*◌, ◌≤◌, Bool, true, ◌&&◌, T, eqb, ltb, length, drop, length-drop, sym, ◌∙◌, arith}
use native.Mathlib.Nat.{zero-add}
use Rattle.model.specs.declared.Train.{Train as TrainStruct}
use Rattle.spec.specs.Lists.{Bytes, all}
use Rattle.spec.specs.Runs.{is_path}
use Rattle.spec.specs.Frames.{Format, train_kind, train_fixed}
use Rattle.frames.specs.Framed.{format_of}
use Rattle.spec.specs.Book.{Book, length_in_segments}
use Rattle.spec.specs.Read.{train_fits, reach_fits, place_fits, train_in, max_reach}
use Rattle.spec.specs.Held.{held, held_train}
use Rattle.reader.specs.Added.{NumbersOf}
use Rattle.reader.proofs.Packing.{segments-counted, trains-counted, put-train, refuses, accepts}
use Rattle.reader.proofs.Tables.{train-full, train-wrong, train-far, train-off, train-fine}
use Rattle.reader.proofs.Trains.{train-inside, train-short, length-same, reach-same, place_same, place-length, train-packed}
use Rattle.reader.proofs.content.add_train.Goals as goal

-- the payload's train, by the struct that has its numbers
module _ (F : Format) (b : Book) (p : Bytes) {t : TrainStruct} (n : NumbersOf F p t) where
  -- whether length and speed fit is what `reach_fits` answers
  reach-is : {r k : Bool} → r ≡ reach_fits b (held_train t) → r ≡ k → reach_fits b (train_in F p) ≡ k
  unfolding train_in held_train
  reach-is e f = sym (reach-same b _ _ n.metres n.speed) ∙ sym e ∙ f

  module _ {l fixed : ℕ} (is : l ≡ length_in_segments b (held_train t)) (ends : fixed ≡ 0 + train_fixed F) where
    -- l is its length in segments, and at most 8
    length-is : l ≡ length_in_segments b (train_in F p)
    unfolding train_in held_train
    length-is = is ∙ length-same b _ _ n.metres

    short : reach_fits b (train_in F p) ≡ true → l ≤ max_reach
    short f = rw length-is (train-short _ _ f)

    -- its fixed part ends there
    fixed-is : fixed ≡ train_fixed F
    fixed-is = ends ∙ zero-add _

    inside : train_fits b (train_in F p) ≡ true → T (all (λ d. ltb d (2 * length b.segments)) (drop fixed p))
    inside f = rw (← fixed-is) at (train-inside b F p f)

    -- whether its place fits is what `place_fits` answers
    module _ {r : Bool} (e : r ≡ (eqb (length (drop fixed p)) l && is_path b (drop fixed p))) where
      place_is : {k : Bool} → r ≡ k → place_fits b (train_in F p) ≡ k
      place_is f = sym (place_same b F p l length-is) ∙ sym (rw fixed-is at e) ∙ f

      -- and then its row has l directed segments
      row-length : r ≡ true → length (drop (train_fixed F) p) ≡ l
      row-length f = place-length b F p l (rw fixed-is at e) f

pub returns-then-at-ge-MAX_TRAINS : goal.returns-then-at-ge-MAX_TRAINS
returns-then-at-ge-MAX_TRAINS c =
    let n = trains-counted c.requires.0 in
    refuses _ train_kind _ _ (train-full _ _ _ (omega arith))

pub returns-then-not-train_fits : goal.returns-then-not-train_fits
returns-then-not-train_fits c =
    let n = trains-counted c.requires.0 in
    refuses _ train_kind _ _ (train-wrong _ _ _ (omega arith) (sym c.train_fits.ensures ∙ c.if-not-train_fits.true))

pub returns-then-not-reach_fits : goal.returns-then-not-reach_fits
returns-then-not-reach_fits c =
    let n = trains-counted c.requires.0 in
    refuses _ train_kind _ _
    (train-far _ _ _ (omega arith) (sym c.train_fits.ensures ∙ c.if-not-train_fits.false)
    (reach-is _ _ _ c.train_numbers-t.ensures c.reach_fits.ensures c.if-not-reach_fits.true))

pub place_fits-requires : goal.place_fits-requires
place_fits-requires c =
    let F = format_of c.args.format in
    let n = c.train_numbers-t.ensures in
    let is = c.length_in_segments-l.ensures in
    let ends = c.train_end-fixed.ensures in
    let f = sym c.train_fits.ensures ∙ c.if-not-train_fits.false in
    let g = reach-is F (held c.args.b) c.args.p.now n c.reach_fits.ensures c.if-not-reach_fits.false in (
      c.requires.0.counts,
      omega (arith, ends, c.requires.2),
      short F (held c.args.b) c.args.p.now n is ends g,
      rw (segments-counted c.requires.0) at (inside F (held c.args.b) c.args.p.now n is ends f),
    )

pub returns-then-not-place_fits : goal.returns-then-not-place_fits
returns-then-not-place_fits c =
    let F = format_of c.args.format in
    let b = held c.args.b in
    let p = c.args.p.now in
    let n = c.train_numbers-t.ensures in
    let count = trains-counted c.requires.0 in
    refuses _ train_kind _ _
    (train-off _ _ _ (omega arith) (sym c.train_fits.ensures ∙ c.if-not-train_fits.false)
    (reach-is F b p n c.reach_fits.ensures c.if-not-reach_fits.false)
    (place_is F b p n c.length_in_segments-l.ensures c.train_end-fixed.ensures c.place_fits.ensures c.if-not-place_fits.true))

pub place_of-place-requires : goal.place_of-place-requires
place_of-place-requires c =
    let F = format_of c.args.format in
    let b = held c.args.b in
    let p = c.args.p.now in
    let n = c.train_numbers-t.ensures in
    let is = c.length_in_segments-l.ensures in
    let ends = c.train_end-fixed.ensures in
    let k = short F b p n is ends (reach-is F b p n c.reach_fits.ensures c.if-not-reach_fits.false) in
    let e = row-length F b p n is ends c.place_fits.ensures c.if-not-place_fits.false in
    (omega (arith, ends, c.requires.2), omega (arith, k, e, ends, length-drop (train_fixed F) p))

pub returns : goal.returns
returns c =
    let F = format_of c.args.format in
    let b = held c.args.b in
    let p = c.args.p.now in
    let n = c.train_numbers-t.ensures in
    let is = c.length_in_segments-l.ensures in
    let ends = c.train_end-fixed.ensures in
    let count = trains-counted c.requires.0 in
    accepts _ train_kind _ _
    (train-fine _ _ _ (omega arith) (sym c.train_fits.ensures ∙ c.if-not-train_fits.false)
    (reach-is F b p n c.reach_fits.ensures c.if-not-reach_fits.false)
    (place_is F b p n is ends c.place_fits.ensures c.if-not-place_fits.false))
    (put-train _ c.requires.0 F _ _
    (train-packed F p _ _ _ _ _ n.metres n.speed n.departure
    (sym (row-length F b p n is ends c.place_fits.ensures c.if-not-place_fits.false))
    (rw (fixed-is F b p n is ends) at c.place_of-place.ensures))
    (omega arith))
