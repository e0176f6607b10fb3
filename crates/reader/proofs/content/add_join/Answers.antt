-- Each answer is the one of the table of faults, by the tests that led there; and the struct with one more entry is the one of the
-- longer book. Assumes nothing.
use Rattle.std.proofs.Common.{◌≡◌, ℕ, Bool, get_or, sym, ap, ◌∙◌, arith}
use Rattle.spec.specs.Lists.{Bytes}
use Rattle.spec.specs.Frames.{join_kind}
use Rattle.spec.specs.Book.{Book, Join, joined}
use Rattle.spec.specs.Read.{join_fits, join_repeats, join_in}
use Rattle.spec.specs.Held.{held}
use Rattle.reader.proofs.Packing.{joins-counted, put-join, refuses, accepts}
use Rattle.reader.proofs.Tables.{join-full, join-wrong, join-again, join-fine, join-read}
use Rattle.reader.proofs.content.add_join.Goals as goal

-- the join that the payload holds
abbrev made : Bytes → Join
made p = record { node = get_or p 0 0; left = get_or p 1 0; right = get_or p 2 0 }

-- whether it fits, and whether it stands there already
module _ (b : Book) (p : Bytes) (read : made p ≡ join_in p) {r t : Bool} where
  fits-is : r ≡ join_fits b (made p) → r ≡ t → join_fits b (join_in p) ≡ t
  fits-is f g = sym (ap (join_fits b) read) ∙ sym f ∙ g

  again-is : {n i j : ℕ} → n ≡ get_or p 0 0 → i ≡ get_or p 1 0 → j ≡ get_or p 2 0 → r ≡ joined b n i j → r ≡ t
      → join_repeats b.joins (join_in p) ≡ t
  unfolding join_repeats joined
  again-is d e f g h = sym (ap (join_repeats b.joins) read) ∙ sym (rw (d, e, f) at g) ∙ h

pub returns-then-at-ge-MAX_JOINS : goal.returns-then-at-ge-MAX_JOINS
returns-then-at-ge-MAX_JOINS c =
    let n = joins-counted c.requires.0 in
    λ f. refuses f join_kind _ _ (join-full _ _ _ (omega arith))

pub returns-then-not-join_fits : goal.returns-then-not-join_fits
returns-then-not-join_fits c =
    let n = joins-counted c.requires.0 in
    let r = join-read c.args.p.now c.requires.1 in
    λ f. refuses f join_kind _ _ (join-wrong _ _ _ (omega arith) (fits-is _ _ r c.join_fits.ensures c.if-not-join_fits.true))

pub returns-then-joined : goal.returns-then-joined
returns-then-joined c =
    let n = joins-counted c.requires.0 in
    let r = join-read c.args.p.now c.requires.1 in
    λ f. refuses f join_kind _ _
    (join-again _ _ _ (omega arith) (fits-is _ _ r c.join_fits.ensures c.if-not-join_fits.false) (again-is _ _ r c.from.ensures c.from-2.ensures c.from-3.ensures c.joined.ensures c.if-joined.true))

pub returns : goal.returns
returns c =
    let n = joins-counted c.requires.0 in
    let r = join-read c.args.p.now c.requires.1 in
    λ f. accepts f join_kind _ _
    (join-fine _ _ _ (omega arith) (fits-is _ _ r c.join_fits.ensures c.if-not-join_fits.false) (again-is _ _ r c.from.ensures c.from-2.ensures c.from-3.ensures c.joined.ensures c.if-joined.false))
    (put-join _ c.requires.0 f _ _ r (omega arith))
