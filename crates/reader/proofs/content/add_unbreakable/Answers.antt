-- Each answer is the one of the table of faults, by the tests that led there; the book stays as it is. Assumes nothing.
use Rattle.std.proofs.Common.{◌≡◌, ℕ, Bool, get_or, length, sym, ap, ◌∙◌, arith}
use Rattle.laws.proofs.Numbers.{field-one}
use Rattle.spec.specs.Lists.{Bytes}
use Rattle.spec.specs.Numbers.{field}
use Rattle.spec.specs.Frames.{unbreakable_kind}
use Rattle.spec.specs.Book.{Book}
use Rattle.spec.specs.Read.{some_has, may_divide}
use Rattle.reader.proofs.Packing.{put-nothing, refuses, accepts}
use Rattle.reader.proofs.Tables.{unbreakable-wrong, unbreakable-divided, unbreakable-fine}
use Rattle.reader.proofs.content.add_unbreakable.Goals as goal

-- the TTD is the payload's byte
module _ (b : Book) (p : Bytes) (long : length p ≡ 1) {ttd : ℕ} (is : ttd ≡ get_or p 0 0) {r t : Bool} where
  has-is : r ≡ some_has b ttd → r ≡ t → some_has b (field p 0 1) ≡ t
  has-is e f = ap (some_has b) (field-one p 0 (omega arith) ∙ sym is) ∙ sym e ∙ f

  divide_is : r ≡ may_divide b ttd → r ≡ t → may_divide b (field p 0 1) ≡ t
  divide_is e f = ap (may_divide b) (field-one p 0 (omega arith) ∙ sym is) ∙ sym e ∙ f

pub returns-then-not-some_has : goal.returns-then-not-some_has
returns-then-not-some_has c =
    λ f. refuses f unbreakable_kind _ _ (unbreakable-wrong _ _ _ (has-is _ _ c.requires.2 c.from-ttd.ensures c.some_has.ensures c.if-not-some_has.true))

pub returns-then-may_divide : goal.returns-then-may_divide
returns-then-may_divide c =
    λ f. refuses f unbreakable_kind _ _
    (unbreakable-divided _ _ _ (has-is _ _ c.requires.2 c.from-ttd.ensures c.some_has.ensures c.if-not-some_has.false)
    (divide_is _ _ c.requires.2 c.from-ttd.ensures c.may_divide.ensures c.if-may_divide.true))

pub returns : goal.returns
returns c =
    λ f. accepts f unbreakable_kind _ _
    (unbreakable-fine _ _ _ (has-is _ _ c.requires.2 c.from-ttd.ensures c.some_has.ensures c.if-not-some_has.false)
    (divide_is _ _ c.requires.2 c.from-ttd.ensures c.may_divide.ensures c.if-may_divide.false))
    (put-nothing _ c.requires.0 f _)
