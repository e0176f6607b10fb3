-- Where a kind's cursor does not end at the payload's end, 4; else the kind's function answers. What the functions ask of the book holds
-- of every book as far as it was read. Assumes nothing.
use Rattle.std.proofs.Common.{◌≡◌, ◌≢◌, ℕ, ◌+◌, ◌*◌, ◌-◌, ◌≤◌, length, take, drop, get_or, eqb, refl, sym, ap, ◌∙◌, arith}
use Rattle.std.proofs.Math.Option.{some}
use Rattle.model.specs.declared.Book.{Book as BookStruct}
use Rattle.spec.specs.Lists.{Bytes, Verdict, refused}
use Rattle.spec.specs.Frames.{Format, train_kind, train_fixed, train_count_at, length_fits}
use Rattle.spec.specs.Held.{held}
use Rattle.frames.specs.declared.Kind.{Kind as KindCase}
use Rattle.frames.specs.Framed.{format_of, kind_in}
use Rattle.reader.specs.Added.{added, Packed}
use Rattle.reader.specs.BookAnswers.{added_found}
use Rattle.reader.proofs.ByKind.{wrong-length, right-length, elsewhere, there, sized, train-long, train-short, train-wrong, train-right, ends-right, no-head, growing-metres, growing-calls, growing-segments}
use Rattle.reader.proofs.reading.add_frame.Goals as goal
use Rattle.reader.proofs.reading.add_frame.Goals.{then-end-fixed-via-then-end-fixed, then-end-fixed-via-else-end-fixed+then-end-fixed-2}

-- a frame of a kind of n bytes, whose cursor ends at `to`
module _ (F : Format) (b : BookStruct) (w : Packed b) (s : Bytes) (at end : ℕ) (order : at ≤ end) (inside : end ≤ length s) {kind case : KindCase} (is : kind ≡ case) where
  -- the answer for the case is the one for the kind
  by_case : {r : Verdict BookStruct} → r ≡ added_found F (held b) (some (kind_in case)) (take (end - at) (drop at s))
      → r ≡ added_found F (held b) (some (kind_in kind)) (take (end - at) (drop at s))
  by_case e = e ∙ sym (ap (λ k. added_found F (held b) (some (kind_in k)) (take (end - at) (drop at s))) is)

  module _ (n : ℕ) (size : (p : Bytes) → length_fits F (kind_in case) p ≡ eqb (length p) n) (to : ℕ) (ends : to ≡ at + n) where
    wrong : to ≢ end → refused 4 0 ≡ added_found F (held b) (some (kind_in kind)) (take (end - at) (drop at s))
    wrong apart = by_case (elsewhere F b w s at end inside (kind_in case) n to (size _) ends order apart)

    right : to ≡ end → {r : Verdict BookStruct} → r ≡ added F (kind_in case) (held b) (take (to - at) (drop at s))
        → r ≡ added_found F (held b) (some (kind_in kind)) (take (end - at) (drop at s))
    right same e = by_case (there F b w s at end inside (kind_in case) n to (size _) ends order same e)

    long : to ≡ end → length (take (to - at) (drop at s)) ≡ n
    long same = sized F b w s at end inside (kind_in case) n to (size _) ends order same

pub returns-then-to-end : goal.returns-then-to-end
unfolding length_fits
returns-then-to-end c =
    wrong (format_of c.args.format) c.args.b c.requires.0 c.args.s.now c.args.at c.args.end c.requires.1 c.requires.2
    c.in-Head.is (4 + (format_of c.args.format).time_width) (λ p. refl) c.head_end-to.result c.head_end-to.ensures c.if-to-end.true

pub returns-else-to-end : goal.returns-else-to-end
unfolding length_fits
returns-else-to-end c =
    right (format_of c.args.format) c.args.b c.requires.0 c.args.s.now c.args.at c.args.end c.requires.1 c.requires.2
    c.in-Head.is (4 + (format_of c.args.format).time_width) (λ p. refl) c.head_end-to.result c.head_end-to.ensures c.if-to-end.false c.add_head.ensures

pub returns-then-to-end-2 : goal.returns-then-to-end-2
unfolding length_fits
returns-then-to-end-2 c =
    wrong (format_of c.args.format) c.args.b c.requires.0 c.args.s.now c.args.at c.args.end c.requires.1 c.requires.2
    c.in-Node.is (1) (λ p. refl) c.cursor-to.result.end c.cursor-to.ensures.1 c.if-to-end-2.true

pub returns-else-to-end-2 : goal.returns-else-to-end-2
unfolding length_fits
returns-else-to-end-2 c =
    right (format_of c.args.format) c.args.b c.requires.0 c.args.s.now c.args.at c.args.end c.requires.1 c.requires.2
    c.in-Node.is (1) (λ p. refl) c.cursor-to.result.end c.cursor-to.ensures.1 c.if-to-end-2.false (c.add_node.ensures _)

pub returns-then-to-end-3 : goal.returns-then-to-end-3
unfolding length_fits
returns-then-to-end-3 c =
    wrong (format_of c.args.format) c.args.b c.requires.0 c.args.s.now c.args.at c.args.end c.requires.1 c.requires.2
    c.in-Segment.is (3) (λ p. refl) c.cursor-to-in-Segment.result.end c.cursor-to-in-Segment.ensures.1 c.if-to-end-3.true

pub returns-else-to-end-3 : goal.returns-else-to-end-3
unfolding length_fits
returns-else-to-end-3 c =
    right (format_of c.args.format) c.args.b c.requires.0 c.args.s.now c.args.at c.args.end c.requires.1 c.requires.2
    c.in-Segment.is (3) (λ p. refl) c.cursor-to-in-Segment.result.end c.cursor-to-in-Segment.ensures.1 c.if-to-end-3.false (c.add_segment.ensures _)

pub returns-then-to-end-4 : goal.returns-then-to-end-4
unfolding length_fits
returns-then-to-end-4 c =
    wrong (format_of c.args.format) c.args.b c.requires.0 c.args.s.now c.args.at c.args.end c.requires.1 c.requires.2
    c.in-Join.is (3) (λ p. refl) c.cursor-to-in-Join.result.end c.cursor-to-in-Join.ensures.1 c.if-to-end-4.true

pub returns-else-to-end-4 : goal.returns-else-to-end-4
unfolding length_fits
returns-else-to-end-4 c =
    right (format_of c.args.format) c.args.b c.requires.0 c.args.s.now c.args.at c.args.end c.requires.1 c.requires.2
    c.in-Join.is (3) (λ p. refl) c.cursor-to-in-Join.result.end c.cursor-to-in-Join.ensures.1 c.if-to-end-4.false (c.add_join.ensures _)

pub returns-then-to-end-5 : goal.returns-then-to-end-5
unfolding length_fits
returns-then-to-end-5 c =
    wrong (format_of c.args.format) c.args.b c.requires.0 c.args.s.now c.args.at c.args.end c.requires.1 c.requires.2
    c.in-Call.is (2 + 2 * (format_of c.args.format).time_width) (λ p. refl) c.call_end-to.result c.call_end-to.ensures c.if-to-end-5.true

pub returns-else-to-end-5 : goal.returns-else-to-end-5
unfolding length_fits
returns-else-to-end-5 c =
    right (format_of c.args.format) c.args.b c.requires.0 c.args.s.now c.args.at c.args.end c.requires.1 c.requires.2
    c.in-Call.is (2 + 2 * (format_of c.args.format).time_width) (λ p. refl) c.call_end-to.result c.call_end-to.ensures c.if-to-end-5.false c.add_call.ensures

pub returns-then-to-end-6 : goal.returns-then-to-end-6
unfolding length_fits
returns-then-to-end-6 c =
    wrong (format_of c.args.format) c.args.b c.requires.0 c.args.s.now c.args.at c.args.end c.requires.1 c.requires.2
    c.in-Unbreakable.is (1) (λ p. refl) c.cursor-to-in-Unbreakable.result.end c.cursor-to-in-Unbreakable.ensures.1 c.if-to-end-6.true

pub returns-else-to-end-6 : goal.returns-else-to-end-6
unfolding length_fits
returns-else-to-end-6 c =
    right (format_of c.args.format) c.args.b c.requires.0 c.args.s.now c.args.at c.args.end c.requires.1 c.requires.2
    c.in-Unbreakable.is (1) (λ p. refl) c.cursor-to-in-Unbreakable.result.end c.cursor-to-in-Unbreakable.ensures.1 c.if-to-end-6.false (c.add_unbreakable.ensures _)

pub add_call-requires : goal.add_call-requires
unfolding length_fits
add_call-requires c = (
  c.requires.0,
  growing-calls _ (c.requires.3 (no-head c.in-Call.is (λ e. omega arith))),
  long (format_of c.args.format) c.args.b c.requires.0 c.args.s.now c.args.at c.args.end c.requires.1 c.requires.2
      c.in-Call.is (2 + 2 * (format_of c.args.format).time_width) (λ p. refl) c.call_end-to.result c.call_end-to.ensures c.if-to-end-5.false,
)

pub add_unbreakable-requires : goal.add_unbreakable-requires
unfolding length_fits
add_unbreakable-requires c = (
  c.requires.0,
  growing-segments _ (c.requires.3 (no-head c.in-Unbreakable.is (λ e. omega arith))),
  long (format_of c.args.format) c.args.b c.requires.0 c.args.s.now c.args.at c.args.end c.requires.1 c.requires.2
      c.in-Unbreakable.is (1) (λ p. refl) c.cursor-to-in-Unbreakable.result.end c.cursor-to-in-Unbreakable.ensures.1 c.if-to-end-6.false,
)

-- a Train, whose count is the last byte of the fixed part
count_at : (F : Format) (s : Bytes) (at : ℕ) {fixed n : ℕ} → fixed ≡ at + train_fixed F → n ≡ get_or s (fixed - 1) 0 → n ≡ get_or s (at + train_count_at F) 0
count_at F s at f e = e ∙ ap (λ (i : ℕ). get_or s i 0) (omega arith)

pub returns-then-end-fixed : goal.returns-then-end-fixed
returns-then-end-fixed c =
    let F = format_of c.args.format in
    by_case (format_of c.args.format) c.args.b c.requires.0 c.args.s.now c.args.at c.args.end c.requires.1 c.requires.2 c.in-Train.is
    (wrong-length F _ c.requires.0 _ _ _ c.requires.2 train_kind
    (elim c.then-end-fixed.branch [
      | then-end-fixed-via-then-end-fixed w ↦
          train-short F _ c.requires.0 _ _ _ c.requires.2 _ 0 c.train_end-fixed.ensures c.requires.1 w.if-end-fixed.true
      | then-end-fixed-via-else-end-fixed+then-end-fixed-2 w ↦
          train-wrong F _ c.requires.0 _ _ _ c.requires.2 _ _ c.train_end-fixed.ensures c.requires.1 w.if-end-fixed.false
          (count_at F c.args.s.now c.args.at c.train_end-fixed.ensures w.from.ensures) w.if-end-fixed-2.true
    ]))

pub add_train-requires : goal.add_train-requires
unfolding held
add_train-requires c = (
  c.requires.0,
  growing-metres _ (c.requires.3 (no-head c.in-Train.is (λ e. omega arith))),
  train-long (format_of c.args.format) _ c.requires.0 _ _ _ c.requires.2 _ 0 c.train_end-fixed.ensures c.requires.1 c.if-end-fixed.false,
)

pub returns-else-end-fixed-2 : goal.returns-else-end-fixed-2
returns-else-end-fixed-2 c =
    let F = format_of c.args.format in
    by_case (format_of c.args.format) c.args.b c.requires.0 c.args.s.now c.args.at c.args.end c.requires.1 c.requires.2 c.in-Train.is
    (right-length F _ c.requires.0 _ _ _ c.requires.2 train_kind
    (train-right F _ c.requires.0 _ _ _ c.requires.2 _ _ c.train_end-fixed.ensures c.requires.1 c.if-end-fixed.false
    (count_at F c.args.s.now c.args.at c.train_end-fixed.ensures c.from.ensures) c.if-end-fixed-2.false)
    c.add_train.ensures)

pub returns-then-cursor-end : goal.returns-then-cursor-end
unfolding length_fits
returns-then-cursor-end c =
    wrong (format_of c.args.format) c.args.b c.requires.0 c.args.s.now c.args.at c.args.end c.requires.1 c.requires.2
    c.in-End.is 0 (λ p. refl) c.cursor.result.end c.cursor.ensures.1 c.if-cursor-end.true

pub returns-else-cursor-end : goal.returns-else-cursor-end
returns-else-cursor-end c =
    by_case (format_of c.args.format) c.args.b c.requires.0 c.args.s.now c.args.at c.args.end c.requires.1 c.requires.2 c.in-End.is
    (ends-right (format_of c.args.format) _ c.requires.0 _ _ _ c.requires.2 (omega (arith, c.cursor.ensures.1)))
