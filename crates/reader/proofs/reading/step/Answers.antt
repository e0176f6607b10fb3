-- The frame's tests in a row, then its content's answer. Assumes nothing.
use Rattle.std.proofs.Common.{◌≡◌, Some, None, true, false, rules, sym, ap, ◌∙◌, arith}
use Rattle.std.proofs.lemmas.Result.{err_from_is_err_and}
use denote.Enum.Bare.{same_true, same_false}
use Rattle.model.specs.declared.refusals.Refusal.TheVariants.{CutFrame, UnknownKind}
use Rattle.spec.specs.Answers.{told}
use Rattle.frames.specs.Framed.{format_of}
use Rattle.frames.specs.contracts.Kind.{the_type}
use Rattle.frames.specs.declared.Kind.TheVariants.{End}
use Rattle.reader.proofs.Whole.{cut-here, unknown-here, disorder-here, refused-here, ends-here, goes-here, growing-here, whole_room}
use Rattle.reader.proofs.reading.step.Goals as goal

pub returns-in_err-frame : goal.returns-in_err-frame
returns-in_err-frame c =
    let p = err_from_is_err_and c.from_residual.result c.from_residual.ensures.1 in
    let cut : c.frame_at.result ≡ None = grind arith in
    let e : p.0 ≡ CutFrame = grind arith in
    rw (p.1, e) (cut-here _ _ _ c.args.s.now c.args.r.at (sym c.frame_at.ensures.found ∙ cut))

pub overflow_add-end : goal.overflow_add-end
overflow_add-end c =
    let w : c.frame_at.result ≡ Some c.in_ok-frame.frame = grind arith in
    let room = whole_room c.args.s.now c.args.r.at c.requires.2 (sym c.frame_at.ensures.found ∙ w) in
    omega arith

pub overflow_sub-s : goal.overflow_sub-s
overflow_sub-s c =
    let w : c.frame_at.result ≡ Some c.in_ok-frame.frame = grind arith in
    let room = whole_room c.args.s.now c.args.r.at c.requires.2 (sym c.frame_at.ensures.found ∙ w) in
    omega arith

pub returns-in_err-kind : goal.returns-in_err-kind
returns-in_err-kind c =
    let p = err_from_is_err_and c.from_residual-in_err-kind.result c.from_residual-in_err-kind.ensures.1 in
    let w : c.frame_at.result ≡ Some c.in_ok-frame.frame = grind arith in
    let none : c.kind_of.result ≡ None = grind arith in
    let e : p.0 ≡ UnknownKind = grind arith in
    rw (p.1, e) (unknown-here _ _ _ c.args.s.now c.args.r.at (sym c.frame_at.ensures.found ∙ w) (sym none ∙ c.kind_of.ensures))

pub returns-then-out_of_order : goal.returns-then-out_of_order
returns-then-out_of_order c =
    let w : c.frame_at.result ≡ Some c.in_ok-frame.frame = grind arith in
    let k : c.kind_of.result ≡ Some c.in_ok-kind.kind = grind arith in
    disorder-here _ _ _ _ _ (sym c.frame_at.ensures.found ∙ w) (sym k ∙ c.kind_of.ensures) (sym c.out_of_order.ensures ∙ c.if-out_of_order.true)

pub add_frame-requires : goal.add_frame-requires
add_frame-requires c =
    let w : c.frame_at.result ≡ Some c.in_ok-frame.frame = grind arith in
    let k : c.kind_of.result ≡ Some c.in_ok-kind.kind = grind arith in
    let room = whole_room c.args.s.now c.args.r.at c.requires.2 (sym c.frame_at.ensures.found ∙ w) in (
      c.requires.0,
      omega arith,
      omega arith,
      growing-here _ _ c.requires.1 (sym k ∙ c.kind_of.ensures) (sym c.out_of_order.ensures ∙ c.if-out_of_order.false),
    )

pub returns-in_err-book : goal.returns-in_err-book
returns-in_err-book c =
    let p = err_from_is_err_and c.from_residual-in_err-book.result c.from_residual-in_err-book.ensures.1 in
    let w : c.frame_at.result ≡ Some c.in_ok-frame.frame = grind arith in
    let k : c.kind_of.result ≡ Some c.in_ok-kind.kind = grind arith in
    rw (p.1, p.2)
    (refused-here _ _ _ _ _ (sym c.frame_at.ensures.found ∙ w) (sym k ∙ c.kind_of.ensures) (sym c.out_of_order.ensures ∙ c.if-out_of_order.false)
    c.add_frame.ensures (ap told c.in_err-book.was))

pub returns-then-eq : goal.returns-then-eq
returns-then-eq c =
    let w : c.frame_at.result ≡ Some c.in_ok-frame.frame = grind arith in
    let k : c.kind_of.result ≡ Some c.in_ok-kind.kind = grind arith in
    ends-here _ _ _ _ _ (sym c.frame_at.ensures.found ∙ w) (sym k ∙ c.kind_of.ensures) (sym c.out_of_order.ensures ∙ c.if-out_of_order.false)
    c.add_frame.ensures (ap told c.in_ok-book.was) (same_true the_type (search rules) _ _ (sym c.if-eq.ensures))

pub returns : goal.returns
returns c =
    let w : c.frame_at.result ≡ Some c.in_ok-frame.frame = grind arith in
    let k : c.kind_of.result ≡ Some c.in_ok-kind.kind = grind arith in
    goes-here _ _ _ _ _ (sym c.frame_at.ensures.found ∙ w) (sym k ∙ c.kind_of.ensures) (sym c.out_of_order.ensures ∙ c.if-out_of_order.false)
    c.add_frame.ensures (ap told c.in_ok-book.was) (same_false the_type _ _ (sym c.if-eq.ensures)) c.rank.ensures
