-- Each answer is the one of the table of faults, by the tests that led there; and the struct with one more entry is the one of the
-- longer book. Assumes nothing.
use Rattle.std.proofs.Common.{◌≡◌, ℕ, ◌+◌, ◌*◌, ◌<◌, Bool, true, get_or, length, sym, ap, ◌∙◌, arith}
use Rattle.laws.proofs.Tests.{and-iff, ltb_iff, from-true}
use Rattle.spec.specs.Lists.{Bytes}
use Rattle.spec.specs.Numbers.{field}
use Rattle.spec.specs.Frames.{Format, call_kind}
use Rattle.frames.specs.Framed.{format_of}
use Rattle.spec.specs.Book.{Book, Call, calls_of}
use Rattle.spec.specs.Read.{call_fits, call_in}
use Rattle.spec.specs.Held.{held}
use Rattle.reader.specs.Added.{CallsFew}
use Rattle.reader.proofs.Calls.{call-room}
use Rattle.reader.proofs.Packing.{calls-counted, put-call, refuses, accepts}
use Rattle.reader.proofs.Tables.{call-full, call-wrong, call-fine, call-read}
use Rattle.reader.proofs.content.add_call.Goals as goal

-- the call that the payload holds, by the numbers that were read of it
module _ (F : Format) (b : Book) (p : Bytes) (long : length p ≡ 2 + 2 * F.time_width) {w first last : ℕ} (width : w ≡ F.time_width)
    (opens : first ≡ field p 2 F.time_width) (closes : last ≡ field p (2 + w) F.time_width) where
  abbrev made : Call
  made = record { train = get_or p 0 0; segment = get_or p 1 0; first = first; last = last }

  made-is : made ≡ call_in F p
  made-is = call-read p F (omega arith) opens (closes ∙ ap (λ (n : ℕ). field p (2 + n) F.time_width) width)

  -- how many calls its train has
  few-is : {i n : ℕ} → i ≡ get_or p 0 0 → n ≡ length (calls_of b i) → n ≡ length (calls_of b (call_in F p).train)
  few-is e f = f ∙ ap (λ (i : ℕ). length (calls_of b i)) (e ∙ ap {B = ℕ} (λ k. k.train) made-is)

  -- whether it fits
  fits-is : {r t : Bool} → r ≡ call_fits b made → r ≡ t → call_fits b (call_in F p) ≡ t
  fits-is e f = sym (ap (call_fits b) made-is) ∙ sym e ∙ f

  -- there is room for it
  room : {n : ℕ} → CallsFew b → n ≡ length (calls_of b (call_in F p).train) → n < 4 → call_fits b (call_in F p) ≡ true → length b.calls < 32
  unfolding call_fits
  room few e l f =
      let q = simp and-iff at (from-true f) in
      call-room _ _ few ((ltb_iff _ _).0 q.0.0.0) (rw e at l)

pub returns-then-calls_of-ge-MAX_CALLS : goal.returns-then-calls_of-ge-MAX_CALLS
returns-then-calls_of-ge-MAX_CALLS c =
    let n = few-is (format_of c.args.format) (held c.args.b) c.args.p.now c.requires.2 c.time_width.ensures c.time.ensures.0 c.time-2.ensures.0 c.from.ensures c.calls_of.ensures.0 in
    refuses _ call_kind _ _ (call-full _ _ _ (rw n at c.if-calls_of-ge-MAX_CALLS.true))

pub returns-then-not-call_fits : goal.returns-then-not-call_fits
returns-then-not-call_fits c =
    let n = few-is (format_of c.args.format) (held c.args.b) c.args.p.now c.requires.2 c.time_width.ensures c.time.ensures.0 c.time-2.ensures.0 c.from.ensures c.calls_of.ensures.0 in
    let f = fits-is (format_of c.args.format) (held c.args.b) c.args.p.now c.requires.2 c.time_width.ensures c.time.ensures.0 c.time-2.ensures.0 c.call_fits.ensures c.if-not-call_fits.true in
    refuses _ call_kind _ _ (call-wrong _ _ _ (rw n at c.if-calls_of-ge-MAX_CALLS.false) f)

pub bounds-next-at : goal.bounds-next-at
bounds-next-at c =
    let n = few-is (format_of c.args.format) (held c.args.b) c.args.p.now c.requires.2 c.time_width.ensures c.time.ensures.0 c.time-2.ensures.0 c.from.ensures c.calls_of.ensures.0 in
    let f = fits-is (format_of c.args.format) (held c.args.b) c.args.p.now c.requires.2 c.time_width.ensures c.time.ensures.0 c.time-2.ensures.0 c.call_fits.ensures c.if-not-call_fits.false in
    let r = room (format_of c.args.format) (held c.args.b) c.args.p.now c.requires.2 c.time_width.ensures c.time.ensures.0 c.time-2.ensures.0 c.requires.1 n c.if-calls_of-ge-MAX_CALLS.false f in
    omega (arith, r, calls-counted c.requires.0)

pub returns : goal.returns
returns c =
    let n = few-is (format_of c.args.format) (held c.args.b) c.args.p.now c.requires.2 c.time_width.ensures c.time.ensures.0 c.time-2.ensures.0 c.from.ensures c.calls_of.ensures.0 in
    let f = fits-is (format_of c.args.format) (held c.args.b) c.args.p.now c.requires.2 c.time_width.ensures c.time.ensures.0 c.time-2.ensures.0 c.call_fits.ensures c.if-not-call_fits.false in
    let r = room (format_of c.args.format) (held c.args.b) c.args.p.now c.requires.2 c.time_width.ensures c.time.ensures.0 c.time-2.ensures.0 c.requires.1 n c.if-calls_of-ge-MAX_CALLS.false f in
    accepts _ call_kind _ _ (call-fine _ _ _ (rw n at c.if-calls_of-ge-MAX_CALLS.false) f)
    (put-call _ c.requires.0 _ _ _ (made-is _ (held c.args.b) _ c.requires.2 c.time_width.ensures c.time.ensures.0 c.time-2.ensures.0)
    (omega (arith, r, calls-counted c.requires.0)))
