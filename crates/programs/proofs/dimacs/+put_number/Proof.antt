-- `dimacs::put_number` meets its contract; the number falls at each call of itself. Assumes nothing.
use mathlib.Core.Path.{◌≡◌, sym, ap, ◌∙◌}
use Prim.Native.Nat.{ℕ, ◌+◌, ◌/◌, ◌%◌, ◌≤◌, ◌<◌}
use mathlib.Core.List.{◌++◌}
use native.Mathlib.Omega.{arith}
use borrow.Fn.Kinds.{In}
use borrow.Fn.PlainCycle.{Measures, is, falls, and}
use Rattle.spec.specs.Lists.{one}
use Rattle.spec.specs.Numbers.{decimal}
use Rattle.laws.proofs.Digits.{decimal-one, decimal-more, decimal-twenty}
use Rattle.laws.proofs.Stores.{Stored, stored, stored-none, stored-byte, stored_same, stored-length}
use Rattle.programs.proofs.dimacs.put_number.Reads as put-number
use Rattle.programs.proofs.dimacs.put_number.Kinds as put-number-kinds
use Rattle.programs.proofs.dimacs.+put_number.Lts-put_number as lts
use Rattle.frames.proofs.bytes.put.Reads as put_reads
use Rattle.programs.proofs.dimacs.+put_number.{statement}
use Rattle.programs.proofs.dimacs.+put_number.Tie.{close}

abbrev μ-put-number : Measures 1 put-number-kinds.ps ℕ
μ-put-number κs a = a.1.1.0

-- what `put_number` is given at the measure t, what a call of it asks below t, and the contracts of all that it calls
abbrev given : ℕ → In 1 put-number-kinds.ps
given t = and 1 put-number-kinds.ps (is 1 put-number-kinds.ps μ-put-number t) put-number.Pre

abbrev below : ℕ → In 1 put-number-kinds.ps
below t = and 1 put-number-kinds.ps (falls 1 put-number-kinds.ps ◌<◌ μ-put-number t) put-number.Pre

abbrev calls : ℕ → lts.Claims
calls t = (put_reads.Asked, put_reads.Learnt, below t, put-number.Post)

cast-last : (t : ℕ) → lts.Need-overflow_cast-last (calls t) (given t) put-number.Post
cast-last t c = omega arith

add-last : (t : ℕ) → lts.Need-overflow_add-last (calls t) (given t) put-number.Post
add-last t c = omega arith

put-requires : (t : ℕ) → lts.Need-put-requires (calls t) (given t) put-number.Post
put-requires t c κs = tt

add-result : (t : ℕ) → lts.Need-overflow_add-result (calls t) (given t) put-number.Post
add-result t c = omega arith

-- a number below ten
module _ (t : ℕ) (c : lts.After-slice_known-then-n-lt10-1 (calls t) (given t) put-number.Post) where
  abbrev a : lts.Args (calls t) (given t) put-number.Post c.lifetimes
  a = c.args

  single : Stored a.buf.now a.at (decimal a.n) c.put.new.buf (a.at + 1)
  single =
      let small : a.n < 10 = omega arith in
      let e : a.n % 10 + 48 ≡ 48 + a.n = omega arith in
      stored_same (stored-byte (stored-none a.buf.now a.at) _ c.put.ensures)
      (ap one e ∙ sym (decimal-one a.n small))

same_length : (t : ℕ) → lts.Need-shape_of-buf-then-n-lt10 (calls t) (given t) put-number.Post
same_length t c = stored-length (single t c)

returns : (t : ℕ) → lts.Need-returns-then-n-lt10 (calls t) (given t) put-number.Post
returns t c = ((single t c).ends, omega arith, (single t c).bytes)

put-number-requires : (t : ℕ) → lts.Need-put_number-end-requires (calls t) (given t) put-number.Post
put-number-requires t c κs = (omega arith, omega arith)

put-requires-2 : (t : ℕ) → lts.Need-put-requires-2 (calls t) (given t) put-number.Post
put-requires-2 t c κs = tt

add-result-2 : (t : ℕ) → lts.Need-overflow_add-result-2 (calls t) (given t) put-number.Post
add-result-2 t c = omega arith

-- a longer one: its last figure behind those of the tenth
module _ (t : ℕ) (c : lts.After-slice_known-3-1 (calls t) (given t) put-number.Post) where
  abbrev tenth : lts.After-put_number-end (calls t) (given t) put-number.Post
  tenth = c.before.before.before.before.before.before

  abbrev args : lts.Args (calls t) (given t) put-number.Post tenth.lifetimes
  args = tenth.args

  whole : Stored args.buf.now args.at (decimal args.n) c.put-2.new.buf
      (tenth.put_number-end.result + 1)
  whole =
      let k = tenth.put_number-end.ensures in
      let front = stored args.buf.now args.at (decimal (args.n / 10)) k.0 k.2 in
      let large : 10 ≤ args.n = omega arith in
      let e : args.n % 10 + 48 ≡ 48 + args.n % 10 = omega arith in
      stored_same (stored-byte front _ c.put-2.ensures)
      (ap (λ (x : ℕ). decimal (args.n / 10) ++ one x) e ∙ sym (decimal-more args.n large))

same-length-2 : (t : ℕ) → lts.Need-shape_of-buf (calls t) (given t) put-number.Post
same-length-2 t c = stored-length (whole t c)

returns-2 : (t : ℕ) → lts.Need-returns (calls t) (given t) put-number.Post
returns-2 t c =
    ((whole t c).ends, omega (arith, (whole t c).ends, decimal-twenty (args t c).n (omega arith)), (whole t c).bytes)

pub +put_number_spec : {M : Type 1} → statement M
+put_number_spec =
    close μ-put-number λ t. lts.spec (calls t) (given t) put-number.Post
    (cast-last t)
    (add-last t)
    (put-requires t)
    (add-result t)
    (same_length t)
    (returns t)
    (put-number-requires t)
    (put-requires-2 t)
    (add-result-2 t)
    (same-length-2 t)
    (returns-2 t)
