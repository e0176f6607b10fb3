-- `cells::head_of` meets its contract: as many digits as the interval has, and blanks ahead of them. Assumes nothing.
use borrow.Author.Rules.{rules}
use native.Mathlib.Omega.{arith}
use mathlib.Core.Path.{◌≡◌, sym, ap, ap₂, ◌∙◌}
use mathlib.Core.List.{◌∷◌, ◌++◌}
use Prim.Native.Nat.{ℕ, ◌+◌, ◌-◌, ◌/◌, ◌%◌, ◌≤◌, ◌<◌}
use lib.ListN.{length, replicate}
use Rattle.spec.specs.Lists.{Bytes, one}
use Rattle.spec.specs.Numbers.{decimal, aligned}
use Rattle.laws.proofs.Digits.{decimal-one, decimal-more}
use Rattle.graph.proofs.cells.head_of.Statement.{statement}
use Rattle.graph.proofs.cells.head_of.Tie as tie

-- a number's digits behind blanks, in three bytes
abbrev behind : Bytes → Bytes
behind s = replicate (3 - length s) 32 ++ s

module _ (n : ℕ) where
  abbrev ones : ℕ
  ones = 48 + n % 10

  abbrev tens : ℕ
  tens = 48 + n / 10 % 10

  decimal-two : 10 ≤ n → n < 100 → decimal n ≡ tens ∷ one ones
  decimal-two h l =
      let e : 48 + n / 10 ≡ tens = omega arith in
      decimal-more n h ∙ ap (λ (s : Bytes). s ++ one ones) (decimal-one (n / 10) (omega arith) ∙ ap one e)

  decimal-three : 100 ≤ n → n < 1000 → decimal n ≡ (48 + n / 100 % 10) ∷ tens ∷ one ones
  decimal-three h l =
      let e : 48 + n / 10 / 10 ≡ 48 + n / 100 % 10 = omega arith in
      decimal-more n (omega arith)
      ∙ ap (λ (s : Bytes). s ++ one ones)
      (decimal-more (n / 10) (omega arith) ∙ ap (λ (s : Bytes). s ++ one tens) (decimal-one (n / 10 / 10) (omega arith) ∙ ap one e))

  aligned-one : n < 10 → aligned 3 n ≡ 32 ∷ 32 ∷ one ones
  unfolding aligned
  aligned-one h = let e : 48 + n ≡ ones = omega arith in ap behind (decimal-one n h ∙ ap one e)

  aligned-two : 10 ≤ n → n < 100 → aligned 3 n ≡ 32 ∷ tens ∷ one ones
  unfolding aligned
  aligned-two h l = ap behind (decimal-two h l)

  aligned-three : 100 ≤ n → n < 1000 → aligned 3 n ≡ (48 + n / 100 % 10) ∷ tens ∷ one ones
  unfolding aligned
  aligned-three h l = ap behind (decimal-three h l)

returns : tie.Need-returns-then-interval-lt10
returns c =
    let n = c.args.interval in
    ap (λ (s : Bytes). s ++ one 32) (ap (λ (x : ℕ). 32 ∷ 32 ∷ one x) c.digit-ones.ensures ∙ sym (aligned-one n c.if-interval-lt10.true))

returns-2 : tie.Need-returns-then-interval-lt100
returns-2 c =
    let n = c.args.interval in
    let h = c.if-interval-lt10.false in
    ap (λ (s : Bytes). s ++ one 32)
    (ap₂ (λ (x y : ℕ). 32 ∷ x ∷ one y) c.digit-tens.ensures c.digit-ones.ensures
    ∙ sym (aligned-two n h c.if-interval-lt100.true))

returns-3 : tie.Need-returns
returns-3 c =
    let s = c.before.before.before.before.before in
    let n = s.args.interval in
    let digits : c.digit-hundreds.result ∷ c.digit-tens.result ∷ one c.digit-ones.result ≡ aligned 3 n =
    rw (c.digit-hundreds.ensures, c.digit-tens.ensures, c.digit-ones.ensures)
    (sym (aligned-three n c.if-interval-lt100.false s.requires)) in
    ap (λ (s : Bytes). s ++ one 32) digits

pub head_of_spec : {M : Type 1} → statement M
head_of_spec =
    tie.close
    (tie.spec (λ c κs. search rules) returns (λ c κs. search rules) returns-2 (λ c κs. search rules) returns-3)
