-- Clauses that are stored are kept (`kept_of`), and so is a clause with its 0 behind them (`kept-added`). Assumes nothing.
use mathlib.Core.Path.{◌≡◌, sym, ap, ap₂, ◌∙◌, subst}
use mathlib.Core.Bool.{◌&&◌}
use Prim.Native.Nat.{ℕ, ◌+◌, ◌≤◌, ◌<◌}
use native.Mathlib.Nat.{zero-add}
use native.Mathlib.Numerals.{add-one}
use native.Mathlib.Omega.{arith}
use mathlib.Core.List.{List, [], ◌∷◌, ◌++◌}
use lib.ListN.{length, take, set, length-append}
use lib.Seq.{sets, sets-eq, length-take-le, take_at, take-suc-set}
use lib.IntN.{ℤ, pos}
use lib.Dec.{T, leb}
use Rattle.laws.proofs.Tests.{and-iff, leb-iff, ltb_iff}
use Rattle.laws.proofs.Rows.{all_append, all_one}
use Rattle.spec.specs.Lists.{all, each, one}
use Rattle.spec.specs.Formula.{Clause, words_of}
use Rattle.spec.specs.Refutation.{variable_of, rises_from, literals_fit, clauses_of, in_range}
use Rattle.demands.proofs.Words.{range-proper, words_back, words_append, words-one}
use Rattle.propagation.specs.Kept.{starts_from, Kept}

-- a clause behind clauses begins where their words end
pub starts-append : (at : ℕ) (cs : List Clause) (c : Clause) → starts_from at (cs ++ one c) ≡ starts_from at cs ++ one (at + length (words_of cs))
unfolding starts_from words_of each
starts-append at [] c = let e : at ≡ at + 0 = omega arith in ap (λ (n : ℕ). one n) e
starts-append at (d ∷ cs) c =
    let e : at + (length d + 1) + length (words_of cs) ≡ at + length ((d ++ one (pos 0)) ++ words_of cs) =
    omega (arith, length-append (d ++ one (pos 0)) (words_of cs), length-append d (one (pos 0))) in
    ap (λ (l : List ℕ). at ∷ l)
    (starts-append (at + (length d + 1)) cs c ∙ ap (λ (n : ℕ). starts_from (at + (length d + 1)) cs ++ one n) e)

-- literals that rise are of the variables
rises-ranged : (vars low : ℕ) (c : Clause) → T (rises_from vars low c) → T (all (λ l. leb 1 (variable_of l) && leb (variable_of l) vars) c)
unfolding rises_from all
rises-ranged vars low [] h = tt
rises-ranged vars low (l ∷ c) h =
    let k = simp (and-iff, ltb_iff, leb-iff) at h in
    simp (and-iff, leb-iff) ((omega arith, k.0.1), rises-ranged vars (variable_of l) c k.1)

-- clauses over the variables whose words and places are held are kept
pub kept_of : {vars : ℕ} (cs : List Clause) {words : List ℤ} {starts : List ℕ} → T (in_range vars cs) → words ≡ words_of cs
    → starts ≡ starts_from 0 cs → Kept vars words starts × (clauses_of words ≡ cs)
kept_of {vars} cs {words} r w s =
    let e : clauses_of words ≡ cs = ap clauses_of w ∙ words_back cs (range-proper vars cs r) in (
      record {
        closed = w ∙ ap words_of (sym e);
        starting = s ∙ ap (starts_from 0) (sym e);
        ranged = subst (λ (ds : List Clause). T (in_range vars ds)) (sym e) r;
      },
      e,
    )

-- a clause is stored behind those that are kept
pub kept-added : {vars used count : ℕ} (words : List ℤ) {words' : List ℤ} (starts : List ℕ) {starts' : List ℕ} (c : Clause)
    → Kept vars (take used words) (take count starts) → used ≤ length words → count ≤ length starts → T (literals_fit vars c)
    → used + (length c + 1) ≤ length words → count < length starts → words' ≡ sets words used (c ++ one (pos 0))
    → starts' ≡ set starts count used → Kept vars (take (used + (length c + 1)) words') (take (count + 1) starts')
    × (clauses_of (take (used + (length c + 1)) words') ≡ clauses_of (take used words) ++ one c)
unfolding literals_fit
kept-added {vars} {used} {count} words {words'} starts {starts'} c k hw hs fit room one_more_lem ew es =
    let cs = clauses_of (take used words) in
    let size : length (take used words) ≡ used = length-take-le used words hw in
    let begins : length (words_of cs) ≡ used = ap length (sym k.closed) ∙ size in
    let added : length (c ++ one (pos 0)) ≡ length c + 1 = length-append c (one (pos 0)) in
    let w : take (used + (length c + 1)) words' ≡ words_of (cs ++ one c) =
    ap (take (used + (length c + 1))) (ew ∙ sets-eq (c ++ one (pos 0)) words used (omega arith))
    ∙ take_at (take used words ++ (c ++ one (pos 0))) _ (used + (length c + 1))
    (omega (arith, length-append (take used words) (c ++ one (pos 0))))
    ∙ ap₂ ◌++◌ k.closed (sym (sym (words-one c)))
    ∙ sym (words_append cs (one c)) in
    let s : take (count + 1) starts' ≡ starts_from 0 (cs ++ one c) =
    ap₂ take (add-one count) es
    ∙ take-suc-set starts count used one_more_lem
    ∙ ap₂ (λ (l : List ℕ) (n : ℕ). l ++ one n) k.starting (sym begins ∙ sym (zero-add (length (words_of cs))))
    ∙ sym (starts-append 0 cs c) in
    kept_of (cs ++ one c) (simp (all_append, all_one, and-iff) (k.ranged, rises-ranged vars 0 c fit)) w s
