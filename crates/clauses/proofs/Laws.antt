-- Laws of the walk: one word, a clause, words behind words, and how far the counters are. Assumes nothing.
use mathlib.Core.Path.{◌≡◌, refl, sym, ap, ap₂, ◌∙◌, subst}
use mathlib.Core.Bool.{Bool, true, false, not, ◌||◌}
use Prim.Native.Nat.{ℕ, zero, suc, ◌+◌, ◌≤◌, ◌<◌, min}
use native.Mathlib.Omega.{arith}
use native.Mathlib.Numerals.{add-one}
use mathlib.Core.List.{List, [], ◌∷◌, ◌++◌, append-nil}
use lib.ListN.{length, set, get_or, drop, drop_of_length-le, length-set}
use lib.Seq.{drop-cons}
use lib.IntN.{ℤ, pos, negsuc}
use mir.Syntax.{w32}
use mir.Val.{to_z, of_z}
use mir.Facts.{to_z_pos, to_z-neg}
use lib.Dec.{T, leb}
use denote.MutBor.{MutBor}
use Rattle.laws.proofs.Tests.{nil-of-length, and-iff, leb-iff}
use Rattle.laws.proofs.Rows.{all_cons}
use Rattle.spec.specs.Lists.{Bytes, all, any, each, only, one}
use Rattle.spec.specs.Formula.{Clause, is, not', words_of}
use Rattle.spec.specs.Assignment.{is_true, holds, assigned}
use Rattle.spec.specs.Refutation.{variable_of}
use Rattle.demands.proofs.Meaning.{affirmed, denied'}
use Rattle.clauses.specs.declared.Tally.{Tally}
use Rattle.clauses.specs.declared.Walk.{Walk}
use Rattle.clauses.specs.Walked.{more, start, literal, closed_by, closed, word, walked, stored, Walks, Begins, Passes, Judged, literal_room, most}

-- ---- one word

-- a literal as the machine reads it back from the bits of what computed it
pub is_said : (v : ℕ) (l : ℤ) → v < literal_room → l ≡ is v → to_z w32 (of_z w32 l) ≡ is v
is_said v l h e = ap (λ (z : ℤ). to_z w32 (of_z w32 z)) e ∙ to_z_pos w32 (omega arith)

pub not-said : (v : ℕ) (l : ℤ) → v < literal_room → l ≡ not' v → to_z w32 (of_z w32 l) ≡ not' v
not-said v l h e = ap (λ (z : ℤ). to_z w32 (of_z w32 z)) e ∙ to_z-neg w32 v (omega arith)

pub or-false : (a : Bool) → (a || false) ≡ a
or-false true = refl
or-false false = refl

pub or_assoc : (a b c : Bool) → ((a || b) || c) ≡ (a || (b || c))
or_assoc true b c = refl
or_assoc false b c = refl

-- a word that is no 0 is a literal
pub word-literal : (values : Bytes) (l : ℤ) (w : Tally) → T (leb 1 (variable_of l)) → word values l w ≡ literal values l w
unfolding word variable_of
word-literal values (pos zero) w h = absurd h
word-literal values (pos (suc v)) w h = refl
word-literal values (negsuc v) w h = refl

-- ---- words behind words

pub walked-append : (values : Bytes) (ls ms : List ℤ) (w : Tally) → walked values (ls ++ ms) w ≡ walked values ms (walked values ls w)
unfolding walked
walked-append values [] ms w = refl
walked-append values (l ∷ ls) ms w = walked-append values ls ms (word values l w)

-- a word is one word more
word-words : (values : Bytes) (l : ℤ) (w : Tally) → (word values l w).words ≡ more w.words 1
unfolding word literal closed closed_by
word-words values (pos zero) w = refl
word-words values (pos (suc v)) w = refl
word-words values (negsuc v) w = refl

pub stored-append : (values : Bytes) (ls ms : List ℤ) (w : Tally) (out : List ℤ)
    → stored w.words (ls ++ ms) out ≡ stored (walked values ls w).words ms (stored w.words ls out)
unfolding stored walked
stored-append values [] ms w out = refl
stored-append values (l ∷ ls) ms w out =
    let e = word-words values l w in
    ap (λ (n : ℕ). stored n (ls ++ ms) (set out w.words l)) (sym e)
    ∙ stored-append values ls ms (word values l w) (set out w.words l)
    ∙ ap (λ (n : ℕ). stored (walked values ls (word values l w)).words ms (stored n ls (set out w.words l))) e

-- the output keeps its length
pub length-stored : (at : ℕ) (ls out : List ℤ) → length (stored at ls out) ≡ length out
unfolding stored
length-stored at [] out = refl
length-stored at (l ∷ ls) out = length-stored (more at 1) ls (set out at l) ∙ length-set out at l

module _ {values : Bytes} {ls : List ℤ} {w w' : Tally} {out out' : List ℤ} where
  pub walks-length : Walks values ls w out w' out' → length out' ≡ length out
  walks-length h = ap length h.output ∙ length-stored w.words ls out

  -- words that are the same
  pub walks_same : {ls' : List ℤ} → ls ≡ ls' → Walks values ls w out w' out' → Walks values ls' w out w' out'
  walks_same e h = subst (λ (ms : List ℤ). Walks values ms w out w' out') e h

  -- words behind words
  pub walks-behind : {ms : List ℤ} {w'' : Tally} {out'' : List ℤ} → Walks values ls w out w' out' → Walks values ms w' out' w'' out''
      → Walks values (ls ++ ms) w out w'' out''
  walks-behind {ms = ms} h k = record {
    walk = k.walk ∙ ap (walked values ms) h.walk ∙ sym (walked-append values ls ms w);
    output =
        k.output
        ∙ ap₂ (λ (n : ℕ) (o : List ℤ). stored n ms o) (ap (λ (x : Tally). x.words) h.walk) h.output
        ∙ sym (stored-append values ls ms w out);
  }

pub walks-none : (values : Bytes) (w : Tally) (out : List ℤ) → Walks values [] w out w out
unfolding walked stored
walks-none values w out = record { walk = refl; output = refl }

-- the same of a walk's passing
module _ {ls : List ℤ} {w w' : Walk} where
  pub passes_same : {ls' : List ℤ} → ls ≡ ls' → Passes ls w w' → Passes ls' w w'
  passes_same e h = subst (λ (ms : List ℤ). Passes ms w w') e h

  pub passes-behind : {ms : List ℤ} {w'' : Walk} → Passes ls w w' → Passes ms w' w'' → Passes (ls ++ ms) w w''
  passes-behind {ms} {w''} h k = record {
    same_output = k.same_output ∙ h.same_output;
    same_values = k.same_values ∙ h.same_values;
    walks = walks-behind h.walks
        (subst (λ (values : Bytes). Walks values ms w'.tally w'.out.now w''.tally w''.out.now) h.same_values k.walks);
  }

  -- from the start of a walk
  pub passes-begun : {values : Bytes} {out : MutBor (List ℤ)} → Begins values out w → Passes ls w w'
      → Walks values ls start out.now w'.tally w'.out.now
  passes-begun b h = record {
    walk = rw (← b.same_values, ← b.tally) h.walks.walk;
    output = rw (← b.output, ← b.tally) h.walks.output;
  }

-- no words
pub passes-nothing : {ls : List ℤ} {w : Walk} → ls ≡ [] → Passes ls w w
passes-nothing {w} e = record { same_output = refl; same_values = refl; walks = walks_same (sym e) (walks-none w.values.now w.tally w.out.now) }

-- ---- whole clauses

-- counts that grow twice
pub more-more : (n j k m : ℕ) → j + k ≡ m → more (more n j) k ≡ more n m
unfolding more
more-more n j k m e = omega arith

-- an output without room stays as it is
pub empty-stored : (at : ℕ) (ls out : List ℤ) → length out ≡ 0 → out ≡ stored at ls out
empty-stored at ls out e = nil-of-length out e ∙ sym (nil-of-length (stored at ls out) (length-stored at ls out ∙ e))

-- three words, where the count does not stop
pub stored-three : (at : ℕ) (a b c : ℤ) (rest out : List ℤ) → at + 3 ≤ most
    → stored at (a ∷ b ∷ c ∷ rest) out ≡ stored (at + 3) rest (set (set (set out at a) (at + 1) b) (at + 2) c)
unfolding stored more
stored-three at a b c rest out h =
    let e₁ : min most (at + 1) ≡ at + 1 = omega arith in
    let e₂ : min most (at + 1 + 1) ≡ at + 2 = omega arith in
    let e₃ : min most (at + 2 + 1) ≡ at + 3 = omega arith in
    simp (e₁, e₂, e₃)

-- a literal of a clause is stored
pub stored-next : (ls : Clause) (i at : ℕ) (out : List ℤ) → i < length ls
    → stored at (words_of (one (drop i ls))) out ≡ stored (more at 1) (words_of (one (drop (i + 1) ls))) (set out at (get_or ls i (pos 0)))
unfolding stored words_of each
stored-next ls i at out h = ap (λ (ms : Clause). stored at (words_of (one ms)) out) (drop-cons ls i (pos 0) h ∙ ap (λ (j : ℕ). get_or ls i (pos 0) ∷ drop j ls) (sym (add-one i)))

-- and the 0 behind it
pub stored-last : (ls : Clause) (i at : ℕ) (out : List ℤ) → length ls ≤ i → stored at (words_of (one (drop i ls))) out ≡ set out at (pos 0)
unfolding stored words_of each
stored-last ls i at out h = ap (λ (ms : Clause). stored at (words_of (one ms)) out) (drop_of_length-le ls h)

-- a literal goes on to a longer clause
closed-longer : (values : Bytes) (l : ℤ) (w : Tally) (n : ℕ) (h : Bool) → closed_by (suc n) h w ≡ closed_by n h (literal values l w)
unfolding closed_by literal
closed-longer values l w n h = let e = more-more w.words 1 n (suc n) (omega arith) in simp e

-- a clause, passed at once
pub clause-walked : (values : Bytes) (c : Clause) (w : Tally) (h : Bool) → T (all (λ l. leb 1 (variable_of l)) c)
    → h ≡ (w.holds || holds (assigned values) c) → closed_by (suc (length c)) h w ≡ walked values (c ++ one (pos 0)) w
unfolding walked word closed holds any literal
clause-walked values [] w h p e = ap (λ (t : Bool). closed_by 1 t w) (e ∙ or-false w.holds)
clause-walked values (l ∷ c) w h p e =
    let q = simp (all_cons, and-iff) at p in
    closed-longer values l w (suc (length c)) h
    ∙ clause-walked values c (literal values l w) h q.1 (e ∙ longer)
    ∙ ap (walked values (c ++ one (pos 0))) (sym (word-literal values l w q.0))
  where
    longer : (w.holds || (is_true (assigned values) l || any (is_true (assigned values)) c))
        ≡ ((literal values l w).holds || any (is_true (assigned values)) c)
    longer = sym (or_assoc w.holds (is_true (assigned values) l) (any (is_true (assigned values)) c))

-- literals that a walk judges, one before others
pub judged-same : {values : Bytes} {ls : Clause} {t h : Bool} → t ≡ h → Judged values ls h → Judged values ls t
judged-same e j = record { proper = j.proper; judged = e ∙ j.judged }

module _ {values : Bytes} {ls : Clause} {h : Bool} where
  judged-next : (l : ℤ) → T (leb 1 (variable_of l)) → Judged values ls h → Judged values (l ∷ ls) (is_true (assigned values) l || h)
  unfolding holds any
  judged-next l p j = record { proper = simp (all_cons, and-iff) (p, j.proper); judged = ap (λ (t : Bool). is_true (assigned values) l || t) j.judged }

  pub judged-is : (v : ℕ) → Judged values ls h → Judged values (is v ∷ ls) (assigned values v || h)
  unfolding variable_of
  judged-is v j = judged-same (ap (λ (t : Bool). t || h) (sym (affirmed (assigned values) v))) (judged-next (is v) ((leb-iff _ _).1 (omega arith)) j)

  pub judged-not : (v : ℕ) → Judged values ls h → Judged values (not' v ∷ ls) (not (assigned values v) || h)
  unfolding variable_of
  judged-not v j = judged-same (ap (λ (t : Bool). t || h) (sym (denied' (assigned values) v))) (judged-next (not' v) ((leb-iff _ _).1 (omega arith)) j)

pub judged-none : {values : Bytes} → Judged values [] false
unfolding holds any all
judged-none = record { proper = tt; judged = refl }

-- a literal, passed by a walk
pub passes-literal : {w : Walk} {l : ℤ} {t : Bool} {words : ℕ} {out : List ℤ} → Judged w.values.now (one l) t
    → words ≡ more w.tally.words 1 → out ≡ set w.out.now w.tally.words l
    → Passes (one l) w (record w { out = record w.out { now = out }; tally = record w.tally { words = words; holds = w.tally.holds || t } })
unfolding walked stored literal holds any
passes-literal {w} {l} {t} j n o = record {
  same_output = refl;
  same_values = refl;
  walks = record {
    walk =
        let e : (w.tally.holds || t) ≡ (w.tally.holds || is_true (assigned w.values.now) l) =
        ap (λ (a : Bool). w.tally.holds || a) (j.judged ∙ or-false _) in
        rw (word-literal w.values.now l w.tally (simp (all_cons, and-iff) at j.proper).0) (simp (n, e));
    output = o;
  };
}

-- a clause, passed by a walk
pub passes-clause : {w : Walk} {c : Clause} {t : Bool} {n : ℕ} {tally : Tally} {out : List ℤ} → Judged w.values.now c t → n ≡ length c
    → tally ≡ closed_by (n + 1) (w.tally.holds || t) (record w.tally { holds = w.tally.holds || t }) → out ≡ stored w.tally.words (words_of (one c)) w.out.now
    → Passes (words_of (one c)) w (record w { out = record w.out { now = out }; tally = tally })
unfolding words_of each closed_by
passes-clause {w} {c} {t} {n} j d e o = record {
  same_output = refl;
  same_values = refl;
  walks = record {
    walk =
        e
        ∙ ap (λ (m : ℕ). closed_by m (w.tally.holds || t) w.tally) (ap (λ (k : ℕ). k + 1) d ∙ add-one (length c))
        ∙ clause-walked w.values.now c w.tally _ j.proper (ap (λ (a : Bool). w.tally.holds || a) j.judged)
        ∙ ap (λ (ls : List ℤ). walked w.values.now ls w.tally) (sym (append-nil (c ++ one (pos 0))));
    output = o;
  };
}

-- ---- rows under a test

pub only-true {ℓ} : {A : Type ℓ} {test : Bool} (xs : List A) → test ≡ true → only test xs ≡ xs
unfolding only
only-true xs e = ap (λ (t : Bool). only t xs) e

pub only-false {ℓ} : {A : Type ℓ} {test : Bool} (xs : List A) → test ≡ false → only test xs ≡ []
unfolding only
only-false xs e = ap (λ (t : Bool). only t xs) e

-- the end of a clause
pub passes-close : {w : Walk} {tally : Tally} {out : List ℤ} → tally ≡ closed_by 1 w.tally.holds w.tally → out ≡ set w.out.now w.tally.words (pos 0)
    → Passes (one (pos 0)) w (record w { out = record w.out { now = out }; tally = tally })
unfolding walked stored word closed
passes-close e o = record { same_output = refl; same_values = refl; walks = record { walk = e; output = o } }
