-- The clauses of family H, read off the bytes that say which segments meet at which node, three bytes a clause. Assumes nothing.
use mathlib.Core.Path.{◌≡◌, ap, ap₂, ◌∙◌}
use Prim.Native.Nat.{ℕ, ◌+◌, ◌≤◌}
use native.Mathlib.Nat.{add_assoc}
use native.Mathlib.Omega.{arith}
use mathlib.Core.List.{List, [], ◌∷◌, ◌++◌}
use lib.ListN.{length, get_or}
use lib.IntN.{ℤ}
use Rattle.spec.specs.Lists.{Bytes, each, one}
use Rattle.spec.specs.Instance.{Instance}
use Rattle.spec.specs.Formula.{Clause, is, not', border_var, words_of, clauses_h}
use Rattle.demands.proofs.Words.{words_append}
use Rattle.tables.specs.Meets.{meet_table}
use Rattle.tables.proofs.Triples.{triples, triples-next, triples-end, triples-meet}

-- the clause of two segments that meet at a node; the claims lie from x on
abbrev pub meeting : ℕ → ℕ → ℕ → ℕ → Clause
meeting x n s u = not' (x + s) ∷ is n ∷ one (is (x + u))

module _ (x : ℕ) where
  pub meeting-same : {n n' s s' u u' : ℕ} → n ≡ n' → s ≡ s' → u ≡ u' → words_of (one (meeting x n s u)) ≡ words_of (one (meeting x n' s' u'))
  meeting-same {n} {n'} {s} {s'} {u} e f g =
      ap₂ (λ (m t : ℕ). words_of (one (meeting x m t u))) e f ∙ ap (λ (v : ℕ). words_of (one (meeting x n' s' v))) g

  abbrev pub clauses_of : Bytes → List Clause
  clauses_of bytes = triples (meeting x) bytes

  -- ---- clause by clause

  -- what stands from a byte on
  abbrev pub behind : Bytes → List ℤ
  behind bytes = words_of (clauses_of bytes)

  pub behind-next : (three rest : Bytes) → length three ≡ 3
      → behind (three ++ rest) ≡ words_of (one (meeting x (get_or three 0 0) (get_or three 1 0) (get_or three 2 0))) ++ behind rest
  behind-next (n ∷ s ∷ u ∷ []) rest e = ap words_of (triples-next (meeting x) n s u rest) ∙ words_append (one (meeting x n s u)) (clauses_of rest)
  behind-next [] rest e = absurd (cc)
  behind-next (n ∷ []) rest e = absurd (omega arith)
  behind-next (n ∷ s ∷ []) rest e = absurd (omega arith)
  behind-next (n ∷ s ∷ u ∷ v ∷ more) rest e = absurd (omega arith)

  pub behind-end : (bytes : Bytes) → length bytes ≤ 2 → behind bytes ≡ []
  unfolding words_of each
  behind-end bytes h = ap words_of (triples-end (meeting x) bytes h)

-- all bytes are the clauses of family H
pub behind-all : (I : Instance) (i x n : ℕ) (meets : Bytes) → n ≡ I.runs i → meets ≡ meet_table I
    → behind (x + (n + 1)) meets ≡ words_of (clauses_h I i x)
unfolding clauses_h border_var
behind-all I i x n meets e f =
    ap₂ (λ (y : ℕ) (bytes : Bytes). words_of (clauses_of (x + (y + 1)) bytes)) e f
    ∙ ap words_of (triples-meet (meeting (x + (I.runs i + 1))) I)
    ∙ simp add_assoc
