-- Reading a book: a refusal is given exactly where its condition holds and none before it does (`read-iff`, and from it
-- `refusal-has-reason` and `read-accepted-reason`), and a book that is read is well formed (`read-well-formed`).
-- Assumes nothing.
use mathlib.Core.Path.{◌≡◌, refl, sym, ap, ◌∙◌, subst}
use mathlib.Core.Logic.{◌≢◌, ◌↔◌, ◌⊎◌, inl, inr}
use mathlib.Core.Bool.{Bool, true, false, not, ◌&&◌, not-not}
use mathlib.Core.Option.{Option, none, some}
use Prim.Native.Nat.{ℕ, zero, suc, ◌≤◌, ◌<◌}
use native.Mathlib.Nat.{not-suc-le-zero}
use native.Mathlib.Omega.{arith}
use mathlib.Core.List.{List, [], ◌∷◌}
use lib.ListN.{length}
use lib.Dec.{T, eqb, eqb→eq, T_not}
use Rattle.spec.specs.Lists.{Bytes, all, any, first_fault, Verdict, accepted, refused}
use Rattle.spec.specs.Frames.{Format, book_format, kind_field, behind, cut_short, payload_of, Kind, head_kind, node_kind, segment_kind, join_kind, train_kind, call_kind, unbreakable_kind, end_kind, kind_number, kind_order, find_kind, rank_in, rank}
use Rattle.spec.specs.Book.{Book, no_book}
use Rattle.spec.specs.Read.{Reading, reading_start, is_end, frame_faults, book_faults, past_frame, refuse_or, FrameRead, stop, more, frame_read_at, read_frame, unknown_kind, is_head, out_of_order, kind_faults, add_found, content_faults, add, read_from, read_as, read_book, well_formed, max_intervals}
use Rattle.spec.specs.Reached.{Reached, at_start, behind_head}
pub use Rattle.demands.specs.Reasons.{ReadsTo, start, next, Ends, frame, book, pass}
use Rattle.demands.proofs.Growing.{Growing, growing-parts, growing-of, growing-head, growing-add, growing-whole}
use Rattle.demands.proofs.Faults.{passes, FirstHolds, first-none, clear_first, first_some, holds-first}
use Rattle.laws.proofs.Frames.{length-behind}
use Rattle.laws.proofs.Tests.{and-iff, not_iff, eqb-iff, true_of, denied-of, from-true, from-denied, neither-iff}

-- ---- kinds

-- a kind's place in the order is counted from 1
pub rank-not-zero : (n : ℕ) (ks : List Kind) → rank_in n ks ≢ 0
unfolding rank_in
rank-not-zero n [] = omega arith
rank-not-zero n (k ∷ ks) = go (eqb n (kind_number k))
  where
    go : (b : Bool) → ◌≢◌ {A = ℕ} (elim b [ true ↦ 1 | false ↦ suc (rank_in n ks) ]) 0
    go true = omega arith
    go false = omega arith

-- the kind that is found for a number has that number; where none is found there is none
unfoldable pub Found : ℕ → List Kind → Option Kind → Type 0
Found n ks none = T (not (any (λ k. eqb n (kind_number k)) ks))
Found n ks (some k) = n ≡ kind_number k

-- that is what is found
pub finds-kind : (n : ℕ) (ks : List Kind) → Found n ks (find_kind n ks)
unfolding find_kind Found any
finds-kind n [] = tt
finds-kind n (k ∷ ks) = go (eqb n (kind_number k)) refl (find_kind n ks) (finds-kind n ks)
  where
    skip : (o : Option Kind) → eqb n (kind_number k) ≡ false → Found n ks o → Found n (k ∷ ks) o
    skip none e h = (neither-iff (eqb n (kind_number k)) (any (λ k. eqb n (kind_number k)) ks)).1 (from-denied e, h)
    skip (some j) e h = h

    go : (b : Bool) → eqb n (kind_number k) ≡ b → (o : Option Kind) → Found n ks o → Found n (k ∷ ks) (elim b [ true ↦ some k | false ↦ o ])
    go true e o h = eqb→eq n (kind_number k) (from-true e)
    go false e o h = skip o e h

-- of two tests that do not both hold, where one does the other does not
not-both : (a b : Bool) → T (not (a && b)) → T a → T (not b)
not-both true b h k = h
not-both false b h k = absurd k

-- the first frame is a Head
pub head_first : (r : Reading) (s : Bytes) → T (not (out_of_order r.last s)) → r.last ≡ 0 → kind_field s ≡ 1
unfolding out_of_order is_head kind_number
head_first r s h e =
    let p = simp neither-iff at h in
    let q = not-both (eqb r.last 0) (not (eqb (kind_field s) 1)) p.0.0.0 ((eqb-iff r.last 0).1 e) in
    eqb→eq (kind_field s) 1 (rw not-not at q)

-- no later frame is one
pub head-once : (r : Reading) (s : Bytes) → T (not (out_of_order r.last s)) → r.last ≢ 0 → kind_field s ≢ 1
unfolding out_of_order is_head kind_number
head-once r s h l e =
    let p = simp neither-iff at h in
    let z = (not_iff (eqb r.last 0)).1 (λ t. l (eqb→eq r.last 0 t)) in
    let q = not-both (not (eqb r.last 0)) (eqb (kind_field s) 1) p.0.0.1 z in
    T_not (eqb (kind_field s) 1) q ((eqb-iff (kind_field s) 1).1 e)

-- only a Head has the number 1
pub head-number : (k : Kind) → kind_number k ≡ 1 → k ≡ head_kind
unfolding kind_number
head-number head_kind e = refl
head-number node_kind e = absurd (omega arith)
head-number segment_kind e = absurd (omega arith)
head-number join_kind e = absurd (omega arith)
head-number train_kind e = absurd (omega arith)
head-number call_kind e = absurd (omega arith)
head-number unbreakable_kind e = absurd (omega arith)
head-number end_kind e = absurd (omega arith)

-- ---- reading a file of a format

module _ (F : Format) where
  -- ---- one frame

  -- a frame after which the reader goes on
  pub record GoesOn (r : Reading) (s : Bytes) (r' : Reading) (s' : Bytes) : Type 0 where
    pub clear : T (all passes (frame_faults F r s))
    pub not_end : T (not (is_end (kind_field s)))
    pub reading : r' ≡ past_frame F r s
    pub rest : s' ≡ behind s

  module _ (r : Reading) (s : Bytes) where
    -- what the two ends of a step mean
    Meaning : FrameRead → Type 0
    Meaning (stop v) = Ends F r s v
    Meaning (more r' s') = GoesOn r s r' s'

    -- a step is what it means
    step-means : Meaning (read_frame F r s)
    unfolding read_frame frame_read_at Meaning refuse_or
    step-means = go (first_fault (frame_faults F r s)) refl
      where
        at_end : (o : Option ℕ) → first_fault (book_faults r.book) ≡ o → T (all passes (frame_faults F r s)) → T (is_end (kind_field s))
            → Ends F r s (refuse_or o r.book)
        at_end none e c t = pass c t (first-none _ e) refl
        at_end (some n) e c t = book n c t (first_some n _ e) refl

        clear : (b : Bool) → is_end (kind_field s) ≡ b → T (all passes (frame_faults F r s))
            → Meaning (elim b [ true ↦ stop (refuse_or (first_fault (book_faults r.book)) r.book) | false ↦ more (past_frame F r s) (behind s) ])
        clear true e c = at_end (first_fault (book_faults r.book)) refl c (from-true e)
        clear false e c = record { clear = c; not_end = from-denied e; reading = refl; rest = refl }

        go : (o : Option ℕ) → first_fault (frame_faults F r s) ≡ o → Meaning (frame_read_at F o r s)
        go (some n) e = frame n (first_some n _ e) refl
        go none e = clear (is_end (kind_field s)) refl (first-none _ e)

    -- read at either end
    ends : (v : Verdict Book) → read_frame F r s ≡ stop v → Ends F r s v
    unfolding Meaning
    ends v e = subst Meaning e step-means

    goes_on : (r' : Reading) (s' : Bytes) → read_frame F r s ≡ more r' s' → GoesOn r s r' s'
    unfolding Meaning
    goes_on r' s' e = subst Meaning e step-means

    -- and back: where reading ends so, the step is that verdict
    stops : (v : Verdict Book) → Ends F r s v → read_frame F r s ≡ stop v
    unfolding read_frame frame_read_at refuse_or
    stops v (frame n h e) = rw (holds-first n _ h, e)
    stops v (book n c t h e) = rw (clear_first _ c, true_of (is_end (kind_field s)) t, frame_read_at, holds-first n _ h, e)
    stops v (pass c t d e) = rw (clear_first _ c, true_of (is_end (kind_field s)) t, frame_read_at, clear_first _ d, e)

    -- and the step goes on exactly where the frame has no fault and is not the End
    pub goes-iff : (r' : Reading) (s' : Bytes) → (read_frame F r s ≡ more r' s') ↔ GoesOn r s r' s'
    unfolding read_frame frame_read_at
    goes-iff r' s' = (
      goes_on r' s',
      λ g. rw (clear_first _ g.clear, denied-of (is_end (kind_field s)) g.not_end, frame_read_at, g.reading, g.rest),
    )

  -- What a frame without a fault is.
  pub record Fine (r : Reading) (s : Bytes) : Type 0 where
    pub whole : T (not (cut_short s))
    pub known : T (not (unknown_kind (kind_field s)))
    pub in_order : T (not (out_of_order r.last s))
    pub content : T (all passes (kind_faults F r.book (find_kind (kind_field s) kind_order) (payload_of s)))

  -- by the table's lines
  pub fine : (r : Reading) (s : Bytes) → T (all passes (frame_faults F r s)) → Fine r s
  unfolding frame_faults all passes
  fine r s c = let p = simp and-iff at c in record { whole = p.0; known = p.1.0; in_order = p.1.1.0; content = p.1.1.1 }

  -- what is left behind a frame is shorter
  less-left : (r r' : Reading) (s s' : Bytes) → read_frame F r s ≡ more r' s' → length s' < length s
  less-left r r' s s' e = let g = goes_on r s r' s' e in rw g.rest (omega (arith, length-behind s (fine r s g.clear).whole))

  -- ---- the whole file

  -- reading with fuel left stops, or goes on, where the step does
  stops-reading : (f : ℕ) (r : Reading) (s : Bytes) (v : Verdict Book) → read_frame F r s ≡ stop v → read_from F (suc f) r s ≡ v
  unfolding read_from
  stops-reading f r s v e = rw (e, read_from)

  reads_on : (f : ℕ) (r r' : Reading) (s s' : Bytes) → read_frame F r s ≡ more r' s' → read_from F (suc f) r s ≡ read_from F f r' s'
  unfolding read_from
  reads_on f r r' s s' e = rw (e, read_from)

  -- fuel beyond the length of what is left makes no difference
  enough : (f g : ℕ) (r : Reading) (s : Bytes) → length s < f → length s < g → read_from F f r s ≡ read_from F g r s
  enough zero g r s h k = absurd (not-suc-le-zero h)
  enough (suc f) zero r s h k = absurd (not-suc-le-zero k)
  enough (suc f) (suc g) r s h k = go (read_frame F r s) refl (enough f g)
    where
      go : (o : FrameRead) → read_frame F r s ≡ o → ((r : Reading) (s : Bytes) → length s < f → length s < g → read_from F f r s ≡ read_from F g r s)
          → read_from F (suc f) r s ≡ read_from F (suc g) r s
      go (stop v) e rest = stops-reading f r s v e ∙ sym (stops-reading g r s v e)
      go (more r' s') e rest =
          let l = less-left r r' s s' e in
          reads_on f r r' s s' e ∙ rest r' s' (omega arith) (omega arith) ∙ sym (reads_on g r r' s s' e)

  -- reading from any point of the way gives the file's verdict
  along : (s s' : Bytes) (r : Reading) → ReadsTo F s r s' → read_as F s ≡ read_from F (suc (length s')) r s'
  unfolding read_as
  along s s' r start = refl
  along s s'' r'' (next {r = r} {s' = s'} c e) =
      let l = less-left r r'' s' s'' e in
      along s s' r c ∙ reads_on (length s') r r'' s' s'' e ∙ enough (length s') (suc (length s'')) r'' s'' l (omega arith)

  -- with enough fuel, reading on from any point of the way comes to an end
  finds : (f : ℕ) (s s' : Bytes) (r : Reading) → length s' < f → ReadsTo F s r s'
      → (r'' : Reading) × (s'' : Bytes) × ReadsTo F s r'' s'' × Ends F r'' s'' (read_from F f r s')
  finds zero s s' r h c = absurd (not-suc-le-zero h)
  finds (suc f) s s' r h c = go (read_frame F r s') refl (finds f s)
    where
      go : (o : FrameRead) → read_frame F r s' ≡ o
          → ((s'' : Bytes) (r : Reading) → length s'' < f → ReadsTo F s r s''
          → (r''' : Reading) × (s''' : Bytes) × ReadsTo F s r''' s''' × Ends F r''' s''' (read_from F f r s''))
          → (r'' : Reading) × (s'' : Bytes) × ReadsTo F s r'' s'' × Ends F r'' s'' (read_from F (suc f) r s')
      go (stop v) e rest = (r, s', c, rw (stops-reading f r s' v e) (ends r s' v e))
      go (more r'' s'') e rest =
          let l = less-left r r'' s' s'' e in
          rw (reads_on f r r'' s' s'' e) (rest s'' r'' (omega arith) (next c e))

  -- Reading is exact: a file's verdict is v exactly where the frames lead to one at which reading ends with v.
  pub as-iff : (s : Bytes) (v : Verdict Book) → (read_as F s ≡ v) ↔ ((r : Reading) × (s' : Bytes) × ReadsTo F s r s' × Ends F r s' v)
  unfolding read_as
  as-iff s v = (
    λ e. rw (← e) (finds (suc (length s)) s s reading_start (omega arith) start),
    λ h. along s h.1 h.0 h.2 ∙ stops-reading (length h.1) h.0 h.1 v (stops h.0 h.1 v h.3),
  )

  -- A refusal is given only where a condition stated for it holds, and none that is tried before it: of the frame that
  -- reading has come to, or, at the End frame, of the book. Its detail is 0.
  pub as-refused : (s : Bytes) (n d : ℕ) → read_as F s ≡ refused n d
      → (d ≡ 0) × ((r : Reading) × (s' : Bytes) × ReadsTo F s r s'
      × (FirstHolds n (frame_faults F r s')
      ⊎ ((first_fault (frame_faults F r s') ≡ none) × T (is_end (kind_field s')) × FirstHolds n (book_faults r.book))))
  as-refused s n d e = let h = (as-iff s (refused n d)).0 e in go h.0 h.1 h.2 h.3
    where
      go : (r : Reading) (s' : Bytes) → ReadsTo F s r s' → Ends F r s' (refused n d)
          → (d ≡ 0) × ((r : Reading) × (s' : Bytes) × ReadsTo F s r s'
          × (FirstHolds n (frame_faults F r s')
          ⊎ ((first_fault (frame_faults F r s') ≡ none) × T (is_end (kind_field s')) × FirstHolds n (book_faults r.book))))
      go r s' c (frame m h q) = let k : m ≡ n = cc in (cc, (r, s', c, inl (rw k at h)))
      go r s' c (book m f t h q) = let k : m ≡ n = cc in (cc, (r, s', c, inr (clear_first _ f, t, rw k at h)))
      go r s' c (pass f t g q) = let z : ◌≡◌ {A = ℕ} 0 1 = cc in absurd (omega arith)

  -- A book passes when no condition for frame, content or book holds.
  pub as-accepted : (s : Bytes) (b : Book) → read_as F s ≡ accepted b
      → (r : Reading) × (s' : Bytes) × ReadsTo F s r s' × (first_fault (frame_faults F r s') ≡ none) × T (is_end (kind_field s'))
      × (first_fault (book_faults r.book) ≡ none) × (b ≡ r.book)
  as-accepted s b e = let h = (as-iff s (accepted b)).0 e in go h.0 h.1 h.2 h.3
    where
      go : (r : Reading) (s' : Bytes) → ReadsTo F s r s' → Ends F r s' (accepted b)
          → (r : Reading) × (s' : Bytes) × ReadsTo F s r s' × (first_fault (frame_faults F r s') ≡ none) × T (is_end (kind_field s'))
          × (first_fault (book_faults r.book) ≡ none) × (b ≡ r.book)
      go r s' c (frame m h q) = let z : ◌≡◌ {A = ℕ} 0 1 = cc in absurd (omega arith)
      go r s' c (book m f t h q) = let z : ◌≡◌ {A = ℕ} 0 1 = cc in absurd (omega arith)
      go r s' c (pass f t g q) = (r, s', c, clear_first _ f, t, clear_first _ g, cc)

  -- ---- a book that is read is well formed

  -- a Head without a fault, at the start
  reads-head : (b : Book) (k : Kind) (p : Bytes) → F.greatest_t ≤ max_intervals → b ≡ no_book → k ≡ head_kind → T (all passes (content_faults F b k p)) → Growing (add F b k p)
  unfolding add content_faults all passes
  reads-head b k p m e q c =
      let d : T (all passes (content_faults F no_book head_kind p)) = rw (e, q) at c in
      rw (e, q) (growing-head F p m (simp (and-iff, not-not) at d).0)

  -- a frame without a fault leads on in a growing book
  pub reached-on : (r : Reading) (s : Bytes) → F.greatest_t ≤ max_intervals → Fine r s → Reached r → Reached (past_frame F r s)
  unfolding past_frame rank add_found kind_faults all unknown_kind Found kind_number
  reached-on r s m f w =
      behind_head (rank-not-zero (kind_field s) kind_order)
      (growing-of _ (go (find_kind (kind_field s) kind_order) (finds-kind (kind_field s) kind_order) f.content w))
    where
      go : (o : Option Kind) → Found (kind_field s) kind_order o → T (all passes (kind_faults F r.book o (payload_of s))) → Reached r
          → Growing (add_found F r.book o (payload_of s))
      go none h c w = absurd (T_not (unknown_kind (kind_field s)) f.known h)
      go (some k) h c (at_start l e) =
          reads-head r.book k (payload_of s) m e (head-number k (sym h ∙ head_first r s f.in_order l)) (simp and-iff at c).1
      go (some k) h c (behind_head l w) =
          growing-add F r.book k (payload_of s) (λ q. head-once r s f.in_order l (h ∙ ap kind_number q)) (simp and-iff at c).1 (growing-parts _ w)

  -- so wherever the reader comes, it is at the start or in a growing book
  pub reached : {s s' : Bytes} {r : Reading} → F.greatest_t ≤ max_intervals → ReadsTo F s r s' → Reached r
  unfolding reading_start
  reached m start = at_start refl refl
  reached m (next {r = r} {r'' = r''} {s' = s'} {s'' = s''} c e) =
      let g = goes_on r s' r'' s'' e in rw g.reading (reached-on r s' m (fine r s' g.clear) (reached m c))

  -- A book that is read is well formed.
  pub as-formed : (s : Bytes) (b : Book) → F.greatest_t ≤ max_intervals → read_as F s ≡ accepted b → T (well_formed b)
  unfolding is_end kind_number
  as-formed s b m e = let h = as-accepted s b e in rw h.6 (go h.0 h.1 h.3 h.4 h.5 (reached m h.2))
    where
      go : (r : Reading) (s' : Bytes) → first_fault (frame_faults F r s') ≡ none → T (is_end (kind_field s'))
          → first_fault (book_faults r.book) ≡ none → Reached r → T (well_formed r.book)
      go r s' c t d (at_start l n) =
          let one' = head_first r s' (fine r s' (first-none _ c)).in_order l in
          let eight = eqb→eq (kind_field s') 8 t in
          let no' : ⊥ = omega arith in
          absurd no'
      go r s' c t d (behind_head l w) = growing-whole r.book (growing-parts _ w) (first-none _ d)

-- ---- reading a book: the same, of the format in force

pub read-iff : (s : Bytes) (v : Verdict Book)
    → (read_book s ≡ v) ↔ ((r : Reading) × (s' : Bytes) × ReadsTo book_format s r s' × Ends book_format r s' v)
unfolding read_book
read-iff s v = as-iff book_format s v

pub refusal-has-reason : (s : Bytes) (n d : ℕ) → read_book s ≡ refused n d
    → (d ≡ 0) × ((r : Reading) × (s' : Bytes) × ReadsTo book_format s r s'
    × (FirstHolds n (frame_faults book_format r s')
    ⊎ ((first_fault (frame_faults book_format r s') ≡ none) × T (is_end (kind_field s')) × FirstHolds n (book_faults r.book))))
unfolding read_book
refusal-has-reason s n d e = as-refused book_format s n d e

pub read-accepted-reason : (s : Bytes) (b : Book) → read_book s ≡ accepted b
    → (r : Reading) × (s' : Bytes) × ReadsTo book_format s r s' × (first_fault (frame_faults book_format r s') ≡ none)
    × T (is_end (kind_field s')) × (first_fault (book_faults r.book) ≡ none) × (b ≡ r.book)
unfolding read_book
read-accepted-reason s b e = as-accepted book_format s b e

pub read-well-formed : (s : Bytes) (b : Book) → read_book s ≡ accepted b → T (well_formed b)
unfolding read_book
read-well-formed s b e = as-formed book_format s b (omega arith) e
