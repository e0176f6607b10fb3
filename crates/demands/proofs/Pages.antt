-- The train graph (document 02, P2). For every book that was read: every line of a page has its exact width, whatever the plan
-- (`line-width`), and two plans with the same page agree on the fields that it shows (`same-page`). From arbitrary bytes: what the
-- entry point prints, and why it refuses. Assumes nothing.
use mathlib.Core.Path.{◌≡◌, refl, sym, ap, ◌∙◌}
use mathlib.Core.Logic.{◌↔◌, ◌⊎◌, inl, inr, ⊎_elim}
use Prim.Native.Nat.{ℕ, zero, suc, ◌+◌, ◌*◌, ◌-◌, ◌/◌, ◌%◌, ◌≤◌, ◌<◌}
use native.Mathlib.Omega.{arith}
use native.Mathlib.Nat.{mul_comm}
use mathlib.Core.List.{List, [], ◌∷◌, ◌++◌, map, Memᴰ}
use lib.ListN.{length, get_or, take, drop, replicate, length-append, length-replicate, get_or-replicate}
use lib.Dec.{T}
use Rattle.spec.specs.Lists.{Bytes, all, each, up_to, one, last_or, Verdict, accepted, refused}
use Rattle.spec.specs.Numbers.{in_digits, decimal, aligned}
use Rattle.spec.specs.Held.{padded}
use Rattle.spec.specs.Book.{Book, segment_of, train_at, speed_in_segments}
use Rattle.spec.specs.Read.{between, head_fits, well_formed, read_book}
use Rattle.spec.specs.Runs.{start_place, end_place}
use Rattle.spec.specs.Instance.{Instance, instance_of, compile, run_lists, run_at, train_length}
use Rattle.spec.specs.Plan.{Plan, Move, run, absent, gone, is_move, IsPlan, plan_fits, plan_of, keeps_rules}
use Rattle.spec.specs.Entry.{read_instance, overwrite, written}
use Rattle.spec.specs.Page.{blank, newline, Shown, shown_run, shown_absent, shown_gone, shown_move, shown_of, marked, cell, cells, page_line, page, page_bytes, page_for, print_graph, page_output}
use Rattle.laws.proofs.Tests.{and-iff, ltb_iff, leb-iff, all-iff, le-or-lt}
use Rattle.laws.proofs.Rows.{all_append, all-each}
use Rattle.laws.proofs.Last.{last-map, last-drop, last-below}
use Rattle.laws.proofs.Parts.{front_same, head-same, Part, part-here, part-behind, part_in, part_at, part_placed, part-taken, parts_same, part-each, length-each, sum_below, sum-constant}
use Rattle.laws.proofs.Digits.{decimal-one, decimal-more, in_digits-back, length-aligned, aligned-back}
pub use Rattle.demands.specs.Pages.{rear_of, front_of, IsLine, SameLine, SamePage}
use Rattle.demands.specs.Claims.{Holds}
use Rattle.demands.specs.Reasons.{Refusal, PlanFault, Within}
use Rattle.demands.proofs.Wellformed.{parts, sound}
use Rattle.demands.proofs.RunLists.{train-reach, run-moves}
use Rattle.demands.proofs.Reading.{read-well-formed}
use Rattle.demands.proofs.Moves.{fitting}
use Rattle.demands.proofs.Entries.{result-is, plan-iff, plan-written, read-own}
use Rattle.demands.proofs.Reasons.{written-number}
use Rattle.demands.proofs.Refusals.{written-refused}

-- ---- bytes that can be seen or are blank

abbrev Plain : Bytes → Type 0
Plain s = T (all (between 32 126) s)

plain-append : (s t : Bytes) → Plain s → Plain t → Plain (s ++ t)
plain-append s t h k = rw (all_append (between 32 126) s t) ((and-iff (all (between 32 126) s) (all (between 32 126) t)).1 (h, k))

plain-one : (x : ℕ) → 32 ≤ x → x ≤ 126 → Plain (one x)
unfolding all between
plain-one x l h = simp (and-iff, leb-iff) ((l, h), tt)

-- one digit more
plain_more : (s : Bytes) (n : ℕ) → Plain s → Plain (s ++ one (48 + n % 10))
plain_more s n h = plain-append s (one (48 + n % 10)) h (plain-one (48 + n % 10) (omega arith) (omega arith))

plain-digits : (w n : ℕ) → Plain (in_digits w n)
unfolding in_digits all
plain-digits zero n = tt
plain-digits (suc w) n = plain_more (in_digits w (n / 10)) n (plain-digits w (n / 10))

-- the bound counts down
plain-decimal : (most n : ℕ) → n < most → Plain (decimal n)
plain-decimal zero n h = absurd (omega arith)
plain-decimal (suc most) n h =
    ⊎_elim
    (λ l. rw (decimal-more n l) (plain_more (decimal (n / 10)) n (plain-decimal most (n / 10) (omega arith))))
    (λ l. rw (decimal-one n l) (plain-one (48 + n) (omega arith) (omega arith)))
    (le-or-lt 10 n)

plain-blanks : (k : ℕ) → Plain (replicate k blank)
unfolding all between
plain-blanks zero = tt
plain-blanks (suc k) = plain-blanks k

plain-aligned : (w n : ℕ) → Plain (aligned w n)
unfolding aligned
plain-aligned w n = plain-append _ _ (plain-blanks (w - length (decimal n))) (plain-decimal (suc n) n (omega arith))

-- ---- cells

pub length-cell : (x : Shown) → length (cell x) ≡ 9
unfolding cell marked in_digits
length-cell (shown_run rear front moved) = refl
length-cell shown_absent = refl
length-cell shown_gone = refl

plain_cell : (x : Shown) → Plain (cell x)
unfolding cell marked all between
plain_cell (shown_run rear front moved) =
    plain-append (in_digits 2 rear) _ (plain-digits 2 rear)
    (plain-append (in_digits 2 front) _ (plain-digits 2 front) (plain-append (in_digits 1 moved) (one blank) (plain-digits 1 moved) tt))
plain_cell shown_absent = tt
plain_cell shown_gone = tt

-- a cell's second byte is no blank
second : Bytes → ℕ
second s = get_or s 1 0

second-seen : (x : Shown) → second (cell x) ≡ blank → ⊥
unfolding cell marked in_digits second
second-seen (shown_run rear front moved) e = omega (arith, e)
second-seen shown_absent e = omega (arith, e)
second-seen shown_gone e = omega (arith, e)

-- what fits its digits
data Fits : Shown → Type 0 where
  fits-run : {rear front moved : ℕ} → rear < 100 → front < 100 → moved < 10 → Fits (shown_run rear front moved)
  fits-absent : Fits shown_absent
  fits-gone : Fits shown_gone

-- and comes back from its cell
cell-back : (x y : Shown) → Fits x → Fits y → cell x ≡ cell y → x ≡ y
unfolding cell marked in_digits second
cell-back x y (fits-run {rear = a} {front = b} {moved = c} la lb lc) (fits-run {rear = d} {front = e} {moved = f} ld le lf) q =
    let r = front_same (in_digits 2 a) (in_digits 2 d) refl (head-same q).1 in
    let s = front_same (in_digits 2 b) (in_digits 2 e) refl (head-same r.1).1 in
    let t = front_same (in_digits 1 c) (in_digits 1 f) refl (head-same s.1).1 in
    let i = in_digits-back 2 a d la ld r.0 in
    let j = in_digits-back 2 b e lb le s.0 in
    let k = in_digits-back 1 c f lc lf t.0 in
    λ z. shown_run (i z) (j z) (k z)
cell-back x y (fits-run la lb lc) fits-absent q = absurd (omega (arith, ap second q))
cell-back x y (fits-run la lb lc) fits-gone q = absurd (omega (arith, ap second q))
cell-back x y fits-absent (fits-run la lb lc) q = absurd (omega (arith, ap second q))
cell-back x y fits-absent fits-absent q = refl
cell-back x y fits-absent fits-gone q = absurd (omega (arith, ap second q))
cell-back x y fits-gone (fits-run la lb lc) q = absurd (omega (arith, ap second q))
cell-back x y fits-gone fits-absent q = absurd (omega (arith, ap second q))
cell-back x y fits-gone fits-gone q = refl

-- ---- a line

-- the cells of so many trains
pub cells_of : (I : Instance) (p : Plan) (t n : ℕ) → length (each (up_to n) λ i. cell (shown_of I p i t)) ≡ 9 * n
cells_of I p t n =
    length-each (λ i. cell (shown_of I p i t)) (λ _. 9) (λ i. length-cell (shown_of I p i t)) n ∙ sum-constant 9 n ∙ mul_comm n 9

pub length-cells : (I : Instance) (p : Plan) (t : ℕ) → length (cells I p t) ≡ 9 * I.trains
unfolding cells
length-cells I p t = cells_of I p t I.trains

-- a line of few trains, in an interval of three digits
module _ (I : Instance) (few : I.trains ≤ 8) (p : Plan) (t : ℕ) (short : t < 1000) where
  abbrev own : ℕ → Bytes
  own i = cell (shown_of I p i t)

  abbrev body : Bytes
  body = aligned 3 t ++ (blank ∷ cells I p t)

  abbrev rest : Bytes
  rest = replicate (80 - length body) blank

  length-body : length body ≡ 4 + 9 * I.trains
  length-body = omega (arith, length-append (aligned 3 t) (blank ∷ cells I p t), length-aligned 2 t short, length-cells I p t)

  length-line : length (body ++ rest) ≡ 80
  length-line = omega (arith, length-append body rest, length-replicate {A = ℕ} (80 - length body) blank, length-body)

  line-is : IsLine (page_line I p t)
  unfolding page_line padded cells all between
  line-is = record {
    text = body ++ rest;
    whole = refl;
    wide = length-line;
    plain =
        plain-append body rest
        (plain-append (aligned 3 t) (blank ∷ cells I p t) (plain-aligned 3 t)
        (rw (all-each (between 32 126) (up_to I.trains) own) ((all-iff _ (up_to I.trains)).1 (λ i m. plain_cell (shown_of I p i t)))))
        (plain-blanks (80 - length body));
  }

  -- where the interval, a cell and the blanks stand in it
  interval-at : Part (body ++ rest) 0 (aligned 3 t)
  interval-at = part_in (part-here body rest) (part-here (aligned 3 t) (blank ∷ cells I p t))

  cell_at : (i : ℕ) → i < I.trains → Part (body ++ rest) (4 + 9 * i) (own i)
  unfolding cells
  cell_at i l =
      let inside = part_in (part-behind (aligned 3 t) (blank ∷ cells I p t))
      (part_in (part-behind (one blank) (cells I p t)) (part-each own (λ _. 9) (λ i. length-cell (shown_of I p i t)) I.trains i l)) in
      part_placed (part_in (part-here body rest) inside) (omega (arith, length-aligned 2 t short, sum-constant 9 i))

  blanks_at : Part (body ++ rest) (4 + 9 * I.trains) rest
  blanks_at = part_placed (part-behind body rest) length-body

-- two lines that are the same
module _ (I J : Instance) (few : I.trains ≤ 8) (many : J.trains ≤ 8) (p q : Plan) (t u : ℕ) (short : t < 1000) (brief : u < 1000) where
  abbrev left : Bytes
  left = body I few p t short ++ rest I few p t short

  abbrev right : Bytes
  right = body J many q u brief ++ rest J many q u brief

  -- no cell stands in one where the other has blanks
  no_more : left ≡ right → I.trains < J.trains → ⊥
  unfolding second
  no_more e l =
      let n = I.trains in
      let k = 80 - length (body I few p t short) in
      let here : 1 < k = omega (arith, length-body I few p t short) in
      let blank-there = part_at (blanks_at I few p t short) 1 0 (omega (arith, here, length-replicate {A = ℕ} k blank)) in
      let cell-there = part_at (cell_at J many q u brief n l) 1 0 (omega (arith, length-cell (shown_of J q n u))) in
      second-seen (shown_of J q n u)
      (sym cell-there ∙ ap (λ (s : Bytes). get_or s (4 + 9 * n + 1) 0) (sym e) ∙ blank-there ∙ get_or-replicate k 1 blank 0 here)

  texts-same : page_line I p t ≡ page_line J q u → left ≡ right
  unfolding page_line padded
  texts-same e = (front_same left right (length-line I few p t short ∙ sym (length-line J many q u brief)) e).0

  interval-same : left ≡ right → t ≡ u
  interval-same e =
      aligned-back 3 3 t u
      (parts_same (interval-at I few p t short) (interval-at J many q u brief) (length-aligned 2 t short ∙ sym (length-aligned 2 u brief)) e)

  cells_same : left ≡ right → (i : ℕ) → i < I.trains → i < J.trains → cell (shown_of I p i t) ≡ cell (shown_of J q i u)
  cells_same e i l k =
      parts_same (cell_at I few p t short i l) (cell_at J many q u brief i k) (length-cell (shown_of I p i t) ∙ sym (length-cell (shown_of J q i u))) e

lines_same : (I J : Instance) (few : I.trains ≤ 8) (many : J.trains ≤ 8) (p q : Plan) (t u : ℕ) → t < 1000 → u < 1000
    → ((i : ℕ) → i < I.trains → Fits (shown_of I p i t)) → ((i : ℕ) → i < J.trains → Fits (shown_of J q i u))
    → page_line I p t ≡ page_line J q u → SameLine I p t J q u
lines_same I J few many p q t u short brief fits others e =
    let s = texts-same I J few many p q t u short brief e in
    let as_many : I.trains ≡ J.trains = elim (le-or-lt I.trains J.trains) [
      | inl h ↦ elim (le-or-lt J.trains I.trains)
          [ inl k ↦ omega (arith, h, k) | inr k ↦ absurd (no_more I J few many p q t u short brief s k) ]
      | inr h ↦ absurd (no_more J I many few q p u t brief short (sym s) h)
    ] in
    record {
      interval = interval-same I J few many p q t u short brief s;
      trains = as_many;
      shown = λ i l. cell-back _ _ (fits i l) (others i (omega (arith, as_many)))
          (cells_same I J few many p q t u short brief s i l (omega (arith, as_many)));
    }

-- ---- of a book that was read

-- what stands first in a row of numbers below a bound
first_below : (n : ℕ) (xs : List ℕ) → 0 < n → ((x : ℕ) → Memᴰ x xs → x < n) → get_or xs 0 0 < n
first_below n [] l h = l
first_below n (x ∷ xs) l h = h x (Memᴰ.head refl)

-- and in what is made of each element of a part of it
first-same : (f : ℕ → ℕ) (n : ℕ) (xs : List ℕ) → 1 ≤ n → get_or (map f xs) 0 0 ≡ get_or (map f (take n xs)) 0 0
first-same f zero xs h = absurd (omega arith)
first-same f (suc n) [] h = refl
first-same f (suc n) (x ∷ xs) h = refl

module _ (b : Book) (formed : T (well_formed b)) where
  abbrev I : Instance
  I = instance_of b

  few-trains : I.trains ≤ 8
  unfolding instance_of compile
  few-trains = (parts b formed).few_trains

  pub few-intervals : (instance_of b).intervals ≤ 256
  unfolding instance_of compile head_fits between
  few-intervals = (simp (and-iff, leb-iff) at (parts b formed).head).1.1

  line-there : (p : Plan) (t : ℕ) → t < I.intervals → IsLine (page_line I p t)
  line-there p t l = line-is I few-trains p t (omega (arith, few-intervals))

  line-length : (p : Plan) (t : ℕ) → t < I.intervals → length (page_line I p t) ≡ 81
  line-length p t l =
      let w = line-there p t l in
      ap length w.whole ∙ omega (arith, length-append w.text (one newline), w.wide)

  -- the lines of the first intervals
  pub lines-length : (p : Plan) (n : ℕ) → n ≤ (instance_of b).intervals → length (each (up_to n) λ t. page_line (instance_of b) p t) ≡ 81 * n
  lines-length p n h =
      length-each (λ t. page_line I p t) (λ t. length (page_line I p t)) (λ t. refl) n
      ∙ sum_below (λ t. length (page_line I p t)) 81 n (λ t l. line-length p t (omega arith))
      ∙ mul_comm n 81

  pub page-long : (p : Plan) → length (page (instance_of b) p) ≡ page_bytes (instance_of b)
  unfolding page page_bytes
  page-long p = lines-length p I.intervals (omega arith)

  -- where the line of an interval stands
  line_at : (p : Plan) (t : ℕ) → t < I.intervals → Part (page I p) (81 * t) (page_line I p t)
  unfolding page
  line_at p t l =
      part_placed (part-each (λ u. page_line I p u) (λ u. length (page_line I p u)) (λ u. refl) I.intervals t l)
      (sum_below (λ u. length (page_line I p u)) 81 t (λ u h. line-length p u (omega arith)) ∙ mul_comm t 81)

  -- a run moves at most k
  moved-few : (i r : ℕ) → i < I.trains → r < I.runs i → I.moved i r ≤ 8
  unfolding instance_of compile
  moved-few i r l k = let m = run-moves b formed i l r k in omega (arith, m.1, m.2, train-reach b formed i l)

  -- every move of a train is shown by numbers that fit their digits
  shown-fits : (i : ℕ) → i < I.trains → (m : Move) → T (is_move I i m) → Fits (shown_move I i m)
  unfolding is_move shown_move instance_of compile
  shown-fits i l (run r) k =
      let s = sound b formed in
      let few = (parts b formed).few_segments in
      let below = (ltb_iff r (I.runs i)).0 k in
      let inside : (x : ℕ) → Memᴰ x (I.path i r) → x < 100 = λ x m. omega (arith, s.inside i r l below x m, few) in
      let moved : I.moved i r < 10 = omega (arith, moved-few i r l below) in
      fits-run (first_below 100 (I.path i r) (omega arith) inside) (last-below 100 0 (I.path i r) (omega arith) inside) moved
  shown-fits i l absent k = fits-absent
  shown-fits i l gone k = fits-gone

module _ (book : Bytes) (b : Book) (read : read_book book ≡ accepted b) where
  formed : T (well_formed b)
  formed = read-well-formed book b read

  -- "Every line has its exact width for every plan": any choice of moves, whether or not it keeps the rules.
  pub line-width : (p : Plan) (t : ℕ) → t < (instance_of b).intervals → IsLine (page_line (instance_of b) p t)
  line-width p t l = line-there b formed p t l

  -- "the rear segment at the start", "the front segment at the end", "segments moved": what is shown of a run of a train's list is the
  -- first segment of the place that it starts at, the last segment of the place that it ends at, and the j by which it is a path of l + j
  pub run-shown : (i r : ℕ) → i < (instance_of b).trains → r < (instance_of b).runs i
      → (j : ℕ) × (length (run_at (run_lists b) i r) ≡ train_length b i + j) × (j ≤ speed_in_segments b (train_at b i))
      × (shown_move (instance_of b) i (run r) ≡ shown_run (rear_of (start_place (train_length b i) (run_at (run_lists b) i r)))
      (front_of (end_place (train_length b i) (run_at (run_lists b) i r))) j)
  unfolding shown_move instance_of compile start_place end_place rear_of front_of segment_of
  run-shown i r h k =
      let p = run_at (run_lists b) i r in
      let l = train_length b i in
      let m = run-moves b formed i h r k in
      let some = (train-reach b formed i h).0 in
      let first : get_or (map segment_of p) 0 0 ≡ get_or (map segment_of (take l p)) 0 0 = first-same segment_of l p some in
      let last : last_or 0 (map segment_of p) ≡ last_or 0 (map segment_of (drop (length p - l) p)) =
      last-map segment_of 0 p
      ∙ ap segment_of (sym (last-drop (length p - l) 0 p (omega (arith, m.2, some))))
      ∙ sym (last-map segment_of 0 (drop (length p - l) p)) in
      let moved : length p - l ≡ m.0 = omega (arith, m.2) in
      (m.0, m.2, m.1, λ z. shown_run (first z) (last z) (moved z))

  -- "one line an interval": so long is the page
  pub page-length : (p : Plan) → length (page (instance_of b) p) ≡ 81 * (instance_of b).intervals
  unfolding page_bytes
  page-length p = page-long b formed p

  fits-there : (p : Plan) → IsPlan (instance_of b) p → (t : ℕ) → t < (instance_of b).intervals
      → (i : ℕ) → i < (instance_of b).trains → Fits (shown_of (instance_of b) p i t)
  unfolding shown_of
  fits-there p moves t l i k = shown-fits b formed i k (p.move i t) (moves i k t l)

-- two plans, of one book or of two
module _ (book other : Bytes) (b c : Book) (read : read_book book ≡ accepted b) (also : read_book other ≡ accepted c)
    (p q : Plan) (moves : IsPlan (instance_of b) p) (others : IsPlan (instance_of c) q) where
  -- lines that are the same show the same interval, and the same of every train
  pub same_line : (t u : ℕ) → t < (instance_of b).intervals → u < (instance_of c).intervals
      → page_line (instance_of b) p t ≡ page_line (instance_of c) q u → SameLine (instance_of b) p t (instance_of c) q u
  same_line t u l k e =
      lines_same (instance_of b) (instance_of c) (few-trains b (formed book b read)) (few-trains c (formed other c also)) p q t u
      (omega (arith, l, few-intervals b (formed book b read))) (omega (arith, k, few-intervals c (formed other c also)))
      (fits-there book b read p moves t l) (fits-there other c also q others u k) e

  -- "two plans with the same page agree on these fields"
  pub same-page : page (instance_of b) p ≡ page (instance_of c) q → SamePage (instance_of b) p (instance_of c) q
  same-page e =
      let as_many : (instance_of b).intervals ≡ (instance_of c).intervals =
      omega (arith, sym (page-length book b read p) ∙ ap length e ∙ page-length other c also q) in
      record {
        intervals = as_many;
        lines = λ t l.
            let k : t < (instance_of c).intervals = omega (arith, as_many) in
            same_line t t l k
            (parts_same (line_at b (formed book b read) p t l) (line_at c (formed other c also) q t k)
            (line-length b (formed book b read) p t l ∙ sym (line-length c (formed other c also) q t k)) e);
      }

-- ---- the entry point, from arbitrary bytes

-- It accepts exactly the plans that keep the rules, where the page has room, and prints the page.
pub graph-accepted : (book plan : Bytes) (b : Book) (n : ℕ) (out : Bytes) → read_book book ≡ accepted b
    → (print_graph book plan n ≡ accepted out)
    ↔ ((81 * (instance_of b).intervals ≤ n) × T (plan_fits (instance_of b) plan) × T (keeps_rules (instance_of b) (plan_of (instance_of b) plan))
    × (page (instance_of b) (plan_of (instance_of b) plan) ≡ out))
unfolding print_graph page_for page_bytes read_instance
graph-accepted book plan b n out read =
    let w = plan-written instance_of book b read page_bytes (λ I p. accepted (page I p)) plan n out in (
      (λ e. let h = w.0 e in let k = (plan-iff (instance_of b) plan).0 h.1 in (h.0, k.0, k.1, result-is h.2)),
      (λ h. w.1 (h.0, (plan-iff (instance_of b) plan).1 (h.1, h.2), ap {B = Verdict Bytes} accepted h.3)),
    )

-- "12 also covers a short page, 15 and 16 a bad plan": it refuses exactly so.
pub graph-refused : (book plan : Bytes) (n k d : ℕ)
    → (print_graph book plan n ≡ refused k d) ↔ Refusal book (λ b. n < 81 * (instance_of b).intervals) (λ b. PlanFault (instance_of b) plan) k d
unfolding print_graph page_for page_bytes read_instance
graph-refused = written-refused page_bytes page

pub graph-number : (book plan : Bytes) (n k d : ℕ) → print_graph book plan n ≡ refused k d → Within 1 12 k ⊎ Within 15 16 k
unfolding print_graph page_for read_instance
graph-number = written-number instance_of page_bytes page

-- what was accepted: the book, and what it says of the plan
graph-of : (book plan out : Bytes) (n : ℕ) → print_graph book plan n ≡ accepted out
    → (b : Book) × (read_book book ≡ accepted b) × (81 * (instance_of b).intervals ≤ n) × IsPlan (instance_of b) (plan_of (instance_of b) plan)
    × (page (instance_of b) (plan_of (instance_of b) plan) ≡ out)
unfolding print_graph
graph-of book plan out n e =
    let r = read-own book _ out e in
    let h = (graph-accepted book plan r.0 n out r.1).0 e in
    (r.0, r.1, h.0, fitting (instance_of r.0) plan h.1, h.3)

-- What is printed is one line an interval, each of its exact width.
pub graph-lines : (book plan out : Bytes) (n : ℕ) → print_graph book plan n ≡ accepted out
    → (b : Book) × (read_book book ≡ accepted b) × (length out ≡ 81 * (instance_of b).intervals)
    × ((t : ℕ) → t < (instance_of b).intervals → IsLine (take 81 (drop (81 * t) out)))
graph-lines book plan out n e =
    let g = graph-of book plan out n e in
    let b = g.0 in
    let p = plan_of (instance_of b) plan in (
      b,
      g.1,
      sym (ap length g.4) ∙ page-length book b g.1 p,
      λ t l.
          let there : take 81 (drop (81 * t) out) ≡ page_line (instance_of b) p t =
          ap (λ (s : Bytes). take 81 (drop (81 * t) s)) (sym g.4)
          ∙ ap (λ (k : ℕ). take k (drop (81 * t) (page (instance_of b) p))) (sym (line-length b (formed book b g.1) p t l))
          ∙ part-taken (line_at b (formed book b g.1) p t l) in
          rw there (line-width book b g.1 p t l),
    )

-- Two plans of which the same was printed agree on what it shows.
pub graph-agrees : (book other plan another out : Bytes) (n m : ℕ) → print_graph book plan n ≡ accepted out → print_graph other another m ≡ accepted out
    → (b c : Book) × (read_book book ≡ accepted b) × (read_book other ≡ accepted c)
    × SamePage (instance_of b) (plan_of (instance_of b) plan) (instance_of c) (plan_of (instance_of c) another)
graph-agrees book other plan another out n m e f =
    let g = graph-of book plan out n e in
    let h = graph-of other another out m f in
    (g.0, h.0, g.1, h.1, same-page book other g.0 h.0 g.1 h.1 _ _ g.3 h.3 (g.4 ∙ sym h.4))

-- "outputs untouched": what the caller's slice holds after the call
pub page-output : (book plan old : Bytes) → Holds (print_graph book plan (length old)) (λ out. out) old (page_output book plan old)
unfolding page_output overwrite written
page-output book plan old = (
  (λ out e.
      let g = graph-of book plan out (length old) e in
      let long : length out ≡ 81 * (instance_of g.0).intervals = sym (ap length g.4) ∙ page-length book g.0 g.1 _ in
      (omega (arith, long, g.2), ap (λ v. overwrite old (written v)) e)),
  (λ n d e. ap (λ v. overwrite old (written v)) e),
)
