-- A whole frame at a place of a file: what the code's tests in a row, and the answer of its content, say of the first fault
-- there. Assumes nothing.
use mathlib.Core.Path.{◌≡◌, refl, sym, ap, ap₂, ◌∙◌}
use mathlib.Core.Logic.{◌≢◌}
use mathlib.Core.Bool.{true, false}
use mathlib.Core.Option.{Option, none, some}
use Prim.Native.Nat.{ℕ, ◌+◌, ◌-◌, ◌≤◌}
use native.Mathlib.Omega.{arith}
use lib.ListN.{length, take, drop, length-drop}
use lib.Seq.{drop-drop}
use lib.Dec.{T, eqb}
use Rattle.std.specs.Prelude.{Some, None}
use Rattle.model.specs.declared.Book.{Book as BookStruct}
use Rattle.spec.specs.Lists.{Bytes, Verdict, accepted, refused, first_fault}
use Rattle.laws.proofs.Tests.{true_of, false_of, from-denied, eqb-iff}
use Rattle.laws.proofs.Frames.{whole-iff}
use Rattle.spec.specs.Reached.{Reached, at_start, behind_head}
use Rattle.spec.specs.Frames.{Format, kind_number, kind_order, find_kind, cut_short, kind_field, payload_length, payload_of, behind, rank}
use Rattle.spec.specs.Book.{Book}
use Rattle.spec.specs.Read.{growing, Reading, frame_faults, kind_faults, out_of_order, unknown_kind, is_end, past_frame, add_found, refuse_or}
use Rattle.spec.specs.Answers.{accepted_as}
use Rattle.spec.specs.Held.{packed}
use Rattle.frames.specs.Framed.{framed_at, kind_said, kind_in, place_of, out_of_order_by}
use Rattle.frames.specs.declared.Frame.{Frame}
use Rattle.frames.specs.declared.Kind.{Kind as KindCase}
use Rattle.frames.specs.declared.Kind.TheVariants.{Head, Node, Segment, Join, Train, Call, Unbreakable, End}
use Rattle.frames.proofs.Order.{not_first, in-said, said-number, said-other, rank-placed, place_said}
use Rattle.reader.specs.BookAnswers.{added_found, stepped_at}
use Rattle.reader.proofs.FrameTests.{first-cut, first-unknown, first-order, first-content, known-rank, unknown-rank, order-by}
use Rattle.reader.proofs.Steps.{whole_says, cut-says, step-stop, step_end, step-more}

-- an answer of a frame's content, taken apart
settled-refused : (o : Option ℕ) (b : Book) {n d : ℕ} → accepted_as packed (refuse_or o b) ≡ refused n d → (o ≡ some n) × (d ≡ 0)
unfolding refuse_or
settled-refused (some m) b e = (cc, cc)
settled-refused none b e = (cc, cc)

settled-fine : (o : Option ℕ) (b : Book) {x : BookStruct} → accepted_as packed (refuse_or o b) ≡ accepted x → (o ≡ none) × (x ≡ packed b)
unfolding refuse_or
settled-fine (some m) b e = (cc, cc)
settled-fine none b e = (cc, cc)

-- a kind's place is none behind them all
place-known : (k : KindCase) → place_of k ≢ 9
place-known Head = λ e. omega arith
place-known Node = λ e. omega arith
place-known Segment = λ e. omega arith
place-known Join = λ e. omega arith
place-known Train = λ e. omega arith
place-known Call = λ e. omega arith
place-known Unbreakable = λ e. omega arith
place-known End = λ e. omega arith

-- the payload of a whole frame at a place
pub payload-here : (s : Bytes) (at : ℕ) {f : Frame} → framed_at (drop at s) ≡ Some f
    → take (at + 4 + f.len - (at + 4)) (drop (at + 4) s) ≡ payload_of (drop at s)
unfolding payload_of
payload-here s at {f} whole =
    let size : at + 4 + f.len - (at + 4) ≡ payload_length (drop at s) = omega (arith, (whole_says (drop at s) whole).2) in
    ap₂ (λ (n : ℕ) (l : Bytes). take n l) size (sym (drop-drop 4 at s))

module _ (F : Format) (b : Book) (last : ℕ) (s : Bytes) (at : ℕ) where
  abbrev here : Reading
  here = record { last = last; book = b }

  -- a frame that is cut is refused by 1
  pub cut-here : framed_at (drop at s) ≡ None → refused 1 0 ≡ stepped_at F here (drop at s) at
  cut-here e = step-stop F here (drop at s) at 1 (first-cut F here (drop at s) (cut-says (drop at s) e))

  module _ {f : Frame} (whole : framed_at (drop at s) ≡ Some f) where
    says : (cut_short (drop at s) ≡ false) × (kind_field (drop at s) ≡ f.kind) × (payload_length (drop at s) ≡ f.len)
    says = whole_says (drop at s) whole

    -- how much stands behind it
    behind-here : length (behind (drop at s)) ≡ length s - (at + 4 + f.len)
    unfolding behind
    behind-here = length-drop (4 + payload_length (drop at s)) (drop at s) ∙ omega (arith, length-drop at s, says.2)

    order-here : out_of_order last (drop at s) ≡ out_of_order_by last f.kind (length s - (at + 4 + f.len))
    order-here = order-by last (drop at s) ∙ ap₂ (out_of_order_by last) says.1 behind-here

    pub unknown-here : None ≡ kind_said (find_kind f.kind kind_order) → refused 2 0 ≡ stepped_at F here (drop at s) at
    unknown-here e =
        step-stop F here (drop at s) at 2
        (first-unknown F here (drop at s) says.0 (ap unknown_kind says.1 ∙ unknown-rank f.kind (rank-placed f.kind ∙ ap place_said (sym e))))

    -- its kind is known
    module _ {k : KindCase} (found : Some k ≡ kind_said (find_kind f.kind kind_order)) where
      known-here : unknown_kind (kind_field (drop at s)) ≡ false
      known-here =
          ap unknown_kind says.1 ∙ known-rank f.kind (λ e. place-known k (ap place_said found ∙ sym (rank-placed f.kind) ∙ e))

      pub disorder-here : out_of_order_by last f.kind (length s - (at + 4 + f.len)) ≡ true → refused 3 0 ≡ stepped_at F here (drop at s) at
      disorder-here e = step-stop F here (drop at s) at 3 (first-order F here (drop at s) says.0 known-here (order-here ∙ e))

      -- it stands in order, and its content was answered
      module _ (order : out_of_order_by last f.kind (length s - (at + 4 + f.len)) ≡ false) {v : Verdict BookStruct}
          (answer : v ≡ added_found F b (some (kind_in k)) (take (at + 4 + f.len - (at + 4)) (drop (at + 4) s))) where
        content : first_fault (frame_faults F here (drop at s))
            ≡ first_fault (kind_faults F b (find_kind (kind_field (drop at s)) kind_order) (payload_of (drop at s)))
        content = first-content F here (drop at s) says.0 known-here (order-here ∙ order)

        -- the answer, by the frame's own words
        answered : v ≡ added_found F b (find_kind (kind_field (drop at s)) kind_order) (payload_of (drop at s))
        answered =
            answer
            ∙ ap₂ (added_found F b) (sym (in-said (find_kind f.kind kind_order) found) ∙ ap (λ n. find_kind n kind_order) (sym says.1))
            (payload-here s at whole)

        pub refused-here : {n d : ℕ} → v ≡ refused n d → refused n d ≡ stepped_at F here (drop at s) at
        unfolding added_found
        refused-here {n} e =
            let h = settled-refused _ _ (sym answered ∙ e) in
            ap (refused n) h.1 ∙ step-stop F here (drop at s) at n (content ∙ h.0)

        fine-here : {x : BookStruct} → v ≡ accepted x → (first_fault (frame_faults F here (drop at s)) ≡ none) × (x ≡ packed (past_frame F here (drop at s)).book)
        unfolding added_found past_frame
        fine-here e = let h = settled-fine _ _ (sym answered ∙ e) in (content ∙ h.0, h.1)

        -- the End, and what goes on behind another frame
        pub ends-here : {x : BookStruct} → v ≡ accepted x → k ≡ End → accepted None ≡ stepped_at F here (drop at s) at
        unfolding is_end kind_number
        ends-here e h =
            let n : f.kind ≡ 8 = said-number f.kind found ∙ ap (λ j. kind_number (kind_in j)) h in
            step_end F here (drop at s) at (fine-here e).0 (true_of (eqb (kind_field (drop at s)) 8) ((eqb-iff (kind_field (drop at s)) 8).1 (says.1 ∙ n)))

        pub goes-here : {x : BookStruct} {l : ℕ} → v ≡ accepted x → k ≢ End → l ≡ rank f.kind
            → accepted (Some (record { book = x; last = l; at = at + 4 + f.len })) ≡ stepped_at F here (drop at s) at
        unfolding is_end kind_number find_kind kind_order
        goes-here e h l =
            let n : f.kind ≢ 8 = said-other f.kind found {m = 8} refl h in
            let place : at + 4 + f.len ≡ at + (4 + payload_length (drop at s)) = omega (arith, says.2) in
            let of-kind = l ∙ ap rank (sym says.1) in
            let g = fine-here e in
            (λ i. accepted (Some (record { book = g.1 i; last = of-kind i; at = place i })))
            ∙ step-more F here (drop at s) at g.0 (false_of (eqb (kind_field (drop at s)) 8) (λ t. n (sym says.1 ∙ (eqb-iff (kind_field (drop at s)) 8).0 t)))

-- ---- what the content asks

-- behind the Head the book is growing
pub growing-here : (kind left : ℕ) {last : ℕ} {b : Book} {k : KindCase} → Reached (record { last = last; book = b }) → Some k ≡ kind_said (find_kind kind kind_order)
    → out_of_order_by last kind left ≡ false → k ≢ Head → T (growing b)
unfolding find_kind kind_order kind_number
growing-here kind left {last} (at_start l e) s f h =
    let z = not_first last kind left l (said-other kind s {m = 1} refl h) ∙ f in absurd (cc)
growing-here kind left (behind_head l g) s f h = g

-- ---- at a place of a file

-- a whole frame ends within the file
pub whole_room : (s : Bytes) (at : ℕ) {f : Frame} → at ≤ length s → framed_at (drop at s) ≡ Some f → at + (4 + f.len) ≤ length s
whole_room s at {f} h e =
    let w = whole_says (drop at s) e in
    let k = (whole-iff (drop at s)).0 (from-denied w.0) in
    omega (arith, k, length-drop at s, w.2)
