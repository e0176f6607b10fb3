-- A file is accepted exactly where it is the file of a list of steps that fit their fields, are good one behind the other and
-- fit the lent slices. Assumes nothing.
use mathlib.Core.Path.{◌≡◌, refl, sym, ap, ap₂, ◌∙◌, subst}
use mathlib.Core.Logic.{◌↔◌, inl, inr}
use Prim.Native.Nat.{ℕ, zero, suc, ◌+◌, ◌*◌, ◌^◌, ◌≤◌, ◌<◌}
use native.Mathlib.Omega.{arith}
use mathlib.Core.List.{List, [], ◌∷◌, ◌++◌, map, append-nil, append_assoc}
use mathlib.Core.List.Memᴰ
use mathlib.Core.List.{Memᴰ}
use lib.ListN.{length, take, drop, length-append, length-map}
use lib.Seq.{take-add, take_all, drop-drop, drop_at}
use lib.Signed.{mag}
use lib.Dec.{T, ltb}
use Rattle.spec.specs.Lists.{Bytes, all, count, up_to, each, one, accepted}
use Rattle.spec.specs.Numbers.{little_endian, number, field, signed, unsigned}
use Rattle.spec.specs.Frames.{frame, step_kind, step_length_fits, payload_of, behind}
use Rattle.spec.specs.Formula.{Clause, words_of}
use Rattle.spec.specs.Refutation.{ProofStep, step_payload, file_of, literal_count, hint_count, step_in, InFields, Lent, clauses_fit}
use Rattle.spec.specs.Refutation.{GoodStep, GoodSteps, ending, going, check_file}
use Rattle.laws.proofs.Tests.{and-iff, leb-iff, eqb-iff, count-iff}
use Rattle.laws.proofs.Numbers.{bytes, length-little_endian, field-written, little_endian-field, field_lt}
use Rattle.laws.proofs.Numbers.{unsigned-lt, signed-unsigned, mag-signed, unsigned_signed}
use Rattle.laws.proofs.Frames.{payload_length-lt, length-payload_of, bytes-payload_of, bytes-behind, frame-read}
use Rattle.laws.proofs.Frames.{payload_of-frame, kind_field-frame, behind-frame, whole-frame}
use Rattle.laws.proofs.Parts.{each_append, length-count}
use Rattle.demands.proofs.Refuting.{step_at, Passes, Accepts, last_step, more_steps, accept-to, accept-from, rule-iff}

-- ---- rows of four-byte fields

-- values, each in four bytes as the number that `code` gives
write_row : {A : Type 0} → (A → ℕ) → List A → Bytes
write_row code xs = each xs λ x. little_endian 4 (code x)

-- n values, as `read` takes them, from place k of the row that starts at `at`
read_row : {A : Type 0} → (ℕ → A) → Bytes → ℕ → ℕ → ℕ → List A
read_row read p at k n = map (λ i. read (field p (at + 4 * i) 4)) (count k n)

module _ {A : Type 0} (read : ℕ → A) (code : A → ℕ) where
  length-write_row : (xs : List A) → length (write_row code xs) ≡ 4 * length xs
  unfolding write_row each
  length-write_row [] = refl
  length-write_row (x ∷ xs) =
      length-append (little_endian 4 (code x)) (write_row code xs)
      ∙ (let r = length-write_row xs in let q = length-little_endian 4 (code x) in omega arith)

  length-read_row : (p : Bytes) (at k n : ℕ) → length (read_row read p at k n) ≡ n
  unfolding read_row
  length-read_row p at k n = length-map (count k n) _ ∙ length-count k n

  -- what is read is written as it stood
  write_read : (p : Bytes) (at k n : ℕ) → ((m : ℕ) → m < 256 ^ 4 → code (read m) ≡ m) → T (bytes p)
      → at + 4 * (k + n) ≤ length p → write_row code (read_row read p at k n) ≡ take (4 * n) (drop (at + 4 * k) p)
  unfolding write_row read_row each count
  write_read p at k zero back b l = refl
  write_read p at k (suc n) back b l =
      let fits : at + 4 * k + 4 ≤ length p = omega arith in
      let next : at + 4 * suc k ≡ at + 4 * k + 4 = omega arith in
      let more : 4 * suc n ≡ 4 + 4 * n = omega arith in
      ap₂ (λ (xs ys : Bytes). xs ++ ys)
      (ap (little_endian 4) (back (field p (at + 4 * k) 4) (field_lt p (at + 4 * k) 4 b fits))
      ∙ little_endian-field p (at + 4 * k) 4 b fits)
      (write_read p at (suc k) n back b (omega arith))
      ∙ rw (more, take-add 4 (4 * n) (drop (at + 4 * k) p), drop-drop 4 (at + 4 * k) p, next)

  -- what holds of each number of four bytes holds of what is read
  read-each : (P : A → Type 0) → ((m : ℕ) → m < 256 ^ 4 → P (read m)) → (p : Bytes) (at n : ℕ) → T (bytes p)
      → at + 4 * n ≤ length p → (x : A) → Memᴰ x (read_row read p at 0 n) → P x
  unfolding read_row
  read-each P good p at n b l x m =
      let r = Memᴰ.of_map (λ i. read (field p (at + 4 * i) 4)) (count 0 n) m in
      let below = (count-iff n 0 r.0).0 r.1 in
      subst P r.2 (good (field p (at + 4 * r.0) 4) (field_lt p (at + 4 * r.0) 4 b (omega arith)))

  -- what is written is read as it was
  read-write : (p : Bytes) (at k : ℕ) (xs : List A) (rest : Bytes)
      → ((x : A) → Memᴰ x xs → (code x < 256 ^ 4) × (read (code x) ≡ x))
      → drop (at + 4 * k) p ≡ write_row code xs ++ rest → read_row read p at k (length xs) ≡ xs
  unfolding write_row read_row each count field
  read-write p at k [] rest good e = refl
  read-write p at k (x ∷ xs) rest good e =
      let next : at + 4 * suc k ≡ at + 4 * k + 4 = omega arith in
      let parts = e ∙ append_assoc (little_endian 4 (code x)) (write_row code xs) rest in
      let g = good x (Memᴰ.head refl) in
      let value = ap (λ (s : Bytes). number (take 4 s)) parts ∙ field-written 4 (code x) (write_row code xs ++ rest) g.0 in
      ap₂ (λ (y : A) (ys : List A). y ∷ ys) (ap read value ∙ g.1)
      (read-write p at (suc k) xs rest (λ y m. good y (Memᴰ.tail m))
      (rw (next, ← drop-drop 4 (at + 4 * k) p, parts)
      (drop_at (little_endian 4 (code x)) (write_row code xs ++ rest) 4 (length-little_endian 4 (code x)))))

-- ---- the payload of a step

-- a list in three parts
three-parts : (a b c : ℕ) (p : Bytes) → length p ≡ a + (b + c) → take a p ++ (take b (drop a p) ++ take c (drop (a + b) p)) ≡ p
three-parts a b c p e =
    rw (← drop-drop b a p, ← take-add b c (drop a p), ← take-add a (b + c) p) (take_all (a + (b + c)) p (omega arith))

-- a payload's parts, as they are written and as they are read
payload-parts : (s : ProofStep)
    → step_payload s ≡ little_endian 2 (length s.literals) ++ (write_row (unsigned 4) s.literals ++ write_row (λ h. h) s.hints)
unfolding step_payload write_row
payload-parts s = refl

literals-read : (p : Bytes) → (step_in p).literals ≡ read_row (signed 4) p 2 0 (literal_count p)
unfolding step_in read_row up_to
literals-read p = refl

hints-read : (p : Bytes) → (step_in p).hints ≡ read_row (λ h. h) p (2 + 4 * literal_count p) 0 (hint_count p)
unfolding step_in read_row up_to
hints-read p = refl

-- a payload whose length is right
module _ (p : Bytes) (sized : T (step_length_fits p)) where
  pub counts : length p ≡ 2 + (4 * literal_count p + 4 * hint_count p)
  unfolding step_length_fits literal_count hint_count
  counts = let q = simp (and-iff, leb-iff, eqb-iff) at sized in omega arith

  pub literals-length : length (step_in p).literals ≡ literal_count p
  literals-length = rw (literals-read p) (length-read_row (signed 4) (unsigned 4) p 2 0 (literal_count p))

  pub hints-length : length (step_in p).hints ≡ hint_count p
  hints-length = rw (hints-read p) (length-read_row (λ h. h) (λ h. h) p (2 + 4 * literal_count p) 0 (hint_count p))

  module _ (b : T (bytes p)) where
    -- what is read from it is written as it
    payload-read : step_payload (step_in p) ≡ p
    unfolding literal_count
    payload-read =
        let c = counts in
        let start : 2 + 4 * literal_count p + 4 * 0 ≡ 2 + 4 * literal_count p = omega arith in
        payload-parts (step_in p)
        ∙ rw (
          literals-length,
          little_endian-field p 0 2 b (omega arith),
          literals-read p,
          hints-read p,
          write_read (signed 4) (unsigned 4) p 2 0 (literal_count p) (unsigned_signed 4) b (omega arith),
          write_read (λ h. h) (λ h. h) p (2 + 4 * literal_count p) 0 (hint_count p) (λ m _. refl) b (omega arith),
          start,
        )
        (three-parts 2 (4 * literal_count p) (4 * hint_count p) p c)

    -- and fits its fields
    read_fits : length p < 256 ^ 2 → InFields (step_in p)
    read_fits short =
        let c = counts in record {
          payload_short = rw (literals-length, hints-length, ← c) short;
          literals_short = rw (literals-read p)
              (read-each (signed 4) (unsigned 4) (λ l. mag l * 2 < 256 ^ 4) (mag-signed 4) p 2 (literal_count p) b (omega arith));
          hints_short = rw (hints-read p)
              (read-each (λ h. h) (λ h. h) (λ h. h < 256 ^ 4) (λ m l. l) p (2 + 4 * literal_count p) (hint_count p) b (omega arith));
        }

-- a step that fits its fields
module _ (s : ProofStep) (f : InFields s) where
  payload-length : length (step_payload s) ≡ 2 + (4 * length s.literals + 4 * length s.hints)
  payload-length = rw (
    payload-parts s,
    length-append,
    length-little_endian 2,
    length-append,
    length-write_row (signed 4) (unsigned 4) s.literals,
    length-write_row (λ h. h) (λ h. h) s.hints,
  ) refl

  payload-short : length (step_payload s) < 256 ^ 2
  payload-short = rw payload-length f.payload_short

  literals-counted : literal_count (step_payload s) ≡ length s.literals
  unfolding literal_count
  literals-counted =
      let l = f.payload_short in
      rw (payload-parts s)
      (field-written 2 (length s.literals) (write_row (unsigned 4) s.literals ++ write_row (λ h. h) s.hints) (omega arith))

  hints-counted : hint_count (step_payload s) ≡ length s.hints
  unfolding hint_count
  hints-counted = rw (literals-counted, payload-length) (omega arith)

  payload-sized : T (step_length_fits (step_payload s))
  unfolding step_length_fits literal_count
  payload-sized = simp (literals-counted, payload-length, and-iff, leb-iff, eqb-iff) (omega arith)

  literals-written : (step_in (step_payload s)).literals ≡ s.literals
  literals-written =
      literals-read (step_payload s)
      ∙ rw literals-counted (read-write (signed 4) (unsigned 4) (step_payload s) 2 0 s.literals (write_row (λ h. h) s.hints)
      (λ l m. (unsigned-lt 4 l (f.literals_short l m), signed-unsigned 4 l (omega arith) (f.literals_short l m)))
      (rw (payload-parts s) (drop_at (little_endian 2 (length s.literals)) _ 2 (length-little_endian 2 (length s.literals)))))

  hints-written : (step_in (step_payload s)).hints ≡ s.hints
  hints-written =
      let count' = little_endian 2 (length s.literals) in
      let ls = write_row (unsigned 4) s.literals in
      let hs = write_row (λ h. h) s.hints in
      let size : length (count' ++ ls) ≡ 2 + 4 * length s.literals + 4 * 0
      = rw (length-append, length-little_endian 2, length-write_row (signed 4) (unsigned 4)) (omega arith) in
      hints-read (step_payload s)
      ∙ rw (literals-counted, hints-counted)
      (read-write (λ h. h) (λ h. h) (step_payload s) (2 + 4 * length s.literals) 0 s.hints [] (λ h m. (f.hints_short h m, refl))
      (rw (payload-parts s, ← append_assoc count' ls hs, append-nil hs) (drop_at (count' ++ ls) hs _ size)))

  -- what is written for it is read as it
  step-written : step_in (step_payload s) ≡ s
  step-written = λ i. record { literals = literals-written i; hints = hints-written i }

-- ---- the lent slices

-- where clauses fit, the first of them do
fits-prefix : (lent : Lent) (cs ds : List Clause) → T (clauses_fit lent (cs ++ ds)) → T (clauses_fit lent cs)
unfolding clauses_fit words_of
fits-prefix lent cs ds h =
    let p = simp (and-iff, leb-iff, each_append, length-append) at h in
    simp (and-iff, leb-iff) (omega arith)

-- ---- one step of a file

abbrev step_frame : ProofStep → Bytes
step_frame st = frame step_kind (step_payload st)

module _ (lent : Lent) (vars : ℕ) where
  passes-good : {cs : List Clause} {s : Bytes} → Passes lent vars cs s → GoodStep vars cs (step_at s)
  passes-good {cs} {s} p = let r = (rule-iff vars cs (step_at s) p.literals_good).0 p.rule in record
      { literals_good = p.literals_good; hints_good = p.hints_good; start = r.0; start_taken = r.1; rule = r.2 }

  -- a step that passes is the frame of the step that is read
  passes-frame : {cs : List Clause} {s : Bytes} → T (bytes s) → Passes lent vars cs s
      → (s ≡ step_frame (step_at s) ++ behind s) × InFields (step_at s)
  passes-frame {cs} {s} b p =
      let pb = bytes-payload_of s b in (
        frame-read s b p.whole
            ∙ ap₂ (λ (k : ℕ) (q : Bytes). frame k q ++ behind s) p.kind (sym (payload-read (payload_of s) p.sized pb)),
        read_fits (payload_of s) p.sized pb (rw (length-payload_of s p.whole) (payload_length-lt s b p.whole)),
      )

  -- a good step that fits is read where it is written, and passes
  module _ (st : ProofStep) (f : InFields st) (rest : Bytes) where
    small : step_kind < 256 ^ 2
    unfolding step_kind
    small = omega arith

    payload-back : payload_of (step_frame st ++ rest) ≡ step_payload st
    payload-back = payload_of-frame step_kind (step_payload st) rest small (payload-short st f)

    step_back : step_at (step_frame st ++ rest) ≡ st
    step_back = rw payload-back (step-written st f)

    behind-back : behind (step_frame st ++ rest) ≡ rest
    behind-back = behind-frame step_kind (step_payload st) rest small (payload-short st f)

    passes-written : (cs : List Clause) → GoodStep vars cs st → T (clauses_fit lent (cs ++ one st.literals))
        → Passes lent vars cs (step_frame st ++ rest)
    passes-written cs g room = record {
      whole = whole-frame step_kind (step_payload st) rest small (payload-short st f);
      kind = kind_field-frame step_kind (step_payload st) rest small (payload-short st f);
      sized = rw payload-back (payload-sized st f);
      literals_good = rw step_back g.literals_good;
      hints_good = rw step_back g.hints_good;
      room = rw step_back room;
      rule = rw step_back ((rule-iff vars cs st g.literals_good).1 (g.start, g.start_taken, g.rule));
    }

  -- ---- the whole file

  -- the file of a list of steps as document 01 lays it down
  abbrev pub FileOfSteps : List Clause → Bytes → Type 0
  FileOfSteps cs s =
      (steps : List ProofStep) × (s ≡ file_of steps) × ((st : ProofStep) → Memᴰ st steps → InFields st)
      × GoodSteps vars cs steps × T (clauses_fit lent (cs ++ map (λ st. st.literals) steps))

  -- the steps of an accepted file of bytes
  steps-read : {cs : List Clause} {s : Bytes} → Accepts lent vars cs s → T (bytes s) → FileOfSteps cs s
  unfolding file_of each
  steps-read (last_step {cs} {s} p l e) b =
      let st = step_at s in
      let r = passes-frame b p in (
        one st,
        r.0 ∙ ap (λ (t : Bytes). step_frame st ++ t) e,
        λ k m. rw (Memᴰ.eq_of_singleton m) r.1,
        ending (passes-good p) l,
        p.room,
      )
  steps-read (more_steps {cs} {s} p l a) b =
      let st = step_at s in
      let r = passes-frame b p in
      let rest = steps-read a (bytes-behind s b) in (
        st ∷ rest.0,
        r.0 ∙ ap (λ (t : Bytes). step_frame st ++ t) rest.1,
        λ k m. elim (Memᴰ.cases_cons m) [ inl e ↦ rw e r.1 | inr n ↦ rest.2 k n ],
        going (passes-good p) l rest.3,
        rw append_assoc at rest.4,
      )

  -- the file of good steps that fit
  steps-written : {cs : List Clause} {steps : List ProofStep} → GoodSteps vars cs steps
      → ((st : ProofStep) → Memᴰ st steps → InFields st)
      → T (clauses_fit lent (cs ++ map (λ st. st.literals) steps)) → Accepts lent vars cs (file_of steps)
  unfolding file_of each
  steps-written (ending {cs} {s = st} g l) fits room =
      let f = fits st (Memᴰ.head refl) in
      last_step (passes-written st f [] cs g room) (rw (step_back st f []) l) (behind-back st f [])
  steps-written (going {cs} {s = st} {steps} g l more) fits room =
      let f = fits st (Memᴰ.head refl) in
      let room' = rw (← append_assoc cs (one st.literals)) at room in
      let next = steps-written more (λ k m. fits k (Memᴰ.tail m)) room' in
      more_steps (passes-written st f (file_of steps) cs g (fits-prefix lent (cs ++ one st.literals) _ room'))
      (rw (step_back st f (file_of steps)) l) (rw (step_back st f (file_of steps), behind-back st f (file_of steps)) next)

  -- a file of such steps is accepted, whatever its numbers
  pub file-accepted : (cs : List Clause) (s : Bytes) → FileOfSteps cs s → check_file lent vars cs s ≡ accepted tt
  unfolding check_file
  file-accepted cs s r =
      let a = subst (Accepts lent vars cs) (sym r.1) (steps-written r.3 r.2 r.4) in
      accept-from lent vars (suc (length s)) 1 a (omega arith)

  -- a file of bytes is accepted exactly where it is the file of such steps
  pub file-iff : (cs : List Clause) (s : Bytes) → T (all (λ x. ltb x 256) s) → check_file lent vars cs s ≡ accepted tt
      ↔ ((steps : List ProofStep) × (s ≡ file_of steps) × ((st : ProofStep) → Memᴰ st steps → InFields st)
      × GoodSteps vars cs steps × T (clauses_fit lent (cs ++ map (λ st. st.literals) steps)))
  unfolding check_file
  file-iff cs s b = (λ h. steps-read (accept-to lent vars (suc (length s)) 1 cs s h) b, file-accepted cs s)
