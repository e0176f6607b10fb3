-- "A train graph on paper" (document 02, P2): of a plan, a line an interval. Assumes nothing.
use Rattle.std.specs.Prelude.{ℕ, ◌*◌, ◌∷◌, ◌++◌, length, get_or, replicate}
use Rattle.spec.specs.Lists.{Bytes, each, up_to, one, last_or, Verdict, accepted, and_then}
use Rattle.spec.specs.Numbers.{in_digits, aligned}
use Rattle.spec.specs.Held.{padded}
use Rattle.spec.specs.Instance.{Instance}
use Rattle.spec.specs.Plan.{Plan, Move, run, absent, gone}
use Rattle.spec.specs.Entry.{after_plan, read_instance, overwrite, written}

abbrev pub blank : ℕ
blank = 32

abbrev pub newline : ℕ
newline = 10

-- ---- what is shown of a train in an interval

-- "the rear segment at the start", "the front segment at the end" and "segments moved" of its run; "Absent"; "gone"
pub data Shown : Type 0 where
  shown_run : (rear front moved : ℕ) → Shown
  shown_absent : Shown
  shown_gone : Shown

-- A run is a path, rear first: its first segment is the rear at the start, its last one the front at the end.
unfoldable pub shown_move : Instance → ℕ → Move → Shown
shown_move I i (run r) = shown_run (get_or (I.path i r) 0 0) (last_or 0 (I.path i r)) (I.moved i r)
shown_move I i absent = shown_absent
shown_move I i gone = shown_gone

-- of a plan, by train and interval
unfoldable pub shown_of : Instance → Plan → ℕ → ℕ → Shown
shown_of I p i t = shown_move I i (p.move i t)

-- ---- the page

-- "Absent shows a dot in the cell's second byte, gone a star, the other eight blank."
unfoldable pub marked : ℕ → Bytes
marked mark = blank ∷ mark ∷ replicate 7 blank

-- "nine bytes a train: blank, the rear segment at the start in two digits with a leading zero, a hyphen, the front segment at the
-- end in two digits, blank, segments moved in one digit, blank"
unfoldable pub cell : Shown → Bytes
cell (shown_run rear front moved) =
    blank ∷ (in_digits 2 rear ++ (45 ∷ (in_digits 2 front ++ (blank ∷ (in_digits 1 moved ++ one blank)))))
cell shown_absent = marked 46
cell shown_gone = marked 42

-- the cells of an interval
unfoldable pub cells : Instance → Plan → ℕ → Bytes
cells I p t = each (up_to I.trains) λ i. cell (shown_of I p i t)

-- "one line an interval, 80 bytes and a newline. Bytes 1 to 3 hold the interval, right-aligned; byte 4 is blank; then nine bytes a
-- train", and "The rest of the line is blanks."
unfoldable pub page_line : Instance → Plan → ℕ → Bytes
page_line I p t = padded 80 blank (aligned 3 t ++ (blank ∷ cells I p t)) ++ one newline

-- "print one line an interval"
unfoldable pub page : Instance → Plan → Bytes
page I p = each (up_to I.intervals) λ t. page_line I p t

-- how long it is: "80 bytes and a newline" an interval
unfoldable pub page_bytes : Instance → ℕ
page_bytes I = 81 * I.intervals

-- ---- the entry point; lent: an output of the page's bytes

-- "12 also covers a short page, 15 and 16 a bad plan."
unfoldable pub page_for : Instance → Bytes → ℕ → Verdict Bytes
page_for I plan out_length = after_plan I plan (page_bytes I) out_length λ p. accepted (page I p)

unfoldable pub print_graph : Bytes → Bytes → ℕ → Verdict Bytes
print_graph book plan out_length = and_then (read_instance book) λ I. page_for I plan out_length

-- what the output holds after the call
unfoldable pub page_output : Bytes → Bytes → Bytes → Bytes
page_output book plan old = overwrite old (written (print_graph book plan (length old)))
