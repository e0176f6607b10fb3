-- What the library answers beside the entry points of document 01, so that no drawing and no tool states a rule of the core a
-- second time: a book's sizes, the sections under a set of borders, a train's runs, and what a variable stands for. What is not
-- there is a case of its own, with no number of document 01's. Assumes nothing.
use Rattle.std.specs.Prelude.{Bool, true, false, ◌&&◌, ℕ, zero, suc, ◌+◌, List, [], ◌∷◌, ◌++◌, map, length, get_or, leb, ltb, eqb}
use Rattle.std.proofs.Math.Option.{Option}
use Rattle.spec.specs.Lists.{Bytes, all, up_to, each, Verdict, accepted, and_then}
use Rattle.spec.specs.Book.{Book, train_at}
use Rattle.spec.specs.Read.{read_book}
use Rattle.spec.specs.Runs.{runs_of}
use Rattle.spec.specs.Instance.{Instance, train_length, free_nodes_of}
use Rattle.spec.specs.Sections.{section_labels}
use Rattle.spec.specs.Plan.{plan_length, borders_of, is_bit}
use Rattle.spec.specs.Cap.{counter_of}
use Rattle.spec.specs.Formula.{formula, variables, words_of}
use Rattle.spec.specs.Entry.{demand, overwrite, written, read_instance, read_under}

-- ---- the sizes of a book: what it counts, and how much its outputs need

pub record Sizes : Type 0 where
  pub intervals : ℕ
  pub nodes : ℕ
  pub free_nodes : ℕ
  pub segments : ℕ
  pub trains : ℕ
  pub variable_count : ℕ
  pub clause_count : ℕ
  pub word_count : ℕ
  pub plan_bytes : ℕ

unfoldable pub sizes_of : Instance → Sizes
sizes_of I = record {
  intervals = I.intervals;
  nodes = I.nodes;
  free_nodes = length (free_nodes_of I);
  segments = I.segments;
  trains = I.trains;
  variable_count = variables I;
  clause_count = length (formula I);
  word_count = length (words_of (formula I));
  plan_bytes = plan_length I;
}

unfoldable pub measure_book : Option ℕ → Bytes → Verdict Sizes
measure_book cap book = and_then (read_under cap book) λ I. accepted (sizes_of I)

-- ---- the sections under a set of borders; lent: an output of a byte a segment

-- 15: a byte 0 or 1 a node, as a plan begins
unfoldable pub borders_fit : Instance → Bytes → Bool
borders_fit I s = eqb (length s) I.nodes && all is_bit s

-- of an instance: 12, then 15, then each segment's label
unfoldable pub labelled_for : Instance → Bytes → ℕ → Verdict Bytes
labelled_for I borders out_length =
    and_then (demand (leb I.segments out_length) 12) λ _.
    and_then (demand (borders_fit I borders) 15) λ _.
    accepted (section_labels I (borders_of borders))

unfoldable pub label_sections : Bytes → Bytes → ℕ → Verdict Bytes
label_sections book borders out_length = and_then (read_instance book) λ I. labelled_for I borders out_length

-- what the output holds after the call
unfoldable pub labels_output : Bytes → Bytes → Bytes → Bytes
labels_output book borders old = overwrite old (written (label_sections book borders (length old)))

-- ---- run r of train i

pub data RunAsked : Type 0 where
  no_train : RunAsked
  -- the train has so many runs
  no_run : ℕ → RunAsked
  -- how many runs the train has, its l, and the run's directed segments
  shown : ℕ → ℕ → List ℕ → RunAsked

unfoldable pub run_among : List (List ℕ) → ℕ → ℕ → RunAsked
run_among runs l r = elim (ltb r (length runs)) [ true ↦ shown (length runs) l (get_or runs r []) | false ↦ no_run (length runs) ]

unfoldable pub run_asked : Book → ℕ → ℕ → RunAsked
run_asked b i r =
    elim (ltb i (length b.trains)) [ true ↦ run_among (runs_of b (train_at b i)) (train_length b i) r | false ↦ no_train ]

unfoldable pub ask_run : Bytes → ℕ → ℕ → Verdict RunAsked
ask_run book i r = and_then (read_book book) λ b. accepted (run_asked b i r)

-- ---- what variable v stands for, v counted from 1 as in the text

pub data Meaning : Type 0 where
  -- a node's border
  border : ℕ → Meaning
  -- in a train's interval: a run, gone, or the claim of a segment
  run : ℕ → ℕ → ℕ → Meaning
  gone : ℕ → ℕ → Meaning
  claim : ℕ → ℕ → ℕ → Meaning
  -- under a cap: of the nodes of kind 1 up to this one at least so many are set
  counted : ℕ → ℕ → Meaning
  no_variable : Meaning

-- "by train and interval: its runs, gone, and one claim a segment"
unfoldable pub meanings_in : Instance → ℕ → ℕ → List Meaning
meanings_in I i t = map (run i t) (up_to (I.runs i)) ++ (gone i t ∷ map (claim i t) (up_to I.segments))

-- the cap's, in their order (`Cap`): node j + k is the last of the first j + k + 1 nodes of kind 1
unfoldable pub cap_meanings : Instance → List Meaning
cap_meanings I = each (up_to (counter_of I).most) λ j.
    map (λ k. counted (get_or (free_nodes_of I) (j + k) 0) (suc j)) (up_to (counter_of I).spare)

-- "Variables: node borders 1 to N; then by train and interval": what they stand for, in their order; the cap's "follow all others"
unfoldable pub meanings : Instance → List Meaning
meanings I =
    map border (up_to I.nodes)
    ++ ((each (up_to I.trains) λ i. each (up_to I.intervals) λ t. meanings_in I i t) ++ cap_meanings I)

unfoldable pub meaning_of : Instance → ℕ → Meaning
meaning_of I zero = no_variable
meaning_of I (suc v) = get_or (meanings I) v no_variable

unfoldable pub ask_variable : Option ℕ → Bytes → ℕ → Verdict Meaning
ask_variable cap book v = and_then (read_under cap book) λ I. accepted (meaning_of I v)
