-- Answers to verdicts that are made of parts: a demand and a search behind it, and a check that goes on from a book's bytes. Assumes
-- nothing.
use mathlib.Core.Path.{◌≡◌, sym, ap, ◌∙◌}
use mathlib.Core.Bool.{Bool, true, false}
use mathlib.Core.Option.{Option, none, some}
use Prim.Native.Nat.{ℕ}
use Rattle.spec.specs.Lists.{Bytes, Verdict, accepted, refused, and_then}
use Rattle.spec.specs.Book.{Book}
use Rattle.spec.specs.Read.{read_book}
use Rattle.spec.specs.Instance.{Instance, instance_of}
use Rattle.spec.specs.Entry.{demand, find_none, read_instance}

-- ---- a demand, then a search that is to find nothing

abbrev pub judged : Bool → ℕ → Option ℕ → ℕ → Verdict (Unit {0})
judged fits a o b = and_then (demand fits a) λ _. find_none o b

module _ (a b : ℕ) where
  pub judged-unfit : {fits : Bool} (o : Option ℕ) → fits ≡ false → refused a 0 ≡ judged fits a o b
  unfolding and_then demand
  judged-unfit o e = ap (λ (t : Bool). judged t a o b) (sym e)

  pub judged-found : {fits : Bool} {o : Option ℕ} (k : ℕ) → fits ≡ true → o ≡ some k → refused b k ≡ judged fits a o b
  unfolding and_then demand find_none
  judged-found {o = o} k e f =
      ap (λ (p : Option ℕ). judged true a p b) (sym f) ∙ ap (λ (t : Bool). judged t a o b) (sym e)

  pub judged-none : {fits : Bool} {o : Option ℕ} → fits ≡ true → o ≡ none → accepted tt ≡ judged fits a o b
  unfolding and_then demand find_none
  judged-none {o = o} e f =
      ap (λ (p : Option ℕ). judged true a p b) (sym f) ∙ ap (λ (t : Bool). judged t a o b) (sym e)

-- ---- from a book's bytes

-- a check goes on from the book's instance, or stops with the book's refusal
module _ {A : Type 0} (s : Bytes) (f : Instance → Verdict A) where
  pub goes_on : (b : Book) → read_book s ≡ accepted b → and_then (read_instance s) f ≡ f (instance_of b)
  unfolding read_instance and_then
  goes_on b e = ap (λ (v : Verdict Book). and_then (and_then v λ b. accepted (instance_of b)) f) e

  pub stops : (n d : ℕ) → read_book s ≡ refused n d → and_then (read_instance s) f ≡ refused n d
  unfolding read_instance and_then
  stops n d e = ap (λ (v : Verdict Book). and_then (and_then v λ b. accepted (instance_of b)) f) e
