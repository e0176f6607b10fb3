-- The programs over the entry points: "they lend at most 64 KiB a slice, refuse longer input by 12 first, and on a refusal print
-- its number, a blank and its detail". What is printed here is what a program hands to the output. Assumes nothing.
use Rattle.std.specs.Prelude.{Bool, true, false, ◌||◌, ℕ, ◌/◌, [], ◌∷◌, ◌++◌, length, ltb}
use Rattle.std.proofs.Math.Option.{Option}
use Rattle.spec.specs.Lists.{Bytes, Verdict, accepted, refused}
use Rattle.spec.specs.Numbers.{decimal}
use Rattle.spec.specs.Refutation.{Lent}
use Rattle.spec.specs.Entry.{formula_text, check_assignment, unpack_plan, check_plan, check_refutation, check_fewest}
use Rattle.spec.specs.Upgrade.{upgrade_book}
use Rattle.spec.specs.Page.{print_graph}
use Rattle.spec.specs.Carriers.{list_carriers}

-- "at most 64 KiB a slice", in bytes; how many entries of so many bytes a slice then has
unfoldable pub slice_bytes : ℕ
slice_bytes = 65536

unfoldable pub slice_of : ℕ → ℕ
slice_of width = slice_bytes / width

-- a word has four bytes, an entry a clause and an entry of the trail eight, a value one
unfoldable pub program_lent : Lent
program_lent = record { words = slice_of 4; clauses = slice_of 8; values = slice_of 1; trail = slice_of 8 }

-- "refuse longer input by 12 first"
unfoldable pub unless_long : {A : Type 0} → Bool → Verdict A → Verdict A
unless_long true v = refused 12 0
unless_long false v = v

unfoldable pub is_long : Bytes → Bool
is_long s = ltb slice_bytes (length s)

-- "the word accepted on a line", or what is printed instead
unfoldable pub accepted_line : Bytes
accepted_line = 97 ∷ 99 ∷ 99 ∷ 101 ∷ 112 ∷ 116 ∷ 101 ∷ 100 ∷ 10 ∷ []

-- "its number, a blank and its detail", on a line
unfoldable pub refusal_line : ℕ → ℕ → Bytes
refusal_line n d = decimal n ++ (32 ∷ (decimal d ++ (10 ∷ [])))

unfoldable pub printed : {A : Type 0} → (A → Bytes) → Verdict A → Bytes
printed show (accepted a) = show a
printed show (refused n d) = refusal_line n d

-- print_formula, with the book on standard input
unfoldable pub print_formula : Option ℕ → Bytes → Bytes
print_formula cap book = printed (λ t. t) (unless_long (is_long book) (formula_text cap book (slice_of 4)))

-- check_assignment, check_plan and check_refutation, with the book and the second input; either may be too long. With no third name
-- check_assignment judges, and lends no plan slice;
unfoldable pub print_assignment : Option ℕ → Bytes → Bytes → Bytes
print_assignment cap book s = printed (λ _. accepted_line) (unless_long (is_long book || is_long s) (check_assignment cap book s))

-- with one it unpacks the plan, which goes to that file
unfoldable pub print_unpacking : Option ℕ → Bytes → Bytes → Bytes
print_unpacking cap book s = printed (λ _. accepted_line) (unless_long (is_long book || is_long s) (unpack_plan cap book s (slice_of 1)))

unfoldable pub print_plan : Option ℕ → Bytes → Bytes → Bytes
print_plan cap book s = printed (λ _. accepted_line) (unless_long (is_long book || is_long s) (check_plan cap book s (slice_of 1)))

unfoldable pub print_refutation : Option ℕ → Bytes → Bytes → Bytes
print_refutation cap book s = printed (λ _. accepted_line) (unless_long (is_long book || is_long s) (check_refutation cap book s program_lent))

-- check_fewest, with the book, n and both of a solver's inputs; each of the three may be too long
unfoldable pub print_fewest : Bytes → ℕ → Bytes → Bytes → Bytes
print_fewest book n assignment refutation =
    printed (λ _. accepted_line)
    (unless_long (is_long book || is_long assignment || is_long refutation) (check_fewest book n assignment refutation program_lent))

-- upgrade_book, with the old book; the new one goes to a file
unfoldable pub print_upgrade : Bytes → Bytes
print_upgrade old = printed (λ _. accepted_line) (unless_long (is_long old) (upgrade_book old (slice_of 1)))

-- print_graph, with the book and the plan; either may be too long
unfoldable pub print_page : Bytes → Bytes → Bytes
print_page book plan = printed (λ page. page) (unless_long (is_long book || is_long plan) (print_graph book plan (slice_of 1)))

-- list_carriers, with the book and the plan; the list goes to a file
unfoldable pub print_carriers : Bytes → Bytes → Bytes
print_carriers book plan = printed (λ _. accepted_line) (unless_long (is_long book || is_long plan) (list_carriers book plan (slice_of 1)))
