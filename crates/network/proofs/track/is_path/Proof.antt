-- `track::is_path` meets its contract: the two branches are the two ways of `&&`, over what the calls ensure. Assumes nothing.
use borrow.Author.Rules.{rules}
use mathlib.Core.Path.{sym, ◌∙◌}
use Rattle.spec.specs.Runs.{is_path}
use Rattle.network.proofs.track.is_path.Statement.{statement}
use Rattle.network.proofs.track.is_path.Tie as tie

all-different-requires : tie.Need-all_different-requires
all-different-requires c κs = search rules

all-linked-requires : tie.Need-all_linked-requires
all-linked-requires c κs = search rules

returns : tie.Need-returns-then-all_different
unfolding is_path
returns c = let h = sym c.all_different.ensures ∙ c.if-all_different.true in simp (h, c.all_linked.ensures)

returns-2 : tie.Need-returns-else-all_different
unfolding is_path
returns-2 c = let h = sym c.all_different.ensures ∙ c.if-all_different.false in simp (h, c.if-all_different.false)

pub is_path_spec : {M : Type 1} → statement M
is_path_spec = tie.close (tie.spec all-different-requires all-linked-requires returns returns-2)
