-- A case's place is one more than its tag. Assumes nothing.
use Rattle.std.proofs.Common.{◌≡◌, ℕ, ◌+◌, refl, sym, ap, ◌∙◌}
use denote.Enum.Declared.{tag_of}
use Rattle.frames.specs.contracts.Kind.{the_type}
use Rattle.frames.specs.declared.Kind.{Kind}
use Rattle.frames.specs.declared.Kind.TheVariants.{Head, Node, Segment, Join, Train, Call, Unbreakable, End}
use Rattle.frames.specs.Framed.{place_of}
use Rattle.frames.proofs.Order.{rank-placed, place_said}
use Rattle.frames.proofs.rank.Goals as goal

tagged : (k : Kind) → tag_of the_type k + 1 ≡ place_of k
tagged Head = refl
tagged Node = refl
tagged Segment = refl
tagged Join = refl
tagged Train = refl
tagged Call = refl
tagged Unbreakable = refl
tagged End = refl

pub returns-in-Some : goal.returns-in-Some
returns-in-Some c = tagged c.in-Some.kind ∙ ap place_said (sym c.in-Some.is ∙ c.kind_of.ensures) ∙ sym (rank-placed c.args.number)

pub returns-in-None : goal.returns-in-None
returns-in-None c = ap place_said (sym c.in-None.is ∙ c.kind_of.ensures) ∙ sym (rank-placed c.args.number)
