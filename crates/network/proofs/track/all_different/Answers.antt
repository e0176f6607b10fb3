-- `track::all_different` meets its contract: each turn asks of one directed segment whether one behind it is on its segment.
-- Assumes nothing.
use Rattle.std.proofs.Common.{◌≡◌, ◌<◌, ◌+◌, ◌/◌, ℕ, Bool, not, ◌&&◌, List, map, length, take, drop, get_or, eqb, refl, sym, ap, ◌∙◌, rules, tests}
use Rattle.std.proofs.lemmas.List.{drop_more, drop_all, take_rest}
use Rattle.std.proofs.lemmas.Iterator.{YieldsList-from_slice}
use Rattle.std.proofs.lemmas.Iterator.Search.{any_from_yields_List}
use Rattle.spec.specs.Lists.{any, different}
use Rattle.spec.specs.Book.{segment_of}
use Rattle.laws.proofs.Rows.{all_map}
use Rattle.network.proofs.Chains.{any-list, none-all}
use Rattle.network.proofs.track.all_different.Goals as goal
use Rattle.network.proofs.track.all_different.Goals.{After-any}

-- the directed segment at i is on the segment of one behind it
abbrev again : List ℕ → ℕ → Bool
again ds i = any (λ e. eqb (segment_of (get_or ds i 0)) (segment_of e)) (drop (i + 1) ds)

-- those from i on are on different segments
abbrev from : List ℕ → ℕ → Bool
from ds i = different (map segment_of (drop i ds))

from-next : (ds : List ℕ) (i : ℕ) → i < length ds → from ds i ≡ (not (again ds i) && from ds (i + 1))
unfolding different
from-next ds i h =
    ap (λ (xs : List ℕ). different (map segment_of xs)) (drop_more ds i 0 h)
    ∙ ap (λ (b : Bool). b && from ds (i + 1))
    (all_map (λ y. not (eqb (segment_of (get_or ds i 0)) y)) segment_of (drop (i + 1) ds) ∙ sym (none-all _ (drop (i + 1) ds)))

pub loop-i-init : goal.loop-i-init
loop-i-init c = refl

again-is : (c : After-any) → c.any.result ≡ again (take c.args.n c.args.place) c.loop-i.i
unfolding segment_of
again-is c =
    let ds = take c.args.n c.args.place in
    any_from_yields_List (λ e. eqb (get_or ds c.loop-i.i 0 / 2) (e / 2)) _ _ _ c.any.ensures.ran
    (YieldsList-from_slice (drop (c.loop-i.i + 1) ds) (search (rules, take_rest))) (λ x b q k. search (rules, tests))
    ∙ any-list _ (drop (c.loop-i.i + 1) ds)

pub returns-then-any : goal.returns-then-any
returns-then-any c =
    sym (c.loop-i.invariant ∙ from-next _ _ c.loop-i-test.true ∙ simp (← again-is c.before, c.if-any.true))

pub loop-i-preserved : goal.loop-i-preserved
loop-i-preserved c = c.loop-i.invariant ∙ from-next _ _ c.loop-i-test.true ∙ simp (← again-is c.before, c.if-any.false)

pub returns : goal.returns
unfolding different
returns c =
    let e = drop_all c.loop-i.i (take c.args.n c.args.place) c.loop-i-test.false in
    sym (c.loop-i.invariant ∙ simp e)
