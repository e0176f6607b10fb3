-- `counter::count_set` meets its contract: the pairs of a kind and a border that count are the free nodes that have a border. Assumes
-- nothing.
use Rattle.std.proofs.Common.{rules, ◌≡◌, ◌≤◌, ◌&&◌, not, ℕ, Bool, refl, sym, ap, ◌∙◌, arith, length, get_or, take, filter, nat_eq}
use borrow.Author.Tests.{tests}
use Rattle.std.proofs.lemmas.Iterator.{YieldsList-from_slice, YieldsList-from_zip}
use Rattle.std.proofs.lemmas.Iterator.Consumers.{YieldsList-from_filter, count_from_yields_List}
use Rattle.std.proofs.lemmas.Slice.Zip.{length-zip, get_or-zip}
use Rattle.std.specs.List.{zip}
use Rattle.model.specs.declared.Book.{Book as BookStruct}
use Rattle.spec.specs.Lists.{Bytes, pick, up_to}
use Rattle.spec.specs.Book.{denies_border, forces_border}
use Rattle.spec.specs.Instance.{instance_of, compile, is_free, free_nodes_of}
use Rattle.spec.specs.Plan.{borders_of}
use Rattle.spec.specs.Cap.{set_count}
use Rattle.spec.specs.Held.{held}
use Rattle.laws.proofs.Tests.{up_to-mem}
use Rattle.laws.proofs.Picks.{pick_same, pick-numbers}
use Rattle.tables.proofs.Scans.{pick-scan}
use Rattle.layout.proofs.Capped.{pick-twice, free-at}
use Rattle.layout.proofs.counter.count_set.Goals as goal

-- whether a pair counts
abbrev test : ℕ × ℕ → Bool
test p = not (denies_border p.0) && not (forces_border p.0) && nat_eq p.1 1

abbrev kinds : BookStruct → Bytes
kinds b = take b.node_count b.nodes

-- how many pairs count
picked : (b : BookStruct) (borders : Bytes) → length (kinds b) ≤ length borders
    → length (filter test (zip (kinds b) borders)) ≡ length (pick (λ n. is_free (instance_of (held b)) n && borders_of borders n) (up_to (length (kinds b))))
picked b borders fits =
    let pairs = zip (kinds b) borders in
    let many : length pairs ≡ length (kinds b) = omega (arith, length-zip (kinds b) borders) in
    ap length (pick-scan test pairs)
    ∙ sym (pick-numbers test (0, 0) pairs)
    ∙ ap (λ (n : ℕ). length (pick (λ i. test (get_or pairs i (0, 0))) (up_to n))) many
    ∙ ap length
    (pick_same _ _ (up_to (length (kinds b)))
    (λ i m.
    let l = (up_to-mem _ i).0 m in
    ap test (get_or-zip (kinds b) borders i (0, 0) l (omega arith))
    ∙ ap (λ (t : Bool). t && nat_eq (get_or borders i 0) 1) (sym (free-at b i l refl))))

pub returns : goal.returns
unfolding set_count free_nodes_of instance_of compile held
returns c =
    let b = c.args.b in
    let borders = c.args.borders.now in
    count_from_yields_List c.filter.result c.count.result c.count.ensures.ran
    (YieldsList-from_filter _ test
    (YieldsList-from_zip (YieldsList-from_slice (kinds b) (search rules)) (YieldsList-from_slice borders (search rules)))
    c.filter.ensures.closure
    (λ x r q k. search (rules, tests)))
    ∙ picked b borders (omega arith)
    ∙ ap length (sym (pick-twice (borders_of borders) (is_free (instance_of (held b))) (up_to _)))
