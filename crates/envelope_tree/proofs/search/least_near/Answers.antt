use Rattle.std.proofs.Common.{◌≡◌, ℕ, ◌-◌, ◌<◌, arith, subst, sym, length, rules}
use Rattle.std.proofs.lemmas.List.Elements.{at_read}
use Rattle.envelope_tree.specs.declared.tree.Node.{Node}
use Rattle.envelope_tree.specs.Queries.{AreFrom, IsSeen}
use Rattle.envelope_tree.specs.Trees.{IsNodeAt}
use Rattle.envelope_tree.proofs.Seen.{seen_visits, seen_leaves_out, seen_found, seen_none}
use Rattle.envelope_tree.proofs.search.least_near.Goals as goal

pub loop-end-preserved : goal.loop-end-preserved
loop-end-preserved c =
    let tri = c.args.triangles.now in
    let q = c.args.query.now in
    let least = c.least_of-limit.result in
    let lt : c.loop-end.end - 1 < length c.args.nodes.now = omega arith in
    seen_visits c.args.nodes.now tri q c.loop-end.end c.loop-end.limit least (c.loop-end.end - 1) (omega arith) c.loop-end.invariant c.least_of-limit.ensures.bound c.least_of-limit.ensures.found
    (at_read c.args.nodes.now (λ (node : Node). AreFrom tri q least node.numbers.items) (c.loop-end.end - 1) c.index-nodes-end.result lt c.index-nodes-end.is
    (subst (AreFrom tri q least) c.as_slice.ensures c.least_of-limit.ensures.least))

pub loop-end-preserved-then-is_left_out : goal.loop-end-preserved-then-is_left_out
loop-end-preserved-then-is_left_out c =
    let tri = c.args.triangles.now in
    let i = c.loop-end.end - 1 in
    let lt : i < length c.args.nodes.now = omega arith in
    seen_leaves_out c.args.nodes.now tri c.args.query.now c.loop-end.end c.loop-end.limit i c.index-nodes-end.result (omega arith) c.loop-end.invariant
    (subst (IsNodeAt tri c.args.nodes.now i) (sym c.index-nodes-end.is) (c.requires.tree.each i c.index-nodes-end.result lt))
    (c.is_left_out.ensures.0 (search rules))

pub returns-then-limit-count-clause-found : goal.returns-then-limit-count-clause-found
returns-then-limit-count-clause-found c =
    let e : c.loop-end.end ≡ 0 = omega arith in
    seen_found c.args.nodes.now c.args.triangles.now c.args.query.now c.loop-end.limit (subst (λ (n : ℕ). IsSeen c.args.nodes.now c.args.triangles.now c.args.query.now n c.loop-end.limit) e c.loop-end.invariant) c.requires.tree (omega arith)

pub returns-else-limit-count-clause-none : goal.returns-else-limit-count-clause-none
returns-else-limit-count-clause-none c =
    let e : c.loop-end.end ≡ 0 = omega arith in
    seen_none c.args.nodes.now c.args.triangles.now c.args.query.now c.loop-end.limit (subst (λ (n : ℕ). IsSeen c.args.nodes.now c.args.triangles.now c.args.query.now n c.loop-end.limit) e c.loop-end.invariant) c.requires.tree (omega arith)
