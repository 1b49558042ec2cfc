use Rattle.std.proofs.Common.{◌≡◌, ◌≢◌, ◌+◌, ◌<◌, ◌≤◌, false, length, get_or, ap, sym, ◌∙◌, subst, arith, inl, inr}
use Rattle.std.specs.Prelude.{Contains}
use Rattle.std.proofs.lemmas.List.{get_or_read, get_or_default}
use Rattle.reference_graph.specs.Graph.{graph_of, row_of, Refers}
use Rattle.reference_graph.specs.Trail.{node_at, IsMet, is_found}
use Rattle.reference_graph.proofs.Routes.{row_is, refers_at, graph_length}
use Rattle.reference_graph.specs.declared.search.Trail.{Trail}
use Rattle.reference_graph.proofs.Trails.{Added, Passes, passes_more, trail_still, extends_still, extends_itself, now_found}
use Rattle.reference_graph.proofs.search.Trail.extend.Goals as goal
use Rattle.reference_graph.proofs.search.Trail.extend.Goals.{then-target-len+then-not-index+in_ok-add, else-target-len, else-target-len-via-then-target-len+else-not-index, else-target-len-via-else-target-len}

pub loop-target-preserved : goal.loop-target-preserved
loop-target-preserved c =
    let g = graph_of c.args.edges.now in
    let start = c.args.start in
    let old = c.args.self.now in
    let now = c.loop-target.self in
    let row = c.deref-target-items.result.now in
    let target = get_or row c.loop-target.target-index 0 in
    let size : length g ≡ length c.args.edges.now = graph_length c.args.edges.now in
    let node : c.index-node.result.now ≡ node_at old c.args.at = get_or_read old.nodes.items c.args.at c.index-node.result.now (omega arith) c.index-node.ensures 0 in
    let within : node_at old c.args.at < length g = c.requires.trail.within c.args.at (omega arith) in
    let is_row : row_of g (node_at old c.args.at) ≡ row =
    ap (λ i. row_of g i) (sym node) ∙ row_is c.args.edges.now c.index-edges-node.result c.index-node.result.now (omega arith) c.index-edges-node.is ∙ sym c.deref-target-items.ensures.value
    in
    let index = c.loop-target.target-index in
    let all = row_of g (node_at old c.args.at) in
    let is_target : get_or all index 0 ≡ target = ap (λ xs. get_or xs index 0) is_row in
    let passed : Passes g start old all now index = c.loop-target.invariant in
    let longer : length old.nodes.items ≤ length now.nodes.items = passed.1.longer in
    let place : c.args.at < length now.nodes.items = omega arith in
    let sized = passed.0.sized in
    let held : c.len.result ≡ length now.found.items = omega (arith, c.len.ensures) in
    let other : target ≢ start = c.if-target-start.false in
    let refers : Refers g (node_at now c.args.at) target =
    subst (λ i. Refers g i target) (sym (passed.1.same c.args.at (omega arith))) (refers_at g (node_at old c.args.at) index row is_row c.loop-target-test.true)
    in
    let met_at = λ (u : Trail) (m : IsMet g start u target). subst (λ x. IsMet g start u x) (sym is_target) m in
    elim c.if-target-len.branch [
      | then-target-len+then-not-index+in_ok-add w ↦
          let u = w.add.new.self in
          let is_node : target < length g = omega (arith, w.if-target-len.true) in
          let added : Added now u target c.args.at = record { nodes = w.in_ok-add.ensures.nodes; parents = w.in_ok-add.ensures.parents; found = w.in_ok-add.ensures.found } in
          let read : w.index.result.now ≡ is_found now target = get_or_read now.found.items target w.index.result.now (omega arith) w.index.ensures false in
          let fresh : is_found now target ≡ false = sym read ∙ w.if-not-index.true in
          subst (λ u. Passes g start old all u (index + 1)) (sym w.self-is)
          (passes_more g start old all now u index passed
          (trail_still g start now u target c.args.at passed.0 added is_node fresh place refers)
          (extends_still g start now u target c.args.at passed.0 added is_node fresh place refers)
          (met_at u (other, inl (now_found g start now u target c.args.at passed.0 added is_node fresh place refers))))
      | else-target-len w ↦
          let same = λ (m : IsMet g start now target).
          subst (λ u. Passes g start old all u (index + 1)) (sym w.self-is) (passes_more g start old all now now index passed passed.0 (extends_itself now) (met_at now m))
          in
          elim w.else-target-len.branch [
            | else-target-len-via-then-target-len+else-not-index w' ↦
                same (other, inl (sym (get_or_read now.found.items target w'.index.result.now (let h = w'.if-target-len.true in omega arith) w'.index.ensures false) ∙ w'.if-not-index.false))
            | else-target-len-via-else-target-len w' ↦ same (other, inr (let h = w'.if-target-len.false in omega arith))
          ]
    ]

pub returns-clause-done : goal.returns-clause-done
returns-clause-done c =
    let g = graph_of c.args.edges.now in
    let start = c.args.start in
    let old = c.args.self.now in
    let row = c.deref-target-items.result.now in
    let size : length g ≡ length c.args.edges.now = graph_length c.args.edges.now in
    let node : c.index-node.result.now ≡ node_at old c.args.at = get_or_read old.nodes.items c.args.at c.index-node.result.now (omega arith) c.index-node.ensures 0 in
    let within : node_at old c.args.at < length g = c.requires.trail.within c.args.at (omega arith) in
    let is_row : row_of g (node_at old c.args.at) ≡ row =
    ap (λ i. row_of g i) (sym node) ∙ row_is c.args.edges.now c.index-edges-node.result c.index-node.result.now (omega arith) c.index-edges-node.is ∙ sym c.deref-target-items.ensures.value
    in
    let now = c.loop-target.self in
    let all = row_of g (node_at old c.args.at) in
    let passed : Passes g start old all now c.loop-target.target-index = c.loop-target.invariant in
    let rows : length all ≡ length row = ap length is_row in
    λ e j r.
    let k : Contains all j = subst (λ i. Refers g i j) (passed.1.same c.args.at (omega arith)) r in
    let h : k.0 < length all = k.1 in
    subst (λ i. IsMet g start now i) (get_or_default all k.0 0 j h ∙ k.2) (passed.2 k.0 (let t = c.loop-target-test.false in omega arith))
