use Rattle.std.proofs.Common.{◌+◌, ◌&&◌, List, drop, ap, sym, ◌∙◌}
use Rattle.std.specs.List.{list_all}
use Rattle.std.proofs.lemmas.List.{at_drop_more, at_drop_all}
use Rattle.model_defs.specs.Model.{ContainerModel}
use Rattle.value_models.specs.ContainerView.{container_view, containers_view}
use Rattle.value_models.specs.ContainersView.{containers_in}
use Rattle.value_models.specs.declared.container.Container.{Container}
use Rattle.writing_laws.specs.Kinds.{body_is_apart}
use Rattle.apart_kinds.proofs.untagged.bodies_are_apart.Goals as goal

pub loop-container-preserved : goal.loop-container-preserved
loop-container-preserved c =
    let l = c.loop-container in
    let ms = containers_in c.args.table.now.containers in
    let xs = c.args.containers.now in
    let x = c.container-item.result in
    let test = λ (m : ContainerModel). body_is_apart ms m.closed m.body in
    let rest = list_all test (containers_view (drop (l.container-index + 1) xs)) in
    sym (
    at_drop_more (λ (ys : List Container). list_all test (containers_view ys)) xs l.container-index x c.loop-container-test.true
    ∙ ap (λ y. test (container_view y) && rest) (sym c.container-item.is)
    ∙ ap (λ b. b && rest) (sym (c.body_is_apart.ensures x.closed) ∙ c.if-not-body_is_apart.false)
    )
    ∙ l.invariant

pub returns-then-not-body_is_apart : goal.returns-then-not-body_is_apart
returns-then-not-body_is_apart c =
    let l = c.loop-container in
    let ms = containers_in c.args.table.now.containers in
    let xs = c.args.containers.now in
    let x = c.container-item.result in
    let test = λ (m : ContainerModel). body_is_apart ms m.closed m.body in
    let rest = list_all test (containers_view (drop (l.container-index + 1) xs)) in
    sym (
    at_drop_more (λ (ys : List Container). list_all test (containers_view ys)) xs l.container-index x c.loop-container-test.true
    ∙ ap (λ y. test (container_view y) && rest) (sym c.container-item.is)
    ∙ ap (λ b. b && rest) (sym (c.body_is_apart.ensures x.closed) ∙ c.if-not-body_is_apart.true)
    )
    ∙ l.invariant

pub returns : goal.returns
returns c =
    let l = c.loop-container in
    let ms = containers_in c.args.table.now.containers in
    sym (at_drop_all (λ (ys : List Container). list_all (λ m. body_is_apart ms m.closed m.body) (containers_view ys)) c.args.containers.now l.container-index c.loop-container-test.false) ∙ l.invariant
