use Rattle.std.proofs.Common.{◌≡◌, ◌++◌, sym, ap, ◌∙◌}
use Rattle.model_defs.specs.Types.{map_type}
use Rattle.example_defs.specs.Outside.{items_in}
use Rattle.value_models.specs.ContainersView.{containers_in}
use Rattle.value_models.specs.TypeView.{type_view}
use Rattle.value_writing.proofs.Lists.{view-TypeMap}
use Rattle.item_uses.specs.Uses.{item_places}
use Rattle.item_uses.proofs.Gathered.{places_then, type_turn}
use Rattle.item_uses.proofs.uses.+using_types.Goals as goal

pub push_type-returns-in_ok-push_type-in-Map-2 : goal.push_type-returns-in_ok-push_type-in-Map-2
push_type-returns-in_ok-push_type-in-Map-2 t c =
    let ms = containers_in c.args.places.now.containers.now in
    let key = type_view c.deref.result.now in
    let value = type_view c.deref-in-Map.result.now in
    let e : type_view c.args.ty.now ≡ map_type key value =
    ap type_view c.in-Map.is ∙ view-TypeMap c.in-Map.key c.in-Map.value ∙ (λ z. map_type (type_view (sym c.deref.ensures z)) (type_view (sym c.deref-in-Map.ensures z))) in
    places_then ms (items_in key) (items_in value) c.args.used.now.items c.push_type.new.used.items c.push_type-in-Map.new.used.items c.in_ok-push_type-in-Map.ensures c.in_ok-push_type-in-Map-2.ensures
    ∙ ap (λ t. c.args.used.now.items ++ item_places ms (items_in t)) (sym e)

pub push_types-loop-ty-preserved : goal.push_types-loop-ty-preserved
push_types-loop-ty-preserved t c =
    type_turn (containers_in c.args.places.now.containers.now) c.args.tys.now c.loop-ty.ty-index c.ty-item.result c.loop-ty.used.items c.push_type.new.used.items _ c.loop-ty-test.true c.ty-item.is
    c.in_ok-push_type.ensures c.loop-ty.invariant
