-- Typed values as they are seen, once they are built.
use Rattle.std.proofs.Common.{◌≡◌, ℕ, List, Box, rules}
use Rattle.std.specs.declared.alloc.Global.{Global}
use Rattle.std.specs.declared.vec.Vec.{Vec}
use Rattle.typed_defs.specs.Typed as defs
use Rattle.typed_defs.specs.Typed.{typeds, pairs}
use Rattle.value_models.specs.declared.typed.Typed.{Typed, the_lemmas}
use Rattle.value_models.specs.declared.typed.Typed.TheVariants as variants
use Rattle.value_models.specs.TypedView.{typed_view, typeds_view, pairs_view}

pub list_seen : (xs : Vec Typed Global) → typed_view (variants.List xs) ≡ defs.list (typeds (typeds_view xs.items))
list_seen xs = search (rules, the_lemmas)

pub map_seen : (xs : Vec (Typed × Typed) Global) → typed_view (variants.Map xs) ≡ defs.map_of (pairs (pairs_view xs.items))
map_seen xs = search (rules, the_lemmas)

pub struct_seen : (xs : Vec Typed Global) → typed_view (variants.Struct xs) ≡ defs.struct (typeds (typeds_view xs.items))
struct_seen xs = search (rules, the_lemmas)

pub variant_seen : (i : ℕ) (xs : Vec Typed Global) → typed_view (variants.Variant i xs) ≡ defs.variant i (typeds (typeds_view xs.items))
variant_seen i xs = search (rules, the_lemmas)

pub some_seen : (b : Box Typed Global) → typed_view (variants.Some b) ≡ defs.some (typed_view b.value)
some_seen b = search (rules, the_lemmas)

pub newtype_seen : (b : Box Typed Global) → typed_view (variants.Newtype b) ≡ defs.newtype (typed_view b.value)
newtype_seen b = search (rules, the_lemmas)

pub none_seen : typed_view variants.None ≡ defs.none
none_seen = search (rules, the_lemmas)
