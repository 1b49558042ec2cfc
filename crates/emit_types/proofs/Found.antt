-- The entry at an id, as it is lent.
use Rattle.std.proofs.Common.{◌≡◌, ℕ, zero, suc, List, [], ◌∷◌, map, length, refl, sym, ap, ◌∙◌, Option, Some, None, option_map, slice_get, Bor}
use Rattle.std.specs.Option.{option_copied}
use Rattle.std.specs.Slice.{IsItemAt}
use Rattle.std.proofs.lemmas.Option.{slice_get_past, slice_get_read}
use Rattle.entry_defs.specs.Space.{entry_at}
use Rattle.entry_types.specs.declared.entry.TypeEntry.{TypeEntry}
use Rattle.entry_types.specs.View.{entry_view}
use Rattle.emit_types.specs.Asked.{space_view}

got : (es : List TypeEntry) (i : ℕ) → option_map entry_view (slice_get es i) ≡ entry_at (space_view es) i
got [] i = refl
got (e ∷ es) zero = refl
got (e ∷ es) (suc i) = got es i

item_is_got : {X : Type 0} (xs : List X) (i : ℕ) (o : Option (Bor X)) → IsItemAt xs i o → option_copied o ≡ slice_get xs i
item_is_got xs i None h = sym (slice_get_past xs i h.3)
item_is_got xs i (Some x) h = sym (slice_get_read xs (length xs) i x.now refl h.3.0 h.1)

lent : {X Y : Type 0} (f : X → Y) (o : Option (Bor X)) → option_map (λ (x : Bor X). f x.now) o ≡ option_map f (option_copied o)
lent f None = refl
lent f (Some x) = refl

pub found : (es : List TypeEntry) (i : ℕ) (o : Option (Bor TypeEntry)) → IsItemAt es i o → option_map (λ (e : Bor TypeEntry). entry_view e.now) o ≡ entry_at (space_view es) i
found es i o h = lent entry_view o ∙ ap (option_map entry_view) (item_is_got es i o h) ∙ got es i
