-- What rows without parts make is formed.
use Rattle.std.proofs.Common.{◌≡◌, true, refl, sym, true≢false}
use Rattle.entry_defs.specs.Entry.{Entry, boolean_entry, integer_entry, text_entry, native_entry, any_entry, unit_entry, option_entry, vec_entry, set_entry, map_entry, tuple_entry, array_entry, reference, item, Shape, struct_shape, enum_shape, newtype_shape, Variants, no_variants, variant_then, unit_contents, newtype_contents, tuple_contents, struct_contents}
use Rattle.merged_documents.proofs.Leaves.{are_units, is_leaf, is_leaf_shape}
use Rattle.space_trees.specs.Formed.{rest_is_wanted, is_formed_by, is_formed_shape_by, are_formed_variants_by}

units-formed : (ws : Variants) → are_units ws ≡ true → are_formed_variants_by rest_is_wanted ws ≡ true
units-formed no_variants h = refl
units-formed (variant_then i n unit_contents ws) h = units-formed ws h
units-formed (variant_then i n (newtype_contents e) ws) h = absurd (true≢false (sym h))
units-formed (variant_then i n (tuple_contents es) ws) h = absurd (true≢false (sym h))
units-formed (variant_then i n (struct_contents fs) ws) h = absurd (true≢false (sym h))

mutual
  pub leaf-formed : (e : Entry) → is_leaf e ≡ true → is_formed_by rest_is_wanted e ≡ true
  leaf-formed boolean_entry h = refl
  leaf-formed (integer_entry g) h = refl
  leaf-formed text_entry h = refl
  leaf-formed (native_entry f) h = refl
  leaf-formed any_entry h = refl
  leaf-formed unit_entry h = refl
  leaf-formed (reference q) h = refl
  leaf-formed (option_entry e) h = leaf-formed e h
  leaf-formed (item n s) h = shape-formed s h
  leaf-formed (vec_entry e) h = absurd (true≢false (sym h))
  leaf-formed (set_entry e) h = absurd (true≢false (sym h))
  leaf-formed (map_entry k e) h = absurd (true≢false (sym h))
  leaf-formed (tuple_entry es) h = absurd (true≢false (sym h))
  leaf-formed (array_entry e n) h = absurd (true≢false (sym h))

  shape-formed : (s : Shape) → is_leaf_shape s ≡ true → is_formed_shape_by rest_is_wanted s ≡ true
  shape-formed (struct_shape closed fs) h = absurd (true≢false (sym h))
  shape-formed (enum_shape closed tag ws) h = units-formed ws h
  shape-formed (newtype_shape e rule) h = leaf-formed e h
