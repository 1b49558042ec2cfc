-- What asks something of targets asks anything weaker of them.
use Rattle.model_defs.specs.Model.{external_tag, internal_tag, adjacent_tag, untagged}
use Rattle.entry_defs.specs.Entry.{Target, Entry, boolean_entry, integer_entry, text_entry, native_entry, any_entry, unit_entry, option_entry, vec_entry, set_entry, map_entry, tuple_entry, array_entry, reference, item, Shape, struct_shape, enum_shape, newtype_shape, Variants, no_variants, variant_then, Contents, unit_contents, newtype_contents, tuple_contents, struct_contents}
use Rattle.entry_defs.specs.Ends.{Asked, AskedByShape, AskedByVariants, AskedByContents}

module _ (Q S : Target → Type 0) (q : (x : Target) → Q x → S x) where
  mutual
    pub asked-weaker : (e : Entry) → Asked Q e → Asked S e
    asked-weaker (option_entry e) x = asked-weaker e x
    asked-weaker (reference t) x = q t x
    asked-weaker (item n h) x = shape-weaker h x
    asked-weaker (vec_entry e) x = tt
    asked-weaker (set_entry e) x = tt
    asked-weaker (map_entry k e) x = tt
    asked-weaker (tuple_entry es) x = tt
    asked-weaker (array_entry e n) x = tt
    asked-weaker boolean_entry x = tt
    asked-weaker (integer_entry g) x = tt
    asked-weaker text_entry x = tt
    asked-weaker (native_entry f) x = tt
    asked-weaker any_entry x = tt
    asked-weaker unit_entry x = tt

    pub shape-weaker : (h : Shape) → AskedByShape Q h → AskedByShape S h
    shape-weaker (struct_shape closed fs) x = tt
    shape-weaker (enum_shape closed external_tag ws) x = tt
    shape-weaker (enum_shape closed (internal_tag t) ws) x = tt
    shape-weaker (enum_shape closed (adjacent_tag t c) ws) x = tt
    shape-weaker (enum_shape closed untagged ws) x = variants-weaker ws x
    shape-weaker (newtype_shape e rule) x = asked-weaker e x

    variants-weaker : (ws : Variants) → AskedByVariants Q ws → AskedByVariants S ws
    variants-weaker no_variants x = tt
    variants-weaker (variant_then i n c ws) x = (contents-weaker c x.0, variants-weaker ws x.1)

    contents-weaker : (c : Contents) → AskedByContents Q c → AskedByContents S c
    contents-weaker unit_contents x = tt
    contents-weaker (newtype_contents e) x = asked-weaker e x
    contents-weaker (tuple_contents es) x = tt
    contents-weaker (struct_contents fs) x = tt
