-- What holds of each stated default in an entry, at any depth, and of the entry of its field.
use Rattle.std.proofs.Common.{◌≡◌, List, [], ◌∷◌, ◌++◌, map}
use Rattle.std.specs.List.{AllByRecursion, flat_map}
use Rattle.json_value.specs.Value.{Value}
use Rattle.entry_defs.specs.Entry.{required, stated, Entry, boolean_entry, integer_entry, text_entry, native_entry, any_entry, unit_entry, option_entry, vec_entry, set_entry, map_entry, tuple_entry, array_entry, reference, item, Entries, no_entries, entry_then, entry_again, Shape, struct_shape, enum_shape, newtype_shape, Fields, no_fields, field_then, field_again, rest_field, fields_of, Variants, no_variants, variant_then, variants_of, Contents, unit_contents, newtype_contents, tuple_contents, struct_contents}
use Rattle.entry_defs.specs.Table.{ItemEntry, TargetEntry, Table, items_in, items_in_entries, items_in_shape, items_in_fields, items_in_variants, items_in_contents}
use Rattle.default_laws.specs.Stated.{HoldsOfField, HoldsOfContents, HoldsOfShape, HoldsOfStated}
use Rattle.default_documents.proofs.Lists.{all-both}

pub none_stated : {A : Type 0} (w : Value) → required ≡ stated w → A
none_stated w h = absurd (cc)

module _ (Holds : Entry → Value → Type 0) where
  abbrev mutual
    pub Inside : Entry → Type 0
    Inside (option_entry e) = Inside e
    Inside (vec_entry e) = Inside e
    Inside (set_entry e) = Inside e
    Inside (map_entry k e) = Inside k × Inside e
    Inside (tuple_entry es) = InsidePlaces es
    Inside (array_entry e n) = Inside e
    Inside (item n h) = InsideShape h
    Inside _ = Unit {0}

    pub InsidePlaces : Entries → Type 0
    InsidePlaces no_entries = Unit {0}
    InsidePlaces (entry_then e es) = Inside e × InsidePlaces es
    InsidePlaces (entry_again es) = InsidePlaces es

    pub InsideShape : Shape → Type 0
    InsideShape (struct_shape closed fs) = InsideFields fs
    InsideShape (enum_shape closed tag ws) = InsideVariants ws
    InsideShape (newtype_shape e rule) = Inside e

    pub InsideFields : Fields → Type 0
    InsideFields no_fields = Unit {0}
    InsideFields (field_then i n e s fs) = ((w : Value) → s ≡ stated w → Holds e w) × Inside e × InsideFields fs
    InsideFields (field_again i n fs) = InsideFields fs
    InsideFields (rest_field i e) = Inside e

    pub InsideVariants : Variants → Type 0
    InsideVariants no_variants = Unit {0}
    InsideVariants (variant_then i n c ws) = InsideContents c × InsideVariants ws

    pub InsideContents : Contents → Type 0
    InsideContents unit_contents = Unit {0}
    InsideContents (newtype_contents e) = Inside e
    InsideContents (tuple_contents es) = InsidePlaces es
    InsideContents (struct_contents fs) = InsideFields fs

  -- ---- in each item

  abbrev OfItem : ItemEntry → Type 0
  OfItem i = HoldsOfShape Holds i.shape

  abbrev OfItems : List ItemEntry → Type 0
  OfItems is = AllByRecursion OfItem is

  of_fields : (fs : Fields) → InsideFields fs → AllByRecursion (HoldsOfField Holds) (fields_of fs)
  of_fields no_fields h = tt
  of_fields (field_then i n e s fs) h = (h.0, of_fields fs h.2)
  of_fields (field_again i n fs) h = (λ w e. none_stated w e, of_fields fs h)
  of_fields (rest_field i e) h = tt

  of_contents : (c : Contents) → InsideContents c → HoldsOfContents Holds c
  of_contents unit_contents h = tt
  of_contents (newtype_contents e) h = tt
  of_contents (tuple_contents es) h = tt
  of_contents (struct_contents fs) h = of_fields fs h

  of_variants : (ws : Variants) → InsideVariants ws → AllByRecursion (λ x. HoldsOfContents Holds x.contents) (variants_of ws)
  of_variants no_variants h = tt
  of_variants (variant_then i n c ws) h = (of_contents c h.0, of_variants ws h.1)

  of_shape : (s : Shape) → InsideShape s → HoldsOfShape Holds s
  of_shape (struct_shape closed fs) h = of_fields fs h
  of_shape (enum_shape closed tag ws) h = of_variants ws h
  of_shape (newtype_shape e rule) h = tt

  mutual
    in_entry : (e : Entry) → Inside e → OfItems (items_in e)
    in_entry boolean_entry h = tt
    in_entry (integer_entry g) h = tt
    in_entry text_entry h = tt
    in_entry (native_entry f) h = tt
    in_entry any_entry h = tt
    in_entry unit_entry h = tt
    in_entry (reference q) h = tt
    in_entry (option_entry e) h = in_entry e h
    in_entry (vec_entry e) h = in_entry e h
    in_entry (set_entry e) h = in_entry e h
    in_entry (array_entry e n) h = in_entry e h
    in_entry (map_entry k e) h = all-both OfItem (items_in k) (items_in e) (in_entry k h.0) (in_entry e h.1)
    in_entry (tuple_entry es) h = in_places es h
    in_entry (item n s) h = (of_shape s h, in_shape s h)

    in_places : (es : Entries) → InsidePlaces es → OfItems (items_in_entries es)
    in_places no_entries h = tt
    in_places (entry_then e es) h = all-both OfItem (items_in e) (items_in_entries es) (in_entry e h.0) (in_places es h.1)
    in_places (entry_again es) h = in_places es h

    in_shape : (s : Shape) → InsideShape s → OfItems (items_in_shape s)
    in_shape (struct_shape closed fs) h = in_fields fs h
    in_shape (enum_shape closed tag ws) h = in_variants ws h
    in_shape (newtype_shape e rule) h = in_entry e h

    in_fields : (fs : Fields) → InsideFields fs → OfItems (items_in_fields fs)
    in_fields no_fields h = tt
    in_fields (field_then i n e s fs) h = all-both OfItem (items_in e) (items_in_fields fs) (in_entry e h.1) (in_fields fs h.2)
    in_fields (field_again i n fs) h = in_fields fs h
    in_fields (rest_field i e) h = in_entry e h

    in_variants : (ws : Variants) → InsideVariants ws → OfItems (items_in_variants ws)
    in_variants no_variants h = tt
    in_variants (variant_then i n c ws) h = all-both OfItem (items_in_contents c) (items_in_variants ws) (in_contents c h.0) (in_variants ws h.1)

    in_contents : (c : Contents) → InsideContents c → OfItems (items_in_contents c)
    in_contents unit_contents h = tt
    in_contents (newtype_contents e) h = in_entry e h
    in_contents (tuple_contents es) h = in_places es h
    in_contents (struct_contents fs) h = in_fields fs h

  -- ---- in a table

  abbrev pub InsideTarget : TargetEntry → Type 0
  InsideTarget x = InsideShape x.led_to.shape

  of_targets : (xs : List TargetEntry) → AllByRecursion InsideTarget xs → OfItems (map (λ e. e.led_to) xs)
  of_targets [] h = tt
  of_targets (x ∷ xs) h = (of_shape x.led_to.shape h.0, of_targets xs h.1)

  under_targets : (xs : List TargetEntry) → AllByRecursion InsideTarget xs → OfItems (flat_map (λ e. items_in_shape e.led_to.shape) xs)
  under_targets [] h = tt
  under_targets (x ∷ xs) h = all-both OfItem (items_in_shape x.led_to.shape) (flat_map (λ e. items_in_shape e.led_to.shape) xs) (in_shape x.led_to.shape h.0) (under_targets xs h.1)

  in_trees : (es : List Entry) → AllByRecursion Inside es → OfItems (flat_map items_in es)
  in_trees [] h = tt
  in_trees (e ∷ es) h = all-both OfItem (items_in e) (flat_map items_in es) (in_entry e h.0) (in_trees es h.1)

  pub in_table : (t : Table) → AllByRecursion InsideTarget t.targets → AllByRecursion Inside t.trees → HoldsOfStated Holds t
  in_table t h g =
      let targets = map (λ (e : TargetEntry). e.led_to) t.targets in
      let under = flat_map (λ (e : TargetEntry). items_in_shape e.led_to.shape) t.targets in
      all-both OfItem (targets ++ under) (flat_map items_in t.trees) (all-both OfItem targets under (of_targets t.targets h) (under_targets t.targets h)) (in_trees t.trees g)
