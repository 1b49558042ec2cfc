-- What emission asks of an entry and of all that is in it, but for names.
use Rattle.std.proofs.Common.{◌≡◌, ◌<◌, ◌^◌, ℕ, List, [], ◌∷◌, length}
use Rattle.std.specs.List.{AllByRecursion}
use Rattle.entry_defs.specs.Entry.{Target, Entry, boolean_entry, integer_entry, text_entry, native_entry, any_entry, unit_entry, option_entry, vec_entry, set_entry, map_entry, tuple_entry, array_entry, reference, item, Entries, no_entries, entry_then, entry_again, entries_of, Shape, struct_shape, enum_shape, newtype_shape, Fields, no_fields, field_then, field_again, rest_field, no_rest, rest_of, Variants, no_variants, variant_then, Contents, unit_contents, newtype_contents, tuple_contents, struct_contents}
use Rattle.entry_defs.specs.Table.{TargetEntry}
use Rattle.entry_defs.specs.Sound.{Each, EachEntry, EachInShape, EachField, EachVariant, EachInContents}
use Rattle.emit_defs.specs.Formed.{HasOne, HasTwo, EntryIsFormed, EntriesAreFormed, FieldsAreFormed, ContentsAreFormed, TagFits, VariantsAreFormed, RuleFits, RestMay, ShapeIsShaped, Shaped, Anywhere}
use Rattle.convert_defs.specs.Convert.{as_item}

-- fewer places than a u64 counts
abbrev pub Few : Entries → Type 0
Few es = length (entries_of es) < 2 ^ 64

abbrev mutual
  pub Deep : Entry → Type 0
  Deep (option_entry e) = Deep e
  Deep (vec_entry e) = Deep e
  Deep (set_entry e) = Deep e
  Deep (map_entry k e) = Deep k × Deep e
  Deep (tuple_entry es) = HasOne es × Few es × DeepEntries es
  Deep (array_entry e n) = (n < 2 ^ 64) × Deep e
  Deep (item n h) = DeepShape h
  Deep _ = Unit {0}

  pub DeepEntries : Entries → Type 0
  DeepEntries no_entries = Unit {0}
  DeepEntries (entry_then e es) = Deep e × DeepEntries es
  DeepEntries (entry_again es) = DeepEntries es

  pub DeepShape : Shape → Type 0
  DeepShape (struct_shape closed fs) = RestMay closed (rest_of fs) × DeepFields fs
  DeepShape (enum_shape closed tag ws) = TagFits tag ws × DeepVariants ws
  DeepShape (newtype_shape e rule) = RuleFits e rule × Deep e

  pub DeepFields : Fields → Type 0
  DeepFields no_fields = Unit {0}
  DeepFields (field_then i n e s fs) = Deep e × DeepFields fs
  DeepFields (field_again i n fs) = DeepFields fs
  DeepFields (rest_field i e) = Deep e

  pub DeepVariants : Variants → Type 0
  DeepVariants no_variants = Unit {0}
  DeepVariants (variant_then i n c ws) = DeepContents c × DeepVariants ws

  pub DeepContents : Contents → Type 0
  DeepContents unit_contents = Unit {0}
  DeepContents (newtype_contents e) = Deep e
  DeepContents (tuple_contents es) = HasTwo es × Few es × DeepEntries es
  DeepContents (struct_contents fs) = (rest_of fs ≡ no_rest) × DeepFields fs

-- with names of fields that differ
module _ (P : List ℕ → Shape → Type 0) (Q : Target → Type 0) where
  mutual
    pub both_entry : (e : Entry) → Each P Q e → Deep e → EntryIsFormed e × Each Shaped Anywhere e
    both_entry boolean_entry a h = (tt, tt)
    both_entry (integer_entry g) a h = (tt, tt)
    both_entry text_entry a h = (tt, tt)
    both_entry (native_entry f) a h = (tt, tt)
    both_entry any_entry a h = (tt, tt)
    both_entry unit_entry a h = (tt, tt)
    both_entry (reference q) a h = (tt, tt)
    both_entry (option_entry e) a h = both_entry e a h
    both_entry (vec_entry e) a h = both_entry e a h
    both_entry (set_entry e) a h = both_entry e a h
    both_entry (map_entry k e) a h = let x = both_entry k a.0 h.0 in let y = both_entry e a.1 h.1 in ((x.0, y.0), (x.1, y.1))
    both_entry (tuple_entry es) a h = let x = both_entries es a h.2 in ((h.0, x.0), x.1)
    both_entry (array_entry e n) a h = let x = both_entry e a h.1 in ((h.0, x.0), x.1)
    both_entry (item n s) a h = (tt, both_shape s a.1 h)

    both_entries : (es : Entries) → EachEntry P Q es → DeepEntries es → EntriesAreFormed es × EachEntry Shaped Anywhere es
    both_entries no_entries a h = (tt, tt)
    both_entries (entry_then e es) a h = let x = both_entry e a.0 h.0 in let y = both_entries es a.1 h.1 in ((x.0, y.0), (x.1, y.1))
    both_entries (entry_again es) a h = both_entries es a h

    pub both_shape : (s : Shape) → EachInShape P Q s → DeepShape s → ShapeIsShaped s × EachInShape Shaped Anywhere s
    both_shape (struct_shape closed fs) a h = let x = both_fields fs a.1 h.1 in ((h.0, x.0), (a.0, x.1))
    both_shape (enum_shape closed tag ws) a h = let x = both_variants ws a h.1 in ((h.0, x.0), x.1)
    both_shape (newtype_shape e rule) a h = let x = both_entry e a h.1 in ((h.0, x.0), x.1)

    both_fields : (fs : Fields) → EachField P Q fs → DeepFields fs → FieldsAreFormed fs × EachField Shaped Anywhere fs
    both_fields no_fields a h = (tt, tt)
    both_fields (field_then i n e s fs) a h = let x = both_entry e a.0 h.0 in let y = both_fields fs a.1 h.1 in ((x.0, y.0), (x.1, y.1))
    both_fields (field_again i n fs) a h = both_fields fs a h
    both_fields (rest_field i e) a h = both_entry e a h

    both_variants : (ws : Variants) → EachVariant P Q ws → DeepVariants ws → VariantsAreFormed ws × EachVariant Shaped Anywhere ws
    both_variants no_variants a h = (tt, tt)
    both_variants (variant_then i n c ws) a h = let x = both_contents c a.0 h.0 in let y = both_variants ws a.1 h.1 in ((x.0, y.0), (x.1, y.1))

    both_contents : (c : Contents) → EachInContents P Q c → DeepContents c → ContentsAreFormed c × EachInContents Shaped Anywhere c
    both_contents unit_contents a h = (tt, tt)
    both_contents (newtype_contents e) a h = both_entry e a h
    both_contents (tuple_contents es) a h = let x = both_entries es a h.2 in ((h.0, h.1, x.0), x.1)
    both_contents (struct_contents fs) a h = let x = both_fields fs a.1 h.1 in ((h.0, x.0), (a.0, x.1))

-- ---- items

pub item_deep : (n : List ℕ) (e : Entry) → Deep e → DeepShape (as_item n e).shape
item_deep n (item l h) x = x
item_deep n boolean_entry x = (tt, tt)
item_deep n (integer_entry g) x = (tt, tt)
item_deep n text_entry x = (tt, tt)
item_deep n (native_entry f) x = (tt, tt)
item_deep n any_entry x = (tt, tt)
item_deep n unit_entry x = (tt, tt)
item_deep n (option_entry e) x = (tt, x)
item_deep n (vec_entry e) x = (tt, x)
item_deep n (set_entry e) x = (tt, x)
item_deep n (map_entry k e) x = (tt, x)
item_deep n (tuple_entry us) x = (tt, x)
item_deep n (array_entry e m) x = (tt, x)
item_deep n (reference t) x = (tt, tt)

pub both_targets : (P : List ℕ → Shape → Type 0) (Q : Target → Type 0) (xs : List TargetEntry) → AllByRecursion (λ x. P x.led_to.name x.led_to.shape × EachInShape P Q x.led_to.shape) xs → AllByRecursion (λ x. DeepShape x.led_to.shape) xs
    → AllByRecursion (λ x. ShapeIsShaped x.led_to.shape × EachInShape Shaped Anywhere x.led_to.shape) xs
both_targets P Q [] a h = tt
both_targets P Q (x ∷ xs) a h = (both_shape P Q x.led_to.shape a.0.1 h.0, both_targets P Q xs a.1 h.1)
