-- What the stated defaults of a table come to says nothing of names, so naming the table changes nothing of it.
use Rattle.std.proofs.Common.{◌≡◌, ℕ, zero, suc, ◌+◌, List, [], ◌∷◌, map, refl, sym, ap, ◌∙◌, subst}
use Rattle.std.specs.List.{AllByRecursion}
use Rattle.json_value.specs.Value.{Value}
use Rattle.schema_defs.specs.Texts.{Relations}
use Rattle.model_defs.specs.Model.{TagModel}
use Rattle.entry_defs.specs.Entry.{Entry, boolean_entry, integer_entry, text_entry, native_entry, any_entry, unit_entry, option_entry, vec_entry, set_entry, map_entry, tuple_entry, array_entry, reference, item, Entries, no_entries, entry_then, entry_again, Shape, struct_shape, enum_shape, newtype_shape, Fields, no_fields, field_then, field_again, rest_field, Variants, no_variants, variant_then, Contents, unit_contents, newtype_contents, tuple_contents, struct_contents, fields_of, variants_of}
use Rattle.entry_defs.specs.Table.{TargetEntry, Table, items_of}
use Rattle.naming_defs.specs.Names.{named_table}
use Rattle.naming_defs.proofs.Bare.{bare, bare_entries, bare_shape, bare_fields, bare_variants, bare_contents, bare_item, bare_target, bare_table, bare-table, table-bare}
use Rattle.naming_defs.proofs.Takes.{bare_field, fields-bare}
use Rattle.default_defs.specs.Found.{ended}
use Rattle.default_defs.specs.Supplied.{stated_by, stated_in, stated_in_entries, stated_in_shape, stated_in_fields, stated_in_variants, stated_in_contents, stated_in_targets, read_inside, supplied}
use Rattle.default_laws.specs.Stated.{HoldsOfField, HoldsOfContents, HoldsOfShape, HoldsOfStated}
use Rattle.default_laws.specs.Laws.{AllEnd, NamedStillEnd}
use Rattle.default_laws.proofs.Nameless.{of_value}

-- ---- as many stated defaults

mutual
  as_many : (e : Entry) → stated_in e ≡ stated_in (bare e)
  as_many (option_entry e) = as_many e
  as_many (vec_entry e) = as_many e
  as_many (set_entry e) = as_many e
  as_many (map_entry k e) =
      let a = as_many k in let b = as_many e in
      λ i. a i + b i
  as_many (tuple_entry es) = in_entries es
  as_many (array_entry e n) = as_many e
  as_many (item n h) = in_shape h
  as_many boolean_entry = refl
  as_many (integer_entry g) = refl
  as_many text_entry = refl
  as_many (native_entry f) = refl
  as_many any_entry = refl
  as_many unit_entry = refl
  as_many (reference q) = refl

  in_entries : (es : Entries) → stated_in_entries es ≡ stated_in_entries (bare_entries es)
  in_entries no_entries = refl
  in_entries (entry_then e es) =
      let a = as_many e in let b = in_entries es in
      λ i. a i + b i
  in_entries (entry_again es) = in_entries es

  in_shape : (h : Shape) → stated_in_shape h ≡ stated_in_shape (bare_shape h)
  in_shape (struct_shape closed fs) = in_fields fs
  in_shape (enum_shape closed tag ws) = in_variants tag ws
  in_shape (newtype_shape e rule) = as_many e

  in_fields : (fs : Fields) → stated_in_fields fs ≡ stated_in_fields (bare_fields fs)
  in_fields no_fields = refl
  in_fields (field_then i n e s fs) =
      let a = as_many e in let b = in_fields fs in
      λ k. stated_by s + a k + b k
  in_fields (field_again i n fs) = in_fields fs
  in_fields (rest_field i e) = as_many e

  in_variants : (tag : TagModel) (ws : Variants) → stated_in_variants ws ≡ stated_in_variants (bare_variants tag ws)
  in_variants tag no_variants = refl
  in_variants tag (variant_then i n c ws) =
      let a = in_contents c in let b = in_variants tag ws in
      λ k. a k + b k

  in_contents : (c : Contents) → stated_in_contents c ≡ stated_in_contents (bare_contents c)
  in_contents unit_contents = refl
  in_contents (newtype_contents e) = as_many e
  in_contents (tuple_contents es) = in_entries es
  in_contents (struct_contents fs) = in_fields fs

in_targets : (ts : List TargetEntry) → stated_in_targets ts ≡ stated_in_targets (map bare_target ts)
in_targets [] = refl
in_targets (t ∷ ts) =
    let a = in_shape t.led_to.shape in let b = in_targets ts in
    λ i. a i + b i

-- ---- what a default comes to

inside : (t : Table) (r : Relations) (k : ℕ) (e : Entry) (w : Value) → read_inside t r k e w ≡ read_inside (bare_table t) r k (bare e) w
inside t r zero e w = refl
inside t r (suc k) e w = of_value (read_inside t r k) (read_inside (bare_table t) r k) (inside t r k) t r w e

comes_to : (t : Table) (r : Relations) (e : Entry) (w : Value) → supplied t r e w ≡ supplied (bare_table t) r (bare e) w
comes_to t r e w =
    let a = in_targets t.targets in let b = as_many e in
    inside t r (suc (stated_in_targets t.targets + stated_in e)) e w ∙ (λ i. read_inside (bare_table t) r (suc (a i + b i)) (bare e) w)

-- ---- what holds of stated defaults

of_mapped : {A B : Type 0} (P : B → Type 0) (f : A → B) (xs : List A) → AllByRecursion (λ x. P (f x)) xs ≡ AllByRecursion P (map f xs)
of_mapped P f [] = refl
of_mapped P f (x ∷ xs) =
    let rec = of_mapped P f xs in
    λ i. P (f x) × rec i

module _ (P : Entry → Value → Type 0) where
  abbrev Q : Entry → Value → Type 0
  Q e w = P (bare e) w

  of_fields : (fs : Fields) → AllByRecursion (HoldsOfField Q) (fields_of fs) ≡ AllByRecursion (HoldsOfField P) (fields_of (bare_fields fs))
  of_fields fs = of_mapped (HoldsOfField P) bare_field (fields_of fs) ∙ ap (AllByRecursion (HoldsOfField P)) (sym (fields-bare fs))

  of_contents : (c : Contents) → HoldsOfContents Q c ≡ HoldsOfContents P (bare_contents c)
  of_contents unit_contents = refl
  of_contents (newtype_contents e) = refl
  of_contents (tuple_contents es) = refl
  of_contents (struct_contents fs) = of_fields fs

  of_variants : (tag : TagModel) (ws : Variants)
      → AllByRecursion (λ x. HoldsOfContents Q x.contents) (variants_of ws) ≡ AllByRecursion (λ x. HoldsOfContents P x.contents) (variants_of (bare_variants tag ws))
  of_variants tag no_variants = refl
  of_variants tag (variant_then i n c ws) =
      let a = of_contents c in let b = of_variants tag ws in
      λ k. a k × b k

  of_shape : (h : Shape) → HoldsOfShape Q h ≡ HoldsOfShape P (bare_shape h)
  of_shape (struct_shape closed fs) = of_fields fs
  of_shape (enum_shape closed tag ws) = of_variants tag ws
  of_shape (newtype_shape e rule) = refl

  of_stated : (t : Table) → HoldsOfStated Q t ≡ HoldsOfStated P (bare_table t)
  of_stated t =
      (λ k. AllByRecursion (λ i. of_shape i.shape k) (items_of t))
      ∙ of_mapped (λ i. HoldsOfShape P i.shape) bare_item (items_of t)
      ∙ ap (AllByRecursion (λ i. HoldsOfShape P i.shape)) (sym (table-bare t))

all_end : (t : Table) (r : Relations) → AllEnd t r ≡ AllEnd (bare_table t) r
all_end t r = (λ i. HoldsOfStated (λ e w. comes_to t r e w i ≡ ended) t) ∙ of_stated (λ e w. supplied (bare_table t) r e w ≡ ended) t

pub named_still_end : NamedStillEnd
named_still_end is_good t r h =
    subst (λ z. z) (all_end t r ∙ ap (λ x. AllEnd x r) (sym (bare-table is_good t)) ∙ sym (all_end (named_table is_good t) r)) h
