-- Fields as they are read.
use Rattle.std.proofs.Common.{◌≡◌, ℕ, List, [], ◌∷◌, ◌++◌, Bool, true, false, not, refl, ap, ◌∙◌, codes, bytes_eq}
use Rattle.std.specs.Prelude.{Option, Some, None}
use Rattle.std.specs.declared.cmp.Ordering.{Ordering}
use Rattle.std.specs.declared.cmp.Ordering.TheVariants.{Less, Equal, Greater}
use Rattle.std.specs.Ordering.{nat_cmp, is_eq, match_ordering}
use Rattle.std.specs.Cmp.Lexicographic.{slice_cmp}
use Rattle.std.specs.Fmt.{decimal}
use Rattle.std.proofs.lemmas.Slice.Eq.{bytes_eq-Decides}
use Rattle.std.proofs.lemmas.Map.Text.{is_eq-slice_cmp}
use Rattle.token_trees.specs.Token.{Name, site}
use Rattle.syntax_trees.specs.Syntax.{MemberD, named, unnamed, ExprPathD, TyD}
use Rattle.syntax_trees.specs.Item.{FieldD}
use Rattle.attr_parts.specs.declared.rename.RenameRule.TheVariants as rules
use Rattle.attr_parts.specs.declared.rename.RenameAllRules.{RenameAllRules}
use Rattle.attr_parts.specs.Names.{MultiNameD}
use Rattle.attr_parts.specs.Values.{DefaultD, no_default, own_default, path_default}
use Rattle.attr_defs.specs.Acts.{ActD}
use Rattle.attr_defs.specs.Container.{unraw}
use Rattle.attr_defs.specs.Members.{FieldAttrs, held_by, field_from}
use Rattle.attr_defs.specs.Renames.{Meaning, field_renamed}
use Rattle.attr_defs.specs.Texts.{lexed}
use Rattle.container_defs.specs.Container.{ReadField}
use Rattle.container_defs.specs.Reading.{field_of, name_field}
use Rattle.model_defs.proofs.Rising.{bytes_itself}
use Rattle.emit_defs.specs.Models as manners
use Rattle.emit_defs.specs.Models.{Empty, empty_option, Manner, plain, defaulted, skipped, held}
use Rattle.emit_defs.specs.Trees.{Carried, flag, name_at, serde, rename_metas, manner_metas, unnamed_field}
use Rattle.emit_texts.specs.Laws.{some_function, whole_function, default_function, empty_function, FunctionsAreRead}
use Rattle.emit_laws.proofs.Acts.{rename_acts, manner_acts, field_read}

abbrev pub no_rules : RenameAllRules
no_rules = record { serialize = rules.None; deserialize = rules.None }

-- a name of both ways; whether an attribute says it
abbrev pub both_names : Bool → Name → MultiNameD
both_names said n = record { serialize = n; serialize_renamed = said; deserialize = n; deserialize_renamed = said; aliases = n ∷ [] }

abbrev pub skip_of : Manner → Option ExprPathD
skip_of plain = None
skip_of manners.whole = None
skip_of defaulted = None
skip_of (skipped x) = Some (empty_function x)
skip_of held = Some (empty_function empty_option)

abbrev pub default_of : ℕ → Manner → DefaultD
default_of n plain = no_default
default_of n manners.whole = no_default
default_of n defaulted = path_default (default_function n)
default_of n (skipped x) = own_default
default_of n held = own_default

abbrev pub reader_of : Manner → Option ExprPathD
reader_of plain = None
reader_of manners.whole = Some whole_function
reader_of defaulted = None
reader_of (skipped x) = None
reader_of held = Some some_function

abbrev pub attrs_of : MultiNameD → Bool → ℕ → Manner → TyD → FieldAttrs
attrs_of name flat n m t = record {
  name = name;
  skip_serializing = false;
  skip_deserializing = false;
  skip_serializing_if = skip_of m;
  default = default_of n m;
  serialize_with = None;
  deserialize_with = reader_of m;
  ser_bound = None;
  de_bound = None;
  borrowed_lifetimes = held_by [] t;
  getter = None;
  flatten = flat;
  transparent = false;
}

-- a field that was read: its name or number, its names, whether it is a rest, its manner with the place of its default, and the field as it is written
abbrev pub made : MemberD → MultiNameD → Bool → ℕ → Manner → FieldD → ReadField
made member name flat n m f = record { member = member; attrs = attrs_of name flat n m f.ty; ty = f.ty; original = f }

-- ---- names

only_equal : (o : Ordering) → is_eq o ≡ true → o ≡ Equal
only_equal Less e = cc
only_equal Equal e = refl
only_equal Greater e = cc

pub itself : (x : List ℕ) → slice_cmp nat_cmp x x ≡ Equal
itself x = only_equal (slice_cmp nat_cmp x x) (is_eq-slice_cmp x x ∙ bytes_itself x)

-- a field that is written, with a name
abbrev pub with_name : List Carried → List ℕ → TyD → FieldD
with_name ms i t = record { attrs = serde ms; name = Some (name_at i); ty = t }

module _ (variant_name field_name : Meaning) (private : Name) where
  -- what the acts make of a field, rules aside
  abbrev from_acts : FieldD → ℕ → List ActD → FieldAttrs
  from_acts f index acts = field_renamed field_name no_rules (field_from f index no_default private acts)

  -- where an attribute says the name: it is added to those that are read, and comes again as the name
  abbrev added_twice : List ℕ → Ordering → MultiNameD
  added_twice x o = record (both_names true (name_at x)) { aliases = match_ordering o (name_at x ∷ name_at x ∷ []) (name_at x ∷ []) (name_at x ∷ name_at x ∷ []) }

  said : (ms : List Carried) (i x : List ℕ) (t : TyD) (index n : ℕ) (m : Manner)
      → from_acts (with_name ms i t) index (rename_acts false x ++ manner_acts n m) ≡ attrs_of (both_names true (name_at x)) false n m t
  said ms i x t index n plain = ap (λ o. attrs_of (added_twice x o) false n plain t) (itself x)
  said ms i x t index n manners.whole = ap (λ o. attrs_of (added_twice x o) false n manners.whole t) (itself x)
  said ms i x t index n defaulted = ap (λ o. attrs_of (added_twice x o) false n defaulted t) (itself x)
  said ms i x t index n (skipped y) = ap (λ o. attrs_of (added_twice x o) false n (skipped y) t) (itself x)
  said ms i x t index n held = ap (λ o. attrs_of (added_twice x o) false n held t) (itself x)

  own : (ms : List Carried) (i : List ℕ) (t : TyD) (index n : ℕ) (m : Manner) → unraw i ≡ i
      → from_acts (with_name ms i t) index (rename_acts true i ++ manner_acts n m) ≡ attrs_of (both_names false (name_at i)) false n m t
  own ms i t index n plain h = ap (λ z. attrs_of (both_names false (name_at z)) false n plain t) h
  own ms i t index n manners.whole h = ap (λ z. attrs_of (both_names false (name_at z)) false n manners.whole t) h
  own ms i t index n defaulted h = ap (λ z. attrs_of (both_names false (name_at z)) false n defaulted t) h
  own ms i t index n (skipped y) h = ap (λ z. attrs_of (both_names false (name_at z)) false n (skipped y) t) h
  own ms i t index n held h = ap (λ z. attrs_of (both_names false (name_at z)) false n held t) h

  by_name : (ms : List Carried) (i x : List ℕ) (t : TyD) (index n : ℕ) (m : Manner) (b : Bool) → bytes_eq i x ≡ b → unraw i ≡ i
      → from_acts (with_name ms i t) index (rename_acts b x ++ manner_acts n m) ≡ attrs_of (both_names (not b) (name_at x)) false n m t
  by_name ms i x t index n m false e h = said ms i x t index n m
  by_name ms i x t index n m true e h = own ms i t index n m h ∙ ap (λ z. attrs_of (both_names false (name_at z)) false n m t) ((bytes_eq-Decides i x).0 e)

  abbrev read_at : ℕ → FieldD → ReadField
  read_at index f = name_field variant_name field_name no_rules (field_of lexed private no_default None index f)

  pub field_made : FunctionsAreRead → (i x : List ℕ) (t : TyD) (index n : ℕ) (m : Manner) → unraw i ≡ i
      → read_at index (with_name (rename_metas i x ++ manner_metas n m) i t)
      ≡ made (named (name_at i)) (both_names (not (bytes_eq i x)) (name_at x)) false n m (with_name (rename_metas i x ++ manner_metas n m) i t)
  field_made functions i x t index n m h =
      let ms = rename_metas i x ++ manner_metas n m in
      let f = with_name ms i t in
      ap (λ acts. record { member = named (name_at i); attrs = from_acts f index acts; ty = t; original = f }) (field_read functions f (record { text = unraw i; span = site }) (bytes_eq i x) i x n m refl)
      ∙ ap (λ a. record { member = named (name_at i); attrs = a; ty = t; original = f }) (by_name ms i x t index n m (bytes_eq i x) refl h)

  pub rest_made : (i : List ℕ) (t : TyD) (index : ℕ) → unraw i ≡ i
      → read_at index (with_name (flag (codes "flatten") ∷ []) i t) ≡ made (named (name_at i)) (both_names false (name_at i)) true 0 plain (with_name (flag (codes "flatten") ∷ []) i t)
  rest_made i t index h =
      let f = with_name (flag (codes "flatten") ∷ []) i t in
      ap (λ z. record { member = named (name_at i); attrs = attrs_of (both_names false (name_at z)) true 0 plain t; ty = t; original = f }) h

  pub place_made : (t : TyD) (index : ℕ) → read_at index (unnamed_field t) ≡ made (unnamed index) (both_names false (name_at (decimal index))) false 0 plain (unnamed_field t)
  place_made t index = refl
