-- Items within the forms of a table without stated defaults state none.
use Rattle.std.proofs.Common.{◌≡◌, ℕ, List, [], ◌∷◌, ◌++◌, map, length, Bool, true, false, not, ◌&&◌, ◌||◌, Option, Some, None, option_map, refl, sym, ap, subst, ◌∙◌, true≢false, arith}
use Rattle.std.specs.Prelude.{nat_lt}
use Rattle.std.proofs.lemmas.Bool.{le-ltb}
use Rattle.std.specs.List.{list_any, list_all, flat_map, filter_map, cons_option}
use Rattle.syntax_trees.specs.Item.{ItemD}
use Rattle.attr_parts.specs.Values.{DefaultD, no_default, own_default, path_default, TagD}
use Rattle.attr_parts.specs.declared.derive.Derive.TheVariants.{Deserialize}
use Rattle.attr_defs.specs.Renames.{Meaning}
use Rattle.attr_defs.specs.Texts.{lexed}
use Rattle.schema_defs.specs.Texts.{Relations}
use Rattle.json_value.specs.View.{kept_view}
use Rattle.conversion_table.specs.Conversions.{conversions_view}
use Rattle.conversion_table.specs.declared.conversions.Conversions.{Conversions}
use Rattle.model_defs.specs.Types.{TypeModel}
use Rattle.model_defs.specs.Model.{ContainerModel, ConversionsD}
use Rattle.reading_defs.specs.Laws.{is_sound, fields_are_sound, body_is_sound}
use Rattle.container_defs.specs.Container.{ReadField, ReadVariant, ReadData, read_enum, read_struct, ReadContainer, all_fields}
use Rattle.container_defs.specs.Reader.{default_place, default_model, field_model, variant_model, body_model, reader_model, item_models}
use Rattle.container_defs.specs.Forms as forms
use Rattle.container_defs.specs.Forms.{holds, is_stated_elsewhere, has_unknown_default, names_of, is_outside, leaves_forms}
use Rattle.derive_model.specs.Items.{private, read_of, first_outside}
use Rattle.derive_model.specs.Judging.{AreSound}
use Rattle.derive_model.specs.Laws.{TablesWithoutDefaultsAreSound}
use Rattle.derive_model.proofs.Inside.{none_outside}

-- ---- Booleans

first_false : (a b : Bool) → (a || b) ≡ false → a ≡ false
first_false true b h = cc
first_false false b h = refl

then_false : (a b : Bool) → (a || b) ≡ false → b ≡ false
then_false true b h = cc
then_false false b h = h

both_true : (a b : Bool) → a ≡ true → b ≡ true → (a && b) ≡ true
both_true true b h k = k
both_true false b h k = cc

one_by : (a b : Bool) → (not a && b) ≡ true → a ≡ false
one_by true b h = cc
one_by false b h = refl

more_by : (a b : Bool) → (not a && b) ≡ true → b ≡ true
more_by true b h = cc
more_by false b h = h

module _ {A : Type 0} (test : A → Bool) where
  front_none : (xs ys : List A) → list_any test (xs ++ ys) ≡ false → list_any test xs ≡ false
  front_none [] ys h = refl
  front_none (x ∷ xs) ys h = ap (λ b. b || list_any test xs) (first_false (test x) (list_any test (xs ++ ys)) h) ∙ front_none xs ys (then_false (test x) (list_any test (xs ++ ys)) h)

  back_none : (xs ys : List A) → list_any test (xs ++ ys) ≡ false → list_any test ys ≡ false
  back_none [] ys h = h
  back_none (x ∷ xs) ys h = back_none xs ys (then_false (test x) (list_any test (xs ++ ys)) h)

-- ---- fields

none_below : (n : ℕ) → nat_lt n 0 ≡ false
none_below n = le-ltb n 0 (omega arith)

nowhere : (o : Option ℕ) → holds (λ n. nat_lt n 0) o ≡ false
nowhere None = refl
nowhere (Some n) = none_below n

module _ (items : List (List ℕ)) (k : ConversionsD) (e : k.defaults ≡ []) where
  module _ (ms : List ContainerModel) (r : Relations) where
    default_sound : (t : TypeModel) (d : DefaultD) → is_stated_elsewhere items k d ≡ false → is_sound ms k r t (default_model d) ≡ true
    default_sound t no_default h = refl
    default_sound t own_default h = refl
    default_sound t (path_default p) h =
        let none = ap (λ ds. not (holds (λ n. nat_lt n (length ds)) (default_place p))) e ∙ ap not (nowhere (default_place p)) in
        absurd (true≢false (sym none ∙ h))

    abbrev elsewhere : ReadField → Bool
    elsewhere f = is_stated_elsewhere items k f.attrs.default

    fields_sound : (fs : List ReadField) → list_any elsewhere fs ≡ false → fields_are_sound ms k r (map field_model fs) ≡ true
    fields_sound [] h = refl
    fields_sound (f ∷ fs) h =
        both_true (is_sound ms k r (field_model f).field_type (default_model f.attrs.default)) (fields_are_sound ms k r (map field_model fs))
        (default_sound (field_model f).field_type f.attrs.default (first_false (elsewhere f) (list_any elsewhere fs) h)) (fields_sound fs (then_false (elsewhere f) (list_any elsewhere fs) h))

    abbrev fields_in : List ReadVariant → List ReadField
    fields_in vs = flat_map (λ v. v.fields) vs

    variants_sound : (vs : List ReadVariant) → list_any elsewhere (fields_in vs) ≡ false → list_all (λ w. fields_are_sound ms k r w.fields) (map variant_model vs) ≡ true
    variants_sound [] h = refl
    variants_sound (v ∷ vs) h =
        both_true (fields_are_sound ms k r (map field_model v.fields)) (list_all (λ w. fields_are_sound ms k r w.fields) (map variant_model vs))
        (fields_sound v.fields (front_none elsewhere v.fields (fields_in vs) h)) (variants_sound vs (back_none elsewhere v.fields (fields_in vs) h))

    body_sound : (tag : TagD) (d : ReadData) → list_any elsewhere (all_fields d) ≡ false → body_is_sound ms k r (body_model tag d) ≡ true
    body_sound tag (read_enum vs) h = variants_sound vs h
    body_sound tag (read_struct s fs) h = fields_sound fs h

  -- ---- containers

  -- the causes from that of defaults on
  abbrev from_default : List (ReadContainer → Bool)
  from_default =
      has_unknown_default items k
      ∷ forms.has_odd_flatten
      ∷ forms.has_odd_rest
      ∷ forms.is_transparent_with_names
      ∷ forms.has_odd_try_from items k
      ∷ forms.has_nameless_extras
      ∷ forms.has_unknown_type items k
      ∷ forms.is_named_twice items k
      ∷ forms.has_some_elsewhere
      ∷ forms.has_whole_with_default
      ∷ forms.has_text_rule_elsewhere items k
      ∷ forms.has_repeated_name
      ∷ forms.has_unread_beside_rest
      ∷ forms.has_half_emptiness
      ∷ forms.has_no_row
      ∷ []

  abbrev before_default : List (ReadContainer → Bool)
  before_default =
      forms.is_generic
      ∷ forms.is_remote
      ∷ forms.has_from
      ∷ forms.has_into
      ∷ forms.has_a_getter
      ∷ forms.has_bound
      ∷ forms.has_container_default
      ∷ forms.is_tagged_struct
      ∷ forms.is_an_identifier
      ∷ forms.has_other
      ∷ forms.has_untagged_variant
      ∷ forms.has_skip
      ∷ forms.has_serialize_with
      ∷ forms.has_other_deserialize_with
      ∷ forms.has_other_condition
      ∷ []

  known_defaults : (c : ReadContainer) → is_outside items k c ≡ false → has_unknown_default items k c ≡ false
  known_defaults c h =
      let rest : list_any (λ (is : ReadContainer → Bool). is c) from_default ≡ false = back_none (λ (is : ReadContainer → Bool). is c) before_default from_default h in
      first_false (has_unknown_default items k c) _ rest

  container_sound : (ms : List ContainerModel) (r : Relations) (c : ReadContainer) → is_outside items k c ≡ false → body_is_sound ms k r (reader_model c).body ≡ true
  container_sound ms r c h = body_sound ms r c.attrs.tag c.body (known_defaults c h)

  -- ---- items

  module _ (ms : List ContainerModel) (r : Relations) where
    abbrev all_sound : List ContainerModel → Bool
    all_sound ns = list_all (λ m. body_is_sound ms k r m.body) ns

    one_sound : (o : Option ReadContainer) (ns : List ContainerModel) → leaves_forms items k o ≡ false → all_sound ns ≡ true → all_sound (cons_option (option_map reader_model o) ns) ≡ true
    one_sound None ns h p = p
    one_sound (Some c) ns h p = both_true (body_is_sound ms k r (reader_model c).body) (all_sound ns) (container_sound ms r c h) p

    models_sound : (read : ItemD → Option ReadContainer) (is : List ItemD) → list_all (λ i. not (leaves_forms items k (read i))) is ≡ true → all_sound (filter_map (λ i. option_map reader_model (read i)) is) ≡ true
    models_sound read [] h = refl
    models_sound read (i ∷ is) h =
        let others = list_all (λ j. not (leaves_forms items k (read j))) is in
        one_sound (read i) (filter_map (λ j. option_map reader_model (read j)) is) (one_by (leaves_forms items k (read i)) others h) (models_sound read is (more_by (leaves_forms items k (read i)) others h))

pub plain_tables : TablesWithoutDefaultsAreSound
plain_tables v f k is r h e = record {
  numbers = ap (list_all _) e;
  sound = models_sound (names_of is) k e (item_models lexed v f private Deserialize is) r (read_of v f) is (none_outside v f k is h);
}

-- so a module without stated defaults meets what reading asks of them
pub plain_module : (v f : Meaning) (k ks : ConversionsD) (is : List ItemD) (ms : List ContainerModel) (r : Relations) → ms ≡ item_models lexed v f private Deserialize is → ks ≡ k → first_outside v f k is ≡ None → k.defaults ≡ []
    → AreSound ms ks r
plain_module v f k ks is ms r e g h d = subst (λ ns. AreSound ns ks r) (sym e) (subst (λ c. AreSound (item_models lexed v f private Deserialize is) c r) (sym g) (plain_tables v f k is r h d))

pub plain_conversions : (c : Conversions) → c.defaults.items ≡ [] → (conversions_view c).defaults ≡ []
plain_conversions c h = ap (map kept_view) h
