-- Where the stated default at each place is taken by the type of its field, the containers of a table have sound defaults.
use Rattle.std.proofs.Common.{◌≡◌, ◌+◌, ℕ, suc, List, [], ◌∷◌, ◌++◌, length, Bool, true, false, ◌&&◌, refl, inl, inr}
use Rattle.std.specs.List.{list_all}
use Rattle.json_value.specs.Value.{Value}
use Rattle.schema_defs.specs.Texts.{Relations}
use Rattle.model_defs.specs.Types.{TypeModel, types_of}
use Rattle.model_defs.specs.Model.{stated_default, ContainerModel, ConversionsD}
use Rattle.reading_defs.specs.Laws.{is_sound, fields_are_sound, body_is_sound}
use Rattle.entry_defs.specs.Entry.{Entry, option_entry, State, required, optional, stated, Shape, struct_shape, enum_shape, newtype_shape, Rest, no_rest, rest, Contents, unit_contents, newtype_contents, tuple_contents, struct_contents, FieldEntry, VariantEntry, fields_of, rest_of, variants_of}
use Rattle.entry_defs.specs.Table.{ItemEntry}
use Rattle.emit_defs.specs.Setting.{Setting}
use Rattle.emit_defs.specs.Models.{type_models, used_type, manner, manner_type, manner_default, unnamed_models, field_model, field_models, rest_models, contents_models, variant_models, shape_body, models_of_items, shape_defaults, after_state, after_contents}
use Rattle.default_laws.specs.Stated.{StatedByFields, StatedByContents, StatedByVariants, StatedByShape, StatedByItems}

module _ (s : Setting) (models : List ContainerModel) (cs : ConversionsD) (r : Relations) where
  abbrev Taken : ℕ → TypeModel → Type 0
  Taken n ty = is_sound models cs r ty (stated_default n) ≡ true

  -- each default of these places is taken
  abbrev AllTaken : (ℕ → Entry → Value → TypeModel → Type 0) → Type 0
  AllTaken H = (n : ℕ) (e : Entry) (w : Value) (ty : TypeModel) → H n e w ty → Taken n ty

  in_manner : (l : Bool) (st : State) (e : Entry) (ty : TypeModel) (at : ℕ) → ((w : Value) → st ≡ stated w → Taken at ty)
      → is_sound models cs r (manner_type (manner l st e) ty) (manner_default (manner l st e) at) ≡ true
  in_manner true required e ty at h = refl
  in_manner false required e ty at h = refl
  in_manner l (stated w) e ty at h = h w refl
  in_manner l optional (option_entry e) ty at h = refl
  in_manner l optional _ ty at h = refl

  and_both : (a b : Bool) → a ≡ true → b ≡ true → (a && b) ≡ true
  and_both a b h k = λ i. h i && k i

  of_rest : (owner : List ℕ) (o : Rest) → fields_are_sound models cs r (rest_models s owner o) ≡ true
  of_rest owner no_rest = refl
  of_rest owner (rest i e) = refl

  of_fields : (owner : List ℕ) (at : ℕ) (fs : List FieldEntry) (o : Rest) → AllTaken (λ n e w ty. StatedByFields s n e w ty owner at fs)
      → fields_are_sound models cs r (field_models s owner at fs ++ rest_models s owner o) ≡ true
  of_fields owner at [] o h = of_rest owner o
  of_fields owner at (f ∷ fs) o h =
      let more = field_models s owner (after_state f.state at) fs ++ rest_models s owner o in
      and_both (is_sound models cs r (field_model s owner at f).field_type (field_model s owner at f).default) (fields_are_sound models cs r more)
      (in_manner (s.leads f.entry) f.state f.entry (used_type s owner f.entry) at (λ w is. h at f.entry w (used_type s owner f.entry) (inl (refl, is, refl, refl))))
      (of_fields owner (after_state f.state at) fs o (λ n e w ty p. h n e w ty (inr p)))

  of_unnamed : (i : ℕ) (ts : List TypeModel) → fields_are_sound models cs r (unnamed_models i ts) ≡ true
  of_unnamed i [] = refl
  of_unnamed i (t ∷ ts) = of_unnamed (suc i) ts

  of_contents : (owner : List ℕ) (at : ℕ) (c : Contents) → AllTaken (λ n e w ty. StatedByContents s n e w ty owner at c) → fields_are_sound models cs r (contents_models s owner at c) ≡ true
  of_contents owner at unit_contents h = refl
  of_contents owner at (newtype_contents e) h = refl
  of_contents owner at (tuple_contents es) h = of_unnamed 0 (types_of (type_models s.name (s.is_boxed owner) es))
  of_contents owner at (struct_contents fs) h = of_fields owner at (fields_of fs) (rest_of fs) h

  of_variants : (owner : List ℕ) (at : ℕ) (xs : List VariantEntry) → AllTaken (λ n e w ty. StatedByVariants s n e w ty owner at xs)
      → list_all (λ x. fields_are_sound models cs r x.fields) (variant_models s owner at xs) ≡ true
  of_variants owner at [] h = refl
  of_variants owner at (x ∷ xs) h =
      and_both (fields_are_sound models cs r (contents_models s owner at x.contents))
      (list_all (λ z. fields_are_sound models cs r z.fields) (variant_models s owner (after_contents x.contents at) xs))
      (of_contents owner at x.contents (λ n e w ty p. h n e w ty (inl p))) (of_variants owner (after_contents x.contents at) xs (λ n e w ty p. h n e w ty (inr p)))

  of_shape : (owner : List ℕ) (at : ℕ) (c : Shape) → AllTaken (λ n e w ty. StatedByShape s n e w ty owner at c) → body_is_sound models cs r (shape_body s owner at c) ≡ true
  of_shape owner at (struct_shape closed fs) h = of_fields owner at (fields_of fs) (rest_of fs) h
  of_shape owner at (enum_shape closed tag xs) h = of_variants owner at (variants_of xs) h
  of_shape owner at (newtype_shape e rule) h = refl

  pub of_items : (at : ℕ) (is : List ItemEntry) → AllTaken (λ n e w ty. StatedByItems s n e w ty at is) → list_all (λ m. body_is_sound models cs r m.body) (models_of_items s at is) ≡ true
  of_items at [] h = refl
  of_items at (i ∷ is) h =
      and_both (body_is_sound models cs r (shape_body s i.name at i.shape))
      (list_all (λ m. body_is_sound models cs r m.body) (models_of_items s (at + length (shape_defaults i.shape)) is))
      (of_shape i.name at i.shape (λ n e w ty p. h n e w ty (inl p))) (of_items (at + length (shape_defaults i.shape)) is (λ n e w ty p. h n e w ty (inr p)))
