-- Schemas of the program part by part, and what is added one after another.
use Rattle.std.proofs.Common.{◌≡◌, Bool, true, List, [], ◌++◌, Option, Some, None, option_map, cond, refl, sym, ap, ◌∙◌, append_assoc}
use Rattle.syntax_trees.specs.Item.{ItemD}
use Rattle.schema_defs.specs.Schema as defs
use Rattle.schema_defs.specs.Schema.{Same, Lists, Named, Places}
use Rattle.schema_types.specs.View.{lists_of, named_of, items_step, schema_step, array_step, members_step, object_step, subschemas_step, array_view, members_view, object_view}
use Rattle.schema_types.specs.declared.schema.Items.TheShapes.{former-SchemaObject-array, former-SchemaObject-object}
use Rattle.schema_types.specs.declared.schema.SchemaObject.{SchemaObject, out-SchemaObject, fold_out-SchemaObject}
use Rattle.schema_types.specs.declared.schema.ArrayValidation.{ArrayValidation}
use Rattle.schema_types.specs.declared.schema.ObjectValidation.{ObjectValidation}
use Rattle.model_defs.specs.Types.{TypeModel}
use Rattle.module_texts.specs.Docs.{Doc}
use Rattle.item_docs.specs.Forms.{Form, form}
use Rattle.item_docs.specs.Nested.{docs_at, docs_below, docs_in_lists, docs_in_members, own_docs, keeps_parts}

pub assoc : {A : Type 0} → (xs ys zs : List A) → (xs ++ ys) ++ zs ≡ xs ++ (ys ++ zs)
assoc xs ys zs = append_assoc xs ys zs

lists_mapped : (o : Option ArrayValidation) → lists_of (former-SchemaObject-array.map ArrayValidation Lists array_view o) ≡ lists_of (option_map array_view o)
lists_mapped None = refl
lists_mapped (Some s) = refl

named_mapped : (o : Option ObjectValidation) → named_of (former-SchemaObject-object.map ObjectValidation Named members_view o) ≡ named_of (option_map members_view o)
named_mapped None = refl
named_mapped (Some s) = refl

-- ---- the parts of an object

module _ (is : List ItemD) (o : SchemaObject) (t : TypeModel) where
  abbrev in_lists : Form → List Doc
  in_lists f = docs_in_lists is (lists_of (option_map array_view (out-SchemaObject o).array)) f

  abbrev in_members : Form → List Doc
  in_members f = docs_in_members is (named_of (option_map members_view (out-SchemaObject o).object)) f

  of_object : keeps_parts (object_view o) ≡ true → docs_at is (object_view o) t ≡ own_docs t (object_view o) ++ (in_lists (form is t) ++ in_members (form is t))
  of_object k =
      let x = out-SchemaObject o in
      let seen = fold_out-SchemaObject Places defs.Schema Lists Named defs.Schema Same items_step schema_step array_step members_step object_step subschemas_step o in
      ap (λ s. docs_at is s t) seen
      ∙ (λ i. cond ((ap keeps_parts (sym seen) ∙ k) i) (own_docs t (sym seen i) ++ (docs_in_lists is (lists_mapped x.array i) (form is t) ++ docs_in_members is (named_mapped x.object i) (form is t))) [])

  below_object : keeps_parts (object_view o) ≡ true → docs_below is (object_view o) t ≡ in_lists (form is t) ++ in_members (form is t)
  below_object k =
      let x = out-SchemaObject o in
      let seen = fold_out-SchemaObject Places defs.Schema Lists Named defs.Schema Same items_step schema_step array_step members_step object_step subschemas_step o in
      ap (λ s. docs_below is s t) seen
      ∙ (λ i. cond ((ap keeps_parts (sym seen) ∙ k) i) (docs_in_lists is (lists_mapped x.array i) (form is t) ++ docs_in_members is (named_mapped x.object i) (form is t)) [])

  module _ (b : Bool) (f g : Form) (e : b ≡ keeps_parts (object_view o)) (k : b ≡ true) (p : f ≡ form is t) (q : g ≡ form is t) where
    both : (old mid new : List Doc) → mid ≡ old ++ in_lists f → new ≡ mid ++ in_members g → new ≡ old ++ (in_lists (form is t) ++ in_members (form is t))
    both old mid new h l = l ∙ (λ i. h i ++ in_members (q i)) ∙ append_assoc old (in_lists f) (in_members (form is t)) ∙ ap (λ x. old ++ (in_lists x ++ in_members (form is t))) p

    pub object_docs : (old own mid new : List Doc) → own ≡ old ++ own_docs t (object_view o) → mid ≡ own ++ in_lists f → new ≡ mid ++ in_members g → new ≡ old ++ docs_at is (object_view o) t
    object_docs old own mid new a h l =
        let below = in_lists (form is t) ++ in_members (form is t) in
        both own mid new h l ∙ ap (λ z. z ++ below) a ∙ append_assoc old (own_docs t (object_view o)) below ∙ ap (λ z. old ++ z) (sym (of_object (sym e ∙ k)))

    pub below_docs : (old mid new : List Doc) → mid ≡ old ++ in_lists f → new ≡ mid ++ in_members g → new ≡ old ++ docs_below is (object_view o) t
    below_docs old mid new h l = both old mid new h l ∙ ap (λ z. old ++ z) (sym (below_object (sym e ∙ k)))
