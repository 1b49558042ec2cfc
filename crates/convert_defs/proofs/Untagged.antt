-- Variants without a tag.
use Rattle.schema_defs.specs.declared.Setting.{Setting}
use Rattle.std.proofs.Common.{◌≡◌, ℕ, suc, List, [], ◌∷◌, map, Bool, true, false, ◌&&◌, refl, sym}
use Rattle.std.specs.Prelude.{if◌then◌else◌}
use Rattle.json_value.specs.Value.{Value}
use Rattle.schema_defs.specs.Location.{Step, place}
use Rattle.schema_defs.specs.Texts.{Relations}
use Rattle.schema_defs.specs.Schema.{Schema, Schemas, no_more, schema}
use Rattle.schema_defs.specs.Layer.{Parts, judge_any}
use Rattle.model_defs.specs.Model.{untagged}
use Rattle.model_defs.specs.Layer as model
use Rattle.entry_defs.specs.Entry.{Target, Entry, boolean_entry, integer_entry, text_entry, native_entry, any_entry, unit_entry, option_entry, vec_entry, set_entry, map_entry, tuple_entry, array_entry, reference, item, struct_shape, enum_shape, newtype_shape, rest_of, newtype_contents, tuple_contents, struct_contents}
use Rattle.entry_defs.specs.Layer as entry
use Rattle.entry_defs.specs.Layer.{entry_takes, same_takes, some_takes}
use Rattle.convert_defs.specs.Row.{Way, Part, child, variants_parts}
use Rattle.convert_defs.specs.Shapes.{members_from}
use Rattle.convert_defs.specs.Table.{untagged_variant}
use Rattle.convert_defs.specs.Convert.{same_flag, is_without_rest, has_two_places, content_of, row_variants}
use Rattle.convert_defs.specs.Laws.{Keeps}
use Rattle.convert_defs.proofs.Keeps.{keep-equal, keep-to, keep-either}
use Rattle.schema_defs.proofs.Spare.{RefsAll}
use Rattle.convert_defs.proofs.Views.{View, AllParts}
use Rattle.convert_defs.proofs.Rows.{IsSound}

-- a variant's content takes what the entry takes that it is made of
pub content-takes : (r : Relations) (v : Value) (es : model.Parts entry.Judge) (tgt : Target → Bool) (closed : Bool) (e : Entry) → same_takes r v es tgt closed (content_of untagged closed e) ≡ entry_takes r v es tgt e
content-takes r v es tgt closed (tuple_entry us) = by (has_two_places us)
  where
    by : (b : Bool) → same_takes r v es tgt closed (if b then tuple_contents us else newtype_contents (tuple_entry us)) ≡ entry_takes r v es tgt (tuple_entry us)
    by true = refl
    by false = refl
content-takes r v es tgt closed unit_entry = refl
content-takes r v es tgt closed (item l (struct_shape c fs)) = by c closed (is_without_rest (rest_of fs))
  where
    by : (c closed b : Bool) → same_takes r v es tgt closed (if same_flag c closed && b then struct_contents fs else newtype_contents (item l (struct_shape c fs))) ≡ entry_takes r v es tgt (item l (struct_shape c fs))
    by true true true = refl
    by true true false = refl
    by true false b = refl
    by false true b = refl
    by false false true = refl
    by false false false = refl
content-takes r v es tgt closed (item l (enum_shape t c ws)) = refl
content-takes r v es tgt closed (item l (newtype_shape e u)) = refl
content-takes r v es tgt closed boolean_entry = refl
content-takes r v es tgt closed (integer_entry g) = refl
content-takes r v es tgt closed text_entry = refl
content-takes r v es tgt closed (native_entry f) = refl
content-takes r v es tgt closed any_entry = refl
content-takes r v es tgt closed (option_entry e) = refl
content-takes r v es tgt closed (vec_entry e) = refl
content-takes r v es tgt closed (set_entry e) = refl
content-takes r v es tgt closed (map_entry k e) = refl
content-takes r v es tgt closed (array_entry e n) = refl
content-takes r v es tgt closed (reference t) = refl

module _ (way : Way) (P : List ℕ → Type 0) (st : Setting) (R : Schema → Entry → Type 0) (conv : Part → Entry) (r : Relations) (fol : List ℕ → Bool) (tgt : Target → Bool) (v : Value) (ps : Parts) (es : model.Parts entry.Judge) (w : View way st R r v ps es) where
  -- members without a tag
  pub any-untagged : (k : Step) (i : ℕ) (ss : Schemas) (closed : Bool) → RefsAll P ss → AllParts (IsSound way P st R conv r fol tgt v ps es w) (variants_parts (map untagged_variant (members_from k i ss)))
      → Keeps way (judge_any r v ps fol ss) (some_takes r v es tgt closed (row_variants conv untagged closed (map untagged_variant (members_from k i ss))))
  any-untagged k i no_more closed g0 h = keep-equal way false false refl
  any-untagged k i (schema s ss) closed g0 h =
      keep-either way _ _ _ _ (keep-to way _ _ _ (h.0.1 g0.0) (sym (content-takes r v es tgt closed (conv (child (k ∷ place i ∷ []) s))))) (any-untagged k (suc i) ss closed g0.1 h.1)
