-- What a schema says by its keywords of members, where one stands.
use Rattle.std.proofs.Common.{◌≡◌, ℕ, List, [], Bool, Option, Some, None, option_and_then, refl, sym, ap, ◌∙◌, rules}
use Rattle.schema_defs.specs.Layer.{property_at}
use Rattle.schema_defs.specs.Schema.{Schema, Named, no_named, MaybeSchema}
use Rattle.schema_types.specs.View.{members_view, properties_view}
use Rattle.schema_types.specs.declared.schema.ObjectValidation.{ObjectValidation, out-ObjectValidation, the_lemmas}
use Rattle.enum_defs.specs.Words.{Name, props_of, given_schema}
use Rattle.enum_defs.specs.Shapes.{members_of, constant_in, constant_text}
use Rattle.enum_shapes.proofs.Named.{constant_found}
use Rattle.convert_defs.specs.Standing.{words_or}
use Rattle.convert_defs.specs.Shapes.{words_or_none, tag_text, less_property, is_no_property, properties_in}

pub props_seen : (o : ObjectValidation) → props_of (members_view o) ≡ properties_view (out-ObjectValidation o).properties.entries
props_seen o = search (rules, the_lemmas)

words_seen : (o : Option (List ℕ)) → words_or o [] ≡ words_or_none o
words_seen None = refl
words_seen (Some t) = refl

-- the constant text of a schema that may be given
constant_seen : (m : MaybeSchema) (o : Option Schema) → o ≡ given_schema m → option_and_then constant_text o ≡ constant_in m
constant_seen m o h = ap (option_and_then constant_text) h ∙ sym (constant_found m)

pub text_seen : (tag : List ℕ) (o : ObjectValidation) (s : Option Schema) → s ≡ given_schema (property_at tag (properties_view (out-ObjectValidation o).properties.entries))
    → option_and_then constant_text s ≡ constant_in (property_at tag (props_of (members_view o)))
text_seen tag o s h =
    constant_seen (property_at tag (properties_view (out-ObjectValidation o).properties.entries)) s h ∙ ap (λ ps. constant_in (property_at tag ps)) (sym (props_seen o))

-- the text of the tag
pub tag_seen : (tag : List ℕ) (s : Schema) (ns : Named) (o : Option Name) → ns ≡ members_of s → o ≡ constant_in (property_at tag (props_of ns)) → words_or o [] ≡ tag_text tag s
tag_seen tag s ns o h e = words_seen o ∙ ap words_or_none (e ∙ ap (λ (ms : Named). constant_in (property_at tag (props_of ms))) h)

-- whether more than the tag stands
pub others_seen : (tag : List ℕ) (s : Schema) (o : ObjectValidation) (b : Bool) → members_view o ≡ members_of s
    → b ≡ is_no_property (less_property tag (properties_view (out-ObjectValidation o).properties.entries)) → b ≡ is_no_property (less_property tag (properties_in s))
others_seen tag s o b h e = e ∙ ap (λ ps. is_no_property (less_property tag ps)) (sym (props_seen o) ∙ ap props_of h)
