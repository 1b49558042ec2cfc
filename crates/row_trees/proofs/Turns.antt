-- Turns of loops.
use Rattle.std.proofs.Common.{◌≡◌, ℕ, List, [], ◌∷◌, ◌++◌, Bool, Option, Some, None, refl, sym, ap, ◌∙◌, append_assoc}
use Rattle.entry_defs.specs.Entry.{Target, Entry, any_entry, Entries, entry_then, Fields, field_then, Variants, variant_then, Contents}
use Rattle.model_defs.specs.Model.{TagModel}
use Rattle.convert_defs.specs.Row.{Part, FieldRow, VariantRow}
use Rattle.convert_defs.specs.Table.{row_of_target}
use Rattle.convert_defs.specs.Convert.{nullable_entry, entry_of}
use Rattle.row_trees.specs.Build.{built_fields, after_fields, built_places, after_parts, HeldD, BodyD, body_held, after_body, bodies_held, held_content, held_variants, built}

pub fields_turn : (whole done done' : Fields → Fields) (f : FieldRow) (fs : List FieldRow) (e : Entry) (es es' : List Entry)
    → ((more : Fields) → done (built_fields (f ∷ fs) es more) ≡ whole more) → es ≡ e ∷ es'
    → ((more : Fields) → done' more ≡ done (field_then f.name f.name (nullable_entry f.nullable e) f.state more))
    → (more : Fields) → done' (built_fields fs es' more) ≡ whole more
fields_turn whole done done' f fs e es es' h g k more =
    k (built_fields fs es' more) ∙ ap (λ es. done (built_fields (f ∷ fs) es more)) (sym g) ∙ h more

pub left_turn : (f : FieldRow) (fs : List FieldRow) (e : Entry) (es es' whole : List Entry) → after_fields (f ∷ fs) es ≡ whole → es ≡ e ∷ es' → after_fields fs es' ≡ whole
left_turn f fs e es es' whole h g = ap (λ es. after_fields (f ∷ fs) es) (sym g) ∙ h

pub places_turn : (whole done done' : Entries → Entries) (p : Part) (ps : List Part) (e : Entry) (es es' : List Entry)
    → ((more : Entries) → done (built_places (p ∷ ps) es more) ≡ whole more) → es ≡ e ∷ es'
    → ((more : Entries) → done' more ≡ done (entry_then e more))
    → (more : Entries) → done' (built_places ps es' more) ≡ whole more
places_turn whole done done' p ps e es es' h g k more =
    k (built_places ps es' more) ∙ ap (λ es. done (built_places (p ∷ ps) es more)) (sym g) ∙ h more

pub parts_turn : (p : Part) (ps : List Part) (e : Entry) (es es' whole : List Entry) → after_parts (p ∷ ps) es ≡ whole → es ≡ e ∷ es' → after_parts ps es' ≡ whole
parts_turn p ps e es es' whole h g = ap (λ es. after_parts (p ∷ ps) es) (sym g) ∙ h

-- one more body, of the first entries that are left
pub bodies_turn : (whole done done' : List BodyD) (w : VariantRow) (ws : List VariantRow) (b : BodyD) (es es' : List Entry) → done ++ bodies_held (w ∷ ws) es ≡ whole → done' ≡ done ++ b ∷ []
    → b ≡ (w.name, body_held w.body es) → es' ≡ after_body w.body es → done' ++ bodies_held ws es' ≡ whole
bodies_turn whole done done' w ws b es es' h e g k =
    ap (λ ds. ds ++ bodies_held ws es') e ∙ append_assoc done (b ∷ []) (bodies_held ws es') ∙ (λ i. done ++ (g i ∷ bodies_held ws (k i))) ∙ h

-- one more variant, of the first body that is left
pub variants_turn : (tag : TagModel) (closed : Bool) (whole : Variants) (done done' : Variants → Variants) (bs bs' : List BodyD) (n : List ℕ) (b : HeldD) (k : Contents) → done (held_variants tag closed bs) ≡ whole
    → bs ≡ (n, b) ∷ bs' → k ≡ held_content tag closed b → ((more : Variants) → done' more ≡ done (variant_then n n k more)) → done' (held_variants tag closed bs') ≡ whole
variants_turn tag closed whole done done' bs bs' n b k h e g on =
    on (held_variants tag closed bs') ∙ ap (λ k. done (variant_then n n k (held_variants tag closed bs'))) g ∙ ap (λ bs. done (held_variants tag closed bs)) (sym e) ∙ h

-- a reference has no parts
pub reference_built : (name : List ℕ) (o : Option Target) (es : List Entry) → entry_of (λ p. any_entry) name (row_of_target o) ≡ built name (row_of_target o) es
reference_built name None es = refl
reference_built name (Some t) es = refl
