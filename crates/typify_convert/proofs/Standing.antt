-- Where a definition stands.
use Rattle.std.proofs.Common.{◌≡◌, ◌⊎◌, inl, inr, List, ℕ, [], ◌∷◌, Bool, true, false, Some, None, Option, codes, bytes_eq, refl, sym, ap, subst, ◌∙◌, true≢false}
use Rattle.std.specs.Prelude.{◌||◌, is_some, option_and_then, if◌then◌else◌}
use Rattle.std.proofs.lemmas.Slice.Eq.{bytes_eq-Decides}
use Rattle.json_value.specs.Value.{same_bool}
use Rattle.schema_defs.specs.Schema.{Schema, Definition, Document}
use Rattle.schema_defs.specs.Admits.{defined, definition_word}
use Rattle.schema_defs.specs.Children.{Node, at_schema, along, definition_node, node_schema, schema_at}
use Rattle.entry_defs.specs.Entry.{Target, definition}
use Rattle.history_laws.specs.Added.{definition_at}

abbrev either : Bool → List ℕ → Option Target
either b n = if b then Some (definition n) else None

same-word : (u v : Bool) → bytes_eq (definition_word u) (definition_word v) ≡ same_bool v u
same-word true true = refl
same-word true false = refl
same-word false true = refl
same-word false false = refl

seen-so : (b : Bool) (s : Schema) → is_some (option_and_then node_schema (if b then Some (at_schema s) else None)) ≡ b
seen-so true s = refl
seen-so false s = refl

abbrev is-there : Bool → Option Definition → Bool
is-there u o = is_some (option_and_then node_schema (definition_node u o))

at-word : (u : Bool) (n : List ℕ) (o : Option Definition) → either (is-there u o) n ≡ definition_at (definition_word u) n o
at-word u n None = refl
at-word u n (Some e) = ap (λ b. either b n) (seen-so (same_bool e.under_defs u) e.body ∙ sym (same-word u e.under_defs))

abbrev is-at : Document → List ℕ → List ℕ → Bool
is-at d w n = is_some (schema_at d (w ∷ n ∷ []))

same-node : (o : Option Node) → option_and_then (along []) o ≡ o
same-node None = refl
same-node (Some m) = refl

at-definitions : (d : Document) (n : List ℕ) → either (is-at d (codes "definitions") n) n ≡ definition_at (codes "definitions") n (defined n d.definitions)
at-definitions d n =
    ap (λ o. either (is_some (option_and_then node_schema o)) n) (same-node (definition_node false (defined n d.definitions))) ∙ at-word false n (defined n d.definitions)

at-defs : (d : Document) (n : List ℕ) → either (is-at d (codes "$defs") n) n ≡ definition_at (codes "$defs") n (defined n d.definitions)
at-defs d n = ap (λ o. either (is_some (option_and_then node_schema o)) n) (same-node (definition_node true (defined n d.definitions))) ∙ at-word true n (defined n d.definitions)

under-word : (d : Document) (w n : List ℕ) → (bytes_eq w (codes "definitions") || bytes_eq w (codes "$defs")) ≡ true → either (is-at d w n) n ≡ definition_at w n (defined n d.definitions)
under-word d w n h = by (bytes_eq w (codes "definitions")) refl (bytes_eq w (codes "$defs")) refl h
  where
    at : (v : List ℕ) → w ≡ v → either (is-at d v n) n ≡ definition_at v n (defined n d.definitions) → either (is-at d w n) n ≡ definition_at w n (defined n d.definitions)
    at v e g = subst (λ (w : List ℕ). either (is-at d w n) n ≡ definition_at w n (defined n d.definitions)) (sym e) g

    by : (a : Bool) → bytes_eq w (codes "definitions") ≡ a → (b : Bool) → bytes_eq w (codes "$defs") ≡ b → (a || b) ≡ true → either (is-at d w n) n ≡ definition_at w n (defined n d.definitions)
    by true e b f h = at (codes "definitions") ((bytes_eq-Decides w (codes "definitions")).0 e) (at-definitions d n)
    by false e true f h = at (codes "$defs") ((bytes_eq-Decides w (codes "$defs")).0 f) (at-defs d n)
    by false e false f h = absurd (true≢false (sym h))

module _ (d : Document) (w n : List ℕ) (word : Bool) (known : word ≡ (bytes_eq w (codes "definitions") || bytes_eq w (codes "$defs"))) where
  pub other_word : word ≡ false → None ≡ definition_at w n (defined n d.definitions)
  other_word h = by (defined n d.definitions)
    where
      neither : (a b : Bool) → (a || b) ≡ false → (v : Bool) → bytes_eq w (codes "definitions") ≡ a → bytes_eq w (codes "$defs") ≡ b → bytes_eq w (definition_word v) ≡ false
      neither false false g false e f = e
      neither false false g true e f = f
      neither true b g v e f = absurd (true≢false g)
      neither false true g v e f = absurd (true≢false g)

      by : (o : Option Definition) → None ≡ definition_at w n o
      by None = refl
      by (Some e) = sym (ap (λ b. either b n) (neither (bytes_eq w (codes "definitions")) (bytes_eq w (codes "$defs")) (sym known ∙ h) e.under_defs refl refl))

  module _ (there : Bool) (stands : there ≡ is_some (schema_at d (w ∷ n ∷ []))) where
    pub not_there : word ≡ true → there ≡ false → None ≡ definition_at w n (defined n d.definitions)
    not_there h e = sym (ap (λ b. either b n) (sym stands ∙ e)) ∙ under-word d w n (sym known ∙ h)

    pub is_there : word ≡ true → there ≡ true → Some (definition n) ≡ definition_at w n (defined n d.definitions)
    is_there h e = sym (ap (λ b. either b n) (sym stands ∙ e)) ∙ under-word d w n (sym known ∙ h)

-- what stands at a definition's place has an item
pub items-are-there : (d : Document) (w n : List ℕ) (s : Schema) → (w ≡ definition_word false) ⊎ (w ≡ definition_word true) → schema_at d (w ∷ n ∷ []) ≡ Some s → definition_at w n (defined n d.definitions) ≡ Some (definition n)
items-are-there d w n s (inl e) g =
    sym (subst (λ (w : List ℕ). either (is-at d w n) n ≡ definition_at w n (defined n d.definitions)) (sym e) (at-definitions d n)) ∙ ap (λ (o : Option Schema). either (is_some o) n) g
items-are-there d w n s (inr e) g =
    sym (subst (λ (w : List ℕ). either (is-at d w n) n ≡ definition_at w n (defined n d.definitions)) (sym e) (at-defs d n)) ∙ ap (λ (o : Option Schema). either (is_some o) n) g
