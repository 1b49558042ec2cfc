-- Values that are one and the same, or both lists, or both objects: so a value and what is written of what was read of it.
use Rattle.std.proofs.Common.{◌≡◌, ℕ, List, [], ◌∷◌, Bool, true, false, ◌||◌, not, cond, refl, sym, ap, ◌∙◌, true≢false, Option, Some, None, bytes_eq}
use Rattle.std.specs.List.{list_all}
use Rattle.json_value.specs.Value as value
use Rattle.json_value.specs.Value.{Value, Items, Members, null, number, fraction, text, list, object, same}
use Rattle.schema_defs.specs.Layer.{is_listed}
use Rattle.schema_defs.specs.Texts.{Relations}
use Rattle.model_defs.specs.Model.{RuleD, text_rule, allow_rule, deny_rule, ConstraintD, rule_of}
use Rattle.model_defs.specs.Layer.{is_null, rule_agrees, given_rule_agrees}
use Rattle.writing_laws.specs.Kinds.{kind_of}
use Rattle.writing_laws.specs.Tables.{is_scalar, lists_scalars}
use Rattle.writing_laws.proofs.Taken.{and_left, and_right}

abbrev pub Alike : Value → Value → Type 0
Alike (list xs) (list ys) = Unit {0}
Alike (list xs) _ = ⊥
Alike (object ms) (object ns) = Unit {0}
Alike (object ms) _ = ⊥
Alike v w = v ≡ w

pub alike_as : {A : Type 0} → (f : Value → A) → ((xs ys : Items) → f (list xs) ≡ f (list ys)) → ((ms ns : Members) → f (object ms) ≡ f (object ns)) → (v w : Value) → Alike v w → f v ≡ f w
alike_as f g h (list xs) (list ys) e = g xs ys
alike_as f g h (list xs) _ e = absurd e
alike_as f g h (object ms) (object ns) e = h ms ns
alike_as f g h (object ms) _ e = absurd e
alike_as f g h null w e = ap f e
alike_as f g h (value.boolean b) w e = ap f e
alike_as f g h (number z) w e = ap f e
alike_as f g h fraction w e = ap f e
alike_as f g h (text s) w e = ap f e

pub alike_null : (v w : Value) → Alike v w → is_null w ≡ is_null v
alike_null v w h = sym (alike_as is_null (λ xs ys. refl) (λ ms ns. refl) v w h)

pub alike_kind : (v w : Value) → Alike v w → kind_of w ≡ kind_of v
alike_kind v w h = sym (alike_as kind_of (λ xs ys. refl) (λ ms ns. refl) v w h)

pub null_is : (v : Value) → is_null v ≡ true → null ≡ v
null_is null h = refl
null_is _ h = absurd (true≢false (sym h))

-- ---- rules

unlisted : (v : Value) → ((u : Value) → is_scalar u ≡ true → same v u ≡ false) → (vs : List Value) → list_all is_scalar vs ≡ true → is_listed v vs ≡ false
unlisted v h [] e = refl
unlisted v h (u ∷ vs) e = (λ i. h u (and_left (is_scalar u) (list_all is_scalar vs) e) i || unlisted v h vs (and_right (is_scalar u) (list_all is_scalar vs) e) i)

no_list : (xs : Items) (u : Value) → is_scalar u ≡ true → same (list xs) u ≡ false
no_list xs (list ys) e = absurd (true≢false (sym e))
no_list xs _ e = refl

no_object : (ms : Members) (u : Value) → is_scalar u ≡ true → same (object ms) u ≡ false
no_object ms (object ns) e = absurd (true≢false (sym e))
no_object ms _ e = refl

alike_rule : (r : Relations) (rule : RuleD) → lists_scalars rule ≡ true → (v w : Value) → Alike v w → rule_agrees r v rule ≡ rule_agrees r w rule
alike_rule r (text_rule t) s v w h = alike_as (λ u. rule_agrees r u (text_rule t)) (λ xs ys. refl) (λ ms ns. refl) v w h
alike_rule r (allow_rule vs) s v w h =
    alike_as (λ u. rule_agrees r u (allow_rule vs)) (λ xs ys. unlisted (list xs) (no_list xs) vs s ∙ sym (unlisted (list ys) (no_list ys) vs s))
    (λ ms ns. unlisted (object ms) (no_object ms) vs s ∙ sym (unlisted (object ns) (no_object ns) vs s)) v w h
alike_rule r (deny_rule vs) s v w h =
    alike_as (λ u. rule_agrees r u (deny_rule vs)) (λ xs ys. ap not (unlisted (list xs) (no_list xs) vs s ∙ sym (unlisted (list ys) (no_list ys) vs s)))
    (λ ms ns. ap not (unlisted (object ms) (no_object ms) vs s ∙ sym (unlisted (object ns) (no_object ns) vs s))) v w h

abbrev pub ListsScalars : Option RuleD → Type 0
ListsScalars None = Unit {0}
ListsScalars (Some rule) = lists_scalars rule ≡ true

pub rule_scalars : (n : List ℕ) (cs : List ConstraintD) → list_all (λ c. lists_scalars c.rule) cs ≡ true → ListsScalars (rule_of n cs)
rule_scalars n [] h = tt
rule_scalars n (c ∷ cs) h =
    by (bytes_eq n c.item) (and_left (lists_scalars c.rule) (list_all (λ d. lists_scalars d.rule) cs) h) (rule_scalars n cs (and_right (lists_scalars c.rule) (list_all (λ d. lists_scalars d.rule) cs) h))
  where
    by : (b : Bool) → lists_scalars c.rule ≡ true → ListsScalars (rule_of n cs) → ListsScalars (cond b (Some c.rule) (rule_of n cs))
    by true g k = g
    by false g k = k

pub alike_given : (r : Relations) (o : Option RuleD) → ListsScalars o → (v w : Value) → Alike v w → given_rule_agrees r w o ≡ given_rule_agrees r v o
alike_given r None s v w h = refl
alike_given r (Some rule) s v w h = sym (alike_rule r rule s v w h)
