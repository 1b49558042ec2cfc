-- What rules say of a value.
use Rattle.std.proofs.Common.{◌≡◌, ℕ, List, [], ◌∷◌, Bool, true, false, ◌&&◌, not, Some, String, length, Global, refl, ap, ◌∙◌, arith}
use Rattle.std.specs.List.{list_any}
use Rattle.json_value.specs.Value as value
use Rattle.json_value.specs.Value.{Value, null, number, fraction, text, list, object}
use Rattle.schema_types.specs.declared.schema.Schema.{Schema}
use Rattle.schema_types.specs.View.{properties_view}
use Rattle.schema_defs.specs.Schema.{Texts}
use Rattle.schema_defs.specs.Texts.{Relations}
use Rattle.schema_defs.specs.Layer.{if_given, texts_agree, is_listed}
use Rattle.model_defs.specs.Model.{allow_rule, deny_rule}
use Rattle.model_defs.specs.Layer.{has_one_of, rule_agrees}
use Rattle.convert_defs.specs.Owners.{pattern_names}
use Rattle.convert_defs.specs.Scalars.{rule_of_texts}
use Rattle.listed_reading.specs.Rules.{keys_rule}

-- ---- lists of values

allowed : (r : Relations) (v : Value) (vs : List Value) → is_listed v vs ≡ rule_agrees r v (allow_rule vs)
allowed r null vs = refl
allowed r (value.boolean b) vs = refl
allowed r (number z) vs = refl
allowed r fraction vs = refl
allowed r (text s) vs = refl
allowed r (list xs) vs = refl
allowed r (object ms) vs = refl

denied : (r : Relations) (v : Value) (vs : List Value) → not (is_listed v vs) ≡ rule_agrees r v (deny_rule vs)
denied r null vs = refl
denied r (value.boolean b) vs = refl
denied r (number z) vs = refl
denied r fraction vs = refl
denied r (text s) vs = refl
denied r (list xs) vs = refl
denied r (object ms) vs = refl

pub allow_says : (r : Relations) (v : Value) (vs : List Value) (b : Bool) → b ≡ is_listed v vs → b ≡ rule_agrees r v (allow_rule vs)
allow_says r v vs b h = h ∙ allowed r v vs

pub deny_says : (r : Relations) (v : Value) (vs : List Value) (b : Bool) → b ≡ is_listed v vs → not b ≡ rule_agrees r v (deny_rule vs)
deny_says r v vs b h = ap not h ∙ denied r v vs

-- ---- texts

module _ (r : Relations) (s : List ℕ) where
  also : (b : Bool) → b ≡ (b && true)
  also true = refl
  also false = refl

  -- no pattern is one of several
  pub texts_say : (t : Texts) (b : Bool) → b ≡ if_given (texts_agree r s) (Some t) → b ≡ rule_agrees r (text s) (rule_of_texts t)
  texts_say t b h = h ∙ also (texts_agree r s t)

  -- no length is asked
  pub keys_say : (ps : List (List ℕ)) (b : Bool) → b ≡ has_one_of (λ p. r.matches p s) ps → b ≡ rule_agrees r (text s) (keys_rule ps)
  keys_say ps b h = h

-- ---- one of the patterns that stand for names

pub none_given : (has : List ℕ → Bool) (ps : List (String Global × Schema)) → length ps ≡ 0 → true ≡ has_one_of has (pattern_names (properties_view ps))
none_given has [] h = refl
none_given has (p ∷ ps) h = absurd (omega (arith, h))

pub some_given : (has : List ℕ → Bool) (ps : List (String Global × Schema)) (b : Bool) → ¬ (length ps ≡ 0) → b ≡ list_any has (pattern_names (properties_view ps)) → b ≡ has_one_of has (pattern_names (properties_view ps))
some_given has [] b h k = absurd (h refl)
some_given has (p ∷ ps) b h k = k
