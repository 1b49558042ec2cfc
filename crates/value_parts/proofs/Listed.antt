-- What lists of values say, whatever the value.
use Rattle.std.proofs.Common.{◌≡◌, List, Bool, not, refl, ◌∙◌, ap}
use Rattle.json_value.specs.Value as value
use Rattle.json_value.specs.Value.{Value, null, number, fraction, text, list, object}
use Rattle.schema_defs.specs.Layer.{is_listed}
use Rattle.schema_defs.specs.Texts.{Relations}
use Rattle.model_defs.specs.Model.{allow_rule, deny_rule}
use Rattle.model_defs.specs.Layer.{rule_agrees}

allowed : (r : Relations) (v : Value) (vs : List Value) → is_listed v vs ≡ rule_agrees r v (allow_rule vs)
allowed r null vs = refl
allowed r (value.boolean b) vs = refl
allowed r (number z) vs = refl
allowed r fraction vs = refl
allowed r (text s) vs = refl
allowed r (list xs) vs = refl
allowed r (object ms) vs = refl

denied : (r : Relations) (v : Value) (vs : List Value) → not (is_listed v vs) ≡ rule_agrees r v (deny_rule vs)
denied r null vs = refl
denied r (value.boolean b) vs = refl
denied r (number z) vs = refl
denied r fraction vs = refl
denied r (text s) vs = refl
denied r (list xs) vs = refl
denied r (object ms) vs = refl

pub allow_says : (r : Relations) (v : Value) (vs : List Value) (b : Bool) → b ≡ is_listed v vs → b ≡ rule_agrees r v (allow_rule vs)
allow_says r v vs b h = h ∙ allowed r v vs

pub deny_says : (r : Relations) (v : Value) (vs : List Value) (b : Bool) → b ≡ is_listed v vs → not b ≡ rule_agrees r v (deny_rule vs)
deny_says r v vs b h = ap not h ∙ denied r v vs
