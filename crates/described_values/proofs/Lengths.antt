-- Lengths of texts, and the rules of items.
use Rattle.std.proofs.Common.{◌≡◌, ℕ, List, Bool, true, Option, Some, None, codes, [], ◌∷◌, if◌then◌else◌, refl, sym, ap, ◌∙◌}
use Rattle.json_value.specs.Value.{Value, Members, object, members}
use Rattle.schema_defs.specs.Build.{◌≔◌, str}
use Rattle.model_defs.specs.Model.{RuleD}
use Rattle.describe_defs.specs.Written.{lengths_value, ruled_value}
use Rattle.described_values.specs.Shown.{put_length}

lengths_put : (least most : Option ℕ) → object (put_length (codes "maxLength") most (put_length (codes "minLength") least (members ("type" ≔ str "string" ∷ [])))) ≡ lengths_value least most
lengths_put None None = refl
lengths_put None (Some m) = refl
lengths_put (Some l) None = refl
lengths_put (Some l) (Some m) = refl

pub lengths_are : (least most : Option ℕ) (one two three : Members) → one ≡ members ("type" ≔ str "string" ∷ []) → two ≡ put_length (codes "minLength") least one → three ≡ put_length (codes "maxLength") most two
    → object three ≡ lengths_value least most
lengths_are least most one two three a b c = ap object (c ∙ ap (put_length (codes "maxLength") most) (b ∙ ap (put_length (codes "minLength") least) a)) ∙ lengths_put least most

pub by_rule : (r q : Option RuleD) (v w : Value) (b : Bool) → b ≡ true → v ≡ ruled_value r → r ≡ q → v ≡ (if b then ruled_value q else w)
by_rule r q v w b h e k = e ∙ ap ruled_value k ∙ ap (λ c. if c then ruled_value q else w) (sym h)
