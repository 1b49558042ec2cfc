-- The rules of items.
use Rattle.std.proofs.Common.{◌≡◌, ◌↔◌, ℕ, List, [], ◌∷◌, map, length, Bool, true, false, not, ◌&&◌, ◌||◌, IsTrue, Option, String, string_bytes, refl, sym, ap, ◌∙◌, true≢false, arith}
use Rattle.std.specs.declared.alloc.Global.{Global}
use Rattle.model_defs.specs.Model.{RuleD, VariantModel, TagModel, enum_model, ContainerModel, ConversionsD}
use Rattle.describe_defs.specs.Plain.{has_none, is_length_rule, is_plain_enum, is_plain_body, is_plain_item}
use Rattle.plain_tables.specs.Among.{no_conversions}

empty_is : (xs : List (String Global)) (b : Bool) → (IsTrue b ↔ (length xs ≡ 0)) → b ≡ has_none (map string_bytes xs)
empty_is [] b e = e.1 refl
empty_is (x ∷ xs) true e = absurd (omega (arith, e.0 refl))
empty_is (x ∷ xs) false e = refl

pub no_patterns : (all any : List (String Global)) (a b c : Bool) → (IsTrue a ↔ (length all ≡ 0)) → (IsTrue b ↔ (length any ≡ 0)) → c ≡ (a && b) → c ≡ (has_none (map string_bytes all) && has_none (map string_bytes any))
no_patterns all any a b c e f h = h ∙ (λ i. empty_is all a e i && empty_is any b f i)

-- what is plain and has to meet a rule
pub by_rule : (r q : Option RuleD) (p t s l b : Bool) → p ≡ true → t ≡ true → l ≡ is_length_rule r → r ≡ q → b ≡ (s && l) → b ≡ (p && (not t || (s && is_length_rule q)))
by_rule r q p t s l b h k e g n = n ∙ ap (λ z. s && z) (e ∙ ap is_length_rule g) ∙ (λ i. sym h i && (not (sym k i) || (s && is_length_rule q)))

-- an enum, which meets no rule
pub enum_item : (ms : List ContainerModel) (cs : ConversionsD) (m : ContainerModel) (tag : TagModel) (ws us : List VariantModel) (p : Bool) → m.body ≡ enum_model tag ws → m.try_from ≡ false → us ≡ ws
    → p ≡ is_plain_enum ms no_conversions m.closed tag us → p ≡ is_plain_item ms cs m
enum_item ms cs m tag ws us p b t s e =
    e ∙ ap (is_plain_enum ms no_conversions m.closed tag) s ∙ ap (λ z. not z && is_plain_enum ms no_conversions m.closed tag ws) (sym t) ∙ ap (is_plain_body ms cs m) (sym b)
