-- Schemas that are null by one keyword.
use Rattle.std.proofs.Common.{◌≡◌, ◌≢◌, ℕ, suc, List, [], ◌∷◌, ◌++◌, length, map, Bool, true, false, ◌&&◌, ◌||◌, not, is_none, Option, Some, None, refl, sym, ap, ◌∙◌, arith, true≢false}
use Rattle.std.specs.Prelude.{◌↔◌, IsTrue, nat_le, option_to_list, is_some, option_map}
use Rattle.std.specs.List.{list_any, list_all}
use Rattle.schema_defs.specs.declared.InstanceType.{InstanceType}
use Rattle.schema_defs.specs.declared.InstanceType.TheVariants.{Null}
use Rattle.json_value.specs.Value.{Value}
use Rattle.schema_defs.specs.Schema.{Types, one_type, many_types}
use Rattle.enum_defs.specs.Words.{same_type, is_null}
use Rattle.enum_defs.specs.Shapes.{the_only}
use Rattle.convert_defs.specs.Shapes as shapes
use Rattle.convert_defs.specs.Shapes.{one_null}
use Rattle.member_rows.specs.declared.members.Member.{Member}
use Rattle.member_rows.specs.Members.{member_view}

pub some_types : (ks : List InstanceType) (b : Bool) → (IsTrue b ↔ (length ks ≡ 0)) → (not b && list_all (same_type Null) ks) ≡ one_null (Some (many_types ks)) None None
some_types [] true f = refl
some_types [] false f = absurd (true≢false (sym (f.1 refl)))
some_types (k ∷ ks) true f = absurd (none (length ks) (f.0 refl))
  where
    none : (n : ℕ) → suc n ≡ 0 → ⊥
    none n h = omega arith
some_types (k ∷ ks) false f = refl

pub null_types : (t : Types) (c : Option Value) (e : Option (List Value)) → (is_none c && is_none e && one_null (Some t) None None) ≡ one_null (Some t) c e
null_types (one_type k) None None = refl
null_types (one_type k) None (Some vs) = refl
null_types (one_type k) (Some v) e = refl
null_types (many_types []) None None = refl
null_types (many_types []) None (Some vs) = refl
null_types (many_types []) (Some v) e = refl
null_types (many_types (k ∷ ks)) None None = refl
null_types (many_types (k ∷ ks)) None (Some vs) = refl
null_types (many_types (k ∷ ks)) (Some v) e = refl

pub null_constant : (v : Value) (e : Option (List Value)) → (is_none e && is_null v) ≡ one_null None (Some v) e
null_constant v None = refl
null_constant v (Some vs) = refl

and_false : (b : Bool) → (b && false) ≡ false
and_false true = refl
and_false false = refl

pub nulls_listed : (vs : List Value) → (list_any is_null vs && list_all is_null vs) ≡ one_null None None (Some vs)
nulls_listed [] = refl
nulls_listed (v ∷ vs) = by (is_null v)
  where
    by : (b : Bool) → ((b || list_any is_null vs) && (b && list_all is_null vs)) ≡ (b && list_all is_null vs)
    by true = refl
    by false = and_false (list_any is_null vs)

-- two or more members, and those that are no null schemas
pub two_or_more : (ms : List Member) → nat_le 2 (length (map member_view ms)) ≡ nat_le 2 (length ms)
two_or_more [] = refl
two_or_more (m ∷ []) = refl
two_or_more (m ∷ n ∷ ms) = ap (λ k. nat_le 2 (suc (suc k))) (counted ms)
  where
    counted : (ns : List Member) → length (map member_view ns) ≡ length ns
    counted [] = refl
    counted (n ∷ ns) = ap suc (counted ns)

pub two_others : (o : Option Member) (m : shapes.Member) (ms : List shapes.Member) → is_some o ≡ true → the_only (option_to_list (option_map member_view o) ++ m ∷ ms) ≡ None
two_others None m ms h = absurd (true≢false (sym h))
two_others (Some n) m ms h = refl

pub one_other : (o : Option Member) → the_only (option_to_list (option_map member_view o) ++ []) ≡ option_map member_view o
one_other None = refl
one_other (Some n) = refl
