-- Tests of where nothing is lost, part by part.
use Rattle.std.proofs.Common.{◌≡◌, List, [], ◌∷◌, Bool, ◌&&◌, Option, Some, None, String, Global, string_bytes, map, length, nat_eq, refl, ap, arith}
use Rattle.std.proofs.lemmas.Bool.{ne_eqb}
use Rattle.schema_defs.specs.declared.InstanceType.{InstanceType}
use Rattle.schema_defs.specs.Schema.{MemberRules, Named, no_named, named, no_properties, property, no_schema, the_schema, Types, one_type, many_types}
use Rattle.enum_defs.specs.Words.{has_type}
use Rattle.merge_defs.specs.Leaves.{is_only}
use Rattle.merge_defs.specs.Less.{is_one_name, no_sizes, one_required}
use Rattle.merge_leaves.specs.Sizes.{holds_no_schema, rules_of_named}

pub type_only : (k : InstanceType) (t : Option Types) (b : Bool) → b ≡ is_only k t → b ≡ has_type k t
type_only k None b e = e
type_only k (Some (one_type l)) b e = e
type_only k (Some (many_types ls)) b e = e

pub one_counted : (ks : List (String Global)) → nat_eq (length ks) 1 ≡ is_one_name (map string_bytes ks)
one_counted [] = refl
one_counted (k ∷ []) = refl
one_counted (k ∷ l ∷ ks) = ne_eqb (length (k ∷ l ∷ ks)) 1 (λ e. omega (arith, e))

pub required_parts : (ns : Named) (c : MemberRules) → rules_of_named ns ≡ Some c → (holds_no_schema ns && (no_sizes c && is_one_name c.required)) ≡ one_required ns
required_parts no_named c h = refl
required_parts (named no_properties no_properties no_schema no_schema d) c h = let e : c ≡ d = cc in ap (λ r. no_sizes r && is_one_name r.required) e
required_parts (named no_properties no_properties no_schema (the_schema s) d) c h = refl
required_parts (named no_properties no_properties (the_schema s) x d) c h = refl
required_parts (named no_properties (property n s ps) x y d) c h = refl
required_parts (named (property n s ps) qs x y d) c h = refl
