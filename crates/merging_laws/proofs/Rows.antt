-- Rows that merge, by the law on merges.
use Rattle.std.proofs.Common.{◌≡◌, ℕ, suc, List, [], ◌∷◌, map, Bool, true, false, ◌&&◌, Option, Some, None, refl, ap, sym, ◌∙◌, subst, codes}
use Rattle.std.specs.List.{list_all}
use Rattle.json_value.specs.Value as value
use Rattle.json_value.specs.Value.{Value, null, number, fraction, text, list, is_whole}
use Rattle.schema_defs.specs.Texts.{Relations, IsLawful}
use Rattle.schema_defs.specs.Location.{Step, place}
use Rattle.schema_defs.specs.Schema.{Plain, Schema, object, Same, no_same, Lists, Named, Schemas, no_more, schema, schema_list, Document}
use Rattle.schema_defs.specs.Layer.{if_given, plain_agrees, parts_agree}
use Rattle.schema_defs.specs.Admits.{admits, parts_of, target, target_location, follow}
use Rattle.schema_defs.specs.Walks.{IsGuarded}
use Rattle.convert_defs.specs.Standing.{less_reference}
use Rattle.convert_defs.specs.Row.{made}
use Rattle.convert_defs.specs.Shapes.{members_from}
use Rattle.convert_defs.specs.Table.{member_part}
use Rattle.merge_defs.specs.Members.{only_same}
use Rattle.merge_walks.specs.Carried.{Walk, on_walk, to_target, carried}
use Rattle.merge_walks.specs.Walked.{join_by_walks, merge_by_walks, with_by_walks}
use Rattle.merge_laws.specs.Laws.{Meets, IsProper, ProperAll, ProperDocument}
use Rattle.merge_laws.proofs.Steps.{no_no, meets-wanted}
use Rattle.merge_laws.proofs.Members.{same_says}
use Rattle.merge_laws.proofs.Main.{form, only_form, proper_target}
use Rattle.walk_laws.proofs.Unwalked.{on_walk-same, carried-same, same-admits, same-proper}
use Rattle.walk_laws.proofs.Theorem.{merges_by_walks_are_meets}
use Rattle.convert_walks.specs.Spot.{Spot, part_spot}
use Rattle.convert_walks.specs.Merging.{carried_parts, with_target, merged_by}
use Rattle.merging_laws.specs.Laws.{lone_all_of, MergedRows, MergedRowsAgree}

-- the reference aside, a schema says the same of what holds no schema
less-says : (r : Relations) (p : Plain) (v : Value) → plain_agrees r (less_reference p) v ≡ plain_agrees r p v
less-says r p null = refl
less-says r p (value.boolean b) = refl
less-says r p (number z) = refl
less-says r p fraction = refl
less-says r p (text s) = refl
less-says r p (list xs) = refl
less-says r p (value.object ms) = refl

and-true : (b : Bool) → (b && true) ≡ b
and-true true = refl
and-true false = refl

-- the middle one first
out_of : (a b c e : Bool) → (b && (((a && true) && c) && e)) ≡ (((a && b) && c) && e)
out_of true true c e = refl
out_of true false c e = refl
out_of false true c e = refl
out_of false false c e = refl

none_of : (a b c e : Bool) → b ≡ false → (((a && b) && c) && e) ≡ false
none_of true b c e h = ap (λ x. (x && c) && e) h
none_of false b c e h = refl

module _ (r : Relations) (lawful : IsLawful r) (d : Document) (guarded : IsGuarded d) (proper : ProperDocument d) (v : Value) (whole : is_whole v ≡ true) (most n : ℕ) (o : Spot) where
  abbrev J : Schema → Bool
  J = admits r d v

  on-says : (w : Walk) (s : Schema) → J (on_walk w s) ≡ J s
  on-says w s = same-admits r d v (on_walk w s) s (on_walk-same w s)

  carried-says : (w : Walk) (s : Schema) → J (carried w s) ≡ J s
  carried-says w s = same-admits r d v (carried w s) s (carried-same w s)

  carried-proper : (w : Walk) (s : Schema) → IsProper s → IsProper (carried w s)
  carried-proper w s p = same-proper s (carried w s) (carried-same w s) p

  -- ---- a target with the rest

  split : (p : Plain) (ss : Same) (ls : Lists) (ns : Named) (q : List ℕ) → p.reference ≡ Some q
      → J (object p ss ls ns) ≡ (((plain_agrees r p v && follow J (target d q)) && parts_agree r v (parts_of r d v) ls ns) && same_says J ss)
  split p ss ls ns q e = form r d guarded v p ss ls ns ∙ ap (λ x. ((plain_agrees r p v && if_given (λ q. follow J (target d q)) x) && parts_agree r v (parts_of r d v) ls ns) && same_says J ss) e

  rest-says : (p : Plain) (ss : Same) (ls : Lists) (ns : Named) → J (object (less_reference p) ss ls ns) ≡ (((plain_agrees r p v && true) && parts_agree r v (parts_of r d v) ls ns) && same_says J ss)
  rest-says p ss ls ns = form r d guarded v (less_reference p) ss ls ns ∙ ap (λ x. ((x && true) && parts_agree r v (parts_of r d v) ls ns) && same_says J ss) (less-says r p v)

  of_target-meets : (p : Plain) (ss : Same) (ls : Lists) (ns : Named) (q : List ℕ) → p.reference ≡ Some q → IsProper (object p ss ls ns) → (t : Option Schema) → target d q ≡ t
      → Meets IsProper (J (object p ss ls ns)) J (with_target d most n o q t (carried o.walk (object (less_reference p) ss ls ns)))
  of_target-meets p ss ls ns q e h None i = λ k j. no_no (sym (split p ss ls ns q e ∙ none_of (plain_agrees r p v) (follow J (target d q)) (parts_agree r v (parts_of r d v) ls ns) (same_says J ss) (ap (follow J) i)) ∙ j)
  of_target-meets p ss ls ns q e h (Some t) i =
      meets-wanted IsProper (J (on_walk (to_target o.walk (target_location d q)) t) && J (carried o.walk (object (less_reference p) ss ls ns))) (J (object p ss ls ns)) J
      (join_by_walks d most n (on_walk (to_target o.walk (target_location d q)) t) (carried o.walk (object (less_reference p) ss ls ns)))
      ((λ j. on-says (to_target o.walk (target_location d q)) t j && (carried-says o.walk (object (less_reference p) ss ls ns) ∙ rest-says p ss ls ns) j)
      ∙ ap (λ x. x && (((plain_agrees r p v && true) && parts_agree r v (parts_of r d v) ls ns) && same_says J ss)) (sym (ap (follow J) i))
      ∙ out_of (plain_agrees r p v) (follow J (target d q)) (parts_agree r v (parts_of r d v) ls ns) (same_says J ss)
      ∙ sym (split p ss ls ns q e))
      ((merges_by_walks_are_meets r lawful d guarded proper v whole).joins most n (on_walk (to_target o.walk (target_location d q)) t) (carried o.walk (object (less_reference p) ss ls ns))
      (same-proper t (on_walk (to_target o.walk (target_location d q)) t) (on_walk-same (to_target o.walk (target_location d q)) t) (proper_target r d guarded proper q t i))
      (carried-proper o.walk (object (less_reference p) ss ls ns) h))

  -- ---- a body with its subschemas

  abbrev Core : Plain → Lists → Named → Bool
  Core p ls ns = (plain_agrees r p v && if_given (λ q. follow J (target d q)) p.reference) && parts_agree r v (parts_of r d v) ls ns

  body-says : (p : Plain) (ss : Same) (ls : Lists) (ns : Named) → (J (object p no_same ls ns) && J (only_same ss)) ≡ J (object p ss ls ns)
  body-says p ss ls ns = (λ i. (form r d guarded v p no_same ls ns ∙ and-true (Core p ls ns)) i && only_form r d guarded v ss i) ∙ sym (form r d guarded v p ss ls ns)

  of_body-meets : (p : Plain) (ss : Same) (ls : Lists) (ns : Named) → IsProper (object p ss ls ns) → Meets IsProper (J (object p ss ls ns)) J (with_by_walks d most n (carried o.walk (object p no_same ls ns)) ss)
  of_body-meets p ss ls ns h =
      meets-wanted IsProper (J (carried o.walk (object p no_same ls ns)) && J (only_same ss)) (J (object p ss ls ns)) J (with_by_walks d most n (carried o.walk (object p no_same ls ns)) ss)
      (ap (λ x. x && J (only_same ss)) (carried-says o.walk (object p no_same ls ns)) ∙ body-says p ss ls ns)
      ((merges_by_walks_are_meets r lawful d guarded proper v whole).with_all most n (carried o.walk (object p no_same ls ns)) ss (carried-proper o.walk (object p no_same ls ns) (h.0, tt, h.2, h.3)) h.1)

  -- ---- the members of allOf

  members-say : (k : Step) (i : ℕ) (us : Schemas) → list_all J (schema_list (carried_parts o (map member_part (members_from k i us)))) ≡ list_all J (schema_list us)
  members-say k i no_more = refl
  members-say k i (schema u us) = λ j. carried-says (part_spot o [] (member_part (k ∷ place i ∷ [], u))).walk u j && members-say k (suc i) us j

  members-proper : (k : Step) (i : ℕ) (us : Schemas) → ProperAll us → ProperAll (carried_parts o (map member_part (members_from k i us)))
  members-proper k i no_more h = tt
  members-proper k i (schema u us) h = (carried-proper (part_spot o [] (member_part (k ∷ place i ∷ [], u))).walk u h.0, members-proper k (suc i) us h.1)

  of_members-meets : (us : Schemas) → ProperAll us → Meets IsProper (list_all J (schema_list us)) J (merge_by_walks d most n (carried_parts o (map member_part (members_from (codes "allOf") 0 us))))
  of_members-meets us h = meets-wanted IsProper (list_all J (schema_list (carried_parts o (map member_part (members_from (codes "allOf") 0 us))))) (list_all J (schema_list us)) J
      (merge_by_walks d most n (carried_parts o (map member_part (members_from (codes "allOf") 0 us)))) (members-say (codes "allOf") 0 us)
      ((merges_by_walks_are_meets r lawful d guarded proper v whole).gathers most n (carried_parts o (map member_part (members_from (codes "allOf") 0 us))) (members-proper (codes "allOf") 0 us h))

  -- ---- rows

  rows : MergedRows r d v most n o
  rows = record {
    of_target = λ p ss ls ns ps q e h. subst (λ f. Meets IsProper (J (object p ss ls ns)) J (merged_by d most n o p ss ls ns ps f)) (sym e) (of_target-meets p ss ls ns q e h (target d q) refl);
    of_body = λ p ss ls ns b ps e h. subst (λ f. Meets IsProper (J (object p ss ls ns)) J (merged_by d most n o p ss ls ns (made b ∷ ps) f)) (sym e) (of_body-meets p ss ls ns h);
    of_members = λ p us ls ns e h. subst (λ f. Meets IsProper (list_all J (schema_list us)) J (merged_by d most n o p (lone_all_of us) ls ns (map member_part (members_from (codes "allOf") 0 us)) f)) (sym e) (members-case p us ls ns h);
  }
    where
      members-case : (p : Plain) (us : Schemas) (ls : Lists) (ns : Named) → IsProper (object p (lone_all_of us) ls ns)
          → Meets IsProper (list_all J (schema_list us)) J (merged_by d most n o p (lone_all_of us) ls ns (map member_part (members_from (codes "allOf") 0 us)) None)
      members-case p no_more ls ns h = of_members-meets no_more h.1.0
      members-case p (schema u us) ls ns h = of_members-meets (schema u us) h.1.0

pub merged_rows_agree : MergedRowsAgree
merged_rows_agree r lawful d guarded proper v whole most n o = rows r lawful d guarded proper v whole most n o
