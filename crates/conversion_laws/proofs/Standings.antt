-- What stands in the place of a schema whose row merges has what holds throughout the schema.
use Rattle.std.proofs.Common.{◌≡◌, ℕ, suc, List, [], ◌∷◌, map, false, Option, Some, None, refl, sym, subst, codes}
use Rattle.schema_defs.specs.Location.{Step, place}
use Rattle.schema_defs.specs.Texts.{Relations}
use Rattle.schema_defs.specs.Schema.{Plain, Schema, boolean, object, Same, no_same, Lists, Named, Schemas, no_more, schema, Document}
use Rattle.schema_defs.specs.Admits.{target, target_location}
use Rattle.schema_defs.proofs.Spare.{Given}
use Rattle.convert_defs.specs.Row as row
use Rattle.convert_defs.specs.Row.{Part, made}
use Rattle.convert_defs.specs.Standing.{less_reference}
use Rattle.convert_defs.specs.Shapes.{members_from}
use Rattle.convert_defs.specs.Table.{member_part, row_of, notes_at}
use Rattle.convert_defs.proofs.Bare.{none-some, some-same}
use Rattle.merge_defs.specs.Outcome.{Outcome, fault, never, answer}
use Rattle.merge_walks.specs.Carried.{on_walk, to_target, carried}
use Rattle.convert_walks.specs.Spot.{Spot, part_spot}
use Rattle.convert_walks.specs.Merging.{carried_parts, with_target, merged_by, merged_at}
use Rattle.convert_walks.specs.Tree.{Standing, plain_of, answered_as, instead, if_merged}
use Rattle.merging_laws.specs.Laws.{lone_all_of, MergesAs, by_target, by_body, by_members}
use Rattle.merging_laws.proofs.Forms.{rows_that_merge}
use Rattle.conversion_laws.specs.Keeping.{Always}
use Rattle.conversion_laws.proofs.KeptLayers.{H, HAll, IsKept}
use Rattle.conversion_laws.proofs.KeptWalks.{on_walk-holds, carried-holds, join-kept, with-kept, several-kept}

module _ (d : Document) (Reference : List ℕ → Type 0) (OfLists : Lists → Type 0) (OfNamed : Named → Type 0) (kept : IsKept d Reference OfLists OfNamed) (most n : ℕ) (o : Spot) where
  abbrev Holds : Schema → Type 0
  Holds = H d Reference OfLists OfNamed

  -- ---- the schema that a row merges

  of-target : (p : Plain) (ss : Same) (ls : Lists) (ns : Named) → Holds (object p ss ls ns) → (q : List ℕ) → Reference q → (t : Option Schema) → target d q ≡ t → Always Holds (with_target d most n o q t (carried o.walk (object (less_reference p) ss ls ns)))
  of-target p ss ls ns h q g None e = tt
  of-target p ss ls ns h q g (Some t) e =
      join-kept d Reference OfLists OfNamed kept most n (on_walk (to_target o.walk (target_location d q)) t) (carried o.walk (object (less_reference p) ss ls ns))
      (on_walk-holds d Reference OfLists OfNamed kept (to_target o.walk (target_location d q)) t (kept.of_target q t g e))
      (carried-holds d Reference OfLists OfNamed kept o.walk (object (less_reference p) ss ls ns) (tt, h.1, h.2, h.3))

  parts-hold : (k : Step) (i : ℕ) (us : Schemas) → HAll d Reference OfLists OfNamed us → HAll d Reference OfLists OfNamed (carried_parts o (map member_part (members_from k i us)))
  parts-hold k i no_more h = tt
  parts-hold k i (schema u us) h = (carried-holds d Reference OfLists OfNamed kept (part_spot o [] (member_part (k ∷ place i ∷ [], u))).walk u h.0, parts-hold k (suc i) us h.1)

  members-hold : (p : Plain) (us : Schemas) (ls : Lists) (ns : Named) → HAll d Reference OfLists OfNamed us → Always Holds (merged_by d most n o p (lone_all_of us) ls ns (map member_part (members_from (codes "allOf") 0 us)) None)
  members-hold p no_more ls ns h = several-kept d Reference OfLists OfNamed kept most n no_more tt
  members-hold p (schema u us) ls ns h = several-kept d Reference OfLists OfNamed kept most n (carried_parts o (map member_part (members_from (codes "allOf") 0 (schema u us)))) (parts-hold (codes "allOf") 0 (schema u us) h)

  merged-holds : (p : Plain) (ss : Same) (ls : Lists) (ns : Named) → Holds (object p ss ls ns) → (notes : List row.Note) (ps : List Part) → MergesAs p ss ls ns notes ps → Always Holds (merged_at d most n o (object p ss ls ns) ps)
  merged-holds p ss ls ns h notes ps (by_target q e) =
      subst (λ f. Always Holds (merged_by d most n o p ss ls ns ps f)) (sym e) (of-target p ss ls ns h q (subst (λ f. Given Reference f) e h.0) (target d q) refl)
  merged-holds p ss ls ns h notes ps (by_body b qs e f) =
      subst (λ f. Always Holds (merged_by d most n o p ss ls ns ps f)) (sym e)
      (subst (λ x. Always Holds (merged_by d most n o p ss ls ns x None)) (sym f)
      (with-kept d Reference OfLists OfNamed kept most n (carried o.walk (object p no_same ls ns)) ss (carried-holds d Reference OfLists OfNamed kept o.walk (object p no_same ls ns) (h.0, h.1, h.2, tt)) h.3))
  merged-holds p ss ls ns h notes ps (by_members us e f g others same) =
      subst (λ f. Always Holds (merged_by d most n o p ss ls ns ps f)) (sym e)
      (subst (λ x. Always Holds (merged_by d most n o p ss ls ns x None)) (sym g)
      (subst (λ x. Holds (object p x ls ns) → Always Holds (merged_by d most n o p x ls ns (map member_part (members_from (codes "allOf") 0 us)) None)) (sym f) (λ k. members-hold p us ls ns k.3.0) h))

  -- ---- what stands in its place

  answered-holds : (s : Schema) (w : Option Plain) (a : Schema) → Holds a → Holds (answered_as o s w a).schema
  answered-holds s w (boolean b) h = h
  answered-holds s None (object q ss ls ns) h = h
  answered-holds s (Some p) (object q ss ls ns) h = h

  instead-holds : (s : Schema) (m : Outcome Schema) → Always Holds m → (t : Standing) → instead o s m ≡ Some t → Holds t.schema
  instead-holds s (fault f) h t e = none-some t e
  instead-holds s (never ns) h t e = subst (λ x. Holds x.schema) (some-same (answered_as o s (plain_of s) (boolean false)) t e) tt
  instead-holds s (answer ns a) h t e = subst (λ x. Holds x.schema) (some-same (answered_as o s (plain_of s) a) t e) (answered-holds s (plain_of s) a h)

  pub standing-holds : (r : Relations) (s : Schema) → Holds s → (ps : List Part) → if_merged (row_of r d s) ≡ Some ps → (t : Standing) → instead o s (merged_at d most n o s ps) ≡ Some t → Holds t.schema
  standing-holds r (boolean b) h ps e t i = instead-holds (boolean b) (never []) tt t i
  standing-holds r (object p ss ls ns) h ps e t i =
      instead-holds (object p ss ls ns) (merged_at d most n o (object p ss ls ns) ps) (merged-holds p ss ls ns h (notes_at r d (object p ss ls ns)) ps (rows_that_merge r d p ss ls ns ps e)) t i
