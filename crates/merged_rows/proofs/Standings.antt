-- What stands in place of a schema whose row merges.
use Rattle.std.proofs.Common.{◌≡◌, List, [], Bool, false, Option, Some, None, refl, sym, ap, ◌∙◌}
use Rattle.schema_defs.specs.Schema.{Plain, Schema, boolean, object, Same, Lists, Named}
use Rattle.convert_defs.specs.Convert.{Handed, named_by}
use Rattle.convert_walks.specs.Spot.{Spot, is_made_schema}
use Rattle.convert_walks.specs.Tree.{Standing, answered_as, instead, plain_of}
use Rattle.merge_defs.specs.Outcome.{Note, Outcome, fault, never, answer, noted}
use Rattle.merge_parts.specs.Steps.{Steps}
use Rattle.merge_walks.specs.Carried.{own_walk}
use Rattle.row_findings.specs.declared.part.Steps as code
use Rattle.merged_rows.specs.declared.start.Start.{Start}
use Rattle.merged_rows.specs.Rows.{AnnotationsD, annotated_by, annotations_in, handed_on, own_walk_in, with_annotations}
use Rattle.merged_rows.specs.Starts.{spot_of}

-- ---- annotations

by_annotations : (a s : Schema) → annotated_by (plain_of a) s ≡ with_annotations (annotations_in a) s
by_annotations (boolean b) s = refl
by_annotations (object p ss ls ns) (boolean b) = refl
by_annotations (object p ss ls ns) (object q tt' ms os) = refl

pub unannotated : (a s : Schema) (x : Option AnnotationsD) → x ≡ annotations_in a → x ≡ None → s ≡ annotated_by (plain_of a) s
unannotated a s x e h = ap (λ x. with_annotations x s) (sym h ∙ e) ∙ sym (by_annotations a s)

pub has_annotations : (a s t : Schema) (x : Option AnnotationsD) (y : AnnotationsD) → x ≡ annotations_in a → x ≡ Some y → t ≡ with_annotations (Some y) s → t ≡ annotated_by (plain_of a) s
has_annotations a s t x y e h g = g ∙ ap (λ x. with_annotations x s) (sym h ∙ e) ∙ sym (by_annotations a s)

-- ---- what is answered

never_is : (o : Spot) (s : Schema) (before after : List Note) (m : Outcome Schema) → noted before m ≡ never after → instead o s m ≡ Some (answered_as o s (plain_of s) (boolean false))
never_is o s before after (fault f) e = cc
never_is o s before after (never ns) e = refl
never_is o s before after (answer ns a) e = cc

answer_is : (o : Spot) (s t : Schema) (before after : List Note) (m : Outcome Schema) → noted before m ≡ answer after t → instead o s m ≡ Some (answered_as o s (plain_of s) t)
answer_is o s t before after (fault f) e = cc
answer_is o s t before after (never ns) e = cc
answer_is o s t before after (answer ns a) e = let g : a ≡ t = cc in ap (λ a. Some (answered_as o s (plain_of s) a)) g

pub of_never : (o : Spot) (s : Schema) (before after : List Note) (m : Outcome Schema) (x : Standing) → x ≡ answered_as o s (plain_of s) (boolean false) → Steps before after m None → instead o s m ≡ Some x
of_never o s before after m x e t = never_is o s before after m t.told ∙ ap Some (sym e)

pub of_answer : (o : Spot) (s t : Schema) (before after : List Note) (m : Outcome Schema) (x : Standing) → x ≡ answered_as o s (plain_of s) t → Steps before after m (Some t) → instead o s m ≡ Some x
of_answer o s t before after m x e h = answer_is o s t before after m h.told ∙ ap Some (sym e)

-- ---- where it stands

boolean_is : (o : Spot) (s : Schema) (b : Bool) (w : Option Plain) → record { spot = record o { handed = Some (named_by o.handed s) }; schema = boolean b } ≡ answered_as o s w (boolean b)
boolean_is o s b None = refl
boolean_is o s b (Some p) = refl

object_is : (o : Spot) (s : Schema) (w : Option Plain) (q : Plain) (ss : Same) (ls : Lists) (ns : Named)
    → record { spot = record o { walk = own_walk q; in_made = is_made_schema (object q ss ls ns) }; schema = annotated_by w (object q ss ls ns) } ≡ answered_as o s w (object q ss ls ns)
object_is o s None q ss ls ns = refl
object_is o s (Some p) q ss ls ns = refl

same_name : (h : Handed) (s : Schema) (w : Option Plain) (q : Plain) (ss : Same) (ls : Lists) (ns : Named) → handed_on h s (annotated_by w (object q ss ls ns)) ≡ h
same_name h s None q ss ls ns = refl
same_name h s (Some p) q ss ls ns = refl

module _ (p : Start) (ks : List code.Steps) (h : Handed) (s : Schema) (t : Start) where
  pub boolean_stands : (b : Bool) (x y : Schema) → x ≡ boolean b → y ≡ boolean b → ((h : Handed) → spot_of t [] h ≡ spot_of p ks h)
      → record { spot = spot_of t [] (handed_on h s y); schema = y } ≡ answered_as (spot_of p ks h) s (plain_of s) x
  boolean_stands b x y e f g =
      ap (λ y. record { spot = spot_of t [] (handed_on h s y); schema = y }) f ∙ ap (λ o. record { spot = o; schema = boolean b }) (g (Some (named_by h s)))
      ∙ boolean_is (spot_of p ks h) s b (plain_of s) ∙ ap (answered_as (spot_of p ks h) s (plain_of s)) (sym e)

  pub object_stands : (q : Plain) (ss : Same) (ls : Lists) (ns : Named) (x y : Schema) → x ≡ object q ss ls ns → y ≡ annotated_by (plain_of s) x
      → spot_of t [] h ≡ record (spot_of p ks h) { walk = own_walk_in x; in_made = is_made_schema x } → record { spot = spot_of t [] (handed_on h s y); schema = y } ≡ answered_as (spot_of p ks h) s (plain_of s) x
  object_stands q ss ls ns x y e f g =
      let k = f ∙ ap (annotated_by (plain_of s)) e in
      ap (λ y. record { spot = spot_of t [] (handed_on h s y); schema = y }) k
      ∙ ap (λ h. record { spot = spot_of t [] h; schema = annotated_by (plain_of s) (object q ss ls ns) }) (same_name h s (plain_of s) q ss ls ns)
      ∙ ap (λ o. record { spot = o; schema = annotated_by (plain_of s) (object q ss ls ns) }) (g ∙ ap (λ x. record (spot_of p ks h) { walk = own_walk_in x; in_made = is_made_schema x }) e)
      ∙ object_is (spot_of p ks h) s (plain_of s) q ss ls ns
      ∙ ap (answered_as (spot_of p ks h) s (plain_of s)) (sym e)
