-- What stands in the place of a schema whose row merges: annotations and the spot change nothing of what is admitted.
use Rattle.std.proofs.Common.{◌≡◌, Bool, true, false, Option, Some, None, unwrap_or, refl, ap, sym, ◌∙◌, subst}
use Rattle.json_value.specs.Value.{Value}
use Rattle.schema_defs.specs.Texts.{Relations}
use Rattle.schema_defs.specs.Schema.{Plain, Schema, boolean, object, Document}
use Rattle.schema_defs.specs.Admits.{admits}
use Rattle.schema_defs.specs.Mapped.{mapped, mapped_document, bare}
use Rattle.schema_defs.proofs.Mapped.{no_annotation_matters}
use Rattle.schema_defs.proofs.Unfold.{unfolds}
use Rattle.merge_defs.specs.Outcome.{Outcome, fault, never, answer}
use Rattle.merge_laws.specs.Laws.{Meets, IsProper}
use Rattle.merge_laws.proofs.Steps.{no_no}
use Rattle.convert_walks.specs.Spot.{Spot}
use Rattle.convert_walks.specs.Merging.{annotated}
use Rattle.convert_walks.specs.Tree.{Standing, plain_of, answered_as, instead}
use Rattle.merging_laws.specs.Laws.{Stands, StandingAgrees}

module _ (r : Relations) (d : Document) (v : Value) where
  bare-annotated : (p : Plain) (s : Schema) → mapped bare (annotated p s) ≡ mapped bare s
  bare-annotated p (boolean b) = refl
  bare-annotated p (object q ss ls ns) = refl

  annotated-says : (p : Plain) (s : Schema) → admits r d v (annotated p s) ≡ admits r d v s
  annotated-says p s = sym ((no_annotation_matters r d v (annotated p s)).0) ∙ ap (admits r (mapped_document bare d) v) (bare-annotated p s) ∙ (no_annotation_matters r d v s).0

  answered-says : (o : Spot) (s : Schema) (w : Option Plain) (a : Schema) → admits r d v (answered_as o s w a).schema ≡ admits r d v a
  answered-says o s w (boolean b) = refl
  answered-says o s None (object q ss ls ns) = refl
  answered-says o s (Some p) (object q ss ls ns) = annotated-says p (object q ss ls ns)

  answered-proper : (o : Spot) (s : Schema) (w : Option Plain) (a : Schema) → IsProper a → IsProper (answered_as o s w a).schema
  answered-proper o s w (boolean b) h = h
  answered-proper o s None (object q ss ls ns) h = h
  answered-proper o s (Some p) (object q ss ls ns) h = h

  never-says : admits r d v (boolean false) ≡ false
  never-says = (unfolds r d).booleans v false

  the_one : {A : Type 0} (P : A → Type 0) (x t : A) → Some x ≡ Some t → P x → P t
  the_one P x t e h = subst P (ap (λ z. unwrap_or z x) e) h

  stands : (wanted : Bool) (o : Spot) (s : Schema) (m : Outcome Schema) → Meets IsProper wanted (admits r d v) m → (t : Standing) → instead o s m ≡ Some t → Stands r d v wanted m t
  stands wanted o s (fault f) h t e = no_no (ap (λ z. elim z [ None ↦ false | Some y ↦ true ]) e)
  stands wanted o s (never ns) h t e = the_one (Stands r d v wanted (never ns)) (answered_as o s (plain_of s) (boolean false)) t e (record {
    proper = tt;
    keeps = λ k j. absurd (h k j);
    adds_none = λ k j. no_no (sym never-says ∙ j);
  })
  stands wanted o s (answer ns a) h t e = the_one (Stands r d v wanted (answer ns a)) (answered_as o s (plain_of s) a) t e (record {
    proper = answered-proper o s (plain_of s) a h.0;
    keeps = λ k j. answered-says o s (plain_of s) a ∙ h.1 k j;
    adds_none = λ k j. h.2 k (sym (answered-says o s (plain_of s) a) ∙ j);
  })

pub standing_agrees : StandingAgrees
standing_agrees r d v wanted o s m = stands r d v wanted o s m
