-- What stands for no value is written as null, and null is read as it.
use Rattle.std.proofs.Common.{◌≡◌, ℕ, zero, suc, List, [], ◌∷◌, Bool, true, false, ◌&&◌, ◌||◌, not, cond, refl, sym, ap, ◌∙◌, subst, Option, Some, None, option_map, bytes_eq}
use Rattle.std.specs.List.{list_all}
use Rattle.json_value.specs.Value.{null}
use Rattle.schema_defs.specs.Texts.{Relations}
use Rattle.model_defs.specs.Types.{TypeModel, option_type, boxed_type, item_type}
use Rattle.model_defs.specs.Model.{newtype_style, BodyModel, struct_model, ContainerModel, ConversionsD, container_named, rule_of}
use Rattle.model_defs.specs.Layer.{no_parts, given_rule_agrees}
use Rattle.model_defs.specs.Reads.{allowed, leads_to_option}
use Rattle.typed_defs.specs.Typed as typed
use Rattle.typed_defs.specs.Typed.{Typed}
use Rattle.typed_defs.specs.Written.{written}
use Rattle.reading_defs.specs.Reading.{Read, taken, read_map, kept_if, absent, absent_within, type_absent, body_absent, container_absent, body_read, container_read, type_within, item_reading, value_reader}
use Rattle.reading_defs.proofs.Rows.{IsAbsent, absent-is}
use Rattle.writing_laws.specs.Tables.{body_leads_back, container_leads_back}
use Rattle.writing_laws.proofs.Taken.{and_left, and_right, not_false}

-- ---- containers by their names

abbrev pub GivenLeads : Option ContainerModel → Type 0
GivenLeads None = Unit {0}
GivenLeads (Some m) = container_leads_back m ≡ true

pub named_leads : (n : List ℕ) (ms : List ContainerModel) → list_all container_leads_back ms ≡ true → GivenLeads (container_named n ms)
named_leads n [] h = tt
named_leads n (m ∷ ms) h = by (bytes_eq n m.name) (and_left (container_leads_back m) (list_all container_leads_back ms) h) (named_leads n ms (and_right (container_leads_back m) (list_all container_leads_back ms) h))
  where
    by : (b : Bool) → container_leads_back m ≡ true → GivenLeads (container_named n ms) → GivenLeads (cond b (Some m) (container_named n ms))
    by true g k = g
    by false g k = k

pub none_is : (x : Typed) → None ≡ Some x → ⊥
none_is x e = cc

pub some_is : (x y : Typed) → Some x ≡ Some y → x ≡ y
some_is x y e = cc

pub mapped_some : (f : Typed → Typed) (o : Option Typed) (x : Typed) → option_map f o ≡ Some x → (y : Typed) × (o ≡ Some y) × (f y ≡ x)
mapped_some f None x e = absurd (none_is x e)
mapped_some f (Some y) x e = (y, refl, some_is (f y) x e)

pub if_some : (b : Bool) (o : Option Typed) (x : Typed) → cond b o None ≡ Some x → (b ≡ true) × (o ≡ Some x)
if_some true o x e = (refl, e)
if_some false o x e = absurd (none_is x e)

module _ (models : List ContainerModel) (cs : ConversionsD) (r : Relations) (q : ℕ → TypeModel → Read Typed) (leads : list_all container_leads_back models ≡ true) where
  abbrev At : ℕ → TypeModel → Read Typed
  At k t = type_within models cs r q null no_parts k t

  module _ (k : ℕ) (items : (n : List ℕ) (x : Typed) → absent_within models k n ≡ Some x → item_reading models cs r q null no_parts k n ≡ taken x) where
    null_type : (t : TypeModel) (x : Typed) → type_absent (absent_within models k) t ≡ Some x → At k t ≡ taken x
    null_type (option_type t) x e = ap taken (some_is typed.none x e)
    null_type (boxed_type t) x e = null_type t x e
    null_type (item_type n) x e = items n x e
    null_type _ x e = absurd (none_is x e)

    null_body : (closed : Bool) (b : BodyModel) (x : Typed) → body_absent (absent_within models k) b ≡ Some x → body_read q (absent models) r cs null no_parts (At k) closed b ≡ taken x
    null_body closed (struct_model newtype_style (f ∷ [])) x e =
        let g = mapped_some typed.newtype (type_absent (absent_within models k) f.field_type) x e in
        ap (read_map typed.newtype) (null_type f.field_type g.0 g.1) ∙ ap taken g.2
    null_body closed _ x e = absurd (none_is x e)

    unruled : (m : ContainerModel) → container_leads_back m ≡ true → m.transparent ≡ true → m.try_from ≡ false
    unruled m h e = sym (ap (λ b. b && m.try_from) e) ∙ not_false (m.transparent && m.try_from) (and_right (body_leads_back m.body) (not (m.transparent && m.try_from)) h)

    null_container : (o : Option ContainerModel) (x : Typed) → GivenLeads o → container_absent (absent_within models k) o ≡ Some x → container_read q (absent models) r cs null no_parts (At k) o ≡ taken x
    null_container None x h e = absurd (none_is x e)
    null_container (Some m) x h e =
        let g = if_some m.transparent (body_absent (absent_within models k) m.body) x e in
        ap (λ b. kept_if (not b || given_rule_agrees r null (rule_of m.name cs.constraints)) (body_read q (absent models) r cs null no_parts (At k) m.closed m.body)) (unruled m h g.0)
        ∙ ap (kept_if true) (null_body m.closed m.body x g.1)

  null_item : (k : ℕ) (n : List ℕ) (x : Typed) → absent_within models k n ≡ Some x → item_reading models cs r q null no_parts k n ≡ taken x
  null_item zero n x e = absurd (none_is x e)
  null_item (suc k) n x e = null_container k (null_item k) (container_named n models) x (named_leads n models leads) e

  pub absent_again : (t : TypeModel) (x : Typed) → absent models t ≡ Some x → (value_reader models cs r q (written models t x)).as_type t ≡ taken x
  absent_again t x e =
      let is_null = subst (IsAbsent models (leads_to_option models t) t) e (absent-is models t) in
      subst (λ w. (value_reader models cs r q w).as_type t ≡ taken x) (sym is_null.1) (null_type (allowed models) (null_item (allowed models)) t x e)
