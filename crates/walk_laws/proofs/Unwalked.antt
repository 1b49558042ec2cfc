-- Walks aside, what is opened or settled is the same; so it admits the same, and is proper as before.
use Rattle.std.proofs.Common.{◌≡◌, ℕ, suc, [], ◌∷◌, false, Option, Some, None, refl, ap, sym, ◌∙◌, subst, codes}
use Rattle.json_value.specs.Value.{Value}
use Rattle.schema_defs.specs.Location.{Step, place}
use Rattle.schema_defs.specs.Texts.{Relations}
use Rattle.schema_defs.specs.Schema.{Schema, boolean, object, Same, no_same, same_value, Lists, no_lists, lists, Named, no_named, named, MaybeSchema, no_schema, the_schema, MaybeSchemas, no_list, the_list, Schemas, no_more, schema, Places, no_items, each_item, by_place, Properties, no_properties, property, Document}
use Rattle.schema_defs.specs.Admits.{admits}
use Rattle.schema_defs.specs.Mapped.{mapped, mapped_same, mapped_lists, mapped_named, mapped_maybe, mapped_list, mapped_all, mapped_places, mapped_properties, mapped_document, unwalked}
use Rattle.schema_defs.proofs.Mapped.{no_annotation_matters}
use Rattle.merge_defs.specs.Objects.{is_false}
use Rattle.merge_walks.specs.Carried.{Walk, to_child, made_on, own_walk, on_walk, carried, maybe_inside, all_inside, list_inside, names_inside, places_inside, same_inside, lists_inside, named_inside, opened}
use Rattle.merge_walks.specs.Walked.{left_side}
use Rattle.merge_walks.specs.Made.{longest_or, walks_of_same, if_walked, settled, settled_same, settled_named, settled_maybe, settled_list, settled_all, settled_properties}
use Rattle.merge_laws.specs.Laws.{IsProper, ProperSame, ProperLists, ProperNamed, ProperMaybe, ProperList, ProperAll, ProperPlaces, ProperProperties}

-- ---- the same, walks aside

pub on_walk-same : (w : Walk) (s : Schema) → mapped unwalked (on_walk w s) ≡ mapped unwalked s
on_walk-same w (boolean b) = refl
on_walk-same w (object p ss ls ns) = refl

pub carried-same : (w : Walk) (s : Schema) → mapped unwalked (carried w s) ≡ mapped unwalked s
carried-same w (boolean b) = refl
carried-same w (object p ss ls ns) = refl

maybe_inside-same : (w : Walk) (k : Step) (m : MaybeSchema) → mapped_maybe unwalked (maybe_inside w k m) ≡ mapped_maybe unwalked m
maybe_inside-same w k no_schema = refl
maybe_inside-same w k (the_schema s) = ap the_schema (carried-same (to_child w (k ∷ [])) s)

all_inside-same : (w : Walk) (k : Step) (i : ℕ) (ss : Schemas) → mapped_all unwalked (all_inside w k i ss) ≡ mapped_all unwalked ss
all_inside-same w k i no_more = refl
all_inside-same w k i (schema s ss) = λ j. schema (carried-same (to_child w (k ∷ place i ∷ [])) s j) (all_inside-same w k (suc i) ss j)

list_inside-same : (w : Walk) (k : Step) (m : MaybeSchemas) → mapped_list unwalked (list_inside w k m) ≡ mapped_list unwalked m
list_inside-same w k no_list = refl
list_inside-same w k (the_list ss) = ap the_list (all_inside-same w k 0 ss)

names_inside-same : (w : Walk) (k : Step) (ps : Properties) → mapped_properties unwalked (names_inside w k ps) ≡ mapped_properties unwalked ps
names_inside-same w k no_properties = refl
names_inside-same w k (property n s ps) = λ j. property n (carried-same (to_child w (k ∷ n ∷ [])) s j) (names_inside-same w k ps j)

places_inside-same : (w : Walk) (p : Places) → mapped_places unwalked (places_inside w p) ≡ mapped_places unwalked p
places_inside-same w no_items = refl
places_inside-same w (each_item s) = ap each_item (carried-same (to_child w (codes "items" ∷ [])) s)
places_inside-same w (by_place ss) = ap by_place (all_inside-same w (codes "items") 0 ss)

pub same_inside-same : (w : Walk) (ss : Same) → mapped_same unwalked (same_inside w ss) ≡ mapped_same unwalked ss
same_inside-same w no_same = refl
same_inside-same w (same_value all any one none c) = λ i. same_value (list_inside-same w (codes "allOf") all i) (list_inside-same w (codes "anyOf") any i) (list_inside-same w (codes "oneOf") one i) (maybe_inside-same w (codes "not") none i) c

lists_inside-same : (w : Walk) (ls : Lists) → mapped_lists unwalked (lists_inside w ls) ≡ mapped_lists unwalked ls
lists_inside-same w no_lists = refl
lists_inside-same w (lists p x a c) = λ i. lists (places_inside-same w p i) (maybe_inside-same w (codes "additionalItems") x i) (maybe_inside-same w (codes "contains") a i) c

named_inside-same : (w : Walk) (ns : Named) → mapped_named unwalked (named_inside w ns) ≡ mapped_named unwalked ns
named_inside-same w no_named = refl
named_inside-same w (named ps pp x xn c) = λ i. named (names_inside-same w (codes "properties") ps i) (names_inside-same w (codes "patternProperties") pp i) (maybe_inside-same w (codes "additionalProperties") x i) (maybe_inside-same w (codes "propertyNames") xn i) c

pub opened-same : (s : Schema) → mapped unwalked (opened s) ≡ mapped unwalked s
opened-same (boolean b) = refl
opened-same (object p ss ls ns) = λ i. object (unwalked p) (same_inside-same (own_walk p) ss i) (lists_inside-same (own_walk p) ls i) (named_inside-same (own_walk p) ns i)

if_walked-same : (o : Option Walk) (s t : Schema) → mapped unwalked t ≡ mapped unwalked s → mapped unwalked (if_walked o s t) ≡ mapped unwalked s
if_walked-same (Some w) s t h = refl
if_walked-same None s t h = h

mutual
  pub settled-same : (w : Walk) (s : Schema) → mapped unwalked (settled w s) ≡ mapped unwalked s
  settled-same w (boolean b) = refl
  settled-same w (object p ss ls ns) = if_walked-same p.walk (object p ss ls ns) (object (record p { walk = Some (made_on (longest_or w (walks_of_same (settled_same w ss)))) }) (settled_same w ss) ls (settled_named w ns))
      (λ i. object (unwalked p) (settled_same-same w ss i) (mapped_lists unwalked ls) (settled_named-same w ns i))

  settled_same-same : (w : Walk) (ss : Same) → mapped_same unwalked (settled_same w ss) ≡ mapped_same unwalked ss
  settled_same-same w no_same = refl
  settled_same-same w (same_value all any one none c) = λ i. same_value (settled_list-same w all i) (settled_list-same w any i) (settled_list-same w one i) (settled_maybe-same w none i) c

  settled_named-same : (w : Walk) (ns : Named) → mapped_named unwalked (settled_named w ns) ≡ mapped_named unwalked ns
  settled_named-same w no_named = refl
  settled_named-same w (named ps pp x xn c) = λ i. named (settled_properties-same w ps i) (mapped_properties unwalked pp) (mapped_maybe unwalked x) (mapped_maybe unwalked xn) c

  settled_maybe-same : (w : Walk) (m : MaybeSchema) → mapped_maybe unwalked (settled_maybe w m) ≡ mapped_maybe unwalked m
  settled_maybe-same w no_schema = refl
  settled_maybe-same w (the_schema s) = ap the_schema (settled-same w s)

  settled_list-same : (w : Walk) (m : MaybeSchemas) → mapped_list unwalked (settled_list w m) ≡ mapped_list unwalked m
  settled_list-same w no_list = refl
  settled_list-same w (the_list ss) = ap the_list (settled_all-same w ss)

  settled_all-same : (w : Walk) (ss : Schemas) → mapped_all unwalked (settled_all w ss) ≡ mapped_all unwalked ss
  settled_all-same w no_more = refl
  settled_all-same w (schema s ss) = λ i. schema (settled-same w s i) (settled_all-same w ss i)

  settled_properties-same : (w : Walk) (ps : Properties) → mapped_properties unwalked (settled_properties w ps) ≡ mapped_properties unwalked ps
  settled_properties-same w no_properties = refl
  settled_properties-same w (property n s ps) = λ i. property n (settled-same w s i) (settled_properties-same w ps i)

pub left-same : (b : Schema) (w : Walk) (a : Schema) → mapped unwalked (left_side b w a) ≡ mapped unwalked a
left-same (boolean c) w a = refl
left-same (object p ss ls ns) w a = on_walk-same (made_on w) a

-- ---- false stays false

pub opened-false : (s : Schema) → is_false (opened s) ≡ is_false s
opened-false (boolean b) = refl
opened-false (object p ss ls ns) = refl

pub on_walk-false : (w : Walk) (s : Schema) → is_false (on_walk w s) ≡ is_false s
on_walk-false w (boolean b) = refl
on_walk-false w (object p ss ls ns) = refl

pub settled-false : (w : Walk) (s : Schema) → is_false (settled w s) ≡ is_false s
settled-false w (boolean b) = refl
settled-false w (object p ss ls ns) = go p.walk
  where
    go : (o : Option Walk) → is_false (if_walked o (object p ss ls ns) (object (record p { walk = Some (made_on (longest_or w (walks_of_same (settled_same w ss)))) }) (settled_same w ss) ls (settled_named w ns))) ≡ false
    go (Some v) = refl
    go None = refl

-- ---- what is the same, walks aside, admits the same

pub same-admits : (r : Relations) (d : Document) (v : Value) (s t : Schema) → mapped unwalked s ≡ mapped unwalked t → admits r d v s ≡ admits r d v t
same-admits r d v s t e = sym ((no_annotation_matters r d v s).1) ∙ ap (admits r (mapped_document unwalked d) v) e ∙ (no_annotation_matters r d v t).1

-- ---- and is proper

mutual
  there : (s : Schema) → IsProper s → IsProper (mapped unwalked s)
  there (boolean b) h = tt
  there (object p ss ls ns) h = (h.0, there_same ss h.1, there_lists ls h.2, there_named ns h.3)

  there_same : (ss : Same) → ProperSame ss → ProperSame (mapped_same unwalked ss)
  there_same no_same h = tt
  there_same (same_value all any one none c) h = (there_list all h.0, there_list any h.1, there_list one h.2, there_maybe none h.3)

  there_lists : (ls : Lists) → ProperLists ls → ProperLists (mapped_lists unwalked ls)
  there_lists no_lists h = tt
  there_lists (lists p x a c) h = (there_places p h.0, there_maybe x h.1, there_maybe a h.2, tt)

  there_named : (ns : Named) → ProperNamed ns → ProperNamed (mapped_named unwalked ns)
  there_named no_named h = tt
  there_named (named ps pp x xn c) h = (there_properties ps h.0, there_properties pp h.1, there_maybe x h.2, there_maybe xn h.3)

  there_maybe : (m : MaybeSchema) → ProperMaybe m → ProperMaybe (mapped_maybe unwalked m)
  there_maybe no_schema h = tt
  there_maybe (the_schema s) h = there s h

  there_list : (m : MaybeSchemas) → ProperList m → ProperList (mapped_list unwalked m)
  there_list no_list h = tt
  there_list (the_list ss) h = there_all ss h

  there_all : (ss : Schemas) → ProperAll ss → ProperAll (mapped_all unwalked ss)
  there_all no_more h = tt
  there_all (schema s ss) h = (there s h.0, there_all ss h.1)

  there_places : (p : Places) → ProperPlaces p → ProperPlaces (mapped_places unwalked p)
  there_places no_items h = tt
  there_places (each_item s) h = there s h
  there_places (by_place ss) h = there_all ss h

  there_properties : (ps : Properties) → ProperProperties ps → ProperProperties (mapped_properties unwalked ps)
  there_properties no_properties h = tt
  there_properties (property n s ps) h = (there s h.0, there_properties ps h.1)

mutual
  back : (s : Schema) → IsProper (mapped unwalked s) → IsProper s
  back (boolean b) h = tt
  back (object p ss ls ns) h = (h.0, back_same ss h.1, back_lists ls h.2, back_named ns h.3)

  back_same : (ss : Same) → ProperSame (mapped_same unwalked ss) → ProperSame ss
  back_same no_same h = tt
  back_same (same_value all any one none c) h = (back_list all h.0, back_list any h.1, back_list one h.2, back_maybe none h.3)

  back_lists : (ls : Lists) → ProperLists (mapped_lists unwalked ls) → ProperLists ls
  back_lists no_lists h = tt
  back_lists (lists p x a c) h = (back_places p h.0, back_maybe x h.1, back_maybe a h.2, tt)

  back_named : (ns : Named) → ProperNamed (mapped_named unwalked ns) → ProperNamed ns
  back_named no_named h = tt
  back_named (named ps pp x xn c) h = (back_properties ps h.0, back_properties pp h.1, back_maybe x h.2, back_maybe xn h.3)

  back_maybe : (m : MaybeSchema) → ProperMaybe (mapped_maybe unwalked m) → ProperMaybe m
  back_maybe no_schema h = tt
  back_maybe (the_schema s) h = back s h

  back_list : (m : MaybeSchemas) → ProperList (mapped_list unwalked m) → ProperList m
  back_list no_list h = tt
  back_list (the_list ss) h = back_all ss h

  back_all : (ss : Schemas) → ProperAll (mapped_all unwalked ss) → ProperAll ss
  back_all no_more h = tt
  back_all (schema s ss) h = (back s h.0, back_all ss h.1)

  back_places : (p : Places) → ProperPlaces (mapped_places unwalked p) → ProperPlaces p
  back_places no_items h = tt
  back_places (each_item s) h = back s h
  back_places (by_place ss) h = back_all ss h

  back_properties : (ps : Properties) → ProperProperties (mapped_properties unwalked ps) → ProperProperties ps
  back_properties no_properties h = tt
  back_properties (property n s ps) h = (back s h.0, back_properties ps h.1)

pub same-proper : (s t : Schema) → mapped unwalked t ≡ mapped unwalked s → IsProper s → IsProper t
same-proper s t e h = back t (subst IsProper (sym e) (there s h))

pub same-proper_same : (ss tt' : Same) → mapped_same unwalked tt' ≡ mapped_same unwalked ss → ProperSame ss → ProperSame tt'
same-proper_same ss tt' e h = back_same tt' (subst ProperSame (sym e) (there_same ss h))
