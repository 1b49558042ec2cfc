-- In what merges make names differ, references lead, and a `#` is known to the document.
use Rattle.std.proofs.Common.{ℕ, true≢false, ◌≡◌, suc, List, [], ◌∷◌, ◌&&◌, Bool, true, false, Option, Some, None, refl, sym, ap, ◌∙◌, subst, bytes_eq, codes}
use Rattle.std.specs.Prelude.{if◌then◌else◌, is_some, option_map}
use Rattle.std.specs.List.{AllByRecursion}
use Rattle.schema_defs.specs.Schema.{ListRules, Schema, boolean, object, Same, no_same, same_value, Lists, no_lists, lists, Named, no_named, named, MaybeSchema, no_schema, the_schema, MaybeSchemas, no_list, the_list, Schemas, no_more, schema, Places, no_items, each_item, by_place, Properties, no_properties, property, Definition, Document}
use Rattle.schema_defs.specs.Admits.{target, defined, defined_as, definition_name, is_root_reference}
use Rattle.schema_defs.specs.Location.{Step, place}
use Rattle.schema_defs.proofs.Spare.{Given}
use Rattle.merge_defs.specs.Outcome.{Outcome, fault, never, answer}
use Rattle.merge_walks.specs.Carried.{Walk, to_child, made_on, carried, maybe_inside, all_inside, names_inside, places_inside, lists_inside, named_inside}
use Rattle.merge_walks.specs.Made.{longest_or, walks_of_same, if_walked, settled, settled_same, settled_maybe, settled_list, settled_all, settled_named, settled_properties}
use Rattle.merge_walks.specs.Walked.{join_by_walks, less_by_walks, merge_by_walks, with_by_walks}
use Rattle.enum_defs.specs.Words.{names_of}
use Rattle.convert_defs.specs.Apart.{differ, names_apart}
use Rattle.convert_defs.specs.RootReference.{is_root, refers_to_root}
use Rattle.convert_defs.specs.Proper.{leads, AreProper, IsProper, ProperSame, ProperLists, ProperNamed, ProperMaybe, ProperMembers, AllProper, ProperPlaces, ProperProperties, AllAreProper}
use Rattle.each_schema.specs.Each.{of_any_size}
use Rattle.conversion_laws.specs.Keeping.{Always, SizesAreKept, AreKeptProper, Throughout, ThroughoutSame, ThroughoutList, ThroughoutMaybe, ThroughoutAll, MergesAreProper}
use Rattle.conversion_laws.proofs.KeptLayers.{Keeps, IsKept}
use Rattle.conversion_laws.proofs.KeptWalks.{join-kept, less-kept, with-kept, several-kept}
use Rattle.conversion_laws.proofs.KeptLists.{two-lists}
use Rattle.conversion_laws.proofs.KeptNamed.{OfNamed, two-named, less-named}

-- what is asked of keywords of lists, and of references
abbrev pub OfLists : (ListRules → Type 0) → Document → Lists → Type 0
OfLists sized d = ProperLists sized d

abbrev pub Leads : Document → List ℕ → Type 0
Leads d q = (is_some (target d q) ≡ true) × (is_root_reference q ≡ true → refers_to_root d ≡ true)

module _ (sized : ListRules → Type 0) (kept : SizesAreKept sized) (d : Document) where
  abbrev Is : Schema → Type 0
  Is = IsProper sized d

  abbrev pub All : Schema → Type 0
  All = Throughout (Leads d) (OfLists sized d) (OfNamed sized d)

  -- ---- both say the same

  reference-to : (o : Option (List ℕ)) → leads d o ≡ true → (is_root o ≡ true → refers_to_root d ≡ true) → Given (Leads d) o
  reference-to None h g = tt
  reference-to (Some q) h g = (h, g)

  reference-from : (o : Option (List ℕ)) (ns : Named) → names_apart ns ≡ true → Given (Leads d) o → AreProper d o ns
  reference-from None ns a h = record { apart = a; led = refl; known = λ e. absurd (true≢false (sym e)) }
  reference-from (Some q) ns a h = record { apart = a; led = h.0; known = h.1 }

  mutual
    pub to-all : (s : Schema) → Is s → All s
    to-all (boolean b) h = tt
    to-all (object p ss ls ns) h = (reference-to p.reference h.0.led h.0.known, h.2, (h.0.apart, h.3), same-to ss h.1)

    same-to : (ss : Same) → ProperSame sized d ss → ThroughoutSame (Leads d) (OfLists sized d) (OfNamed sized d) ss
    same-to no_same h = tt
    same-to (same_value all any one none c) h = (list-to all h.0, list-to any h.1, list-to one h.2, maybe-to none h.3)

    list-to : (m : MaybeSchemas) → ProperMembers sized d m → ThroughoutList (Leads d) (OfLists sized d) (OfNamed sized d) m
    list-to no_list h = tt
    list-to (the_list ss) h = all-to ss h

    maybe-to : (m : MaybeSchema) → ProperMaybe sized d m → ThroughoutMaybe (Leads d) (OfLists sized d) (OfNamed sized d) m
    maybe-to no_schema h = tt
    maybe-to (the_schema s) h = to-all s h

    all-to : (ss : Schemas) → AllProper sized d ss → ThroughoutAll (Leads d) (OfLists sized d) (OfNamed sized d) ss
    all-to no_more h = tt
    all-to (schema s ss) h = (to-all s h.0, all-to ss h.1)

  mutual
    pub from-all : (s : Schema) → All s → Is s
    from-all (boolean b) h = tt
    from-all (object p ss ls ns) h = (reference-from p.reference ns h.2.0 h.0, same-from ss h.3, h.1, h.2.1)

    same-from : (ss : Same) → ThroughoutSame (Leads d) (OfLists sized d) (OfNamed sized d) ss → ProperSame sized d ss
    same-from no_same h = tt
    same-from (same_value all any one none c) h = (list-from all h.0, list-from any h.1, list-from one h.2, maybe-from none h.3)

    list-from : (m : MaybeSchemas) → ThroughoutList (Leads d) (OfLists sized d) (OfNamed sized d) m → ProperMembers sized d m
    list-from no_list h = tt
    list-from (the_list ss) h = all-from ss h

    maybe-from : (m : MaybeSchema) → ThroughoutMaybe (Leads d) (OfLists sized d) (OfNamed sized d) m → ProperMaybe sized d m
    maybe-from no_schema h = tt
    maybe-from (the_schema s) h = from-all s h

    all-from : (ss : Schemas) → ThroughoutAll (Leads d) (OfLists sized d) (OfNamed sized d) ss → AllProper sized d ss
    all-from no_more h = tt
    all-from (schema s ss) h = (from-all s h.0, all-from ss h.1)

  always-from : (o : Outcome Schema) → Always All o → Always Is o
  always-from (fault f) h = tt
  always-from (never ns) h = tt
  always-from (answer ns s) h = from-all s h

  -- a merge of schemas that are proper
  proper-merge : (f : Schema → Schema → Outcome Schema) → Keeps d (Leads d) (OfLists sized d) (OfNamed sized d) f → (a b : Schema) → Is a → Is b → Always Is (f a b)
  proper-merge f k a b x y = always-from (f a b) (k a b (to-all a x) (to-all b y))

  -- ---- walks

  carried-proper : (w : Walk) (s : Schema) → Is s → Is (carried w s)
  carried-proper w (boolean b) h = h
  carried-proper w (object p ss ls ns) h = h

  all-inside : (w : Walk) (k : Step) (i : ℕ) (ss : Schemas) → AllProper sized d ss → AllProper sized d (all_inside w k i ss)
  all-inside w k i no_more h = tt
  all-inside w k i (schema s ss) h = (carried-proper (to_child w (k ∷ place i ∷ [])) s h.0, all-inside w k (suc i) ss h.1)

  maybe-inside : (w : Walk) (k : Step) (m : MaybeSchema) → ProperMaybe sized d m → ProperMaybe sized d (maybe_inside w k m)
  maybe-inside w k no_schema h = tt
  maybe-inside w k (the_schema s) h = carried-proper (to_child w (k ∷ [])) s h

  properties-inside : (w : Walk) (k : Step) (ps : Properties) → ProperProperties sized d ps → ProperProperties sized d (names_inside w k ps)
  properties-inside w k no_properties h = tt
  properties-inside w k (property n s ps) h = (carried-proper (to_child w (k ∷ n ∷ [])) s h.0, properties-inside w k ps h.1)

  places-inside : (w : Walk) (p : Places) → ProperPlaces sized d p → ProperPlaces sized d (places_inside w p)
  places-inside w no_items h = tt
  places-inside w (each_item s) h = carried-proper (to_child w (codes "items" ∷ [])) s h
  places-inside w (by_place ss) h = all-inside w (codes "items") 0 ss h

  lists-inside : (w : Walk) (ls : Lists) → OfLists sized d ls → OfLists sized d (lists_inside w ls)
  lists-inside w no_lists h = tt
  lists-inside w (lists p x a c) h = (places-inside w p h.0, maybe-inside w (codes "additionalItems") x h.1, maybe-inside w (codes "contains") a h.2, h.3)

  same-names : (w : Walk) (k : Step) (ps : Properties) → names_of (names_inside w k ps) ≡ names_of ps
  same-names w k no_properties = refl
  same-names w k (property n s ps) = ap (λ ns. n ∷ ns) (same-names w k ps)

  named-inside : (w : Walk) (ns : Named) → OfNamed sized d ns → OfNamed sized d (named_inside w ns)
  named-inside w no_named h = h
  named-inside w (named ps pp x xn c) h = (
    (λ i. differ (same-names w (codes "properties") ps i) && differ c.required) ∙ h.0,
    (properties-inside w (codes "properties") ps h.1.0, properties-inside w (codes "patternProperties") pp h.1.1, maybe-inside w (codes "additionalProperties") x h.1.2, maybe-inside w (codes "propertyNames") xn h.1.3),
  )

  if-walked : (o : Option Walk) (s t : Schema) → Is s → Is t → Is (if_walked o s t)
  if-walked (Some w) s t h g = h
  if-walked None s t h g = g

  settled-names : (w : Walk) (ps : Properties) → names_of (settled_properties w ps) ≡ names_of ps
  settled-names w no_properties = refl
  settled-names w (property n s ps) = ap (λ ns. n ∷ ns) (settled-names w ps)

  settled-apart : (w : Walk) (ns : Named) → names_apart ns ≡ true → names_apart (settled_named w ns) ≡ true
  settled-apart w no_named h = h
  settled-apart w (named ps pp x xn c) h = (λ i. differ (settled-names w ps i) && differ c.required) ∙ h

  mutual
    settled-proper : (w : Walk) (s : Schema) → Is s → Is (settled w s)
    settled-proper w (boolean b) h = h
    settled-proper w (object p ss ls ns) h =
        if-walked p.walk (object p ss ls ns) (object (record p { walk = Some (made_on (longest_or w (walks_of_same (settled_same w ss)))) }) (settled_same w ss) ls (settled_named w ns)) h
        (record { apart = settled-apart w ns h.0.apart; led = h.0.led; known = h.0.known }, same-settled w ss h.1, h.2, named-settled w ns h.3)

    same-settled : (w : Walk) (ss : Same) → ProperSame sized d ss → ProperSame sized d (settled_same w ss)
    same-settled w no_same h = tt
    same-settled w (same_value all any one none c) h = (list-settled w all h.0, list-settled w any h.1, list-settled w one h.2, maybe-settled w none h.3)

    named-settled : (w : Walk) (ns : Named) → ProperNamed sized d ns → ProperNamed sized d (settled_named w ns)
    named-settled w no_named h = tt
    named-settled w (named ps pp x xn c) h = (properties-settled w ps h.0, h.1, h.2, h.3)

    maybe-settled : (w : Walk) (m : MaybeSchema) → ProperMaybe sized d m → ProperMaybe sized d (settled_maybe w m)
    maybe-settled w no_schema h = tt
    maybe-settled w (the_schema s) h = settled-proper w s h

    list-settled : (w : Walk) (m : MaybeSchemas) → ProperMembers sized d m → ProperMembers sized d (settled_list w m)
    list-settled w no_list h = tt
    list-settled w (the_list ss) h = all-settled w ss h

    all-settled : (w : Walk) (ss : Schemas) → AllProper sized d ss → AllProper sized d (settled_all w ss)
    all-settled w no_more h = tt
    all-settled w (schema s ss) h = (settled-proper w s h.0, all-settled w ss h.1)

    properties-settled : (w : Walk) (ps : Properties) → ProperProperties sized d ps → ProperProperties sized d (settled_properties w ps)
    properties-settled w no_properties h = tt
    properties-settled w (property n s ps) h = (settled-proper w s h.0, properties-settled w ps h.1)

  -- ---- targets

  defined-proper : (n : List ℕ) (ds : List Definition) → AllByRecursion (λ e. Is e.body) ds → (t : Schema) → option_map (λ e. e.body) (defined n ds) ≡ Some t → Is t
  defined-proper n [] h t e = absurd (none_some e)
    where
      none_some : None ≡ Some t → ⊥
      none_some e = cc
  defined-proper n (f ∷ fs) h t e = by (bytes_eq n f.name) e (defined-proper n fs h.1 t)
    where
      by : (b : Bool) → option_map (λ e. e.body) (if b then Some f else defined n fs) ≡ Some t → (option_map (λ e. e.body) (defined n fs) ≡ Some t → Is t) → Is t
      by true e g = let q : f.body ≡ t = cc in subst Is q h.0
      by false e g = g e

  target-proper : AllAreProper sized d → (q : List ℕ) (t : Schema) → target d q ≡ Some t → Is t
  target-proper proper q t e = by (is_root_reference q) (definition_name q) e
    where
      by : (b : Bool) (o : Option (List ℕ)) → (if b then Some d.root else option_map (λ e. e.body) (defined_as d o)) ≡ Some t → Is t
      by true o e = let q : d.root ≡ t = cc in subst Is q proper.root
      by false None e = absurd (none_some e)
        where
          none_some : None ≡ Some t → ⊥
          none_some e = cc
      by false (Some n) e = defined-proper n d.definitions proper.definitions t e

  pub proper-kept : AllAreProper sized d → IsKept d (Leads d) (OfLists sized d) (OfNamed sized d)
  proper-kept proper = record {
    of_target = λ q t h e. to-all t (target-proper proper q t e);
    of_no_lists = tt;
    of_no_named = (refl, tt);
    of_two_lists = λ f k. two-lists sized kept d f (proper-merge f k);
    of_two_named = λ f k. two-named sized d f (proper-merge f k);
    of_less_named = λ f k. less-named sized d f (proper-merge f k);
    of_lists_inside = lists-inside;
    of_named_inside = named-inside;
    of_settled_named = λ w ns h. (settled-apart w ns h.0, named-settled w ns h.1);
  }

pub merges-keep : (sized : ListRules → Type 0) → SizesAreKept sized → AreKeptProper sized
merges-keep sized kept d proper most n =
    let k = proper-kept sized kept d proper in
    record {
      joins = λ a b x y. always-from sized kept d (join_by_walks d most n a b) (join-kept d (Leads d) (OfLists sized d) (OfNamed sized d) k most n a b (to-all sized kept d a x) (to-all sized kept d b y));
      leaves = λ a b x y. always-from sized kept d (less_by_walks d most n a b) (less-kept d (Leads d) (OfLists sized d) (OfNamed sized d) k most n a b (to-all sized kept d a x) (to-all sized kept d b y));
      with_all = λ b ss x y. always-from sized kept d (with_by_walks d most n b ss) (with-kept d (Leads d) (OfLists sized d) (OfNamed sized d) k most n b ss (to-all sized kept d b x) (same-to sized kept d ss y));
      gathers = λ ss x. always-from sized kept d (merge_by_walks d most n ss) (several-kept d (Leads d) (OfLists sized d) (OfNamed sized d) k most n ss (all-to sized kept d ss x));
    }

-- nothing is asked of sizes
pub any-size-kept : SizesAreKept of_any_size
any-size-kept = record { of_both = λ c e x y. tt; up_to = λ c m x. tt }

pub merges_are_proper : MergesAreProper
merges_are_proper = merges-keep of_any_size any-size-kept
