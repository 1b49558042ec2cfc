-- The table of a document whose rows may merge: what its rows make leads on and comes to an end.
use Rattle.std.proofs.Common.{ℕ, ◌≡◌, zero, suc, List, [], ◌∷◌, ◌++◌, map, Bool, true, false, Option, Some, None, option_map, refl, sym, ap, ◌∙◌, subst, bytes_eq}
use Rattle.std.specs.Prelude.{if◌then◌else◌}
use Rattle.std.specs.List.{AllByRecursion}
use Rattle.schema_defs.specs.Texts.{Relations}
use Rattle.schema_defs.specs.Schema.{Schema, boolean, object, Definition, Document}
use Rattle.schema_defs.specs.Walks.{IsGuarded}
use Rattle.schema_defs.specs.Admits.{target, defined, defined_as, definition_name, is_root_reference, allowed}
use Rattle.schema_defs.proofs.Spare.{Refs, Given, Ends as SchemaEnds}
use Rattle.schema_defs.proofs.Guarded.{all_end}
use Rattle.entry_defs.specs.Entry.{Target, the_root, definition, Shape, Entry, boolean_entry, integer_entry, text_entry, native_entry, any_entry, unit_entry, option_entry, vec_entry, set_entry, map_entry, tuple_entry, array_entry, reference, item}
use Rattle.entry_defs.specs.Table.{ItemEntry, found, target_item}
use Rattle.entry_defs.specs.Sound.{Each, EachInShape, Leads}
use Rattle.entry_defs.specs.Ends.{Asked, AskedByShape, IfLed, EndsWithin, Ends}
use Rattle.naming_defs.specs.Laws.{IsFit}
use Rattle.convert_defs.specs.Row.{Part, row_parts}
use Rattle.convert_defs.specs.Table.{row_of, target_of}
use Rattle.convert_defs.specs.RootReference.{is_root, refers_to_root}
use Rattle.convert_defs.specs.Convert.{entry_of, as_item, root_name}
use Rattle.convert_defs.specs.Proper.{leads, IsProper, IsProperDocument}
use Rattle.each_schema.specs.Each.{of_any_size}
use Rattle.convert_defs.proofs.Bare.{none-some, some-same}
use Rattle.convert_defs.proofs.Fine.{own, finding-fine}
use Rattle.convert_defs.proofs.ProperParts.{parts-proper}
use Rattle.convert_defs.proofs.Views.{AllParts}
use Rattle.convert_walks.specs.Spot.{Spot}
use Rattle.convert_walks.specs.Tree.{entry_at, definition_spot, root_spot, root_entry, definition_target, root_targets, table_of}
use Rattle.conversion_laws.proofs.Clean.{names-are-apart}
use Rattle.conversion_laws.proofs.Merging.{Known, May, may-end, ends-of, standing-in_order, standing-ends}
use Rattle.conversion_laws.proofs.Targets.{table, body_entry, root-last, root-led, no-definition, no-target}
use Rattle.merged_documents.proofs.Entries.{IsHandedOn, entry-says}
use Rattle.merged_documents.proofs.Leading.{root-leads, leads-on}
use Rattle.merged_documents.proofs.RowsAsk.{PartAsks, row-asks}
use Rattle.merged_documents.proofs.RowsFit.{Said, row-each}
use Rattle.merged_documents.proofs.Tables.{all-trees, all-items}

as-item-asks : (Q : Target → Type 0) (n : List ℕ) (e : Entry) → Asked Q e → AskedByShape Q (as_item n e).shape
as-item-asks Q n (item l h) x = x
as-item-asks Q n boolean_entry x = tt
as-item-asks Q n (integer_entry g) x = tt
as-item-asks Q n text_entry x = tt
as-item-asks Q n (native_entry f) x = tt
as-item-asks Q n any_entry x = tt
as-item-asks Q n unit_entry x = tt
as-item-asks Q n (option_entry e) x = x
as-item-asks Q n (vec_entry e) x = tt
as-item-asks Q n (set_entry e) x = tt
as-item-asks Q n (map_entry k e) x = tt
as-item-asks Q n (tuple_entry us) x = tt
as-item-asks Q n (array_entry e m) x = tt
as-item-asks Q n (reference t) x = x

item-each : (P : List ℕ → Shape → Type 0) (Q : Target → Type 0) (n : List ℕ) (e : Entry) → Each P Q e → EachInShape P Q (as_item n e).shape
item-each P Q n (item l h) x = x.1
item-each P Q n boolean_entry x = x
item-each P Q n (integer_entry g) x = x
item-each P Q n text_entry x = x
item-each P Q n (native_entry f) x = x
item-each P Q n any_entry x = x
item-each P Q n unit_entry x = x
item-each P Q n (option_entry e) x = x
item-each P Q n (vec_entry e) x = x
item-each P Q n (set_entry e) x = x
item-each P Q n (map_entry k e) x = x
item-each P Q n (tuple_entry us) x = x
item-each P Q n (array_entry e m) x = x
item-each P Q n (reference t) x = x

module _ (r : Relations) (d : Document) (most n : ℕ) (in_order : IsProperDocument d) where
  abbrev Is : ℕ → Spot → Schema → Type 0
  Is i o s = IsProper of_any_size d s

  abbrev EndsIn : ℕ → Target → Type 0
  EndsIn k = EndsWithin (table r d most n) k

  -- ---- what is asked at one value, with k references left

  module _ (k : ℕ) (refs : (q : List ℕ) (t : Target) → May d k q → target_of q ≡ Some t → EndsIn k t) where
    abbrev Asks : Schema → Entry → Type 0
    Asks s e = Refs (May d k) s → Asked (EndsIn k) e

    asks-on : IsHandedOn r d most Is Asks
    asks-on = record {
      nothing = λ s g. tt;
      to_parts = λ i o s h e. parts-proper of_any_size d r s h;
      by_row = λ i o s h e conv name x g. row-asks (May d k) (EndsIn k) refs conv s name (row_of r d s) (finding-fine (May d k) r d s (names-are-apart d s h)) x g;
      in_place = λ i o s h ps e t j.
          let y = standing-in_order d r most i o s ps e t j in_order h in
          (y, λ u f g. f (may-end d k t.schema y (standing-ends d r most i o s ps e t j k (ends-of d k s g))));
    }

    entry-asks : (i : ℕ) (o : Spot) (s : Schema) → IsProper of_any_size d s → SchemaEnds d k s → Asked (EndsIn k) (entry_at r d most i o s)
    entry-asks i o s h e = entry-says r d most Is Asks asks-on i o s h (may-end d k s h e)

  -- ---- where references lead, with one fewer left

  abbrev LedEnds : ℕ → Option ItemEntry → Type 0
  LedEnds k o = IfLed (AskedByShape (EndsIn k)) o

  abbrev AllAsk : ℕ → Type 0
  AllAsk k = (o : Spot) (s : Schema) → IsProper of_any_size d s → SchemaEnds d k s → Asked (EndsIn k) (entry_at r d most n o s)

  found-ends : (k : ℕ) → AllAsk k → (m : List ℕ) (ds : List Definition) → AllByRecursion (λ e. IsProper of_any_size d e.body) ds → Given (SchemaEnds d k) (option_map (λ e. e.body) (defined m ds))
      → LedEnds k (found (definition m) (map (definition_target r d most n) ds ++ root_targets r d most n (refers_to_root d)))
  found-ends k a m [] c g = subst (LedEnds k) (sym (no-definition r d most n m (refers_to_root d))) tt
  found-ends k a m (e ∷ ds) c g = by (bytes_eq m e.name) g (found-ends k a m ds c.1)
    where
      by : (b : Bool) → Given (SchemaEnds d k) (option_map (λ e. e.body) (if b then Some e else defined m ds))
          → (Given (SchemaEnds d k) (option_map (λ e. e.body) (defined m ds)) → LedEnds k (found (definition m) (map (definition_target r d most n) ds ++ root_targets r d most n (refers_to_root d))))
          → LedEnds k (if b then Some (as_item e.name (body_entry r d most n e)) else found (definition m) (map (definition_target r d most n) ds ++ root_targets r d most n (refers_to_root d)))
      by true g f = as-item-asks (EndsIn k) e.name (body_entry r d most n e) (a (definition_spot r d most n e) e.body c.0 g)
      by false g f = f g

  led-ends : (k : ℕ) → AllAsk k → (q : List ℕ) (t : Target) → Known d q → Given (SchemaEnds d k) (target d q) → target_of q ≡ Some t → LedEnds k (target_item (table r d most n) t)
  led-ends k a q t known g h = by (is_root_reference q) (definition_name q) known g h
    where
      by : (b : Bool) (o : Option (List ℕ)) → (b ≡ true → refers_to_root d ≡ true) → Given (SchemaEnds d k) (if b then Some d.root else option_map (λ e. e.body) (defined_as d o))
          → (if b then Some the_root else option_map definition o) ≡ Some t → LedEnds k (target_item (table r d most n) t)
      by true o u g h =
          subst (λ x. LedEnds k (target_item (table r d most n) x)) (some-same the_root t h)
          (subst (LedEnds k) (sym (root-last r d most n d.definitions (root_targets r d most n (refers_to_root d)) ∙ root-led r d most n (refers_to_root d) (u refl)))
          (as-item-asks (EndsIn k) (root_name d.root) (root_entry r d most n) (a (root_spot r d most n) d.root in_order.root g)))
      by false None u g h = none-some t h
      by false (Some m) u g h = subst (λ x. LedEnds k (target_item (table r d most n) x)) (some-same (definition m) t h) (found-ends k a m d.definitions in_order.definitions g)

  refs-end : (k : ℕ) (q : List ℕ) (t : Target) → May d k q → target_of q ≡ Some t → EndsIn k t
  refs-end zero q t g h = no-target r d most n q t g.0 h
  refs-end (suc k) q t g h = led-ends k (entry-asks k (refs-end k) n) q t g.1 g.0 h

  -- ---- the table

  module _ (guarded : IsGuarded d) where
    abbrev last : ℕ
    last = allowed d

    abbrev OfEntry : Entry → Type 0
    OfEntry = Said (table r d most n) (May d last) last

    leading : (s : Schema) → IsProper of_any_size d s → (q : List ℕ) (t : Target) → own s ≡ Some q → target_of q ≡ Some t → Leads (table r d most n) t
    leading (boolean b) h q t e f = none-some q e
    leading (object p ss ls ns) h q t e f = leads-on r d most n q t (λ g. h.0.known (ap is_root e ∙ g)) (ap (leads d) (sym e) ∙ h.0.led) f

    parts-ask : (conv : Part → Entry) (ps : List Part) → AllParts (λ p. OfEntry (conv p)) ps → AllParts (PartAsks (May d last) (EndsIn last) (refs-end last) conv) ps
    parts-ask conv [] x = tt
    parts-ask conv (p ∷ ps) x = ((λ g. x.0.1), parts-ask conv ps x.1)

    row-said : (conv : Part → Entry) (name : List ℕ) (s : Schema) → IsProper of_any_size d s → AllParts (λ p. OfEntry (conv p)) (row_parts (row_of r d s)) → OfEntry (entry_of conv name (row_of r d s))
    row-said conv name s h x =
        let fine = finding-fine (May d last) r d s (names-are-apart d s h) in
        let a = row-asks (May d last) (EndsIn last) (refs-end last) conv s name (row_of r d s) fine (parts-ask conv (row_parts (row_of r d s)) x) (may-end d last s h (all_end d guarded s)) in
        (row-each (table r d most n) (May d last) last r conv s (leading s h) name (row_of r d s) fine x a, a)

    said-on : IsHandedOn r d most Is (λ s e. OfEntry e)
    said-on = record {
      nothing = λ s. (tt, tt);
      to_parts = λ i o s h e. parts-proper of_any_size d r s h;
      by_row = λ i o s h e conv name x. row-said conv name s h x;
      in_place = λ i o s h ps e t j. (standing-in_order d r most i o s ps e t j in_order h, λ u f. f);
    }

    pub entry-said : (o : Spot) (s : Schema) → IsProper of_any_size d s → OfEntry (entry_at r d most n o s)
    entry-said o s h = entry-says r d most Is (λ s e. OfEntry e) said-on n o s h

    bodies-said : (ds : List Definition) → AllByRecursion (λ e. IsProper of_any_size d e.body) ds → AllByRecursion (λ e. OfEntry (body_entry r d most n e)) ds
    bodies-said [] h = tt
    bodies-said (e ∷ ds) h = (entry-said (definition_spot r d most n e) e.body h.0, bodies-said ds h.1)

    abbrev OfItem : ItemEntry → Type 0
    OfItem i = Ends (table r d most n) i.name i.shape × EachInShape (Ends (table r d most n)) (Leads (table r d most n)) i.shape

    item-said : (name : List ℕ) (e : Entry) → OfEntry e → OfItem (as_item name e)
    item-said name e x = ((last, as-item-asks (EndsIn last) name e x.1), item-each (Ends (table r d most n)) (Leads (table r d most n)) name e x.0)

    pub is-fit : IsFit (table_of r d most n)
    is-fit =
        let root = entry-said (root_spot r d most n) d.root in_order.root in
        record {
          trees = all-trees r d most n (Each (Ends (table r d most n)) (Leads (table r d most n))) root.0 (root-leads r d most n);
          targets = all-items r d most n OfEntry root OfItem item-said (bodies-said d.definitions in_order.definitions);
        }
