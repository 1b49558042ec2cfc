-- A document that was read is proper, so that its conversion agrees.
use Rattle.std.proofs.Common.{◌≡◌, ℕ, List, [], ◌∷◌, Bool, true, false, ◌||◌, Option, Some, None, is_some, refl, sym, ap, subst, ◌∙◌}
use Rattle.std.specs.List.{AllByRecursion, list_any}
use Rattle.schema_defs.specs.Schema.{Schema, boolean, object, Same, no_same, same_value, Lists, no_lists, lists, Named, no_named, named, MaybeSchema, no_schema, the_schema, MaybeSchemas, no_list, the_list, Schemas, no_more, schema, Places, no_items, each_item, by_place, Properties, no_properties, property, ListRules, Definition, Document}
use Rattle.schema_defs.specs.Admits.{target}
use Rattle.schema_faults.specs.Schemas.{schemas_of}
use Rattle.schema_faults.specs.Faults as faults
use Rattle.schema_faults.specs.Faults.{bad_reference_texts}
use Rattle.schema_faults.proofs.Readings.{is_empty}
use Rattle.schema_faults.proofs.Roots.{empty-told}
use Rattle.schema_faults.proofs.Targets.{leads_to_targets}
use Rattle.schema_laws.proofs.Options.{IfThere}
use Rattle.schema_laws.proofs.Fine.{Passes, Fine, FineSame, FineLists, FineNamed, FineMaybe, FineList, FineAll, FinePlaces, FineNames, FineDefinitions, FineDocument}
use Rattle.schema_laws.proofs.Passing.{document_fine}
use Rattle.convert_defs.specs.Apart.{names_apart}
use Rattle.convert_defs.specs.RootReference.{is_root, has_root, root_in_same, root_in_lists, root_in_named, root_in_maybe, root_in_members, root_in_all, root_in_places, root_in_properties, refers_to_root}
use Rattle.convert_defs.specs.Proper.{leads, IsProper, ProperSame, ProperLists, ProperNamed, ProperMaybe, ProperMembers, AllProper, ProperPlaces, ProperProperties, AllAreProper}
use Rattle.each_schema.specs.Each.{of_any_size}
use Rattle.document_laws.specs.Laws.{WasRead, AsksForFew, DocumentsAreProper, DocumentsAreSized}
use Rattle.document_laws.proofs.Apart.{Apart, ApartSame, ApartLists, ApartNamed, ApartMaybe, ApartList, ApartAll, ApartPlaces, ApartNames, ApartDefinitions, ApartDocument}
use Rattle.document_laws.proofs.NamesRead.{document_apart}

or-left : (a b : Bool) → a ≡ true → (a || b) ≡ true
or-left a b h = ap (λ x. x || b) h

or-right : (a b : Bool) → b ≡ true → (a || b) ≡ true
or-right true b h = refl
or-right false b h = h

module _ (sized : ListRules → Type 0) (few : (rules : ListRules) → AsksForFew rules → sized rules) (d : Document) (p : List ℕ → Bool) (to : (q : List ℕ) → p q ≡ is_some (target d q)) where
  -- a `#` inside stands in the document
  abbrev Known : Bool → Type 0
  Known b = b ≡ true → refers_to_root d ≡ true

  in-left : (a b : Bool) → Known (a || b) → Known a
  in-left a b f h = f (or-left a b h)

  in-right : (a b : Bool) → Known (a || b) → Known b
  in-right a b f h = f (or-right a b h)

  led : (o : Option (List ℕ)) → Passes p o → leads d o ≡ true
  led None h = refl
  led (Some q) h = sym (to q) ∙ h

  apart-named : (ns : Named) → ApartNamed ns → names_apart ns ≡ true
  apart-named no_named h = refl
  apart-named (named props patterns others names rules) h = h.0

  mutual
    proper : (s : Schema) → Fine p s → Apart s → Known (has_root s) → IsProper sized d s
    proper (boolean b) f a k = tt
    proper (object q ss ls ns) f a k =
        let k1 = in-right (is_root q.reference) (root_in_same ss || (root_in_lists ls || root_in_named ns)) k in
        let k2 = in-right (root_in_same ss) (root_in_lists ls || root_in_named ns) k1 in (
          record { apart = apart-named ns a.2; led = led q.reference f.0; known = in-left (is_root q.reference) (root_in_same ss || (root_in_lists ls || root_in_named ns)) k },
          proper-same ss f.1 a.0 (in-left (root_in_same ss) (root_in_lists ls || root_in_named ns) k1),
          proper-lists ls f.2 a.1 (in-left (root_in_lists ls) (root_in_named ns) k2),
          proper-named ns f.3 a.2 (in-right (root_in_lists ls) (root_in_named ns) k2),
        )

    proper-same : (ss : Same) → FineSame p ss → ApartSame ss → Known (root_in_same ss) → ProperSame sized d ss
    proper-same no_same f a k = tt
    proper-same (same_value all any one none conditional) f a k =
        let k1 = in-right (root_in_members all) (root_in_members any || (root_in_members one || root_in_maybe none)) k in
        let k2 = in-right (root_in_members any) (root_in_members one || root_in_maybe none) k1 in (
          proper-members all f.0 a.0 (in-left (root_in_members all) (root_in_members any || (root_in_members one || root_in_maybe none)) k),
          proper-members any f.1 a.1 (in-left (root_in_members any) (root_in_members one || root_in_maybe none) k1),
          proper-members one f.2 a.2 (in-left (root_in_members one) (root_in_maybe none) k2),
          proper-maybe none f.3 a.3 (in-right (root_in_members one) (root_in_maybe none) k2),
        )

    proper-lists : (ls : Lists) → FineLists p ls → ApartLists ls → Known (root_in_lists ls) → ProperLists sized d ls
    proper-lists no_lists f a k = tt
    proper-lists (lists places others contains rules) f a k =
        let k1 = in-right (root_in_places places) (root_in_maybe others || root_in_maybe contains) k in (
          proper-places places f.0 a.0 (in-left (root_in_places places) (root_in_maybe others || root_in_maybe contains) k),
          proper-maybe others f.1 a.1 (in-left (root_in_maybe others) (root_in_maybe contains) k1),
          proper-maybe contains f.2 a.2 (in-right (root_in_maybe others) (root_in_maybe contains) k1),
          few rules a.3,
        )

    proper-named : (ns : Named) → FineNamed p ns → ApartNamed ns → Known (root_in_named ns) → ProperNamed sized d ns
    proper-named no_named f a k = tt
    proper-named (named props patterns others names rules) f a k =
        let k1 = in-right (root_in_properties props) (root_in_properties patterns || (root_in_maybe others || root_in_maybe names)) k in
        let k2 = in-right (root_in_properties patterns) (root_in_maybe others || root_in_maybe names) k1 in (
          proper-properties props f.0 a.1 (in-left (root_in_properties props) (root_in_properties patterns || (root_in_maybe others || root_in_maybe names)) k),
          proper-properties patterns f.1 a.2 (in-left (root_in_properties patterns) (root_in_maybe others || root_in_maybe names) k1),
          proper-maybe others f.2 a.3 (in-left (root_in_maybe others) (root_in_maybe names) k2),
          proper-maybe names f.3 a.4 (in-right (root_in_maybe others) (root_in_maybe names) k2),
        )

    proper-maybe : (m : MaybeSchema) → FineMaybe p m → ApartMaybe m → Known (root_in_maybe m) → ProperMaybe sized d m
    proper-maybe no_schema f a k = tt
    proper-maybe (the_schema s) f a k = proper s f a k

    proper-members : (m : MaybeSchemas) → FineList p m → ApartList m → Known (root_in_members m) → ProperMembers sized d m
    proper-members no_list f a k = tt
    proper-members (the_list ss) f a k = all-proper ss f a k

    all-proper : (ss : Schemas) → FineAll p ss → ApartAll ss → Known (root_in_all ss) → AllProper sized d ss
    all-proper no_more f a k = tt
    all-proper (schema s ss) f a k = (proper s f.0 a.0 (in-left (has_root s) (root_in_all ss) k), all-proper ss f.1 a.1 (in-right (has_root s) (root_in_all ss) k))

    proper-places : (m : Places) → FinePlaces p m → ApartPlaces m → Known (root_in_places m) → ProperPlaces sized d m
    proper-places no_items f a k = tt
    proper-places (each_item s) f a k = proper s f a k
    proper-places (by_place ss) f a k = all-proper ss f a k

    proper-properties : (ps : Properties) → FineNames p ps → ApartNames ps → Known (root_in_properties ps) → ProperProperties sized d ps
    proper-properties no_properties f a k = tt
    proper-properties (property n s ps) f a k = (proper s f.0 a.0 (in-left (has_root s) (root_in_properties ps) k), proper-properties ps f.1 a.1 (in-right (has_root s) (root_in_properties ps) k))

  proper-definitions : (es : List Definition) → FineDefinitions p es → ApartDefinitions es → Known (list_any (λ e. has_root e.body) es) → AllByRecursion (λ e. IsProper sized d e.body) es
  proper-definitions [] f a k = tt
  proper-definitions (e ∷ es) f a k =
      (proper e.body f.0 a.0 (in-left (has_root e.body) (list_any (λ e. has_root e.body) es) k), proper-definitions es f.1 a.1 (in-right (has_root e.body) (list_any (λ e. has_root e.body) es) k))

  proper-document : FineDocument p d → ApartDocument d → AllAreProper sized d
  proper-document f a = record {
    root = proper d.root f.0 a.0 (in-left (has_root d.root) (list_any (λ e. has_root e.body) d.definitions) (λ h. h));
    definitions = proper-definitions d.definitions f.1 a.1 (in-right (has_root d.root) (list_any (λ e. has_root e.body) d.definitions) (λ h. h));
  }

of-read : (sized : ListRules → Type 0) → ((rules : ListRules) → AsksForFew rules → sized rules) → (d : Document) → WasRead d → AllAreProper sized d
of-read sized few d w =
    let v = w.value in
    let p = faults.leads v in
    let fine : FineDocument p d = subst (IfThere (FineDocument p)) w.read.read (document_fine p w.setting v (sym (empty-told (bad_reference_texts v) (schemas_of v)) ∙ ap is_empty w.read.readable.0.1)) in
    let apart : ApartDocument d = subst (IfThere ApartDocument) w.read.read (document_apart w.setting v w.differ) in
    proper-document sized few d p (leads_to_targets w.setting v d w.read.read) fine apart

pub documents_are_proper : DocumentsAreProper
documents_are_proper = of-read of_any_size (λ rules h. tt)

pub documents_are_sized : DocumentsAreSized
documents_are_sized = of-read AsksForFew (λ rules h. h)
