-- One required name, taken away from an object.
use Rattle.std.proofs.Common.{◌≡◌, ℕ, List, [], ◌∷◌, Bool, true, false, ◌&&◌, ◌||◌, not, Option, Some, None, refl, ap, sym, ◌∙◌, subst, bytes_eq}
use Rattle.std.specs.Prelude.{if◌then◌else◌}
use Rattle.std.specs.List.{list_all, list_any}
use Rattle.std.proofs.lemmas.Slice.Eq.{bytes_eq-Decides}
use Rattle.json_value.specs.Value as value
use Rattle.json_value.specs.Value.{Value, Members, null, number, fraction, text, list, member, no_members, has_name, member_count, same}
use Rattle.schema_defs.specs.declared.InstanceType.TheVariants.{Object}
use Rattle.schema_defs.specs.declared.Setting.TheVariants.{Strict}
use Rattle.schema_defs.specs.Texts.{Relations}
use Rattle.schema_defs.specs.Schema.{Types, one_type, MemberRules, Plain, Schema, boolean, object, Same, no_same, same_value, Lists, no_lists, lists, Named, no_named, named, MaybeSchema, no_schema, the_schema, Properties, no_properties, property, Document}
use Rattle.schema_defs.specs.Layer.{if_given, is_kind, types_agree, is_listed, plain_agrees, of_kind_agrees, parts_agree, maybe, property_at, is_given, patterns_agree, has_any, member_agrees, member_rules_agree, within}
use Rattle.schema_defs.specs.Admits.{admits, member_parts, counts_as_absent, name_admits, parts_of, target, follow}
use Rattle.schema_defs.specs.Walks.{IsGuarded}
use Rattle.schema_defs.proofs.Unfold.{unfolds}
use Rattle.enum_defs.specs.Words.{has_type, is_name, names_of, without_lists, without_same}
use Rattle.merge_defs.specs.Outcome.{Outcome, answer, never, noted, and_then, mapped}
use Rattle.merge_defs.specs.Alike.{is_absent}
use Rattle.merge_defs.specs.Objects.{is_false, all_names}
use Rattle.merge_defs.specs.Less.{less_values, less_name, less_properties, unless_needed, less_named, no_leaves, is_one_name, no_sizes, one_required, object_or_none, one_name_alone}
use Rattle.merge_defs.specs.Merge.{less_object}
use Rattle.merge_laws.specs.Laws.{Meets, IsProper, ProperProperties, ProperMaybe}
use Rattle.merge_laws.proofs.Steps.{no_no, yes_no, and-1, and-2, meets-exactly, meets-noted, meets-mapped, meets-then}
use Rattle.merge_laws.proofs.Leaves.{or-false}
use Rattle.merge_laws.proofs.Objects.{proper_at, named_all, names_given, named_itself}
use Rattle.merge_laws.proofs.Facts.{all_named}
use Rattle.merge_laws.proofs.Members.{same_says}
use Rattle.merge_laws.proofs.MembersAt.{part, member_of, value_there}
use Rattle.merge_laws.proofs.Main.{form}

module _ (less : Schema → Schema → Outcome Schema) (k : List ℕ) (ps : Properties) where
  abbrev schema_or_false : MaybeSchema → Schema
  schema_or_false no_schema = boolean false
  schema_or_false (the_schema s) = s

  -- what stands at a name
  abbrev at : List ℕ → Schema
  at n = if bytes_eq n k then boolean false else schema_or_false (property_at n ps)

  abbrev cut : List (List ℕ) → Properties
  cut [] = no_properties
  cut (n ∷ ns) = property n (at n) (cut ns)

module _ (less : Schema → Schema → Outcome Schema) (k : List ℕ) (ps : Properties) where
  cut_is : (ns : List (List ℕ)) → less_properties less ps no_properties (k ∷ []) ns ≡ answer [] (cut less k ps ns)
  cut_is [] = refl
  cut_is (n ∷ ns) = go (bytes_eq n k) (property_at n ps) (cut_is ns)
    where
      go : (b : Bool) (m : MaybeSchema) → less_properties less ps no_properties (k ∷ []) ns ≡ answer [] (cut less k ps ns)
          → and_then (less_name less (b || false) m no_schema) (λ s. mapped (property n s) (less_properties less ps no_properties (k ∷ []) ns)) ≡ answer [] (property n (if b then boolean false else schema_or_false less k ps m) (cut less k ps ns))
      go true m h = ap (λ o. noted [] (mapped (property n (boolean false)) o)) h
      go false no_schema h = ap (λ o. noted [] (mapped (property n (boolean false)) o)) h
      go false (the_schema s) h = ap (λ o. noted [] (mapped (property n s) o)) h

  at_cut : (j : List ℕ) (ns : List (List ℕ)) → property_at j (cut less k ps ns) ≡ (if is_name j ns then the_schema (at less k ps j) else no_schema)
  at_cut j [] = refl
  at_cut j (n ∷ ns) = go (bytes_eq j n) refl (at_cut j ns)
    where
      go : (b : Bool) → bytes_eq j n ≡ b → property_at j (cut less k ps ns) ≡ (if is_name j ns then the_schema (at less k ps j) else no_schema)
          → (if b then the_schema (at less k ps n) else property_at j (cut less k ps ns)) ≡ (if b || is_name j ns then the_schema (at less k ps j) else no_schema)
      go true e h = ap (λ x. the_schema (at less k ps x)) (sym ((bytes_eq-Decides j n).0 e))
      go false e h = h

  abbrev Names : List (List ℕ)
  Names = all_names (names_of ps) (all_names [] (k ∷ []))

  named_names : (j : List ℕ) → is_name j Names ≡ (is_given (property_at j ps) || bytes_eq j k)
  named_names j = named_all j (names_of ps) (all_names [] (k ∷ [])) ∙ (λ i. names_given j ps i || (named_all j [] (k ∷ []) ∙ or-false (bytes_eq j k)) i)

  -- at the name itself nothing is left, and elsewhere all
  at_name : (j : List ℕ) → bytes_eq j k ≡ true → property_at j (cut less k ps Names) ≡ the_schema (boolean false)
  at_name j e = at_cut j Names ∙ (λ i. if (named_names j ∙ ap (λ b. is_given (property_at j ps) || b) e ∙ or-true (is_given (property_at j ps))) i then the_schema (if e i then boolean false else schema_or_false less k ps (property_at j ps)) else no_schema)
    where
      or-true : (b : Bool) → (b || true) ≡ true
      or-true true = refl
      or-true false = refl

  at_other : (j : List ℕ) → bytes_eq j k ≡ false → property_at j (cut less k ps Names) ≡ property_at j ps
  at_other j e = at_cut j Names ∙ (λ i. if (named_names j ∙ ap (λ b. is_given (property_at j ps) || b) e ∙ or-false (is_given (property_at j ps))) i then the_schema (if e i then boolean false else schema_or_false less k ps (property_at j ps)) else no_schema) ∙ go (property_at j ps)
    where
      go : (m : MaybeSchema) → (if is_given m then the_schema (schema_or_false less k ps m) else no_schema) ≡ m
      go no_schema = refl
      go (the_schema s) = refl

  -- a required property that is false
  never_or : (needed : List (List ℕ)) (W : Bool) (ns : List (List ℕ)) → ((n : List ℕ) → is_name n ns ≡ true → is_false (at less k ps n) ≡ true → is_name n needed ≡ true → W ≡ true → ⊥)
      → Meets (λ props. props ≡ cut less k ps ns) W (λ props. W) (unless_needed less needed (cut less k ps ns))
  never_or needed W [] bad = (refl, (λ e t. t), λ e t. t)
  never_or needed W (n ∷ ns) bad = go (is_false (at less k ps n) && is_name n needed) refl (never_or needed W ns (λ m h. bad m (later m h)))
    where
      later : (m : List ℕ) → is_name m ns ≡ true → is_name m (n ∷ ns) ≡ true
      later m h = or-right (bytes_eq m n) h
        where
          or-right : (a : Bool) → is_name m ns ≡ true → (a || is_name m ns) ≡ true
          or-right true h = refl
          or-right false h = h

      go : (b : Bool) → (is_false (at less k ps n) && is_name n needed) ≡ b → Meets (λ props. props ≡ cut less k ps ns) W (λ props. W) (unless_needed less needed (cut less k ps ns))
          → Meets (λ props. props ≡ cut less k ps (n ∷ ns)) W (λ props. W) (if b then never [] else mapped (property n (at less k ps n)) (unless_needed less needed (cut less k ps ns)))
      go true e m = λ x t. bad n (ap (λ b. b || is_name n ns) (named_itself n)) (and-1 (is_false (at less k ps n)) _ e) (and-2 (is_false (at less k ps n)) _ e) t
      go false e m = meets-mapped (λ props. props ≡ cut less k ps ns) (λ props. props ≡ cut less k ps (n ∷ ns)) W (λ props. W) (λ props. W) (property n (at less k ps n)) (unless_needed less needed (cut less k ps ns)) m (λ props e. ap (property n (at less k ps n)) e) (λ props e. refl)

is_false_sound : (s : Schema) → is_false s ≡ true → s ≡ boolean false
is_false_sound (boolean true) h = no_no h
is_false_sound (boolean false) h = refl
is_false_sound (object a b d e) h = no_no h

-- ---- at a value

module _ (r : Relations) (d : Document) (guarded : IsGuarded d) (strict : d.setting ≡ Strict) (less : Schema → Schema → Outcome Schema) (k : List ℕ) (ps pp : Properties) (x xn : MaybeSchema) (needed : List (List ℕ)) where
  abbrev Cut : Properties
  Cut = cut less k ps (Names less k ps)

  cases_and : (e f a h : Bool) → ((f && not e) && (a && not h)) ≡ ((f && a) && not (e || h))
  cases_and true f a h = go f a
    where
      go : (f a : Bool) → ((f && false) && (a && not h)) ≡ ((f && a) && false)
      go true true = refl
      go true false = refl
      go false a = refl
  cases_and false true a h = refl
  cases_and false false a h = refl

  bytes_sym : (a b : List ℕ) (t : Bool) → bytes_eq a b ≡ t → bytes_eq b a ≡ t
  bytes_sym a b true e = (bytes_eq-Decides b a).1 (sym ((bytes_eq-Decides a b).0 e))
  bytes_sym a b false e = go (bytes_eq b a) refl
    where
      go : (u : Bool) → bytes_eq b a ≡ u → u ≡ false
      go true f = absurd (yes_no (bytes_eq a b) e ((bytes_eq-Decides a b).1 (sym ((bytes_eq-Decides b a).0 f))))
      go false f = refl

  -- what a member says where it does not stand for its absence
  abbrev Plainly : List ℕ → Value → MaybeSchema → Bool
  Plainly j w m = ((maybe (admits r d w) m && patterns_agree (λ q. r.matches q j) (admits r d w) pp) && ((is_given m || has_any (λ q. r.matches q j) pp) || maybe (admits r d w) x)) && maybe (name_admits r d j) xn

  pub plainly : (qs : Properties) (j : List ℕ) (w : Value) → member_agrees r (name_admits r d) qs pp x xn needed (part r d j w) ≡ Plainly j w (property_at j qs)
  plainly qs j w = λ i. ((((counts_as_absent (strict i) w && not (list_any (bytes_eq j) needed)) || maybe (admits r d w) (property_at j qs)) && patterns_agree (λ q. r.matches q j) (admits r d w) pp)
      && ((is_given (property_at j qs) || has_any (λ q. r.matches q j) pp) || maybe (admits r d w) x)) && maybe (name_admits r d j) xn

  -- a member of another name is bound as before, and one of this name by false
  member_cut : (j : List ℕ) (w : Value) → member_agrees r (name_admits r d) Cut pp x xn needed (part r d j w) ≡ (member_agrees r (name_admits r d) ps pp x xn needed (part r d j w) && not (bytes_eq k j))
  member_cut j w = plainly Cut j w ∙ go (bytes_eq k j) refl ∙ ap (λ b. b && not (bytes_eq k j)) (sym (plainly ps j w))
    where
      right : (b : Bool) → b ≡ (b && true)
      right true = refl
      right false = refl

      none : (b : Bool) → (b && false) ≡ false
      none true = refl
      none false = refl

      go : (b : Bool) → bytes_eq k j ≡ b → Plainly j w (property_at j Cut) ≡ (Plainly j w (property_at j ps) && not b)
      go true e = ap (Plainly j w) (at_name less k ps j (bytes_sym k j true e))
          ∙ ap (λ b. ((b && patterns_agree (λ q. r.matches q j) (admits r d w) pp) && true) && maybe (name_admits r d j) xn) ((unfolds r d).booleans w false)
          ∙ sym (none (Plainly j w (property_at j ps)))
      go false e = ap (Plainly j w) (at_other less k ps j (bytes_sym k j false e)) ∙ right (Plainly j w (property_at j ps))

  members_cut : (ms : Members) → list_all (member_agrees r (name_admits r d) Cut pp x xn needed) (member_parts r d ms) ≡ (list_all (member_agrees r (name_admits r d) ps pp x xn needed) (member_parts r d ms) && not (has_name k ms))
  members_cut no_members = refl
  members_cut (member j w ms) = (λ i. member_cut j w i && members_cut ms i) ∙ cases_and (bytes_eq k j) (member_agrees r (name_admits r d) ps pp x xn needed (part r d j w)) (list_all (member_agrees r (name_admits r d) ps pp x xn needed) (member_parts r d ms)) (has_name k ms)

module _ (less : Schema → Schema → Outcome Schema) (k : List ℕ) (ps : Properties) (proper : ProperProperties ps) where
  proper_cut : (ns : List (List ℕ)) → ProperProperties (cut less k ps ns)
  proper_cut [] = tt
  proper_cut (n ∷ ns) = (go (bytes_eq n k) (property_at n ps) (proper_at n ps proper), proper_cut ns)
    where
      go : (b : Bool) (m : MaybeSchema) → ProperMaybe m → IsProper (if b then boolean false else schema_or_false less k ps m)
      go true m h = tt
      go false no_schema h = tt
      go false (the_schema s) h = h

none : {A : Type 0} (o : Option A) → is_absent o ≡ true → o ≡ None
none None h = refl
none (Some x) h = no_no h

module _ (r : Relations) (d : Document) (guarded : IsGuarded d) (strict : d.setting ≡ Strict) (join less : Schema → Schema → Outcome Schema)
    (p : Plain) (ss : Same) (ls : Lists) (ps pp : Properties) (x xn : MaybeSchema) (c : MemberRules) (q : Plain) (dd : MemberRules) (k : List ℕ)
    (proper : IsProper (object p ss ls (named ps pp x xn c)))
    (typed : has_type Object p.types ≡ true) (sizes : no_sizes dd ≡ true) (one : dd.required ≡ k ∷ []) (types : object_or_none q.types ≡ true) (unlisted : is_absent q.enum_values ≡ true) (leaves : no_leaves q ≡ true)
  where
    abbrev S : Schema
    S = object p ss ls (named ps pp x xn c)

    abbrev N : Schema
    N = object q no_same no_lists (named no_properties no_properties no_schema no_schema dd)

    abbrev Result : Schema
    Result = object p ss ls (named (cut less k ps (Names less k ps)) pp x xn c)

    abbrev W : Value → Bool
    W v = admits r d v S && not (admits r d v N)

    values_kept : (o u : Option (List Value)) → u ≡ None → less_values p o u ≡ answer [] p
    values_kept None u e = refl
    values_kept (Some vs) u e = ap (less_values p (Some vs)) e

    assembled : (v : Value) → admits r d v Result ≡ W v
        → ((n : List ℕ) → is_name n (Names less k ps) ≡ true → is_false (at less k ps n) ≡ true → is_name n c.required ≡ true → W v ≡ true → ⊥)
        → Meets IsProper (W v) (admits r d v) (less_object d join less p ss ls (named ps pp x xn c) q no_same no_lists (named no_properties no_properties no_schema no_schema dd))
    assembled v key bad = subst (λ o. Meets IsProper (W v) (admits r d v) (and_then o (λ p'. and_then (less_named less (named ps pp x xn c) (named no_properties no_properties no_schema no_schema dd)) (λ ns'. answer [] (object p' ss ls ns')))))
        (sym (values_kept p.enum_values q.enum_values (none q.enum_values unlisted)))
        (meets-noted IsProper (W v) (admits r d v) [] (and_then (less_named less (named ps pp x xn c) (named no_properties no_properties no_schema no_schema dd)) (λ ns'. answer [] (object p ss ls ns')))
        (meets-then (λ ns'. ns' ≡ named (cut less k ps (Names less k ps)) pp x xn c) IsProper (W v) (λ ns'. W v) (admits r d v) (less_named less (named ps pp x xn c) (named no_properties no_properties no_schema no_schema dd)) (λ ns'. answer [] (object p ss ls ns'))
        (meets-mapped (λ props. props ≡ cut less k ps (Names less k ps)) (λ ns'. ns' ≡ named (cut less k ps (Names less k ps)) pp x xn c) (W v) (λ props. W v) (λ ns'. W v) (λ props. named props pp x xn c)
        (and_then (less_properties less ps no_properties dd.required (all_names (names_of ps) (all_names [] dd.required))) (unless_needed less c.required))
        (subst (λ rs. Meets (λ props. props ≡ cut less k ps (Names less k ps)) (W v) (λ props. W v) (and_then (less_properties less ps no_properties rs (all_names (names_of ps) (all_names [] rs))) (unless_needed less c.required))) (sym one)
        (subst (λ o. Meets (λ props. props ≡ cut less k ps (Names less k ps)) (W v) (λ props. W v) (and_then o (unless_needed less c.required))) (sym (cut_is less k ps (Names less k ps)))
        (meets-noted (λ props. props ≡ cut less k ps (Names less k ps)) (W v) (λ props. W v) [] (unless_needed less c.required (cut less k ps (Names less k ps))) (never_or less k ps c.required (W v) (Names less k ps) bad))))
        (λ props e. ap (λ y. named y pp x xn c) e) (λ props e. refl))
        (λ ns' e. subst (λ y. Meets IsProper (W v) (admits r d v) (answer [] (object p ss ls y))) (sym e)
        (meets-exactly IsProper (W v) (admits r d v) [] Result (proper.0, proper.1, proper.2, (proper_cut less k ps proper.3.0 (Names less k ps), proper.3.1, proper.3.2, proper.3.3)) key))))

    types_are : (v : Value) (o : Option Types) → has_type Object o ≡ true → if_given (types_agree v) o ≡ is_kind v Object
    types_are v (Some (one_type Object)) h = refl
    types_are v _ h = no_no h

    -- a value of another kind is not admitted
    other_kind : (v : Value) (ns : Named) → is_kind v Object ≡ false → admits r d v (object p ss ls ns) ≡ false
    other_kind v ns h = form r d guarded v p ss ls ns ∙ ap (λ b. (((((b && if_given (is_listed v) p.enum_values) && if_given (same v) p.const_value) && of_kind_agrees r p v) && if_given (λ q. follow (admits r d v) (target d q)) p.reference) && parts_agree r v (parts_of r d v) ls ns) && same_says (admits r d v) ss) (types_are v p.types typed ∙ h)

    other_meets : (v : Value) → is_kind v Object ≡ false → Meets IsProper (W v) (admits r d v) (less_object d join less p ss ls (named ps pp x xn c) q no_same no_lists (named no_properties no_properties no_schema no_schema dd))
    other_meets v h = assembled v (other_kind v (named (cut less k ps (Names less k ps)) pp x xn c) h ∙ sym (ap (λ b. b && not (admits r d v N)) (other_kind v (named ps pp x xn c) h))) (λ n a b e t. yes_no (admits r d v S) (other_kind v (named ps pp x xn c) h) (and-1 (admits r d v S) _ t))

    module _ (ms : Members) where
      abbrev V : Value
      V = value.object ms

      none_asked : (ms : Members) → list_all (member_agrees r (name_admits r d) no_properties no_properties no_schema no_schema dd.required) (member_parts r d ms) ≡ true
      none_asked no_members = refl
      none_asked (member j w ms) = λ i. (((or-true (counts_as_absent d.setting w && not (list_any (bytes_eq j) dd.required)) i && true) && true) && true) && none_asked ms i
        where
          or-true : (b : Bool) → (b || true) ≡ true
          or-true true = refl
          or-true false = refl

      object_types : (o : Option Types) → object_or_none o ≡ true → if_given (types_agree V) o ≡ true
      object_types None h = refl
      object_types (Some (one_type Object)) h = refl
      object_types (Some _) h = no_no h

      taken : admits r d V N ≡ has_name k ms
      taken =
          let h1 = and-2 (is_absent q.format) _ (and-2 (is_absent q.const_value) _ leaves) in
          let ref = none q.reference (and-2 (is_absent q.texts) _ (and-2 (is_absent q.numbers) _ h1)) in
          form r d guarded V q no_same no_lists (named no_properties no_properties no_schema no_schema dd)
          ∙ (λ i. (((((object_types q.types types i && if_given (is_listed V) (none q.enum_values unlisted i)) && if_given (same V) (none q.const_value (and-1 (is_absent q.const_value) _ leaves) i)) && true) && if_given (λ q. follow (admits r d V) (target d q)) (ref i))
          && (none_asked ms i && (within (none dd.min_properties (and-2 (is_absent dd.max_properties) _ sizes) i) (none dd.max_properties (and-1 (is_absent dd.max_properties) _ sizes) i) (member_count ms) && list_all (λ n. has_name n ms) (one i)))) && true)
          ∙ last (has_name k ms)
        where
          last : (b : Bool) → ((true && (true && (true && (b && true)))) && true) ≡ b
          last true = refl
          last false = refl

      key : admits r d V Result ≡ W V
      key = form r d guarded V p ss ls (named (cut less k ps (Names less k ps)) pp x xn c)
          ∙ ap (λ b. ((plain_agrees r p V && if_given (λ q. follow (admits r d V) (target d q)) p.reference) && (b && member_rules_agree ms c)) && same_says (admits r d V) ss) (members_cut r d guarded strict less k ps pp x xn c.required ms)
          ∙ turn (plain_agrees r p V && if_given (λ q. follow (admits r d V) (target d q)) p.reference) (list_all (member_agrees r (name_admits r d) ps pp x xn c.required) (member_parts r d ms)) (not (has_name k ms)) (member_rules_agree ms c) (same_says (admits r d V) ss)
          ∙ (λ i. sym (form r d guarded V p ss ls (named ps pp x xn c)) i && not (sym taken i))
        where
          turn : (a m h e s : Bool) → ((a && ((m && h) && e)) && s) ≡ (((a && (m && e)) && s) && h)
          turn false m h e s = refl
          turn true false h e s = refl
          turn true true true e s = right (e && s)
            where
              right : (b : Bool) → b ≡ (b && true)
              right true = refl
              right false = refl
          turn true true false e s = right (e && s)
            where
              right : (b : Bool) → false ≡ (b && false)
              right true = refl
              right false = refl

      bad : (n : List ℕ) → is_name n (Names less k ps) ≡ true → is_false (at less k ps n) ≡ true → is_name n c.required ≡ true → W V ≡ true → ⊥
      bad n a b e t = go (bytes_eq n k) refl (property_at n ps) refl b
        where
          f : (((plain_agrees r p V && if_given (λ q. follow (admits r d V) (target d q)) p.reference) && (list_all (member_agrees r (name_admits r d) ps pp x xn c.required) (member_parts r d ms) && member_rules_agree ms c)) && same_says (admits r d V) ss) ≡ true
          f = sym (form r d guarded V p ss ls (named ps pp x xn c)) ∙ and-1 (admits r d V S) _ t

          g : (list_all (member_agrees r (name_admits r d) ps pp x xn c.required) (member_parts r d ms) && member_rules_agree ms c) ≡ true
          g = and-2 (plain_agrees r p V && if_given (λ q. follow (admits r d V) (target d q)) p.reference) _ (and-1 ((plain_agrees r p V && if_given (λ q. follow (admits r d V) (target d q)) p.reference) && (list_all (member_agrees r (name_admits r d) ps pp x xn c.required) (member_parts r d ms) && member_rules_agree ms c)) _ f)

          has : has_name n ms ≡ true
          has = all_named (λ n. has_name n ms) c.required (and-2 (within c.min_properties c.max_properties (member_count ms)) _ (and-2 (list_all (member_agrees r (name_admits r d) ps pp x xn c.required) (member_parts r d ms)) _ g)) n e

          is_not : (b : Bool) → not b ≡ true → b ≡ true → ⊥
          is_not true f g = no_no f
          is_not false f g = no_no g

          given : (b : Bool) → bytes_eq n k ≡ b → b ≡ false → is_given (property_at n ps) ≡ true
          given b u w = sym (or-false (is_given (property_at n ps))) ∙ sym (named_names less k ps n ∙ ap (λ z. is_given (property_at n ps) || z) (u ∙ w)) ∙ a

          go : (b : Bool) → bytes_eq n k ≡ b → (m : MaybeSchema) → property_at n ps ≡ m → is_false (if b then boolean false else schema_or_false less k ps m) ≡ true → ⊥
          go true u m w z = is_not (admits r d V N) (and-2 (admits r d V S) _ t) (taken ∙ subst (λ y. has_name y ms ≡ true) ((bytes_eq-Decides n k).0 u) has)
          go false u no_schema w z = no_no (sym (ap is_given w) ∙ given false u refl)
          go false u (the_schema s) w z =
              let y = value_there r d n ms has in
              let h = sym (plainly r d guarded strict less k ps pp x xn c.required ps n y.0) ∙ member_of r d (member_agrees r (name_admits r d) ps pp x xn c.required) n y.0 ms (and-1 (list_all (member_agrees r (name_admits r d) ps pp x xn c.required) (member_parts r d ms)) _ g) y.1 in
              let i = and-1 (maybe (admits r d y.0) (property_at n ps)) _ (and-1 (maybe (admits r d y.0) (property_at n ps) && patterns_agree (λ q. r.matches q n) (admits r d y.0) pp) _ (and-1 ((maybe (admits r d y.0) (property_at n ps) && patterns_agree (λ q. r.matches q n) (admits r d y.0) pp) && ((is_given (property_at n ps) || has_any (λ q. r.matches q n) pp) || maybe (admits r d y.0) x)) _ h)) in
              no_no (sym ((unfolds r d).booleans y.0 false) ∙ (sym (ap (admits r d y.0) (is_false_sound s z)) ∙ (sym (ap (maybe (admits r d y.0)) w) ∙ i)))

      object_meets : Meets IsProper (W V) (admits r d V) (less_object d join less p ss ls (named ps pp x xn c) q no_same no_lists (named no_properties no_properties no_schema no_schema dd))
      object_meets = assembled V key bad

one_of : (rs : List (List ℕ)) → is_one_name rs ≡ true → (k : List ℕ) × (rs ≡ k ∷ [])
one_of (k ∷ []) h = (k, refl)
one_of [] h = no_no h
one_of (k ∷ l ∷ rs) h = no_no h

module _ (r : Relations) (d : Document) (guarded : IsGuarded d) (strict : d.setting ≡ Strict) (v : Value) (join less : Schema → Schema → Outcome Schema) (p : Plain) (ss : Same) (ls : Lists) (q : Plain) where
  abbrev Said : Named → Same → Lists → Named → Type 0
  Said ns tt' ms os = Meets IsProper (admits r d v (object p ss ls ns) && not (admits r d v (object q tt' ms os))) (admits r d v) (less_object d join less p ss ls ns q tt' ms os)

  by_kind : (ps pp : Properties) (x xn : MaybeSchema) (c dd : MemberRules) (k : List ℕ) → IsProper (object p ss ls (named ps pp x xn c)) → has_type Object p.types ≡ true → no_sizes dd ≡ true → dd.required ≡ k ∷ [] → object_or_none q.types ≡ true → is_absent q.enum_values ≡ true → no_leaves q ≡ true
      → (w : Value) → Meets IsProper (admits r d w (object p ss ls (named ps pp x xn c)) && not (admits r d w (object q no_same no_lists (named no_properties no_properties no_schema no_schema dd)))) (admits r d w) (less_object d join less p ss ls (named ps pp x xn c) q no_same no_lists (named no_properties no_properties no_schema no_schema dd))
  by_kind ps pp x xn c dd k a b e f g h i (value.object ms) = object_meets r d guarded strict join less p ss ls ps pp x xn c q dd k a b e f g h i ms
  by_kind ps pp x xn c dd k a b e f g h i null = other_meets r d guarded strict join less p ss ls ps pp x xn c q dd k a b e f g h i null refl
  by_kind ps pp x xn c dd k a b e f g h i (value.boolean y) = other_meets r d guarded strict join less p ss ls ps pp x xn c q dd k a b e f g h i (value.boolean y) refl
  by_kind ps pp x xn c dd k a b e f g h i (number z) = other_meets r d guarded strict join less p ss ls ps pp x xn c q dd k a b e f g h i (number z) refl
  by_kind ps pp x xn c dd k a b e f g h i fraction = other_meets r d guarded strict join less p ss ls ps pp x xn c q dd k a b e f g h i fraction refl
  by_kind ps pp x xn c dd k a b e f g h i (text s) = other_meets r d guarded strict join less p ss ls ps pp x xn c q dd k a b e f g h i (text s) refl
  by_kind ps pp x xn c dd k a b e f g h i (list xs) = other_meets r d guarded strict join less p ss ls ps pp x xn c q dd k a b e f g h i (list xs) refl

  pub one_name_meets : (ns : Named) (tt' : Same) (ms : Lists) (os : Named) → IsProper (object p ss ls ns) → one_name_alone p ns q tt' ms os ≡ true → Said ns tt' ms os
  one_name_meets no_named tt' ms os a h = no_no (and-2 (has_type Object p.types) false (and-1 (has_type Object p.types && false) (one_required os && (object_or_none q.types && (is_absent q.enum_values && (no_leaves q && (without_same tt' && without_lists ms))))) h))
  one_name_meets (named ps pp x xn c) (same_value l m n o b) ms os a h =
      no_no (and-1 false (without_lists ms) (and-2 (no_leaves q) _ (and-2 (is_absent q.enum_values) _ (and-2 (object_or_none q.types) _ (and-2 (one_required os) _ (and-2 (has_type Object p.types && true) _ h))))))
  one_name_meets (named ps pp x xn c) no_same (lists l m n o) os a h =
      no_no (and-2 (no_leaves q) _ (and-2 (is_absent q.enum_values) _ (and-2 (object_or_none q.types) _ (and-2 (one_required os) _ (and-2 (has_type Object p.types && true) _ h)))))
  one_name_meets (named ps pp x xn c) no_same no_lists (named no_properties no_properties no_schema no_schema dd) a h =
      let h1 = and-2 (has_type Object p.types && true) _ h in
      let h2 = and-1 (no_sizes dd && is_one_name dd.required) _ h1 in
      let h3 = and-2 (no_sizes dd && is_one_name dd.required) _ h1 in
      let h4 = and-2 (object_or_none q.types) _ h3 in
      let h5 = and-2 (is_absent q.enum_values) _ h4 in
      let k = one_of dd.required (and-2 (no_sizes dd) _ h2) in
      by_kind ps pp x xn c dd k.0 a (and-1 (has_type Object p.types) true (and-1 (has_type Object p.types && true) _ h)) (and-1 (no_sizes dd) _ h2) k.1 (and-1 (object_or_none q.types) _ h3) (and-1 (is_absent q.enum_values) _ h4) (and-1 (no_leaves q) _ h5) v
  one_name_meets (named ps pp x xn c) no_same no_lists os a h = no_no (and-1 false (object_or_none q.types && (is_absent q.enum_values && (no_leaves q && true))) (and-2 (has_type Object p.types && true) (false && (object_or_none q.types && (is_absent q.enum_values && (no_leaves q && true)))) h))
