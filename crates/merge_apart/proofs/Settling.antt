-- What makes each property anew keeps those that are put back, where each of them has its walk.
use Rattle.std.proofs.Common.{◌≡◌, ℕ, List, [], ◌∷◌, Bool, true, false, Option, Some, None, is_some, refl, sym, ap, ◌∙◌, bytes_eq}
use Rattle.std.specs.Prelude.{if◌then◌else◌, unwrap_or, codes}
use Rattle.schema_defs.specs.Location.{Step}
use Rattle.schema_defs.specs.Schema.{Schema, boolean, object, Named, no_named, named, Properties, no_properties, property}
use Rattle.enum_defs.specs.Words.{names_of}
use Rattle.enum_defs.proofs.Tests.{and_left, and_right, impossible}
use Rattle.merge_defs.specs.Merge.{tidied, tidied_values}
use Rattle.merge_defs.specs.Objects.{is_below, put_names}
use Rattle.merge_walks.specs.Carried.{Walk, root_walk, made_on, to_child, own_walk, carried, maybe_inside, names_inside, same_inside, lists_inside, named_inside, opened}
use Rattle.merge_walks.specs.Made.{longest_or, walks_of_same, if_walked, settled, settled_same, settled_named, settled_properties}
use Rattle.merge_apart.specs.Aside.{Aside, put_at, put_all, with_members, with_aside, is_settled, are_settled}

-- ---- each property, made anew

under_if : (f : Properties → Properties) (b : Bool) (x y u v : Properties) → f x ≡ u → f y ≡ v → f (if b then x else y) ≡ (if b then u else v)
under_if f true x y u v h k = h
under_if f false x y u v h k = k

module _ (f : Properties → Properties) (g : List ℕ → Schema → Schema) (none : f no_properties ≡ no_properties) (one : (n : List ℕ) (s : Schema) (ps : Properties) → f (property n s ps) ≡ property n (g n s) (f ps)) where
  each_at : (n : List ℕ) (s : Schema) (ps : Properties) → g n s ≡ s → f (put_at n s ps) ≡ put_at n s (f ps)
  each_at n s no_properties h = one n s no_properties ∙ (λ i. property n (h i) (none i)) ∙ ap (put_at n s) (sym none)
  each_at n s (property m t ps) h =
      under_if f (bytes_eq n m) (property m t ps) (if is_below n m then property n s (property m t ps) else property m t (put_at n s ps))
      (property m (g m t) (f ps)) (if is_below n m then property n s (property m (g m t) (f ps)) else property m (g m t) (put_at n s (f ps))) (one m t ps)
      (under_if f (is_below n m) (property n s (property m t ps)) (property m t (put_at n s ps)) (property n s (property m (g m t) (f ps))) (property m (g m t) (put_at n s (f ps)))
      (one n s (property m t ps) ∙ (λ i. property n (h i) (one m t ps i))) (one m t (put_at n s ps) ∙ ap (property m (g m t)) (each_at n s ps h)))
      ∙ ap (put_at n s) (sym (one m t ps))

  each_all : ((n : List ℕ) (s : Schema) → is_settled s ≡ true → g n s ≡ s) → (qs ps : Properties) → are_settled qs ≡ true → f (put_all qs ps) ≡ put_all qs (f ps)
  each_all stays no_properties ps h = refl
  each_all stays (property n s qs) ps h =
      each_at n s (put_all qs ps) (stays n s (and_left (is_settled s) (are_settled qs) h)) ∙ ap (put_at n s) (each_all stays qs ps (and_right (is_settled s) (are_settled qs) h))

  each_named : (ps : Properties) → names_of (f ps) ≡ names_of ps
  each_named no_properties = ap names_of none
  each_named (property n s ps) = ap names_of (one n s ps) ∙ ap (λ ns. n ∷ ns) (each_named ps)

-- ---- on its walk

carried_stays : (w : Walk) (s : Schema) → is_settled s ≡ true → carried w s ≡ s
carried_stays w (boolean b) h = refl
carried_stays w (object p ss ls ns) h = by p.walk h
  where
    by : (o : Option Walk) → is_some o ≡ true → object (record p { walk = Some (unwrap_or o w) }) ss ls ns ≡ object (record p { walk = o }) ss ls ns
    by None h = impossible h
    by (Some v) h = refl

inside_all : (w : Walk) (k : Step) (qs ps : Properties) → are_settled qs ≡ true → names_inside w k (put_all qs ps) ≡ put_all qs (names_inside w k ps)
inside_all w k qs ps h = each_all (names_inside w k) (λ n s. carried (to_child w (k ∷ n ∷ [])) s) refl (λ n s ps. refl) (λ n s. carried_stays (to_child w (k ∷ n ∷ [])) s) qs ps h

pub inside_named : (w : Walk) (k : Step) (ps : Properties) → names_of (names_inside w k ps) ≡ names_of ps
inside_named w k ps = each_named (names_inside w k) (λ n s. carried (to_child w (k ∷ n ∷ [])) s) refl (λ n s ps. refl) ps

members_inside : (a : Aside) (w : Walk) (ns : Named) → are_settled a.properties ≡ true → named_inside w (with_members a ns) ≡ with_members a (named_inside w ns)
members_inside a w no_named h = refl
members_inside a w (named ps pp x xn c) h =
    ap (λ qs. named qs (names_inside w (codes "patternProperties") pp) (maybe_inside w (codes "additionalProperties") x) (maybe_inside w (codes "propertyNames") xn) (record c { required = put_names a.required c.required })) (inside_all w (codes "properties") a.properties ps h)

pub opened_aside : (a : Aside) (s : Schema) → are_settled a.properties ≡ true → opened (with_aside a s) ≡ with_aside a (opened s)
opened_aside a (boolean b) h = refl
opened_aside a (object p ss ls ns) h = ap (object (record p { walk = Some (unwrap_or p.walk root_walk) }) (same_inside (own_walk p) ss) (lists_inside (own_walk p) ls)) (members_inside a (own_walk p) ns h)

-- ---- settled

pub settled_stays : (w : Walk) (s : Schema) → is_settled s ≡ true → settled w s ≡ s
settled_stays w (boolean b) h = refl
settled_stays w (object p ss ls ns) h = by p.walk h
  where
    by : (o : Option Walk) → is_some o ≡ true → if_walked o (object p ss ls ns) (settled w (object (record p { walk = None }) ss ls ns)) ≡ object p ss ls ns
    by None h = impossible h
    by (Some v) h = refl

settled_all_of : (w : Walk) (qs ps : Properties) → are_settled qs ≡ true → settled_properties w (put_all qs ps) ≡ put_all qs (settled_properties w ps)
settled_all_of w qs ps h = each_all (settled_properties w) (λ n s. settled w s) refl (λ n s ps. refl) (λ n s. settled_stays w s) qs ps h

pub settled_names : (w : Walk) (ps : Properties) → names_of (settled_properties w ps) ≡ names_of ps
settled_names w ps = each_named (settled_properties w) (λ n s. settled w s) refl (λ n s ps. refl) ps

members_settled : (a : Aside) (w : Walk) (ns : Named) → are_settled a.properties ≡ true → settled_named w (with_members a ns) ≡ with_members a (settled_named w ns)
members_settled a w no_named h = refl
members_settled a w (named ps pp x xn c) h = ap (λ qs. named qs pp x xn (record c { required = put_names a.required c.required })) (settled_all_of w a.properties ps h)

pub settled_aside : (a : Aside) (w : Walk) (s : Schema) → are_settled a.properties ≡ true → settled w (tidied (with_aside a s)) ≡ with_aside a (settled w (tidied s))
settled_aside a w (boolean b) h = refl
settled_aside a w (object p ss ls ns) h = by p.walk
  where
    by : (o : Option Walk) → settled w (tidied (object (record p { walk = o }) ss ls (with_members a ns))) ≡ with_aside a (settled w (tidied (object (record p { walk = o }) ss ls ns)))
    by (Some v) = refl
    by None =
        ap (object (record p { walk = Some (made_on (longest_or w (walks_of_same (settled_same w ss)))); enum_values = tidied_values (record p { walk = None }) p.enum_values }) (settled_same w ss) ls) (members_settled a w ns h)
